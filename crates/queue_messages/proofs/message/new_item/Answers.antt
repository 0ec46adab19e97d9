use Rattle.queue_messages.specs.Message.{new_item_words}
use Rattle.queue_messages.proofs.message.new_item.Goals as goal

-- `queue_messages::message::new_item` meets its contract: each return is what its definition says, by what the calls ensure and the tests taken. Assumes
-- nothing.
pub returns : goal.returns
unfolding new_item_words
returns c =
    rw (
      ← c.expiry-expires_at.ensures,
      ← c.retransmissions-max_retransmissions.ensures,
    )
