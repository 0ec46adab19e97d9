-- `queue_words::items::load_next` meets its contract. Assumes nothing.
use Rattle.queue_words.specs.Items.{item_at}
use Rattle.queue_words.proofs.items.load_next.Goals as goal

-- `queue_words::items::load_next` meets its contract. Assumes nothing.
pub returns : goal.returns
unfolding item_at
returns c = c.load_word.ensures
