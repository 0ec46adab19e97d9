-- `queue_words::items::store_next` meets its contract. Assumes nothing.
use Rattle.queue_words.specs.Items.{put_next}
use Rattle.queue_words.proofs.items.store_next.Goals as goal

-- `queue_words::items::store_next` meets its contract. Assumes nothing.
pub returns : goal.returns
unfolding put_next
returns c = c.store_word.ensures
