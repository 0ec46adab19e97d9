-- `queue_words::items::store_length` meets its contract. Assumes nothing.
use Rattle.queue_words.specs.Items.{put_length}
use Rattle.queue_words.proofs.items.store_length.Goals as goal

-- `queue_words::items::store_length` meets its contract. Assumes nothing.
pub returns : goal.returns
unfolding put_length
returns c = c.store_word.ensures
