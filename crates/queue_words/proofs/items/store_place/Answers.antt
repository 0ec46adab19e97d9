-- `queue_words::items::store_place` meets its contract. Assumes nothing.
use Rattle.queue_words.specs.Items.{put_place}
use Rattle.queue_words.proofs.items.store_place.Goals as goal

-- `queue_words::items::store_place` meets its contract. Assumes nothing.
pub returns : goal.returns
unfolding put_place
returns c = c.store_word.ensures
