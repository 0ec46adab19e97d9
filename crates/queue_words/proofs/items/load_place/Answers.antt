-- `queue_words::items::load_place` meets its contract. Assumes nothing.
use Rattle.queue_words.specs.Items.{item_at}
use Rattle.queue_words.proofs.items.load_place.Goals as goal

-- `queue_words::items::load_place` meets its contract. Assumes nothing.
pub returns : goal.returns
unfolding item_at
returns c = c.load_word.ensures
