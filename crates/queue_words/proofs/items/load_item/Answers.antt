-- `queue_words::items::load_item` meets its contract: it is what `item_out` does, under the name that laws speak of. Assumes nothing.
use Rattle.queue_words.specs.Items.{item_at}
use Rattle.queue_words.proofs.items.load_item.Goals as goal

-- `queue_words::items::load_item` meets its contract: it is what `item_out` does, under the name that laws speak of. Assumes nothing.
pub returns : goal.returns
unfolding item_at
returns c = c.item_out.ensures
