-- `queue_words::items::store_item` meets its contract: it is what `item_in` does, under the name that laws speak of. Assumes nothing.
use Rattle.queue_words.specs.Items.{put_item}
use Rattle.queue_words.proofs.items.store_item.Goals as goal

-- `queue_words::items::store_item` meets its contract: it is what `item_in` does, under the name that laws speak of. Assumes nothing.
pub returns : goal.returns
unfolding put_item
returns c = c.item_in.ensures
