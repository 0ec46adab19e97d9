-- `saving::messages::put_item` meets its contract: the record, then the payload behind it. Assumes nothing.
use Rattle.saving.proofs.Loops.{item_wrote}
use Rattle.saving.proofs.messages.put_item.Goals as goal

pub returns : goal.returns
returns c = item_wrote c.args.queue.now c.args.store.now c.args.buffer.now _ _ c.args.at c.args.id c.args.time c.args.x _ _ c.load_item-m.ensures c.requires.1 c.requires.2 c.message_record-r.ensures c.put_message.ensures c.put_part.ensures
