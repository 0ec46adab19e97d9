-- `saving::messages::put_part` meets its contract: a copy into the middle. Assumes nothing.
use mathlib.Core.Path.{refl}
use Rattle.saving.proofs.Lengths.{part_between}
use Rattle.saving.proofs.messages.put_part.Goals as goal

pub returns : goal.returns
returns c = part_between c.args.buffer.now c.args.store.now _ _ c.args.at c.args.from c.args.n c.requires.0 c.requires.1 refl c.copy_from_slice.ensures.after
