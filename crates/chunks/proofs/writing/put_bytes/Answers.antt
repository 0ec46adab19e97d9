-- `chunks::writing::put_bytes` meets its contract: each return is what its definition says, by what the calls ensure and the tests taken. Assumes nothing.
use mathlib.Core.Path.{refl}
use Rattle.payload_store.proofs.Parts.{part_in}
use Rattle.big_endian.specs.Numbers.{wrote}
use Rattle.chunks.proofs.writing.put_bytes.Goals as goal

pub returns : goal.returns
unfolding wrote
returns c = part_in c.args.output.now c.args.src.now _ c.args.at _ refl c.requires c.copy.ensures
