-- `reset_wire::writing::write_ids` meets its contract: the first i ids stand behind the head (proofs/Puts.antt). Assumes nothing.
use mathlib.Core.Path.{◌≡◌}
use lib.ListN.{length, take}
use Rattle.big_endian.specs.Numbers.{wrote}
use Rattle.reset_model.specs.Wire.{id_bytes}
use Rattle.reset_wire.proofs.writing.write_ids.Given as goal

abbrev pub invariant-loop-i : goal.invariant-loop-i
invariant-loop-i l = (length l.output ≡ length l.initial.output) × (l.output ≡ wrote l.initial.output 20 (id_bytes (take l.i l.ids)))
