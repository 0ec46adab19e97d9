-- `trace_text::given::put_digits` is safe and ends: the payload keeps its length. Assumes nothing.
use mathlib.Core.Path.{◌≡◌}
use lib.ListN.{length}
use Rattle.trace_text.proofs.given.put_digits.Given as goal

abbrev pub invariant-loop-i : goal.invariant-loop-i
invariant-loop-i l = length l.payload ≡ length l.initial.payload
