-- The tally is `fits_to` of the first i rows.
use Rattle.std.proofs.Common.{◌≡◌}
use Rattle.payload_store.specs.Putting.{fits_to}
use Rattle.payload_store.proofs.all_fit.Given as goal

abbrev pub invariant-loop-i : goal.invariant-loop-i
invariant-loop-i l = l.t ≡ fits_to l.queue l.len l.used l.i
