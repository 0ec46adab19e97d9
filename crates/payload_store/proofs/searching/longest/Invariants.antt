-- The runs are those of the first k pieces.
use Rattle.std.proofs.Common.{◌≡◌}
use Rattle.payload_store.specs.Searching.{run_to}
use Rattle.payload_store.proofs.searching.longest.Given as goal

abbrev pub invariant-loop-k : goal.invariant-loop-k
invariant-loop-k l = l.r ≡ run_to l.reach l.k
