-- `queue_words::known::probe_all` meets its contract. Invariant: the steps left lead where all of them do. Assumes nothing.
use mathlib.Core.Path.{◌≡◌}
use Prim.Native.Nat.{◌+◌, ◌≤◌}
use Rattle.queue_words.specs.Find.{all, probes}
use Rattle.queue_words.proofs.known.probe_all.Given as goal

-- `queue_words::known::probe_all` meets its contract. Invariant: the steps left lead where all of them do. Assumes nothing.
abbrev pub invariant-loop-p : goal.invariant-loop-p
invariant-loop-p l = (l.p.low + l.p.size ≤ l.known) × (probes l.queue l.id l.p.size l.p ≡ probes l.queue l.id l.known (all l.known))

abbrev pub decreases-loop-p : goal.decreases-loop-p
decreases-loop-p l = l.p.size
