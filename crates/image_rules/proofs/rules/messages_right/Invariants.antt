-- `image_rules::rules::messages_right` meets its contract: what is asked is whether the records from the i-th on keep the rules in what is left. Assumes
-- nothing.
use mathlib.Core.Path.{◌≡◌}
use Prim.Native.Nat.{◌+◌, ◌≤◌, ◌-◌}
use lib.ListN.{length}
use Rattle.image_rules.specs.Messages.{messages_kept}
use Rattle.image_rules.proofs.rules.messages_right.Given as goal

abbrev pub invariant-loop-i : goal.invariant-loop-i
invariant-loop-i l =
    (l.at + l.left ≤ length l.image) × (messages_kept l.strict l.image l.start l.size 0 l.n ≡ messages_kept l.strict l.image l.at l.left l.least (l.n - l.i))
