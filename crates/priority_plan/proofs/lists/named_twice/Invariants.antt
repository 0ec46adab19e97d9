-- `priority_plan::lists::named_twice` meets its contract: what is asked is whether an id from place i on is named again. Assumes nothing.
use mathlib.Core.Path.{◌≡◌}
use lib.ListN.{drop}
use Rattle.priority_plan.specs.Lists.{named_twice}
use Rattle.priority_plan.proofs.lists.named_twice.Given as goal

-- `priority_plan::lists::named_twice` meets its contract: what is asked is whether an id from place i on is named again. Assumes nothing.
abbrev pub invariant-loop-i : goal.invariant-loop-i
invariant-loop-i l = named_twice l.ids ≡ named_twice (drop l.i l.ids)
