-- What is sought is the first stale group from g on.
use Rattle.std.proofs.Common.{◌≡◌, ◌-◌}
use Rattle.active_table.specs.Groups.{groups_of, stale_from}
use Rattle.active_table.proofs.groups.stale_group.Given as goal

abbrev pub invariant-loop-g : goal.invariant-loop-g
invariant-loop-g l = stale_from l.queue l.n 0 (groups_of l.n) ≡ stale_from l.queue l.n l.g (groups_of l.n - l.g)
