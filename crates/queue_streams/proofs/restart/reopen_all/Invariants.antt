-- `queue_streams::restart::reopen_all` meets its contract: the first i streams are done. Assumes nothing.
use mathlib.Core.Path.{◌≡◌}
use Rattle.queue_streams.specs.Restart.{reopened_all}
use Rattle.queue_streams.proofs.restart.reopen_all.Given as goal

-- `queue_streams::restart::reopen_all` meets its contract: the first i streams are done. Assumes nothing.
abbrev pub invariant-loop-i : goal.invariant-loop-i
invariant-loop-i l = l.queue ≡ reopened_all l.zeroed l.interleaving l.initial.queue l.i
