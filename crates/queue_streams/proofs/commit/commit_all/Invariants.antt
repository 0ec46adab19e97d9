-- `queue_streams::commit::commit_all` meets its contract: the first i streams are done. Assumes nothing.
use mathlib.Core.Path.{◌≡◌}
use Rattle.queue_streams.specs.Commit.{committed_all}
use Rattle.queue_streams.proofs.commit.commit_all.Given as goal

-- `queue_streams::commit::commit_all` meets its contract: the first i streams are done. Assumes nothing.
abbrev pub invariant-loop-i : goal.invariant-loop-i
invariant-loop-i l = l.queue ≡ committed_all l.initial.queue l.i
