-- `queue_streams::restart::same_choice` meets its contract: each return is a case of `alike`. Assumes nothing.
use Rattle.queue_streams.proofs.Restarts.{alike_on, alike_off}
use Rattle.queue_streams.proofs.restart.same_choice.Goals as goal

-- `queue_streams::restart::same_choice` meets its contract: each return is a case of `alike`. Assumes nothing.
pub returns-then-a : goal.returns-then-a
returns-then-a c = alike_on _ _ c.if-a.true

pub returns : goal.returns
returns c = alike_off _ _ c.if-a.false
