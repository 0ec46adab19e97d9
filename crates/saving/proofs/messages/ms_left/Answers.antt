-- `saving::messages::ms_left` meets its contract: each arm is a case of `ms_left`. Assumes nothing.
use Rattle.saving.specs.Records.{ms_left}
use Rattle.saving.proofs.messages.ms_left.Goals as goal

pub returns-in-None : goal.returns-in-None
unfolding ms_left
returns-in-None c = rw c.in-None.is

pub returns-in-Some : goal.returns-in-Some
unfolding ms_left
returns-in-Some c = rw (c.in-Some.is, ← c.left_at.ensures)
