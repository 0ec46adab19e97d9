-- `queue_sending::data::shown_lifecycle` meets its contract: each return is what its definition says, by what the calls ensure and the tests taken.
-- Assumes nothing.
use Rattle.queue_sending.specs.Data.{shown_lifecycle}
use Rattle.queue_sending.proofs.data.shown_lifecycle.Goals as goal

pub returns-then-is_end : goal.returns-then-is_end
unfolding shown_lifecycle
returns-then-is_end c =
    rw
    (
    c.if-is_end.true
    )

pub returns : goal.returns
unfolding shown_lifecycle
returns c =
    rw
    (
    c.if-is_end.false
    )
