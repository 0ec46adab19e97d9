use Rattle.message_chains.specs.Dropping.{end_pending_words}
use Rattle.message_chains.proofs.dropping.end_pending.Goals as goal

-- `message_chains::dropping::end_pending` meets its contract: each return is what its definition says, by what the calls ensure and the tests taken.
-- Assumes nothing.
pub returns-in-NotPaused : goal.returns-in-NotPaused
unfolding end_pending_words
returns-in-NotPaused c =
    rw
    (
    c.in-NotPaused.is
    )

pub returns-in-Pending : goal.returns-in-Pending
unfolding end_pending_words
returns-in-Pending c =
    rw
    (
    c.in-Pending.is
    )

pub returns-in-Paused : goal.returns-in-Paused
unfolding end_pending_words
returns-in-Paused c =
    rw
    (
    c.in-Paused.is
    )

pub returns-in-Resetting : goal.returns-in-Resetting
unfolding end_pending_words
returns-in-Resetting c =
    rw
    (
    c.in-Resetting.is
    )
