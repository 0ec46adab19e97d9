use Rattle.stream_scheduler.specs.Words.{current_row}
use Rattle.stream_scheduler.proofs.current_row.Goals as goal

-- `stream_scheduler::current_row` meets its contract: each return is what its definition says, by what the calls ensure and the tests taken. Assumes nothing.
pub returns-in-None : goal.returns-in-None
unfolding current_row
returns-in-None c =
    rw
    (
    c.in-None.is
    )

pub returns-in-Some : goal.returns-in-Some
unfolding current_row
returns-in-Some c =
    rw (
      c.in-Some.is,
      ← c.seek.ensures,
    )
