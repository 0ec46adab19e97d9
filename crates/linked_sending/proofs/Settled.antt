-- The next fragment leaves nothing undone, on any words (specs/Settled): a row that is chosen is one of the table's, and the table has no more rows than
-- it may have. Assumes nothing.
use mathlib.Core.Path.{sym}
use borrow.Author.Tests.{le-ltb, lt-leb}
use Rattle.queue_words.specs.Header.{scheduler_at}
use Rattle.stream_scheduler.specs.Words.{accept_at}
use Rattle.stream_scheduler.specs.Anew.{accept_last_words}
use Rattle.queue_sending.proofs.Ahead.{chosen_row}
use Rattle.linked_sending.specs.Settled.{FragmentSettled}

-- The scheduler takes it.
pub fragment_settled : FragmentSettled
unfolding accept_at accept_last_words
fragment_settled ws time at id row e =
    let h = chosen_row ws time at id row (sym e) in
    record {
      part = λ n. rw (le-ltb 256 (scheduler_at ws).active h.0, lt-leb (scheduler_at ws).active at h.1);
      last = λ i n bytes p. rw (le-ltb 256 (scheduler_at ws).active h.0, lt-leb (scheduler_at ws).active at h.1);
    }
