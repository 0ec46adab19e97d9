-- `restoring::stream_records::empty_queue` meets its contract: each return is what its definition says, by what the calls ensure and the tests taken.
-- Assumes nothing.
use Rattle.restoring.specs.Streams.{emptied}
use Rattle.restoring.proofs.stream_records.empty_queue.Goals as goal

pub returns : goal.returns
unfolding emptied
returns c =
    rw (
      ← c.load_totals-t.ensures,
      ← c.store_totals.ensures,
      ← c.store_scheduler_state.ensures,
      ← c.free_all.ensures,
    )
