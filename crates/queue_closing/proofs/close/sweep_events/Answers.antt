use Rattle.queue_closing.specs.Sweep.{sweep_notes, swept_total, swept_stream}
use Rattle.message_chains.specs.Heads.{total_notes}
use Rattle.queue_closing.proofs.close.sweep_events.Goals as goal

-- `queue_closing::close::sweep_events` meets its contract: each return is what its definition says, by what the calls ensure and the tests taken. Assumes nothing.
pub returns : goal.returns
unfolding sweep_notes swept_total swept_stream total_notes
returns c =
    rw (
      ← c.load_options-o.ensures,
      ← c.load_totals-t.ensures,
      ← c.minus-amount.ensures,
      ← c.low_event-k1.ensures,
      ← c.minus-total.ensures,
      ← c.low_event-k2.ensures,
      ← c.lifecycle_events.ensures,
    )
