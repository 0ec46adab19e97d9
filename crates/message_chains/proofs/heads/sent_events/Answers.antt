use Rattle.message_chains.specs.Heads.{sent_notes, stream_notes, total_notes}
use Rattle.message_chains.proofs.heads.sent_events.Goals as goal

-- `message_chains::heads::sent_events` meets its contract: each return is what its definition says, by what the calls ensure and the tests taken.
-- Assumes nothing.
pub returns : goal.returns
unfolding sent_notes stream_notes total_notes
returns c =
    rw (
      ← c.load_options-o.ensures,
      ← c.load_totals-t.ensures,
      ← c.minus-total.ensures,
      ← c.low_event-k1.ensures,
      ← c.minus-amount.ensures,
      ← c.low_event.ensures,
    )
