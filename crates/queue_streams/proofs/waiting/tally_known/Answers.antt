-- `queue_streams::waiting::tally_known` meets its contract: each return is a case of `tally_known` (proofs/Waits.antt). Assumes nothing.
use Rattle.queue_streams.proofs.Waits.{known_outside, known_counted}
use Rattle.queue_streams.proofs.waiting.tally_known.Goals as goal

-- `queue_streams::waiting::tally_known` meets its contract: each return is a case of `tally_known` (proofs/Waits.antt). Assumes nothing.
pub returns-then-k-gt-LAST_STREAM : goal.returns-then-k-gt-LAST_STREAM
returns-then-k-gt-LAST_STREAM c = known_outside _ _ _ _ c.if-k-gt-LAST_STREAM.true

pub returns : goal.returns
returns c = known_counted _ _ _ _ _ _ c.if-k-gt-LAST_STREAM.false c.load_stream-s.ensures c.tally_stream.ensures
