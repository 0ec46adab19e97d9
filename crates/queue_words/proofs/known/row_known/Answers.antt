-- `queue_words::known::row_known` meets its contract: the search ends at a stream that is known (proofs/Finds.antt). Assumes nothing.
use Rattle.queue_words.proofs.Finds.{known_few, known_among, known_row}
use Rattle.queue_words.proofs.known.row_known.Goals as goal

-- `queue_words::known::row_known` meets its contract: the search ends at a stream that is known (proofs/Finds.antt). Assumes nothing.
pub probe_all-p-requires : goal.probe_all-p-requires
probe_all-p-requires c = known_few _ _ c.requires _ c.load_totals-t.ensures

pub load_known-k-requires : goal.load_known-k-requires
load_known-k-requires c = known_among _ _ c.requires _ c.load_totals-t.ensures _ c.probe_all-p.ensures

pub returns : goal.returns
returns c = known_row _ _ c.requires _ c.load_totals-t.ensures _ c.probe_all-p.ensures _ c.load_known-k.ensures
