-- `restoring::stream_records::restore_streams` meets its contract: the first i records are done. Assumes nothing.
use mathlib.Core.Path.{refl}
use Rattle.restoring.proofs.Loops.{streams_start, streams_next}
use Rattle.restoring.proofs.stream_records.restore_streams.Goals as goal

pub loop-i-init : goal.loop-i-init
loop-i-init c = streams_start _ _

pub loop-i-preserved : goal.loop-i-preserved
loop-i-preserved c = streams_next _ _ _ _ _ _ c.loop-i.invariant refl c.restore_stream.ensures
