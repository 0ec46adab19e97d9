-- `restoring::stream_records::restore_streams` meets its contract: the first i records are done. Assumes nothing.
use mathlib.Core.Path.{◌≡◌}
use Rattle.restoring.specs.Streams.{streams_restored}
use Rattle.restoring.proofs.stream_records.restore_streams.Given as goal

abbrev pub invariant-loop-i : goal.invariant-loop-i
invariant-loop-i l = l.queue ≡ streams_restored l.initial.queue l.image l.i
