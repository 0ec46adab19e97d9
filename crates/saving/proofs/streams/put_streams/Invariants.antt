-- `saving::streams::put_streams` meets its contract: the rest written from here on is the whole written from the start on. Assumes nothing.
use Prim.Native.Nat.{◌-◌}
use Rattle.saving.specs.Bytes.{streams_from}
use Rattle.saving.proofs.Rests.{Rest}
use Rattle.saving.proofs.streams.put_streams.Given as goal

abbrev pub invariant-loop-i : goal.invariant-loop-i
invariant-loop-i l = Rest l.initial.buffer l.at (streams_from l.queue 0 l.known) l.buffer l.pos (streams_from l.queue l.i (l.known - l.i))
