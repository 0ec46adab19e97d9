-- `saving::messages::put_messages` meets its contract: the rest written from here on is the whole written from the start on. Assumes nothing.
use Prim.Native.Nat.{◌-◌}
use Rattle.saving.specs.Bytes.{messages_from}
use Rattle.saving.proofs.Rests.{Rest}
use Rattle.saving.proofs.messages.put_messages.Given as goal

abbrev pub invariant-loop-i : goal.invariant-loop-i
invariant-loop-i l = Rest l.initial.buffer l.at (messages_from l.queue l.store l.time 0 l.known) l.buffer l.pos (messages_from l.queue l.store l.time l.i (l.known - l.i))
