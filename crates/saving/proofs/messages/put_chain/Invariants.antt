-- `saving::messages::put_chain` meets its contract: the rest written from here on is the whole written from the start on. Assumes nothing.
use Prim.Native.Nat.{◌-◌}
use Rattle.saving.proofs.Loops.{along, Going}
use Rattle.saving.proofs.messages.put_chain.Given as goal

abbrev pub invariant-loop-i : goal.invariant-loop-i
invariant-loop-i l = Going l.queue l.store l.time l.id l.initial.buffer l.at (along l.queue l.store l.time l.id l.first 1025) l.buffer l.place l.pos (1025 - l.i)
