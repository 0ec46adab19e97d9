-- `queue_closing::close::walk_chain` meets its contract: what the test finds from the start on is what it finds from here on. Assumes nothing.
use mathlib.Core.Path.{◌≡◌}
use Prim.Native.Nat.{◌-◌}
use Rattle.queue_closing.specs.Walk.{walk}
use Rattle.queue_closing.proofs.close.walk_chain.Given as goal

-- `queue_closing::close::walk_chain` meets its contract: what the test finds from the start on is what it finds from here on. Assumes nothing.
abbrev pub invariant-loop-step : goal.invariant-loop-step
invariant-loop-step l = walk l.queue l.initial.w 1024 ≡ walk l.queue l.w (1024 - l._step)
