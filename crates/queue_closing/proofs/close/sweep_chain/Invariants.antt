-- `queue_closing::close::sweep_chain` meets its contract: what the dropping leaves from the start on is what it leaves from here on, and
-- the messages from here on may go. Assumes nothing.
use mathlib.Core.Path.{◌≡◌}
use Prim.Native.Nat.{◌-◌}
use Rattle.queue_closing.specs.Sweep.{swept, sweep, Goes}
use Rattle.queue_closing.proofs.close.sweep_chain.Given as goal

abbrev pub invariant-loop-step : goal.invariant-loop-step
invariant-loop-step l =
    (sweep l.id l.threshold (swept l.initial.w l.initial.queue l.initial.events) 1024 ≡ sweep l.id l.threshold (swept l.w l.queue l.events) (1024 - l._step))
    × Goes l.queue l.w.place (1024 - l._step)
