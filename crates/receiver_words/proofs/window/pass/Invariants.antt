-- `receiver_words::window::pass` meets its contract: what is left to pass from here is what was to pass. Assumes nothing.
use mathlib.Core.Path.{◌≡◌}
use Prim.Native.Nat.{◌-◌}
use Rattle.receiver_words.specs.Window.{pass_from, pass_all}
use Rattle.receiver_words.proofs.window.pass.Given as goal

abbrev pub invariant-loop : goal.invariant-loop
invariant-loop l = pass_from (1024 - l.counter) l.receiver l.t ≡ pass_all l.initial.receiver l.last
