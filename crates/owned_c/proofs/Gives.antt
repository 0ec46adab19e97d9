-- What a call gives that is never refused, from what the owned call ensures. Assumes nothing.
use Prim.Native.Nat.{ℕ}
use mathlib.Core.Path.{◌≡◌, refl}
use mathlib.Core.List.{List}
use Rattle.queue_restarts.specs.Ready.{Readied, readied}
use Rattle.owned_restarts.specs.Ready.{ready_as}
use Rattle.owned_restarts.specs.declared.ReadyIds.{ReadyIds}
use Rattle.host_numbers.specs.Numbers.{with_first}
use Rattle.owned_c.specs.Given.{GivesReady}

pub gives_ready : (d : Readied) (a : ReadyIds) (ids : List ℕ) (r : ℕ) (ws' ids' : List ℕ) → readied (ready_as a) ws' ≡ d → r ≡ a.count → ids' ≡ with_first ids a.count a.ids → GivesReady d ids r ws' ids'
gives_ready d a ids r ws' ids' e n t = rw (← e) (record { accepted = refl; count = n; queue = refl; ready = t })
