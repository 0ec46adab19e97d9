-- One call on the words of a queue does not show 16, and a new or restored queue has such words. Assumes nothing.
use mathlib.Core.Path.{◌≡◌}
use mathlib.Core.Bool.{Bool, true, false}
use mathlib.Core.List.{[], ◌∷◌}
use Prim.Native.Nat.{ℕ}
use native.Mathlib.Omega.{arith}
use Rattle.queue_runs.specs.Calls.{Call, Typed, restore}
use Rattle.queue_runs.specs.Run.{State, run}
use Rattle.queue_runs.specs.Creation.{Arguments}
use Rattle.queue_runs.specs.Meaning.{GoodState}
use Rattle.queue_runs.proofs.Steps.{step_link}
use Rattle.queue_runs.proofs.Sixteen.{good_no_sixteen}
use Rattle.queue_runs.proofs.News.{new_link}
use Rattle.queue_runs.proofs.Demand3.{stands}
use Rattle.reset_runs.specs.Request9.{Starts, new, restored_from}
use Rattle.no_sixteen.specs.Shows.{call_shows}

pub good_call : (c : Call) (s : State) → GoodState s → Typed c → call_shows c s ≡ false
unfolding run
good_call c s g t = (good_no_sixteen (c ∷ []) s g (t, tt)).0

pub good_start : (a : Arguments) (s : State) → Starts a s → GoodState s
good_start a _ (new {s} c) = (new_link a s c).good
good_start a _ (restored_from {len} {s} {time} {image} r h) = (step_link (restore time image) s (stands a len s r).good h.typed).good

pub never : {b : Bool} → b ≡ true → b ≡ false → ⊥
never e f = let z : ◌≡◌ {A = ℕ} 0 1 = cc in omega arith
