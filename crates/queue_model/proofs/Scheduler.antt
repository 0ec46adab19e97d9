-- The scheduler's functions by cases, as equations. Assumes nothing.
use mathlib.Core.Path.{◌≡◌, refl}
use mathlib.Core.Bool.{Bool}
use mathlib.Core.List.{List, [], ◌∷◌}
use Prim.Native.Nat.{ℕ, zero, suc, ◌<◌}
use native.Mathlib.Omega.{arith}
use Rattle.std.specs.Prelude.{if◌then◌else◌}
use Rattle.queue_model.specs.Types.{Stream, Weight, Scheduler}
use Rattle.queue_model.specs.Scheduler.{scheduled, find_active, put_active, remove_stream, start_of, set_bytes_remaining}
use Rattle.queue_model.specs.Streams.{weight_of, head_size, reschedule, reschedule_each}

pub set_none : (k : ℕ) (w : Weight) (sc : Scheduler) → set_bytes_remaining k 0 w sc ≡ remove_stream k sc
unfolding set_bytes_remaining
set_none k w sc = refl

pub set_some : (k n : ℕ) (w : Weight) (sc : Scheduler) → 0 < n → set_bytes_remaining k n w sc ≡
    record {
      payload_limit = sc.payload_limit;
      current = sc.current;
      system_time = sc.system_time;
      active = put_active (scheduled sc.payload_limit k w (start_of sc.system_time (find_active k sc.active)) n) sc.active;
    }
set_some k zero w sc h = absurd (omega arith)
set_some k (suc n) w sc h = unfold set_bytes_remaining in refl

pub reschedule_of : (il : Bool) (s : Stream) (sc : Scheduler) → reschedule il s sc ≡ set_bytes_remaining s.id (head_size s.items) (weight_of il s) sc
unfolding reschedule
reschedule_of il s sc = refl

pub each_nil : (il : Bool) (test : Stream → Bool) (sc : Scheduler) → reschedule_each il test [] sc ≡ sc
unfolding reschedule_each
each_nil il test sc = refl

pub each_cons : (il : Bool) (test : Stream → Bool) (s : Stream) (ss : List Stream) (sc : Scheduler) → reschedule_each il test (s ∷ ss) sc ≡ reschedule_each il test ss (if test s then reschedule il s sc else sc)
unfolding reschedule_each
each_cons il test s ss sc = refl
