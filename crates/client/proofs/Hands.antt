-- Parts of the model's calls, by the numbers that decide them. Assumes nothing.
use mathlib.Core.Path.{◌≡◌, refl, ap, ◌∙◌}
use mathlib.Core.Bool.{false, not, ◌||◌}
use mathlib.Core.List.{List, [], ◌++◌}
use mathlib.Core.Option.{Option, some, get_or}
use Prim.Native.Nat.{ℕ, zero, suc, ◌≤◌, ◌<◌, min}
use native.Mathlib.Omega.{arith}
use borrow.Author.Tests.{le-ltb, le-leb, lt-leb, eq-eqb, ne_eqb}
use lib.Dec.{ltb, eqb}
use Rattle.queue_model.specs.Types.{Item, Stream, round_robin, Active, Scheduler, Queue, Event, fragment, Step, refuse, reply, remaining}
use Rattle.queue_model.specs.Logic.{outside}
use Rattle.queue_model.specs.Scheduler.{find_active, put_active, scheduled, start_of, set_bytes_remaining, accept_last, accept_part, accept}
use Rattle.queue_model.specs.Streams.{waiting}
use Rattle.queue_model.specs.Refusals.{short_of, short_of_head}
use Rattle.queue_model.specs.Amounts.{sent_events}
use Rattle.queue_model.specs.Produce.{numbered, make_fragment, handed_out_last, handed_out_part, handed_out, hand_out, pass_over, produce_checks, produce}
use Rattle.queue_model.specs.Run as run
use Rattle.queue_model.proofs.Checks.{checked_past}

-- ---- tests that a call passes

pub same_store : (len : ℕ) → not (eqb len len) ≡ false
same_store len = rw (eq-eqb len len refl)

pub inside : (n : ℕ) → 1 ≤ n → n ≤ 262144 → outside 1 262144 n ≡ false
inside n h k = rw (le-ltb n 1 h, le-ltb 262144 n k)

pub small : (x y : ℕ) → x ≤ 18446744073709551615 → y ≤ 18446744073709551615 → (ltb 18446744073709551615 x || ltb 18446744073709551615 y) ≡ false
small x y h k = rw (le-ltb 18446744073709551615 x h, le-ltb 18446744073709551615 y k)

-- ---- the scheduler

-- a stream with bytes waits
pub waits_with : (id n : ℕ) (sc : Scheduler) → 0 < n → set_bytes_remaining id n round_robin sc
    ≡ record {
      payload_limit = sc.payload_limit;
      current = sc.current;
      system_time = sc.system_time;
      active = put_active (scheduled sc.payload_limit id round_robin (start_of sc.system_time (find_active id sc.active)) n) sc.active;
    }
unfolding set_bytes_remaining
waits_with id zero sc h = absurd (omega arith)
waits_with id (suc n) sc h = refl

pub goes_on : (a : Active) (n : ℕ) (sc : Scheduler) → n < a.bytes_remaining → accept a n sc ≡ accept_part a n sc
unfolding accept
goes_on a n sc h = rw (lt-leb a.bytes_remaining n h)

pub ends : (a : Active) (n : ℕ) (sc : Scheduler) → a.bytes_remaining ≤ n → accept a n sc ≡ accept_last a n sc
unfolding accept
ends a n sc h = rw (le-leb a.bytes_remaining n h)

-- ---- the next fragment

-- n bytes of a message, not its last; and its last
module _ (size : ℕ) (q : Queue) (es : List Event) (a : Active) (s : Stream) (i : Item) (is : List Item) (n : ℕ) (e : min a.bytes_remaining size ≡ n) (ht : n ≤ q.total) (ha : n ≤ s.amount) where
  pub part_of : n < remaining i → hand_out size q es a s i is ≡ some (reply (fragment (make_fragment s (numbered s.counters i).item n)) (es ++ sent_events q s n) (handed_out_part q a s i is n))
  unfolding hand_out short_of_head short_of handed_out
  part_of h = rw (e, le-ltb q.total n ht, le-ltb s.amount n ha, le-ltb (remaining i) n (omega arith), ne_eqb n (remaining i) (λ z. omega arith))

  pub last_of : n ≡ remaining i → hand_out size q es a s i is ≡ some (reply (fragment (make_fragment s (numbered s.counters i).item n)) (es ++ sent_events q s n) (handed_out_last q a s i is n))
  unfolding hand_out short_of_head short_of handed_out
  last_of h = rw (e, le-ltb q.total n ht, le-ltb s.amount n ha, le-ltb (remaining i) n (omega arith), eq-eqb n (remaining i) h)

-- past the checks, what the choice gives
pub takes : (len places room : ℕ) (q : Queue) (s : Step) → q.options.store_length ≡ len → 2305 ≤ places → 1200 ≤ room → pass_over (suc (waiting q.streams)) 0 1200 q [] ≡ some s
    → run.step (run.produce len places room 0 1200) q ≡ s
unfolding run.step produce
takes len places room q s e hp hr g =
    checked_past (produce_checks len places room 0 1200 q) q (get_or (pass_over (suc (waiting q.streams)) 0 1200 q []) (refuse q 16))
    (rw (e, eq-eqb len len refl), (le-ltb places 2305 hp, (refl, (refl, (le-ltb room 1200 hr, tt)))))
    ∙ ap (λ (x : Option Step). get_or x (refuse q 16)) g
