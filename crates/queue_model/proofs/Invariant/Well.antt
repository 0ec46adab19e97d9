-- The invariant of every reachable queue (specs/Well): a new queue has it, and the general way to keep it is a stream put in its place. Assumes nothing.
use mathlib.Core.Path.{◌≡◌, refl, sym, ap, ◌∙◌, subst}
use mathlib.Core.Bool.{false, not, ◌&&◌}
use mathlib.Core.List.{List, [], ◌∷◌, ◌++◌}
use mathlib.Core.Option.{Option, none, some}
use Prim.Native.Nat.{ℕ, ◌+◌, ◌-◌, ◌^◌, ◌≤◌, ◌<◌}
use native.Mathlib.Omega.{arith}
use lib.Dec.{ltb, leb}
use lib.ListN.{length}
use Rattle.queue_model.specs.Logic.{outside, is_some}
use Rattle.queue_model.specs.Table.{sum_by}
use Rattle.queue_model.specs.Types.{Item, PauseState, Counters, Stream, Scheduler, Options, Queue, with_items, model_with_pause, with_counters}
use Rattle.queue_model.specs.Scheduler.{new_scheduler}
use Rattle.queue_model.specs.Streams.{max_streams, max_messages, find_stream, put_stream, new_stream, zero_counters, stream_at, too_many, waiting, payload_bytes, occupied, new_queue, stream_key}
use Rattle.queue_model.specs.Refusals.{Check, limit_wrong, store_wrong, create_refusal}
use Rattle.queue_model.specs.Image.{stream_record}
use Rattle.queue_model.specs.Demands.{Created}
pub use Rattle.queue_model.specs.Well.{CountersFit, Kept, Well}
use Rattle.queue_model.proofs.Table.{found, missing, look_up, Rising, rising_put, sum_put_new, sum_put_old, sum_find, every_put, every_weaken, length_sum}
use Rattle.queue_model.proofs.Checks.{all_passed, or_left, or_right, not_less, not_most}
use Rattle.queue_model.proofs.Streams.{at_found, at_new, at_id, every_at, sum_put_at, unsent_bytes}
use Rattle.queue_model.proofs.Invariant.Messages.{WellItem, WellRest, WellItems, WellStream, WellQueue}
use Rattle.queue_model.proofs.Invariant.Waits.{Listed, Waits}

-- ---- a new queue

-- What creation ensures.
pub record Room (o : Options) : Type 0 where
  pub limit_low : 1 ≤ o.payload_limit
  pub limit_high : o.payload_limit ≤ 65535
  pub store_low : 1 ≤ o.store_length
  pub store_high : o.store_length ≤ 2000000

-- A number that is not outside a range.
pub inside : (low high n : ℕ) → outside low high n ≡ false → (low ≤ n) × (n ≤ high)
inside low high n e = (not_less n low (or_left (ltb n low) (ltb high n) e), not_less high n (or_right (ltb n low) (ltb high n) e))

-- The checks of creation.
abbrev pub create_checks : Options → List Check
create_checks o = limit_wrong o.payload_limit ∷ store_wrong o.store_length ∷ []

pub room : (o : Options) → Created o → Room o
unfolding create_refusal
room o c =
    let p = all_passed (create_checks o) c.accepted in
    let l = inside 1 65535 o.payload_limit p.0 in let s = inside 1 2000000 o.store_length p.1.0 in
    record { limit_low = l.0; limit_high = l.1; store_low = s.0; store_high = s.1 }

pub well_new : (o : Options) → Created o → Well (new_queue o)
unfolding new_queue new_scheduler
well_new o c = record {
  creation = c;
  rising = tt;
  kept = tt;
  total_counted = refl;
  next_fits = omega arith;
  streams_few = omega arith;
  messages_few = omega arith;
  store_fits = omega arith;
  waits = record { sched = record { limit_same = refl; rises = tt; every = tt; numbers = tt; time_fits = omega arith; current_fits = omega arith; remembers = tt }; idle = λ e. refl };
}

-- ---- lists of messages

pub well_tail : (is : List Item) → WellRest is → WellItems is
well_tail [] w = tt
well_tail (i ∷ is) w = (w.0, w.1.1)

rest_snoc : (is : List Item) (i : Item) → WellRest is → WellItem i → i.mid ≡ none → WellRest (is ++ (i ∷ []))
rest_snoc [] i w h e = (h, (e, tt))
rest_snoc (j ∷ is) i w h e = (w.0, (w.1.0, rest_snoc is i w.1.1 h e))

-- A message at the end: without MID unless it is the first.
pub well_snoc : (is : List Item) (i : Item) → WellItems is → WellItem i → ((is ≡ [] → ⊥) → i.mid ≡ none) → WellItems (is ++ (i ∷ []))
well_snoc [] i w h e = (h, tt)
well_snoc (j ∷ is) i w h e = (w.0, rest_snoc is i w.1 h (e (λ f. let z : ◌≡◌ {A = ℕ} 0 1 = cc in omega arith)))

-- ---- the stream of an id

pub zero_fit : CountersFit zero_counters
zero_fit = record { ssn_fits = omega arith; unordered_fits = omega arith; ordered_fits = omega arith }

pub kept_new : (o : Options) (k : ℕ) → Created o → k < 2 ^ 16 → Kept (new_stream o k)
kept_new o k c h = record { id_fits = h; priority_fits = c.default_priority; threshold_fits = c.default_threshold; counters_fit = zero_fit; well_items = tt; counted = refl }

pub kept_at : (q : Queue) (k : ℕ) → Well q → k < 2 ^ 16 → Kept (stream_at q k)
kept_at q k w h = every_at Kept q.options k q.streams w.kept (kept_new q.options k w.creation h)

pub amount_le : (q : Queue) (k : ℕ) → Well q → (stream_at q k).amount ≤ q.total
amount_le q k w =
    let t = w.total_counted in
    elim (look_up stream_key k q.streams) [
      | found s f ↦ (let a = sum_find stream_key (λ x. x.amount) k s q.streams f in let b : (stream_at q k).amount ≡ s.amount = ap (λ (x : Stream). x.amount) (at_found q.options q.streams k s f) in omega arith)
      | missing f ↦ (let b : (stream_at q k).amount ≡ 0 = ap (λ (x : Stream). x.amount) (at_new q.options q.streams k f) in omega arith)
    ]

-- A known stream is never one too many.
pub known_room : (q : Queue) (k : ℕ) (s : Stream) → find_stream k q.streams ≡ some s → too_many q k ≡ false
unfolding too_many is_some
known_room q k s e = ap (λ (x : Option Stream). not (is_some x) && leb max_streams (length q.streams)) e

length_put : (q : Queue) (s : Stream) → Rising stream_key q.streams → length q.streams ≤ max_streams → too_many q s.id ≡ false → length (put_stream s q.streams) ≤ max_streams
unfolding too_many is_some
length_put q s r h t =
    let a = length_sum q.streams in let b = length_sum (put_stream s q.streams) in
    elim (look_up stream_key s.id q.streams) [
      | found s₀ e ↦ (let c = sum_put_old stream_key (λ x. 1) s s₀ q.streams r e in omega arith)
      | missing e ↦ (let c = sum_put_new stream_key (λ x. 1) s q.streams e in
          let l : leb max_streams (length q.streams) ≡ false = sym (ap (λ (x : Option Stream). not (is_some x) && leb max_streams (length q.streams)) e) ∙ t in
          let m = not_most max_streams (length q.streams) l in omega arith)
    ]

-- ---- a stream put in its place

-- What a stream must say to take the place of the id k's, with the total t.
pub record Change (q : Queue) (k : ℕ) (s : Stream) (t : ℕ) : Type 0 where
  pub change_id : s.id ≡ k
  pub change_room : too_many q k ≡ false
  pub change_kept : Kept s
  pub change_total : t + (stream_at q k).amount ≡ q.total + s.amount
  pub change_messages : waiting q.streams + length s.items ≤ max_messages + length (stream_at q k).items
  pub change_store : occupied q.streams + payload_bytes s.items ≤ q.options.store_length + payload_bytes (stream_at q k).items

-- The sum of a measure, when a stream takes the place of the id k's.
pub sum_put_id : (f : Stream → ℕ) (q : Queue) (k : ℕ) (s : Stream) → Well q → s.id ≡ k → f (new_stream q.options k) ≡ 0 → sum_by f (put_stream s q.streams) + f (stream_at q k) ≡ sum_by f q.streams + f s
sum_put_id f q k s w e z =
    subst (λ (j : ℕ). f (new_stream q.options j) ≡ 0 → sum_by f (put_stream s q.streams) + f (stream_at q j) ≡ sum_by f q.streams + f s) e (sum_put_at f q.options s q.streams w.rising) z

pub well_put : (q : Queue) (k : ℕ) (s : Stream) (t n : ℕ) (sc : Scheduler) → Well q → Change q k s t → n < 2 ^ 32 → Waits q.options.payload_limit (Listed q.interleaving (put_stream s q.streams)) sc
    → Well (record { options = q.options; interleaving = q.interleaving; total = t; next_message_id = n; streams = put_stream s q.streams; scheduler = sc })
well_put q k s t n sc w c h v =
    let a = sum_put_id (λ x. length x.items) q k s w c.change_id refl in let b = sum_put_id (λ x. payload_bytes x.items) q k s w c.change_id refl in let d = sum_put_id (λ x. x.amount) q k s w c.change_id refl in
    let e₁ = c.change_total in let e₂ = c.change_messages in let e₃ = c.change_store in let e₄ = w.total_counted in
    record {
      creation = w.creation;
      rising = rising_put stream_key s q.streams w.rising;
      kept = every_put stream_key Kept s q.streams c.change_kept w.kept;
      total_counted = omega arith;
      next_fits = h;
      streams_few = length_put q s w.rising w.streams_few (subst (λ (j : ℕ). too_many q j ≡ false) (sym c.change_id) c.change_room);
      messages_few = omega arith;
      store_fits = omega arith;
      waits = v;
    }

-- A stream that has no more messages and bytes than before.
pub change_less : (q : Queue) (k : ℕ) (s : Stream) (t : ℕ) → Well q → too_many q k ≡ false → s.id ≡ k → Kept s → t + (stream_at q k).amount ≡ q.total + s.amount
    → length s.items ≤ length (stream_at q k).items → payload_bytes s.items ≤ payload_bytes (stream_at q k).items → Change q k s t
change_less q k s t w r i e a l p = let m = w.messages_few in let f = w.store_fits in record { change_id = i; change_room = r; change_kept = e; change_total = a; change_messages = omega arith; change_store = omega arith }

-- A stream with a new state, counters and messages, n bytes fewer.
abbrev pub shrunk : Stream → PauseState → Counters → ℕ → List Item → Stream
shrunk s p c n is = model_with_pause p (with_items (with_counters c s) (s.amount - n) is)

pub change_shrunk : (q : Queue) (k : ℕ) (s : Stream) (p : PauseState) (c : Counters) (n : ℕ) (is : List Item) → Well q → k < 2 ^ 16 → too_many q k ≡ false → stream_at q k ≡ s → CountersFit c → WellItems is
    → unsent_bytes is + n ≡ unsent_bytes s.items → length is ≤ length s.items → payload_bytes is ≤ payload_bytes s.items → Change q k (shrunk s p c n is) (q.total - n)
change_shrunk q k s p c n is w h r e f v u l b =
    let g : Kept s = subst Kept e (kept_at q k w h) in
    let x = amount_le q k w in let y = g.counted in
    let e₁ : (stream_at q k).amount ≡ s.amount = ap (λ (z : Stream). z.amount) e in
    let e₂ : length (stream_at q k).items ≡ length s.items = ap (λ (z : Stream). length z.items) e in
    let e₃ : payload_bytes (stream_at q k).items ≡ payload_bytes s.items = ap (λ (z : Stream). payload_bytes z.items) e in
    change_less q k (shrunk s p c n is) (q.total - n) w r (ap (λ (z : Stream). z.id) (sym e) ∙ at_id q.options q.streams k)
    (record { id_fits = g.id_fits; priority_fits = g.priority_fits; threshold_fits = g.threshold_fits; counters_fit = f; well_items = v; counted = omega arith })
    (omega arith) (omega arith) (omega arith)

-- ---- as saving wants it

kept_stream : (s : Stream) → Kept s → WellStream s
unfolding stream_record
kept_stream s k =
    let c = k.counters_fit in
    let a : s.id < 256 ^ 2 = k.id_fits in let b : s.counters.next_ssn < 256 ^ 2 = c.ssn_fits in let d : s.counters.next_unordered_mid < 256 ^ 4 = c.unordered_fits in
    let e : s.counters.next_ordered_mid < 256 ^ 4 = c.ordered_fits in let f : s.priority < 256 ^ 2 = k.priority_fits in
    record { stream_fits = (a, (b, (d, (e, (f, tt))))); well_items = k.well_items }

pub well_queue : (q : Queue) → Well q → WellQueue q
well_queue q w =
    let r = room q.options w.creation in let f = w.store_fits in
    record { rising = w.rising; all_well = every_weaken Kept WellStream q.streams kept_stream w.kept; next_fits = w.next_fits; default_fits = w.creation.default_priority; streams_few = w.streams_few; messages_few = w.messages_few; store_fits = omega arith }
