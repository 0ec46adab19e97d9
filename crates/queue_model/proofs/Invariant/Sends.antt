-- Next fragment and discard are fine: a head that is dropped or sent leaves a well queue, every look at the scheduler finds a head, and the fuel of
-- passing over suffices. Assumes nothing.
use mathlib.Core.Path.{ap₂, ◌≡◌, refl, sym, ap, ◌∙◌, subst}
use mathlib.Core.Bool.{Bool, true, false, ◌||◌}
use mathlib.Core.List.{List, [], ◌∷◌, ◌++◌}
use mathlib.Core.Option.{Option, none, some, get_or}
use Prim.Native.Nat.{ℕ, zero, suc, ◌+◌, ◌-◌, ◌^◌, ◌≤◌, ◌<◌, min}
use native.Mathlib.Omega.{arith}
use lib.Dec.{eqb, eqb→eq}
use lib.ListN.{length}
use Rattle.types.specs.Wrap.{wrap_suc}
use Rattle.std.specs.Prelude.{if◌then◌else◌}
use Rattle.queue_model.specs.Types.{Item, PauseState, not_paused, pending, paused, resetting, Counters, Stream, Weight, round_robin, weighted, Active, Scheduler, Options, Queue, Event, done, fragment, Step, remaining, expired, with_numbers, with_state, refuse, reply}
use Rattle.queue_model.specs.Scheduler.{active_key, find_active, scheduled, put_active, set_bytes_remaining, peek, moved, remember, accept_last, accept_part, accept, remove_stream}
use Rattle.queue_model.specs.Streams.{find_stream, put_stream, at, stream_at, waiting, payload_bytes, head_size, weight_of, reschedule, stream_key}
use Rattle.queue_model.specs.Refusals.{max_word, short_of, short_of_head}
use Rattle.queue_model.specs.Amounts.{sent_events, drop_head_events}
use Rattle.queue_model.specs.Produce.{Head, no_head, head, head_in, head_of, drop_head, drop_in, Look, nothing, broken, dropped, chosen, look_expired, look_at, look_for, look, Numbered, give_numbers, numbered_in, numbered, make_fragment, end_pending, next_size, moved_on, handed_out_last, handed_out_part, handed_out, hand_out, after_look, pass_over, produce_checks}
use Rattle.queue_model.specs.Discard.{discarded, discard_at, discard_checks}
use Rattle.queue_model.proofs.Tests.{holds, leb_true, leb_false, eqb_true, less, same, more, tri, ltb_false}
use Rattle.queue_model.proofs.Table.{found, missing, look_up, empty, first, split, every_find, every_own, find_key}
use Rattle.queue_model.proofs.Scheduler.{set_none}
use Rattle.queue_model.proofs.Streams.{at_found, at_new, unsent_bytes, size_at, size_found, size_unknown, size_put_same}
use Rattle.queue_model.proofs.Invariant.Messages.{WellItem, WellItems}
use Rattle.queue_model.proofs.Invariant.Waits.{But, Listed, Holds, Remembers, holds_put_own, WeightFits, Sched, Waits, weight_fits_of, sched_weaken, remove_kept, put_kept, set_kept, scheduled_listed, scheduled_numbers, scheduled_id, waits_put, waits_put_set, waits_put_rescheduled, peek_in}
use Rattle.queue_model.proofs.Invariant.Well.{CountersFit, Kept, Well, sum_put_id, known_room, well_put, well_tail, shrunk, change_shrunk, amount_le}
use Rattle.queue_model.proofs.Invariant.Fine.{Fine, fine_checked, enough}
use Rattle.queue_model.proofs.Calm.Calm.{HeadAt}
use Rattle.queue_model.specs.Calls

-- ---- the scheduler after handing out

-- Another time and remembered stream.
sched_time : (limit : ℕ) (P : Active → Type 0) (c : Option ℕ) (t : ℕ) (sc : Scheduler) → t ≤ max_word → get_or c 0 < 2 ^ 16 → Remembers c sc.active → Sched limit P sc → Sched limit P (record { payload_limit = sc.payload_limit; current = c; system_time = t; active = sc.active })
sched_time limit P c t sc h f r w = record { limit_same = w.limit_same; rises = w.rises; every = w.every; numbers = w.numbers; time_fits = h; current_fits = f; remembers = r }

moved_fits : (a : Active) (n : ℕ) → moved a n ≤ max_word
unfolding moved
moved_fits a n = omega arith

remember_fits : (s : ℕ) (w : Weight) → s < 2 ^ 16 → get_or (remember s w) 0 < 2 ^ 16
unfolding remember
remember_fits s round_robin h = h
remember_fits s (weighted w) h = omega arith

remember_holds : (s : ℕ) (w : Weight) (as' : List Active) → Holds s as' → Remembers (remember s w) as'
unfolding remember
remember_holds s round_robin as' h = h
remember_holds s (weighted w) as' h = tt

accept_last_kept : (limit : ℕ) (P : Active → Type 0) (a : Active) (n : ℕ) (sc : Scheduler) → a.bytes_remaining ≤ n → a.stream_id < 2 ^ 16 → Holds a.stream_id sc.active → Sched limit (But a.stream_id P) sc → Waits limit P (accept a n sc)
unfolding accept accept_last
accept_last_kept limit P a n sc h f r w =
    subst (λ (b : Bool). Waits limit P (if b then accept_last a n sc else accept_part a n sc)) (sym (leb_true h))
    (remove_kept limit P a.stream_id (record { payload_limit = sc.payload_limit; current = some a.stream_id; system_time = moved a n; active = sc.active })
    (sched_time limit (But a.stream_id P) (some a.stream_id) (moved a n) sc (moved_fits a n) f r w))

accept_part_kept : (limit : ℕ) (P : Active → Type 0) (a : Active) (n : ℕ) (sc : Scheduler) → n < a.bytes_remaining → a.stream_id < 2 ^ 16 → Sched limit (But a.stream_id P) sc
    → ((t : ℕ) → P (scheduled limit a.stream_id a.weight t (a.bytes_remaining - n))) → Waits limit P (accept a n sc)
unfolding accept accept_part
accept_part_kept limit P a n sc h f w p =
    let e : Active = scheduled sc.payload_limit a.stream_id a.weight (moved a n) (a.bytes_remaining - n) in
    let i : e.stream_id ≡ a.stream_id = scheduled_id sc.payload_limit a.stream_id a.weight (moved a n) (a.bytes_remaining - n) in
    subst (λ (b : Bool). Waits limit P (if b then accept_last a n sc else accept_part a n sc)) (sym (leb_false h))
    (put_kept limit P e (remember a.stream_id a.weight) (moved a n) sc (subst (λ (x : ℕ). Sched limit (But x P) sc) (sym i) w)
    (subst (λ (x : ℕ). P (scheduled x a.stream_id a.weight (moved a n) (a.bytes_remaining - n))) (sym w.limit_same) (p (moved a n)))
    (scheduled_numbers sc.payload_limit a.stream_id a.weight (moved a n) (a.bytes_remaining - n) (moved_fits a n)) (moved_fits a n) (remember_fits a.stream_id a.weight f)
    (remember_holds a.stream_id a.weight (put_active e sc.active) (subst (λ (x : ℕ). Holds x (put_active e sc.active)) i (holds_put_own e sc.active))))

-- ---- a message with its numbers

pub record NumbersWell (i : Item) (v : Numbered) : Type 0 where
  pub counters_well : CountersFit v.counters
  pub item_well : WellItem v.item
  pub mid_given : v.item.mid ≡ none → ⊥
  pub payload_same : v.item.payload ≡ i.payload
  pub offset_same : v.item.offset ≡ i.offset

some_none : (n : ℕ) → ◌≡◌ {A = Option ℕ} (some n) none → ⊥
some_none n e = let z : ◌≡◌ {A = ℕ} 0 1 = cc in omega arith

-- The same message with a MID, a new SSN and FSN, further on.
renumbered : (i : Item) (m : Option ℕ) (s f o : ℕ) → WellItem i → (m ≡ none → ⊥) → get_or m 0 < 2 ^ 32 → s < 2 ^ 16 → f < 2 ^ 32 → o < length i.payload → (i.unordered ≡ true → s ≡ 0) → WellItem (with_numbers i m s f o)
renumbered i m s f o w g a b c d u = record {
  unsent = d;
  small = w.small;
  id_fits = w.id_fits;
  ppid_fits = w.ppid_fits;
  retransmissions_fit = w.retransmissions_fit;
  lifecycle_fits = w.lifecycle_fits;
  mid_fits = a;
  ssn_fits = b;
  fsn_fits = c;
  no_ssn = λ e. absurd (g e);
  no_offset = λ e. absurd (g e);
  no_fsn = λ e. absurd (g e);
  unordered_ssn = u;
  expiry_fits = w.expiry_fits;
  bytes = w.bytes;
}

give_well : (u : Bool) (c : Counters) (i : Item) → i.unordered ≡ u → CountersFit c → WellItem i → NumbersWell i (give_numbers u c i)
unfolding give_numbers
give_well true c i e f w =
    let a = f.unordered_fits in
    record {
      counters_well = record { ssn_fits = f.ssn_fits; unordered_fits = omega arith; ordered_fits = f.ordered_fits };
      item_well = renumbered i (some c.next_unordered_mid) 0 i.fsn i.offset w (some_none c.next_unordered_mid) f.unordered_fits (omega arith) w.fsn_fits w.unsent (λ g. refl);
      mid_given = some_none c.next_unordered_mid;
      payload_same = refl;
      offset_same = refl;
    }
give_well false c i e f w =
    let a = f.ordered_fits in let b = f.ssn_fits in
    record {
      counters_well = record { ssn_fits = omega arith; unordered_fits = f.unordered_fits; ordered_fits = omega arith };
      item_well = renumbered i (some c.next_ordered_mid) c.next_ssn i.fsn i.offset w (some_none c.next_ordered_mid) f.ordered_fits f.ssn_fits w.fsn_fits w.unsent
          (λ g. let z : ◌≡◌ {A = ℕ} 0 1 = cc in absurd (omega arith));
      mid_given = some_none c.next_ordered_mid;
      payload_same = refl;
      offset_same = refl;
    }

pub numbers_well : (c : Counters) (i : Item) → CountersFit c → WellItem i → NumbersWell i (numbered c i)
unfolding numbered numbered_in
numbers_well c i f w = go i.mid refl
  where
    go : (m : Option ℕ) → i.mid ≡ m → NumbersWell i (numbered_in m c i)
    go none e = give_well i.unordered c i refl f w
    go (some m) e = record { counters_well = f; item_well = w; mid_given = λ g. some_none m (sym e ∙ g); payload_same = refl; offset_same = refl }

-- ---- the options stay

drop_options : (q : Queue) (s : Stream) (i : Item) (is : List Item) → (drop_head q s i is).options ≡ q.options
unfolding drop_head
drop_options q s i is = refl

pub drop_in_options : (p : PauseState) (q : Queue) (s : Stream) (i : Item) (is : List Item) → (drop_in p q s i is).options ≡ q.options
unfolding drop_in
drop_in_options not_paused q s i is = drop_options q s i is
drop_in_options pending q s i is = refl
drop_in_options paused q s i is = drop_options q s i is
drop_in_options resetting q s i is = drop_options q s i is

pub handed_options : (q : Queue) (a : Active) (s : Stream) (i : Item) (is : List Item) (n : ℕ) → (handed_out q a s i is n).options ≡ q.options
unfolding handed_out handed_out_last handed_out_part
handed_options q a s i is n = go (eqb n (remaining i))
  where
    go : (b : Bool) → (if b then handed_out_last q a s i is n else handed_out_part q a s i is n).options ≡ q.options
    go true = refl
    go false = refl

-- ---- a head that leaves, whole or in part

-- A choice to send from.
pub record Chosen (q : Queue) (a : Active) (s : Stream) (i : Item) (is : List Item) : Type 0 where
  pub choice_head : HeadAt q.streams a.stream_id s i is
  pub choice_size : a.bytes_remaining ≡ remaining i
  pub choice_weight : WeightFits q.interleaving a.weight
  pub choice_stands : Holds a.stream_id q.scheduler.active

-- What a look finds on a well queue.
abbrev pub FineLook : Queue → Look → Type 0
FineLook q nothing = Unit {0}
FineLook q broken = ⊥
FineLook q (dropped r ds) = Well r × ((suc (waiting r.streams) ≡ waiting q.streams) × (r.options ≡ q.options))
FineLook q (chosen a s i is) = Chosen q a s i is

next_size_right : (p : PauseState) (is : List Item) → 0 < next_size p is → next_size p is ≡ head_size is
unfolding next_size
next_size_right not_paused is z = refl
next_size_right pending is z = refl
next_size_right paused is z = absurd (omega arith)
next_size_right resetting is z = refl

module _ (q : Queue) (k : ℕ) (s : Stream) (i : Item) (is : List Item) (w : Well q) (h : HeadAt q.streams k s i is) where
  abbrev limit : ℕ
  limit = q.options.payload_limit

  pub head_kept : Kept s
  head_kept = every_find stream_key Kept k s q.streams w.kept h.found

  head_is : s.id ≡ k
  head_is = find_key stream_key k q.streams s h.found

  head_fits : k < 2 ^ 16
  head_fits = subst (λ (x : ℕ). x < 2 ^ 16) head_is head_kept.id_fits

  pub head_well : WellItems (i ∷ is)
  head_well = subst WellItems h.items head_kept.well_items

  at_head : stream_at q k ≡ s
  at_head = at_found q.options q.streams k s h.found

  head_unsent : unsent_bytes s.items ≡ remaining i + unsent_bytes is
  head_unsent = ap unsent_bytes h.items

  head_length : length s.items ≡ suc (length is)
  head_length = ap length h.items

  head_payload : payload_bytes s.items ≡ length i.payload + payload_bytes is
  head_payload = ap payload_bytes h.items

  -- No amount falls below 0.
  pub head_enough : (n : ℕ) → n ≤ remaining i → short_of q s n ≡ false
  head_enough n l =
      let a = head_kept.counted in let b = head_unsent in
      let c : s.amount ≤ q.total = subst (λ (x : Stream). x.amount ≤ q.total) at_head (amount_le q k w) in
      enough q s n (omega arith) (omega arith)

  -- The stream without its head.
  abbrev gone : PauseState → Counters → Stream
  gone p c = shrunk s p c (remaining i) is

  gone_well : (p : PauseState) (c : Counters) (sc : Scheduler) → CountersFit c → Waits limit (Listed q.interleaving (put_stream (gone p c) q.streams)) sc → Well (with_state q (q.total - remaining i) (put_stream (gone p c) q.streams) sc)
  gone_well p c sc f v =
      let a = head_unsent in let l = head_length in let b = head_payload in
      well_put q k (gone p c) (q.total - remaining i) q.next_message_id sc w (change_shrunk q k s p c (remaining i) is w head_fits (known_room q k s h.found) at_head f (well_tail is head_well.1) (omega arith) (omega arith) (omega arith)) w.next_fits v

  pub drop_well : Well (drop_head q s i is)
  unfolding drop_head
  drop_well =
      let s' : Stream = gone s.pause_state s.counters in
      gone_well s.pause_state s.counters (reschedule q.interleaving s' q.scheduler) head_kept.counters_fit (waits_put_rescheduled limit q.interleaving s' q.streams q.scheduler head_kept.priority_fits w.waits.sched)

  -- One message fewer waits, whatever becomes of the stream's state.
  gone_waiting : (p : PauseState) (c : Counters) → suc (waiting (put_stream (gone p c) q.streams)) ≡ waiting q.streams
  gone_waiting p c =
      let a = sum_put_id (λ x. length x.items) q k (gone p c) w head_is refl in
      let b : length (stream_at q k).items ≡ length s.items = ap (λ (x : Stream). length x.items) at_head in
      let l = head_length in omega arith

  pub drop_waiting : suc (waiting (drop_head q s i is).streams) ≡ waiting q.streams
  unfolding drop_head
  drop_waiting = gone_waiting s.pause_state s.counters

  pub drop_in_well : (p : PauseState) → Well (drop_in p q s i is)
  unfolding drop_in
  drop_in_well not_paused = drop_well
  drop_in_well pending =
      gone_well paused s.counters (remove_stream s.id q.scheduler) head_kept.counters_fit
      (subst (Waits limit (Listed q.interleaving (put_stream (gone paused s.counters) q.streams))) (set_none s.id (weight_of q.interleaving s) q.scheduler) (waits_put_set limit q.interleaving (gone paused s.counters) 0 (weight_of q.interleaving s) q.streams q.scheduler (λ z. absurd (omega arith)) (weight_fits_of q.interleaving s head_kept.priority_fits) w.waits.sched))
  drop_in_well paused = drop_well
  drop_in_well resetting = drop_well

  pub drop_in_waiting : (p : PauseState) → suc (waiting (drop_in p q s i is).streams) ≡ waiting q.streams
  unfolding drop_in
  drop_in_waiting not_paused = drop_waiting
  drop_in_waiting pending = gone_waiting paused s.counters
  drop_in_waiting paused = drop_waiting
  drop_in_waiting resetting = drop_waiting

  fine_discarded : Fine q (discarded q s i is)
  unfolding discarded
  fine_discarded =
      subst (λ (b : Bool). Fine q (if b then refuse q 16 else reply done (drop_head_events q s i) (drop_in s.pause_state q s i is))) (sym (head_enough (remaining i) (omega arith)))
      (record { next_well = drop_in_well s.pause_state; not_sixteen = refl; same_options = drop_in_options s.pause_state q s i is })

  fine_expired : FineLook q (look_expired q s i is)
  unfolding look_expired
  fine_expired = subst (λ (b : Bool). FineLook q (if b then broken else dropped (drop_in s.pause_state q s i is) (drop_head_events q s i))) (sym (head_enough (remaining i) (omega arith)))
      (drop_in_well s.pause_state, (drop_in_waiting s.pause_state, drop_in_options s.pause_state q s i is))

  module _ (a : Active) (own : a.stream_id ≡ k) (size : a.bytes_remaining ≡ remaining i) (weigh : WeightFits q.interleaving a.weight) (stands : Holds a.stream_id q.scheduler.active) where
    own_fits : a.stream_id < 2 ^ 16
    own_fits = subst (λ (x : ℕ). x < 2 ^ 16) (sym own) head_fits

    -- The scheduler's other entries stay right when the stream is put.
    others : (p : PauseState) (c : Counters) (n : ℕ) (l : List Item) → Sched limit (But a.stream_id (Listed q.interleaving (put_stream (shrunk s p c n l) q.streams))) q.scheduler
    others p c n l =
        subst (λ (x : ℕ). Sched limit (But x (Listed q.interleaving (put_stream (shrunk s p c n l) q.streams))) q.scheduler) (head_is ∙ sym own)
        (waits_put limit q.interleaving (shrunk s p c n l) q.streams q.scheduler w.waits.sched)

    last_well : Well (handed_out_last q a s i is (remaining i))
    unfolding handed_out_last
    last_well =
        let c : Counters = (numbered s.counters i).counters in
        let p : PauseState = end_pending s.pause_state in
        let v = numbers_well s.counters i head_kept.counters_fit head_well.0 in
        let P : Active → Type 0 = Listed q.interleaving (put_stream (gone p c) q.streams) in
        let sc : Scheduler = accept a (remaining i) q.scheduler in
        let u : Waits limit P sc = accept_last_kept limit P a (remaining i) q.scheduler (omega arith) own_fits stands (others p c (remaining i) is) in
        gone_well p c (set_bytes_remaining s.id (next_size p is) (weight_of q.interleaving s) sc) v.counters_well
        (set_kept limit P s.id (next_size p is) (weight_of q.interleaving s) sc (sched_weaken limit P (But s.id P) sc (λ b x n. x) u.sched)
        (λ t z. scheduled_listed q.interleaving (put_stream (gone p c) q.streams) limit s.id (weight_of q.interleaving s) t (next_size p is) (weight_fits_of q.interleaving s head_kept.priority_fits) z
        (next_size_right p is z ∙ sym (size_put_same (gone p c) q.streams))))

    part_well : (n : ℕ) → n < remaining i → Well (handed_out_part q a s i is n)
    unfolding handed_out_part moved_on head_size
    part_well n z =
        let c : Counters = (numbered s.counters i).counters in
        let j : Item = (numbered s.counters i).item in
        let v = numbers_well s.counters i head_kept.counters_fit head_well.0 in
        let j' : Item = moved_on j n in
        let x : Stream = shrunk s s.pause_state c n (j' ∷ is) in
        let e₁ : length j.payload ≡ length i.payload = ap length v.payload_same in let e₂ = v.offset_same in let e₃ = head_well.0.unsent in
        let wj : WellItem j' = renumbered j j.mid j.ssn (wrap_suc 32 j.fsn) (j.offset + n) v.item_well v.mid_given v.item_well.mid_fits v.item_well.ssn_fits (omega arith) (omega arith) v.item_well.unordered_ssn in
        let e₄ = head_unsent in let l = head_length in let b = head_payload in
        let y : size_at a.stream_id (put_stream x q.streams) ≡ remaining j' = ap (λ (m : ℕ). size_at m (put_stream x q.streams)) (own ∙ sym head_is) ∙ size_put_same x q.streams in
        well_put q k x (q.total - n) q.next_message_id (accept a n q.scheduler) w
        (change_shrunk q k s s.pause_state c n (j' ∷ is) w head_fits (known_room q k s h.found) at_head v.counters_well (wj, head_well.1) (omega arith) (omega arith) (omega arith)) w.next_fits
        (accept_part_kept limit (Listed q.interleaving (put_stream x q.streams)) a n q.scheduler (omega arith) own_fits (others s.pause_state c n (j' ∷ is))
        (λ t. scheduled_listed q.interleaving (put_stream x q.streams) limit a.stream_id a.weight t (a.bytes_remaining - n) weigh (omega arith) (omega arith)))

    pub handed_well : (n : ℕ) → n ≤ remaining i → Well (handed_out q a s i is n)
    unfolding handed_out
    handed_well n z = go (eqb n (remaining i)) refl
      where
        go : (b : Bool) → eqb n (remaining i) ≡ b → Well (if b then handed_out_last q a s i is n else handed_out_part q a s i is n)
        go true e = subst (λ (m : ℕ). Well (handed_out_last q a s i is m)) (sym (eqb→eq n (remaining i) (holds (eqb n (remaining i)) e))) last_well
        go false e = elim (tri n (remaining i)) [
          | less l ↦ part_well n l
          | same f ↦ (let g = eqb_true f in let y : ◌≡◌ {A = ℕ} 0 1 = cc in absurd (omega arith))
          | more l ↦ absurd (omega arith)
        ]

-- ---- discard

pub head_of_at : (ss : List Stream) (k : ℕ) (s : Stream) (i : Item) (is : List Item) → HeadAt ss k s i is → head_of (find_stream k ss) ≡ head s i is
unfolding head_of head_in
head_of_at ss k s i is h = ap head_of h.found ∙ ap (head_in s) h.items

-- The head of an id: none, or one of a stream that is found.
pub data Heads (ss : List Stream) (k : ℕ) : Type 0 where
  headless : head_of (find_stream k ss) ≡ no_head → ((o : Options) → (at o ss k).items ≡ []) → Heads ss k
  headed : (s : Stream) (i : Item) (is : List Item) → HeadAt ss k s i is → Heads ss k

pub heads : (ss : List Stream) (k : ℕ) → Heads ss k
unfolding head_of head_in
heads ss k = elim (look_up stream_key k ss) [
  | missing e ↦ headless (ap head_of e) (λ o. ap (λ (s : Stream). s.items) (at_new o ss k e))
  | found s e ↦ elim (split s.items) [
    | empty f ↦ headless (ap head_of e ∙ ap (head_in s) f) (λ o. ap (λ (s : Stream). s.items) (at_found o ss k s e) ∙ f)
    | first i is f ↦ headed s i is (record { found = e; items = f })
  ]
]

fine_discard_at : (m k : ℕ) (q : Queue) → Well q → Fine q (discard_at m q (head_of (find_stream k q.streams)))
unfolding discard_at
fine_discard_at m k q w = elim (heads q.streams k) [
  | headless e n ↦ subst (λ (x : Head). Fine q (discard_at m q x)) (sym e) still
  | headed s i is h ↦ subst (λ (x : Head). Fine q (discard_at m q x)) (sym (head_of_at q.streams k s i is h)) (either s i is (fine_discarded q k s i is w h) (eqb i.message_id m))
]
  where
    still : Fine q (reply done [] q)
    still = record { next_well = w; not_sixteen = refl; same_options = refl }

    either : (s : Stream) (i : Item) (is : List Item) → Fine q (discarded q s i is) → (b : Bool) → Fine q (if b then discarded q s i is else reply done [] q)
    either s i is f true = f
    either s i is f false = still

pub fine_discard : (places s k : ℕ) (q : Queue) → Well q → Fine q (Calls.discard places s k q)
unfolding Calls.discard
fine_discard places s k q w = fine_checked (discard_checks places) q (discard_at k q (head_of (find_stream s q.streams))) w (λ p. tt) (λ p. fine_discard_at k s q w)

-- ---- next fragment

-- A listed stream has a head of the entry's size.
pub record HeadFor (ss : List Stream) (a : Active) : Type 0 where
  pub for_stream : Stream
  pub for_item : Item
  pub for_rest : List Item
  pub for_head : HeadAt ss a.stream_id for_stream for_item for_rest
  pub for_size : a.bytes_remaining ≡ remaining for_item

pub head_for : (il : Bool) (ss : List Stream) (a : Active) → Listed il ss a → HeadFor ss a
unfolding head_size
head_for il ss a l =
    let p = l.positive in let z = l.sized in
    elim (look_up stream_key a.stream_id ss) [
      | missing e ↦ (let u = size_unknown a.stream_id ss e in absurd (omega arith))
      | found s e ↦ (let u = size_found a.stream_id s ss e in elim (split s.items) [
        | empty f ↦ (let v : head_size s.items ≡ 0 = ap head_size f in absurd (omega arith))
        | first i is f ↦ record { for_stream = s; for_item = i; for_rest = is; for_head = record { found = e; items = f }; for_size = z ∙ u ∙ ap head_size f }
      ])
    ]

fine_look_at : (now : ℕ) (q : Queue) (a : Active) → Well q → Listed q.interleaving q.streams a → Holds a.stream_id q.scheduler.active → FineLook q (look_at now q a (head_of (find_stream a.stream_id q.streams)))
unfolding look_at
fine_look_at now q a w l m = subst (λ (x : Head). FineLook q (look_at now q a x)) (sym (head_of_at q.streams a.stream_id s i is f.for_head)) (go (expired now i.expires_at))
  where
    f : HeadFor q.streams a
    f = head_for q.interleaving q.streams a l

    s : Stream
    s = f.for_stream

    i : Item
    i = f.for_item

    is : List Item
    is = f.for_rest

    go : (x : Bool) → FineLook q (if x then look_expired q s i is else chosen a s i is)
    go true = fine_expired q a.stream_id s i is w f.for_head
    go false = record { choice_head = f.for_head; choice_size = f.for_size; choice_weight = l.weighs; choice_stands = m }

pub fine_look : (now : ℕ) (q : Queue) → Well q → FineLook q (look now q)
unfolding look look_for
fine_look now q w = go (peek q.scheduler) refl
  where
    sc : Scheduler
    sc = q.scheduler

    go : (x : Option Active) → peek q.scheduler ≡ x → FineLook q (look_for now q x)
    go none e = tt
    go (some a) e = fine_look_at now q a w (peek_in (Listed q.interleaving q.streams) sc a w.waits.sched.every e) (a, peek_in (λ b. find_active b.stream_id sc.active ≡ some b) sc a (every_own active_key sc.active w.waits.sched.rises) e)

abbrev FineMaybe : Queue → Option Step → Type 0
FineMaybe q none = ⊥
FineMaybe q (some s) = Fine q s

maybe_then : (q r : Queue) (x : Option Step) → r.options ≡ q.options → FineMaybe r x → FineMaybe q x
maybe_then q r none e f = f
maybe_then q r (some s) e f = record { next_well = f.next_well; not_sixteen = f.not_sixteen; same_options = f.same_options ∙ e }

fine_hand_out : (size : ℕ) (q : Queue) (es : List Event) (a : Active) (s : Stream) (i : Item) (is : List Item) → Well q → Chosen q a s i is → FineMaybe q (hand_out size q es a s i is)
unfolding hand_out short_of_head
fine_hand_out size q es a s i is w v =
    let n : ℕ = min a.bytes_remaining size in
    let z = v.choice_size in
    let l : min a.bytes_remaining size ≤ remaining i = omega arith in
    let r : Step = reply (fragment (make_fragment s (numbered s.counters i).item n)) (es ++ sent_events q s n) (handed_out q a s i is n) in
    subst (λ (b : Bool). FineMaybe q (if b then none else some r)) (sym (ap₂ ◌||◌ (head_enough q a.stream_id s i is w v.choice_head n l) (ltb_false l)))
    (record { next_well = handed_well q a.stream_id s i is w v.choice_head a refl v.choice_size v.choice_weight v.choice_stands n l; not_sixteen = refl; same_options = handed_options q a s i is n })

fine_after : (again : Queue → List Event → Option Step) (size : ℕ) (q : Queue) (es : List Event) (l : Look) → Well q → FineLook q l → ((r : Queue) (ds : List Event) → Well r → suc (waiting r.streams) ≡ waiting q.streams → FineMaybe r (again r ds)) → FineMaybe q (after_look again size q es l)
unfolding after_look
fine_after again size q es nothing w f h = record { next_well = w; not_sixteen = refl; same_options = refl }
fine_after again size q es broken w f h = f
fine_after again size q es (dropped r ds) w f h = maybe_then q r (again r (es ++ ds)) f.1.1 (h r (es ++ ds) f.0 f.1.0)
fine_after again size q es (chosen a s i is) w f h = fine_hand_out size q es a s i is w f

fine_pass : (turns now size : ℕ) (q : Queue) (es : List Event) → Well q → waiting q.streams < turns → FineMaybe q (pass_over turns now size q es)
unfolding pass_over
fine_pass zero now size q es w h = absurd (omega arith)
fine_pass (suc turns) now size q es w h = fine_after (λ r ds. pass_over turns now size r ds) size q es (look now q) w (fine_look now q w) (λ r ds v e. fine_pass turns now size r ds v (omega arith))

fine_default : (q : Queue) (x : Option Step) → FineMaybe q x → Fine q (get_or x (refuse q 16))
fine_default q none f = absurd f
fine_default q (some s) f = f

pub fine_produce : (store places buffer now size : ℕ) (q : Queue) → Well q → Fine q (Calls.produce store places buffer now size q)
unfolding Calls.produce
fine_produce store places buffer now size q w =
    let x : Option Step = pass_over (suc (waiting q.streams)) now size q [] in
    fine_checked (produce_checks store places buffer now size q) q (get_or x (refuse q 16)) w (λ p₂ p₃ p₄ p₉ p₁₀. tt) (λ p. fine_default q x (fine_pass (suc (waiting q.streams)) now size q [] w (omega arith)))
