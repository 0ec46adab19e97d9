-- The scheduler has room for every known stream: its rows are of different known streams, which are at most 256. Assumes nothing.
use mathlib.Core.Path.{◌≡◌, refl, sym, ap, ◌∙◌, subst}
use mathlib.Core.Bool.{Bool, true, false}
use mathlib.Core.List.{List, [], ◌∷◌, map}
use mathlib.Core.Option.{none, some}
use Prim.Native.Nat.{ℕ, zero, suc, ◌-◌, ◌≤◌, ◌<◌}
use native.Mathlib.Omega.{arith}
use borrow.Author.Tests.{lt-ltb, le-ltb}
use lib.Dec.{leb}
use lib.ListN.{length}
use Rattle.queue_words.specs.Header.{totals_at, scheduler_at}
use Rattle.queue_words.specs.Known.{id_at}
use Rattle.queue_words.proofs.Laws.{known_at_fits}
use Rattle.std.specs.Prelude.{if◌then◌else◌}
use Rattle.queue_model.specs.Table.{find}
use Rattle.queue_model.specs.Types.{Stream, Queue, Active, Scheduler, Weight, round_robin}
use Rattle.queue_model.specs.Types as plain
use Rattle.queue_model.specs.Scheduler.{active_key, find_active, put_active, without_active, scheduled, start_of, moved, remove_stream, set_bytes_remaining, accept_last, accept_part, accept}
use Rattle.queue_model.specs.Streams.{find_stream, put_stream, stream_key, head_size, weight_of, reschedule}
use Rattle.queue_model.proofs.Tests.{less, same, more, tri}
use Rattle.queue_model.proofs.Table.{find_here, find_there, find_put_same, find_put_other, find_after, found_above, Rising, rising_put, after_down, Every, every_put, every_weaken, sum_put_new, length_sum, without_nil, without_here, without_there, own, other, is_own, not_in_nil, found, missing, look_up}
use Rattle.queue_model.proofs.Scheduler.{set_none, set_some, reschedule_of}
use Rattle.queue_model.proofs.Streams.{size_unknown, head_size_nil}
use Rattle.queue_model.proofs.Invariant.Waits.{Listed, scheduled_id}
use Rattle.queue_model.proofs.Invariant.Well.{Well}
use Rattle.stream_scheduler.specs.Link.{GoodScheduler, Room, listed, free, Unlike, Untouched, entry_at, table_of, model_scheduler, Steps}
use Rattle.stream_scheduler.specs.Rows.{weight_of_words}
use Rattle.stream_scheduler.specs.Words.{set_bytes_remaining_words, remove_stream_words, accept_at}
use Rattle.stream_scheduler.specs.Anew.{accept_last_words}
use Rattle.stream_scheduler.proofs.BeginsAnew.{last_link, untouched_last}
use Rattle.stream_scheduler.proofs.Handing.{accept_link}
use Rattle.stream_scheduler.proofs.Index.{table_nil, table_suc, rising_table, table_at, table_none, where_is, at, nowhere}
use Rattle.stream_scheduler.proofs.Link.{set_link, remove_link}
use Rattle.stream_scheduler.proofs.Frames.{untouched_set, untouched_remove, untouched_accept}
use Rattle.queue_streams.specs.Waiting.{head_size_words, parameters_for, rescheduled}
use Rattle.payload_store.specs.Words.{size_of}
use Rattle.queue_state.specs.Chains.{Linked, each}
use Rattle.queue_state.specs.Model.{next_of, item_in_words, stream_in, streams_in, model}
use Rattle.queue_state.specs.Good.{Shape}
use Rattle.queue_state.proofs.Singles.{Unmoved, shape_scheduler, model_streams, model_schedules}
use Rattle.queue_state.proofs.Looks.{Lookup, known_at_lem, new_at, lookup, found_at, streams_length}
use Rattle.queue_state.proofs.Steps.{rises}
use Rattle.queue_state.proofs.Tabs.{tab_rising}
use Rattle.queue_state.proofs.Sums.{item_length}
use Rattle.queue_state.proofs.Facts.{offset_is}
use Rattle.queue_streams.proofs.Walk.{parameters_fit}

-- ---- a table whose keys are all found in another is no longer than it

module _ {A B : Type 0} (ka : A → ℕ) (kb : B → ℕ) where
  abbrev Has : ℕ → List B → Type 0
  Has k ys = (y : B) × (find kb k ys ≡ some y)

  tail_has : (k : ℕ) (y : B) (ys : List B) → kb y < k → Has k (y ∷ ys) → Has k ys
  tail_has k y ys l h = (h.0, sym (find_there kb k y ys (λ e. omega arith)) ∙ h.1)

  pub no_longer : (xs : List A) (ys : List B) → Rising ka xs → Rising kb ys → ((k : ℕ) (x : A) → find ka k xs ≡ some x → Has k ys) → length xs ≤ length ys
  no_longer [] ys a b h = omega arith
  no_longer (x ∷ xs) [] a b h = let n = h (ka x) x (find_here ka (ka x) x xs refl) in absurd (not_in_nil kb (ka x) n.0 n.1)
  no_longer (x ∷ xs) (y ∷ ys) a b h = elim (tri (ka x) (kb y)) [
    | less l ↦ (let n = h (ka x) x (find_here ka (ka x) x xs refl) in let z : ◌≡◌ {A = ℕ} 0 1 = cc (n.1, find_after kb (ka x) (y ∷ ys) (l, after_down kb ys l b.0)) in absurd (omega arith))
    | same e ↦ (let ih = no_longer xs ys a.1 b.1 (λ k z f. let o : ka x < k = found_above ka (ka x) k xs z a.0 f in tail_has k y ys (omega arith) (h k z (find_there ka k x xs (λ c. omega arith) ∙ f))) in omega arith)
    | more l ↦ (let ih = no_longer (x ∷ xs) ys a b.1 (λ k z f. tail_has k y ys (above k z f l) (h k z f)) in omega arith)
  ]
    where
      above : (k : ℕ) (z : A) → find ka k (x ∷ xs) ≡ some z → kb y < ka x → kb y < k
      above k z f l = elim (is_own ka x k) [
        | own e ↦ omega arith
        | other n ↦ (let o : ka x < k = found_above ka (ka x) k xs z a.0 (sym (find_there ka k x xs n) ∙ f) in omega arith)
      ]

-- ---- the table of n different entries has n entries

pub table_length : (e : ℕ → Active) (n : ℕ) → Unlike e n → length (table_of e n) ≡ n
table_length e zero u = ap length (table_nil e)
table_length e (suc n) u =
    let ih = table_length e n (λ i j hi hj f. u i j (omega arith) (omega arith) f) in
    let new : find_active (e n).stream_id (table_of e n) ≡ none = table_none e n (e n).stream_id (λ i h f. let z = u i n (omega arith) (omega arith) f in omega arith) in
    let s = sum_put_new active_key (λ (a : Active). 1) (e n) (table_of e n) new in
    let l : length (table_of e (suc n)) ≡ length (put_active (e n) (table_of e n)) = ap length (table_suc e n) in
    omega (arith, l, s, length_sum (put_active (e n) (table_of e n)), length_sum (table_of e n))

-- ---- every stream that the scheduler lists is known

-- A stream of this id is known.
abbrev pub KnownTo : List Stream → ℕ → Type 0
KnownTo ss id = (s : Stream) × (find_stream id ss ≡ some s)

-- The entries of a list are all of known streams.
abbrev pub Listing : List Stream → List Active → Type 0
Listing ss as' = Every (λ (a : Active). KnownTo ss a.stream_id) as'

-- The scheduler in the words lists known streams only.
abbrev pub AllKnown : List ℕ → List ℕ → Type 0
AllKnown ws st = Listing (streams_in ws st) (model_scheduler ws).active

-- Streams set in their places, or mapped, are known as before.
pub known_put : (s : Stream) (ss : List Stream) (id : ℕ) → KnownTo ss id → KnownTo (put_stream s ss) id
known_put s ss id k = elim (is_own stream_key s id) [
  | own e ↦ (s, subst (λ (x : ℕ). find_stream x (put_stream s ss) ≡ some s) e (find_put_same stream_key s ss))
  | other n ↦ (k.0, find_put_other stream_key id s ss n ∙ k.1)
]

pub known_own : (s : Stream) (ss : List Stream) → KnownTo (put_stream s ss) s.id
known_own s ss = (s, find_put_same stream_key s ss)

pub known_map : (f : Stream → Stream) (ss : List Stream) (id : ℕ) → ((s : Stream) → (f s).id ≡ s.id) → KnownTo ss id → KnownTo (map f ss) id
known_map f [] id i k = absurd (not_in_nil stream_key id k.0 k.1)
known_map f (s ∷ ss) id i k = elim (is_own stream_key s id) [
  | own e ↦ (f s, find_here stream_key id (f s) (map f ss) (i s ∙ e))
  | other n ↦ (let r = known_map f ss id i (k.0, sym (find_there stream_key id s ss n) ∙ k.1) in (r.0, find_there stream_key id (f s) (map f ss) (λ e. n (sym (i s) ∙ e)) ∙ r.1))
]

pub listing_streams : (ss ss' : List Stream) (as' : List Active) → ((id : ℕ) → KnownTo ss id → KnownTo ss' id) → Listing ss as' → Listing ss' as'
listing_streams ss ss' as' f l = every_weaken (λ (a : Active). KnownTo ss a.stream_id) (λ (a : Active). KnownTo ss' a.stream_id) as' (λ a k. f a.stream_id k) l

-- One entry set, or taken out.
pub listing_put : (ss : List Stream) (a : Active) (as' : List Active) → KnownTo ss a.stream_id → Listing ss as' → Listing ss (put_active a as')
listing_put ss a as' k l = every_put active_key (λ (x : Active). KnownTo ss x.stream_id) a as' k l

pub listing_without : (ss : List Stream) (id : ℕ) (as' : List Active) → Listing ss as' → Listing ss (without_active id as')
listing_without ss id [] l = subst (Listing ss) (sym (without_nil active_key id)) tt
listing_without ss id (a ∷ as') l = elim (is_own active_key a id) [
  | own e ↦ subst (Listing ss) (sym (without_here active_key id a as' e)) (listing_without ss id as' l.1)
  | other n ↦ subst (Listing ss) (sym (without_there active_key id a as' n)) (l.0, listing_without ss id as' l.1)
]

-- The scheduler's functions, on a known stream.
pub listing_remove : (ss : List Stream) (id : ℕ) (sc : Scheduler) → Listing ss sc.active → Listing ss (remove_stream id sc).active
unfolding remove_stream
listing_remove ss id sc l = listing_without ss id sc.active l

pub listing_set : (ss : List Stream) (id n : ℕ) (w : Weight) (sc : Scheduler) → KnownTo ss id → Listing ss sc.active → Listing ss (set_bytes_remaining id n w sc).active
listing_set ss id zero w sc k l = subst (λ (x : Scheduler). Listing ss x.active) (sym (set_none id w sc)) (listing_remove ss id sc l)
listing_set ss id (suc n) w sc k l =
    let t : ℕ = start_of sc.system_time (find_active id sc.active) in
    subst (λ (x : Scheduler). Listing ss x.active) (sym (set_some id (suc n) w sc (omega arith)))
    (listing_put ss (scheduled sc.payload_limit id w t (suc n)) sc.active (subst (KnownTo ss) (sym (scheduled_id sc.payload_limit id w t (suc n))) k) l)

pub listing_accept : (ss : List Stream) (a : Active) (bytes : ℕ) (sc : Scheduler) → KnownTo ss a.stream_id → Listing ss sc.active → Listing ss (accept a bytes sc).active
unfolding accept accept_last accept_part
listing_accept ss a bytes sc k l = go (leb a.bytes_remaining bytes)
  where
    go : (b : Bool) → Listing ss (if b then accept_last a bytes sc else accept_part a bytes sc).active
    go true = listing_remove ss a.stream_id (record { payload_limit = sc.payload_limit; current = some a.stream_id; system_time = moved a bytes; active = sc.active }) l
    go false = listing_put ss (scheduled sc.payload_limit a.stream_id a.weight (moved a bytes) (a.bytes_remaining - bytes)) sc.active (subst (KnownTo ss) (sym (scheduled_id sc.payload_limit a.stream_id a.weight (moved a bytes) (a.bytes_remaining - bytes))) k) l

-- A well queue's scheduler lists known streams only.
listed_known : (il : Bool) (ss : List Stream) (a : Active) → Listed il ss a → KnownTo ss a.stream_id
listed_known il ss a l = elim (look_up stream_key a.stream_id ss) [
  | found s e ↦ (s, e)
  | missing e ↦ absurd (omega (arith, l.sized, l.positive, size_unknown a.stream_id ss e))
]

pub listing_well : (q : Queue) → Well q → Listing q.streams q.scheduler.active
listing_well q w = every_weaken (Listed q.interleaving q.streams) (λ (a : Active). KnownTo q.streams a.stream_id) q.scheduler.active (listed_known q.interleaving q.streams) w.waits.sched.every

pub all_known : (ws st : List ℕ) → Well (model ws st) → AllKnown ws st
all_known ws st w =
    subst (λ (ss : List Stream). Listing ss (model_scheduler ws).active) (model_streams ws st)
    (subst (λ (sc : Scheduler). Listing (model ws st).streams sc.active) (model_schedules ws st) (listing_well (model ws st) w))

-- ---- room

find_in : (ss : List Stream) (as' : List Active) (k : ℕ) (a : Active) → Listing ss as' → find_active k as' ≡ some a → KnownTo ss k
find_in ss [] k a l e = absurd (not_in_nil active_key k a e)
find_in ss (b ∷ bs) k a l e = elim (is_own active_key b k) [
  | own f ↦ subst (KnownTo ss) f l.0
  | other n ↦ find_in ss bs k a l.1 (sym (find_there active_key k b bs n) ∙ e)
]

-- Entries of known streams are no more than these.
pub listing_length : (ss : List Stream) (as' : List Active) → Rising stream_key ss → Rising active_key as' → Listing ss as' → length as' ≤ length ss
listing_length ss as' r a l = no_longer active_key stream_key as' ss a r (λ k x f. find_in ss as' k x l f)

pub streams_rise : (ws st : List ℕ) → Shape ws st → Rising stream_key (streams_in ws st)
unfolding streams_in
streams_rise ws st g = tab_rising stream_key (stream_in ws st) (totals_at ws).known (rises ws st g)

pub active_is : (ws : List ℕ) → (model_scheduler ws).active ≡ table_of (entry_at ws) (scheduler_at ws).active
unfolding model_scheduler
active_is ws = refl

-- An entry of a stream.
abbrev pub entry_of : ℕ → Active
entry_of id = record { stream_id = id; weight = round_robin; start = 0; finish = 0; bytes_remaining = 0 }

module _ (ws st : List ℕ) (g : Shape ws st) (a : AllKnown ws st) where
  pub rows_few : (scheduler_at ws).active ≤ (totals_at ws).known
  rows_few =
      let l : Listing (streams_in ws st) (table_of (entry_at ws) (scheduler_at ws).active) = subst (Listing (streams_in ws st)) (active_is ws) a in
      omega (
        arith,
        listing_length (streams_in ws st) (table_of (entry_at ws) (scheduler_at ws).active) (streams_rise ws st g) (rising_table (entry_at ws) (scheduler_at ws).active) l,
        table_length (entry_at ws) (scheduler_at ws).active g.schedules.unlike,
        streams_length ws st g,
      )

  -- A known stream has a row, or there is a row for it.
  pub room_of : (id : ℕ) → KnownTo (streams_in ws st) id → Room ws id
  room_of id k = elim (where_is (entry_at ws) (scheduler_at ws).active id) [
    | at i h e ↦ listed i h e
    | nowhere f ↦ free (fewer f)
  ]
    where
      fewer : ((i : ℕ) → i < (scheduler_at ws).active → (entry_at ws i).stream_id ≡ id → ⊥) → (scheduler_at ws).active < 256
      fewer f =
          let t : List Active = table_of (entry_at ws) (scheduler_at ws).active in
          let l : Listing (streams_in ws st) t = subst (Listing (streams_in ws st)) (active_is ws) a in
          let b = listing_length (streams_in ws st) (put_active (entry_of id) t) (streams_rise ws st g) (rising_put active_key (entry_of id) t (rising_table (entry_at ws) (scheduler_at ws).active)) (listing_put (streams_in ws st) (entry_of id) t k l) in
          let s = sum_put_new active_key (λ (x : Active). 1) (entry_of id) t (table_none (entry_at ws) (scheduler_at ws).active id f) in
          omega (arith, b, s, length_sum (put_active (entry_of id) t), length_sum t, table_length (entry_at ws) (scheduler_at ws).active g.schedules.unlike, streams_length ws st g, g.known_fits)

-- A known id is that of a position, and fits.
pub known_fits_id : (ws st : List ℕ) (g : Shape ws st) (id : ℕ) → KnownTo (streams_in ws st) id → id < 65536
known_fits_id ws st g id k = go (lookup ws st g id)
  where
    go : Lookup ws st id → id < 65536
    go (known_at_lem i h e f s) = subst (λ (x : ℕ). x < 65536) e (known_at_fits ws i).id_fits
    go (new_at p h lo hi f s) = let z : ◌≡◌ {A = ℕ} 0 1 = cc (s, k.1) in absurd (omega arith)

pub known_position : (ws st : List ℕ) (g : Shape ws st) (i : ℕ) → i < (totals_at ws).known → KnownTo (streams_in ws st) (id_at ws i)
known_position ws st g i h = (stream_in ws st i, found_at ws st g i h)

-- ---- the scheduler's functions

pub weight_is : (il : Bool) (p : ℕ) (s : Stream) → s.priority ≡ p → weight_of_words (parameters_for il p) ≡ weight_of il s
unfolding weight_of
weight_is true p s e = rw e
weight_is false p s e = refl

-- What one of them leaves: nothing else is touched, the scheduler is the model's, and it lists known streams only.
pub record Let (ws st : List ℕ) (g : Shape ws st) (us : List ℕ) (sc : Scheduler) : Type 0 where
  pub untouched : Untouched ws us
  pub unmoved : Unmoved ws st g us
  pub scheduler : model_scheduler us ≡ sc
  pub known : AllKnown us st

let_of : (ws st : List ℕ) (g : Shape ws st) (us : List ℕ) (sc : Scheduler) → Untouched ws us → GoodScheduler us → model_scheduler us ≡ sc → Listing (streams_in ws st) sc.active → Let ws st g us sc
let_of ws st g us sc u d e l =
    let m : Unmoved ws st g us = shape_scheduler ws st us g u d in
    record {
      untouched = u;
      unmoved = m;
      scheduler = e;
      known = subst (λ (ss : List Stream). Listing ss (model_scheduler us).active) (sym m.streams) (subst (λ (x : Scheduler). Listing (streams_in ws st) x.active) (sym e) l);
    }

module _ (ws st : List ℕ) (g : Shape ws st) (a : AllKnown ws st) (id : ℕ) (k : KnownTo (streams_in ws st) id) where
  -- The scheduler's function on a known stream.
  pub set_known : (bytes : ℕ) (il : Bool) (p : ℕ) → p < 65536 → Let ws st g (set_bytes_remaining_words ws id bytes (parameters_for il p)).next (set_bytes_remaining id bytes (weight_of_words (parameters_for il p)) (model_scheduler ws))
  set_known bytes il p h =
      let us : List ℕ = (set_bytes_remaining_words ws id bytes (parameters_for il p)).next in
      let s : Steps ws (set_bytes_remaining_words ws id bytes (parameters_for il p)) (set_bytes_remaining id bytes (weight_of_words (parameters_for il p)) (model_scheduler ws)) = set_link ws g.schedules id bytes (parameters_for il p) (known_fits_id ws st g id k) (parameters_fit il p h) (room_of ws st g a id k) in
      let_of ws st g us (set_bytes_remaining id bytes (weight_of_words (parameters_for il p)) (model_scheduler ws)) (untouched_set ws id bytes (parameters_for il p)) s.step_good s.step_model
      (listing_set (streams_in ws st) id bytes (weight_of_words (parameters_for il p)) (model_scheduler ws) k a)

  pub rescheduled_link : (il : Bool) (first p : ℕ) → p < 65536 → Let ws st g (rescheduled ws il id first p) (set_bytes_remaining id (head_size_words ws first) (weight_of_words (parameters_for il p)) (model_scheduler ws))
  unfolding rescheduled
  rescheduled_link il first p h = set_known (head_size_words ws first) il p h

-- The scheduler's other functions: a stream's waiting ended, and bytes of a row handed out.
module _ (ws st : List ℕ) (g : Shape ws st) (a : AllKnown ws st) where
  pub remove_known : (id : ℕ) → id < 65536 → Let ws st g (remove_stream_words ws id).next (remove_stream id (model_scheduler ws))
  remove_known id h =
      let s = remove_link ws g.schedules id h in
      let_of ws st g (remove_stream_words ws id).next (remove_stream id (model_scheduler ws)) (untouched_remove ws id) s.step_good s.step_model (listing_remove (streams_in ws st) id (model_scheduler ws) a)

  -- The stream of a row is known.
  pub row_known : (i : ℕ) → i < (scheduler_at ws).active → KnownTo (streams_in ws st) (entry_at ws i).stream_id
  row_known i h =
      let t : List Active = table_of (entry_at ws) (scheduler_at ws).active in
      find_in (streams_in ws st) t (entry_at ws i).stream_id (entry_at ws i) (subst (Listing (streams_in ws st)) (active_is ws) a) (table_at (entry_at ws) (scheduler_at ws).active i g.schedules.unlike h)

  pub accept_known : (i bytes : ℕ) → i < (scheduler_at ws).active → Let ws st g (accept_at ws i bytes).next (accept (entry_at ws i) bytes (model_scheduler ws))
  accept_known i bytes h =
      let s = accept_link ws g.schedules i bytes h in
      let_of ws st g (accept_at ws i bytes).next (accept (entry_at ws i) bytes (model_scheduler ws)) (untouched_accept ws i bytes) s.step_good s.step_model (listing_accept (streams_in ws st) (entry_at ws i) bytes (model_scheduler ws) (row_known i h) a)

  -- A row's last bytes: its stream goes on with so many, or waits no more.
  pub last_known : (i sent bytes : ℕ) (il : Bool) (p : ℕ) → i < (scheduler_at ws).active → (entry_at ws i).bytes_remaining ≤ sent → p < 65536
      → Let ws st g (accept_last_words ws i (entry_at ws i).stream_id sent bytes (parameters_for il p)).next (set_bytes_remaining (entry_at ws i).stream_id bytes (weight_of_words (parameters_for il p)) (accept (entry_at ws i) sent (model_scheduler ws)))
  last_known i sent bytes il p h le f =
      let id : ℕ = (entry_at ws i).stream_id in
      let s = last_link ws g.schedules i sent h bytes (parameters_for il p) (parameters_fit il p f) le in
      let_of ws st g (accept_last_words ws i id sent bytes (parameters_for il p)).next (set_bytes_remaining id bytes (weight_of_words (parameters_for il p)) (accept (entry_at ws i) sent (model_scheduler ws))) (untouched_last ws i id sent bytes (parameters_for il p)) s.step_good s.step_model
      (listing_set (streams_in ws st) id bytes (weight_of_words (parameters_for il p)) (accept (entry_at ws i) sent (model_scheduler ws)) (row_known i h) (listing_accept (streams_in ws st) (entry_at ws i) sent (model_scheduler ws) (row_known i h) a))

-- ---- the bytes of a first message

size_cons : (i : plain.Item) (is : List plain.Item) → head_size (i ∷ is) ≡ plain.remaining i
unfolding head_size
size_cons i is = refl

pub head_is : (ws st : List ℕ) (g : Shape ws st) (first : ℕ) (ps : List ℕ) → Linked (next_of ws) first ps → head_size_words ws first ≡ head_size (each (item_in_words ws st) ps)
unfolding head_size_words
head_is ws st g first [] l = rw (le-ltb first 1024 (omega arith)) (sym head_size_nil)
head_is ws st g first (x ∷ xs) l =
    let e : first ≡ x = l.0 in
    let b : first < 1024 = omega (arith, l.1) in
    let n : length (item_in_words ws st x).payload ≡ size_of ws x = item_length ws st g x l.1 in
    rw (lt-ltb first 1024 b, size_cons (item_in_words ws st x) (each (item_in_words ws st) xs), n, offset_is ws st x, e)

-- So a known stream is let wait as in the model: s is it, with its first message in the place `first`.
pub reschedule_sized : (ws st : List ℕ) (g : Shape ws st) → AllKnown ws st → (il : Bool) (s : Stream) (first : ℕ) → KnownTo (streams_in ws st) s.id → s.priority < 65536
    → head_size_words ws first ≡ head_size s.items → Let ws st g (rescheduled ws il s.id first s.priority) (reschedule il s (model_scheduler ws))
reschedule_sized ws st g a il s first k h e =
    subst (Let ws st g (rescheduled ws il s.id first s.priority))
    (rw (weight_is il s.priority s refl, e) (sym (reschedule_of il s (model_scheduler ws))))
    (rescheduled_link ws st g a s.id k il first s.priority h)

pub reschedule_known : (ws st : List ℕ) (g : Shape ws st) → AllKnown ws st → (il : Bool) (s : Stream) (first : ℕ) (ps : List ℕ) → KnownTo (streams_in ws st) s.id → s.priority < 65536
    → Linked (next_of ws) first ps → s.items ≡ each (item_in_words ws st) ps → Let ws st g (rescheduled ws il s.id first s.priority) (reschedule il s (model_scheduler ws))
reschedule_known ws st g a il s first ps k h l e = reschedule_sized ws st g a il s first k h (head_is ws st g first ps l ∙ ap head_size (sym e))
