-- A calm queue: all streams open, every stream with messages waiting from time 0, one remembered or none. A restored queue is calm, and discarding keeps
-- it so. Assumes nothing.
use mathlib.Core.Path.{◌≡◌, refl, sym, ap, ap₂, ◌∙◌, subst}
use mathlib.Core.Bool.{Bool, true, false, ◌||◌}
use mathlib.Core.List.{List, [], ◌∷◌, ◌++◌}
use mathlib.Core.Option.{Option, none, some}
use Prim.Native.Nat.{ℕ, suc, ◌+◌, ◌-◌, ◌^◌, ◌≤◌, ◌<◌}
use native.Mathlib.Omega.{arith}
use lib.Dec.{eqb}
use lib.ListN.{length}
use Rattle.std.specs.Prelude.{if◌then◌else◌}
use Rattle.queue_model.specs.Table.{find, sum_by}
use Rattle.queue_model.specs.Types.{Item, PauseState, not_paused, Stream, Active, Scheduler, Options, Queue, done, Step, remaining, expired, with_items, reply, refuse}
use Rattle.queue_model.specs.Scheduler.{scheduled, find_active, put_active, without_active, forget, rest_time, remove_stream, start_of, set_bytes_remaining}
use Rattle.queue_model.specs.Streams.{find_stream, put_stream, weight_of, head_size, reschedule, waiting, amounts, stream_key}
use Rattle.queue_model.specs.Refusals.{max_payload, short_of}
use Rattle.queue_model.specs.Amounts.{drop_head_events}
use Rattle.queue_model.specs.Produce.{head, head_of, drop_head, drop_in, head_in}
use Rattle.queue_model.specs.Discard.{discard_at, discard}
use Rattle.queue_model.proofs.Tests.{ltb_false, eqb_true}
use Rattle.queue_model.proofs.Table.{Every, every_put, every_find, Rising, rising_put, sum_put_old, sum_find, empty, first, split, find_key}
use Rattle.queue_model.proofs.Scheduler.{set_none, set_some, reschedule_of}
use Rattle.queue_model.proofs.Streams.{unsent_bytes}
use Rattle.queue_model.proofs.Calm.Entries.{entry, entries, actives, actives_put_none, actives_put_some}

-- ---- good messages and streams

-- A message that waits, not expired at time 0, with numbers of their widths; without a MID its SSN is 0.
pub record GoodItem (i : Item) : Type 0 where
  pub unsent : i.offset < length i.payload
  pub small : length i.payload ≤ max_payload
  pub lasting : expired 0 i.expires_at ≡ false
  pub id_fits : i.message_id < 2 ^ 32
  pub unnumbered : i.mid ≡ none → i.ssn ≡ 0

abbrev pub GoodItems : List Item → Type 0
GoodItems is = Every GoodItem is

pub record GoodStream (s : Stream) : Type 0 where
  pub id_fits : s.id < 2 ^ 16
  pub opened : s.pause_state ≡ not_paused
  pub counted : s.amount ≡ unsent_bytes s.items
  pub good_items : GoodItems s.items
  pub ordered_fits : s.counters.next_ordered_mid < 2 ^ 32
  pub unordered_fits : s.counters.next_unordered_mid < 2 ^ 32

abbrev pub AllGood : List Stream → Type 0
AllGood ss = Every GoodStream ss

pub record GoodStreams (ss : List Stream) : Type 0 where
  pub rising : Rising stream_key ss
  pub all_good : AllGood ss

-- ---- the calm queue of a list of streams

-- c is the remembered stream.
unfoldable pub calm_scheduler : Options → Bool → Option ℕ → List Stream → Scheduler
calm_scheduler o il c ss = record { payload_limit = o.payload_limit; current = c; system_time = 0; active = actives o.payload_limit il ss }

unfoldable pub calm : Options → Bool → Option ℕ → ℕ → List Stream → Queue
unfolding calm_scheduler
calm o il c n ss = record { options = o; interleaving = il; total = amounts ss; next_message_id = n; streams = ss; scheduler = calm_scheduler o il c ss }

-- The remembered stream after a stream with these messages is let wait: forgotten if it is that stream and has none.
pub still : ℕ → List Item → Option ℕ → Option ℕ
still k [] c = forget k c
still k (i ∷ is) c = c

pub still_none : (k : ℕ) (is : List Item) → still k is none ≡ none
unfolding still forget
still_none k [] = refl
still_none k (i ∷ is) = refl

pub still_some : (k : ℕ) (is : List Item) (i : Item) (is' : List Item) (c : Option ℕ) → is ≡ i ∷ is' → still k is c ≡ c
unfolding still
still_some k is i is' c e = ap (λ (l : List Item). still k l c) e

-- ---- rescheduling one stream

rest_zero : (as' : List Active) → rest_time 0 as' ≡ 0
unfolding rest_time
rest_zero [] = refl
rest_zero (a ∷ as') = refl

-- Every entry starts at 0.
abbrev Starts : List Active → Type 0
Starts [] = Unit {0}
Starts (a ∷ as') = (a.start ≡ 0) × Starts as'

start_zero : (k : ℕ) (as' : List Active) → Starts as' → start_of 0 (find_active k as') ≡ 0
unfolding find start_of
start_zero k [] h = refl
start_zero k (a ∷ as') h = go (eqb a.stream_id k) (start_zero k as' h.1)
  where
    go : (b : Bool) → start_of 0 (find_active k as') ≡ 0 → start_of 0 ((if b then some a else find_active k as')) ≡ 0
    go true ih = h.0
    go false ih = ih

actives_start : (limit : ℕ) (il : Bool) (ss : List Stream) → Starts (actives limit il ss)
unfolding scheduled
actives_start limit il [] = tt
actives_start limit il (s ∷ ss) = go s.items (actives_start limit il ss)
  where
    go : (is : List Item) → Starts (actives limit il ss) → Starts (entries limit il s is ++ actives limit il ss)
    go [] h = h
    go (i ∷ is) h = (refl, h)

pub positive_head : (is : List Item) (i : Item) (is' : List Item) → is ≡ i ∷ is' → GoodItems is → 0 < head_size is
unfolding head_size
positive_head [] i is' e g = let z : ◌≡◌ {A = ℕ} 0 1 = cc in absurd (omega arith)
positive_head (j ∷ js) i is' e g = let u = g.0.unsent in omega arith

remove_calm : (o : Options) (il : Bool) (c : Option ℕ) (k : ℕ) (ss : List Stream) → remove_stream k (calm_scheduler o il c ss) ≡
    record { payload_limit = o.payload_limit; current = forget k c; system_time = 0; active = without_active k (actives o.payload_limit il ss) }
unfolding remove_stream calm_scheduler
remove_calm o il c k ss =
    let g : ℕ → Scheduler = λ t. record { payload_limit = o.payload_limit; current = forget k c; system_time = t; active = without_active k (actives o.payload_limit il ss) } in
    ap g (rest_zero (without_active k (actives o.payload_limit il ss)))

-- The calm scheduler with these entries.
pub calm_with : Options → Option ℕ → List Active → Scheduler
calm_with o c as' = record { payload_limit = o.payload_limit; current = c; system_time = 0; active = as' }

unfold_calm : (o : Options) (c : Option ℕ) (as' : List Active) → ◌≡◌ {A = Scheduler} (record { payload_limit = o.payload_limit; current = c; system_time = 0; active = as' }) (calm_with o c as')
unfolding calm_with
unfold_calm o c as' = refl

pub calm_with_of : (o : Options) (il : Bool) (c : Option ℕ) (ss : List Stream) → calm_with o c (actives o.payload_limit il ss) ≡ calm_scheduler o il c ss
unfolding calm_with calm_scheduler
calm_with_of o il c ss = refl

pub same_active : (o : Options) (il : Bool) (c : Option ℕ) (xs ys : List Stream) → actives o.payload_limit il xs ≡ actives o.payload_limit il ys → calm_scheduler o il c xs ≡ calm_scheduler o il c ys
same_active o il c xs ys e = sym (calm_with_of o il c xs) ∙ ap (calm_with o c) e ∙ calm_with_of o il c ys

set_calm : (o : Options) (il : Bool) (c : Option ℕ) (s : Stream) (ss : List Stream) → 0 < head_size s.items →
    set_bytes_remaining s.id (head_size s.items) (weight_of il s) (calm_scheduler o il c ss) ≡ calm_with o c (put_active (entry o.payload_limit il s) (actives o.payload_limit il ss))
unfolding calm_scheduler calm_with
set_calm o il c s ss h =
    set_some s.id (head_size s.items) (weight_of il s) (calm_scheduler o il c ss) h
    ∙ ap (λ (t : ℕ). calm_with o c (put_active (scheduled o.payload_limit s.id (weight_of il s) t (head_size s.items)) (actives o.payload_limit il ss)))
    (start_zero s.id (actives o.payload_limit il ss) (actives_start o.payload_limit il ss))

pub head_size_none : (is : List Item) → is ≡ [] → head_size is ≡ 0
unfolding head_size
head_size_none is e = ap head_size e

-- Rescheduling a stream in a calm scheduler is putting the stream.
pub reschedule_put : (o : Options) (il : Bool) (c : Option ℕ) (s : Stream) (ss : List Stream) → Rising stream_key ss → GoodItems s.items
    → reschedule il s (calm_scheduler o il c ss) ≡ calm_scheduler o il (still s.id s.items c) (put_stream s ss)
unfolding still
reschedule_put o il c s ss r g = elim (split s.items) [
  | empty e ↦ reschedule_of il s (calm_scheduler o il c ss)
      ∙ ap (λ (n : ℕ). set_bytes_remaining s.id n (weight_of il s) (calm_scheduler o il c ss)) (head_size_none s.items e)
      ∙ set_none s.id (weight_of il s) (calm_scheduler o il c ss)
      ∙ remove_calm o il c s.id ss
      ∙ unfold_calm o (forget s.id c) (without_active s.id (actives o.payload_limit il ss))
      ∙ ap (calm_with o (forget s.id c)) (actives_put_none o.payload_limit il s ss r e)
      ∙ calm_with_of o il (forget s.id c) (put_stream s ss)
      ∙ ap (λ (is : List Item). calm_scheduler o il (still s.id is c) (put_stream s ss)) (sym e)
  | first i is e ↦ reschedule_of il s (calm_scheduler o il c ss)
      ∙ set_calm o il c s ss (positive_head s.items i is e g)
      ∙ ap (calm_with o c) (actives_put_some o.payload_limit il s ss i is r e)
      ∙ calm_with_of o il c (put_stream s ss)
      ∙ ap (λ (is : List Item). calm_scheduler o il (still s.id is c) (put_stream s ss)) (sym e)
]

-- ---- goodness

pub good_put : (s : Stream) (ss : List Stream) → GoodStream s → GoodStreams ss → GoodStreams (put_stream s ss)
good_put s ss g h = record { rising = rising_put stream_key s ss h.rising; all_good = every_put stream_key GoodStream s ss g h.all_good }

-- ---- discarding a head of a calm queue

-- The stream without its head.
abbrev pub behead : Stream → Item → List Item → Stream
behead s i is = with_items s (s.amount - remaining i) is

-- A stream of a list of streams, with its head and the rest.
pub record HeadAt (ss : List Stream) (k : ℕ) (s : Stream) (i : Item) (is : List Item) : Type 0 where
  pub found : find_stream k ss ≡ some s
  pub items : s.items ≡ i ∷ is

module _ (ss : List Stream) (k : ℕ) (s : Stream) (i : Item) (is : List Item) (g : GoodStreams ss) (h : HeadAt ss k s i is) where
  pub head_good : GoodStream s
  head_good = every_find stream_key GoodStream k s ss g.all_good h.found

  pub head_items : GoodItems (i ∷ is)
  head_items = subst GoodItems h.items head_good.good_items

  pub head_amount : s.amount ≡ remaining i + unsent_bytes is
  head_amount = head_good.counted ∙ ap unsent_bytes h.items

  pub head_total : s.amount ≤ amounts ss
  head_total = sum_find stream_key (λ (x : Stream). x.amount) k s ss h.found

  pub head_id : s.id ≡ k
  head_id = find_key stream_key k ss s h.found

  pub behead_good : GoodStream (behead s i is)
  behead_good =
      let a = head_amount in
      record { id_fits = head_good.id_fits; opened = head_good.opened; counted = omega arith; good_items = head_items.1; ordered_fits = head_good.ordered_fits; unordered_fits = head_good.unordered_fits }

  find_behead : find_stream (behead s i is).id ss ≡ some s
  find_behead = ap (λ (x : ℕ). find_stream x ss) head_id ∙ h.found

  pub behead_amounts : amounts (put_stream (behead s i is) ss) ≡ amounts ss - remaining i
  behead_amounts =
      let e : sum_by (λ (x : Stream). x.amount) (put_stream (behead s i is) ss) + s.amount ≡ sum_by (λ (x : Stream). x.amount) ss + (s.amount - remaining i) =
      sum_put_old stream_key (λ (x : Stream). x.amount) (behead s i is) s ss g.rising find_behead in
      let a = head_amount in let b = head_total in
      omega arith

  pub behead_waiting : suc (waiting (put_stream (behead s i is) ss)) ≡ waiting ss
  behead_waiting =
      let e : sum_by (λ (x : Stream). length x.items) (put_stream (behead s i is) ss) + length s.items ≡ sum_by (λ (x : Stream). length x.items) ss + length is =
      sum_put_old stream_key (λ (x : Stream). length x.items) (behead s i is) s ss g.rising find_behead in
      let l : length s.items ≡ suc (length is) = ap length h.items in
      omega arith

  module _ (o : Options) (il : Bool) (c : Option ℕ) (n : ℕ) where
    pub not_short : short_of (calm o il c n ss) s (remaining i) ≡ false
    unfolding short_of calm
    not_short =
        let a = head_amount in let b = head_total in
        let x : remaining i ≤ amounts ss = omega arith in
        let y : remaining i ≤ s.amount = omega arith in
        ap₂ ◌||◌ (ltb_false x) (ltb_false y)

    drop_head_calm : drop_head (calm o il c n ss) s i is ≡ calm o il (still s.id is c) n (put_stream (behead s i is) ss)
    unfolding drop_head calm
    drop_head_calm =
        let f : ℕ → Scheduler → Queue = λ t sc. record { options = o; interleaving = il; total = t; next_message_id = n; streams = put_stream (behead s i is) ss; scheduler = sc } in
        ap₂ f (sym behead_amounts) (reschedule_put o il c (behead s i is) ss g.rising head_items.1)

    discard_at_calm : (discard_at i.message_id (calm o il c n ss) (head s i is)).next ≡ drop_in s.pause_state (calm o il c n ss) s i is
    unfolding discard_at
    discard_at_calm =
        let q : Queue = calm o il c n ss in
        ap (λ (b : Bool). ((if b then (if short_of q s (remaining i) then refuse q 16 else reply done (drop_head_events q s i) (drop_in s.pause_state q s i is)) else reply done [] q)).next) (eqb_true {a = i.message_id} refl)
        ∙ ap (λ (b : Bool). ((if b then refuse q 16 else reply done (drop_head_events q s i) (drop_in s.pause_state q s i is))).next) not_short

    pub head_of_found : head_of (find_stream k ss) ≡ head s i is
    unfolding head_of
    head_of_found = ap head_of h.found ∙ ap (head_in s) h.items

    discard_of : discard 2305 k i.message_id (calm o il c n ss) ≡ discard_at i.message_id (calm o il c n ss) (head_of (find_stream k ss))
    unfolding discard calm
    discard_of = refl

    drop_in_open : drop_in not_paused (calm o il c n ss) s i is ≡ drop_head (calm o il c n ss) s i is
    unfolding drop_in
    drop_in_open = refl

    pub discard_calm : (discard 2305 k i.message_id (calm o il c n ss)).next ≡ calm o il (still s.id is c) n (put_stream (behead s i is) ss)
    discard_calm =
        ap (λ (x : Step). x.next) (discard_of ∙ ap (discard_at i.message_id (calm o il c n ss)) head_of_found)
        ∙ discard_at_calm ∙ ap (λ (p : PauseState). drop_in p (calm o il c n ss) s i is) head_good.opened ∙ drop_in_open ∙ drop_head_calm
