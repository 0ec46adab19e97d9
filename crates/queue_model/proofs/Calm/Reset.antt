-- Rescheduling many streams, and the whole-queue reset of a calm queue, which is calm. Assumes nothing.
use mathlib.Core.Path.{◌≡◌, refl, sym, ap, ap₂, ◌∙◌, subst}
use mathlib.Core.Bool.{Bool, true, false, ◌||◌}
use mathlib.Core.List.{List, [], ◌∷◌, ◌++◌, map}
use mathlib.Core.Option.{Option, some}
use Prim.Native.Nat.{ℕ, ◌+◌, ◌≤◌, ◌<◌}
use native.Mathlib.Omega.{arith}
use lib.Dec.{eqb}
use Rattle.std.specs.Prelude.{if◌then◌else◌}
use Rattle.queue_model.specs.Table.{find}
use Rattle.queue_model.specs.Types.{Item, Stream, Active, Scheduler, Options, done, Step, reply}
use Rattle.queue_model.specs.Streams.{find_stream, put_stream, reschedule, reschedule_each, some_items, has_items, occupied, amounts, stream_key}
use Rattle.queue_model.specs.Refusals.{max_word}
use Rattle.queue_model.specs.Reset.{model_put_back, model_whole_item, whole_head, reset_stream, all_put_back, reset, reset_checks}
use Rattle.queue_model.proofs.Tests.{ltb_false}
use Rattle.queue_model.proofs.Table.{put_later, put_here, put_end, After, Rising, rising_put, empty, first, split, Every, every_weaken}
use Rattle.queue_model.proofs.Checks.{checked_past}
use Rattle.queue_model.proofs.Scheduler.{each_nil, each_cons}
use Rattle.queue_model.proofs.Streams.{unsent_bytes}
use Rattle.queue_model.proofs.PutBack.{put_back_fits, no_overflow, reset_amounts}
use Rattle.queue_model.proofs.Calm.Entries.{entries, actives, actives_none}
use Rattle.queue_model.proofs.Calm.Calm.{still_some, GoodItem, GoodItems, GoodStream, AllGood, GoodStreams, calm_scheduler, calm, same_active, reschedule_put, HeadAt}
use Rattle.queue_model.proofs.Calm.Solo.{Solo}

-- ---- rescheduling the streams of a list that have messages

put_if : List Item → Stream → List Stream → List Stream
put_if [] s xs = xs
put_if (i ∷ is) s xs = put_stream s xs

-- Put every stream of a list that has messages.
put_waiting : List Stream → List Stream → List Stream
unfolding put_if
put_waiting [] xs = xs
put_waiting (s ∷ ss) xs = put_waiting ss (put_if s.items s xs)

abbrev AllItems : List Stream → Type 0
AllItems ss = Every (λ (s : Stream). GoodItems s.items) ss

rising_put_if : (is : List Item) (s : Stream) (xs : List Stream) → Rising stream_key xs → Rising stream_key (put_if is s xs)
unfolding put_if
rising_put_if [] s xs r = r
rising_put_if (i ∷ is) s xs r = rising_put stream_key s xs r

-- One stream of the list.
one_put : (o : Options) (il : Bool) (c : Option ℕ) (s : Stream) (xs : List Stream) → GoodItems s.items → Rising stream_key xs → (if has_items s then reschedule il s (calm_scheduler o il c xs) else calm_scheduler o il c xs) ≡ calm_scheduler o il c (put_if s.items s xs)
unfolding has_items put_if
one_put o il c s xs g r = elim (split s.items) [
  | empty e ↦ ap (λ (is : List Item). if some_items is then reschedule il s (calm_scheduler o il c xs) else calm_scheduler o il c xs) e ∙ ap (λ (is : List Item). calm_scheduler o il c (put_if is s xs)) (sym e)
  | first i is e ↦ ap (λ (is : List Item). if some_items is then reschedule il s (calm_scheduler o il c xs) else calm_scheduler o il c xs) e ∙ reschedule_put o il c s xs r g ∙ ap (λ (d : Option ℕ). calm_scheduler o il d (put_stream s xs)) (still_some s.id s.items i is c e) ∙ ap (λ (is : List Item). calm_scheduler o il c (put_if is s xs)) (sym e)
]

each_put : (o : Options) (il : Bool) (c : Option ℕ) (rs xs : List Stream) → AllItems rs → Rising stream_key xs → reschedule_each il has_items rs (calm_scheduler o il c xs) ≡ calm_scheduler o il c (put_waiting rs xs)
unfolding put_waiting
each_put o il c [] xs g r = each_nil il has_items (calm_scheduler o il c xs)
each_put o il c (s ∷ ss) xs g r =
    each_cons il has_items s ss (calm_scheduler o il c xs) ∙ ap (reschedule_each il has_items ss) (one_put o il c s xs g.0 r) ∙ each_put o il c ss (put_if s.items s xs) g.1 (rising_put_if s.items s xs r)

put_if_later : (is : List Item) (s r : Stream) (xs : List Stream) → r.id < s.id → put_if is s (r ∷ xs) ≡ r ∷ put_if is s xs
unfolding put_if
put_if_later [] s r xs h = refl
put_if_later (i ∷ is) s r xs h = put_later stream_key s r xs h

put_waiting_later : (r : Stream) (ss xs : List Stream) → After stream_key r.id ss → put_waiting ss (r ∷ xs) ≡ r ∷ put_waiting ss xs
unfolding put_waiting
put_waiting_later r [] xs a = refl
put_waiting_later r (s ∷ ss) xs a = ap (put_waiting ss) (put_if_later s.items s r xs a.0) ∙ put_waiting_later r ss (put_if s.items s xs) a.1

-- Putting the streams of a rising list one after another makes their entries.
put_all_actives : (limit : ℕ) (il : Bool) (ss : List Stream) → Rising stream_key ss → actives limit il (put_waiting ss []) ≡ actives limit il ss
unfolding put_waiting
put_all_actives limit il [] a = refl
put_all_actives limit il (s ∷ ss) a = elim (split s.items) [
  | empty e ↦ ap (λ (l : List Item). actives limit il (put_waiting ss (put_if l s []))) e ∙ put_all_actives limit il ss a.1 ∙ sym (actives_none limit il s ss e)
  | first i is e ↦ ap (λ (l : List Item). actives limit il (put_waiting ss (put_if l s []))) e ∙ ap (λ (l : List Stream). actives limit il (put_waiting ss l)) (put_end stream_key s)
      ∙ ap (actives limit il) (put_waiting_later s ss [] a.0) ∙ ap (λ (l : List Active). entries limit il s s.items ++ l) (put_all_actives limit il ss a.1)
]

-- A new queue's scheduler, after every stream with messages is let wait.
pub each_new : (o : Options) (il : Bool) (c : Option ℕ) (ss : List Stream) → Rising stream_key ss → AllItems ss → reschedule_each il has_items ss (calm_scheduler o il c []) ≡ calm_scheduler o il c ss
each_new o il c ss r g = each_put o il c ss [] g tt ∙ same_active o il c (put_waiting ss []) ss (put_all_actives o.payload_limit il ss r)

-- ---- the whole-queue reset

-- A message put back whole, by either rule.
good_item : (strict : Bool) (i : Item) → GoodItem i → GoodItem (model_whole_item strict i)
good_item true i g = let u = g.unsent in record { unsent = omega arith; small = g.small; lasting = g.lasting; id_fits = g.id_fits; unnumbered = λ e. refl }
good_item false i g = let u = g.unsent in record { unsent = omega arith; small = g.small; lasting = g.lasting; id_fits = g.id_fits; unnumbered = g.unnumbered }

pub all_items : (ss : List Stream) → AllGood ss → AllItems ss
all_items [] g = tt
all_items (s ∷ ss) g = (g.0.good_items, all_items ss g.1)

module _ (strict : Bool) where
  after_reset : (k : ℕ) (ss : List Stream) → After stream_key k ss → After stream_key k (map (reset_stream strict) ss)
  unfolding reset_stream
  after_reset k [] a = tt
  after_reset k (s ∷ ss) a = (a.0, after_reset k ss a.1)

  rising_reset : (ss : List Stream) → Rising stream_key ss → Rising stream_key (map (reset_stream strict) ss)
  unfolding reset_stream
  rising_reset [] a = tt
  rising_reset (s ∷ ss) a = (after_reset s.id ss a.0, rising_reset ss a.1)

  good_whole : (is : List Item) → GoodItems is → GoodItems (whole_head strict is)
  unfolding whole_head
  good_whole [] g = tt
  good_whole (i ∷ is) g =
      (good_item strict i g.0, g.1)

  whole_bytes : (is : List Item) → GoodItems is → unsent_bytes (whole_head strict is) ≡ unsent_bytes is + model_put_back is
  unfolding whole_head model_put_back
  whole_bytes [] g = refl
  whole_bytes (i ∷ is) g = let u = g.0.unsent in omega arith

  good_reset_stream : (s : Stream) → GoodStream s → GoodStream (reset_stream strict s)
  unfolding reset_stream
  good_reset_stream s g =
      let a = g.counted in let b = whole_bytes s.items g.good_items in
      record { id_fits = g.id_fits; opened = refl; counted = omega arith; good_items = good_whole s.items g.good_items; ordered_fits = omega arith; unordered_fits = omega arith }

  all_reset : (ss : List Stream) → AllGood ss → AllGood (map (reset_stream strict) ss)
  all_reset [] g = tt
  all_reset (s ∷ ss) g = (good_reset_stream s g.0, all_reset ss g.1)

  pub good_reset : (ss : List Stream) → GoodStreams ss → GoodStreams (map (reset_stream strict) ss)
  good_reset ss g = record { rising = rising_reset ss g.rising; all_good = all_reset ss g.all_good }

  pub reset_id : (s : Stream) → s.id ≡ (reset_stream strict s).id
  unfolding reset_stream
  reset_id s = refl

  pub none_reset : (s : Stream) → s.items ≡ [] → (reset_stream strict s).items ≡ []
  unfolding reset_stream whole_head
  none_reset s e = ap (whole_head strict) e

  pub some_reset : (s : Stream) (i : Item) (is : List Item) → s.items ≡ i ∷ is → (reset_stream strict s).items ≡ model_whole_item strict i ∷ is
  unfolding reset_stream whole_head
  some_reset s i is e = ap (whole_head strict) e

  -- A reset stream takes its own place.
  reset_actives : (limit : ℕ) (il : Bool) (ss : List Stream) → Rising stream_key ss → actives limit il (put_waiting (map (reset_stream strict) ss) ss) ≡ actives limit il (map (reset_stream strict) ss)
  unfolding put_waiting
  reset_actives limit il [] a = refl
  reset_actives limit il (s ∷ ss) a = elim (split s.items) [
    | empty e ↦ (let e' : (reset_stream strict s).items ≡ [] = none_reset s e in
        ap (λ (l : List Item). actives limit il (put_waiting (map (reset_stream strict) ss) (put_if l (reset_stream strict s) (s ∷ ss)))) e'
        ∙ ap (actives limit il) (put_waiting_later s (map (reset_stream strict) ss) ss (after_reset s.id ss a.0))
        ∙ actives_none limit il s (put_waiting (map (reset_stream strict) ss) ss) e ∙ reset_actives limit il ss a.1 ∙ sym (actives_none limit il (reset_stream strict s) (map (reset_stream strict) ss) e'))
    | first i is e ↦ (
        ap (λ (l : List Item). actives limit il (put_waiting (map (reset_stream strict) ss) (put_if l (reset_stream strict s) (s ∷ ss)))) (some_reset s i is e)
        ∙ ap (λ (l : List Stream). actives limit il (put_waiting (map (reset_stream strict) ss) l)) (put_here stream_key (reset_stream strict s) s ss (reset_id s))
        ∙ ap (actives limit il) (put_waiting_later (reset_stream strict s) (map (reset_stream strict) ss) ss (subst (λ (k : ℕ). After stream_key k (map (reset_stream strict) ss)) (reset_id s) (after_reset s.id ss a.0)))
        ∙ ap (λ (l : List Active). entries limit il (reset_stream strict s) (reset_stream strict s).items ++ l) (reset_actives limit il ss a.1))
  ]

  -- ---- finding in a reset list

  pub find_reset : (k : ℕ) (s : Stream) (ss : List Stream) → find_stream k ss ≡ some s → find_stream k (map (reset_stream strict) ss) ≡ some (reset_stream strict s)
  unfolding find reset_stream
  find_reset k s [] e = let z : ◌≡◌ {A = ℕ} 0 1 = cc in absurd (omega arith)
  find_reset k s (r ∷ rs) e = go (eqb r.id k) (λ f. find_reset k s rs f) e
    where
      go : (b : Bool) → (find_stream k rs ≡ some s → find_stream k (map (reset_stream strict) rs) ≡ some (reset_stream strict s))
          → ((if b then some r else find_stream k rs)) ≡ some s
          → ((if b then some (reset_stream strict r) else find_stream k (map (reset_stream strict) rs))) ≡ some (reset_stream strict s)
      go true ih f = let g : r ≡ s = cc in ap (λ (x : Stream). some (reset_stream strict x)) g
      go false ih f = ih f

  pub head_reset : (ss : List Stream) (k : ℕ) (s : Stream) (i : Item) (is : List Item) → HeadAt ss k s i is → HeadAt (map (reset_stream strict) ss) k (reset_stream strict s) (model_whole_item strict i) is
  head_reset ss k s i is h = record { found = find_reset k s ss h.found; items = some_reset s i is h.items }

  pub solo_reset : (k : ℕ) (ss : List Stream) → Solo k ss → Solo k (map (reset_stream strict) ss)
  unfolding reset_stream whole_head
  solo_reset k [] s = tt
  solo_reset k (r ∷ rs) s = ((λ n. ap (whole_head strict) (s.0 n)), solo_reset k rs s.1)

-- ---- the call

pub reset_calm : (o : Options) (il : Bool) (c : Option ℕ) (n : ℕ) (ss : List Stream) → GoodStreams ss → occupied ss ≤ 2000000 → reset (calm o il c n ss) ≡ reply done [] (calm o il c n (map (reset_stream o.strict_restart) ss))
unfolding reset calm
reset_calm o il c n ss g h =
    let strict : Bool = o.strict_restart in
    let counted = every_weaken GoodStream (λ (s : Stream). s.amount ≡ unsent_bytes s.items) ss (λ s a. a.counted) g.all_good in
    let b = put_back_fits ss counted in
    let x : amounts ss + all_put_back ss ≤ max_word = omega arith in
    let f : ℕ → Scheduler → Step = λ t sc. reply done [] (record { options = o; interleaving = il; total = t; next_message_id = n; streams = map (reset_stream strict) ss; scheduler = sc }) in
    checked_past (reset_checks (calm o il c n ss)) (calm o il c n ss) (f (amounts ss + all_put_back ss) (reschedule_each il has_items (map (reset_stream strict) ss) (calm_scheduler o il c ss))) (ap₂ ◌||◌ (ltb_false x) (no_overflow ss counted h), tt)
    ∙ ap₂ f (sym (reset_amounts strict ss))
    (each_put o il c (map (reset_stream strict) ss) ss (all_items (map (reset_stream strict) ss) (all_reset strict ss g.all_good)) g.rising
    ∙ same_active o il c (put_waiting (map (reset_stream strict) ss) ss) (map (reset_stream strict) ss) (reset_actives strict o.payload_limit il ss g.rising))
