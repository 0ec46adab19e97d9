-- The converse: priorities that put the first fragments in the list's order in every run have finish times and ids in that order. Assumes nothing.
use mathlib.Core.Path.{◌≡◌, refl, sym, ap, ap₂, ◌∙◌, subst}
use mathlib.Core.Logic.{◌⊎◌, inl, inr}
use mathlib.Core.Bool.{Bool, true, false, ◌||◌}
use mathlib.Core.List.{List, [], ◌∷◌, ◌++◌, map, append-nil}
use mathlib.Core.Option.{Option, none, some}
use Prim.Native.Nat.{ℕ, zero, suc, ◌+◌}
use native.Mathlib.Omega.{arith}
use lib.Dec.{eqb, eqb→eq}
use lib.ListN.{length, replicate, length-replicate}
use Rattle.std.specs.Prelude.{if◌then◌else◌}
use Rattle.queue_model.specs.Logic.{any}
use Rattle.queue_model.specs.Types.{Active, Options, Queue, expired}
use Rattle.queue_model.specs.Scheduler.{find_active, comes_before}
use Rattle.queue_model.specs.Add.{expiry}
use Rattle.queue_model.specs.FairTurns.{none_expired}
use Rattle.queue_model.specs.Demands.{AllTyped}
use Rattle.queue_model.specs.Run.{run}
use Rattle.queue_model.proofs.Tests.{holds, ltb_false, eqb_true, eqb_false, less, same, more, tri}
use Rattle.queue_model.proofs.Checks.{or_left, or_right}
use Rattle.queue_model.proofs.Invariant.Well.{Well}
use Rattle.priority_plan.specs.Works.{PlannedStream, entries, All, InOrder}
use Rattle.priority_plan.specs.Lists.{named_twice}
use Rattle.priority_plan.specs.Jobs.{Adding, Asking, ask, later_call, times, added_later, Prepared, AllPairs, set_up, loaded, adding_call}
use Rattle.priority_plan.specs.Turns.{remove, streams_shown, firsts, still_without, ends, Lasting, stream_ids}
use Rattle.priority_plan.specs.Runs.{Accepts, Request13Entries, Request13Order, Request13Served, Request13Only, Listed}
use Rattle.priority_plan.proofs.Lasting.{all_last, none_expires}
use Rattle.priority_plan.proofs.LeastSet.{Before, sooner, level, comes}
use Rattle.priority_plan.proofs.Turns.{Ready, ids_of, Timely, turns, IsInTurn}
use Rattle.priority_plan.proofs.Loading.{loaded_well, loaded_on, loaded_free, loaded_options, up_lasting}
use Rattle.priority_plan.proofs.Request.{request13_entries, request13_order, entries_listed, entries_ids}
use Rattle.priority_plan.proofs.More.{lasting_adds}
use Rattle.priority_plan.proofs.Live.{live}
use Rattle.priority_plan.proofs.Loops.{or_true}

-- ---- runs of askings alone

none_added : (xs : List Asking) → added_later (map ask xs) ≡ []
none_added [] = refl
none_added (x ∷ xs) = none_added xs

asked_times : (q : Queue) (xs : List Asking) → All (λ (x : Asking). none_expired x.now q ≡ true) xs → All (λ (t : ℕ). none_expired t q ≡ true) (times (map ask xs))
asked_times q [] n = tt
asked_times q (x ∷ xs) n = (n.0, asked_times q xs n.1)

nothing_lasts : (ts : List ℕ) → All (λ (t : ℕ). Lasting t []) ts
nothing_lasts [] = tt
nothing_lasts (t ∷ ts) = (tt, nothing_lasts ts)

timely_asks : (q : Queue) (xs : List Asking) → All (λ (x : Asking). none_expired x.now q ≡ true) xs → Timely (map ask xs) q
timely_asks q xs n = record {
  typed = subst (λ (l : List Adding). AllTyped (map adding_call l)) (sym (none_added xs)) tt;
  waiting_last = all_last (λ (t : ℕ). t) q (times (map ask xs)) (asked_times q xs n);
  added_last = subst (λ (l : List Adding). All (λ (t : ℕ). Lasting t l) (times (map ask xs))) (sym (none_added xs)) (nothing_lasts (times (map ask xs)));
}

-- Enough calls serve every listed stream.
pub request13_served : Request13Served
unfolding Request13Served Request13Order
request13_served o hs ps ss as' xs j w a n h =
    let q : Queue = loaded o ss as' in
    let t = timely_asks q xs n in
    let it = request13_order o hs ps ss as' (map ask xs) j w t.typed (asked_times q xs n) t.added_last in
    let sh : List ℕ = streams_shown (run (map later_call (map ask xs)) (loaded o ss as')) in
    let e : ends (run (map later_call (map ask xs)) (loaded o ss as')) ≡ true =
    live xs q (loaded_well o hs ps ss as' j) (loaded_on o hs ps ss as' j) (loaded_free o hs ps ss as' j)
    (subst (λ (z : Options). All (Accepts z) xs) (sym (loaded_options o hs ps ss as' j)) a) (all_last (λ (x : Asking). x.now) q xs n) h in
    sym (it.in_turn ∙ ap (λ (l : List ℕ). firsts (stream_ids hs) (streams_shown (run (map later_call (map ask xs)) (loaded o ss as'))) ++ l) (it.all_served e) ∙ append-nil (firsts (stream_ids hs) sh))

-- ---- which of two streams is shown first

first_of : ℕ → ℕ → List ℕ → Option ℕ
first_of i j [] = none
first_of i j (s ∷ ss) = if eqb s i then some i else if eqb s j then some j else first_of i j ss

abbrev Has : ℕ → List ℕ → Type 0
Has k is = any (eqb k) is ≡ true

abbrev Precedes : ℕ → ℕ → List ℕ → Type 0
Precedes i j [] = ⊥
Precedes i j (k ∷ is) = ((k ≡ i) × Has j is) ⊎ Precedes i j is

not_there : (s : ℕ) (is : List ℕ) → any (eqb s) is ≡ false → remove s is ≡ is
unfolding any remove
not_there s [] e = refl
not_there s (i ∷ is) e =
    let n : i ≡ s → ⊥ = λ g. holds false (sym (or_left (eqb s i) (any (eqb s) is) e) ∙ eqb_true (sym g)) in
    ap (λ (b : Bool). if b then is else i ∷ remove s is) (eqb_false n) ∙ ap (λ (l : List ℕ). i ∷ l) (not_there s is (or_right (eqb s i) (any (eqb s) is) e))

skip_back : (s : ℕ) (is ss : List ℕ) → any (eqb s) is ≡ false → IsInTurn is (s ∷ ss) → IsInTurn is ss
unfolding firsts still_without
skip_back s is ss e t = t ∙ ap₂ ◌++◌ (ap (λ (b : Bool). if b then s ∷ firsts (remove s is) ss else firsts is ss) e) (ap (λ (l : List ℕ). still_without l ss) (not_there s is e))

take_back : (s : ℕ) (is ss : List ℕ) → any (eqb s) is ≡ true → IsInTurn is (s ∷ ss) → is ≡ s ∷ (firsts (remove s is) ss ++ still_without (remove s is) ss)
unfolding firsts still_without
take_back s is ss e t = t ∙ ap (λ (b : Bool). (if b then s ∷ firsts (remove s is) ss else firsts is ss) ++ still_without (remove s is) ss) e

take_front : (s k : ℕ) (is ss : List ℕ) → any (eqb s) (k ∷ is) ≡ true → IsInTurn (k ∷ is) (s ∷ ss) → (k ≡ s) × IsInTurn is ss
unfolding remove
take_front s k is ss e t =
    let z : k ∷ is ≡ s ∷ (firsts (remove s (k ∷ is)) ss ++ still_without (remove s (k ∷ is)) ss) = take_back s (k ∷ is) ss e t in
    let y : k ≡ s = cc in
    let x : is ≡ firsts (remove s (k ∷ is)) ss ++ still_without (remove s (k ∷ is)) ss = cc in
    (y, x ∙ ap (λ (b : Bool). firsts (if b then is else k ∷ remove s is) ss ++ still_without (if b then is else k ∷ remove s is) ss) (eqb_true y))

has_second : (i j : ℕ) (is : List ℕ) → Precedes i j is → Has j is
unfolding any
has_second i j [] p = absurd p
has_second i j (k ∷ is) (inl p) = or_true (eqb j k) (any (eqb j) is) p.1
has_second i j (k ∷ is) (inr p) = or_true (eqb j k) (any (eqb j) is) (has_second i j is p)

-- In a list that names none twice, what precedes is another.
precedes_other : (i j : ℕ) (is : List ℕ) → named_twice is ≡ false → Precedes i j is → i ≡ j → ⊥
unfolding named_twice
precedes_other i j [] d p e = absurd p
precedes_other i j (k ∷ is) d (inl p) e = holds false (sym (or_left (any (eqb k) is) (named_twice is) d) ∙ subst (λ (x : ℕ). any (eqb x) is ≡ true) (sym (p.0 ∙ e)) p.1)
precedes_other i j (k ∷ is) d (inr p) e = precedes_other i j is (or_right (any (eqb k) is) (named_twice is) d) p e

-- In turn, the later one of two is not shown first.
not_second : (i j : ℕ) (is ss : List ℕ) → named_twice is ≡ false → Precedes i j is → IsInTurn is ss → first_of i j ss ≡ some j → ⊥
unfolding first_of named_twice
not_second i j is [] d p t e = let z : ◌≡◌ {A = ℕ} 0 1 = cc in omega arith
not_second i j [] (s ∷ ss) d p t e = p
not_second i j (k ∷ is) (s ∷ ss) d p t e =
    front_or (any (eqb s) (k ∷ is)) refl (λ q u v. not_second i j is ss (or_right (any (eqb k) is) (named_twice is) d) q u v) (λ u v. not_second i j (k ∷ is) ss d p u v)
  where
    ij : i ≡ j → ⊥
    ij = precedes_other i j (k ∷ is) d p

    past : (s ≡ i → ⊥) → (s ≡ j → ⊥) → first_of i j ss ≡ some j
    past n m = ap (λ (b : Bool). if b then some j else first_of i j ss) (sym (eqb_false m)) ∙ ap (λ (b : Bool). if b then some i else if eqb s j then some j else first_of i j ss) (sym (eqb_false n)) ∙ e

    not_i : s ≡ i → ⊥
    not_i g =
        let z : some i ≡ some j = ap (λ (b : Bool). if b then some i else if eqb s j then some j else first_of i j ss) (sym (eqb_true g)) ∙ e in
        let y : i ≡ j = cc in ij y

    front_or : (b : Bool) → any (eqb s) (k ∷ is) ≡ b → (Precedes i j is → IsInTurn is ss → first_of i j ss ≡ some j → ⊥) → (IsInTurn (k ∷ is) ss → first_of i j ss ≡ some j → ⊥) → ⊥
    front_or true f r q =
        let tf = take_front s k is ss f t in
        split p tf.0 tf.1 r
      where
        split : Precedes i j (k ∷ is) → k ≡ s → IsInTurn is ss → (Precedes i j is → IsInTurn is ss → first_of i j ss ≡ some j → ⊥) → ⊥
        split (inl x) ks u r = not_i (sym ks ∙ x.0)
        split (inr x) ks u r = r x u (past not_i (λ g. holds false (sym (or_left (any (eqb k) is) (named_twice is) d) ∙ subst (λ (y : ℕ). any (eqb y) is ≡ true) (sym (ks ∙ g)) (has_second i j is x))))
    front_or false f r q = q (skip_back s (k ∷ is) ss f t) (past not_i (λ g. holds false (sym f ∙ subst (λ (y : ℕ). any (eqb y) (k ∷ is) ≡ true) (sym g) (has_second i j (k ∷ is) p))))

-- Where both are served in turn, the first one of the two is shown first.
first_shown : (i j : ℕ) (ss : List ℕ) → (i ≡ j → ⊥) → IsInTurn (j ∷ i ∷ []) ss → still_without (j ∷ i ∷ []) ss ≡ [] → first_of i j ss ≡ some j
unfolding first_of still_without any
first_shown i j [] n t e = let z : ◌≡◌ {A = ℕ} 0 1 = cc in absurd (omega arith)
first_shown i j (s ∷ ss) n t e = go (eqb s i) refl (eqb s j) refl (λ u v. first_shown i j ss n u v)
  where
    go : (x : Bool) → eqb s i ≡ x → (y : Bool) → eqb s j ≡ y → (IsInTurn (j ∷ i ∷ []) ss → still_without (j ∷ i ∷ []) ss ≡ [] → first_of i j ss ≡ some j) → (if x then some i else if y then some j else first_of i j ss) ≡ some j
    go true f y g r =
        let si : s ≡ i = eqb→eq s i (holds (eqb s i) f) in
        let h : any (eqb s) (j ∷ i ∷ []) ≡ true = or_true (eqb s j) (eqb s i || false) (ap (λ (b : Bool). b || false) f) in
        absurd (n (sym si ∙ sym (take_front s j (i ∷ []) ss h t).0))
    go false f true g r = refl
    go false f false g r =
        let h : any (eqb s) (j ∷ i ∷ []) ≡ false = ap₂ (λ (b c : Bool). b || (c || false)) g f in
        r (skip_back s (j ∷ i ∷ []) ss h t) (ap (λ (l : List ℕ). still_without l ss) (sym (not_there s (j ∷ i ∷ []) h)) ∙ e)

-- ---- the order of entries

other_first : (a b : Active) → comes_before a b ≡ false → (a.stream_id ≡ b.stream_id → ⊥) → Before b a
other_first a b e n = elim (tri a.finish b.finish) [
  | less l ↦ absurd (holds false (sym e ∙ comes a b (sooner l)))
  | more l ↦ sooner l
  | same f ↦ elim (tri a.stream_id b.stream_id) [
    | less l ↦ absurd (holds false (sym e ∙ comes a b (level f l)))
    | same g ↦ absurd (n g)
    | more l ↦ level (sym f) l
  ]
]

-- Entries are in order where each pair of them is.
pairs_behind : (a : Active) (as' : List Active) (P : Active → Type 0) → (whole : List ℕ) → ((b : Active) → P b → Has b.stream_id whole → comes_before a b ≡ true) → All P as' → ((k : ℕ) → Has k (ids_of as') → Has k whole) → All (λ (b : Active). comes_before a b ≡ true) as'
unfolding any
pairs_behind a [] P whole h p m = tt
pairs_behind a (b ∷ bs) P whole h p m =
    (h b p.0 (m b.stream_id (ap (λ (x : Bool). x || any (eqb b.stream_id) (ids_of bs)) (eqb_true {a = b.stream_id} refl))), pairs_behind a bs P whole h p.1 (λ k g. m k (or_true (eqb k b.stream_id) (any (eqb k) (ids_of bs)) g)))

pairs_in_order : (P : Active → Type 0) (whole : List ℕ) → ((a b : Active) → P a → P b → Precedes a.stream_id b.stream_id whole → comes_before a b ≡ true) → (as' : List Active) → All P as' → ((i j : ℕ) → Precedes i j (ids_of as') → Precedes i j whole) → InOrder as'
pairs_in_order P whole h [] p m = tt
pairs_in_order P whole h (a ∷ as') p m =
    (pairs_behind a as' P (ids_of as') (λ b pb hb. h a b p.0 pb (m a.stream_id b.stream_id (inl (refl, hb)))) p.1 (λ k g. g), pairs_in_order P whole h as' p.1 (λ i j q. m i j (inr q)))

-- ---- the converse

-- A call that asks for one byte at time 0.
one_byte : Options → Asking
one_byte o = record { store = o.store_length; places = 2305; buffer = 1; now = 0; size = 1 }

never_at_zero : (as' : List Adding) → Lasting 0 as'
unfolding expiry
never_at_zero [] = tt
never_at_zero (a ∷ as') = (go a.message.lifetime, never_at_zero as')
  where
    go : (l : Option ℕ) → expired 0 (expiry a.now l) ≡ false
    go none = refl
    go (some l) = ltb_false {a = a.now + l + 1000000} {b = 1} (omega arith)

all_same : (P : Asking → Type 0) (x : Asking) (n : ℕ) → P x → All P (replicate n x)
all_same P x zero p = tt
all_same P x (suc n) p = (p, all_same P x n p)

pairs_count : (P : PlannedStream → ℕ → Type 0) (hs : List PlannedStream) (ps : List ℕ) → AllPairs P hs ps → length ps ≡ length hs
pairs_count P [] [] a = refl
pairs_count P [] (p ∷ ps) a = absurd a
pairs_count P (h ∷ hs) [] a = absurd a
pairs_count P (h ∷ hs) (p ∷ ps) a = ap suc (pairs_count P hs ps a.1)

pub request13_only : Request13Only
unfolding Request13Only Request13Entries one_byte
request13_only o hs ps ss as' j al d every =
    record {
      count = pairs_count (Prepared ss as') hs ps j.prepared;
      allowed = al;
      order = pairs_in_order Here (stream_ids hs) pair (entries o.payload_limit hs ps) (entries_listed o.payload_limit (loaded o ss as').scheduler.active hs ps l.all_listed) (λ i k p. subst (Precedes i k) (entries_ids o.payload_limit (Prepared ss as') hs ps j.prepared) p);
    }
  where
    q : Queue
    q = loaded o ss as'

    l : Listed o.payload_limit hs ps (loaded o ss as')
    l = request13_entries o hs ps ss as' j

    Here : Active → Type 0
    Here e = find_active e.stream_id (loaded o ss as').scheduler.active ≡ some e

    well : Well (loaded o ss as')
    well = loaded_well o hs ps ss as' j

    on : (loaded o ss as').interleaving ≡ true
    on = loaded_on o hs ps ss as' j

    free : (loaded o ss as').scheduler.current ≡ none
    free = loaded_free o hs ps ss as' j

    same_options : (loaded o ss as').options ≡ o
    same_options = loaded_options o hs ps ss as' j

    xs : List Asking
    xs = replicate (suc (loaded o ss as').total) (one_byte o)

    accepts : All (Accepts o) xs
    accepts = all_same (Accepts o) (one_byte o) (suc (loaded o ss as').total) (record { store_same = refl; places_enough = omega arith; time_fits = omega arith; size_low = omega arith; size_high = omega arith; buffer_fits = omega arith })

    lasting : All (λ (x : Asking). none_expired x.now (loaded o ss as') ≡ true) xs
    lasting =
        all_same (λ (x : Asking). none_expired x.now (loaded o ss as') ≡ true) (one_byte o) (suc (loaded o ss as').total)
        (none_expires 0 (loaded o ss as') (lasting_adds 0 as' (set_up o ss) (up_lasting o hs ps ss as' j 0) (never_at_zero as')))

    never_expires : All (λ (x : Asking). Lasting x.now as') xs
    never_expires = all_same (λ (x : Asking). Lasting x.now as') (one_byte o) (suc (loaded o ss as').total) (never_at_zero as')

    ended : ends (run (map later_call (map ask xs)) (loaded o ss as')) ≡ true
    ended = let n = length-replicate (suc (loaded o ss as').total) (one_byte o) in live xs (loaded o ss as') well on free (subst (λ (z : Options). All (Accepts z) xs) (sym same_options) accepts) (all_last (λ (x : Asking). x.now) (loaded o ss as') xs lasting) (omega arith)

    pair : (a b : Active) → Here a → Here b → Precedes a.stream_id b.stream_id (stream_ids hs) → comes_before a b ≡ true
    pair a b ha hb p = go (comes_before a b) refl
      where
        n : a.stream_id ≡ b.stream_id → ⊥
        n = precedes_other a.stream_id b.stream_id (stream_ids hs) d p

        go : (x : Bool) → comes_before a b ≡ x → x ≡ true
        go true e = refl
        go false e =
            let r : Ready (b ∷ a ∷ []) (loaded o ss as') = record { well = well; on = on; free = free; listed = (hb, (ha, tt)); order = ((comes b a (other_first a b e n), tt), (tt, tt)) } in
            let t = turns (map ask xs) (b ∷ a ∷ []) (loaded o ss as') r (timely_asks (loaded o ss as') xs lasting) in
            let f = first_shown a.stream_id b.stream_id (streams_shown (run (map later_call (map ask xs)) (loaded o ss as'))) n t.in_turn (t.all_served ended) in
            absurd (not_second a.stream_id b.stream_id (stream_ids hs) (streams_shown (run (map later_call (map ask xs)) (loaded o ss as'))) d p (every xs accepts never_expires).in_turn f)
