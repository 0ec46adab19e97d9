-- A message handed out: its payloads lie in the buffer one after another, and its rows are free. Assumes nothing.
use mathlib.Core.Path.{◌≡◌, refl, sym, ap, ap₂, ◌∙◌, subst}
use mathlib.Core.Bool.{Bool, true, false}
use mathlib.Core.List.{List, [], ◌∷◌, ◌++◌, map, append_assoc, append-nil}
use Prim.Native.Nat.{ℕ, zero, suc, ◌+◌, ◌-◌, ◌≤◌, ◌<◌}
use native.Mathlib.Omega.{arith}
use lib.ListN.{length, take, drop, length-append}
use lib.Seq.{length-take-le, take_at, drop_at, drop-drop}
use borrow.Author.Tests.{lt-leb, le-ltb}
use Rattle.queue_words.specs.Flags.{bit}
use Rattle.queue_model.specs.Table.{sum_by}
use Rattle.payload_store.specs.Putting.{written}
use Rattle.payload_store.proofs.Puts.{written_length}
use Rattle.receiver_model.specs.Lists.{count, keep, join}
use Rattle.receiver_model.proofs.Lists.{Value, yes_is, no_is, value, count_nil, count_here, count_there, count_cons, equal, other, compare_same}
use Rattle.receiver_words.specs.Fragments.{fragment_at}
use Rattle.receiver_words.specs.Index.{same_key_words, find_row}
use Rattle.receiver_words.specs.Link.{first_key}
use Rattle.receiver_words.specs.Ages.{without}
use Rattle.receiver_words.specs.declared.fragments.Fragment.{Fragment}
use Rattle.receiver_words.proofs.Rows.{stands_here, head_once, without_here, without_there, count_without, count_without_other}
use Rattle.receiver_messages.specs.Keys.{following}
use Rattle.receiver_messages.specs.Walks.{part_after}
use Rattle.receiver_store.specs.Words.{place_of, size_of, payload_of, end_of}
use Rattle.receiver_store.specs.Packing.{misplaced}
use Rattle.receiver_store.specs.Reading.{read_payload}
use Rattle.receiver_store.specs.Good.{Laid}
use Rattle.receiver_store.proofs.Lies.{in_lies}
use Rattle.receiver_store.proofs.Orders.{onto, sum_same, sum_without, below_in}
use Rattle.receiver_store.proofs.Packs.{payload_words}
use Rattle.receiver_store.proofs.Laws.{read_law, payload_length}
use Rattle.receiver_fragments.specs.Freeing.{measure, measured, free_row, HandedOut, handed_out_words, hand_out}
use Rattle.linked_receiver.specs.Rows.{Indexed}
use Rattle.linked_receiver.specs.Good.{Walk}
use Rattle.linked_receiver.proofs.Found.{find_indexed}
use Rattle.linked_receiver.proofs.Frees.{Freed, freed_both, freed_fragment, Holds, held_rows, held_once, held_few, free_law}

-- ------------------------------------------------------------------ what is found after a row is freed

module _ (ws : List ℕ) (k : ℕ) (f : Fragment) (x : ℕ) (xs : List ℕ) where
  first_here : same_key_words k (fragment_at ws x) f ≡ true → first_key ws k f (x ∷ xs) ≡ x
  unfolding first_key
  first_here e = rw e

  first_there : same_key_words k (fragment_at ws x) f ≡ false → first_key ws k f (x ∷ xs) ≡ first_key ws k f xs
  unfolding first_key
  first_there e = rw e

pub first_same : (ws ws' : List ℕ) (k : ℕ) (f : Fragment) (xs : List ℕ) → ((x : ℕ) → 0 < count x xs → fragment_at ws' x ≡ fragment_at ws x) → first_key ws' k f xs ≡ first_key ws k f xs
unfolding first_key
first_same ws ws' k f [] h = refl
first_same ws ws' k f (x ∷ xs) h = rw (h x (stands_here x xs), first_same ws ws' k f xs (λ y c. h y (let m = count_cons y x xs in omega arith)))

-- a row that is found is found among the others too
key_without : (ws : List ℕ) (k : ℕ) (f : Fragment) (i z : ℕ) (xs : List ℕ) → first_key ws k f xs ≡ z → (z ≡ i → ⊥) → first_key ws k f (without i xs) ≡ z
unfolding keep
key_without ws k f i z [] e n = e
key_without ws k f i z (x ∷ xs) e n = go (value (same_key_words k (fragment_at ws x) f)) (λ g. key_without ws k f i z xs g n)
  where
    go : Value (same_key_words k (fragment_at ws x) f) → (first_key ws k f xs ≡ z → first_key ws k f (without i xs) ≡ z) → first_key ws k f (without i (x ∷ xs)) ≡ z
    go (yes_is s) ih =
        let q : x ≡ z = sym (first_here ws k f x xs s) ∙ e in
        ap (first_key ws k f) (without_there i x xs (λ r. n (sym q ∙ r))) ∙ first_here ws k f x (without i xs) s ∙ q
    go (no_is s) ih =
        let r = ih (sym (first_there ws k f x xs s) ∙ e) in
        elim (compare_same x i) [
          | equal q ↦ ap (first_key ws k f) (without_here i x xs q) ∙ r
          | other d ↦ ap (first_key ws k f) (without_there i x xs d) ∙ first_there ws k f x (without i xs) s ∙ r
        ]

-- the index by which a message's rows are found
pub parts_indexed : (ws st : List ℕ) (b : Bool) (held free : List ℕ) → Holds ws st b held free → Indexed ws (bit b) held
parts_indexed ws st true held free o = o.by_place refl
parts_indexed ws st false held free o = o.by_tsn

module _ (ws ws' st : List ℕ) (b : Bool) (held free free' : List ℕ) (i : ℕ) (o : Holds ws st b held free) (o' : Holds ws' st b (without i held) free') (f : Freed ws ws') where
  find_freed : (g : Fragment) (z : ℕ) → find_row ws (bit b) g ≡ z → (z ≡ i → ⊥) → find_row ws' (bit b) g ≡ z
  find_freed g z e n =
      find_indexed ws' (bit b) g (without i held) (parts_indexed ws' st b (without i held) free' o') (held_few ws' st b (without i held) free' o')
      ∙ first_same ws ws' (bit b) g (without i held) (λ x c. freed_fragment ws ws' f x (held_rows ws' st b (without i held) free' o' x c))
      ∙ key_without ws (bit b) g i z held (sym (find_indexed ws (bit b) g held (parts_indexed ws st b held free o) (held_few ws st b held free o)) ∙ e) n

  part_freed : (x z : ℕ) → x < 4096 → part_after ws b x ≡ z → (z ≡ i → ⊥) → part_after ws' b x ≡ z
  unfolding part_after
  part_freed x z hx e n = ap (λ (g : Fragment). find_row ws' (bit b) (following g)) (freed_fragment ws ws' f x hx) ∙ find_freed (following (fragment_at ws x)) z e n

  -- a message that row i is not of
  pub walk_freed : (x : ℕ) (xs : List ℕ) → ((y : ℕ) → 0 < count y (x ∷ xs) → y < 4096) → count i (x ∷ xs) ≡ 0 → Walk ws b x xs → Walk ws' b x xs
  walk_freed x [] r z w = ap (λ (g : Fragment). g.last) (freed_fragment ws ws' f x (r x (stands_here x []))) ∙ w
  walk_freed x (y ∷ ys) r z w = (
    ap (λ (g : Fragment). g.last) (freed_fragment ws ws' f x (r x (stands_here x (y ∷ ys)))) ∙ w.0,
    (
      part_freed x y (r x (stands_here x (y ∷ ys))) w.1.0 (λ e. let a = count_here i y ys e in let c = count_cons i x (y ∷ ys) in omega arith),
      walk_freed y ys (λ v c. r v (let m = count_cons v x (y ∷ ys) in omega arith)) (let c = count_cons i x (y ∷ ys) in omega arith) w.1.1,
    ),
  )

-- ------------------------------------------------------------------ rows taken out one after another

-- the rows xs but those of is
abbrev pub less : List ℕ → List ℕ → List ℕ
less [] xs = xs
less (i ∷ is) xs = less is (without i xs)

pub less_kept : (is xs : List ℕ) (x : ℕ) → count x is ≡ 0 → count x (less is xs) ≡ count x xs
less_kept [] xs x z = refl
less_kept (i ∷ is) xs x z = elim (compare_same i x) [
  | equal s ↦ absurd (let a = count_here x i is s in omega arith)
  | other d ↦ (let a = count_there x i is d in less_kept is (without i xs) x (omega arith) ∙ count_without_other i x xs (λ e. d (sym e)))
]

pub less_gone : (is xs : List ℕ) (x : ℕ) → 0 < count x is → count x (less is xs) ≡ 0
less_gone [] xs x h = absurd (let z = count_nil x in omega arith)
less_gone (i ∷ is) xs x h = elim (compare_same (count x is) 0) [
  | equal z ↦ elim (compare_same i x) [
    | equal s ↦ less_kept is (without i xs) x z ∙ ap (λ (y : ℕ). count y (without i xs)) (sym s) ∙ count_without i xs
    | other d ↦ absurd (let a = count_there x i is d in omega arith)
  ]
  | other d ↦ less_gone is (without i xs) x (omega arith)
]

pub sum_less : (g : ℕ → ℕ) (is xs : List ℕ) → ((x : ℕ) → count x xs ≤ 1) → ((x : ℕ) → count x is ≤ count x xs) → sum_by g is ≤ sum_by g xs
sum_less g [] xs once h = omega arith
sum_less g (i ∷ is) xs once h =
    let a = stands_here i is in
    let b = h i in
    let s = sum_without g i xs once (omega arith) in
    let ih = sum_less g is (without i xs) fewer within in
    omega arith
  where
    fewer : (x : ℕ) → count x (without i xs) ≤ 1
    fewer x = elim (compare_same x i) [
      | equal e ↦ (let z : count x (without i xs) ≡ 0 = ap (λ (y : ℕ). count y (without i xs)) e ∙ count_without i xs in omega arith)
      | other d ↦ (let c = count_without_other i x xs d in let o = once x in omega arith)
    ]

    within : (x : ℕ) → count x is ≤ count x (without i xs)
    within x = elim (compare_same i x) [
      | equal e ↦ (let c = count_here x i is e in let o = once x in let k = h x in omega arith)
      | other d ↦ (let c = count_there x i is d in let w = count_without_other i x xs (λ e. d (sym e)) in let k = h x in omega arith)
    ]

-- ------------------------------------------------------------------ the buffer

written_more : (out : List ℕ) (at : ℕ) (xs ys : List ℕ) → at + length xs + length ys ≤ length out → written (written out at xs) (at + length xs) ys ≡ written out at (xs ++ ys)
written_more out at xs ys h =
    let a : List ℕ = take at out in
    let d : List ℕ = drop (at + length xs) out in
    let la : length a ≡ at = length-take-le at out (omega (arith, h)) in
    let lx : length (a ++ xs) ≡ at + length xs = length-append a xs ∙ ap (λ (n : ℕ). n + length xs) la in
    let w : written out at xs ≡ a ++ xs ++ d = sym (append_assoc a xs d) in
    let t : take (at + length xs) (a ++ xs ++ d) ≡ a ++ xs = take_at (a ++ xs) d (at + length xs) lx in
    let e : drop (at + length xs + length ys) (a ++ xs ++ d) ≡ drop (at + length xs + length ys) out =
    sym (drop-drop (length ys) (at + length xs) (a ++ xs ++ d)) ∙ ap (drop (length ys)) (drop_at (a ++ xs) d (at + length xs) lx) ∙ drop-drop (length ys) (at + length xs) out in
    let n : at + length xs + length ys ≡ at + length (xs ++ ys) = let l = length-append xs ys in omega arith in
    ap (λ (v : List ℕ). written v (at + length xs) ys) w
    ∙ ap₂ (λ (p q : List ℕ). p ++ (ys ++ q)) t e
    ∙ ap (λ (m : ℕ). a ++ xs ++ (ys ++ drop m out)) n
    ∙ append_assoc a xs (ys ++ drop (at + length (xs ++ ys)) out)
    ∙ ap (λ (l : List ℕ). a ++ l) (sym (append_assoc xs ys (drop (at + length (xs ++ ys)) out)))

-- the payloads of rows, one after another
abbrev pub payloads : List ℕ → List ℕ → List ℕ → List ℕ
payloads ws st is = join (map (payload_of ws st) is)

payloads_nil : (ws st : List ℕ) → payloads ws st [] ≡ []
unfolding join
payloads_nil ws st = refl

payloads_cons : (ws st : List ℕ) (i : ℕ) (is : List ℕ) → payloads ws st (i ∷ is) ≡ payload_of ws st i ++ payloads ws st is
unfolding join
payloads_cons ws st i is = refl

pub payloads_same : (ws ws' st is : List ℕ) → ((x : ℕ) → 0 < count x is → payload_of ws' st x ≡ payload_of ws st x) → payloads ws' st is ≡ payloads ws st is
payloads_same ws ws' st [] h = payloads_nil ws' st ∙ sym (payloads_nil ws st)
payloads_same ws ws' st (i ∷ is) h =
    payloads_cons ws' st i is
    ∙ ap₂ (λ (p q : List ℕ). p ++ q) (h i (stands_here i is)) (payloads_same ws ws' st is (λ x c. h x (let m = count_cons x i is in omega arith)))
    ∙ sym (payloads_cons ws st i is)

pub payloads_length : (ws st held is : List ℕ) → Laid ws st held → ((x : ℕ) → 0 < count x is → 0 < count x held) → length (payloads ws st is) ≡ sum_by (size_of ws) is
payloads_length ws st held [] l h = ap length (payloads_nil ws st)
payloads_length ws st held (i ∷ is) l h =
    let a = ap length (payloads_cons ws st i is) in
    let b = length-append (payload_of ws st i) (payloads ws st is) in
    let c = payload_length ws st held i l (h i (stands_here i is)) in
    let d = payloads_length ws st held is l (λ x k. h x (let m = count_cons x i is in omega arith)) in
    omega arith

pub freed_payload : (ws ws' st : List ℕ) → Freed ws ws' → (x : ℕ) → x < 4096 → payload_of ws' st x ≡ payload_of ws st x
freed_payload ws ws' st f x hx = payload_words ws ws' st x (f.links x 0 hx (omega arith)) (f.links x 1 hx (omega arith))

-- ------------------------------------------------------------------ hand_out

module _ (n : ℕ) (ws st out : List ℕ) (b : Bool) (i at : ℕ) where
  hand_last : (fragment_at ws i).last ≡ true → hand_out (suc n) ws st out b i at ≡ handed_out_words (free_row ws b (fragment_at ws i) i) (read_payload ws st i out at)
  unfolding hand_out
  hand_last e = rw e

  hand_next : (x : ℕ) → (fragment_at ws i).last ≡ false → part_after ws b i ≡ x → x < 4096 → size_of ws i ≤ 2000000
      → hand_out (suc n) ws st out b i at ≡ hand_out n (free_row ws b (fragment_at ws i) i) st (read_payload ws st i out at) b x (at + size_of ws i)
  unfolding hand_out
  hand_next x e p l s = rw (e, p, lt-leb _ _ l, le-ltb _ _ s)

-- after the rows ms, held, are handed out from the place `at` of the buffer on
pub record HandsOut (ws st : List ℕ) (b : Bool) (held free ms out : List ℕ) (at : ℕ) (r : HandedOut) : Type 0 where
  pub holds : Holds r.words st b (less ms held) (onto ms free)
  pub frame : Freed ws r.words
  pub buffer : r.buffer ≡ written out at (payloads ws st ms)
  -- every other message is as it was
  pub walks : (x : ℕ) (xs : List ℕ) → ((y : ℕ) → 0 < count y (x ∷ xs) → y < 4096) → ((y : ℕ) → 0 < count y ms → count y (x ∷ xs) ≡ 0) → Walk ws b x xs → Walk r.words b x xs

-- one row
module _ (ws st : List ℕ) (b : Bool) (held free : List ℕ) (i : ℕ) (out : List ℕ) (at : ℕ) (o : Holds ws st b held free) (h : 0 < count i held) (room : at + size_of ws i ≤ length out) where
  abbrev freed_words : List ℕ
  freed_words = free_row ws b (fragment_at ws i) i

  read_out : read_payload ws st i out at ≡ written out at (payload_of ws st i)
  read_out = (read_law ws st held i o.laid h out at room).1

  one_out : HandsOut ws st b held free (i ∷ []) out at (handed_out_words freed_words (read_payload ws st i out at))
  one_out = record {
    holds = (free_law ws st b held free i o h).0;
    frame = (free_law ws st b held free i o h).1;
    buffer = read_out ∙ ap (written out at) (sym (payloads_cons ws st i [] ∙ ap (λ (l : List ℕ). payload_of ws st i ++ l) (payloads_nil ws st) ∙ append-nil (payload_of ws st i)));
    walks = λ x xs rows apart w. walk_freed ws freed_words st b held free (i ∷ free) i o (free_law ws st b held free i o h).0 (free_law ws st b held free i o h).1 x xs rows (apart i (stands_here i [])) w;
  }

  -- and the others after it
  more_out : (ts out' : List ℕ) (at' : ℕ) (r : HandedOut) → out' ≡ written out at (payload_of ws st i) → at' ≡ at + size_of ws i → ((x : ℕ) → 0 < count x ts → 0 < count x held) → at + sum_by (size_of ws) (i ∷ ts) ≤ length out
      → HandsOut freed_words st b (without i held) (i ∷ free) ts out' at' r → HandsOut ws st b held free (i ∷ ts) out at r
  more_out ts out' at' r eo ea within roomy t =
      let f = (free_law ws st b held free i o h).1 in
      let pl = payload_length ws st held i o.laid h in
      let al : at' ≡ at + length (payload_of ws st i) = ea ∙ ap (λ (k : ℕ). at + k) (sym pl) in
      let same : payloads freed_words st ts ≡ payloads ws st ts = payloads_same ws freed_words st ts (λ x c. freed_payload ws freed_words st f x (held_rows ws st b held free o x (within x c))) in
      let ln = payloads_length ws st held ts o.laid within in
      record {
        holds = t.holds;
        frame = freed_both ws freed_words r.words f t.frame;
        buffer = t.buffer ∙ ap (written out' at') same ∙ ap₂ (λ (v : List ℕ) (k : ℕ). written v k (payloads ws st ts)) eo al
            ∙ written_more out at (payload_of ws st i) (payloads ws st ts) (omega (arith, pl, ln, roomy))
            ∙ ap (written out at) (sym (payloads_cons ws st i ts));
        walks = λ x xs rows apart w. t.walks x xs rows (λ y c. apart y (let m = count_cons y i ts in omega arith))
            (walk_freed ws freed_words st b held free (i ∷ free) i o (free_law ws st b held free i o h).0 f x xs rows (apart i (stands_here i ts)) w);
      }

-- THE THEOREM of handing out
pub hand_law : (n : ℕ) (ws st : List ℕ) (b : Bool) (held free : List ℕ) (i : ℕ) (ts out : List ℕ) (at : ℕ) → Holds ws st b held free → length st ≤ 2000000 → Walk ws b i ts
    → ((x : ℕ) → count x (i ∷ ts) ≤ count x held) → length ts < n → at + sum_by (size_of ws) (i ∷ ts) ≤ length out → HandsOut ws st b held free (i ∷ ts) out at (hand_out n ws st out b i at)
hand_law zero ws st b held free i ts out at o s w within l room = absurd (omega arith)
hand_law (suc n) ws st b held free i [] out at o s w within l room =
    subst (HandsOut ws st b held free (i ∷ []) out at) (sym (hand_last n ws st out b i at w))
    (one_out ws st b held free i out at o (let a = stands_here i [] in let c = within i in omega arith) (omega arith))
hand_law (suc n) ws st b held free i (x ∷ xs) out at o s w within l room =
    subst (HandsOut ws st b held free (i ∷ x ∷ xs) out at) (sym (hand_next n ws st out b i at x w.0 w.1.0 hx size))
    (more_out ws st b held free i out at o h (omega arith) (x ∷ xs) (read_payload ws st i out at) (at + size_of ws i) _ (read_out ws st b held free i out at o h (omega arith)) refl
    (λ y c. let a = count_cons y i (x ∷ xs) in let k = within y in omega arith) room
    (hand_law n ws' st b (without i held) (i ∷ free) x xs (read_payload ws st i out at) (at + size_of ws i) q.0 s walk within' (omega arith) room'))
  where
    h : 0 < count i held
    h = let a = stands_here i (x ∷ xs) in let c = within i in omega arith

    ws' : List ℕ
    ws' = free_row ws b (fragment_at ws i) i

    q : Holds ws' st b (without i held) (i ∷ free) × Freed ws ws'
    q = free_law ws st b held free i o h

    rows : (y : ℕ) → 0 < count y (x ∷ xs) → y < 4096
    rows y c = held_rows ws st b held free o y (let a = count_cons y i (x ∷ xs) in let k = within y in omega arith)

    hx : x < 4096
    hx = rows x (stands_here x xs)

    size : size_of ws i ≤ 2000000
    size = let a = below_in ws (end_of ws) held i o.laid.below h in let e = o.laid.end_in in omega arith

    once : (y : ℕ) → count y (i ∷ x ∷ xs) ≤ 1
    once y = let a = within y in let c = held_once ws st b held free o y in omega arith

    walk : Walk ws' b x xs
    walk = walk_freed ws ws' st b held free (i ∷ free) i o q.0 q.1 x xs rows (head_once i (x ∷ xs) once) w.1.1

    within' : (y : ℕ) → count y (x ∷ xs) ≤ count y (without i held)
    within' y = elim (compare_same i y) [
      | equal e ↦ (let c = count_here y i (x ∷ xs) e in let o = once y in omega arith)
      | other d ↦ (let c = count_there y i (x ∷ xs) d in let v = count_without_other i y held (λ e. d (sym e)) in let k = within y in omega arith)
    ]

    room' : at + size_of ws i + sum_by (size_of ws') (x ∷ xs) ≤ length (read_payload ws st i out at)
    room' =
        let a : sum_by (size_of ws') (x ∷ xs) ≡ sum_by (size_of ws) (x ∷ xs) = sum_same (size_of ws) (size_of ws') (x ∷ xs) (λ y c. q.1.links y 1 (rows y c) (omega arith)) in
        let p = payload_length ws st held i o.laid h in
        let e = ap length (read_out ws st b held free i out at o h (omega arith)) in
        let m = written_length out at (payload_of ws st i) (omega arith) in
        omega (arith, a, e, m, room)

-- ------------------------------------------------------------------ measure_message

module _ (n : ℕ) (ws : List ℕ) (b : Bool) (i len left : ℕ) (in_store : misplaced 0 len (place_of ws i) (size_of ws i) ≡ false) (fits : size_of ws i ≤ left) where
  measure_last : (fragment_at ws i).last ≡ true → measured (suc n) ws b i len left ≡ measure true (left - size_of ws i)
  unfolding measured
  measure_last e = rw (in_store, le-ltb _ _ fits, e)

  measure_next : (x : ℕ) → (fragment_at ws i).last ≡ false → part_after ws b i ≡ x → x < 4096 → measured (suc n) ws b i len left ≡ measured n ws b x len (left - size_of ws i)
  unfolding measured
  measure_next x e p l = rw (in_store, le-ltb _ _ fits, e, p, lt-leb _ _ l)

lies : (ws st held : List ℕ) (i : ℕ) → Laid ws st held → 0 < count i held → misplaced 0 (length st) (place_of ws i) (size_of ws i) ≡ false
lies ws st held i l h =
    let a = below_in ws (end_of ws) held i l.below h in
    let e = l.end_in in
    in_lies 0 (length st) (place_of ws i) (size_of ws i) (omega arith) (omega arith)

-- a message of held rows is all there, and what is left of the used bytes are the others
pub measure_law : (n : ℕ) (ws st : List ℕ) (b : Bool) (held : List ℕ) (i : ℕ) (ts : List ℕ) (left : ℕ) → Laid ws st held → ((x : ℕ) → 0 < count x held → x < 4096) → Walk ws b i ts → ((x : ℕ) → 0 < count x (i ∷ ts) → 0 < count x held)
    → length ts < n → sum_by (size_of ws) (i ∷ ts) ≤ left → measured n ws b i (length st) left ≡ measure true (left - sum_by (size_of ws) (i ∷ ts))
measure_law zero ws st b held i ts left l rows w within k s = absurd (omega arith)
measure_law (suc n) ws st b held i [] left l rows w within k s =
    measure_last n ws b i (length st) left (lies ws st held i l (within i (stands_here i []))) (omega arith) w
    ∙ ap (measure true) (let z : left - size_of ws i ≡ left - sum_by (size_of ws) (i ∷ []) = omega arith in z)
measure_law (suc n) ws st b held i (x ∷ xs) left l rows w within k s =
    measure_next n ws b i (length st) left (lies ws st held i l (within i (stands_here i (x ∷ xs)))) (omega arith) x w.0 w.1.0 (rows x (within' x (stands_here x xs)))
    ∙ measure_law n ws st b held x xs (left - size_of ws i) l rows w.1.1 within' (omega arith) (omega arith)
    ∙ ap (measure true) (let z : left - size_of ws i - sum_by (size_of ws) (x ∷ xs) ≡ left - sum_by (size_of ws) (i ∷ x ∷ xs) = omega arith in z)
  where
    within' : (y : ℕ) → 0 < count y (x ∷ xs) → 0 < count y held
    within' y c = within y (let a = count_cons y i (x ∷ xs) in omega arith)
