-- The ways out of the functions, over plain values. Assumes nothing.
use mathlib.Core.Path.{◌≡◌, refl, sym, ap, ◌∙◌}
use mathlib.Core.Bool.{Bool, true, false}
use mathlib.Core.List.{List}
use Prim.Native.Nat.{ℕ, zero, suc, ◌+◌, ◌-◌, ◌≤◌, ◌<◌}
use native.Mathlib.Omega.{arith}
use borrow.Author.Tests.{le-leb, lt-leb, eq-eqb, ne_eqb, ltb-false, leb-false, leb-true}
use lib.Dec.{ltb, leb, eqb}
use lib.ListN.{length, take, drop, length-drop}
use lib.Seq.{length-take-le}
use Rattle.types.specs.Refusal.{refusal_number}
use Rattle.types.specs.declared.refusal.Refusal.{Refusal}
use Rattle.types.proofs.Refusals.{refusal_above}
use Rattle.queue_words.specs.Flags.{pick}
use Rattle.payload_store.specs.Moving.{moved, Pack, pack}
use Rattle.payload_store.specs.Putting.{Outcome, outcome, written}
use Rattle.payload_store.proofs.Cases.{pick_else, pick_then, false_true}
use Rattle.payload_store.proofs.Moves.{moved_length}
use Rattle.payload_store.proofs.Puts.{written_length}
use Rattle.receiver_model.specs.Lists.{same_list}
use Rattle.receiver_words.specs.Tables.{Header, Links, word_at, put_word}
use Rattle.receiver_words.proofs.Laws.{whole_put_word, word_put_same, word_put_beside, word_put_table}
use Rattle.receiver_words.specs.Ages.{older, newest}
use Rattle.receiver_store.specs.Words.{place_of, size_of, used_of, end_of, payload_of}
use Rattle.receiver_store.specs.Packing.{misplaced, start, nowhere, goal_of, start_from, start_of, pack_code, move_row, pack_from, packed}
use Rattle.receiver_store.specs.declared.packing.Start.{Start}
use Rattle.receiver_store.specs.Putting.{room_code, placed, put_payload}
use Rattle.receiver_store.specs.Reading.{read_code, read_payload, same_code}
use Rattle.receiver_store.specs.Dropping.{drop_code_words, held_end, released, drop_payload}
use Rattle.receiver_store.proofs.Lies.{lies_in}

-- what the test says where it fails
pub row_in : (low len place size : ℕ) (out : Bool) → out ≡ misplaced low len place size → out ≡ false → (low ≤ place) × (place + size ≤ len)
row_in low len place size out eo e = lies_in low len place size (sym eo ∙ e)

-- ------------------------------------------------------------------ move_row

module _ (ws st : List ℕ) (cur i place size : ℕ) (out : Bool) (ep : place ≡ place_of ws i) (es : size ≡ size_of ws i) (eo : out ≡ misplaced cur (length st) place size) where
  m : misplaced cur (length st) (place_of ws i) (size_of ws i) ≡ out
  m = rw (← ep, ← es) (sym eo)

  pub row_stays : out ≡ true → pack ws st cur ≡ move_row (pack ws st cur) i
  unfolding move_row
  row_stays e = rw (m, e)

  pub row_there : out ≡ false → place ≡ cur → pack ws st (cur + size) ≡ move_row (pack ws st cur) i
  unfolding move_row
  row_there e q = rw (m, e, eq-eqb (place_of ws i) cur (sym ep ∙ q), ← es)

  pub row_goes : (ws1 st1 : List ℕ) → out ≡ false → (place ≡ cur → ⊥) → st1 ≡ moved st place cur size → ws1 ≡ put_word Links ws i 0 cur → pack ws1 st1 (cur + size) ≡ move_row (pack ws st cur) i
  unfolding move_row
  row_goes ws1 st1 e q e1 e2 = rw (m, e, ne_eqb (place_of ws i) cur (λ z. q (ep ∙ z)), e1, e2, ← es, ← ep)

-- ------------------------------------------------------------------ what moving rows keeps, on any words: how many words and bytes, the header

pub record Kept (s t : Pack) : Type 0 where
  pub long : length t.words ≡ length s.words
  pub same : length t.store ≡ length s.store
  pub header : (k : ℕ) → k < 16 → word_at Header t.words 0 k ≡ word_at Header s.words 0 k

pub row_kept : (s : Pack) (i : ℕ) → i < 4096 → Kept s (move_row s i)
unfolding move_row
row_kept s i h = go (misplaced s.cursor (length s.store) (place_of s.words i) (size_of s.words i)) (eqb (place_of s.words i) s.cursor)
  where
    go : (t u : Bool) → Kept s (pick t s (pick u (pack s.words s.store (s.cursor + size_of s.words i))
        (pack (put_word Links s.words i 0 s.cursor) (moved s.store (place_of s.words i) s.cursor (size_of s.words i)) (s.cursor + size_of s.words i))))
    go true u = record { long = refl; same = refl; header = λ k hk. refl }
    go false true = record { long = refl; same = refl; header = λ k hk. refl }
    go false false = record {
      long = whole_put_word Links s.words i 0 s.cursor;
      same = moved_length s.store (place_of s.words i) s.cursor (size_of s.words i);
      header = λ k hk. word_put_table Links Header s.words i 0 s.cursor 0 k refl h (omega arith) (omega arith) hk;
    }

pub rows_kept : (n : ℕ) (s : Pack) (p : ℕ) → Kept s (pack_from n s p)
unfolding pack_from
rows_kept zero s p = record { long = refl; same = refl; header = λ k hk. refl }
rows_kept (suc n) s p = go (leb 4096 p) refl (rows_kept n (move_row s p) (word_at Links s.words p 4))
  where
    go : (t : Bool) → leb 4096 p ≡ t → Kept (move_row s p) (pack_from n (move_row s p) (word_at Links s.words p 4)) → Kept s (pick t s (pack_from n (move_row s p) (word_at Links s.words p 4)))
    go true e b = record { long = refl; same = refl; header = λ k hk. refl }
    go false e b =
        let a = row_kept s p (leb-false 4096 p e) in
        record { long = b.long ∙ a.long; same = b.same ∙ a.same; header = λ k hk. b.header k hk ∙ a.header k hk }

pub row_same_length : (ws st ws1 st1 : List ℕ) (cur cur1 i : ℕ) → i < 4096 → pack ws1 st1 cur1 ≡ move_row (pack ws st cur) i → length st1 ≡ length st
row_same_length ws st ws1 st1 cur cur1 i h e = ap (λ (s : Pack). length s.store) e ∙ (row_kept (pack ws st cur) i h).same

pub rows_same_length : (ws st ws1 st1 : List ℕ) (cur first to : ℕ) → pack ws1 st1 cur ≡ pack_from 4096 (pack ws st to) first → length st1 ≡ length st
rows_same_length ws st ws1 st1 cur first to e = ap (λ (s : Pack). length s.store) e ∙ (rows_kept 4096 (pack ws st to) first).same

-- ------------------------------------------------------------------ find_start

-- what is found ends at or below the goal
module _ (ws : List ℕ) (goal : ℕ) where
  abbrev Ends : Start → Type 0
  Ends s = s.found ≡ true → s.end ≤ goal

  either : (t : Bool) (x y : Start) → Ends x → Ends y → Ends (pick t x y)
  either true x y hx hy = hx
  either false x y hx hy = hy

  reached : (t : Bool) (row cursor end : ℕ) (y : Start) → leb end goal ≡ t → Ends y → Ends (pick t (start true row cursor end) y)
  reached true row cursor end y e hy f = leb-true end goal e
  reached false row cursor end y e hy f = hy f

  pub start_ends : (n p row high sum : ℕ) → Ends (start_from n ws goal p row high sum)
  unfolding start_from
  start_ends zero p row high sum = λ f. false_true f
  start_ends (suc n) p row high sum =
      let top = place_of ws p + size_of ws p in
      let on = start_from n ws goal (older ws p) p (place_of ws p) (sum + size_of ws p) in
      let here = pick (leb (top + sum) goal) (start true row top (top + sum)) on in
      either (leb 4096 p) (start (leb sum goal) row 0 sum) (pick (misplaced 0 high (place_of ws p) (size_of ws p)) nowhere here)
      (λ f. leb-true sum goal f)
      (either (misplaced 0 high (place_of ws p) (size_of ws p)) nowhere here (λ f. false_true f)
      (reached (leb (top + sum) goal) row top (top + sum) on refl (start_ends n (older ws p) p (place_of ws p) (sum + size_of ws p))))

-- the goal is at or above the used bytes, and leaves room
pub goal_above : (used len n : ℕ) → used ≤ goal_of used len n
unfolding goal_of
goal_above used len n = omega arith

pub goal_room : (used len n : ℕ) → used + n ≤ len → goal_of used len n + n ≤ len
unfolding goal_of
goal_room used len n h = omega arith

-- ------------------------------------------------------------------ move_together

pub all_moved : (ws st ws1 st1 ws2 : List ℕ) (n cur : ℕ) (s : Start) → s ≡ start_of ws (length st) n → pack ws1 st1 cur ≡ pack_from 4096 (pack ws st s.cursor) s.row
    → ws2 ≡ put_word Header ws1 0 6 s.end → outcome 0 ws2 st1 ≡ packed ws st n
unfolding packed
all_moved ws st ws1 st1 ws2 n cur s es em e = rw (← es, ← em, e)

module _ (ws st ws1 st1 : List ℕ) (n : ℕ) (e : outcome 0 ws1 st1 ≡ packed ws st n) where
  abbrev b : Start
  b = start_of ws (length st) n

  k : Kept (pack ws st b.cursor) (pack_from 4096 (pack ws st b.cursor) b.row)
  k = rows_kept 4096 (pack ws st b.cursor) b.row

  pub together_kept : (length ws1 ≡ length ws) × (length st1 ≡ length st)
  unfolding packed
  together_kept = (
    ap (λ (o : Outcome). length o.words) e ∙ whole_put_word Header _ 0 6 b.end ∙ k.long,
    ap (λ (o : Outcome). length o.store) e ∙ k.same,
  )

  pub together_amounts : length ws ≡ 83472 → (end_of ws1 ≡ (start_of ws (length st) n).end) × (used_of ws1 ≡ used_of ws)
  unfolding packed
  together_amounts l = (
    ap (λ (o : Outcome). end_of o.words) e ∙ word_put_same Header _ 0 6 b.end (k.long ∙ l) (omega arith) (omega arith),
    ap (λ (o : Outcome). used_of o.words) e ∙ word_put_beside Header _ 0 6 b.end 5 (λ z. omega arith) ∙ k.header 5 (omega arith),
  )

-- ------------------------------------------------------------------ place_payload, put_payload

pub placed_is : (ws st ws1 ws2 ws3 ws4 st1 bs : List ℕ) (i end used : ℕ) → end ≡ end_of ws → used ≡ used_of ws → st1 ≡ written st end bs → ws1 ≡ put_word Links ws i 0 end
    → ws2 ≡ put_word Links ws1 i 1 (length bs) → ws3 ≡ put_word Header ws2 0 5 (used + length bs) → ws4 ≡ put_word Header ws3 0 6 (end + length bs) → outcome 0 ws4 st1 ≡ placed ws st i bs
unfolding placed
placed_is ws st ws1 ws2 ws3 ws4 st1 bs i end used ee eu es e1 e2 e3 e4 = rw (e4, e3, e2, e1, es, ee, eu)

pub put_length : (ws st st1 bs : List ℕ) (end : ℕ) → end ≡ end_of ws → end_of ws + length bs ≤ length st → st1 ≡ written st end bs → length st1 ≡ length st
put_length ws st st1 bs end ee h e = ap length e ∙ written_length st end bs (rw ee h)

pub placed_length : (ws st ws1 st1 bs : List ℕ) (i r : ℕ) → end_of ws + length bs ≤ length st → outcome r ws1 st1 ≡ placed ws st i bs → length st1 ≡ length st
unfolding placed
placed_length ws st ws1 st1 bs i r h e = ap (λ (o : Outcome). length o.store) e ∙ written_length st (end_of ws) bs h

-- what no refusal says
pub room_ok : (ws : List ℕ) (len n : ℕ) → room_code ws len n ≡ 0 → (used_of ws + n ≤ len) × (end_of ws ≤ len)
unfolding room_code
room_ok ws len n e =
    let t1 = pick_else (ltb len (used_of ws)) 16 _ 0 (λ z. omega arith) e in
    let t2 = pick_else (ltb (len - used_of ws) n) 23 _ 0 (λ z. omega arith) t1.1 in
    let t3 = pick_else (ltb len (end_of ws)) 16 _ 0 (λ z. omega arith) t2.1 in (
      omega (arith, ltb-false len (used_of ws) t1.0, ltb-false (len - used_of ws) n t2.0),
      ltb-false len (end_of ws) t3.0,
    )

pub put_room : (ws : List ℕ) (len n : ℕ) → 0 ≡ room_code ws len n → (used_of ws + n ≤ len) × (end_of ws ≤ len)
put_room ws len n ec = room_ok ws len n (sym ec)

pub put_refused : (ws st bs : List ℕ) (i : ℕ) (r : Refusal) → refusal_number r ≡ room_code ws (length st) (length bs) → outcome (refusal_number r) ws st ≡ put_payload ws st i bs
unfolding put_payload
put_refused ws st bs i r er = rw (← er, refusal_above r)

module _ (ws st bs : List ℕ) (i : ℕ) (ec : 0 ≡ room_code ws (length st) (length bs)) where
  pub put_at_end : (o : Outcome) (end : ℕ) → end ≡ end_of ws → length bs ≤ length st - end → o ≡ placed ws st i bs → o ≡ put_payload ws st i bs
  unfolding put_payload
  put_at_end o end ee a eo = rw (← ec, ← ee, le-leb (length bs) (length st - end) a) eo

  pub put_packed : (o : Outcome) (end : ℕ) (ws1 st1 : List ℕ) → end ≡ end_of ws → length st - end < length bs → outcome 0 ws1 st1 ≡ packed ws st (length bs) → o ≡ placed ws1 st1 i bs
      → o ≡ put_payload ws st i bs
  unfolding put_payload
  put_packed o end ws1 st1 ee a em eo = rw (← ec, ← ee, lt-leb (length bs) (length st - end) a, ← em) eo

-- what place_payload asks for, at the end and after moving together
pub sub_end : (ws : List ℕ) (len n end : ℕ) → 0 ≡ room_code ws len n → end ≡ end_of ws → end ≤ len
sub_end ws len n end ec ee = rw ee (put_room ws len n ec).1

pub room_at_end : (ws : List ℕ) (len n i end : ℕ) → i < 4096 → 0 ≡ room_code ws len n → end ≡ end_of ws → n ≤ len - end
    → (i < 4096) × (end_of ws + n ≤ len) × (used_of ws + n ≤ len)
room_at_end ws len n i end hi ec ee a = (hi, omega (arith, (put_room ws len n ec).1, ee), (put_room ws len n ec).0)

-- a start is found where there is room, and not at the end
pub room_found : (ws : List ℕ) (len n : ℕ) → room_code ws len n ≡ 0 → len - end_of ws < n → (start_of ws len n).found ≡ true
unfolding room_code pack_code
room_found ws len n e a =
    let t1 = pick_else (ltb len (used_of ws)) 16 _ 0 (λ z. omega arith) e in
    let t2 = pick_else (ltb (len - used_of ws) n) 23 _ 0 (λ z. omega arith) t1.1 in
    let t3 = pick_else (ltb len (end_of ws)) 16 _ 0 (λ z. omega arith) t2.1 in
    let t4 : ◌≡◌ {A = ℕ} (pick (start_of ws len n).found 0 16) 0 = rw (lt-leb n (len - end_of ws) a) at t3.1 in
    pick_then (start_of ws len n).found 0 16 0 (λ z. omega arith) t4

pub room_packed : (ws st bs ws1 st1 : List ℕ) (i end : ℕ) → i < 4096 → length ws ≡ 83472 → 0 ≡ room_code ws (length st) (length bs) → end ≡ end_of ws → length st - end < length bs
    → outcome 0 ws1 st1 ≡ packed ws st (length bs) → (i < 4096) × (end_of ws1 + length bs ≤ length st1) × (used_of ws1 + length bs ≤ length st1)
unfolding start_of
room_packed ws st bs ws1 st1 i end hi l ec ee a em =
    let t = together_amounts ws st ws1 st1 (length bs) em l in
    let b = together_kept ws st ws1 st1 (length bs) em in
    let r = put_room ws (length st) (length bs) ec in
    let f = room_found ws (length st) (length bs) (sym ec) (rw ee at a) in
    let g = start_ends ws (goal_of (used_of ws) (length st) (length bs)) 4097 (newest ws) 4096 (end_of ws) 0 f in
    let w = goal_room (used_of ws) (length st) (length bs) r.0 in
    (hi, omega (arith, t.0, b.1, g, w), omega (arith, t.1, b.1, r.0))

-- ------------------------------------------------------------------ read_payload

pub read_ok : (ws : List ℕ) (len i room at : ℕ) → read_code ws len i room at ≡ 0 → (place_of ws i + size_of ws i ≤ len) × (at + size_of ws i ≤ room)
unfolding read_code
read_ok ws len i room at e =
    let t1 = pick_else (misplaced 0 len (place_of ws i) (size_of ws i)) 16 _ 0 (λ z. omega arith) e in
    let t2 = pick_else (ltb room at) 16 _ 0 (λ z. omega arith) t1.1 in
    let t3 = pick_else (ltb (room - at) (size_of ws i)) 16 _ 0 (λ z. omega arith) t2.1 in
    ((lies_in 0 len (place_of ws i) (size_of ws i) t1.0).1, omega (arith, ltb-false room at t2.0, ltb-false (room - at) (size_of ws i) t3.0))

-- a part of the store that is lent
pub part_of : (st : List ℕ) (place size : ℕ) → take (place + size - place) (drop place st) ≡ take size (drop place st)
part_of st place size = let e : place + size - place ≡ size = omega arith in ap (λ (k : ℕ). take k (drop place st)) e

pub part_long : (st : List ℕ) (place size : ℕ) → place + size ≤ length st → length (take (place + size - place) (drop place st)) ≡ size
part_long st place size h =
    ap length (part_of st place size) ∙ length-take-le size (drop place st) (simp length-drop (omega arith))

pub read_held : (ws : List ℕ) (len i room at place size : ℕ) → 0 ≡ read_code ws len i room at → place ≡ place_of ws i → size ≡ size_of ws i
    → (place + size ≤ len) × (at + size ≤ room)
read_held ws len i room at place size ec ep es = rw (ep, es) (read_ok ws len i room at (sym ec))

pub read_refused : (ws st dst : List ℕ) (i at : ℕ) → 16 ≡ read_code ws (length st) i (length dst) at
    → (16 ≡ read_code ws (length st) i (length dst) at) × (dst ≡ read_payload ws st i dst at)
unfolding read_payload
read_refused ws st dst i at er = (er, rw (← er))

module _ (ws st dst : List ℕ) (i at : ℕ) (ec : 0 ≡ read_code ws (length st) i (length dst) at) where
  module _ (place size : ℕ) (ep : place ≡ place_of ws i) (es : size ≡ size_of ws i) where
    held : (place + size ≤ length st) × (at + size ≤ length dst)
    held = read_held ws (length st) i (length dst) at place size ec ep es

    pub read_fits : at + length (take (place + size - place) (drop place st)) ≤ length dst
    read_fits = omega (arith, part_long st place size held.0, held.1)

    pub read_length : (dst1 : List ℕ) → dst1 ≡ written dst at (take (place + size - place) (drop place st)) → length dst1 ≡ length dst
    read_length dst1 e = ap length e ∙ written_length dst at (take (place + size - place) (drop place st)) read_fits

    pub read_done : (dst1 : List ℕ) → dst1 ≡ written dst at (take (place + size - place) (drop place st)) → (0 ≡ read_code ws (length st) i (length dst) at) × (dst1 ≡ read_payload ws st i dst at)
    unfolding read_payload payload_of
    read_done dst1 e = (ec, rw (← ec, ← es, ← ep) (e ∙ ap (λ (bs : List ℕ). written dst at bs) (part_of st place size)))

-- ------------------------------------------------------------------ same_code

module _ (ws st bs : List ℕ) (i place size : ℕ) (out : Bool) (ep : place ≡ place_of ws i) (es : size ≡ size_of ws i) (eo : out ≡ misplaced 0 (length st) place size) where
  pub same_outside : out ≡ true → 16 ≡ same_code ws st i bs
  unfolding same_code
  same_outside e = rw (← ep, ← es, ← eo, e)

  same_by : (same : Bool) → out ≡ false → same ≡ same_list (take (place + size - place) (drop place st)) bs → pick same 0 24 ≡ same_code ws st i bs
  unfolding same_code payload_of
  same_by same e f = rw (← ep, ← es, ← eo, e) (ap (λ (t : Bool). pick t 0 24) (f ∙ ap (λ (x : List ℕ). same_list x bs) (part_of st place size)))

  pub same_yes : (same : Bool) → out ≡ false → same ≡ same_list (take (place + size - place) (drop place st)) bs → same ≡ true → 0 ≡ same_code ws st i bs
  same_yes same e f t = rw t at (same_by same e f)

  pub same_no : (same : Bool) → out ≡ false → same ≡ same_list (take (place + size - place) (drop place st)) bs → same ≡ false → 24 ≡ same_code ws st i bs
  same_no same e f t = rw t at (same_by same e f)

-- ------------------------------------------------------------------ drop_payload

pub drop_ok : (ws : List ℕ) (i : ℕ) → drop_code_words ws i ≡ 0 → size_of ws i ≤ used_of ws
unfolding drop_code_words
drop_ok ws i e = ltb-false (used_of ws) (size_of ws i) (pick_else (ltb (used_of ws) (size_of ws i)) 16 0 0 (λ z. omega arith) e).0

pub drop_refused : (ws : List ℕ) (i : ℕ) → 16 ≡ drop_code_words ws i → (16 ≡ drop_code_words ws i) × (ws ≡ drop_payload ws i)
unfolding drop_payload
drop_refused ws i er = (er, rw (← er))

module _ (ws : List ℕ) (i : ℕ) (ec : 0 ≡ drop_code_words ws i) where
  pub drop_held : (size used : ℕ) → size ≡ size_of ws i → used ≡ used_of ws → size ≤ used
  drop_held size used es eu = rw (es, eu) (drop_ok ws i (sym ec))

  pub drop_done : (size used end : ℕ) (ws1 ws2 : List ℕ) → size ≡ size_of ws i → used ≡ used_of ws → end ≡ held_end ws → ws1 ≡ put_word Header ws 0 5 (used - size)
      → ws2 ≡ put_word Header ws1 0 6 end → (0 ≡ drop_code_words ws i) × (ws2 ≡ drop_payload ws i)
  unfolding drop_payload released
  drop_done size used end ws1 ws2 es eu ee e1 e2 = (ec, rw (← ec, ← es, ← eu, ← ee, ← e1) e2)
