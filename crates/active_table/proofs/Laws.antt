-- Laws of the two searches: row by row, and part by part. Assumes nothing.
use mathlib.Core.Path.{◌≡◌, refl, sym, ap, ◌∙◌, subst}
use mathlib.Core.List.{List}
use Prim.Native.Nat.{ℕ, zero, suc, ◌+◌, ◌-◌, ◌≤◌, ◌<◌}
use native.Mathlib.Nat.{sub-zero}
use native.Mathlib.Omega.{arith}
use lib.Dec.{ltb}
use borrow.Author.Tests.{lt-ltb, le-ltb, eq-eqb, ne_eqb}
use Rattle.std.specs.Prelude.{if◌then◌else◌}
use Rattle.queue_model.proofs.Tests.{Tri, less, same, more, tri}
use Rattle.queue_words.specs.Active.{active_at}
use Rattle.queue_words.specs.declared.active.ActiveStreamInfo.{ActiveStreamInfo}
use Rattle.active_table.specs.declared.Best.{Best}
use Rattle.active_table.specs.Rows.{seek_from, seek, best_of, better, best_among}
use Rattle.active_table.specs.Parts.{rows_from}

-- ------------------------------------------------------------------ the row of a stream

module _ (rows : ℕ → ActiveStreamInfo) (id : ℕ) where
  abbrev id_at : ℕ → ℕ
  id_at i = (rows i).stream_id.0

  -- one row: it is the stream's, or the search goes on behind it
  pub seek_hit : (i n : ℕ) → id_at i ≡ id → seek_from rows id i (suc n) ≡ i
  unfolding seek_from
  seek_hit i n e = rw (eq-eqb _ _ e)

  pub seek_miss : (i n : ℕ) → (id_at i ≡ id → ⊥) → seek_from rows id i (suc n) ≡ seek_from rows id (suc i) n
  unfolding seek_from
  seek_miss i n e = rw (ne_eqb _ _ e)

  pub seek_none : (i : ℕ) → seek_from rows id i 0 ≡ i
  unfolding seek_from
  seek_none i = refl

-- What is found among c rows and m more, where the c are a part that stands from i on and is looked at from its row a on.
abbrev Parted : (ℕ → ActiveStreamInfo) → ℕ → ℕ → ℕ → ℕ → ℕ → Type 0
Parted rows id c i a m = (if ltb (seek_from (λ j. rows (i + j)) id a c) (a + c) then i + seek_from (λ j. rows (i + j)) id a c else seek_from rows id (i + (a + c)) m) ≡ seek_from rows id (i + a) (c + m)

parted : (rows : ℕ → ActiveStreamInfo) (id c i a m : ℕ) → Parted rows id c i a m
parted rows id zero i a m =
    let z : a + 0 ≡ a = omega arith in
    let y : 0 + m ≡ m = omega arith in
    let l : a ≤ a = omega arith in
    rw (seek_none (λ j. rows (i + j)) id a, z, y, le-ltb _ _ l)
parted rows id (suc c) i a m = go (tri (rows (i + a)).stream_id.0 id) (parted rows id c i (suc a) m)
  where
    t : suc c + m ≡ suc (c + m)
    t = omega arith

    past : ((rows (i + a)).stream_id.0 ≡ id → ⊥) → Parted rows id c i (suc a) m → Parted rows id (suc c) i a m
    past e ih =
        let s : a + suc c ≡ suc a + c = omega arith in
        let u : i + suc a ≡ suc (i + a) = omega arith in
        let ih' : (if ltb (seek_from (λ j. rows (i + j)) id (suc a) c) (suc a + c) then i + seek_from (λ j. rows (i + j)) id (suc a) c else seek_from rows id (i + (suc a + c)) m) ≡ seek_from rows id (suc (i + a)) (c + m) = ih ∙ ap (λ (x : ℕ). seek_from rows id x (c + m)) u in
        rw (t, seek_miss rows id (i + a) (c + m) e, seek_miss (λ j. rows (i + j)) id a c e, s) ih'

    go : Tri (rows (i + a)).stream_id.0 id → Parted rows id c i (suc a) m → Parted rows id (suc c) i a m
    go (same e) ih =
        let l : a < a + suc c = omega arith in
        rw (t, seek_hit rows id (i + a) (c + m) e, seek_hit (λ j. rows (i + j)) id a c e, lt-ltb _ _ l)
    go (less l) ih = past (λ e. omega arith) ih
    go (more l) ih = past (λ e. omega arith) ih

-- A part of c rows from i on, of n rows of the queue: the stream's row is in it, or behind it.
module _ (ws : List ℕ) (id n i c k : ℕ) (inv : seek ws id n ≡ seek_from (active_at ws) id i (n - i)) (h : i + c ≤ n) (ek : k ≡ seek_from (rows_from ws i) id 0 c) where
  whole : (if ltb k c then i + k else seek_from (active_at ws) id (i + c) (n - (i + c))) ≡ seek ws id n
  whole =
      let z : i + 0 ≡ i = omega arith in
      let y : 0 + c ≡ c = omega arith in
      let s : c + (n - (i + c)) ≡ n - i = omega arith in
      let p : Parted (active_at ws) id c i 0 (n - (i + c)) = parted (active_at ws) id c i 0 (n - (i + c)) in
      let q : (if ltb (seek_from (rows_from ws i) id 0 c) c then i + seek_from (rows_from ws i) id 0 c else seek_from (active_at ws) id (i + c) (n - (i + c))) ≡ seek_from (active_at ws) id i (n - i) =
      subst (λ (x : ℕ). (if ltb (seek_from (rows_from ws i) id 0 c) x then i + seek_from (rows_from ws i) id 0 c else seek_from (active_at ws) id (i + x) (n - (i + c))) ≡ seek_from (active_at ws) id i (n - i)) y (p ∙ (ap (λ (x : ℕ). seek_from (active_at ws) id x (c + (n - (i + c)))) z ∙ ap (seek_from (active_at ws) id i) s)) in
      subst (λ (x : ℕ). (if ltb x c then i + x else seek_from (active_at ws) id (i + c) (n - (i + c))) ≡ seek ws id n) (sym ek) (q ∙ sym inv)

  pub part_has : k < c → i + k ≡ seek ws id n
  part_has l =
      let g : (if ltb k c then i + k else seek_from (active_at ws) id (i + c) (n - (i + c))) ≡ i + k = rw (lt-ltb _ _ l) in
      sym g ∙ whole

  pub part_lacks : c ≤ k → seek ws id n ≡ seek_from (active_at ws) id (i + c) (n - (i + c))
  part_lacks l =
      let g : (if ltb k c then i + k else seek_from (active_at ws) id (i + c) (n - (i + c))) ≡ seek_from (active_at ws) id (i + c) (n - (i + c)) = rw (le-ltb _ _ l) in
      sym whole ∙ g

pub seek_start : (ws : List ℕ) (id n : ℕ) → seek ws id n ≡ seek_from (active_at ws) id 0 (n - 0)
unfolding seek
seek_start ws id n = rw sub-zero

pub seek_end : (ws : List ℕ) (id n i : ℕ) → seek ws id n ≡ seek_from (active_at ws) id i (n - i) → i ≤ n → n ≤ i → n ≡ seek ws id n
seek_end ws id n i inv l g =
    let s : n - i ≡ 0 = omega arith in
    let z : i ≡ n = omega arith in
    sym (inv ∙ (ap (seek_from (active_at ws) id i) s ∙ (seek_none (active_at ws) id i ∙ z)))

-- ------------------------------------------------------------------ the least row

-- The best of `start` and n rows from `from` on, part by part: i of them, and c behind those.
module _ (ws : List ℕ) (start : Best) (from : ℕ) where
  abbrev best : ℕ → Best
  best n = best_among (rows_from ws from) start from n

  joined : (i c : ℕ) → best_among (rows_from ws (from + i)) (best i) (from + i) c ≡ best (i + c)
  unfolding best_among
  joined i zero =
      let z : i + 0 ≡ i = omega arith in
      rw z
  joined i (suc c) =
      let s : i + suc c ≡ suc (i + c) = omega arith in
      let t : (from + i) + c ≡ from + (i + c) = omega arith in
      rw (s, t, joined i c)

  pub among_none : start ≡ best 0
  unfolding best_among
  among_none = refl

  pub among_part : (i c : ℕ) (a b : Best) → a ≡ best i → b ≡ best_among (rows_from ws (from + i)) a (from + i) c → b ≡ best (i + c)
  among_part i c a b ea eb = eb ∙ (ap (λ (x : Best). best_among (rows_from ws (from + i)) x (from + i) c) ea ∙ joined i c)

-- The better of two by its cases.
module _ (a : Best) (row : ActiveStreamInfo) (i : ℕ) where
  pub sooner : a.finish < row.virtual_finish_time → a ≡ better a (best_of row i)
  unfolding better
  sooner h =
      let l : a.finish ≤ row.virtual_finish_time = omega arith in
      let n : row.virtual_finish_time ≡ a.finish → ⊥ = λ e. omega arith in
      rw (le-ltb _ _ l, ne_eqb _ _ n)

  pub later : row.virtual_finish_time < a.finish → best_of row i ≡ better a (best_of row i)
  unfolding better
  later h = rw (lt-ltb _ _ h)

  module _ (l : row.virtual_finish_time ≤ a.finish) (m : a.finish ≤ row.virtual_finish_time) where
    level : row.virtual_finish_time ≡ a.finish
    level = omega arith

    pub first_id : a.id ≤ row.stream_id.0 → a ≡ better a (best_of row i)
    unfolding better
    first_id h = rw (le-ltb _ _ m, eq-eqb _ _ level, le-ltb _ _ h)

    pub second_id : row.stream_id.0 < a.id → best_of row i ≡ better a (best_of row i)
    unfolding better
    second_id h = rw (le-ltb _ _ m, eq-eqb _ _ level, lt-ltb _ _ h)
