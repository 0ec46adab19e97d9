-- Reading a part of a payload: its test, its ways out, and that the bytes are the payload's. Assumes nothing.
use mathlib.Core.Path.{◌≡◌, sym, ap, ◌∙◌}
use mathlib.Core.List.{List, ◌++◌}
use Prim.Native.Nat.{ℕ, ◌+◌, ◌-◌, ◌≤◌, ◌<◌}
use native.Mathlib.Omega.{arith}
use borrow.Author.Tests.{le-ltb, lt-leb, eq-eqb, ltb-false, leb-false}
use lib.Dec.{ltb, leb}
use lib.ListN.{length, get_or, take, drop, length-drop}
use lib.Seq.{length-take-le, get_or-take, get_or-drop}
use Rattle.payload_store.specs.Words.{place_of, size_of}
use Rattle.payload_store.specs.Reading.{read_code, read_part}
use Rattle.queue_words.specs.declared.header.Gaps.{Gaps}
use Rattle.payload_store.specs.Good.{payload_of, Lay}
use Rattle.payload_store.proofs.Moves.{part_same}
use Rattle.payload_store.proofs.Cases.{pick_else}

-- a part of a part is a part
pub part_of_part : (st : List ℕ) (p size off n : ℕ) → p + size ≤ length st → off + n ≤ size → take n (drop (p + off) st) ≡ take n (drop off (take size (drop p st)))
part_of_part st p size off n h k =
    let l : length (take size (drop p st)) ≡ size = length-take-le size (drop p st) (simp length-drop (omega arith)) in
    part_same (take size (drop p st)) st off (p + off) n (omega arith) (omega arith)
    (λ j q. let b : off + j < size = omega arith in
    let a : p + (off + j) ≡ p + off + j = omega arith in
    sym (get_or-take size (drop p st) (off + j) 0 b ∙ (get_or-drop p st (off + j) 0 ∙ ap (λ x. get_or st x 0) a)))

pub record ReadOk (ws : List ℕ) (len i off n room : ℕ) : Type 0 where
  pub row : i < 1024
  pub inside : place_of ws i + size_of ws i ≤ len
  pub part : off + n ≤ size_of ws i
  pub fits : n ≤ room

pub read_ok : (ws : List ℕ) (len i off n room : ℕ) → read_code ws len i off n room ≡ 0 → ReadOk ws len i off n room
unfolding read_code
read_ok ws len i off n room e =
    let t1 = pick_else (leb 1024 i) 16 _ 0 (λ z. omega arith) e in
    let t2 = pick_else (ltb len (size_of ws i)) 16 _ 0 (λ z. omega arith) t1.1 in
    let t3 = pick_else (ltb (len - size_of ws i) (place_of ws i)) 16 _ 0 (λ z. omega arith) t2.1 in
    let t4 = pick_else (ltb (size_of ws i) off) 16 _ 0 (λ z. omega arith) t3.1 in
    let t5 = pick_else (ltb (size_of ws i - off) n) 16 _ 0 (λ z. omega arith) t4.1 in
    let t6 = pick_else (ltb room n) 16 _ 0 (λ z. omega arith) t5.1 in
    record {
      row = leb-false 1024 i t1.0;
      inside = omega (arith, ltb-false len (size_of ws i) t2.0, ltb-false (len - size_of ws i) (place_of ws i) t3.0);
      part = omega (arith, ltb-false (size_of ws i) off t4.0, ltb-false (size_of ws i - off) n t5.0);
      fits = ltb-false room n t6.0;
    }

pub read_held : (ws : List ℕ) (len i off n room code : ℕ) → code ≡ read_code ws len i off n room → code ≤ 0 → ReadOk ws len i off n room
read_held ws len i off n room code ec h = read_ok ws len i off n room (omega arith)

pub read_done : (ws st dst dst' : List ℕ) (i off n code p : ℕ) → code ≡ read_code ws (length st) i off n (length dst) → code ≤ 0 → p ≡ place_of ws i
    → dst' ≡ take n (drop (p + off) st) ++ drop n dst → (0 ≡ read_code ws (length st) i off n (length dst)) × (dst' ≡ read_part ws st i off n dst)
unfolding read_part payload_of
read_done ws st dst dst' i off n code p ec h ep ed =
    let o = read_held ws (length st) i off n (length dst) code ec h in
    let z : read_code ws (length st) i off n (length dst) ≡ 0 = omega arith in
    (sym z, rw (eq-eqb (read_code ws (length st) i off n (length dst)) 0 z) (ed ∙ rw (ep, part_of_part st (place_of ws i) (size_of ws i) off n o.inside o.part)))

-- THE THEOREM of reading: every part of a payload can be read, and its bytes are the payload's
pub read_law : (ws st dst : List ℕ) (at : Gaps) (i off n : ℕ) → Lay ws st at → i < 1024 → off + n ≤ size_of ws i → n ≤ length dst
    → (read_code ws (length st) i off n (length dst) ≡ 0) × (read_part ws st i off n dst ≡ take n (drop off (payload_of ws st i)) ++ drop n dst)
unfolding read_part read_code
read_law ws st dst at i off n g h p f =
    let q : place_of ws i + size_of ws i ≤ length st = g.inside i h in
    let z : read_code ws (length st) i off n (length dst) ≡ 0 = rw (
      lt-leb 1024 i h,
      le-ltb (length st) (size_of ws i) (omega arith),
      le-ltb (length st - size_of ws i) (place_of ws i) (omega arith),
      le-ltb (size_of ws i) off (omega arith),
      le-ltb (size_of ws i - off) n (omega arith),
      le-ltb (length dst) n f,
    ) in
    (z, rw (eq-eqb (read_code ws (length st) i off n (length dst)) 0 z))
