-- The row chosen is one of the rows, on any words. Assumes nothing.
use mathlib.Core.Path.{◌≡◌, refl}
use mathlib.Core.Bool.{Bool, true, false}
use mathlib.Core.List.{List}
use Prim.Native.Nat.{ℕ, ◌<◌}
use native.Mathlib.Omega.{arith}
use borrow.Author.Tests.{ltb-true, eqb-false}
use lib.Dec.{ltb, eqb}
use Rattle.std.specs.Prelude.{if◌then◌else◌}
use Rattle.queue_words.specs.Header.{scheduler_at}
use Rattle.active_table.specs.Groups.{least_known}
use Rattle.stream_scheduler.specs.Words.{current_row, peek_among, peek_words}
use Rattle.stream_scheduler.specs.declared.Peeked.TheVariants as peeked
use Rattle.stream_scheduler.proofs.Search.{known_in}

abbrev front : List ℕ → ℕ
front ws = current_row ws (scheduler_at ws).active (scheduler_at ws).current

pub peek_in : (ws : List ℕ) (i : ℕ) → peeked.At i ≡ peek_words ws → i < (scheduler_at ws).active
unfolding peek_words peek_among
peek_in ws i e = by (ltb 256 (scheduler_at ws).active) (eqb (scheduler_at ws).active 0) (ltb (front ws) (scheduler_at ws).active) refl refl e
  where
    by : (a b d : Bool) → eqb (scheduler_at ws).active 0 ≡ b → ltb (front ws) (scheduler_at ws).active ≡ d
        → peeked.At i ≡ (if a then peeked.Broken else if b then peeked.Nothing else (if d then peeked.At (front ws) else peeked.At (least_known ws (scheduler_at ws).active).at))
        → i < (scheduler_at ws).active
    by true b d eb ed e = let z : ◌≡◌ {A = ℕ} 0 1 = cc e in absurd (omega arith)
    by false true d eb ed e = let z : ◌≡◌ {A = ℕ} 0 1 = cc e in absurd (omega arith)
    by false false true eb ed e = let s : i ≡ front ws = cc e in omega (arith, s, ltb-true (front ws) (scheduler_at ws).active ed)
    by false false false eb ed e =
        let s : i ≡ (least_known ws (scheduler_at ws).active).at = cc e in
        let pos : 0 < (scheduler_at ws).active = omega (arith, eqb-false (scheduler_at ws).active 0 eb) in
        omega (arith, s, known_in ws (scheduler_at ws).active pos)
