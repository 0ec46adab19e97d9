-- The free places one by one; the words of no loop step. Assumes nothing.
use mathlib.Core.Path.{◌≡◌, refl, sym, ap, subst, ◌∙◌}
use mathlib.Core.Bool.{Bool, true, false}
use mathlib.Core.List.{List}
use Prim.Native.Nat.{ℕ, ◌+◌, ◌≤◌, ◌<◌}
use native.Mathlib.Omega.{arith}
use native.Mathlib.Numerals.{add-one}
use borrow.Author.Tests.{ltb-false}
use lib.Dec.{ltb, eqb}
use Rattle.queue_words.specs.Flags.{pick}
use Rattle.queue_words.specs.Items.{put_next, put_place, put_length}
use Rattle.queue_words.specs.Find.{find_stream_words}
use Rattle.queue_words.specs.Header.{options_at}
use Rattle.queue_words.specs.declared.known.Found.{Found}
use Rattle.queue_words.specs.declared.known.Found.TheVariants.{At}
use Rattle.queue_words.proofs.Finds.{find_hit}
use Rattle.queue_streams.specs.Known.{look_up}
use Rattle.queue_streams.specs.Place.{Place}
use Rattle.queue_streams.specs.Place as place
use Rattle.queue_streams.proofs.Exits.{look_row, look_new}
use Rattle.queue_messages.specs.Add.{arguments_code, HasPlace, row_for}
use Rattle.queue_messages.specs.Create.{freed}
use Rattle.queue_messages.specs.Message.{Lifetime, nanoseconds}
use Rattle.std.specs.Prelude.{Some}

-- the places freed so far
pub freed_none : (ws : List ℕ) → ws ≡ freed ws 0
unfolding freed
freed_none ws = refl

pub freed_next : (ws us vs ys xs : List ℕ) (i : ℕ) → us ≡ freed ws i → vs ≡ put_length us i 0 → ys ≡ put_place vs i 0 → xs ≡ put_next ys i (i + 1) → xs ≡ freed ws (i + 1)
unfolding freed
freed_next ws us vs ys xs i e f h g =
    g
    ∙ ap (λ (y : List ℕ). put_next y i (i + 1)) (h ∙ ap (λ (v : List ℕ). put_place v i 0) (f ∙ ap (λ (u : List ℕ). put_length u i 0) e))
    ∙ ap (λ (n : ℕ). freed ws n) (sym (add-one i))

-- a stream that is found has a row of the table
pub found_row : (ws : List ℕ) (id : ℕ) (f : Found) (p r : ℕ) → f ≡ find_stream_words ws id → f ≡ At p r → r < 256
found_row ws id f p r e g = (find_hit ws id p r (sym e ∙ g)).place_fits

-- arguments that are not refused: the times are allowed
allowed : (b d f : Bool) (x : ℕ) → pick b (pick d 4 (pick f 4 x)) 2 ≤ 0 → (d ≡ false) × (f ≡ false)
allowed true true f x h = absurd (omega arith)
allowed true false true x h = absurd (omega arith)
allowed true false false x h = (refl, refl)
allowed false d f x h = absurd (omega arith)

pub arguments_fit : (ws : List ℕ) (len time : ℕ) (l : Lifetime) (n code : ℕ) → code ≡ arguments_code ws len time l n → code ≤ 0
    → (time ≤ 4611686018427387903) × (nanoseconds l ≤ 4611686018427387903)
unfolding arguments_code
arguments_fit ws len time l n code e h =
    let k : (ltb 4611686018427387903 time ≡ false) × (ltb 4611686018427387903 (nanoseconds l) ≡ false) =
    allowed (eqb (options_at ws).store_length len) (ltb 4611686018427387903 time) (ltb 4611686018427387903 (nanoseconds l)) (pick (eqb n 0) 5 (pick (ltb 262144 n) 5 0)) (subst (λ x. x ≤ 0) e h)
    in
    (omega (arith, ltb-false 4611686018427387903 time k.0), omega (arith, ltb-false 4611686018427387903 (nanoseconds l) k.1))

-- a place that is looked up lies inside its table, and so does the row there
pub has_place : (ws : List ℕ) (id : ℕ) (p : Place) → p ≡ look_up ws id → HasPlace ws p
has_place ws id (place.Row row) e = look_row ws id row (sym e)
has_place ws id (place.New position) e = look_new ws id position (sym e)
has_place ws id (place.Refused code) e = tt

pub row_fits : (ws : List ℕ) (p : Place) → HasPlace ws p → row_for ws p < 256
row_fits ws (place.Row row) h = h
row_fits ws (place.New position) h = h.1
row_fits ws (place.Refused code) h = omega arith

-- a lifetime that is given keeps the bound
pub limited_fits : (l : Lifetime) (n : ℕ) → l ≡ Some n → nanoseconds l ≤ 4611686018427387903 → n ≤ 4611686018427387903
limited_fits l n e h = subst (λ (x : Lifetime). nanoseconds x ≤ 4611686018427387903) e h
