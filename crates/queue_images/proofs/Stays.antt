-- A refused saving leaves the lent buffer as it was. Assumes nothing.
use mathlib.Core.Path.{◌≡◌, refl}
use mathlib.Core.Bool.{Bool, true, false}
use mathlib.Core.List.{List}
use Prim.Native.Nat.{ℕ}
use native.Mathlib.Omega.{arith}
use lib.Dec.{eqb, ltb}
use lib.ListN.{length}
use Rattle.queue_words.specs.Flags.{pick}
use Rattle.queue_words.specs.Header.{options_at}
use Rattle.saving.specs.Bytes.{image_size}
use Rattle.saving.specs.Measure.{tally_queue}
use Rattle.saving.specs.Save.{SavedAs, saved_as, save_with, save_image}
use Rattle.saving.specs.Saved.{Image, Refused}
use Rattle.saving.specs.declared.measuring.Tally.{Tally}
use Rattle.queue_images.specs.Refusals.{saved_refused, SaveRefusedUnchanged}

unfoldable Keeps : List ℕ → SavedAs → Type 0
Keeps b x = saved_refused x.answer ≡ true → x.image ≡ b

keep_pick : (b : List ℕ) (t : Bool) (x y : SavedAs) → Keeps b x → Keeps b y → Keeps b (pick t x y)
keep_pick b true x y f g = f
keep_pick b false x y f g = g

keep_refused : (b : List ℕ) (n : ℕ) → Keeps b (saved_as (Refused n) b)
unfolding Keeps
keep_refused b n e = refl

keep_saved : (b us : List ℕ) (n : ℕ) → Keeps b (saved_as (Image n) us)
unfolding Keeps
keep_saved b us n e = let z : ◌≡◌ {A = ℕ} 0 1 = cc in absurd (omega arith)

held : (ws st b : List ℕ) (time : ℕ) → Keeps b (save_image ws st b time)
unfolding save_image
held ws st b time =
    keep_pick b (eqb (length st) (options_at ws).store_length) _ _
    (keep_pick b (ltb 4611686018427387903 time) _ _ (keep_refused b 4) (with_tally (tally_queue ws (length st))))
    (keep_refused b 2)
  where
    with_tally : (t : Tally) → Keeps b (save_with ws st b time t)
    with_tally t = keep_pick b t.ok _ _ (keep_pick b (ltb (length b) (image_size t)) _ _ (keep_refused b 11) (keep_saved b _ _)) (keep_refused b 16)

pub save_refused_unchanged : SaveRefusedUnchanged
unfolding Keeps
save_refused_unchanged ws st b time = held ws st b time
