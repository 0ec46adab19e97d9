-- A refused saving leaves the lent buffer as it was, on any words at all. (It has no queue to change: the words and the store are lent to be read.)
-- Assumes nothing.
use Rattle.std.specs.Prelude.{ℕ, ◌≡◌, Bool, true, false, List}
use Rattle.saving.specs.Save.{save_image}
use Rattle.saving.specs.Saved.{Saved}
use Rattle.saving.specs.Saved.{Image, Refused}

abbrev pub saved_refused : Saved → Bool
saved_refused (Image n) = false
saved_refused (Refused n) = true

abbrev pub SaveRefusedUnchanged : Type 0
SaveRefusedUnchanged = (ws st b : List ℕ) (time : ℕ) → saved_refused (save_image ws st b time).answer ≡ true → (save_image ws st b time).image ≡ b
