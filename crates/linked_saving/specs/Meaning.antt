-- Saving is the model's. Assumes nothing.
use Rattle.std.specs.Prelude.{ℕ, ◌≡◌, List, ◌++◌, length, drop}
use Rattle.queue_model.specs.Answers.{saving_number, saving_length}
use Rattle.queue_model.specs.Image as image
use Rattle.queue_state.specs.Model.{model}
use Rattle.queue_state.specs.Good.{Good}
use Rattle.saving.specs.Saved.{Saved}
use Rattle.saving.specs.Saved.{Image, Refused}
use Rattle.saving.specs.Save.{SavedAs, saved_as, saved_number, saved_length, save_image}

-- The model's answer and the lent buffer: the refusal's number, and the buffer as it was; or the image's length, and the image at the buffer's start,
-- "places past what
-- a call writes stay unchanged".
abbrev pub saved_of : List ℕ → image.Saving → SavedAs
saved_of b (image.not_saved n) = saved_as (Refused n) b
saved_of b (image.saved_as_lem bs) = saved_as (Image (length bs)) (bs ++ drop (length bs) b)

-- What saving at a time answers and leaves: for every input the definition on the words; on the words of a queue, the model's.
pub record SaveMeets (ws st b : List ℕ) (time : ℕ) (r : Saved) (b' : List ℕ) : Type 0 where
  pub words : saved_as r b' ≡ save_image ws st b time
  pub number : Good ws st → saved_number r ≡ saving_number (image.save (length st) (length b) time (model ws st))
  pub size : Good ws st → saved_length r ≡ saving_length (image.save (length st) (length b) time (model ws st))
  pub model : Good ws st → saved_as r b' ≡ saved_of b (image.save (length st) (length b) time (model ws st))
