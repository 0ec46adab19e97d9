-- Saving a queue: the call, on the words, the store and the lent buffer. Assumes nothing.
use Rattle.std.specs.Prelude.{ℕ, List, Result, Ok, Err, ltb, eqb, length}
use Rattle.types.specs.Refusal.{refusal_number}
use Rattle.types.specs.declared.refusal.Refusal.{Refusal}
use Rattle.queue_words.specs.Flags.{pick}
use Rattle.queue_words.specs.Header.{options_at}
use Rattle.big_endian.specs.Numbers.{wrote}
use Rattle.saving.specs.Saved.{Saved}
use Rattle.saving.specs.Saved.{Image, Refused}
use Rattle.saving.specs.declared.measuring.Tally.{Tally}
use Rattle.saving.specs.Measure.{tally_queue}
use Rattle.saving.specs.Bytes.{image_bytes_words, image_size}

-- What the code answers, in document 01's numbers.
abbrev pub as_saved : Result ℕ Refusal → Saved
as_saved (Ok n) = Image n
as_saved (Err r) = Refused (refusal_number r)

-- The answer's number, 0 where the queue is saved, else the refusal's; and its value, the image's length.
abbrev pub saved_number : Saved → ℕ
saved_number (Image n) = 0
saved_number (Refused n) = n

abbrev pub saved_length : Saved → ℕ
saved_length (Image n) = n
saved_length (Refused n) = 0

-- The answer, and the buffer as the call leaves it.
pub record SavedAs : Type 0 where
  pub answer : Saved
  pub image : List ℕ

abbrev pub saved_as : Saved → List ℕ → SavedAs
saved_as r b = record { answer = r; image = b }

-- 16: broken words, which have no image whose size could be compared. 11: "The image buffer is shorter than the image." Else the image stands at the buffer's start; "places past what a call writes stay unchanged".
abbrev pub save_with : List ℕ → List ℕ → List ℕ → ℕ → Tally → SavedAs
save_with ws st b time t =
    pick t.ok
    (pick (ltb (length b) (image_size t)) (saved_as (Refused 11) b) (saved_as (Image (image_size t)) (wrote b 0 (image_bytes_words ws st time t))))
    (saved_as (Refused 16) b)

-- 2: the store is "not of its creation length". 4: "A time .. is above 4,611,686,018,427,387,903."
unfoldable pub save_image : List ℕ → List ℕ → List ℕ → ℕ → SavedAs
save_image ws st b time =
    pick (eqb (length st) (options_at ws).store_length)
    (pick (ltb 4611686018427387903 time) (saved_as (Refused 4) b) (save_with ws st b time (tally_queue ws (length st))))
    (saved_as (Refused 2) b)
