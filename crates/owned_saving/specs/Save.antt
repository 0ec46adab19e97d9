-- "If an answer is an enum, a definition states this paper's number and values for each case of the enum." Of saving an owned queue, as the checked call says it; 16 is none of them. Assumes nothing.
use Rattle.std.specs.Prelude.{ℕ, Result, Ok, Err}
use Rattle.saving.specs.Saved.{Saved, Image, Refused}
use Rattle.owned_saving.specs.declared.SaveRefusal.{SaveRefusal}
use Rattle.owned_saving.specs.declared.SaveRefusal.TheVariants.{TimeLate, ImageBufferShort}

-- 4: "A time .. is above 4,611,686,018,427,387,903." 11: "The image buffer is shorter than the image."
abbrev pub save_number : SaveRefusal → ℕ
save_number TimeLate = 4
save_number ImageBufferShort = 11

abbrev pub saved_as : Result ℕ SaveRefusal → Saved
saved_as (Ok n) = Image n
saved_as (Err r) = Refused (save_number r)
