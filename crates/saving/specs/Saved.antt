-- What saving answers, in document 01's numbers: the length of the image, which stands at the start of the lent buffer, or the refusal. Assumes nothing.
use Rattle.std.specs.Prelude.{ℕ}

pub data Saved : Type 0 where
  Image : ℕ → Saved
  Refused : ℕ → Saved
