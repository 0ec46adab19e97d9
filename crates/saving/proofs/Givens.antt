-- A library's word for "there is one" is the words' own. Assumes nothing.
use Rattle.std.specs.Prelude.{◌≡◌, Some, None}
use mathlib.Core.Path.{refl}
use Rattle.std.specs.Option.{is_some}
use Rattle.queue_words.specs.Items.{Expiry, Numbers, are_given, has_expiry}

pub numbers_given : (n : Numbers) → is_some n ≡ are_given n
numbers_given None = refl
numbers_given (Some n) = refl

pub expiry_given : (e : Expiry) → is_some e ≡ has_expiry e
expiry_given None = refl
expiry_given (Some t) = refl
