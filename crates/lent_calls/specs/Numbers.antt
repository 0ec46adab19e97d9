-- "If an answer is an enum, a definition states this paper's number and values for each case of the enum." Assumes nothing.
use Rattle.std.specs.Prelude.{ℕ}
use Rattle.types.specs.Refusal.{refusal_number}
use Rattle.lent_calls.specs.declared.LentError.{LentError}
use Rattle.lent_calls.specs.declared.LentError.TheVariants.{TooShort, Refused}

-- The refusal's number; 99, which no document has, where an array is shorter than the length asked for.
abbrev pub lent_number : LentError → ℕ
lent_number TooShort = 99
lent_number (Refused r) = refusal_number r
