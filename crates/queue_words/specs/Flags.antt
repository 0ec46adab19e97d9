-- Flags as words, and a choice by a test. Assumes nothing.
use Rattle.std.specs.Prelude.{ℕ, Bool, true, false, eqb}

-- the word of a flag
abbrev pub bit : Bool → ℕ
bit true = 1
bit false = 0

-- the flag of a word: 1 is true, every other word false
abbrev pub flag : ℕ → Bool
flag w = eqb w 1

-- a if the test holds, else b
abbrev pub pick : {A : Type 0} → Bool → A → A → A
pick true a b = a
pick false a b = b
