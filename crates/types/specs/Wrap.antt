-- Counters of w bits: "each adds modulo its width" (document 01). Assumes nothing.
use Rattle.std.specs.Prelude.{ℕ, suc, ◌+◌, ◌%◌, ◌^◌}

-- The sum of two numbers of w bits. It is shut, so that a proof goes by the laws of proofs/Width.antt or says `unfolding wrapping_add`.
unfoldable pub wrapping_add : ℕ → ℕ → ℕ → ℕ
wrapping_add w n m = (n + m) % 2 ^ w

-- The number after n of a counter of w bits: they "grow by one [..] and wrap".
abbrev pub wrap_suc : ℕ → ℕ → ℕ
wrap_suc w n = suc n % 2 ^ w
