-- The payload of a message and the sum of bytes, as the trace's format has them. Assumes nothing.
use Rattle.std.specs.Prelude.{ℕ, zero, suc, ◌+◌, ◌*◌, ◌/◌, ◌%◌, List, [], ◌∷◌}

-- "x = (x × 1103515245 + 12345) mod 2147483648"
abbrev pub next_of : ℕ → ℕ
next_of x = (x * 1103515245 + 12345) % 2147483648

-- "the byte is (x / 65536) mod 256"
abbrev pub byte_of : ℕ → ℕ
byte_of x = x / 65536 % 256

-- The next n bytes.
unfoldable pub bytes_from : ℕ → ℕ → List ℕ
bytes_from x zero = []
bytes_from x (suc n) = byte_of (next_of x) ∷ bytes_from (next_of x) n

-- "s = (s × 31 + byte) mod 4294967296"
abbrev pub sum_with : ℕ → ℕ → ℕ
sum_with s b = (s * 31 + b) % 4294967296

unfoldable pub sum_from : ℕ → List ℕ → ℕ
sum_from s [] = s
sum_from s (b ∷ bs) = sum_from (sum_with s b) bs
