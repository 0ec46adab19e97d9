-- Numbers in bytes: "Numbers are unsigned, high byte first." Assumes nothing.
use Rattle.std.specs.Prelude.{ℕ, ◌+◌, List, ◌++◌, length, take, drop}
use Rattle.queue_model.specs.Bytes.{bytes_number}

-- the number in the w bytes from `at` on
unfoldable pub number_at : List ℕ → ℕ → ℕ → ℕ
number_at bs at w = bytes_number (take w (drop at bs))

-- the buffer with xs from `at` on, and all else as it was
unfoldable pub wrote : List ℕ → ℕ → List ℕ → List ℕ
wrote b at xs = take at b ++ (xs ++ drop (at + length xs) b)
