-- A stream that becomes resetting: the word of its row that changes. Assumes nothing.
use Rattle.std.specs.Prelude.{ℕ, ◌+◌, ◌*◌, List, set}

-- Ready ids "become resetting": of the stream in a row its state, and no other word.
unfoldable pub put_resetting : List ℕ → ℕ → List ℕ
put_resetting ws row = set ws (544 + row * 10 + 1) 3
