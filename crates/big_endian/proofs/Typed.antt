-- What the type of lent bytes says: each of them is a byte. Assumes nothing.
use mathlib.Core.List.{List, [], ◌∷◌}
use Prim.Native.Nat.{ℕ, suc}
use borrow.Author.Tests.{lt-ltb}
use lib.Dec.{T}
use lib.ListN.{get_or}
use lib.Pow.{are_bytes}
use mir.Syntax.{w8}
use mir.Val.{Fits}

pub bytes_fit : (bs : List ℕ) → ((i : ℕ) → Fits w8 (get_or bs i 0)) → T (are_bytes bs)
bytes_fit [] f = tt
bytes_fit (b ∷ bs) f = rw (lt-ltb b 256 (f 0).fits) (bytes_fit bs (λ i. f (suc i)))
