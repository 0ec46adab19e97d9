-- What is wrong with a list. Assumes nothing.
use Rattle.std.specs.Prelude.{Bool, false, not, ◌||◌, List, [], ◌∷◌, ℕ, ◌+◌, eqb, ltb, length, get_or, drop}
use Rattle.queue_model.specs.Logic.{outside, any, is_nil}
use Rattle.queue_model.specs.Refusals.{max_payload}

-- "up to 32 heads".
abbrev pub max_planned : ℕ
max_planned = 32

-- "names one twice": the id at a place is named again behind it.
abbrev pub named_later : List ℕ → ℕ → Bool
named_later ids at = any (eqb (get_or ids at 0)) (drop (at + 1) ids)

unfoldable pub named_twice : List ℕ → Bool
unfolding any
named_twice [] = false
named_twice (i ∷ is) = any (eqb i) is || named_twice is

-- "a size is outside 1 to 262,144".
unfoldable pub size_outside : List ℕ → Bool
unfolding any
size_outside ns = any (outside 1 max_payload) ns

-- "28 when the list is empty, has more than 32 ids or names one twice, or a size is outside 1 to 262,144, or ids and sizes differ in count".
unfoldable pub list_wrong : List ℕ → List ℕ → Bool
unfolding is_nil named_twice size_outside
list_wrong ids sizes = is_nil ids || (ltb max_planned (length ids) || (not (eqb (length ids) (length sizes)) || (named_twice ids || size_outside sizes)))
