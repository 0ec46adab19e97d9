-- Sums that stop at 2^64 - 1, and what remains of a message. Assumes nothing.
use Rattle.std.specs.Prelude.{ℕ, ◌+◌, ◌-◌, ltb}
use Rattle.queue_words.specs.Flags.{pick}
use Rattle.queue_words.specs.declared.items.Item.{Item}

-- A call's test has refused a sum that would stop.
unfoldable pub sum : ℕ → ℕ → ℕ
sum a b = pick (ltb (18446744073709551615 - a) b) 18446744073709551615 (a + b)

-- The bytes of a message that are not handed out yet.
unfoldable pub rest : Item → ℕ
rest m = m.length - m.offset
