-- A look where the words are not broken. Assumes nothing.
use Rattle.std.specs.Prelude.{◌≡◌}
use Rattle.queue_sending.specs.Look.{Look}
use Rattle.queue_sending.specs.Look as look
use Rattle.queue_sending.specs.declared.choice.Ahead.{Ahead}
use Rattle.queue_sending.specs.declared.choice.Ahead.TheVariants as ahead

-- The same as the checked look shows it.
abbrev pub look_of : Ahead → Look
look_of ahead.Nothing = look.Nothing
look_of (ahead.Expired id row) = look.Expired id row
look_of (ahead.Chosen at id row) = look.Chosen at id row

-- 16 is not given for what is found.
abbrev pub Unbroken : Look → Type 0
Unbroken l = l ≡ look.Broken → ⊥
