-- `queue_sending::choice::look_for` meets its contract: each return is what its definition says, by what the calls ensure and the tests taken. Assumes nothing.
use mathlib.Core.Path.{sym}
use Rattle.queue_words.proofs.Finds.{find_hit}
use Rattle.queue_sending.specs.Choice.{look_for_words}
use Rattle.queue_sending.proofs.choice.look_for.Goals as goal

pub look_at-requires : goal.look_at-requires
look_at-requires c = (find_hit _ _ _ _ (sym c.in-At.ensures)).place_fits

pub returns-in-At : goal.returns-in-At
unfolding look_for_words
returns-in-At c =
    rw (
      ← c.in-At.ensures,
      ← c.look_at.ensures,
    )

pub returns-in-Gap : goal.returns-in-Gap
unfolding look_for_words
returns-in-Gap c =
    rw (← c.in-Gap.ensures)

pub returns-in-Broken : goal.returns-in-Broken
unfolding look_for_words
returns-in-Broken c =
    rw (← c.in-Broken.ensures)
