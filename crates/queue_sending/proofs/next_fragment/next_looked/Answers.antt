-- `queue_sending::next_fragment::next_looked` meets its contract: each return is what its definition says, by what the calls ensure and the tests taken.
-- Assumes nothing.
use mathlib.Core.Path.{sym, ap, ◌∙◌}
use Rattle.queue_sending.specs.Answers.{as_look}
use Rattle.queue_sending.specs.Own.{look_of}
use Rattle.queue_sending.proofs.Ahead.{chosen_row}
use Rattle.queue_sending.proofs.next_fragment.next_looked.Goals as goal

pub returns-in-Ok-Chosen : goal.returns-in-Ok-Chosen
returns-in-Ok-Chosen c =
    let is = rw c.in-Ok-Chosen.is at c.in-Ok-Chosen.field-0-is in
    (rw (c.in-Ok-Chosen.is, is), chosen_row _ _ _ _ _ (sym (ap as_look c.in-Ok-Chosen.is ∙ ap look_of is) ∙ c.requires.1))
