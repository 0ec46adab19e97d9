-- `queue_sending::past::next_more` meets its contract: an expired head is left to `pass_on`, any other find is all that is left (proofs/Nexts.antt).
-- Assumes nothing.
use mathlib.Core.Path.{ap, ◌∙◌}
use Rattle.std.specs.Prelude.{Result}
use Rattle.types.specs.declared.refusal.Broken.{Broken}
use Rattle.queue_sending.specs.Answers.{as_look}
use Rattle.queue_sending.specs.Own.{look_of}
use Rattle.queue_sending.specs.declared.choice.Ahead.{Ahead}
use Rattle.queue_sending.proofs.Passes.{expired_found}
use Rattle.queue_sending.proofs.Nexts.{found_ends}
use Rattle.queue_sending.proofs.past.next_more.Goals as goal

pub returns-in-Ok-Nothing : goal.returns-in-Ok-Nothing
returns-in-Ok-Nothing c =
    let at = ap (λ (f : Result Ahead Broken). expired_found (as_look f)) c.in-Ok-Nothing.is in
    let is = ap (λ (a : Ahead). expired_found (look_of a)) (rw c.in-Ok-Nothing.is at c.in-Ok-Nothing.field-0-is) in
    found_ends _ _ _ _ _ _ _ _ _ _ c.requires.1 (at ∙ is) c.next_here.ensures

pub returns-in-Ok-Chosen : goal.returns-in-Ok-Chosen
returns-in-Ok-Chosen c =
    let at = ap (λ (f : Result Ahead Broken). expired_found (as_look f)) c.in-Ok-Chosen.is in
    let is = ap (λ (a : Ahead). expired_found (look_of a)) (rw c.in-Ok-Chosen.is at c.in-Ok-Chosen.field-0-is) in
    found_ends _ _ _ _ _ _ _ _ _ _ c.requires.1 (at ∙ is) c.next_here-in-Ok-Chosen.ensures

pub returns-in-Err : goal.returns-in-Err
returns-in-Err c = found_ends _ _ _ _ _ _ _ _ _ _ c.requires.1 (ap (λ (f : Result Ahead Broken). expired_found (as_look f)) c.in-Err.is) c.next_here-in-Err.ensures
