-- `queue_streams::settings::set_priority` meets its contract: each return is a case of `set_priority_words` (proofs/Exits.antt). Assumes nothing.
use mathlib.Core.Path.{refl, sym, ap, ◌∙◌}
use Rattle.std.proofs.lemmas.Result.{err_from_is_err_and}
use Rattle.queue_streams.specs.Known.{placed}
use Rattle.queue_streams.proofs.Exits.{look_row, look_new, priority_row, priority_new, priority_refused}
use Rattle.queue_streams.proofs.settings.set_priority.Goals as goal

pub set_priority_in-requires : goal.set_priority_in-requires
set_priority_in-requires c = look_row _ _ _ (sym (ap placed (sym c.in-Row.is) ∙ c.in_ok-place.ensures))

pub set_priority_of_new-requires : goal.set_priority_of_new-requires
set_priority_of_new-requires c = look_new _ _ _ (sym (ap placed (sym c.in-New.is) ∙ c.in_ok-place.ensures))

pub returns-in_err-place : goal.returns-in_err-place
returns-in_err-place c =
    let p = err_from_is_err_and c.from_residual.result c.from_residual.ensures.1 in
    rw (p.1, p.2) (priority_refused _ _ _ _ c.in_err-place.ensures _ refl)

pub returns-in-Row : goal.returns-in-Row
returns-in-Row c = priority_row _ _ _ _ (ap placed (sym c.in-Row.is) ∙ c.in_ok-place.ensures) _ _ _ refl refl c.set_priority_in.ensures

pub returns-in-New : goal.returns-in-New
returns-in-New c = priority_new _ _ _ _ (ap placed (sym c.in-New.is) ∙ c.in_ok-place.ensures) _ _ _ _ refl refl refl c.set_priority_of_new.ensures
