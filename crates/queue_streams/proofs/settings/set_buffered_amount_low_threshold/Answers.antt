-- `queue_streams::settings::set_buffered_amount_low_threshold` meets its contract: each return is a case of `set_threshold_words` (proofs/Exits.antt). Assumes
-- nothing.
use mathlib.Core.Path.{refl, sym, ap, ◌∙◌}
use Rattle.std.proofs.lemmas.Result.{err_from_is_err_and}
use Rattle.queue_streams.specs.Known.{placed}
use Rattle.queue_streams.proofs.Exits.{look_row, look_new, threshold_few, threshold_row, threshold_new, threshold_refused}
use Rattle.queue_streams.proofs.settings.set_buffered_amount_low_threshold.Goals as goal

pub returns-then-events-lt-EVENT_WORDS : goal.returns-then-events-lt-EVENT_WORDS
returns-then-events-lt-EVENT_WORDS c = threshold_few _ _ _ _ c.if-events-lt-EVENT_WORDS.true

pub set_threshold_in-requires : goal.set_threshold_in-requires
set_threshold_in-requires c = (look_row _ _ _ (sym (ap placed (sym c.in-Row.is) ∙ c.in_ok-place.ensures)), c.if-events-lt-EVENT_WORDS.false)

pub set_threshold_of_new-requires : goal.set_threshold_of_new-requires
set_threshold_of_new-requires c = look_new _ _ _ (sym (ap placed (sym c.in-New.is) ∙ c.in_ok-place.ensures))

pub returns-in_err-place : goal.returns-in_err-place
returns-in_err-place c =
    let p = err_from_is_err_and c.from_residual.result c.from_residual.ensures.1 in
    rw (p.1, p.2) (threshold_refused _ _ _ _ c.if-events-lt-EVENT_WORDS.false _ c.in_err-place.ensures _ refl)

pub returns-in-Row : goal.returns-in-Row
returns-in-Row c = threshold_row _ _ _ _ c.if-events-lt-EVENT_WORDS.false _ (ap placed (sym c.in-Row.is) ∙ c.in_ok-place.ensures) _ _ _ _ refl c.set_threshold_in.ensures

pub returns-in-New : goal.returns-in-New
returns-in-New c =
    threshold_new _ _ _ _ c.if-events-lt-EVENT_WORDS.false _ (ap placed (sym c.in-New.is) ∙ c.in_ok-place.ensures) _ _ _ _ refl refl refl c.set_threshold_of_new.ensures
