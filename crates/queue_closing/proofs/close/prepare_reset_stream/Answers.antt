use mathlib.Core.Path.{sym, ap, ◌∙◌}
use Rattle.std.proofs.lemmas.Result.{err_from_is_err_and}
use Rattle.queue_streams.specs.Known.{placed}
use Rattle.queue_streams.proofs.Exits.{look_row, look_new}
use Rattle.queue_closing.proofs.Exits.{closed_few, closed_row, closed_new, closed_refused}
use Rattle.std.proofs.Common.{refl}
use Rattle.queue_closing.proofs.close.prepare_reset_stream.Goals as goal

-- `queue_closing::close::prepare_reset_stream` meets its contract: each return is a case of `close` (proofs/Exits.antt). Assumes nothing.
pub returns-then-events-lt-EVENT_WORDS : goal.returns-then-events-lt-EVENT_WORDS
returns-then-events-lt-EVENT_WORDS c = closed_few _ _ _ c.if-events-lt-EVENT_WORDS.true

pub close_in-requires : goal.close_in-requires
close_in-requires c = look_row _ _ _ (sym (ap placed (sym c.in-Row.is) ∙ c.in_ok-place.ensures))

pub close_new-requires : goal.close_new-requires
close_new-requires c = look_new _ _ _ (sym (ap placed (sym c.in-New.is) ∙ c.in_ok-place.ensures))

pub returns-in-Row : goal.returns-in-Row
returns-in-Row c = closed_row _ _ _ c.if-events-lt-EVENT_WORDS.false _ (ap placed (sym c.in-Row.is) ∙ c.in_ok-place.ensures) _ _ refl c.close_in.ensures

pub returns-in-New : goal.returns-in-New
returns-in-New c = closed_new _ _ _ c.if-events-lt-EVENT_WORDS.false _ (ap placed (sym c.in-New.is) ∙ c.in_ok-place.ensures) _ _ refl c.close_new.ensures

pub returns-in_err-place : goal.returns-in_err-place
returns-in_err-place c =
    let p = err_from_is_err_and c.from_residual.result c.from_residual.ensures.1 in
    rw (p.1, p.2) (closed_refused _ _ _ c.if-events-lt-EVENT_WORDS.false _ c.in_err-place.ensures _ refl)
