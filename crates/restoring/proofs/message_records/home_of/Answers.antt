-- `restoring::message_records::home_of` meets its contract: each return is what its definition says, by what the calls ensure and the tests taken.
-- Assumes nothing.
use mathlib.Core.Path.{sym, ap, ◌∙◌}
use Rattle.queue_streams.specs.Known.{placed}
use Rattle.queue_streams.proofs.Exits.{look_row, look_new}
use Rattle.restoring.specs.Messages.{home_of}
use Rattle.restoring.proofs.Homes.{found, lost}
use Rattle.restoring.proofs.message_records.home_of.Goals as goal

pub returns-in_err-place : goal.returns-in_err-place
returns-in_err-place c = rw c.from_residual.ensures (lost _ _ _ c.look_up.ensures (sym c.ok.ensures.value ∙ c.in_err-place.was), tt)

pub load_stream-requires : goal.load_stream-requires
load_stream-requires c = look_row _ _ _ (sym (ap placed (sym c.in-Row.is) ∙ found _ _ _ _ c.look_up.ensures (sym c.ok.ensures.value ∙ c.in_ok-place.was)))

pub insert_stream-requires : goal.insert_stream-requires
insert_stream-requires c = look_new _ _ _ (sym (ap placed (sym c.in-New.is) ∙ found _ _ _ _ c.look_up.ensures (sym c.ok.ensures.value ∙ c.in_ok-place.was)))

pub returns-in-Row : goal.returns-in-Row
unfolding home_of
returns-in-Row c =
    let e = ap placed (sym c.in-Row.is) ∙ found _ _ _ _ c.look_up.ensures (sym c.ok.ensures.value ∙ c.in_ok-place.was) in
    (rw (← e, ← c.load_stream.ensures), look_row _ _ _ (sym e))

pub returns-in-New : goal.returns-in-New
unfolding home_of
returns-in-New c =
    let e = ap placed (sym c.in-New.is) ∙ found _ _ _ _ c.look_up.ensures (sym c.ok.ensures.value ∙ c.in_ok-place.was) in (
      rw (
        ← e,
        ← c.load_options-o.ensures,
        ← c.new_stream-s.ensures,
        ← c.load_totals-t.ensures,
        ← c.insert_stream.ensures,
      ),
      rw c.load_totals-t.ensures (look_new _ _ _ (sym e)).1,
    )
