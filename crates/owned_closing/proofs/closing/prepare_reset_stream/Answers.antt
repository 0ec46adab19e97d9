-- `owned_closing::closing::prepare_reset_stream` meets its contract: the checked call's contract, of its own answers. Assumes nothing.
use mathlib.Core.Path.{sym, ap, ◌∙◌}
use Prim.Native.Nat.{◌<◌}
use lib.ListN.{length}
use Rattle.queue_streams.specs.Known.{placed}
use Rattle.queue_streams.proofs.Exits.{look_new}
use Rattle.queue_closing.proofs.Exits.{closed_few, closed_row, closed_new, closed_refused}
use Rattle.linked_dropping.proofs.Both.{close_meets}
use Rattle.owned_streams.proofs.Own.{own_findable}
use Rattle.owned_closing.proofs.Closes.{may_close}
use Rattle.std.proofs.Common.{rules}
use Rattle.std.proofs.Common.{refl}
use Rattle.owned_closing.proofs.closing.prepare_reset_stream.Goals as goal

pub returns-then-events-lt-EVENT_WORDS : goal.returns-then-events-lt-EVENT_WORDS
returns-then-events-lt-EVENT_WORDS c = let a = c.args in let hid : a.id < 65536 = search rules in let hes : length a.events.now < 18446744073709551616 = search rules in close_meets _ _ _ _ _ _ hid hes (closed_few _ _ _ c.if-events-lt-EVENT_WORDS.true)

pub look_up_own-requires : goal.look_up_own-requires
look_up_own-requires c = own_findable _ c.requires _

pub close_in-requires : goal.close_in-requires
close_in-requires c = let a = c.args in let hid : a.id < 65536 = search rules in let hes : length a.events.now < 18446744073709551616 = search rules in may_close _ c.requires a.events.now _ _ c.if-events-lt-EVENT_WORDS.false hid hes (sym (ap placed (sym c.in-Row.is) ∙ c.in-Some.ensures))

pub close_new-requires : goal.close_new-requires
close_new-requires c = look_new _ _ _ (sym (ap placed (sym c.in-New.is) ∙ c.in-Some.ensures))

pub returns-in-Row : goal.returns-in-Row
returns-in-Row c = let a = c.args in let hid : a.id < 65536 = search rules in let hes : length a.events.now < 18446744073709551616 = search rules in close_meets _ _ _ _ _ _ hid hes (closed_row _ _ _ c.if-events-lt-EVENT_WORDS.false _ (ap placed (sym c.in-Row.is) ∙ c.in-Some.ensures) _ _ refl c.close_in.ensures)

pub returns-in-New : goal.returns-in-New
returns-in-New c = let a = c.args in let hid : a.id < 65536 = search rules in let hes : length a.events.now < 18446744073709551616 = search rules in close_meets _ _ _ _ _ _ hid hes (closed_new _ _ _ c.if-events-lt-EVENT_WORDS.false _ (ap placed (sym c.in-New.is) ∙ c.in-Some.ensures) _ _ refl c.close_new.ensures)

pub returns-in_default : goal.returns-in_default
returns-in_default c = let a = c.args in let hid : a.id < 65536 = search rules in let hes : length a.events.now < 18446744073709551616 = search rules in close_meets _ _ _ _ _ _ hid hes (closed_refused _ _ _ c.if-events-lt-EVENT_WORDS.false _ c.in_default.ensures _ refl)
