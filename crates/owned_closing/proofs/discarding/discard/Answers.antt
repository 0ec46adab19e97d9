-- `owned_closing::discarding::discard` meets its contract: the checked call's contract, of its own answers. Assumes nothing.
use mathlib.Core.Path.{sym}
use Prim.Native.Nat.{◌<◌}
use lib.ListN.{length}
use Rattle.linked_dropping.proofs.Both.{discard_meets}
use Rattle.owned_streams.proofs.Own.{own_findable}
use Rattle.owned_closing.proofs.Own.{may_discard, words_few, words_none, words_found}
use Rattle.std.proofs.Common.{rules}
use Rattle.owned_closing.proofs.discarding.discard.Goals as goal

pub returns-then-events-lt-EVENT_WORDS : goal.returns-then-events-lt-EVENT_WORDS
returns-then-events-lt-EVENT_WORDS c = let a = c.args in let hid : a.id < 65536 = search rules in let hm : a.message_id < 4294967296 = search rules in let hes : length a.events.now < 18446744073709551616 = search rules in discard_meets _ _ _ _ _ _ _ hid hm hes (words_few _ _ _ _ c.if-events-lt-EVENT_WORDS.true)

pub find_own-spot-requires : goal.find_own-spot-requires
find_own-spot-requires c = own_findable _ c.requires _

pub discard_in-requires : goal.discard_in-requires
discard_in-requires c = let a = c.args in let hid : a.id < 65536 = search rules in let hm : a.message_id < 4294967296 = search rules in let hes : length a.events.now < 18446744073709551616 = search rules in may_discard _ c.requires a.events.now _ _ _ _ c.if-events-lt-EVENT_WORDS.false hid hm hes (sym c.in-At.ensures)

pub returns-in-At : goal.returns-in-At
returns-in-At c = let a = c.args in let hid : a.id < 65536 = search rules in let hm : a.message_id < 4294967296 = search rules in let hes : length a.events.now < 18446744073709551616 = search rules in discard_meets _ _ _ _ _ _ _ hid hm hes (words_found _ _ _ _ _ _ _ c.if-events-lt-EVENT_WORDS.false (sym c.in-At.ensures) c.discard_in.ensures)

pub returns-in-Gap : goal.returns-in-Gap
returns-in-Gap c = let a = c.args in let hid : a.id < 65536 = search rules in let hm : a.message_id < 4294967296 = search rules in let hes : length a.events.now < 18446744073709551616 = search rules in discard_meets _ _ _ _ _ _ _ hid hm hes (words_none _ _ _ _ _ c.if-events-lt-EVENT_WORDS.false (sym c.in-Gap.ensures))
