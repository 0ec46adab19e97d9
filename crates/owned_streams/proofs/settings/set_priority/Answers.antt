-- `owned_streams::settings::set_priority` meets its contract: the checked call's contract, of its own answers. Assumes nothing.
use mathlib.Core.Path.{refl, sym, ap, ◌∙◌}
use Prim.Native.Nat.{◌<◌}
use Rattle.queue_streams.specs.Known.{placed}
use Rattle.queue_streams.specs.Owned.{placed_as}
use Rattle.queue_streams.proofs.Exits.{look_row, look_new, priority_row, priority_new, priority_refused}
use Rattle.linked_streams.proofs.Sets.{set_priority_meets}
use Rattle.owned_streams.proofs.Own.{own_findable}
use Rattle.std.proofs.Common.{rules}
use Rattle.owned_streams.proofs.settings.set_priority.Goals as goal

pub look_up_own-requires : goal.look_up_own-requires
look_up_own-requires c = own_findable _ c.requires _

pub returns-in_default : goal.returns-in_default
returns-in_default c =
    let a = c.args in
    let hid : a.id < 65536 = search rules in
    let hp : a.priority < 65536 = search rules in
    set_priority_meets _ _ _ _ _ hid hp (priority_refused _ _ _ _ (ap placed_as (sym c.in_default.is) ∙ c.look_up_own.ensures) _ refl)

pub set_priority_in-requires : goal.set_priority_in-requires
set_priority_in-requires c = look_row _ _ _ (sym (ap placed (sym c.in-Row.is) ∙ c.in-Some.ensures))

pub set_priority_of_new-requires : goal.set_priority_of_new-requires
set_priority_of_new-requires c = look_new _ _ _ (sym (ap placed (sym c.in-New.is) ∙ c.in-Some.ensures))

pub returns-in-Row : goal.returns-in-Row
returns-in-Row c =
    let a = c.args in
    let hid : a.id < 65536 = search rules in
    let hp : a.priority < 65536 = search rules in
    set_priority_meets _ _ _ _ _ hid hp (priority_row _ _ _ _ (ap placed (sym c.in-Row.is) ∙ c.in-Some.ensures) _ _ _ refl refl c.set_priority_in.ensures)

pub returns-in-New : goal.returns-in-New
returns-in-New c =
    let a = c.args in
    let hid : a.id < 65536 = search rules in
    let hp : a.priority < 65536 = search rules in
    set_priority_meets _ _ _ _ _ hid hp (priority_new _ _ _ _ (ap placed (sym c.in-New.is) ∙ c.in-Some.ensures) _ _ _ _ refl refl refl c.set_priority_of_new.ensures)
