-- The priorities that the planner's call answers put the first fragments in the list's order, on the code. Assumes nothing.
use mathlib.Core.Path.{◌≡◌, ◌∙◌}
use mathlib.Core.List.{List, map}
use Prim.Native.Nat.{ℕ}
use native.Mathlib.Omega.{arith}
use lib.ListN.{length}
use Rattle.queue_model.specs.Types as plain
use Rattle.queue_model.specs.Streams.{new_queue}
use Rattle.queue_runs.specs.Run as runs
use Rattle.queue_runs.specs.Run.{State}
use Rattle.queue_runs.specs.Creation.{Arguments, options_with, new_state}
use Rattle.priority_plan.specs.Works.{planned_streams}
use Rattle.priority_plan.specs.Plan.{planned, made_plan}
use Rattle.priority_plan.specs.Jobs as model
use Rattle.priority_plan.specs.Runs as requests
use Rattle.priority_plan.proofs.Answer.{listed_few}
use Rattle.priority_plan.proofs.OwnJob as plan
use Rattle.queue_plans.specs.Jobs.{settings, Adding, Accepted, loaded, addings_of, Load}
use Rattle.queue_plans.specs.Plans.{KeepsOrder, Request13Plan}
use Rattle.queue_plans.proofs.Calls.{later_of, settings_link}
use Rattle.queue_plans.proofs.Queues.{accepted_here, turn_here, plain_settings, settings_typed, new_stands}
use Rattle.queue_plans.proofs.Loads.{Given, loaded_on, job, lasts}
use Rattle.queue_plans.proofs.Served.{serves_all}
use Rattle.priority_plan.proofs.Loops.{planned_count}

-- The settings are accepted.
settings_accepted : (a : Arguments) (s : State) (ids sizes ps : List ℕ) → Given a s ids sizes ps → Accepted (runs.run (settings ids ps) (new_state a s))
settings_accepted a s ids sizes ps g =
    let len : ℕ = length s.store in
    let o : plain.Options = options_with a (length s.store) in
    let hs = planned_streams ids sizes in
    let few = g.right.few in let n = listed_few ids sizes in
    accepted_here len (new_queue o) (new_state a s) (settings ids ps) (map model.setting_call (requests.plan_settings hs ps)) (new_stands a s g.creates) (settings_typed ids ps g.ids_fit g.allowed)
    (settings_link len ids sizes ps g.right.same_count) (plain_settings ids ps) (plan.settings_accepted o hs ps (omega arith))

-- The first fragments come in the list's order.
keeps_order : (a : Arguments) (s : State) (ids sizes ps : List ℕ) (ms : List Adding) → Given a s ids sizes ps → planned a.limit ids sizes ≡ made_plan ps → Load a s ids sizes ps ms → KeepsOrder a s ids ps ms
unfolding KeepsOrder requests.Request13Plan
keeps_order a s ids sizes ps ms g e l xs t =
    let len : ℕ = length s.store in
    let o : plain.Options = options_with a (length s.store) in
    let as' = addings_of (length s.store) ms in
    let q : plain.Queue = model.loaded o (requests.plan_settings (planned_streams ids sizes) ps) as' in
    let n = loaded_on a s ids sizes ps g ms l in
    let j = job a s ids sizes ps g ms l in
    let x = lasts len q (loaded a s ids ps ms) ms xs n t in
    turn_here len q (loaded a s ids ps ms) ids xs n t.typed
    (plan.request13_plan o ids sizes ps as' (map (later_of len) xs) j.created g.ids_fit e j.messages_typed j.messages_accepted l.sizes_are x.more_typed x.all_last).1

-- Request 13/13 on the code.
pub request13_plan : Request13Plan
unfolding Request13Plan
request13_plan a s ids sizes ps c f e =
    let m = plan.made_of a.limit ids sizes ps e in
    let w = m.set.works in
    let g : Given a s ids sizes ps = record { creates = c; ids_fit = f; right = m.good; one_each = w.count ∙ planned_count ids sizes m.good.same_count; allowed = w.allowed } in
    record {
      settings_accepted = settings_accepted a s ids sizes ps g;
      keeps_order = λ ms l. keeps_order a s ids sizes ps ms g e l;
      serves_all = λ ms l. serves_all a s ids sizes ps ms g m.set.works l;
    }
