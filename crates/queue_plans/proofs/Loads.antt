-- Accepted messages make a job of the model. Assumes nothing.
use mathlib.Core.Path.{◌≡◌, sym, ◌∙◌, subst}
use mathlib.Core.List.{List, map}
use Prim.Native.Nat.{ℕ, ◌<◌, ◌^◌}
use lib.ListN.{length}
use Rattle.queue_model.specs.Types as plain
use Rattle.queue_model.specs.Demands as demands
use Rattle.queue_runs.specs.Run.{State}
use Rattle.queue_runs.specs.Meaning.{AllTyped}
use Rattle.queue_runs.specs.Creation.{Arguments, options_with, Creates}
use Rattle.queue_runs.proofs.News.{new_link}
use Rattle.priority_plan.specs.Works.{All, IsPriority, planned_streams}
use Rattle.priority_plan.specs.Jobs as model
use Rattle.priority_plan.specs.Turns as turns
use Rattle.priority_plan.specs.Runs as requests
use Rattle.priority_plan.proofs.Answer.{GoodList}
use Rattle.priority_plan.proofs.OwnJob.{plan_job}
use Rattle.queue_plans.specs.Jobs.{settings, Adding, adding_call, Later, added_later, prepared, loaded, addings_of, Load, Timely}
use Rattle.queue_plans.proofs.Calls.{later_of, addings_link, times_link, added_link, added_typed}
use Rattle.queue_plans.proofs.Queues.{Stands, accepted_there, plain_messages, settings_typed, messages_typed, prepared_stands, loaded_stands}
use Rattle.priority_plan.proofs.Loops.{planned_count}

-- A right list, and a priority for each of its streams.
pub record Given (a : Arguments) (s : State) (ids sizes ps : List ℕ) : Type 0 where
  pub creates : Creates a s
  pub ids_fit : All (λ (i : ℕ). i < 2 ^ 16) ids
  pub right : GoodList ids sizes
  pub one_each : length ps ≡ length ids
  pub allowed : All IsPriority ps

module _ (a : Arguments) (s : State) (ids sizes ps : List ℕ) (g : Given a s ids sizes ps) where
  abbrev len : ℕ
  len = length s.store

  abbrev o : plain.Options
  o = options_with a (length s.store)

  abbrev ss : List model.Setting
  ss = requests.plan_settings (planned_streams ids sizes) ps

  typed : AllTyped (settings ids ps)
  typed = settings_typed ids ps g.ids_fit g.allowed

  pub prepared_on : Stands (length s.store) (model.set_up (options_with a (length s.store)) (requests.plan_settings (planned_streams ids sizes) ps)) (prepared a s ids ps)
  prepared_on = prepared_stands a s ids sizes ps g.creates g.right.same_count typed

  pub loaded_on : (ms : List Adding) → Load a s ids sizes ps ms → Stands (length s.store) (model.loaded (options_with a (length s.store)) (requests.plan_settings (planned_streams ids sizes) ps) (addings_of (length s.store) ms)) (loaded a s ids ps ms)
  loaded_on ms l = loaded_stands a s ids sizes ps ms g.creates g.right.same_count typed l.typed

  pub job : (ms : List Adding) → Load a s ids sizes ps ms → model.Job (options_with a (length s.store)) (planned_streams ids sizes) ps (requests.plan_settings (planned_streams ids sizes) ps) (addings_of (length s.store) ms)
  job ms l =
      plan_job o ids sizes ps (addings_of len ms) (new_link a s g.creates).created g.ids_fit g.right (g.one_each ∙ sym (planned_count ids sizes g.right.same_count)) g.allowed
      (messages_typed len (model.set_up o ss) (prepared a s ids ps) ms prepared_on l.typed)
      (accepted_there len (model.set_up o ss) (prepared a s ids ps) (map adding_call ms) (map model.adding_call (addings_of len ms)) prepared_on l.typed (addings_link len ms) (plain_messages ms) l.accepted)
      l.sizes_are

-- ------------------------------------------------------------------ expiry times

-- The model's messages last as long.
pub record Lasts (len : ℕ) (ms : List Adding) (xs : List Later) : Type 0 where
  pub more_typed : demands.AllTyped (map model.adding_call (model.added_later (map (later_of len) xs)))
  pub all_last : All (λ (t : ℕ). turns.Lasting t (addings_of len ms) × turns.Lasting t (model.added_later (map (later_of len) xs))) (model.times (map (later_of len) xs))

pub lasts : (len : ℕ) (q : plain.Queue) (s : State) (ms : List Adding) (xs : List Later) → Stands len q s → Timely len ms xs → Lasts len ms xs
lasts len q s ms xs n t = record {
  more_typed = subst (λ (l : List model.Adding). demands.AllTyped (map model.adding_call l)) (sym (added_link len xs)) (messages_typed len q s (added_later xs) n (added_typed xs t.typed));
  all_last =
      subst (λ (l : List model.Adding). All (λ (i : ℕ). turns.Lasting i (addings_of len ms) × turns.Lasting i l) (model.times (map (later_of len) xs))) (sym (added_link len xs))
      (subst (λ (l : List ℕ). All (λ (i : ℕ). turns.Lasting i (addings_of len ms) × turns.Lasting i (addings_of len (added_later xs))) l) (sym (times_link len xs)) t.lasting);
}
