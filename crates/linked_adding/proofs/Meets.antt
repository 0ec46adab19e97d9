-- The contracts of both calls: what is promised of the words implies the rest. Assumes nothing.
use mathlib.Core.Path.{◌≡◌, refl, sym, ap, ◌∙◌, subst}
use mathlib.Core.Bool.{Bool}
use mathlib.Core.List.{List}
use Prim.Native.Nat.{ℕ, ◌^◌, ◌<◌}
use lib.ListN.{length}
use Rattle.queue_model.specs.Demands.{MessageTyped}
use Rattle.queue_model.specs.Types.{Options}
use Rattle.queue_model.specs.Refusals.{Creation, not_created, new, create}
use Rattle.queue_model.specs.Answers.{creation_number}
use Rattle.queue_model.specs.Run as run
use Rattle.queue_words.specs.declared.header.RestartRule.{RestartRule}
use Rattle.queue_streams.specs.Settings.{Called, called}
use Rattle.queue_streams.specs.Answers.{call_number, call_events}
use Rattle.queue_streams.specs.Call.{Call}
use Rattle.queue_state.specs.Good.{Good}
use Rattle.queue_state.specs.Promise.{Does}
use Rattle.queue_state.proofs.Numbers.{tells}
use Rattle.queue_messages.specs.Create as words_create
use Rattle.queue_messages.specs.Add.{Added, added, add}
use Rattle.queue_messages.specs.declared.message.Message.{Message}
use Rattle.linked_adding.specs.Message.{message_of_words}
use Rattle.linked_adding.specs.Create.{options_for, answer_of, Creates, CreateMeets}
use Rattle.linked_adding.specs.Add.{AddMeets}
use Rattle.linked_adding.proofs.Creates.{create_link}
use Rattle.linked_adding.proofs.Adds.{add_link}

number_of : (c : Creation) → call_number (answer_of c) ≡ creation_number c
number_of (not_created n) = refl
number_of (new q) = refl

events_of : (c : Creation) → call_events (answer_of c) ≡ 0
events_of (not_created n) = refl
events_of (new q) = refl

pub create_meets : (ws st : List ℕ) (limit priority threshold total : ℕ) (handover : Bool) (rule : RestartRule) (r : Call) (ws' : List ℕ) → length ws ≡ 20768 → priority < 65536 → threshold < 2 ^ 64 → total < 2 ^ 64
    → called r ws' ≡ words_create.create ws (length st) limit priority threshold total handover rule → CreateMeets ws st limit priority threshold total handover rule r ws'
create_meets ws st limit priority threshold total handover rule r ws' l hp ht hs e = record {
  words = e;
  model = creates;
  number = ap call_number creates.answer ∙ number_of (create o);
  events = ap call_events creates.answer ∙ events_of (create o);
}
  where
    o : Options
    o = options_for (length st) limit priority threshold total handover rule

    creates : Creates (options_for (length st) limit priority threshold total handover rule) ws st r ws'
    creates = subst (λ (x : Called). Creates (options_for (length st) limit priority threshold total handover rule) ws st x.answer x.next) (sym e)
        (create_link ws st (length st) limit priority threshold total handover rule l refl hp ht hs)

pub add_meets : (ws st : List ℕ) (time : ℕ) (m : Message) (bs : List ℕ) (r : Call) (ws' st' : List ℕ) → time < 2 ^ 64 → MessageTyped (message_of_words m bs)
    → added r ws' st' ≡ add ws st time m bs → AddMeets ws st time m bs r ws' st'
add_meets ws st time m bs r ws' st' ht t e = record { words = e; model = does; tells = λ g. tells (does g) }
  where
    does : Good ws st → Does (run.add (length st) time (message_of_words m bs)) ws st r ws' st'
    does g = subst (λ (x : Added). Does (run.add (length st) time (message_of_words m bs)) ws st x.answer x.words x.store) (sym e) (add_link ws st g time m bs ht t)
