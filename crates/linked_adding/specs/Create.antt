-- What creation promises: the model's new queue, or its refusal. Assumes nothing.
use Rattle.std.specs.Prelude.{ℕ, ◌≡◌, Bool, List, length}
use Rattle.queue_model.specs.Types.{Options, Queue}
use Rattle.queue_model.specs.Refusals.{Creation, not_created, new, create}
use Rattle.queue_model.specs.Answers.{creation_number}
use Rattle.queue_words.specs.Header.{is_strict}
use Rattle.queue_words.specs.declared.header.RestartRule.{RestartRule}
use Rattle.queue_streams.specs.Settings.{called}
use Rattle.queue_streams.specs.Answers.{call_number, call_events}
use Rattle.queue_streams.specs.Call.{Call}
use Rattle.queue_streams.specs.Call.{Accepted, Refused}
use Rattle.queue_state.specs.Model.{model}
use Rattle.queue_state.specs.Good.{Good}
use Rattle.queue_messages.specs.Create as words_create

-- "Creation takes the payload limit, the store, the default priority, the default and total thresholds and the choice of handover with waiting data".
-- Document 02, 6/13: "Creation chooses
-- the rule, as in the Rust or strict."
abbrev pub options_for : ℕ → ℕ → ℕ → ℕ → ℕ → Bool → RestartRule → Options
options_for len limit priority threshold total handover rule = record {
  payload_limit = limit;
  store_length = len;
  default_priority = priority;
  default_threshold = threshold;
  total_threshold = total;
  handover_with_data = handover;
  strict_restart = is_strict rule;
}

-- The answer of creation: the refusal's number, or no events.
abbrev pub answer_of : Creation → Call
answer_of (not_created n) = Refused n
answer_of (new q) = Accepted 0

-- Creation is the model's: accepted, the words are good and stand for the model's new queue; refused, they are as they were.
pub record Creates (o : Options) (ws st : List ℕ) (a : Call) (ws' : List ℕ) : Type 0 where
  pub answer : a ≡ answer_of (create o)
  pub good : (q : Queue) → create o ≡ new q → Good ws' st
  pub stands : (q : Queue) → create o ≡ new q → model ws' st ≡ q
  pub unchanged : (n : ℕ) → create o ≡ not_created n → ws' ≡ ws

-- Creation answers r and leaves ws': for every input the definition on the words, and the model's creation.
pub record CreateMeets (ws st : List ℕ) (limit priority threshold total : ℕ) (handover : Bool) (rule : RestartRule) (r : Call) (ws' : List ℕ) : Type 0 where
  pub words : called r ws' ≡ words_create.create ws (length st) limit priority threshold total handover rule
  pub model : Creates (options_for (length st) limit priority threshold total handover rule) ws st r ws'
  pub number : call_number r ≡ creation_number (create (options_for (length st) limit priority threshold total handover rule))
  pub events : call_events r ≡ 0
