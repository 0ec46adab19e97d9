-- Adding a message to a queue that its own calls alone have changed. Assumes nothing.
use Rattle.std.specs.Prelude.{ℕ, ◌≤◌, ◌≡◌, List, length, Result, Ok, Err}
use Rattle.queue_model.specs.Run as run
use Rattle.queue_streams.specs.Answers.{call_number}
use Rattle.queue_streams.specs.Call.{Call}
use Rattle.queue_streams.specs.Call as call
use Rattle.queue_streams.specs.Place.{Place}
use Rattle.queue_state.specs.Promise.{shown, Does, Tells}
use Rattle.queue_messages.specs.Add as checked
use Rattle.queue_messages.specs.Message.{nanoseconds}
use Rattle.queue_messages.specs.declared.message.Message.{Message}
use Rattle.linked_adding.specs.Message.{message_of_words}
use Rattle.owned_adding.specs.declared.Refusal.{Refusal}
use Rattle.owned_adding.specs.declared.Refusal.TheVariants as refusal

-- The number of a refusal in document 01.
abbrev pub refusal_number : Refusal → ℕ
refusal_number refusal.Time = 4
refusal_number refusal.Payload = 5
refusal_number refusal.Streams = 6
refusal_number refusal.Messages = 7
refusal_number refusal.Store = 8

-- one of the two numbers that a test gives
abbrev pub OneOf : ℕ → ℕ → ℕ → Type 0
OneOf a b code = (code ≡ a → ⊥) → b ≡ code

-- what the call answers
abbrev pub Added : Type 0
Added = Result (Unit {0}) Refusal

-- The answer as the checked call shows it.
abbrev pub call_of : Added → Call
call_of (Ok u) = call.Accepted 0
call_of (Err r) = call.Refused (refusal_number r)

-- The stream has a place, the times fit, and where a message more fits, the tests say that it may be added: 16 is not given.
pub record MayAdd (ws st : List ℕ) (time : ℕ) (m : Message) (bs : List ℕ) (place : Place) : Type 0 where
  pub has_place : checked.HasPlace ws place
  pub time_fits : time ≤ 4611686018427387903
  pub lifetime_fits : nanoseconds m.lifetime ≤ 4611686018427387903
  pub unbroken : checked.full_code ws (length st) (length bs) ≤ 0 → checked.message_code ws (length st) (checked.stream_for ws place) (length bs) ≡ 0

-- The call answers r and leaves ws' and st': what the checked call answers and leaves; the model's step, with words of a queue again; and never 16.
pub record OwnedAdd (ws st : List ℕ) (time : ℕ) (m : Message) (bs : List ℕ) (r : Added) (ws' st' : List ℕ) : Type 0 where
  pub words : checked.added (call_of r) ws' st' ≡ checked.add ws st time m bs
  pub tells : Tells (shown (run.add (length st) time (message_of_words m bs)) ws st) (call_of r)
  pub model : Does (run.add (length st) time (message_of_words m bs)) ws st (call_of r) ws' st'
  pub no_sixteen : call_number (call_of r) ≡ 16 → ⊥
