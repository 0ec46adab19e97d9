-- The next fragment of a queue that its own calls alone have changed. Assumes nothing.
use Rattle.std.specs.Prelude.{ℕ, ◌<◌, ◌≡◌, List, length, Result, Ok, Err}
use Rattle.queue_model.specs.Run as run
use Rattle.queue_streams.specs.Events.{places_in}
use Rattle.queue_state.specs.Model.{model}
use Rattle.queue_sending.specs.Answers.{made_of}
use Rattle.queue_sending.specs.Data.{produced_with, produced_number}
use Rattle.queue_sending.specs.Produce.{lent_code, produce_next}
use Rattle.queue_sending.specs.Produced.{Produced}
use Rattle.queue_sending.specs.Produced as produced
use Rattle.queue_sending.specs.declared.data.Produced as made
use Rattle.linked_sending.specs.Meaning.{Sends, TellsFragment}
use Rattle.owned_sending.specs.declared.refusals.ProduceRefusal.{ProduceRefusal}
use Rattle.owned_sending.specs.declared.refusals.ProduceRefusal.TheVariants as refusal

-- The number of a refusal in document 01.
abbrev pub refusal_number : ProduceRefusal → ℕ
refusal_number refusal.EventListShort = 3
refusal_number refusal.TimeLate = 4
refusal_number refusal.SizeWrong = 9
refusal_number refusal.BufferShort = 10

-- a number that what is lent and asked for is refused with
pub record Lent (code : ℕ) : Type 0 where
  pub places : ℕ
  pub room : ℕ
  pub time : ℕ
  pub size : ℕ
  pub is_code : code ≡ lent_code places room time size
  pub is_refused : 0 < code

-- The answer as the checked call shows it.
abbrev pub produced_of : Result made.Produced ProduceRefusal → Produced
produced_of (Ok m) = made_of m
produced_of (Err r) = produced.Refused (refusal_number r)

-- The call answers r and leaves ws', es' and bs': what the checked call answers and leaves; the model's step, with words of a queue again; refused only
-- for what is lent and asked for, and so never with 16.
pub record OwnedProduce (ws st es bs : List ℕ) (time size : ℕ) (r : Produced) (ws' es' bs' : List ℕ) : Type 0 where
  pub words : produced_with r ws' es' bs' ≡ produce_next ws st es bs time size
  pub tells : TellsFragment (run.step (run.produce (length st) (places_in es) (length bs) time size) (model ws st)).outcome r
  pub model : Sends (run.step (run.produce (length st) (places_in es) (length bs) time size) (model ws st)) st es bs (produced_with r ws' es' bs')
  pub lent : (n : ℕ) → r ≡ produced.Refused n → Lent n
  pub no_sixteen : produced_number r ≡ 16 → ⊥
