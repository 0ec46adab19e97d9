-- What the calls promise on the words of a receiver. Assumes nothing.
use Rattle.std.specs.Prelude.{◌≡◌, ℕ, Bool, List, length}
use Rattle.std.proofs.Math.Option.{none, some}
use Rattle.receiver_model.specs.Types.{Receiver}
use Rattle.receiver_model.specs.Receive.{create_refusal, new_receiver}
use Rattle.receiver_words.specs.Chunks.{kind_of}
use Rattle.receiver_fragments.specs.Creating as Creating
use Rattle.linked_receiver.specs.Good.{Ghost, Stands}

-- words and store are those of a receiver, which is r
pub record Represents (ws st : List ℕ) (r : Receiver) : Type 0 where
  pub rows : Ghost
  pub stands : Stands rows ws st r

-- creation: refused as the model refuses, with the words as they were; else the words stand for the model's new receiver
pub record Creates (ws st : List ℕ) (b : Bool) (start : ℕ) (o : Creating.Outcome) : Type 0 where
  pub refuses : (n : ℕ) → create_refusal (length st) ≡ some n → o ≡ Creating.created n ws
  pub answers : create_refusal (length st) ≡ none → o.answer ≡ 0
  pub represents : create_refusal (length st) ≡ none → Represents o.words st (new_receiver (kind_of b) (length st) start)
