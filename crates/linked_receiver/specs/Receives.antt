-- What receiving a fragment promises on the words of a receiver. Assumes nothing.
use Rattle.std.specs.Prelude.{◌≡◌, ℕ, List, length}
use Rattle.std.proofs.Math.Option.{some}
use Rattle.receiver_model.specs.Types.{Receiver, Answer, refused, accepted, repeated}
use Rattle.receiver_model.specs.Receive.{receive}
use Rattle.receiver_words.specs.Chunks.{chunk_of}
use Rattle.receiver_words.specs.declared.fragments.Fragment.{Fragment}
use Rattle.receiver_fragments.specs.Received.{Received}
use Rattle.receiver_fragments.specs.Received as answer
use Rattle.receiver_fragments.specs.Receiving.{Outcome}
use Rattle.linked_receiver.specs.Promise.{Represents}

-- the answer as the model's
abbrev pub answer_of : Received → Answer
answer_of (answer.Refused n) = refused n
answer_of answer.Repeated = repeated
answer_of answer.Accepted = accepted

-- from words and store of the receiver r, a fragment f of its kind with the payload bs: the model's answer, and words and store of the model's next receiver
pub record Receives (r : Receiver) (st : List ℕ) (f : Fragment) (bs : List ℕ) (o : Outcome) : Type 0 where
  pub answers : answer_of o.answer ≡ (receive (length st) (some (chunk_of r.kind f bs)) r).answer
  pub represents : Represents o.words o.store (receive (length st) (some (chunk_of r.kind f bs)) r).next
  pub same_store : length o.store ≡ length st
