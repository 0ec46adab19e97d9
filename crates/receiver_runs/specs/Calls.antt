-- The calls on a receiver, with their arguments, and what they show. Assumes nothing.
use Rattle.std.specs.Prelude.{ℕ, ◌≡◌, List, [], ◌∷◌, length}
use Rattle.receiver_fragments.specs.Received.{Received}
use Rattle.receiver_fragments.specs.Fetched.{Fetched}
use Rattle.queue_runs.specs.Calls.{Bytes}

-- The store that a call is lent: "with the store as left", or another.
pub data Lent : Type 0 where
  own : Lent
  other : (store : List ℕ) → Lent

-- "It takes DATA or I-DATA chunks"; "A call of its own fetches and frees the message ready first".
pub data Call : Type 0 where
  receive : Lent → (bytes : List ℕ) → Call
  fetch : Lent → (buffer : List ℕ) → Call

-- Another store is one of another length (2); what bytes stand in the receiver's own is the receiver's.
abbrev pub LentTyped : ℕ → Lent → Type 0
LentTyped len own = Unit {0}
LentTyped len (other st) = length st ≡ len → ⊥

-- All that can be called on a receiver whose store has this length: any bytes, any buffer.
abbrev pub Typed : ℕ → Call → Type 0
Typed len (receive l bs) = LentTyped len l × Bytes bs
Typed len (fetch l out) = LentTyped len l × Bytes out

abbrev pub AllTyped : ℕ → List Call → Type 0
AllTyped len [] = Unit {0}
AllTyped len (c ∷ cs) = Typed len c × AllTyped len cs

-- What a call answers.
pub data Answer : Type 0 where
  received : Received → Answer
  fetched : Fetched → Answer

-- What it shows: its answer, and the fetching buffer whole; [] where none is lent.
pub record Shown : Type 0 where
  pub answer : Answer
  pub buffer : List ℕ

abbrev pub shown : Answer → List ℕ → Shown
shown a out = record { answer = a; buffer = out }
