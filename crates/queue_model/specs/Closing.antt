-- What closing leaves of a stream: its half-sent message, which it goes on to send, or none. Document 01, "Closing and restarting streams"; document 02,
-- 3/13. Assumes nothing.
use Rattle.std.specs.Prelude.{ℕ, List, [], ◌∷◌, ◌++◌, ◌≡◌, eqb, drop}
use Rattle.std.proofs.Math.Option.{Option, none, some}
use Rattle.std.specs.Prelude.{if◌then◌else◌}
use Rattle.queue_model.specs.Types.{Item, pending, paused, Stream, Queue}
use Rattle.queue_model.specs.Streams.{find_stream}

-- "It drops every message at offset 0; a remaining half-sent one makes the stream pending": the message that closing leaves, which is the stream's
-- first. Only a first message is half-sent.
abbrev pub half_sent : List Item → Option Item
half_sent [] = none
half_sent (i ∷ is) = if eqb i.offset 0 then none else some i

-- It and no other.
abbrev pub alone : Option Item → List Item
alone none = []
alone (some i) = i ∷ []

-- The bytes of a message that are still to be handed out.
abbrev pub unsent : Item → List ℕ
unsent i = drop i.offset i.payload

-- The message j is the message i after the bytes bs of it were handed out.
pub record FurtherOn (bs : List ℕ) (i j : Item) : Type 0 where
  pub same_message : j.message_id ≡ i.message_id
  pub same_expiry : j.expires_at ≡ i.expires_at
  pub bytes : bs ++ unsent j ≡ unsent i

-- The stream k is pending and i is its first message.
pub record Pending (k : ℕ) (i : Item) (q : Queue) : Type 0 where
  pub stream : Stream
  pub behind : List Item
  pub found : find_stream k q.streams ≡ some stream
  pub state : stream.pause_state ≡ pending
  pub items : stream.items ≡ i ∷ behind

-- The stream k is paused.
pub record Paused (k : ℕ) (q : Queue) : Type 0 where
  pub stream : Stream
  pub found : find_stream k q.streams ≡ some stream
  pub state : stream.pause_state ≡ paused
