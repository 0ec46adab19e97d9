-- Request 7/13 at any time, on the code: also when chunks are missing, come in any order and again, or are refused, what has come out was sent, is
-- whole, came out once and in its turn.
-- Assumes nothing.
use Rattle.std.specs.Prelude.{ℕ, ◌<◌, ◌≡◌, Bool, List, [], ◌∷◌, length}
use Rattle.std.proofs.Math.Option.{some}
use Rattle.receiver_model.specs.Types.{Chunk}
use Rattle.receiver_model.specs.Sent.{Sent}
use Rattle.receiver_model.specs.Claim.{SoFar}
use Rattle.receiver_model.specs.Sender.{ArrivedSoFar}
use Rattle.receiver_words.specs.Chunks.{kind_of}
use Rattle.queue_runs.specs.Calls as queue
use Rattle.queue_runs.specs.Run.{State}
use Rattle.queue_runs.specs.Creation.{Arguments}
use Rattle.receiver_runs.specs.Calls.{Call, receive, fetch, AllTyped}
use Rattle.receiver_runs.specs.Run.{run, new_receiver_words, Creates}
use Rattle.receiver_runs.specs.Meaning.{chunk_read}
use Rattle.receiver_runs.specs.Promise.{sent_by_words, queued_by_words, Sends, Feed, AllFed, fed_shown, came_out_words}

-- A chunk that was sent: that of the fragment with an index.
pub record OneOf (chunk : ℕ → Chunk) (total : ℕ) (c : Chunk) : Type 0 where
  pub index : ℕ
  pub known : index < total
  pub is : c ≡ chunk index

-- Bytes that are a chunk carry one that was sent; other bytes may come, and are refused.
abbrev pub CarriesSent : (ℕ → Chunk) → ℕ → Call → Type 0
CarriesSent chunk total (receive l bs) = (c : Chunk) → chunk_read bs ≡ some c → OneOf chunk total c
CarriesSent chunk total (fetch l out) = Unit {0}

abbrev pub AllCarrySent : (ℕ → Chunk) → ℕ → List Call → Type 0
AllCarrySent chunk total [] = Unit {0}
AllCarrySent chunk total (c ∷ cs) = CarriesSent chunk total c × AllCarrySent chunk total cs

-- Of any calls on a new receiver, for any sender (receiver_model: specs/Sent).
abbrev pub Safe : Type 0
Safe =
    (i_data : Bool) (start : ℕ) (S : Sent (kind_of i_data) start) (s : State) (cs : List Call)
    → Creates i_data start s → AllTyped (length s.store) cs → AllCarrySent S.chunk S.total cs
    → SoFar S (came_out_words (run cs (new_receiver_words i_data start s)))

-- Of a send queue's own fragments, written as chunks by 1/13's writer: whichever of them have arrived, in whatever order and however often, and whatever
-- was refused.
abbrev pub SafeSent : Type 0
SafeSent =
    (i_data : Bool) (start : ℕ) (a : Arguments) (q : State) (cs : List queue.Call) (s : State) (fs : List Feed)
    → Sends i_data a q cs → Creates i_data start s → AllFed i_data start (sent_by_words a q cs) fs
    → ArrivedSoFar (queued_by_words a q cs) (came_out_words (fed_shown i_data start (sent_by_words a q cs) s fs))
