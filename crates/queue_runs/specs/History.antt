-- The history of the code's calls: each call with what it showed, and the streams whose expired head it passed over. Assumes nothing.
use Rattle.std.specs.Prelude.{ℕ, List, [], ◌∷◌, ◌++◌, map}
use Rattle.types.specs.Keys.{key_id}
use Rattle.queue_model.specs.Types as plain
use Rattle.queue_model.specs.Run as run
use Rattle.queue_model.specs.History.{Piece, Entry, asks_at, passed_at, entries, made_of}
use Rattle.queue_sending.specs.declared.data.DataToSend.{DataToSend}
use Rattle.queue_runs.specs.Calls.{Call, call_of, Shown}
use Rattle.queue_runs.specs.Fragments.{data_in}
use Rattle.queue_runs.specs.Refusals.{refusal}

-- What is seen of a fragment: its stream, its message id, whether it is a last one, and how many bytes it has.
abbrev pub piece_of : DataToSend → Piece
piece_of d = record { stream_id = (key_id d.«data».stream_key).0; message_id = d.message_id.0; last = d.«data».is_end; size = d.«data».length }

-- A call on a queue whose store has this length, with what it showed.
abbrev pub entry_of : ℕ → Call → Shown → List ℕ → Entry
entry_of len c o ss = record { call = call_of len c; refused = refusal o.answer; pieces = map piece_of (data_in o.answer); passed_over = ss }

-- Of a list of calls. Which streams' expired heads a next fragment passed over is read off document 01's model, which follows the calls from the queue q on and has no chain; all else is what was called
-- and shown. Behind a filling stand the calls for the next fragment that it is made of (document 02, 5/13), read off the model as well: their sizes and what each would show by itself.
unfoldable pub history_of : ℕ → List Call → List Shown → plain.Queue → List Entry
unfolding passed_at run.step entries made_of
history_of len [] os q = []
history_of len (c ∷ cs) [] q = []
history_of len (c ∷ cs) (o ∷ os) q = entry_of len c o (passed_at (asks_at (call_of len c)) q) ∷ (entries (made_of (call_of len c) q) q ++ history_of len cs os (run.step (call_of len c) q).next)
