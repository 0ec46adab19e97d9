-- The history of a list of calls: each call with what it showed, and the streams whose expired head it passed over. Assumes nothing.
use Rattle.std.specs.Prelude.{ℕ, suc, Bool, List, [], ◌∷◌, ◌++◌, map, length}
use Rattle.std.proofs.Math.Option.{Option, none, some}
use Rattle.queue_model.specs.Types.{Active, Queue, Fragment, Answer}
use Rattle.std.specs.Prelude.{if◌then◌else◌}
use Rattle.queue_model.specs.Scheduler.{peek}
use Rattle.queue_model.specs.Streams.{waiting}
use Rattle.queue_model.specs.Answers.{is_refused, fragments_in}
use Rattle.queue_model.specs.Passing.{passing}
use Rattle.queue_model.specs.Fill.{filling}
use Rattle.queue_model.specs.Packets.{separate_calls}
use Rattle.queue_model.specs.Run.{Call, add, produce, fill, discard, close, ready_ids, commit, rollback, reset, set_threshold, set_priority, set_interleaving, restore, ask_priority, ask_amount, ask_threshold, ask_total, ask_empty, ask_has_data, ask_streams_ready, ask_ready_count, ask_readiness, ask_room, step}

-- ------------------------------------------------------------------ an entry

-- What is seen of a fragment: its stream, its message id, whether it is a last one, and how many bytes it has.
pub record Piece : Type 0 where
  pub stream_id : ℕ
  pub message_id : ℕ
  pub last : Bool
  pub size : ℕ

abbrev pub piece : Fragment → Piece
piece f = record { stream_id = f.stream_id; message_id = f.message_id; last = f.last; size = length f.bytes }

-- A call, whether it was refused, the fragment that it handed out, if any, and the streams whose expired head it passed over, in order; of a refused
-- next fragment those that it would have passed over.
pub record Entry : Type 0 where
  pub call : Call
  pub refused : Bool
  pub pieces : List Piece
  pub passed_over : List ℕ

-- A call with its answer.
abbrev pub entry : Call → Answer → List ℕ → Entry
entry c a ss = record { call = c; refused = is_refused a; pieces = map piece (fragments_in a); passed_over = ss }

-- ------------------------------------------------------------------ the streams passed over

-- The time at which a call asks for a next fragment. A filling asks by the calls that it is made of (`made_of`).
abbrev pub asks_at : Call → Option ℕ
asks_at (add store now m) = none
asks_at (produce store places buffer now size) = some now
asks_at (fill store places buffer now p) = none
asks_at (discard places s m) = none
asks_at (close places s) = none
asks_at ready_ids = none
asks_at commit = none
asks_at rollback = none
asks_at reset = none
asks_at (set_threshold places s t) = none
asks_at (set_priority s p) = none
asks_at (set_interleaving b) = none
asks_at (restore store now image) = none
asks_at (ask_priority s) = none
asks_at (ask_amount s) = none
asks_at (ask_threshold s) = none
asks_at ask_total = none
asks_at ask_empty = none
asks_at ask_has_data = none
asks_at ask_streams_ready = none
asks_at ask_ready_count = none
asks_at ask_readiness = none
asks_at (ask_room r) = none

-- The scheduler's choice.
unfoldable pub choice : Option Active → List ℕ
choice none = []
choice (some a) = a.stream_id ∷ []

unfoldable pub choices : List Queue → List ℕ
unfolding choice peek
choices [] = []
choices (q ∷ qs) = choice (peek q.scheduler) ++ choices qs

-- The one thing that is read off the queue that the calls before lead to.
unfoldable pub passed_at : Option ℕ → Queue → List ℕ
unfolding choices passing
passed_at none q = []
passed_at (some now) q = choices (passing (suc (waiting q.streams)) now q)

-- ------------------------------------------------------------------ a list of calls

-- From a queue on, each call by itself.
unfoldable pub entries : List Call → Queue → List Entry
unfolding step passed_at
entries [] q = []
entries (c ∷ cs) q = let s = step c q in entry c s.outcome.answer (passed_at (asks_at c) q) ∷ entries cs s.next

-- The calls for the next fragment that a call is made of: of a filling that is not refused one for each size asked for (document 02, 5/13: "each of them
-- one call for the next fragment").
unfoldable pub made_of : Call → Queue → List Call
unfolding step filling
made_of (add store now m) q = []
made_of (produce store places buffer now size) q = []
made_of (fill store places buffer now p) q =
    if is_refused (step (fill store places buffer now p) q).outcome.answer then [] else separate_calls store places now (filling store places now p.limit q).sizes
made_of (discard places s m) q = []
made_of (close places s) q = []
made_of ready_ids q = []
made_of commit q = []
made_of rollback q = []
made_of reset q = []
made_of (set_threshold places s t) q = []
made_of (set_priority s p) q = []
made_of (set_interleaving b) q = []
made_of (restore store now image) q = []
made_of (ask_priority s) q = []
made_of (ask_amount s) q = []
made_of (ask_threshold s) q = []
made_of ask_total q = []
made_of ask_empty q = []
made_of ask_has_data q = []
made_of ask_streams_ready q = []
made_of ask_ready_count q = []
made_of ask_readiness q = []
made_of (ask_room r) q = []

-- A call, and behind it those that it is made of.
unfoldable pub history : List Call → Queue → List Entry
unfolding step passed_at made_of entries
history [] q = []
history (c ∷ cs) q = let s = step c q in entry c s.outcome.answer (passed_at (asks_at c) q) ∷ (entries (made_of c q) q ++ history cs s.next)
