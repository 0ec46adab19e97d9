-- One step over the words and the store, by the definitions that the contracts cite; and lists of calls. Assumes nothing.
use Rattle.std.specs.Prelude.{ℕ, true, false, List, [], ◌∷◌}
use Rattle.queue_streams.specs.Settings.{Called, CalledWith, set_priority_words, set_threshold_words}
use Rattle.queue_streams.specs.Restart.{reopen, set_interleaving_words}
use Rattle.queue_questions.specs.Questions.{priority_of_words, amount_of_words, threshold_of, total_of, empty_of, data_of, ready_of, readiness_of, room_of}
use Rattle.queue_messages.specs.Add as adding
use Rattle.queue_messages.specs.Discard as discarding
use Rattle.queue_closing.specs.Close as closing
use Rattle.queue_restarts.specs.Ready as readying
use Rattle.queue_restarts.specs.Reset.{reset_queue}
use Rattle.queue_sending.specs.Data.{ProducedWith}
use Rattle.queue_sending.specs.Produce.{produce_next}
use Rattle.packets.specs.Filling.{FilledWith, fill_packet}
use Rattle.handover.specs.Restore as restoring
use Rattle.queue_runs.specs.Calls.{Call, add, produce, fill, discard, close, ready_ids, commit, rollback, reset, set_threshold, set_priority, set_interleaving, restore, ask_priority, ask_amount, ask_threshold, ask_total, ask_empty, ask_has_data, ask_streams_ready, ask_ready_count, ask_readiness, ask_room, Shown, shown, called, sent, filled, readied, number, flag, count, truth}

-- A queue: its words and its store.
pub record State : Type 0 where
  pub words : List ℕ
  pub store : List ℕ

abbrev pub state : List ℕ → List ℕ → State
state ws st = record { words = ws; store = st }

-- What a call shows, and the queue after it.
pub record Step : Type 0 where
  pub shows : Shown
  pub next : State

abbrev pub stepped : Shown → State → Step
stepped o s = record { shows = o; next = s }

-- Calls without lent lists, with a list of events, and questions.
abbrev pub quiet : Called → List ℕ → Step
quiet r st = stepped (shown (called r.answer) [] []) (state r.next st)

abbrev pub loud : CalledWith → List ℕ → Step
loud r st = stepped (shown (called r.answer) r.events []) (state r.next st)

abbrev pub sends : ProducedWith → List ℕ → Step
sends r st = stepped (shown (sent r.answer) r.events r.buffer) (state r.words st)

abbrev pub fills : FilledWith → List ℕ → Step
fills r st = stepped (shown (filled r.answer) r.events r.packet) (state r.words st)

abbrev pub stores : adding.Added → Step
stores r = stepped (shown (called r.answer) [] []) (state r.words r.store)

abbrev pub readies : readying.Readied → List ℕ → Step
readies r st = stepped (shown (readied r.answer) [] []) (state r.next st)

-- One call.
unfoldable pub step : Call → State → Step
step (add time m payload) s = stores (adding.add s.words s.store time m payload)
step (produce es bs time size) s = sends (produce_next s.words s.store es bs time size) s.store
step (fill es bs time p) s = fills (fill_packet s.words s.store es bs time p) s.store
step (discard es id k) s = loud (discarding.discard s.words es id k) s.store
step (close es id) s = loud (closing.close s.words es id) s.store
step ready_ids s = readies (readying.ready s.words) s.store
step commit s = quiet (reopen true s.words) s.store
step rollback s = quiet (reopen false s.words) s.store
step reset s = quiet (reset_queue s.words) s.store
step (set_threshold es id t) s = loud (set_threshold_words s.words es id t) s.store
step (set_priority id p) s = quiet (set_priority_words s.words id p) s.store
step (set_interleaving b) s = quiet (set_interleaving_words b s.words) s.store
step (restore time image) s = stores (restoring.restore s.words s.store time image)
step (ask_priority id) s = stepped (shown (number (priority_of_words s.words id)) [] []) s
step (ask_amount id) s = stepped (shown (number (amount_of_words s.words id)) [] []) s
step (ask_threshold id) s = stepped (shown (number (threshold_of s.words id)) [] []) s
step ask_total s = stepped (shown (count (total_of s.words)) [] []) s
step ask_empty s = stepped (shown (truth (empty_of s.words)) [] []) s
step ask_has_data s = stepped (shown (flag (data_of s.words)) [] []) s
step ask_streams_ready s = stepped (shown (flag (ready_of s.words)) [] []) s
step ask_ready_count s = stepped (shown (number (readying.ready_count s.words)) [] []) s
step ask_readiness s = stepped (shown (count (readiness_of s.words)) [] []) s
step (ask_room r) s = stepped (shown (count (room_of r s.words)) [] []) s

-- What a list of calls shows, call by call: "each call gets its queue and store as the last one left them".
unfoldable pub run : List Call → State → List Shown
run [] s = []
run (c ∷ cs) s = (step c s).shows ∷ run cs (step c s).next

-- The queue after a list of calls.
unfoldable pub after : List Call → State → State
after [] s = s
after (c ∷ cs) s = after cs (step c s).next
