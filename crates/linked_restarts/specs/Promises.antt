-- What the calls that restart streams promise: for every input the definition on the words, on the words of a queue the model's step. Assumes nothing.
use Rattle.std.specs.Prelude.{ℕ, ◌≤◌, ◌≡◌, Bool, true, false, List, length}
use Rattle.queue_model.specs.Answers.{answer_number, answer_value, answer_ids}
use Rattle.queue_model.specs.Run as run
use Rattle.queue_streams.specs.Settings.{Called, called}
use Rattle.queue_streams.specs.Restart.{reopen, set_interleaving_words}
use Rattle.queue_streams.specs.Answers.{number_number, number_value}
use Rattle.queue_streams.specs.Call.{Call}
use Rattle.queue_streams.specs.Number.{Number}
use Rattle.queue_streams.specs.Number as numbers
use Rattle.queue_restarts.specs.Ready.{readied, ready, ready_number, ready_list, count_of, ready_count}
use Rattle.queue_restarts.specs.Reset.{reset_queue}
use Rattle.queue_restarts.specs.ReadyStreams.{ReadyStreams}
use Rattle.queue_state.specs.Good.{Good}
use Rattle.queue_state.specs.Promise.{Does, Tells, shown, number_of}
use Rattle.linked_restarts.specs.Ids.{Readies}

-- A call answers r and leaves ws': d on the words, the model's c on the words of a queue.
pub record Meets (c : run.Call) (ws : List ℕ) (d : Called) (r : Call) (ws' : List ℕ) : Type 0 where
  pub words : called r ws' ≡ d
  pub model : (st : List ℕ) → Good ws st → Does c ws st r ws' st
  pub tells : (st : List ℕ) → Good ws st → Tells (shown c ws st) r

-- "For every resetting stream, commit sets the three counters to 0 and opens, and rollback opens; both let a stream with messages wait."
abbrev pub CommitMeets : List ℕ → Call → List ℕ → Type 0
CommitMeets ws r ws' = Meets run.commit ws (reopen true ws) r ws'

abbrev pub RollbackMeets : List ℕ → Call → List ℕ → Type 0
RollbackMeets ws r ws' = Meets run.rollback ws (reopen false ws) r ws'

-- "setting the choice it has changes nothing"
abbrev pub SwitchMeets : List ℕ → Bool → Call → List ℕ → Type 0
SwitchMeets ws b r ws' = Meets (run.set_interleaving b) ws (set_interleaving_words b ws) r ws'

-- "Whole-queue reset opens all streams, zeroes their counters and puts each head message back whole"
abbrev pub ResetMeets : List ℕ → Call → List ℕ → Type 0
ResetMeets ws r ws' = Meets run.reset ws (reset_queue ws) r ws'

-- "Ready ids, at most 256, come by value with their count in ascending order [..] and become resetting." On any words: no more than the array has places.
pub record ReadyMeets (ws : List ℕ) (r : ReadyStreams) (ws' : List ℕ) : Type 0 where
  pub words : readied r ws' ≡ ready ws
  pub model : (st : List ℕ) → Good ws st → Readies ws st r ws' st
  pub number : (st : List ℕ) → Good ws st → ready_number r ≡ answer_number (shown run.ready_ids ws st).answer
  pub ids : (st : List ℕ) → Good ws st → ready_list r ≡ answer_ids (shown run.ready_ids ws st).answer
  pub few : r.count ≤ 256
  pub places : length r.ids ≡ 256

-- How many ids are ready: a question, which changes nothing. On any words: at most 256, and as many as the call for them gives, or its refusal.
pub record CountMeets (ws : List ℕ) (r : Number) : Type 0 where
  pub words : r ≡ ready_count ws
  pub model : (st : List ℕ) → Good ws st → r ≡ number_of (shown run.ask_ready_count ws st).answer
  pub number : (st : List ℕ) → Good ws st → number_number r ≡ answer_number (shown run.ask_ready_count ws st).answer
  pub value : (st : List ℕ) → Good ws st → number_value r ≡ answer_value (shown run.ask_ready_count ws st).answer
  pub few : (n : ℕ) → r ≡ numbers.Value n → n ≤ 256
  pub as_taken : (t : ReadyStreams) (ws' : List ℕ) → ReadyMeets ws t ws' → r ≡ count_of t.answer t.count
