-- A chain for each head (document 02, 4/13): the chain of a stream, read off the words, and what it holds after any calls. (Saving is no call of these lists: queue_images, Demand2.) Assumes nothing.
use Rattle.std.specs.Prelude.{ℕ, ◌+◌, ◌≤◌, ◌≡◌, List, length}
use Rattle.queue_words.specs.Find.{find_stream_words}
use Rattle.queue_words.specs.Header.{is_strict}
use Rattle.queue_words.specs.Streams.{stream_at_words}
use Rattle.queue_words.specs.declared.known.Found.{Found}
use Rattle.queue_words.specs.declared.known.Found.TheVariants.{At, Gap, Broken}
use Rattle.queue_state.specs.Chains as chains
use Rattle.queue_state.specs.Chains.{chain, Linked, each}
use Rattle.queue_state.specs.Model.{next_of, item_in_words}
use Rattle.queue_model.specs.Types as plain
use Rattle.queue_model.specs.Streams.{new_queue}
use Rattle.queue_model.specs.Run as run
use Rattle.queue_model.specs.History.{Entry}
use Rattle.queue_model.specs.Arrivals.{ledger, new_ledger, arrivals, no_arrivals, InOrder, AllRight}
use Rattle.queue_runs.specs.Calls.{Call}
use Rattle.queue_runs.specs.Run.{State, after}
use Rattle.queue_runs.specs.Run as runs
use Rattle.queue_runs.specs.Meaning.{AllTyped, calls_of, all_shown_of}
use Rattle.queue_runs.specs.Creation.{Arguments, options_with, new_state, Creates}
use Rattle.queue_runs.specs.History.{history_of}

-- ------------------------------------------------------------------ the chain of a stream

-- The end of a chain: the places are below it.
abbrev pub no_place : ℕ
no_place = 1024

-- "Give every stream the place of its first and last message": by the row that the search for its id finds.
abbrev pub first_at : List ℕ → Found → ℕ
first_at ws (At i r) = (stream_at_words ws r).first
first_at ws (Gap p) = no_place
first_at ws Broken = no_place

abbrev pub last_at : List ℕ → Found → ℕ
last_at ws (At i r) = (stream_at_words ws r).last
last_at ws (Gap p) = no_place
last_at ws Broken = no_place

abbrev pub first_of : List ℕ → ℕ → ℕ
first_of ws id = first_at ws (find_stream_words ws id)

abbrev pub last_of : List ℕ → ℕ → ℕ
last_of ws id = last_at ws (find_stream_words ws id)

-- "and every message the place of the next": the places from the first on, as many as there can be and one.
unfoldable pub places_of : List ℕ → ℕ → List ℕ
places_of ws id = chain (next_of ws) (first_of ws id) 1025

-- The messages in these places, each with its row of the words and its payload in the store.
abbrev pub chain_messages : State → ℕ → List plain.Item
chain_messages s id = each (item_in_words s.words s.store) (places_of s.words id)

-- A stream's chain leads from its first place by the next places to its last and then ends, and holds exactly these messages in this order.
pub record Chain (s : State) (id : ℕ) (is : List plain.Item) : Type 0 where
  pub linked : Linked (next_of s.words) (first_of s.words id) (places_of s.words id)
  pub last_is : last_of s.words id ≡ chains.last_of no_place (places_of s.words id)
  pub holds : chain_messages s id ≡ is

-- No place stands twice in a chain, or in two.
pub record Apart (s : State) : Type 0 where
  pub once : (id x : ℕ) → chains.count x (places_of s.words id) ≤ 1
  pub apart : (j k x : ℕ) → (j ≡ k → ⊥) → chains.count x (places_of s.words j) + chains.count x (places_of s.words k) ≤ 1

-- ------------------------------------------------------------------ the claim

-- The model's new queue, for creation with these arguments.
abbrev pub new_queue_words : Arguments → State → plain.Queue
new_queue_words a s = new_queue (options_with a (length s.store))

-- The history of these calls from a new queue.
abbrev pub history_after : Arguments → State → List Call → List Entry
history_after a s cs = history_of (length s.store) cs (runs.run cs (new_state a s)) (new_queue_words a s)

-- The messages that wait in a stream then, first arrived first: those of its ledger.
abbrev pub waiting_after : Arguments → State → List Call → ℕ → List plain.Item
waiting_after a s cs id = (ledger (is_strict a.rule) id (history_after a s cs) new_ledger).messages

-- All messages that arrived at it, in order of arrival (or image), by what the calls were and whether they were refused, alone.
abbrev pub arrived_after : Arguments → State → List Call → ℕ → List plain.Item
arrived_after a s cs id = (arrivals id (history_after a s cs) no_arrivals).messages

-- "each chain holds exactly its stream's waiting messages in order of arrival (or image), and [..] every answer, event and fragment is as before": as document 01's model, which has no chain, shows them. The
-- history names no stream as passed over whose head had not expired at that call's time, and no fragment but of a head.
pub record Chained (a : Arguments) (s : State) (cs : List Call) : Type 0 where
  pub chains_hold : (id : ℕ) → Chain (after cs (new_state a s)) id (waiting_after a s cs id)
  pub in_order : (id : ℕ) → InOrder (chain_messages (after cs (new_state a s)) id) (arrived_after a s cs id)
  pub unshared : Apart (after cs (new_state a s))
  pub had_expired : (id : ℕ) → AllRight (is_strict a.rule) id (history_after a s cs) new_ledger
  pub as_before : runs.run cs (new_state a s) ≡ all_shown_of cs (run.run (calls_of (length s.store) cs) (new_queue_words a s))

-- "Show that for any calls from a new or restored queue, in runs as demand 2 has them": creation in any words and with any bytes in the store; restoring is one of the calls.
unfoldable pub Request4Chains : Type 0
unfolding places_of history_of ledger arrivals
Request4Chains = (a : Arguments) (s : State) (cs : List Call) → Creates a s → AllTyped cs → Chained a s cs
