-- Lists of calls with fillings (document 02, 5/13): what each is made of, calls for the next fragment. Assumes nothing.
use Rattle.std.specs.Prelude.{ℕ, ◌≡◌, false, List, [], ◌∷◌, ◌++◌, length, take}
use Rattle.queue_words.specs.Flags.{pick}
use Rattle.queue_model.specs.Fill.{common_header_length, filling}
use Rattle.queue_model.specs.Packets.{Asks}
use Rattle.queue_streams.specs.Events.{places_in}
use Rattle.packets.specs.declared.packet.Packet.{Packet}
use Rattle.queue_runs.specs.Calls.{Call, add, produce, fill, discard, close, ready_ids, commit, rollback, reset, set_threshold, set_priority, set_interleaving, restore, ask_priority, ask_amount, ask_threshold, ask_total, ask_empty, ask_has_data, ask_streams_ready, ask_ready_count, ask_readiness, ask_room, Typed, NotFilling, Shown}
use Rattle.queue_runs.specs.Run.{State, step, run, after}
use Rattle.queue_runs.specs.Meaning.{queue_of, AllTyped}
use Rattle.queue_runs.specs.Refusals.{refusal}
use Rattle.queue_runs.specs.Creation.{Arguments}
use Rattle.queue_runs.specs.Demand3.{Reached}

-- "each of them one call for the next fragment": at the same time, with the same event list; as many bytes of the packet buffer are lent as are asked for.
abbrev pub separately : List ℕ → List ℕ → ℕ → List ℕ → List Call
separately es bs time [] = []
separately es bs time (n ∷ ns) = produce es (take n bs) time n ∷ separately es bs time ns

-- The sizes that a filling asks for (queue_model: specs/Fill); that they are document 02's: `Request5Sizes`.
abbrev pub sizes_asked : List ℕ → ℕ → Packet → State → List ℕ
sizes_asked es time p s = (filling (length s.store) (places_in es) time p.limit (queue_of s)).sizes

-- What stands for a call: its separate calls for a filling, none where that is refused; else the call itself.
abbrev pub instead : Call → State → List Call
instead (fill es bs time p) s = pick (refusal (step (fill es bs time p) s).shows.answer) [] (separately es bs time (sizes_asked es time p s))
instead (add time m payload) s = add time m payload ∷ []
instead (produce es bs time size) s = produce es bs time size ∷ []
instead (discard es id k) s = discard es id k ∷ []
instead (close es id) s = close es id ∷ []
instead ready_ids s = ready_ids ∷ []
instead commit s = commit ∷ []
instead rollback s = rollback ∷ []
instead reset s = reset ∷ []
instead (set_threshold es id t) s = set_threshold es id t ∷ []
instead (set_priority id p) s = set_priority id p ∷ []
instead (set_interleaving b) s = set_interleaving b ∷ []
instead (restore time image) s = restore time image ∷ []
instead (ask_priority id) s = ask_priority id ∷ []
instead (ask_amount id) s = ask_amount id ∷ []
instead (ask_threshold id) s = ask_threshold id ∷ []
instead ask_total s = ask_total ∷ []
instead ask_empty s = ask_empty ∷ []
instead ask_has_data s = ask_has_data ∷ []
instead ask_streams_ready s = ask_streams_ready ∷ []
instead ask_ready_count s = ask_ready_count ∷ []
instead ask_readiness s = ask_readiness ∷ []
instead (ask_room r) s = (ask_room r) ∷ []

-- "The size asked for is [..]. Filling ends when that size is 0 or less or nothing is waiting": of a filling that is not refused, on every queue that
-- creation and calls lead to.
unfoldable pub Request5Sizes : Type 0
Request5Sizes =
    (a : Arguments) (len : ℕ) (s : State) (es bs : List ℕ) (time : ℕ) (p : Packet)
    → Reached a len s → Typed (fill es bs time p) → refusal (step (fill es bs time p) s).shows.answer ≡ false
    → Asks (queue_of s).interleaving (length s.store) (places_in es) time p.limit common_header_length (queue_of s) (sizes_asked es time p s)

-- Each call of a list by what stands for it.
unfoldable pub expanded : List Call → State → List Call
expanded [] s = []
expanded (c ∷ cs) s = instead c s ++ expanded cs (step c s).next

-- What a list of calls shows, in order; a filling by what its separate calls show.
unfoldable pub apart : List Call → State → List Shown
apart [] s = []
apart (c ∷ cs) s = run (instead c s) s ++ apart cs (step c s).next

abbrev pub NoFillings : List Call → Type 0
NoFillings [] = Unit {0}
NoFillings (c ∷ cs) = NotFilling c × NoFillings cs

-- A list may stand in another's place that has fillings: it has none, it can be called, it leaves the same queue and shows the same.
pub record StandsFor (cs : List Call) (s : State) : Type 0 where
  pub typed : AllTyped (expanded cs s)
  pub no_fillings : NoFillings (expanded cs s)
  pub leaves : queue_of (after (expanded cs s) s) ≡ queue_of (after cs s)
  pub shows : run (expanded cs s) s ≡ apart cs s

-- Of every queue that creation and calls lead to, and any calls.
unfoldable pub Request5Expanded : Type 0
unfolding expanded apart
Request5Expanded = (a : Arguments) (len : ℕ) (s : State) (cs : List Call) → Reached a len s → AllTyped cs → StandsFor cs s
