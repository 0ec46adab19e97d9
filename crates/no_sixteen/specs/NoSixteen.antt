-- Document 02, 12/13: "Show that no sequence of calls from a new or restored queue leads to it." All calls that there are: those on a queue, filling and the count of ready streams among them; saving; creation; the stream
-- reset handler's; the receiver's. Assumes nothing.
use Rattle.std.specs.Prelude.{ℕ, ◌≡◌, Bool, true, false, List, eqb, length}
use Rattle.queue_runs.specs.Calls.{Call, Typed}
use Rattle.queue_runs.specs.Run.{State, run, after}
use Rattle.queue_runs.specs.Creation.{Arguments, NoSixteen}
use Rattle.queue_runs.specs.Meaning.{GoodState, AllTyped}
use Rattle.stream_reset_handler.specs.declared.handler.StreamResetHandler.{StreamResetHandler}
use Rattle.reset_runs.specs.Uses.{Use, Pair, pair}
use Rattle.reset_runs.specs.Uses as mixed
use Rattle.reset_runs.specs.Request9.{Starts}
use Rattle.receiver_runs.specs.Calls as receiver
use Rattle.receiver_runs.specs.Run as receiving
use Rattle.receiver_runs.specs.Meaning as received
use Rattle.no_sixteen.specs.Shows.{call_shows, save_shows, create_shows, use_shows, UseTyped, UsesTyped, NoUseShows}

-- ------------------------------------------------------------------ what calls lead to

-- "a new or restored queue", and then calls: those on the queue and those of its stream reset handler, mixed in any order.
pub record Led (s : State) : Type 0 where
  pub arguments : Arguments
  pub start : State
  pub handler : StreamResetHandler
  pub uses : List Use
  pub starts : Starts arguments start
  pub typed : UsesTyped uses
  pub state_is : s ≡ (mixed.after uses (pair handler start)).queue

-- A new receiver, and then calls.
pub record ReceiverLed (s : State) : Type 0 where
  pub i_data : Bool
  pub tsn : ℕ
  pub start : State
  pub calls : List receiver.Call
  pub creates : receiving.Creates i_data tsn start
  pub typed : receiver.AllTyped (length start.store) calls
  pub state_is : s ≡ receiving.after calls (receiving.new_receiver_words i_data tsn start)

-- ------------------------------------------------------------------ no calls lead to 16

pub record NoCallsLead : Type 0 where
  pub calls : (a : Arguments) (s : State) (cs : List Call) → Starts a s → AllTyped cs → NoSixteen (run cs s)
  -- what the queue's calls alone lead to, calls of both lead to; then no list of the queue's calls shows it, nor saving, nor a list of both
  pub calls_lead : (a : Arguments) (s : State) (cs : List Call) → Starts a s → AllTyped cs → Led (after cs s)
  pub later_calls : (s : State) (cs : List Call) → Led s → AllTyped cs → NoSixteen (run cs s)
  pub saving : (s : State) (buffer : List ℕ) (time : ℕ) → Led s → save_shows buffer time s ≡ false
  pub handler : (s : State) (h : StreamResetHandler) (us : List Use) → Led s → UsesTyped us → NoUseShows us (pair h s)
  pub receiver : (i_data : Bool) (tsn : ℕ) (s : State) (cs : List receiver.Call) → receiving.Creates i_data tsn s → receiver.AllTyped (length s.store) cs
      → received.NoSixteen (receiving.run cs (receiving.new_receiver_words i_data tsn s))
  -- creation in any words at all
  pub creation : (a : Arguments) (s : State) → create_shows a s ≡ false
  pub receiver_creation : (i_data : Bool) (tsn : ℕ) (s : State) → eqb (receiving.creation i_data tsn s).answer 16 ≡ false

-- ------------------------------------------------------------------ what 16 means

-- The words and the store are no queue's, so no calls lead to them.
pub record Broken (s : State) : Type 0 where
  pub not_good : GoodState s → ⊥
  pub not_led : Led s → ⊥

-- A typed call that shows 16 was handed a state that no calls lead to.
pub record SixteenMeans : Type 0 where
  pub calls : (c : Call) (s : State) → Typed c → call_shows c s ≡ true → Broken s
  pub saving : (s : State) (buffer : List ℕ) (time : ℕ) → save_shows buffer time s ≡ true → Broken s
  pub handler : (u : Use) (p : Pair) → UseTyped u → use_shows u p ≡ true → Broken p.queue
  pub receiver : (c : receiver.Call) (s : State) → receiver.Typed (length s.store) c → received.sixteen (receiving.step c s).shows.answer ≡ true → ReceiverLed s → ⊥
