-- One step over a receiver's words and store, by the definitions that the contracts cite; lists of calls; creation. Assumes nothing.
use Rattle.std.specs.Prelude.{ℕ, ◌<◌, ◌^◌, ◌≡◌, Bool, List, [], ◌∷◌, length}
use Rattle.receiver_fragments.specs.Creating as creating
use Rattle.receiver_fragments.specs.Receiving as receiving
use Rattle.receiver_fragments.specs.Fetching as fetching
use Rattle.receiver_calls.specs.Receiving as calls
use Rattle.queue_runs.specs.Run.{State, state}
use Rattle.receiver_runs.specs.Calls.{Lent, own, other, Call, receive, fetch, Shown, shown, received, fetched}

-- ------------------------------------------------------------------ one call

-- What a call shows, and the receiver after it.
pub record Step : Type 0 where
  pub shows : Shown
  pub next : State

abbrev pub stepped : Shown → State → Step
stepped o s = record { shows = o; next = s }

-- The store that is lent, where the receiver's own is st; and the receiver's own after the call left the lent one as st'.
abbrev pub lent_store : Lent → List ℕ → List ℕ
lent_store own st = st
lent_store (other st₁) st = st₁

abbrev pub left_store : Lent → List ℕ → List ℕ → List ℕ
left_store own st st' = st'
left_store (other st₁) st st' = st

abbrev pub receives : Lent → List ℕ → receiving.Outcome → Step
receives l st o = stepped (shown (received o.answer) []) (state o.words (left_store l st o.store))

abbrev pub fetches : List ℕ → fetching.Outcome → Step
fetches st o = stepped (shown (fetched o.answer) o.buffer) (state o.words st)

unfoldable pub step : Call → State → Step
step (receive l bs) s = receives l s.store (calls.receive s.words (lent_store l s.store) bs)
step (fetch l out) s = fetches s.store (fetching.fetch s.words (lent_store l s.store) out)

-- ------------------------------------------------------------------ lists of calls

-- What a list of calls shows, call by call: each gets words and store as the last one left them.
unfoldable pub run : List Call → State → List Shown
run [] s = []
run (c ∷ cs) s = (step c s).shows ∷ run cs (step c s).next

-- The receiver after it.
unfoldable pub after : List Call → State → State
after [] s = s
after (c ∷ cs) s = after cs (step c s).next

-- ------------------------------------------------------------------ creation

-- "one kind fixed at creation [..], with a starting TSN and a lent store": in any words, with any bytes in the store.
abbrev pub creation : Bool → ℕ → State → creating.Outcome
creation i_data start s = creating.create s.words s.store i_data start

-- The receiver that it leaves.
abbrev pub new_receiver_words : Bool → ℕ → State → State
new_receiver_words i_data start s = state (creation i_data start s).words s.store

-- Creation is accepted; the words are as many as a receiver has.
pub record Creates (i_data : Bool) (start : ℕ) (s : State) : Type 0 where
  pub long : length s.words ≡ 83472
  pub start_fits : start < 2 ^ 32
  pub accepted : (creation i_data start s).answer ≡ 0
