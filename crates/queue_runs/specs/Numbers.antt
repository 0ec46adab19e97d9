-- The numbers with which each call can be refused, on any words at all. Assumes nothing.
use Rattle.std.specs.Prelude.{ℕ, ◌≡◌, Bool, true, false, not, ◌||◌, List, [], ◌∷◌, eqb, ltb, length}
use Rattle.queue_words.specs.Flags.{pick}
use Rattle.queue_words.specs.Header.{options_at}
use Rattle.queue_streams.specs.Answers.{call_number, number_number, flag_number}
use Rattle.queue_sending.specs.Data.{produced_number}
use Rattle.packets.specs.Filling.{filled_number}
use Rattle.queue_runs.specs.Calls.{Call, add, produce, fill, discard, close, ready_ids, commit, rollback, reset, set_threshold, set_priority, set_interleaving, restore, ask_priority, ask_amount, ask_threshold, ask_total, ask_empty, ask_has_data, ask_streams_ready, ask_ready_count, ask_readiness, ask_room, Answer, called, sent, filled, readied, number, flag, count, truth}
use Rattle.queue_runs.specs.Run.{State, step}
use Rattle.queue_runs.specs.Refusals.{refusal}

-- ------------------------------------------------------------------ the number of a refusal

-- The number of a refusal, 0 where the answer is none.
abbrev pub refusal_number : Answer → ℕ
refusal_number (called a) = call_number a
refusal_number (sent a) = produced_number a
refusal_number (filled a) = filled_number a
refusal_number (readied r) = call_number r.answer
refusal_number (number a) = number_number a
refusal_number (flag a) = flag_number a
refusal_number (count n) = 0
refusal_number (truth b) = 0

-- ------------------------------------------------------------------ the numbers of a call

-- Document 01's list, for each call: the refusals that can apply to it; of a filling document 02's 20 and 21 first.
abbrev pub listed : Call → List ℕ
listed (add time m payload) = 2 ∷ 4 ∷ 5 ∷ 6 ∷ 7 ∷ 8 ∷ 16 ∷ []
listed (produce es bs time size) = 2 ∷ 3 ∷ 4 ∷ 9 ∷ 10 ∷ 16 ∷ []
listed (fill es bs time p) = 20 ∷ 21 ∷ 2 ∷ 3 ∷ 4 ∷ 16 ∷ []
listed (discard es id k) = 3 ∷ 16 ∷ []
listed (close es id) = 3 ∷ 6 ∷ 16 ∷ []
listed ready_ids = 16 ∷ []
listed commit = 16 ∷ []
listed rollback = 16 ∷ []
listed reset = 16 ∷ []
listed (set_threshold es id t) = 3 ∷ 6 ∷ 16 ∷ []
listed (set_priority id p) = 6 ∷ 16 ∷ []
listed (set_interleaving b) = 16 ∷ []
listed (restore time image) = 2 ∷ 4 ∷ 12 ∷ 13 ∷ 14 ∷ 15 ∷ []
listed (ask_priority id) = 16 ∷ []
listed (ask_amount id) = 16 ∷ []
listed (ask_threshold id) = 16 ∷ []
listed ask_total = []
listed ask_empty = []
listed ask_has_data = 16 ∷ []
listed ask_streams_ready = 16 ∷ []
listed ask_ready_count = 16 ∷ []
listed ask_readiness = []
listed (ask_room r) = []

-- Whether a number stands in a list.
abbrev pub among : ℕ → List ℕ → Bool
among n [] = false
among n (k ∷ ks) = pick (eqb n k) true (among n ks)

-- A refused call gives a number of its list.
abbrev pub RefusalsListed : Type 0
RefusalsListed = (c : Call) (s : State) → refusal (step c s).shows.answer ≡ true → among (refusal_number (step c s).shows.answer) (listed c) ≡ true

-- ------------------------------------------------------------------ a store of another length

-- Whether a call is lent the store; of a filling, where neither 20 nor 21 applies, which come before.
abbrev pub takes_store : Call → Bool
takes_store (add time m payload) = true
takes_store (produce es bs time size) = true
takes_store (fill es bs time p) = not (ltb p.limit 36 || (ltb 65535 p.limit || ltb (length bs) p.limit))
takes_store (discard es id k) = false
takes_store (close es id) = false
takes_store ready_ids = false
takes_store commit = false
takes_store rollback = false
takes_store reset = false
takes_store (set_threshold es id t) = false
takes_store (set_priority id p) = false
takes_store (set_interleaving b) = false
takes_store (restore time image) = true
takes_store (ask_priority id) = false
takes_store (ask_amount id) = false
takes_store (ask_threshold id) = false
takes_store ask_total = false
takes_store ask_empty = false
takes_store ask_has_data = false
takes_store ask_streams_ready = false
takes_store ask_ready_count = false
takes_store ask_readiness = false
takes_store (ask_room r) = false

-- 2: "The store is [..] not of its creation length later": such a call is refused with 2, whatever its other arguments.
abbrev pub OtherStore : Type 0
OtherStore = (c : Call) (s : State) → takes_store c ≡ true → ((options_at s.words).store_length ≡ length s.store → ⊥) → refusal_number (step c s).shows.answer ≡ 2
