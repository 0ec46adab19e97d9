-- The stream reset handler beside a queue: making a request, receiving a response, the whole-queue reset. Document 02, 9/13. Assumes nothing.
use Rattle.std.specs.Prelude.{ℕ, List, [], ◌∷◌, eqb, ltb, length}
use Rattle.std.proofs.Math.Option.{Option, none, some}
use Rattle.types.specs.Wrap.{wrap_suc}
use Rattle.std.specs.Prelude.{if◌then◌else◌}
use Rattle.queue_model.specs.Types as queue
use Rattle.queue_model.specs.Types.{Queue, Stream}
use Rattle.queue_model.specs.Reset.{is_resetting, paused_ids}
use Rattle.queue_model.specs.Run.{step, ready_ids, commit, rollback, reset}
use Rattle.reset_model.specs.Wire.{request_size, request_bytes, Verdict, commits, rolls_back, keeps_waiting, Response, read_response}

-- A request that waits for its response: its number, and the stream ids that its message carries.
pub record Request : Type 0 where
  pub number : ℕ
  pub streams : List ℕ

-- The handler: the number of the next message, and the request underway.
pub record Handler : Type 0 where
  pub next_number : ℕ
  pub underway : Option Request

-- "Request numbers start at a given one".
abbrev pub start : ℕ → Handler
start n = record { next_number = n; underway = none }

-- The same with none underway.
abbrev pub ended : Handler → Handler
ended h = record { next_number = h.next_number; underway = none }

-- What a call of the handler answers; `refused` with the number of the papers' list.
pub data Answer : Type 0 where
  refused : ℕ → Answer
  none_ready : Answer
  written : List ℕ → Answer
  ignored committed rolled_back still_waiting : Answer
  was_reset : Answer

-- A call's effect.
pub record Effect : Type 0 where
  pub answer : Answer
  pub handler : Handler
  pub next : Queue

abbrev pub effect : Answer → Handler → Queue → Effect
effect a h q = record { answer = a; handler = h; next = q }

-- ------------------------------------------------------------------ making a request

-- "Request numbers [..] grow by one a message and wrap at 32 bits." The ids that the message carries are those that become resetting.
unfoldable pub made : ℕ → ℕ → List ℕ → Handler → Queue → Effect
unfolding request_bytes step
made response_number last_tsn ids h q =
    effect (written (request_bytes h.next_number response_number last_tsn ids)) (record { next_number = wrap_suc 32 h.next_number; underway = some (record { number = h.next_number; streams = ids }) }) (step ready_ids q).next

-- "With no stream ready nothing is written and the answer says so." 26: "the output is shorter than the message"; nothing is changed then.
unfoldable pub request_for : ℕ → ℕ → ℕ → List ℕ → Handler → Queue → Effect
unfolding made
request_for room response_number last_tsn [] h q = effect none_ready h q
request_for room response_number last_tsn (k ∷ ks) h q =
    if ltb room (request_size (length (k ∷ ks))) then effect (refused 26) h q else made response_number last_tsn (k ∷ ks) h q

-- 25: "a request is wanted while one is underway"; "25 comes first".
unfoldable pub request_in : Option Request → ℕ → ℕ → ℕ → Handler → Queue → Effect
unfolding request_for paused_ids
request_in (some u) room response_number last_tsn h q = effect (refused 25) h q
request_in none room response_number last_tsn h q = request_for room response_number last_tsn (paused_ids q.streams) h q

-- Make a request; the output is lent and stands by its length. Response number and last TSN are the association's.
unfoldable pub make_request : (room response_number last_tsn : ℕ) → Handler → Queue → Effect
unfolding request_in
make_request room response_number last_tsn h q = request_in h.underway room response_number last_tsn h q

-- ------------------------------------------------------------------ receiving a response

-- "Result 0 or 1 commits, 2 to 5 roll back, 6 keeps the same request waiting".
unfoldable pub decided : Verdict → Handler → Queue → Effect
unfolding step
decided commits h q = effect committed (ended h) (step commit q).next
decided rolls_back h q = effect rolled_back (ended h) (step rollback q).next
decided keeps_waiting h q = effect still_waiting h q

-- "A response to another request number, or with none underway, changes nothing."
unfoldable pub answered : Option Request → Response → Handler → Queue → Effect
unfolding decided
answered none a h q = effect ignored h q
answered (some u) a h q = if eqb a.number u.number then decided a.verdict h q else effect ignored h q

-- 27: "received bytes break this layout".
unfoldable pub received : Option Response → Handler → Queue → Effect
unfolding answered
received none h q = effect (refused 27) h q
received (some a) h q = answered h.underway a h q

unfoldable pub handle_response : List ℕ → Handler → Queue → Effect
unfolding read_response received
handle_response bs h q = received (read_response bs) h q

-- ------------------------------------------------------------------ the whole-queue reset

-- "Whole-queue reset goes through it and ends the request." Refused, it changes nothing.
abbrev pub restarted : queue.Answer → Handler → Queue → Queue → Effect
restarted (queue.refused n) h q q' = effect (refused n) h q
restarted queue.done h q q' = effect was_reset (ended h) q'
restarted (queue.number m) h q q' = effect was_reset (ended h) q'
restarted (queue.flag b) h q q' = effect was_reset (ended h) q'
restarted (queue.ids ks) h q q' = effect was_reset (ended h) q'
restarted (queue.fragment f) h q q' = effect was_reset (ended h) q'
restarted queue.nothing_waits h q q' = effect was_reset (ended h) q'
restarted (queue.filled bs n) h q q' = effect was_reset (ended h) q'

unfoldable pub whole_reset : Handler → Queue → Effect
unfolding step
whole_reset h q = restarted (step reset q).outcome.answer h q (step reset q).next

-- ------------------------------------------------------------------ which streams

-- The ids of the resetting streams.
unfoldable pub resetting_ids : List Stream → List ℕ
unfolding is_resetting
resetting_ids [] = []
resetting_ids (s ∷ ss) = let rest = resetting_ids ss in if is_resetting s then s.id ∷ rest else rest

-- "the streams of the request underway", "none without one".
abbrev pub streams_underway : Option Request → List ℕ
streams_underway none = []
streams_underway (some u) = u.streams
