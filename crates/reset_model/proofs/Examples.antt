-- Messages byte by byte, and the handler call by call. Assumes nothing.
use mathlib.Core.Path.{◌≡◌, refl}
use mathlib.Core.Bool.{true, false}
use mathlib.Core.List.{List, [], ◌∷◌}
use mathlib.Core.Option.{none, some}
use Prim.Native.Nat.{ℕ}
use Rattle.queue_model.specs.Bytes.{bytes_number}
use Rattle.queue_model.specs.Types.{Queue}
use Rattle.queue_model.specs.Streams.{new_queue}
use Rattle.queue_model.specs.Run as run
use Rattle.reset_model.specs.Handler.{Handler, Effect, effect, start, refused, none_ready, written, ignored, still_waiting, make_request, handle_response, whole_reset}
use Rattle.reset_model.specs.Wire.{request_bytes, read_response, commits, rolls_back, keeps_waiting}

-- Three ids, so two bytes of padding.
request_example : request_bytes 4294967295 9 16909060 (1 ∷ 5 ∷ 258 ∷ [])
    ≡ 130 ∷ 0 ∷ 0 ∷ 26 ∷ 0 ∷ 13 ∷ 0 ∷ 22 ∷ 255 ∷ 255 ∷ 255 ∷ 255 ∷ 0 ∷ 0 ∷ 0 ∷ 9 ∷ 1 ∷ 2 ∷ 3 ∷ 4 ∷ 0 ∷ 1 ∷ 0 ∷ 5 ∷ 1 ∷ 2 ∷ 0 ∷ 0 ∷ []
unfolding request_bytes
request_example = refl

-- A response to request 7, with flags of any value: the result decides.
response_to_7 : ℕ → List ℕ
response_to_7 result = 130 ∷ 255 ∷ 0 ∷ 16 ∷ 0 ∷ 16 ∷ 0 ∷ 12 ∷ 0 ∷ 0 ∷ 0 ∷ 7 ∷ 0 ∷ 0 ∷ 0 ∷ result ∷ []

one_commits : read_response (response_to_7 1) ≡ some (record { number = 7; verdict = commits })
unfolding read_response response_to_7 bytes_number
one_commits = refl

two_rolls_back : read_response (response_to_7 2) ≡ some (record { number = 7; verdict = rolls_back })
unfolding read_response response_to_7 bytes_number
two_rolls_back = refl

six_waits : read_response (response_to_7 6) ≡ some (record { number = 7; verdict = keeps_waiting })
unfolding read_response response_to_7 bytes_number
six_waits = refl

-- "above 6 is malformed".
seven_malformed : read_response (response_to_7 7) ≡ none
unfolding read_response response_to_7 bytes_number
seven_malformed = refl

-- ------------------------------------------------------------------ the handler, call by call

new : Queue
unfolding new_queue
new = new_queue (record { payload_limit = 1000; store_length = 100; default_priority = 256; default_threshold = 0; total_threshold = 0; handover_with_data = true; strict_restart = false })

-- Streams 258, 1 and 5 are closed without messages: ready.
three_ready : Queue
unfolding run.after new
three_ready = run.after (run.close 2305 258 ∷ run.close 2305 1 ∷ run.close 2305 5 ∷ []) new

waits_for : ℕ → Handler
waits_for n = record { next_number = 9; underway = some (record { number = n; streams = 1 ∷ 5 ∷ 258 ∷ [] }) }

-- 28 bytes are room for three ids with their padding: the message, and the number after it; "wrap at 32 bits".
asked_for : Effect
unfolding make_request three_ready
asked_for = make_request 28 9 16909060 (start 4294967295) three_ready

message_written : asked_for.answer ≡ written (130 ∷ 0 ∷ 0 ∷ 26 ∷ 0 ∷ 13 ∷ 0 ∷ 22 ∷ 255 ∷ 255 ∷ 255 ∷ 255 ∷ 0 ∷ 0 ∷ 0 ∷ 9 ∷ 1 ∷ 2 ∷ 3 ∷ 4 ∷ 0 ∷ 1 ∷ 0 ∷ 5 ∷ 1 ∷ 2 ∷ 0 ∷ 0 ∷ [])
unfolding asked_for
message_written = refl

number_wraps : asked_for.handler ≡ record { next_number = 0; underway = some (record { number = 4294967295; streams = 1 ∷ 5 ∷ 258 ∷ [] }) }
unfolding asked_for
number_wraps = refl

number_grows : (make_request 28 9 9 (start 65535) three_ready).handler.next_number ≡ 65536
unfolding make_request three_ready
number_grows = refl

-- 26 "when the output is shorter than the message", by its padded length; nothing is changed.
short_output : make_request 27 9 9 (start 7) three_ready ≡ effect (refused 26) (start 7) three_ready
unfolding make_request three_ready
short_output = refl

-- "With no stream ready nothing is written": no number is used, and 26 is not given.
nothing_ready : make_request 0 9 9 (start 7) new ≡ effect none_ready (start 7) new
unfolding make_request new
nothing_ready = refl

-- "25 comes first".
one_underway : make_request 0 9 9 (waits_for 7) new ≡ effect (refused 25) (waits_for 7) new
unfolding make_request waits_for new
one_underway = refl

-- "A response to another request number, or with none underway, changes nothing."
other_number : handle_response (response_to_7 1) (waits_for 8) three_ready ≡ effect ignored (waits_for 8) three_ready
unfolding handle_response response_to_7 bytes_number waits_for
other_number = refl

late : handle_response (response_to_7 1) (start 9) three_ready ≡ effect ignored (start 9) three_ready
unfolding handle_response response_to_7 bytes_number
late = refl

-- "6 keeps the same request waiting".
six_keeps : handle_response (response_to_7 6) (waits_for 7) three_ready ≡ effect still_waiting (waits_for 7) three_ready
unfolding handle_response response_to_7 bytes_number waits_for
six_keeps = refl

-- 27 also with none underway.
malformed_late : handle_response (response_to_7 7) (start 9) three_ready ≡ effect (refused 27) (start 9) three_ready
unfolding handle_response response_to_7 bytes_number
malformed_late = refl

-- A response ends the request; so does the whole-queue reset; the numbers go on.
committed_ends : (handle_response (response_to_7 0) (waits_for 7) three_ready).handler ≡ start 9
unfolding handle_response response_to_7 bytes_number waits_for
committed_ends = refl

rolled_back_ends : (handle_response (response_to_7 5) (waits_for 7) three_ready).handler ≡ start 9
unfolding handle_response response_to_7 bytes_number waits_for
rolled_back_ends = refl

reset_ends : (whole_reset (waits_for 7) three_ready).handler ≡ start 9
unfolding whole_reset waits_for three_ready
reset_ends = refl
