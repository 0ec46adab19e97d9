-- Document 01's examples marked P: one table, and one theorem that antt computes. Then a second table, of sentences that the other theorems leave open.
-- Assumes nothing.
use Rattle.std.specs.Prelude.{◌≡◌, refl, Bool, true, false, List, [], ◌∷◌, ◌++◌, map, ℕ, length, replicate}
use Rattle.std.proofs.Math.Option.{Option, none, some}
use Rattle.queue_model.specs.Types.{round_robin, weighted, Queue, Event, Answer, refused, done, number, flag, ids, fragment, nothing_waits, filled, Outcome}
use Rattle.queue_model.specs.Scheduler.{cost}
use Rattle.queue_model.specs.Streams.{new_queue}
use Rattle.queue_model.specs.Add.{expiry, new_item}
use Rattle.queue_model.specs.Produce.{give_numbers}
use Rattle.queue_model.specs.Questions.{readiness}
use Rattle.queue_model.specs.Image.{bit, ms_left_at, write_image, save}
use Rattle.queue_model.specs.Answers.{saving_number}
use Rattle.queue_model.specs.Run.{Call, add, produce, discard, close, ready_ids, commit, rollback, reset, set_threshold, set_priority, set_interleaving, restore, ask_priority, ask_amount, ask_threshold, ask_total, ask_empty, ask_has_data, ask_streams_ready, ask_ready_count, ask_room, run, after}
use Rattle.queue_model.specs.Questions.{free_store, waiting_messages, known_streams}

-- A queue with payload limit 1,000 and stream thresholds 0; the default priority, the total's threshold, handover with waiting data and the strict rule
-- of a restart as given.
created : ℕ → ℕ → Bool → Bool → Queue
unfolding new_queue
created d t handover strict = new_queue (record { payload_limit = 1000; store_length = 100000; default_priority = d; default_threshold = 0; total_threshold = t; handover_with_data = handover; strict_restart = strict })

-- The queue of the examples: default priority 256, both thresholds 0, handover with waiting data, the Rust's rule.
queue : Queue
unfolding created
queue = created 256 0 true false

-- Add n bytes to a stream at a time, with a lifetime or none; ask for a fragment of at most n bytes at a time.
put : ℕ → ℕ → ℕ → Option ℕ → Call
put s n now l = add 100000 now (record { stream_id = s; ppid = 0; unordered = false; max_retransmissions = none; lifetime = l; lifecycle_id = 0; payload = replicate n 7 })

get : ℕ → ℕ → Call
get now n = produce 100000 2305 262144 now n

-- What an answer shows: a fragment its stream, length, first and last mark, MID, SSN and FSN; a packet its chunks and its bytes; a number itself; 888
-- that nothing waits, 999 a refusal.
show_answer : Answer → List ℕ
unfolding bit
show_answer (refused n) = 999 ∷ n ∷ []
show_answer done = []
show_answer (number n) = n ∷ []
show_answer (flag b) = bit b 1 ∷ []
show_answer (ids l) = l
show_answer (fragment f) = f.stream_id ∷ length f.bytes ∷ bit f.first 1 ∷ bit f.last 1 ∷ f.mid ∷ f.ssn ∷ f.fsn ∷ []
show_answer nothing_waits = 888 ∷ []
show_answer (filled bs n) = n ∷ bs

unfoldable pub answers : List Outcome → List ℕ
unfolding show_answer
answers [] = []
answers (o ∷ os) = show_answer o.answer ++ answers os

-- The events' kinds, numbers and amounts.
events : List Event → List ℕ
events [] = []
events (e ∷ es) = e.kind ∷ e.number ∷ e.amount ∷ events es

unfoldable pub all_events : List Outcome → List ℕ
unfolding events
all_events [] = []
all_events (o ∷ os) = events o.events ++ all_events os

-- On the queue of the examples, what a list of calls answers, what it fires, and the finish times of the streams that then wait.
shows : List Call → List ℕ
unfolding answers run queue
shows cs = answers (run cs queue)

fires : List Call → List ℕ
unfolding all_events run queue
fires cs = all_events (run cs queue)

finishes : List Call → List ℕ
unfolding after queue
finishes cs = map (λ a. a.finish) (after cs queue).scheduler.active

two : List Call
unfolding put
two = put 5 1500 0 none ∷ put 3 1500 0 none ∷ []

weights : List Call
unfolding two
weights = set_interleaving true ∷ set_priority 5 512 ∷ set_priority 3 256 ∷ two

four : List Call
unfolding get
four = get 0 1000 ∷ get 0 1000 ∷ get 0 1000 ∷ get 0 1000 ∷ []

-- The counters of a stream (next SSN, next unordered MID, next ordered MID) after one more message, unordered or ordered.
after_message : Bool → ℕ → ℕ → ℕ → List ℕ
unfolding give_numbers new_item
after_message unordered s u o =
    let i = new_item 0 0 (record { stream_id = 5; ppid = 0; unordered = unordered; max_retransmissions = none; lifetime = none; lifecycle_id = 0; payload = 7 ∷ [] }) in
    let c = (give_numbers unordered (record { next_ssn = s; next_unordered_mid = u; next_ordered_mid = o }) i).counters in
    c.next_ssn ∷ c.next_unordered_mid ∷ c.next_ordered_mid ∷ []

-- What the two fragments of a 1,500-byte message show: 1,000 bytes, first, FSN 0; then 500, last, FSN 1.
begun : ℕ → List ℕ
begun s = s ∷ 1000 ∷ 1 ∷ 0 ∷ 0 ∷ 0 ∷ 0 ∷ []

ended : ℕ → List ℕ
ended s = s ∷ 500 ∷ 0 ∷ 1 ∷ 0 ∷ 0 ∷ 1 ∷ []

-- A row: what the definitions give, and what document 01 says.
pub record Row : Type 0 where
  pub given : List ℕ
  pub said : List ℕ

infix 20 ◌gives◌
abbrev pub ◌gives◌ : List ℕ → List ℕ → Row
g gives s = record { given = g; said = s }

pub table : List Row
unfolding shows fires finishes two weights four put get begun ended after_message cost ms_left_at expiry write_image queue
table =
    -- Two 1,500-byte messages, on 5 then 3, without interleaving: 3, 3, 5, 5 as 1,000 and 500.
    (shows (two ++ four) gives (begun 3 ++ ended 3 ++ begun 5 ++ ended 5))
    -- With it, weights 512 on 5 and 256 on 3: 5, 5, 3, 3; finish times (of 3 and 5) 1,953,125, 2,929,687, then 3,906,250.
    ∷ (shows (weights ++ four) gives (begun 5 ++ ended 5 ++ begun 3 ++ ended 3))
    ∷ (finishes weights gives (3906250 ∷ 1953125 ∷ []))
    ∷ (finishes (weights ++ (get 0 1000 ∷ [])) gives (3906250 ∷ 2929687 ∷ []))
    ∷ (finishes (weights ++ (get 0 1000 ∷ get 0 1000 ∷ [])) gives (3906250 ∷ []))
    -- Weight 0, 7 bytes: 7,000,000.
    ∷ ((cost (weighted 0) 7 ∷ []) gives (7000000 ∷ []))
    -- Lifetime 0 at 5,000,000 ns: sent at 5,999,999, expired at 6,000,000.
    ∷ (shows (put 5 10 5000000 (some 0) ∷ get 5999999 10 ∷ []) gives (5 ∷ 10 ∷ 1 ∷ 1 ∷ 0 ∷ 0 ∷ 0 ∷ []))
    ∷ (shows (put 5 10 5000000 (some 0) ∷ get 6000000 10 ∷ ask_amount 5 ∷ []) gives (888 ∷ 0 ∷ []))
    -- Left at 5,500,000: 0 ms.
    ∷ ((ms_left_at 5500000 (expiry 5000000 (some 0)) ∷ []) gives (0 ∷ []))
    -- Amount 10, threshold 4, 6 sent: fires. Threshold 4 raised to 10 at amount 10: fires; 10 to 12: silent.
    ∷ (fires (set_threshold 2305 5 4 ∷ put 5 10 0 none ∷ get 0 6 ∷ []) gives (1 ∷ 5 ∷ 4 ∷ []))
    ∷ (fires (set_threshold 2305 5 4 ∷ put 5 10 0 none ∷ set_threshold 2305 5 10 ∷ []) gives (1 ∷ 5 ∷ 10 ∷ []))
    ∷ (fires (set_threshold 2305 5 10 ∷ put 5 10 0 none ∷ set_threshold 2305 5 12 ∷ []) gives [])
    -- After MID 4,294,967,295 comes 0. After SSN 65,535 comes 0.
    ∷ (after_message false 65534 4294967294 4294967294 gives (65535 ∷ 4294967294 ∷ 4294967295 ∷ []))
    ∷ (after_message false 65535 4294967295 4294967295 gives (0 ∷ 4294967295 ∷ 0 ∷ []))
    ∷ (after_message true 65534 4294967294 4294967294 gives (65534 ∷ 4294967295 ∷ 4294967294 ∷ []))
    ∷ (after_message true 65535 4294967295 4294967295 gives (65535 ∷ 0 ∷ 4294967295 ∷ []))
    -- First message of a stream, 1,500 bytes, 1,000 sent, reset: amount 1,500, next fragment first, FSN 1.
    ∷ (shows (put 5 1500 0 none ∷ get 0 1000 ∷ reset ∷ ask_amount 5 ∷ get 0 1000 ∷ []) gives (begun 5 ++ (1500 ∷ 5 ∷ 1000 ∷ 1 ∷ 0 ∷ 0 ∷ 0 ∷ 1 ∷ [])))
    -- New queue, default 256, image in hexadecimal: 00000000 0100 0000 0000 0001 00000000 00000000.
    ∷ (write_image 1 queue gives (0 ∷ 0 ∷ 0 ∷ 0 ∷ 1 ∷ 0 ∷ 0 ∷ 0 ∷ 0 ∷ 0 ∷ 0 ∷ 1 ∷ 0 ∷ 0 ∷ 0 ∷ 0 ∷ 0 ∷ 0 ∷ 0 ∷ 0 ∷ []))
    ∷ []

pub examples : map (λ r. r.given) table ≡ map (λ r. r.said) table
unfolding table
examples = refl

-- ------------------------------------------------------------------ sentences that no theorem holds by itself

-- A message with a lifecycle id.
noted : ℕ → ℕ → Call
noted s l = add 100000 0 (record { stream_id = s; ppid = 0; unordered = false; max_retransmissions = none; lifetime = none; lifecycle_id = l; payload = replicate 10 7 })

-- The readiness with and without a waiting message, where handover with waiting data is off.
ready_with : List Call → ℕ
unfolding after created readiness
ready_with cs = readiness (after cs (created 256 0 false false))

-- What a list of calls answers on a queue of the strict rule; and the image of the examples' queue after a list of calls.
strictly : List Call → List ℕ
unfolding answers run created
strictly cs = answers (run cs (created 256 0 true true))

image_after : List Call → List ℕ
unfolding write_image after queue
image_after cs = write_image 1 (after cs queue)

-- The same of a queue with another default priority.
other_image : List Call → List ℕ
unfolding write_image after created
other_image cs = write_image 1 (after cs (created 512 0 true false))

-- What a list of calls fires where the total has a threshold too.
fires_at : ℕ → List Call → List ℕ
unfolding all_events run created
fires_at t cs = all_events (run cs (created 256 t true false))

-- Stream 5 with the threshold 15 and three messages of 10 bytes.
thrice : Option ℕ → List Call
unfolding put
thrice l = set_threshold 2305 5 15 ∷ put 5 10 0 l ∷ put 5 10 0 l ∷ put 5 10 0 l ∷ []

-- A message half-sent on 5; messages half-sent on 5 and 7.
half : List Call
unfolding put get
half = put 5 40 0 none ∷ get 0 10 ∷ put 3 10 0 none ∷ []

halves : List Call
unfolding put get
halves = set_interleaving true ∷ put 7 40 0 none ∷ get 0 10 ∷ put 5 20 0 none ∷ get 0 10 ∷ put 3 10 0 none ∷ []

pub facts : List Row
unfolding shows fires fires_at thrice put get begun ended noted ready_with strictly image_after other_image half halves after_message cost save queue two weights four
facts =
    -- "a remaining half-sent one makes the stream pending"; "When a pending stream's message ends or is discarded, it is paused."
    (shows (put 5 1500 0 none ∷ get 0 1000 ∷ close 2305 5 ∷ ready_ids ∷ get 0 1000 ∷ ready_ids ∷ []) gives (begun 5 ++ ended 5 ++ (5 ∷ [])))
    -- "messages added to a paused or resetting stream do not start it".
    ∷ (shows (close 2305 5 ∷ put 5 10 0 none ∷ get 0 10 ∷ []) gives (888 ∷ []))
    ∷ (shows (close 2305 5 ∷ ready_ids ∷ put 5 10 0 none ∷ get 0 10 ∷ []) gives (5 ∷ 888 ∷ []))
    -- "When a pending stream's half-sent head expires, the stream becomes paused": it is ready, a message behind it waits for the commit, and is then
    -- the first of the stream.
    ∷ (shows (put 5 1500 0 (some 0) ∷ get 0 1000 ∷ close 2305 5 ∷ put 5 10 0 none ∷ get 1000000 1000 ∷ ready_ids ∷ get 1000000 10 ∷ commit ∷ get 1000000 10 ∷ [])
    gives (begun 5 ++ (888 ∷ 5 ∷ 888 ∷ 5 ∷ 10 ∷ 1 ∷ 1 ∷ 0 ∷ 0 ∷ 0 ∷ [])))
    -- The same with another stream, to which "the choice goes"; then a rollback, and a whole-queue reset.
    ∷ (shows (put 5 1500 0 (some 0) ∷ get 0 1000 ∷ close 2305 5 ∷ put 5 10 0 none ∷ put 7 10 0 none ∷ get 1000000 1000 ∷ ready_ids ∷ rollback ∷ get 1000000 10 ∷ [])
    gives (begun 5 ++ (7 ∷ 10 ∷ 1 ∷ 1 ∷ 0 ∷ 0 ∷ 0 ∷ 5 ∷ 5 ∷ 10 ∷ 1 ∷ 1 ∷ 1 ∷ 1 ∷ 0 ∷ [])))
    ∷ (shows (put 5 1500 0 (some 0) ∷ get 0 1000 ∷ close 2305 5 ∷ put 5 10 0 none ∷ get 1000000 1000 ∷ reset ∷ get 1000000 10 ∷ []) gives (begun 5 ++ (888 ∷ 5 ∷ 10 ∷ 1 ∷ 1 ∷ 0 ∷ 0 ∷ 0 ∷ [])))
    -- An open stream "stays as it was when its half-sent message expires", and goes on with the message behind it.
    ∷ (shows (put 5 1500 0 (some 0) ∷ get 0 1000 ∷ put 5 10 0 none ∷ get 1000000 1000 ∷ ready_ids ∷ []) gives (begun 5 ++ (5 ∷ 10 ∷ 1 ∷ 1 ∷ 1 ∷ 1 ∷ 0 ∷ [])))
    -- "Sending and dropping report total, stream, then 3 and 4 for a drop with an id; closing reports stream before total."
    ∷ (fires (noted 5 9 ∷ discard 2305 5 0 ∷ []) gives (2 ∷ 0 ∷ 0 ∷ 1 ∷ 5 ∷ 0 ∷ 3 ∷ 9 ∷ 0 ∷ 4 ∷ 9 ∷ 0 ∷ []))
    ∷ (fires (noted 5 9 ∷ close 2305 5 ∷ []) gives (1 ∷ 5 ∷ 0 ∷ 2 ∷ 0 ∷ 0 ∷ 3 ∷ 9 ∷ 0 ∷ 4 ∷ 9 ∷ 0 ∷ []))
    ∷ (fires (put 5 10 0 none ∷ get 0 10 ∷ []) gives (2 ∷ 0 ∷ 0 ∷ 1 ∷ 5 ∷ 0 ∷ []))
    -- Document 02, 2/13: "the amount after the fall, stepped as in the Rust". Closed, or dropped as expired, the second message fires the stream's
    -- event, which tells 10, though
    -- the call goes on to 0.
    ∷ (fires (thrice none ++ (close 2305 5 ∷ [])) gives (1 ∷ 5 ∷ 10 ∷ 2 ∷ 0 ∷ 0 ∷ []))
    ∷ (fires (thrice (some 0) ++ (get 1000000 10 ∷ [])) gives (1 ∷ 5 ∷ 10 ∷ 2 ∷ 0 ∷ 0 ∷ []))
    -- A raise past the amount tells the amount, not the threshold.
    ∷ (fires (set_threshold 2305 5 4 ∷ put 5 10 0 none ∷ set_threshold 2305 5 12 ∷ []) gives (1 ∷ 5 ∷ 10 ∷ []))
    -- Each event tells the amount that fell: with 7 bytes on another stream and the total's threshold 20 the same message takes the stream to 10 and the
    -- total to 17.
    ∷ (fires_at 20 (put 6 7 0 none ∷ thrice none ++ (close 2305 5 ∷ [])) gives (1 ∷ 5 ∷ 10 ∷ 2 ∷ 0 ∷ 17 ∷ []))
    ∷ (fires_at 20 (put 6 7 0 none ∷ thrice (some 0) ++ (get 1000000 7 ∷ [])) gives (2 ∷ 0 ∷ 17 ∷ 1 ∷ 5 ∷ 10 ∷ 1 ∷ 6 ∷ 0 ∷ []))
    -- "a message put back starts with FSN 0 and with numbers from the zeroed counters": the second message of a stream, 1,000 of 1,500 bytes sent,
    -- strict reset; it starts with MID, SSN
    -- and FSN 0, and the message behind it follows with MID 1 and SSN 1.
    ∷ (strictly (put 5 10 0 none ∷ put 5 1500 0 none ∷ put 5 10 0 none ∷ get 0 1000 ∷ get 0 1000 ∷ reset ∷ ask_amount 5 ∷ get 0 1000 ∷ get 0 1000 ∷ get 0 1000 ∷ [])
    gives (5 ∷ 10 ∷ 1 ∷ 1 ∷ 0 ∷ 0 ∷ 0 ∷ 5 ∷ 1000 ∷ 1 ∷ 0 ∷ 1 ∷ 1 ∷ 0 ∷ 1510 ∷ (begun 5 ++ ended 5 ++ (5 ∷ 10 ∷ 1 ∷ 1 ∷ 1 ∷ 1 ∷ 0 ∷ []))))
    -- "Strict restoring answers 13 also to a MID on a message at offset 0": an image of a head put back by the Rust's rule; one of a half-sent message
    -- is accepted, and so are both by
    -- the Rust's rule.
    ∷ (strictly (restore 100000 1 (image_after (put 5 10 0 none ∷ get 0 6 ∷ reset ∷ [])) ∷ []) gives (999 ∷ 13 ∷ []))
    ∷ (strictly (restore 100000 1 (image_after (put 5 10 0 none ∷ get 0 6 ∷ [])) ∷ ask_amount 5 ∷ []) gives (4 ∷ []))
    ∷ (shows (restore 100000 1 (image_after (put 5 10 0 none ∷ get 0 6 ∷ reset ∷ [])) ∷ ask_amount 5 ∷ []) gives (10 ∷ []))
    -- "the first that applies is given": 13 for it, then 14 for another default priority.
    ∷ (strictly (restore 100000 1 (other_image (put 5 10 0 none ∷ get 0 6 ∷ reset ∷ [])) ∷ restore 100000 1 (other_image (put 5 10 0 none ∷ get 0 6 ∷ [])) ∷ []) gives (999 ∷ 13 ∷ 999 ∷ 14 ∷ []))
    -- "Restoring without interleaving shall remember the stream whose first message is half-sent, the smallest id if several are, and send its rest
    -- first": 10 of 40 bytes sent on 5, then a
    -- message on 3. The rest of 5 comes first, then 3; restored with interleaving 3 comes first, by its finish time.
    ∷ (shows (restore 100000 1 (image_after half) ∷ get 1 40 ∷ get 1 40 ∷ []) gives (5 ∷ 30 ∷ 0 ∷ 1 ∷ 0 ∷ 0 ∷ 1 ∷ 3 ∷ 10 ∷ 1 ∷ 1 ∷ 0 ∷ 0 ∷ 0 ∷ []))
    ∷ (shows (set_interleaving true ∷ restore 100000 1 (image_after half) ∷ get 1 40 ∷ []) gives (3 ∷ 10 ∷ 1 ∷ 1 ∷ 0 ∷ 0 ∷ 0 ∷ []))
    -- A message put back is not half-sent: 3 comes first.
    ∷ (shows (restore 100000 1 (image_after (half ++ (reset ∷ []))) ∷ get 1 40 ∷ []) gives (3 ∷ 10 ∷ 1 ∷ 1 ∷ 0 ∷ 0 ∷ 0 ∷ []))
    -- Half-sent messages on 5 and 7, a whole one on 3: 5, then 3, then 7.
    ∷ (shows (restore 100000 1 (image_after halves) ∷ get 1 40 ∷ get 1 40 ∷ get 1 40 ∷ []) gives (5 ∷ 10 ∷ 0 ∷ 1 ∷ 0 ∷ 0 ∷ 1 ∷ 3 ∷ 10 ∷ 1 ∷ 1 ∷ 0 ∷ 0 ∷ 0 ∷ 7 ∷ 30 ∷ 0 ∷ 1 ∷ 0 ∷ 0 ∷ 1 ∷ []))
    -- "When a pending stream's message ends or is discarded, it is paused": a resetting one, which switching interleaving let wait, stays resetting.
    ∷ (shows (close 2305 5 ∷ put 5 10 0 none ∷ set_interleaving true ∷ ready_ids ∷ get 0 10 ∷ ready_ids ∷ []) gives (5 ∷ 5 ∷ 10 ∷ 1 ∷ 1 ∷ 0 ∷ 0 ∷ 0 ∷ []))
    -- "The questions are the calls that only ask": whether it is empty, whether a stream waits (not one that was closed to paused), whether one is
    -- paused; amounts, thresholds and a priority.
    ∷ (shows (ask_empty ∷ put 5 10 0 none ∷ ask_empty ∷ []) gives (1 ∷ 0 ∷ []))
    ∷ (shows (ask_has_data ∷ close 2305 5 ∷ put 5 10 0 none ∷ ask_has_data ∷ put 3 10 0 none ∷ ask_has_data ∷ []) gives (0 ∷ 0 ∷ 1 ∷ []))
    ∷ (shows (ask_streams_ready ∷ close 2305 5 ∷ ask_streams_ready ∷ ready_ids ∷ ask_streams_ready ∷ []) gives (0 ∷ 1 ∷ 5 ∷ 0 ∷ []))
    -- How many are ready: asked twice they stay, taken they are gone; one that was closed and is half-sent is not paused yet.
    ∷ (shows (ask_ready_count ∷ close 2305 5 ∷ close 2305 3 ∷ ask_ready_count ∷ ask_ready_count ∷ ready_ids ∷ ask_ready_count ∷ []) gives (0 ∷ 2 ∷ 2 ∷ 3 ∷ 5 ∷ 0 ∷ []))
    ∷ (shows (put 5 10 0 none ∷ get 0 6 ∷ close 2305 5 ∷ ask_ready_count ∷ get 0 4 ∷ ask_ready_count ∷ []) gives (5 ∷ 6 ∷ 1 ∷ 0 ∷ 0 ∷ 0 ∷ 0 ∷ 0 ∷ 5 ∷ 4 ∷ 0 ∷ 1 ∷ 0 ∷ 0 ∷ 1 ∷ 1 ∷ []))
    ∷ (shows (put 5 10 0 none ∷ put 3 20 0 none ∷ set_threshold 2305 5 4 ∷ ask_amount 5 ∷ ask_total ∷ ask_threshold 5 ∷ ask_threshold 3 ∷ ask_priority 3 ∷ []) gives (10 ∷ 30 ∷ 4 ∷ 0 ∷ 256 ∷ []))
    -- What there is room for: a half-sent message occupies its full length, a setting makes its stream known; after the last fragment the bytes are free
    -- and nothing waits.
    ∷ (shows (put 5 10 0 none ∷ set_priority 3 7 ∷ get 0 6 ∷ ask_room free_store ∷ ask_room waiting_messages ∷ ask_room known_streams ∷ get 0 4 ∷ ask_room free_store ∷ ask_room waiting_messages ∷ ask_room known_streams ∷ [])
    gives (5 ∷ 6 ∷ 1 ∷ 0 ∷ 0 ∷ 0 ∷ 0 ∷ 99990 ∷ 1 ∷ 2 ∷ 5 ∷ 4 ∷ 0 ∷ 1 ∷ 0 ∷ 0 ∷ 1 ∷ 100000 ∷ 0 ∷ 2 ∷ []))
    -- "Readiness is 2 if handover with waiting data is off and the total is above 0, else 0."
    ∷ ((ready_with [] ∷ ready_with (put 5 1 0 none ∷ []) ∷ ready_with (put 5 10 0 none ∷ []) ∷ ready_with (put 5 10 0 none ∷ get 0 10 ∷ []) ∷ []) gives (0 ∷ 2 ∷ 2 ∷ 0 ∷ []))
    -- "Cost without interleaving is 1".
    ∷ ((cost round_robin 7 ∷ []) gives (1 ∷ []))
    -- "A weight is read [..] at [..] interleaving switch": switched off again, streams with weights are sent by turns.
    ∷ (shows (weights ++ (set_interleaving false ∷ four)) gives (begun 3 ++ ended 3 ++ begun 5 ++ ended 5))
    -- "ordered and unordered counting separately in each stream; only ordered ones get an SSN": each counter grows from what it was.
    ∷ (after_message false 5 7 9 gives (6 ∷ 7 ∷ 10 ∷ []))
    ∷ (after_message true 5 7 9 gives (5 ∷ 8 ∷ 9 ∷ []))
    -- 11: "The image buffer is shorter than the image": a new queue's has 20 bytes.
    ∷ ((saving_number (save 100000 19 1 queue) ∷ saving_number (save 100000 20 1 queue) ∷ []) gives (11 ∷ 0 ∷ []))
    -- "the first that applies is given": of 2, 3, 4, 9 and 10; of 4 and 5.
    ∷ (shows (produce 1 0 0 4611686018427387904 262145 ∷ produce 100000 0 0 4611686018427387904 262145 ∷ produce 100000 2305 0 4611686018427387904 262145 ∷ produce 100000 2305 0 0 262145 ∷ produce 100000 2305 0 0 1 ∷ [])
    gives (999 ∷ 2 ∷ 999 ∷ 3 ∷ 999 ∷ 4 ∷ 999 ∷ 9 ∷ 999 ∷ 10 ∷ []))
    ∷ (shows (put 5 0 4611686018427387904 none ∷ put 5 0 0 (some 4611686018427387904) ∷ put 5 0 0 none ∷ []) gives (999 ∷ 4 ∷ 999 ∷ 4 ∷ 999 ∷ 5 ∷ []))
    ∷ []

pub facts_hold : map (λ r. r.given) facts ≡ map (λ r. r.said) facts
unfolding facts
facts_hold = refl

-- Handing out sets the system time to the stream's own new start, as the Rust does: here it falls from 9,000,000 to 10,000.
times : List Call → ℕ
unfolding after queue
times cs = (after cs queue).scheduler.system_time

three : List Call
unfolding put get
three = set_interleaving true ∷ set_priority 1 100 ∷ set_priority 2 100 ∷ put 1 1000 0 none ∷ put 2 900 0 none ∷ get 0 1000 ∷ []

falls : times three ∷ times (three ++ (put 2 1000 0 none ∷ get 0 1 ∷ [])) ∷ [] ≡ 9000000 ∷ 10000 ∷ []
unfolding times three put get
falls = refl
