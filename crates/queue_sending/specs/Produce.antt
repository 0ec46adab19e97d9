-- The next fragment, on the words. Assumes nothing.
use Rattle.std.specs.Prelude.{ℕ, zero, suc, Bool, true, false, List, ◌++◌, ltb, eqb, length, take, drop}
use Rattle.queue_words.specs.Flags.{pick}
use Rattle.queue_words.specs.Header.{options_at, totals_at}
use Rattle.queue_words.specs.Items.{item_at}
use Rattle.queue_words.specs.Streams.{stream_at_words}
use Rattle.queue_streams.specs.Events.{event_words}
use Rattle.queue_streams.specs.Settings.{CalledWith, called_with}
use Rattle.queue_streams.specs.Call.{Call}
use Rattle.queue_streams.specs.Call as call
use Rattle.message_chains.specs.Dropping.{dropped_in_state}
use Rattle.queue_sending.specs.Choice.{look_ahead}
use Rattle.queue_sending.specs.Data.{ProducedWith, produced_with, refused_with}
use Rattle.queue_sending.specs.Fragment.{handed_out_words}
use Rattle.queue_sending.specs.Look.{Look}
use Rattle.queue_sending.specs.Look as look
use Rattle.queue_sending.specs.Produced.{Produced}
use Rattle.queue_sending.specs.Produced as produced

-- The refusals that what is lent and asked for decides. 3: "the event list has fewer than 2,305 places." 4: "A time or lifetime is above
-- 4,611,686,018,427,387,903."
-- 9: "The size asked for is outside 1 to 262,144." 10: "The fragment buffer is shorter than the size asked for."
abbrev pub lent_code : ℕ → ℕ → ℕ → ℕ → ℕ
lent_code places room time size =
    pick (ltb places event_words) 3
    (pick (ltb 4611686018427387903 time) 4
    (pick (eqb size 0) 9
    (pick (ltb 262144 size) 9
    (pick (ltb room size) 10 0))))

-- The refusals that the arguments decide. 2: "The store is [..] not of its creation length later."
unfoldable pub produce_code : List ℕ → ℕ → ℕ → ℕ → ℕ → ℕ → ℕ
produce_code ws len places room time size = pick (eqb (options_at ws).store_length len) (lent_code places room time size) 2

-- "An expired head of the chosen stream is dropped, half-sent or not"; "A stream stays as it was when its half-sent message expires", but document 02,
-- 3/13: "When a pending
-- stream's half-sent head expires, the stream becomes paused". After k events.
unfoldable pub expired_dropped : List ℕ → List ℕ → ℕ → ℕ → ℕ → CalledWith
expired_dropped ws es k id row =
    pick (ltb 255 row) (called_with (call.Refused 16) ws es)
    (pick (ltb 1023 (stream_at_words ws row).first) (called_with (call.Refused 16) ws es)
    (dropped_in_state ws es k id row (stream_at_words ws row) (item_at ws (stream_at_words ws row).first)))

-- What follows a look, after k events; `expired` is what follows an expired head.
abbrev pub after_look : (ℕ → ℕ → ProducedWith) → List ℕ → List ℕ → List ℕ → List ℕ → ℕ → ℕ → Look → ProducedWith
after_look expired ws st es bs size k look.Nothing = pick (ltb 2305 k) (refused_with 16 ws es bs) (produced_with (produced.Nothing k) ws es bs)
after_look expired ws st es bs size k look.Broken = refused_with 16 ws es bs
after_look expired ws st es bs size k (look.Expired id row) = expired id row
after_look expired ws st es bs size k (look.Chosen at id row) = handed_out_words ws st es bs size k at id row

-- "and the choice begins again": after a drop.
abbrev pub after_drop : (List ℕ → List ℕ → ℕ → ProducedWith) → List ℕ → List ℕ → List ℕ → Call → ProducedWith
after_drop again ws es bs (call.Accepted k) = again ws es k
after_drop again ws es bs (call.Refused code) = refused_with code ws es bs

abbrev pub after_call : (List ℕ → List ℕ → ℕ → ProducedWith) → List ℕ → CalledWith → ProducedWith
after_call again bs c = after_drop again c.next c.events bs c.answer

-- "An expired head of the chosen stream is dropped, half-sent or not, and the choice begins again; with no stream left the answer is that nothing waits,
-- and the drops
-- and their events stand." "Passing over expired heads is a function that calls itself with one waiting message fewer": the first number is how many wait.
unfoldable pub pass_over_words : ℕ → List ℕ → List ℕ → List ℕ → List ℕ → ℕ → ℕ → ℕ → ProducedWith
pass_over_words zero ws st es bs time size k = after_look (λ (id row : ℕ). refused_with 16 ws es bs) ws st es bs size k (look_ahead ws time)
pass_over_words (suc n) ws st es bs time size k =
    after_look (λ (id row : ℕ). after_call (λ (l e : List ℕ) (j : ℕ). pass_over_words n l st e bs time size j) bs (expired_dropped ws es k id row)) ws st es bs size k (look_ahead ws time)

-- The same in two parts, as the code has it: the expired heads passed over, then a head to send or none.
abbrev pub after_choice : (ℕ → ℕ → CalledWith) → List ℕ → List ℕ → ℕ → Look → CalledWith
after_choice expired ws es k look.Nothing = called_with (call.Accepted k) ws es
after_choice expired ws es k look.Broken = called_with (call.Refused 16) ws es
after_choice expired ws es k (look.Expired id row) = expired id row
after_choice expired ws es k (look.Chosen at id row) = called_with (call.Accepted k) ws es

abbrev pub after_turn : (List ℕ → List ℕ → ℕ → CalledWith) → List ℕ → List ℕ → Call → CalledWith
after_turn again ws es (call.Accepted j) = again ws es j
after_turn again ws es (call.Refused code) = called_with (call.Refused code) ws es

abbrev pub after_dropped : (List ℕ → List ℕ → ℕ → CalledWith) → CalledWith → CalledWith
after_dropped again d = after_turn again d.next d.events d.answer

unfoldable pub passed : ℕ → List ℕ → List ℕ → ℕ → ℕ → CalledWith
passed zero ws es time k = after_choice (λ (id row : ℕ). called_with (call.Refused 16) ws es) ws es k (look_ahead ws time)
passed (suc n) ws es time k =
    after_choice (λ (id row : ℕ). after_dropped (λ (l e : List ℕ) (j : ℕ). passed n l e time j) (expired_dropped ws es k id row)) ws es k (look_ahead ws time)

abbrev pub sent_found : List ℕ → List ℕ → List ℕ → List ℕ → ℕ → ℕ → Look → ProducedWith
sent_found ws st es bs size k found = after_look (λ (id row : ℕ). refused_with 16 ws es bs) ws st es bs size k found

unfoldable pub sent_chosen : List ℕ → List ℕ → List ℕ → List ℕ → ℕ → ℕ → ℕ → ProducedWith
sent_chosen ws st es bs time size k = sent_found ws st es bs size k (look_ahead ws time)

abbrev pub sent_after : List ℕ → List ℕ → List ℕ → List ℕ → ℕ → ℕ → Call → ProducedWith
sent_after ws st es bs time size (call.Accepted k) = sent_chosen ws st es bs time size k
sent_after ws st es bs time size (call.Refused code) = refused_with code ws es bs

-- ------------------------------------------------------------------ the call

-- whether an answer is a refusal
abbrev pub refusal : Produced → Bool
refusal (produced.Nothing k) = false
refusal (produced.Fragment k d) = false
refusal (produced.Refused code) = true

-- a list with the first n words of another
unfoldable pub copied : List ℕ → List ℕ → ℕ → List ℕ
copied to from n = take n from ++ drop n to

-- What is left: refused, all is as it was.
abbrev pub settled_as : List ℕ → List ℕ → List ℕ → ProducedWith → Produced → ProducedWith
settled_as ws es bs p (produced.Nothing k) = p
settled_as ws es bs p (produced.Fragment k d) = p
settled_as ws es bs p (produced.Refused code) = refused_with code ws es bs

abbrev pub settled : List ℕ → List ℕ → List ℕ → ProducedWith → ProducedWith
settled ws es bs p = settled_as ws es bs p p.answer

-- Passing over at most n messages after k events; refused, all is as it was.
unfoldable pub past_from : List ℕ → List ℕ → List ℕ → List ℕ → ℕ → ℕ → ℕ → ℕ → ProducedWith
past_from ws st es bs time size n k = settled ws es bs (pass_over_words n ws st es bs time size k)

-- Passing over as many messages as wait; 16 where that is more than there are places.
unfoldable pub produced_past : List ℕ → List ℕ → List ℕ → List ℕ → ℕ → ℕ → ℕ → ProducedWith
produced_past ws st es bs time size k =
    pick (ltb 1024 (totals_at ws).waiting) (refused_with 16 ws es bs)
    (past_from ws st es bs time size (totals_at ws).waiting k)

-- The next fragment of at most `size` bytes, after k events. Where no head has expired nothing is passed over.
unfoldable pub produced_after : List ℕ → List ℕ → List ℕ → List ℕ → ℕ → ℕ → ℕ → ProducedWith
produced_after ws st es bs time size k = after_look (λ (id row : ℕ). produced_past ws st es bs time size k) ws st es bs size k (look_ahead ws time)

-- The call: its arguments judged, then the next fragment.
unfoldable pub produce_next : List ℕ → List ℕ → List ℕ → List ℕ → ℕ → ℕ → ProducedWith
produce_next ws st es bs time size =
    pick (ltb 0 (produce_code ws (length st) (length es) (length bs) time size)) (refused_with (produce_code ws (length st) (length es) (length bs) time size) ws es bs)
    (produced_after ws st es bs time size 0)
