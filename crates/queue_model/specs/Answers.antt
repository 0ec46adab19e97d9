-- What is read off an answer: whether it is a refusal and which, the fragment in it, its number, its values. Assumes nothing.
use Rattle.std.specs.Prelude.{ℕ, Bool, true, false, List, [], ◌∷◌, eqb, length}
use Rattle.std.proofs.Math.Option.{Option, none, some}
use Rattle.std.specs.Prelude.{if◌then◌else◌}
use Rattle.queue_model.specs.Types.{Fragment, Answer, refused, done, number, flag, ids, fragment, nothing_waits, filled, Outcome}
use Rattle.queue_model.specs.Refusals.{Creation, not_created, new}
use Rattle.queue_model.specs.Image.{Saving, not_saved, saved_as_lem}

abbrev pub is_refused : Answer → Bool
is_refused (refused r) = true
is_refused done = false
is_refused (number m) = false
is_refused (flag b) = false
is_refused (ids ks) = false
is_refused (fragment f) = false
is_refused nothing_waits = false
is_refused (filled bs n) = false

-- The fragment that an answer shows; a filled packet shows bytes.
abbrev pub fragments_in : Answer → List Fragment
fragments_in (refused r) = []
fragments_in done = []
fragments_in (number m) = []
fragments_in (flag b) = []
fragments_in (ids ks) = []
fragments_in (fragment f) = f ∷ []
fragments_in nothing_waits = []
fragments_in (filled bs n) = []

-- Those of stream k.
abbrev pub of_stream : ℕ → List Fragment → List Fragment
of_stream k [] = []
of_stream k (f ∷ fs) = if eqb f.stream_id k then f ∷ of_stream k fs else of_stream k fs

-- The fragment of an answer, and the number of a refusal.
abbrev pub fragment_in : Answer → Option Fragment
fragment_in (refused n) = none
fragment_in done = none
fragment_in (number n) = none
fragment_in (flag b) = none
fragment_in (ids ks) = none
fragment_in (fragment f) = some f
fragment_in nothing_waits = none
fragment_in (filled bs n) = none

abbrev pub refusal_in : Answer → Option ℕ
refusal_in (refused n) = some n
refusal_in done = none
refusal_in (number n) = none
refusal_in (flag b) = none
refusal_in (ids ks) = none
refusal_in (fragment f) = none
refusal_in nothing_waits = none
refusal_in (filled bs n) = none

-- ------------------------------------------------------------------ number and values

-- "If an answer is an enum, a definition states this paper's number and values for each case of the enum." The number: 0 where a call is accepted or a
-- question answered, else the refusal's.
abbrev pub answer_number : Answer → ℕ
answer_number (refused n) = n
answer_number done = 0
answer_number (number m) = 0
answer_number (flag b) = 0
answer_number (ids ks) = 0
answer_number (fragment f) = 0
answer_number nothing_waits = 0
answer_number (filled bs n) = 0

-- The values: a number, yes or no, ids; 0, no and none where the answer has no such value. The fragment: `fragments_in`.
abbrev pub answer_value : Answer → ℕ
answer_value (refused n) = 0
answer_value done = 0
answer_value (number m) = m
answer_value (flag b) = 0
answer_value (ids ks) = 0
answer_value (fragment f) = 0
answer_value nothing_waits = 0
answer_value (filled bs n) = 0

abbrev pub answer_flag : Answer → Bool
answer_flag (refused n) = false
answer_flag done = false
answer_flag (number m) = false
answer_flag (flag b) = b
answer_flag (ids ks) = false
answer_flag (fragment f) = false
answer_flag nothing_waits = false
answer_flag (filled bs n) = false

abbrev pub answer_ids : Answer → List ℕ
answer_ids (refused n) = []
answer_ids done = []
answer_ids (number m) = []
answer_ids (flag b) = []
answer_ids (ids ks) = ks
answer_ids (fragment f) = []
answer_ids nothing_waits = []
answer_ids (filled bs n) = []

-- How many events a call tells that writes k: none where it is refused.
abbrev pub answer_events : Answer → ℕ → ℕ
answer_events (refused n) k = 0
answer_events done k = k
answer_events (number m) k = k
answer_events (flag b) k = k
answer_events (ids ks) k = k
answer_events (fragment f) k = k
answer_events nothing_waits k = k
answer_events (filled bs n) k = k

abbrev pub event_count : Outcome → ℕ
event_count o = answer_events o.answer (length o.events)

-- Of creation and of saving; the image's length.
abbrev pub creation_number : Creation → ℕ
creation_number (not_created n) = n
creation_number (new q) = 0

abbrev pub saving_number : Saving → ℕ
saving_number (not_saved n) = n
saving_number (saved_as_lem bs) = 0

abbrev pub saving_length : Saving → ℕ
saving_length (not_saved n) = 0
saving_length (saved_as_lem bs) = length bs
