-- The ids that are ready to be reset, on the words. Assumes nothing.
use Rattle.std.specs.Prelude.{ℕ, zero, suc, ◌+◌, Bool, true, false, List, ltb, replicate, set, take, Result, Ok, Err}
use Rattle.queue_words.specs.Flags.{pick}
use Rattle.queue_words.specs.Header.{totals_at}
use Rattle.queue_words.specs.Known.{known_at}
use Rattle.queue_words.specs.Streams.{is_paused_words, stream_at_words}
use Rattle.types.specs.Refusal.{refusal_number}
use Rattle.types.specs.declared.refusal.Refusal.{Refusal}
use Rattle.queue_streams.specs.Answers.{call_number}
use Rattle.queue_streams.specs.Call.{Call}
use Rattle.queue_streams.specs.Call.{Accepted, Refused}
use Rattle.queue_streams.specs.Number.{Number}
use Rattle.queue_streams.specs.Number as number
use Rattle.queue_restarts.specs.Marking.{put_resetting}
use Rattle.queue_restarts.specs.ReadyStreams.{ReadyStreams}
use Rattle.queue_restarts.specs.declared.ready.ReadyStreams as code

-- 16: "a place kept in the state lies outside its table": whether those of m known streams from position i on lie in theirs.
unfoldable pub places_fit : List ℕ → ℕ → ℕ → Bool
places_fit ws i zero = true
places_fit ws i (suc m) = pick (ltb 255 (known_at ws i).place) false (places_fit ws (suc i) m)

unfoldable pub all_places_fit : List ℕ → ℕ → Bool
all_places_fit ws n = pick (ltb 256 n) false (places_fit ws 0 n)

unfoldable pub paused_at : List ℕ → ℕ → Bool
paused_at ws place = pick (ltb 255 place) false (is_paused_words (stream_at_words ws place).pause_state)

-- What the code answers, with the numbers of document 01: the ids, or a refusal and no id.
abbrev pub as_ready : Result code.ReadyStreams Refusal → ReadyStreams
as_ready (Ok r) = record { answer = Accepted 0; count = r.count; ids = r.ids }
as_ready (Err r) = record { answer = Refused (refusal_number r); count = 0; ids = replicate 256 0 }

-- 16, and no id.
abbrev pub refused_ready : ReadyStreams
refused_ready = record { answer = Refused 16; count = 0; ids = replicate 256 0 }

-- "Ready ids, at most 256, come by value with their count in ascending order": the known streams stand in the order of their ids.
abbrev pub none_ready : ReadyStreams
none_ready = record { answer = Accepted 0; count = 0; ids = replicate 256 0 }

abbrev pub one_more : ReadyStreams → ℕ → ReadyStreams
one_more r id = record { answer = Accepted 0; count = r.count + 1; ids = set r.ids r.count id }

-- The paused ones among the first n known streams.
unfoldable pub collected : List ℕ → ℕ → ReadyStreams
collected ws zero = none_ready
collected ws (suc i) = pick (paused_at ws (known_at ws i).place) (one_more (collected ws i) (known_at ws i).id.0) (collected ws i)

-- The paused ones, or 16 where the place of one of the n streams lies outside its table.
unfoldable pub collected_or16 : List ℕ → ℕ → ReadyStreams
collected_or16 ws n = pick (places_fit ws 0 n) (collected ws n) refused_ready

-- "and become resetting": a paused stream in this row. A place outside its table, which the call has ruled out, is passed over.
unfoldable pub marked : List ℕ → ℕ → List ℕ
marked ws place =
    pick (ltb 255 place) ws
    (pick (is_paused_words (stream_at_words ws place).pause_state) (put_resetting ws place) ws)

unfoldable pub marked_all : List ℕ → ℕ → List ℕ
marked_all ws zero = ws
marked_all ws (suc i) = marked (marked_all ws i) (known_at (marked_all ws i) i).place

-- What the call leaves: its answer and the words.
pub record Readied : Type 0 where
  pub answer : ReadyStreams
  pub next : List ℕ

abbrev pub readied : ReadyStreams → List ℕ → Readied
readied r ws = record { answer = r; next = ws }

-- 16 where a place lies outside its table; nothing is then changed.
unfoldable pub ready : List ℕ → Readied
ready ws = pick (all_places_fit ws (totals_at ws).known) (readied (collected ws (totals_at ws).known) (marked_all ws (totals_at ws).known)) (readied refused_ready ws)

-- The answer's number, and its values: the ids, as many as its count says.
abbrev pub ready_number : ReadyStreams → ℕ
ready_number a = call_number a.answer

abbrev pub ready_list : ReadyStreams → List ℕ
ready_list a = take a.count a.ids

-- How many ids are ready: the count that the call for them would give, or its refusal.
abbrev pub count_of : Call → ℕ → Number
count_of (Accepted k) n = number.Value n
count_of (Refused m) n = number.Refused m

unfoldable pub ready_count : List ℕ → Number
ready_count ws = count_of (ready ws).answer.answer (ready ws).answer.count
