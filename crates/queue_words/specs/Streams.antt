-- The streams: 256 rows of 10 words from word 544 on, 9 of them used. Assumes nothing.
use Rattle.std.specs.Prelude.{ℕ, ◌+◌, ◌*◌, ◌%◌, ◌<◌, Bool, true, false, List, [], ◌∷◌, eqb, get_or, set}
use Rattle.queue_words.specs.Rows.{row, put_row}
use Rattle.queue_words.specs.Flags.{pick}
use Rattle.queue_words.specs.declared.streams.OutgoingStream.{OutgoingStream}
use Rattle.queue_words.specs.declared.streams.PauseState.{PauseState}
use Rattle.queue_words.specs.declared.streams.PauseState.TheVariants.{NotPaused, Pending, Paused, Resetting}

-- the state of a word: 0 to 3 in the order of the type; above 3 it is the last
abbrev pub pause_state_of : ℕ → PauseState
pause_state_of w = pick (eqb w 0) NotPaused (pick (eqb w 1) Pending (pick (eqb w 2) Paused Resetting))

-- the word of a state
abbrev pub pause_state_word : PauseState → ℕ
pause_state_word NotPaused = 0
pause_state_word Pending = 1
pause_state_word Paused = 2
pause_state_word Resetting = 3

-- whether a state is this one
abbrev pub is_open : PauseState → Bool
is_open NotPaused = true
is_open Pending = false
is_open Paused = false
is_open Resetting = false

abbrev pub is_pending : PauseState → Bool
is_pending NotPaused = false
is_pending Pending = true
is_pending Paused = false
is_pending Resetting = false

abbrev pub is_paused_words : PauseState → Bool
is_paused_words NotPaused = false
is_paused_words Pending = false
is_paused_words Paused = true
is_paused_words Resetting = false

abbrev pub is_resetting_words : PauseState → Bool
is_resetting_words NotPaused = false
is_resetting_words Pending = false
is_resetting_words Paused = false
is_resetting_words Resetting = true

-- a stream in nine words
abbrev pub stream_of : List ℕ → OutgoingStream
stream_of vs = record {
  priority = get_or vs 0 0 % 65536;
  pause_state = pause_state_of (get_or vs 1 0);
  next_ssn = record { 0 = get_or vs 2 0 % 65536 };
  next_unordered_mid = record { 0 = get_or vs 3 0 % 4294967296 };
  next_ordered_mid = record { 0 = get_or vs 4 0 % 4294967296 };
  buffered_amount = get_or vs 5 0;
  low_threshold = get_or vs 6 0;
  first = get_or vs 7 0;
  last = get_or vs 8 0;
}

-- its words
abbrev pub stream_words : OutgoingStream → List ℕ
stream_words s = s.priority ∷ pause_state_word s.pause_state ∷ s.next_ssn.0 ∷ s.next_unordered_mid.0 ∷ s.next_ordered_mid.0
    ∷ s.buffered_amount ∷ s.low_threshold ∷ s.first ∷ s.last ∷ []

-- what load and store do, word by word
abbrev pub stream_out : List ℕ → ℕ → OutgoingStream
stream_out ws i = stream_of (row ws (544 + i * 10) 9)

abbrev pub stream_row_in : List ℕ → ℕ → OutgoingStream → List ℕ
stream_row_in ws i s = put_row ws (544 + i * 10) (stream_words s)

-- the stream in row i
unfoldable pub stream_at_words : List ℕ → ℕ → OutgoingStream
stream_at_words ws i = stream_out ws i

-- the words with s in row i
unfoldable pub put_stream_words : List ℕ → ℕ → OutgoingStream → List ℕ
put_stream_words ws i s = stream_row_in ws i s

-- three words of row i: the amount and the ends of the chain
unfoldable pub put_chain : List ℕ → ℕ → ℕ → ℕ → ℕ → List ℕ
put_chain ws i amount first last = set (set (set ws (544 + i * 10 + 5) amount) (544 + i * 10 + 7) first) (544 + i * 10 + 8) last

-- a stream with other ones of these three
abbrev pub with_chain : OutgoingStream → ℕ → ℕ → ℕ → OutgoingStream
with_chain s amount first last = record {
  priority = s.priority;
  pause_state = s.pause_state;
  next_ssn = s.next_ssn;
  next_unordered_mid = s.next_unordered_mid;
  next_ordered_mid = s.next_ordered_mid;
  buffered_amount = amount;
  low_threshold = s.low_threshold;
  first = first;
  last = last;
}

-- a stream in another state
abbrev pub with_pause : OutgoingStream → PauseState → OutgoingStream
with_pause s state = record {
  priority = s.priority;
  pause_state = state;
  next_ssn = s.next_ssn;
  next_unordered_mid = s.next_unordered_mid;
  next_ordered_mid = s.next_ordered_mid;
  buffered_amount = s.buffered_amount;
  low_threshold = s.low_threshold;
  first = s.first;
  last = s.last;
}

-- every narrow field is a value of its type
pub record FitsStream (s : OutgoingStream) : Type 0 where
  pub priority_fits : s.priority < 65536
  pub ssn_fits : s.next_ssn.0 < 65536
  pub unordered_mid_fits : s.next_unordered_mid.0 < 4294967296
  pub ordered_mid_fits : s.next_ordered_mid.0 < 4294967296
