-- Commit where no stream begins to wait, on the words. It is `reopen true` (specs/Restart) there, which proofs/Commits shows. Assumes nothing.
use Rattle.std.specs.Prelude.{ℕ, zero, suc, ◌<◌, Bool, true, false, not, List, ltb, leb, eqb}
use Rattle.queue_words.specs.Flags.{pick}
use Rattle.queue_words.specs.Header.{scheduler_at}
use Rattle.queue_words.specs.Known.{known_at, known_count}
use Rattle.queue_words.specs.Streams.{is_resetting_words, stream_at_words, put_stream_words}
use Rattle.queue_words.specs.declared.streams.OutgoingStream.{OutgoingStream}
use Rattle.queue_streams.specs.Restart.{opened}

-- Whether commit does not let a stream wait: it has no message, or is not resetting.
abbrev pub quiet_stream : OutgoingStream → Bool
quiet_stream s = pick (eqb s.first 1024) true (not (is_resetting_words s.pause_state))

-- Whether m known streams from position i on have their places among the first n rows, and m rows from row i on are quiet.
unfoldable pub quiet_from : List ℕ → ℕ → ℕ → ℕ → Bool
quiet_from ws n i zero = true
quiet_from ws n i (suc m) = pick (leb n (known_at ws i).place) false (pick (quiet_stream (stream_at_words ws i)) (quiet_from ws n (suc i) m) false)

-- Where this is true, the places and the rows suffice and commit lets no stream wait; where it is false, it may.
unfoldable pub nothing_starts : List ℕ → Bool
nothing_starts ws = pick (ltb 256 (scheduler_at ws).active) false (pick (ltb 256 (known_count ws)) false (quiet_from ws (known_count ws) 0 (known_count ws)))

-- "For every resetting stream, commit sets the three counters to 0 and opens": the stream in this row.
unfoldable pub committed_at : List ℕ → ℕ → List ℕ
committed_at ws place = pick (ltb 255 place) ws (pick (is_resetting_words (stream_at_words ws place).pause_state) (put_stream_words ws place (opened true (stream_at_words ws place))) ws)

-- The first known streams, one after another.
unfoldable pub committed_all : List ℕ → ℕ → List ℕ
committed_all ws zero = ws
committed_all ws (suc i) = committed_at (committed_all ws i) (known_at (committed_all ws i) i).place

-- The place of each of the first n known streams is in its table, with the words as the walk has them there.
abbrev pub CommitPlaced : List ℕ → ℕ → Type 0
CommitPlaced ws n = (i : ℕ) → i < n → (known_at (committed_all ws i) i).place < 256
