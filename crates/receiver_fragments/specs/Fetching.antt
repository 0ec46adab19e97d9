-- Fetching a message (document 02, 7/13): what is answered and left, for any words, any store and any buffer. Assumes nothing.
use Rattle.std.specs.Prelude.{ℕ, ◌-◌, List, eqb, ltb, leb, length}
use Rattle.queue_words.specs.Flags.{pick}
use Rattle.receiver_words.specs.Tables.{Header, word_at}
use Rattle.receiver_words.specs.Fragments.{fragment_at}
use Rattle.receiver_messages.specs.Keys.{interleaved_of}
use Rattle.receiver_messages.specs.Readiness.{leave_ready}
use Rattle.receiver_fragments.specs.declared.freeing.Measure.{Measure}
use Rattle.receiver_fragments.specs.declared.answers.Delivery.{Delivery}
use Rattle.receiver_fragments.specs.Fetched.{Fetched}
use Rattle.receiver_fragments.specs.Fetched as answer
use Rattle.receiver_fragments.specs.Freeing.{measured, hand_out}

-- the answer, the words and the lent buffer; the store is only read
pub record Outcome : Type 0 where
  pub answer : Fetched
  pub words : List ℕ
  pub buffer : List ℕ

abbrev pub fetched : Fetched → List ℕ → List ℕ → Outcome
fetched a ws out = record { answer = a; words = ws; buffer = out }

-- "stream, order mark, first fragment's protocol id, payload": of the message that begins with row i
unfoldable pub delivery : List ℕ → ℕ → ℕ → Delivery
delivery ws i n = record { stream = record { 0 = (fragment_at ws i).stream.0 }; unordered = (fragment_at ws i).unordered; ppid = (fragment_at ws i).ppid; length = n }

-- "fetches and frees"
unfoldable pub take_out : List ℕ → List ℕ → List ℕ → ℕ → ℕ → Outcome
take_out ws st out i n =
    let h = hand_out 4096 (leave_ready ws i) st out (interleaved_of ws) i 0 in
    fetched (answer.Message (delivery ws i n)) h.words h.buffer

-- the used bytes without those left
abbrev pub size_by : List ℕ → Measure → ℕ
size_by ws m = word_at Header ws 0 5 - m.left

-- 16 where the message is not all there, "10 when its buffer is shorter"
unfoldable pub fetch_first : List ℕ → List ℕ → List ℕ → ℕ → Outcome
fetch_first ws st out i =
    let m = measured 4096 ws (interleaved_of ws) i (length st) (word_at Header ws 0 5) in
    pick m.ok
    (pick (ltb (length out) (size_by ws m)) (fetched (answer.Refused 10) ws out)
    (take_out ws st out i (size_by ws m)))
    (fetched (answer.Refused 16) ws out)

-- 2, "or says that none is", 10
unfoldable pub fetch : List ℕ → List ℕ → List ℕ → Outcome
fetch ws st out =
    pick (eqb (length st) (word_at Header ws 0 1))
    (pick (leb 4096 (word_at Header ws 0 10)) (fetched answer.NoneReady ws out) (fetch_first ws st out (word_at Header ws 0 10)))
    (fetched (answer.Refused 2) ws out)
