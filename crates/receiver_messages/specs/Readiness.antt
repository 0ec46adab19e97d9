-- Whole messages: those that wait for their turn, and those that are ready. What each function answers and leaves, for any words. Assumes nothing.
use Rattle.std.specs.Prelude.{ℕ, zero, suc, Bool, List, leb}
use Rattle.queue_words.specs.Flags.{pick}
use Rattle.receiver_words.specs.Tables.{Header, Links, word_at, put_word}
use Rattle.receiver_words.specs.Index.{bucket_of, find_row, unindex_row, index_last}
use Rattle.receiver_words.specs.Chains.{append_message}
use Rattle.receiver_words.specs.declared.fragments.Fragment.{Fragment}
use Rattle.receiver_messages.specs.Keys.{next_turn, number_key}

-- the words, and the number that is next in a stream
pub record Turned : Type 0 where
  pub words : List ℕ
  pub next : ℕ

abbrev pub turned : List ℕ → ℕ → Turned
turned ws n = record { words = ws; next = n }

-- the message whose first row is i, found under a key, waits no more and is the last that is ready
unfoldable pub take_message : List ℕ → Fragment → ℕ → List ℕ
take_message ws key i = append_message (unindex_row ws 2 (bucket_of 2 key) i) 10 i

-- "the number after it is then next, so one chunk may make several ready in turn": at most m of them
unfoldable pub promote : ℕ → List ℕ → Bool → ℕ → ℕ → Turned
promote zero ws b s n = turned ws n
promote (suc m) ws b s n =
    let i = find_row ws 2 (number_key b s n) in
    pick (leb 4096 i) (turned ws n) (promote m (take_message ws (number_key b s n) i) b s (next_turn b n))

-- "Unordered ones are ready when complete, ordered ones when also next in their stream": the message whose first row is i, with the fragment f
unfoldable pub queue_up : List ℕ → Bool → Fragment → ℕ → ℕ → Turned
queue_up ws b f i n = pick f.unordered (turned (append_message ws 10 i) n) (promote 4096 (index_last ws 2 (bucket_of 2 f) i) b f.stream.0 n)

-- the message that is ready first, whose first row is i, is ready no more
unfoldable pub leave_ready : List ℕ → ℕ → List ℕ
leave_ready ws i =
    let next = word_at Links ws i 7 in
    let ws' = put_word Header ws 0 10 next in
    pick (leb 4096 next) (put_word Header ws' 0 11 next) ws'
