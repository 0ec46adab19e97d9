-- A new receiver (document 02, 7/13): what is answered and left, for any words and any store. Assumes nothing.
use Rattle.std.specs.Prelude.{ℕ, Bool, List, ltb, length}
use Rattle.queue_words.specs.Flags.{pick, bit}
use Rattle.receiver_words.specs.Tables.{Header, Ahead, Buckets, put_word}
use Rattle.receiver_words.specs.Chains.{free_to}
use Rattle.receiver_words.specs.Creation.{fill_to}
use Rattle.receiver_messages.specs.Keys.{previous}

-- the answer and the words
pub record Outcome : Type 0 where
  pub answer : ℕ
  pub words : List ℕ

abbrev pub created : ℕ → List ℕ → Outcome
created a ws = record { answer = a; words = ws }

-- nothing is ahead, no chain has a row, every row is free
unfoldable pub new_tables : List ℕ → List ℕ
new_tables ws = free_to (fill_to Buckets (fill_to Buckets (fill_to Buckets (fill_to Ahead ws 0 0 1024) 0 4096 4096) 1 4096 4096) 2 4096 4096) 4096

-- a word of the header
abbrev pub put : List ℕ → ℕ → ℕ → List ℕ
put ws k v = put_word Header ws 0 k v

-- "one kind fixed at creation [..] with a starting TSN": "at first the one before the starting TSN"
unfoldable pub new_header : List ℕ → Bool → ℕ → ℕ → List ℕ
new_header ws b len start =
    put (put (put (put (put (put (put (put (put (put (put (put ws 0 (bit b)) 1 len) 2 (previous start)) 3 0) 4 0) 5 0) 6 0) 7 0) 8 4096) 9 4096) 10 4096) 11 4096

-- "a lent store as in 01 (else 2)": of 1 to 2,000,000 bytes
unfoldable pub create : List ℕ → List ℕ → Bool → ℕ → Outcome
create ws st b start =
    pick (ltb (length st) 1) (created 2 ws)
    (pick (ltb 2000000 (length st)) (created 2 ws)
    (created 0 (new_header (new_tables ws) b (length st) start)))
