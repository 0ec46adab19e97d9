-- The known streams: 256 rows of 2 words from word 32 on. Assumes nothing.
use Rattle.std.specs.Prelude.{ℕ, ◌+◌, ◌*◌, ◌%◌, ◌<◌, List, [], ◌∷◌, get_or}
use Rattle.queue_words.specs.Rows.{row, put_row}
use Rattle.queue_words.specs.Header.{totals_at}
use Rattle.queue_words.specs.declared.known.Known.{Known}

-- a known stream in two words
abbrev pub known_of : List ℕ → Known
known_of vs = record { id = record { 0 = get_or vs 0 0 % 65536 }; place = get_or vs 1 0 }

-- its words
abbrev pub known_words : Known → List ℕ
known_words k = k.id.0 ∷ k.place ∷ []

-- what load and store do, word by word
abbrev pub known_out : List ℕ → ℕ → Known
known_out ws i = known_of (row ws (32 + i * 2) 2)

abbrev pub known_in : List ℕ → ℕ → Known → List ℕ
known_in ws i k = put_row ws (32 + i * 2) (known_words k)

-- the known stream in row i
unfoldable pub known_at : List ℕ → ℕ → Known
known_at ws i = known_out ws i

-- the words with k in row i
unfoldable pub put_known : List ℕ → ℕ → Known → List ℕ
put_known ws i k = known_in ws i k

-- every narrow field is a value of its type
pub record FitsKnown (k : Known) : Type 0 where
  pub id_fits : k.id.0 < 65536

-- the id in row i
abbrev pub id_at : List ℕ → ℕ → ℕ
id_at ws i = (known_at ws i).id.0

-- how many streams the header says are known
abbrev pub known_count : List ℕ → ℕ
known_count ws = (totals_at ws).known

-- the first n rows stand in the order of their ids, no two alike
abbrev pub Rising : List ℕ → ℕ → Type 0
Rising ws n = (i j : ℕ) → i < j → j < n → id_at ws i < id_at ws j

-- so do the known streams
abbrev pub RisingKnown : List ℕ → Type 0
RisingKnown ws = Rising ws (known_count ws)
