-- The words that the store of the held fragments uses: each row's place and length, the used bytes, the end of the used part. Assumes nothing.
use Rattle.std.specs.Prelude.{ℕ, List, take, drop}
use Rattle.receiver_words.specs.Tables.{Header, Links, word_at}

-- where row i's payload lies, and how long it is
abbrev pub place_of : List ℕ → ℕ → ℕ
place_of ws i = word_at Links ws i 0

abbrev pub size_of : List ℕ → ℕ → ℕ
size_of ws i = word_at Links ws i 1

-- the used bytes, and the end of the used part
abbrev pub used_of : List ℕ → ℕ
used_of ws = word_at Header ws 0 5

abbrev pub end_of : List ℕ → ℕ
end_of ws = word_at Header ws 0 6

-- row i's payload
unfoldable pub payload_of : List ℕ → List ℕ → ℕ → List ℕ
payload_of ws st i = take (size_of ws i) (drop (place_of ws i) st)
