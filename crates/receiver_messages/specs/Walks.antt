-- From one fragment of a message to the next, and back: what each function answers and leaves, for any words. Assumes nothing.
use Rattle.std.specs.Prelude.{ℕ, zero, suc, Bool, true, false, List, [], leb, eqb}
use Rattle.queue_words.specs.Flags.{pick, bit}
use Rattle.receiver_model.specs.Assembly as model
use Rattle.receiver_words.specs.Tables.{Links, word_at, put_word}
use Rattle.receiver_words.specs.Fragments.{fragment_at}
use Rattle.receiver_words.specs.Index.{find_row}
use Rattle.receiver_words.specs.Chunks.{kind_of, chunk_of}
use Rattle.receiver_words.specs.declared.fragments.Fragment.{Fragment}
use Rattle.receiver_messages.specs.Keys.{following, preceding}

-- the model's tests on fragments
abbrev pub begins_with : Bool → Fragment → Bool
begins_with b f = model.begins (kind_of b) (chunk_of (kind_of b) f [])

abbrev pub goes_on_words : Bool → Fragment → Fragment → Bool
goes_on_words b f g = model.goes_on (kind_of b) (chunk_of (kind_of b) f []) (chunk_of (kind_of b) g [])

-- row i is in a whole message
abbrev pub is_whole : List ℕ → ℕ → Bool
is_whole ws i = eqb (word_at Links ws i 2) 1

-- the row of the next fragment of a whole message: by TSN for DATA, by place for I-DATA; 4096 for none
unfoldable pub part_after : List ℕ → Bool → ℕ → ℕ
part_after ws b i = find_row ws (bit b) (following (fragment_at ws i))

-- the row whose fragment goes on row i's message, of those in no whole one; 4096 for none
unfoldable pub row_after : List ℕ → Bool → ℕ → ℕ
row_after ws b i =
    let j = find_row ws (bit b) (following (fragment_at ws i)) in
    pick (leb 4096 j) 4096 (pick (is_whole ws j) 4096 (pick (goes_on_words b (fragment_at ws i) (fragment_at ws j)) j 4096))

-- the row whose fragment row i's goes on, which is not marked last
unfoldable pub row_before_words : List ℕ → Bool → ℕ → ℕ
row_before_words ws b i =
    let j = find_row ws (bit b) (preceding (fragment_at ws i)) in
    pick (leb 4096 j) 4096
    (pick (is_whole ws j) 4096
    (pick (fragment_at ws j).last 4096
    (pick (goes_on_words b (fragment_at ws j) (fragment_at ws i)) j 4096)))

-- whether the fragments from row i on, at most n of them, go on up to one marked last
unfoldable pub reaches_last : ℕ → List ℕ → Bool → ℕ → Bool
reaches_last zero ws b i = false
reaches_last (suc n) ws b i = pick (fragment_at ws i).last true (pick (leb 4096 (row_after ws b i)) false (reaches_last n ws b (row_after ws b i)))

-- the row that row i's message begins with, at most n rows back; 4096 where one is missing
unfoldable pub first_row : ℕ → List ℕ → Bool → ℕ → ℕ
first_row zero ws b i = 4096
first_row (suc n) ws b i = pick (begins_with b (fragment_at ws i)) i (pick (leb 4096 (row_before_words ws b i)) 4096 (first_row n ws b (row_before_words ws b i)))

-- the fragment after row i's in its message, or the one before it, is missing: then row i makes none whole
unfoldable pub missing_after : List ℕ → Bool → ℕ → Bool
missing_after ws b i = pick (fragment_at ws i).last false (leb 4096 (row_after ws b i))

unfoldable pub missing_before : List ℕ → Bool → ℕ → Bool
missing_before ws b i = pick (begins_with b (fragment_at ws i)) false (leb 4096 (row_before_words ws b i))

-- the first row of the message that row i makes whole; 4096 for none
unfoldable pub completes : List ℕ → Bool → ℕ → ℕ
completes ws b i = pick (reaches_last 4096 ws b i) (first_row 4096 ws b i) 4096

-- row i is in a whole message
abbrev pub marked : List ℕ → ℕ → List ℕ
marked ws i = put_word Links ws i 2 1

-- so are the rows after it, up to the one marked last, at most n of them
unfoldable pub mark_whole : ℕ → List ℕ → Bool → ℕ → List ℕ
mark_whole zero ws b i = ws
mark_whole (suc n) ws b i =
    pick (fragment_at (marked ws i) i).last (marked ws i)
    (pick (leb 4096 (part_after (marked ws i) b i)) (marked ws i) (mark_whole n (marked ws i) b (part_after (marked ws i) b i)))
