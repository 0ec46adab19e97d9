-- A message's rows, one after another: what is measured, handed out and left, for any words and any store. Assumes nothing.
use Rattle.std.specs.Prelude.{ℕ, zero, suc, ◌+◌, ◌-◌, Bool, true, false, List, ltb, leb}
use Rattle.queue_words.specs.Flags.{pick}
use Rattle.receiver_words.specs.Tables.{Header, word_at, put_word}
use Rattle.receiver_words.specs.Fragments.{fragment_at}
use Rattle.receiver_words.specs.Chains.{unlink_row, give_free}
use Rattle.receiver_words.specs.Index.{bucket_of, unindex_row}
use Rattle.receiver_words.specs.declared.fragments.Fragment.{Fragment}
use Rattle.receiver_store.specs.Words.{place_of, size_of}
use Rattle.receiver_store.specs.Packing.{misplaced}
use Rattle.receiver_store.specs.Reading.{read_payload}
use Rattle.receiver_store.specs.Dropping.{drop_payload}
use Rattle.receiver_messages.specs.Walks.{part_after}
use Rattle.receiver_fragments.specs.declared.freeing.Measure.{Measure}

abbrev pub measure : Bool → ℕ → Measure
measure ok left = record { ok = ok; left = left }

-- whether the rows of the message that begins with row i, at most n of them, are all there with their payloads in a store of len bytes, and how many of
-- the used bytes are left without them
unfoldable pub measured : ℕ → List ℕ → Bool → ℕ → ℕ → ℕ → Measure
measured zero ws b i len left = measure false left
measured (suc n) ws b i len left =
    pick (misplaced 0 len (place_of ws i) (size_of ws i)) (measure false left)
    (pick (ltb left (size_of ws i)) (measure false left)
    (pick (fragment_at ws i).last (measure true (left - size_of ws i))
    (pick (leb 4096 (part_after ws b i)) (measure false (left - size_of ws i))
    (measured n ws b (part_after ws b i) len (left - size_of ws i)))))

-- row i, with the fragment f, is found no more
unfoldable pub unindex_held : List ℕ → Bool → Fragment → ℕ → List ℕ
unindex_held ws b f i =
    let ws' = unindex_row ws 0 (bucket_of 0 f) i in
    pick b (unindex_row ws' 1 (bucket_of 1 f) i) ws'

-- and held no more: "fetches and frees"
unfoldable pub free_row : List ℕ → Bool → Fragment → ℕ → List ℕ
free_row ws b f i =
    let ws' = give_free (drop_payload (unlink_row (unindex_held ws b f i) i) i) i in
    put_word Header ws' 0 4 (word_at Header ws' 0 4 - 1)

-- the words and the lent buffer
pub record HandedOut : Type 0 where
  pub words : List ℕ
  pub buffer : List ℕ

abbrev pub handed_out_words : List ℕ → List ℕ → HandedOut
handed_out_words ws out = record { words = ws; buffer = out }

-- the payloads of a message's rows from row i on go to the buffer one after another, from `at` on, and the rows are free; at most n of them, and no
-- further past a row of more than 2,000,000 bytes
unfoldable pub hand_out : ℕ → List ℕ → List ℕ → List ℕ → Bool → ℕ → ℕ → HandedOut
hand_out zero ws st out b i at = handed_out_words ws out
hand_out (suc n) ws st out b i at =
    let ws' = free_row ws b (fragment_at ws i) i in
    let out' = read_payload ws st i out at in
    pick (fragment_at ws i).last (handed_out_words ws' out')
    (pick (leb 4096 (part_after ws b i)) (handed_out_words ws' out')
    (pick (ltb 2000000 (size_of ws i)) (handed_out_words ws' out')
    (hand_out n ws' st out' b (part_after ws b i) (at + size_of ws i))))
