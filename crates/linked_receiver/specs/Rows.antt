-- The held rows of a receiver, as the indexes find them and as the model's fragments. Assumes nothing.
use Rattle.std.specs.Prelude.{◌≡◌, ℕ, zero, suc, ◌+◌, ◌<◌, Bool, true, not, List, [], ◌∷◌, eqb, leb}
use Rattle.queue_words.specs.Flags.{pick}
use Rattle.receiver_model.specs.Lists.{count, keep}
use Rattle.receiver_model.specs.Types.{Chunk}
use Rattle.receiver_words.specs.Tables.{Buckets, Links, word_at}
use Rattle.receiver_words.specs.Fragments.{fragment_at}
use Rattle.receiver_words.specs.Index.{bucket_of, same_key_words}
use Rattle.receiver_words.specs.Link.{Linked}
use Rattle.receiver_words.specs.declared.fragments.Fragment.{Fragment}
use Rattle.receiver_words.specs.Chunks.{kind_of, chunk_of}
use Rattle.receiver_messages.specs.Walks.{is_whole, row_after}

-- row x belongs into chain b of index k
abbrev pub hits : List ℕ → ℕ → ℕ → ℕ → Bool
hits ws k b x = eqb (bucket_of k (fragment_at ws x)) b

-- the rows xs are those of index k: each chain has those of its bucket, in the order of xs
abbrev pub Indexed : List ℕ → ℕ → List ℕ → Type 0
Indexed ws k xs = (b : ℕ) → b < 4096 → Linked (λ (x : ℕ). word_at Links ws x (5 + k)) (word_at Buckets ws b k) (keep (hits ws k b) xs)

-- of the rows xs at most one has a key: a TSN, or an I-DATA fragment's place, is held once
abbrev pub Unique : List ℕ → ℕ → List ℕ → Type 0
Unique ws k xs = (f : Fragment) (x y : ℕ) → 0 < count x xs → 0 < count y xs → same_key_words k (fragment_at ws x) f ≡ true → same_key_words k (fragment_at ws y) f ≡ true → x ≡ y

-- row x as the model's fragment, with the payload that a function gives it
abbrev pub chunk_at : List ℕ → Bool → (ℕ → List ℕ) → ℕ → Chunk
chunk_at ws b payload x = chunk_of (kind_of b) (fragment_at ws x) (payload x)

-- of the held rows xs those in no whole message: the model's loose fragments
abbrev pub loose_rows : List ℕ → List ℕ → List ℕ
loose_rows ws xs = keep (λ (x : ℕ). not (is_whole ws x)) xs

-- the rows after row i that go on its message, at most n of them, up to one marked last
unfoldable pub tail_rows : ℕ → List ℕ → Bool → ℕ → List ℕ
tail_rows zero ws b i = []
tail_rows (suc n) ws b i = pick (fragment_at ws i).last [] (pick (leb 4096 (row_after ws b i)) [] (row_after ws b i ∷ tail_rows n ws b (row_after ws b i)))
