-- The theorems on chunks, over the definitions that the calls' contracts cite. Assumes nothing.
use mathlib.Core.Path.{◌≡◌, sym, ap, ◌∙◌}
use mathlib.Core.Logic.{◌⊎◌, inl, inr}
use mathlib.Core.List.{List, ◌++◌}
use Prim.Native.Nat.{ℕ, ◌+◌, ◌≤◌, ◌<◌}
use native.Mathlib.Omega.{arith}
use borrow.Author.Tests.{lt-ltb, le-ltb}
use lib.Dec.{T}
use lib.Pow.{are_bytes}
use lib.ListN.{length, drop}
use Rattle.queue_sending.specs.declared.data.DataToSend.{DataToSend}
use Rattle.chunks.specs.declared.chunk.Chunk.{Chunk}
use Rattle.chunks.specs.declared.chunk.ChunkKind.{ChunkKind}
use Rattle.chunks.specs.ChunkRead.{Read, Refused}
use Rattle.chunks.specs.ChunkWritten as answer
use Rattle.queue_model.specs.Chunks.{padded}
use Rattle.chunks.specs.Layout.{header_size, chunk_bytes}
use Rattle.chunks.specs.Writing.{outcome, write_chunk}
use Rattle.chunks.specs.Reading.{read_chunk, payload_of}
use Rattle.chunks.specs.Promise.{InWidth, IsChunk, ReadsBack, canonical}
use Rattle.chunks.proofs.Sizes.{header_most}
use Rattle.chunks.proofs.WriteCases.{empty_outside, long_outside, inside}
use Rattle.chunks.proofs.Laid.{laid_long, read_laid, payload_laid, written_laid}
use Rattle.chunks.proofs.Canonical.{laid_canonical}
use Rattle.chunks.proofs.Back.{refused_read, chunk_or_19, laid_read}

-- ------------------------------------------------------------------ writing

-- "17 when a payload to write is empty or above 65,515 bytes", with all of the output as it was
pub refuses_17 : (out : List ℕ) (k : ChunkKind) (tsn : ℕ) (f : DataToSend) (p : List ℕ) → (length p ≡ 0) ⊎ (65515 < length p) → write_chunk out k tsn f p ≡ outcome (answer.Refused 17) out
unfolding write_chunk
refuses_17 out k tsn f p (inl e) = rw (empty_outside (length p) e)
refuses_17 out k tsn f p (inr h) = rw (long_outside (length p) h)

-- "18 when the output is shorter than the padded chunk", likewise
pub refuses_18 : (out : List ℕ) (k : ChunkKind) (tsn : ℕ) (f : DataToSend) (p : List ℕ) → 1 ≤ length p → length p ≤ 65515 → length out < padded (header_size k + length p)
    → write_chunk out k tsn f p ≡ outcome (answer.Refused 18) out
unfolding write_chunk
refuses_18 out k tsn f p s m h = rw (inside (length p) (λ z. omega arith) m, lt-ltb (length out) (padded (header_size k + length p)) h)

-- else it is written
pub writes : (out : List ℕ) (k : ChunkKind) (tsn : ℕ) (f : DataToSend) (p : List ℕ) → 1 ≤ length p → length p ≤ 65515 → padded (header_size k + length p) ≤ length out
    → write_chunk out k tsn f p ≡ outcome (answer.Bytes (padded (header_size k + length p))) (chunk_bytes k tsn f.«data» p ++ drop (padded (header_size k + length p)) out)
unfolding write_chunk
writes out k tsn f p s m h = rw (inside (length p) (λ z. omega arith) m, le-ltb (length out) (padded (header_size k + length p)) h)

-- "a written fragment returns the same but for those fields at 0"
pub reads_back : (k : ChunkKind) (tsn : ℕ) (f : DataToSend) (p : List ℕ) → InWidth tsn f.«data» → 1 ≤ length p → length p ≤ 65515 → ReadsBack (chunk_bytes k tsn f.«data» p) k tsn f p
reads_back k tsn f p w s m =
    let cs : List ℕ = chunk_bytes k tsn f.«data» p in
    let laid = written_laid k tsn f.«data» p w s (omega (arith, m, header_most k)) in
    record { chunk_read = read_laid cs k tsn f.«data» p laid; payload_read = payload_laid cs k tsn f.«data» p laid }

-- ------------------------------------------------------------------ reading

-- "19 when bytes read are not one such chunk with payload": a chunk is never refused,
pub chunk_is_read : (bs : List ℕ) → IsChunk bs → read_chunk bs ≡ Refused 19 → ⊥
chunk_is_read bs c h = refused_read (sym h ∙ read_laid bs c.kind c.tsn c.«data» c.payload c.laid)

-- and all else is
pub else_19 : (bs : List ℕ) → T (are_bytes bs) → (IsChunk bs → ⊥) → read_chunk bs ≡ Refused 19
else_19 bs ok none =
    chunk_or_19 bs (read_chunk bs ≡ Refused 19)
    (λ c e. absurd (none (record { kind = c.kind; tsn = c.tsn; «data» = c.fragment.«data»; payload = payload_of c bs; laid = laid_read bs c ok e })))
    (λ e. e)

-- What is read and written again is read as the same.
pub read_again : (bs : List ℕ) (c : Chunk) → T (are_bytes bs) → read_chunk bs ≡ Read c → read_chunk (chunk_bytes c.kind c.tsn c.fragment.«data» (payload_of c bs)) ≡ Read c
read_again bs c ok h =
    let l = laid_read bs c ok h in
    let w = written_laid c.kind c.tsn c.fragment.«data» (payload_of c bs) l.in_width l.some l.most in
    read_laid _ c.kind c.tsn c.fragment.«data» (payload_of c bs) w ∙ sym (read_laid bs c.kind c.tsn c.fragment.«data» (payload_of c bs) l) ∙ h

-- What is read and written again gives the same bytes but for "other flags and the reserved bits" and the padding's value.
pub rewritten : (bs : List ℕ) (c : Chunk) (out : List ℕ) → T (are_bytes bs) → read_chunk bs ≡ Read c → length (payload_of c bs) ≤ 65515 → length bs ≤ length out
    → write_chunk out c.kind c.tsn c.fragment (payload_of c bs) ≡ outcome (answer.Bytes (length bs)) (canonical c.kind bs (header_size c.kind + length (payload_of c bs)) ++ drop (length bs) out)
rewritten bs c out ok h m r =
    let p : List ℕ = payload_of c bs in
    let k : ChunkKind = c.kind in
    let l = laid_read bs c ok h in
    let n : padded (header_size k + length p) ≡ length bs = sym (laid_long bs k c.tsn c.fragment.«data» p l) in
    writes out k c.tsn c.fragment p l.some m (rw n r)
    ∙ ap (λ (j : ℕ). outcome (answer.Bytes j) (chunk_bytes k c.tsn c.fragment.«data» p ++ drop j out)) n
    ∙ ap (λ (x : List ℕ). outcome (answer.Bytes (length bs)) (x ++ drop (length bs) out)) (laid_canonical bs k c.tsn c.fragment.«data» p l)
