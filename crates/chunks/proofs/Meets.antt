-- What the calls promise, from their definitions and the widths of their arguments; and that what was written comes back. Assumes nothing.
use mathlib.Core.Path.{◌≡◌, refl, sym, ap, ◌∙◌, subst}
use mathlib.Core.Bool.{Bool, true, false}
use mathlib.Core.Logic.{◌⊎◌, inl, inr}
use mathlib.Core.List.{List, ◌++◌}
use Prim.Native.Nat.{ℕ, ◌+◌, ◌≤◌}
use native.Mathlib.Omega.{arith}
use lib.Dec.{T, ltb}
use lib.Pow.{are_bytes}
use lib.ListN.{length, take, drop}
use lib.Seq.{take_at, drop_at}
use Rattle.std.specs.Prelude.{if◌then◌else◌}
use Rattle.queue_model.specs.Logic.{outside}
use Rattle.queue_model.specs.Chunks.{padded}
use Rattle.queue_sending.specs.declared.data.DataToSend.{DataToSend}
use Rattle.chunks.specs.declared.chunk.ChunkKind.{ChunkKind}
use Rattle.chunks.specs.ChunkRead.{ChunkRead}
use Rattle.chunks.specs.ChunkRead as read
use Rattle.chunks.specs.ChunkWritten.{ChunkWritten}
use Rattle.chunks.specs.ChunkWritten as answer
use Rattle.chunks.specs.Layout.{header_size, chunk_bytes}
use Rattle.chunks.specs.Writing.{Outcome, outcome, max_written, write_chunk}
use Rattle.chunks.specs.Reading.{chunk, read_chunk}
use Rattle.chunks.specs.Carried.{carried}
use Rattle.chunks.specs.Promise.{InWidth, IsChunk, ReadsBack, WriteMeets, ReadMeets}
use Rattle.chunks.proofs.WriteCases.{chunk_length}
use Rattle.chunks.proofs.Back.{chunk_or_19, laid_read}
use Rattle.chunks.proofs.Theorems.{writes, reads_back, chunk_is_read}

-- ------------------------------------------------------------------ writing

abbrev bytes_of : ChunkWritten → ℕ
bytes_of (answer.Bytes n) = n
bytes_of (answer.Refused n) = 0

abbrev number_of : ChunkWritten → ℕ
number_of (answer.Bytes n) = 0
number_of (answer.Refused n) = n

abbrev is_refusal : ChunkWritten → ℕ
is_refusal (answer.Bytes n) = 0
is_refusal (answer.Refused n) = 1

-- a refusal
pub refused_meets : (out : List ℕ) (k : ChunkKind) (tsn : ℕ) (f : DataToSend) (p : List ℕ) (r : ℕ) → outcome (answer.Refused r) out ≡ write_chunk out k tsn f p → WriteMeets out k tsn f p (answer.Refused r) out
refused_meets out k tsn f p r e = record { is = e; returns = λ n h. absurd (let z : ◌≡◌ {A = ℕ} 1 0 = ap is_refusal h in omega (arith, z)) }

-- what is written, in the output's two parts
module _ (out : List ℕ) (k : ChunkKind) (tsn : ℕ) (f : DataToSend) (p out' : List ℕ) (n : ℕ) (s : 1 ≤ length p) (m : length p ≤ 65515) (room : padded (header_size k + length p) ≤ length out) (e : outcome (answer.Bytes n) out' ≡ write_chunk out k tsn f p) where
  abbrev end : ℕ
  end = padded (header_size k + length p)

  abbrev cs : List ℕ
  cs = chunk_bytes k tsn f.«data» p

  whole : outcome (answer.Bytes n) out' ≡ outcome (answer.Bytes end) (cs ++ drop end out)
  whole = e ∙ writes out k tsn f p s m room

  as_long : n ≡ end
  as_long = ap (λ (o : Outcome). bytes_of o.answer) whole

  written_part : take n out' ≡ cs
  written_part = ap (λ (o : Outcome). take n o.output) whole ∙ ap (λ (j : ℕ). take j (cs ++ drop end out)) as_long ∙ take_at cs (drop end out) end (chunk_length k tsn f.«data» p)

  pub written_meets : InWidth tsn f.«data» → WriteMeets out k tsn f p (answer.Bytes n) out'
  written_meets w = record {
    is = e;
    returns = λ j h.
        let q : take j out' ≡ cs = ap (λ (i : ℕ). take i out') (sym (ap bytes_of h)) ∙ written_part in
        subst (λ (bs : List ℕ). ReadsBack bs k tsn f p) (sym q) (reads_back k tsn f p w s m);
  }

  -- "lent output past what is written stays unchanged"
  pub past_stays : drop n out' ≡ drop n out
  past_stays =
      ap (λ (o : Outcome). drop n o.output) whole
      ∙ ap (λ (j : ℕ). drop j (cs ++ drop end out)) as_long
      ∙ drop_at cs (drop end out) end (chunk_length k tsn f.«data» p)
      ∙ ap (λ (j : ℕ). drop j out) (sym as_long)

-- "17 .., 18 ..": no other number, and nothing is written then
pub refusals : (out : List ℕ) (k : ChunkKind) (tsn : ℕ) (f : DataToSend) (p : List ℕ) (n : ℕ) (out' : List ℕ) → outcome (answer.Refused n) out' ≡ write_chunk out k tsn f p → ((n ≡ 17) ⊎ (n ≡ 18)) × (out' ≡ out)
unfolding write_chunk
refusals out k tsn f p n out' e = go (outside 1 max_written (length p)) (ltb (length out) (padded (header_size k + length p))) e
  where
    go : (t u : Bool)
        → outcome (answer.Refused n) out'
        ≡ (if t then outcome (answer.Refused 17) out else (if u then outcome (answer.Refused 18) out else outcome (answer.Bytes (padded (header_size k + length p))) (chunk_bytes k tsn f.«data» p ++ drop (padded (header_size k + length p)) out)))
        → ((n ≡ 17) ⊎ (n ≡ 18)) × (out' ≡ out)
    go true u q = (inl (ap (λ (o : Outcome). number_of o.answer) q), ap (λ (o : Outcome). o.output) q)
    go false true q = (inr (ap (λ (o : Outcome). number_of o.answer) q), ap (λ (o : Outcome). o.output) q)
    go false false q = absurd (let z : ◌≡◌ {A = ℕ} 1 0 = ap (λ (o : Outcome). is_refusal o.answer) q in omega (arith, z))

-- ------------------------------------------------------------------ reading

abbrev refusal : ChunkRead → ℕ
refusal (read.Read c) = 0
refusal (read.Refused n) = n

abbrev is_refused : ChunkRead → ℕ
is_refused (read.Read c) = 0
is_refused (read.Refused n) = 1

pub read_meets : (bs : List ℕ) (r : ChunkRead) → T (are_bytes bs) → r ≡ read_chunk bs → ReadMeets bs r
read_meets bs r ok e = record {
  is = e;
  laid = λ c h. laid_read bs c ok (sym e ∙ h);
  none = λ n h.
      chunk_or_19 bs ((n ≡ 19) × (IsChunk bs → ⊥))
      (λ c g. absurd (let z : ◌≡◌ {A = ℕ} 1 0 = ap is_refused (sym h ∙ e ∙ g) in omega (arith, z)))
      (λ g. (ap refusal (sym h ∙ e ∙ g), λ i. chunk_is_read bs i g));
}

-- ------------------------------------------------------------------ both

-- THE ROUND TRIP, on what the two calls answer: bytes that the writer says it wrote, given to the reader, are answered with the TSN and the fragment,
-- the fields that
-- the chunk does not carry at 0.
pub comes_back : (out : List ℕ) (k : ChunkKind) (tsn : ℕ) (f : DataToSend) (p out' : List ℕ) (n : ℕ) (r : ChunkRead) → WriteMeets out k tsn f p (answer.Bytes n) out' → ReadMeets (take n out') r
    → r ≡ read.Read (chunk k tsn (carried k f (length p)))
comes_back out k tsn f p out' n r w d = d.is ∙ (w.returns n refl).chunk_read
