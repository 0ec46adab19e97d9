-- What is read was laid out so: a chunk read says all of its bytes but the ignored flags, the reserved bits and the padding's value. Assumes nothing.
use mathlib.Core.Path.{◌≡◌, refl, sym, ap, ◌∙◌, subst}
use mathlib.Core.Bool.{Bool, true, false}
use mathlib.Core.List.{List, ◌++◌}
use Prim.Native.Nat.{ℕ, ◌+◌, ◌-◌, ◌%◌, ◌≤◌, ◌<◌}
use native.Mathlib.Omega.{arith}
use borrow.Author.Tests.{ltb-true, eqb-true}
use lib.Dec.{T, ltb, eqb}
use lib.Pow.{are_bytes}
use lib.ListN.{length, take, drop, length-drop, take-append-drop}
use lib.Seq.{length-take-le}
use Rattle.std.specs.Prelude.{if◌then◌else◌}
use Rattle.queue_model.specs.Bytes.{row_bytes, bytes_row, width, Fits}
use Rattle.queue_model.proofs.Image.ByteRows.{row_written_read, row_fits}
use Rattle.queue_sending.specs.declared.data.Data.{Data}
use Rattle.big_endian.specs.Numbers.{number_at}
use Rattle.big_endian.proofs.Rows.{numbers_at, row_at_lem}
use Rattle.chunks.specs.declared.chunk.Chunk.{Chunk}
use Rattle.chunks.specs.declared.chunk.ChunkKind.{ChunkKind}
use Rattle.chunks.specs.declared.chunk.ChunkKind.TheVariants as kind
use Rattle.chunks.specs.ChunkRead.{ChunkRead}
use Rattle.chunks.specs.ChunkRead.{Read, Refused}
use Rattle.queue_model.specs.Chunks.{padding, padded, chunk_layout}
use Rattle.chunks.specs.Layout.{header_size, header_widths, header_row, flags_of}
use Rattle.chunks.specs.Reading.{is_set, chunk_at, read_as, read_typed, read_chunk, payload_of}
use Rattle.chunks.specs.Promise.{InWidth, LaidOut}
use Rattle.chunks.proofs.Sizes.{header_width}
use Rattle.chunks.proofs.Marks.{marks_are, id_of, unordered_of, pick_less}

-- ------------------------------------------------------------------ the tests that were passed

abbrev refusal : ChunkRead → ℕ
refusal (Read c) = 0
refusal (Refused n) = n

abbrev content : Chunk → ChunkRead → Chunk
content d (Read c) = c
content d (Refused n) = d

pub refused_read : {c : Chunk} → Refused 19 ≡ Read c → ⊥
refused_read e = let z : ◌≡◌ {A = ℕ} 19 0 = ap refusal e in omega (arith, z)

abbrev type_of : ChunkKind → ℕ
type_of kind.Data = 0
type_of kind.IData = 64

-- how a chunk was read
record Passed (bs : List ℕ) (c : Chunk) : Type 0 where
  kind : ChunkKind
  long : padded (number_at bs 2 2) ≡ length bs
  type : number_at bs 0 1 ≡ type_of kind
  more : header_size kind < number_at bs 2 2
  is : chunk_at kind bs (number_at bs 2 2) ≡ c

as_read : (k : ChunkKind) (bs : List ℕ) (len : ℕ) (c : Chunk) → read_as k bs len ≡ Read c → (header_size k < len) × (chunk_at k bs len ≡ c)
as_read k bs len c h = go (ltb (header_size k) len) refl h
  where
    go : (t : Bool) → ltb (header_size k) len ≡ t → if◌then◌else◌ t (Read (chunk_at k bs len)) (Refused 19) ≡ Read c → (header_size k < len) × (chunk_at k bs len ≡ c)
    go true e q = (ltb-true (header_size k) len e, ap (content c) q)
    go false e q = absurd (refused_read q)

typed_read : (bs : List ℕ) (c : Chunk) → padded (number_at bs 2 2) ≡ length bs → read_typed (number_at bs 0 1) bs (number_at bs 2 2) ≡ Read c → Passed bs c
typed_read bs c l h = go (eqb (number_at bs 0 1) 0) refl (eqb (number_at bs 0 1) 64) refl h
  where
    from : (k : ChunkKind) → number_at bs 0 1 ≡ type_of k → read_as k bs (number_at bs 2 2) ≡ Read c → Passed bs c
    from k t q = let r = as_read k bs (number_at bs 2 2) c q in record { kind = k; long = l; type = t; more = r.0; is = r.1 }

    go : (t : Bool) → eqb (number_at bs 0 1) 0 ≡ t → (u : Bool) → eqb (number_at bs 0 1) 64 ≡ u
        → if◌then◌else◌ t (read_as kind.Data bs (number_at bs 2 2)) (if◌then◌else◌ u (read_as kind.IData bs (number_at bs 2 2)) (Refused 19)) ≡ Read c → Passed bs c
    go true e u f q = from kind.Data (eqb-true (number_at bs 0 1) 0 e) q
    go false e true f q = from kind.IData (eqb-true (number_at bs 0 1) 64 f) q
    go false e false f q = absurd (refused_read q)

passed : (bs : List ℕ) (c : Chunk) → read_chunk bs ≡ Read c → Passed bs c
unfolding read_chunk
passed bs c h = go (eqb (padded (number_at bs 2 2)) (length bs)) refl h
  where
    go : (t : Bool) → eqb (padded (number_at bs 2 2)) (length bs) ≡ t → if◌then◌else◌ t (read_typed (number_at bs 0 1) bs (number_at bs 2 2)) (Refused 19) ≡ Read c → Passed bs c
    go true e q = typed_read bs c (eqb-true (padded (number_at bs 2 2)) (length bs) e) q
    go false e q = absurd (refused_read q)

-- an answer is a chunk or 19
abbrev Either : ChunkRead → Type 1
Either r = (G : Type 0) → ((c : Chunk) → r ≡ Read c → G) → (r ≡ Refused 19 → G) → G

either_pick : (t : Bool) (a b : ChunkRead) → Either a → Either b → Either (if◌then◌else◌ t a b)
either_pick true a b f g = f
either_pick false a b f g = g

either_19 : Either (Refused 19)
either_19 G f g = g refl

either_as : (k : ChunkKind) (bs : List ℕ) (len : ℕ) → Either (read_as k bs len)
either_as k bs len = either_pick (ltb (header_size k) len) _ _ (λ G f g. f (chunk_at k bs len) refl) either_19

pub chunk_or_19 : (bs : List ℕ) → Either (read_chunk bs)
unfolding read_chunk
chunk_or_19 bs =
    either_pick (eqb (padded (number_at bs 2 2)) (length bs)) _ _
    (either_pick (eqb (number_at bs 0 1) 0) _ _ (either_as kind.Data bs (number_at bs 2 2))
    (either_pick (eqb (number_at bs 0 1) 64) _ _ (either_as kind.IData bs (number_at bs 2 2)) either_19))
    either_19

-- ------------------------------------------------------------------ its bytes

picked : (t : Bool) (w : ℕ) → if◌then◌else◌ t (if◌then◌else◌ t w 0) (if◌then◌else◌ t 0 w) ≡ w
picked true w = refl
picked false w = refl

module _ (bs : List ℕ) where
  abbrev len : ℕ
  len = number_at bs 2 2

  abbrev data_at : ChunkKind → Data
  data_at k = (chunk_at k bs len).fragment.«data»

  -- the header's numbers are those that were read
  row_again : (k : ChunkKind) → number_at bs 0 1 ≡ type_of k → header_row k (number_at bs 1 1) (number_at bs 10 2) (chunk_at k bs len).tsn (data_at k) len ≡ bytes_row (header_widths k) bs
  unfolding chunk_at
  row_again kind.Data t = rw (row_at_lem bs 0 (header_widths kind.Data), t, id_of)
  row_again kind.IData t = rw (row_at_lem bs 0 (header_widths kind.IData), t, id_of, picked)

  in_width : (k : ChunkKind) → Fits (header_widths k) (bytes_row (header_widths k) bs) → InWidth (chunk_at k bs len).tsn (data_at k)
  unfolding chunk_at
  in_width kind.Data w =
      let v : Fits (header_widths kind.Data) (numbers_at bs 0 0 (header_widths kind.Data)) = rw (row_at_lem bs 0 (header_widths kind.Data)) at w in
      record { tsn_fits = v.1.1.1.0; id_fits = rw id_of v.1.1.1.1.0; ssn_fits = v.1.1.1.1.1.0; mid_fits = omega arith; fsn_fits = omega arith; ppid_fits = v.1.1.1.1.1.1.0 }
  in_width kind.IData w =
      let v : Fits (header_widths kind.IData) (numbers_at bs 0 0 (header_widths kind.IData)) = rw (row_at_lem bs 0 (header_widths kind.IData)) at w in
      record {
        tsn_fits = v.1.1.1.0;
        id_fits = rw id_of v.1.1.1.1.0;
        ssn_fits = omega arith;
        mid_fits = v.1.1.1.1.1.1.0;
        fsn_fits = pick_less (is_set (number_at bs 1 1) 2) 0 (number_at bs 16 4) 4294967296 (omega arith) v.1.1.1.1.1.1.1.0;
        ppid_fits = pick_less (is_set (number_at bs 1 1) 2) (number_at bs 16 4) 0 4294967296 v.1.1.1.1.1.1.1.0 (omega arith);
      }

  flags_fits : (k : ChunkKind) → Fits (header_widths k) (numbers_at bs 0 0 (header_widths k)) → (number_at bs 1 1 < 256) × (number_at bs 2 2 < 65536) × (number_at bs 10 2 < 65536)
  flags_fits kind.Data v = (v.1.0, v.1.1.0, v.1.1.1.1.1.0)
  flags_fits kind.IData v = (v.1.0, v.1.1.0, v.1.1.1.1.1.0)

  marks_again : (k : ChunkKind) → number_at bs 1 1 % 8 ≡ flags_of (data_at k)
  unfolding chunk_at
  marks_again kind.Data = rw unordered_of (marks_are (number_at bs 1 1))
  marks_again kind.IData = rw unordered_of (marks_are (number_at bs 1 1))

  -- bytes that passed the tests for a kind
  laid_as : (k : ChunkKind) → T (are_bytes bs) → padded len ≡ length bs → number_at bs 0 1 ≡ type_of k → header_size k < len
      → LaidOut bs k (chunk_at k bs len).tsn (data_at k) (take (len - header_size k) (drop (header_size k) bs))
  unfolding chunk_layout
  laid_as k ok long type more =
      let hs : ℕ = header_size k in
      let p : List ℕ = take (len - hs) (drop hs bs) in
      let pad : List ℕ = drop (len - hs) (drop hs bs) in
      let ld : length (drop hs bs) ≡ length bs - hs = length-drop hs bs in
      let lp : length p ≡ len - hs = length-take-le (len - hs) (drop hs bs) (omega (arith, ld, long)) in
      let whole : hs + length p ≡ len = omega (arith, lp, more) in
      let room : width (header_widths k) ≤ length bs = omega (arith, header_width k, long, more) in
      let w : Fits (header_widths k) (bytes_row (header_widths k) bs) = row_fits (header_widths k) bs ok room in
      let fs = flags_fits k (rw (row_at_lem bs 0 (header_widths k)) at w) in
      let front : row_bytes (header_widths k) (header_row k (number_at bs 1 1) (number_at bs 10 2) (chunk_at k bs len).tsn (data_at k) (hs + length p)) ≡ take hs bs =
      ap (λ (j : ℕ). row_bytes (header_widths k) (header_row k (number_at bs 1 1) (number_at bs 10 2) (chunk_at k bs len).tsn (data_at k) j)) whole
      ∙ ap (row_bytes (header_widths k)) (row_again k type)
      ∙ row_written_read (header_widths k) bs ok room
      ∙ ap (λ (j : ℕ). take j bs) (header_width k) in
      record {
        flags = number_at bs 1 1;
        reserved = number_at bs 10 2;
        pad = pad;
        in_width = in_width k w;
        flags_fit = fs.0;
        marks = marks_again k;
        reserved_fit = fs.2;
        some = omega (arith, lp, more);
        most = omega (arith, whole, fs.1);
        pad_length = length-drop (len - hs) (drop hs bs) ∙ omega (arith, ld, long, more, ap padding whole);
        bytes = sym (ap (λ (l : List ℕ). l ++ (p ++ pad)) front ∙ ap (λ (l : List ℕ). take hs bs ++ l) (take-append-drop (len - hs) (drop hs bs)) ∙ take-append-drop hs bs);
      }

  laid_at : (k : ChunkKind) → T (are_bytes bs) → padded len ≡ length bs → number_at bs 0 1 ≡ type_of k → header_size k < len
      → LaidOut bs (chunk_at k bs len).kind (chunk_at k bs len).tsn (data_at k) (payload_of (chunk_at k bs len) bs)
  unfolding chunk_at
  laid_at kind.Data ok long type more = laid_as kind.Data ok long type more
  laid_at kind.IData ok long type more = laid_as kind.IData ok long type more

-- THE BYTES: what is read as a chunk is laid out as that chunk
pub laid_read : (bs : List ℕ) (c : Chunk) → T (are_bytes bs) → read_chunk bs ≡ Read c → LaidOut bs c.kind c.tsn c.fragment.«data» (payload_of c bs)
laid_read bs c ok h =
    let q = passed bs c h in
    subst (λ (x : Chunk). LaidOut bs x.kind x.tsn x.fragment.«data» (payload_of x bs)) q.is (laid_at bs q.kind ok q.long q.type q.more)
