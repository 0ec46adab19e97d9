-- Bytes that are laid out as a chunk are read as what it carries. Assumes nothing.
use mathlib.Core.Path.{◌≡◌, refl, sym, ap, ◌∙◌}
use mathlib.Core.Bool.{Bool, true, false}
use mathlib.Core.List.{List, ◌++◌}
use Prim.Native.Nat.{ℕ, ◌+◌, ◌-◌, ◌%◌, ◌≤◌, ◌<◌}
use native.Mathlib.Nat.{mod-eq_of_lt}
use native.Mathlib.Omega.{arith}
use lib.ListN.{length, get_or, take, drop, replicate, length-replicate}
use lib.Seq.{take_at, drop_at}
use Rattle.types.specs.Keys.{key_unordered}
use Rattle.std.specs.Prelude.{if◌then◌else◌}
use Rattle.queue_model.specs.Bytes.{row_bytes, bytes_row, Fits}
use Rattle.queue_model.proofs.Image.ByteRows.{row_read_written}
use Rattle.queue_sending.specs.declared.data.Data.{Data}
use Rattle.big_endian.specs.Numbers.{number_at}
use Rattle.big_endian.proofs.Rows.{numbers_at, row_at_lem}
use Rattle.chunks.specs.declared.chunk.Chunk.{Chunk}
use Rattle.chunks.specs.declared.chunk.ChunkKind.{ChunkKind}
use Rattle.chunks.specs.declared.chunk.ChunkKind.TheVariants as kind
use Rattle.chunks.specs.ChunkRead.{Read}
use Rattle.queue_model.specs.Chunks.{padding, padded, chunk_layout, model_chunk_bytes}
use Rattle.chunks.specs.Layout.{header_size, header_widths, header_row, flags_of, chunk_bytes}
use Rattle.chunks.specs.Reading.{is_set, fragment_of, chunk, chunk_at, read_chunk, payload_of}
use Rattle.chunks.specs.Carried.{carried_data, only_data}
use Rattle.chunks.specs.Promise.{InWidth, LaidOut}
use Rattle.chunks.proofs.Marks.{marked, key_whole, pick_less}
use Rattle.chunks.proofs.WriteCases.{header_length, layout_length}
use Rattle.chunks.proofs.ReadCases.{data_read, i_data_read}

-- the numbers of a header fit their widths
row_in_width : (k : ChunkKind) (flags reserved tsn : ℕ) (d : Data) (len : ℕ) → InWidth tsn d → flags < 256 → reserved < 65536 → len ≤ 65535 → Fits (header_widths k) (header_row k flags reserved tsn d len)
row_in_width kind.Data flags reserved tsn d len w f r l = (omega arith, (f, (omega arith, (w.tsn_fits, (w.id_fits, (w.ssn_fits, (w.ppid_fits, tt)))))))
row_in_width kind.IData flags reserved tsn d len w f r l = (omega arith, (f, (omega arith, (w.tsn_fits, (w.id_fits, (r, (w.mid_fits, (pick_less d.is_beginning d.ppid d.fsn.0 4294967296 w.ppid_fits w.fsn_fits, tt))))))))

-- what the numbers of a header say
abbrev chunk_of : ChunkKind → List ℕ → ℕ → Chunk
chunk_of kind.Data r len = chunk kind.Data (get_or r 3 0) (fragment_of (get_or r 1 0) (get_or r 4 0) (get_or r 5 0) 0 0 (get_or r 6 0) (len - 16))
chunk_of kind.IData r len =
    chunk kind.IData (get_or r 3 0)
    (fragment_of (get_or r 1 0) (get_or r 4 0) 0 (get_or r 6 0) (if◌then◌else◌ (is_set (get_or r 1 0) 2) 0 (get_or r 7 0)) (if◌then◌else◌ (is_set (get_or r 1 0) 2) (get_or r 7 0) 0) (len - 20))

pub chunk_at_lem : (k : ChunkKind) (bs : List ℕ) (len : ℕ) → chunk_at k bs len ≡ chunk_of k (numbers_at bs 0 0 (header_widths k)) len
unfolding chunk_at
chunk_at_lem kind.Data bs len = refl
chunk_at_lem kind.IData bs len = refl

picked_fsn : (t : Bool) (a b : ℕ) → if◌then◌else◌ t 0 (if◌then◌else◌ t a b) ≡ if◌then◌else◌ t 0 b
picked_fsn true a b = refl
picked_fsn false a b = refl

picked_ppid : (t : Bool) (a b : ℕ) → if◌then◌else◌ t (if◌then◌else◌ t a b) 0 ≡ if◌then◌else◌ t a 0
picked_ppid true a b = refl
picked_ppid false a b = refl

-- a header's numbers say what the chunk carries
row_says : (k : ChunkKind) (flags reserved tsn : ℕ) (d : Data) (n : ℕ) → flags % 8 ≡ flags_of d
    → chunk_of k (header_row k flags reserved tsn d (header_size k + n)) (header_size k + n) ≡ chunk k tsn (only_data (carried_data k d n))
row_says kind.Data flags reserved tsn d n h =
    let m = marked flags (key_unordered d.stream_key) d.is_beginning d.is_end h in
    let l : 16 + n - 16 ≡ n = omega arith in
    rw (m.unordered, m.first, m.last, l, key_whole d.stream_key)
row_says kind.IData flags reserved tsn d n h =
    let m = marked flags (key_unordered d.stream_key) d.is_beginning d.is_end h in
    let l : 20 + n - 20 ≡ n = omega arith in
    rw (m.unordered, m.first, m.last, l, key_whole d.stream_key, picked_fsn, picked_ppid)

module _ (bs : List ℕ) (k : ChunkKind) (tsn : ℕ) (d : Data) (p : List ℕ) (c : LaidOut bs k tsn d p) where
  abbrev n : ℕ
  n = header_size k + length p

  abbrev row : List ℕ
  row = header_row k c.flags c.reserved tsn d n

  fits : Fits (header_widths k) row
  fits = row_in_width k c.flags c.reserved tsn d n c.in_width c.flags_fit c.reserved_fit c.most

  -- the numbers of the header
  numbers : numbers_at bs 0 0 (header_widths k) ≡ row
  unfolding chunk_layout
  numbers = sym (row_at_lem bs 0 (header_widths k)) ∙ ap (bytes_row (header_widths k)) c.bytes ∙ row_read_written (header_widths k) row (p ++ c.pad) fits

  pub laid_long : length bs ≡ padded n
  laid_long = ap length c.bytes ∙ layout_length k c.flags c.reserved tsn d p c.pad ∙ ap (λ (j : ℕ). n + j) c.pad_length

  says : chunk_at k bs n ≡ chunk k tsn (only_data (carried_data k d (length p)))
  says = chunk_at_lem k bs n ∙ ap (λ (r : List ℕ). chunk_of k r n) numbers ∙ row_says k c.flags c.reserved tsn d (length p) c.marks

  -- the payload stands behind the header
  payload_there : take (length p) (drop (header_size k) bs) ≡ p
  unfolding chunk_layout
  payload_there =
      let xs : List ℕ = row_bytes (header_widths k) row in
      let l : length xs ≡ header_size k = header_length k c.flags c.reserved tsn d n in
      ap (λ (l : List ℕ). take (length p) (drop (header_size k) l)) c.bytes
      ∙ ap (take (length p)) (drop_at xs (p ++ c.pad) (header_size k) l)
      ∙ take_at p c.pad (length p) refl

read_number : (bs : List ℕ) (k : ChunkKind) (tsn : ℕ) (d : Data) (p : List ℕ) → LaidOut bs k tsn d p → number_at bs 2 2 ≡ header_size k + length p
read_number bs kind.Data tsn d p c = ap (λ (r : List ℕ). get_or r 2 0) (numbers bs kind.Data tsn d p c)
read_number bs kind.IData tsn d p c = ap (λ (r : List ℕ). get_or r 2 0) (numbers bs kind.IData tsn d p c)

-- THE READING: such bytes are read as that chunk, with the fields that it does not carry at 0, and its payload
pub read_laid : (bs : List ℕ) (k : ChunkKind) (tsn : ℕ) (d : Data) (p : List ℕ) → LaidOut bs k tsn d p → read_chunk bs ≡ Read (chunk k tsn (only_data (carried_data k d (length p))))
read_laid bs kind.Data tsn d p c =
    let e : number_at bs 2 2 ≡ 16 + length p = read_number bs kind.Data tsn d p c in
    let t : number_at bs 0 1 ≡ 0 = ap (λ (r : List ℕ). get_or r 0 0) (numbers bs kind.Data tsn d p c) in
    sym (data_read bs (16 + length p) 0 (padded (16 + length p)) (sym e) (sym t) refl (sym (laid_long bs kind.Data tsn d p c)) refl (omega (arith, c.some)) _ (sym (says bs kind.Data tsn d p c)))
read_laid bs kind.IData tsn d p c =
    let e : number_at bs 2 2 ≡ 20 + length p = read_number bs kind.IData tsn d p c in
    let t : number_at bs 0 1 ≡ 64 = ap (λ (r : List ℕ). get_or r 0 0) (numbers bs kind.IData tsn d p c) in
    sym (i_data_read bs (20 + length p) 64 (padded (20 + length p)) (sym e) (sym t) refl (sym (laid_long bs kind.IData tsn d p c)) (λ z. omega arith) refl (omega (arith, c.some)) _ (sym (says bs kind.IData tsn d p c)))

pub payload_laid : (bs : List ℕ) (k : ChunkKind) (tsn : ℕ) (d : Data) (p : List ℕ) → LaidOut bs k tsn d p → payload_of (chunk k tsn (only_data (carried_data k d (length p)))) bs ≡ p
payload_laid bs kind.Data tsn d p c = payload_there bs kind.Data tsn d p c
payload_laid bs kind.IData tsn d p c = payload_there bs kind.IData tsn d p c

flags_most : (u b e : Bool) → if◌then◌else◌ u 4 0 + if◌then◌else◌ b 2 0 + if◌then◌else◌ e 1 0 < 8
flags_most u b e = omega (arith, pick_less u 4 0 5 (omega arith) (omega arith), pick_less b 2 0 3 (omega arith) (omega arith), pick_less e 1 0 2 (omega arith) (omega arith))

-- what the writer writes is laid out so
pub written_laid : (k : ChunkKind) (tsn : ℕ) (d : Data) (p : List ℕ) → InWidth tsn d → 1 ≤ length p → header_size k + length p ≤ 65535 → LaidOut (chunk_bytes k tsn d p) k tsn d p
unfolding model_chunk_bytes
written_laid k tsn d p w s m =
    let f = flags_most (key_unordered d.stream_key) d.is_beginning d.is_end in
    record {
      flags = flags_of d;
      reserved = 0;
      pad = replicate (padding (header_size k + length p)) 0;
      in_width = w;
      flags_fit = omega (arith, f);
      marks = mod-eq_of_lt f;
      reserved_fit = omega arith;
      some = s;
      most = m;
      pad_length = length-replicate (padding (header_size k + length p)) 0;
      bytes = refl;
    }
