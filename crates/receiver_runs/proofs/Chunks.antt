-- A chunk that was written, read again, is the model's chunk. Assumes nothing.
use mathlib.Core.Path.{◌≡◌, refl, sym, ap, ap₂, ◌∙◌, subst}
use mathlib.Core.Logic.{inl, inr}
use mathlib.Core.Bool.{Bool, true, false}
use mathlib.Core.List.{List, [], ◌∷◌, ◌++◌, map}
use mathlib.Core.Option.{Option, some}
use Prim.Native.Nat.{ℕ, zero, suc, ◌+◌, ◌%◌, ◌^◌, ◌≤◌, ◌<◌}
use native.Mathlib.Omega.{arith}
use borrow.Author.Tests.{ltb-true, ltb-false}
use lib.Dec.{ltb}
use lib.ListN.{length, take, drop, get_or}
use lib.Seq.{take-append_seam}
use Rattle.types.specs.declared.StreamId.{StreamId}
use Rattle.std.specs.Prelude.{if◌then◌else◌}
use Rattle.queue_model.specs.Types.{Fragment}
use Rattle.queue_model.specs.Chunks.{padded}
use Rattle.queue_sending.specs.declared.data.DataToSend.{DataToSend}
use Rattle.chunks.specs.declared.chunk.ChunkKind.{ChunkKind}
use Rattle.chunks.specs.ChunkWritten as answer
use Rattle.chunks.specs.Layout.{header_size, chunk_bytes}
use Rattle.chunks.specs.Carried.{carried}
use Rattle.chunks.specs.Reading.{chunk}
use Rattle.chunks.specs.Writing.{Outcome, outcome, write_chunk}
use Rattle.chunks.specs.Promise.{ReadsBack}
use Rattle.chunks.proofs.Marks.{unordered_of}
use Rattle.chunks.proofs.WriteCases.{chunk_length}
use Rattle.chunks.proofs.Theorems.{refuses_17, refuses_18, writes, reads_back}
use Rattle.packets.specs.Filling as packets
use Rattle.linked_sending.specs.Meaning.{data_of}
use Rattle.receiver_model.specs.Types.{Chunk, DATA, I-DATA}
use Rattle.receiver_model.specs.Sender.{as_chunk, no_fragment, model_chunk_of}
use Rattle.receiver_model.specs.Run as run
use Rattle.receiver_model.specs.Claim as model
use Rattle.receiver_model.specs.Claim.{arrivals, OnlySent}
use Rattle.receiver_model.proofs.Lists.{Value, yes_is, no_is, value}
use Rattle.receiver_words.specs.Chunks.{kind_of, chunk_of}
use Rattle.receiver_calls.specs.Receiving.{fragment_of}
use Rattle.queue_runs.proofs.Account.{key_same}
use Rattle.queue_packets.proofs.Fit.{Fits, AllFit}
use Rattle.queue_packets.proofs.Packets.{in_width}
use Rattle.receiver_runs.specs.Calls.{AllTyped}
use Rattle.receiver_runs.specs.Meaning.{chunk_as, chunk_read, call_of}
use Rattle.receiver_runs.specs.Sender.{Piece}
use Rattle.receiver_runs.specs.Promise.{piece_of, Feed, arrive, take_out, write_of, Told, written, call_for, calls_for, Fed, AllFed, move_of}

-- ------------------------------------------------------------------ what was written

record Wrote (out : List ℕ) (k : ChunkKind) (tsn : ℕ) (f : DataToSend) (p : List ℕ) : Type 0 where
  some_bytes : 1 ≤ length p
  most : length p ≤ 65515
  is : written (write_chunk out k tsn f p) ≡ chunk_bytes k tsn f.«data» p

wrote : (out : List ℕ) (k : ChunkKind) (tsn : ℕ) (f : DataToSend) (p : List ℕ) → Told (write_chunk out k tsn f p).answer → Wrote out k tsn f p
wrote out k tsn f p h = by_empty (value (ltb (length p) 1))
  where
    told_not : (n : ℕ) → write_chunk out k tsn f p ≡ outcome (answer.Refused n) out → ⊥
    told_not n e = subst (λ (o : Outcome). Told o.answer) e h

    by_room : 1 ≤ length p → length p ≤ 65515 → Value (ltb (length out) (padded (header_size k + length p))) → Wrote out k tsn f p
    by_room s m (yes_is e) = absurd (told_not 18 (refuses_18 out k tsn f p s m (ltb-true _ _ e)))
    by_room s m (no_is e) = record {
      some_bytes = s;
      most = m;
      is =
          ap written (writes out k tsn f p s m (ltb-false _ _ e))
          ∙ ap (λ (n : ℕ). take n (chunk_bytes k tsn f.«data» p ++ drop (padded (header_size k + length p)) out)) (sym (chunk_length k tsn f.«data» p))
          ∙ take-append_seam (chunk_bytes k tsn f.«data» p) (drop (padded (header_size k + length p)) out);
    }

    by_long : 1 ≤ length p → Value (ltb 65515 (length p)) → Wrote out k tsn f p
    by_long s (yes_is e) = absurd (told_not 17 (refuses_17 out k tsn f p (inr (ltb-true _ _ e))))
    by_long s (no_is e) = by_room s (ltb-false _ _ e) (value (ltb (length out) (padded (header_size k + length p))))

    by_empty : Value (ltb (length p) 1) → Wrote out k tsn f p
    by_empty (yes_is e) = let l = ltb-true (length p) 1 e in absurd (told_not 17 (refuses_17 out k tsn f p (inl (omega arith))))
    by_empty (no_is e) = by_long (ltb-false _ _ e) (value (ltb 65515 (length p)))

-- ------------------------------------------------------------------ what is read

data_chunk : (tsn : ℕ) (f : Fragment) → chunk_of DATA (fragment_of (chunk (packets.kind_of false) tsn (carried (packets.kind_of false) (data_of f) (length f.bytes)))) f.bytes ≡ as_chunk DATA tsn f
unfolding as_chunk
data_chunk tsn f = ap₂ fields (ap (λ (x : StreamId). x.0) (key_same f.unordered (record { 0 = f.stream_id }))) (unordered_of f.unordered (record { 0 = f.stream_id }))
  where
    fields : ℕ → Bool → Chunk
    fields id u = record { kind = DATA; tsn = tsn; stream = id; unordered = u; first = f.first; last = f.last; ssn = f.ssn; mid = 0; fsn = 0; ppid = f.ppid; bytes = f.bytes }

i_data_chunk : (tsn : ℕ) (f : Fragment) → chunk_of I-DATA (fragment_of (chunk (packets.kind_of true) tsn (carried (packets.kind_of true) (data_of f) (length f.bytes)))) f.bytes ≡ as_chunk I-DATA tsn f
unfolding as_chunk
i_data_chunk tsn f = ap₂ fields (ap (λ (x : StreamId). x.0) (key_same f.unordered (record { 0 = f.stream_id }))) (unordered_of f.unordered (record { 0 = f.stream_id }))
  where
    fields : ℕ → Bool → Chunk
    fields id u = record {
      kind = I-DATA;
      tsn = tsn;
      stream = id;
      unordered = u;
      first = f.first;
      last = f.last;
      ssn = 0;
      mid = f.mid;
      fsn = if f.first then 0 else f.fsn;
      ppid = if f.first then f.ppid else 0;
      bytes = f.bytes;
    }

read_is : (b : Bool) (tsn : ℕ) (f : Fragment) (bs : List ℕ) → ReadsBack bs (packets.kind_of b) tsn (data_of f) f.bytes → chunk_read bs ≡ some (as_chunk (kind_of b) tsn f)
read_is false tsn f bs h =
    ap (chunk_as bs) h.chunk_read
    ∙ ap (λ (p : List ℕ). some (chunk_of DATA (fragment_of (chunk (packets.kind_of false) tsn (carried (packets.kind_of false) (data_of f) (length f.bytes)))) p)) h.payload_read
    ∙ ap (λ (c : Chunk). some c) (data_chunk tsn f)
read_is true tsn f bs h =
    ap (chunk_as bs) h.chunk_read
    ∙ ap (λ (p : List ℕ). some (chunk_of I-DATA (fragment_of (chunk (packets.kind_of true) tsn (carried (packets.kind_of true) (data_of f) (length f.bytes)))) p)) h.payload_read
    ∙ ap (λ (c : Chunk). some c) (i_data_chunk tsn f)

-- ------------------------------------------------------------------ a fragment that arrives

pub length_pieces : (fs : List Fragment) → length (map piece_of fs) ≡ length fs
length_pieces [] = refl
length_pieces (f ∷ fs) = ap suc (length_pieces fs)

piece_at : (fs : List Fragment) (i : ℕ) → get_or (map piece_of fs) i (piece_of no_fragment) ≡ piece_of (get_or fs i no_fragment)
piece_at [] i = refl
piece_at (f ∷ fs) zero = refl
piece_at (f ∷ fs) (suc i) = piece_at fs i

fit_at : (fs : List Fragment) (i : ℕ) → AllFit fs → i < length fs → Fits (get_or fs i no_fragment)
fit_at [] i a h = absurd (omega arith)
fit_at (f ∷ fs) zero a h = a.0
fit_at (f ∷ fs) (suc i) a h = fit_at fs i a.1 (omega arith)

module _ (b : Bool) (start len : ℕ) (fs : List Fragment) (fit : AllFit fs) where
  abbrev tsn_at : ℕ → ℕ
  tsn_at i = (start + i) % 2 ^ 32

  tsn_fits : (i : ℕ) → (start + i) % 2 ^ 32 < 2 ^ 32
  tsn_fits i = omega arith

  -- The bytes written of the fragment with index i are read as its chunk.
  pub arrives : (i : ℕ) (out : List ℕ) → i < length (map piece_of fs) → Told (write_of b start (map piece_of fs) i out).answer → chunk_read (written (write_of b start (map piece_of fs) i out)) ≡ some (model_chunk_of (kind_of b) start fs i)
  arrives i out h t =
      let g : Fragment = get_or fs i no_fragment in
      let e : get_or (map piece_of fs) i (piece_of no_fragment) ≡ piece_of g = piece_at fs i in
      let w : Wrote out (packets.kind_of b) (tsn_at i) (data_of g) g.bytes =
      wrote out (packets.kind_of b) (tsn_at i) (data_of g) g.bytes (subst (λ (p : Piece). Told (write_chunk out (packets.kind_of b) (tsn_at i) p.fragment p.payload).answer) e t) in
      let l = length_pieces fs in
      let u : Fits g = fit_at fs i fit (omega arith) in
      ap (λ (p : Piece). chunk_read (written (write_chunk out (packets.kind_of b) (tsn_at i) p.fragment p.payload))) e
      ∙ ap chunk_read w.is
      ∙ read_is b (tsn_at i) g (chunk_bytes (packets.kind_of b) (tsn_at i) (data_of g).«data» g.bytes)
      (reads_back (packets.kind_of b) (tsn_at i) (data_of g) g.bytes (in_width (tsn_at i) g (tsn_fits i) u) w.some_bytes w.most)

  call_is : (f : Feed) → Fed b start (map piece_of fs) f → call_of len (call_for b start (map piece_of fs) f) ≡ model.as_call (model_chunk_of (kind_of b) start fs) len (move_of f)
  call_is (arrive i out) h = ap (λ (c : Option Chunk). run.receive len c) (arrives i out h.0 h.1.0)
  call_is (take_out out) h = refl

  pub calls_are : (feeds : List Feed) → AllFed b start (map piece_of fs) feeds
      → map (call_of len) (calls_for b start (map piece_of fs) feeds) ≡ map (model.as_call (model_chunk_of (kind_of b) start fs) len) (map move_of feeds)
  calls_are [] h = refl
  calls_are (f ∷ feeds) h = ap₂ (λ (c : run.Call) (cs : List run.Call). c ∷ cs) (call_is f h.0) (calls_are feeds h.1)

-- The calls can be made; only fragments that were sent arrive.
pub typed_feeds : (b : Bool) (start len : ℕ) (ps : List Piece) (feeds : List Feed) → AllFed b start ps feeds → AllTyped len (calls_for b start ps feeds)
typed_feeds b start len ps [] h = tt
typed_feeds b start len ps (arrive i out ∷ feeds) h = ((tt, h.0.1.1), typed_feeds b start len ps feeds h.1)
typed_feeds b start len ps (take_out out ∷ feeds) h = ((tt, h.0), typed_feeds b start len ps feeds h.1)

pub only_sent : (b : Bool) (start : ℕ) (ps : List Piece) (feeds : List Feed) → AllFed b start ps feeds → OnlySent (length ps) (arrivals (map move_of feeds))
unfolding arrivals
only_sent b start ps [] h = tt
only_sent b start ps (arrive i out ∷ feeds) h = (h.0.0, only_sent b start ps feeds h.1)
only_sent b start ps (take_out out ∷ feeds) h = only_sent b start ps feeds h.1
