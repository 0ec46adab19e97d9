-- Request 5/13 of document 02 as a type: what filling a packet does, said by the separate calls for the next fragment. Assumes nothing.
use Rattle.std.specs.Prelude.{◌≡◌, Bool, List, [], ◌∷◌, ◌++◌, map, ℕ, zero, suc, ◌+◌, ◌≤◌, length, take, drop}
use Rattle.std.proofs.Math.Option.{Option, none, some}
use Rattle.types.specs.Wrap.{wrap_suc}
use Rattle.queue_model.specs.Types.{Packet, Options, Queue, Event, Fragment, fragment, nothing_waits, filled, Outcome, reply}
use Rattle.queue_model.specs.Answers.{fragment_in}
use Rattle.queue_model.specs.Refusals.{first_refusal, event_places}
use Rattle.queue_model.specs.Bytes.{bytes_number}
use Rattle.queue_model.specs.Chunks.{padded, chunk_length, model_chunk_bytes}
use Rattle.queue_model.specs.Fill.{size_asked, common_header_length, fragment_chunk, packet_bytes, fill_checks}
use Rattle.queue_model.specs.Run.{Call, produce, fill, step, run, after}
use Rattle.queue_model.specs.Demands.{Reachable}

-- All events that calls show, in order.
unfoldable pub shown_events : List Outcome → List Event
shown_events [] = []
shown_events (o ∷ os) = o.events ++ shown_events os

-- All fragments that calls show, in order.
abbrev pub before : Option Fragment → List Fragment → List Fragment
before none fs = fs
before (some f) fs = f ∷ fs

unfoldable pub shown_fragments : List Outcome → List Fragment
shown_fragments [] = []
shown_fragments (o ∷ os) = before (fragment_in o.answer) (shown_fragments os)

-- A call that shows its fragment by itself: a filling shows a packet.
abbrev pub NotFilling : Call → Type 0
NotFilling c = (store places buffer now : ℕ) (p : Packet) → c ≡ fill store places buffer now p → ⊥

-- "each of them one call for the next fragment": one for each size asked for.
abbrev pub separate_calls : ℕ → ℕ → ℕ → List ℕ → List Call
separate_calls store places now sizes = map (λ (n : ℕ). produce store places n now n) sizes

-- The sizes that a filling asks for: each the one that document 02 says, until it is 0 or nothing is waiting.
pub data Asks (idata : Bool) (store places now limit : ℕ) : ℕ → Queue → List ℕ → Type 0 where
  full : {used : ℕ} {q : Queue} → size_asked idata limit used q ≡ 0 → Asks idata store places now limit used q []
  empty : {used : ℕ} {q : Queue} (n : ℕ) → size_asked idata limit used q ≡ suc n → (step (produce store places (suc n) now (suc n)) q).outcome.answer ≡ nothing_waits
      → Asks idata store places now limit used q (suc n ∷ [])
  goes_on : {used : ℕ} {q : Queue} (n : ℕ) (f : Fragment) (ns : List ℕ) → size_asked idata limit used q ≡ suc n → (step (produce store places (suc n) now (suc n)) q).outcome.answer ≡ fragment f
      → Asks idata store places now limit (used + chunk_length idata (length f.bytes)) (step (produce store places (suc n) now (suc n)) q).next ns → Asks idata store places now limit used q (suc n ∷ ns)

-- Payloads that a chunk can carry: 1/13 has "17 when a payload to write is empty or above 65,515 bytes".
abbrev pub Writable : List Fragment → Type 0
Writable [] = Unit {0}
Writable (f ∷ fs) = ((1 ≤ length f.bytes) × (length f.bytes ≤ 65515)) × Writable fs

-- A packet's bytes behind the common header, cut into so many chunks, each as long as its own length field says, with padding.
unfoldable pub length_field : List ℕ → ℕ
unfolding bytes_number
length_field bs = bytes_number (take 2 (drop 2 bs))

unfoldable pub cut_chunks : ℕ → List ℕ → List (List ℕ)
unfolding length_field
cut_chunks zero bs = []
cut_chunks (suc n) bs = let m = padded (length_field bs) in take m bs ∷ cut_chunks n (drop m bs)

-- The chunk of each fragment, with consecutive TSNs.
unfoldable pub each_chunk : Bool → ℕ → List Fragment → List (List ℕ)
unfolding model_chunk_bytes
each_chunk idata tsn [] = []
each_chunk idata tsn (f ∷ fs) = fragment_chunk idata tsn f ∷ each_chunk idata (wrap_suc 32 tsn) fs

-- A filling that no check refuses is its separate calls, none of them refused: the same next queue, all their events, which the 2,305 places hold, and a
-- packet within its limit of all
-- their fragments, which its chunks give back ("Reading its chunks back gives the fragments that those separate calls give": what each chunk gives back
-- is 1/13's).
pub record Fills (store places buffer now : ℕ) (p : Packet) (q : Queue) : Type 0 where
  pub sizes : List ℕ
  pub asks : Asks q.interleaving store places now p.limit common_header_length q sizes
  pub same_step :
      let cs = separate_calls store places now sizes in let fs = shown_fragments (run cs q) in
      step (fill store places buffer now p) q ≡ reply (filled (packet_bytes q.interleaving p fs) (length fs)) (shown_events (run cs q)) (after cs q)
  pub events_few : length (shown_events (run (separate_calls store places now sizes) q)) ≤ event_places
  pub packet_fits : length (packet_bytes q.interleaving p (shown_fragments (run (separate_calls store places now sizes) q))) ≤ p.limit
  pub reads_back :
      let fs = shown_fragments (run (separate_calls store places now sizes) q) in
      cut_chunks (length fs) (drop common_header_length (packet_bytes q.interleaving p fs)) ≡ each_chunk q.interleaving p.tsn fs
  pub writable : Writable (shown_fragments (run (separate_calls store places now sizes) q))

unfoldable pub Request5 : Type 0
Request5 = (o : Options) (q : Queue) (store places buffer now : ℕ) (p : Packet) → Reachable o q → first_refusal (fill_checks store places buffer now p.limit q) ≡ none → Fills store places buffer now p q
