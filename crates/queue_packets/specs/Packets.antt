-- Request 5/13 on the code: a packet is its separate calls for the next fragment, and its chunks, read by the reader of 1/13, give their fragments.
-- Assumes nothing.
use Rattle.std.specs.Prelude.{ℕ, ◌≤◌, ◌≡◌, List, [], ◌∷◌, length, take, drop}
use Rattle.types.specs.Wrap.{wrap_suc}
use Rattle.queue_model.specs.Types.{Fragment}
use Rattle.queue_model.specs.Fill.{common_header_length}
use Rattle.queue_model.specs.Packets.{shown_events, shown_fragments, separate_calls, Asks, cut_chunks}
use Rattle.queue_model.specs.Refusals.{event_places}
use Rattle.queue_model.specs.Run as run
use Rattle.queue_streams.specs.Events.{places_in, written}
use Rattle.chunks.specs.Promise.{ReadsBack}
use Rattle.chunks.specs.declared.chunk.ChunkKind.{ChunkKind}
use Rattle.packets.specs.declared.packet.Packet.{Packet}
use Rattle.packets.specs.PacketFilled as packet
use Rattle.packets.specs.Filling.{kind_of}
use Rattle.linked_sending.specs.Meaning.{data_of}
use Rattle.queue_runs.specs.Calls.{fill, Typed, filled}
use Rattle.queue_runs.specs.Run.{State, step}
use Rattle.queue_runs.specs.Meaning.{queue_of}
use Rattle.queue_runs.specs.Creation.{Arguments}
use Rattle.queue_runs.specs.Demand3.{Reached}

-- Each chunk, read, is a fragment, in order: its TSN, what the chunk carries of the fragment, and the payload; "subject to the zero fields of chunks"
-- (`ReadsBack` of 1/13).
abbrev pub EachRead : ChunkKind → ℕ → List Fragment → List (List ℕ) → Type 0
EachRead k tsn [] [] = Unit {0}
EachRead k tsn [] (c ∷ cs) = ⊥
EachRead k tsn (f ∷ fs) [] = ⊥
EachRead k tsn (f ∷ fs) (c ∷ cs) = ReadsBack c k tsn (data_of f) f.bytes × EachRead k (wrap_suc 32 tsn) fs cs

-- What an accepted filling answered with k events, n bytes and m chunks is: the separate calls for the next fragment, asked for document 02's sizes, on
-- the queue that words and store stand for.
pub record Separately (s : State) (es bs : List ℕ) (time : ℕ) (p : Packet) (k n m : ℕ) : Type 0 where
  pub sizes : List ℕ
  -- "The size asked for is [..]. Filling ends when that size is 0 or less or nothing is waiting."
  pub asks : Asks (queue_of s).interleaving (length s.store) (places_in es) time p.limit common_header_length (queue_of s) sizes
  -- "Reading its chunks back gives the fragments that those separate calls give": the packet, cut at its chunks' own length fields.
  pub reads : EachRead (kind_of (queue_of s).interleaving) p.tsn (shown_fragments (run.run (separate_calls (length s.store) (places_in es) time sizes) (queue_of s)))
      (cut_chunks m (drop common_header_length (take n (step (fill es bs time p) s).shows.buffer)))
  pub counted : m ≡ length (shown_fragments (run.run (separate_calls (length s.store) (places_in es) time sizes) (queue_of s)))
  -- and the queue after it is the queue after them
  pub leaves : queue_of (step (fill es bs time p) s).next ≡ run.after (separate_calls (length s.store) (places_in es) time sizes) (queue_of s)
  -- "its event list [..] gets all their events up to 2,305, which suffice"
  pub events : (step (fill es bs time p) s).shows.events ≡ written es 0 (shown_events (run.run (separate_calls (length s.store) (places_in es) time sizes) (queue_of s)))
  pub events_counted : k ≡ length (shown_events (run.run (separate_calls (length s.store) (places_in es) time sizes) (queue_of s)))
  pub suffice : k ≤ event_places
  -- the packet is within its limit
  pub fits : n ≤ p.limit

-- Of every queue that creation and calls lead to.
unfoldable pub Request5 : Type 0
unfolding cut_chunks shown_fragments shown_events
Request5 =
    (a : Arguments) (len : ℕ) (s : State) (es bs : List ℕ) (time : ℕ) (p : Packet) (k n m : ℕ)
    → Reached a len s → Typed (fill es bs time p) → (step (fill es bs time p) s).shows.answer ≡ filled (packet.Filled k n m) → Separately s es bs time p k n m
