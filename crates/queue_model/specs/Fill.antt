-- Filling a packet (document 02, 5/13): "one call for a whole packet". Assumes nothing.
use Rattle.std.specs.Prelude.{ℕ, zero, suc, ◌+◌, ◌-◌, ◌*◌, ◌/◌, min, Bool, List, [], ◌∷◌, ◌++◌, length}
use Rattle.std.proofs.Math.Option.{Option, none, some}
use Rattle.types.specs.Wrap.{wrap_suc}
use Rattle.queue_model.specs.Types.{Packet, Queue, Event, Fragment, filled, Step, refuse, reply}
use Rattle.queue_model.specs.Answers.{fragment_in, refusal_in}
use Rattle.queue_model.specs.Refusals.{Check, checked, store_other, places_few, time_late, packet_limit_wrong, packet_short}
use Rattle.queue_model.specs.Bytes.{row_bytes}
use Rattle.queue_model.specs.Produce.{produce}
use Rattle.queue_model.specs.Chunks.{ChunkFields, chunk_header, chunk_length, model_chunk_bytes}

-- ------------------------------------------------------------------ the calls for the next fragment

-- What the calls for the next fragment give: the sizes asked for, one a call; their fragments; all their events, in order; the number of the last call's
-- refusal; and the
-- queue after them.
pub record Filling : Type 0 where
  pub sizes : List ℕ
  pub fragments : List Fragment
  pub events : List Event
  pub refusal : Option ℕ
  pub next : Queue

-- No call.
unfoldable pub no_calls : Queue → Filling
no_calls q = record { sizes = []; fragments = []; events = []; refusal = none; next = q }

-- "rounded down to a multiple of 4".
abbrev pub rounded_down : ℕ → ℕ
rounded_down n = n / 4 * 4

-- "The size asked for is the packet limit less the bytes used and the chunk header (16, or 20 for I-DATA), rounded down to a multiple of 4, at most the
-- payload limit."
unfoldable pub size_asked : Bool → ℕ → ℕ → Queue → ℕ
size_asked idata limit used q = min (rounded_down (limit - (used + chunk_header idata))) q.options.payload_limit

-- A call that asked for n bytes and gave no fragment: "nothing is waiting", or a 16 "ends it".
abbrev pub last_call : ℕ → Step → Filling
last_call n s = record { sizes = n ∷ []; fragments = []; events = s.outcome.events; refusal = refusal_in s.outcome.answer; next = s.next }

-- A call that asked for n bytes and gave the fragment f, before the calls of r.
abbrev pub one_more : ℕ → Step → Fragment → Filling → Filling
one_more n s f r = record { sizes = n ∷ r.sizes; fragments = f ∷ r.fragments; events = s.outcome.events ++ r.events; refusal = r.refusal; next = r.next }

-- A call, and after a fragment what follows it.
unfoldable pub and_on : ℕ → Step → (Fragment → Queue → Filling) → Option Fragment → Filling
and_on n s more none = last_call n s
and_on n s more (some f) = one_more n s f (more f s.next)

-- "Filling ends when that size is 0 or less or nothing is waiting." The call's fragment buffer is a part of the packet as long as the size asked for.
unfoldable pub asked : ℕ → ℕ → ℕ → Queue → (Fragment → Queue → Filling) → ℕ → Filling
unfolding no_calls produce and_on
asked store places now q more zero = no_calls q
asked store places now q more (suc n) = let s = produce store places (suc n) now (suc n) q in and_on (suc n) s more (fragment_in s.outcome.answer)

-- The calls once `used` bytes of the packet are used. Each fragment uses at least a chunk header, so as many turns as the packet limit suffice.
unfoldable pub fill_on : Bool → ℕ → ℕ → ℕ → ℕ → ℕ → ℕ → Queue → Filling
unfolding no_calls asked size_asked
fill_on idata store places now limit zero used q = no_calls q
fill_on idata store places now limit (suc turns) used q =
    asked store places now q (λ (f : Fragment) (r : Queue). fill_on idata store places now limit turns (used + chunk_length idata (length f.bytes)) r) (size_asked idata limit used q)

-- "the 12-byte common header".
abbrev pub common_header_length : ℕ
common_header_length = 12

-- A whole filling: "I-DATA while interleaving is on, else DATA".
unfoldable pub filling : ℕ → ℕ → ℕ → ℕ → Queue → Filling
unfolding fill_on
filling store places now limit q = fill_on q.interleaving store places now limit limit common_header_length q

-- ------------------------------------------------------------------ the packet

-- "the 12-byte common header (two ports, verification tag, checksum 0 as RFC 9653 permits)".
abbrev pub common_header_widths : List ℕ
common_header_widths = 2 ∷ 2 ∷ 4 ∷ 4 ∷ []

abbrev pub common_header_row : Packet → List ℕ
common_header_row p = p.source_port ∷ p.destination_port ∷ p.verification_tag ∷ 0 ∷ []

unfoldable pub common_header : Packet → List ℕ
unfolding row_bytes
common_header p = row_bytes common_header_widths (common_header_row p)

-- The chunk of a fragment (1/13).
abbrev pub chunk_fields : ℕ → Fragment → ChunkFields
chunk_fields t f = record { tsn = t; stream_id = f.stream_id; unordered = f.unordered; ssn = f.ssn; mid = f.mid; fsn = f.fsn; ppid = f.ppid; first = f.first; last = f.last }

abbrev pub fragment_chunk : Bool → ℕ → Fragment → List ℕ
fragment_chunk idata tsn f = model_chunk_bytes idata (chunk_fields tsn f) f.bytes

-- "then chunks with consecutive TSNs from a given one"; TSNs wrap at 32 bits.
unfoldable pub chunks : Bool → ℕ → List Fragment → List ℕ
unfolding model_chunk_bytes
chunks idata tsn [] = []
chunks idata tsn (f ∷ fs) = fragment_chunk idata tsn f ++ chunks idata (wrap_suc 32 tsn) fs

-- "without a fragment no packet is written".
unfoldable pub packet_bytes : Bool → Packet → List Fragment → List ℕ
unfolding common_header chunks
packet_bytes idata p [] = []
packet_bytes idata p (f ∷ fs) = common_header p ++ chunks idata p.tsn (f ∷ fs)

-- ------------------------------------------------------------------ the call

-- "The answer gives the bytes and chunks written; without a fragment no packet is written and both are 0. A 16 refuses the filling only at its first
-- call and ends it at a later
-- one."
unfoldable pub filled_with : Packet → Queue → Filling → List Fragment → Option ℕ → Step
unfolding packet_bytes
filled_with p q r [] (some n) = refuse q n
filled_with p q r [] none = reply (filled (packet_bytes q.interleaving p []) 0) r.events r.next
filled_with p q r (f ∷ fs) x = reply (filled (packet_bytes q.interleaving p (f ∷ fs)) (length (f ∷ fs))) r.events r.next

-- "20 when the packet limit is outside 36 to 65,535, 21 when the packet buffer is shorter than the limit; both come before 01's checks for the next
-- fragment." Of those 2, 3
-- and 4 are made here; 9 and 10 never apply to the sizes that a filling asks for.
abbrev pub fill_checks : ℕ → ℕ → ℕ → ℕ → ℕ → Queue → List Check
fill_checks store places buffer now limit q = packet_limit_wrong limit ∷ packet_short buffer limit ∷ store_other store q ∷ places_few places ∷ time_late now ∷ []

-- Fill a packet; the store, the event list and the packet buffer are lent.
unfoldable pub fill : ℕ → ℕ → ℕ → ℕ → Packet → Queue → Step
unfolding checked filling filled_with
fill store places buffer now p q =
    let r = filling store places now p.limit q in
    checked (fill_checks store places buffer now p.limit q) q (filled_with p q r r.fragments r.refusal)
