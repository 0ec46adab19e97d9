-- The laws of the refusals' numbers. Assumes nothing.
use Rattle.std.specs.Prelude.{ℕ, ◌≡◌, true, if◌then◌else◌, eqb, ltb}
use mathlib.Core.Path.{refl, sym, ap, ◌∙◌}
use Rattle.types.specs.Refusal.{refusal_number}
use Rattle.types.specs.declared.refusal.Refusal.{Refusal}
use Rattle.types.specs.declared.refusal.Refusal.TheVariants.{PayloadLimitWrong, StoreWrong, EventListShort, TimeLate, PayloadWrong, StreamsFull, MessagesFull, StoreFull, SizeWrong, BufferShort, ImageBufferShort, QueueUsed, ImageWrong, PriorityOther, ImageLarge, WordsBroken, ChunkPayloadWrong, ChunkOutputShort, ChunkWrong, PacketLimitWrong, PacketBufferShort, TsnFar, ReceiverFull, FragmentOther, RequestUnderway, RequestOutputShort, ResponseWrong, OrderWrong, OrderImpossible}

-- No refusal has the number of an accepted call.
pub refusal_above : (r : Refusal) → ltb 0 (refusal_number r) ≡ true
refusal_above PayloadLimitWrong = refl
refusal_above StoreWrong = refl
refusal_above EventListShort = refl
refusal_above TimeLate = refl
refusal_above PayloadWrong = refl
refusal_above StreamsFull = refl
refusal_above MessagesFull = refl
refusal_above StoreFull = refl
refusal_above SizeWrong = refl
refusal_above BufferShort = refl
refusal_above ImageBufferShort = refl
refusal_above QueueUsed = refl
refusal_above ImageWrong = refl
refusal_above PriorityOther = refl
refusal_above ImageLarge = refl
refusal_above WordsBroken = refl
refusal_above ChunkPayloadWrong = refl
refusal_above ChunkOutputShort = refl
refusal_above ChunkWrong = refl
refusal_above PacketLimitWrong = refl
refusal_above PacketBufferShort = refl
refusal_above TsnFar = refl
refusal_above ReceiverFull = refl
refusal_above FragmentOther = refl
refusal_above RequestUnderway = refl
refusal_above RequestOutputShort = refl
refusal_above ResponseWrong = refl
refusal_above OrderWrong = refl
refusal_above OrderImpossible = refl

-- The refusal of a number; what it gives for a number that no refusal has is not used.
refusal_of : ℕ → Refusal
refusal_of n =
    if eqb n 1 then PayloadLimitWrong else
    if eqb n 2 then StoreWrong else
    if eqb n 3 then EventListShort else
    if eqb n 4 then TimeLate else
    if eqb n 5 then PayloadWrong else
    if eqb n 6 then StreamsFull else
    if eqb n 7 then MessagesFull else
    if eqb n 8 then StoreFull else
    if eqb n 9 then SizeWrong else
    if eqb n 10 then BufferShort else
    if eqb n 11 then ImageBufferShort else
    if eqb n 12 then QueueUsed else
    if eqb n 13 then ImageWrong else
    if eqb n 14 then PriorityOther else
    if eqb n 15 then ImageLarge else
    if eqb n 17 then ChunkPayloadWrong else
    if eqb n 18 then ChunkOutputShort else
    if eqb n 19 then ChunkWrong else
    if eqb n 20 then PacketLimitWrong else
    if eqb n 21 then PacketBufferShort else
    if eqb n 22 then TsnFar else
    if eqb n 23 then ReceiverFull else
    if eqb n 24 then FragmentOther else
    if eqb n 25 then RequestUnderway else
    if eqb n 26 then RequestOutputShort else
    if eqb n 27 then ResponseWrong else
    if eqb n 28 then OrderWrong else
    if eqb n 29 then OrderImpossible else WordsBroken

refusal_back : (r : Refusal) → refusal_of (refusal_number r) ≡ r
unfolding refusal_of
refusal_back PayloadLimitWrong = refl
refusal_back StoreWrong = refl
refusal_back EventListShort = refl
refusal_back TimeLate = refl
refusal_back PayloadWrong = refl
refusal_back StreamsFull = refl
refusal_back MessagesFull = refl
refusal_back StoreFull = refl
refusal_back SizeWrong = refl
refusal_back BufferShort = refl
refusal_back ImageBufferShort = refl
refusal_back QueueUsed = refl
refusal_back ImageWrong = refl
refusal_back PriorityOther = refl
refusal_back ImageLarge = refl
refusal_back WordsBroken = refl
refusal_back ChunkPayloadWrong = refl
refusal_back ChunkOutputShort = refl
refusal_back ChunkWrong = refl
refusal_back PacketLimitWrong = refl
refusal_back PacketBufferShort = refl
refusal_back TsnFar = refl
refusal_back ReceiverFull = refl
refusal_back FragmentOther = refl
refusal_back RequestUnderway = refl
refusal_back RequestOutputShort = refl
refusal_back ResponseWrong = refl
refusal_back OrderWrong = refl
refusal_back OrderImpossible = refl

-- Two refusals of one number are one: a number tells all of a refusal.
pub refusal_same : (r s : Refusal) → refusal_number r ≡ refusal_number s → r ≡ s
refusal_same r s e = sym (refusal_back r) ∙ ap refusal_of e ∙ refusal_back s
