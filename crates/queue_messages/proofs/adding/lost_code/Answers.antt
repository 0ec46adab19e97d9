use mathlib.Core.Path.{◌≡◌, refl, sym, ◌∙◌}
use borrow.Author.Tests.{eqb-true}
use denote.Enum.Bare.{sameb}
use lib.Dec.{eqb}
use Rattle.types.proofs.Refusals.{refusal_above}
use Rattle.types.specs.Refusal.{refusal_number}
use Rattle.types.specs.contracts.refusal.Refusal as refusal
use Rattle.types.specs.declared.refusal.Refusal.{Refusal}
use Rattle.types.specs.declared.refusal.Refusal.TheVariants.{PayloadLimitWrong, StoreWrong, EventListShort, TimeLate, PayloadWrong, StreamsFull, MessagesFull, StoreFull, SizeWrong, BufferShort, ImageBufferShort, QueueUsed, ImageWrong, PriorityOther, ImageLarge, WordsBroken, ChunkPayloadWrong, ChunkOutputShort, ChunkWrong, PacketLimitWrong, PacketBufferShort, TsnFar, ReceiverFull, FragmentOther, RequestUnderway, RequestOutputShort, ResponseWrong, OrderWrong, OrderImpossible}
use Rattle.queue_messages.specs.Add.{lost_code}
use Rattle.queue_messages.proofs.adding.lost_code.Goals as goal

-- `queue_messages::adding::lost_code` meets its contract: each return is what its definition says, by what the calls ensure and the tests taken. Assumes
-- nothing.
-- a refusal is that of a 257th stream where it has its number
is_full : (r : Refusal) → sameb refusal.the_type r StreamsFull ≡ eqb (refusal_number r) 6
is_full PayloadLimitWrong = refl
is_full StoreWrong = refl
is_full EventListShort = refl
is_full TimeLate = refl
is_full PayloadWrong = refl
is_full StreamsFull = refl
is_full MessagesFull = refl
is_full StoreFull = refl
is_full SizeWrong = refl
is_full BufferShort = refl
is_full ImageBufferShort = refl
is_full QueueUsed = refl
is_full ImageWrong = refl
is_full PriorityOther = refl
is_full ImageLarge = refl
is_full WordsBroken = refl
is_full ChunkPayloadWrong = refl
is_full ChunkOutputShort = refl
is_full ChunkWrong = refl
is_full PacketLimitWrong = refl
is_full PacketBufferShort = refl
is_full TsnFar = refl
is_full ReceiverFull = refl
is_full FragmentOther = refl
is_full RequestUnderway = refl
is_full RequestOutputShort = refl
is_full ResponseWrong = refl
is_full OrderWrong = refl
is_full OrderImpossible = refl

pub returns-then-eq : goal.returns-then-eq
unfolding lost_code
returns-then-eq c = rw (← is_full _, ← c.eq.ensures, c.if-eq.true) (eqb-true _ _ (sym (c.eq.ensures ∙ is_full _) ∙ c.if-eq.true))

pub returns-in-Ok : goal.returns-in-Ok
unfolding lost_code
returns-in-Ok c = rw (← is_full _, ← c.eq.ensures, c.if-eq.false, ← c.in-Ok.ensures)

pub returns-in-Err : goal.returns-in-Err
unfolding lost_code
returns-in-Err c = rw (← is_full _, ← c.eq.ensures, c.if-eq.false, ← c.in-Err.ensures, refusal_above _)
