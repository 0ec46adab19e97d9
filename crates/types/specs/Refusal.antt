-- The refusals and their numbers: "Refused, in checking order; the first that applies is given, and none otherwise" (document 01), and those of document 02's
-- requests. "If an answer is an enum, a definition states this paper's number and values for each case of the enum. The promises use that definition."
-- Assumes nothing.
use Rattle.std.specs.Prelude.{ℕ, Result, Ok, Err}
use Rattle.types.specs.declared.refusal.Broken.{Broken}
use Rattle.types.specs.declared.refusal.Refusal.{Refusal}
use Rattle.types.specs.declared.refusal.Refusal.TheVariants.{PayloadLimitWrong, StoreWrong, EventListShort, TimeLate, PayloadWrong, StreamsFull, MessagesFull, StoreFull, SizeWrong, BufferShort, ImageBufferShort, QueueUsed, ImageWrong, PriorityOther, ImageLarge, WordsBroken, ChunkPayloadWrong, ChunkOutputShort, ChunkWrong, PacketLimitWrong, PacketBufferShort, TsnFar, ReceiverFull, FragmentOther, RequestUnderway, RequestOutputShort, ResponseWrong, OrderWrong, OrderImpossible}

-- The number of each.
abbrev pub refusal_number : Refusal → ℕ
-- "At creation, the payload limit is outside 1 to 65,535."
refusal_number PayloadLimitWrong = 1
-- "The store is outside 1 to 2,000,000 bytes at creation, or not of its creation length later."
refusal_number StoreWrong = 2
-- "On next fragment, discard, close or setting a threshold, the event list has fewer than 2,305 places."
refusal_number EventListShort = 3
-- "A time or lifetime is above 4,611,686,018,427,387,903."
refusal_number TimeLate = 4
-- "The payload is empty or above 262,144 bytes."
refusal_number PayloadWrong = 5
-- "The call would make a 257th known stream."
refusal_number StreamsFull = 6
-- "The message would be the 1,025th waiting."
refusal_number MessagesFull = 7
-- "The payload is longer than the free bytes."
refusal_number StoreFull = 8
-- "The size asked for is outside 1 to 262,144."
refusal_number SizeWrong = 9
-- "The fragment buffer is shorter than the size asked for."
refusal_number BufferShort = 10
-- "The image buffer is shorter than the image."
refusal_number ImageBufferShort = 11
-- "Restoring finds a queue that knows a stream, or whose next message id is not 0."
refusal_number QueueUsed = 12
-- "The image breaks a rule below."
refusal_number ImageWrong = 13
-- "The image's default priority is not the queue's."
refusal_number PriorityOther = 14
-- "The image, with the streams that only messages name, passes 256 streams, 1,024 messages or the store."
refusal_number ImageLarge = 15
-- "an amount would fall below 0 [..] or pass 2^64 - 1, or a place kept in the state lies outside its table."
refusal_number WordsBroken = 16
-- "a payload to write is empty or above 65,515 bytes" (document 02, 1/13)
refusal_number ChunkPayloadWrong = 17
-- "the output is shorter than the padded chunk"
refusal_number ChunkOutputShort = 18
-- "bytes read are not one such chunk with payload"
refusal_number ChunkWrong = 19
-- "the packet limit is outside 36 to 65,535" (5/13)
refusal_number PacketLimitWrong = 20
-- "the packet buffer is shorter than the limit"
refusal_number PacketBufferShort = 21
-- "the TSN is more than 1,024 past the last one received without a gap" (7/13)
refusal_number TsnFar = 22
-- "the payload is longer than the free store or it would be the 4,097th held fragment or from the 257th stream"
refusal_number ReceiverFull = 23
-- "a fragment at a TSN already held differs in payload or a field read"
refusal_number FragmentOther = 24
-- "a request is wanted while one is underway" (9/13)
refusal_number RequestUnderway = 25
-- "the output is shorter than the message"
refusal_number RequestOutputShort = 26
-- "received bytes break this layout"
refusal_number ResponseWrong = 27
-- "the list is empty, has more than 32 ids or names one twice, or a size is outside 1 to 262,144, or ids and sizes differ in count" (13/13)
refusal_number OrderWrong = 28
-- "no set of priorities works"
refusal_number OrderImpossible = 29

-- The number that a check gives: 0 where nothing is refused.
abbrev pub check_number : {A : Type 0} → Result A Refusal → ℕ
check_number (Ok a) = 0
check_number (Err r) = refusal_number r

-- The same of a check that gives 16 alone.
abbrev pub broken_number : {A : Type 0} → Result A Broken → ℕ
broken_number (Ok a) = 0
broken_number (Err b) = 16
