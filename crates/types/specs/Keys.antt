-- What the methods of `StreamKey` cite: its definitions by cases. Assumes nothing.
use Rattle.std.specs.Prelude.{Bool, true, false}
use Rattle.types.specs.declared.StreamId.{StreamId}
use Rattle.types.specs.declared.StreamKey.{StreamKey}
use Rattle.types.specs.declared.StreamKey.TheVariants.{Ordered, Unordered}

-- The key of a stream's unordered side, or of its ordered one.
abbrev pub key_of : Bool → StreamId → StreamKey
key_of true id = Unordered id
key_of false id = Ordered id

-- The stream of a key.
abbrev pub key_id : StreamKey → StreamId
key_id (Ordered id) = id
key_id (Unordered id) = id

-- Whether a key is of the unordered side.
abbrev pub key_unordered : StreamKey → Bool
key_unordered (Ordered id) = false
key_unordered (Unordered id) = true
