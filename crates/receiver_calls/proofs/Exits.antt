-- A chunk of the receiver's kind is received, over plain values. Assumes nothing.
use mathlib.Core.Path.{◌≡◌, ap, ◌∙◌}
use mathlib.Core.Bool.{Bool, true}
use mathlib.Core.List.{List}
use Prim.Native.Nat.{ℕ, ◌+◌, ◌-◌}
use lib.ListN.{take, drop}
use Rattle.chunks.specs.declared.chunk.Chunk.{Chunk}
use Rattle.receiver_words.specs.declared.fragments.Fragment.{Fragment}
use Rattle.receiver_store.proofs.Exits.{part_of}
use Rattle.receiver_messages.specs.Keys.{interleaved_of}
use Rattle.receiver_fragments.specs.Receiving.{Outcome, receive_fragment}
use Rattle.receiver_calls.specs.Receiving.{fragment_of, of_kind, receive_read}

pub read_received : (ws st bs : List ℕ) (c : Chunk) (o : Outcome) (b m : Bool) (f : Fragment) → b ≡ interleaved_of ws → m ≡ of_kind c.kind b → m ≡ true → f ≡ fragment_of c
    → o ≡ receive_fragment ws st b f (take (c.payload_at + c.fragment.«data».length - c.payload_at) (drop c.payload_at bs)) → o ≡ receive_read ws st c bs
unfolding receive_read
read_received ws st bs c o b m f eb em t ef eo =
    rw (← eb, ← em, t, ← ef) (eo ∙ ap (receive_fragment ws st b f) (part_of bs c.payload_at c.fragment.«data».length))
