-- Receiving a chunk (document 02, 7/13): what is answered and left, for any words, any store and any bytes. Assumes nothing.
use Rattle.std.specs.Prelude.{ℕ, Bool, not, List, eqb, length}
use Rattle.types.specs.Keys.{key_id, key_unordered}
use Rattle.queue_words.specs.Flags.{pick}
use Rattle.chunks.specs.declared.chunk.Chunk.{Chunk}
use Rattle.chunks.specs.declared.chunk.ChunkKind.{ChunkKind}
use Rattle.chunks.specs.declared.chunk.ChunkKind.TheVariants as kind
use Rattle.chunks.specs.ChunkRead.{ChunkRead}
use Rattle.chunks.specs.ChunkRead as read
use Rattle.chunks.specs.Reading.{read_chunk, payload_of}
use Rattle.receiver_words.specs.Tables.{Header, word_at}
use Rattle.receiver_words.specs.declared.fragments.Fragment.{Fragment}
use Rattle.receiver_messages.specs.Keys.{interleaved_of}
use Rattle.receiver_fragments.specs.Received.{Refused}
use Rattle.receiver_fragments.specs.Receiving.{Outcome, received, receive_fragment}

-- the fields read of a chunk
abbrev pub fragment_of : Chunk → Fragment
fragment_of c = record {
  stream = record { 0 = (key_id c.fragment.«data».stream_key).0 };
  ssn = record { 0 = c.fragment.«data».ssn.0 };
  unordered = key_unordered c.fragment.«data».stream_key;
  first = c.fragment.«data».is_beginning;
  last = c.fragment.«data».is_end;
  tsn = c.tsn;
  mid = record { 0 = c.fragment.«data».mid.0 };
  fsn = record { 0 = c.fragment.«data».fsn.0 };
  ppid = c.fragment.«data».ppid;
}

-- "one kind fixed at creation"
abbrev pub of_kind : ChunkKind → Bool → Bool
of_kind kind.Data b = not b
of_kind kind.IData b = b

-- "(the other gets 19)"
unfoldable pub receive_read : List ℕ → List ℕ → Chunk → List ℕ → Outcome
receive_read ws st c bs =
    pick (of_kind c.kind (interleaved_of ws)) (receive_fragment ws st (interleaved_of ws) (fragment_of c) (payload_of c bs)) (received (Refused 19) ws st)

-- what 1/13's reader gives
abbrev pub receive_as : List ℕ → List ℕ → List ℕ → ChunkRead → Outcome
receive_as ws st bs (read.Read c) = receive_read ws st c bs
receive_as ws st bs (read.Refused n) = received (Refused n) ws st

-- 2: "not of its creation length later"; "checked as 2, 19, 24, repeats, 22, 23"
unfoldable pub receive : List ℕ → List ℕ → List ℕ → Outcome
receive ws st bs = pick (eqb (length st) (word_at Header ws 0 1)) (receive_as ws st bs (read_chunk bs)) (received (Refused 2) ws st)
