-- When words and a store are those of a receiver, and which receiver of the model they stand for. Assumes nothing.
use Rattle.std.specs.Prelude.{◌≡◌, ℕ, ◌+◌, ◌≤◌, ◌<◌, ◌^◌, Bool, true, false, List, [], ◌∷◌, ◌++◌, map, length}
use Rattle.queue_words.specs.Flags.{bit}
use Rattle.receiver_model.specs.Lists.{count, join}
use Rattle.receiver_model.specs.Types.{Chunk, Assembled, Receiver}
use Rattle.receiver_model.specs.Assembly.{width}
use Rattle.receiver_words.specs.Tables.{Header, word_at}
use Rattle.receiver_words.specs.Turns.{turn_at}
use Rattle.receiver_words.specs.Fragments.{fragment_at}
use Rattle.receiver_words.specs.Link.{Flags, Linked, turn_rows}
use Rattle.receiver_words.specs.Chunks.{kind_of}
use Rattle.receiver_words.specs.Ages.{Aged, Lined, older}
use Rattle.receiver_words.specs.declared.fragments.Fragment.{Fragment}
use Rattle.receiver_messages.specs.Keys.{interleaved_of}
use Rattle.receiver_messages.specs.Walks.{is_whole, part_after}
use Rattle.receiver_store.specs.Words.{payload_of}
use Rattle.receiver_store.specs.Good.{Laid}
use Rattle.linked_receiver.specs.Rows.{Indexed, Unique, chunk_at, loose_rows}

-- ------------------------------------------------------------------ the rows

-- which rows are what; the words determine all but the order of `ahead`, which nothing can see
pub record Ghost : Type 0 where
  -- held, newest first; free
  pub held : List ℕ
  pub free : List ℕ
  -- the first rows of the messages that wait, in order of completion, and of those that are ready
  pub waiting : List ℕ
  pub ready : List ℕ
  -- of a message's first row: its other rows, in order
  pub tail : ℕ → List ℕ
  -- the TSNs ahead, in the model's order
  pub ahead : List ℕ

-- the rows of the messages with the first rows hs
abbrev pub rows_of : (ℕ → List ℕ) → List ℕ → List ℕ
rows_of tail hs = join (map (λ (h : ℕ). h ∷ tail h) hs)

-- the rows of all whole messages
abbrev pub whole_rows : Ghost → List ℕ
whole_rows g = rows_of g.tail (g.waiting ++ g.ready)

-- rows ts follow row h by `part_after`, up to one marked last
abbrev pub Walk : List ℕ → Bool → ℕ → List ℕ → Type 0
Walk ws b h [] = (fragment_at ws h).last ≡ true
Walk ws b h (x ∷ xs) = ((fragment_at ws h).last ≡ false) × ((part_after ws b h ≡ x) × Walk ws b x xs)

-- "0 for a field its chunk does not carry": the SSN of I-DATA, the MID of DATA
abbrev pub Carried : Bool → Fragment → Type 0
Carried true f = f.ssn.0 ≡ 0
Carried false f = f.mid.0 ≡ 0

-- ------------------------------------------------------------------ good words

pub record GoodReceiver (g : Ghost) (ws st : List ℕ) : Type 0 where
  -- "not of its creation length later"; "a lent store as in 01"
  pub store_is : word_at Header ws 0 1 ≡ length st
  pub store_fits : length st ≤ 2000000
  -- every row is held or free
  pub aged : Aged ws g.held
  pub freed : Linked (older ws) (word_at Header ws 0 7) g.free
  pub cover : (x : ℕ) → x < 4096 → count x g.held + count x g.free ≡ 1
  pub held_is : word_at Header ws 0 4 ≡ length g.held
  -- held rows are found by TSN, and of I-DATA by place; messages that wait by their number
  pub by_tsn : Indexed ws 0 g.held
  pub by_place : interleaved_of ws ≡ true → Indexed ws 1 g.held
  pub by_number : Indexed ws 2 g.waiting
  pub tsn_once : Unique ws 0 g.held
  pub place_once : interleaved_of ws ≡ true → Unique ws 1 g.held
  pub carried : (x : ℕ) → 0 < count x g.held → Carried (interleaved_of ws) (fragment_at ws x)
  -- the rows of whole messages are held, each is in one of them, and no other row is marked whole
  pub whole_held : (x : ℕ) → count x (whole_rows g) ≤ count x g.held
  pub marked : (x : ℕ) → 0 < count x g.held → count x (whole_rows g) ≡ bit (is_whole ws x)
  pub walks : (h : ℕ) → 0 < count h (g.waiting ++ g.ready) → Walk ws (interleaved_of ws) h (g.tail h)
  pub lined : Lined ws 10 g.ready
  -- the TSNs ahead, and the known streams with what is next in each
  pub flags : Flags ws (word_at Header ws 0 2) g.ahead
  pub last_fits : word_at Header ws 0 2 < 2 ^ 32
  pub known_fits : word_at Header ws 0 3 ≤ 256
  pub next_fits : (t : ℕ) → t < word_at Header ws 0 3 → (turn_at ws t).next < 2 ^ width (kind_of (interleaved_of ws))
  -- the payloads of the held rows lie apart in the store
  pub laid : Laid ws st g.held

-- ------------------------------------------------------------------ the receiver that they stand for

-- row x as a fragment with its payload
abbrev pub chunk_in : List ℕ → List ℕ → ℕ → Chunk
chunk_in ws st x = chunk_at ws (interleaved_of ws) (payload_of ws st) x

-- the message whose first row is h
abbrev pub message_in : (ℕ → List ℕ) → List ℕ → List ℕ → ℕ → Assembled
message_in tail ws st h = record { head = chunk_in ws st h; tail = map (chunk_in ws st) (tail h) }

abbrev pub stands : Ghost → List ℕ → List ℕ → Receiver
stands g ws st = record {
  kind = kind_of (interleaved_of ws);
  store_length = word_at Header ws 0 1;
  last_tsn = word_at Header ws 0 2;
  ahead = g.ahead;
  loose = map (chunk_in ws st) (loose_rows ws g.held);
  waiting = map (message_in g.tail ws st) g.waiting;
  ready = map (message_in g.tail ws st) g.ready;
  turns = turn_rows ws 0 (word_at Header ws 0 3);
}

-- words and store stand for the receiver r
pub record Stands (g : Ghost) (ws st : List ℕ) (r : Receiver) : Type 0 where
  pub good : GoodReceiver g ws st
  pub is : stands g ws st ≡ r
