-- The messages: 1,024 rows of 16 words from word 3104 on, 15 of them used. Assumes nothing.
use Rattle.std.specs.Prelude.{ℕ, ◌+◌, ◌*◌, ◌%◌, ◌<◌, Bool, true, false, List, [], ◌∷◌, Option, Some, None, get_or, set}
use Rattle.types.specs.declared.Mid.{Mid}
use Rattle.types.specs.declared.Ssn.{Ssn}
use Rattle.queue_words.specs.Rows.{row, put_row}
use Rattle.queue_words.specs.Flags.{bit, flag, pick}
use Rattle.queue_words.specs.declared.items.MessageNumbers.{MessageNumbers}
use Rattle.queue_words.specs.declared.items.Item.{Item}

-- when a message expires
abbrev pub Expiry : Type 0
Expiry = Option ℕ

-- a message's MID and SSN, which it gets together
abbrev pub Numbers : Type 0
Numbers = Option MessageNumbers

-- the expiry in two words, a flag and a time
abbrev pub expiry_of : ℕ → ℕ → Expiry
expiry_of f t = pick (flag f) (Some t) None

-- whether there is one, and its time, 0 for none
abbrev pub has_expiry : Expiry → Bool
has_expiry None = false
has_expiry (Some t) = true

abbrev pub expiry_at : Expiry → ℕ
expiry_at None = 0
expiry_at (Some t) = t

-- a message's MID and SSN in three words, a flag and the two
abbrev pub numbers_of : ℕ → ℕ → ℕ → Numbers
numbers_of f mid ssn = pick (flag f) (Some (record { mid = record { 0 = mid % 4294967296 }; ssn = record { 0 = ssn % 65536 } })) None

-- whether it has them, and each, 0 where they are missing
abbrev pub are_given : Numbers → Bool
are_given None = false
are_given (Some n) = true

abbrev pub mid_in : Numbers → Mid
mid_in None = record { 0 = 0 }
mid_in (Some n) = n.mid

abbrev pub ssn_in : Numbers → Ssn
ssn_in None = record { 0 = 0 }
ssn_in (Some n) = n.ssn

-- a message in fifteen words
abbrev pub item_of : List ℕ → Item
item_of vs = record {
  max_retransmissions = get_or vs 1 0 % 65536;
  unordered = flag (get_or vs 2 0);
  message_id = record { 0 = get_or vs 5 0 % 4294967296 };
  ppid = get_or vs 6 0 % 4294967296;
  numbers = numbers_of (get_or vs 3 0) (get_or vs 7 0) (get_or vs 0 0);
  fsn = record { 0 = get_or vs 8 0 % 4294967296 };
  expires_at = expiry_of (get_or vs 4 0) (get_or vs 9 0);
  lifecycle_id = get_or vs 10 0;
  place = get_or vs 11 0;
  length = get_or vs 12 0;
  offset = get_or vs 13 0;
  next = get_or vs 14 0;
}

-- its words
abbrev pub item_words : Item → List ℕ
item_words m = (ssn_in m.numbers).0 ∷ m.max_retransmissions ∷ bit m.unordered ∷ bit (are_given m.numbers) ∷ bit (has_expiry m.expires_at) ∷ m.message_id.0
    ∷ m.ppid ∷ (mid_in m.numbers).0 ∷ m.fsn.0 ∷ expiry_at m.expires_at ∷ m.lifecycle_id ∷ m.place ∷ m.length ∷ m.offset ∷ m.next ∷ []

-- what load and store do, word by word
abbrev pub item_out : List ℕ → ℕ → Item
item_out ws i = item_of (row ws (3104 + i * 16) 15)

abbrev pub item_row_in : List ℕ → ℕ → Item → List ℕ
item_row_in ws i m = put_row ws (3104 + i * 16) (item_words m)

-- the message in row i
unfoldable pub item_at : List ℕ → ℕ → Item
item_at ws i = item_out ws i

-- the words with m in row i
unfoldable pub put_item : List ℕ → ℕ → Item → List ℕ
put_item ws i m = item_row_in ws i m

-- every narrow field is a value of its type
pub record FitsItem (m : Item) : Type 0 where
  pub ssn_fits : (ssn_in m.numbers).0 < 65536
  pub retransmissions_fits : m.max_retransmissions < 65536
  pub message_id_fits : m.message_id.0 < 4294967296
  pub ppid_fits : m.ppid < 4294967296
  pub mid_fits : (mid_in m.numbers).0 < 4294967296
  pub fsn_fits : m.fsn.0 < 4294967296

-- one word of row i: the next place, the payload's place, the payload's length
unfoldable pub put_next : List ℕ → ℕ → ℕ → List ℕ
put_next ws i v = set ws (3104 + i * 16 + 14) v

unfoldable pub put_place : List ℕ → ℕ → ℕ → List ℕ
put_place ws i v = set ws (3104 + i * 16 + 11) v

unfoldable pub put_length : List ℕ → ℕ → ℕ → List ℕ
put_length ws i v = set ws (3104 + i * 16 + 12) v

-- a message with another one of these three
abbrev pub with_next : Item → ℕ → Item
with_next m v = record {
  max_retransmissions = m.max_retransmissions;
  unordered = m.unordered;
  message_id = m.message_id;
  ppid = m.ppid;
  numbers = m.numbers;
  fsn = m.fsn;
  expires_at = m.expires_at;
  lifecycle_id = m.lifecycle_id;
  place = m.place;
  length = m.length;
  offset = m.offset;
  next = v;
}

abbrev pub with_place : Item → ℕ → Item
with_place m v = record {
  max_retransmissions = m.max_retransmissions;
  unordered = m.unordered;
  message_id = m.message_id;
  ppid = m.ppid;
  numbers = m.numbers;
  fsn = m.fsn;
  expires_at = m.expires_at;
  lifecycle_id = m.lifecycle_id;
  place = v;
  length = m.length;
  offset = m.offset;
  next = m.next;
}

abbrev pub with_length : Item → ℕ → Item
with_length m v = record {
  max_retransmissions = m.max_retransmissions;
  unordered = m.unordered;
  message_id = m.message_id;
  ppid = m.ppid;
  numbers = m.numbers;
  fsn = m.fsn;
  expires_at = m.expires_at;
  lifecycle_id = m.lifecycle_id;
  place = m.place;
  length = v;
  offset = m.offset;
  next = m.next;
}
