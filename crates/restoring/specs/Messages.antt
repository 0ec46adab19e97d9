-- Restoring, second: the messages from their records. Assumes nothing.
use Rattle.std.specs.Prelude.{Option, Some, None}
use Rattle.std.specs.Prelude.{ℕ, zero, suc, ◌+◌, ◌*◌, ◌-◌, ◌<◌, Bool, List, ltb, length, take, drop}
use Rattle.queue_model.specs.Reader.{has_flag}
use Rattle.queue_words.specs.Flags.{pick}
use Rattle.queue_words.specs.Header.{options_at, totals_at, put_totals}
use Rattle.queue_words.specs.Items.{item_at, put_item}
use Rattle.queue_words.specs.Known.{known_at}
use Rattle.queue_words.specs.Streams.{stream_at_words}
use Rattle.queue_words.specs.declared.header.Totals.{Totals}
use Rattle.queue_words.specs.Items.{Expiry}
use Rattle.queue_words.specs.declared.items.Item.{Item}
use Rattle.queue_words.specs.Items.{Numbers}
use Rattle.queue_words.specs.declared.known.Known.{Known}
use Rattle.queue_words.specs.declared.streams.OutgoingStream.{OutgoingStream}
use Rattle.payload_store.specs.Putting.{put_payload}
use Rattle.message_chains.specs.Amounts.{sum}
use Rattle.queue_streams.specs.Known.{new_stream_words, look_up, inserted}
use Rattle.queue_streams.specs.Waiting.{rescheduled}
use Rattle.queue_streams.specs.Place.{Place}
use Rattle.queue_streams.specs.Place as place
use Rattle.queue_messages.specs.Add.{linked_last, made_known}
use Rattle.handover_records.specs.Records.{message_at}
use Rattle.handover_records.specs.declared.records.HandoverStreamMessage.{HandoverStreamMessage}
use Rattle.restoring.specs.declared.message_records.Home.{Home}

-- its MID and SSN, where the MID is given; its expiry, at the time + milliseconds left
abbrev pub restored_numbers : Bool → ℕ → ℕ → Numbers
restored_numbers given mid ssn = pick given (Some (record { mid = record { 0 = mid }; ssn = record { 0 = ssn } })) None

abbrev pub restored_expiry : Bool → ℕ → ℕ → Expiry
restored_expiry expires time left = pick expires (Some (time + left * 1000000)) None

-- the message as it waits, its payload not yet stored
unfoldable pub restored_item_words : ℕ → HandoverStreamMessage → Item
restored_item_words time r = record {
  max_retransmissions = r.max_retransmissions;
  unordered = has_flag 1 r.flags;
  message_id = record { 0 = r.message_id };
  ppid = r.ppid;
  numbers = restored_numbers (has_flag 2 r.flags) r.mid r.ssn;
  fsn = record { 0 = r.fsn };
  expires_at = restored_expiry (has_flag 4 r.flags) time r.ms_left;
  lifecycle_id = r.lifecycle_id;
  place = 0;
  length = 0;
  offset = r.offset;
  next = 1024;
}

-- the bytes of it that are not sent
unfoldable pub unsent_of : HandoverStreamMessage → ℕ
unsent_of r = r.length - r.offset

-- the totals with one message and n bytes more; the first free place is taken
abbrev pub with_restored : Totals → ℕ → ℕ → Totals
with_restored t free n = record {
  interleaving = t.interleaving;
  next_message_id = t.next_message_id;
  total = sum t.total n;
  known = t.known;
  waiting = sum t.waiting 1;
  free = free;
  used = t.used;
  gaps = t.gaps;
}

unfoldable pub counted_restored : List ℕ → ℕ → ℕ → List ℕ
counted_restored ws free n = put_totals ws (with_restored (totals_at ws) free n)

-- the words, the store, and where the next record begins
pub record Restored : Type 0 where
  pub words : List ℕ
  pub store : List ℕ
  pub at : ℕ

abbrev pub restored : List ℕ → List ℕ → ℕ → Restored
restored ws st at = record { words = ws; store = st; at = at }

-- the message in place p, at the end of its stream's chain, with its payload; n bytes of it are not sent
unfoldable pub hung_at : List ℕ → List ℕ → ℕ → OutgoingStream → ℕ → ℕ → Item → List ℕ → ℕ → ℕ → Restored
hung_at ws st row s p free m payload n at =
    let o = put_payload (put_item ws p m) st p payload in
    restored (counted_restored (linked_last o.words row s p n) free n) o.store at

-- a free place outside its table, which cannot be, is passed over
unfoldable pub hung : List ℕ → List ℕ → ℕ → OutgoingStream → Item → List ℕ → ℕ → ℕ → Restored
hung ws st row s m payload n at =
    pick (ltb 1023 (totals_at ws).free) (restored ws st at)
    (hung_at ws st row s (totals_at ws).free (item_at ws (totals_at ws).free).next m payload n at)

-- where a message goes: the row of its stream and the stream before it, and the words with the stream known; a row outside the table where it cannot be
abbrev pub home_in : List ℕ → Place → Home
home_in ws (place.Row row) = record { row = row; stream = stream_at_words ws row }
home_in ws (place.New position) = record { row = (totals_at ws).known; stream = new_stream_words (options_at ws) }
home_in ws (place.Refused code) = record { row = 256; stream = new_stream_words (options_at ws) }

pub record Homed : Type 0 where
  pub home : Home
  pub words : List ℕ

abbrev pub homed : Home → List ℕ → Homed
homed h ws = record { home = h; words = ws }

-- What the code finds, beside the words as it leaves them: a home, whose row lies in the table, or none.
abbrev pub as_home : Option Home → List ℕ → Home
as_home (Some h) ws = h
as_home None ws = record { row = 256; stream = new_stream_words (options_at ws) }

abbrev pub InTable : Option Home → Type 0
InTable (Some h) = h.row < 256
InTable None = Unit {0}

unfoldable pub home_of : List ℕ → ℕ → Homed
home_of ws id = homed (home_in ws (look_up ws id)) (made_known ws id (look_up ws id))

-- a message of a known stream, or of one "that only messages name"; that there is no room for it the test has ruled out
abbrev pub hung_in : List ℕ → List ℕ → ℕ → Item → List ℕ → ℕ → ℕ → Place → Restored
hung_in ws st id m payload n at (place.Row row) = hung ws st row (stream_at_words ws row) m payload n at
hung_in ws st id m payload n at (place.New position) =
    hung (inserted ws position id (new_stream_words (options_at ws))) st (totals_at ws).known (new_stream_words (options_at ws)) m payload n at
hung_in ws st id m payload n at (place.Refused code) = restored ws st at

unfoldable pub hung_with : List ℕ → List ℕ → ℕ → Item → List ℕ → ℕ → ℕ → Restored
hung_with ws st id m payload n at = hung_in ws st id m payload n at (look_up ws id)

-- the message of the record at x.at; a record outside the image, which the test has ruled out, is passed over
unfoldable pub record_restored : Restored → List ℕ → ℕ → HandoverStreamMessage → Restored
record_restored x bs time r =
    pick (ltb (length bs - 44 - x.at) r.length) x
    (hung_with x.words x.store r.id (restored_item_words time r) (take r.length (drop (x.at + 44) bs)) (unsent_of r) (x.at + 44 + r.length))

unfoldable pub message_restored : Restored → List ℕ → ℕ → Restored
message_restored x bs time =
    pick (ltb (length bs) 44) x
    (pick (ltb (length bs - 44) x.at) x
    (record_restored x bs time (message_at bs x.at)))

-- the messages of the first n records from `at` on
unfoldable pub messages_restored : List ℕ → List ℕ → ℕ → List ℕ → ℕ → ℕ → Restored
messages_restored ws st at bs time zero = restored ws st at
messages_restored ws st at bs time (suc k) = message_restored (messages_restored ws st at bs time k) bs time

-- ------------------------------------------------------------------ waiting

-- a stream with messages waits; a place outside its table, which cannot be, is passed over
unfoldable pub waits_at : Bool → List ℕ → Known → List ℕ
waits_at il ws k =
    pick (ltb 255 k.place) ws
    (pick (ltb (stream_at_words ws k.place).first 1024) (rescheduled ws il k.id.0 (stream_at_words ws k.place).first (stream_at_words ws k.place).priority) ws)

unfoldable pub waits_all : Bool → List ℕ → ℕ → List ℕ
waits_all il ws zero = ws
waits_all il ws (suc i) = waits_at il (waits_all il ws i) (known_at (waits_all il ws i) i)
