-- The waiting messages of a stream, followed from the history of calls (document 02, 4/13): what arrived and has not ended, in order of arrival, with
-- its numbers. No chain, no place, no scheduler and no amount is in it.
-- Assumes nothing.
use Rattle.std.specs.Prelude.{ℕ, Bool, true, false, List, [], ◌∷◌, ◌++◌, ◌≡◌, eqb}
use Rattle.std.proofs.Math.Option.{Option, none, some}
use Rattle.types.specs.Wrap.{wrap_suc}
use Rattle.std.specs.Prelude.{if◌then◌else◌}
use Rattle.queue_model.specs.Table.{find}
use Rattle.queue_model.specs.Types.{Item, PauseState, not_paused, pending, paused, resetting, Counters, Stream, Options, Queue, Message, expired, with_numbers}
use Rattle.queue_model.specs.Streams.{stream_at, zero_counters, new_queue}
use Rattle.queue_model.specs.Add.{new_item}
use Rattle.queue_model.specs.Produce.{Numbered, numbered, moved_on, end_pending}
use Rattle.queue_model.specs.Close.{kept, closed_state}
use Rattle.queue_model.specs.Reset.{whole_head}
use Rattle.queue_model.specs.Image.{StreamRecord, MessageRecord, Handover}
use Rattle.queue_model.specs.Reader.{read_image}
use Rattle.queue_model.specs.Restore.{restored_item}
use Rattle.queue_model.specs.Run.{Call, add, produce, fill, discard, close, ready_ids, commit, rollback, reset, set_threshold, set_priority, set_interleaving, restore, ask_priority, ask_amount, ask_threshold, ask_total, ask_empty, ask_has_data, ask_streams_ready, ask_ready_count, ask_readiness, ask_room, after}
use Rattle.queue_model.specs.History.{Piece, Entry, asks_at, history}

-- ------------------------------------------------------------------ the ledger of a stream

-- The next message id of the queue, and of one stream its state, its counters and its waiting messages, first arrived first.
pub record Ledger : Type 0 where
  pub next_id : ℕ
  pub state : PauseState
  pub counters : Counters
  pub messages : List Item

abbrev pub ledger_with : Ledger → PauseState → Counters → List Item → Ledger
ledger_with l p c is = record { next_id = l.next_id; state = p; counters = c; messages = is }

-- Before the first call.
abbrev pub new_ledger : Ledger
new_ledger = record { next_id = 0; state = not_paused; counters = zero_counters; messages = [] }

-- A change to stream s, in the ledger of stream k.
unfoldable pub on_stream : ℕ → ℕ → (Ledger → Ledger) → Ledger → Ledger
on_stream s k change l = if eqb s k then change l else l

-- ------------------------------------------------------------------ what each call enters

-- Adding: the message comes last in its stream. "Message ids have 32 bits, start at 0, grow by one with each accepted message and wrap."
unfoldable pub append_arrival : ℕ → Message → Ledger → Ledger
unfolding new_item
append_arrival now m l = ledger_with l l.state l.counters (l.messages ++ (new_item now l.next_id m ∷ []))

abbrev pub count_arrival : Ledger → Ledger
count_arrival l = record { next_id = wrap_suc 32 l.next_id; state = l.state; counters = l.counters; messages = l.messages }

-- The head is dropped if a test says so. "When a pending stream's message ends or is discarded, it is paused."; document 02, 3/13: "When a pending
-- stream's half-sent head expires, the stream becomes
-- paused".
unfoldable pub drop_first : (Item → Bool) → Ledger → List Item → Ledger
unfolding end_pending
drop_first meant l [] = l
drop_first meant l (i ∷ is) = if meant i then ledger_with l (end_pending l.state) l.counters is else l

-- "An expired head of the chosen stream is dropped, half-sent or not". A head that has not expired stays, whatever was chosen.
abbrev pub has_expired : ℕ → Item → Bool
has_expired now i = expired now i.expires_at

unfoldable pub expire_head : ℕ → Ledger → Ledger
unfolding drop_first
expire_head now l = drop_first (has_expired now) l l.messages

-- The same for each of the streams that were passed over, in order.
unfoldable pub expire_heads : ℕ → ℕ → List ℕ → Ledger → Ledger
unfolding on_stream expire_head
expire_heads k now [] l = l
expire_heads k now (s ∷ ss) l = expire_heads k now ss (on_stream s k (expire_head now) l)

-- A fragment of a message with its numbers. "A message gets its MID when its first fragment is made, ordered and unordered counting separately in each
-- stream"; "FSN grows by one a fragment"; so many
-- bytes more are sent, and with its last fragment the message is gone: "When a pending stream's message ends or is discarded, it is paused."
unfoldable pub sent_on : Piece → Ledger → Numbered → List Item → Ledger
unfolding moved_on end_pending
sent_on p l v is = ledger_with l (if p.last then end_pending l.state else l.state) v.counters (if p.last then is else moved_on v.item p.size ∷ is)

-- It is of the head that it names.
unfoldable pub send_first : Piece → Ledger → List Item → Ledger
unfolding sent_on numbered
send_first p l [] = l
send_first p l (i ∷ is) = if eqb i.message_id p.message_id then sent_on p l (numbered l.counters i) is else l

unfoldable pub send_piece : Piece → Ledger → Ledger
unfolding send_first
send_piece p l = send_first p l l.messages

unfoldable pub send_pieces : ℕ → List Piece → Ledger → Ledger
unfolding on_stream send_piece
send_pieces k [] l = l
send_pieces k (p ∷ ps) l = send_pieces k ps (on_stream p.stream_id k (send_piece p) l)

-- "Discard acts only on a head with that id."
abbrev pub has_message_id : ℕ → Item → Bool
has_message_id m i = eqb i.message_id m

unfoldable pub discard_head : ℕ → Ledger → Ledger
unfolding drop_first
discard_head m l = drop_first (has_message_id m) l l.messages

-- "Closing changes nothing unless the stream is open. It drops every message at offset 0; a remaining half-sent one makes the stream pending, none makes
-- it paused."
unfoldable pub close_in : PauseState → Ledger → Ledger
unfolding kept closed_state
close_in not_paused l = let is = kept l.messages in ledger_with l (closed_state is) l.counters is
close_in pending l = l
close_in paused l = l
close_in resetting l = l

unfoldable pub close_stream : Ledger → Ledger
unfolding close_in
close_stream l = close_in l.state l

-- "Ready ids [..] become resetting."
unfoldable pub readied : PauseState → PauseState
readied not_paused = not_paused
readied pending = pending
readied paused = resetting
readied resetting = resetting

unfoldable pub ready_stream : Ledger → Ledger
unfolding readied
ready_stream l = ledger_with l (readied l.state) l.counters l.messages

-- "For every resetting stream, commit sets the three counters to 0 and opens, and rollback opens".
unfoldable pub reopen_in : PauseState → Bool → Ledger → Ledger
reopen_in not_paused zeroed l = l
reopen_in pending zeroed l = l
reopen_in paused zeroed l = l
reopen_in resetting zeroed l = ledger_with l not_paused (if zeroed then zero_counters else l.counters) l.messages

unfoldable pub reopen_stream : Bool → Ledger → Ledger
unfolding reopen_in
reopen_stream zeroed l = reopen_in l.state zeroed l

-- "Whole-queue reset opens all streams, zeroes their counters and puts each head message back whole, keeping its MID, SSN and FSN"; document 02, 6/13:
-- "Strict reset removes the head message's MID and SSN
-- and sets its FSN to 0."
unfoldable pub reset_ledger : Bool → Ledger → Ledger
unfolding whole_head
reset_ledger strict l = ledger_with l not_paused zero_counters (whole_head strict l.messages)

-- A restored image: the stream's messages in the order of their records, its counters from its record; "a stream with zero counters and the trailer's
-- default priority has none". "Restored streams are
-- open". (What strict restoring refuses enters nothing.)
unfoldable pub records_of : ℕ → ℕ → List MessageRecord → List Item
unfolding restored_item
records_of k now [] = []
records_of k now (r ∷ rs) = let rest = records_of k now rs in if eqb r.id k then restored_item now r ∷ rest else rest

abbrev pub record_key : StreamRecord → ℕ
record_key r = r.id

unfoldable pub record_counters : Option StreamRecord → Counters
record_counters none = zero_counters
record_counters (some r) = record { next_ssn = r.next_ssn; next_unordered_mid = r.next_unordered_mid; next_ordered_mid = r.next_ordered_mid }

unfoldable pub image_laid : ℕ → ℕ → Option Handover → Ledger → Ledger
unfolding records_of record_counters find
image_laid k now none l = l
image_laid k now (some h) l = record { next_id = h.next_message_id; state = not_paused; counters = record_counters (find record_key k h.streams); messages = records_of k now h.messages }

-- ------------------------------------------------------------------ the ledger after a history

-- What an accepted call enters in the ledger of stream k; the rule of a restart is creation's. A filling enters nothing by itself: the calls for the
-- next fragment that it is made of stand behind it (`history`).
unfoldable pub entered : Bool → ℕ → Call → List Piece → List ℕ → Ledger → Ledger
unfolding on_stream append_arrival expire_heads send_pieces discard_head close_stream ready_stream reopen_stream reset_ledger image_laid read_image
entered strict k (add store now m) ps ss l = count_arrival (on_stream m.stream_id k (append_arrival now m) l)
entered strict k (produce store places buffer now size) ps ss l = send_pieces k ps (expire_heads k now ss l)
entered strict k (fill store places buffer now p) ps ss l = l
entered strict k (discard places s m) ps ss l = on_stream s k (discard_head m) l
entered strict k (close places s) ps ss l = on_stream s k close_stream l
entered strict k ready_ids ps ss l = ready_stream l
entered strict k commit ps ss l = reopen_stream true l
entered strict k rollback ps ss l = reopen_stream false l
entered strict k reset ps ss l = reset_ledger strict l
entered strict k (set_threshold places s t) ps ss l = l
entered strict k (set_priority s p) ps ss l = l
entered strict k (set_interleaving b) ps ss l = l
entered strict k (restore store now image) ps ss l = image_laid k now (read_image image) l
entered strict k (ask_priority s) ps ss l = l
entered strict k (ask_amount s) ps ss l = l
entered strict k (ask_threshold s) ps ss l = l
entered strict k ask_total ps ss l = l
entered strict k ask_empty ps ss l = l
entered strict k ask_has_data ps ss l = l
entered strict k ask_streams_ready ps ss l = l
entered strict k ask_ready_count ps ss l = l
entered strict k ask_readiness ps ss l = l
entered strict k (ask_room r) ps ss l = l

-- A refused call enters nothing.
unfoldable pub enter : Bool → ℕ → Entry → Ledger → Ledger
unfolding entered
enter strict k e l = if e.refused then l else entered strict k e.call e.pieces e.passed_over l

unfoldable pub ledger : Bool → ℕ → List Entry → Ledger → Ledger
unfolding enter
ledger strict k [] l = l
ledger strict k (e ∷ es) l = ledger strict k es (enter strict k e l)

-- ------------------------------------------------------------------ what is passed over and sent

-- There is a first message, and it is such.
abbrev pub HeadIs : (Item → Bool) → List Item → Type 0
HeadIs test [] = ⊥
HeadIs test (i ∷ is) = test i ≡ true

-- Wherever stream k is passed over, its head has expired at the call's time.
abbrev pub HeadsExpired : ℕ → ℕ → List ℕ → Ledger → Type 0
HeadsExpired k now [] l = Unit {0}
HeadsExpired k now (s ∷ ss) l = (s ≡ k → HeadIs (has_expired now) l.messages) × HeadsExpired k now ss (on_stream s k (expire_head now) l)

-- Wherever a fragment is of stream k, it names its head.
abbrev pub HeadsNamed : ℕ → List Piece → Ledger → Type 0
HeadsNamed k [] l = Unit {0}
HeadsNamed k (p ∷ ps) l = (p.stream_id ≡ k → HeadIs (has_message_id p.message_id) l.messages) × HeadsNamed k ps (on_stream p.stream_id k (send_piece p) l)

-- Both of a call that asks for a next fragment; no other passes over a head.
abbrev pub RightAt : ℕ → Option ℕ → List Piece → List ℕ → Ledger → Type 0
RightAt k none ps ss l = ss ≡ []
RightAt k (some now) ps ss l = HeadsExpired k now ss l × HeadsNamed k ps (expire_heads k now ss l)

abbrev pub Right : ℕ → Entry → Ledger → Type 0
Right k e l = RightAt k (asks_at e.call) e.pieces e.passed_over l

-- Of every call of a history.
abbrev pub AllRight : Bool → ℕ → List Entry → Ledger → Type 0
AllRight strict k [] l = Unit {0}
AllRight strict k (e ∷ es) l = Right k e l × AllRight strict k es (enter strict k e l)

-- ------------------------------------------------------------------ all that arrived

-- The next message id of the queue, and every message that arrived at one stream, in order of arrival.
pub record Arrivals : Type 0 where
  pub next_id : ℕ
  pub messages : List Item

abbrev pub no_arrivals : Arrivals
no_arrivals = record { next_id = 0; messages = [] }

-- A message added to stream k; the messages of an image, in the order of their records.
unfoldable pub image_arrives : ℕ → ℕ → Option Handover → Arrivals → Arrivals
unfolding records_of
image_arrives k now none b = b
image_arrives k now (some h) b = record { next_id = h.next_message_id; messages = b.messages ++ records_of k now h.messages }

unfoldable pub arrives : ℕ → Call → Arrivals → Arrivals
unfolding new_item image_arrives read_image
arrives k (add store now m) b = record { next_id = wrap_suc 32 b.next_id; messages = if eqb m.stream_id k then b.messages ++ (new_item now b.next_id m ∷ []) else b.messages }
arrives k (produce store places buffer now size) b = b
arrives k (fill store places buffer now p) b = b
arrives k (discard places s m) b = b
arrives k (close places s) b = b
arrives k ready_ids b = b
arrives k commit b = b
arrives k rollback b = b
arrives k reset b = b
arrives k (set_threshold places s t) b = b
arrives k (set_priority s p) b = b
arrives k (set_interleaving x) b = b
arrives k (restore store now image) b = image_arrives k now (read_image image) b
arrives k (ask_priority s) b = b
arrives k (ask_amount s) b = b
arrives k (ask_threshold s) b = b
arrives k ask_total b = b
arrives k ask_empty b = b
arrives k ask_has_data b = b
arrives k ask_streams_ready b = b
arrives k ask_ready_count b = b
arrives k ask_readiness b = b
arrives k (ask_room r) b = b

-- After a history: from the calls, and from whether they were refused, alone.
unfoldable pub arrivals : ℕ → List Entry → Arrivals → Arrivals
unfolding arrives
arrivals k [] b = b
arrivals k (e ∷ es) b = arrivals k es (if e.refused then b else arrives k e.call b)

-- The message y as it arrived is x now, which may have other numbers and another offset.
abbrev pub Same : Item → Item → Type 0
Same x y = with_numbers x y.mid y.ssn y.fsn y.offset ≡ y

-- The first list is the second without some of its messages, in the same order.
pub data InOrder : List Item → List Item → Type 0 where
  none_left : (ys : List Item) → InOrder [] ys
  ended : (xs : List Item) (y : Item) (ys : List Item) → InOrder xs ys → InOrder xs (y ∷ ys)
  waits : (x : Item) (xs : List Item) (y : Item) (ys : List Item) → Same x y → InOrder xs ys → InOrder (x ∷ xs) (y ∷ ys)

-- ------------------------------------------------------------------ the claims

-- What a queue of the model holds of stream k.
abbrev pub stream_view : ℕ → Stream → Ledger
stream_view n s = record { next_id = n; state = s.pause_state; counters = s.counters; messages = s.items }

abbrev pub view : ℕ → Queue → Ledger
view k q = stream_view q.next_message_id (stream_at q k)

-- From a new queue, after any calls, each stream holds exactly the messages that its ledger has, in its order.
unfoldable pub Request4Ledger : Type 0
unfolding ledger history after new_queue
Request4Ledger = (o : Options) (cs : List Call) (k : ℕ) → view k (after cs (new_queue o)) ≡ ledger o.strict_restart k (history cs (new_queue o)) new_ledger

-- The history names no stream whose head had not expired at that call's time, and no fragment but of a head.
unfoldable pub Request4Passed : Type 0
unfolding ledger history new_queue
Request4Passed = (o : Options) (cs : List Call) (k : ℕ) → AllRight o.strict_restart k (history cs (new_queue o)) new_ledger

-- The ledger's messages are a part of those that arrived, in order of arrival (or image), whatever the history.
unfoldable pub Request4Order : Type 0
unfolding ledger arrivals
Request4Order = (strict : Bool) (k : ℕ) (es : List Entry) → InOrder (ledger strict k es new_ledger).messages (arrivals k es no_arrivals).messages
