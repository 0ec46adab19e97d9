-- Refusal 16 where document 01 asks for it, on any words at all: "The scheduler chose a stream with no waiting message, or an amount would fall below 0 [..] or pass 2^64 - 1, or a place kept
-- in the state lies outside its table." (On the words of a queue none of this is: `no_sixteen`.) Assumes nothing.
use Rattle.std.specs.Prelude.{ℕ, zero, suc, ◌+◌, ◌≤◌, ◌<◌, ◌≡◌, Bool, true, false, List, ◌⊎◌, ltb, length}
use Rattle.queue_words.specs.Active.{active_at}
use Rattle.queue_words.specs.Find.{find_stream_words}
use Rattle.queue_words.specs.Flags.{pick}
use Rattle.queue_words.specs.Header.{options_at, totals_at}
use Rattle.queue_words.specs.Items.{item_at}
use Rattle.queue_words.specs.Known.{known_at, known_count}
use Rattle.queue_words.specs.Streams.{stream_at_words}
use Rattle.queue_words.specs.declared.streams.PauseState.TheVariants.{NotPaused}
use Rattle.queue_words.specs.declared.items.Item.{Item}
use Rattle.queue_words.specs.declared.known.Found.TheVariants as found
use Rattle.queue_words.specs.declared.streams.OutgoingStream.{OutgoingStream}
use Rattle.stream_scheduler.specs.Words.{peek_words}
use Rattle.stream_scheduler.specs.declared.Peeked.TheVariants as peeked
use Rattle.queue_streams.specs.Events.{event_words}
use Rattle.queue_streams.specs.Known.{look_up, new_stream_words}
use Rattle.queue_streams.specs.Restart.{alike}
use Rattle.queue_streams.specs.Place as place
use Rattle.message_chains.specs.Amounts.{rest}
use Rattle.queue_messages.specs.Add.{arguments_code, full_code}
use Rattle.queue_messages.specs.declared.message.Message.{Message}
use Rattle.queue_restarts.specs.Reset.{put_back}
use Rattle.queue_sending.specs.Choice.{look_ahead}
use Rattle.queue_sending.specs.Fragment.{least_of}
use Rattle.queue_sending.specs.Produce.{produce_code}
use Rattle.queue_sending.specs.Look as look
use Rattle.queue_runs.specs.Calls.{Call, add, produce, discard, close, ready_ids, commit, rollback, reset, set_threshold, set_priority, set_interleaving, ask_priority, ask_amount, ask_threshold, ask_streams_ready, ask_ready_count}
use Rattle.queue_runs.specs.Numbers.{refusal_number}
use Rattle.queue_runs.specs.Run.{State, step}

-- The call is refused with 16.
abbrev pub IsSixteen : Call → State → Type 0
IsSixteen c s = refusal_number (step c s).shows.answer ≡ 16

-- ------------------------------------------------------------------ a place outside its table

-- "a place kept in the state lies outside its table": the row of a known stream, or a 257th known stream, whose position has no row.
pub record Misplaced (ws : List ℕ) : Type 0 where
  pub at : ℕ
  pub known : at < (totals_at ws).known
  pub outside : 255 < (known_at ws at).place

abbrev pub Unplaced : List ℕ → Type 0
Unplaced ws = Misplaced ws ⊎ (256 < known_count ws)

-- The calls that go through all known streams.
pub record UnplacedGets (s : State) : Type 0 where
  pub by_ready_ids : IsSixteen ready_ids s
  pub by_ask_count : IsSixteen ask_ready_count s
  pub by_commit : IsSixteen commit s
  pub by_rollback : IsSixteen rollback s
  pub by_reset : IsSixteen reset s
  pub by_switch : (b : Bool) → alike b (totals_at s.words).interleaving ≡ false → IsSixteen (set_interleaving b) s

abbrev pub UnplacedIsSixteen : Type 0
UnplacedIsSixteen = (s : State) → Unplaced s.words → UnplacedGets s

-- The calls that name a stream, where its row lies outside the table (`find_misplaced`, queue_words) or more than 256 are known: those before 16 in the list do not apply.
pub record LostGets (s : State) (id : ℕ) : Type 0 where
  pub by_add : (time : ℕ) (m : Message) (payload : List ℕ) → m.stream_id.0 ≡ id
      → arguments_code s.words (length s.store) time m.lifetime (length payload) ≡ 0 → full_code s.words (length s.store) (length payload) ≡ 0 → IsSixteen (add time m payload) s
  pub by_discard : (es : List ℕ) (message : ℕ) → event_words ≤ length es → IsSixteen (discard es id message) s
  pub by_close : (es : List ℕ) → event_words ≤ length es → IsSixteen (close es id) s
  pub by_threshold : (es : List ℕ) (t : ℕ) → event_words ≤ length es → IsSixteen (set_threshold es id t) s
  pub by_priority : (p : ℕ) → IsSixteen (set_priority id p) s
  pub by_ask_priority : IsSixteen (ask_priority id) s
  pub by_ask_amount : IsSixteen (ask_amount id) s
  pub by_ask_threshold : IsSixteen (ask_threshold id) s

abbrev pub LostIsSixteen : Type 0
LostIsSixteen = (s : State) (id : ℕ) → find_stream_words s.words id ≡ found.Broken → LostGets s id

-- A 257th known stream: no stream is found, and the question of streams ready is refused, too.
pub record CrowdedGets (s : State) : Type 0 where
  pub each : (id : ℕ) → LostGets s id
  pub by_ask_ready : IsSixteen ask_streams_ready s

abbrev pub CrowdedIsSixteen : Type 0
CrowdedIsSixteen = (s : State) → 256 < known_count s.words → CrowdedGets s

-- The place of a stream's first message: discarding, and closing the stream where it is open.
pub record AstrayGets (s : State) (id row : ℕ) : Type 0 where
  pub by_discard : (es : List ℕ) (message : ℕ) → event_words ≤ length es → IsSixteen (discard es id message) s
  pub by_close : (es : List ℕ) → event_words ≤ length es → (stream_at_words s.words row).pause_state ≡ NotPaused → IsSixteen (close es id) s

abbrev pub AstrayIsSixteen : Type 0
AstrayIsSixteen = (s : State) (id position row : ℕ) → find_stream_words s.words id ≡ found.At position row → 1024 < (stream_at_words s.words row).first → AstrayGets s id row

-- ------------------------------------------------------------------ a choice without a message

-- "The scheduler chose a stream with no waiting message": the next fragment, where 2, 3, 4, 9 and 10 do not apply.
pub record ChosenBare (ws : List ℕ) : Type 0 where
  pub at : ℕ
  pub position : ℕ
  pub row : ℕ
  pub chosen : peek_words ws ≡ peeked.At at
  pub in_table_lem : at < 256
  pub found_at : find_stream_words ws (active_at ws at).stream_id.0 ≡ found.At position row
  pub bare : 1024 ≤ (stream_at_words ws row).first

abbrev pub ChosenBareIsSixteen : Type 0
ChosenBareIsSixteen = (s : State) (es bs : List ℕ) (time size : ℕ) → ChosenBare s.words
    → produce_code s.words (length s.store) (length es) (length bs) time size ≡ 0 → IsSixteen (produce es bs time size) s

-- ------------------------------------------------------------------ an amount that would fall below 0, or a place outside its table behind a head

-- Fewer bytes in the total or in the stream's amount than n.
abbrev pub Short : List ℕ → OutgoingStream → ℕ → Type 0
Short ws s n = ((totals_at ws).total < n) ⊎ (s.buffered_amount < n)

-- The same, or the message behind m lies outside its table (1024 is none).
abbrev pub Unfit : List ℕ → OutgoingStream → Item → ℕ → Type 0
Unfit ws s m n = Short ws s n ⊎ (1024 < m.next)

-- the head of the stream in a row
abbrev pub head_of : List ℕ → ℕ → Item
head_of ws row = item_at ws (stream_at_words ws row).first

-- The next fragment: fewer than it hands out of the chosen head.
abbrev pub UnfitChosenIsSixteen : Type 0
UnfitChosenIsSixteen = (s : State) (es bs : List ℕ) (time size at id row : ℕ)
    → produce_code s.words (length s.store) (length es) (length bs) time size ≡ 0
    → look_ahead s.words time ≡ look.Chosen at id row
    → Unfit s.words (stream_at_words s.words row) (head_of s.words row) (least_of (active_at s.words at).bytes_remaining size)
    → IsSixteen (produce es bs time size) s

-- The same, fewer than the chosen head has left, which has expired.
abbrev pub UnfitExpiredIsSixteen : Type 0
UnfitExpiredIsSixteen = (s : State) (es bs : List ℕ) (time size id row : ℕ)
    → produce_code s.words (length s.store) (length es) (length bs) time size ≡ 0
    → look_ahead s.words time ≡ look.Expired id row
    → Unfit s.words (stream_at_words s.words row) (head_of s.words row) (rest (head_of s.words row))
    → IsSixteen (produce es bs time size) s

-- Discarding a head that has more left.
pub record UnfitHead (ws : List ℕ) (id message : ℕ) : Type 0 where
  pub position : ℕ
  pub row : ℕ
  pub found_at : find_stream_words ws id ≡ found.At position row
  pub has_head : (stream_at_words ws row).first < 1024
  pub meant : (head_of ws row).message_id.0 ≡ message
  pub unfit : Unfit ws (stream_at_words ws row) (head_of ws row) (rest (head_of ws row))

abbrev pub UnfitHeadIsSixteen : Type 0
UnfitHeadIsSixteen = (s : State) (es : List ℕ) (id message : ℕ) → UnfitHead s.words id message → event_words ≤ length es → IsSixteen (discard es id message) s

-- Of the first k messages of a chain, from a place on: the bytes left to send, and whether all places are in the table.
unfoldable pub rest_from : List ℕ → ℕ → ℕ → ℕ
rest_from ws place zero = 0
rest_from ws place (suc k) = rest (item_at ws place) + rest_from ws (item_at ws place).next k

unfoldable pub in_table : List ℕ → ℕ → ℕ → Bool
in_table ws place zero = true
in_table ws place (suc k) = pick (ltb place 1024) (in_table ws (item_at ws place).next k) false

-- "It drops every message at offset 0": from the head on, or from the message behind a half-sent one.
abbrev pub dropped_from : List ℕ → OutgoingStream → ℕ
dropped_from ws s = pick (ltb 0 (item_at ws s.first).offset) (item_at ws s.first).next s.first

-- Closing an open stream: the messages that it drops, up to one of them, have more left.
pub record ShortClosing (ws : List ℕ) (id : ℕ) : Type 0 where
  pub row : ℕ
  pub count : ℕ
  pub found_at : look_up ws id ≡ place.Row row
  pub is_open : (stream_at_words ws row).pause_state ≡ NotPaused
  pub has_head : (stream_at_words ws row).first < 1024
  pub fits : count ≤ 1024
  pub in_table_lem : in_table ws (dropped_from ws (stream_at_words ws row)) count ≡ true
  pub short : Short ws (stream_at_words ws row) (rest_from ws (dropped_from ws (stream_at_words ws row)) count)

abbrev pub ShortClosingIsSixteen : Type 0
ShortClosingIsSixteen = (s : State) (es : List ℕ) (id : ℕ) → ShortClosing s.words id → event_words ≤ length es → IsSixteen (close es id) s

-- ------------------------------------------------------------------ an amount that would pass 2^64 - 1

-- More in the total or in the stream's amount than has room beside n.
abbrev pub Over : List ℕ → OutgoingStream → ℕ → Type 0
Over ws s n = (18446744073709551615 < (totals_at ws).total + n) ⊎ (18446744073709551615 < s.buffered_amount + n)

-- The first free place, or the one behind it, or the ends of the stream's chain lie outside their table.
abbrev pub NoPlace : List ℕ → OutgoingStream → Type 0
NoPlace ws s = ((1023 < (totals_at ws).free) ⊎ (1024 < (item_at ws (totals_at ws).free).next)) ⊎ ((1024 < s.first) ⊎ ((s.first < 1024) × (1023 < s.last)))

-- Adding, where 2, 4, 5, 7 and 8 do not apply: to a known stream, and to a new one, which has no amount and no chain.
pub record OverGets (s : State) (time : ℕ) (m : Message) (payload : List ℕ) : Type 0 where
  pub to_known : (row : ℕ) → look_up s.words m.stream_id.0 ≡ place.Row row
      → Over s.words (stream_at_words s.words row) (length payload) ⊎ NoPlace s.words (stream_at_words s.words row) → IsSixteen (add time m payload) s
  pub to_new : (position : ℕ) → look_up s.words m.stream_id.0 ≡ place.New position
      → (18446744073709551615 < (totals_at s.words).total + length payload) ⊎ NoPlace s.words (new_stream_words (options_at s.words)) → IsSixteen (add time m payload) s

abbrev pub OverIsSixteen : Type 0
OverIsSixteen = (s : State) (time : ℕ) (m : Message) (payload : List ℕ)
    → 1 ≤ length payload
    → arguments_code s.words (length s.store) time m.lifetime (length payload) ≡ 0
    → full_code s.words (length s.store) (length payload) ≡ 0
    → OverGets s time m payload

-- Reset: the sent bytes of a known stream's head, and what the first n known streams put back.
abbrev pub put_back_at : List ℕ → ℕ → ℕ
put_back_at ws i = put_back ws (stream_at_words ws (known_at ws i).place).first

unfoldable pub put_back_by : List ℕ → ℕ → ℕ
put_back_by ws zero = 0
put_back_by ws (suc i) = put_back_by ws i + put_back_at ws i

-- A stream's amount with what comes back, or the total with what has come back up to that stream, would pass it; before, both are words.
pub record OverReset (ws : List ℕ) : Type 0 where
  pub at : ℕ
  pub known : at < (totals_at ws).known
  pub amount_fits : (stream_at_words ws (known_at ws at).place).buffered_amount ≤ 18446744073709551615
  pub total_fits : (totals_at ws).total ≤ 18446744073709551615
  pub over : (18446744073709551615 < (stream_at_words ws (known_at ws at).place).buffered_amount + put_back_at ws at) ⊎ (18446744073709551615 < (totals_at ws).total + put_back_by ws (suc at))

abbrev pub OverResetIsSixteen : Type 0
OverResetIsSixteen = (s : State) → OverReset s.words → IsSixteen reset s
