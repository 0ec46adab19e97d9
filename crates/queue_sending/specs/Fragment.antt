-- Handing out a fragment of a stream's head, on the words. Assumes nothing.
use Rattle.std.specs.Prelude.{ℕ, ◌-◌, Bool, List, ltb, eqb, length}
use Rattle.queue_words.specs.Flags.{pick}
use Rattle.queue_words.specs.Active.{active_at}
use Rattle.queue_words.specs.Header.{totals_at, put_totals}
use Rattle.queue_words.specs.Items.{are_given, item_at, put_item}
use Rattle.queue_words.specs.Streams.{is_paused_words, stream_at_words, put_stream_words}
use Rattle.queue_words.specs.declared.header.Totals.{Totals}
use Rattle.queue_words.specs.declared.items.Item.{Item}
use Rattle.queue_words.specs.declared.streams.OutgoingStream.{OutgoingStream}
use Rattle.queue_words.specs.declared.streams.PauseState.{PauseState}
use Rattle.payload_store.specs.Reading.{read_code, read_part}
use Rattle.stream_scheduler.specs.Anew.{accept_last_words}
use Rattle.stream_scheduler.specs.Words.{accept_at}
use Rattle.queue_streams.specs.Waiting.{head_size_words, parameters_for}
use Rattle.message_chains.specs.Amounts.{rest}
use Rattle.message_chains.specs.Dropping.{end_pending_words}
use Rattle.message_chains.specs.Heads.{head_code, released, without_head, sent_notes}
use Rattle.queue_sending.specs.Data.{data_to_send, ProducedWith, produced_with, refused_with}
use Rattle.queue_sending.specs.Numbers.{numbered_item, numbered_stream, moved_on_words}
use Rattle.queue_sending.specs.Progress.{put_progress}
use Rattle.queue_sending.specs.Produced as produced

unfoldable pub least_of : ℕ → ℕ → ℕ
least_of a b = pick (ltb a b) a b

-- 16: "an amount would fall below 0 [..], or a place kept in the state lies outside its table".
-- may n bytes of the head m of the stream s be handed out: 0, else 16
unfoldable pub send_code : List ℕ → ℕ → OutgoingStream → Item → ℕ → ℕ → ℕ
send_code ws len s m n room =
    pick (ltb (rest m) n) 16
    (pick (ltb 0 (read_code ws len s.first m.offset n room)) 16 (head_code ws s s.first m.next n))

-- "a message behind it, unless the stream is now paused, then makes the stream begin anew": the place of the message with which it waits, 1024 for none.
unfoldable pub next_first : PauseState → ℕ → ℕ
next_first state next = pick (is_paused_words state) 1024 next

-- "When a pending stream's message ends or is discarded, it is paused".
-- "A last fragment ends its stream's waiting [..]; a message behind it, unless the stream is now paused, then makes the stream begin anew": after its n
-- bytes the stream of the row `at`
-- waits with what is behind the message, or not. "A weight is read when the stream begins to wait".
unfoldable pub waiting_on : List ℕ → ℕ → ℕ → OutgoingStream → ℕ → ℕ → List ℕ
waiting_on ws at id s next n =
    (accept_last_words ws at id n (head_size_words ws (next_first (end_pending_words s.pause_state) next)) (parameters_for (totals_at ws).interleaving s.priority)).next

-- the words after a last fragment of n bytes: the message m is gone from the stream s, which has given its numbers
unfoldable pub finished : List ℕ → ℕ → ℕ → ℕ → OutgoingStream → Item → ℕ → List ℕ
finished ws at id row s m n =
    put_stream_words (released (waiting_on ws at id s m.next n) s.first n) row (without_head s (end_pending_words s.pause_state) m.next n)

-- the totals with n bytes fewer
abbrev pub less_total : Totals → ℕ → Totals
less_total t n = record {
  interleaving = t.interleaving;
  next_message_id = t.next_message_id;
  total = t.total - n;
  known = t.known;
  waiting = t.waiting;
  free = t.free;
  used = t.used;
  gaps = t.gaps;
}

-- a stream with n bytes fewer
abbrev pub less_amount : OutgoingStream → ℕ → OutgoingStream
less_amount s n = record {
  priority = s.priority;
  pause_state = s.pause_state;
  next_ssn = s.next_ssn;
  next_unordered_mid = s.next_unordered_mid;
  next_ordered_mid = s.next_ordered_mid;
  buffered_amount = s.buffered_amount - n;
  low_threshold = s.low_threshold;
  first = s.first;
  last = s.last;
}

-- the words after any other fragment of n bytes
unfoldable pub went_on_words : List ℕ → ℕ → OutgoingStream → Item → ℕ → List ℕ
went_on_words ws row s m n =
    put_stream_words (put_item (put_totals ws (less_total (totals_at ws) n)) s.first (moved_on_words m n)) row (less_amount s n)

-- the same where the message had its numbers before: only the words that then change
unfoldable pub went_further : List ℕ → ℕ → OutgoingStream → Item → ℕ → List ℕ
went_further ws row s m n =
    put_progress ws row s.first ((totals_at ws).total - n) (s.buffered_amount - n) (moved_on_words m n).fsn.0 (moved_on_words m n).offset

-- "Handing out moves its start, and the system time, by the cost of the bytes handed out"; "last means that nothing remains": the words after a fragment of the
-- numbered message m, which had its numbers before, or not.
unfoldable pub written_sent : List ℕ → ℕ → ℕ → ℕ → OutgoingStream → Item → ℕ → Bool → List ℕ
written_sent ws at id row s m n had =
    pick (eqb n (rest m)) (finished ws at id row s m n)
    (pick had (went_further (accept_at ws at n).next row s m n) (went_on_words (accept_at ws at n).next row s m n))

-- The fragment of n bytes of the head m of the stream s, after k events; refused, it leaves all as it was.
unfoldable pub sent : List ℕ → List ℕ → List ℕ → List ℕ → ℕ → ℕ → ℕ → ℕ → OutgoingStream → Item → ℕ → ProducedWith
sent ws st es bs k at id row s m n =
    pick (ltb 0 (send_code ws (length st) s m n (length bs))) (refused_with (send_code ws (length st) s m n (length bs)) ws es bs)
    (produced_with (produced.Fragment (sent_notes ws es k id s n).count (data_to_send id (numbered_item s m) n))
    (written_sent ws at id row (numbered_stream s m) (numbered_item s m) n (are_given m.numbers))
    (sent_notes ws es k id s n).events
    (read_part ws st s.first m.offset n bs))

-- may at most `size` bytes of the chosen head be handed out after k events: 0, else 16, where a place lies outside its table, or the events would not fit
unfoldable pub chosen_code : List ℕ → ℕ → ℕ → ℕ → ℕ → ℕ → ℕ → ℕ
chosen_code ws len room size k at row =
    pick (ltb 2303 k) 16
    (pick (ltb 255 at) 16
    (pick (ltb 255 row) 16
    (pick (ltb 1023 (stream_at_words ws row).first) 16
    (send_code ws len (stream_at_words ws row) (item_at ws (stream_at_words ws row).first) (least_of (active_at ws at).bytes_remaining size) room))))

-- At most `size` bytes of the chosen head, after k events; 16 where a place lies outside its table, or the events would not fit.
unfoldable pub handed_out_words : List ℕ → List ℕ → List ℕ → List ℕ → ℕ → ℕ → ℕ → ℕ → ℕ → ProducedWith
handed_out_words ws st es bs size k at id row =
    pick (ltb 2303 k) (refused_with 16 ws es bs)
    (pick (ltb 255 at) (refused_with 16 ws es bs)
    (pick (ltb 255 row) (refused_with 16 ws es bs)
    (pick (ltb 1023 (stream_at_words ws row).first) (refused_with 16 ws es bs)
    (sent ws st es bs k at id row (stream_at_words ws row) (item_at ws (stream_at_words ws row).first) (least_of (active_at ws at).bytes_remaining size)))))
