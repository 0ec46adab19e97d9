-- A head dropped in its stream's state, by a discard or as expired. Assumes nothing.
use Rattle.std.specs.Prelude.{ℕ, ◌<◌, ◌≡◌, true, List, ltb}
use Rattle.queue_words.specs.Flags.{pick}
use Rattle.queue_words.specs.Header.{totals_at}
use Rattle.queue_words.specs.Items.{item_at}
use Rattle.queue_words.specs.Streams.{is_pending, stream_at_words}
use Rattle.queue_words.specs.declared.items.Item.{Item}
use Rattle.queue_words.specs.declared.streams.OutgoingStream.{OutgoingStream}
use Rattle.queue_words.specs.declared.streams.PauseState.{PauseState}
use Rattle.queue_words.specs.declared.streams.PauseState.TheVariants.{NotPaused, Pending, Paused, Resetting}
use Rattle.stream_scheduler.specs.Words.{Outcome, remove_stream_words, set_bytes_remaining_words}
use Rattle.queue_streams.specs.Settings.{CalledWith, called_with}
use Rattle.queue_streams.specs.Waiting.{head_size_words, parameters_for}
use Rattle.queue_streams.specs.Call.{Accepted, Refused}
use Rattle.message_chains.specs.Amounts.{rest}
use Rattle.message_chains.specs.Heads.{head_code, head_dropped, drop_notes}

-- "When a pending stream's message ends or is discarded, it is paused", and stops waiting; document 02, 3/13: "When a pending stream's half-sent head
-- expires, the stream
-- becomes paused, its later messages wait [..] and the choice goes to the other streams." Any other stream waits with what is behind ("or a discard,
-- schedules a paused stream").
unfoldable pub scheduled_behind : List ℕ → ℕ → OutgoingStream → ℕ → Outcome
scheduled_behind ws id s next =
    pick (is_pending s.pause_state) (remove_stream_words ws id)
    (set_bytes_remaining_words ws id (head_size_words ws next) (parameters_for (totals_at ws).interleaving s.priority))

unfoldable pub end_pending_words : PauseState → PauseState
end_pending_words NotPaused = NotPaused
end_pending_words Pending = Paused
end_pending_words Paused = Paused
end_pending_words Resetting = Resetting

-- the words after the scheduler, then without the head, its events after k others; 16 where the scheduler is broken
unfoldable pub behind_dropped : List ℕ → List ℕ → ℕ → ℕ → ℕ → OutgoingStream → Item → CalledWith
behind_dropped ws es k id row s m =
    let o = scheduled_behind ws id s m.next in
    let n = drop_notes o.next es k id s (rest m) m.lifecycle_id in
    pick o.done (called_with (Accepted n.count) (head_dropped o.next row s (end_pending_words s.pause_state) m) n.events)
    (called_with (Refused 16) ws es)

-- the head m of the stream s dropped after k events; 16 where an amount would fall below 0
unfoldable pub dropped_in_state : List ℕ → List ℕ → ℕ → ℕ → ℕ → OutgoingStream → Item → CalledWith
dropped_in_state ws es k id row s m =
    pick (ltb 0 (head_code ws s s.first m.next (rest m))) (called_with (Refused (head_code ws s s.first m.next (rest m))) ws es)
    (behind_dropped ws es k id row s m)

-- The tests of a drop of the head of the stream in a row say that it may be dropped: 16 is not given.
pub record MayDrop (ws : List ℕ) (id row : ℕ) : Type 0 where
  pub row_fits : row < 256
  pub first_fits : (stream_at_words ws row).first < 1024
  pub head_goes : head_code ws (stream_at_words ws row) (stream_at_words ws row).first (item_at ws (stream_at_words ws row).first).next (rest (item_at ws (stream_at_words ws row).first)) ≡ 0
  pub scheduled : (scheduled_behind ws id (stream_at_words ws row) (item_at ws (stream_at_words ws row).first).next).done ≡ true
