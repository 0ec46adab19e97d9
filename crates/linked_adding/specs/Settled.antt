-- Adding leaves nothing undone, on any words: where its test has passed, the payload is put, and a stream that the message starts is let wait. (The
-- definition keeps the words that `put_payload` and `begin_waiting` leave and not whether they were done.) Assumes nothing.
use Rattle.std.specs.Prelude.{ℕ, ◌≡◌, true, List, length}
use Rattle.queue_words.specs.Header.{totals_at}
use Rattle.queue_words.specs.Items.{put_item}
use Rattle.queue_words.specs.declared.active.SchedulingParameters.{SchedulingParameters}
use Rattle.queue_words.specs.declared.items.Item.{Item}
use Rattle.queue_words.specs.declared.streams.OutgoingStream.{OutgoingStream}
use Rattle.queue_model.specs.Demands.{MessageTyped}
use Rattle.payload_store.specs.Putting.{put_payload}
use Rattle.stream_scheduler.specs.Words.{begin_waiting}
use Rattle.queue_streams.specs.Place.{Place}
use Rattle.queue_messages.specs.Add.{starts, message_code, linked_last, counted, stream_for, row_for, made_known, HasPlace}
use Rattle.queue_messages.specs.Message.{new_item_words}
use Rattle.queue_messages.specs.declared.message.Message.{Message}
use Rattle.linked_adding.specs.Message.{message_of_words}

-- What follows the test, from the words vs in which the stream is known: the item in the first free place, its payload bs put, hung to the stream s,
-- which waits then.
pub record Settled (vs st : List ℕ) (item : Item) (bs : List ℕ) (row : ℕ) (s : OutgoingStream) : Type 0 where
  pub put : (put_payload (put_item vs (totals_at vs).free item) st (totals_at vs).free bs).answer ≡ 0
  pub begun : (free id : ℕ) (p : SchedulingParameters) → starts s ≡ true
      → (begin_waiting (counted (linked_last (put_payload (put_item vs (totals_at vs).free item) st (totals_at vs).free bs).words row s (totals_at vs).free (length bs)) free (length bs)) id (length bs) p).done ≡ true

-- Of every message whose test passes, whether its stream is known or made known.
abbrev pub AddSettled : Type 0
AddSettled = (ws st : List ℕ) (time : ℕ) (m : Message) (bs : List ℕ) (at : Place) → length ws ≡ 20768 → MessageTyped (message_of_words m bs) → HasPlace ws at
    → message_code ws (length st) (stream_for ws at) (length bs) ≡ 0
    → Settled (made_known ws m.stream_id.0 at) st (new_item_words time (totals_at (made_known ws m.stream_id.0 at)).next_message_id m) bs (row_for ws at) (stream_for ws at)
