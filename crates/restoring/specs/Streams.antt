-- Restoring, first: a queue without messages, and its streams from their records. Assumes nothing.
use Rattle.std.specs.Prelude.{ℕ, zero, suc, ◌*◌, ◌-◌, List, ltb, length}
use Rattle.queue_words.specs.Flags.{pick}
use Rattle.queue_words.specs.Header.{options_at, totals_at, put_totals, put_scheduler}
use Rattle.queue_words.specs.declared.header.Options.{Options}
use Rattle.queue_words.specs.declared.header.Totals.{Totals}
use Rattle.queue_words.specs.declared.streams.OutgoingStream.{OutgoingStream}
use Rattle.queue_words.specs.declared.streams.PauseState.TheVariants.{NotPaused}
use Rattle.queue_streams.specs.Known.{inserted}
use Rattle.queue_messages.specs.Create.{freed, new_scheduler_words}
use Rattle.handover_records.specs.Records.{stream_at_words}
use Rattle.handover_records.specs.declared.records.HandoverOutgoingStream.{HandoverOutgoingStream}

-- no message, no known stream; the choice of interleaving stays, and the next message id is the image's
abbrev pub empty_totals : Totals → ℕ → Totals
empty_totals t id = record {
  interleaving = t.interleaving;
  next_message_id = record { 0 = id };
  total = 0;
  known = 0;
  waiting = 0;
  free = 0;
  used = 0;
  gaps = record { end = 0; limit = 0; from = 0; upto = 0 };
}

unfoldable pub emptied : List ℕ → ℕ → List ℕ
emptied ws id = freed (put_scheduler (put_totals ws (empty_totals (totals_at ws) id)) new_scheduler_words) 1024

-- "Restored streams are open, with default thresholds."
abbrev pub restored_stream_words : Options → HandoverOutgoingStream → OutgoingStream
restored_stream_words o r = record {
  priority = r.priority;
  pause_state = NotPaused;
  next_ssn = record { 0 = r.next_ssn };
  next_unordered_mid = record { 0 = r.next_unordered_mid };
  next_ordered_mid = record { 0 = r.next_ordered_mid };
  buffered_amount = 0;
  low_threshold = o.default_threshold;
  first = 1024;
  last = 1024;
}

-- the stream of the record at `at`, behind the known ones; a record outside the image and a 257th stream, which the test has ruled out, are passed over
unfoldable pub stream_restored : List ℕ → List ℕ → ℕ → List ℕ
stream_restored ws bs at =
    pick (ltb (length bs) 14) ws
    (pick (ltb (length bs - 14) at) ws
    (pick (ltb 255 (totals_at ws).known) ws
    (inserted ws (totals_at ws).known (stream_at_words bs at).id (restored_stream_words (options_at ws) (stream_at_words bs at)))))

-- the streams of the first n records
unfoldable pub streams_restored : List ℕ → List ℕ → ℕ → List ℕ
streams_restored ws bs zero = ws
streams_restored ws bs (suc k) = stream_restored (streams_restored ws bs k) bs (k * 14)
