-- Restoring an image, on the words and the store. Assumes nothing.
use Rattle.std.specs.Prelude.{ℕ, ◌-◌, Bool, List, ltb, eqb, length}
use Rattle.queue_words.specs.Flags.{pick}
use Rattle.queue_words.specs.Header.{options_at, totals_at}
use Rattle.queue_streams.specs.Call.{Accepted, Refused}
use Rattle.queue_messages.specs.Add.{Added, added, Stored, stored}
use Rattle.handover_records.specs.Records.{trailer_at}
use Rattle.handover_records.specs.declared.records.Trailer.{Trailer}
use Rattle.image_rules.specs.Code.{image_code_words}
use Rattle.restoring.specs.Streams.{emptied, streams_restored}
use Rattle.restoring.specs.Messages.{Restored, messages_restored, waits_all}
use Rattle.restoring.specs.Recall.{recalled}

-- 2: "not of its creation length later". 4: "A time or lifetime is above 4,611,686,018,427,387,903." 12: "Restoring finds a queue that knows a stream, or whose
-- next message id is not 0." Then 13, 14 and 15, judged on the image.
unfoldable pub restore_code : List ℕ → ℕ → ℕ → List ℕ → ℕ
restore_code ws len time bs =
    pick (eqb (options_at ws).store_length len)
    (pick (ltb 4611686018427387903 time) 4
    (pick (ltb 0 (totals_at ws).known) 12
    (pick (ltb 0 (totals_at ws).next_message_id.0) 12
    (image_code_words (options_at ws).strict_restart bs (options_at ws).default_priority len))))
    2

-- Document 02, 10/13: "Restoring without interleaving shall remember the stream whose first message is half-sent": of n known ones
abbrev pub recalled_by : Bool → List ℕ → ℕ → List ℕ
recalled_by il ws n = pick il ws (recalled ws n)

-- every stream with messages then waits; more than 256 of them, which cannot be, are passed over
unfoldable pub all_waiting : List ℕ → List ℕ
all_waiting ws =
    pick (ltb 256 (totals_at ws).known) ws (recalled_by (totals_at ws).interleaving (waits_all (totals_at ws).interleaving ws (totals_at ws).known) (totals_at ws).known)

abbrev pub waiting_from : Restored → Stored
waiting_from x = stored (all_waiting x.words) x.store

-- an accepted image with this trailer: the words and the store
unfoldable pub restored_from : List ℕ → List ℕ → ℕ → List ℕ → Trailer → Stored
restored_from ws st time bs t =
    waiting_from (messages_restored (streams_restored (emptied ws t.next_message_id) bs t.streams) st t.streams_size bs time t.messages)

abbrev pub accepted_with : Stored → Added
accepted_with x = added (Accepted 0) x.words x.store

-- Restore an image; the store is lent. (An accepted image has a trailer.)
unfoldable pub restore : List ℕ → List ℕ → ℕ → List ℕ → Added
restore ws st time bs =
    pick (ltb 0 (restore_code ws (length st) time bs)) (added (Refused (restore_code ws (length st) time bs)) ws st)
    (pick (ltb (length bs) 20) (added (Refused 13) ws st)
    (accepted_with (restored_from ws st time bs (trailer_at bs (length bs - 20)))))
