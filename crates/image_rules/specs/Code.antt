-- The answer to an image. Assumes nothing.
use Rattle.std.specs.Prelude.{ℕ, ◌+◌, Bool, true, false, List, eqb, ltb, length}
use Rattle.queue_words.specs.Flags.{pick}
use Rattle.handover_records.specs.declared.records.Trailer.{Trailer}
use Rattle.image_rules.specs.Trailers.{trailer_in, trailer_right_words}
use Rattle.image_rules.specs.Streams.{streams_right_words}
use Rattle.image_rules.specs.Messages.{messages_kept}
use Rattle.image_rules.specs.Amounts.{payload_bytes_words, new_streams}

-- Whether an image with this trailer keeps all rules, for a queue that is strict or not.
unfoldable pub rules_kept : Bool → List ℕ → Trailer → Bool
rules_kept strict bs t =
    pick (trailer_right_words t (length bs))
    (pick (streams_right_words bs t.default_priority 0 0 t.streams)
    (messages_kept strict bs t.streams_size t.messages_size 0 t.messages) false) false

-- 15. "The image, with the streams that only messages name, passes 256 streams, 1,024 messages or the store.": whether it does not.
unfoldable pub amounts_fit : List ℕ → Trailer → ℕ → Bool
amounts_fit bs t len =
    pick (ltb 256 t.streams) false
    (pick (ltb 1024 t.messages) false
    (pick (ltb len (payload_bytes_words bs t.streams_size t.messages)) false
    (pick (ltb 256 (t.streams + new_streams bs t.streams t.streams_size 0 t.messages)) false true)))

-- 13, 14, 15, or 0 for an image that is accepted: 13 is judged on the whole image before 14, and 14 before 15.
unfoldable pub image_code_words : Bool → List ℕ → ℕ → ℕ → ℕ
image_code_words strict bs d len =
    pick (ltb (length bs) 20) 13
    (pick (rules_kept strict bs (trailer_in bs))
    (pick (eqb (trailer_in bs).default_priority d) (pick (amounts_fit bs (trailer_in bs) len) 0 15) 14) 13)
