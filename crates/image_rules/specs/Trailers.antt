-- The rules of the trailer. Document 01, "The changeover image". Assumes nothing.
use Rattle.std.specs.Prelude.{ℕ, ◌+◌, ◌*◌, ◌-◌, Bool, true, false, List, eqb, length}
use Rattle.queue_words.specs.Flags.{pick}
use Rattle.handover_records.specs.Records.{trailer_at}
use Rattle.handover_records.specs.declared.records.Trailer.{Trailer}

-- "Last the trailer's 20 bytes".
abbrev pub trailer_in : List ℕ → Trailer
trailer_in bs = trailer_at bs (length bs - 20)

-- "form 2 (= 1)"; "All must agree and fill the image.": of an image of so many bytes.
unfoldable pub trailer_right_words : Trailer → ℕ → Bool
trailer_right_words t size =
    pick (eqb t.form 1)
    (pick (eqb (t.streams_size + t.messages_size + 20) size)
    (pick (eqb t.streams_size (14 * t.streams)) true false) false) false
