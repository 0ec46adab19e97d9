-- The marks of lent places. Assumes nothing.
use Rattle.std.specs.Prelude.{ℕ, ◌+◌, ◌*◌, ◌%◌}
use Rattle.queue_streams.specs.Events.{place_words}

-- The words of the event list's array: of 4,096 places.
abbrev pub event_buffer : ℕ
event_buffer = 4096 * place_words

abbrev pub event_mark : ℕ → ℕ
event_mark i = i % event_buffer + 7000000000000000000

abbrev pub byte_mark : ℕ → ℕ
byte_mark i = i % 256
