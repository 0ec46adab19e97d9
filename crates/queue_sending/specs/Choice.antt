-- The choice of the stream to send from, and a look at its head. Assumes nothing.
use Rattle.std.specs.Prelude.{Some, None}
use Rattle.std.specs.Prelude.{ℕ, Bool, false, List, ltb, leb}
use Rattle.queue_words.specs.Flags.{pick}
use Rattle.queue_words.specs.Active.{active_at}
use Rattle.queue_words.specs.Find.{find_stream_words}
use Rattle.queue_words.specs.Items.{item_at}
use Rattle.queue_words.specs.Streams.{stream_at_words}
use Rattle.queue_words.specs.Items.{Expiry}
use Rattle.queue_words.specs.declared.items.Item.{Item}
use Rattle.queue_words.specs.declared.known.Found.{Found}
use Rattle.queue_words.specs.declared.known.Found.TheVariants as found
use Rattle.stream_scheduler.specs.Words.{peek_words}
use Rattle.stream_scheduler.specs.declared.Peeked.{Peeked}
use Rattle.stream_scheduler.specs.declared.Peeked.TheVariants as peeked
use Rattle.queue_sending.specs.Look.{Look}
use Rattle.queue_sending.specs.Look as look

-- "A message expires exactly if its time is at or before now".
abbrev pub is_past : Expiry → ℕ → Bool
is_past None time = false
is_past (Some t) time = leb t time

unfoldable pub expired_by : Item → ℕ → Bool
expired_by m time = is_past m.expires_at time

-- The head of the stream in a row; 16: "The scheduler chose a stream with no waiting message".
unfoldable pub look_at_words : List ℕ → ℕ → ℕ → ℕ → ℕ → Look
look_at_words ws time at id row =
    pick (ltb 1023 (stream_at_words ws row).first) look.Broken
    (pick (expired_by (item_at ws (stream_at_words ws row).first) time) (look.Expired id row) (look.Chosen at id row))

-- 16: "or a place kept in the state lies outside its table", and a stream that waits is known.
abbrev pub look_in : List ℕ → ℕ → ℕ → ℕ → Found → Look
look_in ws time at id (found.At position row) = look_at_words ws time at id row
look_in ws time at id (found.Gap position) = look.Broken
look_in ws time at id found.Broken = look.Broken

unfoldable pub look_for_words : List ℕ → ℕ → ℕ → ℕ → Look
look_for_words ws time at id = look_in ws time at id (find_stream_words ws id)

-- the scheduler's choice
abbrev pub look_peeked : List ℕ → ℕ → Peeked → Look
look_peeked ws time (peeked.At at) = pick (ltb 255 at) look.Broken (look_for_words ws time at (active_at ws at).stream_id.0)
look_peeked ws time peeked.Nothing = look.Nothing
look_peeked ws time peeked.Broken = look.Broken

-- "Choice: the stream in mid-message if one is remembered, else the smallest finish time, then the smallest id": the scheduler's, and its head.
unfoldable pub look_ahead : List ℕ → ℕ → Look
look_ahead ws time = look_peeked ws time (peek_words ws)
