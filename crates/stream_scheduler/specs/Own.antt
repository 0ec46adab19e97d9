-- The choice, and what follows it, where the scheduler is not broken. Assumes nothing.
use Rattle.std.specs.Prelude.{ℕ, ◌≤◌, ◌<◌, Bool, true, List, eqb, ltb}
use Rattle.std.specs.Prelude.{if◌then◌else◌}
use Rattle.queue_words.specs.Header.{scheduler_at}
use Rattle.stream_scheduler.specs.declared.Peeked.{Peeked}
use Rattle.stream_scheduler.specs.declared.Peeked.TheVariants as peeked
use Rattle.stream_scheduler.specs.declared.own.Front.{Front}
use Rattle.stream_scheduler.specs.declared.own.Front.TheVariants as front

-- The same as the checked call shows it.
abbrev pub peeked_of : Front → Peeked
peeked_of (front.Row at) = peeked.At at
peeked_of front.Nothing = peeked.Nothing

-- The scheduler has at most 256 rows, of which `at` is one: no "place kept in the state lies outside its table".
abbrev pub HasRow : List ℕ → ℕ → Type 0
HasRow ws at = ((scheduler_at ws).active ≤ 256) × (at < (scheduler_at ws).active)

-- Whether a stream whose row is `at`, or that has none where `at` is n, can wait with so many bytes: 16 where "a place kept in the state lies outside its table", as a
-- 257th row would.
unfoldable pub can_wait : ℕ → ℕ → ℕ → Bool
can_wait bytes at n = if eqb bytes 0 then true else if ltb at n then true else ltb n 256
