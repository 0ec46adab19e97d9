-- The table of waiting streams: a stream's row, and the least row. A table is given by its rows, place by place: the queue's are `active_at ws`, a lent
-- table's `rows_of t`. Assumes nothing.
use Rattle.std.specs.Prelude.{ℕ, zero, suc, ◌+◌, ◌&&◌, ◌||◌, List, eqb, ltb}
use Rattle.std.specs.Prelude.{if◌then◌else◌}
use Rattle.queue_words.specs.Active.{active_at}
use Rattle.queue_words.specs.declared.active.ActiveStreamInfo.{ActiveStreamInfo}
use Rattle.active_table.specs.Parts.{rows_from}
use Rattle.active_table.specs.declared.Best.{Best}

-- The first row of a stream among the n from i on, or the place behind them.
unfoldable pub seek_from : (ℕ → ActiveStreamInfo) → ℕ → ℕ → ℕ → ℕ
seek_from rows id i zero = i
seek_from rows id i (suc n) = if eqb (rows i).stream_id.0 id then i else seek_from rows id (suc i) n

-- The first row of a stream among n rows of the queue, or n.
unfoldable pub seek : List ℕ → ℕ → ℕ → ℕ
seek ws id n = seek_from (active_at ws) id 0 n

-- A row in the search for the least.
abbrev pub best_of : ActiveStreamInfo → ℕ → Best
best_of row i = record { id = row.stream_id.0; at = i; finish = row.virtual_finish_time }

-- "the smallest finish time, then the smallest id": the second where it comes first.
unfoldable pub better : Best → Best → Best
better a b = if ltb b.finish a.finish || (eqb b.finish a.finish && ltb b.id a.id) then b else a

-- The best of `start` and n rows that stand from `from` on.
unfoldable pub best_among : (ℕ → ActiveStreamInfo) → Best → ℕ → ℕ → Best
best_among rows start from zero = start
best_among rows start from (suc n) = better (best_among rows start from n) (best_of (rows n) (from + n))

-- The least of the queue's rows 0 to k.
unfoldable pub best_to : List ℕ → ℕ → Best
best_to ws k = best_among (rows_from ws 1) (best_of (active_at ws 0) 0) 1 k
