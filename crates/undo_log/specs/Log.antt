-- An undo log: what each of some drops may change, kept before it in 20 words, and put back from there. Assumes nothing.
use Rattle.std.specs.Prelude.{ℕ, zero, suc, ◌+◌, ◌-◌, ◌*◌, List, ltb, get_or, set}
use Rattle.queue_words.specs.Flags.{pick}
use Rattle.queue_words.specs.Header.{scheduler_at}
use Rattle.queue_words.specs.Rows.{row, put_row}
use Rattle.queue_words.specs.Streams.{stream_at_words}
use Rattle.active_table.specs.Rows.{seek}

-- the words before the tables
abbrev pub header : ℕ
header = 32

-- the log with n words from `from` on: their index, then they themselves
unfoldable pub block : List ℕ → ℕ → List ℕ → ℕ → ℕ → List ℕ
block log at ws from n = put_row (set log at from) (at + 1) (row ws from n)

-- the words with a block of n put back; an index outside the words, which no block has, puts back none
unfoldable pub undone_block : List ℕ → ℕ → ℕ → List ℕ → List ℕ
undone_block log at n us = pick (ltb (20768 - n) (get_or log at 0)) us (put_row us (get_or log at 0) (row log (at + 1) n))

-- The rows that drop d may change: a stream's; length, offset and next place of a message's; one of the scheduler's.
unfoldable pub kept : List ℕ → ℕ → List ℕ → ℕ → ℕ → ℕ → List ℕ
kept log d ws row place at =
    block (block (block log (d * 20) ws (544 + row * 10) 9) (d * 20 + 10) ws (3104 + place * 16 + 12) 3) (d * 20 + 14) ws (19488 + at * 5) 5

unfoldable pub undone_drop : List ℕ → ℕ → List ℕ → List ℕ
undone_drop log d us = undone_block log (d * 20 + 14) 5 (undone_block log (d * 20 + 10) 3 (undone_block log (d * 20) 9 us))

-- the words with what d drops changed put back, the last one first
unfoldable pub undone : List ℕ → ℕ → List ℕ → List ℕ
undone log zero us = us
undone log (suc d) us = undone log d (undone_drop log d us)

-- the scheduler's row that letting a stream wait, or ending that, may change: the stream's own, else the first free one; 255 where there is none
unfoldable pub waiting_row : List ℕ → ℕ → ℕ
waiting_row ws id =
    let n = (scheduler_at ws).active in
    pick (ltb 256 n) 255 (pick (ltb 255 (seek ws id n)) 255 (seek ws id n))

-- the log with what dropping the head of the stream in a row may change; nothing where a place is outside its table, since then nothing is dropped
unfoldable pub kept_drop : List ℕ → ℕ → List ℕ → ℕ → ℕ → List ℕ
kept_drop log d ws id row =
    pick (ltb 255 row) log
    (pick (ltb 1023 (stream_at_words ws row).first) log (kept log d ws row (stream_at_words ws row).first (waiting_row ws id)))
