-- The last fragment of a message, and the message behind it, on the words. Assumes nothing.
use Rattle.std.specs.Prelude.{None}
use Rattle.std.specs.Prelude.{ℕ, ◌-◌, true, false, List, eqb, ltb, leb}
use Rattle.std.specs.Prelude.{if◌then◌else◌}
use Rattle.queue_words.specs.Active.{active_at, put_active_words, parameters_word}
use Rattle.queue_words.specs.Header.{options_at, scheduler_at, put_scheduler}
use Rattle.queue_words.specs.declared.active.SchedulingParameters.{SchedulingParameters}
use Rattle.active_table.specs.Groups.{refreshed}
use Rattle.stream_scheduler.specs.Rows.{advanced, scheduled_row}
use Rattle.stream_scheduler.specs.Words.{Outcome, outcome, rested, state_of, dropped_row}

-- "A last fragment ends its stream's waiting, which makes the system time 0 if no other stream waits; a message behind it [..] then makes the stream
-- begin anew"; "A stream that
-- begins waiting starts at the system time". Of n rows the row `at` is that of the stream, from that time on.
unfoldable pub begun_anew : List ℕ → ℕ → ℕ → ℕ → ℕ → ℕ → ℕ → List ℕ
begun_anew ws at id t bytes w n =
    let start = rested t (n - 1) in
    put_scheduler (put_active_words ws at (scheduled_row (options_at ws).payload_limit id w start bytes)) (state_of None start n)

-- "Handing out moves its start, and the system time, by the cost of the bytes handed out"; with no bytes behind them the row is taken out.
unfoldable pub last_row : List ℕ → ℕ → ℕ → ℕ → ℕ → ℕ → ℕ → List ℕ
last_row ws at id sent bytes w n =
    let a = active_at ws at in
    let t = advanced a.parameters a.virtual_start_time sent in
    if eqb bytes 0 then dropped_row ws at None t n else begun_anew ws at id t bytes w n

-- The last bytes of the row `at` handed out; its stream goes on with so many bytes, 0 for none.
unfoldable pub accept_last_words : List ℕ → ℕ → ℕ → ℕ → ℕ → SchedulingParameters → Outcome
accept_last_words ws at id sent bytes p =
    let n = (scheduler_at ws).active in
    if ltb 256 n then outcome false ws else if leb n at then outcome false ws else outcome true (refreshed (last_row ws at id sent bytes (parameters_word p) n) at)
