-- What is sought is the first among the rows from g * 4, and then i, on.
use Rattle.std.proofs.Common.{◌≡◌, ◌-◌, ◌*◌}
use Rattle.queue_words.specs.Active.{active_at}
use Rattle.active_table.specs.Rows.{seek, seek_from}
use Rattle.active_table.proofs.seek.Given as goal

abbrev pub invariant-loop-g : goal.invariant-loop-g
invariant-loop-g l = seek l.queue l.stream_id l.n ≡ seek_from (active_at l.queue) l.stream_id (l.g * 4) (l.n - l.g * 4)

abbrev pub invariant-loop-i : goal.invariant-loop-i
invariant-loop-i l = seek l.queue l.stream_id l.n ≡ seek_from (active_at l.queue) l.stream_id l.i (l.n - l.i)
