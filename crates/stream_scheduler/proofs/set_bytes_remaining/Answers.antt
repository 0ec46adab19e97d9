-- `stream_scheduler::set_bytes_remaining` meets its contract: it is its tests, and what follows them (proofs/Exits.antt). Assumes nothing.
use mathlib.Core.Path.{sym, ap, ◌∙◌}
use Rattle.queue_words.specs.declared.header.SchedulerState.{SchedulerState}
use Rattle.stream_scheduler.proofs.Exits.{bytes_broken, set_can, set_cannot}
use Rattle.stream_scheduler.proofs.set_bytes_remaining.Goals as goal

-- `stream_scheduler::set_bytes_remaining` meets its contract: it is its tests, and what follows them (proofs/Exits.antt). Assumes nothing.
pub returns-then-s-gt-STREAMS : goal.returns-then-s-gt-STREAMS
returns-then-s-gt-STREAMS c = bytes_broken _ _ _ _ _ c.load_scheduler_state-s.ensures c.if-s-gt-STREAMS.true

pub set_at-requires : goal.set_at-requires
set_at-requires c = (
  ap (λ (s : SchedulerState). s.active) c.load_scheduler_state-s.ensures,
  c.seek-at.ensures,
  set_can _ _ _ _ _ c.load_scheduler_state-s.ensures _ c.seek-at.ensures c.if-s-gt-STREAMS.false (sym c.can_wait-there.ensures ∙ c.if-there.true),
)

pub returns : goal.returns
returns c = set_cannot _ _ _ _ _ c.load_scheduler_state-s.ensures _ c.seek-at.ensures c.if-s-gt-STREAMS.false (sym c.can_wait-there.ensures ∙ c.if-there.false)
