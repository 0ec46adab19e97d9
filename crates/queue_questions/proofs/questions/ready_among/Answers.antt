-- `queue_questions::questions::ready_among` meets its contract: what is asked is whether a stream is paused from position i on. Assumes nothing.
use mathlib.Core.Path.{sym, ◌∙◌}
use Rattle.queue_questions.proofs.Exits.{ready_broken, ready_here, ready_next, ready_end}
use Rattle.queue_questions.proofs.questions.ready_among.Goals as goal

pub returns-then-k-gt-LAST_STREAM : goal.returns-then-k-gt-LAST_STREAM
returns-then-k-gt-LAST_STREAM c = ready_broken _ _ _ c.loop-i.invariant c.loop-i-test.true _ c.load_known-k.ensures c.if-k-gt-LAST_STREAM.true

pub returns-then-paused : goal.returns-then-paused
returns-then-paused c = ready_here _ _ _ c.loop-i.invariant c.loop-i-test.true _ c.load_known-k.ensures c.if-k-gt-LAST_STREAM.false _ c.load_stream-s.ensures (sym c.is_paused-paused.ensures ∙ c.if-paused.true)

pub loop-i-preserved : goal.loop-i-preserved
loop-i-preserved c = ready_next _ _ _ c.loop-i.invariant c.loop-i-test.true _ c.load_known-k.ensures c.if-k-gt-LAST_STREAM.false _ c.load_stream-s.ensures (sym c.is_paused-paused.ensures ∙ c.if-paused.false)

pub returns : goal.returns
returns c = ready_end _ _ _ c.loop-i.invariant c.loop-i-test.false
