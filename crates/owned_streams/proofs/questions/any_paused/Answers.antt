-- `owned_streams::questions::any_paused` meets its contract: what is asked is whether a stream is paused from position i on. Assumes nothing.
use mathlib.Core.Path.{sym, ◌∙◌}
use native.Mathlib.Omega.{arith}
use Rattle.queue_questions.proofs.Exits.{ready_here, ready_next, ready_end}
use Rattle.owned_streams.proofs.Own.{row_of}
use Rattle.owned_streams.proofs.questions.any_paused.Goals as goal

pub returns-then-paused : goal.returns-then-paused
returns-then-paused c = ready_here _ _ _ c.loop-i.invariant c.loop-i-test.true _ c.load_known-k.ensures (let f = row_of _ _ _ _ c.requires.0 c.loop-i-test.true c.load_known-k.ensures in omega (arith, f)) _ c.load_stream-s.ensures (sym c.is_paused-paused.ensures ∙ c.if-paused.true)

pub loop-i-preserved : goal.loop-i-preserved
loop-i-preserved c = ready_next _ _ _ c.loop-i.invariant c.loop-i-test.true _ c.load_known-k.ensures (let f = row_of _ _ _ _ c.requires.0 c.loop-i-test.true c.load_known-k.ensures in omega (arith, f)) _ c.load_stream-s.ensures (sym c.is_paused-paused.ensures ∙ c.if-paused.false)

pub returns : goal.returns
returns c = ready_end _ _ _ c.loop-i.invariant c.loop-i-test.false
