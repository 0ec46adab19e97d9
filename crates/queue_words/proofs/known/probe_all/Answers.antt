-- `queue_words::known::probe_all` meets its contract. Invariant: the steps left lead where all of them do. Assumes nothing.
use mathlib.Core.Path.{sym, ◌∙◌}
use native.Mathlib.Omega.{arith}
use Rattle.queue_words.proofs.Finds.{shrinks, one_more, no_more, stays_within}
use Rattle.queue_words.proofs.known.probe_all.Goals as goal

pub loop-p-smaller : goal.loop-p-smaller
loop-p-smaller c = rw c.probe_once-p.ensures (shrinks _ _ c.loop-p.p (λ e. omega arith))

pub loop-p-preserved : goal.loop-p-preserved
loop-p-preserved c =
    let l = c.loop-p in
    rw c.probe_once-p.ensures (stays_within _ _ _ l.p (λ e. omega arith) l.invariant.0, sym (one_more _ _ l.p (λ e. omega arith)) ∙ l.invariant.1)

pub returns : goal.returns
returns c =
    let l = c.loop-p in
    sym (no_more _ _ l.p (omega arith)) ∙ l.invariant.1
