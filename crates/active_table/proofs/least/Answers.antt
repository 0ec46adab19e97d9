-- One row more.
use Rattle.std.proofs.Common.{◌≡◌, ℕ, ◌+◌, suc, refl, ap, ◌∙◌, arith}
use Rattle.active_table.specs.Rows.{best_of, better, best_among}
use Rattle.active_table.specs.Parts.{rows_of}
use Rattle.active_table.specs.declared.Best.{Best}
use Rattle.queue_words.specs.declared.active.ActiveStreamInfo.{ActiveStreamInfo}
use Rattle.active_table.proofs.least.Goals as goal

pub loop-i-init : goal.loop-i-init
unfolding best_among
loop-i-init c = refl

-- The best of i rows and the next one.
next : (rows : ℕ → ActiveStreamInfo) (start : Best) (from i : ℕ) (a b : Best) → a ≡ best_among rows start from i → b ≡ better a (best_of (rows i) (from + i)) → b ≡ best_among rows start from (i + 1)
unfolding best_among
next rows start from i a b ea eb =
    let t : i + 1 ≡ suc i = omega arith in
    rw t (eb ∙ ap (λ (x : Best). better x (best_of (rows i) (from + i))) ea)

pub loop-i-preserved : goal.loop-i-preserved
loop-i-preserved c = next (rows_of c.args.table.now) c.args.start c.args.from c.loop-i.i c.loop-i.best c.better-best.result c.loop-i.invariant c.better-best.ensures
