-- `queue_sending::past::pass_copied` meets its contract: kept or put back, it leads to what passing over leaves (proofs/Nexts.antt). Assumes nothing.
use mathlib.Core.Path.{sym, ◌∙◌}
use Rattle.queue_sending.proofs.Nexts.{copied_kept, copied_back, err_refused}
use Rattle.queue_sending.proofs.past.pass_copied.Goals as goal

pub returns-then-refused : goal.returns-then-refused
returns-then-refused c = copied_back _ _ _ _ _ _ _ _ _ _ _ c.pass_over-passed.ensures _ c.next_passed-n.ensures (sym (err_refused _ _ c.is_err-refused.ensures.value) ∙ c.if-refused.true) _ _ _ c.requires c.copy_words.ensures c.copy_words-then-refused.ensures

pub returns : goal.returns
returns c = copied_kept _ _ _ _ _ _ _ _ _ _ _ c.pass_over-passed.ensures _ c.next_passed-n.ensures (sym (err_refused _ _ c.is_err-refused.ensures.value) ∙ c.if-refused.false)
