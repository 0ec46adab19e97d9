-- `queue_sending::past::pass_first` meets its contract: kept or put back, it leads to what passing over leaves (proofs/Nexts.antt). Assumes nothing.
use native.Mathlib.Omega.{arith}
use Rattle.queue_sending.proofs.Nexts.{log_back, log_kept, err_refused}
use Rattle.queue_sending.proofs.past.pass_first.Goals as goal

pub returns-then-refused : goal.returns-then-refused
returns-then-refused c = log_back 1 _ _ _ _ _ _ _ _ _ _ _ _ _ _ c.pass_some-p.ensures.1 _ _ _ c.next_past-n.ensures _ (err_refused _ _ c.is_err-refused.ensures.value) c.if-refused.true _ _ _ _ _ _ 12 (omega (arith)) (omega (arith, c.requires.0)) (omega (arith, c.copy_words-arg-2-1.given)) c.copy_words.ensures c.copy_words-2.ensures c.put_back.ensures.0 (omega (arith, c.saved-2-1.given)) c.put_back.ensures.1

pub returns : goal.returns
returns c = log_kept 1 _ _ _ _ _ _ _ _ _ _ _ _ _ _ c.pass_some-p.ensures.1 _ _ _ c.next_past-n.ensures _ (err_refused _ _ c.is_err-refused.ensures.value) c.if-refused.false
