-- `owned_sending::next_fragment::produce` meets its contract: each way out is the checked call's (proofs/Answers.antt). Assumes nothing.
use native.Mathlib.Omega.{arith}
use borrow.Author.Tests.{ltb-true}
use Rattle.types.proofs.Refusals.{refusal_above}
use Rattle.owned_sending.proofs.Answers.{out_refused, now_payable, out_made}
use Rattle.owned_sending.proofs.next_fragment.produce.Goals as goal

pub returns-in-Err : goal.returns-in-Err
returns-in-Err c = rw c.refusal_of.ensures (out_refused _ _ _ _ _ _ c.requires _ c.in-Err.ensures (ltb-true _ _ (refusal_above _)))

pub produce_after-requires : goal.produce_after-requires
produce_after-requires c = now_payable c.args.queue.now c.args.store.now c.args.events.now c.args.buffer.now c.args.time c.args.size c.requires _ c.in_default.ensures (omega arith)

pub returns : goal.returns
returns c = out_made _ _ _ _ _ _ c.requires _ c.in_default.ensures (omega arith) _ _ _ _ c.produce_after.ensures
