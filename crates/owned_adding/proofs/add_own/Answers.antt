-- `owned_adding::add_own` meets its contract: each way out is a case of `add_to`, by the tests (proofs/Sound.antt). Assumes nothing.
use native.Mathlib.Omega.{arith}
use borrow.Author.Tests.{ltb-true}
use Rattle.types.proofs.Refusals.{refusal_above}
use Rattle.owned_adding.proofs.Sound.{full_numbered, full_out, append_asks, append_out}
use Rattle.owned_adding.proofs.add_own.Goals as goal

pub full_refusal-requires : goal.full_refusal-requires
full_refusal-requires c = full_numbered _ _ _ _ c.in-Err.ensures (ltb-true 0 _ (refusal_above _))

pub returns-in-Err : goal.returns-in-Err
returns-in-Err c = full_out _ _ _ _ _ _ c.requires _ c.in-Err.ensures (ltb-true 0 _ (refusal_above _)) c.full_refusal.result c.full_refusal.ensures

pub append-requires : goal.append-requires
append-requires c = append_asks _ c.args.store.now _ _ c.args.payload.now _ c.requires _ c.in_default.ensures (omega arith) c.whole.ensures _ _ _ c.row_for-row.ensures c.stream_for-s.ensures c.make_known.ensures

pub returns : goal.returns
returns c = append_out _ _ _ _ _ _ c.requires _ c.in_default.ensures (omega arith) _ _ _ _ _ c.row_for-row.ensures c.stream_for-s.ensures c.make_known.ensures c.append.ensures
