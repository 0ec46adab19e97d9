-- `owned_packets::filling::fill_packet` meets its contract: judged, then filled; each way out is the checked call's (proofs/Answers.antt). Assumes nothing.
use native.Mathlib.Omega.{arith}
use borrow.Author.Tests.{ltb-true}
use Rattle.types.proofs.Refusals.{refusal_above}
use Rattle.owned_packets.proofs.Answers.{filled_lent, refused_lent, out_refused, out_filled}
use Rattle.owned_packets.proofs.filling.fill_packet.Goals as goal

pub returns-in-Err-clause-meets : goal.returns-in-Err-clause-meets
returns-in-Err-clause-meets c =
    rw c.refusal_of.ensures (out_refused c.args.queue.now c.args.store.now c.args.events.now c.args.packet.now c.args.time c.args.p c.requires _ c.in-Err.ensures (ltb-true _ _ (refusal_above _)))

pub returns-in-Err-clause-lent : goal.returns-in-Err-clause-lent
returns-in-Err-clause-lent c =
    rw c.refusal_of.ensures (refused_lent c.args.queue.now c.args.store.now c.args.events.now c.args.packet.now c.args.time c.args.p c.requires _ c.in-Err.ensures (ltb-true _ _ (refusal_above _)))

pub returns-clause-meets : goal.returns-clause-meets
returns-clause-meets c =
    out_filled c.args.queue.now c.args.store.now c.args.events.now c.args.packet.now c.args.time c.args.p c.requires _ c.in_default.ensures (omega arith) _ c.load_options-o.ensures _ c.load_totals-t.ensures _ c.kind_of-kind.ensures c.fill_chunks-r.result _ _ _ c.fill_chunks-r.ensures c.finish.result _ c.finish.ensures

pub returns-clause-lent : goal.returns-clause-lent
returns-clause-lent c = filled_lent c.finish.result
