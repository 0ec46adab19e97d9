-- `packets::filling::fill_code` meets its contract: the packet is judged first, then the store, then the events and the time. Assumes nothing.
use native.Mathlib.Omega.{arith}
use borrow.Author.Tests.{ltb-true}
use Rattle.std.proofs.lemmas.Result.{err_from_is_err_and}
use Rattle.types.proofs.Refusals.{refusal_above}
use Rattle.packets.proofs.Cases.{judged_packet, judged_store, judged_events}
use Rattle.packets.proofs.filling.fill_code.Goals as goal

pub returns-in_err-packet_code : goal.returns-in_err-packet_code
returns-in_err-packet_code c =
    let p = err_from_is_err_and c.from_residual.result c.from_residual.ensures.1 in
    rw (p.1, p.2) (judged_packet c.args.queue.now c.args.len c.args.places c.args.room c.args.time c.args.limit _ c.in_err-packet_code.ensures (ltb-true _ _ (refusal_above _)))

pub returns-then-o-len : goal.returns-then-o-len
returns-then-o-len c = judged_store c.args.queue.now c.args.len c.args.places c.args.room c.args.time c.args.limit _ c.in_ok-packet_code.ensures (omega arith) _ c.load_options-o.ensures c.if-o-len.true

pub returns : goal.returns
returns c = judged_events c.args.queue.now c.args.len c.args.places c.args.room c.args.time c.args.limit _ c.in_ok-packet_code.ensures (omega arith) _ c.load_options-o.ensures c.if-o-len.false _ c.events_code.ensures
