-- `owned_packets::filling::lent_code` meets its contract: the packet is judged first, then the events and the time. Assumes nothing.
use mathlib.Core.Path.{sym, ◌∙◌}
use native.Mathlib.Omega.{arith}
use borrow.Author.Tests.{ltb-true}
use Rattle.std.proofs.lemmas.Result.{err_from_is_err_and}
use Rattle.types.proofs.Refusals.{refusal_above}
use Rattle.packets.specs.Filling.{events_code}
use Rattle.packets.proofs.Cases.{packet_refused, packet_passed}
use Rattle.owned_packets.proofs.filling.lent_code.Goals as goal

pub returns-in_err-packet_code : goal.returns-in_err-packet_code
returns-in_err-packet_code c =
    let p = err_from_is_err_and c.from_residual.result c.from_residual.ensures.1 in
    rw (p.1, p.2) (sym (packet_refused c.args.room c.args.limit (events_code c.args.places c.args.time) _ c.in_err-packet_code.ensures (ltb-true _ _ (refusal_above _))))

pub returns : goal.returns
returns c = c.events_code.ensures ∙ sym (packet_passed c.args.room c.args.limit (events_code c.args.places c.args.time) _ c.in_ok-packet_code.ensures (omega arith))
