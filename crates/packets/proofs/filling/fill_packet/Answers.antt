-- `packets::filling::fill_packet` meets its contract: judged, then filled. Assumes nothing.
use native.Mathlib.Omega.{arith}
use Rattle.std.proofs.lemmas.Result.{err_from_is_err_and}
use Rattle.types.proofs.Refusals.{refusal_above}
use Rattle.packets.specs.Filling.{fill_packet}
use Rattle.packets.proofs.Cases.{code_allows, filled_is}
use Rattle.packets.proofs.filling.fill_packet.Goals as goal

pub returns-in_err-fill_code : goal.returns-in_err-fill_code
unfolding fill_packet
returns-in_err-fill_code c =
    let p = err_from_is_err_and c.from_residual.result c.from_residual.ensures.1 in
    rw (p.1, p.2, ← c.in_err-fill_code.ensures, refusal_above _)

pub fill_chunks-r-requires : goal.fill_chunks-r-requires
fill_chunks-r-requires c =
    let allowed = code_allows _ _ _ _ _ _ _ c.in_ok-fill_code.ensures (omega arith) in
    (allowed.0, (omega (arith, allowed.1.0), allowed.1.1))

pub finish-requires : goal.finish-requires
finish-requires c =
    let allowed = code_allows _ _ _ _ _ _ _ c.in_ok-fill_code.ensures (omega arith) in
    omega (arith, allowed.1.0, allowed.1.1.1, c.packet-1.given)

pub returns : goal.returns
returns c =
    filled_is _ _ _ _ _ _ _ c.in_ok-fill_code.ensures (omega arith) _ c.load_options-o.ensures _ c.load_totals-t.ensures _ c.kind_of-kind.ensures _ _ _ _ c.fill_chunks-r.ensures _ _ c.finish.ensures.0 c.finish.ensures.1
