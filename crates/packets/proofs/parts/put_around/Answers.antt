-- `packets::parts::put_around` meets its contract: the header before the payload, and the zeros behind it. Assumes nothing.
use native.Mathlib.Omega.{arith}
use Rattle.chunks.proofs.WriteCases.{zeros_fit}
use Rattle.packets.proofs.Cases.{around_fits, around_is}
use Rattle.packets.proofs.parts.put_around.Goals as goal

pub put_zeros-requires : goal.put_zeros-requires
put_zeros-requires c = (
  zeros_fit c.args.kind _ _ _ c.header_size-size.ensures c.padded-end.ensures,
  omega (arith, around_fits c.args.kind _ _ _ c.args.at _ c.header_size-size.ensures c.padded-end.ensures c.requires.1),
)

pub returns : goal.returns
returns c =
    around_is c.args.kind c.args.tsn c.args.d c.args.packet.now _ _ c.args.at _ _
    c.header_size-size.ensures c.padded-end.ensures c.requires.1 c.put_header.ensures c.put_zeros.ensures
