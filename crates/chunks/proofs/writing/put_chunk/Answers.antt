-- `chunks::writing::put_chunk` meets its contract: each return is what its definition says, by what the calls ensure and the tests taken. Assumes nothing.
use native.Mathlib.Omega.{arith}
use Rattle.chunks.proofs.WriteCases.{zeros_fit, end_fits, chunk_wrote}
use Rattle.chunks.proofs.writing.put_chunk.Goals as goal

pub put_zeros-requires : goal.put_zeros-requires
put_zeros-requires c = (zeros_fit c.args.kind _ _ _ c.header_size-size.ensures c.padded-end.ensures, omega (arith, end_fits c.args.kind _ _ _ _ c.header_size-size.ensures c.padded-end.ensures c.requires.1))

pub returns : goal.returns
returns c = chunk_wrote c.args.kind c.args.tsn c.args.d c.args.output.now _ _ _ c.args.payload.now _ _ c.header_size-size.ensures c.padded-end.ensures c.requires.1 c.put_header.ensures c.put_bytes.ensures c.put_zeros.ensures
