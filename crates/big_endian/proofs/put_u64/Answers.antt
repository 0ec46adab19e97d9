use Rattle.big_endian.proofs.Halves.{be_wrote}
use Rattle.big_endian.proofs.put_u64.Goals as goal

-- `big_endian::put_u64` meets its contract: std writes the number's bytes. Assumes nothing.
pub returns : goal.returns
returns c = be_wrote c.args.buffer.now _ _ c.args.at 8 c.args.n c.to_be_bytes.ensures c.put_bytes.ensures
