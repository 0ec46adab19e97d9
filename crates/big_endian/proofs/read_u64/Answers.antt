use Rattle.big_endian.proofs.Halves.{be_read}
use Rattle.big_endian.proofs.read_u64.Goals as goal

-- `big_endian::read_u64` meets its contract: std reads the number of the bytes. Assumes nothing.
pub returns : goal.returns
returns c = be_read c.args.bytes.now _ c.args.at 7 _ c.requires c.bytes_at.ensures c.from_be_bytes.ensures
