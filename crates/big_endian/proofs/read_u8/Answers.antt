use Rattle.big_endian.proofs.Halves.{byte_is}
use Rattle.big_endian.proofs.read_u8.Goals as goal

-- `big_endian::read_u8` meets its contract: each return is what its definition says, by what the calls ensure and the tests taken. Assumes nothing.
pub returns : goal.returns
returns c = byte_is c.args.bytes.now c.args.at c.requires
