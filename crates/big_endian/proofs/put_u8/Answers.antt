use Rattle.big_endian.proofs.Halves.{byte_wrote}
use Rattle.std.proofs.Common.{rules}
use Rattle.big_endian.proofs.put_u8.Goals as goal

-- `big_endian::put_u8` meets its contract: each return is what its definition says, by what the calls ensure and the tests taken. Assumes nothing.
pub returns : goal.returns
returns c = byte_wrote c.args.buffer.now c.args.at c.args.n c.requires (search rules)
