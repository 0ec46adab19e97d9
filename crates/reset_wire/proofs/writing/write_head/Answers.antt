-- `reset_wire::writing::write_head` meets its contract: the eight numbers of `request_head`, one after the other (proofs/Puts.antt). Assumes nothing.
use Rattle.reset_wire.proofs.Puts.{head_wrote}
use Rattle.reset_wire.proofs.writing.write_head.Goals as goal

pub returns : goal.returns
returns c = rw (c.put_u32-3.ensures, c.put_u32-2.ensures, c.put_u32.ensures, c.put_u16-3.ensures, c.put_u16-2.ensures, c.put_u16.ensures, c.put_u8-2.ensures, c.put_u8.ensures) (head_wrote _ _ _ _ _ c.requires.1)
