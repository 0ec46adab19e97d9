-- `reset_wire::writing::write_padding` meets its contract: two zeros behind an odd number of ids, none behind an even one (proofs/Puts.antt). Assumes nothing.
use Rattle.reset_wire.proofs.Puts.{odd_room, padding_none, padding_two}
use Rattle.reset_wire.proofs.writing.write_padding.Goals as goal

pub put_u16-requires : goal.put_u16-requires
put_u16-requires c = odd_room _ _ c.if-count-eq1.true c.requires.1

pub returns-then-count-eq1 : goal.returns-then-count-eq1
returns-then-count-eq1 c = padding_two _ _ _ c.if-count-eq1.true c.put_u16.ensures

pub returns-else-count-eq1 : goal.returns-else-count-eq1
returns-else-count-eq1 c = padding_none _ _ c.if-count-eq1.false
