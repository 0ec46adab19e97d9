-- `receiver_messages::walks::missing_after` meets its contract: each return is what its definition says, by what the calls ensure and the tests taken.
-- Assumes nothing.
use Rattle.receiver_messages.proofs.Beside.{after_last, after_next}
use Rattle.receiver_messages.proofs.walks.missing_after.Goals as goal

pub returns-then-f : goal.returns-then-f
returns-then-f c = after_last _ _ _ _ c.load_fragment-f.ensures c.if-f.true

pub returns : goal.returns
returns c = after_next _ _ _ _ c.load_fragment-f.ensures _ c.if-f.false c.row_after-j.ensures
