-- `receiver_messages::walks::missing_before` meets its contract: each return is what its definition says, by what the calls ensure and the tests taken.
-- Assumes nothing.
use Rattle.receiver_messages.proofs.Beside.{before_first, before_next}
use Rattle.receiver_messages.proofs.walks.missing_before.Goals as goal

pub returns-then-first : goal.returns-then-first
returns-then-first c = before_first _ _ _ _ c.load_fragment-f.ensures _ c.begins-first.ensures c.if-first.true

pub returns : goal.returns
returns c = before_next _ _ _ _ c.load_fragment-f.ensures _ _ c.begins-first.ensures c.if-first.false c.row_before-j.ensures
