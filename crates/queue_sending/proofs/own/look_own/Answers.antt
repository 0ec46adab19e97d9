-- `queue_sending::own::look_own` meets its contract: each return is what its definition says, by what the calls ensure (proofs/Ahead.antt). Assumes nothing.
use Rattle.queue_sending.proofs.Ahead.{rows_few, at_row, row_unbroken, row_looked, none_looked}
use Rattle.queue_sending.proofs.own.look_own.Goals as goal

pub peek_own-p-requires : goal.peek_own-p-requires
peek_own-p-requires c = rows_few _ _ c.requires

pub load_active-a-requires : goal.load_active-a-requires
load_active-a-requires c = at_row _ _ c.requires _ c.in-Row.ensures

pub look_own_for-requires : goal.look_own_for-requires
look_own_for-requires c = row_unbroken _ _ c.requires _ c.in-Row.ensures _ c.load_active-a.ensures

pub returns-in-Row : goal.returns-in-Row
returns-in-Row c = row_looked _ _ c.requires _ c.in-Row.ensures _ c.load_active-a.ensures _ c.look_own_for.ensures

pub returns-in-Nothing : goal.returns-in-Nothing
returns-in-Nothing c = none_looked _ _ c.requires c.in-Nothing.ensures
