-- `queue_sending::own::look_own_at` meets its contract: each return is what its definition says, by what the calls ensure and the test taken. Assumes nothing.
use Rattle.queue_sending.proofs.Ahead.{look_is}
use Rattle.queue_sending.proofs.own.look_own_at.Goals as goal

pub returns-then-gone : goal.returns-then-gone
returns-then-gone c = rw c.if-gone.true at (look_is _ c.args.time c.args.at c.args.id c.args.row _ _ _ c.requires.1 c.load_stream-s.ensures c.load_item-m.ensures c.expired-gone.ensures)

pub returns : goal.returns
returns c = rw c.if-gone.false at (look_is _ c.args.time c.args.at c.args.id c.args.row _ _ _ c.requires.1 c.load_stream-s.ensures c.load_item-m.ensures c.expired-gone.ensures)
