-- `queue_messages::message::expiry` meets its contract: each arm is a case of `expiry`; the sum fits by the bounds of its terms. Assumes nothing.
use Rattle.queue_messages.specs.Message.{expiry}
use Rattle.queue_messages.proofs.message.expiry.Goals as goal

pub returns-in-None : goal.returns-in-None
unfolding expiry
returns-in-None c = rw c.in-None.is

pub returns-in-Some : goal.returns-in-Some
unfolding expiry
returns-in-Some c = rw c.in-Some.is
