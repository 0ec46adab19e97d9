use Rattle.queue_messages.specs.Add.{has_room_words}
use Rattle.queue_messages.proofs.adding.has_room.Goals as goal

-- `queue_messages::adding::has_room` meets its contract: each return is what its definition says, by what the calls ensure and the tests taken. Assumes
-- nothing.
pub returns-then-begins : goal.returns-then-begins
unfolding has_room_words
returns-then-begins c = rw (← c.starts-begins.ensures, c.if-begins.true, ← c.load_scheduler_state-c.ensures)

pub returns : goal.returns
unfolding has_room_words
returns c = rw (← c.starts-begins.ensures, c.if-begins.false)
