-- `queue_streams::waiting::head_size` meets its contract: each return is a case of `head_size_words` (proofs/Waits.antt). Assumes nothing.
use Rattle.queue_streams.proofs.Waits.{size_some, size_none}
use Rattle.queue_streams.proofs.waiting.head_size.Goals as goal

-- `queue_streams::waiting::head_size` meets its contract: each return is a case of `head_size_words` (proofs/Waits.antt). Assumes nothing.
pub returns-then-first-lt-NO_MESSAGE : goal.returns-then-first-lt-NO_MESSAGE
returns-then-first-lt-NO_MESSAGE c = size_some _ _ _ c.if-first-lt-NO_MESSAGE.true c.remaining_at.ensures

pub returns : goal.returns
returns c = size_none _ _ c.if-first-lt-NO_MESSAGE.false
