-- `queue_sending::past::copy_words` meets its contract, by what a copy of a slice ensures. Assumes nothing.
use Rattle.queue_sending.specs.Produce.{copied}
use Rattle.queue_sending.proofs.past.copy_words.Goals as goal

pub returns : goal.returns
unfolding copied
returns c = rw c.copy_from_slice.ensures.after
