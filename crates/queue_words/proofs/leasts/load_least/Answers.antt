-- `queue_words::leasts::load_least` meets its contract. Assumes nothing.
use mathlib.Core.Path.{sym}
use Rattle.queue_words.specs.Leasts.{leasts_at}
use Rattle.queue_words.proofs.Rows.{row_word}
use Rattle.queue_words.proofs.leasts.load_least.Goals as goal

-- `queue_words::leasts::load_least` meets its contract. Assumes nothing.
pub returns : goal.returns
unfolding leasts_at
returns c = sym (row_word c.args.queue.now 21 11 c.args.g c.requires)
