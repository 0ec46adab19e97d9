-- `receiver_words::ahead::load_ahead` meets its contract. Assumes nothing.
use Rattle.receiver_words.proofs.Laws.{one_word}
use Rattle.receiver_words.specs.Tables.{word_at}
use Rattle.receiver_words.proofs.ahead.load_ahead.Goals as goal

pub returns : goal.returns
unfolding word_at
returns c = rw (one_word _)
