-- `receiver_words::ahead::store_flag` meets its contract. Assumes nothing.
use Rattle.receiver_words.specs.Tables.{put_word}
use Rattle.receiver_words.proofs.Laws.{one_word}
use Rattle.receiver_words.proofs.ahead.store_flag.Goals as goal

pub returns : goal.returns
unfolding put_word
returns c = rw (one_word _)
