-- `receiver_words::cells::load_bucket` meets its contract. Assumes nothing.
use mathlib.Core.Path.{refl}
use Rattle.receiver_words.specs.Tables.{word_at}
use Rattle.receiver_words.proofs.cells.load_bucket.Goals as goal

pub returns : goal.returns
unfolding word_at
returns c = refl
