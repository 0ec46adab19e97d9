-- `receiver_words::cells::store_bucket` meets its contract. Assumes nothing.
use mathlib.Core.Path.{refl}
use Rattle.receiver_words.specs.Tables.{put_word}
use Rattle.receiver_words.proofs.cells.store_bucket.Goals as goal

pub returns : goal.returns
unfolding put_word
returns c = refl
