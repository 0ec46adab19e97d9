-- `receiver_words::cells::store_header` meets its contract. Assumes nothing.
use mathlib.Core.Path.{refl}
use Rattle.receiver_words.specs.Tables.{put_word}
use Rattle.receiver_words.proofs.cells.store_header.Goals as goal

pub returns : goal.returns
unfolding put_word
returns c = refl
