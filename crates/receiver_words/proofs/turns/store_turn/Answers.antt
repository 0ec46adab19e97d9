-- `receiver_words::turns::store_turn` meets its contract: it is what `turn_in` does, under the name that laws speak of. Assumes nothing.
use Rattle.receiver_words.specs.Tables.{put_at}
use Rattle.receiver_words.proofs.turns.store_turn.Goals as goal

pub returns : goal.returns
unfolding put_at
returns c = c.turn_in.ensures
