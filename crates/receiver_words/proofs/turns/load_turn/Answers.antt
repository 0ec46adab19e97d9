-- `receiver_words::turns::load_turn` meets its contract: it is what `turn_out` does, under the name that laws speak of. Assumes nothing.
use Rattle.receiver_words.specs.Tables.{row_at}
use Rattle.receiver_words.proofs.turns.load_turn.Goals as goal

pub returns : goal.returns
unfolding row_at
returns c = c.turn_out.ensures
