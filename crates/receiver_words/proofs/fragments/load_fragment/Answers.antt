-- `receiver_words::fragments::load_fragment` meets its contract: it is what `fragment_out` does, under the name that laws speak of. Assumes nothing.
use Rattle.receiver_words.specs.Tables.{row_at}
use Rattle.receiver_words.proofs.fragments.load_fragment.Goals as goal

pub returns : goal.returns
unfolding row_at
returns c = c.fragment_out.ensures
