-- `receiver_words::fragments::store_fragment` meets its contract: it is what `fragment_in` does, under the name that laws speak of. Assumes nothing.
use Rattle.receiver_words.specs.Tables.{put_at}
use Rattle.receiver_words.proofs.fragments.store_fragment.Goals as goal

pub returns : goal.returns
unfolding put_at
returns c = c.fragment_in.ensures
