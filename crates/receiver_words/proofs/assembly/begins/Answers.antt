-- `receiver_words::assembly::begins` meets its contract. Assumes nothing.
use Rattle.receiver_model.specs.Assembly as model
use Rattle.receiver_words.proofs.assembly.begins.Goals as goal

pub returns-then-interleaved : goal.returns-then-interleaved
unfolding model.begins
returns-then-interleaved c = rw c.if-interleaved.true

pub returns : goal.returns
unfolding model.begins
returns c = rw c.if-interleaved.false
