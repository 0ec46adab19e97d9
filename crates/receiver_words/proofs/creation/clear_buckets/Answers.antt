-- `receiver_words::creation::clear_buckets` meets its contract: after i turns the first i rows are filled. Assumes nothing.
use mathlib.Core.Path.{refl}
use Rattle.receiver_words.specs.Tables.{Buckets}
use Rattle.receiver_words.specs.Creation.{fill_to}
use Rattle.receiver_words.proofs.Steps.{fill_next}
use Rattle.receiver_words.proofs.creation.clear_buckets.Goals as goal

pub loop-i-init : goal.loop-i-init
unfolding fill_to
loop-i-init c = refl

pub loop-i-preserved : goal.loop-i-preserved
loop-i-preserved c = fill_next Buckets _ _ _ _ _ _ c.loop-i.invariant c.store_bucket.ensures
