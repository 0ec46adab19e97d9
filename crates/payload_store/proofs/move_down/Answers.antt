-- A copy within the store is `moved` by all n bytes.
use Rattle.std.proofs.Common.{◌∙◌}
use Rattle.payload_store.proofs.Moves.{moved_within}
use Rattle.payload_store.proofs.move_down.Goals as goal

pub returns : goal.returns
returns c = c.copy_within.ensures.after ∙ moved_within _ _ _ _ c.requires.1 c.requires.0
