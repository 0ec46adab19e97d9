-- `receiver_store::comparing::same_bytes` meets its contract: bytes that are the same pair by pair are the same list. Assumes nothing.
use mathlib.Core.Path.{◌∙◌}
use Rattle.receiver_store.proofs.Steps.{pairs_same}
use Rattle.receiver_store.proofs.comparing.same_bytes.Goals as goal

pub returns : goal.returns
returns c = c.eq.ensures ∙ pairs_same _ _
