-- `owned_resets::receiving::reset` meets its contract: the checked call's, accepted (stream_reset_handler: proofs/Handles). Assumes nothing.
use mathlib.Core.Path.{refl}
use Rattle.stream_reset_handler.proofs.Handles.{reset_accepted}
use Rattle.owned_resets.proofs.receiving.reset.Goals as goal

pub returns : goal.returns
returns c = reset_accepted _ _ _ _ c.reset.ensures 0 _ refl c.ended.ensures
