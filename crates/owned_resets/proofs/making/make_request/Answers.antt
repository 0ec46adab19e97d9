-- `owned_resets::making::make_request` meets its contract: each return is a case of the checked call's (stream_reset_handler: proofs/Makes). Assumes nothing.
use Rattle.stream_reset_handler.proofs.Makes.{made_25}
use Rattle.owned_resets.proofs.making.make_request.Goals as goal

pub returns-in-Some : goal.returns-in-Some
returns-in-Some c = made_25 _ _ _ _ _ _ c.in-Some.is
