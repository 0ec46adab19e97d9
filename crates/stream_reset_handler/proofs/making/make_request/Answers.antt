-- `stream_reset_handler::making::make_request` meets its contract: each return is a case of `make_request` and of the model's (proofs/Makes.antt). Assumes nothing.
use Rattle.stream_reset_handler.proofs.Makes.{made_25}
use Rattle.stream_reset_handler.proofs.making.make_request.Goals as goal

pub returns-in-Some : goal.returns-in-Some
returns-in-Some c = made_25 _ _ _ _ _ _ c.in-Some.is
