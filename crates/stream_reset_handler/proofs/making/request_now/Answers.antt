-- `stream_reset_handler::making::request_now` meets its contract: each return is a case of `make_request` and of the model's (proofs/Makes.antt). Assumes nothing.
use Rattle.stream_reset_handler.proofs.Makes.{made_refused}
use mathlib.Core.Path.{subst}
use Rattle.send_queue.specs.Restarts.{CountMeets}
use Rattle.std.proofs.Common.{refl}
use Rattle.stream_reset_handler.proofs.making.request_now.Goals as goal

pub returns-in-Err : goal.returns-in-Err
returns-in-Err c = made_refused _ _ _ _ _ c.requires _ (subst (CountMeets c.args.queue.now) refl c.in-Err.ensures)
