-- `stream_reset_handler::receiving::reset` meets its contract: each return is a case of `reset_by` and of the model's (proofs/Handles.antt). Assumes nothing.
use mathlib.Core.Path.{ap}
use Rattle.send_queue.specs.Call.{as_call}
use Rattle.stream_reset_handler.proofs.Handles.{reset_accepted, reset_refused}
use Rattle.stream_reset_handler.proofs.receiving.reset.Goals as goal

pub returns-in-Ok : goal.returns-in-Ok
returns-in-Ok c = reset_accepted _ _ _ _ c.reset-done.ensures _ _ (ap as_call c.in-Ok.is) c.ended.ensures

pub returns-in-Err : goal.returns-in-Err
returns-in-Err c = reset_refused _ _ _ _ c.reset-done.ensures _ (ap as_call c.in-Err.is)
