-- `stream_reset_handler::receiving::roll_back` meets its contract: each return is a case of `finished` and of the model's (proofs/Handles.antt). Assumes nothing.
use Rattle.stream_reset_handler.proofs.Handles.{finish_accepted, finish_refused}
use mathlib.Core.Bool.{false}
use Rattle.std.proofs.Common.{refl}
use Rattle.stream_reset_handler.proofs.receiving.roll_back.Goals as goal

pub returns-in-Ok : goal.returns-in-Ok
returns-in-Ok c = finish_accepted false _ _ _ _ c.in-Ok.ensures _ _ _ refl c.ended.ensures c.answered.ensures

pub returns-in-Err : goal.returns-in-Err
returns-in-Err c = finish_refused false _ _ _ _ c.in-Err.ensures _ _ refl c.answered-in-Err.ensures
