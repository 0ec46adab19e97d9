-- `owned_resets::receiving::handle_response` meets its contract: each return is a case of the checked call's (stream_reset_handler: proofs/Handles). Assumes nothing.
use mathlib.Core.Path.{refl}
use mathlib.Core.Bool.{true, false}
use Rattle.stream_reset_handler.proofs.Handles.{finish_accepted, step_commits, step_rolls_back, step_waits, step_ignores, step_refuses}
use Rattle.std.proofs.Common.{rules}
use Rattle.send_queue.specs.Call as call
use Rattle.owned_resets.proofs.receiving.handle_response.Goals as goal

pub returns-in-Commit : goal.returns-in-Commit
returns-in-Commit c = step_commits _ _ _ _ c.in-Commit.ensures _ _ refl (finish_accepted true _ _ (call.Accepted 0) _ (search rules) 0 _ _ refl refl (search rules))

pub returns-in-RollBack : goal.returns-in-RollBack
returns-in-RollBack c = step_rolls_back _ _ _ _ c.in-RollBack.ensures _ _ refl (finish_accepted false _ _ (call.Accepted 0) _ (search rules) 0 _ _ refl refl (search rules))

pub returns-in-Wait : goal.returns-in-Wait
returns-in-Wait c = step_waits _ _ _ _ c.in-Wait.ensures _ refl c.answered-in-Wait.ensures

pub returns-in-Ignore : goal.returns-in-Ignore
returns-in-Ignore c = step_ignores _ _ _ _ c.in-Ignore.ensures _ refl c.answered-in-Ignore.ensures

pub returns-in-Refuse : goal.returns-in-Refuse
returns-in-Refuse c = step_refuses _ _ _ _ c.in-Refuse.ensures _ refl c.answered-in-Refuse.ensures
