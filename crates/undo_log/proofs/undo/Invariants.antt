-- `undo_log::undo` meets its contract: what undoing the rest leaves is what undoing all leaves. Assumes nothing.
use mathlib.Core.Path.{◌≡◌}
use Rattle.undo_log.specs.Log.{undone}
use Rattle.undo_log.proofs.undo.Given as goal

-- `undo_log::undo` meets its contract: what undoing the rest leaves is what undoing all leaves. Assumes nothing.
abbrev pub invariant-loop-i : goal.invariant-loop-i
invariant-loop-i l = undone l.log l.i l.queue ≡ undone l.log l.d l.initial.queue
