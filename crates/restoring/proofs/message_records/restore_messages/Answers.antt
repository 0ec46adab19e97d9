-- `restoring::message_records::restore_messages` meets its contract: the first i records are done. Assumes nothing.
use mathlib.Core.Path.{refl}
use Rattle.restoring.proofs.Loops.{messages_start, messages_next}
use Rattle.std.proofs.Common.{rules}
use Rattle.restoring.proofs.message_records.restore_messages.Goals as goal

pub loop-i-init : goal.loop-i-init
loop-i-init c = (messages_start _ _ _ _ _, refl)

pub loop-i-preserved : goal.loop-i-preserved
loop-i-preserved c = (messages_next _ _ _ _ _ _ _ _ c.loop-i.invariant.0 c.restore_message-at.ensures, search rules)
