-- `restoring::message_records::restore_messages` meets its contract: the first i records are done. Assumes nothing.
use mathlib.Core.Path.{◌≡◌}
use lib.ListN.{length}
use Rattle.restoring.specs.Messages.{restored, messages_restored}
use Rattle.restoring.proofs.message_records.restore_messages.Given as goal

abbrev pub invariant-loop-i : goal.invariant-loop-i
invariant-loop-i l = (restored l.queue l.store l.at ≡ messages_restored l.initial.queue l.initial.store l.start l.image l.time l.i) × (length l.store ≡ length l.initial.store)
