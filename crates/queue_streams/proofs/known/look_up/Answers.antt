-- `queue_streams::known::look_up` meets its contract: each return is a case of `look_up` (proofs/Exits.antt). Assumes nothing.
use Rattle.queue_streams.proofs.Exits.{look_found, look_broken, look_full, look_gap}
use Rattle.std.proofs.Common.{refl}
use Rattle.queue_streams.proofs.known.look_up.Goals as goal

-- `queue_streams::known::look_up` meets its contract: each return is a case of `look_up` (proofs/Exits.antt). Assumes nothing.
pub returns-then-t-gt-LAST_STREAM : goal.returns-then-t-gt-LAST_STREAM
returns-then-t-gt-LAST_STREAM c = look_full _ _ _ c.in-Gap.ensures _ refl _ c.load_totals-t.ensures c.if-t-gt-LAST_STREAM.true

pub returns-in-At : goal.returns-in-At
returns-in-At c = look_found _ _ _ c.in-At.ensures _ _ refl

pub returns-else-t-gt-LAST_STREAM : goal.returns-else-t-gt-LAST_STREAM
returns-else-t-gt-LAST_STREAM c = look_gap _ _ _ c.in-Gap.ensures _ refl _ c.load_totals-t.ensures c.if-t-gt-LAST_STREAM.false

pub returns-in-Broken : goal.returns-in-Broken
returns-in-Broken c = look_broken _ _ _ c.in-Broken.ensures refl
