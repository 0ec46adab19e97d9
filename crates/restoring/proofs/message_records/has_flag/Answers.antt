-- `restoring::message_records::has_flag` meets its contract: each return is what its definition says, by what the calls ensure and the tests taken.
-- Assumes nothing.
use mathlib.Core.Path.{refl}
use Rattle.queue_model.specs.Reader.{has_flag}
use Rattle.restoring.proofs.message_records.has_flag.Goals as goal

pub returns : goal.returns
unfolding has_flag
returns c = refl
