-- `restoring::message_records::unsent` meets its contract: each return is what its definition says, by what the calls ensure and the tests taken.
-- Assumes nothing.
use mathlib.Core.Path.{refl}
use native.Mathlib.Omega.{arith}
use Rattle.restoring.specs.Messages.{unsent_of}
use Rattle.restoring.proofs.message_records.unsent.Goals as goal

pub returns-then-r : goal.returns-then-r
unfolding unsent_of
returns-then-r c = omega (arith, c.if-r.true)

pub returns : goal.returns
unfolding unsent_of
returns c = refl
