-- `restoring::message_records::hang_in` meets its contract: a message without a home is passed over, any other hung there (proofs/Homes). Assumes nothing.
use Rattle.restoring.proofs.Homes.{home_none, home_hung}
use mathlib.Core.Path.{◌∙◌}
use native.Mathlib.Omega.{arith}
use Rattle.restoring.proofs.message_records.hang_in.Goals as goal

pub returns-in-None : goal.returns-in-None
returns-in-None c = home_none _ _ _ _ _ _ _ _ _ c.in-None.ensures.0 (omega arith)

pub returns-in-Some : goal.returns-in-Some
returns-in-Some c = c.hang.ensures ∙ home_hung _ _ _ _ _ _ _ _ _ c.in-Some.ensures.0 (omega (arith, c.in-Some.ensures.1))
