-- `reset_wire::reading::judge` meets its contract: each arm is a case of `verdict_of` (proofs/Fields.antt). Assumes nothing.
use native.Mathlib.Omega.{arith}
use Rattle.reset_wire.proofs.Fields.{judged_commits, judged_back, judged_waits, judged_not}
use Rattle.reset_wire.proofs.reading.judge.Goals as goal

pub returns-in-6 : goal.returns-in-6
returns-in-6 c = judged_waits _ _ c.in-6.is

pub returns-in-0-to-1 : goal.returns-in-0-to-1
returns-in-0-to-1 c = judged_commits _ _ (omega arith)

pub returns-in-2-to-5 : goal.returns-in-2-to-5
returns-in-2-to-5 c = judged_back _ _ (omega arith) (omega arith)

pub returns-in-7-to-4294967295 : goal.returns-in-7-to-4294967295
returns-in-7-to-4294967295 c = judged_not _ _ (omega arith)
