-- `owned_saving::counting::count_own` meets its contract: the totals count what the checked call's first pass does (proofs/Counts.antt). Assumes nothing.
use native.Mathlib.Omega.{arith}
use Rattle.owned_saving.proofs.Counts.{few_own, counted}
use Rattle.owned_saving.proofs.counting.count_own.Goals as goal

pub overflow_add-result : goal.overflow_add-result
overflow_add-result c = omega (arith, few_own _ _ c.requires _ c.load_totals-t.ensures)

pub returns : goal.returns
returns c = counted _ _ c.requires _ _ c.load_totals-t.ensures c.count_records-streams.ensures
