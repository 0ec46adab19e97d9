-- `priority_plan::lists::size_outside` meets its contract: what is asked is whether a size of the list is outside. Assumes nothing.
use mathlib.Core.Path.{sym, ◌∙◌}
use Rattle.std.proofs.Common.{rules, tests}
use Rattle.std.proofs.lemmas.Iterator.{YieldsList-from_slice}
use Rattle.std.proofs.lemmas.Iterator.Search.{any_from_yields_List}
use Rattle.queue_model.specs.Logic.{outside}
use Rattle.queue_model.specs.Refusals.{max_payload}
use Rattle.priority_plan.proofs.Loops.{some_is, sizes_are}
use Rattle.priority_plan.proofs.lists.size_outside.Goals as goal

pub returns : goal.returns
returns c =
    any_from_yields_List (outside 1 max_payload) _ _ _ c.any.ensures.ran (YieldsList-from_slice c.args.sizes.now cc) (λ x b q k. search (rules, tests)) ∙ some_is _ _ ∙ sym (sizes_are _)
