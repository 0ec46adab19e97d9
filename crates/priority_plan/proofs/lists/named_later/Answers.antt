-- `priority_plan::lists::named_later` meets its contract: what is asked is whether the rest of the list has the id. Assumes nothing.
use Prim.Native.Nat.{◌+◌}
use Rattle.priority_plan.proofs.Loops.{rest_has}
use Rattle.priority_plan.proofs.lists.named_later.Goals as goal

pub returns : goal.returns
returns c = rest_has _ (c.args.at + 1) c.args.ids.now _ c.contains.ensures.value
