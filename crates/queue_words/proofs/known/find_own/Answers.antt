-- `queue_words::known::find_own` meets its contract: where the tests cannot fail, what is sought is found (proofs/Finds.antt). Assumes nothing.
use mathlib.Core.Path.{ap, subst, sym}
use Prim.Native.Nat.{◌≤◌}
use Rattle.queue_words.specs.declared.header.Totals.{Totals}
use Rattle.queue_words.proofs.Finds.{findable_known, own_found}
use Rattle.queue_words.proofs.known.find_own.Goals as goal

-- `queue_words::known::find_own` meets its contract: where the tests cannot fail, what is sought is found (proofs/Finds.antt). Assumes nothing.
pub search_known-requires : goal.search_known-requires
search_known-requires c =
    let e = ap (λ (t : Totals). t.known) c.load_totals-t.ensures in
    (e, subst (λ x. x ≤ 256) (sym e) (findable_known _ _ c.requires))

pub returns : goal.returns
returns c = own_found _ _ c.search_known.result c.requires c.search_known.ensures
