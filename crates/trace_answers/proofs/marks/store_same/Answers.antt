-- `trace_answers::marks::store_same` meets its contract: slices that are the same have the same bytes. Assumes nothing.
use mathlib.Core.Path.{sym, ap, ◌∙◌}
use lib.ListN.{get_or}
use Rattle.std.proofs.lemmas.Bool.Decides.{Decides-eqb}
use Rattle.std.proofs.lemmas.List.{get_or-take}
use Rattle.std.proofs.lemmas.Slice.Eq.{slice_eq-Decides}
use Rattle.trace_answers.proofs.marks.store_same.Goals as goal

pub returns : goal.returns
returns c t k h =
    sym (get_or-take c.args.n c.args.store.now k 0 h) ∙ ap (λ l. get_or l k 0) ((slice_eq-Decides Decides-eqb _ _ _ c.eq.ensures).0 t) ∙ get_or-take c.args.n c.args.kept.now k 0 h
