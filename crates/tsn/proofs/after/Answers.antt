-- Assumes nothing.
use Rattle.std.proofs.Common.{pos, ap, ◌∙◌, w32}
use mir.ValLaws.{to_z-of_z}
use lib.Signed.{lt_z}
use Rattle.receiver_model.specs.Tsn as tsn
use Rattle.tsn.proofs.Law.{above_is}
use Rattle.tsn.proofs.after.Goals as goal

pub returns : goal.returns
returns c = unfold tsn.is_after in (ap (lt_z (pos 0)) (to_z-of_z w32 c.difference-z.result (record { sfits = c.difference-z.type_inv }) ∙ c.difference-z.ensures) ∙ above_is 32 (tsn.wrapped_difference 32 c.args.a c.args.b))
