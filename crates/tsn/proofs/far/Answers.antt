-- Assumes nothing.
use Rattle.std.proofs.Common.{ℕ, ltb, ap}
use Rattle.receiver_model.specs.Tsn as tsn
use Rattle.tsn.proofs.Law.{difference_is}
use Rattle.tsn.proofs.far.Goals as goal

pub returns : goal.returns
returns c = unfold tsn.is_far in ap (λ (y : ℕ). ltb 1024 y) (difference_is c.args.a c.args.b c.wrapping_sub_u32-d.result c.ranges.a.fits c.ranges.b.fits c.wrapping_sub_u32-d.type_inv c.wrapping_sub_u32-d.ensures.value)
