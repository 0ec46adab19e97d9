-- `owned_packets::filling::finish` meets its contract: each return is what its definition says, by what the calls ensure and the tests taken. Assumes nothing.
use borrow.Author.Tests.{eq-eqb, ne_eqb}
use mathlib.Core.Path.{refl}
use Rattle.packets.specs.Filling.{finished_answer, finished_packet}
use Rattle.owned_packets.proofs.filling.finish.Goals as goal

pub returns-then-r-eq0 : goal.returns-then-r-eq0
unfolding finished_answer finished_packet
returns-then-r-eq0 c = rw (eq-eqb _ _ c.if-r-eq0.true) (refl, refl)

pub returns : goal.returns
unfolding finished_answer finished_packet
returns c =
    rw (
      ne_eqb _ _ c.if-r-eq0.false,
      ← c.put_common_header.ensures,
    ) (refl, refl)
