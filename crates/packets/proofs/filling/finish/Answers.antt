-- `packets::filling::finish` meets its contract: each return is what its definition says, by what the calls ensure and the tests taken. Assumes nothing.
use borrow.Author.Tests.{eq-eqb, ne_eqb}
use mathlib.Core.Path.{refl}
use Rattle.types.proofs.Refusals.{refusal_above}
use Rattle.packets.specs.Filling.{finished_answer, finished_packet}
use Rattle.packets.proofs.filling.finish.Goals as goal

pub returns-in-Some : goal.returns-in-Some
unfolding finished_answer finished_packet
returns-in-Some c =
    rw (
      eq-eqb _ _ c.if-r-eq0.true,
      c.in-Some.is,
      refusal_above _,
    ) (refl, refl)

pub returns-then-r-eq0 : goal.returns-then-r-eq0
unfolding finished_answer finished_packet
returns-then-r-eq0 c =
    rw (
      eq-eqb _ _ c.if-r-eq0.true,
      c.in_default.is,
    ) (refl, refl)

pub returns : goal.returns
unfolding finished_answer finished_packet
returns c =
    rw (
      ne_eqb _ _ c.if-r-eq0.false,
      ← c.put_common_header.ensures,
    ) (refl, refl)
