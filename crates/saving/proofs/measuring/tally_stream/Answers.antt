-- `saving::measuring::tally_stream` meets its contract: each return is what its definition says, by what the calls ensure and the tests taken. Assumes nothing.
use borrow.Author.Tests.{eq-eqb, le-ltb, lt-ltb, ne_eqb}
use mathlib.Core.Path.{ap}
use Rattle.queue_words.specs.declared.header.Options.{Options}
use Rattle.queue_words.specs.declared.known.Known.{Known}
use Rattle.saving.specs.Measure.{tally_stream}
use Rattle.saving.proofs.measuring.tally_stream.Goals as goal

pub returns-then-k-gt-LAST_STREAM : goal.returns-then-k-gt-LAST_STREAM
unfolding tally_stream
returns-then-k-gt-LAST_STREAM c =
    rw (
      ← ap (λ (z : Known). z.place) c.load_known-k.ensures,
      lt-ltb _ _ c.if-k-gt-LAST_STREAM.true,
      ← c.tally_failed.ensures,
    )

pub returns-then-whole-eq-NO_MESSAGE : goal.returns-then-whole-eq-NO_MESSAGE
unfolding tally_stream
returns-then-whole-eq-NO_MESSAGE c =
    rw (
      ← ap (λ (z : Known). z.place) c.load_known-k.ensures,
      le-ltb _ _ c.if-k-gt-LAST_STREAM.false,
      ← c.load_stream-s.ensures,
      ← ap (λ (z : Options). z.default_priority) c.load_options-o.ensures,
      ← c.is_plain-plain.ensures,
      c.if-plain.true,
      ← c.tally_chain-whole.ensures,
      eq-eqb _ _ c.if-whole-eq-NO_MESSAGE.true,
    )

pub returns-then-plain : goal.returns-then-plain
unfolding tally_stream
returns-then-plain c =
    rw (
      ← ap (λ (z : Known). z.place) c.load_known-k.ensures,
      le-ltb _ _ c.if-k-gt-LAST_STREAM.false,
      ← c.load_stream-s.ensures,
      ← ap (λ (z : Options). z.default_priority) c.load_options-o.ensures,
      ← c.is_plain-plain.ensures,
      c.if-plain.true,
      ← c.tally_chain-whole.ensures,
      ne_eqb _ _ c.if-whole-eq-NO_MESSAGE.false,
      ← c.tally_failed-then-plain.ensures,
    )

pub returns-then-whole-eq-NO_MESSAGE-2 : goal.returns-then-whole-eq-NO_MESSAGE-2
unfolding tally_stream
returns-then-whole-eq-NO_MESSAGE-2 c =
    rw (
      ← ap (λ (z : Known). z.place) c.load_known-k.ensures,
      le-ltb _ _ c.if-k-gt-LAST_STREAM.false,
      ← c.load_stream-s.ensures,
      ← ap (λ (z : Options). z.default_priority) c.load_options-o.ensures,
      ← c.is_plain-plain.ensures,
      c.if-plain.false,
      ← c.tally_chain-whole-2.ensures,
      eq-eqb _ _ c.if-whole-eq-NO_MESSAGE-2.true,
    )

pub returns : goal.returns
unfolding tally_stream
returns c =
    rw (
      ← ap (λ (z : Known). z.place) c.load_known-k.ensures,
      le-ltb _ _ c.if-k-gt-LAST_STREAM.false,
      ← c.load_stream-s.ensures,
      ← ap (λ (z : Options). z.default_priority) c.load_options-o.ensures,
      ← c.is_plain-plain.ensures,
      c.if-plain.false,
      ← c.tally_chain-whole-2.ensures,
      ne_eqb _ _ c.if-whole-eq-NO_MESSAGE-2.false,
      ← c.tally_failed-2.ensures,
    )
