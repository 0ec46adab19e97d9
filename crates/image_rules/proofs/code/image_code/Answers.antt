-- `image_rules::code::image_code` meets its contract: each return is what its definition says, by what the calls ensure and the tests taken. Assumes nothing.
use borrow.Author.Tests.{eq-eqb, le-ltb, lt-ltb, ne_eqb}
use Rattle.image_rules.specs.Code.{image_code_words}
use Rattle.image_rules.proofs.Kept.{kept_both}
use mathlib.Core.Path.{sym, ◌∙◌}
use Rattle.image_rules.proofs.code.image_code.Goals as goal

pub returns-then-size-lt20 : goal.returns-then-size-lt20
unfolding image_code_words
returns-then-size-lt20 c = rw (lt-ltb _ _ c.if-size-lt20.true)

pub amounts_fit-fit-requires : goal.amounts_fit-fit-requires
amounts_fit-fit-requires c = (kept_both _ _ _ (sym c.rules_kept-kept.ensures ∙ c.if-not-kept.false)).0

pub returns-then-not-kept : goal.returns-then-not-kept
unfolding image_code_words
returns-then-not-kept c =
    rw (
      le-ltb _ _ c.if-size-lt20.false,
      ← c.read_trailer-t.ensures,
      ← c.rules_kept-kept.ensures,
      c.if-not-kept.true,
    )

pub returns-then-t-default_priority : goal.returns-then-t-default_priority
unfolding image_code_words
returns-then-t-default_priority c =
    rw (
      le-ltb _ _ c.if-size-lt20.false,
      ← c.read_trailer-t.ensures,
      ← c.rules_kept-kept.ensures,
      c.if-not-kept.false,
      ne_eqb _ _ c.if-t-default_priority.true,
    )

pub returns-then-not-fit : goal.returns-then-not-fit
unfolding image_code_words
returns-then-not-fit c =
    rw (
      le-ltb _ _ c.if-size-lt20.false,
      ← c.read_trailer-t.ensures,
      ← c.rules_kept-kept.ensures,
      c.if-not-kept.false,
      eq-eqb _ _ c.if-t-default_priority.false,
      ← c.amounts_fit-fit.ensures,
      c.if-not-fit.true,
    )

pub returns : goal.returns
unfolding image_code_words
returns c =
    rw (
      le-ltb _ _ c.if-size-lt20.false,
      ← c.read_trailer-t.ensures,
      ← c.rules_kept-kept.ensures,
      c.if-not-kept.false,
      eq-eqb _ _ c.if-t-default_priority.false,
      ← c.amounts_fit-fit.ensures,
      c.if-not-fit.false,
    )
