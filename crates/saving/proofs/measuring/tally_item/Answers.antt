-- `saving::measuring::tally_item` meets its contract: one message more, and no sum passes its width. Assumes nothing.
use mathlib.Core.Path.{sym, ◌∙◌}
use native.Mathlib.Omega.{arith}
use borrow.Author.Tests.{lt-ltb, le-ltb}
use Rattle.saving.specs.Measure.{tally_item}
use Rattle.saving.proofs.Passing.{sound_ok}
use Rattle.saving.proofs.measuring.tally_item.Goals as goal

pub overflow_add-result-then-t-lt-MESSAGES : goal.overflow_add-result-then-t-lt-MESSAGES
overflow_add-result-then-t-lt-MESSAGES c = omega (arith, (sound_ok c.args.m c.args.len (sym c.sound_item-sound.ensures ∙ c.if-sound.true)).small)

pub overflow_add-result-then-t-lt-MESSAGES-2 : goal.overflow_add-result-then-t-lt-MESSAGES-2
overflow_add-result-then-t-lt-MESSAGES-2 c = omega (arith, (sound_ok c.args.m c.args.len (sym c.sound_item-sound.ensures ∙ c.if-sound.true)).small, c.requires.light, c.if-t-lt-MESSAGES.true)

pub returns-then-t-lt-MESSAGES : goal.returns-then-t-lt-MESSAGES
unfolding tally_item
returns-then-t-lt-MESSAGES c = rw (← c.sound_item-sound.ensures, c.if-sound.true, lt-ltb _ _ c.if-t-lt-MESSAGES.true)

pub returns-then-sound : goal.returns-then-sound
unfolding tally_item
returns-then-sound c = rw (← c.sound_item-sound.ensures, c.if-sound.true, le-ltb _ _ c.if-t-lt-MESSAGES.false) c.tally_failed.ensures

pub returns : goal.returns
unfolding tally_item
returns c = rw (← c.sound_item-sound.ensures, c.if-sound.false) c.tally_failed-2.ensures
