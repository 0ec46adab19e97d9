-- `saving::image::save` meets its contract: each return is what its definition says. Assumes nothing.
use mathlib.Core.Path.{sym, ap, ◌∙◌}
use borrow.Author.Tests.{eq-eqb, ne_eqb, le-ltb}
use lib.ListN.{length}
use Rattle.std.proofs.lemmas.Bool.{not-true, not-false}
use Rattle.queue_words.specs.declared.header.Options.{Options}
use Rattle.saving.specs.declared.measuring.Tally.{Tally}
use Rattle.saving.specs.Measure.{counts_of}
use Rattle.saving.specs.Save.{save_image}
use Rattle.saving.proofs.Images.{few_tallied, save_late, save_short, save_whole}
use Rattle.saving.proofs.image.save.Goals as goal

pub returns-then-len-o : goal.returns-then-len-o
unfolding save_image
returns-then-len-o c = rw (← ap (λ (z : Options). z.store_length) c.load_options-o.ensures, ne_eqb _ _ c.if-len-o.true)

pub returns-then-time-gt-MAX_TIME : goal.returns-then-time-gt-MAX_TIME
returns-then-time-gt-MAX_TIME c = save_late _ _ _ _ (c.if-len-o.false ∙ ap (λ (z : Options). z.store_length) c.load_options-o.ensures) c.if-time-gt-MAX_TIME.true

pub returns-then-not-t : goal.returns-then-not-t
unfolding save_image
returns-then-not-t c = rw (← ap (λ (z : Options). z.store_length) c.load_options-o.ensures, eq-eqb _ _ c.if-len-o.false, le-ltb _ _ c.if-time-gt-MAX_TIME.false, ← c.tally_queue-t.ensures, not-true _ c.if-not-t.true)

pub image_size-size-requires : goal.image_size-size-requires
image_size-size-requires c = few_tallied c.args.queue.now (length c.args.store.now) _ c.tally_queue-t.ensures

pub returns-then-image-size : goal.returns-then-image-size
returns-then-image-size c = save_short _ _ _ _ (c.if-len-o.false ∙ ap (λ (z : Options). z.store_length) c.load_options-o.ensures) c.if-time-gt-MAX_TIME.false (ap (λ (t : Tally). t.ok) (sym c.tally_queue-t.ensures) ∙ not-false _ c.if-not-t.false) _ (ap counts_of c.tally_queue-t.ensures) _ c.image_size-size.ensures c.if-image-size.true

pub returns : goal.returns
returns c = save_whole _ _ _ _ (c.if-len-o.false ∙ ap (λ (z : Options). z.store_length) c.load_options-o.ensures) c.if-time-gt-MAX_TIME.false (ap (λ (t : Tally). t.ok) (sym c.tally_queue-t.ensures) ∙ not-false _ c.if-not-t.false) _ (ap counts_of c.tally_queue-t.ensures) _ c.image_size-size.ensures _ c.if-image-size.false c.put_image.ensures
