-- `owned_saving::save` meets its contract: each return is the checked call's (saving: proofs/Images), which has the model's image (linked_saving: proofs/Saves). Assumes nothing.
use mathlib.Core.Path.{sym}
use lib.ListN.{length}
use Rattle.saving.proofs.Images.{few_counted, save_late, save_short, save_whole}
use Rattle.linked_saving.proofs.Sounds.{queue_pass}
use Rattle.linked_saving.proofs.Saves.{save_meets}
use Rattle.owned_saving.proofs.save.Goals as goal

pub returns-then-time-gt-MAX_TIME : goal.returns-then-time-gt-MAX_TIME
returns-then-time-gt-MAX_TIME c = save_meets _ _ _ _ _ _ (save_late _ _ _ _ (c.requires.store_is) c.if-time-gt-MAX_TIME.true)

pub image_size-size-requires : goal.image_size-size-requires
image_size-size-requires c = few_counted c.args.queue.now (length c.args.store.now) _ c.count_own-n.ensures

pub returns-then-image-size : goal.returns-then-image-size
returns-then-image-size c = save_meets _ _ _ _ _ _ (save_short _ _ _ _ c.requires.store_is c.if-time-gt-MAX_TIME.false (queue_pass _ _ c.requires) _ c.count_own-n.ensures _ c.image_size-size.ensures c.if-image-size.true)

pub put_image-requires : goal.put_image-requires
put_image-requires c = (queue_pass _ _ c.requires, c.count_own-n.ensures, rw (sym c.image_size-size.ensures) c.if-image-size.false)

pub returns : goal.returns
returns c = save_meets _ _ _ _ _ _ (save_whole _ _ _ _ c.requires.store_is c.if-time-gt-MAX_TIME.false (queue_pass _ _ c.requires) _ c.count_own-n.ensures _ c.image_size-size.ensures _ c.if-image-size.false c.put_image.ensures)
