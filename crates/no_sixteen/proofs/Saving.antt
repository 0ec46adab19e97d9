-- Saving does not show 16 on the words of a queue: the model refuses with 2, 4 or 11. Assumes nothing.
use mathlib.Core.Path.{◌≡◌, refl, sym, subst}
use mathlib.Core.Bool.{Bool, true, false, not}
use mathlib.Core.List.{List, [], ◌∷◌}
use Prim.Native.Nat.{ℕ}
use lib.Dec.{eqb, ltb}
use lib.ListN.{length}
use Rattle.queue_model.specs.Types.{Queue}
use Rattle.queue_model.specs.Refusals.{◌when◌, first_refusal, max_time}
use Rattle.queue_model.specs.Image as image
use Rattle.queue_model.specs.Answers.{saving_number}
use Rattle.queue_state.specs.Model.{model}
use Rattle.queue_runs.specs.Run.{State}
use Rattle.queue_runs.specs.Meaning.{GoodState}
use Rattle.saving.specs.Save.{saved_number, save_image}
use Rattle.saving.specs.Saved.{Saved}
use Rattle.saving.specs.Saved as saved
use Rattle.linked_saving.proofs.Saves.{save_meets}
use Rattle.no_sixteen.specs.Shows.{sixteen_saved, save_shows}

-- the model's numbers
by_checks : (a b c : Bool) (bs : List ℕ) → eqb (saving_number (image.saving_or (first_refusal ((2 when a) ∷ (4 when b) ∷ (11 when c) ∷ [])) bs)) 16 ≡ false
unfolding image.saving_or first_refusal
by_checks true b c bs = refl
by_checks false true c bs = refl
by_checks false false true bs = refl
by_checks false false false bs = refl

model_saves : (store room time : ℕ) (q : Queue) → eqb (saving_number (image.save store room time q)) 16 ≡ false
unfolding image.save image.save_refusal
model_saves store room time q = by_checks (not (eqb store q.options.store_length)) (ltb max_time time) (ltb room (length (image.write_image time q))) (image.write_image time q)

saved_not : (r : Saved) → eqb (saved_number r) 16 ≡ false → sixteen_saved r ≡ false
saved_not (saved.Image n) e = refl
saved_not (saved.Refused n) e = e

pub good_saving : (s : State) (buffer : List ℕ) (time : ℕ) → GoodState s → save_shows buffer time s ≡ false
good_saving s buffer time g =
    let r = save_image s.words s.store buffer time in
    saved_not r.answer
    (subst (λ (n : ℕ). eqb n 16 ≡ false) (sym ((save_meets s.words s.store buffer time r.answer r.image refl).number g)) (model_saves (length s.store) (length buffer) time (model s.words s.store)))
