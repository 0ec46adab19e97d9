-- Saving and creation give numbers of document 01's list alone, on any words. Assumes nothing.
use mathlib.Core.Path.{◌≡◌, refl, sym}
use mathlib.Core.Bool.{Bool, true, false}
use mathlib.Core.List.{List, [], ◌∷◌}
use Prim.Native.Nat.{ℕ}
use lib.Dec.{eqb, ltb}
use lib.ListN.{length}
use borrow.Author.Tests.{ne_eqb}
use Rattle.queue_words.specs.Flags.{pick}
use Rattle.queue_words.specs.Header.{options_at}
use Rattle.queue_streams.specs.Answers.{call_number}
use Rattle.queue_streams.specs.Settings.{called}
use Rattle.queue_streams.specs.Call as call
use Rattle.queue_messages.specs.Create.{create_code, create, new_words, new_options}
use Rattle.queue_runs.specs.Numbers.{among}
use Rattle.queue_runs.specs.Refusals.{call_refused}
use Rattle.saving.specs.Bytes.{image_size}
use Rattle.saving.specs.Measure.{tally_queue}
use Rattle.saving.specs.Save.{SavedAs, saved_as, save_with, save_image}
use Rattle.saving.specs.Saved.{Image, Refused}
use Rattle.saving.specs.declared.measuring.Tally.{Tally}
use Rattle.queue_images.specs.Refusals.{saved_refused}
use Rattle.queue_images.specs.Numbers.{saved_number, SaveRefusalsListed, SaveOtherStore, CreateRefusals}
use Rattle.payload_store.proofs.Cases.{false_true}

-- ---- saving

unfoldable Lists : SavedAs → Type 0
Lists x = saved_refused x.answer ≡ true → among (saved_number x.answer) (2 ∷ 4 ∷ 11 ∷ 16 ∷ []) ≡ true

list_pick : (t : Bool) (x y : SavedAs) → Lists x → Lists y → Lists (pick t x y)
list_pick true x y f g = f
list_pick false x y f g = g

list_refused : (b : List ℕ) (n : ℕ) → among n (2 ∷ 4 ∷ 11 ∷ 16 ∷ []) ≡ true → Lists (saved_as (Refused n) b)
unfolding Lists
list_refused b n h e = h

list_saved : (us : List ℕ) (n : ℕ) → Lists (saved_as (Image n) us)
unfolding Lists
list_saved us n e = false_true e

listed : (ws st b : List ℕ) (time : ℕ) → Lists (save_image ws st b time)
unfolding save_image
listed ws st b time =
    list_pick (eqb (length st) (options_at ws).store_length) _ _
    (list_pick (ltb 4611686018427387903 time) _ _ (list_refused b 4 refl) (with_tally (tally_queue ws (length st))))
    (list_refused b 2 refl)
  where
    with_tally : (t : Tally) → Lists (save_with ws st b time t)
    with_tally t = list_pick t.ok _ _ (list_pick (ltb (length b) (image_size t)) _ _ (list_refused b 11 refl) (list_saved _ _)) (list_refused b 16 refl)

pub save_refusals_listed : SaveRefusalsListed
unfolding Lists
save_refusals_listed ws st b time = listed ws st b time

pub save_other_store : SaveOtherStore
unfolding save_image
save_other_store ws st b time h = rw (ne_eqb (length st) (options_at ws).store_length (λ e. h (sym e)))

-- ---- creation

code_listed : (limit len : ℕ) → ltb 0 (create_code limit len) ≡ true → among (create_code limit len) (1 ∷ 2 ∷ []) ≡ true
unfolding create_code
code_listed limit len = by (eqb limit 0) (ltb 65535 limit) (eqb len 0) (ltb 2000000 len)
  where
    by : (a b c d : Bool) → ltb 0 (pick a 1 (pick b 1 (pick c 2 (pick d 2 0)))) ≡ true → among (pick a 1 (pick b 1 (pick c 2 (pick d 2 0)))) (1 ∷ 2 ∷ []) ≡ true
    by true b c d e = refl
    by false true c d e = refl
    by false false true d e = refl
    by false false false true e = refl
    by false false false false e = false_true e

pub create_refusals : CreateRefusals
unfolding create
create_refusals a s e = let p = by (ltb 0 code) (code_listed a.limit (length s.store)) e in record { listed = p.0; stays = p.1 }
  where
    code : ℕ
    code = create_code a.limit (length s.store)

    us : List ℕ
    us = new_words s.words (new_options (length s.store) a.limit a.priority a.threshold a.total a.handover a.rule)

    by : (t : Bool) → (t ≡ true → among code (1 ∷ 2 ∷ []) ≡ true)
        → call_refused (pick t (called (call.Refused code) s.words) (called (call.Accepted 0) us)).answer ≡ true
        → (among (call_number (pick t (called (call.Refused code) s.words) (called (call.Accepted 0) us)).answer) (1 ∷ 2 ∷ []) ≡ true)
        × ((pick t (called (call.Refused code) s.words) (called (call.Accepted 0) us)).next ≡ s.words)
    by true h e = (h refl, refl)
    by false h e = false_true e
