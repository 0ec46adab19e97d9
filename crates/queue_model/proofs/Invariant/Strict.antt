-- Under the strict rule a message has a MID only while it is half-sent: so every image that a strict queue saves passes strict restoring. Assumes nothing.
use mathlib.Core.Path.{◌≡◌, refl, sym, ap, ap₂, ◌∙◌, subst}
use mathlib.Core.Bool.{Bool, true, false, ◌&&◌, ◌||◌}
use mathlib.Core.List.{List, [], ◌∷◌, ◌++◌, map}
use mathlib.Core.Option.{none}
use Prim.Native.Nat.{ℕ, ◌<◌}
use native.Mathlib.Omega.{arith}
use lib.Dec.{eqb, eqb→eq}
use Rattle.queue_model.specs.Logic.{any, is_some}
use Rattle.queue_model.specs.Types.{Item, PauseState, not_paused, Stream, Options, Queue}
use Rattle.queue_model.specs.Reset.{whole_head}
use Rattle.queue_model.specs.Produce.{end_pending}
use Rattle.queue_model.specs.Close.{kept, closed_state}
use Rattle.queue_model.specs.Image.{MessageRecord, message_record, message_records}
use Rattle.queue_model.specs.Reader.{has_flag}
use Rattle.queue_model.specs.Restore.{give, restored_item, mid_too_early}
use Rattle.queue_model.specs.Demands.{Reachable}
use Rattle.queue_model.proofs.Tests.{holds, eqb_true}
use Rattle.queue_model.proofs.Table.{Every, every_both}
use Rattle.queue_model.proofs.Checks.{or_left, or_right}
use Rattle.queue_model.proofs.Slips.{mid_saved, no_mid_restored}
use Rattle.queue_model.proofs.Invariant.Messages.{WellRest, WellItems}
use Rattle.queue_model.proofs.Invariant.Well.{Kept}
use Rattle.queue_model.proofs.Invariant.Fine.{keeps_none, keeps_first, keeps}
use Rattle.queue_model.proofs.Invariant.Sixteen.{reachable_well}
use Rattle.queue_model.proofs.Invariant.Each.{Keeps, AllHeld, held_reachable}

-- A first message at offset 0 has no MID.
abbrev pub Unnumbered : List Item → Type 0
Unnumbered [] = Unit {0}
Unnumbered (i ∷ is) = i.offset ≡ 0 → i.mid ≡ none

-- So it is under the strict rule.
abbrev pub Strict : Bool → PauseState → List Item → Type 0
Strict true p is = Unnumbered is
Strict false p is = Unit {0}

added_strict : (b : Bool) (p : PauseState) (is : List Item) (i : Item) → i.mid ≡ none → Strict b p is → Strict b p (is ++ (i ∷ []))
added_strict true p [] i m h = λ o. m
added_strict true p (j ∷ is) i m h = h
added_strict false p is i m h = tt

rest_unnumbered : (is : List Item) → WellRest is → Unnumbered is
rest_unnumbered [] w = tt
rest_unnumbered (i ∷ is) w = λ o. w.1.0

dropped_strict : (b : Bool) (p : PauseState) (is : List Item) → WellRest is → Strict b p is
dropped_strict true p is w = rest_unnumbered is w
dropped_strict false p is w = tt

part_strict : (b : Bool) (p : PauseState) (j : Item) (is : List Item) → 0 < j.offset → Strict b p (j ∷ is)
part_strict true p j is l = λ o. absurd (omega arith)
part_strict false p j is l = tt

closed_strict : (b : Bool) (is : List Item) → WellItems is → Strict b (closed_state (kept is)) (kept is)
closed_strict true is w = elim (keeps is w) [
  | keeps_none e ↦ subst Unnumbered (sym e) tt
  | keeps_first i rest e f l ↦ subst Unnumbered (sym f) (λ o. absurd (omega arith))
]
closed_strict false is w = tt

same_strict : (b : Bool) (p r : PauseState) (is : List Item) → Strict b p is → Strict b r is
same_strict true p r is h = h
same_strict false p r is h = tt

reset_strict : (b : Bool) (is : List Item) → Strict b not_paused (whole_head b is)
unfolding whole_head
reset_strict true [] = tt
reset_strict true (i ∷ is) = λ o. refl
reset_strict false is = tt

early_none : (now : ℕ) (r : MessageRecord) → mid_too_early true r ≡ false → (restored_item now r).offset ≡ 0 → (restored_item now r).mid ≡ none
unfolding mid_too_early restored_item
early_none now r n o = go (has_flag 2 r.flags) refl n
  where
    go : (x : Bool) → has_flag 2 r.flags ≡ x → (x && eqb r.offset 0) ≡ false → give (has_flag 2 r.flags) r.mid ≡ none
    go true e f = let g = eqb_true o in let z : ◌≡◌ {A = ℕ} 0 1 = cc in absurd (omega arith)
    go false e f = no_mid_restored now r e

restored_strict : (b : Bool) (now : ℕ) (r : MessageRecord) (is : List Item) → mid_too_early b r ≡ false → Strict b not_paused is → Strict b not_paused (is ++ (restored_item now r ∷ []))
restored_strict true now r [] n h = early_none now r n
restored_strict true now r (i ∷ is) n h = h
restored_strict false now r is n h = tt

strict_keeps : (o : Options) → Keeps o (Strict o.strict_restart)
strict_keeps o = record {
  keeps_new = dropped_strict o.strict_restart not_paused [] tt;
  keeps_add = λ p is i m z h. added_strict o.strict_restart p is i m h;
  keeps_drop = λ p i is w h. dropped_strict o.strict_restart (end_pending p) is w;
  keeps_part = λ p i j is l h. part_strict o.strict_restart p j is l;
  keeps_close = λ is w h. closed_strict o.strict_restart is w;
  keeps_ready = λ is h. same_strict o.strict_restart _ _ is h;
  keeps_open = λ is h. same_strict o.strict_restart _ _ is h;
  keeps_reset = λ p is w h. reset_strict o.strict_restart is;
  keeps_restore = λ now r is m h. restored_strict o.strict_restart now r is m h;
}

-- ---- what is saved

and_false : (x : Bool) → (x && false) ≡ false
and_false true = refl
and_false false = refl

-- The record of a message that has a MID only while it is half-sent.
record_late : (b : Bool) (now k : ℕ) (i : Item) → (b ≡ true → i.offset ≡ 0 → i.mid ≡ none) → mid_too_early b (message_record now k i) ≡ false
unfolding mid_too_early message_record
record_late false now k i h = refl
record_late true now k i h = go (eqb i.offset 0) refl
  where
    go : (x : Bool) → eqb i.offset 0 ≡ x → (has_flag 2 (message_record now k i).flags && x) ≡ false
    go true e = ap (λ (y : Bool). y && true) (mid_saved now k i ∙ ap is_some (h refl (eqb→eq i.offset 0 (holds (eqb i.offset 0) e))))
    go false e = and_false (has_flag 2 (message_record now k i).flags)

any_both : {A : Type 0} (test : A → Bool) (xs ys : List A) → any test xs ≡ false → any test ys ≡ false → any test (xs ++ ys) ≡ false
unfolding any
any_both test [] ys e f = f
any_both test (x ∷ xs) ys e f = ap₂ ◌||◌ (or_left (test x) (any test xs) e) (any_both test xs ys (or_right (test x) (any test xs) e) f)

rest_late : (b : Bool) (now k : ℕ) (is : List Item) → WellRest is → any (mid_too_early b) (map (message_record now k) is) ≡ false
unfolding any
rest_late b now k [] w = refl
rest_late b now k (i ∷ is) w = ap₂ ◌||◌ (record_late b now k i (λ e o. w.1.0)) (rest_late b now k is w.1.1)

items_late : (b : Bool) (now k : ℕ) (p : PauseState) (is : List Item) → WellItems is → Strict b p is → any (mid_too_early b) (map (message_record now k) is) ≡ false
unfolding any
items_late b now k p [] w h = refl
items_late b now k p (i ∷ is) w h = ap₂ ◌||◌ (record_late b now k i (numbered_late b h)) (rest_late b now k is w.1)
  where
    numbered_late : (b : Bool) → Strict b p (i ∷ is) → b ≡ true → i.offset ≡ 0 → i.mid ≡ none
    numbered_late true h e = h
    numbered_late false h e = let z : ◌≡◌ {A = ℕ} 0 1 = cc in absurd (omega arith)

saved_late : (b : Bool) (now : ℕ) (ss : List Stream) → Every (λ s. Strict b s.pause_state s.items × Kept s) ss → any (mid_too_early b) (message_records now ss) ≡ false
unfolding message_records any
saved_late b now [] a = refl
saved_late b now (s ∷ ss) a =
    any_both (mid_too_early b) (map (message_record now s.id) s.items) (message_records now ss) (items_late b now s.id s.pause_state s.items a.0.1.well_items a.0.0) (saved_late b now ss a.1)

-- Under the strict rule no message of a reachable queue has a MID at offset 0; and its image has none.
pub strict_heads : {o : Options} {q : Queue} → Reachable o q → AllHeld (Strict o.strict_restart) q
strict_heads {o} r = held_reachable o (Strict o.strict_restart) (strict_keeps o) r

pub strict_image : {o : Options} {q : Queue} → Reachable o q → (now : ℕ) → any (mid_too_early o.strict_restart) (message_records now q.streams) ≡ false
strict_image {o} {q} r now =
    saved_late o.strict_restart now q.streams (every_both (λ s. Strict o.strict_restart s.pause_state s.items) Kept q.streams (strict_heads r) (reachable_well r).kept)
