-- The rules of the message records for a queue that is strict or not: record by record, and apart from document 01's. Assumes nothing.
use mathlib.Core.Path.{◌≡◌, refl, ap, ◌∙◌}
use mathlib.Core.Bool.{Bool, true, false, not}
use mathlib.Core.List.{List}
use Prim.Native.Nat.{ℕ, zero, suc, ◌+◌, ◌-◌}
use lib.Dec.{ltb, leb, eqb}
use Rattle.queue_words.specs.Flags.{pick}
use Rattle.handover_records.specs.Records.{message_at}
use Rattle.image_rules.specs.Messages.{message_right_words, messages_right_words, mid_early, any_early, message_kept, messages_kept}

picked : (b : Bool) → pick b true false ≡ b
picked true = refl
picked false = refl

-- ------------------------------------------------------------------ record by record

pub kept_none : (strict : Bool) (bs : List ℕ) (at left least : ℕ) → messages_kept strict bs at left least 0 ≡ eqb left 0
unfolding messages_kept messages_right_words any_early
kept_none strict bs at left least = picked (eqb left 0)

-- The first of n + 1 records, then the others.
abbrev pub kept_from : Bool → List ℕ → ℕ → ℕ → ℕ → ℕ → Bool
kept_from strict bs at left least n =
    pick (ltb left 44) false
    (pick (ltb (left - 44) (message_at bs at).length) false
    (pick (ltb ((message_at bs at).id + 1) least) false
    (pick (message_kept strict (message_at bs at) (leb least (message_at bs at).id))
    (messages_kept strict bs (at + 44 + (message_at bs at).length) (left - 44 - (message_at bs at).length) ((message_at bs at).id + 1) n) false)))

pub kept_step : (strict : Bool) (bs : List ℕ) (at left least n : ℕ) → messages_kept strict bs at left least (suc n) ≡ kept_from strict bs at left least n
unfolding messages_kept messages_right_words any_early message_kept
kept_step strict bs at left least n =
    go (ltb left 44) (ltb (left - 44) (message_at bs at).length) (ltb ((message_at bs at).id + 1) least) (message_right_words (message_at bs at) (leb least (message_at bs at).id))
    (messages_right_words bs (at + 44 + (message_at bs at).length) (left - 44 - (message_at bs at).length) ((message_at bs at).id + 1) n)
    (mid_early strict (message_at bs at)) (any_early strict bs (at + 44 + (message_at bs at).length) n)
  where
    go : (a b c m r e l : Bool)
        → pick (pick a false (pick b false (pick c false (pick m r false)))) (not (pick e true l)) false ≡ pick a false (pick b false (pick c false (pick (pick e false m) (pick r (not l) false) false)))
    go true b c m r e l = refl
    go false true c m r e l = refl
    go false false true m r e l = refl
    go false false false false r true l = refl
    go false false false false r false l = refl
    go false false false true true true l = refl
    go false false false true false true l = refl
    go false false false true r false l = refl

-- ------------------------------------------------------------------ the Rust's rule

-- No MID is early for a queue that is not strict.
pub never_early : (bs : List ℕ) (at n : ℕ) → any_early false bs at n ≡ false
unfolding any_early mid_early
never_early bs at zero = refl
never_early bs at (suc n) = never_early bs (at + 44 + (message_at bs at).length) n

-- It keeps document 01's rules and no other.
pub kept_right : (bs : List ℕ) (at left least n : ℕ) → messages_kept false bs at left least n ≡ messages_right_words bs at left least n
unfolding messages_kept
kept_right bs at left least n = ap (λ e. pick (messages_right_words bs at left least n) (not e) false) (never_early bs at n) ∙ picked (messages_right_words bs at left least n)
