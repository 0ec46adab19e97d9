-- An early MID: the model finds it in the records that it reads as `any_early` does, by position. Assumes nothing.
use mathlib.Core.Path.{◌≡◌, refl, ap, ap₂, ◌∙◌}
use mathlib.Core.Bool.{Bool, true, false, ◌&&◌, ◌||◌}
use mathlib.Core.List.{List}
use Prim.Native.Nat.{ℕ, zero, suc, ◌+◌, ◌/◌, ◌%◌}
use lib.Dec.{eqb}
use Rattle.queue_words.specs.Flags.{pick}
use Rattle.queue_model.specs.Logic.{any}
use Rattle.queue_model.specs.Reader.{has_flag}
use Rattle.queue_model.specs.Restore.{mid_too_early}
use Rattle.handover_records.specs.Records.{message_at}
use Rattle.handover_records.specs.Positions.{record_at, messages_from}
use Rattle.handover_records.proofs.Steps.{messages_none, messages_step}
use Rattle.image_rules.specs.Messages.{mid_early, any_early}

one_early : (strict : Bool) (bs : List ℕ) (at : ℕ) → mid_too_early strict (record_at bs at) ≡ mid_early strict (message_at bs at)
unfolding mid_too_early has_flag mid_early record_at message_at
one_early strict bs at = go strict (eqb ((message_at bs at).flags / 2 % 2) 1) (eqb (message_at bs at).offset 0)
  where
    go : (a b c : Bool) → (a && b && c) ≡ pick a (pick b c false) false
    go true true c = refl
    go true false c = refl
    go false b c = refl

pub early_same : (strict : Bool) (bs : List ℕ) (at n : ℕ) → any (mid_too_early strict) (messages_from bs at n) ≡ any_early strict bs at n
unfolding any any_early
early_same strict bs at zero = ap (any (mid_too_early strict)) (messages_none bs at)
early_same strict bs at (suc n) =
    ap (any (mid_too_early strict)) (messages_step bs at n)
    ∙ ap₂ ◌||◌ (one_early strict bs at) (early_same strict bs (at + 44 + (message_at bs at).length) n)
    ∙ go (mid_early strict (message_at bs at)) (any_early strict bs (at + 44 + (message_at bs at).length) n)
  where
    go : (a b : Bool) → (a || b) ≡ pick a true b
    go true b = refl
    go false b = refl
