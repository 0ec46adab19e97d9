-- What a whole-queue reset puts back: amounts stay within what is occupied, so none passes 2^64 - 1. Assumes nothing.
use mathlib.Core.Path.{◌≡◌, refl, ap₂}
use mathlib.Core.Bool.{Bool, false, ◌||◌}
use mathlib.Core.List.{List, [], ◌∷◌, map}
use Prim.Native.Nat.{◌+◌, ◌≤◌}
use native.Mathlib.Omega.{arith}
use Rattle.queue_model.specs.Logic.{any}
use Rattle.queue_model.specs.Types.{Item, Stream}
use Rattle.queue_model.specs.Streams.{payload_bytes, occupied, amounts}
use Rattle.queue_model.specs.Refusals.{max_word}
use Rattle.queue_model.specs.Reset.{model_put_back, reset_stream, all_put_back, put_back_overflows}
use Rattle.queue_model.proofs.Tests.{ltb_false}
use Rattle.queue_model.proofs.Table.{Every}
use Rattle.queue_model.proofs.Streams.{unsent_bytes, unsent_le}

-- Every amount is the unsent bytes.
abbrev pub AllCounted : List Stream → Type 0
AllCounted ss = Every (λ (s : Stream). s.amount ≡ unsent_bytes s.items) ss

pub reset_amounts : (b : Bool) (ss : List Stream) → amounts (map (reset_stream b) ss) ≡ amounts ss + all_put_back ss
unfolding reset_stream
reset_amounts b [] = refl
reset_amounts b (s ∷ ss) = let ih = reset_amounts b ss in omega arith

stream_put_back : (is : List Item) → unsent_bytes is + model_put_back is ≤ payload_bytes is
unfolding model_put_back
stream_put_back [] = omega arith
stream_put_back (i ∷ is) = let ih = unsent_le is in omega arith

pub put_back_fits : (ss : List Stream) → AllCounted ss → amounts ss + all_put_back ss ≤ occupied ss
put_back_fits [] g = omega arith
put_back_fits (s ∷ ss) g = let ih = put_back_fits ss g.1 in let b = stream_put_back s.items in let c = g.0 in omega arith

pub no_overflow : (ss : List Stream) → AllCounted ss → occupied ss ≤ 2000000 → any put_back_overflows ss ≡ false
unfolding any put_back_overflows
no_overflow [] g h = refl
no_overflow (s ∷ ss) g h =
    let b = stream_put_back s.items in let c = g.0 in
    let x : s.amount + model_put_back s.items ≤ max_word = omega arith in
    let y : occupied ss ≤ 2000000 = omega arith in
    ap₂ ◌||◌ (ltb_false x) (no_overflow ss g.1 y)
