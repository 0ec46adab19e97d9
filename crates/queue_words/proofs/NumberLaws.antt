-- The words of flags and enums: each value survives its words. Assumes nothing.
use Rattle.std.specs.Prelude.{Some, None}
use mathlib.Core.Path.{◌≡◌, refl}
use mathlib.Core.Bool.{Bool, true, false}
use Prim.Native.Nat.{ℕ, ◌%◌, ◌<◌}
use native.Mathlib.Omega.{arith}
use native.Mathlib.Nat.{mod-eq_of_lt, mod-lt}
use lib.Dec.{ltb}
use borrow.Author.Tests.{lt-ltb, ltb-true}
use Rattle.queue_words.specs.declared.streams.PauseState.{PauseState}
use Rattle.queue_words.specs.declared.streams.PauseState.TheVariants.{NotPaused, Pending, Paused, Resetting}
use Rattle.queue_words.specs.Header.{Remembered}
use Rattle.queue_words.specs.Items.{Expiry}
use Rattle.queue_words.specs.Items.{Numbers}
use Rattle.queue_words.specs.Flags.{bit, flag, pick}
use Rattle.queue_words.specs.Header.{remembered_of, remembered_word, FitsRemembered}
use Rattle.queue_words.specs.Items.{expiry_of, has_expiry, expiry_at, numbers_of, are_given, mid_in, ssn_in}
use Rattle.queue_words.specs.Streams.{pause_state_of, pause_state_word}

pub flag_bit : (b : Bool) → flag (bit b) ≡ b
flag_bit true = refl
flag_bit false = refl

pub pause_state_of_word : (p : PauseState) → pause_state_of (pause_state_word p) ≡ p
pause_state_of_word NotPaused = refl
pause_state_of_word Pending = refl
pause_state_of_word Paused = refl
pause_state_of_word Resetting = refl

-- ---- the remembered stream

pub remembered_of_word : (r : Remembered) → FitsRemembered r → remembered_of (remembered_word r) ≡ r
remembered_of_word None f = refl
remembered_of_word (Some id) f = rw (lt-ltb _ _ f)

pub remembered_of_fits : (w : ℕ) → FitsRemembered (remembered_of w)
remembered_of_fits w = go (ltb w 65536) refl
  where
    go : (b : Bool) → ltb w 65536 ≡ b → FitsRemembered (pick b (Some (record { 0 = w })) None)
    go true e = ltb-true _ _ e
    go false e = tt

-- ---- a message's expiry, and its MID and SSN

pub expiry_of_words : (e : Expiry) → expiry_of (bit (has_expiry e)) (expiry_at e) ≡ e
expiry_of_words None = refl
expiry_of_words (Some t) = refl

pub numbers_of_words : (n : Numbers) → (mid_in n).0 < 4294967296 → (ssn_in n).0 < 65536 → numbers_of (bit (are_given n)) (mid_in n).0 (ssn_in n).0 ≡ n
numbers_of_words None f g = refl
numbers_of_words (Some n) f g = λ p. Some (record { mid = record { 0 = mod-eq_of_lt f p }; ssn = record { 0 = mod-eq_of_lt g p } })

pub mid_of_fits : (f mid ssn : ℕ) → (mid_in (numbers_of f mid ssn)).0 < 4294967296
mid_of_fits f mid ssn = go (flag f)
  where
    go : (b : Bool) → (mid_in (pick b (Some (record { mid = record { 0 = mid % 4294967296 }; ssn = record { 0 = ssn % 65536 } })) None)).0 < 4294967296
    go true = mod-lt _ (omega arith)
    go false = omega arith

pub ssn_of_fits : (f mid ssn : ℕ) → (ssn_in (numbers_of f mid ssn)).0 < 65536
ssn_of_fits f mid ssn = go (flag f)
  where
    go : (b : Bool) → (ssn_in (pick b (Some (record { mid = record { 0 = mid % 4294967296 }; ssn = record { 0 = ssn % 65536 } })) None)).0 < 65536
    go true = mod-lt _ (omega arith)
    go false = omega arith
