-- The loops: the first records or streams are done. Assumes nothing.
use Rattle.std.specs.Prelude.{Some, None}
use mathlib.Core.Path.{◌≡◌, refl, ap, ◌∙◌, sym}
use mathlib.Core.Bool.{Bool, true, false}
use mathlib.Core.List.{List}
use Prim.Native.Nat.{ℕ, suc, ◌+◌, ◌*◌, ◌-◌, ◌≤◌, ◌<◌}
use lib.ListN.{take, drop}
use Rattle.queue_words.specs.declared.items.Item.{Item}
use native.Mathlib.Nat.{sub-zero}
use native.Mathlib.Numerals.{add-one}
use native.Mathlib.Omega.{arith}
use Rattle.queue_words.specs.Known.{known_at}
use Rattle.queue_words.specs.declared.known.Known.{Known}
use Rattle.restoring.specs.Streams.{stream_restored, streams_restored}
use Rattle.restoring.specs.Messages.{Restored, restored, hung_with, message_restored, messages_restored, waits_at, waits_all}
use Rattle.restoring.specs.Recall.{half_sent_at, first_half_sent_words}

same_count : {A : Type 0} (f : ℕ → A) (n i : ℕ) → i ≤ n → n ≤ i → f i ≡ f n
same_count f n i h k = let e : i ≡ n = omega arith in ap f e

-- ---- streams

module _ (ws bs : List ℕ) where
  pub streams_start : ws ≡ streams_restored ws bs 0
  unfolding streams_restored
  streams_start = refl

  pub streams_next : (i at : ℕ) (us l : List ℕ) → us ≡ streams_restored ws bs i → at ≡ i * 14 → l ≡ stream_restored us bs at → l ≡ streams_restored ws bs (i + 1)
  unfolding streams_restored
  streams_next i at us l a b c = rw (add-one, ← a, ← b) c

  pub streams_end : (n i : ℕ) (us : List ℕ) → us ≡ streams_restored ws bs i → i ≤ n → n ≤ i → us ≡ streams_restored ws bs n
  streams_end n i us a h k = a ∙ same_count (streams_restored ws bs) n i h k

-- ---- messages

module _ (ws st : List ℕ) (start : ℕ) (bs : List ℕ) (time : ℕ) where
  pub messages_start : restored ws st start ≡ messages_restored ws st start bs time 0
  unfolding messages_restored
  messages_start = refl

  pub messages_next : (i : ℕ) (x y : Restored) → x ≡ messages_restored ws st start bs time i → y ≡ message_restored x bs time → y ≡ messages_restored ws st start bs time (i + 1)
  unfolding messages_restored
  messages_next i x y a c = rw (add-one, ← a) c

  pub messages_end : (n i : ℕ) (x : Restored) → x ≡ messages_restored ws st start bs time i → i ≤ n → n ≤ i → x ≡ messages_restored ws st start bs time n
  messages_end n i x a h k = a ∙ same_count (messages_restored ws st start bs time) n i h k

-- ---- waiting

module _ (il : Bool) (ws : List ℕ) where
  pub waits_start : ws ≡ waits_all il ws 0
  unfolding waits_all
  waits_start = refl

  pub waits_next : (i : ℕ) (us l : List ℕ) (k : Known) → us ≡ waits_all il ws i → k ≡ known_at us i → l ≡ waits_at il us k → l ≡ waits_all il ws (i + 1)
  unfolding waits_all
  waits_next i us l k a b c = rw (add-one, ← a, ← b) c

  pub waits_end : (n i : ℕ) (us : List ℕ) → us ≡ waits_all il ws i → i ≤ n → n ≤ i → us ≡ waits_all il ws n
  waits_end n i us a h k = a ∙ same_count (waits_all il ws) n i h k

-- ---- the first half-sent head

module _ (ws : List ℕ) (n : ℕ) where
  pub half_start : first_half_sent_words ws 0 n ≡ first_half_sent_words ws 0 (n - 0)
  half_start = rw sub-zero

  module _ (i : ℕ) (inv : first_half_sent_words ws 0 n ≡ first_half_sent_words ws i (n - i)) where
    module _ (h : i < n) (k : Known) (ek : k ≡ known_at ws i) (b : Bool) (eb : b ≡ half_sent_at ws k) where
      pub half_here : b ≡ true → Some (record { 0 = k.id.0 }) ≡ first_half_sent_words ws 0 n
      unfolding first_half_sent_words
      half_here g =
          let s : n - i ≡ suc (n - (i + 1)) = omega arith in
          sym (inv ∙ rw (s, ← ek, ← eb, g))

      pub half_next : b ≡ false → first_half_sent_words ws 0 n ≡ first_half_sent_words ws (i + 1) (n - (i + 1))
      unfolding first_half_sent_words
      half_next g =
          let s : n - i ≡ suc (n - (i + 1)) = omega arith in
          inv ∙ rw (s, ← ek, ← eb, g, add-one)

    pub half_end : n ≤ i → None ≡ first_half_sent_words ws 0 n
    unfolding first_half_sent_words
    half_end g =
        let s : n - i ≡ 0 = omega arith in
        sym (inv ∙ rw s)

-- A slice of the image is the payload.
pub record_done : (ws st : List ℕ) (id : ℕ) (m : Item) (bs : List ℕ) (at n left : ℕ) (x : Restored)
    → x ≡ hung_with ws st id m (take (at + 44 + n - (at + 44)) (drop (at + 44) bs)) left (at + 44 + n) → x ≡ hung_with ws st id m (take n (drop (at + 44) bs)) left (at + 44 + n)
record_done ws st id m bs at n left x e =
    let k : at + 44 + n - (at + 44) ≡ n = omega arith in
    e ∙ ap (λ y. hung_with ws st id m (take y (drop (at + 44) bs)) left (at + 44 + n)) k
