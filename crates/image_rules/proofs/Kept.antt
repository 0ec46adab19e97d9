-- What an image that keeps the rules says. Assumes nothing.
use mathlib.Core.Path.{◌≡◌, refl, sym, ◌∙◌}
use mathlib.Core.Bool.{Bool, true, false, not}
use mathlib.Core.List.{List}
use Prim.Native.Nat.{ℕ, ◌+◌, ◌*◌, ◌≤◌}
use native.Mathlib.Omega.{arith}
use borrow.Author.Tests.{eqb-true}
use lib.Dec.{eqb}
use lib.ListN.{length}
use Rattle.queue_words.specs.Flags.{pick}
use Rattle.payload_store.proofs.Cases.{pick_both}
use Rattle.handover_records.specs.declared.records.Trailer.{Trailer}
use Rattle.image_rules.specs.Trailers.{trailer_right_words}
use Rattle.image_rules.specs.Streams.{streams_right_words}
use Rattle.image_rules.specs.Messages.{messages_right_words, any_early, messages_kept}
use Rattle.image_rules.specs.Cursor.{IdsRise}
use Rattle.image_rules.specs.Code.{rules_kept}
use Rattle.image_rules.proofs.Early.{never_early, kept_right}
use Rattle.image_rules.proofs.StreamFacts.{ids_of}

-- "All must agree and fill the image."
pub record Agrees (t : Trailer) (size : ℕ) : Type 0 where
  pub form : t.form ≡ 1
  pub fills : t.streams_size + t.messages_size + 20 ≡ size
  pub whole : t.streams_size ≡ 14 * t.streams

pub agrees : (t : Trailer) (size : ℕ) → trailer_right_words t size ≡ true → Agrees t size
unfolding trailer_right_words
agrees t size e =
    let a = pick_both (eqb t.form 1) _ e in
    let b = pick_both (eqb (t.streams_size + t.messages_size + 20) size) _ a.1 in
    let c = pick_both (eqb t.streams_size (14 * t.streams)) true b.1 in
    record { form = eqb-true t.form 1 a.0; fills = eqb-true (t.streams_size + t.messages_size + 20) size b.0; whole = eqb-true t.streams_size (14 * t.streams) c.0 }

pub record Kept (bs : List ℕ) (t : Trailer) : Type 0 where
  pub trailer : Agrees t (length bs)
  pub streams : streams_right_words bs t.default_priority 0 0 t.streams ≡ true
  pub messages : messages_right_words bs t.streams_size t.messages_size 0 t.messages ≡ true

pub kept : (bs : List ℕ) (t : Trailer) → rules_kept false bs t ≡ true → Kept bs t
unfolding rules_kept
kept bs t e =
    let a = pick_both (trailer_right_words t (length bs)) _ e in
    let b = pick_both (streams_right_words bs t.default_priority 0 0 t.streams) _ a.1 in
    record { trailer = agrees t (length bs) a.0; streams = b.0; messages = sym (kept_right bs t.streams_size t.messages_size 0 t.messages) ∙ b.1 }

-- ---- the strict rule

-- Whether one of its messages has an early MID.
abbrev pub early_in : Bool → List ℕ → Trailer → Bool
early_in strict bs t = any_early strict bs t.streams_size t.messages

-- The strict rule asks for document 01's rules, and that no MID is early.
pub kept_apart : (strict : Bool) (bs : List ℕ) (t : Trailer) → rules_kept strict bs t ≡ pick (rules_kept false bs t) (not (early_in strict bs t)) false
unfolding rules_kept messages_kept
kept_apart strict bs t =
    rw (never_early bs t.streams_size t.messages)
    (go (trailer_right_words t (length bs)) (streams_right_words bs t.default_priority 0 0 t.streams) (messages_right_words bs t.streams_size t.messages_size 0 t.messages) (early_in strict bs t))
  where
    go : (a b c e : Bool) → pick a (pick b (pick c (not e) false) false) false ≡ pick (pick a (pick b (pick c true false) false) false) (not e) false
    go true true true e = refl
    go true true false e = refl
    go true false c e = refl
    go false b c e = refl

-- Rules that are kept for a queue of any rule: document 01's are, and no MID is early.
pub kept_both : (strict : Bool) (bs : List ℕ) (t : Trailer) → rules_kept strict bs t ≡ true → (rules_kept false bs t ≡ true) × (early_in strict bs t ≡ false)
kept_both strict bs t e =
    let a = pick_both (rules_kept false bs t) (not (early_in strict bs t)) (sym (kept_apart strict bs t) ∙ e) in
    (a.0, not_true (early_in strict bs t) a.1)
  where
    not_true : (b : Bool) → not b ≡ true → b ≡ false
    not_true true e = sym e
    not_true false e = refl

-- ---- the parts lie in the image

module _ (t : Trailer) (size : ℕ) (a : Agrees t size) where
  pub streams_inside : 14 * t.streams ≤ size
  streams_inside = omega (arith, a.fills, a.whole)

  pub messages_inside : t.streams_size + t.messages_size ≤ size
  messages_inside = omega (arith, a.fills)

pub streams_lie : (t : Trailer) (size : ℕ) (r : Bool) → r ≡ trailer_right_words t size → r ≡ true → 14 * t.streams ≤ size
streams_lie t size r e h = streams_inside t size (agrees t size (sym e ∙ h))

pub messages_lie : (t : Trailer) (size : ℕ) (r : Bool) → r ≡ trailer_right_words t size → r ≡ true → t.streams_size + t.messages_size ≤ size
messages_lie t size r e h = messages_inside t size (agrees t size (sym e ∙ h))

-- ---- what the sums over its messages need

pub bytes_need : (bs : List ℕ) (t : Trailer) → rules_kept false bs t ≡ true → t.messages ≤ 1024
    → (t.streams_size + t.messages_size ≤ length bs) × (t.messages ≤ 65535) × (messages_right_words bs t.streams_size t.messages_size 0 t.messages ≡ true)
bytes_need bs t e h = let k = kept bs t e in (messages_inside t (length bs) k.trailer, omega (arith, h), k.messages)

pub streams_need : (bs : List ℕ) (t : Trailer) → rules_kept false bs t ≡ true → t.messages ≤ 1024
    → (14 * t.streams ≤ length bs) × IdsRise bs t.streams × (t.streams_size + t.messages_size ≤ length bs) × (t.messages ≤ 65535)
    × (messages_right_words bs t.streams_size t.messages_size 0 t.messages ≡ true)
streams_need bs t e h =
    let k = kept bs t e in (
      streams_inside t (length bs) k.trailer,
      ids_of bs t.default_priority t.streams k.streams,
      messages_inside t (length bs) k.trailer,
      omega (arith, h),
      k.messages,
    )
