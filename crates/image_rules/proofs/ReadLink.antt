-- Reading an image by the model, and its code: 13 where nothing is read, by the Rust's rule nowhere else, and what is read stands by position. Assumes nothing.
use mathlib.Core.Path.{◌≡◌, refl, sym, ap, ap₂, ◌∙◌, subst}
use mathlib.Core.Bool.{Bool, true, false, not, ◌&&◌}
use mathlib.Core.List.{List, [], ◌∷◌}
use mathlib.Core.Option.{Option, none, some}
use Prim.Native.Nat.{ℕ, ◌+◌, ◌-◌, ◌*◌}
use native.Mathlib.Omega.{arith}
use borrow.Author.Tests.{lt-ltb, le-ltb, lt-leb, le-leb}
use lib.Dec.{eqb, ltb, leb}
use lib.ListN.{length, drop}
use Rattle.queue_words.specs.Flags.{pick}
use Rattle.queue_model.specs.Logic.{only_if, and_then}
use Rattle.queue_model.specs.Bytes.{bytes_row}
use Rattle.queue_model.specs.Image.{StreamRecord, MessageRecord, Handover, trailer_widths}
use Rattle.queue_model.specs.Reader.{read_streams, read_messages, streams_right, handover_right, only_right, trailer_right, read_parts, read_image}
use Rattle.queue_state.specs.Model.{tab}
use Rattle.handover_records.specs.declared.records.Trailer.{Trailer}
use Rattle.handover_records.specs.Records.{trailer_at}
use Rattle.handover_records.specs.Positions.{stream_record_at, messages_from}
use Rattle.image_rules.specs.Trailers.{trailer_in, trailer_right_words}
use Rattle.image_rules.specs.Streams.{streams_right_words}
use Rattle.image_rules.specs.Messages.{messages_right_words}
use Rattle.image_rules.specs.Code.{rules_kept, amounts_fit, image_code_words}
use Rattle.image_rules.proofs.Early.{never_early, kept_right}
use Rattle.image_rules.proofs.Kept.{Agrees, agrees, early_in, kept_apart, messages_inside}
use Rattle.image_rules.proofs.StreamLink.{streams_on, on_read, from_id, right_same, streams_read}
use Rattle.image_rules.proofs.MessageLink.{right_from, all_right_same, judged, none_some, part, messages_judged}
use Rattle.queue_words.proofs.Finds.{by_lt}

-- ------------------------------------------------------------------ what stands in an image

-- The handover record of an image that keeps the rules, by position.
unfoldable pub handover_at : List ℕ → Handover
handover_at bs = record {
  next_message_id = (trailer_in bs).next_message_id;
  default_priority = (trailer_in bs).default_priority;
  streams = tab (λ k. stream_record_at bs (14 * k)) (trailer_in bs).streams;
  messages = messages_from bs (trailer_in bs).streams_size (trailer_in bs).messages;
}

-- Whether an image keeps all rules of document 01.
unfoldable pub image_right : List ℕ → Bool
image_right bs = pick (ltb (length bs) 20) false (rules_kept false bs (trailer_in bs))

-- ------------------------------------------------------------------ the stream records

pub streams_same : (bs : List ℕ) (d n : ℕ) → streams_right d (read_streams n bs) ≡ streams_right_words bs d 0 0 n
streams_same bs d n = ap (streams_right d) (on_read bs n 0) ∙ go (streams_on bs 0 n) ∙ sym (right_same bs d n 0 0)
  where
    go : (rs : List StreamRecord) → streams_right d rs ≡ (from_id 0 rs && streams_right d rs)
    go [] = refl
    go (r ∷ rs) = ap (λ b. b && streams_right d (r ∷ rs)) (sym (le-leb 0 r.id (omega arith)))

-- ------------------------------------------------------------------ the parts

both_some : {A : Type 0} (f : List MessageRecord → A) (ms l : List MessageRecord) (s b r : Bool) → only_if b (some ms) ≡ pick r (some l) none → only_if (s && b) (some (f ms)) ≡ pick (s && r) (some (f l)) none
unfolding only_if
both_some f ms l true true true e = let g : ms ≡ l = cc in ap (λ x. some (f x)) g
both_some f ms l true false true e = none_some l e
both_some f ms l true true false e = none_some ms (sym e)
both_some f ms l true false false e = refl
both_some f ms l false b r e = refl

both_none : {A : Type 0} (a : A) (l : List MessageRecord) (s r : Bool) → ◌≡◌ {A = Option (List MessageRecord)} none (pick r (some l) none) → ◌≡◌ {A = Option A} none (pick (s && r) (some a) none)
both_none a l s true e = none_some l e
both_none a l true false e = refl
both_none a l false false e = refl

-- Reading messages, then judging streams and messages.
both : (f : List MessageRecord → Handover) (s r : Bool) (l : List MessageRecord) (o : Option (List MessageRecord))
    → ((ms : List MessageRecord) → handover_right (f ms) ≡ (s && right_from 0 ms)) → judged 0 o ≡ pick r (some l) none
    → and_then o (λ ms. only_right (f ms)) ≡ pick (s && r) (some (f l)) none
unfolding and_then only_right
both f s r l none h e = both_none (f l) l s r e
both f s r l (some ms) h e = ap (λ b. only_if b (some (f ms))) (h ms) ∙ both_some f ms l s (right_from 0 ms) r e

-- ------------------------------------------------------------------ the trailer

abbrev row_in : List ℕ → List ℕ
row_in bs = bytes_row trailer_widths (drop (length bs - 20) bs)

trailer_same : (bs : List ℕ) → trailer_right (row_in bs) bs ≡ trailer_right_words (trailer_in bs) (length bs)
unfolding trailer_right trailer_right_words trailer_at
trailer_same bs = go (eqb (trailer_in bs).form 1) (eqb ((trailer_in bs).streams_size + (trailer_in bs).messages_size + 20) (length bs)) (eqb (trailer_in bs).streams_size (14 * (trailer_in bs).streams))
  where
    go : (a b c : Bool) → (a && b && c) ≡ pick a (pick b (pick c true false) false) false
    go true true true = refl
    go true true false = refl
    go true false c = refl
    go false b c = refl

-- The handover record with these messages.
abbrev holding : List ℕ → List MessageRecord → Handover
holding bs ms = record {
  next_message_id = (trailer_in bs).next_message_id;
  default_priority = (trailer_in bs).default_priority;
  streams = read_streams (trailer_in bs).streams bs;
  messages = ms;
}

-- Both parts, read and judged.
abbrev parts_in : List ℕ → Option Handover
parts_in bs = and_then (read_messages (trailer_in bs).messages (part bs (trailer_in bs).streams_size (trailer_in bs).messages_size)) (λ ms. only_right (holding bs ms))

parts_of : (bs : List ℕ) → read_parts (row_in bs) bs
    ≡ only_if (trailer_right (row_in bs) bs) (parts_in bs)
unfolding read_parts trailer_at
parts_of bs = refl

holding_right : (bs : List ℕ) (ms : List MessageRecord)
    → handover_right (holding bs ms) ≡ (streams_right_words bs (trailer_in bs).default_priority 0 0 (trailer_in bs).streams && right_from 0 ms)
unfolding handover_right
holding_right bs ms = ap₂ ◌&&◌ (streams_same bs (trailer_in bs).default_priority (trailer_in bs).streams) (all_right_same ms)

holding_all : (bs : List ℕ) → holding bs (messages_from bs (trailer_in bs).streams_size (trailer_in bs).messages) ≡ handover_at bs
unfolding handover_at
holding_all bs =
    ap (λ (ss : List StreamRecord). record { next_message_id = (trailer_in bs).next_message_id; default_priority = (trailer_in bs).default_priority; streams = ss; messages = messages_from bs (trailer_in bs).streams_size (trailer_in bs).messages })
    (streams_read bs (trailer_in bs).streams)

-- Whether the records of both parts keep the rules.
abbrev parts_right : List ℕ → Bool
parts_right bs = streams_right_words bs (trailer_in bs).default_priority 0 0 (trailer_in bs).streams && messages_right_words bs (trailer_in bs).streams_size (trailer_in bs).messages_size 0 (trailer_in bs).messages

parts_right_lem : (bs : List ℕ) → Agrees (trailer_in bs) (length bs)
    → parts_in bs
    ≡ pick (parts_right bs) (some (handover_at bs)) none
parts_right_lem bs a =
    both (holding bs) (streams_right_words bs (trailer_in bs).default_priority 0 0 (trailer_in bs).streams)
    (messages_right_words bs (trailer_in bs).streams_size (trailer_in bs).messages_size 0 (trailer_in bs).messages) (messages_from bs (trailer_in bs).streams_size (trailer_in bs).messages)
    (read_messages (trailer_in bs).messages (part bs (trailer_in bs).streams_size (trailer_in bs).messages_size)) (holding_right bs)
    (messages_judged bs (trailer_in bs).messages (trailer_in bs).streams_size (trailer_in bs).messages_size 0 (messages_inside (trailer_in bs) (length bs) a))
    ∙ ap (λ h. pick (parts_right bs) (some h) none) (holding_all bs)

kept_is : (bs : List ℕ) (t : Trailer) → rules_kept false bs t
    ≡ pick (trailer_right_words t (length bs)) (streams_right_words bs t.default_priority 0 0 t.streams && messages_right_words bs t.streams_size t.messages_size 0 t.messages) false
unfolding rules_kept
kept_is bs t =
    rw (kept_right bs t.streams_size t.messages_size 0 t.messages)
    (ap (λ b. pick (trailer_right_words t (length bs)) b false) (go (streams_right_words bs t.default_priority 0 0 t.streams) (messages_right_words bs t.streams_size t.messages_size 0 t.messages)))
  where
    go : (a b : Bool) → pick a b false ≡ (a && b)
    go true b = refl
    go false b = refl

parts_read : (bs : List ℕ) → read_parts (row_in bs) bs ≡ pick (rules_kept false bs (trailer_in bs)) (some (handover_at bs)) none
unfolding only_if
parts_read bs = parts_of bs ∙ ap (λ b. only_if b (parts_in bs)) (trailer_same bs) ∙ go (trailer_right_words (trailer_in bs) (length bs)) refl
  where
    go : (b : Bool) → trailer_right_words (trailer_in bs) (length bs) ≡ b
        → only_if b (parts_in bs)
        ≡ pick (rules_kept false bs (trailer_in bs)) (some (handover_at bs)) none
    go true e = parts_right_lem bs (agrees (trailer_in bs) (length bs) e) ∙ sym (ap (λ b. pick b (some (handover_at bs)) none) (kept_is bs (trailer_in bs) ∙ ap (λ b. pick b (parts_right bs) false) e))
    go false e = sym (ap (λ b. pick b (some (handover_at bs)) none) (kept_is bs (trailer_in bs) ∙ ap (λ b. pick b (parts_right bs) false) e))

-- ------------------------------------------------------------------ the image

image_of : (bs : List ℕ) → read_image bs ≡ only_if (leb 20 (length bs)) (read_parts (row_in bs) bs)
unfolding read_image
image_of bs = refl

pub read_is : (bs : List ℕ) → read_image bs ≡ pick (image_right bs) (some (handover_at bs)) none
unfolding only_if image_right
read_is bs = image_of bs ∙ by_lt (length bs) 20
    (λ h. rw (lt-leb 20 (length bs) h, lt-ltb (length bs) 20 h))
    (λ h. rw (le-leb 20 (length bs) h, le-ltb (length bs) 20 h) (parts_read bs))

-- The answer of an image that keeps the rules of its queue.
unfoldable pub right_code : List ℕ → ℕ → ℕ → ℕ
right_code bs d len = pick (eqb (trailer_in bs).default_priority d) (pick (amounts_fit bs (trailer_in bs) len) 0 15) 14

-- By document 01's rules, then by the strict one.
pub code_is : (strict : Bool) (bs : List ℕ) (d len : ℕ) → image_code_words strict bs d len ≡ pick (image_right bs) (pick (early_in strict bs (trailer_in bs)) 13 (right_code bs d len)) 13
unfolding image_code_words image_right right_code
code_is strict bs d len =
    rw (kept_apart strict bs (trailer_in bs))
    (go (ltb (length bs) 20) (rules_kept false bs (trailer_in bs)) (early_in strict bs (trailer_in bs)) (pick (eqb (trailer_in bs).default_priority d) (pick (amounts_fit bs (trailer_in bs) len) 0 15) 14))
  where
    go : (a b e : Bool) (n : ℕ) → pick a 13 (pick (pick b (not e) false) n 13) ≡ pick (pick a false b) (pick e 13 n) 13
    go true b e n = refl
    go false true true n = refl
    go false true false n = refl
    go false false e n = refl

-- A queue of the Rust's rule.
rust_code : (bs : List ℕ) (d len : ℕ) → image_code_words false bs d len ≡ pick (image_right bs) (right_code bs d len) 13
rust_code bs d len = code_is false bs d len ∙ ap (λ e. pick (image_right bs) (pick e 13 (right_code bs d len)) 13) (never_early bs (trailer_in bs).streams_size (trailer_in bs).messages)

-- Not 13: the rules are kept.
pub right_of : (strict : Bool) (bs : List ℕ) (d len : ℕ) → (image_code_words strict bs d len ≡ 13 → ⊥) → image_right bs ≡ true
right_of strict bs d len n = go (image_right bs) refl
  where
    go : (b : Bool) → image_right bs ≡ b → image_right bs ≡ true
    go true e = e
    go false e = absurd (n (code_is strict bs d len ∙ ap (λ b. pick b (pick (early_in strict bs (trailer_in bs)) 13 (right_code bs d len)) 13) e))

pub wrong_of : (bs : List ℕ) (d len : ℕ) → image_code_words false bs d len ≡ 13 → image_right bs ≡ false
unfolding right_code
wrong_of bs d len e = go (image_right bs) refl (eqb (trailer_in bs).default_priority d) (amounts_fit bs (trailer_in bs) len) (sym (rust_code bs d len) ∙ e)
  where
    go : (b : Bool) → image_right bs ≡ b → (p a : Bool) → ◌≡◌ {A = ℕ} (pick b (pick p (pick a 0 15) 14) 13) 13 → image_right bs ≡ false
    go false f p a e = f
    go true f true true e = absurd (omega (arith, e))
    go true f true false e = absurd (omega (arith, e))
    go true f false a e = absurd (omega (arith, e))

-- What is read from an image.
pub record Read (bs : List ℕ) (h : Handover) : Type 0 where
  pub next_is : h.next_message_id ≡ (trailer_in bs).next_message_id
  pub priority_is : h.default_priority ≡ (trailer_in bs).default_priority
  pub streams_are : h.streams ≡ tab (λ k. stream_record_at bs (14 * k)) (trailer_in bs).streams
  pub messages_are : h.messages ≡ messages_from bs (trailer_in bs).streams_size (trailer_in bs).messages

pub handover_read : (bs : List ℕ) → Read bs (handover_at bs)
unfolding handover_at
handover_read bs = record { next_is = refl; priority_is = refl; streams_are = refl; messages_are = refl }

-- By the Rust's rule 13 exactly where the model reads nothing; else, by any rule, it reads what stands there.
pub record ImageRead (bs : List ℕ) (d len : ℕ) : Type 0 where
  pub broken : image_code_words false bs d len ≡ 13 → read_image bs ≡ none
  pub whole : (strict : Bool) → (image_code_words strict bs d len ≡ 13 → ⊥) → read_image bs ≡ some (handover_at bs)
  pub none_broken : (strict : Bool) → read_image bs ≡ none → image_code_words strict bs d len ≡ 13
  pub some_whole : (h : Handover) → read_image bs ≡ some h → (image_code_words false bs d len ≡ 13 → ⊥) × Read bs h

pub image_read : (bs : List ℕ) (d len : ℕ) → ImageRead bs d len
image_read bs d len = record { broken = broken; whole = whole; none_broken = none_broken; some_whole = some_whole }
  where
    broken : image_code_words false bs d len ≡ 13 → read_image bs ≡ none
    broken e = read_is bs ∙ ap (λ b. pick b (some (handover_at bs)) none) (wrong_of bs d len e)

    whole : (strict : Bool) → (image_code_words strict bs d len ≡ 13 → ⊥) → read_image bs ≡ some (handover_at bs)
    whole strict n = read_is bs ∙ ap (λ b. pick b (some (handover_at bs)) none) (right_of strict bs d len n)

    none_broken : (strict : Bool) → read_image bs ≡ none → image_code_words strict bs d len ≡ 13
    none_broken strict e = code_is strict bs d len ∙ go (image_right bs) (sym (read_is bs) ∙ e)
      where
        go : (b : Bool) → pick b (some (handover_at bs)) none ≡ none → pick b (pick (early_in strict bs (trailer_in bs)) 13 (right_code bs d len)) 13 ≡ 13
        go true e = none_some (handover_at bs) (sym e)
        go false e = refl

    some_whole : (h : Handover) → read_image bs ≡ some h → (image_code_words false bs d len ≡ 13 → ⊥) × Read bs h
    some_whole h e = (λ c. none_some h (sym (broken c) ∙ e), go (image_right bs) (sym (read_is bs) ∙ e))
      where
        go : (b : Bool) → pick b (some (handover_at bs)) none ≡ some h → Read bs h
        go true e = let g : handover_at bs ≡ h = cc in subst (Read bs) g (handover_read bs)
        go false e = none_some h e
