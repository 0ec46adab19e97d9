-- The image's code is what the model's restoring answers. Assumes nothing.
use mathlib.Core.Path.{◌≡◌, refl, sym, ap, ap₂, ◌∙◌, subst}
use mathlib.Core.Bool.{Bool, true, false, not, ◌||◌}
use mathlib.Core.List.{List, [], ◌∷◌, map}
use mathlib.Core.Option.{none, some}
use Prim.Native.Nat.{ℕ, ◌+◌, ◌*◌, ◌≤◌}
use native.Mathlib.Omega.{arith}
use borrow.Author.Tests.{lt-ltb, le-ltb}
use lib.Dec.{eqb, ltb}
use lib.ListN.{length}
use Rattle.queue_words.specs.Flags.{pick}
use Rattle.payload_store.proofs.Cases.{false_true}
use Rattle.queue_model.specs.Logic.{any}
use Rattle.queue_model.specs.Types.{Stream, Options, Queue, done, Step, refuse, reply}
use Rattle.queue_model.specs.Streams.{stream_key, max_streams, max_messages, waiting, payload_bytes, occupied}
use Rattle.queue_model.specs.Refusals.{◌when◌, first_refusal, refused_or, checked}
use Rattle.queue_model.specs.Image.{Handover}
use Rattle.queue_model.specs.Reader.{read_image}
use Rattle.queue_model.specs.Restore.{restored_stream, restore_streams, restore_messages, restored, mid_too_early, restore_read}
use Rattle.queue_model.proofs.Table.{Rising}
use Rattle.queue_model.proofs.Checks.{read_none, read_some}
use Rattle.queue_state.specs.Model.{tab}
use Rattle.handover_records.specs.declared.records.Trailer.{Trailer}
use Rattle.handover_records.specs.Positions.{stream_record_at, messages_from}
use Rattle.image_rules.specs.Trailers.{trailer_in}
use Rattle.image_rules.specs.Amounts.{payload_bytes_words, new_streams}
use Rattle.image_rules.specs.Code.{rules_kept, amounts_fit, image_code_words}
use Rattle.image_rules.proofs.Kept.{Kept, kept, early_in, messages_inside}
use Rattle.image_rules.proofs.StreamLink.{streams_on, on_read, streams_read}
use Rattle.image_rules.proofs.EarlyLink.{early_same}
use Rattle.image_rules.proofs.ReadLink.{handover_at, image_right, read_is, right_code, code_is, image_read}
use Rattle.image_rules.proofs.RestoreLink.{base, base_length, base_sum, base_known, base_rising, Between, Added, all_added}
use Rattle.queue_words.proofs.Finds.{by_lt}

-- ------------------------------------------------------------------ the counts

-- The streams that an image restores.
abbrev pub streams_of : Options → ℕ → List ℕ → List Stream
streams_of o time bs = restore_messages o time (handover_at bs).messages (restore_streams o (handover_at bs).streams)

tab_on : (bs : List ℕ) (n : ℕ) → tab (λ k. stream_record_at bs (14 * k)) n ≡ streams_on bs 0 n
tab_on bs n = sym (streams_read bs n) ∙ on_read bs n 0

pub streams_of_lem : (o : Options) (time : ℕ) (bs : List ℕ) (t : Trailer) → t ≡ trailer_in bs
    → streams_of o time bs ≡ restore_messages o time (messages_from bs t.streams_size t.messages) (base o bs 0 t.streams)
unfolding handover_at restore_streams
streams_of_lem o time bs t e = rw e (ap (λ rs. restore_messages o time (messages_from bs (trailer_in bs).streams_size (trailer_in bs).messages) (map (restored_stream o) rs)) (tab_on bs (trailer_in bs).streams))

-- The streams after the first k messages, from those of the records.
abbrev pub streams_after : Options → ℕ → List ℕ → Trailer → ℕ → List Stream
streams_after o time bs t k = restore_messages o time (messages_from bs t.streams_size k) (base o bs 0 t.streams)

pub record Counts (bs : List ℕ) (t : Trailer) (k : ℕ) (ss : List Stream) : Type 0 where
  pub streams : length ss ≡ t.streams + new_streams bs t.streams t.streams_size 0 k
  pub messages : waiting ss ≡ k
  pub bytes : occupied ss ≡ payload_bytes_words bs t.streams_size k
  pub rises : Rising stream_key ss

pub counts : (o : Options) (time : ℕ) (bs : List ℕ) (t : Trailer) (k : ℕ) → Kept bs t → k ≤ t.messages → Counts bs t k (streams_after o time bs t k)
counts o time bs t k r h = go (all_added o time bs t.streams k t.messages t.streams_size t.messages_size 0 (base o bs 0 t.streams) h (messages_inside t (length bs) r.trailer) r.messages between)
  where
    between : Between bs t.streams 0 (base o bs 0 t.streams)
    between = record {
      rising = base_rising o bs t.default_priority 0 0 t.streams r.streams;
      named_on = λ id h. base_known o bs id 0 t.streams;
      last_known = λ id e. absurd (omega (arith, e));
    }

    go : {ss : List Stream} → Added o time bs t.streams t.streams_size 0 k (base o bs 0 t.streams) ss → Counts bs t k ss
    go a = record {
      streams = omega (arith, a.streams, base_length o bs 0 t.streams);
      messages = omega (arith, a.messages, base_sum o bs (λ (s : Stream). length s.items) (λ s e. ap length e) 0 t.streams);
      bytes = omega (arith, a.bytes, base_sum o bs (λ (s : Stream). payload_bytes s.items) (λ s e. ap payload_bytes e) 0 t.streams);
      rises = a.rises;
    }

pub image_counts : (o : Options) (time : ℕ) (bs : List ℕ) → Kept bs (trailer_in bs) → Counts bs (trailer_in bs) (trailer_in bs).messages (streams_of o time bs)
image_counts o time bs r =
    subst (Counts bs (trailer_in bs) (trailer_in bs).messages) (sym (streams_of_lem o time bs (trailer_in bs) refl)) (counts o time bs (trailer_in bs) (trailer_in bs).messages r (omega arith))

-- ------------------------------------------------------------------ 15

-- The model's test of 15, on streams and a store.
abbrev large : List Stream → ℕ → Bool
large ss len = ltb max_streams (length ss) || ltb max_messages (waiting ss) || ltb len (occupied ss)

large_same : (bs : List ℕ) (t : Trailer) (len : ℕ) (ss : List Stream) → Counts bs t t.messages ss → large ss len ≡ not (amounts_fit bs t len)
unfolding amounts_fit
large_same bs t len ss c =
    rw (c.streams, c.messages, c.bytes) (by_lt 256 t.streams
    (λ h. rw (lt-ltb 256 t.streams h, lt-ltb 256 (t.streams + new_streams bs t.streams t.streams_size 0 t.messages) (omega (arith, h))))
    (λ h. rw (le-ltb 256 t.streams h)
    (go (ltb 256 (t.streams + new_streams bs t.streams t.streams_size 0 t.messages)) (ltb 1024 t.messages) (ltb len (payload_bytes_words bs t.streams_size t.messages)))))
  where
    go : (x y z : Bool) → (x || y || z) ≡ not (pick y false (pick z false (pick x false true)))
    go true true z = refl
    go true false true = refl
    go true false false = refl
    go false true z = refl
    go false false true = refl
    go false false false = refl

-- ------------------------------------------------------------------ the answer

restored_streams : (time : ℕ) (h : Handover) (q : Queue) → (restored time h q).streams ≡ restore_messages q.options time h.messages (restore_streams q.options h.streams)
unfolding restored
restored_streams time h q = refl

restored_options : (time : ℕ) (h : Handover) (q : Queue) → (restored time h q).options ≡ q.options
unfolding restored
restored_options time h q = refl

three_checks : (a b c : Bool) (q : Queue) (s : Step) → checked ((13 when a) ∷ (14 when b) ∷ (15 when c) ∷ []) q s ≡ pick a (refuse q 13) (pick b (refuse q 14) (pick c (refuse q 15) s))
unfolding checked first_refusal refused_or
three_checks true b c q s = refl
three_checks false true c q s = refl
three_checks false false true q s = refl
three_checks false false false q s = refl

read_right : (time : ℕ) (q : Queue) (h : Handover) → restore_read time q (some h)
    ≡ pick (any (mid_too_early q.options.strict_restart) h.messages) (refuse q 13)
    (pick (not (eqb h.default_priority q.options.default_priority)) (refuse q 14)
    (pick (large (restored time h q).streams (restored time h q).options.store_length) (refuse q 15) (reply done [] (restored time h q))))
read_right time q h =
    read_some time q h
    ∙ three_checks (any (mid_too_early q.options.strict_restart) h.messages) (not (eqb h.default_priority q.options.default_priority)) (large (restored time h q).streams (restored time h q).options.store_length) q (reply done [] (restored time h q))

module _ (bs : List ℕ) (time : ℕ) (q : Queue) where
  -- What the queue does with an image that keeps the rules of document 01.
  abbrev answered : Step
  answered = pick (early_in q.options.strict_restart bs (trailer_in bs)) (refuse q 13)
      (pick (eqb (trailer_in bs).default_priority q.options.default_priority)
      (pick (amounts_fit bs (trailer_in bs) q.options.store_length) (reply done [] (restored time (handover_at bs) q)) (refuse q 15)) (refuse q 14))

  early_is : any (mid_too_early q.options.strict_restart) (handover_at bs).messages ≡ early_in q.options.strict_restart bs (trailer_in bs)
  unfolding handover_at
  early_is = early_same q.options.strict_restart bs (trailer_in bs).streams_size (trailer_in bs).messages

  priority_same : (handover_at bs).default_priority ≡ (trailer_in bs).default_priority
  unfolding handover_at
  priority_same = refl

  large_is : Kept bs (trailer_in bs)
      → large (restored time (handover_at bs) q).streams (restored time (handover_at bs) q).options.store_length ≡ not (amounts_fit bs (trailer_in bs) q.options.store_length)
  large_is e =
      ap₂ (λ ss (o : Options). large ss o.store_length) (restored_streams time (handover_at bs) q) (restored_options time (handover_at bs) q)
      ∙ large_same bs (trailer_in bs) q.options.store_length _ (image_counts q.options time bs e)

  right_answered : Kept bs (trailer_in bs) → restore_read time q (some (handover_at bs)) ≡ answered
  right_answered e =
      read_right time q (handover_at bs)
      ∙ ap₂ (λ x y. pick x (refuse q 13) y) early_is
      (ap₂ (λ p l. pick (not (eqb p q.options.default_priority)) (refuse q 14) (pick l (refuse q 15) (reply done [] (restored time (handover_at bs) q)))) priority_same (large_is e)
      ∙ turn (eqb (trailer_in bs).default_priority q.options.default_priority) (amounts_fit bs (trailer_in bs) q.options.store_length) (refuse q 14) (refuse q 15) (reply done [] (restored time (handover_at bs) q)))
    where
      turn : (a b : Bool) (x y z : Step) → pick (not a) x (pick (not b) y z) ≡ pick a (pick b z y) x
      turn true true x y z = refl
      turn true false x y z = refl
      turn false b x y z = refl

  right_kept : image_right bs ≡ true → Kept bs (trailer_in bs)
  unfolding image_right
  right_kept e = kept bs (trailer_in bs) (go (ltb (length bs) 20) (rules_kept false bs (trailer_in bs)) e)
    where
      go : (a b : Bool) → pick a false b ≡ true → b ≡ true
      go true b e = false_true e
      go false b e = e

  pub step_is : restore_read time q (read_image bs) ≡ pick (image_right bs) answered (refuse q 13)
  step_is = ap (restore_read time q) (read_is bs) ∙ go (image_right bs) refl
    where
      go : (b : Bool) → image_right bs ≡ b → restore_read time q (pick b (some (handover_at bs)) none) ≡ pick b answered (refuse q 13)
      go true e = right_answered (right_kept e)
      go false e = read_none time q

-- By the image's code: 0, and the queue is restored; else the code is the refusal.
pub record Linked (strict : Bool) (bs : List ℕ) (d len time : ℕ) (q : Queue) : Type 0 where
  pub read : image_code_words strict bs d len ≡ 0 → read_image bs ≡ some (handover_at bs)
  pub accepted : image_code_words strict bs d len ≡ 0 → restore_read time q (read_image bs) ≡ reply done [] (restored time (handover_at bs) q)
  pub refused : (image_code_words strict bs d len ≡ 0 → ⊥) → restore_read time q (read_image bs) ≡ refuse q (image_code_words strict bs d len)

-- The code and the answer by the four tests, in order: document 01's rules are kept, a MID is early, the priority is the queue's, the amounts fit.
abbrev code_by : Bool → Bool → Bool → Bool → ℕ
code_by a m b f = pick a (pick m 13 (pick b (pick f 0 15) 14)) 13

abbrev answer_by : ℕ → Queue → Handover → Bool → Bool → Bool → Bool → Step
answer_by time q h a m b f = pick a (pick m (refuse q 13) (pick b (pick f (reply done [] (restored time h q)) (refuse q 15)) (refuse q 14))) (refuse q 13)

own_link : (bs : List ℕ) (time : ℕ) (q : Queue) → Linked q.options.strict_restart bs q.options.default_priority q.options.store_length time q
unfolding right_code
own_link bs time q =
    let strict : Bool = q.options.strict_restart in
    let d : ℕ = q.options.default_priority in
    let len : ℕ = q.options.store_length in
    let c : image_code_words strict bs d len ≡ code_by (image_right bs) (early_in strict bs (trailer_in bs)) (eqb (trailer_in bs).default_priority d) (amounts_fit bs (trailer_in bs) len) = code_is strict bs d len in
    record {
      read = λ e. (image_read bs d len).whole strict (λ f. let z : ◌≡◌ {A = ℕ} 0 13 = sym e ∙ f in omega (arith, z));
      accepted = λ e. step_is bs time q ∙ taken (image_right bs) (early_in strict bs (trailer_in bs)) (eqb (trailer_in bs).default_priority d) (amounts_fit bs (trailer_in bs) len) (sym c ∙ e);
      refused = λ n. step_is bs time q ∙ other (image_right bs) (early_in strict bs (trailer_in bs)) (eqb (trailer_in bs).default_priority d) (amounts_fit bs (trailer_in bs) len) (λ e. n (c ∙ e)) ∙ ap (λ k. refuse q k) (sym c);
    }
  where
    taken : (a m b f : Bool) → code_by a m b f ≡ 0 → answer_by time q (handover_at bs) a m b f ≡ reply done [] (restored time (handover_at bs) q)
    taken true true b f e = absurd (omega (arith, e))
    taken true false true true e = refl
    taken true false true false e = absurd (omega (arith, e))
    taken true false false f e = absurd (omega (arith, e))
    taken false m b f e = absurd (omega (arith, e))

    other : (a m b f : Bool) → (code_by a m b f ≡ 0 → ⊥) → answer_by time q (handover_at bs) a m b f ≡ refuse q (code_by a m b f)
    other true true b f n = refl
    other true false true true n = absurd (n refl)
    other true false true false n = refl
    other true false false f n = refl
    other false m b f n = refl

pub code_link : (strict : Bool) (bs : List ℕ) (d len time : ℕ) (q : Queue) → q.options.strict_restart ≡ strict → q.options.default_priority ≡ d → q.options.store_length ≡ len → Linked strict bs d len time q
code_link strict bs d len time q es ed el = subst (λ l. Linked strict bs d l time q) el (subst (λ p. Linked strict bs p q.options.store_length time q) ed (subst (λ b. Linked b bs q.options.default_priority q.options.store_length time q) es (own_link bs time q)))
