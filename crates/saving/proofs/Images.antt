-- The whole image written: what its parts ask for, and what stands in the buffer then. Assumes nothing.
use mathlib.Core.Path.{◌≡◌, sym, ap, ◌∙◌, subst⁻¹}
use mathlib.Core.Bool.{Bool, true}
use mathlib.Core.List.{List, ◌++◌}
use Prim.Native.Nat.{ℕ, ◌+◌, ◌*◌, ◌≤◌, ◌<◌}
use native.Mathlib.Omega.{arith}
use borrow.Author.Tests.{eq-eqb, lt-ltb, le-ltb}
use lib.Dec.{ltb}
use lib.ListN.{length, length-append}
use Rattle.queue_model.specs.Bytes.{row_bytes}
use Rattle.queue_model.specs.Image.{trailer_widths}
use Rattle.queue_words.specs.Flags.{pick}
use Rattle.queue_words.specs.Header.{options_at, totals_at}
use Rattle.queue_words.specs.declared.header.Options.{Options}
use Rattle.queue_words.specs.declared.header.Totals.{Totals}
use Rattle.queue_state.specs.Model.{row_at}
use Rattle.big_endian.specs.Numbers.{wrote}
use Rattle.handover_records.specs.Records.{trailer_row}
use Rattle.handover_records.specs.declared.records.Trailer.{Trailer}
use Rattle.big_endian.proofs.Halves.{wrote_length}
use Rattle.saving.specs.declared.measuring.Counts.{Counts}
use Rattle.saving.specs.declared.measuring.Tally.{Tally}
use Rattle.saving.specs.Measure.{counts_of, tally_queue, Small, Few}
use Rattle.saving.specs.Sound.{StreamOk}
use Rattle.saving.specs.Bytes.{streams_from, messages_from, trailer_bytes, image_bytes_words, counts_size, image_size}
use Rattle.saving.specs.Saved.{Image, Refused}
use Rattle.saving.specs.Save.{saved_as, save_with, save_image}
use Rattle.saving.proofs.Lengths.{trailer_long}
use Rattle.saving.proofs.Passing.{small_queue, queue_streams}
use Rattle.saving.proofs.Passed.{Passed, passed}
use Rattle.saving.proofs.Rests.{Rest, rest_start, rest_step}

-- the trailer's numbers, from the header and what is counted
abbrev pub trailer_from : Totals → Options → Counts → Trailer
trailer_from h o n = record {
  next_message_id = h.next_message_id.0;
  default_priority = o.default_priority;
  streams = n.streams;
  messages = n.messages;
  form = 1;
  messages_size = n.bytes;
  streams_size = n.streams * 14;
}

-- what the pass counts is little
pub few_counted : (ws : List ℕ) (len : ℕ) (n : Counts) → n ≡ counts_of (tally_queue ws len) → Few n
few_counted ws len n e = subst⁻¹ (λ (m : Counts). Few m) e (from (small_queue ws len))
  where
    from : Small (tally_queue ws len) → Few (counts_of (tally_queue ws len))
    from s = record { streams_few = queue_streams ws len; messages_few = s.few; bytes_few = omega (arith, s.few, s.light) }

-- of a tally's own fields
pub few_tallied : (ws : List ℕ) (len : ℕ) (t : Tally) → t ≡ tally_queue ws len → Few (counts_of t)
few_tallied ws len t e = few_counted ws len (counts_of t) (ap counts_of e)

module _ (ws st b : List ℕ) (time : ℕ) (n : Counts) (h : Totals) (ok : (tally_queue ws (length st)).ok ≡ true) (en : n ≡ counts_of (tally_queue ws (length st))) (room : counts_size n ≤ length b) (eh : h ≡ totals_at ws) where
  abbrev t : Tally
  t = tally_queue ws (length st)

  facts : Passed ws st time t
  facts = passed ws st time ok

  known_is : h.known ≡ (totals_at ws).known
  known_is = ap (λ (z : Totals). z.known) eh

  abbrev parts : List ℕ
  parts = streams_from ws 0 h.known ++ (messages_from ws st time 0 h.known ++ trailer_bytes ws t)

  streams_long : length (streams_from ws 0 h.known) ≡ n.streams * 14
  streams_long = rw known_is (sym (ap (λ (m : Counts). m.streams * 14) en ∙ facts.streams_is))

  messages_long : length (messages_from ws st time 0 h.known) ≡ n.bytes
  messages_long = rw known_is (sym (ap (λ (m : Counts). m.bytes) en ∙ facts.bytes_is))

  parts_long : length parts ≡ n.streams * 14 + (n.bytes + 20)
  parts_long =
      length-append (streams_from ws 0 h.known) (messages_from ws st time 0 h.known ++ trailer_bytes ws t)
      ∙ rw (length-append (messages_from ws st time 0 h.known) (trailer_bytes ws t), streams_long, messages_long, trailer_long ws t)

  parts_are : parts ≡ image_bytes_words ws st time t
  unfolding image_bytes_words
  parts_are = rw known_is

  trailer_is : (o : Options) → o ≡ options_at ws → row_bytes trailer_widths (trailer_row (trailer_from h o n)) ≡ trailer_bytes ws t
  unfolding trailer_bytes
  trailer_is o eo =
      ap (λ (z : Totals). row_bytes trailer_widths (trailer_row (trailer_from z o n))) eh
      ∙ ap (λ (z : Options). row_bytes trailer_widths (trailer_row (trailer_from (totals_at ws) z n))) eo
      ∙ ap (λ (z : Counts). row_bytes trailer_widths (trailer_row (trailer_from (totals_at ws) (options_at ws) z))) en

  pub streams_pre : (h.known ≤ 256) × ((i : ℕ) → i < h.known → row_at ws i < 256) × (0 + length (streams_from ws 0 h.known) ≤ length b)
  streams_pre = (
    rw known_is facts.sound.known_in,
    λ i l. (facts.sound.streams i (omega (arith, l, known_is))).row_in,
    omega (arith, streams_long, room),
  )

  module _ (b1 : List ℕ) (at : ℕ) (e1 : b1 ≡ wrote b 0 (streams_from ws 0 h.known)) (ea : at ≡ 0 + length (streams_from ws 0 h.known)) where
    same : length b1 ≡ length b
    same = ap length e1 ∙ wrote_length b 0 (streams_from ws 0 h.known) (omega (arith, streams_long, room))

    pub messages_pre : (h.known ≤ 256) × ((i : ℕ) → i < h.known → StreamOk ws (length st) i) × (at + length (messages_from ws st time 0 h.known) ≤ length b1)
    messages_pre = (
      rw known_is facts.sound.known_in,
      λ i l. facts.sound.streams i (omega (arith, l, known_is)),
      omega (arith, streams_long, messages_long, room, same, ea),
    )

    pub trailer_pre : (b2 : List ℕ) (at2 : ℕ) → b2 ≡ wrote b1 at (messages_from ws st time 0 h.known) → at2 ≡ at + length (messages_from ws st time 0 h.known) → at2 + 20 ≤ length b2
    trailer_pre b2 at2 e2 e =
        let s : length b2 ≡ length b1 = ap length e2 ∙ wrote_length b1 at (messages_from ws st time 0 h.known) (omega (arith, streams_long, messages_long, room, same, ea)) in
        omega (arith, streams_long, messages_long, room, same, ea, s, e)

    pub image_put : (o : Options) (b2 b3 : List ℕ) (at2 : ℕ) → o ≡ options_at ws → b2 ≡ wrote b1 at (messages_from ws st time 0 h.known)
        → at2 ≡ at + length (messages_from ws st time 0 h.known) → b3 ≡ wrote b2 at2 (row_bytes trailer_widths (trailer_row (trailer_from h o n))) → b3 ≡ wrote b 0 (image_bytes_words ws st time t)
    image_put o b2 b3 at2 eo e2 e3 e4 =
        let r0 : Rest b 0 parts b 0 parts = rest_start b 0 parts (omega (arith, parts_long, room)) in
        let r1 : Rest b 0 parts b1 at (messages_from ws st time 0 h.known ++ trailer_bytes ws t) =
        rest_step b 0 parts b 0 (streams_from ws 0 h.known) (messages_from ws st time 0 h.known ++ trailer_bytes ws t) b1 at r0 e1 ea in
        let r2 : Rest b 0 parts b2 at2 (trailer_bytes ws t) = rest_step b 0 parts b1 at (messages_from ws st time 0 h.known) (trailer_bytes ws t) b2 at2 r1 e2 e3 in
        e4 ∙ ap (λ (x : List ℕ). wrote b2 at2 x) (trailer_is o eo) ∙ r2.is ∙ ap (λ (x : List ℕ). wrote b 0 x) parts_are

pub pick_yes : {A : Type 0} (b : Bool) (x y : A) → b ≡ true → pick b x y ≡ x
pick_yes b x y e = rw e

-- ------------------------------------------------------------------ the call's returns, with the queue's own store

module _ (ws st b : List ℕ) (time : ℕ) (es : length st ≡ (options_at ws).store_length) where
  pub save_late : 4611686018427387903 < time → saved_as (Refused 4) b ≡ save_image ws st b time
  unfolding save_image
  save_late h = rw (eq-eqb (length st) (options_at ws).store_length es, lt-ltb 4611686018427387903 time h)

  -- a time that is accepted, words that pass, and what is counted of them
  module _ (ht : time ≤ 4611686018427387903) (ok : (tally_queue ws (length st)).ok ≡ true) (n : Counts) (en : n ≡ counts_of (tally_queue ws (length st))) (size : ℕ) (ez : size ≡ counts_size n) where
    size_is : size ≡ image_size (tally_queue ws (length st))
    size_is = ez ∙ ap counts_size en

    passed_on : save_image ws st b time ≡ pick (ltb (length b) size) (saved_as (Refused 11) b) (saved_as (Image size) (wrote b 0 (image_bytes_words ws st time (tally_queue ws (length st)))))
    unfolding save_image
    passed_on = rw (eq-eqb (length st) (options_at ws).store_length es, le-ltb 4611686018427387903 time ht) (with_counts (tally_queue ws (length st)) ok size_is)
      where
        with_counts : (t : Tally) → t.ok ≡ true → size ≡ image_size t
            → save_with ws st b time t ≡ pick (ltb (length b) size) (saved_as (Refused 11) b) (saved_as (Image size) (wrote b 0 (image_bytes_words ws st time t)))
        with_counts t k e = rw e (pick_yes t.ok (pick (ltb (length b) (image_size t)) (saved_as (Refused 11) b) (saved_as (Image (image_size t)) (wrote b 0 (image_bytes_words ws st time t)))) (saved_as (Refused 16) b) k)

    pub save_short : length b < size → saved_as (Refused 11) b ≡ save_image ws st b time
    save_short h = rw (passed_on, lt-ltb (length b) size h)

    pub save_whole : (b1 : List ℕ) → size ≤ length b → b1 ≡ wrote b 0 (image_bytes_words ws st time (tally_queue ws (length st))) → saved_as (Image size) b1 ≡ save_image ws st b time
    save_whole b1 h e = rw (passed_on, le-ltb (length b) size h, e)
