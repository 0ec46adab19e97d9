-- An image that is accepted has what restoring its parts needs. Assumes nothing.
use mathlib.Core.Path.{◌≡◌, sym, ap, ◌∙◌}
use mathlib.Core.Bool.{Bool, true, false}
use mathlib.Core.List.{List}
use Prim.Native.Nat.{ℕ, ◌+◌, ◌*◌, ◌-◌, ◌/◌, ◌%◌, ◌≤◌}
use native.Mathlib.Omega.{arith}
use lib.Dec.{T, eqb}
use lib.Pow.{are_bytes}
use lib.ListN.{length}
use borrow.Author.Tests.{eqb-true}
use Rattle.queue_model.specs.Reader.{has_flag}
use Rattle.queue_words.specs.Flags.{pick}
use Rattle.payload_store.proofs.Cases.{pick_both, false_true}
use Rattle.queue_model.specs.Types.{Queue}
use Rattle.queue_model.specs.Restore.{restored}
use Rattle.queue_state.specs.Model.{tab}
use Rattle.queue_state.proofs.Tabs.{tab_same}
use Rattle.handover_records.specs.Records.{stream_at_words}
use Rattle.handover_records.specs.Positions.{stream_record_at, streams_from}
use Rattle.handover_records.specs.declared.records.HandoverStreamMessage.{HandoverStreamMessage}
use Rattle.handover_records.specs.declared.records.Trailer.{Trailer}
use Rattle.image_rules.specs.Trailers.{trailer_in}
use Rattle.image_rules.specs.Messages.{mid_right}
use Rattle.image_rules.specs.Code.{image_code_words}
use Rattle.image_rules.proofs.ReadLink.{handover_at, Read, handover_read}
use Rattle.image_rules.proofs.CodeLink.{image_counts}
use Rattle.image_rules.proofs.AcceptedFacts.{Accepted, accepted_facts}
use Rattle.linked_restoring.proofs.Widths.{trailer_fits}
use Rattle.linked_restoring.proofs.Behind.{IdsRise}
use Rattle.linked_restoring.proofs.AllRecords.{Limits}
use Rattle.linked_restoring.proofs.Parts.{Holds}

-- "Without MID, the SSN [..] 0".
pick_last : (b x y : Bool) → pick b x y ≡ true → b ≡ false → y ≡ true
pick_last true x y e f = false_true (sym f)
pick_last false x y e f = e

bare_ssn : (m : HandoverStreamMessage) (head : Bool) → mid_right m head ≡ true → has_flag 2 m.flags ≡ false → m.ssn ≡ 0
unfolding mid_right has_flag
bare_ssn m head e f =
    let a = pick_last (eqb (m.flags / 2 % 2) 1) head _ e f in
    let b = pick_both (eqb m.mid 0) _ a in
    let c = pick_both (eqb m.ssn 0) _ b.1 in
    eqb-true m.ssn 0 c.0

module _ (strict : Bool) (bs : List ℕ) (bytes : T (are_bytes bs)) (d len : ℕ) (fine : image_code_words strict bs d len ≡ 0) where
  a : Accepted strict bs (trailer_in bs) d len
  a = accepted_facts strict bs d len fine

  abbrev t : Trailer
  t = trailer_in bs

  streams_same : tab (λ k. stream_record_at bs (14 * k)) t.streams ≡ streams_from bs 0 t.streams
  unfolding streams_from
  streams_same = tab_same t.streams (λ k. stream_record_at bs (0 + k * 14)) (λ k. stream_record_at bs (14 * k)) (λ j h. let e : 14 * j ≡ 0 + j * 14 = omega arith in ap (stream_record_at bs) e)

  rise : IdsRise bs t.streams
  rise i j h l =
      let x : 14 * i ≡ i * 14 = omega arith in
      let y : 14 * j ≡ j * 14 = omega arith in
      omega (arith, a.ids_rise i j h l, ap (λ (p : ℕ). (stream_at_words bs p).id) x, ap (λ (p : ℕ). (stream_at_words bs p).id) y)

  pub accepted_holds : Holds bs t.streams t.streams_size t.messages t.next_message_id (handover_at bs)
  accepted_holds =
      let r : Read bs (handover_at bs) = handover_read bs in
      let k = a.rules.trailer in
      record {
        next_is = r.next_is;
        next_fits = (trailer_fits bs (length bs - 20) bytes (omega (arith, a.long))).0;
        streams_are = r.streams_are ∙ streams_same;
        messages_are = r.messages_are;
        streams_few = a.amounts.streams_few;
        streams_inside = omega (arith, k.fills, k.whole);
        ids_rise = rise;
        within = λ k l. record { inside = omega (arith, a.message_inside k l); some_bytes = (a.message_at_lem k l).facts.length_some; bare = bare_ssn _ _ (a.message_at_lem k l).facts.mid_right_lem };
      }

  pub accepted_long : 20 ≤ length bs
  accepted_long = a.long

  -- What it restores keeps the limits.
  pub accepted_limits : (time : ℕ) (q : Queue) → Limits (restored time (handover_at bs) q).streams len
  unfolding restored
  accepted_limits time q =
      let c = image_counts q.options time bs a.rules in
      record {
        streams_few = omega (arith, c.streams, a.amounts.all_streams_few);
        messages_few = omega (arith, c.messages, a.amounts.messages_few);
        store_fits = omega (arith, c.bytes, a.amounts.bytes_fit);
      }
