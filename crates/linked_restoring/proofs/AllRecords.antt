-- Restoring, third: the messages of all records, in their order. Assumes nothing.
use mathlib.Core.Path.{◌≡◌, refl, sym, ap, ◌∙◌, subst}
use mathlib.Core.Bool.{false}
use mathlib.Core.List.{List}
use Prim.Native.Nat.{ℕ, zero, suc, ◌+◌, ◌-◌, ◌≤◌, ◌<◌}
use native.Mathlib.Omega.{arith}
use lib.Dec.{T}
use lib.Pow.{are_bytes}
use lib.ListN.{length}
use Rattle.queue_words.specs.Header.{options_at, totals_at}
use Rattle.queue_model.specs.Types.{Stream}
use Rattle.queue_model.specs.Types as plain
use Rattle.queue_model.specs.Streams.{stream_key, waiting, occupied, amounts}
use Rattle.queue_model.specs.Image.{MessageRecord}
use Rattle.queue_model.specs.Restore.{restore_message, restore_messages}
use Rattle.queue_model.proofs.Table.{Rising}
use Rattle.queue_model.proofs.Demand3.Restored.{restore_messages_nil}
use Rattle.payload_store.specs.Words.{used_of}
use Rattle.stream_scheduler.specs.Link.{model_scheduler}
use Rattle.queue_state.specs.Model.{options_of, streams_in, tab}
use Rattle.queue_state.specs.Good.{Shape}
use Rattle.queue_state.proofs.Rooms.{streams_rise}
use Rattle.queue_state.proofs.Sums.{waiting_is, occupied_is}
use Rattle.handover_records.specs.Records.{message_at}
use Rattle.handover_records.specs.Positions.{message_place, record_at, messages_from}
use Rattle.image_rules.proofs.MessageLink.{payload_long}
use Rattle.image_rules.proofs.RestoreLink.{more_rising, more_waiting, more_occupied}
use Rattle.queue_model.specs.Reader.{has_flag}
use Rattle.restoring.specs.Messages.{unsent_of, Restored, restored, message_restored, messages_restored}
use Rattle.linked_restoring.proofs.Grows.{grows_amounts, grows_length, restore_snoc, tab_snoc}
use Rattle.linked_restoring.proofs.OneRecord.{OneRecord, one_record, record_offset}

-- Message record k, the first one's place being `start`, lies inside the image and has a payload; without MID its SSN is 0.
pub record Within (bs : List ℕ) (start k : ℕ) : Type 0 where
  pub inside : message_place bs start k + 44 + (message_at bs (message_place bs start k)).length ≤ length bs
  pub some_bytes : 1 ≤ (message_at bs (message_place bs start k)).length
  pub bare : has_flag 2 (message_at bs (message_place bs start k)).flags ≡ false → (message_at bs (message_place bs start k)).ssn ≡ 0

-- Streams that a queue with a store of this length can have.
pub record Limits (ss : List Stream) (len : ℕ) : Type 0 where
  pub streams_few : length ss ≤ 256
  pub messages_few : waiting ss ≤ 1024
  pub store_fits : occupied ss ≤ len

-- The streams with the messages of the first n records.
unfoldable pub restored_to : plain.Options → ℕ → List ℕ → ℕ → List Stream → ℕ → List Stream
restored_to o time bs start ss n = restore_messages o time (messages_from bs start n) ss

pub restored_none : (o : plain.Options) (time : ℕ) (bs : List ℕ) (start : ℕ) (ss : List Stream) → restored_to o time bs start ss 0 ≡ ss
unfolding restored_to messages_from tab
restored_none o time bs start ss = restore_messages_nil o time ss

pub restored_more : (o : plain.Options) (time : ℕ) (bs : List ℕ) (start : ℕ) (ss : List Stream) (n : ℕ)
    → restored_to o time bs start ss (suc n) ≡ restore_message o time (record_at bs (message_place bs start n)) (restored_to o time bs start ss n)
unfolding restored_to messages_from
restored_more o time bs start ss n =
    let f : ℕ → MessageRecord = λ k. record_at bs (message_place bs start k) in
    ap (λ (rs : List MessageRecord). restore_messages o time rs ss) (tab_snoc f n) ∙ restore_snoc o time (tab f n) (f n) ss

-- They rise, and before a message there were no more.
module _ (o : plain.Options) (time : ℕ) (bs : List ℕ) (start : ℕ) (ss : List Stream) (rises : Rising stream_key ss) where
  pub restored_rises : (n : ℕ) → Rising stream_key (restored_to o time bs start ss n)
  restored_rises zero = subst (Rising stream_key) (sym (restored_none o time bs start ss)) rises
  restored_rises (suc n) =
      subst (Rising stream_key) (sym (restored_more o time bs start ss n)) (more_rising o time (record_at bs (message_place bs start n)) (restored_to o time bs start ss n) (restored_rises n))

  pub less_before : (n len : ℕ) → Limits (restore_message o time (record_at bs (message_place bs start n)) (restored_to o time bs start ss n)) len → Limits (restored_to o time bs start ss n) len
  less_before n len l =
      let r : MessageRecord = record_at bs (message_place bs start n) in
      let s : List Stream = restored_to o time bs start ss n in
      record {
        streams_few = omega (arith, l.streams_few, grows_length o time r s (restored_rises n));
        messages_few = omega (arith, l.messages_few, more_waiting o time r s (restored_rises n));
        store_fits = omega (arith, l.store_fits, more_occupied o time r s (restored_rises n));
      }

-- What the first n records leave.
pub record AllRecords (ws st bs : List ℕ) (start time n : ℕ) (x : Restored) : Type 0 where
  pub shape : Shape x.words x.store
  pub store : length x.store ≡ length st
  pub options : options_at x.words ≡ options_at ws
  pub interleaving : (totals_at x.words).interleaving ≡ (totals_at ws).interleaving
  pub next_id : (totals_at x.words).next_message_id ≡ (totals_at ws).next_message_id
  pub counted : (totals_at x.words).total ≡ amounts (streams_in x.words x.store)
  pub below : (totals_at x.words).total ≤ used_of x.words
  pub streams : streams_in x.words x.store ≡ restored_to (options_of (options_at ws)) time bs start (streams_in ws st) n
  pub scheduler : model_scheduler x.words ≡ model_scheduler ws
  pub place : x.at ≡ message_place bs start n

place_suc : (bs : List ℕ) (start n : ℕ) → message_place bs start (suc n) ≡ message_place bs start n + 44 + (message_at bs (message_place bs start n)).length
unfolding message_place
place_suc bs start n = refl

unsent_is : (bs : List ℕ) (at : ℕ) → at + 44 + (message_at bs at).length ≤ length bs → length (record_at bs at).payload - (record_at bs at).offset ≡ unsent_of (message_at bs at)
unfolding unsent_of
unsent_is bs at h = rw (payload_long bs at h, record_offset bs at)

unsent_le : (bs : List ℕ) (at : ℕ) → unsent_of (message_at bs at) ≤ (message_at bs at).length
unfolding unsent_of
unsent_le bs at = omega arith

module _ (ws st : List ℕ) (bs : List ℕ) (bytes : T (are_bytes bs)) (start time : ℕ) (small : length st ≤ 2000000) (g : Shape ws st) where
  abbrev o : plain.Options
  o = options_of (options_at ws)

  abbrev S : ℕ → List Stream
  S n = restored_to (options_of (options_at ws)) time bs start (streams_in ws st) n

  module _ (n : ℕ) (x : Restored) (a : AllRecords ws st bs start time n x) where
    abbrev r : MessageRecord
    r = record_at bs (message_place bs start n)

    abbrev at : ℕ
    at = message_place bs start n

    rising : Rising stream_key (S n)
    rising = restored_rises o time bs start (streams_in ws st) (streams_rise ws st g) n

    module _ (w : Within bs start n) (l : Limits (restore_message o time r (S n)) (length st)) where
      used_is : used_of x.words ≡ occupied (S n)
      used_is = sym (occupied_is x.words x.store a.shape) ∙ ap occupied a.streams

      waits_is : (totals_at x.words).waiting ≡ waiting (S n)
      waits_is = sym (waiting_is x.words x.store a.shape) ∙ ap waiting a.streams

      one : OneRecord x.words x.store bs at time (message_restored x bs time).words (message_restored x bs time).store (message_restored x bs time).at
      one =
          one_record x.words x.store a.shape bs bytes at time w.inside w.some_bytes w.bare (omega (arith, a.store)) a.counted a.below
          (rw (a.options, a.streams) l.streams_few)
          (omega (arith, used_is, a.store, l.store_fits, more_occupied o time r (S n) rising, payload_long bs at w.inside))
          (omega (arith, waits_is, l.messages_few, more_waiting o time r (S n) rising))
          x refl refl a.place

      streams_after : streams_in (message_restored x bs time).words (message_restored x bs time).store ≡ restore_message o time r (S n)
      streams_after = one.streams ∙ rw (a.options, a.streams)

      total_after : (totals_at (message_restored x bs time).words).total ≡ amounts (S n) + unsent_of (message_at bs at)
      total_after = one.total ∙ ap (λ (k : ℕ). k + unsent_of (message_at bs at)) (a.counted ∙ ap amounts a.streams)

      used_after : used_of (message_restored x bs time).words ≡ occupied (S n) + (message_at bs at).length
      used_after =
          sym (occupied_is (message_restored x bs time).words (message_restored x bs time).store one.shape)
          ∙ ap occupied streams_after
          ∙ more_occupied o time r (S n) rising
          ∙ ap (λ (k : ℕ). occupied (S n) + k) (payload_long bs at w.inside)

      one_more : AllRecords ws st bs start time (suc n) (message_restored x bs time)
      one_more = record {
        shape = one.shape;
        store = one.store ∙ a.store;
        options = one.options ∙ a.options;
        interleaving = one.interleaving ∙ a.interleaving;
        next_id = one.next_id ∙ a.next_id;
        counted = total_after ∙ ap (λ (k : ℕ). amounts (S n) + k) (sym (unsent_is bs at w.inside)) ∙ sym (grows_amounts o time r (S n) rising) ∙ ap amounts (sym streams_after);
        below = omega (arith, total_after, used_after, unsent_le bs at, a.below, used_is, a.counted, ap amounts a.streams);
        streams = streams_after ∙ sym (restored_more o time bs start (streams_in ws st) n);
        scheduler = one.scheduler ∙ a.scheduler;
        place = one.place ∙ sym (place_suc bs start n);
      }

  module _ (counted : (totals_at ws).total ≡ amounts (streams_in ws st)) (below : (totals_at ws).total ≤ used_of ws) where
    none_yet : AllRecords ws st bs start time 0 (restored ws st start)
    unfolding message_place
    none_yet = record {
      shape = g;
      store = refl;
      options = refl;
      interleaving = refl;
      next_id = refl;
      counted = counted;
      below = below;
      streams = sym (restored_none o time bs start (streams_in ws st));
      scheduler = refl;
      place = refl;
    }

    pub all_records : (n : ℕ) → ((k : ℕ) → k < n → Within bs start k) → Limits (S n) (length st) → AllRecords ws st bs start time n (messages_restored ws st start bs time n)
    unfolding messages_restored
    all_records zero w l = none_yet
    all_records (suc n) w l =
        let e : S (suc n) ≡ restore_message o time (record_at bs (message_place bs start n)) (S n) = restored_more o time bs start (streams_in ws st) n in
        let k : Limits (restore_message o time (record_at bs (message_place bs start n)) (S n)) (length st) = subst (λ (ss : List Stream). Limits ss (length st)) e l in
        one_more n (messages_restored ws st start bs time n)
        (all_records n (λ j h. w j (omega arith)) (less_before o time bs start (streams_in ws st) (streams_rise ws st g) n (length st) k)) (w n (omega arith)) k
