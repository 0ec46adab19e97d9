-- Restoring, third: the message of one record, of a known stream or of a new one. Assumes nothing.
use mathlib.Core.Path.{◌≡◌, refl, sym, ap, ◌∙◌, subst}
use mathlib.Core.Bool.{Bool, true, false}
use mathlib.Core.List.{List, []}
use mathlib.Core.Option.{none, some}
use Prim.Native.Nat.{ℕ, ◌+◌, ◌-◌, ◌*◌, ◌≤◌, ◌<◌}
use native.Mathlib.Omega.{arith}
use borrow.Author.Tests.{le-ltb}
use lib.Dec.{T}
use lib.Pow.{are_bytes}
use lib.ListN.{length, take, drop}
use Rattle.queue_words.specs.Header.{options_at, totals_at}
use Rattle.queue_words.specs.Items.{FitsItem, mid_in, ssn_in}
use Rattle.queue_words.specs.Known.{id_at}
use Rattle.queue_words.specs.Streams.{stream_at_words, FitsStream}
use Rattle.queue_words.specs.declared.header.Totals.{Totals}
use Rattle.queue_words.specs.declared.items.Item.{Item}
use Rattle.queue_words.specs.declared.streams.OutgoingStream.{OutgoingStream}
use Rattle.queue_words.proofs.Laws
use Rattle.queue_model.specs.Types.{Stream}
use Rattle.queue_model.specs.Types as plain
use Rattle.queue_model.specs.Streams.{find_stream, new_stream, put_stream, stream_key, with_message, amounts}
use Rattle.queue_model.specs.Reader.{has_flag}
use Rattle.queue_model.specs.Restore.{give, restored_item, restore_message}
use Rattle.queue_model.proofs.Table.{sum_find}
use Rattle.payload_store.specs.Words.{used_of}
use Rattle.stream_scheduler.specs.Link.{model_scheduler}
use Rattle.queue_streams.specs.Known.{new_stream_words, look_up, inserted}
use Rattle.queue_state.specs.Model.{item_of, options_of, pause_of, stream_of, row_at, stream_in, streams_in, expires_of, mid_of}
use Rattle.queue_state.specs.Good.{Shape}
use Rattle.queue_state.proofs.Frames.{stream_is}
use Rattle.queue_state.proofs.Inserts.{Inserted, insert_link}
use Rattle.queue_state.proofs.Looks.{Lookup, known_at_lem, new_at, lookup, look_row, look_new, streams_length}
use Rattle.queue_state.proofs.Twice.{put_twice}
use Rattle.handover_records.specs.Records.{message_at}
use Rattle.handover_records.specs.Positions.{record_at}
use Rattle.handover_records.specs.declared.records.HandoverStreamMessage.{HandoverStreamMessage}
use Rattle.image_rules.proofs.MessageLink.{payload_long, message_id_same}
use Rattle.restoring.specs.Messages.{restored_item_words, unsent_of, Restored, hung, hung_in, hung_with, record_restored, message_restored, restored_numbers, restored_expiry}
use Rattle.linked_restoring.proofs.Widths.{message_fits}
use Rattle.linked_restoring.proofs.Grows.{restore_found, restore_new, new_length}
use Rattle.linked_restoring.proofs.Hangs.{Hangs, hangs_in}

-- ---- the record

expiry_is : (b : Bool) (time left : ℕ) → expires_of (restored_expiry b time left) ≡ give b (time + left * 1000000)
unfolding give
expiry_is true time left = refl
expiry_is false time left = refl

mid_is : (b : Bool) (mid ssn : ℕ) → mid_of (restored_numbers b mid ssn) ≡ give b mid
unfolding give
mid_is true mid ssn = refl
mid_is false mid ssn = refl

-- "Without MID, the SSN [..] 0".
ssn_is : (b : Bool) (mid ssn : ℕ) → (b ≡ false → ssn ≡ 0) → (ssn_in (restored_numbers b mid ssn)).0 ≡ ssn
ssn_is true mid ssn f = refl
ssn_is false mid ssn f = sym (f refl)

ssn_fits_in : (b : Bool) (mid ssn : ℕ) → ssn < 65536 → (ssn_in (restored_numbers b mid ssn)).0 < 65536
ssn_fits_in true mid ssn h = h
ssn_fits_in false mid ssn h = omega arith

mid_fits_in : (b : Bool) (mid ssn : ℕ) → mid < 4294967296 → (mid_in (restored_numbers b mid ssn)).0 < 4294967296
mid_fits_in true mid ssn h = h
mid_fits_in false mid ssn h = omega arith

-- the bytes of its payload
abbrev pub payload_at : List ℕ → ℕ → List ℕ
payload_at bs at = take (message_at bs at).length (drop (at + 44) bs)

item_is : (bs : List ℕ) (at time : ℕ) → (has_flag 2 (message_at bs at).flags ≡ false → (message_at bs at).ssn ≡ 0) → item_of (restored_item_words time (message_at bs at)) (payload_at bs at) ≡ restored_item time (record_at bs at)
unfolding restored_item_words restored_item record_at message_at has_flag
item_is bs at time f =
    let r : HandoverStreamMessage = message_at bs at in
    let x = expiry_is (has_flag 4 r.flags) time r.ms_left in
    let y = mid_is (has_flag 2 r.flags) r.mid r.ssn in
    let z = ssn_is (has_flag 2 r.flags) r.mid r.ssn f in
    rw (x, y, z)

pub record_offset : (bs : List ℕ) (at : ℕ) → (record_at bs at).offset ≡ (message_at bs at).offset
unfolding record_at message_at
record_offset bs at = refl

payload_length : (bs : List ℕ) (at : ℕ) → at + 44 + (message_at bs at).length ≤ length bs → length (payload_at bs at) ≡ (message_at bs at).length
unfolding record_at
payload_length bs at h = payload_long bs at h

item_fits : (bs : List ℕ) (at time : ℕ) → T (are_bytes bs) → at + 44 ≤ length bs → FitsItem (restored_item_words time (message_at bs at))
unfolding restored_item_words
item_fits bs at time b h =
    let f = message_fits bs at b h in
    record {
      ssn_fits = ssn_fits_in (has_flag 2 (message_at bs at).flags) (message_at bs at).mid (message_at bs at).ssn f.1.1.1.1.1.1.0;
      retransmissions_fits = f.1.1.1.1.1.0;
      message_id_fits = f.1.1.1.1.1.1.1.1.1.1.0;
      ppid_fits = f.1.1.1.0;
      mid_fits = mid_fits_in (has_flag 2 (message_at bs at).flags) (message_at bs at).mid (message_at bs at).ssn f.1.1.1.1.1.1.1.0;
      fsn_fits = f.1.1.1.1.1.1.1.1.0;
    }

item_plain : (time : ℕ) (r : HandoverStreamMessage) → ((restored_item_words time r).place ≡ 0) × ((restored_item_words time r).length ≡ 0) × ((restored_item_words time r).next ≡ 1024) × ((restored_item_words time r).offset ≡ r.offset)
unfolding restored_item_words
item_plain time r = (refl, refl, refl, refl)

-- ---- the step

-- What the message of the record at `at` leaves; `next`: where the next record begins.
pub record OneRecord (ws st bs : List ℕ) (at time : ℕ) (us ut : List ℕ) (next : ℕ) : Type 0 where
  pub shape : Shape us ut
  pub store : length ut ≡ length st
  pub options : options_at us ≡ options_at ws
  pub interleaving : (totals_at us).interleaving ≡ (totals_at ws).interleaving
  pub next_id : (totals_at us).next_message_id ≡ (totals_at ws).next_message_id
  pub total : (totals_at us).total ≡ (totals_at ws).total + unsent_of (message_at bs at)
  pub streams : streams_in us ut ≡ restore_message (options_of (options_at ws)) time (record_at bs at) (streams_in ws st)
  pub scheduler : model_scheduler us ≡ model_scheduler ws
  pub place : next ≡ at + 44 + (message_at bs at).length

-- the record is inside the image
opened : (x : Restored) (bs : List ℕ) (time : ℕ) → x.at + 44 + (message_at bs x.at).length ≤ length bs
    → message_restored x bs time ≡ hung_in x.words x.store (message_at bs x.at).id (restored_item_words time (message_at bs x.at)) (payload_at bs x.at) (unsent_of (message_at bs x.at)) (x.at + 44 + (message_at bs x.at).length) (look_up x.words (message_at bs x.at).id)
unfolding message_restored record_restored hung_with
opened x bs time h = rw (le-ltb (length bs) 44 (omega arith), le-ltb (length bs - 44) x.at (omega arith), le-ltb (length bs - 44 - x.at) (message_at bs x.at).length (omega arith))

module _ (ws st : List ℕ) (g : Shape ws st) (bs : List ℕ) (bytes : T (are_bytes bs)) (at time : ℕ) (inside : at + 44 + (message_at bs at).length ≤ length bs) (some_bytes : 1 ≤ (message_at bs at).length) (bare : has_flag 2 (message_at bs at).flags ≡ false → (message_at bs at).ssn ≡ 0)
    (small : length st ≤ 2000000) (counted : (totals_at ws).total ≡ amounts (streams_in ws st)) (below : (totals_at ws).total ≤ used_of ws)
    (few : length (restore_message (options_of (options_at ws)) time (record_at bs at) (streams_in ws st)) ≤ 256)
    (room : used_of ws + (message_at bs at).length ≤ length st) (place_left : (totals_at ws).waiting < 1024) where
  abbrev r : HandoverStreamMessage
  r = message_at bs at

  abbrev id : ℕ
  id = (message_at bs at).id

  abbrev m : Item
  m = restored_item_words time (message_at bs at)

  abbrev payload : List ℕ
  payload = payload_at bs at

  abbrev n : ℕ
  n = unsent_of (message_at bs at)

  abbrev i : plain.Item
  i = restored_item time (record_at bs at)

  abbrev end : ℕ
  end = at + 44 + (message_at bs at).length

  n_small : n ≤ (message_at bs at).length
  unfolding unsent_of
  n_small = omega arith

  unsent : plain.remaining (item_of m payload) ≡ n
  unfolding unsent_of
  unsent = rw (payload_length bs at inside, (item_plain time r).3)

  some_payload : 1 ≤ length payload
  some_payload = rw (payload_length bs at inside) some_bytes

  room_payload : used_of ws + length payload ≤ length st
  room_payload = rw (payload_length bs at inside) room

  -- a known stream, in position j
  module _ (j : ℕ) (hk : j < (totals_at ws).known) (found : find_stream id (streams_in ws st) ≡ some (stream_in ws st j)) where
    amount_row : (stream_in ws st j).amount ≡ (stream_at_words ws (row_at ws j)).buffered_amount
    unfolding stream_in
    amount_row = refl

    amount_fits : (stream_at_words ws (row_at ws j)).buffered_amount + n ≤ 18446744073709551615
    amount_fits = omega (arith, amount_row, sum_find stream_key (λ (s : Stream). s.amount) id (stream_in ws st j) (streams_in ws st) found, counted, below, room, small, n_small)

    hung_known : Hangs ws st j m payload n (hung ws st (row_at ws j) (stream_at_words ws (row_at ws j)) m payload n end).words (hung ws st (row_at ws j) (stream_at_words ws (row_at ws j)) m payload n end).store
        × ((hung ws st (row_at ws j) (stream_at_words ws (row_at ws j)) m payload n end).at ≡ end)
    hung_known =
        let p = item_plain time r in
        hangs_in ws st g j hk m payload n (item_fits bs at time bytes (omega arith)) p.0 p.1 p.2 unsent some_payload room_payload (omega (arith, n_small)) amount_fits place_left end

    one_known : OneRecord ws st bs at time (hung ws st (row_at ws j) (stream_at_words ws (row_at ws j)) m payload n end).words (hung ws st (row_at ws j) (stream_at_words ws (row_at ws j)) m payload n end).store (hung ws st (row_at ws j) (stream_at_words ws (row_at ws j)) m payload n end).at
    one_known =
        let h = hung_known.0 in
        record {
          shape = h.shape;
          store = h.store;
          options = h.options;
          interleaving = h.interleaving;
          next_id = h.next_id;
          total = h.total;
          streams =
              h.streams
              ∙ ap (λ (x : plain.Item). put_stream (with_message (stream_in ws st j) x) (streams_in ws st)) (item_is bs at time bare)
              ∙ sym (restore_found (options_of (options_at ws)) time (record_at bs at) (streams_in ws st) (stream_in ws st j) (rw (message_id_same bs at) found));
          scheduler = h.scheduler;
          place = hung_known.1;
        }

  -- a new stream, that belongs at position p
  module _ (p : ℕ) (hp : p ≤ (totals_at ws).known) (lo : (j : ℕ) → j < p → id_at ws j < id) (hi : (j : ℕ) → p ≤ j → j < (totals_at ws).known → id < id_at ws j)
      (missing : find_stream id (streams_in ws st) ≡ none) where
    abbrev fresh : OutgoingStream
    fresh = new_stream_words (options_at ws)

    abbrev vs : List ℕ
    vs = inserted ws p id (new_stream_words (options_at ws))

    missing_record : find_stream (record_at bs at).id (streams_in ws st) ≡ none
    missing_record = rw (message_id_same bs at) missing

    room_known : (totals_at ws).known < 256
    room_known = omega (arith, few, new_length (options_of (options_at ws)) time (record_at bs at) (streams_in ws st) missing_record, streams_length ws st g)

    fresh_fits : FitsStream fresh
    fresh_fits = record { priority_fits = (Laws.options_at_fits ws).priority_fits; ssn_fits = omega arith; unordered_mid_fits = omega arith; ordered_mid_fits = omega arith }

    ins : Inserted ws st g p id fresh vs
    ins = insert_link ws st g p id fresh hp room_known lo hi (message_fits bs at bytes (omega arith)).0 fresh_fits refl refl

    row_vs : stream_at_words vs (row_at vs p) ≡ fresh
    row_vs = rw ins.row_is ins.stream_is

    in_vs : stream_in vs st p ≡ stream_of id fresh []
    in_vs =
        let h : p < (totals_at vs).known = omega (arith, ap (λ (t : Totals). t.known) ins.totals_is) in
        stream_is vs st ins.shape p h ∙ rw (ins.id_is, row_vs, ins.q_here)

    fresh_is : stream_of id fresh [] ≡ new_stream (options_of (options_at ws)) (record_at bs at).id
    unfolding pause_of
    fresh_is = rw (message_id_same bs at)

    abbrev Hung : ℕ → OutgoingStream → Type 0
    Hung row s = Hangs vs st p m payload n (hung vs st row s m payload n end).words (hung vs st row s m payload n end).store × ((hung vs st row s m payload n end).at ≡ end)

    hung_new : Hung (totals_at ws).known fresh
    hung_new =
        let t : totals_at vs ≡ _ = ins.totals_is in
        let q = item_plain time r in
        let k : p < (totals_at vs).known = omega (arith, ap (λ (x : Totals). x.known) t) in
        let u : used_of vs ≡ used_of ws = ap (λ (x : Totals). x.used) t in
        let c : (totals_at vs).total ≡ (totals_at ws).total = ap (λ (x : Totals). x.total) t in
        let w : (totals_at vs).waiting ≡ (totals_at ws).waiting = ap (λ (x : Totals). x.waiting) t in
        let a : (stream_at_words vs (row_at vs p)).buffered_amount ≡ 0 = ap (λ (x : OutgoingStream). x.buffered_amount) row_vs in
        let h : Hung (row_at vs p) (stream_at_words vs (row_at vs p)) =
        hangs_in vs st ins.shape p k m payload n (item_fits bs at time bytes (omega arith)) q.0 q.1 q.2 unsent some_payload (omega (arith, room_payload)) (omega (arith, n_small)) (omega (arith, n_small)) (omega (arith, w)) end in
        subst (λ row. Hung row fresh) ins.row_is (subst (λ s. Hung (row_at vs p) s) row_vs h)

    one_new_lem : OneRecord ws st bs at time (hung vs st (totals_at ws).known fresh m payload n end).words (hung vs st (totals_at ws).known fresh m payload n end).store (hung vs st (totals_at ws).known fresh m payload n end).at
    one_new_lem =
        let h = hung_new.0 in
        let t : totals_at vs ≡ _ = ins.totals_is in
        let s : Stream = stream_of id fresh [] in
        record {
          shape = h.shape;
          store = h.store;
          options = h.options ∙ ins.options_is;
          interleaving = h.interleaving ∙ ap (λ (x : Totals). x.interleaving) t;
          next_id = h.next_id ∙ ap (λ (x : Totals). x.next_message_id) t;
          total = h.total ∙ ap (λ (x : Totals). x.total + n) t;
          streams =
              h.streams
              ∙ ap (λ (x : plain.Item). put_stream (with_message (stream_in vs st p) x) (streams_in vs st)) (item_is bs at time bare)
              ∙ rw (in_vs, ins.streams) (put_twice stream_key s (with_message s i) (streams_in ws st) refl)
              ∙ ap (λ (x : Stream). put_stream (with_message x i) (streams_in ws st)) fresh_is
              ∙ sym (restore_new (options_of (options_at ws)) time (record_at bs at) (streams_in ws st) missing_record);
          scheduler = h.scheduler ∙ ins.scheduler_is;
          place = hung_new.1;
        }

  one_placed : Lookup ws st id → OneRecord ws st bs at time (hung_in ws st id m payload n end (look_up ws id)).words (hung_in ws st id m payload n end (look_up ws id)).store (hung_in ws st id m payload n end (look_up ws id)).at
  one_placed (known_at_lem j h e f s) = rw (look_row ws id j (row_at ws j) f) (one_known j h s)
  one_placed (new_at p h lo hi f s) = rw (look_new ws id p f (room_known p h lo hi s)) (one_new_lem p h lo hi s)

  pub one_record : (x : Restored) → x.words ≡ ws → x.store ≡ st → x.at ≡ at → OneRecord ws st bs at time (message_restored x bs time).words (message_restored x bs time).store (message_restored x bs time).at
  one_record x ew es ea =
      let e : message_restored x bs time ≡ hung_in ws st id m payload n end (look_up ws id) = opened x bs time (rw ea inside) ∙ rw (ew, es, ea) in
      rw e (one_placed (lookup ws st g id))
