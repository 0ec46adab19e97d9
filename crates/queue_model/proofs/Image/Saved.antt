-- A well-formed queue's image is read back as its handover record: saving keeps every rule. Assumes nothing.
use mathlib.Core.Path.{◌≡◌, refl, sym, ap, ◌∙◌, subst}
use mathlib.Core.Bool.{Bool, true, false, not, ◌&&◌}
use mathlib.Core.List.{List, [], ◌∷◌, ◌++◌, map}
use mathlib.Core.Option.{Option, none, some, get_or}
use Prim.Native.Nat.{ℕ, ◌+◌, ◌*◌, ◌^◌, ◌≤◌, ◌<◌}
use native.Mathlib.Omega.{arith}
use lib.Dec.{T, ltb, leb, eqb, le→leb, lt→ltb}
use lib.ListN.{length, length-append}
use Rattle.std.specs.Prelude.{if◌then◌else◌}
use Rattle.queue_model.specs.Logic.{all_true, implies, is_some}
use Rattle.queue_model.specs.Types.{Item, Stream, Queue}
use Rattle.queue_model.specs.Streams.{waiting, payload_bytes, occupied, stream_key}
use Rattle.queue_model.specs.Refusals.{max_payload}
use Rattle.queue_model.specs.Bytes.{Fits, row_bytes, width}
use Rattle.queue_model.specs.Image.{StreamRecord, MessageRecord, StreamsFit, MessagesFit, HandoverFits, message_widths, message_row, trailer_row, message_bytes, messages_bytes, plain, stream_record, stream_records, bit, ms_left_at, message_record, message_records, handover, write_image}
use Rattle.queue_model.specs.Reader.{read_image, has_flag, message_right, messages_right_after, messages_right, streams_right, handover_right}
use Rattle.queue_model.proofs.Table.{After, Rising}
use Rattle.queue_model.proofs.Image.ByteRows.{and_intro, length_row_bytes}
use Rattle.queue_model.proofs.Image.ReadWrite.{read_image_bytes, length_streams_bytes, messages_bytes_cons, message_bytes_of, messages_bytes_nil}
use Rattle.queue_model.proofs.Invariant.Messages.{WellItem, WellRest, WellItems, WellStream, AllWell, WellQueue}
use Rattle.queue_model.proofs.Demand3.Restored.{message_records_cons, message_records_nil, Each}

-- ---- the flags

unfoldable pub flags : Bool → Bool → Bool → ℕ
flags u g l = bit u 1 + bit g 2 + bit l 4

-- What is read from the sum is what went into it.
pub record FlagsRead (u g l : Bool) : Type 0 where
  pub reads_unordered : has_flag 1 (flags u g l) ≡ u
  pub reads_mid : has_flag 2 (flags u g l) ≡ g
  pub reads_lifetime : has_flag 4 (flags u g l) ≡ l
  pub small : flags u g l ≤ 7

pub flags_read : (u g l : Bool) → FlagsRead u g l
unfolding flags bit has_flag
flags_read true true true = record { reads_unordered = refl; reads_mid = refl; reads_lifetime = refl; small = omega arith }
flags_read true true false = record { reads_unordered = refl; reads_mid = refl; reads_lifetime = refl; small = omega arith }
flags_read true false true = record { reads_unordered = refl; reads_mid = refl; reads_lifetime = refl; small = omega arith }
flags_read true false false = record { reads_unordered = refl; reads_mid = refl; reads_lifetime = refl; small = omega arith }
flags_read false true true = record { reads_unordered = refl; reads_mid = refl; reads_lifetime = refl; small = omega arith }
flags_read false true false = record { reads_unordered = refl; reads_mid = refl; reads_lifetime = refl; small = omega arith }
flags_read false false true = record { reads_unordered = refl; reads_mid = refl; reads_lifetime = refl; small = omega arith }
flags_read false false false = record { reads_unordered = refl; reads_mid = refl; reads_lifetime = refl; small = omega arith }

-- ---- one message

all_of : (bs : List Bool) → Each bs → T (all_true bs)
all_of [] e = tt
all_of (b ∷ bs) e = and_intro b (all_true bs) e.0 (all_of bs e.1)

implies_of : (a b : Bool) → (a ≡ true → T b) → T (implies a b)
unfolding implies
implies_of true b h = h refl
implies_of false b h = tt

zero_test : (n : ℕ) → n ≡ 0 → T (eqb n 0)
zero_test n e = subst (λ (x : ℕ). T (eqb x 0)) (sym e) tt

not_given : (m : Option ℕ) → not (is_some m) ≡ true → m ≡ none
unfolding is_some
not_given none e = refl
not_given (some n) e = let z : ◌≡◌ {A = ℕ} 0 1 = cc in absurd (omega arith)

ms_small : (now : ℕ) (t : Option ℕ) → ms_left_at now t ≤ 2147483647
unfolding ms_left_at
ms_small now none = omega arith
ms_small now (some t) = omega arith

ms_none : (now : ℕ) (t : Option ℕ) → t ≡ none → ms_left_at now t ≡ 0
unfolding ms_left_at
ms_none now t e = ap (ms_left_at now) e

four_tests : (a b c d : ℕ) → a ≡ 0 → b ≡ 0 → c ≡ 0 → d ≡ 0 → T (eqb a 0 && eqb b 0 && eqb c 0 && eqb d 0)
four_tests a b c d e f g h =
    and_intro (eqb a 0 && eqb b 0 && eqb c 0) (eqb d 0) (and_intro (eqb a 0 && eqb b 0) (eqb c 0) (and_intro (eqb a 0) (eqb b 0) (zero_test a e) (zero_test b f)) (zero_test c g)) (zero_test d h)

message_keeps : (head : Bool) (now k : ℕ) (i : Item) → WellItem i → (is_some i.mid ≡ true → T head) → T (message_right head (message_record now k i))
unfolding message_right message_record flags
message_keeps head now k i w h =
    let u : Bool = i.unordered in let g : Bool = is_some i.mid in let l : Bool = is_some i.expires_at in
    let f : ℕ = flags u g l in
    let z = w.unsent in
    all_of (leb f 7 ∷ eqb 0 0 ∷ leb (ms_left_at now i.expires_at) 2147483647 ∷ leb 1 (length i.payload) ∷ leb (length i.payload) max_payload ∷ ltb i.offset (length i.payload)
    ∷ implies (not (has_flag 4 f)) (eqb (ms_left_at now i.expires_at) 0)
    ∷ implies (not (has_flag 2 f)) (eqb (get_or i.mid 0) 0 && eqb i.ssn 0 && eqb i.offset 0 && eqb i.fsn 0)
    ∷ implies (has_flag 1 f) (eqb i.ssn 0) ∷ implies (has_flag 2 f) head ∷ []) (
      le→leb f 7 (flags_read u g l).small,
      (
        tt,
        (
          le→leb (ms_left_at now i.expires_at) 2147483647 (ms_small now i.expires_at),
          (
            le→leb 1 (length i.payload) (omega arith),
            (
              le→leb (length i.payload) max_payload w.small,
              (
                lt→ltb i.offset (length i.payload) w.unsent,
                (
                  implies_of (not (has_flag 4 f)) (eqb (ms_left_at now i.expires_at) 0) (λ e. zero_test (ms_left_at now i.expires_at) (ms_none now i.expires_at (not_given i.expires_at (ap not (sym (flags_read u g l).reads_lifetime) ∙ e)))),
                  (
                    implies_of (not (has_flag 2 f)) (eqb (get_or i.mid 0) 0 && eqb i.ssn 0 && eqb i.offset 0 && eqb i.fsn 0)
                        (λ e. let m = not_given i.mid (ap not (sym (flags_read u g l).reads_mid) ∙ e) in four_tests (get_or i.mid 0) i.ssn i.offset i.fsn (ap (λ (x : Option ℕ). get_or x 0) m) (w.no_ssn m) (w.no_offset m) (w.no_fsn m)),
                    (
                      implies_of (has_flag 1 f) (eqb i.ssn 0) (λ e. zero_test i.ssn (w.unordered_ssn (sym (flags_read u g l).reads_unordered ∙ e))),
                      (implies_of (has_flag 2 f) head (λ e. h (sym (flags_read u g l).reads_mid ∙ e)), tt),
                    ),
                  ),
                ),
              ),
            ),
          ),
        ),
      ),
    )

message_fits : (now k : ℕ) (i : Item) → k < 2 ^ 16 → WellItem i → Fits message_widths (message_row (message_record now k i))
unfolding message_record flags
message_fits now k i h w =
    let f = (flags_read i.unordered (is_some i.mid) (is_some i.expires_at)).small in let m = ms_small now i.expires_at in let u = w.unsent in let s = w.small in
    (h, (omega arith, (omega arith, (w.ppid_fits, (omega arith, (w.retransmissions_fit, (w.ssn_fits, (w.mid_fits, (w.fsn_fits, (w.lifecycle_fits, (w.id_fits, (omega arith, (omega arith, tt)))))))))))))

-- ---- all messages

right_cons : (k : ℕ) (r : MessageRecord) (rs : List MessageRecord) → k ≤ r.id → T (message_right (ltb k r.id) r) → T (messages_right_after r.id rs) → T (messages_right_after k (r ∷ rs))
unfolding messages_right_after
right_cons k r rs h a b =
    and_intro (leb k r.id && message_right (ltb k r.id) r) (messages_right_after r.id rs) (and_intro (leb k r.id) (message_right (ltb k r.id) r) (le→leb k r.id h) a) b

record_id : (now k : ℕ) (i : Item) → (message_record now k i).id ≡ k
unfolding message_record
record_id now k i = refl

-- A record of stream j after records up to stream k.
record_after : (now j k : ℕ) (i : Item) (rs : List MessageRecord) → k ≤ j → T (message_right (ltb k j) (message_record now j i)) → T (messages_right_after j rs) → T (messages_right_after k (message_record now j i ∷ rs))
record_after now j k i rs h a b =
    let e = record_id now j i in
    right_cons k (message_record now j i) rs (omega arith) (subst (λ (x : ℕ). T (message_right (ltb k x) (message_record now j i))) (sym e) a) (subst (λ (x : ℕ). T (messages_right_after x rs)) (sym e) b)

none_given : (m : Option ℕ) → m ≡ none → is_some m ≡ true → ⊥
unfolding is_some
none_given none e f = let z : ◌≡◌ {A = ℕ} 0 1 = cc in omega arith
none_given (some n) e f = let z : ◌≡◌ {A = ℕ} 0 1 = cc in omega arith

rest_right : (now k : ℕ) (is : List Item) (rs : List MessageRecord) → WellRest is → T (messages_right_after k rs) → T (messages_right_after k (map (message_record now k) is ++ rs))
rest_right now k [] rs w t = t
rest_right now k (i ∷ is) rs w t =
    record_after now k k i (map (message_record now k) is ++ rs) (omega arith) (message_keeps (ltb k k) now k i w.0 (λ e. absurd (none_given i.mid w.1.0 e))) (rest_right now k is rs w.1.1 t)

-- Items of a stream by cases, with their well-formedness.
records_after : (now j : ℕ) (ss : List Stream) → After stream_key j ss → Rising stream_key ss → AllWell ss → T (messages_right_after j (message_records now ss))
records_after now j [] a r w = subst (λ (l : List MessageRecord). T (messages_right_after j l)) (sym (message_records_nil now)) (unfold messages_right_after in tt)
records_after now j (s ∷ ss) a r w = subst (λ (l : List MessageRecord). T (messages_right_after j l)) (sym (message_records_cons now s ss)) (go s.items w.0.well_items (records_after now j ss a.1 r.1 w.1) (records_after now s.id ss r.0 r.1 w.1))
  where
    go : (is : List Item) → WellItems is → T (messages_right_after j (message_records now ss)) → T (messages_right_after s.id (message_records now ss)) → T (messages_right_after j (map (message_record now s.id) is ++ message_records now ss))
    go [] v x y = x
    go (i ∷ is) v x y =
        let l = a.0 in
        record_after now s.id j i (map (message_record now s.id) is ++ message_records now ss) (omega arith) (message_keeps (ltb j s.id) now s.id i v.0 (λ e. lt→ltb j s.id l)) (rest_right now s.id is (message_records now ss) v.1 y)

right_first : (r : MessageRecord) (rs : List MessageRecord) → T (message_right true r) → T (messages_right_after r.id rs) → T (messages_right (r ∷ rs))
unfolding messages_right
right_first r rs a b = and_intro (message_right true r) (messages_right_after r.id rs) a b

records_right : (now : ℕ) (ss : List Stream) → Rising stream_key ss → AllWell ss → T (messages_right (message_records now ss))
records_right now [] r w = subst (λ (l : List MessageRecord). T (messages_right l)) (sym (message_records_nil now)) (unfold messages_right in tt)
records_right now (s ∷ ss) r w = subst (λ (l : List MessageRecord). T (messages_right l)) (sym (message_records_cons now s ss)) (go s.items w.0.well_items (records_right now ss r.1 w.1) (records_after now s.id ss r.0 r.1 w.1))
  where
    go : (is : List Item) → WellItems is → T (messages_right (message_records now ss)) → T (messages_right_after s.id (message_records now ss)) → T (messages_right (map (message_record now s.id) is ++ message_records now ss))
    go [] v x y = x
    go (i ∷ is) v x y =
        right_first (message_record now s.id i) (map (message_record now s.id) is ++ message_records now ss) (message_keeps true now s.id i v.0 (λ e. tt))
        (subst (λ (k : ℕ). T (messages_right_after k (map (message_record now s.id) is ++ message_records now ss))) (sym (record_id now s.id i)) (rest_right now s.id is (message_records now ss) v.1 y))

rest_fit : (now k : ℕ) (is : List Item) (rs : List MessageRecord) → k < 2 ^ 16 → WellRest is → MessagesFit rs → MessagesFit (map (message_record now k) is ++ rs)
rest_fit now k [] rs h w f = f
rest_fit now k (i ∷ is) rs h w f = (message_fits now k i h w.0, rest_fit now k is rs h w.1.1 f)

stream_id_fits : (s : Stream) → WellStream s → s.id < 2 ^ 16
unfolding stream_record
stream_id_fits s w = w.stream_fits.0

records_fit : (now : ℕ) (ss : List Stream) → AllWell ss → MessagesFit (message_records now ss)
records_fit now [] w = subst MessagesFit (sym (message_records_nil now)) tt
records_fit now (s ∷ ss) w = subst MessagesFit (sym (message_records_cons now s ss)) (go s.items w.0.well_items (records_fit now ss w.1))
  where
    go : (is : List Item) → WellItems is → MessagesFit (message_records now ss) → MessagesFit (map (message_record now s.id) is ++ message_records now ss)
    go [] v f = f
    go (i ∷ is) v f = (message_fits now s.id i (stream_id_fits s w.0) v.0, rest_fit now s.id is (message_records now ss) (stream_id_fits s w.0) v.1 f)

-- ---- all streams

abbrev AfterR : ℕ → List StreamRecord → Type 0
AfterR k [] = Unit {0}
AfterR k (r ∷ rs) = (k < r.id) × AfterR k rs

streams_right_cons : (d : ℕ) (r : StreamRecord) (rs : List StreamRecord) → T (not (plain d r)) → AfterR r.id rs → T (streams_right d rs) → T (streams_right d (r ∷ rs))
unfolding streams_right
streams_right_cons d r [] n a t = n
streams_right_cons d r (r' ∷ rs) n a t = and_intro (not (plain d r) && ltb r.id r'.id) (streams_right d (r' ∷ rs)) (and_intro (not (plain d r)) (ltb r.id r'.id) n (lt→ltb r.id r'.id a.0)) t

-- The stream records of a list of streams.
record SavedAs (d : ℕ) (ss : List Stream) (rs : List StreamRecord) : Type 0 where
  saved_right : T (streams_right d rs)
  saved_after : (k : ℕ) → After stream_key k ss → AfterR k rs
  saved_fit : StreamsFit rs
  saved_few : length rs ≤ length ss

record_of_id : (s : Stream) → (stream_record s).id ≡ s.id
unfolding stream_record
record_of_id s = refl

saved_skip : (d : ℕ) (s : Stream) (ss : List Stream) (rs : List StreamRecord) → SavedAs d ss rs → SavedAs d (s ∷ ss) rs
saved_skip d s ss rs v = let f = v.saved_few in record { saved_right = v.saved_right; saved_after = λ k a. v.saved_after k a.1; saved_fit = v.saved_fit; saved_few = omega arith }

saved_keep : (d : ℕ) (s : Stream) (ss : List Stream) (rs : List StreamRecord) → After stream_key s.id ss → WellStream s → T (not (plain d (stream_record s))) → SavedAs d ss rs → SavedAs d (s ∷ ss) (stream_record s ∷ rs)
saved_keep d s ss rs a w n v =
    let f = v.saved_few in
    record {
      saved_right = streams_right_cons d (stream_record s) rs n (subst (λ (k : ℕ). AfterR k rs) (sym (record_of_id s)) (v.saved_after s.id a)) v.saved_right;
      saved_after = λ k b. (subst (λ (x : ℕ). k < x) (sym (record_of_id s)) b.0, v.saved_after k b.1);
      saved_fit = (w.stream_fits, v.saved_fit);
      saved_few = omega arith;
    }

nil_right : (d : ℕ) → T (streams_right d [])
unfolding streams_right
nil_right d = tt

streams_saved : (d : ℕ) (ss : List Stream) → Rising stream_key ss → AllWell ss → SavedAs d ss (stream_records d ss)
unfolding stream_records
streams_saved d [] r w = record { saved_right = nil_right d; saved_after = λ k a. tt; saved_fit = tt; saved_few = omega arith }
streams_saved d (s ∷ ss) r w = go (plain d (stream_record s)) refl (streams_saved d ss r.1 w.1)
  where
    go : (b : Bool) → plain d (stream_record s) ≡ b → SavedAs d ss (stream_records d ss) → SavedAs d (s ∷ ss) ((if b then stream_records d ss else stream_record s ∷ stream_records d ss))
    go true e v = saved_skip d s ss (stream_records d ss) v
    go false e v = saved_keep d s ss (stream_records d ss) r.0 w.0 (subst (λ (x : Bool). T (not x)) (sym e) tt) v

-- ---- the trailer

payloads : List MessageRecord → ℕ
payloads [] = 0
payloads (r ∷ rs) = length r.payload + payloads rs

payloads_nil : payloads [] ≡ 0
unfolding payloads
payloads_nil = refl

length_message : (r : MessageRecord) → Fits message_widths (message_row r) → length (message_bytes r) ≡ 44 + length r.payload
unfolding width
length_message r f =
    let e : length (row_bytes message_widths (message_row r)) ≡ 44 = length_row_bytes message_widths (message_row r) f in
    ap length (message_bytes_of r) ∙ length-append (row_bytes message_widths (message_row r)) r.payload ∙ ap (λ (x : ℕ). x + length r.payload) e

length_messages : (rs : List MessageRecord) → MessagesFit rs → length (messages_bytes rs) ≡ 44 * length rs + payloads rs
unfolding payloads
length_messages [] f = ap length messages_bytes_nil
length_messages (r ∷ rs) f =
    let ih = length_messages rs f.1 in let l = length_message r f.0 in
    let a : length (message_bytes r ++ messages_bytes rs) ≡ length (message_bytes r) + length (messages_bytes rs) = length-append (message_bytes r) (messages_bytes rs) in
    ap length (messages_bytes_cons r rs) ∙ omega arith

items_payloads : (now k : ℕ) (is : List Item) (rs : List MessageRecord) → payloads (map (message_record now k) is ++ rs) ≡ payload_bytes is + payloads rs
unfolding payloads message_record
items_payloads now k [] rs = omega arith
items_payloads now k (i ∷ is) rs = let ih = items_payloads now k is rs in omega arith

records_payloads : (now : ℕ) (ss : List Stream) → payloads (message_records now ss) ≡ occupied ss
records_payloads now [] = ap payloads (message_records_nil now) ∙ payloads_nil
records_payloads now (s ∷ ss) = ap payloads (message_records_cons now s ss) ∙ items_payloads now s.id s.items (message_records now ss) ∙ ap (λ (x : ℕ). payload_bytes s.items + x) (records_payloads now ss)

length_map_records : (now k : ℕ) (is : List Item) (rs : List MessageRecord) → length (map (message_record now k) is ++ rs) ≡ length is + length rs
length_map_records now k [] rs = omega arith
length_map_records now k (i ∷ is) rs = let ih = length_map_records now k is rs in omega arith

records_count : (now : ℕ) (ss : List Stream) → length (message_records now ss) ≡ waiting ss
records_count now [] = ap length (message_records_nil now)
records_count now (s ∷ ss) = ap length (message_records_cons now s ss) ∙ length_map_records now s.id s.items (message_records now ss) ∙ ap (λ (x : ℕ). length s.items + x) (records_count now ss)

-- ---- the queue

module _ (now : ℕ) (q : Queue) (w : WellQueue q) where
  streams_of_lem : SavedAs q.options.default_priority q.streams (stream_records q.options.default_priority q.streams)
  streams_of_lem = streams_saved q.options.default_priority q.streams w.rising w.all_well

  handover_keeps : T (handover_right (handover now q))
  unfolding handover_right handover
  handover_keeps =
      and_intro (streams_right q.options.default_priority (stream_records q.options.default_priority q.streams)) (messages_right (message_records now q.streams))
      streams_of_lem.saved_right (records_right now q.streams w.rising w.all_well)

  handover_fits : HandoverFits (handover now q)
  unfolding handover trailer_row
  handover_fits =
      let ss : List StreamRecord = stream_records q.options.default_priority q.streams in
      let ms : List MessageRecord = message_records now q.streams in
      let mf : MessagesFit (message_records now q.streams) = records_fit now q.streams w.all_well in
      let a = streams_of_lem.saved_few in let b = w.streams_few in let c = records_count now q.streams in let d = w.messages_few in
      let e = length_messages (message_records now q.streams) mf in let f = records_payloads now q.streams in let g = w.store_fits in
      let h = length_streams_bytes (stream_records q.options.default_priority q.streams) streams_of_lem.saved_fit in
      record {
        streams_fit = streams_of_lem.saved_fit;
        messages_fit = mf;
        trailer_fits = (w.next_fits, (w.default_fits, (omega arith, (omega arith, (omega arith, (omega arith, (omega arith, tt)))))));
      }

  -- (a) Reading a well-formed queue's image gives its handover record.
  pub read_write_image : read_image (write_image now q) ≡ some (handover now q)
  unfolding write_image
  read_write_image = read_image_bytes (handover now q) handover_fits handover_keeps
