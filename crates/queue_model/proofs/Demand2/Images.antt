-- Demand 2 on images: the image of a reachable queue restores, at any allowed time, what the Rust restores from its own record, without plain streams. Assumes nothing.
use mathlib.Core.Path.{◌≡◌, refl, sym, ap, ap₂, ◌∙◌, subst}
use mathlib.Core.Bool.{Bool, true, false, not, ◌&&◌, ◌||◌}
use mathlib.Core.List.{List, [], ◌∷◌, ◌++◌, map}
use mathlib.Core.Option.{Option, none, some, get_or}
use Prim.Native.Nat.{ℕ, zero, suc, ◌+◌, ◌≤◌, ◌<◌}
use native.Mathlib.Omega.{arith}
use lib.Dec.{T, ltb, eqb, eqb→eq}
use lib.ListN.{length}
use Rattle.std.specs.Prelude.{if◌then◌else◌}
use Rattle.queue_model.specs.Logic.{is_nil, same_bool, any}
use Rattle.queue_model.specs.Table.{sum_by}
use Rattle.queue_model.specs.Types.{Item, Stream, Weight, Scheduler, Options, Queue, done, reply}
use Rattle.queue_model.specs.Scheduler.{forget, remove_stream, set_bytes_remaining, new_scheduler}
use Rattle.queue_model.specs.Streams.{max_streams, max_messages, put_stream, new_stream, waiting, payload_bytes, occupied, weight_of, head_size, reschedule, reschedule_each, some_items, has_items, amounts, stream_key, with_message, new_queue}
use Rattle.queue_model.specs.Refusals.{max_time}
use Rattle.queue_model.specs.Image.{MessageRecord, Handover, plain, stream_record, stream_records, message_record, message_records, handover, write_image}
use Rattle.queue_model.specs.Reader.{read_image}
use Rattle.queue_model.specs.Restore.{restored_stream, restored_item, restore_streams, restore_message, restore_messages, half_sent_first, first_half_sent, remember_half_sent, restored, restore_checks, mid_too_early, record_checks, restore_read}
use Rattle.queue_model.specs.RustHandover.{StreamMessageState, HandoverState, message_state, message_states, handover_state, stream_from, messages_from, restore_from_state, begun_stream, remembering, restore_remembering}
use Rattle.queue_model.specs.Run.{step}
use Rattle.queue_model.specs.Demands.{without_plain, forget_plain, fresh, Demand2Images, Matched, Demand2Rust, nothing_to_restore}
use Rattle.queue_model.proofs.Tests.{holds, ltb_false, eqb_true}
use Rattle.queue_model.proofs.Table.{find_here, find_there, find_after, put_later, put_here, put_before, put_end, After, Rising, empty, first, split, length_sum, length_map, sum_map, Every, every_weaken}
use Rattle.queue_model.proofs.Checks.{Passed, read_some, checked_past, restore_of}
use Rattle.queue_model.proofs.Scheduler.{reschedule_of, each_nil, each_cons}
use Rattle.queue_model.proofs.Streams.{at_found, at_new, at_id, length_snoc, payload_snoc}
use Rattle.queue_model.proofs.Image.ByteRows.{and_l, and_r}
use Rattle.queue_model.proofs.Image.Saved.{read_write_image}
use Rattle.queue_model.proofs.Invariant.Messages.{WellRest, WellItems}
use Rattle.queue_model.proofs.Invariant.Well.{Kept, Well, well_queue}
use Rattle.queue_model.proofs.Invariant.Sixteen.{reachable_well, reachable_options}
use Rattle.queue_model.proofs.Invariant.Strict.{strict_image}
use Rattle.queue_model.proofs.Calm.Calm.{calm_scheduler}
use Rattle.queue_model.proofs.Demand3.Restored.{blank, message_records_cons, message_records_nil, with_restored, restore_message_of, restore_messages_cons, restore_messages_nil, record_back, no_restored_items, blank_options}
use Rattle.queue_model.proofs.Demand2.Rust.{whole_handover, rust_restores}
use Rattle.queue_model.specs.Calls
use Rattle.queue_model.specs.Restore

-- ---- one message, by where its stream stands

put_front : (s : Stream) (xs : List Stream) → After stream_key s.id xs → put_stream s xs ≡ s ∷ xs
put_front s [] a = put_end stream_key s
put_front s (x ∷ xs) a = put_before stream_key s x xs a.0

module _ (o : Options) (now : ℕ) where
  message_here : (r : MessageRecord) (x : Stream) (xs : List Stream) → x.id ≡ r.id → restore_message o now r (x ∷ xs) ≡ with_message x (restored_item now r) ∷ xs
  message_here r x xs e =
      restore_message_of o now r (x ∷ xs) ∙ ap (λ (y : Stream). put_stream (with_message y (restored_item now r)) (x ∷ xs)) (at_found o (x ∷ xs) r.id x (find_here stream_key r.id x xs e)) ∙ put_here stream_key (with_message x (restored_item now r)) x xs refl

  message_later : (r : MessageRecord) (x : Stream) (xs : List Stream) → x.id < r.id → restore_message o now r (x ∷ xs) ≡ x ∷ restore_message o now r xs
  message_later r x xs l =
      let e = at_id o xs r.id in
      restore_message_of o now r (x ∷ xs) ∙ ap (λ (y : Option Stream). put_stream (with_message (get_or y (new_stream o r.id)) (restored_item now r)) (x ∷ xs)) (find_there stream_key r.id x xs (λ g. omega arith))
      ∙ put_later stream_key (with_restored o now r xs) x xs (omega arith) ∙ ap (λ (l : List Stream). x ∷ l) (sym (restore_message_of o now r xs))

  message_new : (r : MessageRecord) (xs : List Stream) → After stream_key r.id xs → restore_message o now r xs ≡ with_message (new_stream o r.id) (restored_item now r) ∷ xs
  message_new r xs a =
      restore_message_of o now r xs ∙ ap (λ (y : Stream). put_stream (with_message y (restored_item now r)) xs) (at_new o xs r.id (find_after stream_key r.id xs a)) ∙ put_front (with_message (new_stream o r.id) (restored_item now r)) xs a

  -- Messages of later streams pass a stream by.
  abbrev Later : ℕ → List MessageRecord → Type 0
  Later k [] = Unit {0}
  Later k (r ∷ rs) = (k < r.id) × Later k rs

  pass_by : (rs : List MessageRecord) (x : Stream) (xs : List Stream) → Later x.id rs → restore_messages o now rs (x ∷ xs) ≡ x ∷ restore_messages o now rs xs
  pass_by [] x xs l = restore_messages_nil o now (x ∷ xs) ∙ ap (λ (y : List Stream). x ∷ y) (sym (restore_messages_nil o now xs))
  pass_by (r ∷ rs) x xs l =
      restore_messages_cons o now r rs (x ∷ xs) ∙ ap (restore_messages o now rs) (message_later r x xs l.0) ∙ pass_by rs x (restore_message o now r xs) l.1 ∙ ap (λ (y : List Stream). x ∷ y) (sym (restore_messages_cons o now r rs xs))

  module _ (saved : ℕ) where
    record_of_id : (k : ℕ) (i : Item) → (message_record saved k i).id ≡ k
    unfolding message_record
    record_of_id k i = refl

    later_items : (j k : ℕ) (is : List Item) (rs : List MessageRecord) → j < k → Later j rs → Later j (map (message_record saved k) is ++ rs)
    later_items j k [] rs h l = l
    later_items j k (i ∷ is) rs h l = (subst (λ (x : ℕ). j < x) (sym (record_of_id k i)) h, later_items j k is rs h l)

    later_records : (j : ℕ) (ss : List Stream) → After stream_key j ss → Later j (message_records saved ss)
    later_records j [] a = subst (Later j) (sym (message_records_nil saved)) tt
    later_records j (s ∷ ss) a = subst (Later j) (sym (message_records_cons saved s ss)) (later_items j s.id s.items (message_records saved ss) a.0 (later_records j ss a.1))

    -- A message saved and restored, and a stream filled with such messages.
    again : ℕ → Item → Item
    again k i = restored_item now (message_record saved k i)

    fill : ℕ → Stream → List Item → Stream
    fill k x [] = x
    fill k x (i ∷ is) = fill k (with_message x (again k i)) is

    fill_all : (k : ℕ) (is : List Item) (rs : List MessageRecord) (x : Stream) (xs : List Stream) → x.id ≡ k → restore_messages o now (map (message_record saved k) is ++ rs) (x ∷ xs) ≡ restore_messages o now rs (fill k x is ∷ xs)
    unfolding fill again
    fill_all k [] rs x xs e = refl
    fill_all k (i ∷ is) rs x xs e =
        restore_messages_cons o now (message_record saved k i) (map (message_record saved k) is ++ rs) (x ∷ xs)
        ∙ ap (restore_messages o now (map (message_record saved k) is ++ rs)) (message_here (message_record saved k i) x xs (e ∙ sym (record_of_id k i)))
        ∙ fill_all k is rs (with_message x (again k i)) xs e

    fill_new : (k : ℕ) (i : Item) (is : List Item) (rs : List MessageRecord) (xs : List Stream) → After stream_key k xs → restore_messages o now (map (message_record saved k) (i ∷ is) ++ rs) xs ≡ restore_messages o now rs (fill k (new_stream o k) (i ∷ is) ∷ xs)
    unfolding fill again
    fill_new k i is rs xs a =
        let e = record_of_id k i in
        restore_messages_cons o now (message_record saved k i) (map (message_record saved k) is ++ rs) xs
        ∙ ap (restore_messages o now (map (message_record saved k) is ++ rs)) (message_new (message_record saved k i) xs (subst (λ (x : ℕ). After stream_key x xs) (sym e) a) ∙ ap (λ (y : ℕ). with_message (new_stream o y) (again k i) ∷ xs) e)
        ∙ fill_all k is rs (with_message (new_stream o k) (again k i)) xs refl

    -- ---- what filling keeps and adds

    record Fills (x : Stream) (is : List Item) (y : Stream) : Type 0 where
      fills_id : y.id ≡ x.id
      fills_record : stream_record y ≡ stream_record x
      fills_length : length y.items ≡ length x.items + length is
      fills_payload : payload_bytes y.items ≡ payload_bytes x.items + payload_bytes is

    again_payload : (k : ℕ) (i : Item) → (again k i).payload ≡ i.payload
    unfolding again restored_item message_record
    again_payload k i = refl

    fills : (k : ℕ) (x : Stream) (is : List Item) → Fills x is (fill k x is)
    unfolding fill stream_record
    fills k x [] = record { fills_id = refl; fills_record = refl; fills_length = omega arith; fills_payload = omega arith }
    fills k x (i ∷ is) =
        let v = fills k (with_message x (again k i)) is in
        let a = length_snoc x.items (again k i) in let b = payload_snoc x.items (again k i) in let c : length (again k i).payload ≡ length i.payload = ap length (again_payload k i) in
        let d = v.fills_length in let e = v.fills_payload in
        record { fills_id = v.fills_id; fills_record = v.fills_record; fills_length = omega arith; fills_payload = omega arith }

    -- ---- all streams

    -- A stream as the Rust's record restores it, and all of them.
    full : Stream → Stream
    full s = fill s.id (restored_stream o (stream_record s)) s.items

    full_of : (s : Stream) → fill s.id (restored_stream o (stream_record s)) s.items ≡ full s
    unfolding full
    full_of s = refl

    restored_id : (s : Stream) → (restored_stream o (stream_record s)).id ≡ s.id
    unfolding restored_stream stream_record
    restored_id s = refl

    full_id : (s : Stream) → (full s).id ≡ s.id
    unfolding full
    full_id s = (fills s.id (restored_stream o (stream_record s)) s.items).fills_id ∙ restored_id s

    one_full : (s : Stream) (rs : List MessageRecord) (xs : List Stream) → Later s.id rs → restore_messages o now (map (message_record saved s.id) s.items ++ rs) (restored_stream o (stream_record s) ∷ xs) ≡ full s ∷ restore_messages o now rs xs
    unfolding full
    one_full s rs xs l =
        fill_all s.id s.items rs (restored_stream o (stream_record s)) xs (restored_id s)
        ∙ pass_by rs (full s) xs (subst (λ (k : ℕ). Later k rs) (sym (full_id s)) l)

    rust_streams : (ss : List Stream) → Rising stream_key ss → restore_messages o now (message_records saved ss) (map (restored_stream o) (map stream_record ss)) ≡ map full ss
    rust_streams [] r = ap (λ (l : List MessageRecord). restore_messages o now l []) (message_records_nil saved) ∙ restore_messages_nil o now []
    rust_streams (s ∷ ss) r =
        ap (λ (l : List MessageRecord). restore_messages o now l (map (restored_stream o) (map stream_record (s ∷ ss)))) (message_records_cons saved s ss)
        ∙ one_full s (message_records saved ss) (map (restored_stream o) (map stream_record ss)) (later_records s.id ss r.0) ∙ ap (λ (l : List Stream). full s ∷ l) (rust_streams ss r.1)

    -- ---- without plain streams

    full_plain : (s : Stream) → plain o.default_priority (stream_record (full s)) ≡ plain o.default_priority (stream_record s)
    unfolding full
    full_plain s = ap (plain o.default_priority) ((fills s.id (restored_stream o (stream_record s)) s.items).fills_record ∙ record_back o (stream_record s))

    full_length : (s : Stream) → length (full s).items ≡ length s.items
    unfolding full
    full_length s =
        let a = (fills s.id (restored_stream o (stream_record s)) s.items).fills_length in let b : length (restored_stream o (stream_record s)).items ≡ 0 = ap length (no_restored_items o (stream_record s)) in omega arith

    full_payload : (s : Stream) → payload_bytes (full s).items ≡ payload_bytes s.items
    unfolding full
    full_payload s =
        let a = (fills s.id (restored_stream o (stream_record s)) s.items).fills_payload in let b : payload_bytes (restored_stream o (stream_record s)).items ≡ 0 = ap payload_bytes (no_restored_items o (stream_record s)) in omega arith

    restored_amount : (s : Stream) → (restored_stream o (stream_record s)).amount ≡ 0
    unfolding restored_stream
    restored_amount s = refl

    fill_nil : (k : ℕ) (x : Stream) (is : List Item) → is ≡ [] → fill k x is ≡ x
    unfolding fill
    fill_nil k x is e = ap (fill k x) e

    full_amount : (s : Stream) → s.items ≡ [] → (full s).amount ≡ 0
    unfolding full
    full_amount s e = ap (λ (x : Stream). x.amount) (fill_nil s.id (restored_stream o (stream_record s)) s.items e) ∙ restored_amount s

    -- Whether a stream has messages, by their number.
    has_none : (s : Stream) → length s.items ≡ 0 → has_items s ≡ false
    unfolding has_items some_items
    has_none s e = go s.items e
      where
        go : (is : List Item) → length is ≡ 0 → some_items is ≡ false
        go [] f = refl
        go (i ∷ is) f = absurd (omega arith)

    has_some : (s : Stream) → 0 < length s.items → has_items s ≡ true
    unfolding has_items some_items
    has_some s e = go s.items e
      where
        go : (is : List Item) → 0 < length is → some_items is ≡ true
        go [] f = absurd (omega arith)
        go (i ∷ is) f = refl

    skipped : (x : Stream) (xs : List Stream) → plain o.default_priority (stream_record x) ≡ true → has_items x ≡ false → without_plain o.default_priority (x ∷ xs) ≡ without_plain o.default_priority xs
    unfolding without_plain nothing_to_restore plain stream_record
    skipped x xs e f = ap₂ (λ (a b : Bool). (if a && not b then without_plain o.default_priority xs else x ∷ without_plain o.default_priority xs)) e f

    left_in : (x : Stream) (xs : List Stream) → (plain o.default_priority (stream_record x) && not (has_items x)) ≡ false → without_plain o.default_priority (x ∷ xs) ≡ x ∷ without_plain o.default_priority xs
    unfolding without_plain nothing_to_restore plain stream_record
    left_in x xs e = ap (λ (b : Bool). (if b then without_plain o.default_priority xs else x ∷ without_plain o.default_priority xs)) e

    and_false : (a : Bool) → (a && false) ≡ false
    and_false true = refl
    and_false false = refl

    -- A plain stream is restored like a new one.
    plain_restored : (s : Stream) → plain o.default_priority (stream_record s) ≡ true → restored_stream o (stream_record s) ≡ new_stream o s.id
    unfolding plain stream_record restored_stream
    plain_restored s e =
        let c = s.counters in
        let a : Bool = eqb s.counters.next_ssn 0 in let b : Bool = eqb s.counters.next_unordered_mid 0 in let g : Bool = eqb s.counters.next_ordered_mid 0 in let f : Bool = eqb s.priority o.default_priority in
        let t : T (a && b && g && f) = holds (a && b && g && f) e in
        let e₁ : s.counters.next_ssn ≡ 0 = eqb→eq s.counters.next_ssn 0 (and_l a b (and_l (a && b) g (and_l (a && b && g) f t))) in
        let e₂ : s.counters.next_unordered_mid ≡ 0 = eqb→eq s.counters.next_unordered_mid 0 (and_r a b (and_l (a && b) g (and_l (a && b && g) f t))) in
        let e₃ : s.counters.next_ordered_mid ≡ 0 = eqb→eq s.counters.next_ordered_mid 0 (and_r (a && b) g (and_l (a && b && g) f t)) in
        let e₄ : s.priority ≡ o.default_priority = eqb→eq s.priority o.default_priority (and_r (a && b && g) f t) in
        let mk : ℕ → ℕ → ℕ → ℕ → Stream = λ x y z p. record { id = s.id; priority = p; pause_state = Rattle.queue_model.specs.Types.not_paused; counters = record { next_ssn = x; next_unordered_mid = y; next_ordered_mid = z }; amount = 0; threshold = o.default_threshold; items = [] } in
        ap₂ (λ (x y : ℕ). mk x y s.counters.next_ordered_mid s.priority) e₁ e₂ ∙ ap₂ (λ (z p : ℕ). mk 0 0 z p) e₃ e₄

    after_records : (k : ℕ) (ss : List Stream) → After stream_key k ss → After stream_key k (map (restored_stream o) (stream_records o.default_priority ss))
    unfolding stream_records
    after_records k [] a = tt
    after_records k (s ∷ ss) a = go (plain o.default_priority (stream_record s)) (after_records k ss a.1)
      where
        go : (b : Bool) → After stream_key k (map (restored_stream o) (stream_records o.default_priority ss)) → After stream_key k (map (restored_stream o) ((if b then stream_records o.default_priority ss else stream_record s ∷ stream_records o.default_priority ss)))
        go true h = h
        go false h = (subst (λ (x : ℕ). k < x) (sym (restored_id s)) a.0, h)

    our_streams : (ss : List Stream) → Rising stream_key ss → restore_messages o now (message_records saved ss) (map (restored_stream o) (stream_records o.default_priority ss)) ≡ without_plain o.default_priority (map full ss)
    unfolding stream_records
    our_streams [] r = ap (λ (l : List MessageRecord). restore_messages o now l []) (message_records_nil saved) ∙ restore_messages_nil o now [] ∙ (unfold without_plain in refl)
    our_streams (s ∷ ss) r =
        ap (λ (l : List MessageRecord). restore_messages o now l (map (restored_stream o) (stream_records o.default_priority (s ∷ ss)))) (message_records_cons saved s ss)
        ∙ go (plain o.default_priority (stream_record s)) refl (our_streams ss r.1)
      where
        ms : List MessageRecord
        ms = message_records saved ss

        rest : List Stream
        rest = map (restored_stream o) (stream_records o.default_priority ss)

        go : (b : Bool) → plain o.default_priority (stream_record s) ≡ b → restore_messages o now ms rest ≡ without_plain o.default_priority (map full ss)
            → restore_messages o now (map (message_record saved s.id) s.items ++ ms) (map (restored_stream o) ((if b then stream_records o.default_priority ss else stream_record s ∷ stream_records o.default_priority ss))) ≡ without_plain o.default_priority (full s ∷ map full ss)
        go false e ih =
            one_full s ms rest (later_records s.id ss r.0) ∙ ap (λ (l : List Stream). full s ∷ l) ih
            ∙ sym (left_in (full s) (map full ss) (ap (λ (b : Bool). b && not (has_items (full s))) (full_plain s ∙ e)))
        go true e ih = elim (split s.items) [
          | empty f ↦ (let z = full_length s in let n : length s.items ≡ 0 = ap length f in
              ap (λ (l : List Item). restore_messages o now (map (message_record saved s.id) l ++ ms) rest) f ∙ ih ∙ sym (skipped (full s) (map full ss) (full_plain s ∙ e) (has_none (full s) (omega arith))))
          | first i is f ↦ (let z = full_length s in let n : length s.items ≡ suc (length is) = ap length f in
              let same_fill : fill s.id (new_stream o s.id) (i ∷ is) ≡ full s = ap₂ (fill s.id) (sym (plain_restored s e)) (sym f) ∙ full_of s in
              ap (λ (l : List Item). restore_messages o now (map (message_record saved s.id) l ++ ms) rest) f
              ∙ fill_new s.id i is ms rest (after_records s.id ss r.0) ∙ ap (λ (x : Stream). restore_messages o now ms (x ∷ rest)) same_fill
              ∙ pass_by ms (full s) rest (subst (λ (k : ℕ). Later k ms) (sym (full_id s)) (later_records s.id ss r.0)) ∙ ap (λ (l : List Stream). full s ∷ l) ih
              ∙ sym (left_in (full s) (map full ss) (ap (λ (b : Bool). plain o.default_priority (stream_record (full s)) && not b) (has_some (full s) (omega arith)) ∙ and_false (plain o.default_priority (stream_record (full s))))))
        ]

    -- ---- the half-sent message

    -- A stream filled behind its first message is half-sent if that is.
    filled_half : (k : ℕ) (x : Stream) (is : List Item) (j : Item) (js : List Item) → x.items ≡ j ∷ js → half_sent_first (fill k x is).items ≡ ltb 0 j.offset
    unfolding fill half_sent_first
    filled_half k x [] j js e = ap half_sent_first e
    filled_half k x (i ∷ is) j js e = filled_half k (with_message x (again k i)) is j (js ++ (again k i ∷ [])) (ap (λ (l : List Item). l ++ (again k i ∷ [])) e)

    again_offset : (k : ℕ) (i : Item) → (again k i).offset ≡ i.offset
    unfolding again restored_item message_record
    again_offset k i = refl

    full_half : (s : Stream) → half_sent_first (full s).items ≡ half_sent_first s.items
    unfolding full fill half_sent_first
    full_half s = elim (split s.items) [
      | empty e ↦ ap (λ (x : Stream). half_sent_first x.items) (fill_nil s.id (restored_stream o (stream_record s)) s.items e) ∙ ap half_sent_first (no_restored_items o (stream_record s)) ∙ ap half_sent_first (sym e)
      | first i is e ↦ (let x : Stream = restored_stream o (stream_record s) in
          ap (λ (l : List Item). half_sent_first (fill s.id x l).items) e
          ∙ filled_half s.id (with_message x (again s.id i)) is (again s.id i) [] (ap (λ (l : List Item). l ++ (again s.id i ∷ [])) (no_restored_items o (stream_record s)))
          ∙ ap (ltb 0) (again_offset s.id i) ∙ ap half_sent_first (sym e))
    ]

    rest_begun : (k : ℕ) (is : List Item) (ts : List StreamMessageState) → WellRest is → begun_stream (map (message_state saved k) is ++ ts) ≡ begun_stream ts
    unfolding begun_stream message_state
    rest_begun k [] ts w = refl
    rest_begun k (i ∷ is) ts w =
        let z = w.0.no_offset w.1.0 in let l : i.offset ≤ 0 = omega arith in
        ap (λ (b : Bool). if b then some k else begun_stream (map (message_state saved k) is ++ ts)) (ltb_false l) ∙ rest_begun k is ts w.1.1

    items_begun : (k : ℕ) (is : List Item) (ts : List StreamMessageState) → WellItems is → begun_stream (map (message_state saved k) is ++ ts) ≡ (if half_sent_first is then some k else begun_stream ts)
    unfolding begun_stream message_state half_sent_first
    items_begun k [] ts w = refl
    items_begun k (i ∷ is) ts w = ap (λ (x : Option ℕ). if ltb 0 i.offset then some k else x) (rest_begun k is ts w.1)

    -- The stream that restoring remembers is the record's.
    full_begun : (ss : List Stream) → Every (λ (s : Stream). WellItems s.items) ss → first_half_sent (map full ss) ≡ begun_stream (message_states saved ss)
    unfolding first_half_sent message_states
    full_begun [] w = unfold begun_stream in refl
    full_begun (s ∷ ss) w =
        ap (λ (k : ℕ). if half_sent_first (full s).items then some k else first_half_sent (map full ss)) (full_id s)
        ∙ ap₂ (λ (b : Bool) (x : Option ℕ). if b then some s.id else x) (full_half s) (full_begun ss w.1)
        ∙ sym (items_begun s.id s.items (message_states saved ss) w.0)

-- ---- leaving plain streams out

-- A stream is left out, having no messages, or stays.
data Cut (d : ℕ) (x : Stream) (xs : List Stream) : Type 0 where
  cut : has_items x ≡ false → without_plain d (x ∷ xs) ≡ without_plain d xs → Cut d x xs
  uncut : without_plain d (x ∷ xs) ≡ x ∷ without_plain d xs → Cut d x xs

cutting : (d : ℕ) (x : Stream) (xs : List Stream) → Cut d x xs
unfolding without_plain nothing_to_restore plain stream_record
cutting d x xs = go (plain d (stream_record x)) refl (has_items x) refl
  where
    go : (a : Bool) → plain d (stream_record x) ≡ a → (b : Bool) → has_items x ≡ b → Cut d x xs
    go a e true f = uncut (ap (λ (z : Bool). (if z then without_plain d xs else x ∷ without_plain d xs)) (ap₂ (λ (y z : Bool). y && not z) e f ∙ both a))
      where
        both : (a : Bool) → (a && false) ≡ false
        both true = refl
        both false = refl
    go true e false f = cut f (ap₂ (λ (y z : Bool). (if y && not z then without_plain d xs else x ∷ without_plain d xs)) e f)
    go false e false f = uncut (ap₂ (λ (y z : Bool). (if y && not z then without_plain d xs else x ∷ without_plain d xs)) e f)

none_left : (d : ℕ) → without_plain d [] ≡ []
unfolding without_plain
none_left d = refl

sum_without : (d : ℕ) (f : Stream → ℕ) (xs : List Stream) → sum_by f (without_plain d xs) ≤ sum_by f xs
sum_without d f [] = subst (λ (l : List Stream). sum_by f l ≤ 0) (sym (none_left d)) (omega arith)
sum_without d f (x ∷ xs) =
    let ih = sum_without d f xs in
    elim (cutting d x xs) [
      | cut n e ↦ subst (λ (l : List Stream). sum_by f l ≤ f x + sum_by f xs) (sym e) (omega arith)
      | uncut e ↦ subst (λ (l : List Stream). sum_by f l ≤ f x + sum_by f xs) (sym e) (omega arith)
    ]

-- A sum that does not count streams without messages.
sum_same : (d : ℕ) (f : Stream → ℕ) (xs : List Stream) → Every (λ x. has_items x ≡ false → f x ≡ 0) xs → sum_by f (without_plain d xs) ≡ sum_by f xs
sum_same d f [] h = ap (sum_by f) (none_left d)
sum_same d f (x ∷ xs) h =
    let ih = sum_same d f xs h.1 in
    elim (cutting d x xs) [
      | cut n e ↦ (let z = h.0 n in ap (sum_by f) e ∙ omega arith)
      | uncut e ↦ ap (sum_by f) e ∙ ap (λ (y : ℕ). f x + y) ih
    ]

each_without : (d : ℕ) (il : Bool) (xs : List Stream) (sc : Scheduler) → reschedule_each il has_items (without_plain d xs) sc ≡ reschedule_each il has_items xs sc
each_without d il [] sc = ap (λ (l : List Stream). reschedule_each il has_items l sc) (none_left d)
each_without d il (x ∷ xs) sc = elim (cutting d x xs) [
  | cut n e ↦ ap (λ (l : List Stream). reschedule_each il has_items l sc) e ∙ each_without d il xs sc
      ∙ ap (λ (b : Bool). reschedule_each il has_items xs (if b then reschedule il x sc else sc)) (sym n) ∙ sym (each_cons il has_items x xs sc)
  | uncut e ↦ ap (λ (l : List Stream). reschedule_each il has_items l sc) e ∙ each_cons il has_items x (without_plain d xs) sc
      ∙ each_without d il xs (if has_items x then reschedule il x sc else sc) ∙ sym (each_cons il has_items x xs sc)
]

-- A stream that is left out is not half-sent.
not_half : (x : Stream) → has_items x ≡ false → half_sent_first x.items ≡ false
unfolding has_items some_items half_sent_first
not_half x n = go x.items n
  where
    go : (is : List Item) → some_items is ≡ false → half_sent_first is ≡ false
    go [] f = refl
    go (i ∷ is) f = let z : ◌≡◌ {A = ℕ} 0 1 = cc in absurd (omega arith)

half_cons : (x : Stream) (xs : List Stream) → first_half_sent (x ∷ xs) ≡ (if half_sent_first x.items then some x.id else first_half_sent xs)
unfolding first_half_sent
half_cons x xs = refl

half_without : (d : ℕ) (xs : List Stream) → first_half_sent (without_plain d xs) ≡ first_half_sent xs
half_without d [] = ap first_half_sent (none_left d)
half_without d (x ∷ xs) = elim (cutting d x xs) [
  | cut n e ↦ ap first_half_sent e ∙ half_without d xs ∙ sym (half_cons x xs ∙ ap (λ (b : Bool). if b then some x.id else first_half_sent xs) (not_half x n))
  | uncut e ↦ ap first_half_sent e ∙ half_cons x (without_plain d xs) ∙ ap (λ (y : Option ℕ). if half_sent_first x.items then some x.id else y) (half_without d xs) ∙ sym (half_cons x xs)
]

remember_without : (d : ℕ) (il : Bool) (xs : List Stream) (sc : Scheduler) → remember_half_sent il (without_plain d xs) sc ≡ remember_half_sent il xs sc
unfolding remember_half_sent
remember_without d true xs sc = refl
remember_without d false xs sc =
    let f : Option ℕ → Scheduler = λ c. record { payload_limit = sc.payload_limit; current = c; system_time = sc.system_time; active = sc.active } in ap f (half_without d xs)

-- ---- the theorem

none_amount : (o : Options) (now saved : ℕ) (ss : List Stream) → Every (λ x. has_items x ≡ false → x.amount ≡ 0) (map (full o now saved) ss)
none_amount o now saved [] = tt
none_amount o now saved (s ∷ ss) = (
  (λ e. elim (split s.items) [
    | empty f ↦ full_amount o now saved s f
    | first i is f ↦ (let n : length s.items ≡ suc (length is) = ap length f in let l = full_length o now saved s in let h = has_some o now saved (full o now saved s) (omega arith) in let z : ◌≡◌ {A = ℕ} 0 1 = cc in absurd (omega arith))
  ]),
  none_amount o now saved ss,
)

module _ (q : Queue) (saved now : ℕ) (b : Bool) (w : Well q) (early : now ≤ max_time) (strict : any (mid_too_early q.options.strict_restart) (message_records saved q.streams) ≡ false) where
  xs : List Stream
  xs = map (full q.options now saved) q.streams

  d : ℕ
  d = q.options.default_priority

  sc : Scheduler
  sc = calm_scheduler q.options b none []

  same_queue : restored now (handover saved q) (blank q.options b) ≡ forget_plain (restored now (whole_handover saved q) (blank q.options b))
  unfolding restored handover whole_handover forget_plain blank restore_streams xs d sc
  same_queue =
      let f : ℕ → List Stream → Scheduler → Queue = λ t l s. record { options = q.options; interleaving = b; total = t; next_message_id = q.next_message_id; streams = l; scheduler = s } in
      let e : amounts (without_plain d xs) ≡ amounts xs = sum_same d (λ x. x.amount) xs (none_amount q.options now saved q.streams) in
      ap (λ (l : List Stream). f (amounts l) l (remember_half_sent b l (reschedule_each b has_items l sc))) (our_streams q.options now saved q.streams w.rising)
      ∙ ap₂ (λ (t : ℕ) (s : Scheduler). f t (without_plain d xs) s) e (ap (remember_half_sent b (without_plain d xs)) (each_without d b xs sc) ∙ remember_without d b xs (reschedule_each b has_items xs sc))
      ∙ ap (λ (l : List Stream). f (amounts l) (without_plain d l) (remember_half_sent b l (reschedule_each b has_items l sc))) (sym (rust_streams q.options now saved q.streams w.rising))

  restored_are : (restored now (handover saved q) (blank q.options b)).streams ≡ without_plain d xs
  unfolding restored handover blank restore_streams xs d
  restored_are = our_streams q.options now saved q.streams w.rising

  few : length (without_plain d xs) ≤ max_streams
  unfolding xs
  few =
      let a = length_sum (without_plain d xs) in let c = sum_without d (λ x. 1) xs in let e = length_sum xs in let f = length_map (full q.options now saved) q.streams in let g = w.streams_few in omega arith

  few_messages : waiting (without_plain d xs) ≤ max_messages
  unfolding xs
  few_messages =
      let c = sum_without d (λ x. length x.items) xs in
      let e = sum_map (full q.options now saved) (λ x. length x.items) (λ x. length x.items) q.streams (full_length q.options now saved) in let g = w.messages_few in omega arith

  few_bytes : occupied (without_plain d xs) ≤ q.options.store_length
  unfolding xs
  few_bytes =
      let c = sum_without d (λ x. payload_bytes x.items) xs in
      let e = sum_map (full q.options now saved) (λ x. payload_bytes x.items) (λ x. payload_bytes x.items) q.streams (full_payload q.options now saved) in let g = w.store_fits in omega arith

  before_passed : Passed (restore_checks q.options.store_length now (blank q.options b))
  unfolding blank is_nil
  before_passed = (ap not (eqb_true {a = q.options.store_length} refl), (ltb_false early, (refl, tt)))

  behind_passed : Passed (record_checks now (blank q.options b) (handover saved q))
  unfolding blank handover restored
  behind_passed =
      let r : Queue = restored now (handover saved q) (blank q.options b) in
      let h : (l : List Stream) → r.streams ≡ l → length l ≤ max_streams → waiting l ≤ max_messages → occupied l ≤ q.options.store_length
      → (ltb max_streams (length r.streams) || ltb max_messages (waiting r.streams) || ltb q.options.store_length (occupied r.streams)) ≡ false =
      λ l e x y z. ap (λ (v : List Stream). ltb max_streams (length v) || ltb max_messages (waiting v) || ltb q.options.store_length (occupied v)) e ∙ ap₂ ◌||◌ (ap₂ ◌||◌ (ltb_false x) (ltb_false y)) (ltb_false z) in
      (strict, (ap not (eqb_true {a = q.options.default_priority} refl), (h (without_plain d xs) restored_are few few_messages few_bytes, tt)))

  well_items : Every (λ (s : Stream). WellItems s.items) q.streams
  well_items = every_weaken Kept (λ (s : Stream). WellItems s.items) q.streams (λ s k. k.well_items) w.kept

  -- The stream that restoring remembers.
  begun_same : first_half_sent (restore_messages q.options now (message_records saved q.streams) (restore_streams q.options (map stream_record q.streams))) ≡ begun_stream (message_states saved q.streams)
  unfolding restore_streams
  begun_same = ap first_half_sent (rust_streams q.options now saved q.streams w.rising) ∙ full_begun q.options now saved q.streams well_items

  rust_same : restored now (whole_handover saved q) (blank q.options b) ≡ restore_remembering now (handover_state saved q) (blank q.options b)
  rust_same = rust_restores now saved q (blank q.options b) well_items (subst (λ (o : Options). first_half_sent (restore_messages o now (message_records saved q.streams) (restore_streams o (map stream_record q.streams))) ≡ begun_stream (message_states saved q.streams)) (sym (blank_options q.options b)) begun_same)

  accepted : Restore.restore q.options.store_length now (write_image saved q) (blank q.options b) ≡ reply done [] (forget_plain (restore_remembering now (handover_state saved q) (blank q.options b)))
  accepted =
      let q₀ : Queue = blank q.options b in
      let h : Handover = handover saved q in
      restore_of q.options.store_length now (write_image saved q) q₀
      ∙ checked_past (restore_checks q.options.store_length now q₀) q₀ (restore_read now q₀ (read_image (write_image saved q))) before_passed
      ∙ ap (restore_read now q₀) (read_write_image saved q (well_queue q w))
      ∙ read_some now q₀ h
      ∙ checked_past (record_checks now q₀ h) q₀ (reply done [] (restored now h q₀)) behind_passed
      ∙ ap (reply done []) (same_queue ∙ ap forget_plain rust_same)

pub fresh_blank : (o : Options) (b : Bool) → fresh o b ≡ blank o b
unfolding fresh step Calls.set_interleaving same_bool new_queue new_scheduler reschedule_each blank calm_scheduler
fresh_blank o true = refl
fresh_blank o false = refl

-- Demand 2 on images.
pub demand2_images : Demand2Images
unfolding Demand2Images
demand2_images o q saved now b r early =
    let e : q.options ≡ o = reachable_options r in
    subst (λ (p : Options). Restore.restore p.store_length now (write_image saved q) (fresh p b) ≡ reply done [] (forget_plain (restore_remembering now (handover_state saved q) (fresh p b)))) e
    (subst (λ (x : Queue). Restore.restore q.options.store_length now (write_image saved q) x ≡ reply done [] (forget_plain (restore_remembering now (handover_state saved q) x))) (sym (fresh_blank q.options b)) (accepted q saved now b (reachable_well r) early
    (subst (λ (p : Options). any (mid_too_early p.strict_restart) (message_records saved q.streams) ≡ false) (sym e) (strict_image r saved))))

-- ---- where the Rust is matched

set_forgets : (k n : ℕ) (w : Weight) (sc : Scheduler) → sc.current ≡ none → (set_bytes_remaining k n w sc).current ≡ none
unfolding set_bytes_remaining remove_stream forget
set_forgets k zero w sc e = ap (forget k) e
set_forgets k (suc n) w sc e = e

each_forgets : (il : Bool) (xs : List Stream) (sc : Scheduler) → sc.current ≡ none → (reschedule_each il has_items xs sc).current ≡ none
each_forgets il [] sc e = ap (λ (x : Scheduler). x.current) (each_nil il has_items sc) ∙ e
each_forgets il (x ∷ xs) sc e = ap (λ (y : Scheduler). y.current) (each_cons il has_items x xs sc) ∙ each_forgets il xs (if has_items x then reschedule il x sc else sc) (go (has_items x))
  where
    go : (b : Bool) → (if b then reschedule il x sc else sc).current ≡ none
    go true = ap (λ (y : Scheduler). y.current) (reschedule_of il x sc) ∙ set_forgets x.id (head_size x.items) (weight_of il x) sc e
    go false = e

-- With no half-sent message, or with interleaving, nothing is remembered, and the Rust's own restoring is the amended one.
pub matched_same : (o : Options) (now : ℕ) (b : Bool) (h : HandoverState) → Matched b h → restore_remembering now h (blank o b) ≡ restore_from_state now h (blank o b)
unfolding restore_remembering remembering restore_from_state blank calm_scheduler
matched_same o now true h m = refl
matched_same o now false h m =
    let sc : Scheduler = calm_scheduler o false none [] in
    let ss : List Stream = messages_from o now h.queued_messages (map (stream_from o) h.streams) in
    let rs : Scheduler = reschedule_each false has_items ss sc in
    let f : Option ℕ → Queue = λ c. record { options = o; interleaving = false; total = amounts ss; next_message_id = h.next_message_id; streams = ss; scheduler = record { payload_limit = rs.payload_limit; current = c; system_time = rs.system_time; active = rs.active } } in
    ap f (m ∙ sym (each_forgets false ss sc refl))

pub demand2_rust : Demand2Rust
unfolding Demand2Rust Demand2Images
demand2_rust o q saved now b r early m =
    demand2_images o q saved now b r early
    ∙ ap (λ (x : Queue). reply done [] (forget_plain x)) (ap (restore_remembering now (handover_state saved q)) (fresh_blank o b) ∙ matched_same o now b (handover_state saved q) m ∙ ap (restore_from_state now (handover_state saved q)) (sym (fresh_blank o b)))
