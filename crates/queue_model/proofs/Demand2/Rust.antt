-- What a handover record with every stream restores is what the Rust restores from its own record. Assumes nothing.
use mathlib.Core.Path.{◌≡◌, refl, ap, ap₂, ◌∙◌}
use mathlib.Core.Bool.{Bool, true, false}
use mathlib.Core.List.{List, [], ◌∷◌, ◌++◌, map}
use mathlib.Core.Option.{Option, none, some, get_or}
use Prim.Native.Nat.{ℕ, ◌+◌, ◌*◌, min}
use native.Mathlib.Omega.{arith}
use lib.ListN.{length}
use Rattle.queue_model.specs.Logic.{is_some}
use Rattle.queue_model.specs.Types.{Item, Stream, Options, Queue, with_state}
use Rattle.queue_model.specs.Streams.{amounts, at, with_message, has_items, put_stream, reschedule_each}
use Rattle.queue_model.specs.Image.{Handover, MessageRecord, message_record, message_records, ms_left_at, stream_record}
use Rattle.queue_model.specs.Reader.{has_flag}
use Rattle.queue_model.specs.Restore.{give, first_half_sent, remember_half_sent, restored, restore_message, restore_messages, restore_streams, restored_item, restored_stream}
use Rattle.queue_model.specs.RustHandover.{begun_stream, remembering, restore_remembering, StreamMessageState, expires_from, expires_in, handover_state, item_from, message_state, message_states, messages_from, restore_from_state, ssn_state, stream_from, stream_state}
use Rattle.queue_model.proofs.Table.{Every}
use Rattle.queue_model.proofs.Image.Saved.{flags, flags_read}
use Rattle.queue_model.proofs.Invariant.Messages.{WellItem, WellRest, WellItems}

-- The model's handover record with a record for every known stream.
unfoldable pub whole_handover : ℕ → Queue → Handover
whole_handover now q = record { next_message_id = q.next_message_id; default_priority = q.options.default_priority; streams = map stream_record q.streams; messages = message_records now q.streams }

-- ---- one message

pub mid_back : (b : Bool) (m : Option ℕ) → b ≡ is_some m → give b (get_or m 0) ≡ m
unfolding give is_some
mid_back b none e = ap (λ (x : Bool). give x 0) e
mid_back b (some n) e = ap (λ (x : Bool). give x n) e

expiry_back : (b : Bool) (now saved : ℕ) (t : Option ℕ) → b ≡ is_some t → give b (now + ms_left_at saved t * 1000000) ≡ expires_from now (expires_in saved t)
unfolding give is_some ms_left_at expires_from expires_in
expiry_back b now saved none e = ap (λ (x : Bool). give x (now + 0 * 1000000)) e
expiry_back b now saved (some t) e = ap (λ (x : Bool). give x (now + ms_left_at saved (some t) * 1000000)) e

ssn_back : (u : Bool) (m : Option ℕ) (n : ℕ) → (m ≡ none → n ≡ 0) → (u ≡ true → n ≡ 0) → n ≡ get_or (ssn_state u m n) 0
unfolding ssn_state
ssn_back u none n h k = h refl
ssn_back true (some m) n h k = k refl
ssn_back false (some m) n h k = refl

make_item : Item → Bool → Option ℕ → Option ℕ → ℕ → ℕ → Item
make_item i u e m s o = record { message_id = i.message_id; ppid = i.ppid; unordered = u; max_retransmissions = i.max_retransmissions; expires_at = e; lifecycle_id = i.lifecycle_id; payload = i.payload; offset = o; mid = m; ssn = s; fsn = i.fsn }

item_same : (now saved k : ℕ) (i : Item) → WellItem i → restored_item now (message_record saved k i) ≡ item_from now (message_state saved k i)
unfolding restored_item message_record item_from message_state make_item flags
item_same now saved k i w =
    let f = flags_read i.unordered (is_some i.mid) (is_some i.expires_at) in
    ap₂ (λ (u : Bool) (e : Option ℕ). make_item i u e (give (has_flag 2 (message_record saved k i).flags) (get_or i.mid 0)) i.ssn i.offset) f.reads_unordered (expiry_back (has_flag 4 (message_record saved k i).flags) now saved i.expires_at f.reads_lifetime)
    ∙ ap₂ (λ (m : Option ℕ) (s : ℕ). make_item i i.unordered (expires_from now (expires_in saved i.expires_at)) m s i.offset) (mid_back (has_flag 2 (message_record saved k i).flags) i.mid f.reads_mid) (ssn_back i.unordered i.mid i.ssn w.no_ssn w.unordered_ssn)
    ∙ (let u = w.unsent in let o : i.offset ≡ min i.offset (length i.payload) = omega arith in
    ap (λ (x : ℕ). make_item i i.unordered (expires_from now (expires_in saved i.expires_at)) i.mid (get_or (ssn_state i.unordered i.mid i.ssn) 0) x) o)

-- ---- all messages

rest_items : (is : List Item) → WellRest is → Every WellItem is
rest_items [] w = tt
rest_items (i ∷ is) w = (w.0, rest_items is w.1.1)

all_items : (is : List Item) → WellItems is → Every WellItem is
all_items [] w = tt
all_items (i ∷ is) w = (w.0, rest_items is w.1)

module _ (o : Options) (now saved : ℕ) where
  -- A stream's messages, and what is behind them.
  items_same : (k : ℕ) (is : List Item) → Every WellItem is → (rs : List MessageRecord) (ts : List StreamMessageState) → ((xs : List Stream) → restore_messages o now rs xs ≡ messages_from o now ts xs)
      → (xs : List Stream) → restore_messages o now (map (message_record saved k) is ++ rs) xs ≡ messages_from o now (map (message_state saved k) is ++ ts) xs
  unfolding restore_messages restore_message messages_from message_record message_state
  items_same k [] w rs ts ih xs = ih xs
  items_same k (i ∷ is) w rs ts ih xs =
      ap (λ (j : Item). restore_messages o now (map (message_record saved k) is ++ rs) (put_stream (with_message (at o xs k) j) xs)) (item_same now saved k i w.0)
      ∙ items_same k is w.1 rs ts ih (put_stream (with_message (at o xs k) (item_from now (message_state saved k i))) xs)

  messages_same : (ss : List Stream) → Every (λ (s : Stream). WellItems s.items) ss → (xs : List Stream) → restore_messages o now (message_records saved ss) xs ≡ messages_from o now (message_states saved ss) xs
  unfolding message_records message_states
  messages_same [] w xs = unfold restore_messages messages_from in refl
  messages_same (s ∷ ss) w xs = items_same s.id s.items (all_items s.items w.0) (message_records saved ss) (message_states saved ss) (messages_same ss w.1) xs

  streams_same : (ss : List Stream) → restore_streams o (map stream_record ss) ≡ map (stream_from o) (map stream_state ss)
  unfolding restore_streams restored_stream stream_record stream_from stream_state
  streams_same [] = refl
  streams_same (s ∷ ss) = ap (λ (l : List Stream). stream_from o (stream_state s) ∷ l) (streams_same ss)

-- ---- the queue

-- The streams of both.
pub rust_list : (o : Options) (now saved : ℕ) (ss : List Stream) → Every (λ (s : Stream). WellItems s.items) ss
    → restore_messages o now (message_records saved ss) (restore_streams o (map stream_record ss)) ≡ messages_from o now (message_states saved ss) (map (stream_from o) (map stream_state ss))
rust_list o now saved ss w = ap (restore_messages o now (message_records saved ss)) (streams_same o now saved ss) ∙ messages_same o now saved ss w (map (stream_from o) (map stream_state ss))

-- A scheduler that remembers, on both sides.
both_remember : (il : Bool) (k : Option ℕ) (ss : List Stream) (q : Queue) → (il ≡ false → first_half_sent ss ≡ k) → with_state q q.total q.streams (remember_half_sent il ss q.scheduler) ≡ remembering il k q
unfolding remember_half_sent remembering
both_remember true k ss q e = refl
both_remember false k ss q e =
    let f : Option ℕ → Queue = λ c. with_state q q.total q.streams (record { payload_limit = q.scheduler.payload_limit; current = c; system_time = q.scheduler.system_time; active = q.scheduler.active }) in
    ap f (e refl)

pub rust_restores : (now saved : ℕ) (q r : Queue) → Every (λ (s : Stream). WellItems s.items) q.streams
    → first_half_sent (restore_messages r.options now (message_records saved q.streams) (restore_streams r.options (map stream_record q.streams))) ≡ begun_stream (message_states saved q.streams)
    → restored now (whole_handover saved q) r ≡ restore_remembering now (handover_state saved q) r
unfolding restored whole_handover restore_remembering restore_from_state handover_state
rust_restores now saved q r w e =
    let l : List Stream = restore_messages r.options now (message_records saved q.streams) (restore_streams r.options (map stream_record q.streams)) in
    let f : List Stream → Queue = λ l. record { options = r.options; interleaving = r.interleaving; total = amounts l; next_message_id = q.next_message_id; streams = l; scheduler = reschedule_each r.interleaving has_items l r.scheduler } in
    both_remember r.interleaving (begun_stream (message_states saved q.streams)) l (f l) (λ g. e)
    ∙ ap (λ (x : List Stream). remembering r.interleaving (begun_stream (message_states saved q.streams)) (f x)) (rust_list r.options now saved q.streams w)
