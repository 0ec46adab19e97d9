-- Adding a message is the model's step. Assumes nothing.
use mathlib.Core.Path.{◌≡◌, refl, sym, ap, ◌∙◌, subst}
use mathlib.Core.Bool.{Bool, true, false}
use mathlib.Core.List.{List, []}
use mathlib.Core.Option.{none, some, get_or}
use Prim.Native.Nat.{ℕ, ◌+◌, ◌-◌, ◌^◌, ◌≤◌, ◌<◌}
use native.Mathlib.Omega.{arith}
use borrow.Author.Tests.{lt-ltb, le-ltb, le-leb, lt-leb, ltb-false}
use lib.Dec.{ltb}
use lib.ListN.{length}
use Rattle.types.specs.Wrap.{wrap_suc}
use Rattle.queue_words.specs.Flags.{pick}
use Rattle.queue_words.specs.Header.{options_at, totals_at}
use Rattle.queue_words.specs.Items.{FitsItem}
use Rattle.queue_words.specs.Known.{id_at}
use Rattle.queue_words.specs.Streams.{stream_at_words, FitsStream}
use Rattle.queue_words.specs.declared.header.Totals.{Totals}
use Rattle.queue_words.specs.declared.streams.OutgoingStream.{OutgoingStream}
use Rattle.queue_words.proofs.Laws
use Rattle.queue_model.specs.Types.{Stream, Scheduler, Queue}
use Rattle.queue_model.specs.Types as plain
use Rattle.queue_model.specs.Scheduler.{find_active}
use Rattle.queue_model.specs.Streams.{some_items, has_items, stream_key, find_stream, put_stream, stream_at, too_many, with_message}
use Rattle.queue_model.specs.Refusals.{overflows}
use Rattle.queue_model.specs.Add.{new_item}
use Rattle.queue_model.specs.Add as plain_add
use Rattle.queue_model.specs.Run as run
use Rattle.queue_model.specs.Demands.{MessageTyped}
use Rattle.queue_model.proofs.Table.{Rising, rising_put, find_put_same, find_put_other, same_table, own, other, is_own}
use Rattle.queue_model.proofs.Invariant.Well.{Room, room, amount_le}
use Rattle.queue_model.proofs.Invariant.Fine.{total_le}
use Rattle.queue_model.proofs.FairTurns.Steps.{not_listed}
use Rattle.payload_store.specs.Words.{used_of}
use Rattle.payload_store.proofs.Goods.{used_fits}
use Rattle.stream_scheduler.specs.Link.{model_scheduler}
use Rattle.stream_scheduler.specs.Link as link
use Rattle.queue_streams.specs.Known.{new_stream_words, look_up, inserted}
use Rattle.queue_streams.specs.Call.{Accepted, Refused}
use Rattle.queue_streams.specs.Place.{Place}
use Rattle.queue_streams.specs.Place as place
use Rattle.queue_state.specs.Chains.{each}
use Rattle.queue_state.specs.Model.{next_of, item_in_words, pause_of, stream_of, row_at, options_of, stream_in, streams_in, model}
use Rattle.queue_state.specs.Good.{Shape, Good}
use Rattle.queue_state.specs.Promise.{Does}
use Rattle.queue_state.proofs.Chains.{linked_le, linked_none}
use Rattle.queue_state.proofs.Frames.{stream_is}
use Rattle.queue_state.proofs.Singles.{model_is, model_options, model_interleaving, model_total, model_next, model_streams, model_schedules}
use Rattle.queue_state.proofs.Looks.{Lookup, known_at_lem, new_at, lookup, stream_found, stream_new, not_too_many, too_many_new, look_row, look_new, look_full}
use Rattle.queue_state.proofs.Inserts.{Inserted, insert_link}
use Rattle.queue_state.proofs.Rooms.{AllKnown, all_known, rows_few, room_of, streams_rise}
use Rattle.queue_messages.specs.Message.{new_item_words, nanoseconds, retransmissions}
use Rattle.queue_messages.specs.Add.{arguments_code, broken_code, message_code, starts, Stored, appended, Added, added, add_to, add_in, add}
use Rattle.std.specs.Prelude.{Some, None}
use Rattle.queue_messages.specs.Message.{MaxRetransmissions}
use Rattle.queue_messages.specs.declared.message.Message.{Message}
use Rattle.linked_adding.specs.Message.{message_of_words, retransmissions_of}
use Rattle.linked_adding.proofs.Begins.{put_known, starts_none}
use Rattle.linked_adding.proofs.Joins.{Joined, joined}
use Rattle.linked_adding.proofs.Passes.{broken_none}
use Rattle.linked_adding.proofs.Refuses.{arguments_by, arguments_are, message_seven, message_eight, message_none, lost_six, store_model, refusal_is, does_refused, does_done}
use Rattle.queue_words.proofs.Finds.{by_lt}

-- ---- what is added fits its row

retransmissions_fit : (r : MaxRetransmissions) → get_or (retransmissions_of r) 0 < 2 ^ 16 → retransmissions r < 65536
retransmissions_fit None h = omega arith
retransmissions_fit (Some n) h = h

pub item_fits : (ws : List ℕ) (time : ℕ) (m : Message) (bs : List ℕ) → MessageTyped (message_of_words m bs) → FitsItem (new_item_words time (totals_at ws).next_message_id m)
unfolding new_item_words
item_fits ws time m bs t = record {
  ssn_fits = omega arith;
  retransmissions_fits = retransmissions_fit m.max_retransmissions t.max_retransmissions;
  message_id_fits = (Laws.totals_at_fits ws).message_id_fits;
  ppid_fits = t.ppid;
  mid_fits = omega arith;
  fsn_fits = omega arith;
}

-- ---- a stream set twice

put_twice : (x y : Stream) (ss : List Stream) → Rising stream_key ss → x.id ≡ y.id → put_stream x (put_stream y ss) ≡ put_stream x ss
put_twice x y ss r e =
    same_table stream_key (put_stream x (put_stream y ss)) (put_stream x ss) (rising_put stream_key x (put_stream y ss) (rising_put stream_key y ss r)) (rising_put stream_key x ss r)
    (λ k. elim (is_own stream_key x k) [
      | own f ↦ subst (λ (j : ℕ). find_stream j (put_stream x (put_stream y ss)) ≡ find_stream j (put_stream x ss)) f (find_put_same stream_key x (put_stream y ss) ∙ sym (find_put_same stream_key x ss))
      | other n ↦ find_put_other stream_key k x (put_stream y ss) n ∙ find_put_other stream_key k y ss (λ f. n (e ∙ f)) ∙ sym (find_put_other stream_key k x ss n)
    ])

-- ---- the model's queue, by the words' parts

added_is : (ws st : List ℕ) (time : ℕ) (m : plain.Message) (s : Stream) (us ut : List ℕ) → stream_at (model ws st) m.stream_id ≡ s
    → options_at us ≡ options_at ws → (totals_at us).interleaving ≡ (totals_at ws).interleaving → (totals_at us).total ≡ (totals_at ws).total + length m.payload
    → (totals_at us).next_message_id.0 ≡ wrap_suc 32 (totals_at ws).next_message_id.0
    → streams_in us ut ≡ put_stream (with_message s (new_item time (totals_at ws).next_message_id.0 m)) (streams_in ws st)
    → model_scheduler us ≡ plain_add.started (totals_at ws).interleaving s (with_message s (new_item time (totals_at ws).next_message_id.0 m)) (model_scheduler ws)
    → model us ut ≡ plain_add.added time m (model ws st)
unfolding plain_add.added
added_is ws st time m s us ut e eo ei et en es ec =
    let q : Queue = model ws st in
    model_is us ut q.options q.interleaving (q.total + length m.payload) (wrap_suc 32 q.next_message_id)
    (put_stream (with_message (stream_at q m.stream_id) (new_item time q.next_message_id m)) q.streams)
    (plain_add.started q.interleaving (stream_at q m.stream_id) (with_message (stream_at q m.stream_id) (new_item time q.next_message_id m)) q.scheduler)
    (ap options_of eo ∙ sym (model_options ws st))
    (ei ∙ sym (model_interleaving ws st))
    (et ∙ ap (λ n. n + length m.payload) (sym (model_total ws st)))
    (en ∙ ap (wrap_suc 32) (sym (model_next ws st)))
    (es ∙ rw (e, model_next ws st, model_streams ws st))
    (ec ∙ rw (e, model_next ws st, model_interleaving ws st, model_schedules ws st))

no_overflow : (q : Queue) (s : Stream) (n : ℕ) → q.total + n ≤ 18446744073709551615 → s.amount + n ≤ 18446744073709551615 → overflows q s n ≡ false
unfolding overflows
no_overflow q s n a b = rw (le-ltb 18446744073709551615 (q.total + n) a, le-ltb 18446744073709551615 (s.amount + n) b)

-- ---- the call

-- What an accepted message has passed.
pub record Passed (ws st : List ℕ) (bs : List ℕ) : Type 0 where
  pub some_bytes : 1 ≤ length bs
  pub few_bytes : length bs ≤ 262144
  pub room_left : used_of ws + length bs ≤ length st
  pub place_left : (totals_at ws).waiting < 1024

arguments_past : (a b : Bool) (n : ℕ) → ltb 0 (arguments_by a b (ltb n 1) (ltb 262144 n)) ≡ false → (1 ≤ n) × (n ≤ 262144)
arguments_past a b n e = go a b (ltb n 1) refl (ltb 262144 n) refl e
  where
    go : (a b c : Bool) → ltb n 1 ≡ c → (d : Bool) → ltb 262144 n ≡ d → ltb 0 (arguments_by a b c d) ≡ false → (1 ≤ n) × (n ≤ 262144)
    go true b c ec d ed e = let z : ◌≡◌ {A = ℕ} 0 1 = cc in absurd (omega arith)
    go false true c ec d ed e = let z : ◌≡◌ {A = ℕ} 0 1 = cc in absurd (omega arith)
    go false false true ec d ed e = let z : ◌≡◌ {A = ℕ} 0 1 = cc in absurd (omega arith)
    go false false false ec true ed e = let z : ◌≡◌ {A = ℕ} 0 1 = cc in absurd (omega arith)
    go false false false ec false ed e = (ltb-false n 1 ec, ltb-false 262144 n ed)

module _ (ws st : List ℕ) (g : Good ws st) (time : ℕ) (m : Message) (bs : List ℕ) (ht : time < 2 ^ 64) (typed : MessageTyped (message_of_words m bs)) where
  abbrev q : Queue
  q = model ws st

  abbrev id : ℕ
  id = m.stream_id.0

  abbrev call : run.Call
  call = run.add (length st) time (message_of_words m bs)

  sizes : Room q.options
  sizes = room q.options g.well.creation

  store_small : length st ≤ 2000000
  store_small = omega (arith, store_model ws st g time m bs, sizes.store_high)

  -- no sum is too large
  total_fits : length bs ≤ 262144 → (totals_at ws).total + length bs ≤ 18446744073709551615
  total_fits h = omega (arith, total_le q g.well, g.well.store_fits, sizes.store_high, model_total ws st)

  amount_fits : length bs ≤ 262144 → (stream_at q id).amount + length bs ≤ 18446744073709551615
  amount_fits h = omega (arith, amount_le q id g.well, total_le q g.well, g.well.store_fits, sizes.store_high)

  -- a stream without messages does not wait
  idle_model : (stream_at q id).items ≡ [] → find_active id (model_scheduler ws).active ≡ none
  unfolding has_items some_items
  idle_model e = subst (λ (sc : Scheduler). find_active id sc.active ≡ none) (model_schedules ws st) (not_listed q id g.well (ap some_items e))

  listed_all : AllKnown ws st
  listed_all = all_known ws st g.well

  -- ---- past the stream's place: both kinds of streams
  module _ (s : OutgoingStream) (next : Stored) (past : ltb 0 (arguments_code ws (length st) time m.lifetime (length bs)) ≡ false) (known : too_many q id ≡ false)
      (unbroken : Passed ws st bs → broken_code ws (length st) s (length bs) ≡ 0)
      (meets : Passed ws st bs → (Shape next.words next.store) × (length next.store ≡ length st) × (options_at next.words ≡ options_at ws) × (model next.words next.store ≡ plain_add.added time (message_of_words m bs) q)) where
    abbrev result : Added
    result = pick (ltb 0 (message_code ws (length st) s (length bs))) (added (Refused (message_code ws (length st) s (length bs))) ws st) (added (Accepted 0) next.words next.store)

    bytes : (1 ≤ length bs) × (length bs ≤ 262144)
    bytes =
        arguments_past (ltb 4611686018427387903 time) (ltb 4611686018427387903 (nanoseconds m.lifetime)) (length bs)
        (sym (ap (ltb 0) (arguments_are ws (length st) time m.lifetime (length bs) g.store_is)) ∙ past)

    used_in : used_of ws ≤ length st
    used_in = used_fits ws st _ g.shape.lay

    seven : 1023 < (totals_at ws).waiting → Does call ws st result.answer result.words result.store
    seven h =
        rw (message_seven ws (length st) s (length bs) h)
        (does_refused ws st g time m bs 7 (refusal_is ws st g time m bs ∙ rw (past, known, lt-ltb 1023 (totals_at ws).waiting h)))

    eight : (totals_at ws).waiting ≤ 1023 → length st - used_of ws < length bs → Does call ws st result.answer result.words result.store
    eight h k =
        rw (message_eight ws (length st) s (length bs) h k)
        (does_refused ws st g time m bs 8 (refusal_is ws st g time m bs ∙ rw (past, known, le-ltb 1023 (totals_at ws).waiting h, lt-ltb (length st - used_of ws) (length bs) k)))

    accepted : (totals_at ws).waiting ≤ 1023 → length bs ≤ length st - used_of ws → Does call ws st result.answer result.words result.store
    accepted h k =
        let p : Passed ws st bs = record { some_bytes = bytes.0; few_bytes = bytes.1; room_left = omega (arith, used_in); place_left = omega arith } in
        let n = meets p in
        rw (message_none ws (length st) s (length bs) h k (unbroken p))
        (does_done ws st g time m bs ht (omega (arith, store_small)) typed next.words next.store
        (refusal_is ws st g time m bs ∙ rw (past, known, le-ltb 1023 (totals_at ws).waiting h, le-ltb (length st - used_of ws) (length bs) k, no_overflow q (stream_at q id) (length bs) (rw (model_total ws st) (total_fits bytes.1)) (amount_fits bytes.1)))
        n.0 n.1 n.2 n.3)

    placed_link : Does call ws st result.answer result.words result.store
    placed_link = by_lt 1023 (totals_at ws).waiting seven (λ h. by_lt (length st - used_of ws) (length bs) (eight h) (accepted h))

  -- ---- a known stream, in position i
  module _ (i : ℕ) (hk : i < (totals_at ws).known) (id_is : id_at ws i ≡ id) (found : find_stream id (streams_in ws st) ≡ some (stream_in ws st i)) where
    at_is : stream_at q id ≡ stream_in ws st i
    at_is = stream_found ws st id (stream_in ws st i) found

    amount_row : (stream_in ws st i).amount ≡ (stream_at_words ws (row_at ws i)).buffered_amount
    unfolding stream_in
    amount_row = refl

    row_amount : length bs ≤ 262144 → (stream_at_words ws (row_at ws i)).buffered_amount + length bs ≤ 18446744073709551615
    row_amount h = omega (arith, amount_fits h, ap (λ (x : Stream). x.amount) at_is, amount_row)

    -- a stream that begins to wait has no messages, and so does not wait yet
    idle : starts (stream_at_words ws (row_at ws i)) ≡ true → find_active id (model_scheduler ws).active ≡ none
    idle e =
        let k : (stream_at_words ws (row_at ws i)).first ≡ 1024 = omega (arith, starts_none (stream_at_words ws (row_at ws i)) e, linked_le (next_of ws) (stream_at_words ws (row_at ws i)).first (g.shape.q i) (g.shape.rows i hk).linked) in
        let z : g.shape.q i ≡ [] = linked_none (next_of ws) (stream_at_words ws (row_at ws i)).first (g.shape.q i) (g.shape.rows i hk).linked k in
        idle_model (ap (λ (x : Stream). x.items) (at_is ∙ stream_is ws st g.shape i hk) ∙ ap (each (item_in_words ws st)) z)

    known_unbroken : Passed ws st bs → broken_code ws (length st) (stream_at_words ws (row_at ws i)) (length bs) ≡ 0
    known_unbroken p =
        broken_none ws st g.shape id (stream_at_words ws (row_at ws i)) bs (g.shape.q i) p.place_left p.room_left (total_fits p.few_bytes) (row_amount p.few_bytes) (g.shape.rows i hk)
        (room_of ws st g.shape listed_all id (stream_in ws st i, found)) idle

    joins : Passed ws st bs → Joined ws st i time m bs (appended ws st time m bs (row_at ws i) (stream_at_words ws (row_at ws i))).words (appended ws st time m bs (row_at ws i) (stream_at_words ws (row_at ws i))).store
    joins p =
        joined ws st g.shape listed_all i hk time m bs id_is (item_fits ws time m bs typed) p.some_bytes p.room_left (total_fits p.few_bytes) (row_amount p.few_bytes) p.place_left idle

    add_known : ltb 0 (arguments_code ws (length st) time m.lifetime (length bs)) ≡ false
        → Does call ws st (add_to ws st time m bs (place.Row (row_at ws i))).answer (add_to ws st time m bs (place.Row (row_at ws i))).words (add_to ws st time m bs (place.Row (row_at ws i))).store
    unfolding add_to
    add_known past =
        placed_link (stream_at_words ws (row_at ws i)) (appended ws st time m bs (row_at ws i) (stream_at_words ws (row_at ws i))) past (not_too_many ws st id (stream_in ws st i) found)
        known_unbroken
        (λ p. let j = joins p in (j.shape, j.store, j.options, added_is ws st time (message_of_words m bs) (stream_in ws st i) _ _ at_is j.options j.interleaving j.total j.next_id j.streams j.scheduler))

  -- ---- a new stream, that belongs at position p
  module _ (p : ℕ) (hp : p ≤ (totals_at ws).known) (few : (totals_at ws).known < 256) (lo : (j : ℕ) → j < p → id_at ws j < id) (hi : (j : ℕ) → p ≤ j → j < (totals_at ws).known → id < id_at ws j)
      (missing : find_stream id (streams_in ws st) ≡ none) where
    abbrev fresh : OutgoingStream
    fresh = new_stream_words (options_at ws)

    abbrev us : List ℕ
    us = inserted ws p id (new_stream_words (options_at ws))

    fresh_fits : FitsStream fresh
    fresh_fits = record { priority_fits = (Laws.options_at_fits ws).priority_fits; ssn_fits = omega arith; unordered_mid_fits = omega arith; ordered_mid_fits = omega arith }

    ins : Inserted ws st g.shape p id fresh us
    ins = insert_link ws st g.shape p id fresh hp few lo hi typed.stream_id fresh_fits refl refl

    -- the model's new stream
    new_is : stream_at q id ≡ stream_of id fresh []
    unfolding pause_of
    new_is = stream_new ws st id missing

    in_us : stream_in us st p ≡ stream_of id fresh []
    in_us =
        let h : p < (totals_at us).known = omega (arith, ap (λ (t : Totals). t.known) ins.totals_is) in
        let e : stream_at_words us (row_at us p) ≡ fresh = rw ins.row_is ins.stream_is in
        stream_is us st ins.shape p h ∙ rw (ins.id_is, e, ins.q_here)

    listed_us : AllKnown us st
    listed_us = (put_known ws st us st (stream_of id fresh []) ins.streams ins.scheduler_is listed_all).0

    idle_new : find_active id (model_scheduler ws).active ≡ none
    idle_new = idle_model (ap (λ (x : Stream). x.items) new_is)

    row_us : stream_at_words us (row_at us p) ≡ fresh
    row_us = rw ins.row_is ins.stream_is

    joins_new : Passed ws st bs → Joined us st p time m bs (appended us st time m bs (totals_at ws).known fresh).words (appended us st time m bs (totals_at ws).known fresh).store
    joins_new k =
        let t : totals_at us ≡ _ = ins.totals_is in
        let ku : p < (totals_at us).known = omega (arith, ap (λ (x : Totals). x.known) t) in
        let uu : used_of us ≡ used_of ws = ap (λ (x : Totals). x.used) t in
        let ut : (totals_at us).total ≡ (totals_at ws).total = ap (λ (x : Totals). x.total) t in
        let uw : (totals_at us).waiting ≡ (totals_at ws).waiting = ap (λ (x : Totals). x.waiting) t in
        let ua : (stream_at_words us (row_at us p)).buffered_amount ≡ 0 = ap (λ (x : OutgoingStream). x.buffered_amount) row_us in
        let j = joined us st ins.shape listed_us p ku time m bs ins.id_is (item_fits us time m bs typed) k.some_bytes (omega (arith, k.room_left)) (omega (arith, total_fits k.few_bytes)) (omega (arith, k.few_bytes)) (omega (arith, k.place_left)) (λ e. ap (λ (sc : Scheduler). find_active id sc.active) ins.scheduler_is ∙ idle_new) in
        subst (λ r. Joined us st p time m bs (appended us st time m bs r fresh).words (appended us st time m bs r fresh).store) ins.row_is
        (subst (λ x. Joined us st p time m bs (appended us st time m bs (row_at us p) x).words (appended us st time m bs (row_at us p) x).store) row_us j)

    model_new : (vs vt : List ℕ) → Joined us st p time m bs vs vt → model vs vt ≡ plain_add.added time (message_of_words m bs) q
    model_new vs vt j =
        let t : totals_at us ≡ _ = ins.totals_is in
        let ei : (totals_at us).interleaving ≡ (totals_at ws).interleaving = ap (λ (x : Totals). x.interleaving) t in
        let et : (totals_at us).total ≡ (totals_at ws).total = ap (λ (x : Totals). x.total) t in
        let en : (totals_at us).next_message_id.0 ≡ (totals_at ws).next_message_id.0 = ap (λ (x : Totals). x.next_message_id.0) t in
        let s : Stream = stream_of id fresh [] in
        let i : plain.Item = new_item time (totals_at ws).next_message_id.0 (message_of_words m bs) in
        let es : streams_in vs vt ≡ put_stream (with_message s i) (put_stream s (streams_in ws st)) = j.streams ∙ rw (en, in_us, ins.streams) in
        added_is ws st time (message_of_words m bs) s vs vt new_is (j.options ∙ ins.options_is) (j.interleaving ∙ ei) (j.total ∙ ap (λ n. n + length bs) et) (j.next_id ∙ ap (wrap_suc 32) en)
        (es ∙ put_twice (with_message s i) s (streams_in ws st) (streams_rise ws st g.shape) refl)
        (j.scheduler ∙ rw (ei, en, in_us, ins.scheduler_is))

    new_unbroken : Passed ws st bs → broken_code ws (length st) fresh (length bs) ≡ 0
    new_unbroken k =
        broken_none ws st g.shape id fresh bs [] k.place_left k.room_left (total_fits k.few_bytes) (omega (arith, k.few_bytes)) (record { linked = refl; last_is = refl })
        (link.free (omega (arith, rows_few ws st g.shape listed_all))) (λ e. idle_new)

    add_new : ltb 0 (arguments_code ws (length st) time m.lifetime (length bs)) ≡ false
        → Does call ws st (add_to ws st time m bs (place.New p)).answer (add_to ws st time m bs (place.New p)).words (add_to ws st time m bs (place.New p)).store
    unfolding add_to
    add_new past =
        placed_link fresh (appended us st time m bs (totals_at ws).known fresh) past
        (too_many_new ws st id g.shape missing ∙ lt-leb 256 (totals_at ws).known few)
        new_unbroken
        (λ k. let j = joins_new k in (j.shape, j.store, j.options ∙ ins.options_is, model_new _ _ j))

  -- ---- where 16 is not given: the stream has a place with which the message is not refused, or is the 257th
  abbrev pub Sound : Place → Type 0
  Sound (place.Row row) = broken_code ws (length st) (stream_at_words ws row) (length bs) ≡ 0
  Sound (place.New position) = broken_code ws (length st) (new_stream_words (options_at ws)) (length bs) ≡ 0
  Sound (place.Refused code) = code ≡ 6

  sound : Passed ws st bs → Lookup ws st id → Sound (look_up ws id)
  sound k (known_at_lem i h e f s) = rw (look_row ws id i (row_at ws i) f) (known_unbroken i h e s k)
  sound k (new_at p h lo hi f s) = by_lt (totals_at ws).known 256
      (λ few. rw (look_new ws id p f few) (new_unbroken p h few lo hi s k))
      (λ full. rw (look_full ws id p f full) refl)

  pub place_sound : Passed ws st bs → Sound (look_up ws id)
  place_sound k = sound k (lookup ws st g.shape id)

  -- ---- the whole call
  add_placed : ltb 0 (arguments_code ws (length st) time m.lifetime (length bs)) ≡ false → Lookup ws st id
      → Does call ws st (add_in ws st time m bs (look_up ws id)).answer (add_in ws st time m bs (look_up ws id)).words (add_in ws st time m bs (look_up ws id)).store
  add_placed past (known_at_lem i h e f s) = rw (look_row ws id i (row_at ws i) f) (add_known i h e s past)
  add_placed past (new_at p h lo hi f s) = by_lt (totals_at ws).known 256
      (λ few. rw (look_new ws id p f few) (add_new p h few lo hi s past))
      (λ full. rw (look_full ws id p f full, lost_six ws (length st) (length bs))
      (does_refused ws st g time m bs 6 (refusal_is ws st g time m bs ∙ rw (past, too_many_new ws st id g.shape s, le-leb 256 (totals_at ws).known full))))

  -- by the test on the arguments
  abbrev whole : Bool → Added
  whole b = pick b (added (Refused (arguments_code ws (length st) time m.lifetime (length bs))) ws st) (add_in ws st time m bs (look_up ws id))

  add_by : (b : Bool) → ltb 0 (arguments_code ws (length st) time m.lifetime (length bs)) ≡ b → Does call ws st (whole b).answer (whole b).words (whole b).store
  add_by true e = does_refused ws st g time m bs (arguments_code ws (length st) time m.lifetime (length bs)) (refusal_is ws st g time m bs ∙ rw e)
  add_by false e = add_placed e (lookup ws st g.shape id)

  pub add_link : Does call ws st (add ws st time m bs).answer (add ws st time m bs).words (add ws st time m bs).store
  unfolding add
  add_link = add_by (ltb 0 (arguments_code ws (length st) time m.lifetime (length bs))) refl
