-- The fragment of the chosen message is the model's. Assumes nothing.
use mathlib.Core.Path.{◌≡◌, refl, sym, ap, ◌∙◌, subst}
use mathlib.Core.Bool.{false}
use mathlib.Core.List.{List, [], ◌∷◌, ◌++◌}
use mathlib.Core.Option.{some}
use Prim.Native.Nat.{ℕ, ◌+◌, ◌-◌, ◌≤◌, ◌<◌, min}
use native.Mathlib.Omega.{arith}
use borrow.Author.Tests.{lt-ltb, le-ltb, eq-eqb, ne_eqb}
use lib.ListN.{length, take, drop, length-append}
use Rattle.queue_words.specs.Flags.{pick}
use Rattle.queue_words.specs.Active.{active_at}
use Rattle.queue_words.specs.Header.{options_at, totals_at}
use Rattle.queue_words.specs.Items.{are_given, item_at}
use Rattle.queue_words.specs.Known.{id_at}
use Rattle.queue_words.specs.Streams.{stream_at_words}
use Rattle.queue_words.specs.declared.header.Totals.{Totals}
use Rattle.queue_words.specs.declared.items.Item.{Item}
use Rattle.queue_words.specs.declared.streams.OutgoingStream.{OutgoingStream}
use Rattle.queue_model.specs.Types.{Stream, Event, Step, Fragment, fragment, reply, remaining, with_items, model_with_pause, with_counters}
use Rattle.queue_model.specs.Types as plain
use Rattle.queue_model.specs.Amounts.{total_falls, stream_falls, total_low, stream_low, sent_events}
use Rattle.queue_model.specs.Refusals.{short_of, short_of_head}
use Rattle.queue_model.specs.Produce.{Numbered, numbered, make_fragment, moved_on, end_pending, next_size, handed_out_last, handed_out_part, handed_out, hand_out}
use Rattle.queue_model.specs.Scheduler.{accept, set_bytes_remaining}
use Rattle.queue_model.specs.Streams.{put_stream, weight_of}
use Rattle.queue_model.proofs.Invariant.Sends.{Chosen, handed_well}
use Rattle.payload_store.specs.Good.{payload_of}
use Rattle.payload_store.specs.Reading.{read_code, read_part}
use Rattle.payload_store.specs.Words.{gaps_of}
use Rattle.payload_store.proofs.Cases.{by_index}
use Rattle.payload_store.proofs.Reading.{read_law}
use Rattle.stream_scheduler.specs.Link.{entry_at, model_scheduler}
use Rattle.stream_scheduler.specs.Words.{accept_at}
use Rattle.queue_streams.specs.Events.{event_words, written}
use Rattle.message_chains.specs.Amounts.{rest}
use Rattle.message_chains.specs.Heads.{head_code, without_head, sent_notes}
use Rattle.queue_sending.specs.Data.{data_to_send, ProducedWith, produced_with}
use Rattle.message_chains.specs.Dropping.{end_pending_words}
use Rattle.queue_sending.specs.Fragment.{least_of, send_code, finished, less_amount, went_on_words, went_further, written_sent, sent, chosen_code, handed_out_words}
use Rattle.queue_sending.specs.Produce.{refusal}
use Rattle.queue_sending.specs.Numbers.{numbered_item, numbered_stream, moved_on_words}
use Rattle.queue_sending.specs.Produced as produced
use Rattle.queue_state.specs.Chains.{each}
use Rattle.queue_state.specs.Model.{next_of, item_of, item_in_words, options_of, pause_of, stream_of, row_at, stream_in, streams_in, model}
use Rattle.queue_state.specs.Good.{Shape, Good}
use Rattle.queue_state.proofs.Frames.{row_below, stream_is}
use Rattle.queue_state.proofs.Singles.{model_is, model_total}
use Rattle.queue_state.proofs.Notes.{listed, sent_noted, written_append, written_length}
use Rattle.queue_state.proofs.Sums.{item_length}
use Rattle.queue_state.proofs.Heads.{head_may}
use Rattle.queue_state.proofs.Rooms.{all_known}
use Rattle.linked_sending.specs.Meaning.{Sends, data_of}
use Rattle.linked_sending.proofs.Looking.{Choice}
use Rattle.linked_sending.proofs.Numbering.{Numbers, numbers, renumbered, moved_is, data_is, part_length}
use Rattle.linked_sending.proofs.Enough.{item_payload, stream_amount, rest_is, rest_in_amount, amount_in_total, offset_below, length_small}
use Rattle.linked_sending.proofs.Part.{went_part}
use Rattle.linked_sending.proofs.Last.{the_finished, end_state}
use Rattle.queue_words.proofs.Finds.{by_lt}

pub least_is : (a b : ℕ) → least_of a b ≡ min a b
unfolding least_of
least_is a b = by_lt a b (λ h. rw (lt-ltb a b h) (omega arith)) (λ h. rw (le-ltb a b h) (omega arith))

entry_bytes : (ws : List ℕ) (at : ℕ) → (entry_at ws at).bytes_remaining ≡ (active_at ws at).bytes_remaining
unfolding entry_at
entry_bytes ws at = refl

module _ (ws st : List ℕ) (g : Good ws st) (at : ℕ) (c : Choice ws st g.shape at) where
  abbrev s : OutgoingStream
  s = stream_at_words ws (row_at ws c.pos)

  abbrev m : Item
  m = item_at ws c.first

  abbrev s' : OutgoingStream
  s' = numbered_stream (stream_at_words ws (row_at ws c.pos)) (item_at ws c.first)

  abbrev m' : Item
  m' = numbered_item (stream_at_words ws (row_at ws c.pos)) (item_at ws c.first)

  abbrev id : ℕ
  id = (entry_at ws at).stream_id

  abbrev sh : Shape ws st
  sh = g.shape

  -- the model's
  abbrev t : Stream
  t = stream_in ws st c.pos

  abbrev i : plain.Item
  i = item_in_words ws st c.first

  abbrev is : List plain.Item
  is = each (item_in_words ws st) c.rest

  abbrev v : Numbered
  v = numbered t.counters i

  numbers_are : Numbers s m (payload_of ws st c.first)
  numbers_are = numbers s m (payload_of ws st c.first)

  item_is : v.item ≡ item_of m' (payload_of ws st c.first)
  unfolding stream_in item_in_words
  item_is = numbers_are.item_is

  counters_are : v.counters ≡ (stream_of 0 s' []).counters
  unfolding stream_in item_in_words
  counters_are = numbers_are.counters_are

  length_is : length (payload_of ws st c.first) ≡ m.length
  length_is = ap length (sym (item_payload ws st c.first)) ∙ item_length ws st sh c.first c.first_fits

  -- ---- the queue after

  module _ (n : ℕ) (hn : n ≤ rest (item_at ws c.first)) where
    offset_fits : m'.offset + n ≤ 18446744073709551615
    offset_fits = fits
      where
        fits : m'.offset + n ≤ 18446744073709551615
        fits = unfold rest in omega (arith, hn, (renumbered s m).offset_same, offset_below ws st g at c, length_small ws st g at c)

    part_stream : stream_of (id_at ws c.pos) (less_amount s' n) (item_of (moved_on_words m' n) (payload_of ws st c.first) ∷ is)
        ≡ with_items (with_counters v.counters t) (t.amount - n) (moved_on v.item n ∷ is)
    part_stream =
        let a = moved_is m' (payload_of ws st c.first) n offset_fits in
        let b = stream_is ws st sh c.pos c.known in
        let r = renumbered s m in
        rw (a, item_is, counters_are, b, r.amount_same, r.priority_same, r.state_same, r.threshold_same)

    part_model : model (pick (are_given m.numbers) (went_further (accept_at ws at n).next (row_at ws c.pos) s' m' n) (went_on_words (accept_at ws at n).next (row_at ws c.pos) s' m' n)) st ≡ handed_out_part (model ws st) (entry_at ws at) t i is n
    unfolding handed_out_part model
    part_model =
        let w = went_part ws st sh (all_known ws st g.well) at c n in
        let us : List ℕ = pick (are_given m.numbers) (went_further (accept_at ws at n).next (row_at ws c.pos) s' m' n) (went_on_words (accept_at ws at n).next (row_at ws c.pos) s' m' n) in
        model_is us st (options_of (options_at ws)) (totals_at ws).interleaving ((totals_at ws).total - n) (totals_at ws).next_message_id.0 _ (accept (entry_at ws at) n (model_scheduler ws))
        (ap options_of w.options)
        (ap (λ (x : Totals). x.interleaving) w.totals)
        (ap (λ (x : Totals). x.total) w.totals)
        (ap (λ (x : Totals). x.next_message_id.0) w.totals)
        (w.streams ∙ ap (λ (y : Stream). put_stream y (streams_in ws st)) part_stream)
        w.scheduler

    last_stream : stream_of (id_at ws c.pos) (without_head s' (end_pending_words s.pause_state) (next_of ws c.first) n) is
        ≡ model_with_pause (end_pending t.pause_state) (with_items (with_counters v.counters t) (t.amount - n) is)
    unfolding without_head
    last_stream =
        let b = stream_is ws st sh c.pos c.known in
        let r = renumbered s m in
        rw (counters_are, b, r.amount_same, r.priority_same, end_state s.pause_state, r.threshold_same)

    last_model : (entry_at ws at).bytes_remaining ≤ n → model (finished ws at id (row_at ws c.pos) s' m' n) st ≡ handed_out_last (model ws st) (entry_at ws at) t i is n
    unfolding handed_out_last model
    last_model all =
        let w = the_finished ws st sh (all_known ws st g.well) at c n all in
        let us : List ℕ = finished ws at id (row_at ws c.pos) s' m' n in
        let e : t.priority ≡ s.priority = ap (λ (y : Stream). y.priority) (stream_is ws st sh c.pos c.known) in
        let d : t.id ≡ id_at ws c.pos = ap (λ (y : Stream). y.id) (stream_is ws st sh c.pos c.known) in
        let p : pause_of (end_pending_words s.pause_state) ≡ end_pending t.pause_state = end_state s.pause_state ∙ ap end_pending (sym (ap (λ (y : Stream). y.pause_state) (stream_is ws st sh c.pos c.known))) in
        let k : set_bytes_remaining (id_at ws c.pos) (next_size (pause_of (end_pending_words s.pause_state)) is) (weight_of (totals_at ws).interleaving t) (accept (entry_at ws at) n (model_scheduler ws)) ≡ set_bytes_remaining t.id (next_size (end_pending t.pause_state) is) (weight_of (totals_at ws).interleaving t) (accept (entry_at ws at) n (model_scheduler ws)) = rw (d, p) in
        model_is us st (options_of (options_at ws)) (totals_at ws).interleaving ((totals_at ws).total - n) (totals_at ws).next_message_id.0 _ _
        (ap options_of w.options)
        w.interleaving
        w.total
        (ap (λ x. x.0) w.next_id)
        (w.streams ∙ ap (λ (y : Stream). put_stream y (streams_in ws st)) last_stream)
        (w.scheduler t e ∙ k)

    rest' : rest m' ≡ rest m
    unfolding rest
    rest' = rw ((renumbered s m).length_same, (renumbered s m).offset_same)

    -- The last bytes are all that the scheduler has of the message.
    all_sent : Chosen (model ws st) (entry_at ws at) t i is → n ≡ rest m → (entry_at ws at).bytes_remaining ≤ n
    all_sent h z = omega (arith, h.choice_size, rest_is ws st g at c)

    -- The words after a fragment of n bytes.
    sent_model : Chosen (model ws st) (entry_at ws at) t i is → model (written_sent ws at id (row_at ws c.pos) s' m' n (are_given m.numbers)) st ≡ handed_out (model ws st) (entry_at ws at) t i is n
    unfolding written_sent handed_out
    sent_model h =
        let e : remaining i ≡ rest m = rest_is ws st g at c in
        by_index n (rest m)
        (λ z. rw (rest', e, eq-eqb n (rest m) z) (last_model (all_sent h z)))
        (λ z. rw (rest', e, ne_eqb n (rest m) z) part_model)

    sent_shape : Chosen (model ws st) (entry_at ws at) t i is → Shape (written_sent ws at id (row_at ws c.pos) s' m' n (are_given m.numbers)) st
    unfolding written_sent
    sent_shape h = by_index n (rest m)
        (λ z. rw (rest', eq-eqb n (rest m) z) (the_finished ws st sh (all_known ws st g.well) at c n (all_sent h z)).shape)
        (λ z. rw (rest', ne_eqb n (rest m) z) (went_part ws st sh (all_known ws st g.well) at c n).shape)

    sent_options : Chosen (model ws st) (entry_at ws at) t i is → options_at (written_sent ws at id (row_at ws c.pos) s' m' n (are_given m.numbers)) ≡ options_at ws
    unfolding written_sent
    sent_options h = by_index n (rest m)
        (λ z. rw (rest', eq-eqb n (rest m) z) (the_finished ws st sh (all_known ws st g.well) at c n (all_sent h z)).options)
        (λ z. rw (rest', ne_eqb n (rest m) z) (went_part ws st sh (all_known ws st g.well) at c n).options)

    sent_good : Chosen (model ws st) (entry_at ws at) t i is → Good (written_sent ws at id (row_at ws c.pos) s' m' n (are_given m.numbers)) st
    sent_good h = record {
      shape = sent_shape h;
      store_is = g.store_is ∙ sym (ap (λ o. o.store_length) (sent_options h));
      well = rw (sent_model h) (handed_well (model ws st) id t i is g.well h.choice_head (entry_at ws at) refl h.choice_size h.choice_weight h.choice_stands n (rw (rest_is ws st g at c) hn));
    }

    -- ---- what it reports

    stream_facts : (t.id ≡ id) × (t.threshold ≡ s.low_threshold)
    unfolding stream_in
    stream_facts = (c.id_is, refl)

    events_are : sent_events (model ws st) t n ≡ total_falls (options_of (options_at ws)) (totals_at ws).total n ++ stream_falls t s.buffered_amount n
    unfolding sent_events total_low stream_low model
    events_are = rw (stream_amount ws st c.pos)

    noted_are : (es : List ℕ) (k : ℕ) → event_words ≤ length es → k + length (sent_events (model ws st) t n) ≤ 2305 → sent_notes ws es k id s n ≡ listed es k (sent_events (model ws st) t n)
    noted_are es k l h = rw events_are (sent_noted ws es k id s t n stream_facts.0 stream_facts.1 l (rw events_are at h))

    -- ---- the fragment

    abbrev f : Fragment
    f = make_fragment t v.item n

    part_fits : m.offset + n ≤ m.length
    part_fits = unfold rest in omega (arith, hn, offset_below ws st g at c)

    part_fits' : m'.offset + n ≤ m'.length
    part_fits' = omega (arith, part_fits, (renumbered s m).offset_same, (renumbered s m).length_same)

    data_same : data_of f ≡ data_to_send id m' n
    data_same =
        let d = data_is t m' (payload_of ws st c.first) n (length_is ∙ sym (renumbered s m).length_same) part_fits' in
        rw item_is (d ∙ ap (λ k. data_to_send k m' n) stream_facts.0)

    bytes_are : f.bytes ≡ take n (drop m.offset (payload_of ws st c.first))
    unfolding make_fragment
    bytes_are = rw (item_is, (renumbered s m).offset_same)

    read : (bs : List ℕ) → n ≤ length bs → (read_code ws (length st) c.first m.offset n (length bs) ≡ 0) × (read_part ws st c.first m.offset n bs ≡ f.bytes ++ drop (length f.bytes) bs)
    read bs h =
        let r = read_law ws st bs (gaps_of ws) c.first m.offset n sh.lay c.first_fits part_fits h in
        let l : length (take n (drop m.offset (payload_of ws st c.first))) ≡ n = part_length (payload_of ws st c.first) m.offset n (omega (arith, part_fits, length_is)) in
        (r.0, rw (bytes_are, l) r.1)

    code_is : (bs : List ℕ) → n ≤ length bs → send_code ws (length st) s m n (length bs) ≡ 0
    unfolding send_code
    code_is bs h =
        let a : n ≤ (totals_at ws).total = omega (arith, hn, rest_in_amount ws st g at c, amount_in_total ws st g at c) in
        let b : n ≤ s.buffered_amount = omega (arith, hn, rest_in_amount ws st g at c) in
        let e : read_code ws (length st) s.first m.offset n (length bs) ≡ 0 = subst (λ p. read_code ws (length st) p m.offset n (length bs) ≡ 0) (sym c.first_is) (read bs h).0 in
        let d : head_code ws s s.first m.next n ≡ 0 = subst (λ (p : ℕ). head_code ws s p m.next n ≡ 0) (sym c.first_is) (head_may ws st sh c.pos c.known c.first c.rest c.places_are s n a b) in
        rw (le-ltb (rest m) n hn, e, d)

    -- The fragment, after k events.
    sent_is : (es bs : List ℕ) (k : ℕ) → event_words ≤ length es → k + length (sent_events (model ws st) t n) ≤ 2305 → n ≤ length bs
        → sent ws st es bs k at id (row_at ws c.pos) s m n
        ≡ produced_with (produced.Fragment (k + length (sent_events (model ws st) t n)) (data_of f)) (written_sent ws at id (row_at ws c.pos) s' m' n (are_given m.numbers)) (written es k (sent_events (model ws st) t n)) (f.bytes ++ drop (length f.bytes) bs)
    unfolding sent
    sent_is es bs k l h hb =
        let e : read_part ws st s.first m.offset n bs ≡ f.bytes ++ drop (length f.bytes) bs = subst (λ p. read_part ws st p m.offset n bs ≡ f.bytes ++ drop (length f.bytes) bs) (sym c.first_is) (read bs hb).1 in
        rw (code_is bs hb, noted_are es k l h, e, ← data_same)

  -- ---- the call

  -- how many bytes go
  abbrev bytes : ℕ → ℕ
  bytes size = min (entry_at ws at).bytes_remaining size

  bytes_fit : (size : ℕ) → Chosen (model ws st) (entry_at ws at) t i is → bytes size ≤ rest m
  bytes_fit size h = omega (arith, h.choice_size, rest_is ws st g at c)

  pub record HandedOut (es₀ bs : List ℕ) (vs : List Event) (size : ℕ) (p : ProducedWith) : Type 0 where
    pub step : Step
    pub step_is : hand_out size (model ws st) vs (entry_at ws at) (stream_in ws st c.pos) (item_in_words ws st c.first) (each (item_in_words ws st) c.rest) ≡ some step
    pub sends : Sends step st es₀ bs p
    pub answered : refusal p.answer ≡ false

  not_short : (n : ℕ) → n ≤ rest m → short_of_head (model ws st) t i n ≡ false
  unfolding short_of_head short_of
  not_short n h =
      let a : n ≤ (totals_at ws).total = omega (arith, h, rest_in_amount ws st g at c, amount_in_total ws st g at c) in
      let b : n ≤ s.buffered_amount = omega (arith, h, rest_in_amount ws st g at c) in
      rw (model_total ws st, stream_amount ws st c.pos, rest_is ws st g at c, le-ltb (totals_at ws).total n a, le-ltb s.buffered_amount n b, le-ltb (rest m) n h)

  in_rows : row_at ws c.pos < 256
  in_rows = row_below ws st sh c.pos c.known

  handed_is : (es bs : List ℕ) (k size : ℕ) → Chosen (model ws st) (entry_at ws at) t i is → event_words ≤ length es → k ≤ 2303 → k + length (sent_events (model ws st) t (bytes size)) ≤ 2305 → size ≤ length bs
      → handed_out_words ws st es bs size k at id (row_at ws c.pos)
      ≡ produced_with (produced.Fragment (k + length (sent_events (model ws st) t (bytes size))) (data_of (make_fragment t v.item (bytes size)))) (written_sent ws at id (row_at ws c.pos) s' m' (bytes size) (are_given m.numbers)) (written es k (sent_events (model ws st) t (bytes size))) ((make_fragment t v.item (bytes size)).bytes ++ drop (length (make_fragment t v.item (bytes size)).bytes) bs)
  unfolding handed_out_words
  handed_is es bs k size h l hk he hb =
      let ha : at ≤ 255 = omega (arith, c.listed, sh.schedules.few) in
      let hr : row_at ws c.pos ≤ 255 = omega (arith, in_rows) in
      let hf : s.first ≤ 1023 = omega (arith, c.first_fits, c.first_is) in
      let e : least_of (active_at ws at).bytes_remaining size ≡ bytes size = least_is (active_at ws at).bytes_remaining size ∙ ap (λ b. min b size) (sym (entry_bytes ws at)) in
      rw (le-ltb 2303 k hk, le-ltb 255 at ha, le-ltb 255 (row_at ws c.pos) hr, le-ltb 1023 s.first hf, e, ap (item_at ws) c.first_is)
      (sent_is (bytes size) (bytes_fit size h) es bs k l he (omega arith))

  -- the test of handing out passes
  pub may_hand : (bs : List ℕ) (k size : ℕ) → Chosen (model ws st) (entry_at ws at) (stream_in ws st c.pos) (item_in_words ws st c.first) (each (item_in_words ws st) c.rest) → k ≤ 2303 → size ≤ length bs
      → chosen_code ws (length st) (length bs) size k at (row_at ws c.pos) ≡ 0
  unfolding chosen_code
  may_hand bs k size h hk hb =
      let ha : at ≤ 255 = omega (arith, c.listed, sh.schedules.few) in
      let hr : row_at ws c.pos ≤ 255 = omega (arith, in_rows) in
      let hf : s.first ≤ 1023 = omega (arith, c.first_fits, c.first_is) in
      let e : least_of (active_at ws at).bytes_remaining size ≡ bytes size = least_is (active_at ws at).bytes_remaining size ∙ ap (λ b. min b size) (sym (entry_bytes ws at)) in
      rw (le-ltb 2303 k hk, le-ltb 255 at ha, le-ltb 255 (row_at ws c.pos) hr, le-ltb 1023 s.first hf, e, ap (item_at ws) c.first_is)
      (code_is (bytes size) (bytes_fit size h) bs (omega arith))

  pub hands_out : (es₀ bs : List ℕ) (vs : List Event) (size : ℕ) → Chosen (model ws st) (entry_at ws at) (stream_in ws st c.pos) (item_in_words ws st c.first) (each (item_in_words ws st) c.rest)
      → event_words ≤ length es₀ → length vs ≤ 2303 → length vs + length (sent_events (model ws st) (stream_in ws st c.pos) (min (entry_at ws at).bytes_remaining size)) ≤ 2305 → size ≤ length bs
      → HandedOut es₀ bs vs size (handed_out_words ws st (written es₀ 0 vs) bs size (length vs) at (entry_at ws at).stream_id (row_at ws c.pos))
  unfolding hand_out
  hands_out es₀ bs vs size h l hk he hb =
      let n : ℕ = bytes size in
      let r : Step = reply (fragment (make_fragment t v.item n)) (vs ++ sent_events (model ws st) t n) (handed_out (model ws st) (entry_at ws at) t i is n) in
      let l' : event_words ≤ length (written es₀ 0 vs) = rw (written_length es₀ 0 vs) l in
      let z = length-append vs (sent_events (model ws st) t n) in
      let fits = bytes_fit size h in
      let zero : length vs ≡ 0 + length vs = omega arith in
      rw (handed_is (written es₀ 0 vs) bs (length vs) size h l' hk he hb) (record {
        step = r;
        step_is = rw (not_short n fits);
        sends = record {
          good = sent_good n fits h;
          next = sent_model n fits h;
          answer = rw z;
          events = ap (λ k. written (written es₀ 0 vs) k (sent_events (model ws st) t n)) zero ∙ sym (written_append es₀ 0 vs (sent_events (model ws st) t n));
          buffer = refl;
        };
        answered = refl;
      })
