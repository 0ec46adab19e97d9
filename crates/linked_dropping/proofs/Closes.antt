-- Closing a stream is the model's step. Assumes nothing.
use Prim.Native.Nat.{ℕ, ◌+◌, ◌-◌, ◌≤◌, ◌<◌}
use mathlib.Core.Path.{◌≡◌, refl, sym, ap, subst, ◌∙◌}
use mathlib.Core.Bool.{true, false}
use mathlib.Core.List.{List, [], ◌∷◌}
use mathlib.Core.Option.{none, some}
use native.Mathlib.Omega.{arith}
use native.Mathlib.Nat.{sub-zero}
use borrow.Author.Tests.{lt-ltb, le-ltb, le-leb, lt-leb, eq-eqb, ne_eqb}
use lib.ListN.{length}
use Rattle.queue_words.specs.Header.{options_at, totals_at}
use Rattle.queue_words.specs.Items.{item_at, put_next}
use Rattle.queue_words.specs.Known.{known_at, id_at}
use Rattle.queue_words.specs.Streams.{is_open, stream_at_words, put_stream_words, FitsStream}
use Rattle.queue_words.specs.declared.header.Totals.{Totals}
use Rattle.queue_words.specs.declared.items.Item.{Item}
use Rattle.queue_words.specs.declared.known.Known.{Known}
use Rattle.queue_words.specs.declared.streams.OutgoingStream.{OutgoingStream}
use Rattle.queue_words.specs.declared.streams.PauseState.{PauseState}
use Rattle.queue_words.specs.declared.streams.PauseState.TheVariants.{NotPaused, Pending, Paused, Resetting}
use Rattle.queue_words.proofs.Laws
use Rattle.queue_model.specs.Types.{Stream, Queue, Scheduler, not_paused, pending, paused, resetting, Event, Step, done, reply, refuse, with_items, model_with_pause, with_state}
use Rattle.queue_model.specs.Types as plain
use Rattle.queue_model.specs.Run as run
use Rattle.queue_model.specs.Demands.{Typed}
use Rattle.queue_model.specs.Scheduler.{remove_stream}
use Rattle.queue_model.specs.Streams.{find_stream, put_stream, stream_at, too_many, new_stream}
use Rattle.queue_model.specs.Close.{sweep_events, closed, swept_bytes}
use Rattle.queue_model.proofs.Streams.{unsent_bytes}
use Rattle.queue_model.proofs.Tests.{holds}
use Rattle.queue_model.proofs.Invariant.Events.{events_fit}
use Rattle.queue_model.proofs.Invariant.Messages.{WellRest, WellItems}
use Rattle.payload_store.specs.Words.{size_of, used_of}
use Rattle.payload_store.specs.Good as payload
use Rattle.payload_store.proofs.Cases.{by_index}
use Rattle.stream_scheduler.specs.Link.{model_scheduler}
use Rattle.stream_scheduler.specs.Words.{remove_stream_words}
use Rattle.stream_scheduler.proofs.Link.{remove_link}
use Rattle.queue_streams.specs.Events.{event_words, places_in, written}
use Rattle.queue_streams.specs.Known.{new_stream_words, look_up, inserted}
use Rattle.queue_streams.specs.Settings.{CalledWith, called_with}
use Rattle.queue_streams.specs.Call.{Accepted, Refused}
use Rattle.queue_streams.specs.Place.{Place}
use Rattle.queue_streams.specs.Place as place
use Rattle.message_chains.specs.Amounts.{rest}
use Rattle.queue_closing.specs.Close.{closed_as, whole_left, close_whole, behind_left, close_behind, close_open_words, close_in, paused_new, close_at, close}
use Rattle.queue_closing.specs.Sweep.{Swept, swept, sweep_from}
use Rattle.queue_closing.specs.Walk.{may_sweep}
use Rattle.queue_state.specs.Chains.{Linked, last_of, count, sum_of, each}
use Rattle.queue_state.specs.Model.{next_of, item_in_words, pause_of, stream_of, row_at, options_of, streams_in, model}
use Rattle.queue_state.specs.Good.{Shape, Good}
use Rattle.queue_state.specs.Promise.{Reports}
use Rattle.queue_state.proofs.Chains.{count_head, hit_same, hit_other, linked_frame, sum_frame, each_frame}
use Rattle.queue_state.proofs.Splits.{row_once, total_has}
use Rattle.queue_state.proofs.Frames.{Same, row_fits, short}
use Rattle.queue_state.proofs.Inserts.{insert_link}
use Rattle.queue_state.proofs.Looks.{Lookup, known_at_lem, new_at, lookup, stream_found, stream_new, not_too_many, too_many_new, look_row, look_new, look_full}
use Rattle.queue_state.proofs.Rooms.{Let, all_known, remove_known}
use Rattle.queue_state.proofs.Singles.{model_options, model_total, model_streams, model_schedules}
use Rattle.linked_dropping.proofs.Ends.{ends, stays}
use Rattle.queue_state.proofs.Facts.{stream_here, found_here, amount_sum, amount_total, items_well, rest_is, offset_is}
use Rattle.queue_state.proofs.Leaves.{Leaves, leaves_of, leaves_through, untouched_same}
use Rattle.linked_dropping.proofs.Cleared.{rest_at, Ready, cleared, clear_none, clear_all, clear_cut, cut_next}
use Rattle.linked_dropping.proofs.Sweeps.{sweep_all}
use Rattle.linked_dropping.proofs.Walks.{may_sweep_lem}
use Rattle.linked_dropping.proofs.Closed.{closed_leaves}
use Rattle.linked_dropping.proofs.Shut.{Fresh, bytes_fresh, bytes_sent, close_few, close_full, close_other, close_open, closed_empty, closed_whole, closed_behind}
use Rattle.queue_words.proofs.Finds.{by_lt}

-- ---- the words' definition, case by case

words_few : (ws es : List ℕ) (id : ℕ) → length es < event_words → close ws es id ≡ called_with (Refused 3) ws es
unfolding close
words_few ws es id h = rw (lt-ltb (length es) event_words h)

words_at : (ws es : List ℕ) (id : ℕ) (p : Place) → event_words ≤ length es → look_up ws id ≡ p → close ws es id ≡ close_at ws es id p
unfolding close
words_at ws es id p h e = rw (le-ltb (length es) event_words h, e)

in_closed : (ws es : List ℕ) (id r : ℕ) → is_open (stream_at_words ws r).pause_state ≡ false → close_in ws es id r ≡ called_with (Accepted 0) ws es
unfolding close_in
in_closed ws es id r h = rw h

in_open : (ws es : List ℕ) (id r : ℕ) → (stream_at_words ws r).pause_state ≡ NotPaused → close_in ws es id r ≡ close_open_words ws es id r (stream_at_words ws r)
unfolding close_in
in_open ws es id r h = rw h

pub open_empty : (ws es : List ℕ) (id r : ℕ) (s : OutgoingStream) → s.first ≡ 1024 → close_open_words ws es id r s ≡ called_with (Accepted 0) (put_stream_words ws r (closed_as s Paused s.buffered_amount s.first s.last)) es
unfolding close_open_words
open_empty ws es id r s e = rw (le-ltb 1024 s.first (omega arith), eq-eqb s.first 1024 e)

pub open_behind : (ws es : List ℕ) (id r x : ℕ) (s : OutgoingStream) → s.first ≡ x → x < 1024 → 0 < (item_at ws x).offset → close_open_words ws es id r s ≡ close_behind ws es id r s (next_of ws x)
unfolding close_open_words
open_behind ws es id r x s e h o =
    let o' : 0 < (item_at ws s.first).offset = subst (λ (y : ℕ). 0 < (item_at ws y).offset) (sym e) o in
    rw (le-ltb 1024 s.first (omega arith), ne_eqb s.first 1024 (λ z. omega arith), lt-ltb 0 (item_at ws s.first).offset o')
    (ap (λ (y : ℕ). close_behind ws es id r s (next_of ws y)) e)

pub open_whole : (ws es : List ℕ) (id r x : ℕ) (s : OutgoingStream) → s.first ≡ x → x < 1024 → (item_at ws x).offset ≡ 0 → close_open_words ws es id r s ≡ close_whole ws es id r s
unfolding close_open_words
open_whole ws es id r x s e h o =
    let o' : (item_at ws s.first).offset ≡ 0 = subst (λ (y : ℕ). (item_at ws y).offset ≡ 0) (sym e) o in
    rw (le-ltb 1024 s.first (omega arith), ne_eqb s.first 1024 (λ z. omega arith), le-ltb 0 (item_at ws s.first).offset (omega arith))

pub behind_goes : (ws es : List ℕ) (id r : ℕ) (s : OutgoingStream) (next : ℕ) (x : Swept) → may_sweep ws next s.buffered_amount ≡ true
    → sweep_from ws es id s.low_threshold next s.buffered_amount ≡ x → close_behind ws es id r s next ≡ behind_left x r s
unfolding close_behind
behind_goes ws es id r s next x m e = rw m (ap (λ (y : Swept). behind_left y r s) e)

pub whole_goes : (ws es : List ℕ) (id r : ℕ) (s : OutgoingStream) (x : Swept) → may_sweep ws s.first s.buffered_amount ≡ true → (remove_stream_words ws id).done ≡ true
    → sweep_from (remove_stream_words ws id).next es id s.low_threshold s.first s.buffered_amount ≡ x → close_whole ws es id r s ≡ whole_left x r s
unfolding close_whole
whole_goes ws es id r s x m d e = rw (m, d) (ap (λ (y : Swept). whole_left y r s) e)

-- ---- what good words say of messages behind the first

rest_fresh : (ws st : List ℕ) (ps : List ℕ) → WellRest (each (item_in_words ws st) ps) → Fresh (each (item_in_words ws st) ps)
rest_fresh ws st [] w = tt
rest_fresh ws st (x ∷ xs) w = (w.0.no_offset w.1.0, rest_fresh ws st xs w.1.1)

fresh_each : (ws st : List ℕ) (ps : List ℕ) → Fresh (each (item_in_words ws st) ps) → (y : ℕ) → 1 ≤ count y ps → (item_in_words ws st y).offset ≡ 0
fresh_each ws st [] f y h = absurd (omega arith)
fresh_each ws st (x ∷ xs) f y h = by_index y x
    (λ e. subst (λ (z : ℕ). (item_in_words ws st z).offset ≡ 0) (sym e) f.0)
    (λ ne. fresh_each ws st xs f.1 y (omega (arith, hit_other y x ne)))

rests_are : (ws st : List ℕ) (ps : List ℕ) → payload.GoodPayloads ws st → ((y : ℕ) → 1 ≤ count y ps → y < 1024) → unsent_bytes (each (item_in_words ws st) ps) ≡ sum_of (rest_at ws) ps
rests_are ws st [] g f = refl
rests_are ws st (x ∷ xs) g f = omega (arith, rest_is ws st x g (f x (count_head x xs)), rests_are ws st xs g (λ y h. f y (omega arith)))

-- the rest of a chain can be dropped
ready_rest : (ws st : List ℕ) (g : Shape ws st) (i : ℕ) → i < (totals_at ws).known → (p : ℕ) (ps : List ℕ) → Linked (next_of ws) p ps → ((y : ℕ) → count y ps ≤ count y (g.q i))
    → ((y : ℕ) → 1 ≤ count y ps → (item_in_words ws st y).offset ≡ 0) → Ready ws st p ps
ready_rest ws st g i hk p ps l c f = record {
  long = g.long;
  lay = g.lay;
  linked = l;
  once = λ y. omega (arith, c y, row_once g.q g.fr g.split y i (omega (arith, g.known_fits)));
  live = λ y h. g.full i y (omega (arith, c y));
  fresh = f;
}

-- ---- what a call leaves, by its parts

module _ (ws st es : List ℕ) (id : ℕ) where
  abbrev c : run.Call
  c = run.close (places_in es) id

  abbrev Told : CalledWith → Type 0
  Told r = Reports c ws st es r.answer r.next st r.events

  unmoved : Good ws st → Typed c → run.step c (model ws st) ≡ reply done [] (model ws st) → Told (called_with (Accepted 0) ws es)
  unmoved g t e = stays c ws st es (Accepted 0) (reply done [] (model ws st)) g t e refl refl refl

  refuses : (n : ℕ) → Good ws st → Typed c → run.step c (model ws st) ≡ refuse (model ws st) n → Told (called_with (Refused n) ws es)
  refuses n g t e = stays c ws st es (Refused n) (refuse (model ws st) n) g t e refl refl refl

  leaves_told : (ws' : List ℕ) (vs : List Event) (n : ℕ) (ss : List Stream) (sc : Scheduler) → Good ws st → Typed c → Leaves ws st ws' n ss sc → run.step c (model ws st) ≡ reply done vs (with_state (model ws st) n ss sc)
      → Told (called_with (Accepted (0 + length vs)) ws' (written es 0 vs))
  leaves_told ws' vs n ss sc g t l e =
      let z : 0 + length vs ≡ length vs = omega arith in
      ends c ws st es ws' (written es 0 vs) (Accepted (0 + length vs)) (reply done vs (with_state (model ws st) n ss sc)) g t e l.shape l.options l.queue (ap Accepted z) refl

  -- the same without events
  leaves_quiet : (ws' : List ℕ) (n : ℕ) (ss : List Stream) (sc : Scheduler) → Good ws st → Typed c → Leaves ws st ws' n ss sc → run.step c (model ws st) ≡ reply done [] (with_state (model ws st) n ss sc)
      → Told (called_with (Accepted 0) ws' es)
  unfolding written
  leaves_quiet ws' n ss sc g t l e = leaves_told ws' [] n ss sc g t l e

pause_open : (p : PauseState) → p ≡ NotPaused → pause_of p ≡ not_paused
unfolding pause_of
pause_open p e = ap pause_of e

pause_shut : (p : PauseState) → is_open p ≡ false → pause_of p ≡ not_paused → ⊥
unfolding pause_of
pause_shut NotPaused o e = holds false (sym o)
pause_shut Pending o e = let z : pending ≡ not_paused = e in let y : ◌≡◌ {A = ℕ} 0 1 = cc in omega arith
pause_shut Paused o e = let z : paused ≡ not_paused = e in let y : ◌≡◌ {A = ℕ} 0 1 = cc in omega arith
pause_shut Resetting o e = let z : resetting ≡ not_paused = e in let y : ◌≡◌ {A = ℕ} 0 1 = cc in omega arith

-- the parts of what is left, under other names
leaves_as : (ws st us : List ℕ) (s : OutgoingStream) (r r' n n' : ℕ) (ss ss' : List Stream) (sc sc' : Scheduler) → r ≡ r' → n ≡ n' → ss ≡ ss' → sc ≡ sc'
    → Leaves ws st (put_stream_words us r s) n ss sc → Leaves ws st (put_stream_words us r' s) n' ss' sc'
leaves_as ws st us s r r' n n' ss ss' sc sc' a b e f l = rw (← a, ← b, ← e, ← f) l

-- ---- a known stream

module _ (ws st es : List ℕ) (g : Good ws st) (i : ℕ) (hk : i < (totals_at ws).known) (t : Typed (run.close (places_in es) (id_at ws i))) (long : event_words ≤ length es) where
  abbrev s : OutgoingStream
  s = stream_at_words ws (row_at ws i)

  abbrev d : run.Call
  d = run.close (places_in es) (id_at ws i)

  abbrev here : List ℕ → Stream
  here ps = stream_here ws st i ps

  fits : (state : PauseState) (a p l : ℕ) → FitsStream (closed_as s state a p l)
  fits state a p l =
      let f = Laws.stream_at_fits ws (row_at ws i) in
      record { priority_fits = f.priority_fits; ssn_fits = f.ssn_fits; unordered_mid_fits = f.unordered_mid_fits; ordered_mid_fits = f.ordered_mid_fits }

  module _ (ps : List ℕ) (eq : g.shape.q i ≡ ps) where
    found : find_stream (id_at ws i) (streams_in ws st) ≡ some (here ps)
    found = found_here ws st g i hk ∙ ap (λ (l : List ℕ). some (here l)) eq

    room : too_many (model ws st) (id_at ws i) ≡ false
    room = not_too_many ws st (id_at ws i) (here ps) found

    at_here : stream_at (model ws st) (id_at ws i) ≡ here ps
    at_here = stream_found ws st (id_at ws i) (here ps) found

    own_fits : (y : ℕ) → 1 ≤ count y ps → y < 1024
    own_fits y h = row_fits g.shape.q g.shape.fr y i g.shape.split (omega (arith, g.shape.known_fits)) (subst (λ (l : List ℕ). 1 ≤ count y l) (sym eq) h)

    amount_is : s.buffered_amount ≡ sum_of (rest_at ws) ps
    amount_is = amount_sum ws st g i hk ∙ ap (λ (l : List ℕ). unsent_bytes (each (item_in_words ws st) l)) eq ∙ rests_are ws st ps g.shape.lay own_fits

    well : WellItems (each (item_in_words ws st) ps)
    well = subst (λ (l : List ℕ). WellItems (each (item_in_words ws st) l)) eq (items_well ws st g i hk)

    linked_here : Linked (next_of ws) s.first ps
    linked_here = subst (Linked (next_of ws) s.first) eq (g.shape.rows i hk).linked

    short_here : length ps ≤ 1024
    short_here = subst (λ (l : List ℕ). length l ≤ 1024) eq (short ws st g.shape i hk)

    waits_here : length ps ≤ (totals_at ws).waiting
    waits_here = omega (arith, ap (λ (l : List ℕ). length l) eq, g.shape.waits, total_has length g.shape.q i (omega (arith, g.shape.known_fits)))

    used_here : sum_of (size_of ws) ps ≤ used_of ws
    used_here = omega (arith, ap (sum_of (size_of ws)) eq, g.shape.used, total_has (sum_of (size_of ws)) g.shape.q i (omega (arith, g.shape.known_fits)))

    -- "Closing changes nothing unless the stream is open."
    shut_link : is_open s.pause_state ≡ false → Told ws st es (id_at ws i) (close_in ws es (id_at ws i) (row_at ws i))
    shut_link ne =
        rw (in_closed ws es (id_at ws i) (row_at ws i) ne)
        (unmoved ws st es (id_at ws i) g t (close_other (places_in es) (id_at ws i) (model ws st) (here ps) (omega arith) room at_here (pause_shut s.pause_state ne)))

    opens : s.pause_state ≡ NotPaused → swept_bytes (each (item_in_words ws st) ps) ≤ sum_of (rest_at ws) ps → run.step d (model ws st) ≡ closed (model ws st) (here ps)
    opens o h =
        close_open (places_in es) (id_at ws i) (model ws st) (here ps) (omega arith) room at_here (pause_open s.pause_state o)
        (omega (arith, h, amount_is, amount_total ws st g i hk, model_total ws st)) (omega (arith, h, amount_is))

  -- ---- no messages

  empty_queue : (n : ℕ) (ss : List Stream) (sc : Scheduler) → n ≡ (totals_at ws).total → ss ≡ streams_in ws st → sc ≡ model_scheduler ws
      → with_state (model ws st) n (put_stream (model_with_pause paused (with_items (here []) s.buffered_amount [])) ss) sc
      ≡ with_state (model ws st) ((totals_at ws).total - 0) (put_stream (stream_of (id_at ws i) (closed_as s Paused s.buffered_amount s.first s.last) []) (streams_in ws st)) (model_scheduler ws)
  unfolding pause_of
  empty_queue n ss sc a b c = rw (a, b, c, sub-zero (totals_at ws).total)

  empty_link : g.shape.q i ≡ [] → s.pause_state ≡ NotPaused → Told ws st es (id_at ws i) (close_open_words ws es (id_at ws i) (row_at ws i) s)
  empty_link eq o =
      let l : s.last ≡ 1024 = (g.shape.rows i hk).last_is ∙ ap (last_of 1024) eq in
      let v = closed_leaves ws st g.shape i hk [] [] (λ y. ap (count y) eq) (ap (λ (x : List ℕ). length x) eq) (ap (sum_of (size_of ws)) eq) ws (clear_none ws st g.shape.lay) (closed_as s Paused s.buffered_amount s.first s.last) (fits Paused s.buffered_amount s.first s.last) (linked_here [] eq) l in
      rw (open_empty ws es (id_at ws i) (row_at ws i) s (linked_here [] eq))
      (leaves_quiet ws st es (id_at ws i) (put_stream_words ws (row_at ws i) (closed_as s Paused s.buffered_amount s.first s.last)) ((totals_at ws).total - 0) (put_stream (stream_of (id_at ws i) (closed_as s Paused s.buffered_amount s.first s.last) []) (streams_in ws st)) (model_scheduler ws) g t v
      (opens [] eq o (omega arith) ∙ closed_empty (model ws st) (here []) refl ∙ ap (reply done []) (empty_queue (model ws st).total (model ws st).streams (model ws st).scheduler (model_total ws st) (model_streams ws st) (model_schedules ws st))))

  -- ---- "a remaining half-sent one makes the stream pending"

  module _ (x : ℕ) (xs : List ℕ) (eq : g.shape.q i ≡ x ∷ xs) (o : s.pause_state ≡ NotPaused) where
    abbrev all : Stream
    all = here (x ∷ xs)

    abbrev options : plain.Options
    options = options_of (options_at ws)

    -- the bytes that go, and the events, of the messages in these places
    abbrev bytes : List ℕ → ℕ
    bytes ps = sum_of (rest_at ws) ps

    abbrev fired : List ℕ → List Event
    fired ps = sweep_events options all (each (item_in_words ws st) ps) (totals_at ws).total s.buffered_amount

    first_is : s.first ≡ x
    first_is = (linked_here (x ∷ xs) eq).0

    x_fits : x < 1024
    x_fits = (linked_here (x ∷ xs) eq).1

    counts : (y : ℕ) → count y (g.shape.q i) ≡ count y (x ∷ xs)
    counts y = ap (count y) eq

    behind_fits : (y : ℕ) → 1 ≤ count y xs → y < 1024
    behind_fits y h = own_fits (x ∷ xs) eq y (omega arith)

    fresh_behind : Fresh (each (item_in_words ws st) xs)
    fresh_behind = rest_fresh ws st xs (well (x ∷ xs) eq).1

    ready_behind : Ready ws st (next_of ws x) xs
    ready_behind = ready_rest ws st g.shape i hk (next_of ws x) xs (linked_here (x ∷ xs) eq).2 (λ y. omega (arith, counts y)) (fresh_each ws st xs fresh_behind)

    absent : count x xs ≡ 0
    absent = omega (arith, counts x, hit_same x, row_once g.shape.q g.shape.fr g.shape.split x i (omega (arith, g.shape.known_fits)))

    total_enough : bytes (x ∷ xs) ≤ (totals_at ws).total
    total_enough = omega (arith, amount_is (x ∷ xs) eq, amount_total ws st g i hk)

    -- the stream that is left with its first message
    abbrev left : OutgoingStream
    left = closed_as s Pending (s.buffered_amount - bytes xs) s.first s.first

    abbrev left_streams : List Stream
    left_streams = put_stream (stream_of (id_at ws i) left (each (item_in_words ws st) (x ∷ []))) (streams_in ws st)

    behind_queue : (n : ℕ) (ss : List Stream) (sc : Scheduler) → n ≡ (totals_at ws).total → ss ≡ streams_in ws st → sc ≡ model_scheduler ws
        → with_state (model ws st) (n - bytes xs) (put_stream (model_with_pause pending (with_items all (s.buffered_amount - bytes xs) (item_in_words ws st x ∷ []))) ss) sc
        ≡ with_state (model ws st) ((totals_at ws).total - bytes xs) left_streams (model_scheduler ws)
    unfolding pause_of
    behind_queue n ss sc a b c = rw (a, b, c)

    behind_steps : 0 < (item_at ws x).offset → run.step d (model ws st) ≡ reply done (fired xs) (with_state (model ws st) ((totals_at ws).total - bytes xs) left_streams (model_scheduler ws))
    behind_steps h =
        let ne : (item_in_words ws st x).offset ≡ 0 → ⊥ = λ z. omega (arith, offset_is ws st x) in
        let r : unsent_bytes (each (item_in_words ws st) xs) ≡ bytes xs = rests_are ws st xs g.shape.lay behind_fits in
        opens (x ∷ xs) eq o (omega (arith, bytes_sent (item_in_words ws st x) (each (item_in_words ws st) xs) ne fresh_behind, r))
        ∙ closed_behind (model ws st) all (item_in_words ws st x) (each (item_in_words ws st) xs) (bytes xs) refl ne fresh_behind r
        ∙ ap (λ (z : Queue). reply done (sweep_events (model ws st).options all (each (item_in_words ws st) xs) (model ws st).total s.buffered_amount) z) (behind_queue (model ws st).total (model ws st).streams (model ws st).scheduler (model_total ws st) (model_streams ws st) (model_schedules ws st))
        ∙ ap (λ (z : List Event). reply done z (with_state (model ws st) ((totals_at ws).total - bytes xs) left_streams (model_scheduler ws))) (rw (model_options ws st, model_total ws st))

    behind_leaves : Leaves ws st (put_stream_words (put_next (cleared ws xs) s.first 1024) (row_at ws i) left) ((totals_at ws).total - bytes xs) left_streams (model_scheduler ws)
    behind_leaves =
        let c0 = clear_all st xs ws (next_of ws x) ready_behind in
        let l : length (cleared ws xs) ≡ 20768 = c0.long ∙ g.shape.long in
        subst (λ (p : ℕ). Leaves ws st (put_stream_words (put_next (cleared ws xs) p 1024) (row_at ws i) left) ((totals_at ws).total - bytes xs) left_streams (model_scheduler ws)) (sym first_is)
        (closed_leaves ws st g.shape i hk (x ∷ []) xs (λ y. omega (arith, counts y)) (omega (arith, ap (λ (z : List ℕ). length z) eq)) (omega (arith, ap (sum_of (size_of ws)) eq))
        (put_next (cleared ws xs) x 1024) (clear_cut (cleared ws xs) st x 1024 l x_fits ws xs absent c0) left (fits Pending (s.buffered_amount - bytes xs) s.first s.first) (first_is, x_fits, cut_next (cleared ws xs) st x 1024 l x_fits) first_is)

    -- the test passes
    pub may_behind : may_sweep ws (next_of ws x) s.buffered_amount ≡ true
    may_behind = may_sweep_lem ws st (next_of ws x) s.buffered_amount xs ready_behind (omega (arith, short_here (x ∷ xs) eq)) (omega (arith, total_enough)) (omega (arith, amount_is (x ∷ xs) eq)) (omega (arith, waits_here (x ∷ xs) eq)) (omega (arith, used_here (x ∷ xs) eq))

    behind_link : 0 < (item_at ws x).offset → Told ws st es (id_at ws i) (close_open_words ws es (id_at ws i) (row_at ws i) s)
    behind_link h =
        let e = behind_steps h in
        let b : 0 + length (fired xs) ≤ 2305 = omega (arith, subst (λ (z : Step). length z.outcome.events ≤ 2305) e (events_fit d (model ws st) g.well)) in
        let w = sweep_all st (id_at ws i) s.low_threshold all refl refl xs ws es 0 s.buffered_amount (next_of ws x) 1024 options ready_behind refl (omega (arith, short_here (x ∷ xs) eq)) long b in
        rw (open_behind ws es (id_at ws i) (row_at ws i) x s first_is x_fits h, behind_goes ws es (id_at ws i) (row_at ws i) s (next_of ws x) (swept (record { place = 1024; count = 0 + length (fired xs); amount = s.buffered_amount - bytes xs }) (cleared ws xs) (written es 0 (fired xs))) may_behind w)
        (leaves_told ws st es (id_at ws i) (put_stream_words (put_next (cleared ws xs) s.first 1024) (row_at ws i) left) (fired xs) ((totals_at ws).total - bytes xs) left_streams (model_scheduler ws) g t behind_leaves e)

    -- ---- "none makes it paused", and "closing to paused ends that", its waiting

    abbrev us : List ℕ
    us = (remove_stream_words ws (id_at ws i)).next

    abbrev ended : Scheduler
    ended = remove_stream (id_at ws i) (model_scheduler ws)

    id_fits : id_at ws i < 65536
    id_fits = (Laws.known_at_fits ws i).id_fits

    let_go : Let ws st g.shape us ended
    let_go = remove_known ws st g.shape (all_known ws st g.well) (id_at ws i) id_fits

    known_same : known_at us i ≡ known_at ws i
    known_same = let_go.untouched.same_known i (omega (arith, g.shape.known_fits))

    still_known : i < (totals_at us).known
    still_known = rw let_go.untouched.same_totals hk

    still : (y : ℕ) → 1 ≤ count y (x ∷ xs) → Same ws st us st y
    still y h = untouched_same ws us st (let_go.unmoved.shape.long ∙ sym g.shape.long) let_go.untouched y (own_fits (x ∷ xs) eq y h)

    items_still : each (item_in_words us st) (x ∷ xs) ≡ each (item_in_words ws st) (x ∷ xs)
    items_still = each_frame (item_in_words ws st) (item_in_words us st) (x ∷ xs) (λ y h. (still y h).item_same)

    rest_still : (y : ℕ) → 1 ≤ count y (x ∷ xs) → rest_at us y ≡ rest_at ws y
    rest_still y h = ap (λ (m : Item). rest m) (let_go.untouched.same_items y (own_fits (x ∷ xs) eq y h))

    bytes_still : sum_of (rest_at us) (x ∷ xs) ≡ bytes (x ∷ xs)
    bytes_still = sum_frame (rest_at ws) (rest_at us) (x ∷ xs) rest_still

    q_still : let_go.unmoved.shape.q i ≡ x ∷ xs
    q_still = let_go.unmoved.q_is i ∙ eq

    module _ (h : (item_at ws x).offset ≡ 0) where
      fresh_all : Fresh (each (item_in_words ws st) (x ∷ xs))
      fresh_all = (offset_is ws st x ∙ h, fresh_behind)

      ready_all : Ready ws st s.first (x ∷ xs)
      ready_all = ready_rest ws st g.shape i hk s.first (x ∷ xs) (linked_here (x ∷ xs) eq) (λ y. omega (arith, counts y)) (fresh_each ws st (x ∷ xs) fresh_all)

      ready_then : Ready us st s.first (x ∷ xs)
      ready_then =
          ready_rest us st let_go.unmoved.shape i still_known s.first (x ∷ xs)
          (linked_frame (next_of ws) (next_of us) s.first (x ∷ xs) (λ y k. (still y k).next_same) (linked_here (x ∷ xs) eq))
          (λ y. omega (arith, ap (count y) q_still))
          (λ y k. ap (λ (m : plain.Item). m.offset) (still y k).item_same ∙ fresh_each ws st (x ∷ xs) fresh_all y k)

      -- the stream that is left with none
      abbrev none_left : OutgoingStream
      none_left = closed_as s Paused (s.buffered_amount - bytes (x ∷ xs)) 1024 1024

      abbrev none_streams : List Stream
      none_streams = put_stream (stream_of (id_at ws i) none_left []) (streams_in ws st)

      whole_queue : (n : ℕ) (ss : List Stream) (sc : Scheduler) → n ≡ (totals_at ws).total → ss ≡ streams_in ws st → sc ≡ model_scheduler ws
          → with_state (model ws st) (n - bytes (x ∷ xs)) (put_stream (model_with_pause paused (with_items all (s.buffered_amount - bytes (x ∷ xs)) [])) ss) (remove_stream (id_at ws i) sc)
          ≡ with_state (model ws st) ((totals_at ws).total - bytes (x ∷ xs)) none_streams ended
      unfolding pause_of
      whole_queue n ss sc a b c = rw (a, b, c)

      whole_steps : run.step d (model ws st) ≡ reply done (fired (x ∷ xs)) (with_state (model ws st) ((totals_at ws).total - bytes (x ∷ xs)) none_streams ended)
      whole_steps =
          let r : unsent_bytes (each (item_in_words ws st) (x ∷ xs)) ≡ bytes (x ∷ xs) = rests_are ws st (x ∷ xs) g.shape.lay (own_fits (x ∷ xs) eq) in
          opens (x ∷ xs) eq o (omega (arith, bytes_fresh (each (item_in_words ws st) (x ∷ xs)) fresh_all, r))
          ∙ closed_whole (model ws st) all (item_in_words ws st x) (each (item_in_words ws st) xs) (bytes (x ∷ xs)) refl fresh_all r
          ∙ ap (λ (z : Queue). reply done (sweep_events (model ws st).options all (each (item_in_words ws st) (x ∷ xs)) (model ws st).total s.buffered_amount) z) (whole_queue (model ws st).total (model ws st).streams (model ws st).scheduler (model_total ws st) (model_streams ws st) (model_schedules ws st))
          ∙ ap (λ (z : List Event). reply done z (with_state (model ws st) ((totals_at ws).total - bytes (x ∷ xs)) none_streams ended)) (rw (model_options ws st, model_total ws st))

      whole_leaves : Leaves ws st (put_stream_words (cleared us (x ∷ xs)) (row_at ws i) none_left) ((totals_at ws).total - bytes (x ∷ xs)) none_streams ended
      whole_leaves =
          leaves_as ws st (cleared us (x ∷ xs)) none_left (row_at us i) (row_at ws i) ((totals_at us).total - sum_of (rest_at us) (x ∷ xs)) ((totals_at ws).total - bytes (x ∷ xs))
          (put_stream (stream_of (id_at us i) none_left []) (streams_in us st)) none_streams (model_scheduler us) ended
          (ap (λ (k : Known). k.place) known_same) (rw (let_go.untouched.same_totals, bytes_still)) (rw (ap (λ (k : Known). k.id.0) known_same, let_go.unmoved.streams)) let_go.scheduler
          (leaves_through ws us st (put_stream_words (cleared us (x ∷ xs)) (row_at us i) none_left) ((totals_at us).total - sum_of (rest_at us) (x ∷ xs)) (put_stream (stream_of (id_at us i) none_left []) (streams_in us st)) (model_scheduler us) let_go.untouched
          (closed_leaves us st let_go.unmoved.shape i still_known [] (x ∷ xs) (λ y. omega (arith, ap (count y) q_still)) (omega (arith, ap (λ (z : List ℕ). length z) q_still)) (omega (arith, ap (sum_of (size_of us)) q_still))
          (cleared us (x ∷ xs)) (clear_all st (x ∷ xs) us s.first ready_then) none_left (fits Paused (s.buffered_amount - bytes (x ∷ xs)) 1024 1024) refl refl))

      fired_still : sweep_events options all (each (item_in_words us st) (x ∷ xs)) (totals_at us).total s.buffered_amount ≡ fired (x ∷ xs)
      fired_still = ap (λ (z : List plain.Item). sweep_events options all z (totals_at us).total s.buffered_amount) items_still ∙ ap (λ (z : Totals). sweep_events options all (each (item_in_words ws st) (x ∷ xs)) z.total s.buffered_amount) let_go.untouched.same_totals

      whole_swept : (vs : List Event) (n : ℕ) → vs ≡ fired (x ∷ xs) → n ≡ bytes (x ∷ xs)
          → swept (record { place = 1024; count = 0 + length vs; amount = s.buffered_amount - n }) (cleared us (x ∷ xs)) (written es 0 vs)
          ≡ swept (record { place = 1024; count = 0 + length (fired (x ∷ xs)); amount = s.buffered_amount - bytes (x ∷ xs) }) (cleared us (x ∷ xs)) (written es 0 (fired (x ∷ xs)))
      whole_swept vs n a b = rw (a, b)

      -- the test passes
      pub may_whole : may_sweep ws s.first s.buffered_amount ≡ true
      may_whole = may_sweep_lem ws st s.first s.buffered_amount (x ∷ xs) ready_all (short_here (x ∷ xs) eq) total_enough (omega (arith, amount_is (x ∷ xs) eq)) (waits_here (x ∷ xs) eq) (used_here (x ∷ xs) eq)

      whole_link : Told ws st es (id_at ws i) (close_open_words ws es (id_at ws i) (row_at ws i) s)
      whole_link =
          let b : length (fired (x ∷ xs)) ≤ 2305 = subst (λ (z : Step). length z.outcome.events ≤ 2305) whole_steps (events_fit d (model ws st) g.well) in
          let b' : 0 + length (sweep_events options all (each (item_in_words us st) (x ∷ xs)) (totals_at us).total s.buffered_amount) ≤ 2305 = omega (arith, b, ap (λ (z : List Event). length z) fired_still) in
          let w = sweep_all st (id_at ws i) s.low_threshold all refl refl (x ∷ xs) us es 0 s.buffered_amount s.first 1024 options ready_then (ap options_of let_go.untouched.same_options) (short_here (x ∷ xs) eq) long b' in
          let w' = w ∙ whole_swept (sweep_events options all (each (item_in_words us st) (x ∷ xs)) (totals_at us).total s.buffered_amount) (sum_of (rest_at us) (x ∷ xs)) fired_still bytes_still in
          rw (open_whole ws es (id_at ws i) (row_at ws i) x s first_is x_fits h, whole_goes ws es (id_at ws i) (row_at ws i) s (swept (record { place = 1024; count = 0 + length (fired (x ∷ xs)); amount = s.buffered_amount - bytes (x ∷ xs) }) (cleared us (x ∷ xs)) (written es 0 (fired (x ∷ xs)))) may_whole (remove_link ws g.shape.schedules (id_at ws i) id_fits).step_done w')
          (leaves_told ws st es (id_at ws i) (put_stream_words (cleared us (x ∷ xs)) (row_at ws i) none_left) (fired (x ∷ xs)) ((totals_at ws).total - bytes (x ∷ xs)) none_streams ended g t whole_leaves whole_steps)

  open_link : (ps : List ℕ) → g.shape.q i ≡ ps → s.pause_state ≡ NotPaused → Told ws st es (id_at ws i) (close_open_words ws es (id_at ws i) (row_at ws i) s)
  open_link [] eq o = empty_link eq o
  open_link (x ∷ xs) eq o = by_lt 0 (item_at ws x).offset (λ h. behind_link x xs eq o h) (λ h. whole_link x xs eq o (omega arith))

  known_link : Told ws st es (id_at ws i) (close_in ws es (id_at ws i) (row_at ws i))
  known_link = by s.pause_state refl
    where
      by : (p : PauseState) → s.pause_state ≡ p → Told ws st es (id_at ws i) (close_in ws es (id_at ws i) (row_at ws i))
      by NotPaused o = rw (in_open ws es (id_at ws i) (row_at ws i) o) (open_link (g.shape.q i) refl o)
      by Pending e = shut_link (g.shape.q i) refl (ap is_open e)
      by Paused e = shut_link (g.shape.q i) refl (ap is_open e)
      by Resetting e = shut_link (g.shape.q i) refl (ap is_open e)

-- ---- a stream that is not known becomes known and paused

module _ (ws st es : List ℕ) (g : Good ws st) (p id : ℕ) (t : Typed (run.close (places_in es) id)) (long : event_words ≤ length es) (hid : id < 65536)
    (hp : p ≤ (totals_at ws).known) (lo : (j : ℕ) → j < p → id_at ws j < id) (hi : (j : ℕ) → p ≤ j → j < (totals_at ws).known → id < id_at ws j)
    (missing : find_stream id (streams_in ws st) ≡ none) where
  abbrev fresh : OutgoingStream
  fresh = paused_new (new_stream_words (options_at ws))

  abbrev new : Stream
  new = new_stream (options_of (options_at ws)) id

  fresh_fits : FitsStream fresh
  fresh_fits = record { priority_fits = (Laws.options_at_fits ws).priority_fits; ssn_fits = omega arith; unordered_mid_fits = omega arith; ordered_mid_fits = omega arith }

  abbrev new_streams : List Stream
  new_streams = put_stream (stream_of id fresh []) (streams_in ws st)

  new_queue : (n : ℕ) (ss : List Stream) (sc : Scheduler) → n ≡ (totals_at ws).total → ss ≡ streams_in ws st → sc ≡ model_scheduler ws
      → with_state (model ws st) n (put_stream (model_with_pause paused (with_items new 0 [])) ss) sc ≡ with_state (model ws st) (totals_at ws).total new_streams (model_scheduler ws)
  unfolding pause_of
  new_queue n ss sc a b c = rw (a, b, c)

  new_steps : (totals_at ws).known < 256 → run.step (run.close (places_in es) id) (model ws st) ≡ reply done [] (with_state (model ws st) (totals_at ws).total new_streams (model_scheduler ws))
  new_steps few =
      close_open (places_in es) id (model ws st) new (omega arith) (too_many_new ws st id g.shape missing ∙ lt-leb 256 (totals_at ws).known few) (stream_new ws st id missing) refl (omega arith) (omega arith)
      ∙ closed_empty (model ws st) new refl
      ∙ ap (reply done []) (new_queue (model ws st).total (model ws st).streams (model ws st).scheduler (model_total ws st) (model_streams ws st) (model_schedules ws st))

  new_leaves : (totals_at ws).known < 256 → Leaves ws st (inserted ws p id fresh) (totals_at ws).total new_streams (model_scheduler ws)
  new_leaves few =
      let n = insert_link ws st g.shape p id fresh hp few lo hi hid fresh_fits refl refl in
      leaves_of ws st (inserted ws p id fresh) (totals_at ws).total new_streams (model_scheduler ws) n.shape n.options_is
      (ap (λ (x : Totals). x.interleaving) n.totals_is) (ap (λ (x : Totals). x.next_message_id) n.totals_is) (ap (λ (x : Totals). x.total) n.totals_is) n.streams n.scheduler_is

  new_link : (totals_at ws).known < 256 → Told ws st es id (close_at ws es id (place.New p))
  new_link few = leaves_quiet ws st es id (inserted ws p id fresh) (totals_at ws).total new_streams (model_scheduler ws) g t (new_leaves few) (new_steps few)

  full_link : 256 ≤ (totals_at ws).known → Told ws st es id (close_at ws es id (place.Refused 6))
  full_link full = refuses ws st es id 6 g t (close_full (places_in es) id (model ws st) (omega arith) (too_many_new ws st id g.shape missing ∙ le-leb 256 (totals_at ws).known full))

-- ---- THE LINK of closing

pub close_link : (ws st es : List ℕ) (id : ℕ) → Good ws st → id < 65536 → length es < 18446744073709551616
    → Reports (run.close (places_in es) id) ws st es (close ws es id).answer (close ws es id).next st (close ws es id).events
close_link ws st es id g hid hes = by_lt (length es) event_words
    (λ h. rw (words_few ws es id h) (refuses ws st es id 3 g typed (close_few (places_in es) id (model ws st) (omega arith))))
    (λ h. at h (lookup ws st g.shape id))
  where
    typed : Typed (run.close (places_in es) id)
    typed = (omega arith, hid)

    at : event_words ≤ length es → Lookup ws st id → Told ws st es id (close ws es id)
    at h (known_at_lem i hk e f z) =
        rw (words_at ws es id (place.Row (row_at ws i)) h (look_row ws id i (row_at ws i) f))
        (subst (λ (n : ℕ). Typed (run.close (places_in es) n) → Told ws st es n (close_in ws es n (row_at ws i))) e (λ t. known_link ws st es g i hk t h) typed)
    at h (new_at p hp lo hi f z) = by_lt (totals_at ws).known 256
        (λ few. rw (words_at ws es id (place.New p) h (look_new ws id p f few)) (new_link ws st es g p id typed h hid hp lo hi z few))
        (λ full. rw (words_at ws es id (place.Refused 6) h (look_full ws id p f full)) (full_link ws st es g p id typed h hid hp lo hi z full))
