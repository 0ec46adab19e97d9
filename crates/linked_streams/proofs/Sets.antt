-- Setting a stream's priority and its threshold are the model's steps. Assumes nothing.
use mathlib.Core.Path.{◌≡◌, refl, sym, ap, ◌∙◌, subst}
use mathlib.Core.Bool.{Bool, true, false}
use mathlib.Core.List.{List, [], ◌∷◌}
use mathlib.Core.Option.{none, some}
use Prim.Native.Nat.{ℕ, ◌^◌, ◌≤◌, ◌<◌}
use native.Mathlib.Omega.{arith}
use borrow.Author.Tests.{lt-ltb, le-ltb, le-leb, lt-leb}
use lib.Dec.{ltb}
use lib.ListN.{length}
use Rattle.queue_words.specs.Flags.{pick}
use Rattle.queue_words.specs.Header.{options_at, totals_at}
use Rattle.queue_words.specs.Known.{id_at}
use Rattle.queue_words.specs.Streams.{stream_at_words, put_stream_words, FitsStream}
use Rattle.queue_words.specs.declared.streams.OutgoingStream.{OutgoingStream}
use Rattle.queue_words.proofs.Laws
use Rattle.queue_model.specs.Types.{Event, Queue, Stream, Step, done, refuse, reply, with_priority, with_threshold}
use Rattle.std.specs.Prelude.{if◌then◌else◌}
use Rattle.queue_model.specs.Types as plain
use Rattle.queue_model.specs.Calls
use Rattle.queue_model.specs.Settings.{raised_event, priority_checks, threshold_checks}
use Rattle.queue_model.specs.Streams.{know, stream_at, too_many, find_stream}
use Rattle.queue_model.specs.Refusals.{◌when◌}
use Rattle.queue_model.specs.Run as run
use Rattle.queue_model.proofs.Checks.{checked_past, checked_but}
use Rattle.queue_model.proofs.Invariant.Fine.{Fine, fine_set_priority, fine_set_threshold}
use Rattle.queue_streams.specs.Events.{event_words, places_in, put_event, written}
use Rattle.queue_streams.specs.Known.{new_stream_words, look_up}
use Rattle.queue_streams.specs.Settings.{Called, CalledWith, called, called_with, with_priority_words, with_threshold_words, priority_in, set_priority_words, raised, threshold_in, set_threshold_words}
use Rattle.queue_streams.specs.Call.{Call}
use Rattle.queue_streams.specs.Call.{Accepted, Refused}
use Rattle.queue_streams.specs.Place.{Place}
use Rattle.queue_streams.specs.Place as place
use Rattle.queue_state.specs.Chains.{each}
use Rattle.queue_state.specs.Model.{item_in_words, pause_of, stream_of, row_at, stream_in, streams_in, model}
use Rattle.queue_state.specs.Good.{Good}
use Rattle.queue_state.specs.Promise.{shown, Does, Reports}
use Rattle.queue_state.proofs.Frames.{stream_is}
use Rattle.queue_state.proofs.Inserts.{insert_link}
use Rattle.queue_state.proofs.Numbers.{tells}
use Rattle.queue_state.proofs.Looks.{Lookup, known_at_lem, new_at, lookup, stream_found, stream_new, not_too_many, too_many_new, look_row, look_new, look_full}
use Rattle.linked_streams.specs.Settings.{SetPriorityMeets, SetThresholdMeets}
use Rattle.linked_streams.proofs.Stepped.{checked_first, does_refused, does_row, does_new}
use Rattle.queue_words.proofs.Finds.{by_lt}

-- ------------------------------------------------------------------ the model's streams, by their rows

-- A known stream, and a new one.
at_known : (ws st : List ℕ) (g : Good ws st) (id i : ℕ) → i < (totals_at ws).known → find_stream id (streams_in ws st) ≡ some (stream_in ws st i)
    → stream_at (model ws st) id ≡ stream_of (id_at ws i) (stream_at_words ws (row_at ws i)) (each (item_in_words ws st) (g.shape.q i))
at_known ws st g id i h e = stream_found ws st id (stream_in ws st i) e ∙ stream_is ws st g.shape i h

at_new : (ws st : List ℕ) (id : ℕ) → find_stream id (streams_in ws st) ≡ none → stream_at (model ws st) id ≡ stream_of id (new_stream_words (options_at ws)) []
unfolding pause_of
at_new ws st id e = stream_new ws st id e

-- A new stream's numbers have their widths.
new_fits : (ws : List ℕ) → FitsStream (new_stream_words (options_at ws))
new_fits ws = record { priority_fits = (Laws.options_at_fits ws).priority_fits; ssn_fits = omega arith; unordered_mid_fits = omega arith; ordered_mid_fits = omega arith }

with_priority_fits : (s : OutgoingStream) (p : ℕ) → p < 65536 → FitsStream s → FitsStream (with_priority_words s p)
with_priority_fits s p h f = record { priority_fits = h; ssn_fits = f.ssn_fits; unordered_mid_fits = f.unordered_mid_fits; ordered_mid_fits = f.ordered_mid_fits }

with_threshold_fits : (s : OutgoingStream) (t : ℕ) → FitsStream s → FitsStream (with_threshold_words s t)
with_threshold_fits s t f = record { priority_fits = f.priority_fits; ssn_fits = f.ssn_fits; unordered_mid_fits = f.unordered_mid_fits; ordered_mid_fits = f.ordered_mid_fits }

-- A 257th stream is refused.
full : (ws st : List ℕ) (g : Good ws st) (id : ℕ) → find_stream id (streams_in ws st) ≡ none → 256 ≤ (totals_at ws).known → too_many (model ws st) id ≡ true
full ws st g id e h = too_many_new ws st id g.shape e ∙ le-leb 256 (totals_at ws).known h

roomy : (ws st : List ℕ) (g : Good ws st) (id : ℕ) → find_stream id (streams_in ws st) ≡ none → (totals_at ws).known < 256 → too_many (model ws st) id ≡ false
roomy ws st g id e h = too_many_new ws st id g.shape e ∙ lt-leb 256 (totals_at ws).known h

-- ------------------------------------------------------------------ the priority

module _ (q : Queue) (id p : ℕ) where
  priority_past : (s : Stream) → too_many q id ≡ false → stream_at q id ≡ s → run.step (run.set_priority id p) q ≡ reply done [] (know q (with_priority p s))
  unfolding run.step Calls.set_priority
  priority_past s e f =
      checked_past (priority_checks id q) q (reply done [] (know q (with_priority p (stream_at q id)))) (e, tt)
      ∙ ap (λ (x : Stream). reply done [] (know q (with_priority p x))) f

  priority_full : too_many q id ≡ true → run.step (run.set_priority id p) q ≡ refuse q 6
  unfolding run.step Calls.set_priority
  priority_full e = checked_first 6 (too_many q id) [] q (reply done [] (know q (with_priority p (stream_at q id)))) e

priority_row : (ws : List ℕ) (id p : ℕ) (x : Place) → look_up ws id ≡ x → set_priority_words ws id p ≡ priority_in ws id p x
unfolding set_priority_words
priority_row ws id p x e = ap (priority_in ws id p) e

module _ (ws st : List ℕ) (g : Good ws st) (id p : ℕ) (hid : id < 65536) (hp : p < 65536) where
  priority_fine : Fine (model ws st) (run.step (run.set_priority id p) (model ws st))
  unfolding run.step
  priority_fine = fine_set_priority id p (model ws st) g.well (omega arith) (omega arith)

  -- What is to be shown of what the call leaves.
  abbrev Set : Called → Type 0
  Set r = Does (run.set_priority id p) ws st r.answer r.next st

  priority_by : (x : Place) → look_up ws id ≡ x → Set (priority_in ws id p x) → Set (set_priority_words ws id p)
  priority_by x e d = subst Set (sym (priority_row ws id p x e)) d

  priority_known : (i : ℕ) → i < (totals_at ws).known → find_stream id (streams_in ws st) ≡ some (stream_in ws st i) → Set (priority_in ws id p (place.Row (row_at ws i)))
  priority_known i h e =
      let s : OutgoingStream = stream_at_words ws (row_at ws i) in
      does_row (run.set_priority id p) ws st g priority_fine [] i h (with_priority_words s p) (with_priority_fits s p hp (Laws.stream_at_fits ws (row_at ws i))) refl refl
      (priority_past (model ws st) id p (stream_of (id_at ws i) s (each (item_in_words ws st) (g.shape.q i))) (not_too_many ws st id (stream_in ws st i) e) (at_known ws st g id i h e))

  priority_new : (m : ℕ) → m ≤ (totals_at ws).known → (totals_at ws).known < 256 → ((j : ℕ) → j < m → id_at ws j < id) → ((j : ℕ) → m ≤ j → j < (totals_at ws).known → id < id_at ws j)
      → find_stream id (streams_in ws st) ≡ none → Set (priority_in ws id p (place.New m))
  priority_new m h few lo hi e =
      let s : OutgoingStream = new_stream_words (options_at ws) in
      does_new (run.set_priority id p) ws st g priority_fine [] m id (with_priority_words s p)
      (insert_link ws st g.shape m id (with_priority_words s p) h few lo hi hid (with_priority_fits s p hp (new_fits ws)) refl refl)
      (priority_past (model ws st) id p (stream_of id s []) (roomy ws st g id e few) (at_new ws st id e))

  priority_refused : find_stream id (streams_in ws st) ≡ none → 256 ≤ (totals_at ws).known → Set (priority_in ws id p (place.Refused 6))
  priority_refused e h = does_refused (run.set_priority id p) ws st 6 g (priority_full (model ws st) id p (full ws st g id e h))

  pub priority_link : Does (run.set_priority id p) ws st (set_priority_words ws id p).answer (set_priority_words ws id p).next st
  priority_link = by (lookup ws st g.shape id)
    where
      by : Lookup ws st id → Set (set_priority_words ws id p)
      by (known_at_lem i h e f m) = priority_by (place.Row (row_at ws i)) (look_row ws id i (row_at ws i) f) (priority_known i h m)
      by (new_at m h lo hi f e) = by_lt (totals_at ws).known 256
          (λ few. priority_by (place.New m) (look_new ws id m f few) (priority_new m h few lo hi e))
          (λ many. priority_by (place.Refused 6) (look_full ws id m f many) (priority_refused e many))

-- ------------------------------------------------------------------ the threshold

module _ (places : ℕ) (q : Queue) (id t : ℕ) where
  threshold_past : (s : Stream) (vs : List Event) → 2305 ≤ places → too_many q id ≡ false → stream_at q id ≡ s → raised_event s t ≡ vs
      → run.step (run.set_threshold places id t) q ≡ reply done vs (know q (with_threshold t s))
  unfolding run.step Calls.set_threshold
  threshold_past s vs h e f v =
      checked_past (threshold_checks places id q) q (reply done (raised_event (stream_at q id) t) (know q (with_threshold t (stream_at q id)))) (le-ltb places 2305 h, (e, tt))
      ∙ ap (λ (x : Stream). reply done (raised_event x t) (know q (with_threshold t x))) f
      ∙ ap (λ (x : List Event). reply done x (know q (with_threshold t s))) v

  threshold_full : 2305 ≤ places → too_many q id ≡ true → run.step (run.set_threshold places id t) q ≡ refuse q 6
  unfolding run.step Calls.set_threshold
  threshold_full h e =
      checked_but ((3 when ltb places 2305) ∷ []) [] 6 (too_many q id) q (reply done (raised_event (stream_at q id) t) (know q (with_threshold t (stream_at q id)))) (le-ltb places 2305 h, tt) tt
      ∙ ap (λ (b : Bool). if b then refuse q 6 else reply done (raised_event (stream_at q id) t) (know q (with_threshold t (stream_at q id)))) e

  threshold_few : places < 2305 → run.step (run.set_threshold places id t) q ≡ refuse q 3
  unfolding run.step Calls.set_threshold
  threshold_few h =
      checked_first 3 (ltb places 2305) ((6 when too_many q id) ∷ []) q (reply done (raised_event (stream_at q id) t) (know q (with_threshold t (stream_at q id)))) (lt-ltb places 2305 h)

threshold_row : (ws es : List ℕ) (id t : ℕ) (x : Place) → event_words ≤ length es → look_up ws id ≡ x → set_threshold_words ws es id t ≡ threshold_in ws es id t x
unfolding set_threshold_words
threshold_row ws es id t x h e = rw (le-ltb (length es) event_words h, e)

threshold_short : (ws es : List ℕ) (id t : ℕ) → length es < event_words → set_threshold_words ws es id t ≡ called_with (Refused 3) ws es
unfolding set_threshold_words
threshold_short ws es id t h = rw (lt-ltb (length es) event_words h)

-- The event of a threshold that is raised.
raised_is : (id : ℕ) (s : OutgoingStream) (is : List plain.Item) (t : ℕ) (b : Bool) → raised s.buffered_amount s.low_threshold t ≡ b
    → raised_event (stream_of id s is) t ≡ if b then record { kind = 1; number = id; amount = s.buffered_amount } ∷ [] else []
unfolding raised_event
raised_is id s is t b e = ap (λ (x : Bool). if x then record { kind = 1; number = id; amount = s.buffered_amount } ∷ [] else []) e

written_none : (es : List ℕ) → es ≡ written es 0 []
unfolding written
written_none es = refl

written_one : (es : List ℕ) (id a : ℕ) → put_event es 0 1 id a ≡ written es 0 (record { kind = 1; number = id; amount = a } ∷ [])
unfolding written
written_one es id a = refl

module _ (ws st es : List ℕ) (g : Good ws st) (id t : ℕ) (hid : id < 65536) (ht : t < 2 ^ 64) where
  threshold_fine : Fine (model ws st) (run.step (run.set_threshold (places_in es) id t) (model ws st))
  unfolding run.step
  threshold_fine = fine_set_threshold (places_in es) id t (model ws st) g.well (omega arith) ht

  abbrev SetT : CalledWith → Type 0
  SetT r = Reports (run.set_threshold (places_in es) id t) ws st es r.answer r.next st r.events

  -- the events that the model's call shows
  told : (s : Step) → run.step (run.set_threshold (places_in es) id t) (model ws st) ≡ s → (es' : List ℕ) → es' ≡ written es 0 s.outcome.events
      → es' ≡ written es 0 (shown (run.set_threshold (places_in es) id t) ws st).events
  told s e es' h = h ∙ ap (λ (x : Step). written es 0 x.outcome.events) (sym e)

  threshold_short_link : length es < event_words → SetT (set_threshold_words ws es id t)
  threshold_short_link h =
      let e : run.step (run.set_threshold (places_in es) id t) (model ws st) ≡ refuse (model ws st) 3 = threshold_few (places_in es) (model ws st) id t (omega arith) in
      subst SetT (sym (threshold_short ws es id t h)) (record {
        does = does_refused (run.set_threshold (places_in es) id t) ws st 3 g e;
        events = told (refuse (model ws st) 3) e es (written_none es);
      })

  module _ (enough : event_words ≤ length es) where
    threshold_by : (x : Place) → look_up ws id ≡ x → SetT (threshold_in ws es id t x) → SetT (set_threshold_words ws es id t)
    threshold_by x e d = subst SetT (sym (threshold_row ws es id t x enough e)) d

    module _ (i : ℕ) (h : i < (totals_at ws).known) (ei : id_at ws i ≡ id) (e : find_stream id (streams_in ws st) ≡ some (stream_in ws st i)) where
      abbrev old : OutgoingStream
      old = stream_at_words ws (row_at ws i)

      -- The events of a known stream: one if its threshold is raised so.
      abbrev news : Bool → List Event
      news b = if b then record { kind = 1; number = id; amount = old.buffered_amount } ∷ [] else []

      threshold_step : (b : Bool) → raised old.buffered_amount old.low_threshold t ≡ b
          → run.step (run.set_threshold (places_in es) id t) (model ws st) ≡ reply done (news b) (know (model ws st) (stream_of (id_at ws i) (with_threshold_words old t) (each (item_in_words ws st) (g.shape.q i))))
      threshold_step b r =
          threshold_past (places_in es) (model ws st) id t (stream_of (id_at ws i) old (each (item_in_words ws st) (g.shape.q i))) (news b) (omega arith) (not_too_many ws st id (stream_in ws st i) e) (at_known ws st g id i h e)
          (raised_is (id_at ws i) old (each (item_in_words ws st) (g.shape.q i)) t b r ∙ ap (λ (n : ℕ). if b then record { kind = 1; number = n; amount = old.buffered_amount } ∷ [] else []) ei)

      threshold_sets : (b : Bool) → raised old.buffered_amount old.low_threshold t ≡ b → Does (run.set_threshold (places_in es) id t) ws st (Accepted (length (news b))) (put_stream_words ws (row_at ws i) (with_threshold_words old t)) st
      threshold_sets b r =
          does_row (run.set_threshold (places_in es) id t) ws st g threshold_fine (news b) i h (with_threshold_words old t) (with_threshold_fits old t (Laws.stream_at_fits ws (row_at ws i))) refl refl (threshold_step b r)

      threshold_known : SetT (threshold_in ws es id t (place.Row (row_at ws i)))
      threshold_known = go (raised old.buffered_amount old.low_threshold t) refl
        where
          go : (b : Bool) → raised old.buffered_amount old.low_threshold t ≡ b
              → SetT (pick b (called_with (Accepted 1) (put_stream_words ws (row_at ws i) (with_threshold_words old t)) (put_event es 0 1 id old.buffered_amount)) (called_with (Accepted 0) (put_stream_words ws (row_at ws i) (with_threshold_words old t)) es))
          go true r = record {
            does = threshold_sets true r;
            events = told (reply done (news true) (know (model ws st) (stream_of (id_at ws i) (with_threshold_words old t) (each (item_in_words ws st) (g.shape.q i))))) (threshold_step true r) (put_event es 0 1 id old.buffered_amount) (written_one es id old.buffered_amount);
          }
          go false r = record {
            does = threshold_sets false r;
            events = told (reply done (news false) (know (model ws st) (stream_of (id_at ws i) (with_threshold_words old t) (each (item_in_words ws st) (g.shape.q i))))) (threshold_step false r) es (written_none es);
          }

    -- A new stream's amount is 0: no event.
    threshold_new : (m : ℕ) → m ≤ (totals_at ws).known → (totals_at ws).known < 256 → ((j : ℕ) → j < m → id_at ws j < id) → ((j : ℕ) → m ≤ j → j < (totals_at ws).known → id < id_at ws j)
        → find_stream id (streams_in ws st) ≡ none → SetT (threshold_in ws es id t (place.New m))
    threshold_new m h few lo hi e =
        let s : OutgoingStream = new_stream_words (options_at ws) in
        let r : raised 0 (options_at ws).default_threshold t ≡ false = rw (le-ltb (options_at ws).default_threshold 0 (omega arith)) in
        let v : run.step (run.set_threshold (places_in es) id t) (model ws st) ≡ reply done [] (know (model ws st) (stream_of id (with_threshold_words s t) []))
        = threshold_past (places_in es) (model ws st) id t (stream_of id s []) [] (omega arith) (roomy ws st g id e few) (at_new ws st id e) (raised_is id s [] t false r) in
        record {
          does = does_new (run.set_threshold (places_in es) id t) ws st g threshold_fine [] m id (with_threshold_words s t)
              (insert_link ws st g.shape m id (with_threshold_words s t) h few lo hi hid (with_threshold_fits s t (new_fits ws)) refl refl) v;
          events = told (reply done [] (know (model ws st) (stream_of id (with_threshold_words s t) []))) v es (written_none es);
        }

    threshold_refused : find_stream id (streams_in ws st) ≡ none → 256 ≤ (totals_at ws).known → SetT (threshold_in ws es id t (place.Refused 6))
    threshold_refused e h =
        let v : run.step (run.set_threshold (places_in es) id t) (model ws st) ≡ refuse (model ws st) 6 = threshold_full (places_in es) (model ws st) id t (omega arith) (full ws st g id e h) in
        record { does = does_refused (run.set_threshold (places_in es) id t) ws st 6 g v; events = told (refuse (model ws st) 6) v es (written_none es) }

    threshold_long_link : SetT (set_threshold_words ws es id t)
    threshold_long_link = by (lookup ws st g.shape id)
      where
        by : Lookup ws st id → SetT (set_threshold_words ws es id t)
        by (known_at_lem i h ei f m) = threshold_by (place.Row (row_at ws i)) (look_row ws id i (row_at ws i) f) (threshold_known i h ei m)
        by (new_at m h lo hi f e) = by_lt (totals_at ws).known 256
            (λ few. threshold_by (place.New m) (look_new ws id m f few) (threshold_new m h few lo hi e))
            (λ many. threshold_by (place.Refused 6) (look_full ws id m f many) (threshold_refused e many))

  pub threshold_link : Reports (run.set_threshold (places_in es) id t) ws st es (set_threshold_words ws es id t).answer (set_threshold_words ws es id t).next st (set_threshold_words ws es id t).events
  threshold_link = by_lt (length es) event_words threshold_short_link threshold_long_link

-- ------------------------------------------------------------------ both promises

pub set_priority_meets : (ws : List ℕ) (id p : ℕ) (r : Call) (ws' : List ℕ) → id < 65536 → p < 65536 → called r ws' ≡ set_priority_words ws id p → SetPriorityMeets ws id p r ws'
set_priority_meets ws id p r ws' hid hp e = record { words = e; model = does; tells = λ st g. tells (does st g) }
  where
    does : (st : List ℕ) → Good ws st → Does (run.set_priority id p) ws st r ws' st
    does st g = subst (λ (x : Called). Does (run.set_priority id p) ws st x.answer x.next st) (sym e) (priority_link ws st g id p hid hp)

pub set_threshold_meets : (ws es : List ℕ) (id t : ℕ) (r : Call) (ws' es' : List ℕ) → id < 65536 → t < 18446744073709551616 → called_with r ws' es' ≡ set_threshold_words ws es id t → SetThresholdMeets ws es id t r ws' es'
set_threshold_meets ws es id t r ws' es' hid ht e = record { words = e; model = reports; tells = λ st g. tells (reports st g).does }
  where
    reports : (st : List ℕ) → Good ws st → Reports (run.set_threshold (places_in es) id t) ws st es r ws' st es'
    reports st g = subst (λ (x : CalledWith). Reports (run.set_threshold (places_in es) id t) ws st es x.answer x.next st x.events) (sym e) (threshold_link ws st es g id t hid ht)
