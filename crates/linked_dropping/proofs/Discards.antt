-- Discarding is the model's step. Assumes nothing.
use Prim.Native.Nat.{ℕ, ◌+◌, ◌≤◌, ◌<◌}
use mathlib.Core.Path.{◌≡◌, refl, sym, ap, subst, ◌∙◌}
use mathlib.Core.List.{List, [], ◌∷◌}
use mathlib.Core.Option.{some}
use native.Mathlib.Omega.{arith}
use borrow.Author.Tests.{lt-ltb, le-ltb, eq-eqb, ne_eqb}
use lib.ListN.{length}
use Rattle.queue_words.specs.Find.{find_stream_words}
use Rattle.queue_words.specs.Header.{totals_at}
use Rattle.queue_words.specs.Items.{item_at}
use Rattle.queue_words.specs.Known.{id_at}
use Rattle.queue_words.specs.Streams.{stream_at_words}
use Rattle.queue_words.specs.declared.known.Found.TheVariants.{At, Gap}
use Rattle.queue_words.specs.declared.streams.OutgoingStream.{OutgoingStream}
use Rattle.queue_model.specs.Types.{Stream, Queue, Event, Step, done, reply, refuse}
use Rattle.queue_model.specs.Types as plain
use Rattle.queue_model.specs.Run as run
use Rattle.queue_model.specs.Demands.{Typed}
use Rattle.queue_model.specs.Streams.{find_stream}
use Rattle.queue_model.specs.Amounts.{drop_head_events}
use Rattle.queue_model.specs.Produce.{drop_in}
use Rattle.queue_model.proofs.Invariant.Events.{events_fit}
use Rattle.queue_streams.specs.Events.{event_words, places_in}
use Rattle.queue_streams.specs.Settings.{CalledWith, called_with}
use Rattle.queue_streams.specs.Call.{Accepted, Refused}
use Rattle.payload_store.proofs.Cases.{by_index}
use Rattle.message_chains.specs.Dropping.{dropped_in_state}
use Rattle.queue_messages.specs.Discard.{discard_in, discard}
use Rattle.queue_state.specs.Chains.{Linked, each}
use Rattle.queue_state.specs.Model.{next_of, item_in_words, row_at, model}
use Rattle.queue_state.specs.Good.{Good}
use Rattle.queue_state.specs.Promise.{Reports}
use Rattle.queue_state.proofs.Heads.{head_first, head_fits}
use Rattle.queue_state.proofs.Looks.{Lookup, known_at_lem, new_at, lookup}
use Rattle.queue_state.proofs.Singles.{model_streams}
use Rattle.linked_dropping.proofs.Ends.{ends, stays}
use Rattle.linked_dropping.proofs.Meant.{discard_few, discard_none, discard_empty, discard_other, discard_head}
use Rattle.queue_state.proofs.Facts.{stream_here, message_is, found_here}
use Rattle.queue_state.proofs.Dropped.{DroppedIn, not_short, dropped_in_state_lem}
use Rattle.queue_words.proofs.Finds.{by_lt}

-- ---- the words' definition, case by case

words_few : (ws es : List ℕ) (id m : ℕ) → length es < event_words → discard ws es id m ≡ called_with (Refused 3) ws es
unfolding discard
words_few ws es id m h = rw (lt-ltb (length es) event_words h)

words_none : (ws es : List ℕ) (id m p : ℕ) → event_words ≤ length es → find_stream_words ws id ≡ Gap p → discard ws es id m ≡ called_with (Accepted 0) ws es
unfolding discard
words_none ws es id m p h e = rw (le-ltb (length es) event_words h, e)

words_found : (ws es : List ℕ) (id m i r : ℕ) → event_words ≤ length es → find_stream_words ws id ≡ At i r → discard ws es id m ≡ discard_in ws es id m r (stream_at_words ws r)
unfolding discard
words_found ws es id m i r h e = rw (le-ltb (length es) event_words h, e)

in_empty : (ws es : List ℕ) (id m r : ℕ) (s : OutgoingStream) → s.first ≡ 1024 → discard_in ws es id m r s ≡ called_with (Accepted 0) ws es
unfolding discard_in
in_empty ws es id m r s e = rw (le-ltb 1024 s.first (omega arith), eq-eqb s.first 1024 e)

in_other : (ws es : List ℕ) (id m r x : ℕ) (s : OutgoingStream) → s.first ≡ x → x < 1024 → ((item_at ws x).message_id.0 ≡ m → ⊥) → discard_in ws es id m r s ≡ called_with (Accepted 0) ws es
unfolding discard_in
in_other ws es id m r x s e h ne =
    let ne' : (item_at ws s.first).message_id.0 ≡ m → ⊥ = subst (λ (y : ℕ). (item_at ws y).message_id.0 ≡ m → ⊥) (sym e) ne in
    rw (le-ltb 1024 s.first (omega arith), ne_eqb s.first 1024 (λ z. omega arith), ne_eqb (item_at ws s.first).message_id.0 m ne')

in_head : (ws es : List ℕ) (id m r x : ℕ) (s : OutgoingStream) → s.first ≡ x → x < 1024 → (item_at ws x).message_id.0 ≡ m → discard_in ws es id m r s ≡ dropped_in_state ws es 0 id r s (item_at ws x)
unfolding discard_in
in_head ws es id m r x s e h me =
    let me' : (item_at ws s.first).message_id.0 ≡ m = subst (λ (y : ℕ). (item_at ws y).message_id.0 ≡ m) (sym e) me in
    rw (le-ltb 1024 s.first (omega arith), ne_eqb s.first 1024 (λ z. omega arith), eq-eqb (item_at ws s.first).message_id.0 m me')
    (ap (λ (y : ℕ). dropped_in_state ws es 0 id r s (item_at ws y)) e)

-- ---- nothing to do

module _ (ws st es : List ℕ) (id m : ℕ) where
  abbrev c : run.Call
  c = run.discard (places_in es) id m

  -- what a call leaves, by its parts
  abbrev Told : CalledWith → Type 0
  Told r = Reports c ws st es r.answer r.next st r.events

  unmoved : Good ws st → Typed c → run.step c (model ws st) ≡ reply done [] (model ws st) → Told (called_with (Accepted 0) ws es)
  unmoved g t e = stays c ws st es (Accepted 0) (reply done [] (model ws st)) g t e refl refl refl

  few : Good ws st → Typed c → length es < event_words → Told (called_with (Refused 3) ws es)
  few g t h = stays c ws st es (Refused 3) (refuse (model ws st) 3) g t (discard_few (places_in es) id m (model ws st) (omega arith)) refl refl refl

-- ---- the head that is meant

module _ (ws st es : List ℕ) (m : ℕ) (g : Good ws st) (i : ℕ) (hk : i < (totals_at ws).known) (x : ℕ) (xs : List ℕ) (eq : g.shape.q i ≡ x ∷ xs) (t : Typed (run.discard (places_in es) (id_at ws i) m)) (long : event_words ≤ length es) where
  abbrev d : run.Call
  d = run.discard (places_in es) (id_at ws i) m

  abbrev k : Stream
  k = stream_here ws st i (x ∷ xs)

  abbrev j : plain.Item
  j = item_in_words ws st x

  abbrev is : List plain.Item
  is = each (item_in_words ws st) xs

  found : find_stream (id_at ws i) (model ws st).streams ≡ some k
  found = ap (find_stream (id_at ws i)) (model_streams ws st) ∙ found_here ws st g i hk ∙ ap (λ (ps : List ℕ). some (stream_here ws st i ps)) eq

  -- the events
  abbrev fired : List Event
  fired = drop_head_events (model ws st) k j

  abbrev dropped : Queue
  dropped = drop_in k.pause_state (model ws st) k j is

  stepped : j.message_id ≡ m → run.step d (model ws st) ≡ reply done fired dropped
  stepped me = discard_head (places_in es) (id_at ws i) m (model ws st) k j is (omega arith) found refl me (not_short ws st g i hk x xs eq)

  fired_few : j.message_id ≡ m → 0 + length fired ≤ 2305
  fired_few me = subst (λ (z : Step). 0 + length z.outcome.events ≤ 2305) (stepped me) (let e = events_fit d (model ws st) g.well in omega (arith, e))

  -- the drop is not refused
  pub head_goes : j.message_id ≡ m → (dropped_in_state ws es 0 (id_at ws i) (row_at ws i) (stream_at_words ws (row_at ws i)) (item_at ws x)).answer ≡ Accepted (0 + length fired)
  head_goes me = (dropped_in_state_lem ws st g i hk x xs eq es 0 long (fired_few me)).answer

  head_link : j.message_id ≡ m → Told ws st es (id_at ws i) m (dropped_in_state ws es 0 (id_at ws i) (row_at ws i) (stream_at_words ws (row_at ws i)) (item_at ws x))
  head_link me =
      let r : CalledWith = dropped_in_state ws es 0 (id_at ws i) (row_at ws i) (stream_at_words ws (row_at ws i)) (item_at ws x) in
      let l : DroppedIn ws st k j is es 0 r = dropped_in_state_lem ws st g i hk x xs eq es 0 long (fired_few me) in
      let z : 0 + length fired ≡ length fired = omega arith in
      ends d ws st es r.next r.events r.answer (reply done fired dropped) g t (stepped me) l.shape l.options l.next (l.answer ∙ ap Accepted z) l.events

-- ---- a known stream

module _ (ws st es : List ℕ) (m : ℕ) (g : Good ws st) (i : ℕ) (hk : i < (totals_at ws).known) (t : Typed (run.discard (places_in es) (id_at ws i) m)) (long : event_words ≤ length es) where
  found_list : (ps : List ℕ) → g.shape.q i ≡ ps → find_stream (id_at ws i) (model ws st).streams ≡ some (stream_here ws st i ps)
  found_list ps eq = ap (find_stream (id_at ws i)) (model_streams ws st) ∙ found_here ws st g i hk ∙ ap (λ (l : List ℕ). some (stream_here ws st i l)) eq

  stream_link : Told ws st es (id_at ws i) m (discard_in ws es (id_at ws i) m (row_at ws i) (stream_at_words ws (row_at ws i)))
  stream_link = go (g.shape.q i) refl
    where
      go : (ps : List ℕ) → g.shape.q i ≡ ps → Told ws st es (id_at ws i) m (discard_in ws es (id_at ws i) m (row_at ws i) (stream_at_words ws (row_at ws i)))
      go [] eq =
          let f : (stream_at_words ws (row_at ws i)).first ≡ 1024 = subst (Linked (next_of ws) (stream_at_words ws (row_at ws i)).first) eq (g.shape.rows i hk).linked in
          rw (in_empty ws es (id_at ws i) m (row_at ws i) (stream_at_words ws (row_at ws i)) f)
          (unmoved ws st es (id_at ws i) m g t (discard_empty (places_in es) (id_at ws i) m (model ws st) (stream_here ws st i []) (omega arith) (found_list [] eq) refl))
      go (x ∷ xs) eq =
          let f = head_first ws st g.shape i hk x xs eq in
          let l = head_fits ws st g.shape i hk x xs eq in
          by_index (item_at ws x).message_id.0 m
          (λ e. rw (in_head ws es (id_at ws i) m (row_at ws i) x (stream_at_words ws (row_at ws i)) f l e) (head_link ws st es m g i hk x xs eq t long (message_is ws st x ∙ e)))
          (λ ne. rw (in_other ws es (id_at ws i) m (row_at ws i) x (stream_at_words ws (row_at ws i)) f l ne)
          (unmoved ws st es (id_at ws i) m g t (discard_other (places_in es) (id_at ws i) m (model ws st) (stream_here ws st i (x ∷ xs)) (item_in_words ws st x) (each (item_in_words ws st) xs) (omega arith) (found_list (x ∷ xs) eq) refl (λ e. ne (sym (message_is ws st x) ∙ e)))))

-- ---- THE LINK of discarding

pub discard_link : (ws st es : List ℕ) (id message : ℕ) → Good ws st → id < 65536 → message < 4294967296 → length es < 18446744073709551616
    → Reports (run.discard (places_in es) id message) ws st es (discard ws es id message).answer (discard ws es id message).next st (discard ws es id message).events
discard_link ws st es id m g hid hm hes = by_lt (length es) event_words
    (λ h. rw (words_few ws es id m h) (few ws st es id m g typed h))
    (λ h. at h (lookup ws st g.shape id))
  where
    typed : Typed (run.discard (places_in es) id m)
    typed = (omega arith, (hid, hm))

    at : event_words ≤ length es → Lookup ws st id → Told ws st es id m (discard ws es id m)
    at h (known_at_lem i hk e f z) =
        rw (words_found ws es id m i (row_at ws i) h f)
        (subst (λ (n : ℕ). Typed (run.discard (places_in es) n m) → Told ws st es n m (discard_in ws es n m (row_at ws i) (stream_at_words ws (row_at ws i)))) e (λ t. stream_link ws st es m g i hk t h) typed)
    at h (new_at p hp lo hi f z) =
        rw (words_none ws es id m p h f)
        (unmoved ws st es id m g typed (discard_none (places_in es) id m (model ws st) (omega arith) (ap (find_stream id) (model_streams ws st) ∙ z)))
