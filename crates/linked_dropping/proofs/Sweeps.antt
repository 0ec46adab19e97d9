-- Closing's dropping: it drops every message of a chain and writes the model's events. Assumes nothing.
use Prim.Native.Nat.{ℕ, zero, suc, ◌+◌, ◌-◌, ◌≤◌, ◌<◌}
use mathlib.Core.Path.{◌≡◌, refl, sym, ap, subst, ◌∙◌}
use mathlib.Core.List.{List, [], ◌∷◌, ◌++◌}
use native.Mathlib.Omega.{arith}
use native.Mathlib.Nat.{add-zero, sub-zero}
use borrow.Author.Tests.{lt-ltb, le-ltb, eq-eqb}
use lib.ListN.{length, length-append}
use Rattle.queue_words.specs.Header.{options_at, totals_at}
use Rattle.queue_words.specs.Items.{item_at}
use Rattle.queue_model.specs.Types.{Event, Stream, Options, remaining}
use Rattle.queue_model.specs.Types as plain
use Rattle.queue_model.specs.Amounts.{low_event, total_falls, stream_falls, lifecycle_events}
use Rattle.queue_model.specs.Close.{untouched, dropped_bytes, sweep_item, sweep_events}
use Rattle.queue_streams.specs.Events.{event_words, written}
use Rattle.message_chains.specs.Heads.{total_notes, released}
use Rattle.message_chains.specs.Notes.{lifecycle_noted}
use Rattle.queue_closing.specs.Sweep.{Swept, swept, swept_stream, swept_total, sweep_notes, notes_at, sweep_item_words, sweep}
use Rattle.queue_closing.specs.declared.close.Sweep.{Sweep}
use Rattle.queue_state.specs.Chains.{sum_of, each}
use Rattle.queue_state.specs.Model.{next_of, item_in_words, options_of}
use Rattle.queue_state.proofs.Chains.{count_head}
use Rattle.queue_state.proofs.Releases.{Gone}
use Rattle.queue_state.proofs.Notes.{listed, listed_append, written_length, written_append, low_noted_lem, total_noted, lifecycle_noted_lem}
use Rattle.queue_state.proofs.Facts.{rest_is, lifecycle_is}
use Rattle.linked_dropping.proofs.Cleared.{rest_at, Ready, first_fits, first_gone, ready_behind, behind_items, behind_rests, cleared}

-- ---- events behind events

module _ (es : List ℕ) (k : ℕ) (vs : List Event) (l : event_words ≤ length es) where
  long_written : event_words ≤ length (written es k vs)
  long_written = rw (written_length es k vs) l

  after_total : (ws : List ℕ) (n : ℕ) → k + length (vs ++ total_falls (options_of (options_at ws)) (totals_at ws).total n) ≤ 2305
      → total_notes ws (written es k vs) (k + length vs) n ≡ listed es k (vs ++ total_falls (options_of (options_at ws)) (totals_at ws).total n)
  after_total ws n h =
      let z = length-append vs (total_falls (options_of (options_at ws)) (totals_at ws).total n) in
      total_noted ws (written es k vs) (k + length vs) n long_written (omega arith) ∙ sym (listed_append es k vs (total_falls (options_of (options_at ws)) (totals_at ws).total n))

  after_lifecycle : (n : ℕ) → k + length (vs ++ lifecycle_events n) ≤ 2305 → lifecycle_noted (written es k vs) (k + length vs) n ≡ listed es k (vs ++ lifecycle_events n)
  after_lifecycle n h =
      let z = length-append vs (lifecycle_events n) in
      lifecycle_noted_lem (written es k vs) (k + length vs) n long_written (omega arith) ∙ sym (listed_append es k vs (lifecycle_events n))

-- ---- "closing reports stream before total": message by message stream, total, then 3 and 4

module _ (ws es : List ℕ) (id threshold : ℕ) (s : Stream) (ei : s.id ≡ id) (et : s.threshold ≡ threshold) (w : Sweep) (n : ℕ) (l : event_words ≤ length es) where
  abbrev falls : List Event
  falls = stream_falls s w.amount n

  abbrev both : List Event
  both = stream_falls s w.amount n ++ total_falls (options_of (options_at ws)) (totals_at ws).total n

  stream_swept : w.count + length falls ≤ 2305 → swept_stream es id threshold w n ≡ listed es w.count falls
  unfolding swept_stream stream_falls
  stream_swept h =
      let h' : w.count + length (low_event 1 id threshold w.amount (w.amount - n)) ≤ 2305 = rw (ei, et) at h in
      rw (ei, et) (low_noted_lem es w.count 1 id threshold w.amount (w.amount - n) l h')

  total_swept : w.count + length both ≤ 2305 → swept_total ws es id threshold w n ≡ listed es w.count both
  unfolding swept_total
  total_swept h =
      let z = length-append falls (total_falls (options_of (options_at ws)) (totals_at ws).total n) in
      rw (stream_swept (omega arith)) (after_total es w.count falls l ws n h)

  pub notes_swept : (m : ℕ) → w.count + length (both ++ lifecycle_events m) ≤ 2305 → sweep_notes ws es id threshold w n m ≡ listed es w.count (both ++ lifecycle_events m)
  unfolding sweep_notes
  notes_swept m h =
      let z = length-append both (lifecycle_events m) in
      rw (total_swept (omega arith)) (after_lifecycle es w.count both l m h)

-- ---- the model's sweep of messages of which nothing is sent

pub fresh_item : (o : Options) (s : Stream) (i : plain.Item) (t a : ℕ) → i.offset ≡ 0
    → sweep_item o s i t a ≡ stream_falls s a (remaining i) ++ total_falls o t (remaining i) ++ lifecycle_events i.lifecycle_id
unfolding sweep_item untouched
fresh_item o s i t a e = rw (eq-eqb i.offset 0 e)

pub fresh_bytes : (i : plain.Item) → i.offset ≡ 0 → dropped_bytes i ≡ remaining i
unfolding dropped_bytes untouched
fresh_bytes i e = rw (eq-eqb i.offset 0 e)

pub sweep_nil : (o : Options) (s : Stream) (t a : ℕ) → sweep_events o s [] t a ≡ []
unfolding sweep_events
sweep_nil o s t a = refl

pub sweep_cons : (o : Options) (s : Stream) (i : plain.Item) (is : List plain.Item) (t a : ℕ) → i.offset ≡ 0
    → sweep_events o s (i ∷ is) t a ≡ sweep_item o s i t a ++ sweep_events o s is (t - remaining i) (a - remaining i)
unfolding sweep_events
sweep_cons o s i is t a e = ap (λ (n : ℕ). sweep_item o s i t a ++ sweep_events o s is (t - n) (a - n)) (fresh_bytes i e)

-- ---- one message

module _ (st : List ℕ) (id threshold : ℕ) (s : Stream) (ei : s.id ≡ id) (et : s.threshold ≡ threshold) where
  module _ (ws es : List ℕ) (p x : ℕ) (xs : List ℕ) (r : Ready ws st p (x ∷ xs)) (w : Sweep) (l : event_words ≤ length es) where
    abbrev o : Options
    o = options_of (options_at ws)

    abbrev j : plain.Item
    j = item_in_words ws st x

    abbrev vs : List Event
    vs = sweep_item o s j (totals_at ws).total w.amount

    vs_are : vs ≡ stream_falls s w.amount (rest_at ws x) ++ total_falls o (totals_at ws).total (rest_at ws x) ++ lifecycle_events (item_at ws x).lifecycle_id
    vs_are = fresh_item o s j (totals_at ws).total w.amount (r.fresh x (count_head x xs)) ∙ rw (rest_is ws st x r.lay (first_fits ws st p x xs r), lifecycle_is ws st x)

    notes_are : w.count + length vs ≤ 2305 → notes_at ws es id threshold x w ≡ listed es w.count vs
    notes_are h =
        let h' : w.count + length (stream_falls s w.amount (rest_at ws x) ++ total_falls o (totals_at ws).total (rest_at ws x) ++ lifecycle_events (item_at ws x).lifecycle_id) ≤ 2305 = omega (arith, h, ap (λ (z : List Event). length z) vs_are) in
        notes_swept ws es id threshold s ei et w (rest_at ws x) l (item_at ws x).lifecycle_id h' ∙ ap (listed es w.count) (sym vs_are)

    pub item_swept : w.count + length vs ≤ 2305
        → sweep_item_words ws es id threshold x w ≡ swept (record { place = next_of ws x; count = w.count + length vs; amount = w.amount - rest_at ws x }) (released ws x (rest_at ws x)) (written es w.count vs)
    unfolding sweep_item_words
    item_swept h = rw (notes_are h)

  -- ---- all messages of a chain

  -- what the dropping leaves: the end reached, the events counted, the amount fallen
  abbrev Sweeps : (ws es : List ℕ) (k a p : ℕ) (ps : List ℕ) (f : ℕ) → List Event → Type 0
  Sweeps ws es k a p ps f vs =
      sweep id threshold (swept (record { place = p; count = k; amount = a }) ws es) f ≡ swept (record { place = 1024; count = k + length vs; amount = a - sum_of (rest_at ws) ps }) (cleared ws ps) (written es k vs)

  sweep_stop : (ws es : List ℕ) (k a p f : ℕ) → p ≡ 1024 → Sweeps ws es k a p [] f []
  unfolding sweep cleared written
  sweep_stop ws es k a p zero e = rw (e, add-zero k, sub-zero a)
  sweep_stop ws es k a p (suc f) e = rw (lt-ltb 1023 p (omega arith)) (rw (e, add-zero k, sub-zero a))

  sweep_turn : (ws es : List ℕ) (k a p f x : ℕ) → p ≡ x → x < 1024
      → sweep id threshold (swept (record { place = p; count = k; amount = a }) ws es) (suc f) ≡ sweep id threshold (sweep_item_words ws es id threshold x (record { place = p; count = k; amount = a })) f
  unfolding sweep
  sweep_turn ws es k a p f x e h = rw (le-ltb 1023 p (omega arith)) (ap (λ (y : ℕ). sweep id threshold (sweep_item_words ws es id threshold y (record { place = p; count = k; amount = a })) f) e)

  sweep_more : (ws es : List ℕ) (k a p f x : ℕ) (xs : List ℕ) (us vs : List Event) → p ≡ x → x < 1024
      → sweep_item_words ws es id threshold x (record { place = p; count = k; amount = a }) ≡ swept (record { place = next_of ws x; count = k + length us; amount = a - rest_at ws x }) (released ws x (rest_at ws x)) (written es k us)
      → Sweeps (released ws x (rest_at ws x)) (written es k us) (k + length us) (a - rest_at ws x) (next_of ws x) xs f vs
      → sum_of (rest_at (released ws x (rest_at ws x))) xs ≡ sum_of (rest_at ws) xs
      → Sweeps ws es k a p (x ∷ xs) (suc f) (us ++ vs)
  unfolding cleared
  sweep_more ws es k a p f x xs us vs e h i r q =
      let m : a - rest_at ws x - sum_of (rest_at (released ws x (rest_at ws x))) xs ≡ a - (rest_at ws x + sum_of (rest_at ws) xs) = omega arith in
      let c : k + length us + length vs ≡ k + length (us ++ vs) = omega (arith, length-append us vs) in
      sweep_turn ws es k a p f x e h ∙ ap (λ (z : Swept). sweep id threshold z f) i ∙ r ∙ rw (m, c, written_append es k us vs)

  abbrev fired : (o : Options) (ws : List ℕ) (a : ℕ) (ps : List ℕ) → List Event
  fired o ws a ps = sweep_events o s (each (item_in_words ws st) ps) (totals_at ws).total a

  pub sweep_all : (ps ws es : List ℕ) (k a p f : ℕ) (o : Options) → Ready ws st p ps → options_of (options_at ws) ≡ o → length ps ≤ f → event_words ≤ length es → k + length (fired o ws a ps) ≤ 2305
      → Sweeps ws es k a p ps f (fired o ws a ps)
  sweep_all [] ws es k a p f o r eo hf l h = rw (sweep_nil o s (totals_at ws).total a) (sweep_stop ws es k a p f r.linked)
  sweep_all (x ∷ xs) ws es k a p zero o r eo hf l h = absurd (omega arith)
  sweep_all (x ∷ xs) ws es k a p (suc f) o r eo hf l h = more (fired o one (a - rest_at ws x) xs) behind (sweep_all xs one (written es k us) (k + length us) (a - rest_at ws x) (next_of ws x) f o (ready_behind ws st p x xs r (rest_at ws x)) (ap options_of d.options ∙ eo) (omega arith))
    where
      one : List ℕ
      one = released ws x (rest_at ws x)

      d : Gone ws st x (rest_at ws x) one
      d = first_gone ws st p x xs r (rest_at ws x)

      j : plain.Item
      j = item_in_words ws st x

      us : List Event
      us = sweep_item o s j (totals_at ws).total a

      behind : fired o ws a (x ∷ xs) ≡ us ++ fired o one (a - rest_at ws x) xs
      behind =
          sweep_cons o s j (each (item_in_words ws st) xs) (totals_at ws).total a (r.fresh x (count_head x xs))
          ∙ rw (rest_is ws st x r.lay (first_fits ws st p x xs r), d.total, behind_items ws st p x xs r (rest_at ws x))

      more : (vs : List Event) → fired o ws a (x ∷ xs) ≡ us ++ vs → (event_words ≤ length (written es k us) → k + length us + length vs ≤ 2305 → Sweeps one (written es k us) (k + length us) (a - rest_at ws x) (next_of ws x) xs f vs)
          → Sweeps ws es k a p (x ∷ xs) (suc f) (fired o ws a (x ∷ xs))
      more vs e rec =
          let z = length-append us vs in
          let b : k + length (us ++ vs) ≤ 2305 = omega (arith, h, ap (λ (y : List Event). length y) e) in
          let i = subst (λ (y : Options). k + length (sweep_item y s j (totals_at ws).total a) ≤ 2305 → sweep_item_words ws es id threshold x (record { place = p; count = k; amount = a }) ≡ swept (record { place = next_of ws x; count = k + length (sweep_item y s j (totals_at ws).total a); amount = a - rest_at ws x }) (released ws x (rest_at ws x)) (written es k (sweep_item y s j (totals_at ws).total a))) eo (item_swept ws es p x xs r (record { place = p; count = k; amount = a }) l) (omega arith) in
          rw e (sweep_more ws es k a p f x xs us vs r.linked.0 (first_fits ws st p x xs r) i (rec (rw (written_length es k us) l) (omega arith)) (behind_rests ws st p x xs r (rest_at ws x)))
