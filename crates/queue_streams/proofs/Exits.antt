-- The ways out of the functions on the streams, over plain values: a callee's result is a variable, what it ensures a hypothesis. Assumes nothing.
use mathlib.Core.Path.{◌≡◌, refl, sym, ap, subst}
use mathlib.Core.Bool.{Bool, true, false}
use mathlib.Core.List.{List}
use Prim.Native.Nat.{ℕ, suc, ◌+◌, ◌-◌, ◌≤◌, ◌<◌}
use native.Mathlib.Omega.{arith}
use borrow.Author.Tests.{lt-ltb, le-ltb, ltb-false}
use lib.Dec.{ltb, leb}
use lib.ListN.{length}
use Rattle.queue_words.specs.Find.{find_stream_words}
use Rattle.queue_words.specs.Flags.{pick}
use Rattle.queue_words.specs.Header.{options_at, totals_at, put_totals}
use Rattle.queue_words.specs.Known.{known_at, put_known, known_count}
use Rattle.queue_words.specs.Streams.{stream_at_words, put_stream_words}
use Rattle.queue_words.specs.declared.header.Options.{Options}
use Rattle.queue_words.specs.declared.header.Totals.{Totals}
use Rattle.queue_words.specs.declared.known.Found.{Found}
use Rattle.queue_words.specs.declared.known.Found.TheVariants.{At, Gap, Broken}
use Rattle.queue_words.specs.declared.known.Known.{Known}
use Rattle.queue_words.specs.declared.streams.OutgoingStream.{OutgoingStream}
use Rattle.queue_words.proofs.Finds.{find_hit, find_missed}
use Rattle.queue_streams.specs.Events.{event_words, put_event}
use Rattle.queue_streams.specs.Known.{new_stream_words, place_of, look_up, shifted, with_known, inserted}
use Rattle.queue_streams.specs.Settings.{called, called_with, with_priority_words, with_threshold_words, set_priority_words, raised, threshold_at, set_threshold_words}
use Rattle.queue_streams.specs.Call.{Call}
use Rattle.queue_streams.specs.Call.{Accepted, Refused}
use Rattle.queue_streams.specs.Place.{Place}
use Rattle.queue_streams.specs.Place as place

-- the count of loaded totals
pub count_of : (ws : List ℕ) (t : Totals) → t ≡ totals_at ws → known_count ws ≡ t.known
count_of ws t e = ap (λ (x : Totals). x.known) (sym e)

-- ------------------------------------------------------------------ where a stream is

-- a row that is looked up is a row of the table
pub look_row : (ws : List ℕ) (id q : ℕ) → look_up ws id ≡ place.Row q → q < 256
unfolding look_up
look_row ws id q = by (find_stream_words ws id) refl
  where
    full : (b : Bool) (p : ℕ) → pick b (place.Refused 6) (place.New p) ≡ place.Row q → ⊥
    full true p e = let z : ◌≡◌ {A = ℕ} 0 1 = cc in omega arith
    full false p e = let z : ◌≡◌ {A = ℕ} 0 1 = cc in omega arith

    by : (f : Found) → find_stream_words ws id ≡ f → place_of ws f ≡ place.Row q → q < 256
    by (At p r) e h = let z : r ≡ q = cc in subst (λ x. x < 256) z (find_hit ws id p r e).place_fits
    by (Gap p) e h = absurd (full (ltb 255 (known_count ws)) p h)
    by Broken e h = let z : ◌≡◌ {A = ℕ} 0 1 = cc in absurd (omega arith)

-- a position at which a stream would be is one at which it can be
pub look_new : (ws : List ℕ) (id p : ℕ) → look_up ws id ≡ place.New p → (p ≤ known_count ws) × (known_count ws < 256)
unfolding look_up
look_new ws id p = by (find_stream_words ws id) refl
  where
    room : (b : Bool) (r : ℕ) → ltb 255 (known_count ws) ≡ b → find_stream_words ws id ≡ Gap r → pick b (place.Refused 6) (place.New r) ≡ place.New p
        → (p ≤ known_count ws) × (known_count ws < 256)
    room true r t e h = let z : ◌≡◌ {A = ℕ} 0 1 = cc in absurd (omega arith)
    room false r t e h =
        let z : r ≡ p = cc in
        (subst (λ x. x ≤ known_count ws) z (find_missed ws id r e).among, omega (arith, ltb-false 255 (known_count ws) t))

    by : (f : Found) → find_stream_words ws id ≡ f → place_of ws f ≡ place.New p → (p ≤ known_count ws) × (known_count ws < 256)
    by (At q r) e h = let z : ◌≡◌ {A = ℕ} 0 1 = cc in absurd (omega arith)
    by (Gap r) e h = room (ltb 255 (known_count ws)) r refl e h
    by Broken e h = let z : ◌≡◌ {A = ℕ} 0 1 = cc in absurd (omega arith)

module _ (ws : List ℕ) (id : ℕ) (f : Found) (ef : f ≡ find_stream_words ws id) where
  pub look_found : (p q : ℕ) → f ≡ At p q → place.Row q ≡ look_up ws id
  unfolding look_up
  look_found p q e = rw (← ef, e)

  pub look_broken : f ≡ Broken → place.Refused 16 ≡ look_up ws id
  unfolding look_up
  look_broken e = rw (← ef, e)

  module _ (p : ℕ) (e : f ≡ Gap p) (t : Totals) (et : t ≡ totals_at ws) where
    pub look_full : 255 < t.known → place.Refused 6 ≡ look_up ws id
    unfolding look_up
    look_full h = rw (← ef, e, count_of ws t et, lt-ltb _ _ h)

    pub look_gap : t.known ≤ 255 → place.New p ≡ look_up ws id
    unfolding look_up
    look_gap h = rw (← ef, e, count_of ws t et, le-ltb _ _ h)

-- ------------------------------------------------------------------ making a stream known

pub shift_start : (ws : List ℕ) (n : ℕ) → ws ≡ shifted ws n (n - n)
unfolding shifted
shift_start ws n =
    let z : n - n ≡ 0 = omega arith in
    rw z

pub shift_next : (ws : List ℕ) (n i : ℕ) (l m : List ℕ) (k : Known) → 0 < i → i ≤ n → l ≡ shifted ws n (n - i) → k ≡ known_at l (i - 1) → m ≡ put_known l (i - 1 + 1) k
    → m ≡ shifted ws n (n - (i - 1))
unfolding shifted
shift_next ws n i l m k h g el ek em =
    let s : n - (i - 1) ≡ suc (n - i) = omega arith in
    let a : n - (n - i) ≡ i = omega arith in
    let b : i - 1 + 1 ≡ i = omega arith in
    rw (s, a, em, b, ek, el)

-- a stream may be made known: in the loaded count
pub count_room : (ws : List ℕ) (t : Totals) (position : ℕ) → t ≡ totals_at ws → (position ≤ known_count ws) × (known_count ws < 256)
    → (position ≤ t.known) × (t.known < 256)
count_room ws t position e h = subst (λ (x : Totals). (position ≤ x.known) × (x.known < 256)) (sym e) h

pub insert_done : (ws : List ℕ) (position id : ℕ) (s : OutgoingStream) (t : Totals) (a b d m : List ℕ) → t ≡ totals_at ws → a ≡ shifted ws t.known (t.known - position)
    → b ≡ put_known a position (record { id = record { 0 = id }; place = t.known }) → d ≡ put_stream_words b t.known s → m ≡ put_totals d (with_known t (t.known + 1))
    → m ≡ inserted ws position id s
unfolding inserted
insert_done ws position id s t a b d m et ea eb ed em = rw (count_of ws t et, ← et, em, ed, eb, ea)

-- ------------------------------------------------------------------ the settings

module _ (ws : List ℕ) (id p : ℕ) (r : Place) (er : r ≡ look_up ws id) where
  pub priority_row : (row : ℕ) (s : OutgoingStream) (l : List ℕ) → r ≡ place.Row row → s ≡ stream_at_words ws row → l ≡ put_stream_words ws row (with_priority_words s p)
      → called (Accepted 0) l ≡ set_priority_words ws id p
  unfolding set_priority_words
  priority_row row s l e es el = rw (← er, e, el, es)

  pub priority_new : (position : ℕ) (o : Options) (s : OutgoingStream) (l : List ℕ) → r ≡ place.New position → o ≡ options_at ws → s ≡ new_stream_words o
      → l ≡ inserted ws position id (with_priority_words s p) → called (Accepted 0) l ≡ set_priority_words ws id p
  unfolding set_priority_words
  priority_new position o s l e eo es el = rw (← er, e, el, es, eo)

  pub priority_refused : (n : ℕ) → r ≡ place.Refused n → called (Refused n) ws ≡ set_priority_words ws id p
  unfolding set_priority_words
  priority_refused n e = rw (← er, e)

pub priority_put : (ws : List ℕ) (row p : ℕ) (s : OutgoingStream) (l : List ℕ) → s ≡ stream_at_words ws row → l ≡ put_stream_words ws row (with_priority_words s p) → l ≡ put_stream_words ws row (with_priority_words (stream_at_words ws row) p)
priority_put ws row p s l es el = rw (el, es)

pub priority_made : (ws : List ℕ) (position id p : ℕ) (o : Options) (s : OutgoingStream) (l : List ℕ) → o ≡ options_at ws → s ≡ new_stream_words o → l ≡ inserted ws position id (with_priority_words s p)
    → l ≡ inserted ws position id (with_priority_words (new_stream_words (options_at ws)) p)
priority_made ws position id p o s l eo es el = rw (el, es, eo)

pub threshold_made : (ws : List ℕ) (position id t : ℕ) (o : Options) (s : OutgoingStream) (l : List ℕ) → o ≡ options_at ws → s ≡ new_stream_words o → l ≡ inserted ws position id (with_threshold_words s t)
    → l ≡ inserted ws position id (with_threshold_words (new_stream_words (options_at ws)) t)
threshold_made ws position id t o s l eo es el = rw (el, es, eo)

pub raised_below : (amount old new : ℕ) → old < amount → leb amount new ≡ raised amount old new
raised_below amount old new h = rw (lt-ltb _ _ h)

pub raised_not : (amount old new : ℕ) → amount ≤ old → ltb old amount ≡ raised amount old new
raised_not amount old new h = rw (le-ltb _ _ h)

module _
    (ws es : List ℕ) (id t row : ℕ) (s : OutgoingStream) (ex : s ≡ stream_at_words ws row) (r : Bool)
    (er : r ≡ raised s.buffered_amount s.low_threshold t) (l : List ℕ) (el : l ≡ put_stream_words ws row (with_threshold_words s t)) where
  pub threshold_fires : (m : List ℕ) → r ≡ true → m ≡ put_event es 0 1 id s.buffered_amount → called_with (Accepted 1) l m ≡ threshold_at ws es id t row (stream_at_words ws row)
  threshold_fires m h em = rw (← ex, ← er, h, el, em)

  pub threshold_silent : r ≡ false → called_with (Accepted 0) l es ≡ threshold_at ws es id t row (stream_at_words ws row)
  threshold_silent h = rw (← ex, ← er, h, el)

pub threshold_few : (ws es : List ℕ) (id t : ℕ) → length es < event_words → called_with (Refused 3) ws es ≡ set_threshold_words ws es id t
unfolding set_threshold_words
threshold_few ws es id t h = rw (lt-ltb _ _ h)

module _ (ws es : List ℕ) (id t : ℕ) (h : event_words ≤ length es) (r : Place) (er : r ≡ look_up ws id) where
  pub threshold_row : (row : ℕ) (a : Call) (l m : List ℕ) → r ≡ place.Row row → called_with a l m ≡ threshold_at ws es id t row (stream_at_words ws row)
      → called_with a l m ≡ set_threshold_words ws es id t
  unfolding set_threshold_words
  threshold_row row a l m e el = rw (le-ltb _ _ h, ← er, e) el

  pub threshold_new : (position : ℕ) (o : Options) (s : OutgoingStream) (l : List ℕ) → r ≡ place.New position → o ≡ options_at ws → s ≡ new_stream_words o
      → l ≡ inserted ws position id (with_threshold_words s t) → called_with (Accepted 0) l es ≡ set_threshold_words ws es id t
  unfolding set_threshold_words
  threshold_new position o s l e eo es' el = rw (le-ltb _ _ h, ← er, e, el, es', eo)

  pub threshold_refused : (n : ℕ) → r ≡ place.Refused n → called_with (Refused n) ws es ≡ set_threshold_words ws es id t
  unfolding set_threshold_words
  threshold_refused n e = rw (le-ltb _ _ h, ← er, e)
