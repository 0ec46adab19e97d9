-- The ways out of commit, rollback and switching interleaving, over plain values. Assumes nothing.
use mathlib.Core.Path.{◌≡◌, refl, sym, ap, ◌∙◌, subst}
use mathlib.Core.Bool.{Bool, true, false, not}
use mathlib.Core.List.{List}
use Prim.Native.Nat.{ℕ, ◌+◌, ◌≤◌, ◌<◌}
use native.Mathlib.Omega.{arith}
use native.Mathlib.Numerals.{add-one}
use lib.Dec.{ltb}
use borrow.Author.Tests.{lt-ltb, le-ltb, ltb-false}
use Rattle.queue_model.proofs.Tests.{holds, less, same, more, tri}
use Rattle.queue_words.specs.Flags.{pick}
use Rattle.queue_words.specs.Header.{totals_at, put_totals}
use Rattle.queue_words.specs.Known.{known_at}
use Rattle.queue_words.specs.Streams.{is_resetting_words, stream_at_words, put_stream_words}
use Rattle.queue_words.specs.declared.header.Totals.{Totals}
use Rattle.queue_words.specs.declared.known.Known.{Known}
use Rattle.queue_words.specs.declared.streams.OutgoingStream.{OutgoingStream}
use Rattle.queue_streams.specs.Settings.{called}
use Rattle.queue_streams.specs.Waiting.{rescheduled, room_for}
use Rattle.queue_streams.specs.Restart.{opened, reopened_in, reopened_at, reopened_all, reopen, switched_at, switched_all, with_interleaving, alike, set_interleaving_words}
use Rattle.queue_streams.specs.Settled.{reschedule_done, reopen_done_in, reopen_done_at, ReopenSteps, switch_done_at, SwitchSteps}
use Rattle.queue_streams.specs.Call.{Accepted, Refused}

-- Where there is room, the count is one of a table.
pub room_fits : (ws : List ℕ) (all r : Bool) (t : Totals) → r ≡ room_for ws all → r ≡ true → t ≡ totals_at ws → t.known ≤ 256
unfolding room_for
room_fits ws all r t er h et = elim (tri t.known 257) [
  | less l ↦ omega arith
  | same e ↦ absurd (holds false (h_false (omega arith)))
  | more l ↦ absurd (holds false (h_false (omega arith)))
]
  where
    h_false : 256 < t.known → false ≡ true
    h_false g = sym (rw (ap (λ (x : Totals). x.known) (sym et), lt-ltb _ _ g)) ∙ sym er ∙ h

-- ------------------------------------------------------------------ what a done step says

-- No test stopped it, and what stands behind the test is so.
pub not_stopped : (b d : Bool) → pick b false d ≡ true → (b ≡ false) × (d ≡ true)
not_stopped true d e = absurd (holds false e)
not_stopped false d e = (refl, e)

module _ (z il : Bool) (ws : List ℕ) (k : Known) (d : reopen_done_at z il ws k ≡ true) where
  reopen_steps_in : (ltb 255 k.place ≡ false) × (reopen_done_in z il ws k.id.0 k.place (stream_at_words ws k.place) ≡ true)
  unfolding reopen_done_at
  reopen_steps_in = not_stopped (ltb 255 k.place) _ d

  pub reopen_placed : k.place ≤ 255
  reopen_placed = ltb-false 255 k.place reopen_steps_in.0

  pub reopen_done_in_lem : (s : OutgoingStream) → s ≡ stream_at_words ws k.place → reopen_done_in z il ws k.id.0 k.place s ≡ true
  reopen_done_in_lem s es = ap (reopen_done_in z il ws k.id.0 k.place) es ∙ reopen_steps_in.1

-- A resetting stream with messages has been opened: it can be let wait.
pub reopen_waits : (z il : Bool) (ws : List ℕ) (id place : ℕ) (s o : OutgoingStream) (us : List ℕ) (r : Bool) → reopen_done_in z il ws id place s ≡ true
    → r ≡ is_resetting_words s.pause_state → r ≡ true → o ≡ opened z s → us ≡ put_stream_words ws place o → s.first < 1024 → reschedule_done us il id s.first s.priority ≡ true
unfolding reopen_done_in
reopen_waits z il ws id place s o us r d er h eo eu f =
    let e : reopen_done_in z il ws id place s ≡ reschedule_done us il id s.first s.priority = rw (← er, h, lt-ltb _ _ f, eu, eo) in
    sym e ∙ d

module _ (il : Bool) (ws : List ℕ) (k : Known) (d : switch_done_at il ws k ≡ true) where
  abbrev done : OutgoingStream → Bool
  done s = reschedule_done ws il k.id.0 s.first s.priority

  switch_steps_in : (ltb 255 k.place ≡ false) × (pick (ltb 1024 (stream_at_words ws k.place).first) false (done (stream_at_words ws k.place)) ≡ true)
  unfolding switch_done_at
  switch_steps_in = not_stopped (ltb 255 k.place) _ d

  pub switch_placed : k.place ≤ 255
  switch_placed = ltb-false 255 k.place switch_steps_in.0

  pub switch_waits : (s : OutgoingStream) → s ≡ stream_at_words ws k.place → done s ≡ true
  switch_waits s es = ap done es ∙ (not_stopped (ltb 1024 (stream_at_words ws k.place).first) _ switch_steps_in.1).1

-- ------------------------------------------------------------------ commit and rollback

module _ (z il : Bool) (ws : List ℕ) (k : Known) where
  pub reopened_inside : (s : OutgoingStream) (l : List ℕ) → k.place ≤ 255 → s ≡ stream_at_words ws k.place → l ≡ reopened_in z il ws k.id.0 k.place s → l ≡ reopened_at z il ws k
  unfolding reopened_at
  reopened_inside s l h es el = rw (le-ltb _ _ h, ← es, el)

module _ (z il : Bool) (ws : List ℕ) where
  pub reopened_start : ws ≡ reopened_all z il ws 0
  unfolding reopened_all
  reopened_start = refl

  pub reopened_next : (i : ℕ) (us l : List ℕ) (k : Known) → us ≡ reopened_all z il ws i → k ≡ known_at us i → l ≡ reopened_at z il us k → l ≡ reopened_all z il ws (i + 1)
  unfolding reopened_all
  reopened_next i us l k eu ek el = el ∙ ap (reopened_at z il us) ek ∙ ap (λ (x : List ℕ). reopened_at z il x (known_at x i)) eu ∙ sym (rw add-one)

  pub reopened_step : (n i : ℕ) (us : List ℕ) (k : Known) → ReopenSteps z il ws n → i < n → us ≡ reopened_all z il ws i → k ≡ known_at us i → reopen_done_at z il us k ≡ true
  reopened_step n i us k d h eu ek = ap (reopen_done_at z il us) ek ∙ subst (λ (x : List ℕ). reopen_done_at z il x (known_at x i) ≡ true) (sym eu) (d i h)

  pub reopened_end : (n i : ℕ) (us : List ℕ) → us ≡ reopened_all z il ws i → i ≤ n → n ≤ i → us ≡ reopened_all z il ws n
  reopened_end n i us e l g =
      let q : i ≡ n = omega arith in
      e ∙ ap (reopened_all z il ws) q

module _ (z : Bool) (ws : List ℕ) (r : Bool) (er : r ≡ room_for ws false) where
  pub reopen_done : (t : Totals) (l : List ℕ) → r ≡ true → t ≡ totals_at ws → l ≡ reopened_all z t.interleaving ws t.known → called (Accepted 0) l ≡ reopen z ws
  unfolding reopen
  reopen_done t l h et el = ap (called (Accepted 0)) (el ∙ ap (λ (x : Totals). reopened_all z x.interleaving ws x.known) et) ∙ sym (rw (← er, h))

  pub reopen_refused : r ≡ false → called (Refused 16) ws ≡ reopen z ws
  unfolding reopen
  reopen_refused h = rw (← er, h)

-- ---- interleaving

module _ (il : Bool) (ws : List ℕ) (k : Known) where
  pub switched_inside : (s : OutgoingStream) (l : List ℕ) → k.place ≤ 255 → s ≡ stream_at_words ws k.place → l ≡ rescheduled ws il k.id.0 s.first s.priority → l ≡ switched_at il ws k
  unfolding switched_at
  switched_inside s l h es el = el ∙ ap (λ (x : OutgoingStream). rescheduled ws il k.id.0 x.first x.priority) es ∙ sym (rw (le-ltb _ _ h))

module _ (il : Bool) (ws : List ℕ) where
  pub switched_start : ws ≡ switched_all il ws 0
  unfolding switched_all
  switched_start = refl

  pub switched_next : (i : ℕ) (us l : List ℕ) (k : Known) → us ≡ switched_all il ws i → k ≡ known_at us i → l ≡ switched_at il us k → l ≡ switched_all il ws (i + 1)
  unfolding switched_all
  switched_next i us l k eu ek el = el ∙ ap (switched_at il us) ek ∙ ap (λ (x : List ℕ). switched_at il x (known_at x i)) eu ∙ sym (rw add-one)

  pub switched_step : (n i : ℕ) (us : List ℕ) (k : Known) → SwitchSteps il ws n → i < n → us ≡ switched_all il ws i → k ≡ known_at us i → switch_done_at il us k ≡ true
  switched_step n i us k d h eu ek = ap (switch_done_at il us) ek ∙ subst (λ (x : List ℕ). switch_done_at il x (known_at x i) ≡ true) (sym eu) (d i h)

  pub switched_end : (n i : ℕ) (us : List ℕ) → us ≡ switched_all il ws i → i ≤ n → n ≤ i → us ≡ switched_all il ws n
  switched_end n i us e l g =
      let q : i ≡ n = omega arith in
      e ∙ ap (switched_all il ws) q

pub alike_on : (a b : Bool) → a ≡ true → b ≡ alike a b
unfolding alike
alike_on a b e = rw e

pub alike_off : (a b : Bool) → a ≡ false → not b ≡ alike a b
unfolding alike
alike_off a b e = rw e

module _ (b : Bool) (ws : List ℕ) (t : Totals) (et : t ≡ totals_at ws) (alike_is : Bool) (ea : alike_is ≡ alike b t.interleaving) where
  pub choice_kept : alike_is ≡ true → called (Accepted 0) ws ≡ set_interleaving_words b ws
  unfolding set_interleaving_words
  choice_kept h = rw (ap (λ (x : Totals). x.interleaving) (sym et), ← ea, h)

  module _ (n : alike_is ≡ false) (r : Bool) (er : r ≡ room_for ws true) where
    pub switch_done : (l m : List ℕ) → r ≡ true → l ≡ put_totals ws (with_interleaving t b) → m ≡ switched_all b l t.known → called (Accepted 0) m ≡ set_interleaving_words b ws
    unfolding set_interleaving_words
    switch_done l m h el em =
        ap (called (Accepted 0)) (em ∙ ap (λ (x : List ℕ). switched_all b x t.known) el ∙ ap (λ (x : Totals). switched_all b (put_totals ws (with_interleaving x b)) x.known) et)
        ∙ sym (rw (ap (λ (x : Totals). x.interleaving) (sym et), ← ea, n, ← er, h))

    pub switch_refused : r ≡ false → called (Refused 16) ws ≡ set_interleaving_words b ws
    unfolding set_interleaving_words
    switch_refused h = rw (ap (λ (x : Totals). x.interleaving) (sym et), ← ea, n, ← er, h)
