-- Commit where no stream begins to wait is commit (`quiet_commit`); and the ways out of its functions, over plain values. Assumes nothing.
use mathlib.Core.Path.{◌≡◌, refl, sym, ap, ◌∙◌, subst}
use mathlib.Core.Bool.{Bool, true, false, not}
use mathlib.Core.List.{List}
use Prim.Native.Nat.{ℕ, zero, suc, ◌+◌, ◌-◌, ◌≤◌, ◌<◌}
use native.Mathlib.Omega.{arith}
use native.Mathlib.Numerals.{add-one}
use lib.Dec.{ltb, leb, eqb}
use lib.ListN.{length}
use borrow.Author.Tests.{lt-ltb, le-ltb, eq-eqb, le-leb, lt-leb, ltb-false, leb-false, eqb-true}
use Rattle.queue_model.proofs.Tests.{holds, Tri, less, same, more, tri}
use Rattle.queue_words.specs.Flags.{pick}
use Rattle.queue_words.specs.Header.{totals_at, scheduler_at}
use Rattle.queue_words.specs.Known.{known_at, known_count}
use Rattle.queue_words.specs.Streams.{is_resetting_words, stream_at_words, put_stream_words, FitsStream}
use Rattle.queue_words.specs.declared.header.SchedulerState.{SchedulerState}
use Rattle.queue_words.specs.declared.header.Totals.{Totals}
use Rattle.queue_words.specs.declared.known.Known.{Known}
use Rattle.queue_words.specs.declared.streams.OutgoingStream.{OutgoingStream}
use Rattle.queue_words.proofs.Laws.{whole_put_stream, stream_at_fits, stream_at_put, stream_at_put_other, known_put_stream}
use Rattle.queue_streams.specs.Settings.{called}
use Rattle.queue_streams.specs.Waiting.{passed_over, tally_stream, tally_known, tally, room_for}
use Rattle.queue_streams.specs.Restart.{opened, reopened_in, reopened_at, reopened_all, reopen}
use Rattle.queue_streams.specs.Commit.{quiet_stream, quiet_from, nothing_starts, committed_at, committed_all, CommitPlaced}
use Rattle.queue_streams.specs.Call.{Accepted}
use Rattle.queue_streams.specs.declared.waiting.Tally.{Tally}

-- ------------------------------------------------------------------ what a quiet stream is

-- A quiet stream by its cases: not resetting, or without a message.
data Calm (s : OutgoingStream) : Type 0 where
  shut : is_resetting_words s.pause_state ≡ false → Calm s
  empty : is_resetting_words s.pause_state ≡ true → s.first ≡ 1024 → Calm s

calm : (s : OutgoingStream) → quiet_stream s ≡ true → Calm s
calm s q = by_state (is_resetting_words s.pause_state) refl (eqb s.first 1024) refl q
  where
    by_state : (a : Bool) → is_resetting_words s.pause_state ≡ a → (b : Bool) → eqb s.first 1024 ≡ b → pick b true (not a) ≡ true → Calm s
    by_state false e b f g = shut e
    by_state true e true f g = empty e (eqb-true _ _ f)
    by_state true e false f g = absurd (holds false g)

-- An opened stream is quiet.
opened_quiet : (s : OutgoingStream) → quiet_stream (opened true s) ≡ true
opened_quiet s = by (eqb s.first 1024)
  where
    by : (b : Bool) → pick b true true ≡ true
    by true = refl
    by false = refl

-- ------------------------------------------------------------------ the test

module _ (ws : List ℕ) (n : ℕ) where
  -- What the test says of each position.
  abbrev Passed : ℕ → Type 0
  Passed j = ((known_at ws j).place < n) × (quiet_stream (stream_at_words ws j) ≡ true)

  quiet_at : (m i : ℕ) → quiet_from ws n i m ≡ true → (j : ℕ) → i ≤ j → j < i + m → Passed j
  unfolding quiet_from
  quiet_at zero i q j l h = absurd (omega arith)
  quiet_at (suc m) i q j l h = by (leb n (known_at ws i).place) refl (quiet_stream (stream_at_words ws i)) refl q (tri i j) (λ (g : quiet_from ws n (suc i) m ≡ true) (k : i < j). quiet_at m (suc i) g j (omega arith) (omega arith))
    where
      by : (a : Bool) → leb n (known_at ws i).place ≡ a → (b : Bool) → quiet_stream (stream_at_words ws i) ≡ b → pick a false (pick b (quiet_from ws n (suc i) m) false) ≡ true → Tri i j → (quiet_from ws n (suc i) m ≡ true → i < j → Passed j) → Passed j
      by true e b f g t ih = absurd (holds false g)
      by false e false f g t ih = absurd (holds false g)
      by false e true f g (less k) ih = ih g k
      by false e true f g (same k) ih = subst Passed k (leb-false _ _ e, f)
      by false e true f g (more k) ih = absurd (omega arith)

  module _ (i : ℕ) (inv : quiet_from ws n 0 n ≡ quiet_from ws n i (n - i)) where
    module _ (h : i < n) (k : Known) (ek : k ≡ known_at ws i) where
      pub quiet_far : n ≤ k.place → false ≡ quiet_from ws n 0 n
      unfolding quiet_from
      quiet_far g =
          let s : n - i ≡ suc (n - (i + 1)) = omega arith in
          sym (inv ∙ rw (s, ← ek, le-leb _ _ g))

      module _ (g : k.place < n) (s : OutgoingStream) (es : s ≡ stream_at_words ws i) (b : Bool) (eb : b ≡ quiet_stream s) where
        at_row : b ≡ quiet_stream (stream_at_words ws i)
        at_row = eb ∙ ap quiet_stream es

        pub quiet_not : b ≡ false → false ≡ quiet_from ws n 0 n
        unfolding quiet_from
        quiet_not f =
            let m : n - i ≡ suc (n - (i + 1)) = omega arith in
            sym (inv ∙ rw (m, ← ek, lt-leb _ _ g, ← at_row, f))

        pub quiet_next : b ≡ true → quiet_from ws n 0 n ≡ quiet_from ws n (i + 1) (n - (i + 1))
        unfolding quiet_from
        quiet_next t =
            let m : n - i ≡ suc (n - (i + 1)) = omega arith in
            inv ∙ rw (m, ← ek, lt-leb _ _ g, ← at_row, t, add-one)

    pub quiet_end : n ≤ i → true ≡ quiet_from ws n 0 n
    unfolding quiet_from
    quiet_end g =
        let s : n - i ≡ 0 = omega arith in
        sym (inv ∙ rw s)

module _ (ws : List ℕ) (s : SchedulerState) (es : s ≡ scheduler_at ws) where
  pub starts_active : 256 < s.active → false ≡ nothing_starts ws
  unfolding nothing_starts
  starts_active h = rw (ap (λ (x : SchedulerState). x.active) (sym es), lt-ltb _ _ h)

  module _ (a : s.active ≤ 256) (t : Totals) (et : t ≡ totals_at ws) where
    pub starts_known : 256 < t.known → false ≡ nothing_starts ws
    unfolding nothing_starts
    starts_known h = rw (ap (λ (x : SchedulerState). x.active) (sym es), le-ltb _ _ a, ap (λ (x : Totals). x.known) (sym et), lt-ltb _ _ h)

    pub starts_none : (r : Bool) → t.known ≤ 256 → r ≡ quiet_from ws t.known 0 t.known → r ≡ nothing_starts ws
    unfolding nothing_starts
    starts_none r h e = e ∙ sym (rw (ap (λ (x : SchedulerState). x.active) (sym es), le-ltb _ _ a, ap (λ (x : Totals). x.known) (sym et), le-ltb _ _ h))

-- ------------------------------------------------------------------ the walk

module _ (ws : List ℕ) where
  pub committed_start : ws ≡ committed_all ws 0
  unfolding committed_all
  committed_start = refl

  pub committed_next : (i : ℕ) (us l : List ℕ) (k : Known) → us ≡ committed_all ws i → k ≡ known_at us i → l ≡ committed_at us k.place → l ≡ committed_all ws (i + 1)
  unfolding committed_all
  committed_next i us l k eu ek el = el ∙ ap (λ (x : Known). committed_at us x.place) ek ∙ ap (λ (x : List ℕ). committed_at x (known_at x i).place) eu ∙ sym (rw add-one)

  pub committed_step : (n i : ℕ) (us : List ℕ) (k : Known) → CommitPlaced ws n → i < n → us ≡ committed_all ws i → k ≡ known_at us i → k.place < 256
  committed_step n i us k p h eu ek =
      let e : k.place ≡ (known_at (committed_all ws i) i).place = ap (λ (x : Known). x.place) (ek ∙ ap (λ (x : List ℕ). known_at x i) eu) in
      let q : (known_at (committed_all ws i) i).place < 256 = p i h in
      omega arith

  pub committed_end : (n i : ℕ) (us : List ℕ) → us ≡ committed_all ws i → i ≤ n → n ≤ i → us ≡ committed_all ws n
  committed_end n i us e l g =
      let q : i ≡ n = omega arith in
      e ∙ ap (committed_all ws) q

-- ------------------------------------------------------------------ it is commit

-- One stream: where it is quiet, commit does no more than open it.
step_same : (il : Bool) (us : List ℕ) (k : Known) → k.place ≤ 255 → Calm (stream_at_words us k.place) → committed_at us k.place ≡ reopened_at true il us k
unfolding committed_at reopened_at reopened_in
step_same il us k h (shut l) = rw (le-ltb _ _ h, l)
step_same il us k h (empty l e) =
    let g : 1024 ≤ (stream_at_words us k.place).first = omega arith in
    rw (le-ltb _ _ h, l, le-ltb _ _ g)

pub opened_fits : (z : Bool) (s : OutgoingStream) → FitsStream s → FitsStream (opened z s)
opened_fits true s f = record { priority_fits = f.priority_fits; ssn_fits = omega arith; unordered_mid_fits = omega arith; ordered_mid_fits = omega arith }
opened_fits false s f = record { priority_fits = f.priority_fits; ssn_fits = f.ssn_fits; unordered_mid_fits = f.unordered_mid_fits; ordered_mid_fits = f.ordered_mid_fits }

-- What a step leaves: the words' number, the known streams, and quiet rows.
record Kept (ws us : List ℕ) (n : ℕ) : Type 0 where
  pub long : length us ≡ 20768
  pub known_same : (j : ℕ) → j < 256 → known_at us j ≡ known_at ws j
  pub quiet : (j : ℕ) → j < n → quiet_stream (stream_at_words us j) ≡ true

step_kept : (ws us : List ℕ) (n p : ℕ) → p < 256 → Kept ws us n → Kept ws (committed_at us p) n
unfolding committed_at
step_kept ws us n p h k = by (ltb 255 p) (is_resetting_words (stream_at_words us p).pause_state)
  where
    o : OutgoingStream
    o = opened true (stream_at_words us p)

    vs : List ℕ
    vs = put_stream_words us p o

    row : (j : ℕ) → j < n → Tri p j → quiet_stream (stream_at_words vs j) ≡ true
    row j l (same e) =
        let a : stream_at_words vs p ≡ o = stream_at_put us p o k.long h (opened_fits true (stream_at_words us p) (stream_at_fits us p)) in
        subst (λ (x : ℕ). quiet_stream (stream_at_words vs x) ≡ true) e (ap quiet_stream a ∙ opened_quiet (stream_at_words us p))
    row j l (less m) = ap quiet_stream (stream_at_put_other us p o j (λ (e : p ≡ j). omega arith)) ∙ k.quiet j l
    row j l (more m) = ap quiet_stream (stream_at_put_other us p o j (λ (e : p ≡ j). omega arith)) ∙ k.quiet j l

    stored : Kept ws vs n
    stored = record { long = whole_put_stream us p o ∙ k.long; known_same = λ j l. known_put_stream us p o j l ∙ k.known_same j l; quiet = λ j l. row j l (tri p j) }

    by : (a b : Bool) → Kept ws (pick a us (pick b vs us)) n
    by true b = k
    by false false = k
    by false true = stored

module _ (ws : List ℕ) (n : ℕ) (few : n ≤ 256) (whole : length ws ≡ 20768) (q : quiet_from ws n 0 n ≡ true) where
  passed : (j : ℕ) → j < n → ((known_at ws j).place < n) × (quiet_stream (stream_at_words ws j) ≡ true)
  passed j l = quiet_at ws n n 0 q j (omega arith) (omega arith)

  kept : (i : ℕ) → i ≤ n → Kept ws (committed_all ws i) n
  unfolding committed_all
  kept zero l = record { long = whole; known_same = λ j h. refl; quiet = λ j h. (passed j h).1 }
  kept (suc i) l =
      let k : Kept ws (committed_all ws i) n = kept i (omega arith) in
      let e : known_at (committed_all ws i) i ≡ known_at ws i = k.known_same i (omega arith) in
      let p : (known_at ws i).place < n = (passed i (omega arith)).0 in
      let ep : (known_at (committed_all ws i) i).place ≡ (known_at ws i).place = ap (λ (x : Known). x.place) e in
      step_kept ws (committed_all ws i) n (known_at (committed_all ws i) i).place (omega arith) k

  placed : CommitPlaced ws n
  placed i l =
      let e : known_at (committed_all ws i) i ≡ known_at ws i = (kept i (omega arith)).known_same i (omega arith) in
      let p : (known_at ws i).place < n = (passed i l).0 in
      let ep : (known_at (committed_all ws i) i).place ≡ (known_at ws i).place = ap (λ (x : Known). x.place) e in
      omega arith

  walks : (il : Bool) (i : ℕ) → i ≤ n → committed_all ws i ≡ reopened_all true il ws i
  unfolding committed_all reopened_all
  walks il zero l = refl
  walks il (suc i) l =
      let k : Kept ws (committed_all ws i) n = kept i (omega arith) in
      let e : known_at (committed_all ws i) i ≡ known_at ws i = k.known_same i (omega arith) in
      let p : (known_at ws i).place < n = (passed i (omega arith)).0 in
      let ep : (known_at (committed_all ws i) i).place ≡ (known_at ws i).place = ap (λ (x : Known). x.place) e in
      let c : Calm (stream_at_words (committed_all ws i) (known_at (committed_all ws i) i).place) = calm (stream_at_words (committed_all ws i) (known_at (committed_all ws i) i).place) (k.quiet (known_at (committed_all ws i) i).place (omega arith)) in
      step_same il (committed_all ws i) (known_at (committed_all ws i) i) (omega arith) c
      ∙ ap (λ (x : List ℕ). reopened_at true il x (known_at x i)) (walks il i (omega arith))

  -- No row of the scheduler is needed.
  no_row : (t : Tally) (k : Known) → k.place ≤ 255 → Calm (stream_at_words ws k.place) → tally_known ws false k t ≡ t
  unfolding tally_known tally_stream passed_over
  no_row t k h (shut l) = rw (le-ltb _ _ h, l)
  no_row t k h (empty l e) =
      let g : (stream_at_words ws k.place).first ≤ 1024 = omega arith in
      rw (le-ltb _ _ h, l, le-ltb _ _ g, eq-eqb _ _ e)

  tallied : (i : ℕ) → i ≤ n → tally ws false i ≡ record { fits = true; rows = (scheduler_at ws).active }
  unfolding tally
  tallied zero l = refl
  tallied (suc i) l =
      let p : (known_at ws i).place < n = (passed i (omega arith)).0 in
      no_row (tally ws false i) (known_at ws i) (omega arith) (calm (stream_at_words ws (known_at ws i).place) (passed (known_at ws i).place p).1) ∙ tallied i (omega arith)

pub quiet_commit : (ws : List ℕ) (r : Bool) (t : Totals) (l : List ℕ) → length ws ≡ 20768 → r ≡ nothing_starts ws → r ≡ true → t ≡ totals_at ws → l ≡ committed_all ws t.known → called (Accepted 0) l ≡ reopen true ws
unfolding nothing_starts reopen room_for
quiet_commit ws r t l whole er h et el = by (ltb 256 (scheduler_at ws).active) refl (ltb 256 (known_count ws)) refl (sym er ∙ h)
  where
    n : ℕ
    n = known_count ws

    by : (a : Bool) → ltb 256 (scheduler_at ws).active ≡ a → (b : Bool) → ltb 256 (known_count ws) ≡ b → pick a false (pick b false (quiet_from ws (known_count ws) 0 (known_count ws))) ≡ true → called (Accepted 0) l ≡ reopen true ws
    by true ea b eb q = absurd (holds false q)
    by false ea true eb q = absurd (holds false q)
    by false ea false eb q =
        let few : n ≤ 256 = ltb-false _ _ eb in
        let low : (scheduler_at ws).active ≤ 256 = ltb-false _ _ ea in
        let z : n ≤ n = omega arith in
        ap (called (Accepted 0)) (el ∙ ap (λ (x : Totals). committed_all ws x.known) et ∙ walks ws n few whole q (totals_at ws).interleaving n z)
        ∙ sym (rw (eb, ea, tallied ws n few whole q n z, le-leb _ _ low))

-- Where nothing starts, the count is one of a table, and so are the places.
pub starts_few : (ws : List ℕ) (r : Bool) (t : Totals) → length ws ≡ 20768 → r ≡ nothing_starts ws → r ≡ true → t ≡ totals_at ws → (t.known ≤ 256) × CommitPlaced ws t.known
unfolding nothing_starts
starts_few ws r t whole er h et = by (ltb 256 (scheduler_at ws).active) (ltb 256 (known_count ws)) refl (sym er ∙ h)
  where
    by : (a b : Bool) → ltb 256 (known_count ws) ≡ b → pick a false (pick b false (quiet_from ws (known_count ws) 0 (known_count ws))) ≡ true → (t.known ≤ 256) × CommitPlaced ws t.known
    by true b eb q = absurd (holds false q)
    by false true eb q = absurd (holds false q)
    by false false eb q =
        let few : known_count ws ≤ 256 = ltb-false _ _ eb in
        subst (λ (x : Totals). (x.known ≤ 256) × CommitPlaced ws x.known) (sym et) (few, placed ws (known_count ws) few whole q)
