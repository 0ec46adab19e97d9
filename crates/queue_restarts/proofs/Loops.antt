-- The loops over the known streams, over plain values: a callee's result is a variable, what it ensures a hypothesis. Assumes nothing.
use mathlib.Core.Path.{◌≡◌, refl, sym, ap, ap₂, ◌∙◌, subst}
use mathlib.Core.Bool.{Bool, true, false}
use mathlib.Core.List.{List}
use Prim.Native.Nat.{ℕ, zero, suc, ◌+◌, ◌-◌, ◌≤◌, ◌<◌}
use native.Mathlib.Nat.{sub-zero}
use native.Mathlib.Omega.{arith}
use native.Mathlib.Numerals.{add-one}
use borrow.Author.Tests.{lt-ltb, le-ltb, ltb-false}
use Rattle.queue_model.proofs.Tests.{holds, less, same, more, tri}
use lib.Dec.{ltb}
use lib.ListN.{replicate, set}
use Rattle.queue_words.specs.Flags.{pick}
use Rattle.queue_words.specs.Header.{totals_at}
use Rattle.queue_words.specs.Known.{known_at}
use Rattle.queue_words.specs.Streams.{stream_at_words}
use Rattle.queue_words.specs.declared.header.Totals.{Totals}
use Rattle.queue_words.specs.declared.known.Known.{Known}
use Rattle.queue_words.specs.declared.streams.OutgoingStream.{OutgoingStream}
use Rattle.queue_streams.specs.Answers.{is_accepted}
use Rattle.queue_streams.specs.Call.{Call}
use Rattle.queue_streams.specs.Call.{Accepted, Refused}
use Rattle.queue_streams.specs.Number as number
use Rattle.queue_restarts.specs.Ready.{places_fit, all_places_fit, paused_at, one_more, collected, refused_ready, collected_or16, marked, marked_all, readied, ready, count_of, ready_count}
use Rattle.queue_restarts.specs.Reset.{put_back, sum_stream, sum_known, sum_all, reset_at, reset_all}
use Rattle.queue_restarts.specs.ReadyStreams.{ReadyStreams}
use Rattle.queue_restarts.specs.declared.whole.Sum.{Sum}

-- ------------------------------------------------------------------ whether the places fit

module _ (ws : List ℕ) (n : ℕ) where
  pub fit_start : places_fit ws 0 n ≡ places_fit ws 0 (n - 0)
  fit_start = rw sub-zero

  module _ (i : ℕ) (inv : places_fit ws 0 n ≡ places_fit ws i (n - i)) where
    module _ (h : i < n) (k : Known) (ek : k ≡ known_at ws i) where
      pub fit_not : 255 < k.place → false ≡ places_fit ws 0 n
      unfolding places_fit
      fit_not g =
          let s : n - i ≡ suc (n - (i + 1)) = omega arith in
          sym (inv ∙ rw (s, ← ek, lt-ltb _ _ g))

      pub fit_next : k.place ≤ 255 → places_fit ws 0 n ≡ places_fit ws (i + 1) (n - (i + 1))
      unfolding places_fit
      fit_next g =
          let s : n - i ≡ suc (n - (i + 1)) = omega arith in
          inv ∙ rw (s, ← ek, le-ltb _ _ g, add-one)

    pub fit_end : n ≤ i → true ≡ places_fit ws 0 n
    unfolding places_fit
    fit_end g =
        let s : n - i ≡ 0 = omega arith in
        sym (inv ∙ rw s)

-- Where all places fit, the count is one of a table.
pub all_fit : (ws : List ℕ) (n : ℕ) (r : Bool) → r ≡ all_places_fit ws n → r ≡ true → n ≤ 256
unfolding all_places_fit
all_fit ws n r er h = by (ltb 256 n) refl (sym er ∙ h)
  where
    by : (b : Bool) → ltb 256 n ≡ b → pick b false (places_fit ws 0 n) ≡ true → n ≤ 256
    by true t e = absurd (holds false e)
    by false t e = ltb-false 256 n t

-- ------------------------------------------------------------------ the ready ids

-- The ids so far.
abbrev pub gathered : ℕ → List ℕ → ReadyStreams
gathered count ids = record { answer = Accepted 0; count = count; ids = ids }

module _ (ws : List ℕ) where
  pub collected_start : gathered 0 (replicate 256 0) ≡ collected ws 0
  unfolding collected
  collected_start = refl

  module _ (i count : ℕ) (ids : List ℕ) (e : gathered count ids ≡ collected ws i) (k : Known) (ek : k ≡ known_at ws i) (p : Bool) (ep : p ≡ paused_at ws k.place) where
    pub collected_more : p ≡ true → gathered (count + 1) (set ids count k.id.0) ≡ collected ws (i + 1)
    unfolding collected
    collected_more h =
        let z : suc i ≡ i + 1 = omega arith in
        let s : one_more (collected ws i) k.id.0 ≡ collected ws (suc i) = rw (← ek, ← ep, h) in
        ap (λ (x : ReadyStreams). one_more x k.id.0) e ∙ s ∙ ap (collected ws) z

    pub collected_same : p ≡ false → gathered count ids ≡ collected ws (i + 1)
    unfolding collected
    collected_same h =
        let z : suc i ≡ i + 1 = omega arith in
        let s : collected ws i ≡ collected ws (suc i) = rw (← ek, ← ep, h) in
        e ∙ s ∙ ap (collected ws) z

  pub collected_end : (n i : ℕ) (r : ReadyStreams) → r ≡ collected ws i → i ≤ n → n ≤ i → r ≡ collected ws n
  collected_end n i r e l g =
      let q : i ≡ n = omega arith in
      e ∙ ap (collected ws) q

-- The walk ends at a place outside its table, or past the last stream.
module _ (ws : List ℕ) (n : ℕ) where
  pub or16_not : false ≡ places_fit ws 0 n → refused_ready ≡ collected_or16 ws n
  unfolding collected_or16
  or16_not e = rw (← e)

  pub or16_end : (r : ReadyStreams) → true ≡ places_fit ws 0 n → r ≡ collected ws n → r ≡ collected_or16 ws n
  unfolding collected_or16
  or16_end r e er = er ∙ rw (← e)

-- Its answer is accepted exactly where the places fit.
module _ (ws : List ℕ) where
  collected_accepted : (n : ℕ) → is_accepted (collected ws n).answer ≡ true
  unfolding collected
  collected_accepted zero = refl
  collected_accepted (suc i) = by (paused_at ws (known_at ws i).place) (collected_accepted i)
    where
      by : (b : Bool) → is_accepted (collected ws i).answer ≡ true → is_accepted (pick b (one_more (collected ws i) (known_at ws i).id.0) (collected ws i)).answer ≡ true
      by true e = refl
      by false e = e

  pub or16_accepted : (n : ℕ) → is_accepted (collected_or16 ws n).answer ≡ places_fit ws 0 n
  unfolding collected_or16
  or16_accepted n = by (places_fit ws 0 n)
    where
      by : (b : Bool) → is_accepted (pick b (collected ws n) refused_ready).answer ≡ b
      by true = collected_accepted n
      by false = refl

-- ------------------------------------------------------------------ the marking

module _ (ws : List ℕ) where
  pub marked_start : ws ≡ marked_all ws 0
  unfolding marked_all
  marked_start = refl

  pub marked_next : (i : ℕ) (us l : List ℕ) (k : Known) → us ≡ marked_all ws i → k ≡ known_at us i → l ≡ marked us k.place → l ≡ marked_all ws (i + 1)
  unfolding marked_all
  marked_next i us l k eu ek el = el ∙ ap (λ (x : Known). marked us x.place) ek ∙ ap (λ (x : List ℕ). marked x (known_at x i).place) eu ∙ sym (rw add-one)

  pub marked_end : (n i : ℕ) (us : List ℕ) → us ≡ marked_all ws i → i ≤ n → n ≤ i → us ≡ marked_all ws n
  marked_end n i us e l g =
      let q : i ≡ n = omega arith in
      e ∙ ap (marked_all ws) q

-- ------------------------------------------------------------------ the call for the ready ids

module _ (ws : List ℕ) (t : Totals) (et : t ≡ totals_at ws) where
  pub ready_many : (r : ReadyStreams) → 256 < t.known → r ≡ refused_ready → readied r ws ≡ ready ws
  unfolding ready all_places_fit
  ready_many r g e = rw (← et, lt-ltb _ _ g, e)

  module _ (g : t.known ≤ 256) (r : ReadyStreams) (er : r ≡ collected_or16 ws t.known) (a : Bool) (ea : a ≡ is_accepted r.answer) where
    fits : (b : Bool) → a ≡ b → places_fit ws 0 t.known ≡ b
    fits b e = sym (or16_accepted ws t.known) ∙ ap (λ (x : ReadyStreams). is_accepted x.answer) (sym er) ∙ sym ea ∙ e

    pub ready_all : (us : List ℕ) → a ≡ true → us ≡ marked_all ws t.known → readied r us ≡ ready ws
    unfolding ready all_places_fit collected_or16
    ready_all us e eu = rw (er, eu, ← et, le-ltb _ _ g, fits true e)

    pub ready_not : a ≡ false → readied r ws ≡ ready ws
    unfolding ready all_places_fit collected_or16
    ready_not e = rw (er, ← et, le-ltb _ _ g, fits false e)

-- ------------------------------------------------------------------ the question for their count

module _ (ws : List ℕ) (t : Totals) (et : t ≡ totals_at ws) where
  pub count_many : 256 < t.known → number.Refused 16 ≡ ready_count ws
  unfolding ready_count ready all_places_fit
  count_many g = rw (← et, lt-ltb _ _ g)

  module _ (g : t.known ≤ 256) (r : ReadyStreams) (er : r ≡ collected_or16 ws t.known) where
    count_told : count_of r.answer r.count ≡ ready_count ws
    unfolding ready_count ready all_places_fit collected_or16
    count_told = rw (er, ← et, le-ltb _ _ g) (by (places_fit ws 0 t.known))
      where
        by : (b : Bool) → count_of (pick b (collected ws t.known) refused_ready).answer (pick b (collected ws t.known) refused_ready).count
            ≡ count_of (pick b (readied (collected ws t.known) (marked_all ws t.known)) (readied refused_ready ws)).answer.answer (pick b (readied (collected ws t.known) (marked_all ws t.known)) (readied refused_ready ws)).answer.count
        by true = refl
        by false = refl

    pub count_value : (k : ℕ) → r.answer ≡ Accepted k → number.Value r.count ≡ ready_count ws
    count_value k e = sym (ap (λ (x : Call). count_of x r.count) e) ∙ count_told

    pub count_refused : (n : ℕ) → r.answer ≡ Refused n → number.Refused n ≡ ready_count ws
    count_refused n e = sym (ap (λ (x : Call). count_of x r.count) e) ∙ count_told

-- ------------------------------------------------------------------ the whole-queue reset

module _ (ws : List ℕ) (total : ℕ) where
  pub sum_start : ◌≡◌ {A = Sum} (record { fits = true; total = total }) (sum_all ws total 0)
  unfolding sum_all
  sum_start = refl

  pub sum_next : (i : ℕ) (k : Known) (t r : Sum) → t ≡ sum_all ws total i → k ≡ known_at ws i → r ≡ sum_known ws k.place t → r ≡ sum_all ws total (i + 1)
  unfolding sum_all
  sum_next i k t r et ek er = er ∙ ap₂ (λ (x : Known) (y : Sum). sum_known ws x.place y) ek et ∙ sym (rw add-one)

-- ---- without a test

-- A known stream summed up without fault: its place is in its table, and the total rises by what it puts back.
record Summed (ws : List ℕ) (place : ℕ) (t r : Sum) : Type 0 where
  pub placed : place ≤ 255
  pub before : t.fits ≡ true
  pub bounded : put_back ws (stream_at_words ws place).first ≤ 18446744073709551615 - t.total
  pub risen : r.total ≡ t.total + put_back ws (stream_at_words ws place).first

module _ (ws : List ℕ) (place : ℕ) (t : Sum) where
  abbrev back : ℕ
  back = put_back ws (stream_at_words ws place).first

  abbrev over : Sum
  over = record { fits = false; total = t.total }

  abbrev of : Bool → Bool → Bool → Sum
  of a b c = pick a over (pick b over (pick c over (record { fits = t.fits; total = t.total + back })))

  summed : (sum_known ws place t).fits ≡ true → Summed ws place t (sum_known ws place t)
  unfolding sum_known sum_stream
  summed = by (ltb 255 place) refl (ltb (18446744073709551615 - (stream_at_words ws place).buffered_amount) back) (ltb (18446744073709551615 - t.total) back) refl
    where
      by : (a : Bool) → ltb 255 place ≡ a → (b c : Bool) → ltb (18446744073709551615 - t.total) back ≡ c → (of a b c).fits ≡ true → Summed ws place t (of a b c)
      by true ea b c ec q = absurd (holds false q)
      by false ea true c ec q = absurd (holds false q)
      by false ea false true ec q = absurd (holds false q)
      by false ea false false ec q = record { placed = ltb-false _ _ ea; before = q; bounded = ltb-false _ _ ec; risen = refl }

module _ (ws : List ℕ) (total n : ℕ) (fits : (sum_all ws total n).fits ≡ true) where
  -- What fits at the end fits on the way.
  all_summed : (m : ℕ) → (sum_all ws total m).fits ≡ true → (i : ℕ) → i < m → Summed ws (known_at ws i).place (sum_all ws total i) (sum_all ws total (suc i))
  unfolding sum_all
  all_summed zero f i h = absurd (omega arith)
  all_summed (suc m) f i h = elim (tri i m) [
    | less l ↦ all_summed m (summed ws (known_at ws m).place (sum_all ws total m) f).before i l
    | same e ↦ subst (λ (x : ℕ). Summed ws (known_at ws x).place (sum_all ws total x) (sum_all ws total (suc x))) (sym e) (summed ws (known_at ws m).place (sum_all ws total m) f)
    | more l ↦ absurd (omega arith)
  ]

  module _ (i : ℕ) (h : i < n) (k : Known) (ek : k ≡ known_at ws i) where
    pub total_placed : k.place ≤ 255
    total_placed = subst (λ (x : Known). x.place ≤ 255) (sym ek) (all_summed n fits i h).placed

    module _ (s : OutgoingStream) (es : s ≡ stream_at_words ws k.place) (back : ℕ) (eb : back ≡ put_back ws s.first) (sum : ℕ) (et : sum ≡ (sum_all ws total i).total) where
      back_is : back ≡ put_back ws (stream_at_words ws (known_at ws i).place).first
      back_is = eb ∙ ap (λ (x : OutgoingStream). put_back ws x.first) es ∙ ap (λ (x : Known). put_back ws (stream_at_words ws x.place).first) ek

      pub total_bounded : sum < 18446744073709551616 → sum + back < 18446744073709551616
      total_bounded l =
          let e = back_is in
          let b = (all_summed n fits i h).bounded in
          omega arith

      pub total_next : sum + back ≡ (sum_all ws total (i + 1)).total
      total_next = ap₂ (λ (x y : ℕ). x + y) et back_is ∙ sym (all_summed n fits i h).risen ∙ sym (rw add-one)

pub total_start : (ws : List ℕ) (total : ℕ) → total ≡ (sum_all ws total 0).total
unfolding sum_all
total_start ws total = refl

-- ---- the writing

module _ (strict il : Bool) (ws : List ℕ) where
  pub reset_start : ws ≡ reset_all strict il ws 0
  unfolding reset_all
  reset_start = refl

  pub reset_next : (i : ℕ) (us l : List ℕ) (k : Known) → us ≡ reset_all strict il ws i → k ≡ known_at us i → l ≡ reset_at strict us il k.id.0 k.place → l ≡ reset_all strict il ws (i + 1)
  unfolding reset_all
  reset_next i us l k eu ek el = el ∙ ap (λ (x : Known). reset_at strict us il x.id.0 x.place) ek ∙ ap (λ (x : List ℕ). reset_at strict x il (known_at x i).id.0 (known_at x i).place) eu ∙ sym (rw add-one)
