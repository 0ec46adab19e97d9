-- A walk over the known streams that lets them wait, one after another, once there is room (`room_for`, specs/Waiting): on any words no step of it is
-- refused. Commit, rollback, switching interleaving and the
-- whole-queue reset are such walks. Assumes nothing.
use mathlib.Core.Path.{◌≡◌, refl, sym, ap, ◌∙◌, subst}
use mathlib.Core.Bool.{Bool, true, false}
use mathlib.Core.List.{List}
use Prim.Native.Nat.{ℕ, zero, suc, ◌+◌, ◌≤◌, ◌<◌}
use native.Mathlib.Omega.{arith}
use lib.Dec.{ltb, leb, eqb}
use lib.ListN.{length}
use borrow.Author.Tests.{ltb-false, leb-true, eqb-true}
use Rattle.queue_model.proofs.Tests.{holds, Tri, less, same, more, tri}
use Rattle.queue_words.specs.Flags.{pick}
use Rattle.queue_words.specs.Header.{scheduler_at, put_totals}
use Rattle.queue_words.specs.Items.{put_item}
use Rattle.queue_words.specs.Known.{known_at, known_count}
use Rattle.queue_words.specs.Streams.{stream_at_words, put_stream_words, FitsStream}
use Rattle.queue_words.specs.declared.header.Totals.{Totals}
use Rattle.queue_words.specs.declared.items.Item.{Item}
use Rattle.queue_words.specs.declared.known.Known.{Known}
use Rattle.queue_words.specs.declared.streams.OutgoingStream.{OutgoingStream}
use Rattle.queue_words.specs.declared.streams.PauseState.{PauseState}
use Rattle.queue_words.proofs.Laws.{whole_put_stream, whole_put_item, whole_put_totals, stream_at_fits, known_at_fits, stream_at_put, stream_at_put_other, scheduler_put_stream, active_put_stream, known_put_stream, scheduler_put_item, active_put_item, known_put_item, stream_put_item, scheduler_put_totals, active_put_totals, known_put_totals, stream_put_totals}
use Rattle.stream_scheduler.specs.Words.{waits_in, set_bytes_remaining_words}
use Rattle.stream_scheduler.specs.Link.{FitsParameters}
use Rattle.stream_scheduler.proofs.Frames.{untouched_set}
use Rattle.stream_scheduler.proofs.Reserved.{Reserved, reserved_start, reserved_frame, reserved_more, Settles, settles}
use Rattle.queue_streams.specs.Waiting.{head_size_words, parameters_for, rescheduled, passed_over, tally_stream, tally_known, tally, room_for}
use Rattle.queue_streams.specs.Settled.{reschedule_done}
use Rattle.queue_streams.specs.declared.waiting.Tally.{Tally}
use Rattle.queue_streams.proofs.Waits.{size_none}

-- ------------------------------------------------------------------ what the count says

-- A known stream counted without fault, from the count t to the count r.
record Counted (ws : List ℕ) (all : Bool) (k : Known) (t r : Tally) : Type 0 where
  placed : k.place ≤ 255
  grows : t.rows ≤ r.rows
  before : t.fits ≡ true
  bounded : passed_over all (stream_at_words ws k.place).pause_state ≡ false → (stream_at_words ws k.place).first ≤ 1024
  one_more : passed_over all (stream_at_words ws k.place).pause_state ≡ false → (stream_at_words ws k.place).first < 1024 → waits_in ws k.id.0 ≡ false → t.rows < r.rows

module _ (ws : List ℕ) (all : Bool) (k : Known) (t : Tally) where
  abbrev row : OutgoingStream
  row = stream_at_words ws k.place

  abbrev sum : Bool → Bool → Bool → Bool → Bool → Tally
  sum a b c d e = pick a (record { fits = false; rows = t.rows }) (pick b t (pick c (record { fits = false; rows = t.rows }) (pick d t (pick e t (record { fits = t.fits; rows = t.rows + 1 })))))

  counted : (tally_known ws all k t).fits ≡ true → Counted ws all k t (tally_known ws all k t)
  unfolding tally_known tally_stream
  counted f = by (ltb 255 k.place) refl (passed_over all row.pause_state) refl (ltb 1024 row.first) refl (eqb row.first 1024) refl (waits_in ws k.id.0) refl f
    where
      by : (a : Bool) → ltb 255 k.place ≡ a → (b : Bool) → passed_over all row.pause_state ≡ b → (c : Bool) → ltb 1024 row.first ≡ c → (d : Bool) → eqb row.first 1024 ≡ d → (e : Bool) → waits_in ws k.id.0 ≡ e
          → (sum a b c d e).fits ≡ true → Counted ws all k t (sum a b c d e)
      by true ea b eb c ec d ed e ee q = absurd (holds false q)
      by false ea true eb c ec d ed e ee q = record { placed = ltb-false _ _ ea; grows = omega arith; before = q; bounded = λ p. absurd (holds false (sym p ∙ eb)); one_more = λ p h w. absurd (holds false (sym p ∙ eb)) }
      by false ea false eb true ec d ed e ee q = absurd (holds false q)
      by false ea false eb false ec true ed e ee q =
          let z = eqb-true row.first 1024 ed in
          record { placed = ltb-false _ _ ea; grows = omega arith; before = q; bounded = λ p. ltb-false _ _ ec; one_more = λ p h w. omega arith }
      by false ea false eb false ec false ed true ee q =
          record { placed = ltb-false _ _ ea; grows = omega arith; before = q; bounded = λ p. ltb-false _ _ ec; one_more = λ p h w. absurd (holds false (sym w ∙ ee)) }
      by false ea false eb false ec false ed false ee q =
          record { placed = ltb-false _ _ ea; grows = omega arith; before = q; bounded = λ p. ltb-false _ _ ec; one_more = λ p h w. omega arith }

-- There is room: the counts are small, and no known stream was found faulty.
record Roomy (ws : List ℕ) (all : Bool) : Type 0 where
  few_known : known_count ws ≤ 256
  few_rows : (tally ws all (known_count ws)).rows ≤ 256
  faultless : (tally ws all (known_count ws)).fits ≡ true

roomy : (ws : List ℕ) (all : Bool) → room_for ws all ≡ true → Roomy ws all
unfolding room_for
roomy ws all q = by (ltb 256 (known_count ws)) refl (ltb 256 (scheduler_at ws).active) (tally ws all (known_count ws)).fits refl (leb (tally ws all (known_count ws)).rows 256) refl q
  where
    by : (a : Bool) → ltb 256 (known_count ws) ≡ a → (b c : Bool) → (tally ws all (known_count ws)).fits ≡ c → (d : Bool) → leb (tally ws all (known_count ws)).rows 256 ≡ d → pick a false (pick b false (pick c d false)) ≡ true → Roomy ws all
    by true ea b c ec d ed q = absurd (holds false q)
    by false ea true c ec d ed q = absurd (holds false q)
    by false ea false false ec d ed q = absurd (holds false q)
    by false ea false true ec false ed q = absurd (holds false q)
    by false ea false true ec true ed q = record { few_known = ltb-false _ _ ea; few_rows = leb-true _ _ ed; faultless = ec }

module _ (ws : List ℕ) (all : Bool) where
  -- How many rows the first i known streams need.
  abbrev rows : ℕ → ℕ
  rows i = (tally ws all i).rows

  tallied : (i : ℕ) → (tally ws all (suc i)).fits ≡ true → Counted ws all (known_at ws i) (tally ws all i) (tally ws all (suc i))
  unfolding tally
  tallied i f = counted ws all (known_at ws i) (tally ws all i) f

  -- What is found faultless and small at the end is so on the way.
  upto : (n i : ℕ) → i ≤ n → (tally ws all n).fits ≡ true → ((tally ws all i).fits ≡ true) × (rows i ≤ rows n)
  upto zero i h f = let z : i ≡ 0 = omega arith in subst (λ (x : ℕ). ((tally ws all x).fits ≡ true) × (rows x ≤ rows 0)) (sym z) (f, omega arith)
  upto (suc n) i h f = elim (tri i (suc n)) [
    | less l ↦ (let c = tallied n f in let g = c.grows in let u = upto n i (omega arith) c.before in let v = u.1 in (u.0, omega arith))
    | same e ↦ subst (λ (x : ℕ). ((tally ws all x).fits ≡ true) × (rows x ≤ rows (suc n))) (sym e) (f, omega arith)
    | more l ↦ absurd (omega arith)
  ]

  module _ (room : room_for ws all ≡ true) (i : ℕ) (h : i < known_count ws) where
    few : i < 256
    few = let g = (roomy ws all room).few_known in omega arith

    small : rows (suc i) ≤ 256
    small = let g = roomy ws all room in let b = g.few_rows in let u = upto (known_count ws) (suc i) (omega arith) g.faultless in let v = u.1 in omega arith

    step_counted : Counted ws all (known_at ws i) (tally ws all i) (tally ws all (suc i))
    step_counted = tallied i (upto (known_count ws) (suc i) (omega arith) (roomy ws all room).faultless).0

-- ------------------------------------------------------------------ the walk

-- On the way from ws to us: the rows suffice, the known streams are as they were, and so is which message is first; a stream that is still to be let
-- wait was to be at the start.
pub record Kept (ws : List ℕ) (all : Bool) (us : List ℕ) (r : ℕ) : Type 0 where
  pub reserved : Reserved ws us r
  pub same_known : (j : ℕ) → j < 256 → known_at us j ≡ known_at ws j
  pub same_first : (p : ℕ) → p < 256 → (stream_at_words us p).first ≡ (stream_at_words ws p).first
  pub still : (p : ℕ) → p < 256 → passed_over all (stream_at_words us p).pause_state ≡ false → passed_over all (stream_at_words ws p).pause_state ≡ false

-- A step: its answer, and the words after it.
pub record Done (ws : List ℕ) (all : Bool) (i : ℕ) (d : Bool) (us : List ℕ) : Type 0 where
  pub done : d ≡ true
  pub kept : Kept ws all us (tally ws all (suc i)).rows

-- Where each step is done once the words before it are kept, every step of the walk is.
pub all_done : (ws : List ℕ) (all : Bool) (n : ℕ) (walk : ℕ → List ℕ) (d : ℕ → Bool) → Kept ws all (walk 0) (tally ws all 0).rows
    → ((i : ℕ) → i < n → Kept ws all (walk i) (tally ws all i).rows → Done ws all i (d i) (walk (suc i))) → (i : ℕ) → i < n → d i ≡ true
all_done ws all n walk d k step i h = (step i h (to i (omega arith))).done
  where
    to : (j : ℕ) → j ≤ n → Kept ws all (walk j) (tally ws all j).rows
    to zero g = k
    to (suc j) g = (step j (omega arith) (to j (omega arith))).kept

-- ---- what the walks write

pub kept_start : (ws : List ℕ) (all : Bool) → length ws ≡ 20768 → Kept ws all ws (tally ws all 0).rows
unfolding tally
kept_start ws all l = record { reserved = reserved_start ws l; same_known = λ j h. refl; same_first = λ p h. refl; still = λ p h e. e }

kept_more : (ws : List ℕ) (all : Bool) (us : List ℕ) (r r' : ℕ) → r ≤ r' → Kept ws all us r → Kept ws all us r'
kept_more ws all us r r' h k = record { reserved = reserved_more ws us r r' h k.reserved; same_known = k.same_known; same_first = k.same_first; still = k.still }

-- The totals, before the first step.
pub kept_totals : (ws : List ℕ) (all : Bool) (t : Totals) → length ws ≡ 20768 → Kept ws all (put_totals ws t) (tally ws all 0).rows
kept_totals ws all t l =
    let k = kept_start ws all l in
    record {
      reserved = reserved_frame ws ws (put_totals ws t) (tally ws all 0).rows (whole_put_totals ws t) (scheduler_put_totals ws t) (active_put_totals ws t) k.reserved;
      same_known = λ j h. known_put_totals ws t j;
      same_first = λ p h. ap (λ (s : OutgoingStream). s.first) (stream_put_totals ws t p);
      still = λ p h e. ap (λ (s : OutgoingStream). passed_over all s.pause_state) (sym (stream_put_totals ws t p)) ∙ e;
    }

-- A message.
pub kept_item : (ws : List ℕ) (all : Bool) (us : List ℕ) (r i : ℕ) (m : Item) → i < 1024 → Kept ws all us r → Kept ws all (put_item us i m) r
kept_item ws all us r i m l k = record {
  reserved = reserved_frame ws us (put_item us i m) r (whole_put_item us i m) (scheduler_put_item us i m) (λ j. active_put_item us i m j l) k.reserved;
  same_known = λ j h. known_put_item us i m j h ∙ k.same_known j h;
  same_first = λ p h. ap (λ (s : OutgoingStream). s.first) (stream_put_item us i m p h) ∙ k.same_first p h;
  still = λ p h e. k.still p h (ap (λ (s : OutgoingStream). passed_over all s.pause_state) (sym (stream_put_item us i m p h)) ∙ e);
}

-- A stream's row, with the same first message; it is to be let wait only if it was.
pub kept_stream : (ws : List ℕ) (all : Bool) (us : List ℕ) (r p : ℕ) (s : OutgoingStream) → p < 256 → FitsStream s → s.first ≡ (stream_at_words us p).first
    → (passed_over all s.pause_state ≡ false → passed_over all (stream_at_words us p).pause_state ≡ false) → Kept ws all us r → Kept ws all (put_stream_words us p s) r
kept_stream ws all us r p s l f e c k = record {
  reserved = reserved_frame ws us (put_stream_words us p s) r (whole_put_stream us p s) (scheduler_put_stream us p s) (λ j. active_put_stream us p s j l) k.reserved;
  same_known = λ j h. known_put_stream us p s j h ∙ k.same_known j h;
  same_first = λ q h. firsts q h (tri p q);
  still = λ q h. stills q h (tri p q);
}
  where
    own : stream_at_words (put_stream_words us p s) p ≡ s
    own = stream_at_put us p s k.reserved.whole l f

    firsts : (q : ℕ) → q < 256 → Tri p q → (stream_at_words (put_stream_words us p s) q).first ≡ (stream_at_words ws q).first
    firsts q h (same x) = subst (λ (y : ℕ). (stream_at_words (put_stream_words us p s) y).first ≡ (stream_at_words ws y).first) x (ap (λ (y : OutgoingStream). y.first) own ∙ e ∙ k.same_first p l)
    firsts q h (less x) = ap (λ (y : OutgoingStream). y.first) (stream_at_put_other us p s q (λ (z : p ≡ q). omega arith)) ∙ k.same_first q h
    firsts q h (more x) = ap (λ (y : OutgoingStream). y.first) (stream_at_put_other us p s q (λ (z : p ≡ q). omega arith)) ∙ k.same_first q h

    apart : (q : ℕ) → q < 256 → (p ≡ q → ⊥) → passed_over all (stream_at_words (put_stream_words us p s) q).pause_state ≡ false → passed_over all (stream_at_words ws q).pause_state ≡ false
    apart q h ne g = k.still q h (ap (λ (y : OutgoingStream). passed_over all y.pause_state) (sym (stream_at_put_other us p s q ne)) ∙ g)

    stills : (q : ℕ) → q < 256 → Tri p q → passed_over all (stream_at_words (put_stream_words us p s) q).pause_state ≡ false → passed_over all (stream_at_words ws q).pause_state ≡ false
    stills q h (same x) = subst (λ (y : ℕ). passed_over all (stream_at_words (put_stream_words us p s) y).pause_state ≡ false → passed_over all (stream_at_words ws y).pause_state ≡ false) x
        (λ g. k.still p l (c (ap (λ (y : OutgoingStream). passed_over all y.pause_state) (sym own) ∙ g)))
    stills q h (less x) = apart q h (λ (z : p ≡ q). omega arith)
    stills q h (more x) = apart q h (λ (z : p ≡ q). omega arith)

-- ---- a stream is let wait

-- Where all streams count, none is passed over.
pub none_passed : (state : PauseState) → passed_over true state ≡ false
unfolding passed_over
none_passed state = refl

pub parameters_fit : (il : Bool) (p : ℕ) → p < 65536 → FitsParameters (parameters_for il p)
parameters_fit true p h = h
parameters_fit false p h = tt

module _ (ws : List ℕ) (all : Bool) (room : room_for ws all ≡ true) (i : ℕ) (h : i < known_count ws) (us : List ℕ) (k : Kept ws all us (tally ws all i).rows) where
  pub in_table_lem : (known_at us i).place ≤ 255
  in_table_lem = subst (λ (x : Known). x.place ≤ 255) (sym (k.same_known i (few ws all room i h))) (step_counted ws all room i h).placed

  -- It is to be let wait.
  module _ (waits : passed_over all (stream_at_words us (known_at us i).place).pause_state ≡ false) where
    was : passed_over all (stream_at_words ws (known_at ws i).place).pause_state ≡ false
    was =
        let l = in_table_lem in
        subst (λ (x : Known). passed_over all (stream_at_words ws x.place).pause_state ≡ false) (k.same_known i (few ws all room i h)) (k.still (known_at us i).place (omega arith) waits)

    first_is : (stream_at_words us (known_at us i).place).first ≡ (stream_at_words ws (known_at ws i).place).first
    first_is =
        let l = in_table_lem in
        k.same_first (known_at us i).place (omega arith) ∙ ap (λ (x : Known). (stream_at_words ws x.place).first) (k.same_known i (few ws all room i h))

    pub first_bounded : (stream_at_words us (known_at us i).place).first ≤ 1024
    first_bounded = let e = first_is in let b = (step_counted ws all room i h).bounded was in omega arith

    -- After what the step has written.
    module _ (il : Bool) (vs : List ℕ) (v : Kept ws all vs (tally ws all i).rows) where
      abbrev id : ℕ
      id = (known_at us i).id.0

      abbrev first : ℕ
      first = (stream_at_words us (known_at us i).place).first

      abbrev priority : ℕ
      priority = (stream_at_words us (known_at us i).place).priority

      one : (head_size_words vs first ≡ 0 → ⊥) → waits_in ws id ≡ false → (tally ws all i).rows < (tally ws all (suc i)).rows
      one pos w =
          let e = first_is in
          (step_counted ws all room i h).one_more was (below (tri first 1024)) (ap (λ (x : Known). waits_in ws x.id.0) (sym (k.same_known i (few ws all room i h))) ∙ w)
        where
          below : Tri first 1024 → (stream_at_words ws (known_at ws i).place).first < 1024
          below (less l) = let e = first_is in omega arith
          below (same e) = absurd (pos (sym (size_none vs first (omega arith))))
          below (more l) = absurd (pos (sym (size_none vs first (omega arith))))

      settled_wait : Settles ws (tally ws all (suc i)).rows (set_bytes_remaining_words vs id (head_size_words vs first) (parameters_for il priority))
      settled_wait =
          settles ws vs id (tally ws all i).rows (tally ws all (suc i)).rows v.reserved (step_counted ws all room i h).grows (small ws all room i h) (head_size_words vs first) (parameters_for il priority)
          (known_at_fits us i).id_fits (parameters_fit il priority (stream_at_fits us (known_at us i).place).priority_fits) one

      pub wait_done : Done ws all i (reschedule_done vs il id first priority) (rescheduled vs il id first priority)
      unfolding reschedule_done rescheduled
      wait_done =
          let u = untouched_set vs id (head_size_words vs first) (parameters_for il priority) in
          record {
            done = settled_wait.settled;
            kept = record {
              reserved = settled_wait.reserved;
              same_known = λ j l. u.same_known j l ∙ v.same_known j l;
              same_first = λ p l. ap (λ (s : OutgoingStream). s.first) (u.same_streams p l) ∙ v.same_first p l;
              still = λ p l e. v.still p l (ap (λ (s : OutgoingStream). passed_over all s.pause_state) (sym (u.same_streams p l)) ∙ e);
            };
          }

  -- Nothing to let wait: the words are kept for the next step.
  pub next_kept : (vs : List ℕ) → Kept ws all vs (tally ws all i).rows → Kept ws all vs (tally ws all (suc i)).rows
  next_kept vs v = kept_more ws all vs (tally ws all i).rows (tally ws all (suc i)).rows (step_counted ws all room i h).grows v
