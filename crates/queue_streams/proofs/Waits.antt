-- The ways out of the functions that let streams wait, over plain values. Assumes nothing.
use mathlib.Core.Path.{◌≡◌, sym, ap, ap₂, ◌∙◌}
use mathlib.Core.Bool.{Bool, true, false}
use mathlib.Core.List.{List}
use Prim.Native.Nat.{ℕ, ◌+◌, ◌-◌, ◌≤◌, ◌<◌}
use native.Mathlib.Omega.{arith}
use native.Mathlib.Numerals.{add-one}
use lib.Dec.{ltb, leb, eqb}
use borrow.Author.Tests.{lt-ltb, le-ltb, eq-eqb, ne_eqb}
use Rattle.queue_words.specs.Items.{item_at}
use Rattle.queue_words.specs.declared.active.SchedulingParameters.{SchedulingParameters}
use Rattle.queue_words.specs.declared.active.SchedulingParameters.TheVariants.{WeightedFairQueuing}
use Rattle.queue_words.specs.declared.items.Item.{Item}
use Rattle.stream_scheduler.specs.Words.{Outcome, outcome, set_bytes_remaining_words}
use Rattle.queue_words.specs.Flags.{pick}
use Rattle.queue_words.specs.Header.{totals_at, scheduler_at}
use Rattle.queue_words.specs.Known.{known_at}
use Rattle.queue_words.specs.Streams.{stream_at_words}
use Rattle.queue_words.specs.declared.header.SchedulerState.{SchedulerState}
use Rattle.queue_words.specs.declared.header.Totals.{Totals}
use Rattle.queue_words.specs.declared.known.Known.{Known}
use Rattle.queue_words.specs.declared.streams.OutgoingStream.{OutgoingStream}
use Rattle.stream_scheduler.specs.Words.{waits_in}
use Rattle.queue_streams.specs.Waiting.{remaining_at, head_size_words, parameters_for, rescheduled, passed_over, tally_stream, tally_known, tally, room_for}
use Rattle.queue_streams.specs.Settled.{reschedule_done}
use Rattle.queue_streams.specs.declared.waiting.Tally.{Tally}

module _ (ws : List ℕ) (i : ℕ) (m : Item) (em : m ≡ item_at ws i) where
  pub remaining_some : m.length - m.offset ≡ remaining_at ws i
  remaining_some = ap (λ (x : Item). x.length - x.offset) em

  pub remaining_none : m.length ≤ m.offset → 0 ≡ remaining_at ws i
  remaining_none h =
      let z : 0 ≡ m.length - m.offset = omega arith in
      z ∙ remaining_some

module _ (ws : List ℕ) (first : ℕ) where
  pub size_some : (r : ℕ) → first < 1024 → r ≡ remaining_at ws first → r ≡ head_size_words ws first
  unfolding head_size_words
  size_some r h e = rw (lt-ltb _ _ h, e)

  pub size_none : 1024 ≤ first → 0 ≡ head_size_words ws first
  unfolding head_size_words
  size_none h = rw (le-ltb _ _ h)

pub waits_again : (ws : List ℕ) (il : Bool) (id first q bytes : ℕ) (p : SchedulingParameters) (r : Bool) (l : List ℕ) → bytes ≡ head_size_words ws first → p ≡ parameters_for il q
    → outcome r l ≡ set_bytes_remaining_words ws id bytes p → l ≡ rescheduled ws il id first q
unfolding rescheduled
waits_again ws il id first q bytes p r l eb ep el = ap (λ (o : Outcome). o.next) el ∙ ap₂ (λ (b : ℕ) (x : SchedulingParameters). (set_bytes_remaining_words ws id b x).next) eb ep

pub waits_done : (ws : List ℕ) (il : Bool) (id first q bytes : ℕ) (p : SchedulingParameters) → reschedule_done ws il id first q ≡ true → bytes ≡ head_size_words ws first → p ≡ parameters_for il q
    → (set_bytes_remaining_words ws id bytes p).done ≡ true
unfolding reschedule_done
waits_done ws il id first q bytes p d eb ep = ap₂ (λ (b : ℕ) (x : SchedulingParameters). (set_bytes_remaining_words ws id b x).done) eb ep ∙ d

pub by_priority : (il : Bool) (p : ℕ) → il ≡ true → WeightedFairQueuing p ≡ parameters_for il p
by_priority il p e = rw e

-- ------------------------------------------------------------------ room for all

module _ (ws : List ℕ) (all : Bool) (id : ℕ) (s : OutgoingStream) (t : Tally) (one : Bool) (ec : one ≡ passed_over all s.pause_state) where
  pub tally_passed : one ≡ true → t ≡ tally_stream ws all id s t
  unfolding tally_stream
  tally_passed e = rw (← ec, e)

  module _ (k : one ≡ false) where
    pub tally_outside : 1024 < s.first → ◌≡◌ {A = Tally} (record { fits = false; rows = t.rows }) (tally_stream ws all id s t)
    unfolding tally_stream
    tally_outside h = rw (← ec, k, lt-ltb _ _ h)

    module _ (f : s.first ≤ 1024) where
      pub tally_empty : s.first ≡ 1024 → t ≡ tally_stream ws all id s t
      unfolding tally_stream
      tally_empty e = rw (← ec, k, le-ltb _ _ f, eq-eqb _ _ e)

      module _ (ne : s.first ≡ 1024 → ⊥) (w : Bool) (ew : w ≡ waits_in ws id) where
        pub tally_listed : w ≡ true → t ≡ tally_stream ws all id s t
        unfolding tally_stream
        tally_listed e = rw (← ec, k, le-ltb _ _ f, ne_eqb _ _ ne, ← ew, e)

        pub tally_more : w ≡ false → ◌≡◌ {A = Tally} (record { fits = t.fits; rows = t.rows + 1 }) (tally_stream ws all id s t)
        unfolding tally_stream
        tally_more e = rw (← ec, k, le-ltb _ _ f, ne_eqb _ _ ne, ← ew, e)

module _ (ws : List ℕ) (all : Bool) (k : Known) (t : Tally) where
  pub known_outside : 255 < k.place → ◌≡◌ {A = Tally} (record { fits = false; rows = t.rows }) (tally_known ws all k t)
  unfolding tally_known
  known_outside h = rw (lt-ltb _ _ h)

  pub known_counted : (s : OutgoingStream) (r : Tally) → k.place ≤ 255 → s ≡ stream_at_words ws k.place → r ≡ tally_stream ws all k.id.0 s t → r ≡ tally_known ws all k t
  unfolding tally_known
  known_counted s r h es er = er ∙ ap (λ (x : OutgoingStream). tally_stream ws all k.id.0 x t) es ∙ sym (rw (le-ltb _ _ h))

-- At most one row more for each stream.
pub tally_grows : (ws : List ℕ) (all : Bool) (k : Known) (t : Tally) → (tally_known ws all k t).rows ≤ t.rows + 1
unfolding tally_known tally_stream
tally_grows ws all k t =
    by_place (ltb 255 k.place) (passed_over all (stream_at_words ws k.place).pause_state) (ltb 1024 (stream_at_words ws k.place).first) (eqb (stream_at_words ws k.place).first 1024) (waits_in ws k.id.0)
  where
    by_place : (a b c d e : Bool) → (pick a (record { fits = false; rows = t.rows }) (pick b t (pick c (record { fits = false; rows = t.rows }) (pick d t (pick e t (record { fits = t.fits; rows = t.rows + 1 })))))).rows ≤ t.rows + 1
    by_place true b c d e = omega arith
    by_place false true c d e = omega arith
    by_place false false true d e = omega arith
    by_place false false false true e = omega arith
    by_place false false false false true = omega arith
    by_place false false false false false = omega arith

pub tally_start : (ws : List ℕ) (all : Bool) (a : ℕ) → a ≡ (scheduler_at ws).active → ◌≡◌ {A = Tally} (record { fits = true; rows = a }) (tally ws all 0)
unfolding tally
tally_start ws all a e = rw e

pub tally_next : (ws : List ℕ) (all : Bool) (i : ℕ) (k : Known) (t r : Tally) → t ≡ tally ws all i → k ≡ known_at ws i → r ≡ tally_known ws all k t → r ≡ tally ws all (i + 1)
unfolding tally
tally_next ws all i k t r et ek er = er ∙ ap₂ (λ (x : Known) (y : Tally). tally_known ws all x y) ek et ∙ sym (rw add-one)

module _ (ws : List ℕ) (all : Bool) (t : Totals) (et : t ≡ totals_at ws) where
  pub room_known : 256 < t.known → false ≡ room_for ws all
  unfolding room_for
  room_known h = rw (ap (λ (x : Totals). x.known) (sym et), lt-ltb _ _ h)

  module _ (f : t.known ≤ 256) (s : SchedulerState) (es : s ≡ scheduler_at ws) where
    pub room_active : 256 < s.active → false ≡ room_for ws all
    unfolding room_for
    room_active h = rw (ap (λ (x : Totals). x.known) (sym et), le-ltb _ _ f, ap (λ (x : SchedulerState). x.active) (sym es), lt-ltb _ _ h)

    module _ (g : s.active ≤ 256) (sum : Tally) (em : sum ≡ tally ws all t.known) where
      pub room_not : sum.fits ≡ false → false ≡ room_for ws all
      unfolding room_for
      room_not h = rw (ap (λ (x : Totals). x.known) (sym et), le-ltb _ _ f, ap (λ (x : SchedulerState). x.active) (sym es), le-ltb _ _ g, ← em, h)

      pub room_is : sum.fits ≡ true → leb sum.rows 256 ≡ room_for ws all
      unfolding room_for
      room_is h = rw (ap (λ (x : Totals). x.known) (sym et), le-ltb _ _ f, ap (λ (x : SchedulerState). x.active) (sym es), le-ltb _ _ g, ← em, h)

pub tally_rows : (ws : List ℕ) (all : Bool) (i : ℕ) (k : Known) (t r : Tally) → t.rows ≤ 256 + i → r ≡ tally_known ws all k t → r.rows ≤ 256 + (i + 1)
tally_rows ws all i k t r h e =
    let g = tally_grows ws all k t in
    let q : r.rows ≡ (tally_known ws all k t).rows = ap (λ (x : Tally). x.rows) e in
    omega arith

pub tally_end : (ws : List ℕ) (all : Bool) (n i : ℕ) (t : Tally) → t ≡ tally ws all i → i ≤ n → n ≤ i → t ≡ tally ws all n
tally_end ws all n i t e l g =
    let z : i ≡ n = omega arith in
    e ∙ ap (tally ws all) z
