-- The whole-queue reset leaves nothing undone, on any words (specs/Settled): where it is accepted, the scheduler takes every stream that it lets wait. Assumes nothing.
use mathlib.Core.Path.{◌≡◌, refl, sym, subst}
use mathlib.Core.Bool.{Bool, true, false}
use mathlib.Core.List.{List}
use Prim.Native.Nat.{ℕ, ◌<◌}
use native.Mathlib.Omega.{arith}
use lib.Dec.{ltb, eqb}
use lib.ListN.{length}
use borrow.Author.Tests.{le-ltb, eq-eqb, ltb-true, ltb-false}
use Rattle.queue_words.specs.Flags.{pick}
use Rattle.queue_words.specs.Header.{options_at, totals_at, put_totals}
use Rattle.queue_words.specs.Known.{known_at, known_count}
use Rattle.queue_words.specs.Streams.{stream_at_words, put_stream_words, FitsStream}
use Rattle.queue_words.specs.declared.header.Totals.{Totals}
use Rattle.queue_words.specs.declared.streams.OutgoingStream.{OutgoingStream}
use Rattle.queue_words.proofs.Laws.{stream_at_fits}
use Rattle.queue_streams.specs.Answers.{is_accepted}
use Rattle.queue_streams.specs.Settings.{called}
use Rattle.queue_streams.specs.Settled.{reschedule_done}
use Rattle.queue_streams.specs.Waiting.{rescheduled, tally, room_for}
use Rattle.queue_streams.specs.Call.{Accepted, Refused}
use Rattle.queue_streams.proofs.Walk.{Kept, Done, all_done, kept_totals, kept_item, kept_stream, in_table_lem, none_passed, first_bounded, wait_done, next_kept}
use Rattle.queue_restarts.specs.Reset.{put_back, whole_stream, whole_head_words, reset_in, reset_at, reset_all, with_total, sum_of, reset_with, reset_queue}
use Rattle.queue_restarts.specs.Settled.{reset_done_in, reset_done_at, ResetSteps, risen, ResetSettled}

pub whole_fits : (s : OutgoingStream) (b : ℕ) → FitsStream s → FitsStream (whole_stream s b)
unfolding whole_stream
whole_fits s b f = record { priority_fits = f.priority_fits; ssn_fits = omega arith; unordered_mid_fits = omega arith; ordered_mid_fits = omega arith }

pub whole_first : (s : OutgoingStream) (b : ℕ) → (whole_stream s b).first ≡ s.first
unfolding whole_stream
whole_first s b = refl

module _ (strict il : Bool) (ws : List ℕ) (room : room_for ws true ≡ true) (i : ℕ) (h : i < known_count ws) (us : List ℕ) (k : Kept ws true us (tally ws true i).rows) where
  abbrev place : ℕ
  place = (known_at us i).place

  abbrev s : OutgoingStream
  s = stream_at_words us place

  abbrev vs : List ℕ
  vs = put_stream_words us place (whole_stream s (put_back us s.first))

  stored : Kept ws true vs (tally ws true i).rows
  stored =
      let l = in_table_lem ws true room i h us k in
      kept_stream ws true us (tally ws true i).rows place (whole_stream s (put_back us s.first)) (omega arith) (whole_fits s (put_back us s.first) (stream_at_fits us place)) (whole_first s (put_back us s.first)) (λ e. none_passed s.pause_state) k

  -- The head message too.
  model_put_back : s.first < 1024 → Kept ws true (whole_head_words strict vs s.first) (tally ws true i).rows
  unfolding whole_head_words
  model_put_back f = kept_item ws true vs (tally ws true i).rows s.first _ f stored

  reset_step : Done ws true i (reset_done_at strict us il (known_at us i)) (reset_at strict us il (known_at us i).id.0 (known_at us i).place)
  unfolding reset_done_at reset_done_in reset_at reset_in
  reset_step =
      subst (λ (b : Bool). Done ws true i (pick b false (reset_done_in strict us il (known_at us i).id.0 place s)) (pick b us (reset_in strict us il (known_at us i).id.0 place s))) (sym (le-ltb _ _ (in_table_lem ws true room i h us k)))
      (by (ltb s.first 1024) refl)
    where
      by : (b : Bool) → ltb s.first 1024 ≡ b
          → Done ws true i (pick b (reschedule_done (whole_head_words strict vs s.first) il (known_at us i).id.0 s.first s.priority) (eqb s.first 1024)) (pick b (rescheduled (whole_head_words strict vs s.first) il (known_at us i).id.0 s.first s.priority) vs)
      by true e = wait_done ws true room i h us k (none_passed s.pause_state) il (whole_head_words strict vs s.first) (model_put_back (ltb-true s.first 1024 e))
      by false e =
          let f = first_bounded ws true room i h us k (none_passed s.pause_state) in
          let g = ltb-false s.first 1024 e in
          record { done = eq-eqb s.first 1024 (omega arith); kept = next_kept ws true room i h us k vs stored }

-- With any total.
all_reset : (strict il : Bool) (ws : List ℕ) (total : ℕ) → length ws ≡ 20768 → room_for ws true ≡ true → ResetSteps strict il (risen ws total) (known_count ws)
unfolding reset_all
all_reset strict il ws total l room =
    all_done ws true (known_count ws) (reset_all strict il (risen ws total))
    (λ i. reset_done_at strict (reset_all strict il (risen ws total) i) il (known_at (reset_all strict il (risen ws total) i) i))
    (kept_totals ws true (with_total (totals_at ws) total) l)
    (λ i h k. reset_step strict il ws room i h (reset_all strict il (risen ws total) i) k)

pub whole_settled : (ws : List ℕ) → length ws ≡ 20768 → room_for ws true ≡ true → ResetSettled ws
whole_settled ws l room = all_reset (options_at ws).strict_restart (totals_at ws).interleaving ws (sum_of ws).total l room

-- With the totals that were read.
pub reset_steps : (strict il : Bool) (ws us : List ℕ) (t : Totals) (total : ℕ) → length ws ≡ 20768 → room_for ws true ≡ true → t ≡ totals_at ws → us ≡ put_totals ws (with_total t total)
    → ResetSteps strict il us t.known
reset_steps strict il ws us t total l room et eu =
    subst (λ (x : List ℕ). ResetSteps strict il x t.known) (sym eu)
    (subst (λ (x : Totals). ResetSteps strict il (put_totals ws (with_total x total)) x.known) (sym et) (all_reset strict il ws total l room))

-- Where the reset is accepted, every step of it is done.
pub reset_settled : (ws : List ℕ) → length ws ≡ 20768 → is_accepted (reset_queue ws).answer ≡ true → ResetSettled ws
unfolding reset_queue
reset_settled ws l e = whole_settled ws l (by (room_for ws true) (sum_of ws).fits e)
  where
    by : (r f : Bool) → is_accepted (pick r (pick f (called (Accepted 0) (reset_with ws (sum_of ws).total)) (called (Refused 16) ws)) (called (Refused 16) ws)).answer ≡ true → r ≡ true
    by true f q = refl
    by false f q = q
