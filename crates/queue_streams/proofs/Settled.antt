-- Commit, rollback and switching interleaving leave nothing undone, on any words (specs/Settled): where they are not refused, no step of their walk is.
-- Assumes nothing.
use mathlib.Core.Path.{◌≡◌, refl, sym, ap, subst}
use mathlib.Core.Bool.{Bool, true, false, not}
use mathlib.Core.List.{List}
use Prim.Native.Nat.{ℕ, ◌<◌}
use native.Mathlib.Omega.{arith}
use lib.Dec.{ltb, eqb}
use lib.ListN.{length}
use borrow.Author.Tests.{le-ltb, eq-eqb, ltb-false}
use Rattle.queue_model.proofs.Tests.{holds}
use Rattle.queue_words.specs.Flags.{pick}
use Rattle.queue_words.specs.Header.{totals_at, put_totals}
use Rattle.queue_words.specs.Known.{known_at, known_count}
use Rattle.queue_words.specs.Streams.{is_resetting_words, stream_at_words, put_stream_words}
use Rattle.queue_words.specs.declared.header.Totals.{Totals}
use Rattle.queue_words.specs.declared.streams.OutgoingStream.{OutgoingStream}
use Rattle.queue_words.proofs.Laws.{stream_at_fits}
use Rattle.queue_streams.specs.Answers.{is_accepted}
use Rattle.queue_streams.specs.Waiting.{rescheduled, passed_over, tally, room_for}
use Rattle.queue_streams.specs.Restart.{opened, reopened_in, reopened_at, reopened_all, reopen, with_interleaving, switched_at, switched_all, alike, set_interleaving_words}
use Rattle.queue_streams.specs.Settings.{called}
use Rattle.queue_streams.specs.Settled.{reschedule_done, reopen_done_in, reopen_done_at, ReopenSteps, ReopenSettled, switch_done_at, SwitchSteps, chosen, SwitchSettled}
use Rattle.queue_streams.specs.Call.{Accepted, Refused}
use Rattle.queue_streams.proofs.Commits.{opened_fits}
use Rattle.queue_streams.proofs.Walk.{Kept, Done, all_done, kept_start, kept_totals, kept_stream, in_table_lem, none_passed, first_bounded, wait_done, next_kept}

-- ------------------------------------------------------------------ commit and rollback

opened_first : (z : Bool) (s : OutgoingStream) → (opened z s).first ≡ s.first
opened_first true s = refl
opened_first false s = refl

-- An open stream is not let wait again.
opened_passed : (z : Bool) (s : OutgoingStream) → passed_over false (opened z s).pause_state ≡ false → ⊥
unfolding passed_over
opened_passed true s e = holds false (sym e)
opened_passed false s e = holds false (sym e)

module _ (z il : Bool) (ws : List ℕ) (room : room_for ws false ≡ true) (i : ℕ) (h : i < known_count ws) (us : List ℕ) (k : Kept ws false us (tally ws false i).rows) where
  abbrev place : ℕ
  place = (known_at us i).place

  abbrev s : OutgoingStream
  s = stream_at_words us place

  abbrev vs : List ℕ
  vs = put_stream_words us place (opened z s)

  stored : Kept ws false vs (tally ws false i).rows
  stored =
      let l = in_table_lem ws false room i h us k in
      kept_stream ws false us (tally ws false i).rows place (opened z s) (omega arith) (opened_fits z s (stream_at_fits us place)) (opened_first z s) (λ e. absurd (opened_passed z s e)) k

  reopen_step : Done ws false i (reopen_done_at z il us (known_at us i)) (reopened_at z il us (known_at us i))
  unfolding reopen_done_at reopen_done_in reopened_at reopened_in passed_over
  reopen_step =
      subst (λ (b : Bool). Done ws false i (pick b false (reopen_done_in z il us (known_at us i).id.0 place s)) (pick b us (reopened_in z il us (known_at us i).id.0 place s))) (sym (le-ltb _ _ (in_table_lem ws false room i h us k)))
      (by (is_resetting_words s.pause_state) refl (ltb s.first 1024) refl)
    where
      by : (a : Bool) → is_resetting_words s.pause_state ≡ a → (b : Bool) → ltb s.first 1024 ≡ b
          → Done ws false i (pick a (pick b (reschedule_done vs il (known_at us i).id.0 s.first s.priority) (eqb s.first 1024)) true) (pick a (pick b (rescheduled vs il (known_at us i).id.0 s.first s.priority) vs) us)
      by false ea b eb = record { done = refl; kept = next_kept ws false room i h us k us k }
      by true ea true eb = wait_done ws false room i h us k (ap not ea) il vs stored
      by true ea false eb =
          let f = first_bounded ws false room i h us k (ap not ea) in
          let g = ltb-false s.first 1024 eb in
          record { done = eq-eqb s.first 1024 (omega arith); kept = next_kept ws false room i h us k vs stored }

pub reopen_settled : (z : Bool) (ws : List ℕ) → length ws ≡ 20768 → room_for ws false ≡ true → ReopenSettled z ws
unfolding reopened_all
reopen_settled z ws l room =
    let il : Bool = (totals_at ws).interleaving in
    all_done ws false (known_count ws) (reopened_all z il ws) (λ i. reopen_done_at z il (reopened_all z il ws i) (known_at (reopened_all z il ws i) i)) (kept_start ws false l) (λ i h k. reopen_step z il ws room i h (reopened_all z il ws i) k)

-- With the totals that were read.
pub reopen_steps : (z : Bool) (ws : List ℕ) (t : Totals) → length ws ≡ 20768 → room_for ws false ≡ true → t ≡ totals_at ws → ReopenSteps z t.interleaving ws t.known
reopen_steps z ws t l room et = subst (λ (x : Totals). ReopenSteps z x.interleaving ws x.known) (sym et) (reopen_settled z ws l room)

accepted_room : (z : Bool) (ws : List ℕ) → is_accepted (reopen z ws).answer ≡ true → room_for ws false ≡ true
unfolding reopen
accepted_room z ws = by (room_for ws false)
  where
    by : (b : Bool) → is_accepted (pick b (called (Accepted 0) (reopened_all z (totals_at ws).interleaving ws (known_count ws))) (called (Refused 16) ws)).answer ≡ true → b ≡ true
    by true e = refl
    by false e = e

-- Where commit is accepted, every step of it is done.
pub commit_settled : (ws : List ℕ) → length ws ≡ 20768 → is_accepted (reopen true ws).answer ≡ true → ReopenSettled true ws
commit_settled ws l e = reopen_settled true ws l (accepted_room true ws e)

-- Where rollback is.
pub rollback_settled : (ws : List ℕ) → length ws ≡ 20768 → is_accepted (reopen false ws).answer ≡ true → ReopenSettled false ws
rollback_settled ws l e = reopen_settled false ws l (accepted_room false ws e)

-- ------------------------------------------------------------------ interleaving

switch_step : (il : Bool) (ws : List ℕ) → room_for ws true ≡ true → (i : ℕ) → i < known_count ws → (us : List ℕ) → Kept ws true us (tally ws true i).rows → Done ws true i (switch_done_at il us (known_at us i)) (switched_at il us (known_at us i))
unfolding switch_done_at switched_at
switch_step il ws room i h us k =
    let p : ℕ = (known_at us i).place in
    let s : OutgoingStream = stream_at_words us p in
    let n = none_passed s.pause_state in
    let waits = wait_done ws true room i h us k n il us k in
    subst (λ (b : Bool). Done ws true i (pick b false (pick (ltb 1024 s.first) false (reschedule_done us il (known_at us i).id.0 s.first s.priority))) (pick b us (rescheduled us il (known_at us i).id.0 s.first s.priority))) (sym (le-ltb _ _ (in_table_lem ws true room i h us k)))
    (subst (λ (b : Bool). Done ws true i (pick b false (reschedule_done us il (known_at us i).id.0 s.first s.priority)) (rescheduled us il (known_at us i).id.0 s.first s.priority)) (sym (le-ltb _ _ (first_bounded ws true room i h us k n))) waits)

pub switched_settled : (b : Bool) (ws : List ℕ) → length ws ≡ 20768 → room_for ws true ≡ true → SwitchSettled b ws
unfolding switched_all
switched_settled b ws l room =
    all_done ws true (known_count ws) (switched_all b (chosen b ws)) (λ i. switch_done_at b (switched_all b (chosen b ws) i) (known_at (switched_all b (chosen b ws) i) i)) (kept_totals ws true (with_interleaving (totals_at ws) b) l)
    (λ i h k. switch_step b ws room i h (switched_all b (chosen b ws) i) k)

pub switch_steps : (b : Bool) (ws us : List ℕ) (t : Totals) → length ws ≡ 20768 → room_for ws true ≡ true → t ≡ totals_at ws → us ≡ put_totals ws (with_interleaving t b)
    → SwitchSteps b us t.known
switch_steps b ws us t l room et eu =
    subst (λ (x : List ℕ). SwitchSteps b x t.known) (sym eu)
    (subst (λ (x : Totals). SwitchSteps b (put_totals ws (with_interleaving x b)) x.known) (sym et) (switched_settled b ws l room))

-- Where the other choice is accepted, every step of switching is done.
pub switch_settled : (b : Bool) (ws : List ℕ) → length ws ≡ 20768 → alike b (totals_at ws).interleaving ≡ false → is_accepted (set_interleaving_words b ws).answer ≡ true → SwitchSettled b ws
unfolding set_interleaving_words
switch_settled b ws l other e = switched_settled b ws l (by (alike b (totals_at ws).interleaving) other (room_for ws true) e)
  where
    by : (a : Bool) → a ≡ false → (r : Bool) → is_accepted (pick a (called (Accepted 0) ws) (pick r (called (Accepted 0) (switched_all b (chosen b ws) (known_count ws))) (called (Refused 16) ws))).answer ≡ true → r ≡ true
    by true o r q = absurd (holds false (sym o))
    by false o true q = refl
    by false o false q = q
