-- What holds of one stream that is neither open nor resetting, by its state and its messages: the calls that neither send nor drop a message nor make streams resetting keep it, but for the
-- whole-queue reset. Assumes nothing.
use mathlib.Core.Path.{◌≡◌, refl, sym, ap, subst, ◌∙◌}
use mathlib.Core.Bool.{Bool, true, false, not}
use mathlib.Core.List.{List, [], ◌∷◌, ◌++◌}
use mathlib.Core.Option.{Option, none, some}
use Prim.Native.Nat.{ℕ}
use native.Mathlib.Omega.{arith}
use lib.Dec.{eqb}
use borrow.Author.Tests.{not-false}
use Rattle.std.specs.Prelude.{if◌then◌else◌}
use Rattle.queue_model.specs.Logic.{same_bool, is_nil}
use Rattle.queue_model.specs.Types.{Item, PauseState, not_paused, pending, paused, resetting, Stream, Queue, done, Step, with_threshold, with_priority, reply, Message}
use Rattle.queue_model.specs.Streams.{find_stream, put_stream, stream_at, know, stream_key, with_message}
use Rattle.queue_model.specs.Refusals.{Check, first_refusal, refused_or, checked}
use Rattle.queue_model.specs.Add.{added, add_checks, new_item}
use Rattle.queue_model.specs.Close.{closed, close_in, close_checks}
use Rattle.queue_model.specs.Reset.{is_resetting, reopened, reopen}
use Rattle.queue_model.specs.Settings.{threshold_checks, priority_checks, raised_event, switched}
use Rattle.queue_model.specs.Reader.{read_image}
use Rattle.queue_model.specs.Restore.{restore_read, restore_checks}
use Rattle.queue_model.specs.Run.{Call, add, produce, fill, discard, close, ready_ids, commit, rollback, reset, set_threshold, set_priority, set_interleaving, restore, ask_priority, ask_amount, ask_threshold, ask_total, ask_empty, ask_has_data, ask_streams_ready, ask_ready_count, ask_readiness, ask_room, step}
use Rattle.queue_model.proofs.Table.{find_put_same, find_put_other, own, other, is_own, not_in_nil}
use Rattle.queue_model.proofs.Checks.{Passed, all_passed, or_left, nil_of}
use Rattle.queue_model.proofs.Streams.{at_found, at_id}
use Rattle.queue_model.proofs.Invariant.Fine.{reopened_alike}
use Rattle.queue_model.proofs.Invariant.Serving.{found_map}
use Rattle.queue_model.specs.Calls
use Rattle.queue_model.specs.Restore

-- The stream k is known, and this holds of it.
pub record Has (k : ℕ) (F : PauseState → List Item → Type 0) (q : Queue) : Type 0 where
  pub stream : Stream
  pub found : find_stream k q.streams ≡ some stream
  pub holds : F stream.pause_state stream.items

-- It says that the stream is neither open nor resetting, and stays when a message is added.
pub record Lasts (F : PauseState → List Item → Type 0) : Type 0 where
  pub not_open : (is : List Item) → F not_paused is → ⊥
  pub not_resetting : (is : List Item) → F resetting is → ⊥
  pub adds : (p : PauseState) (is : List Item) (i : Item) → F p is → F p (is ++ (i ∷ []))

-- The calls of this file.
abbrev pub plain : Call → Bool
plain (add store now m) = true
plain (produce store places buffer now size) = false
plain (fill store places buffer now p) = false
plain (discard places s k) = false
plain (close places s) = true
plain ready_ids = false
plain commit = true
plain rollback = true
plain reset = false
plain (set_threshold places s t) = true
plain (set_priority s p) = true
plain (set_interleaving b) = true
plain (restore store now image) = true
plain (ask_priority s) = true
plain (ask_amount s) = true
plain (ask_threshold s) = true
plain ask_total = true
plain ask_empty = true
plain ask_has_data = true
plain ask_streams_ready = true
plain ask_ready_count = true
plain ask_readiness = true
plain (ask_room r) = true

module _ (k : ℕ) (F : PauseState → List Item → Type 0) (l : Lasts F) where
  -- ---- the table of streams

  has_put : (t : Stream) (q r : Queue) → r.streams ≡ put_stream t q.streams → (t.id ≡ k → F t.pause_state t.items) → Has k F q → Has k F r
  has_put t q r e f h = elim (is_own stream_key t k) [
    | own g ↦ record { stream = t; found = ap (find_stream k) e ∙ subst (λ (x : ℕ). find_stream x (put_stream t q.streams) ≡ some t) g (find_put_same stream_key t q.streams); holds = f g }
    | other n ↦ record { stream = h.stream; found = ap (find_stream k) e ∙ find_put_other stream_key k t q.streams n ∙ h.found; holds = h.holds }
  ]

  own_at : (q : Queue) (j : ℕ) → (stream_at q j).id ≡ k → Has k F q → F (stream_at q j).pause_state (stream_at q j).items
  own_at q j e h =
      let a : k ≡ j = sym e ∙ at_id q.options q.streams j in
      let z : stream_at q j ≡ h.stream = subst (λ (x : ℕ). stream_at q x ≡ h.stream) a (at_found q.options q.streams k h.stream h.found) in
      subst (λ (x : Stream). F x.pause_state x.items) (sym z) h.holds

  -- ---- calls that check

  has_checked : (cs : List Check) (q : Queue) (s : Step) → Has k F q → (Passed cs → Has k F s.next) → Has k F (checked cs q s).next
  unfolding checked refused_or
  has_checked cs q s a h = go (first_refusal cs) refl
    where
      go : (x : Option ℕ) → first_refusal cs ≡ x → Has k F (refused_or x q s).next
      go none e = h (all_passed cs e)
      go (some n) e = a

  has_add : (store now : ℕ) (x : Message) (q : Queue) → Has k F q → Has k F (Calls.add store now x q).next
  unfolding Calls.add added new_item
  has_add store now x q a =
      has_checked (add_checks store now x q) q (reply done [] (added now x q)) a (λ p.
      let s : Stream = stream_at q x.stream_id in let i : Item = new_item now q.next_message_id x in
      has_put (with_message s i) q (added now x q) refl (λ e. l.adds s.pause_state s.items i (own_at q x.stream_id e a)) a)

  -- "Closing changes nothing unless the stream is open".
  has_close_in : (p : PauseState) (q : Queue) (j : ℕ) → (stream_at q j).pause_state ≡ p → Has k F q → Has k F (close_in p q (stream_at q j)).next
  unfolding close_in closed
  has_close_in not_paused q j e a = has_put _ q _ refl (λ z. absurd (l.not_open (stream_at q j).items (subst (λ (p : PauseState). F p (stream_at q j).items) e (own_at q j z a)))) a
  has_close_in pending q j e a = a
  has_close_in paused q j e a = a
  has_close_in resetting q j e a = a

  has_close : (places j : ℕ) (q : Queue) → Has k F q → Has k F (Calls.close places j q).next
  unfolding Calls.close
  has_close places j q a =
      let s : Stream = stream_at q j in
      has_checked (close_checks places j q) q (close_in s.pause_state q s) a (λ p. has_close_in s.pause_state q j refl a)

  -- ---- commit and rollback

  reopened_same : (z : Bool) (s : Stream) (p : PauseState) → s.pause_state ≡ p → F p s.items → reopened z s ≡ s
  unfolding reopened is_resetting
  reopened_same z s not_paused e f = rw e
  reopened_same z s pending e f = rw e
  reopened_same z s paused e f = rw e
  reopened_same z s resetting e f = absurd (l.not_resetting s.items f)

  has_reopen : (z : Bool) (q : Queue) → Has k F q → Has k F (reopen z q).next
  unfolding reopen
  has_reopen z q h = record {
    stream = h.stream;
    found = found_map (reopened z) (λ s. (reopened_alike z s).alike_id) k q.streams h.stream h.found ∙ ap some (reopened_same z h.stream h.stream.pause_state refl h.holds);
    holds = h.holds;
  }

  -- ---- settings

  has_set_threshold : (places j t : ℕ) (q : Queue) → Has k F q → Has k F (Calls.set_threshold places j t q).next
  unfolding Calls.set_threshold
  has_set_threshold places j t q a =
      let s : Stream = stream_at q j in
      has_checked (threshold_checks places j q) q (reply done (raised_event s t) (know q (with_threshold t s))) a (λ p. has_put (with_threshold t s) q (know q (with_threshold t s)) refl (λ z. own_at q j z a) a)

  has_set_priority : (j n : ℕ) (q : Queue) → Has k F q → Has k F (Calls.set_priority j n q).next
  unfolding Calls.set_priority
  has_set_priority j n q a =
      let s : Stream = stream_at q j in
      has_checked (priority_checks j q) q (reply done [] (know q (with_priority n s))) a (λ p. has_put (with_priority n s) q (know q (with_priority n s)) refl (λ z. own_at q j z a) a)

  has_set_interleaving : (b : Bool) (q : Queue) → Has k F q → Has k F (Calls.set_interleaving b q).next
  unfolding Calls.set_interleaving switched
  has_set_interleaving b q a = go (same_bool b q.interleaving)
    where
      go : (x : Bool) → Has k F (if x then q else switched b q)
      go true = a
      go false = record { stream = a.stream; found = a.found; holds = a.holds }

  -- 12: a queue with a known stream is in use.
  has_restore : (store now : ℕ) (image : List ℕ) (q : Queue) → Has k F q → Has k F (Restore.restore store now image q).next
  unfolding Restore.restore
  has_restore store now image q a = has_checked (restore_checks store now q) q (restore_read now q (read_image image)) a (λ p.
      let e : q.streams ≡ [] = nil_of q.streams (not-false (is_nil q.streams) (or_left (not (is_nil q.streams)) (not (eqb q.next_message_id 0)) p.1.1.0)) in
      absurd (not_in_nil stream_key k a.stream (subst (λ (ss : List Stream). find_stream k ss ≡ some a.stream) e a.found)))

  -- ---- every such call

  pub plain_step : (c : Call) (q : Queue) → plain c ≡ true → Has k F q → Has k F (step c q).next
  unfolding step
  plain_step (add store now x) q e h = has_add store now x q h
  plain_step (produce store places buffer now size) q e h = let z : ◌≡◌ {A = ℕ} 0 1 = cc in absurd (omega arith)
  plain_step (fill store places buffer now p) q e h = let z : ◌≡◌ {A = ℕ} 0 1 = cc in absurd (omega arith)
  plain_step (discard places s x) q e h = let z : ◌≡◌ {A = ℕ} 0 1 = cc in absurd (omega arith)
  plain_step (close places s) q e h = has_close places s q h
  plain_step ready_ids q e h = let z : ◌≡◌ {A = ℕ} 0 1 = cc in absurd (omega arith)
  plain_step commit q e h = unfold Calls.commit in has_reopen true q h
  plain_step rollback q e h = unfold Calls.rollback in has_reopen false q h
  plain_step reset q e h = let z : ◌≡◌ {A = ℕ} 0 1 = cc in absurd (omega arith)
  plain_step (set_threshold places s t) q e h = has_set_threshold places s t q h
  plain_step (set_priority s p) q e h = has_set_priority s p q h
  plain_step (set_interleaving b) q e h = has_set_interleaving b q h
  plain_step (restore store now image) q e h = has_restore store now image q h
  plain_step (ask_priority s) q e h = h
  plain_step (ask_amount s) q e h = h
  plain_step (ask_threshold s) q e h = h
  plain_step ask_total q e h = h
  plain_step ask_empty q e h = h
  plain_step ask_has_data q e h = h
  plain_step ask_streams_ready q e h = h
  plain_step ask_ready_count q e h = h
  plain_step ask_readiness q e h = h
  plain_step (ask_room r) q e h = h
