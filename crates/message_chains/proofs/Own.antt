-- A drop that its tests have accepted. Assumes nothing.
use mathlib.Core.Path.{◌≡◌, refl, sym, ◌∙◌}
use mathlib.Core.Bool.{Bool, true, false}
use mathlib.Core.List.{List}
use Prim.Native.Nat.{ℕ, ◌≤◌, ◌<◌}
use native.Mathlib.Omega.{arith}
use borrow.Author.Tests.{ltb-false}
use lib.Dec.{ltb}
use Rattle.queue_words.specs.Flags.{pick}
use Rattle.queue_words.specs.Header.{totals_at, scheduler_at}
use Rattle.queue_words.specs.Items.{item_at}
use Rattle.queue_words.specs.Streams.{is_pending, stream_at_words}
use Rattle.queue_words.specs.declared.active.SchedulingParameters.{SchedulingParameters}
use Rattle.queue_words.specs.declared.items.Item.{Item}
use Rattle.queue_words.specs.declared.streams.OutgoingStream.{OutgoingStream}
use Rattle.queue_words.specs.declared.streams.PauseState.{PauseState}
use Rattle.std.specs.Prelude.{if◌then◌else◌}
use Rattle.queue_model.proofs.Tests.{holds}
use Rattle.payload_store.specs.Dropping.{drop_code_words}
use Rattle.stream_scheduler.specs.Words.{Outcome, outcome, remove_stream_words, set_bytes_remaining_words}
use Rattle.queue_streams.specs.Settings.{called_with}
use Rattle.queue_streams.specs.Waiting.{head_size_words, parameters_for}
use Rattle.queue_streams.specs.Call.{Accepted, Refused}
use Rattle.message_chains.specs.Amounts.{rest}
use Rattle.message_chains.specs.Notes.{notes}
use Rattle.message_chains.specs.Heads.{head_code, head_dropped, drop_notes}
use Rattle.message_chains.specs.Dropping.{scheduled_behind, end_pending_words, behind_dropped, dropped_in_state, MayDrop}
use Rattle.message_chains.proofs.Goes.{head_may, behind_may}

-- the scheduler ends a stream's waiting where it has at most 256 rows
else_done : (b : Bool) (x y : Outcome) → x.done ≡ false → (if b then x else y).done ≡ true → b ≡ false
else_done true x y n d = absurd (holds false (sym n ∙ d))
else_done false x y n d = refl

pub remove_few : (ws : List ℕ) (id : ℕ) → (remove_stream_words ws id).done ≡ true → (scheduler_at ws).active ≤ 256
unfolding remove_stream_words
remove_few ws id d = ltb-false 256 (scheduler_at ws).active (else_done (ltb 256 (scheduler_at ws).active) _ _ refl d)

-- what the scheduler does after a drop, it can do
module _ (ws : List ℕ) (id : ℕ) (s : OutgoingStream) (next : ℕ) (d : (scheduled_behind ws id s next).done ≡ true) (b : Bool) (e : b ≡ is_pending s.pause_state) where
  pub own_ends : b ≡ true → (scheduler_at ws).active ≤ 256
  unfolding scheduled_behind
  own_ends h = remove_few ws id (rw (← e, h) at d)

  pub own_waits : (bytes : ℕ) (p : SchedulingParameters) → b ≡ false → bytes ≡ head_size_words ws next → p ≡ parameters_for (totals_at ws).interleaving s.priority → (set_bytes_remaining_words ws id bytes p).done ≡ true
  unfolding scheduled_behind
  own_waits bytes p h eb ep = rw (eb, ep) (rw (← e, h) at d)

module _ (ws : List ℕ) (id row : ℕ) (y : MayDrop ws id row) (s : OutgoingStream) (es : s ≡ stream_at_words ws row) where
  pub own_first : s.first < 1024
  own_first = rw es y.first_fits

  pub own_may : (m : Item) (us : List ℕ) → m ≡ item_at ws s.first → outcome true us ≡ scheduled_behind ws id s m.next → drop_code_words us s.first ≡ 0
  own_may m us em eo =
      let z : head_code ws s s.first m.next (rest m) ≡ 0 = rw (em, es) y.head_goes in
      behind_may ws id s m.next true us s.first own_first eo (head_may ws s s.first m.next (rest m) z)

  pub own_scheduled : (m : Item) → m ≡ item_at ws s.first → (scheduled_behind ws id s m.next).done ≡ true
  own_scheduled m em = rw (em, es) y.scheduled

  pub own_drop : (vs : List ℕ) (k : ℕ) (m : Item) (us : List ℕ) (after : PauseState) (next told : List ℕ) (r : ℕ) → m ≡ item_at ws s.first
      → outcome true us ≡ scheduled_behind ws id s m.next → after ≡ end_pending_words s.pause_state → next ≡ head_dropped us row s after m
      → notes told r ≡ drop_notes us vs k id s (rest m) m.lifecycle_id
      → called_with (Accepted r) next told ≡ dropped_in_state ws vs k id row (stream_at_words ws row) (item_at ws (stream_at_words ws row).first)
  unfolding dropped_in_state behind_dropped
  own_drop vs k m us after next told r em eo ea en et = rw (y.head_goes, y.scheduled, ← es, ← em, ← eo, ← ea, ← en, ← et)

-- a drop that is accepted has passed its tests
module _ (ws es : List ℕ) (k id row : ℕ) where
  abbrev head : OutgoingStream
  head = stream_at_words ws row

  abbrev item : Item
  item = item_at ws (stream_at_words ws row).first

  abbrev code : ℕ
  code = head_code ws (stream_at_words ws row) (stream_at_words ws row).first (item_at ws (stream_at_words ws row).first).next (rest (item_at ws (stream_at_words ws row).first))

  abbrev us : List ℕ
  us = (scheduled_behind ws id (stream_at_words ws row) (item_at ws (stream_at_words ws row).first).next).next

  pub may_drop : (j : ℕ) → row < 256 → (stream_at_words ws row).first < 1024 → (dropped_in_state ws es k id row (stream_at_words ws row) (item_at ws (stream_at_words ws row).first)).answer ≡ Accepted j → MayDrop ws id row
  unfolding dropped_in_state behind_dropped
  may_drop j hr hf e = go (ltb 0 code) refl (scheduled_behind ws id head item.next).done refl e
    where
      go : (b : Bool) → ltb 0 code ≡ b → (d : Bool) → (scheduled_behind ws id head item.next).done ≡ d
          → (pick b (called_with (Refused code) ws es)
          (pick d (called_with (Accepted (drop_notes us es k id head (rest item) item.lifecycle_id).count) (head_dropped us row head (end_pending_words head.pause_state) item) (drop_notes us es k id head (rest item) item.lifecycle_id).events)
          (called_with (Refused 16) ws es))).answer ≡ Accepted j → MayDrop ws id row
      go true eb d ed h = let z : ◌≡◌ {A = ℕ} 0 1 = cc in absurd (omega arith)
      go false eb false ed h = let z : ◌≡◌ {A = ℕ} 0 1 = cc in absurd (omega arith)
      go false eb true ed h = record { row_fits = hr; first_fits = hf; head_goes = omega (arith, ltb-false 0 code eb); scheduled = ed }
