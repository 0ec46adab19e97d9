-- An expired head dropped is the model's. Assumes nothing.
use mathlib.Core.Path.{◌≡◌, ap, ◌∙◌, subst}
use mathlib.Core.List.{List, ◌∷◌}
use Prim.Native.Nat.{ℕ, ◌+◌, ◌≤◌}
use native.Mathlib.Omega.{arith}
use borrow.Author.Tests.{le-ltb}
use lib.ListN.{length}
use Rattle.queue_words.specs.Items.{item_at}
use Rattle.queue_words.specs.Known.{id_at}
use Rattle.queue_words.specs.Streams.{stream_at_words}
use Rattle.queue_model.specs.Types.{Stream}
use Rattle.queue_model.specs.Amounts.{drop_head_events}
use Rattle.stream_scheduler.specs.Link.{entry_at}
use Rattle.queue_streams.specs.Events.{event_words}
use Rattle.queue_streams.specs.Settings.{CalledWith}
use Rattle.message_chains.specs.Dropping.{dropped_in_state}
use Rattle.queue_sending.specs.Produce.{expired_dropped}
use Rattle.queue_state.specs.Chains.{each}
use Rattle.queue_state.specs.Model.{item_in_words, row_at, stream_in, model}
use Rattle.queue_state.specs.Good.{Good}
use Rattle.queue_state.proofs.Frames.{row_below, stream_is}
use Rattle.queue_state.proofs.Facts.{stream_here}
use Rattle.queue_state.proofs.Dropped.{DroppedIn, dropped_in_state_lem}
use Rattle.linked_sending.proofs.Looking.{Choice}

-- The words without the expired head: it is dropped in its stream's state, as a discarded one is.
abbrev pub HeadExpired : (ws st : List ℕ) (g : Good ws st) (at : ℕ) → Choice ws st g.shape at → List ℕ → ℕ → CalledWith → Type 0
HeadExpired ws st g at c es k d = DroppedIn ws st (stream_in ws st c.pos) (item_in_words ws st c.first) (each (item_in_words ws st) c.rest) es k d

module _ (ws st : List ℕ) (g : Good ws st) (at : ℕ) (c : Choice ws st g.shape at) where
  here : stream_in ws st c.pos ≡ stream_here ws st c.pos (c.first ∷ c.rest)
  here = stream_is ws st g.shape c.pos c.known ∙ ap (stream_here ws st c.pos) c.places_are

  words_are : (es : List ℕ) (k : ℕ)
      → expired_dropped ws es k (entry_at ws at).stream_id (row_at ws c.pos) ≡ dropped_in_state ws es k (id_at ws c.pos) (row_at ws c.pos) (stream_at_words ws (row_at ws c.pos)) (item_at ws c.first)
  unfolding expired_dropped
  words_are es k =
      let hr : row_at ws c.pos ≤ 255 = omega (arith, row_below ws st g.shape c.pos c.known) in
      let hf : (stream_at_words ws (row_at ws c.pos)).first ≤ 1023 = omega (arith, c.first_fits, c.first_is) in
      rw (le-ltb 255 (row_at ws c.pos) hr, le-ltb 1023 (stream_at_words ws (row_at ws c.pos)).first hf, ap (item_at ws) c.first_is, ← c.id_is)

  pub head_expired : (es : List ℕ) (k : ℕ) → event_words ≤ length es → k + length (drop_head_events (model ws st) (stream_in ws st c.pos) (item_in_words ws st c.first)) ≤ 2305
      → HeadExpired ws st g at c es k (expired_dropped ws es k (entry_at ws at).stream_id (row_at ws c.pos))
  head_expired es k l h =
      rw (words_are es k, here)
      (dropped_in_state_lem ws st g c.pos c.known c.first c.rest c.places_are es k l (subst (λ (t : Stream). k + length (drop_head_events (model ws st) t (item_in_words ws st c.first)) ≤ 2305) here h))
