-- The amounts of the chosen stream and its first message, from a well queue. Assumes nothing.
use mathlib.Core.Path.{◌≡◌, refl, ap}
use mathlib.Core.List.{List}
use Prim.Native.Nat.{ℕ, ◌+◌, ◌≤◌, ◌<◌}
use native.Mathlib.Omega.{arith}
use lib.ListN.{length}
use Rattle.queue_words.specs.Header.{totals_at}
use Rattle.queue_words.specs.Items.{item_at}
use Rattle.queue_words.specs.Streams.{stream_at_words}
use Rattle.queue_model.specs.Types.{Stream, remaining}
use Rattle.queue_model.specs.Streams.{stream_at}
use Rattle.queue_model.proofs.Calm.Calm.{HeadAt}
use Rattle.queue_model.proofs.Streams.{at_found, unsent_bytes}
use Rattle.queue_model.proofs.Invariant.Messages.{WellItem}
use Rattle.queue_model.proofs.Invariant.Well.{Kept, amount_le}
use Rattle.queue_model.proofs.Invariant.Sends.{head_kept, head_well}
use Rattle.payload_store.specs.Good.{payload_of}
use Rattle.payload_store.specs.Words.{size_of}
use Rattle.message_chains.specs.Amounts.{rest}
use Rattle.stream_scheduler.specs.Link.{entry_at}
use Rattle.queue_state.specs.Chains.{each}
use Rattle.queue_state.specs.Model.{item_in_words, row_at, stream_in, model}
use Rattle.queue_state.specs.Good.{Shape, Good}
use Rattle.queue_state.proofs.Singles.{model_streams, model_total}
use Rattle.queue_state.proofs.Sums.{item_length}
use Rattle.linked_sending.proofs.Looking.{Choice}
use Rattle.queue_state.proofs.Facts.{offset_is}

pub item_payload : (ws st : List ℕ) (x : ℕ) → (item_in_words ws st x).payload ≡ payload_of ws st x
unfolding item_in_words
item_payload ws st x = refl

pub stream_amount : (ws st : List ℕ) (i : ℕ) → (stream_in ws st i).amount ≡ (stream_at_words ws (row_at ws i)).buffered_amount
unfolding stream_in
stream_amount ws st i = refl

-- What remains of a message.
pub remaining_is : (ws st : List ℕ) (g : Shape ws st) (x : ℕ) → x < 1024 → remaining (item_in_words ws st x) ≡ rest (item_at ws x)
unfolding rest
remaining_is ws st g x h =
    let a : length (item_in_words ws st x).payload ≡ size_of ws x = item_length ws st g x h in
    let b = offset_is ws st x in
    rw (a, b)

module _ (ws st : List ℕ) (g : Good ws st) (at : ℕ) (c : Choice ws st g.shape at) where
  pub head_at : HeadAt (model ws st).streams (entry_at ws at).stream_id (stream_in ws st c.pos) (item_in_words ws st c.first) (each (item_in_words ws st) c.rest)
  head_at = record { found = rw (model_streams ws st) c.found_in; items = c.items_are }

  kept : Kept (stream_in ws st c.pos)
  kept = head_kept (model ws st) (entry_at ws at).stream_id (stream_in ws st c.pos) (item_in_words ws st c.first) (each (item_in_words ws st) c.rest) g.well head_at

  pub well_item : WellItem (item_in_words ws st c.first)
  well_item = (head_well (model ws st) (entry_at ws at).stream_id (stream_in ws st c.pos) (item_in_words ws st c.first) (each (item_in_words ws st) c.rest) g.well head_at).0

  pub rest_is : remaining (item_in_words ws st c.first) ≡ rest (item_at ws c.first)
  rest_is = remaining_is ws st g.shape c.first c.first_fits

  pub rest_in_amount : rest (item_at ws c.first) ≤ (stream_at_words ws (row_at ws c.pos)).buffered_amount
  rest_in_amount =
      let a : (stream_in ws st c.pos).amount ≡ unsent_bytes (stream_in ws st c.pos).items = kept.counted in
      let b : unsent_bytes (stream_in ws st c.pos).items ≡ remaining (item_in_words ws st c.first) + unsent_bytes (each (item_in_words ws st) c.rest) = ap unsent_bytes c.items_are in
      omega (arith, rest_is, stream_amount ws st c.pos)

  pub amount_in_total : (stream_at_words ws (row_at ws c.pos)).buffered_amount ≤ (totals_at ws).total
  amount_in_total =
      let a : (stream_at (model ws st) (entry_at ws at).stream_id).amount ≤ (model ws st).total = amount_le (model ws st) (entry_at ws at).stream_id g.well in
      let b : stream_at (model ws st) (entry_at ws at).stream_id ≡ stream_in ws st c.pos = at_found (model ws st).options (model ws st).streams (entry_at ws at).stream_id (stream_in ws st c.pos) head_at.found in
      let d : (stream_at (model ws st) (entry_at ws at).stream_id).amount ≡ (stream_in ws st c.pos).amount = ap (λ (s : Stream). s.amount) b in
      omega (arith, stream_amount ws st c.pos, model_total ws st)

  -- There is a rest, and no message is longer than 262,144 bytes.
  pub offset_below : (item_at ws c.first).offset < size_of ws c.first
  offset_below = omega (arith, well_item.unsent, item_length ws st g.shape c.first c.first_fits, offset_is ws st c.first)

  pub length_small : size_of ws c.first ≤ 262144
  length_small = omega (arith, well_item.small, item_length ws st g.shape c.first c.first_fits)
