-- What good words say of a known stream's amounts and messages. Assumes nothing.
use Prim.Native.Nat.{ℕ, ◌-◌, ◌≤◌, ◌<◌}
use mathlib.Core.Path.{◌≡◌, refl, ap, subst, ◌∙◌}
use mathlib.Core.List.{List}
use mathlib.Core.Option.{some}
use native.Mathlib.Omega.{arith}
use lib.ListN.{length}
use Rattle.queue_words.specs.Header.{totals_at}
use Rattle.queue_words.specs.Items.{item_at}
use Rattle.queue_words.specs.Known.{id_at}
use Rattle.queue_words.specs.Streams.{stream_at_words}
use Rattle.queue_model.specs.Types.{Stream, remaining}
use Rattle.queue_model.specs.Streams.{find_stream}
use Rattle.queue_model.proofs.Table.{Every}
use Rattle.queue_model.proofs.Streams.{unsent_bytes}
use Rattle.queue_model.proofs.Invariant.Messages.{WellItems}
use Rattle.queue_model.proofs.Invariant.Well.{Kept, amount_le}
use Rattle.payload_store.specs.Words.{size_of, gaps_of}
use Rattle.payload_store.specs.Good as payload
use Rattle.payload_store.proofs.Goods.{payload_length}
use Rattle.message_chains.specs.Amounts.{rest}
use Rattle.queue_state.specs.Chains.{each}
use Rattle.queue_state.specs.Model.{item_in_words, stream_of, row_at, stream_in, streams_in, model}
use Rattle.queue_state.specs.Good.{Good}
use Rattle.queue_state.proofs.Frames.{stream_is}
use Rattle.queue_state.proofs.Looks.{found_at, stream_found}
use Rattle.queue_state.proofs.Singles.{model_streams, model_total}
use Rattle.queue_state.proofs.Tabs.{tab_each}

-- The known stream in position i, by its row and its places.
abbrev pub stream_here : (ws st : List ℕ) → ℕ → List ℕ → Stream
stream_here ws st i ps = stream_of (id_at ws i) (stream_at_words ws (row_at ws i)) (each (item_in_words ws st) ps)

-- The bytes of a message that remain, and its other parts, in the words and in the model.
rest_in : (ws st : List ℕ) (x : ℕ) → size_of ws x - (item_in_words ws st x).offset ≡ rest (item_at ws x)
unfolding item_in_words rest
rest_in ws st x = refl

payload_in : (ws st : List ℕ) (x : ℕ) → payload.GoodPayloads ws st → x < 1024 → length (item_in_words ws st x).payload ≡ size_of ws x
unfolding item_in_words
payload_in ws st x g h = payload_length ws st (gaps_of ws) x g h

pub rest_is : (ws st : List ℕ) (x : ℕ) → payload.GoodPayloads ws st → x < 1024 → remaining (item_in_words ws st x) ≡ rest (item_at ws x)
rest_is ws st x g h = ap (λ (n : ℕ). n - (item_in_words ws st x).offset) (payload_in ws st x g h) ∙ rest_in ws st x

pub offset_is : (ws st : List ℕ) (x : ℕ) → (item_in_words ws st x).offset ≡ (item_at ws x).offset
unfolding item_in_words
offset_is ws st x = refl

pub message_is : (ws st : List ℕ) (x : ℕ) → (item_in_words ws st x).message_id ≡ (item_at ws x).message_id.0
unfolding item_in_words
message_is ws st x = refl

pub lifecycle_is : (ws st : List ℕ) (x : ℕ) → (item_in_words ws st x).lifecycle_id ≡ (item_at ws x).lifecycle_id
unfolding item_in_words
lifecycle_is ws st x = refl

module _ (ws st : List ℕ) (g : Good ws st) (i : ℕ) (hk : i < (totals_at ws).known) where
  pub found_here : find_stream (id_at ws i) (streams_in ws st) ≡ some (stream_here ws st i (g.shape.q i))
  found_here = found_at ws st g.shape i hk ∙ ap some (stream_is ws st g.shape i hk)

  kept_in : Kept (stream_in ws st i)
  unfolding streams_in
  kept_in = tab_each Kept (stream_in ws st) (totals_at ws).known i (subst (λ (ss : List Stream). Every Kept ss) (model_streams ws st) g.well.kept) hk

  pub kept_here : Kept (stream_here ws st i (g.shape.q i))
  kept_here = subst Kept (stream_is ws st g.shape i hk) kept_in

  -- "its amounts are sums"
  pub amount_sum : (stream_at_words ws (row_at ws i)).buffered_amount ≡ unsent_bytes (each (item_in_words ws st) (g.shape.q i))
  amount_sum = kept_here.counted

  pub amount_total : (stream_at_words ws (row_at ws i)).buffered_amount ≤ (totals_at ws).total
  amount_total =
      let a = amount_le (model ws st) (id_at ws i) g.well in
      let b = ap (λ (s : Stream). s.amount) (stream_found ws st (id_at ws i) (stream_here ws st i (g.shape.q i)) found_here) in
      omega (arith, a, b, model_total ws st)

  pub items_well : WellItems (each (item_in_words ws st) (g.shape.q i))
  items_well = kept_here.well_items
