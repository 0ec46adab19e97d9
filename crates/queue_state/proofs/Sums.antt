-- The counts in the totals are the model's sums. Assumes nothing.
use mathlib.Core.Path.{◌≡◌, refl, sym, ap, ◌∙◌}
use mathlib.Core.List.{List, [], ◌∷◌}
use Prim.Native.Nat.{ℕ, suc, ◌≤◌, ◌<◌}
use native.Mathlib.Omega.{arith}
use lib.ListN.{length}
use Rattle.queue_words.specs.Header.{totals_at}
use Rattle.queue_model.specs.Types.{Stream}
use Rattle.queue_model.specs.Streams.{waiting, occupied, payload_bytes}
use Rattle.payload_store.specs.Words.{size_of, used_of, gaps_of}
use Rattle.payload_store.proofs.Goods.{payload_length}
use Rattle.queue_state.specs.Chains.{count, sum_of, each}
use Rattle.queue_state.specs.Model.{item_in_words, stream_in, streams_in}
use Rattle.queue_state.specs.Good.{Shape}
use Rattle.queue_state.proofs.Chains.{count_head}
use Rattle.queue_state.proofs.Splits.{total_upto, sum_agree}
use Rattle.queue_state.proofs.Tabs.{tab_sum}
use Rattle.queue_state.proofs.Frames.{row_fits, stream_is}

pub each_length : {A : Type 0} (f : ℕ → A) (ps : List ℕ) → length (each f ps) ≡ length ps
each_length f [] = refl
each_length f (x ∷ xs) = ap suc (each_length f xs)

-- A message's payload is as long as its row says.
pub item_length : (ws st : List ℕ) (g : Shape ws st) (x : ℕ) → x < 1024 → length (item_in_words ws st x).payload ≡ size_of ws x
unfolding item_in_words
item_length ws st g x h = payload_length ws st (gaps_of ws) x g.lay h

pub payload_sum : (ws st : List ℕ) (g : Shape ws st) (ps : List ℕ) → ((x : ℕ) → 1 ≤ count x ps → x < 1024) → payload_bytes (each (item_in_words ws st) ps) ≡ sum_of (size_of ws) ps
payload_sum ws st g [] f = refl
payload_sum ws st g (x ∷ xs) f = omega (arith, item_length ws st g x (f x (count_head x xs)), payload_sum ws st g xs (λ y h. f y (omega arith)))

module _ (ws st : List ℕ) (g : Shape ws st) where
  fits : (j x : ℕ) → j < (totals_at ws).known → 1 ≤ count x (g.q j) → x < 1024
  fits j x h l = row_fits g.q g.fr x j g.split (omega (arith, g.known_fits)) l

  length_in : (j : ℕ) → j < (totals_at ws).known → length (stream_in ws st j).items ≡ length (g.q j)
  length_in j h = ap (λ (s : Stream). length s.items) (stream_is ws st g j h) ∙ each_length (item_in_words ws st) (g.q j)

  bytes_in : (j : ℕ) → j < (totals_at ws).known → payload_bytes (stream_in ws st j).items ≡ sum_of (size_of ws) (g.q j)
  bytes_in j h = ap (λ (s : Stream). payload_bytes s.items) (stream_is ws st g j h) ∙ payload_sum ws st g (g.q j) (λ x l. fits j x h l)

  pub waiting_is : waiting (streams_in ws st) ≡ (totals_at ws).waiting
  unfolding streams_in
  waiting_is =
      tab_sum (λ (s : Stream). length s.items) (stream_in ws st) (totals_at ws).known
      ∙ sum_agree (λ j. length (g.q j)) (λ j. length (stream_in ws st j).items) (totals_at ws).known length_in
      ∙ sym (total_upto length g.q (totals_at ws).known g.known_fits (λ j h. ap length (g.rest j h)))
      ∙ sym g.waits

  pub occupied_is : occupied (streams_in ws st) ≡ used_of ws
  unfolding streams_in
  occupied_is =
      tab_sum (λ (s : Stream). payload_bytes s.items) (stream_in ws st) (totals_at ws).known
      ∙ sum_agree (λ j. sum_of (size_of ws) (g.q j)) (λ j. payload_bytes (stream_in ws st j).items) (totals_at ws).known bytes_in
      ∙ sym (total_upto (sum_of (size_of ws)) g.q (totals_at ws).known g.known_fits (λ j h. ap (sum_of (size_of ws)) (g.rest j h)))
      ∙ sym g.used
