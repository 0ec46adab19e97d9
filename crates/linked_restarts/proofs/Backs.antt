-- What a whole-queue reset puts back: the words' sums are the model's, and none passes 2^64 - 1. Assumes nothing.
use mathlib.Core.Path.{◌≡◌, refl, sym, ap, ◌∙◌, subst}
use mathlib.Core.Bool.{true}
use mathlib.Core.List.{List, [], ◌∷◌}
use Prim.Native.Nat.{ℕ, zero, suc, ◌+◌, ◌-◌, ◌≤◌, ◌<◌}
use native.Mathlib.Omega.{arith}
use borrow.Author.Tests.{lt-ltb, le-ltb}
use lib.ListN.{length}
use Rattle.queue_words.specs.Header.{totals_at}
use Rattle.queue_words.specs.Streams.{stream_at_words}
use Rattle.queue_model.specs.Types as plain
use Rattle.queue_model.specs.Types.{Stream, Queue}
use Rattle.queue_model.specs.Streams.{occupied}
use Rattle.queue_model.specs.Reset.{model_put_back, all_put_back}
use Rattle.queue_model.proofs.Table.{Every, every_weaken}
use Rattle.queue_model.proofs.PutBack.{AllCounted, put_back_fits}
use Rattle.queue_model.proofs.Streams.{unsent_bytes}
use Rattle.queue_model.proofs.Invariant.Well.{Kept, Well, room}
use Rattle.payload_store.specs.Words.{size_of}
use Rattle.message_chains.specs.Amounts.{sum, rest}
use Rattle.queue_restarts.specs.Reset.{put_back, sum_stream, sum_known, sum_all}
use Rattle.queue_state.specs.Chains.{Linked, sum_to, each}
use Rattle.queue_state.specs.Model.{next_of, item_in_words, row_at, stream_in, streams_in, model}
use Rattle.queue_state.specs.Good.{Shape, Good}
use Rattle.queue_state.proofs.Frames.{stream_is, row_below}
use Rattle.queue_state.proofs.Sums.{item_length}
use Rattle.queue_state.proofs.Singles.{model_streams}
use Rattle.queue_state.proofs.Tabs.{tab_sum, tab_each}
use Rattle.queue_state.proofs.Facts.{offset_is}
use Rattle.payload_store.proofs.Cases.{by_index}
use Rattle.queue_model.proofs.Account.Ledger.{no_put_back}

-- ---- one stream

back_cons : (i : plain.Item) (is : List plain.Item) → model_put_back (i ∷ is) ≡ length i.payload - plain.remaining i
unfolding model_put_back
back_cons i is = refl

pub back_is : (ws st : List ℕ) (g : Shape ws st) (first : ℕ) (ps : List ℕ) → Linked (next_of ws) first ps → put_back ws first ≡ model_put_back (each (item_in_words ws st) ps)
unfolding put_back rest
back_is ws st g first [] l = rw (lt-ltb 1023 first (omega arith)) (sym no_put_back)
back_is ws st g first (x ∷ xs) l =
    let e : first ≡ x = l.0 in
    let b : first ≤ 1023 = omega (arith, l.1) in
    let n : length (item_in_words ws st x).payload ≡ size_of ws x = item_length ws st g x l.1 in
    rw (le-ltb 1023 first b, back_cons (item_in_words ws st x) (each (item_in_words ws st) xs), n, offset_is ws st x, e)

-- What the stream in a position puts back.
abbrev pub back_at_words : List ℕ → List ℕ → ℕ → ℕ
back_at_words ws st i = model_put_back (stream_in ws st i).items

pub back_at : (ws st : List ℕ) (g : Shape ws st) (i : ℕ) → i < (totals_at ws).known → put_back ws (stream_at_words ws (row_at ws i)).first ≡ back_at_words ws st i
back_at ws st g i h = back_is ws st g (stream_at_words ws (row_at ws i)).first (g.q i) (g.rows i h).linked ∙ ap (λ (s : Stream). model_put_back s.items) (sym (stream_is ws st g i h))

pub amount_at : (ws st : List ℕ) (g : Shape ws st) (i : ℕ) → i < (totals_at ws).known → (stream_in ws st i).amount ≡ (stream_at_words ws (row_at ws i)).buffered_amount
amount_at ws st g i h = ap (λ (s : Stream). s.amount) (stream_is ws st g i h)

-- A sum that does not stop.
pub sum_fits : (a b : ℕ) → a + b ≤ 2000000 → sum a b ≡ a + b
unfolding sum
sum_fits a b h = rw (le-ltb (18446744073709551615 - a) b (omega arith))

-- ---- no amount passes 2,000,000 bytes

abbrev Within : ℕ → Stream → Type 0
Within b s = s.amount + model_put_back s.items ≤ b

all_within : (b : ℕ) (ss : List Stream) → AllCounted ss → occupied ss ≤ b → Every (Within b) ss
all_within b [] c h = tt
all_within b (s ∷ ss) c h =
    let o = put_back_fits (s ∷ []) (c.0, tt) in
    (omega arith, all_within b ss c.1 (omega arith))

module _ (q : Queue) (w : Well q) where
  pub counted : AllCounted q.streams
  counted = every_weaken Kept (λ (s : Stream). s.amount ≡ unsent_bytes s.items) q.streams (λ s k. k.counted) w.kept

  pub stored : occupied q.streams ≤ 2000000
  stored = omega (arith, w.store_fits, (room q.options w.creation).store_high)

  well_within : Every (Within 2000000) q.streams
  well_within = all_within 2000000 q.streams counted stored

  pub well_total : q.total + all_put_back q.streams ≤ 2000000
  well_total = omega (arith, put_back_fits q.streams counted, w.total_counted, stored)

module _ (ws st : List ℕ) (g : Good ws st) where
  pub within : (i : ℕ) → i < (totals_at ws).known → (stream_in ws st i).amount + back_at_words ws st i ≤ 2000000
  unfolding streams_in
  within i h = tab_each (Within 2000000) (stream_in ws st) (totals_at ws).known i (subst (Every (Within 2000000)) (model_streams ws st) (well_within (model ws st) g.well)) h

  pub all_back : all_put_back (streams_in ws st) ≡ sum_to (back_at_words ws st) (totals_at ws).known
  unfolding streams_in
  all_back = tab_sum (λ (s : Stream). model_put_back s.items) (stream_in ws st) (totals_at ws).known

  total_fits : (totals_at ws).total + sum_to (back_at_words ws st) (totals_at ws).known ≤ 2000000
  unfolding model
  total_fits =
      let t : (totals_at ws).total + all_put_back (streams_in ws st) ≤ 2000000 = well_total (model ws st) g.well in
      omega (arith, t, all_back)

  sum_upto : (f : ℕ → ℕ) (n m : ℕ) → n ≤ m → sum_to f n ≤ sum_to f m
  unfolding sum_to
  sum_upto f n zero h = let e : n ≡ 0 = omega arith in rw e (omega arith)
  sum_upto f n (suc m) h = by_index n (suc m) (λ e. rw e (omega arith)) (λ ne. omega (arith, sum_upto f n m (omega arith)))

  sums : (n : ℕ) → n ≤ (totals_at ws).known → sum_all ws (totals_at ws).total n ≡ record { fits = true; total = (totals_at ws).total + sum_to (back_at_words ws st) n }
  unfolding sum_all sum_to sum_known sum_stream
  sums zero h = let e : (totals_at ws).total + 0 ≡ (totals_at ws).total = omega arith in rw e
  sums (suc n) h =
      let k : n < (totals_at ws).known = omega arith in
      let r : row_at ws n < 256 = row_below ws st g.shape n k in
      let b = back_at ws st g.shape n k in
      let w : (stream_at_words ws (row_at ws n)).buffered_amount + back_at_words ws st n ≤ 2000000 = omega (arith, within n k, amount_at ws st g.shape n k) in
      let u : (totals_at ws).total + sum_to (back_at_words ws st) n + back_at_words ws st n ≤ 2000000 = omega (arith, total_fits, sum_upto (back_at_words ws st) (suc n) (totals_at ws).known (omega arith)) in
      let e : (totals_at ws).total + sum_to (back_at_words ws st) n + back_at_words ws st n ≡ (totals_at ws).total + (back_at_words ws st n + sum_to (back_at_words ws st) n) = omega arith in
      rw (le-ltb 255 (row_at ws n) (omega arith), sums n (omega arith), b, le-ltb (18446744073709551615 - (stream_at_words ws (row_at ws n)).buffered_amount) (back_at_words ws st n) (omega arith), le-ltb (18446744073709551615 - ((totals_at ws).total + sum_to (back_at_words ws st) n)) (back_at_words ws st n) (omega arith), e)

  pub sums_are : sum_all ws (totals_at ws).total (totals_at ws).known ≡ record { fits = true; total = (totals_at ws).total + all_put_back (streams_in ws st) }
  sums_are = sums (totals_at ws).known (omega arith) ∙ rw all_back
