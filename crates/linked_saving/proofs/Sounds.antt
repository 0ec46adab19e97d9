-- The first pass finds the words of a queue sound. Assumes nothing.
use mathlib.Core.Path.{◌≡◌, refl, sym, ap, ◌∙◌, subst}
use mathlib.Core.Bool.{true}
use mathlib.Core.List.{List, [], ◌∷◌}
use Prim.Native.Nat.{ℕ, zero, suc, ◌+◌, ◌≤◌, ◌<◌}
use native.Mathlib.Nat.{add-zero, zero-add}
use native.Mathlib.Omega.{arith}
use borrow.Author.Tests.{lt-ltb, le-ltb, eq-eqb}
use lib.ListN.{length}
use Rattle.queue_words.specs.Header.{options_at, totals_at}
use Rattle.queue_words.specs.Items.{item_at}
use Rattle.queue_words.specs.Streams.{stream_at_words}
use Rattle.queue_words.specs.declared.items.Item.{Item}
use Rattle.queue_model.specs.Types.{Stream}
use Rattle.queue_model.proofs.Invariant.Messages.{WellItem, WellRest, WellItems}
use Rattle.queue_model.proofs.Invariant.Well
use Rattle.payload_store.specs.Words.{size_of}
use Rattle.queue_state.specs.Chains.{Linked, count, each, sum_to, total}
use Rattle.queue_state.specs.Model.{next_of, row_at, item_in_words, stream_in, streams_in, model}
use Rattle.queue_state.specs.Good.{Good}
use Rattle.queue_state.proofs.Chains.{count_head}
use Rattle.queue_state.proofs.Splits.{sum_front, sum_agree, total_upto}
use Rattle.queue_state.proofs.Tabs.{tab_each}
use Rattle.queue_state.proofs.Frames.{row_fits, row_below, short, stream_is}
use Rattle.queue_state.proofs.Sums.{item_length}
use Rattle.saving.specs.declared.measuring.Tally.{Tally}
use Rattle.saving.specs.Measure.{tally, tally_start, tally_item, tally_chain, ended, is_plain, tally_stream, tally_from, tally_queue}
use Rattle.saving.specs.Sound.{ItemOk, AllOk}
use Rattle.saving.proofs.Passing.{ok_sound, advanced, pick_by}

-- ------------------------------------------------------------------ a chain

item_pass : (t : Tally) (m : Item) (len : ℕ) → ItemOk m len → t.messages < 1024 → tally_item t m len ≡ advanced t m
unfolding tally_item
item_pass t m len k h = rw (ok_sound m len k, lt-ltb t.messages 1024 h)

-- what the pass keeps along a sound chain
pub record Kept (t : Tally) (n : ℕ) (u : Tally) : Type 0 where
  pub ok_is : u.ok ≡ t.ok
  pub place_is : u.place ≡ 1024
  pub count_is : u.messages ≡ t.messages + n

chain_step : (ws : List ℕ) (len : ℕ) (t : Tally) (f : ℕ) → t.place < 1024 → tally_chain ws len t (suc f) ≡ tally_chain ws len (tally_item t (item_at ws t.place) len) f
unfolding tally_chain
chain_step ws len t f h = rw (le-ltb 1023 t.place (omega arith))

chain_none : (ws : List ℕ) (len : ℕ) (t : Tally) (f : ℕ) → t.place ≡ 1024 → tally_chain ws len t f ≡ t
unfolding tally_chain
chain_none ws len t zero h = refl
chain_none ws len t (suc f) h = rw (lt-ltb 1023 t.place (omega (arith, h)))

pub chain_pass : (ws : List ℕ) (len : ℕ) (t : Tally) (f : ℕ) (ps : List ℕ) → Linked (next_of ws) t.place ps → length ps ≤ f → AllOk ws len ps → t.messages + length ps ≤ 1024
    → Kept t (length ps) (tally_chain ws len t f)
chain_pass ws len t f [] l h o r = rw (chain_none ws len t f l) (record { ok_is = refl; place_is = l; count_is = omega arith })
chain_pass ws len t zero (x ∷ xs) l h o r = absurd (omega (arith, h))
chain_pass ws len t (suc f) (x ∷ xs) l h o r =
    let ex : t.place ≡ x = l.0 in
    let hx : x < 1024 = l.1 in
    let o' : ItemOk (item_at ws t.place) len = subst (λ (y : ℕ). ItemOk (item_at ws y) len) (sym ex) o.0 in
    let l' : Linked (next_of ws) (next_of ws t.place) xs = subst (λ (y : ℕ). Linked (next_of ws) (next_of ws y) xs) (sym ex) l.2 in
    let e : tally_chain ws len t (suc f) ≡ tally_chain ws len (advanced t (item_at ws t.place)) f =
    chain_step ws len t f (omega (arith, ex, hx)) ∙ ap (λ (u : Tally). tally_chain ws len u f) (item_pass t (item_at ws t.place) len o' (omega (arith, r))) in
    rw e (more t xs (item_at ws t.place) (tally_chain ws len (advanced t (item_at ws t.place)) f) (chain_pass ws len (advanced t (item_at ws t.place)) f xs l' (omega (arith, h)) o.1 (omega (arith, r))))
  where
    more : (t : Tally) (xs : List ℕ) (m : Item) (u : Tally) → Kept (advanced t m) (length xs) u → Kept t (suc (length xs)) u
    more t xs m u k = record { ok_is = k.ok_is; place_is = k.place_is; count_is = omega (arith, k.count_is) }

-- ------------------------------------------------------------------ a stream

ended_pass : (u : Tally) → u.place ≡ 1024 → ended u ≡ u
ended_pass u e = rw (eq-eqb u.place 1024 e)

-- a stream's row, places and messages as the pass wants them
pub record Fine (ws : List ℕ) (len i : ℕ) (ps : List ℕ) : Type 0 where
  pub row_in : row_at ws i < 256
  pub linked : Linked (next_of ws) (stream_at_words ws (row_at ws i)).first ps
  pub few : length ps ≤ 1024
  pub items : AllOk ws len ps

pub stream_pass : (ws : List ℕ) (len i : ℕ) (t : Tally) (ps : List ℕ) → Fine ws len i ps → t.messages + length ps ≤ 1024 → Kept t (length ps) (tally_stream ws len i t)
unfolding tally_stream
stream_pass ws len i t ps k r =
    rw (le-ltb 255 (row_at ws i) (omega (arith, k.row_in)))
    (pick_by (λ (u : Tally). Kept t (length ps) u) (is_plain (stream_at_words ws (row_at ws i)) (options_at ws).default_priority)
    (ended (tally_chain ws len (tally t.ok (stream_at_words ws (row_at ws i)).first t.streams t.messages t.bytes) 1025))
    (ended (tally_chain ws len (tally t.ok (stream_at_words ws (row_at ws i)).first (t.streams + 1) t.messages t.bytes) 1025))
    (λ e. by_count t.streams)
    (λ e. by_count (t.streams + 1)))
  where
    by_count : (n : ℕ) → Kept t (length ps) (ended (tally_chain ws len (tally t.ok (stream_at_words ws (row_at ws i)).first n t.messages t.bytes) 1025))
    by_count n =
        let v : Tally = tally t.ok (stream_at_words ws (row_at ws i)).first n t.messages t.bytes in
        let c : Kept v (length ps) (tally_chain ws len v 1025) = chain_pass ws len v 1025 ps k.linked (omega (arith, k.few)) k.items r in
        subst (λ (u : Tally). Kept t (length ps) u) (sym (ended_pass (tally_chain ws len v 1025) c.place_is)) (record { ok_is = c.ok_is; place_is = c.place_is; count_is = c.count_is })

-- ------------------------------------------------------------------ all streams

pub sum_from : (g : ℕ → ℕ) (i n : ℕ) → sum_to (λ j. g (i + j)) (suc n) ≡ g i + sum_to (λ j. g (i + 1 + j)) n
sum_from g i n =
    sum_front (λ j. g (i + j)) n
    ∙ rw (add-zero i, sum_agree (λ j. g (i + 1 + j)) (λ j. g (i + suc j)) n (λ j l. ap g (omega arith)))

pub from_pass : (ws : List ℕ) (len : ℕ) (q : ℕ → List ℕ) (t : Tally) (i n : ℕ) → ((j : ℕ) → i ≤ j → j < i + n → Fine ws len j (q j)) → t.messages + sum_to (λ j. length (q (i + j))) n ≤ 1024
    → (tally_from ws len t i n).ok ≡ t.ok
unfolding tally_from
from_pass ws len q t i zero k r = refl
from_pass ws len q t i (suc n) k r =
    let s : sum_to (λ j. length (q (i + j))) (suc n) ≡ length (q i) + sum_to (λ j. length (q (i + 1 + j))) n = sum_from (λ j. length (q j)) i n in
    let c : Kept t (length (q i)) (tally_stream ws len i t) = stream_pass ws len i t (q i) (k i (omega arith) (omega arith)) (omega (arith, r, s)) in
    from_pass ws len q (tally_stream ws len i t) (i + 1) n (λ j a b. k j (omega (arith, a)) (omega (arith, b))) (omega (arith, r, s, c.count_is)) ∙ c.ok_is

-- ------------------------------------------------------------------ the words of a queue

module _ (ws st : List ℕ) (g : Good ws st) where
  well_ok : (x : ℕ) → x < 1024 → WellItem (item_in_words ws st x) → ItemOk (item_at ws x) (length st)
  unfolding item_in_words
  well_ok x h w =
      let l : length (item_in_words ws st x).payload ≡ size_of ws x = item_length ws st g.shape x h in
      record { small = rw (← l) w.small; inside = g.shape.lay.inside x h; unsent = rw (← l) w.unsent }

  rest_ok : (ps : List ℕ) → ((x : ℕ) → 1 ≤ count x ps → x < 1024) → WellRest (each (item_in_words ws st) ps) → AllOk ws (length st) ps
  rest_ok [] f w = tt
  rest_ok (x ∷ xs) f w = (well_ok x (f x (count_head x xs)) w.0, rest_ok xs (λ y h. f y (omega (arith, h))) w.1.1)

  all_ok : (ps : List ℕ) → ((x : ℕ) → 1 ≤ count x ps → x < 1024) → WellItems (each (item_in_words ws st) ps) → AllOk ws (length st) ps
  all_ok [] f w = tt
  all_ok (x ∷ xs) f w = (well_ok x (f x (count_head x xs)) w.0, rest_ok xs (λ y h. f y (omega (arith, h))) w.1)

  items_well : (i : ℕ) → i < (totals_at ws).known → WellItems (each (item_in_words ws st) (g.shape.q i))
  unfolding model streams_in
  items_well i h = subst (λ (s : Stream). WellItems s.items) (stream_is ws st g.shape i h) (tab_each Well.Kept (stream_in ws st) (totals_at ws).known i g.well.kept h).well_items

  pub fine : (i : ℕ) → i < (totals_at ws).known → Fine ws (length st) i (g.shape.q i)
  fine i h = record {
    row_in = row_below ws st g.shape i h;
    linked = (g.shape.rows i h).linked;
    few = short ws st g.shape i h;
    items = all_ok (g.shape.q i) (λ x l. row_fits g.shape.q g.shape.fr x i g.shape.split (omega (arith, h, g.shape.known_fits)) l) (items_well i h);
  }

  pub queue_pass : (tally_queue ws (length st)).ok ≡ true
  unfolding tally_queue
  queue_pass =
      let s : total length g.shape.q ≡ sum_to (λ j. length (g.shape.q j)) (totals_at ws).known =
      total_upto length g.shape.q (totals_at ws).known g.shape.known_fits (λ j h. ap length (g.shape.rest j h)) in
      rw (le-ltb 256 (totals_at ws).known g.shape.known_fits)
      (from_pass ws (length st) g.shape.q tally_start 0 (totals_at ws).known (λ j a b. fine j (omega (arith, b))) (few s))
    where
      few : total length g.shape.q ≡ sum_to (λ j. length (g.shape.q j)) (totals_at ws).known → 0 + sum_to (λ j. length (g.shape.q (0 + j))) (totals_at ws).known ≤ 1024
      few s =
          let e : sum_to (λ j. length (g.shape.q (0 + j))) (totals_at ws).known ≡ sum_to (λ j. length (g.shape.q j)) (totals_at ws).known =
          sum_agree (λ j. length (g.shape.q j)) (λ j. length (g.shape.q (0 + j))) (totals_at ws).known (λ j l. ap (λ (k : ℕ). length (g.shape.q k)) (zero-add j)) in
          omega (arith, s, e, g.shape.split.all)
