-- Request 4/13: after any calls from a new queue each chain holds exactly its stream's waiting messages, in order of arrival. Assumes nothing.
use mathlib.Core.Path.{◌≡◌, refl, sym, ap, subst, ◌∙◌}
use mathlib.Core.List.{List, []}
use Prim.Native.Nat.{ℕ, ◌+◌, ◌≤◌, ◌<◌}
use native.Mathlib.Omega.{arith}
use lib.ListN.{length}
use Rattle.queue_words.specs.Header.{is_strict, totals_at}
use Rattle.queue_words.specs.Known.{id_at}
use Rattle.queue_words.specs.Find.{find_stream_words}
use Rattle.queue_words.specs.Streams.{stream_at_words}
use Rattle.queue_words.specs.declared.known.Found.{Found}
use Rattle.queue_words.specs.declared.known.Found.TheVariants.{At, Gap}
use Rattle.queue_model.specs.Types.{Item, Stream, Queue}
use Rattle.queue_model.specs.Streams.{stream_at}
use Rattle.queue_model.specs.Run as run
use Rattle.queue_model.specs.History.{Entry, history}
use Rattle.queue_model.specs.Arrivals.{Ledger, ledger, new_ledger, InOrder, AllRight, view, Request4Ledger, Request4Passed, Request4Order}
use Rattle.queue_model.proofs.Arrivals.Ledger.{request4_ledger, request4_passed}
use Rattle.queue_model.proofs.Arrivals.Order.{request4_order}
use Rattle.queue_state.specs.Chains as chains
use Rattle.queue_state.specs.Chains.{chain, Linked, each}
use Rattle.queue_state.specs.Model.{next_of, item_in_words, row_at, model}
use Rattle.queue_state.specs.Good.{Row, Shape}
use Rattle.queue_state.proofs.Chains.{linked_chain}
use Rattle.queue_state.proofs.Splits.{row_once, rows_apart}
use Rattle.queue_state.proofs.Frames.{short, stream_is}
use Rattle.queue_state.proofs.Looks.{Lookup, known_at_lem, new_at, lookup, stream_found, stream_new}
use Rattle.queue_runs.specs.Calls.{Call, Shown}
use Rattle.queue_runs.specs.Run.{State, after}
use Rattle.queue_runs.specs.Run as runs
use Rattle.queue_runs.specs.Meaning.{queue_of, GoodState, AllTyped, calls_of, all_shown_of}
use Rattle.queue_runs.specs.Creation.{Arguments, options_with, new_state, Creates}
use Rattle.queue_runs.specs.History.{history_of}
use Rattle.queue_runs.specs.Chains.{no_place, first_at, last_at, first_of, places_of, chain_messages, Chain, Apart, new_queue_words, history_after, waiting_after, arrived_after, Request4Chains}
use Rattle.queue_runs.proofs.Runs.{run_link}
use Rattle.queue_runs.proofs.News.{new_link}
use Rattle.queue_runs.proofs.History.{history_same}

-- ------------------------------------------------------------------ where a chain is

-- That of a known stream, or none.
data Where (ws st : List ℕ) (g : Shape ws st) (id : ℕ) : Type 0 where
  in_row : (i : ℕ) → i < (totals_at ws).known → id_at ws i ≡ id → find_stream_words ws id ≡ At i (row_at ws i) → (stream_at (model ws st) id).items ≡ each (item_in_words ws st) (g.q i) → Where ws st g id
  nowhere : (p : ℕ) → find_stream_words ws id ≡ Gap p → (stream_at (model ws st) id).items ≡ [] → Where ws st g id

find_where : (ws st : List ℕ) (g : Shape ws st) (id : ℕ) → Where ws st g id
find_where ws st g id = go (lookup ws st g id)
  where
    go : Lookup ws st id → Where ws st g id
    go (known_at_lem i h e f m) = in_row i h e f (ap (λ (s : Stream). s.items) (stream_found ws st id _ m) ∙ ap (λ (s : Stream). s.items) (stream_is ws st g i h))
    go (new_at p h lo hi f m) = nowhere p f (ap (λ (s : Stream). s.items) (stream_new ws st id m))

-- A known stream's places are those of its row.
row_places : (ws st : List ℕ) (g : Shape ws st) (id i : ℕ) → i < (totals_at ws).known → find_stream_words ws id ≡ At i (row_at ws i) → places_of ws id ≡ g.q i
unfolding places_of
row_places ws st g id i h f =
    let n = short ws st g i h in
    ap (λ (x : Found). chain (next_of ws) (first_at ws x) 1025) f ∙ linked_chain (next_of ws) (stream_at_words ws (row_at ws i)).first (g.q i) 1025 (g.rows i h).linked (omega arith)

no_places : (ws : List ℕ) (id p : ℕ) → find_stream_words ws id ≡ Gap p → places_of ws id ≡ []
unfolding places_of
no_places ws id p f = ap (λ (x : Found). chain (next_of ws) (first_at ws x) 1025) f ∙ linked_chain (next_of ws) no_place [] 1025 refl (omega arith)

-- ------------------------------------------------------------------ what a chain holds

chain_of : (s : State) (id : ℕ) → GoodState s → Chain s id (view id (queue_of s)).messages
chain_of s id g = go (find_where ws st g.shape id)
  where
    ws : List ℕ
    ws = s.words

    st : List ℕ
    st = s.store

    go : Where ws st g.shape id → Chain s id (view id (queue_of s)).messages
    go (in_row i h e f m) =
        let p : places_of ws id ≡ g.shape.q i = row_places ws st g.shape id i h f in
        let r : Row ws (stream_at_words ws (row_at ws i)) (g.shape.q i) = g.shape.rows i h in
        record {
          linked = subst (λ (ps : List ℕ). Linked (next_of ws) (first_of ws id) ps) (sym p) (subst (λ (x : Found). Linked (next_of ws) (first_at ws x) (g.shape.q i)) (sym f) r.linked);
          last_is = ap (last_at ws) f ∙ r.last_is ∙ ap (chains.last_of no_place) (sym p);
          holds = ap (each (item_in_words ws st)) p ∙ sym m;
        }
    go (nowhere p f m) =
        let n : places_of ws id ≡ [] = no_places ws id p f in
        record {
          linked = subst (λ (ps : List ℕ). Linked (next_of ws) (first_of ws id) ps) (sym n) (ap (first_at ws) f);
          last_is = ap (last_at ws) f ∙ ap (chains.last_of no_place) (sym n);
          holds = ap (each (item_in_words ws st)) n ∙ sym m;
        }

-- ------------------------------------------------------------------ no place in two chains

apart_of : (s : State) → GoodState s → Apart s
apart_of s g = record { once = λ id x. go_one id x (find_where ws st g.shape id); apart = λ j k x n. go_two j k x n (find_where ws st g.shape j) (find_where ws st g.shape k) }
  where
    ws : List ℕ
    ws = s.words

    st : List ℕ
    st = s.store

    go_one : (id x : ℕ) → Where ws st g.shape id → chains.count x (places_of ws id) ≤ 1
    go_one id x (in_row i h e f m) =
        let p : chains.count x (places_of ws id) ≡ chains.count x (g.shape.q i) = ap (chains.count x) (row_places ws st g.shape id i h f) in
        let k = g.shape.known_fits in let u = row_once g.shape.q g.shape.fr g.shape.split x i (omega arith) in omega arith
    go_one id x (nowhere q f m) = let p : chains.count x (places_of ws id) ≡ 0 = ap (chains.count x) (no_places ws id q f) in omega arith

    go_two : (j k x : ℕ) → (j ≡ k → ⊥) → Where ws st g.shape j → Where ws st g.shape k → chains.count x (places_of ws j) + chains.count x (places_of ws k) ≤ 1
    go_two j k x n (in_row i h e f m) (in_row i' h' e' f' m') =
        let p : chains.count x (places_of ws j) ≡ chains.count x (g.shape.q i) = ap (chains.count x) (row_places ws st g.shape j i h f) in
        let p' : chains.count x (places_of ws k) ≡ chains.count x (g.shape.q i') = ap (chains.count x) (row_places ws st g.shape k i' h' f') in
        let fits = g.shape.known_fits in
        let u = rows_apart g.shape.q g.shape.fr g.shape.split x i i' (omega arith) (omega arith) (λ z. n (sym e ∙ ap (id_at ws) z ∙ e')) in omega arith
    go_two j k x n (in_row i h e f m) (nowhere q f' m') =
        let p : chains.count x (places_of ws k) ≡ 0 = ap (chains.count x) (no_places ws k q f') in let u = go_one j x (in_row i h e f m) in omega arith
    go_two j k x n (nowhere q f m) w =
        let p : chains.count x (places_of ws j) ≡ 0 = ap (chains.count x) (no_places ws j q f) in let u = go_one k x w in omega arith

-- ------------------------------------------------------------------ the theorem

-- Each call shows what the model's shows, so the history is the model's.
module _ (a : Arguments) (s : State) (cs : List Call) (h : Creates a s) (t : AllTyped cs) where
  abbrev len : ℕ
  len = length s.store

  abbrev meant : List run.Call
  meant = calls_of len cs

  abbrev left : State
  left = after cs (new_state a s)

  shows : runs.run cs (new_state a s) ≡ all_shown_of cs (run.run meant (new_queue_words a s))
  shows = let n = new_link a s h in (run_link cs (new_state a s) n.good t).shows_are ∙ ap (λ (q : Queue). all_shown_of cs (run.run meant q)) n.queue_is

  left_good : GoodState left
  left_good = (run_link cs (new_state a s) (new_link a s h).good t).good

  left_is : queue_of left ≡ run.after meant (new_queue_words a s)
  left_is = let n = new_link a s h in (run_link cs (new_state a s) n.good t).next_is ∙ ap (run.after meant) n.queue_is

  past : history_after a s cs ≡ history meant (new_queue_words a s)
  past = ap (λ (os : List Shown). history_of len cs os (new_queue_words a s)) shows ∙ history_same len cs (new_queue_words a s)

  waiting_is : (id : ℕ) → (view id (queue_of left)).messages ≡ waiting_after a s cs id
  unfolding Request4Ledger
  waiting_is id =
      ap (λ (q : Queue). (view id q).messages) left_is ∙ ap (λ (l : Ledger). l.messages) (request4_ledger (options_with a len) meant id)
      ∙ ap (λ (es : List Entry). (ledger (is_strict a.rule) id es new_ledger).messages) (sym past)

  chains_are : (id : ℕ) → Chain left id (waiting_after a s cs id)
  chains_are id = subst (Chain left id) (waiting_is id) (chain_of left id left_good)

  ordered : (id : ℕ) → InOrder (chain_messages left id) (arrived_after a s cs id)
  unfolding Request4Order
  ordered id = subst (λ (is : List Item). InOrder is (arrived_after a s cs id)) (sym (chains_are id).holds) (request4_order (is_strict a.rule) id (history_after a s cs))

  passed : (id : ℕ) → AllRight (is_strict a.rule) id (history_after a s cs) new_ledger
  unfolding Request4Passed
  passed id = subst (λ (es : List Entry). AllRight (is_strict a.rule) id es new_ledger) (sym past) (request4_passed (options_with a len) meant id)

pub request4_chains : Request4Chains
unfolding Request4Chains
request4_chains a s cs h t = record {
  chains_hold = chains_are a s cs h t;
  in_order = ordered a s cs h t;
  unshared = apart_of (after cs (new_state a s)) (left_good a s cs h t);
  had_expired = passed a s cs h t;
  as_before = shows a s cs h t;
}
