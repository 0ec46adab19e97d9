-- The ready ids that are collected are the model's. Assumes nothing.
use mathlib.Core.Path.{◌≡◌, refl, sym, ap, ◌∙◌}
use mathlib.Core.Bool.{Bool, true, false}
use mathlib.Core.List.{List, [], ◌∷◌, ◌++◌, append_assoc}
use Prim.Native.Nat.{ℕ, zero, suc, ◌-◌, ◌≤◌, ◌<◌}
use native.Mathlib.Omega.{arith}
use borrow.Author.Tests.{le-ltb}
use lib.ListN.{length, replicate, set}
use Rattle.queue_words.specs.Flags.{pick}
use Rattle.queue_words.specs.Header.{totals_at}
use Rattle.queue_words.specs.Known.{id_at}
use Rattle.queue_words.specs.Streams.{is_paused_words, stream_at_words}
use Rattle.std.specs.Prelude.{if◌then◌else◌}
use Rattle.queue_model.specs.Types.{Stream}
use Rattle.queue_model.specs.Reset.{is_paused, paused_ids}
use Rattle.queue_streams.specs.Call.{Accepted}
use Rattle.queue_restarts.specs.Ready.{paused_at, one_more, collected}
use Rattle.queue_restarts.specs.ReadyStreams.{ReadyStreams}
use Rattle.queue_state.specs.Chains.{each}
use Rattle.queue_state.specs.Model.{item_in_words, row_at, stream_in, streams_in, tab}
use Rattle.queue_state.specs.Good.{Shape}
use Rattle.queue_state.proofs.Chains.{length_snoc}
use Rattle.queue_state.proofs.Frames.{stream_is, row_below, stream_key_in}
use Rattle.linked_restarts.specs.Ids.{ids_of}
use Rattle.linked_restarts.proofs.Turns.{paused_is}

-- ---- the model's ids, from the front and from the end

-- One stream more, at the end.
abbrev more_ids : Stream → List ℕ → List ℕ
more_ids s l = if is_paused s then l ++ (s.id ∷ []) else l

unfoldable ids_to : (ℕ → Stream) → ℕ → List ℕ
ids_to f zero = []
ids_to f (suc n) = more_ids (f n) (ids_to f n)

more_append : (s : Stream) (l r : List ℕ) → more_ids s (l ++ r) ≡ l ++ more_ids s r
more_append s l r = go (is_paused s)
  where
    go : (b : Bool) → (if b then l ++ r ++ (s.id ∷ []) else l ++ r) ≡ l ++ (if b then r ++ (s.id ∷ []) else r)
    go true = append_assoc l r (s.id ∷ [])
    go false = refl

ids_front : (f : ℕ → Stream) (n : ℕ) → ids_to f (suc n) ≡ more_ids (f 0) [] ++ ids_to (λ j. f (suc j)) n
unfolding ids_to
ids_front f zero = go (is_paused (f 0))
  where
    go : (b : Bool) → (if b then (f 0).id ∷ [] else []) ≡ (if b then (f 0).id ∷ [] else []) ++ []
    go true = refl
    go false = refl
ids_front f (suc n) = ap (more_ids (f (suc n))) (ids_front f n) ∙ more_append (f (suc n)) (more_ids (f 0) []) (ids_to (λ j. f (suc j)) n)

paused_tab : (f : ℕ → Stream) (n : ℕ) → paused_ids (tab f n) ≡ ids_to f n
unfolding tab paused_ids ids_to
paused_tab f zero = refl
paused_tab f (suc n) = go (is_paused (f 0)) (paused_tab (λ j. f (suc j)) n) ∙ sym (ids_front f n)
  where
    go : (b : Bool) → paused_ids (tab (λ j. f (suc j)) n) ≡ ids_to (λ j. f (suc j)) n
        → (if b then (f 0).id ∷ paused_ids (tab (λ j. f (suc j)) n) else paused_ids (tab (λ j. f (suc j)) n)) ≡ (if b then (f 0).id ∷ [] else []) ++ ids_to (λ j. f (suc j)) n
    go true ih = ap (λ l. (f 0).id ∷ l) ih
    go false ih = ih

ids_few : (f : ℕ → Stream) (n : ℕ) → length (ids_to f n) ≤ n
unfolding ids_to
ids_few f zero = omega arith
ids_few f (suc n) = go (is_paused (f n)) (ids_few f n)
  where
    go : (b : Bool) → length (ids_to f n) ≤ n → length (if b then ids_to f n ++ ((f n).id ∷ []) else ids_to f n) ≤ suc n
    go true h = omega (arith, length_snoc (f n).id (ids_to f n))
    go false h = omega arith

-- ---- the collected ones, with zeroes behind them

abbrev padded : ℕ → List ℕ → List ℕ
padded m l = l ++ replicate (m - length l) 0

set_behind : (l r : List ℕ) (x v : ℕ) → set (l ++ (x ∷ r)) (length l) v ≡ l ++ (v ∷ r)
set_behind [] r x v = refl
set_behind (y ∷ ys) r x v = ap (λ t. y ∷ t) (set_behind ys r x v)

set_padded : (m : ℕ) (l : List ℕ) (v : ℕ) → length l < m → set (padded m l) (length l) v ≡ padded m (l ++ (v ∷ []))
set_padded m l v h =
    let n : m - length l ≡ suc (m - suc (length l)) = omega arith in
    let k : m - suc (length l) ≡ m - length (l ++ (v ∷ [])) = omega (arith, length_snoc v l) in
    ap (λ j. set (l ++ replicate j 0) (length l) v) n
    ∙ set_behind l (replicate (m - suc (length l)) 0) 0 v
    ∙ sym (append_assoc l (v ∷ []) (replicate (m - suc (length l)) 0))
    ∙ ap (λ j. l ++ (v ∷ []) ++ replicate j 0) k

-- The first n ids, in m places.
abbrev gathered : ℕ → List ℕ → ReadyStreams
gathered m l = record { answer = Accepted 0; count = length l; ids = padded m l }

one_gathered : (m : ℕ) (l : List ℕ) (v : ℕ) → length l < m → one_more (gathered m l) v ≡ gathered m (l ++ (v ∷ []))
one_gathered m l v h = rw (set_padded m l v h, length_snoc v l)

gather_more : (m : ℕ) (s : Stream) (l : List ℕ) → length l < m → pick (is_paused s) (one_more (gathered m l) s.id) (gathered m l) ≡ gathered m (more_ids s l)
gather_more m s l h = go (is_paused s)
  where
    go : (b : Bool) → pick b (one_more (gathered m l) s.id) (gathered m l) ≡ gathered m (if b then l ++ (s.id ∷ []) else l)
    go true = one_gathered m l s.id h
    go false = refl

module _ (ws st : List ℕ) (g : Shape ws st) where
  pub is_paused_at : (i : ℕ) → i < (totals_at ws).known → paused_at ws (row_at ws i) ≡ is_paused (stream_in ws st i)
  unfolding paused_at
  is_paused_at i h =
      let r : row_at ws i < 256 = row_below ws st g i h in
      let e : is_paused (stream_in ws st i) ≡ is_paused_words (stream_at_words ws (row_at ws i)).pause_state = ap is_paused (stream_is ws st g i h) ∙ paused_is (id_at ws i) (stream_at_words ws (row_at ws i)) (each (item_in_words ws st) (g.q i)) in
      rw (le-ltb 255 (row_at ws i) (omega arith)) (sym e)

  collected_to : (n : ℕ) → n ≤ (totals_at ws).known → collected ws n ≡ gathered 256 (ids_to (stream_in ws st) n)
  unfolding collected ids_to
  collected_to zero h = refl
  collected_to (suc n) h =
      let f : length (ids_to (stream_in ws st) n) < 256 = omega (arith, ids_few (stream_in ws st) n, g.known_fits) in
      let d : id_at ws n ≡ (stream_in ws st n).id = sym (stream_key_in ws st n) in
      rw (is_paused_at n (omega arith), collected_to n (omega arith), d) (gather_more 256 (stream_in ws st n) (ids_to (stream_in ws st) n) f)

  pub collected_is : collected ws (totals_at ws).known ≡ ids_of (Accepted 0) (paused_ids (streams_in ws st))
  unfolding streams_in
  collected_is = collected_to (totals_at ws).known (omega arith) ∙ ap (gathered 256) (sym (paused_tab (stream_in ws st) (totals_at ws).known))
