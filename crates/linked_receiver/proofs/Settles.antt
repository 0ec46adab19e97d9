-- A message that is whole is marked and queued up: the words are good again, and stand for the receiver whose message waits or is ready. Assumes nothing.
use mathlib.Core.Path.{◌≡◌, refl, sym, ap, ap₂, ◌∙◌, subst}
use mathlib.Core.Bool.{Bool, true, false, not}
use mathlib.Core.List.{List, [], ◌∷◌, ◌++◌, map}
use Prim.Native.Nat.{ℕ, ◌+◌, ◌%◌, ◌^◌, ◌≤◌, ◌<◌}
use native.Mathlib.Omega.{arith}
use borrow.Author.Tests.{eq-eqb, ne_eqb}
use lib.Dec.{eqb}
use lib.ListN.{length}
use Rattle.queue_words.specs.Flags.{bit, flag, pick}
use Rattle.queue_model.specs.Table.{sum_by}
use Rattle.receiver_model.specs.Lists.{count, join}
use Rattle.receiver_model.specs.Types.{Chunk, Assembled, Receiver}
use Rattle.receiver_model.specs.Assembly.{width, without_message}
use Rattle.receiver_model.specs.Receive.{Queued}
use Rattle.receiver_model.specs.Receive as model
use Rattle.receiver_model.proofs.Lists.{count_nil, count_here, count_there, count_cons, count_append, equal, other, compare_same}
use Rattle.receiver_words.specs.Tables.{Header, Ahead, Links, word_at}
use Rattle.receiver_words.specs.Turns.{turn_at}
use Rattle.receiver_words.specs.Ahead.{ahead_at}
use Rattle.receiver_words.specs.Fragments.{fragment_at}
use Rattle.receiver_words.specs.Index.{same_key_words}
use Rattle.receiver_words.specs.Link.{Flags, turn_rows}
use Rattle.receiver_words.specs.Chunks.{kind_of, chunk_of}
use Rattle.receiver_words.specs.declared.fragments.Fragment.{Fragment}
use Rattle.receiver_words.specs.declared.turns.Turn as words
use Rattle.receiver_words.proofs.Rows.{stands_here, not_among}
use Rattle.receiver_messages.specs.Keys.{interleaved_of, number_key}
use Rattle.receiver_messages.specs.Walks.{is_whole, reaches_last, mark_whole}
use Rattle.receiver_messages.specs.Readiness.{Turned, queue_up}
use Rattle.receiver_store.specs.Words.{payload_of}
use Rattle.receiver_store.proofs.Laws.{laid_same}
use Rattle.receiver_store.proofs.Packs.{payload_words}
use Rattle.linked_receiver.specs.Rows.{Indexed, Unique, loose_rows, tail_rows}
use Rattle.linked_receiver.specs.Kept.{Kept}
use Rattle.linked_receiver.specs.Good.{Ghost, rows_of, whole_rows, Walk, Carried, GoodReceiver, chunk_in, message_in, stands}
use Rattle.linked_receiver.proofs.Lists.{keep_same, count_kept, few}
use Rattle.linked_receiver.proofs.Walks.{loose_held}
use Rattle.linked_receiver.proofs.Keeps.{kept_fragment, kept_turn}
use Rattle.linked_receiver.proofs.Indexes.{indexed_kept}
use Rattle.linked_receiver.proofs.Promotes.{turn_key, lined_frame, Queues, Before, queues_up}
use Rattle.linked_receiver.proofs.HeldRows.{sum_any_order}
use Rattle.linked_receiver.proofs.Paths.{tail_loose, tail_once}
use Rattle.linked_receiver.proofs.Marks.{walk_kept, Marked, mark_law, reach_walk, loose_marked}
use Rattle.linked_receiver.proofs.Frees.{Holds, held_rows, held_once, held_few, aged_same, free_same}
use Rattle.linked_receiver.proofs.HandsOut.{parts_indexed}
use Rattle.linked_receiver.proofs.Taken.{rows_count, rows_one, map_same, turn_rows_same, good_holds}

-- ------------------------------------------------------------------ the rows of messages

rows_none : (tail : ℕ → List ℕ) (x : ℕ) → count x (rows_of tail []) ≡ 0
unfolding join
rows_none tail x = count_nil x

-- as a sum, so in any order
rows_sum : (tail : ℕ → List ℕ) (x : ℕ) (hs : List ℕ) → count x (rows_of tail hs) ≡ sum_by (λ (h : ℕ). count x (h ∷ tail h)) hs
rows_sum tail x [] = rows_none tail x
rows_sum tail x (h ∷ hs) = rows_count tail h hs x ∙ ap (λ (n : ℕ). count x (h ∷ tail h) + n) (rows_sum tail x hs)

rows_order : (tail : ℕ → List ℕ) (hs ks : List ℕ) → ((x : ℕ) → count x hs ≤ 1) → ((x : ℕ) → count x hs ≡ count x ks) → (x : ℕ) → count x (rows_of tail hs) ≡ count x (rows_of tail ks)
rows_order tail hs ks once same x = rows_sum tail x hs ∙ sum_any_order (λ (h : ℕ). count x (h ∷ tail h)) hs ks once same ∙ sym (rows_sum tail x ks)

rows_tail : (tail tail' : ℕ → List ℕ) (hs : List ℕ) → ((h : ℕ) → 0 < count h hs → tail' h ≡ tail h) → (x : ℕ) → count x (rows_of tail' hs) ≡ count x (rows_of tail hs)
rows_tail tail tail' [] e x = rows_none tail' x ∙ sym (rows_none tail x)
rows_tail tail tail' (h ∷ hs) e x =
    rows_count tail' h hs x
    ∙ ap₂ (λ (ts : List ℕ) (n : ℕ). count x (h ∷ ts) + n) (e h (stands_here h hs)) (rows_tail tail tail' hs (λ k c. e k (let m = count_cons k h hs in omega arith)) x)
    ∙ sym (rows_count tail h hs x)

-- first rows are among the rows
heads_in : (tail : ℕ → List ℕ) (hs : List ℕ) (x : ℕ) → count x hs ≤ count x (rows_of tail hs)
heads_in tail [] x = let z = count_nil x in omega arith
heads_in tail (h ∷ hs) x =
    let a = rows_count tail h hs x in
    let ih = heads_in tail hs x in
    elim (compare_same h x) [
      | equal e ↦ (let c = count_here x h hs e in let k = count_here x h (tail h) e in omega arith)
      | other d ↦ (let c = count_there x h hs d in omega arith)
    ]

-- ------------------------------------------------------------------ one message more

-- the other rows of a message, with those of row h
pub tail_with : ℕ → List ℕ → (ℕ → List ℕ) → ℕ → List ℕ
tail_with h ts tail x = pick (eqb x h) ts (tail x)

with_it : (h : ℕ) (ts : List ℕ) (tail : ℕ → List ℕ) → tail_with h ts tail h ≡ ts
unfolding tail_with
with_it h ts tail = rw (eq-eqb h h refl)

with_other : (h : ℕ) (ts : List ℕ) (tail : ℕ → List ℕ) (x : ℕ) → (x ≡ h → ⊥) → tail_with h ts tail x ≡ tail x
unfolding tail_with
with_other h ts tail x ne = rw (ne_eqb x h ne)

-- the receiver with other loose fragments and messages
abbrev pub with_queues : List Chunk → Queued → Receiver → Receiver
with_queues cs q r = record { kind = r.kind; store_length = r.store_length; last_tsn = r.last_tsn; ahead = r.ahead; loose = cs; waiting = q.waiting; ready = q.ready; turns = r.turns }

module _ (g : Ghost) (ws st : List ℕ) (d : GoodReceiver g ws st) (h : ℕ) (is_loose : 0 < count h (loose_rows ws g.held)) (reach : reaches_last 4096 ws (interleaved_of ws) h ≡ true) (n : ℕ)
    (fits : n < 2 ^ width (kind_of (interleaved_of ws))) where
  abbrev b : Bool
  b = interleaved_of ws

  abbrev pub others_of : List ℕ
  others_of = tail_rows 4096 ws (interleaved_of ws) h

  abbrev ms : List ℕ
  ms = h ∷ others_of

  abbrev pub message : Assembled
  message = record { head = chunk_in ws st h; tail = map (chunk_in ws st) (tail_rows 4096 ws (interleaved_of ws) h) }

  o : Holds ws st (interleaved_of ws) g.held g.free
  o = good_holds g ws st d

  row : (x : ℕ) → 0 < count x g.held → x < 4096
  row = held_rows ws st b g.held g.free o

  once : (x : ℕ) → count x g.held ≤ 1
  once = held_once ws st b g.held g.free o

  parts : Indexed ws (bit b) g.held
  parts = parts_indexed ws st b g.held g.free o

  unique : Unique ws (bit b) g.held
  unique = by b refl
    where
      by : (v : Bool) → interleaved_of ws ≡ v → Unique ws (bit v) g.held
      by true e = d.place_once e
      by false e = d.tsn_once

  -- its rows are loose, each once
  its_loose : (x : ℕ) → 0 < count x ms → 0 < count x (loose_rows ws g.held)
  its_loose x c = elim (compare_same h x) [
    | equal e ↦ subst (λ (y : ℕ). 0 < count y (loose_rows ws g.held)) e is_loose
    | other ne ↦ tail_loose ws b (payload_of ws st) g.held row parts (held_few ws st b g.held g.free o) unique 4096 h x is_loose (let a = count_there x h others_of ne in omega arith)
  ]

  its_held : (x : ℕ) → 0 < count x ms → 0 < count x g.held
  its_held x c = (loose_held ws g.held x (its_loose x c)).0

  its_not_whole : (x : ℕ) → 0 < count x ms → is_whole ws x ≡ false
  its_not_whole x c = (loose_held ws g.held x (its_loose x c)).1

  its_once : (x : ℕ) → count x ms ≤ 1
  its_once x = tail_once ws b (payload_of ws st) g.held row parts (held_few ws st b g.held g.free o) unique 4096 h (omega arith) x

  its_row : (x : ℕ) → 0 < count x ms → x < 4096
  its_row x c = row x (its_held x c)

  its_walk : Walk ws b h others_of
  its_walk = reach_walk ws b 4096 h reach

  its_few : length others_of < 4096
  its_few = let l = few 4096 ms its_once its_row in omega arith

  -- none of them is in a whole message
  its_new : (x : ℕ) → 0 < count x ms → count x (whole_rows g) ≡ 0
  its_new x c = d.marked x (its_held x c) ∙ ap bit (its_not_whole x c)

  not_queued : count h (g.waiting ++ g.ready) ≡ 0
  not_queued = let a = heads_in g.tail (g.waiting ++ g.ready) h in let c = its_new h (stands_here h others_of) in omega arith

  queued_once : (x : ℕ) → count x (g.waiting ++ g.ready) ≤ 1
  queued_once x = let a = heads_in g.tail (g.waiting ++ g.ready) x in let c = d.whole_held x in let e = once x in omega arith

  -- ---------------------------------------------------------------- it is marked

  abbrev ws1 : List ℕ
  ws1 = mark_whole 4096 ws (interleaved_of ws) h

  m : Marked ws ws1 ms
  m = mark_law 4096 ws b h others_of d.laid.long its_row its_walk its_few

  k1 : Kept ws ws1 16 16 2 2 3
  k1 = m.kept

  fragment1 : (x : ℕ) → x < 4096 → fragment_at ws1 x ≡ fragment_at ws x
  fragment1 x hx = kept_fragment ws ws1 16 16 2 2 3 k1 x hx

  -- ---------------------------------------------------------------- it is queued up

  abbrev tail' : ℕ → List ℕ
  tail' = tail_with h others_of g.tail

  abbrev message_of : ℕ → Assembled
  message_of x = message_in tail' ws st x

  abbrev stream : ℕ
  stream = (fragment_at ws1 h).stream.0

  turning : (x : ℕ) → 0 < count x g.held → (k : ℕ) → k < 2 ^ width (kind_of b)
      → model.its_turn (kind_of b) stream k (message_of x) ≡ same_key_words 2 (fragment_at ws1 x) (number_key b stream k)
  turning x c k l =
      turn_key b (fragment_at ws x) (payload_of ws st x) (map (chunk_in ws st) (tail' x)) stream k (d.carried x c) l
      ∙ ap (λ (v : Fragment). same_key_words 2 v (number_key b stream k)) (sym (fragment1 x (row x c)))

  queued_held : (y x : ℕ) → 0 < count y (g.waiting ++ g.ready) → 0 < count x (y ∷ g.tail y) → 0 < count x g.held
  queued_held y x c k = let a = rows_one g.tail (g.waiting ++ g.ready) y x c in let e = d.whole_held x in omega arith

  head_held : (x : ℕ) → 0 < count x (g.waiting ++ g.ready) → 0 < count x g.held
  head_held x c = queued_held x x c (stands_here x (g.tail x))

  before : Before b message_of stream ws1 g.waiting g.ready
  before = record {
    long = k1.long ∙ d.laid.long;
    by_number = indexed_kept ws ws1 16 16 2 2 3 2 g.waiting k1 (omega arith) (λ e. omega arith) (λ e. omega arith) (λ e. omega arith) d.by_number;
    lined = lined_frame ws ws1 10 g.ready (k1.header 10 (omega arith) (λ e. omega arith) (λ e. omega arith)) (k1.header 11 (omega arith) (λ e. omega arith) (λ e. omega arith))
        (λ x c hx. k1.links x 7 hx (omega arith) (λ e. omega arith) (λ e. omega arith)) d.lined;
    once = queued_once;
    turning = λ x c k l. turning x (head_held x (let a = count_append x g.waiting g.ready in omega arith)) k l;
  }

  abbrev t : Turned
  t = queue_up ws1 (interleaved_of ws) (fragment_at ws1 h) h n

  abbrev q : Queued
  q = model.queue_up (fragment_at ws1 h).unordered (kind_of b) (message_of h) n (map message_of g.waiting) (map message_of g.ready)

  u : Queues b message_of stream ws1 (h ∷ g.waiting ++ g.ready) t q
  u =
      queues_up b message_of stream ws1 g.waiting g.ready n before fits h (its_row h (stands_here h others_of)) not_queued
      (λ x c k l. turning x (its_held x (one_of x c)) k l) refl (ap (λ (v : Fragment). v.stream.0) (sym (fragment1 h (its_row h (stands_here h others_of)))))
    where
      one_of : (x : ℕ) → 0 < count x (h ∷ []) → 0 < count x ms
      one_of x c = elim (compare_same h x) [
        | equal e ↦ (let a = count_here x h others_of e in omega arith)
        | other ne ↦ absurd (let a = count_there x h [] ne in let z = count_nil x in omega arith)
      ]

  abbrev ws2 : List ℕ
  ws2 = t.words

  k2 : Kept ws1 ws2 10 11 7 7 2
  k2 = u.kept

  -- ---------------------------------------------------------------- what is as it was

  header : (k : ℕ) → k < 10 → word_at Header ws2 0 k ≡ word_at Header ws 0 k
  header k l = k2.header k (omega arith) (λ e. omega arith) (λ e. omega arith) ∙ k1.header k (omega arith) (λ e. omega arith) (λ e. omega arith)

  links : (x k : ℕ) → x < 4096 → k < 7 → (2 ≡ k → ⊥) → word_at Links ws2 x k ≡ word_at Links ws x k
  links x k hx hk ne = k2.links x k hx (omega arith) (λ e. omega arith) (λ e. omega arith) ∙ k1.links x k hx (omega arith) ne ne

  fragment : (x : ℕ) → x < 4096 → fragment_at ws2 x ≡ fragment_at ws x
  fragment x hx = kept_fragment ws1 ws2 10 11 7 7 2 k2 x hx ∙ fragment1 x hx

  turn : (k : ℕ) → k < 256 → turn_at ws2 k ≡ turn_at ws k
  turn k l = kept_turn ws1 ws2 10 11 7 7 2 k2 k l ∙ kept_turn ws ws1 16 16 2 2 3 k1 k l

  ahead : (k : ℕ) → ahead_at ws2 k ≡ ahead_at ws k
  ahead k = ap flag (k2.words Ahead (k % 1024) 0 refl refl refl (omega arith) (omega arith) ∙ k1.words Ahead (k % 1024) 0 refl refl refl (omega arith) (omega arith))

  index : (k : ℕ) → k < 2 → Indexed ws k g.held → Indexed ws2 k g.held
  index k hk ix =
      indexed_kept ws1 ws2 10 11 7 7 2 k g.held k2 (omega arith) (λ e. omega arith) (λ e. omega arith) (λ e. omega arith)
      (indexed_kept ws ws1 16 16 2 2 3 k g.held k1 (omega arith) (λ e. omega arith) (λ e. omega arith) (λ e. omega arith) ix)

  same_kind : interleaved_of ws2 ≡ interleaved_of ws
  same_kind = ap flag (header 0 (omega arith))

  same_whole : (x : ℕ) → x < 4096 → is_whole ws2 x ≡ is_whole ws1 x
  same_whole x hx = ap (λ (v : ℕ). eqb v 1) (k2.links x 2 hx (omega arith) (λ e. omega arith) (λ e. omega arith))

  same_unique : (k : ℕ) → Unique ws k g.held → Unique ws2 k g.held
  same_unique k v f x y cx cy sx sy =
      v f x y cx cy (ap (λ (w : Fragment). same_key_words k w f) (sym (fragment x (row x cx))) ∙ sx) (ap (λ (w : Fragment). same_key_words k w f) (sym (fragment y (row y cy))) ∙ sy)

  -- ---------------------------------------------------------------- the messages

  pub rows_settled : Ghost
  rows_settled = record { held = g.held; free = g.free; waiting = u.waiting; ready = u.ready; tail = tail_with h (tail_rows 4096 ws (interleaved_of ws) h) g.tail; ahead = g.ahead }

  -- a message is this one, or one of those before
  data Which (y : ℕ) : Type 0 where
    this_one : h ≡ y → Which y
    one_before : (h ≡ y → ⊥) → 0 < count y (g.waiting ++ g.ready) → Which y

  which : (y : ℕ) → 0 < count y (u.waiting ++ u.ready) → Which y
  which y c = elim (compare_same h y) [
    | equal e ↦ this_one e
    | other ne ↦ one_before ne (let a = u.counts y in let k = count_there y h (g.waiting ++ g.ready) ne in omega arith)
  ]

  all_once : (x : ℕ) → count x (u.waiting ++ u.ready) ≤ 1
  all_once x =
      let a = u.counts x in
      let l = queued_once x in
      elim (compare_same h x) [
        | equal e ↦ (let c = count_here x h (g.waiting ++ g.ready) e in let z : count x (g.waiting ++ g.ready) ≡ 0 = subst (λ (y : ℕ). count y (g.waiting ++ g.ready) ≡ 0) e not_queued in omega arith)
        | other ne ↦ (let c = count_there x h (g.waiting ++ g.ready) ne in omega arith)
      ]

  -- the rows of whole messages are its rows and those before
  whole_rows_lem : (x : ℕ) → count x (rows_of tail' (u.waiting ++ u.ready)) ≡ count x ms + count x (whole_rows g)
  whole_rows_lem x =
      rows_order tail' (u.waiting ++ u.ready) (h ∷ g.waiting ++ g.ready) all_once u.counts x
      ∙ rows_count tail' h (g.waiting ++ g.ready) x
      ∙ ap₂ (λ (ts : List ℕ) (k : ℕ). count x (h ∷ ts) + k) (with_it h others_of g.tail)
      (rows_tail g.tail tail' (g.waiting ++ g.ready) (λ y c. with_other h others_of g.tail y (λ e. not_among h y (g.waiting ++ g.ready) not_queued c (sym e))) x)

  -- its rows are held
  which_held : (y x : ℕ) → 0 < count y (u.waiting ++ u.ready) → 0 < count x (y ∷ tail' y) → 0 < count x g.held
  which_held y x c k = by (which y c)
    where
      by : Which y → 0 < count x g.held
      by (this_one e) = its_held x (subst (λ (ts : List ℕ). 0 < count x (h ∷ ts)) (with_it h others_of g.tail) (subst (λ (z : ℕ). 0 < count x (z ∷ tail' z)) (sym e) k))
      by (one_before ne a) = queued_held y x a (subst (λ (ts : List ℕ). 0 < count x (y ∷ ts)) (with_other h others_of g.tail y (λ e. ne (sym e))) k)

  walk2 : (y : ℕ) (xs : List ℕ) → ((x : ℕ) → 0 < count x (y ∷ xs) → x < 4096) → Walk ws b y xs → Walk ws2 b y xs
  walk2 y xs r w =
      walk_kept ws1 ws2 10 11 7 7 2 k2 b (seven b) (seven b) (two b) y xs r
      (walk_kept ws ws1 16 16 2 2 3 k1 b (low b) (low b) (three b) y xs r w)
    where
      seven : (v : Bool) → 7 ≡ 5 + bit v → ⊥
      seven true e = omega arith
      seven false e = omega arith

      two : (v : Bool) → 2 ≡ bit v → ⊥
      two true e = omega arith
      two false e = omega arith

      low : (v : Bool) → 2 ≡ 5 + bit v → ⊥
      low true e = omega arith
      low false e = omega arith

      three : (v : Bool) → 3 ≡ bit v → ⊥
      three true e = omega arith
      three false e = omega arith

  walks2 : (y : ℕ) → 0 < count y (u.waiting ++ u.ready) → Walk ws2 b y (tail' y)
  walks2 y c = by (which y c)
    where
      by : Which y → Walk ws2 b y (tail' y)
      by (this_one e) = subst (λ (z : ℕ). Walk ws2 b z (tail' z)) e (subst (Walk ws2 b h) (sym (with_it h others_of g.tail)) (walk2 h others_of its_row its_walk))
      by (one_before ne a) = subst (Walk ws2 b y) (sym (with_other h others_of g.tail y (λ e. ne (sym e)))) (walk2 y (g.tail y) (λ x k. row x (queued_held y x a k)) (d.walks y a))

  marked2 : (x : ℕ) → 0 < count x g.held → count x (rows_of tail' (u.waiting ++ u.ready)) ≡ bit (is_whole ws2 x)
  marked2 x c = elim (compare_same (count x ms) 0) [
    | equal z ↦ (let a = whole_rows_lem x in let e = d.marked x c in let k = ap bit (same_whole x (row x c) ∙ m.off x (row x c) z) in omega arith)
    | other ne ↦ (let a = whole_rows_lem x in let e = its_new x (omega arith) in let l = its_once x in let k = ap bit (same_whole x (row x c) ∙ m.on x (omega arith)) in omega arith)
  ]

  whole2 : (x : ℕ) → count x (rows_of tail' (u.waiting ++ u.ready)) ≤ count x g.held
  whole2 x = elim (compare_same (count x ms) 0) [
    | equal z ↦ (let a = whole_rows_lem x in let e = d.whole_held x in omega arith)
    | other ne ↦ (let a = whole_rows_lem x in let e = its_new x (omega arith) in let l = its_once x in let k = its_held x (omega arith) in omega arith)
  ]

  pub settled_good : GoodReceiver rows_settled (queue_up (mark_whole 4096 ws (interleaved_of ws) h) (interleaved_of ws) (fragment_at (mark_whole 4096 ws (interleaved_of ws) h) h) h n).words st
  unfolding rows_settled
  settled_good = record {
    store_is = header 1 (omega arith) ∙ d.store_is;
    store_fits = d.store_fits;
    aged = aged_same ws ws2 g.held (λ x c hx. links x 3 hx (omega arith) (λ e. omega arith)) (λ x c hx. links x 4 hx (omega arith) (λ e. omega arith)) (header 8 (omega arith)) (header 9 (omega arith)) d.aged;
    freed = free_same ws ws2 g.free (λ x c hx. links x 3 hx (omega arith) (λ e. omega arith)) (header 7 (omega arith)) d.freed;
    cover = d.cover;
    held_is = header 4 (omega arith) ∙ d.held_is;
    by_tsn = index 0 (omega arith) d.by_tsn;
    by_place = λ e. index 1 (omega arith) (d.by_place (sym same_kind ∙ e));
    by_number = u.by_number;
    tsn_once = same_unique 0 d.tsn_once;
    place_once = λ e. same_unique 1 (d.place_once (sym same_kind ∙ e));
    carried = λ x c. subst (λ (v : Bool). Carried v (fragment_at ws2 x)) (sym same_kind) (subst (λ (v : Fragment). Carried b v) (sym (fragment x (row x c))) (d.carried x c));
    whole_held = whole2;
    marked = marked2;
    walks = λ y c. subst (λ (v : Bool). Walk ws2 v y (tail' y)) (sym same_kind) (walks2 y c);
    lined = u.lined;
    flags = subst (λ (l : ℕ). Flags ws2 l g.ahead) (sym (header 2 (omega arith))) (record { long = k2.long ∙ k1.long ∙ d.laid.long; flags = λ k a c e. ahead k ∙ d.flags.flags k a c e });
    last_fits = subst (λ (k : ℕ). k < 2 ^ 32) (sym (header 2 (omega arith))) d.last_fits;
    known_fits = subst (λ (k : ℕ). k ≤ 256) (sym (header 3 (omega arith))) d.known_fits;
    next_fits = λ k l. subst (λ (v : Bool). (turn_at ws2 k).next < 2 ^ width (kind_of v)) (sym same_kind)
        (let l' : k < word_at Header ws 0 3 = subst (λ (j : ℕ). k < j) (header 3 (omega arith)) l in
        let e = d.known_fits in
        subst (λ (j : ℕ). j < 2 ^ width (kind_of b)) (sym (ap (λ (v : words.Turn). v.next) (turn k (omega arith)))) (d.next_fits k l'));
    laid = laid_same ws ws2 st g.held (k2.long ∙ k1.long) (header 5 (omega arith)) (header 6 (omega arith)) (λ x c. links x 0 (row x c) (omega arith) (λ e. omega arith)) (λ x c. links x 1 (row x c) (omega arith) (λ e. omega arith)) d.laid;
  }

  -- ---------------------------------------------------------------- and the receiver that they stand for

  chunk2 : (x : ℕ) → x < 4096 → chunk_in ws2 st x ≡ chunk_in ws st x
  chunk2 x hx =
      ap (λ (v : Bool). chunk_of (kind_of v) (fragment_at ws2 x) (payload_of ws2 st x)) same_kind
      ∙ ap₂ (λ (v : Fragment) (p : List ℕ). chunk_of (kind_of b) v p) (fragment x hx) (payload_words ws ws2 st x (links x 0 hx (omega arith) (λ e. omega arith)) (links x 1 hx (omega arith) (λ e. omega arith)))

  message2 : (y : ℕ) → 0 < count y (u.waiting ++ u.ready) → message_in tail' ws2 st y ≡ message_of y
  message2 y c =
      ap₂ (λ (e : Chunk) (es : List Chunk). let a : Assembled = record { head = e; tail = es } in a) (chunk2 y (row y (which_held y y c (stands_here y (tail' y)))))
      (map_same (chunk_in ws2 st) (chunk_in ws st) (tail' y) (λ x k. chunk2 x (row x (which_held y x c (let j = count_cons x y (tail' y) in omega arith)))))

  -- the messages before are as they were
  old_message : (y : ℕ) → 0 < count y (g.waiting ++ g.ready) → message_of y ≡ message_in g.tail ws st y
  old_message y c =
      ap (λ (ts : List ℕ). let a : Assembled = record { head = chunk_in ws st y; tail = map (chunk_in ws st) ts } in a)
      (with_other h others_of g.tail y (λ e. not_among h y (g.waiting ++ g.ready) not_queued c (sym e)))

  its_message : message_of h ≡ message
  its_message = ap (λ (ts : List ℕ). let a : Assembled = record { head = chunk_in ws st h; tail = map (chunk_in ws st) ts } in a) (with_it h others_of g.tail)

  -- what the model queues up
  abbrev pub queued : Queued
  queued = model.queue_up message.head.unordered (kind_of (interleaved_of ws)) message n (stands g ws st).waiting (stands g ws st).ready

  queued_is : q ≡ queued
  queued_is =
      let hh : h < 4096 = its_row h (stands_here h others_of) in
      λ p. model.queue_up (fragment1 h hh p).unordered (kind_of b) (its_message p) n
      (map_same message_of (message_in g.tail ws st) g.waiting (λ y c. old_message y (let a = count_append y g.waiting g.ready in omega arith)) p)
      (map_same message_of (message_in g.tail ws st) g.ready (λ y c. old_message y (let a = count_append y g.waiting g.ready in omega arith)) p)

  loose2 : map (chunk_in ws2 st) (loose_rows ws2 g.held) ≡ without_message message (map (chunk_in ws st) (loose_rows ws g.held))
  loose2 =
      map_same (chunk_in ws2 st) (chunk_in ws st) (loose_rows ws2 g.held) (λ x c. chunk2 x (row x (let k = count_kept x (λ (y : ℕ). not (is_whole ws2 y)) g.held in omega arith)))
      ∙ ap (map (chunk_in ws st)) (keep_same (λ (x : ℕ). not (is_whole ws2 x)) (λ (x : ℕ). not (is_whole ws1 x)) g.held (λ x c. ap not (same_whole x (row x c))))
      ∙ loose_marked ws b (payload_of ws st) g.held row d.tsn_once ws1 h others_of its_held m

  pub settled_stands : stands rows_settled (queue_up (mark_whole 4096 ws (interleaved_of ws) h) (interleaved_of ws) (fragment_at (mark_whole 4096 ws (interleaved_of ws) h) h) h n).words st
      ≡ with_queues (without_message message (stands g ws st).loose) queued (stands g ws st)
  unfolding rows_settled
  settled_stands = λ p. record {
    kind = kind_of (same_kind p);
    store_length = header 1 (omega arith) p;
    last_tsn = header 2 (omega arith) p;
    ahead = g.ahead;
    loose = loose2 p;
    waiting = (map_same (message_in tail' ws2 st) message_of u.waiting (λ y c. message2 y (let a = count_append y u.waiting u.ready in omega arith)) ∙ sym u.waiting_is ∙ ap (λ (v : Queued). v.waiting) queued_is) p;
    ready = (map_same (message_in tail' ws2 st) message_of u.ready (λ y c. message2 y (let a = count_append y u.waiting u.ready in omega arith)) ∙ sym u.ready_is ∙ ap (λ (v : Queued). v.ready) queued_is) p;
    turns = (ap (turn_rows ws2 0) (header 3 (omega arith)) ∙ turn_rows_same ws ws2 (word_at Header ws 0 3) 0 (let k = d.known_fits in omega arith) turn) p;
  }

  -- the number that is next, and the streams as they were
  pub settled_next : (queue_up (mark_whole 4096 ws (interleaved_of ws) h) (interleaved_of ws) (fragment_at (mark_whole 4096 ws (interleaved_of ws) h) h) h n).next ≡ queued.next
  settled_next = u.next_is ∙ ap (λ (v : Queued). v.next) queued_is

  pub settled_next_fits : (queue_up (mark_whole 4096 ws (interleaved_of ws) h) (interleaved_of ws) (fragment_at (mark_whole 4096 ws (interleaved_of ws) h) h) h n).next < 2 ^ width (kind_of (interleaved_of ws))
  settled_next_fits = u.next_fits

  pub settled_turns : (k : ℕ) → k < 256 → turn_at (queue_up (mark_whole 4096 ws (interleaved_of ws) h) (interleaved_of ws) (fragment_at (mark_whole 4096 ws (interleaved_of ws) h) h) h n).words k ≡ turn_at ws k
  settled_turns = turn

  pub settled_known : word_at Header (queue_up (mark_whole 4096 ws (interleaved_of ws) h) (interleaved_of ws) (fragment_at (mark_whole 4096 ws (interleaved_of ws) h) h) h n).words 0 3 ≡ word_at Header ws 0 3
  settled_known = header 3 (omega arith)

  pub settled_kind : interleaved_of (queue_up (mark_whole 4096 ws (interleaved_of ws) h) (interleaved_of ws) (fragment_at (mark_whole 4096 ws (interleaved_of ws) h) h) h n).words ≡ interleaved_of ws
  settled_kind = same_kind
