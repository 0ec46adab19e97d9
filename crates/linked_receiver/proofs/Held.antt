-- A fragment held in a free row: the words are good again, and stand for the receiver with one loose fragment more. Assumes nothing.
use mathlib.Core.Path.{◌≡◌, refl, sym, ap, ap₂, ◌∙◌, subst}
use mathlib.Core.Bool.{Bool, true, false, not}
use mathlib.Core.List.{List, [], ◌∷◌, ◌++◌, map}
use Prim.Native.Nat.{ℕ, ◌+◌, ◌^◌, ◌≤◌, ◌<◌}
use native.Mathlib.Omega.{arith}
use borrow.Author.Tests.{eqb-true, eq-eqb}
use lib.ListN.{length}
use Rattle.queue_words.specs.Flags.{bit, flag}
use Rattle.receiver_model.specs.Lists.{count}
use Rattle.receiver_model.specs.Types.{Chunk, Assembled, Receiver}
use Rattle.receiver_model.specs.Assembly.{width}
use Rattle.receiver_model.proofs.Lists.{true≢false, Value, yes_is, no_is, value, count_here, count_there, count_cons, count_append, Same, equal, other, compare_same, keep_yes}
use Rattle.receiver_words.specs.Tables.{Header, word_at}
use Rattle.receiver_words.specs.Turns.{turn_at}
use Rattle.receiver_words.specs.Fragments.{fragment_at, FitsFragment}
use Rattle.receiver_words.specs.Index.{same_place_words, same_key_words, find_row}
use Rattle.receiver_words.specs.Link.{Flags, first_key, turn_rows}
use Rattle.receiver_words.specs.Chunks.{kind_of, chunk_of}
use Rattle.receiver_words.specs.declared.fragments.Fragment.{Fragment}
use Rattle.receiver_words.specs.declared.turns.Turn as words
use Rattle.receiver_words.proofs.Rows.{stands_here, not_among}
use Rattle.receiver_messages.specs.Keys.{interleaved_of, following}
use Rattle.receiver_messages.specs.Walks.{is_whole, part_after}
use Rattle.receiver_store.specs.Words.{used_of, payload_of}
use Rattle.receiver_fragments.specs.Holding.{Kept, hold}
use Rattle.linked_receiver.specs.Rows.{Indexed, Unique, loose_rows}
use Rattle.linked_receiver.specs.Good.{Ghost, whole_rows, Walk, Carried, GoodReceiver, chunk_in, message_in, stands}
use Rattle.linked_receiver.proofs.Lists.{keep_same, count_kept}
use Rattle.linked_receiver.proofs.Found.{find_indexed, first_there}
use Rattle.linked_receiver.proofs.Indexes.{indexed_frame}
use Rattle.linked_receiver.proofs.Promotes.{lined_frame}
use Rattle.linked_receiver.proofs.Walks.{KeyAmong, absent, present, key_among}
use Rattle.linked_receiver.proofs.Frees.{Holds, held_rows, held_few}
use Rattle.linked_receiver.proofs.HandsOut.{parts_indexed, first_same}
use Rattle.linked_receiver.proofs.Taken.{rows_one, map_same, turn_rows_same, good_holds}
use Rattle.linked_receiver.proofs.Holds.{Grown, w8, put, puts, grown, its_fragment, not_whole, its_payload, payload, holds8, hold_is}
use Rattle.payload_store.proofs.Cases.{pick_both}

-- ------------------------------------------------------------------ keys

-- two with one key have each other's
join_tsn : (a c q : Fragment) → same_key_words 0 a q ≡ true → same_key_words 0 c q ≡ true → same_key_words 0 a c ≡ true
unfolding same_key_words
join_tsn a c q e h = eq-eqb a.tsn c.tsn (eqb-true a.tsn q.tsn e ∙ sym (eqb-true c.tsn q.tsn h))

join_place : (a c q : Fragment) → same_key_words 1 a q ≡ true → same_key_words 1 c q ≡ true → same_key_words 1 a c ≡ true
unfolding same_key_words same_place_words
join_place a c q e h =
    let e₁ = pick_both _ _ e in
    let e₂ = pick_both _ _ e₁.1 in
    let e₃ = pick_both _ _ e₂.1 in
    let h₁ = pick_both _ _ h in
    let h₂ = pick_both _ _ h₁.1 in
    let h₃ = pick_both _ _ h₂.1 in
    rw (
      eq-eqb a.stream.0 c.stream.0 (eqb-true _ _ e₁.0 ∙ sym (eqb-true _ _ h₁.0)),
      eq-eqb (bit a.unordered) (bit c.unordered) (eqb-true _ _ e₂.0 ∙ sym (eqb-true _ _ h₂.0)),
      eq-eqb a.mid.0 c.mid.0 (eqb-true _ _ e₃.0 ∙ sym (eqb-true _ _ h₃.0)),
    )
    (eq-eqb a.fsn.0 c.fsn.0 (eqb-true _ _ e₃.1 ∙ sym (eqb-true _ _ h₃.1)))

pub join_key : (b : Bool) (a c q : Fragment) → same_key_words (bit b) a q ≡ true → same_key_words (bit b) c q ≡ true → same_key_words (bit b) a c ≡ true
join_key true a c q e h = join_place a c q e h
join_key false a c q e h = join_tsn a c q e h

-- the next row of a message, as what is found
at_part : (b : Bool) (ws : List ℕ) (h x : ℕ) → find_row ws (bit b) (following (fragment_at ws h)) ≡ x → part_after ws b h ≡ x
unfolding part_after
at_part b ws h x e = e

part_at : (b : Bool) (ws : List ℕ) (h x : ℕ) → part_after ws b h ≡ x → find_row ws (bit b) (following (fragment_at ws h)) ≡ x
unfolding part_after
part_at b ws h x e = e

-- a message's rows follow each other as before where what was found is found
pub walk_by : (ws ws' : List ℕ) (b : Bool) (held : List ℕ) → ((x : ℕ) → 0 < count x held → fragment_at ws' x ≡ fragment_at ws x) → ((x : ℕ) → 0 < count x held → x < 4096)
    → ((q : Fragment) (x : ℕ) → x < 4096 → find_row ws (bit b) q ≡ x → find_row ws' (bit b) q ≡ x) → (h : ℕ) (ts : List ℕ) → ((x : ℕ) → 0 < count x (h ∷ ts) → 0 < count x held) → Walk ws b h ts
    → Walk ws' b h ts
walk_by ws ws' b held same row find h [] within l = ap (λ (v : Fragment). v.last) (same h (within h (stands_here h []))) ∙ l
walk_by ws ws' b held same row find h (x ∷ xs) within (l, (p, w)) =
    let e : fragment_at ws' h ≡ fragment_at ws h = same h (within h (stands_here h (x ∷ xs))) in
    let c : 0 < count x held = within x (let m = count_cons x h (x ∷ xs) in let k = stands_here x xs in omega arith) in (
      ap (λ (v : Fragment). v.last) e ∙ l,
      (
        at_part b ws' h x (ap (λ (v : Fragment). find_row ws' (bit b) (following v)) e ∙ find (following (fragment_at ws h)) x (row x c) (part_at b ws h x p)),
        walk_by ws ws' b held same row find x xs (λ y k. within y (let m = count_cons y h (x ∷ xs) in omega arith)) w,
      ),
    )

-- ------------------------------------------------------------------ a row more among rows with different keys

module _ (ws ws' : List ℕ) (held : List ℕ) (i : ℕ) (f : Fragment) (same : (x : ℕ) → 0 < count x held → fragment_at ws' x ≡ fragment_at ws x) (its : fragment_at ws' i ≡ f) where
  unique_more : (b : Bool) → ((x : ℕ) → 0 < count x held → same_key_words (bit b) (fragment_at ws x) f ≡ false) → Unique ws (bit b) held → Unique ws' (bit b) (i ∷ held)
  unique_more b lacks u q x y cx cy sx sy = go (compare_same i x) (compare_same i y)
    where
      old : (z : ℕ) → (i ≡ z → ⊥) → 0 < count z (i ∷ held) → 0 < count z held
      old z d c = let a = count_there z i held d in omega arith

      old_key : (z : ℕ) → 0 < count z held → same_key_words (bit b) (fragment_at ws' z) q ≡ true → same_key_words (bit b) (fragment_at ws z) q ≡ true
      old_key z c e = ap (λ (v : Fragment). same_key_words (bit b) v q) (sym (same z c)) ∙ e

      new_key : (z : ℕ) → i ≡ z → same_key_words (bit b) (fragment_at ws' z) q ≡ true → same_key_words (bit b) f q ≡ true
      new_key z e s = ap (λ (v : Fragment). same_key_words (bit b) v q) (sym its) ∙ ap (λ (n : ℕ). same_key_words (bit b) (fragment_at ws' n) q) e ∙ s

      go : Same i x → Same i y → x ≡ y
      go (equal e) (equal h) = sym e ∙ h
      go (equal e) (other d) = absurd (true≢false (join_key b (fragment_at ws y) f q (old_key y (old y d cy) sy) (new_key x e sx)) (lacks y (old y d cy)))
      go (other d) (equal e) = absurd (true≢false (join_key b (fragment_at ws x) f q (old_key x (old x d cx) sx) (new_key y e sy)) (lacks x (old x d cx)))
      go (other d) (other e) = u q x y (old x d cx) (old y e cy) (old_key x (old x d cx) sx) (old_key y (old y e cy) sy)

  -- the rows of a whole message are found as before
  module _ (b : Bool) (lacks : (x : ℕ) → 0 < count x held → same_key_words (bit b) (fragment_at ws x) f ≡ false) (ix : Indexed ws (bit b) held) (few : length held ≤ 4096) (ix' : Indexed ws' (bit b) (i ∷ held))
      (few' : length (i ∷ held) ≤ 4096) (row : (x : ℕ) → 0 < count x held → x < 4096) where
    find_more : (q : Fragment) (x : ℕ) → x < 4096 → find_row ws (bit b) q ≡ x → find_row ws' (bit b) q ≡ x
    find_more q x hx e = go (key_among ws (bit b) q held) (value (same_key_words (bit b) f q))
      where
        first : first_key ws (bit b) q held ≡ x
        first = sym (find_indexed ws (bit b) q held ix few) ∙ e

        go : KeyAmong ws (bit b) q held → Value (same_key_words (bit b) f q) → find_row ws' (bit b) q ≡ x
        go (absent z n) v = absurd (omega (arith, z, first))
        go (present j z c s) (yes_is k) = absurd (true≢false (join_key b (fragment_at ws j) f q s k) (lacks j c))
        go (present j z c s) (no_is k) =
            find_indexed ws' (bit b) q (i ∷ held) ix' few'
            ∙ first_there ws' (bit b) q i held (ap (λ (v : Fragment). same_key_words (bit b) v q) its ∙ k)
            ∙ first_same ws ws' (bit b) q held same
            ∙ first

    walk_more : (h : ℕ) (ts : List ℕ) → ((x : ℕ) → 0 < count x (h ∷ ts) → 0 < count x held) → Walk ws b h ts → Walk ws' b h ts
    walk_more = walk_by ws ws' b held same row find_more

-- ------------------------------------------------------------------ good words

-- the receiver with one loose fragment more
abbrev pub with_loose : Chunk → Receiver → Receiver
with_loose c r = record { kind = r.kind; store_length = r.store_length; last_tsn = r.last_tsn; ahead = r.ahead; loose = c ∷ r.loose; waiting = r.waiting; ready = r.ready; turns = r.turns }

-- the rows with row i held, which was free before the others
abbrev pub rows_more : ℕ → List ℕ → Ghost → Ghost
rows_more i others g = record { held = i ∷ g.held; free = others; waiting = g.waiting; ready = g.ready; tail = g.tail; ahead = g.ahead }

module _ (g : Ghost) (ws st : List ℕ) (d : GoodReceiver g ws st) (i : ℕ) (others : List ℕ) (free_is : g.free ≡ i ∷ others) (f : Fragment) (bs : List ℕ) (fits : FitsFragment f)
    (room : used_of ws + length bs ≤ length st) (carries : Carried (interleaved_of ws) f) (no_tsn : (x : ℕ) → 0 < count x g.held → same_key_words 0 (fragment_at ws x) f ≡ false)
    (no_place : interleaved_of ws ≡ true → (x : ℕ) → 0 < count x g.held → same_key_words 1 (fragment_at ws x) f ≡ false) where
  abbrev b : Bool
  b = interleaved_of ws

  o : Holds ws st (interleaved_of ws) g.held (i ∷ others)
  o = subst (λ (xs : List ℕ). Holds ws st (interleaved_of ws) g.held xs) free_is (good_holds g ws st d)

  abbrev ws' : List ℕ
  ws' = w8 ws st (interleaved_of ws) g.held i others o f bs fits room

  abbrev st' : List ℕ
  st' = (put ws st (interleaved_of ws) g.held i others o f bs fits room).store

  h : Holds ws' st' (interleaved_of ws) (i ∷ g.held) others
  h = holds8 ws st (interleaved_of ws) g.held i others o f bs fits room

  w : Grown ws ws' i
  w = grown ws st (interleaved_of ws) g.held i others o f bs fits room

  row : (x : ℕ) → 0 < count x g.held → x < 4096
  row = held_rows ws st b g.held (i ∷ others) o

  free : count i g.held ≡ 0
  free = let a = o.cover i o.freed.1 in let c = count_here i i others refl in omega arith

  unlike : (x : ℕ) → 0 < count x g.held → i ≡ x → ⊥
  unlike x c = not_among i x g.held free c

  same_fragment : (x : ℕ) → 0 < count x g.held → fragment_at ws' x ≡ fragment_at ws x
  same_fragment x c = w.fragment x (row x c) (unlike x c)

  new_fragment : fragment_at ws' i ≡ f
  new_fragment = its_fragment ws st (interleaved_of ws) g.held i others o f bs fits room

  same_kind : interleaved_of ws' ≡ interleaved_of ws
  same_kind = ap flag (w.low 0 (omega arith))

  -- rows of whole messages are held
  message_held : (m x : ℕ) → 0 < count m (g.waiting ++ g.ready) → 0 < count x (m ∷ g.tail m) → 0 < count x g.held
  message_held m x c k = let a = rows_one g.tail (g.waiting ++ g.ready) m x c in let e = d.whole_held x in omega arith

  waits_held : (x : ℕ) → 0 < count x g.waiting → 0 < count x g.held
  waits_held x c = message_held x x (let a = count_append x g.waiting g.ready in omega arith) (stands_here x (g.tail x))

  -- an old row, or the new one
  data Among (x : ℕ) : Type 0 where
    the_new : i ≡ x → Among x
    an_old : (i ≡ x → ⊥) → 0 < count x g.held → Among x

  among : (x : ℕ) → 0 < count x (i ∷ g.held) → Among x
  among x c = elim (compare_same i x) [ equal e ↦ the_new e | other n ↦ an_old n (let a = count_there x i g.held n in omega arith) ]

  lacks_key : (v : Bool) → interleaved_of ws ≡ v → (x : ℕ) → 0 < count x g.held → same_key_words (bit v) (fragment_at ws x) f ≡ false
  lacks_key true e = no_place e
  lacks_key false e = no_tsn

  walks_more : (m : ℕ) → 0 < count m (g.waiting ++ g.ready) → Walk ws' (interleaved_of ws') m (g.tail m)
  walks_more m c =
      subst (λ (v : Bool). Walk ws' v m (g.tail m)) (sym same_kind)
      (walk_more ws ws' g.held i f same_fragment new_fragment (interleaved_of ws) (lacks_key (interleaved_of ws) refl) (parts_indexed ws st (interleaved_of ws) g.held (i ∷ others) o)
      (held_few ws st (interleaved_of ws) g.held (i ∷ others) o) (parts_indexed ws' st' (interleaved_of ws) (i ∷ g.held) others h) (held_few ws' st' (interleaved_of ws) (i ∷ g.held) others h) row
      m (g.tail m) (λ x k. message_held m x c k) (d.walks m c))

  same_whole : (x : ℕ) → 0 < count x g.held → is_whole ws' x ≡ is_whole ws x
  same_whole x c = w.whole x (row x c) (unlike x c)

  new_whole : is_whole ws' i ≡ false
  new_whole = not_whole ws st (interleaved_of ws) g.held i others o f bs fits room

  held_good : GoodReceiver (rows_more i others g) (w8 ws st (interleaved_of ws) g.held i others o f bs fits room) (put ws st (interleaved_of ws) g.held i others o f bs fits room).store
  held_good = record {
    store_is = w.low 1 (omega arith) ∙ d.store_is ∙ sym store_long;
    store_fits = let a = d.store_fits in let c = store_long in omega arith;
    aged = h.aged;
    freed = h.freed;
    cover = h.cover;
    held_is = h.held_is;
    by_tsn = h.by_tsn;
    by_place = λ e. h.by_place (sym same_kind ∙ e);
    by_number = indexed_frame ws ws' 2 g.waiting (λ c hc. w.numbers c hc) (λ x c hx. w.messages x hx) (λ x c hx. same_fragment x (waits_held x c)) d.by_number;
    tsn_once = unique_more ws ws' g.held i f same_fragment new_fragment false no_tsn d.tsn_once;
    place_once = λ e. unique_more ws ws' g.held i f same_fragment new_fragment true (no_place (sym same_kind ∙ e)) (d.place_once (sym same_kind ∙ e));
    carried = λ x c. subst (λ (v : Bool). Carried v (fragment_at ws' x)) (sym same_kind) (carried_by x (among x c));
    whole_held = λ x. let a = d.whole_held x in let c = count_cons x i g.held in omega arith;
    marked = λ x c. marked_by x (among x c);
    walks = walks_more;
    lined = lined_frame ws ws' 10 g.ready (w.high 10 (omega arith) (omega arith)) (w.high 11 (omega arith) (omega arith)) (λ x c hx. w.messages x hx) d.lined;
    flags = subst (λ (l : ℕ). Flags ws' l g.ahead) (sym (w.low 2 (omega arith))) (record { long = h.laid.long; flags = λ t a c e. w.ahead t ∙ d.flags.flags t a c e });
    last_fits = subst (λ (n : ℕ). n < 2 ^ 32) (sym (w.low 2 (omega arith))) d.last_fits;
    known_fits = subst (λ (n : ℕ). n ≤ 256) (sym (w.low 3 (omega arith))) d.known_fits;
    next_fits = λ t l. subst (λ (v : Bool). (turn_at ws' t).next < 2 ^ width (kind_of v)) (sym same_kind)
        (let l' : t < word_at Header ws 0 3 = subst (λ (n : ℕ). t < n) (w.low 3 (omega arith)) l in
        let k = d.known_fits in
        subst (λ (n : ℕ). n < 2 ^ width (kind_of b)) (sym (ap (λ (v : words.Turn). v.next) (w.turn t (omega arith)))) (d.next_fits t l'));
    laid = h.laid;
  }
    where
      store_long : length st' ≡ length st
      store_long = (puts ws st (interleaved_of ws) g.held i others o f bs fits room).same

      carried_by : (x : ℕ) → Among x → Carried b (fragment_at ws' x)
      carried_by x (the_new e) = subst (λ (y : ℕ). Carried b (fragment_at ws' y)) e (subst (λ (v : Fragment). Carried b v) (sym new_fragment) carries)
      carried_by x (an_old n c) = subst (λ (v : Fragment). Carried b v) (sym (same_fragment x c)) (d.carried x c)

      marked_by : (x : ℕ) → Among x → count x (whole_rows g) ≡ bit (is_whole ws' x)
      marked_by x (the_new e) =
          let z : count i (whole_rows g) ≡ 0 = let a = d.whole_held i in let c = free in omega arith in
          subst (λ (y : ℕ). count y (whole_rows g) ≡ bit (is_whole ws' y)) e (z ∙ sym (ap bit new_whole))
      marked_by x (an_old n c) = d.marked x c ∙ sym (ap bit (same_whole x c))

  -- ---------------------------------------------------------------- and the receiver that they stand for

  same_chunk : (x : ℕ) → 0 < count x g.held → chunk_in ws' st' x ≡ chunk_in ws st x
  same_chunk x c =
      ap (λ (v : Bool). chunk_of (kind_of v) (fragment_at ws' x) (payload_of ws' st' x)) same_kind
      ∙ ap₂ (λ (v : Fragment) (p : List ℕ). chunk_of (kind_of b) v p) (same_fragment x c) (payload ws st (interleaved_of ws) g.held i others o f bs fits room x c)

  new_chunk : chunk_in ws' st' i ≡ chunk_of (kind_of (interleaved_of ws)) f bs
  new_chunk =
      ap (λ (v : Bool). chunk_of (kind_of v) (fragment_at ws' i) (payload_of ws' st' i)) same_kind
      ∙ ap₂ (λ (v : Fragment) (p : List ℕ). chunk_of (kind_of b) v p) new_fragment (its_payload ws st (interleaved_of ws) g.held i others o f bs fits room)

  same_message : (m : ℕ) → 0 < count m (g.waiting ++ g.ready) → message_in g.tail ws' st' m ≡ message_in g.tail ws st m
  same_message m c =
      ap₂ (λ (e : Chunk) (es : List Chunk). let a : Assembled = record { head = e; tail = es } in a) (same_chunk m (message_held m m c (stands_here m (g.tail m))))
      (map_same (chunk_in ws' st') (chunk_in ws st) (g.tail m) (λ y k. same_chunk y (message_held m y c (let n = count_cons y m (g.tail m) in omega arith))))

  one_more : map (chunk_in ws' st') (loose_rows ws' (i ∷ g.held)) ≡ chunk_of (kind_of (interleaved_of ws)) f bs ∷ map (chunk_in ws st) (loose_rows ws g.held)
  one_more =
      ap (map (chunk_in ws' st')) (keep_yes (λ (x : ℕ). not (is_whole ws' x)) i g.held (ap not new_whole))
      ∙ ap₂ ◌∷◌ new_chunk
      (map_same (chunk_in ws' st') (chunk_in ws st) (loose_rows ws' g.held) (λ x c. same_chunk x (let m = count_kept x (λ (y : ℕ). not (is_whole ws' y)) g.held in omega arith))
      ∙ ap (map (chunk_in ws st)) (keep_same (λ (x : ℕ). not (is_whole ws' x)) (λ (x : ℕ). not (is_whole ws x)) g.held (λ x c. ap not (same_whole x c))))

  held_stands : stands (rows_more i others g) (w8 ws st (interleaved_of ws) g.held i others o f bs fits room) (put ws st (interleaved_of ws) g.held i others o f bs fits room).store
      ≡ with_loose (chunk_of (kind_of (interleaved_of ws)) f bs) (stands g ws st)
  held_stands = λ p. record {
    kind = kind_of (same_kind p);
    store_length = w.low 1 (omega arith) p;
    last_tsn = w.low 2 (omega arith) p;
    ahead = g.ahead;
    loose = one_more p;
    waiting = map_same (message_in g.tail ws' st') (message_in g.tail ws st) g.waiting (λ x c. same_message x (let a = count_append x g.waiting g.ready in omega arith)) p;
    ready = map_same (message_in g.tail ws' st') (message_in g.tail ws st) g.ready (λ x c. same_message x (let a = count_append x g.waiting g.ready in omega arith)) p;
    turns = turns_same p;
  }
    where
      turns_same : turn_rows ws' 0 (word_at Header ws' 0 3) ≡ turn_rows ws 0 (word_at Header ws 0 3)
      turns_same = ap (turn_rows ws' 0) (w.low 3 (omega arith)) ∙ turn_rows_same ws ws' (word_at Header ws 0 3) 0 (let k = d.known_fits in omega arith) w.turn

  -- THE THEOREM of holding a fragment
  pub record Held (k : Kept) : Type 0 where
    pub good : GoodReceiver (rows_more i others g) k.words k.store
    pub is : stands (rows_more i others g) k.words k.store ≡ with_loose (chunk_of (kind_of (interleaved_of ws)) f bs) (stands g ws st)
    pub same_store : length k.store ≡ length st
    pub last_is : word_at Header k.words 0 2 ≡ word_at Header ws 0 2
    pub kind_is : interleaved_of k.words ≡ interleaved_of ws
    pub turns_are : (t : ℕ) → t < 256 → turn_at k.words t ≡ turn_at ws t
    pub known_is : word_at Header k.words 0 3 ≡ word_at Header ws 0 3
    pub its_fragment_is : fragment_at k.words i ≡ f
    pub is_loose : is_whole k.words i ≡ false

  pub holds : Held (hold ws st (interleaved_of ws) f bs i (word_at Header ws 0 4))
  holds = subst Held (sym (hold_is ws st (interleaved_of ws) g.held i others o f bs fits room)) (record {
    good = held_good;
    is = held_stands;
    same_store = (puts ws st (interleaved_of ws) g.held i others o f bs fits room).same;
    last_is = w.low 2 (omega arith);
    kind_is = same_kind;
    turns_are = w.turn;
    known_is = w.low 3 (omega arith);
    its_fragment_is = new_fragment;
    is_loose = new_whole;
  })
