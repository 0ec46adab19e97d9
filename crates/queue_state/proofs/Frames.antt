-- What a call leaves alone: rows of streams, chains, messages. Every call's link uses these. Assumes nothing.
use mathlib.Core.Path.{◌≡◌, refl, sym, ap, ◌∙◌}
use mathlib.Core.Bool.{Bool, true, false}
use mathlib.Core.List.{List}
use Prim.Native.Nat.{ℕ, ◌≤◌, ◌<◌}
use native.Mathlib.Omega.{arith}
use borrow.Author.Tests.{ltb-true}
use lib.Dec.{ltb}
use lib.ListN.{length}
use Rattle.queue_words.specs.Flags.{pick}
use Rattle.queue_words.specs.Header.{totals_at}
use Rattle.queue_words.specs.Items.{item_at}
use Rattle.queue_words.specs.Known.{known_at, id_at}
use Rattle.queue_words.specs.Streams.{stream_at_words}
use Rattle.queue_words.specs.declared.items.Item.{Item}
use Rattle.queue_words.specs.declared.known.Known.{Known}
use Rattle.queue_words.specs.declared.streams.OutgoingStream.{OutgoingStream}
use Rattle.payload_store.specs.Good.{payload_of}
use Rattle.payload_store.specs.Words.{size_of}
use Rattle.queue_state.specs.Chains.{Linked, count, each, one, Split}
use Rattle.queue_state.specs.Model.{next_of, item_in_words, stream_of, row_at, items_at, stream_in}
use Rattle.queue_state.specs.Good.{Row, Shape}
use Rattle.queue_state.proofs.Chains.{linked_frame, each_frame, linked_chain}
use Rattle.queue_state.proofs.Splits.{row_short, total_has}

-- The message in place x is as it was, and so is what is behind it.
pub record Same (ws st ws' st' : List ℕ) (x : ℕ) : Type 0 where
  pub next_same : next_of ws' x ≡ next_of ws x
  pub size_same : size_of ws' x ≡ size_of ws x
  pub item_same : item_in_words ws' st' x ≡ item_in_words ws st x

abbrev pub Kept : List ℕ → List ℕ → List ℕ → List ℕ → List ℕ → Type 0
Kept ws st ws' st' ps = (x : ℕ) → 1 ≤ count x ps → Same ws st ws' st' x

-- A message with the same words and the same payload.
pub same_item : (ws st ws' st' : List ℕ) (x : ℕ) → item_at ws' x ≡ item_at ws x → payload_of ws' st' x ≡ payload_of ws st x → Same ws st ws' st' x
unfolding item_in_words
same_item ws st ws' st' x e p = record {
  next_same = ap (λ (m : Item). m.next) e;
  size_same = ap (λ (m : Item). m.length) e;
  item_same = rw (e, p);
}

pub same_none : (ws st : List ℕ) (x : ℕ) → Same ws st ws st x
same_none ws st x = record { next_same = refl; size_same = refl; item_same = refl }

pub same_both : (ws st ws' st' us ut : List ℕ) (x : ℕ) → Same ws st ws' st' x → Same ws' st' us ut x → Same ws st us ut x
same_both ws st ws' st' us ut x a b = record {
  next_same = b.next_same ∙ a.next_same;
  size_same = b.size_same ∙ a.size_same;
  item_same = b.item_same ∙ a.item_same;
}

pub row_frame : (ws st ws' st' : List ℕ) (s s' : OutgoingStream) (ps : List ℕ) → s'.first ≡ s.first → s'.last ≡ s.last → Kept ws st ws' st' ps → Row ws s ps → Row ws' s' ps
row_frame ws st ws' st' s s' ps e f k r = record {
  linked = rw e (linked_frame (next_of ws) (next_of ws') s.first ps (λ x h. (k x h).next_same) r.linked);
  last_is = f ∙ r.last_is;
}

pub free_frame : (ws st ws' st' : List ℕ) (p : ℕ) (ps : List ℕ) → Kept ws st ws' st' ps → Linked (next_of ws) p ps → Linked (next_of ws') p ps
free_frame ws st ws' st' p ps k l = linked_frame (next_of ws) (next_of ws') p ps (λ x h. (k x h).next_same) l

pub items_frame : (ws st ws' st' : List ℕ) (ps : List ℕ) → Kept ws st ws' st' ps → each (item_in_words ws' st') ps ≡ each (item_in_words ws st) ps
items_frame ws st ws' st' ps k = each_frame (item_in_words ws st) (item_in_words ws' st') ps (λ x h. (k x h).item_same)

-- What a reader computes of a stream is what its places hold.
pub items_row : (ws st : List ℕ) (i : ℕ) (ps : List ℕ) → length ps ≤ 1024 → Row ws (stream_at_words ws (row_at ws i)) ps → items_at ws st i ≡ each (item_in_words ws st) ps
unfolding items_at
items_row ws st i ps h r = ap (each (item_in_words ws st)) (linked_chain (next_of ws) (stream_at_words ws (row_at ws i)).first ps 1025 r.linked (omega arith))

-- The stream in a position, by its row and its places.
pub stream_row : (ws st : List ℕ) (i : ℕ) (ps : List ℕ) → length ps ≤ 1024 → Row ws (stream_at_words ws (row_at ws i)) ps
    → stream_in ws st i ≡ stream_of (id_at ws i) (stream_at_words ws (row_at ws i)) (each (item_in_words ws st) ps)
unfolding stream_in
stream_row ws st i ps h r = rw (items_row ws st i ps h r)

pub stream_key_in : (ws st : List ℕ) (i : ℕ) → (stream_in ws st i).id ≡ id_at ws i
unfolding stream_in
stream_key_in ws st i = refl

-- A place of a list among those that split the places is one of the table.
one_fits : (x : ℕ) → 1 ≤ one x → x < 1024
unfolding one
one_fits x = go (ltb x 1024) refl
  where
    go : (b : Bool) → ltb x 1024 ≡ b → 1 ≤ pick b 1 0 → x < 1024
    go true e h = ltb-true x 1024 e
    go false e h = absurd (omega arith)

pub free_fits : (q : ℕ → List ℕ) (fr : List ℕ) (x : ℕ) → Split q fr → 1 ≤ count x fr → x < 1024
free_fits q fr x s h = one_fits x (omega (arith, s.once x))

pub row_fits : (q : ℕ → List ℕ) (fr : List ℕ) (x j : ℕ) → Split q fr → j < 256 → 1 ≤ count x (q j) → x < 1024
row_fits q fr x j s l h = one_fits x (omega (arith, s.once x, total_has (count x) q j l))

module _ (ws st : List ℕ) (g : Shape ws st) where
  -- The rows of known streams are below 256.
  pub row_below : (i : ℕ) → i < (totals_at ws).known → row_at ws i < 256
  row_below i h = omega (arith, g.inside i h, g.known_fits)

  pub short : (i : ℕ) → i < (totals_at ws).known → length (g.q i) ≤ 1024
  short i h = row_short g.q g.fr g.split i (omega (arith, g.known_fits))

  pub items_are : (i : ℕ) → i < (totals_at ws).known → items_at ws st i ≡ each (item_in_words ws st) (g.q i)
  items_are i h = items_row ws st i (g.q i) (short i h) (g.rows i h)

  pub stream_is : (i : ℕ) → i < (totals_at ws).known → stream_in ws st i ≡ stream_of (id_at ws i) (stream_at_words ws (row_at ws i)) (each (item_in_words ws st) (g.q i))
  stream_is i h = stream_row ws st i (g.q i) (short i h) (g.rows i h)

-- A stream whose row and whose messages are as they were.
pub stream_frame : (ws st ws' st' : List ℕ) (i : ℕ) (ps : List ℕ) → length ps ≤ 1024 → known_at ws' i ≡ known_at ws i → stream_at_words ws' (row_at ws i) ≡ stream_at_words ws (row_at ws i)
    → Kept ws st ws' st' ps → Row ws (stream_at_words ws (row_at ws i)) ps → stream_in ws' st' i ≡ stream_in ws st i
stream_frame ws st ws' st' i ps h ek es k r =
    let er : row_at ws' i ≡ row_at ws i = ap (λ (x : Known). x.place) ek in
    let es' : stream_at_words ws' (row_at ws' i) ≡ stream_at_words ws (row_at ws i) = rw er es in
    let r' : Row ws' (stream_at_words ws' (row_at ws' i)) ps = row_frame ws st ws' st' (stream_at_words ws (row_at ws i)) (stream_at_words ws' (row_at ws' i)) ps (ap (λ (s : OutgoingStream). s.first) es') (ap (λ (s : OutgoingStream). s.last) es') k r in
    let ed : id_at ws' i ≡ id_at ws i = ap (λ (x : Known). x.id.0) ek in
    let e : stream_of (id_at ws' i) (stream_at_words ws' (row_at ws' i)) (each (item_in_words ws' st') ps) ≡ stream_of (id_at ws i) (stream_at_words ws (row_at ws i)) (each (item_in_words ws st) ps) = rw (es', ed, items_frame ws st ws' st' ps k) in
    stream_row ws' st' i ps h r' ∙ e ∙ sym (stream_row ws st i ps h r)
