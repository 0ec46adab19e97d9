-- A change of the window or of the known streams leaves the rest of good words as it was. Assumes nothing.
use mathlib.Core.Path.{◌≡◌, sym, ap, ap₂, ◌∙◌, subst}
use mathlib.Core.Bool.{Bool, true, false, not}
use mathlib.Core.List.{List, ◌∷◌, ◌++◌, map}
use Prim.Native.Nat.{ℕ, ◌+◌, ◌^◌, ◌≤◌, ◌<◌}
use native.Mathlib.Omega.{arith}
use lib.Dec.{eqb}
use lib.ListN.{length}
use Rattle.queue_words.specs.Flags.{bit, flag}
use Rattle.receiver_model.specs.Lists.{count}
use Rattle.receiver_model.specs.Types.{Chunk, Assembled, Turn}
use Rattle.receiver_model.specs.Assembly.{width}
use Rattle.receiver_model.proofs.Lists.{count_cons, count_append}
use Rattle.receiver_words.specs.Tables.{Header, Buckets, Links, word_at}
use Rattle.receiver_words.specs.Turns.{turn_at}
use Rattle.receiver_words.specs.Fragments.{fragment_at}
use Rattle.receiver_words.specs.Index.{same_key_words, find_row}
use Rattle.receiver_words.specs.Link.{Flags, turn_rows}
use Rattle.receiver_words.specs.Chunks.{kind_of, chunk_of}
use Rattle.receiver_words.specs.declared.fragments.Fragment.{Fragment}
use Rattle.receiver_words.proofs.Rows.{stands_here}
use Rattle.receiver_messages.specs.Keys.{interleaved_of}
use Rattle.receiver_messages.specs.Walks.{is_whole}
use Rattle.receiver_store.specs.Words.{payload_of}
use Rattle.receiver_store.proofs.Laws.{laid_same}
use Rattle.receiver_store.proofs.Packs.{payload_words}
use Rattle.linked_receiver.specs.Rows.{Indexed, Unique, loose_rows}
use Rattle.linked_receiver.specs.Good.{Ghost, Walk, Carried, GoodReceiver, chunk_in, message_in, stands}
use Rattle.linked_receiver.proofs.Lists.{keep_same, count_kept}
use Rattle.linked_receiver.proofs.Found.{find_indexed}
use Rattle.linked_receiver.proofs.Indexes.{indexed_frame}
use Rattle.linked_receiver.proofs.Promotes.{lined_frame}
use Rattle.linked_receiver.proofs.Frees.{Holds, held_rows, held_few, aged_same, free_same}
use Rattle.linked_receiver.proofs.HandsOut.{parts_indexed, first_same}
use Rattle.linked_receiver.proofs.Taken.{rows_one, map_same, good_holds}
use Rattle.linked_receiver.proofs.Held.{walk_by}

-- nothing is changed but the window, the known streams, and words 2 and 3 of the header
pub record Others (ws ws' : List ℕ) : Type 0 where
  pub long : length ws' ≡ length ws
  pub header : (m : ℕ) → m < 16 → (2 ≡ m → ⊥) → (3 ≡ m → ⊥) → word_at Header ws' 0 m ≡ word_at Header ws 0 m
  pub links : (x m : ℕ) → x < 4096 → m < 8 → word_at Links ws' x m ≡ word_at Links ws x m
  pub buckets : (c k : ℕ) → c < 4096 → k < 3 → word_at Buckets ws' c k ≡ word_at Buckets ws c k
  pub fragment : (x : ℕ) → x < 4096 → fragment_at ws' x ≡ fragment_at ws x

-- what is found under a key, of the same rows
find_same : (ws ws' : List ℕ) (k : ℕ) (q : Fragment) (xs : List ℕ) → Indexed ws k xs → Indexed ws' k xs → length xs ≤ 4096 → ((x : ℕ) → 0 < count x xs → fragment_at ws' x ≡ fragment_at ws x)
    → find_row ws' k q ≡ find_row ws k q
find_same ws ws' k q xs ix ix' few same = find_indexed ws' k q xs ix' few ∙ first_same ws ws' k q xs same ∙ sym (find_indexed ws k q xs ix few)

-- the rows with other TSNs ahead
abbrev pub ahead_as : List ℕ → Ghost → Ghost
ahead_as ts g = record { held = g.held; free = g.free; waiting = g.waiting; ready = g.ready; tail = g.tail; ahead = ts }

module _ (g : Ghost) (ws ws' st ts : List ℕ) (d : GoodReceiver g ws st) (s : Others ws ws') where
  abbrev b : Bool
  b = interleaved_of ws

  o : Holds ws st (interleaved_of ws) g.held g.free
  o = good_holds g ws st d

  row : (x : ℕ) → 0 < count x g.held → x < 4096
  row = held_rows ws st b g.held g.free o

  head : (m : ℕ) → m < 16 → (2 ≡ m → ⊥) → (3 ≡ m → ⊥) → word_at Header ws' 0 m ≡ word_at Header ws 0 m
  head = s.header

  pub others_kind : interleaved_of ws' ≡ interleaved_of ws
  others_kind = ap flag (head 0 (omega arith) (λ e. omega arith) (λ e. omega arith))

  index : (k : ℕ) → k < 3 → (xs : List ℕ) → Indexed ws k xs → Indexed ws' k xs
  index k hk xs ix = indexed_frame ws ws' k xs (λ c hc. s.buckets c k hc hk) (λ x c hx. s.links x (5 + k) hx (omega arith)) (λ x c hx. s.fragment x hx) ix

  same_unique : (k : ℕ) → Unique ws k g.held → Unique ws' k g.held
  same_unique k u q x y cx cy sx sy =
      u q x y cx cy (ap (λ (v : Fragment). same_key_words k v q) (sym (s.fragment x (row x cx))) ∙ sx) (ap (λ (v : Fragment). same_key_words k v q) (sym (s.fragment y (row y cy))) ∙ sy)

  same_whole : (x : ℕ) → x < 4096 → is_whole ws' x ≡ is_whole ws x
  same_whole x hx = ap (λ (v : ℕ). eqb v 1) (s.links x 2 hx (omega arith))

  message_held : (m x : ℕ) → 0 < count m (g.waiting ++ g.ready) → 0 < count x (m ∷ g.tail m) → 0 < count x g.held
  message_held m x c k = let a = rows_one g.tail (g.waiting ++ g.ready) m x c in let e = d.whole_held x in omega arith

  parts : Indexed ws (bit b) g.held
  parts = parts_indexed ws st b g.held g.free o

  parts' : Indexed ws' (bit b) g.held
  parts' = index (bit b) (small b) g.held parts
    where
      small : (v : Bool) → bit v < 3
      small true = omega arith
      small false = omega arith

  -- good words with the new window and the new known streams
  pub others_good : Flags ws' (word_at Header ws' 0 2) ts → word_at Header ws' 0 2 < 2 ^ 32 → word_at Header ws' 0 3 ≤ 256
      → ((t : ℕ) → t < word_at Header ws' 0 3 → (turn_at ws' t).next < 2 ^ width (kind_of (interleaved_of ws))) → GoodReceiver (ahead_as ts g) ws' st
  others_good fl lf kf nf = record {
    store_is = head 1 (omega arith) (λ e. omega arith) (λ e. omega arith) ∙ d.store_is;
    store_fits = d.store_fits;
    aged = aged_same ws ws' g.held (λ x c hx. s.links x 3 hx (omega arith)) (λ x c hx. s.links x 4 hx (omega arith)) (head 8 (omega arith) (λ e. omega arith) (λ e. omega arith)) (head 9 (omega arith) (λ e. omega arith) (λ e. omega arith)) d.aged;
    freed = free_same ws ws' g.free (λ x c hx. s.links x 3 hx (omega arith)) (head 7 (omega arith) (λ e. omega arith) (λ e. omega arith)) d.freed;
    cover = d.cover;
    held_is = head 4 (omega arith) (λ e. omega arith) (λ e. omega arith) ∙ d.held_is;
    by_tsn = index 0 (omega arith) g.held d.by_tsn;
    by_place = λ e. index 1 (omega arith) g.held (d.by_place (sym others_kind ∙ e));
    by_number = index 2 (omega arith) g.waiting d.by_number;
    tsn_once = same_unique 0 d.tsn_once;
    place_once = λ e. same_unique 1 (d.place_once (sym others_kind ∙ e));
    carried = λ x c. subst (λ (v : Bool). Carried v (fragment_at ws' x)) (sym others_kind) (subst (λ (v : Fragment). Carried b v) (sym (s.fragment x (row x c))) (d.carried x c));
    whole_held = d.whole_held;
    marked = λ x c. d.marked x c ∙ sym (ap bit (same_whole x (row x c)));
    walks = λ m c. subst (λ (v : Bool). Walk ws' v m (g.tail m)) (sym others_kind)
        (walk_by ws ws' b g.held (λ x k. s.fragment x (row x k)) row
        (λ q x l e. find_same ws ws' (bit b) q g.held parts parts' (held_few ws st b g.held g.free o) (λ y k. s.fragment y (row y k)) ∙ e)
        m (g.tail m) (λ x k. message_held m x c k) (d.walks m c));
    lined = lined_frame ws ws' 10 g.ready (head 10 (omega arith) (λ e. omega arith) (λ e. omega arith)) (head 11 (omega arith) (λ e. omega arith) (λ e. omega arith)) (λ x c hx. s.links x 7 hx (omega arith)) d.lined;
    flags = fl;
    last_fits = lf;
    known_fits = kf;
    next_fits = λ t l. subst (λ (v : Bool). (turn_at ws' t).next < 2 ^ width (kind_of v)) (sym others_kind) (nf t l);
    laid = laid_same ws ws' st g.held s.long (head 5 (omega arith) (λ e. omega arith) (λ e. omega arith)) (head 6 (omega arith) (λ e. omega arith) (λ e. omega arith))
        (λ x c. s.links x 0 (row x c) (omega arith)) (λ x c. s.links x 1 (row x c) (omega arith)) d.laid;
  }

  -- every fragment is as it was
  pub others_chunk : (x : ℕ) → x < 4096 → chunk_in ws' st x ≡ chunk_in ws st x
  others_chunk x hx =
      ap (λ (v : Bool). chunk_of (kind_of v) (fragment_at ws' x) (payload_of ws' st x)) others_kind
      ∙ ap₂ (λ (v : Fragment) (p : List ℕ). chunk_of (kind_of b) v p) (s.fragment x hx) (payload_words ws ws' st x (s.links x 0 hx (omega arith)) (s.links x 1 hx (omega arith)))

  same_message : (m : ℕ) → 0 < count m (g.waiting ++ g.ready) → message_in g.tail ws' st m ≡ message_in g.tail ws st m
  same_message m c =
      ap₂ (λ (e : Chunk) (es : List Chunk). let a : Assembled = record { head = e; tail = es } in a) (others_chunk m (row m (message_held m m c (stands_here m (g.tail m)))))
      (map_same (chunk_in ws' st) (chunk_in ws st) (g.tail m) (λ y k. others_chunk y (row y (message_held m y c (let n = count_cons y m (g.tail m) in omega arith)))))

  -- the receiver with the new window and the new known streams
  pub others_stands : (last : ℕ) (us : List Turn) → word_at Header ws' 0 2 ≡ last → turn_rows ws' 0 (word_at Header ws' 0 3) ≡ us → stands (ahead_as ts g) ws' st ≡ record {
    kind = (stands g ws st).kind;
    store_length = (stands g ws st).store_length;
    last_tsn = last;
    ahead = ts;
    loose = (stands g ws st).loose;
    waiting = (stands g ws st).waiting;
    ready = (stands g ws st).ready;
    turns = us;
  }
  others_stands last us e u = λ p. record {
    kind = kind_of (others_kind p);
    store_length = head 1 (omega arith) (λ z. omega arith) (λ z. omega arith) p;
    last_tsn = e p;
    ahead = ts;
    loose = (map_same (chunk_in ws' st) (chunk_in ws st) (loose_rows ws' g.held) (λ x c. others_chunk x (row x (let m = count_kept x (λ (y : ℕ). not (is_whole ws' y)) g.held in omega arith)))
        ∙ ap (map (chunk_in ws st)) (keep_same (λ (x : ℕ). not (is_whole ws' x)) (λ (x : ℕ). not (is_whole ws x)) g.held (λ x c. ap not (same_whole x (row x c))))) p;
    waiting = map_same (message_in g.tail ws' st) (message_in g.tail ws st) g.waiting (λ x c. same_message x (let a = count_append x g.waiting g.ready in omega arith)) p;
    ready = map_same (message_in g.tail ws' st) (message_in g.tail ws st) g.ready (λ x c. same_message x (let a = count_append x g.waiting g.ready in omega arith)) p;
    turns = u p;
  }
