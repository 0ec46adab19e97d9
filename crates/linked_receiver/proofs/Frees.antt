-- A row that is freed: the held rows, the free ones, the indexes, the counts and the store change by that row, and nothing else is changed. Assumes nothing.
use mathlib.Core.Path.{◌≡◌, refl, sym, ap, ◌∙◌, subst}
use mathlib.Core.Logic.{⊎_elim}
use mathlib.Core.Bool.{Bool, true, false}
use mathlib.Core.List.{List, ◌∷◌}
use Prim.Native.Nat.{ℕ, ◌+◌, ◌-◌, ◌≤◌, ◌<◌}
use native.Mathlib.Omega.{arith}
use lib.ListN.{length}
use Rattle.receiver_model.specs.Lists.{count}
use Rattle.receiver_model.proofs.Lists.{true≢false, count_here, count_there, equal, other, compare_same}
use Rattle.receiver_words.specs.Tables.{Table, Header, Buckets, Fragments, Links, rows, width, distinct, word_at, put_word, row_at}
use Rattle.receiver_words.specs.Fragments.{fragment_of, fragment_at}
use Rattle.receiver_words.specs.Chains.{put_end, unlink_row, give_free}
use Rattle.receiver_words.specs.Index.{bucket_of, unindex_row}
use Rattle.receiver_words.specs.Link.{Linked}
use Rattle.receiver_words.specs.Ages.{without, Both, older, newer, newest, oldest, Aged}
use Rattle.receiver_words.specs.Frames.{Frame}
use Rattle.receiver_words.specs.declared.fragments.Fragment.{Fragment}
use Rattle.receiver_words.proofs.Laws.{word_put_same, word_put_other, word_put_table}
use Rattle.receiver_words.proofs.Linked.{linked_frame, give_linked}
use Rattle.receiver_words.proofs.Rows.{not_among, count_without, count_without_other}
use Rattle.receiver_words.proofs.Ages.{both_frame, both_rows, back_in, unlink_aged}
use Rattle.receiver_words.proofs.Ends.{link_end_other, link_end_beside}
use Rattle.receiver_words.proofs.Frames.{frame_header, unlink_frame, give_frame}
use Rattle.receiver_store.specs.Dropping.{drop_payload}
use Rattle.receiver_store.specs.Good.{Laid}
use Rattle.receiver_store.specs.Promise.{Dropped}
use Rattle.receiver_store.proofs.Laws.{laid_same, drop_law}
use Rattle.receiver_fragments.specs.Freeing.{unindex_held, free_row}
use Rattle.linked_receiver.specs.Rows.{Indexed}
use Rattle.linked_receiver.specs.Kept.{Kept}
use Rattle.linked_receiver.proofs.Found.{bucket_in}
use Rattle.linked_receiver.proofs.Lists.{length_without, few}
use Rattle.linked_receiver.proofs.Keeps.{kept_frame, unindex_kept, kept_fragment}
use Rattle.linked_receiver.proofs.Indexes.{indexed_kept, unindex_indexed}

-- ------------------------------------------------------------------ what freeing rows leaves alone

-- nothing is changed but counts and ends of chains in the header (words 4 to 9), the age chain, the free rows and the first two indexes
pub record Freed (ws ws' : List ℕ) : Type 0 where
  pub long : length ws' ≡ length ws
  pub low : (m : ℕ) → m < 4 → word_at Header ws' 0 m ≡ word_at Header ws 0 m
  pub high : (m : ℕ) → 9 < m → m < 16 → word_at Header ws' 0 m ≡ word_at Header ws 0 m
  pub links : (x m : ℕ) → x < 4096 → m < 3 → word_at Links ws' x m ≡ word_at Links ws x m
  pub messages : (x : ℕ) → x < 4096 → word_at Links ws' x 7 ≡ word_at Links ws x 7
  pub numbers : (x : ℕ) → x < 4096 → word_at Buckets ws' x 2 ≡ word_at Buckets ws x 2
  pub words : (z : Table) (j m : ℕ) → distinct Header z ≡ true → distinct Links z ≡ true → distinct Buckets z ≡ true → j < rows z → m < width z → word_at z ws' j m ≡ word_at z ws j m
  pub tables : (z : Table) (j : ℕ) → distinct Header z ≡ true → distinct Links z ≡ true → distinct Buckets z ≡ true → j < rows z → row_at z ws' j ≡ row_at z ws j

pub freed_none : (ws : List ℕ) → Freed ws ws
freed_none ws = record {
  long = refl;
  low = λ m a. refl;
  high = λ m a b. refl;
  links = λ x m a b. refl;
  messages = λ x a. refl;
  numbers = λ x a. refl;
  words = λ z j m a b c d e. refl;
  tables = λ z j a b c d. refl;
}

pub freed_both : (ws ws' ws'' : List ℕ) → Freed ws ws' → Freed ws' ws'' → Freed ws ws''
freed_both ws ws' ws'' f g = record {
  long = g.long ∙ f.long;
  low = λ m a. g.low m a ∙ f.low m a;
  high = λ m a b. g.high m a b ∙ f.high m a b;
  links = λ x m a b. g.links x m a b ∙ f.links x m a b;
  messages = λ x a. g.messages x a ∙ f.messages x a;
  numbers = λ x a. g.numbers x a ∙ f.numbers x a;
  words = λ z j m a b c d e. g.words z j m a b c d e ∙ f.words z j m a b c d e;
  tables = λ z j a b c d. g.tables z j a b c d ∙ f.tables z j a b c d;
}

freed_kept : (ws ws' : List ℕ) (h h' k k' c : ℕ) → Kept ws ws' h h' k k' c → 3 < h → ((m : ℕ) → 9 < m → m < 16 → h ≡ m → ⊥) → 3 < h' → ((m : ℕ) → 9 < m → m < 16 → h' ≡ m → ⊥) → 2 < k → (k ≡ 7 → ⊥)
    → 2 < k' → (k' ≡ 7 → ⊥) → (c ≡ 2 → ⊥) → Freed ws ws'
freed_kept ws ws' h h' k k' c f l n l' n' p q p' q' r = record {
  long = f.long;
  low = λ m a. f.header m (omega arith) (λ e. omega arith) (λ e. omega arith);
  high = λ m a b. f.header m b (n m a b) (n' m a b);
  links = λ x m a b. f.links x m a (omega arith) (λ e. omega arith) (λ e. omega arith);
  messages = λ x a. f.links x 7 a (omega arith) q q';
  numbers = λ x a. f.buckets x 2 a (omega arith) r;
  words = f.words;
  tables = f.tables;
}

freed_frame : (ws ws' : List ℕ) (h h' k k' : ℕ) → Frame ws ws' h h' k k' → 3 < h → ((m : ℕ) → 9 < m → m < 16 → h ≡ m → ⊥) → 3 < h' → ((m : ℕ) → 9 < m → m < 16 → h' ≡ m → ⊥) → 2 < k → (k ≡ 7 → ⊥)
    → 2 < k' → (k' ≡ 7 → ⊥) → Freed ws ws'
freed_frame ws ws' h h' k k' f l n l' n' p q p' q' = freed_kept ws ws' h h' k k' 3 (kept_frame ws ws' h h' k k' 3 f) l n l' n' p q p' q' (λ e. omega arith)

pub freed_fragment : (ws ws' : List ℕ) → Freed ws ws' → (x : ℕ) → x < 4096 → fragment_at ws' x ≡ fragment_at ws x
freed_fragment ws ws' f x hx = ap fragment_of (f.tables Fragments x refl refl refl hx)

-- ------------------------------------------------------------------ the rows that are held and the rows that are free

pub record Holds (ws st : List ℕ) (b : Bool) (held free : List ℕ) : Type 0 where
  pub aged : Aged ws held
  pub freed : Linked (older ws) (word_at Header ws 0 7) free
  pub cover : (x : ℕ) → x < 4096 → count x held + count x free ≡ 1
  pub held_is : word_at Header ws 0 4 ≡ length held
  pub by_tsn : Indexed ws 0 held
  pub by_place : b ≡ true → Indexed ws 1 held
  pub laid : Laid ws st held

module _ (ws st : List ℕ) (b : Bool) (held free : List ℕ) (o : Holds ws st b held free) where
  pub held_rows : (x : ℕ) → 0 < count x held → x < 4096
  held_rows = both_rows (older ws) (newer ws) (oldest ws) 4096 (newest ws) held o.aged

  pub held_once : (x : ℕ) → count x held ≤ 1
  held_once x = elim (compare_same (count x held) 0) [
    | equal z ↦ omega arith
    | other d ↦ (let c = o.cover x (held_rows x (omega arith)) in omega arith)
  ]

  pub held_few : length held ≤ 4096
  held_few = few 4096 held held_once held_rows

-- chains that are as they were
pub aged_same : (ws ws' xs : List ℕ) → ((x : ℕ) → 0 < count x xs → x < 4096 → older ws' x ≡ older ws x) → ((x : ℕ) → 0 < count x xs → x < 4096 → newer ws' x ≡ newer ws x) → newest ws' ≡ newest ws → oldest ws' ≡ oldest ws → Aged ws xs → Aged ws' xs
aged_same ws ws' xs f g n o a =
    subst (λ (p : ℕ). Both (older ws') (newer ws') 4096 p (oldest ws') xs) (sym n)
    (subst (λ (l : ℕ). Both (older ws') (newer ws') 4096 (newest ws) l xs) (sym o) (both_frame (older ws) (newer ws) (older ws') (newer ws') 4096 (newest ws) (oldest ws) xs f g a))

pub free_same : (ws ws' xs : List ℕ) → ((x : ℕ) → 0 < count x xs → x < 4096 → older ws' x ≡ older ws x) → word_at Header ws' 0 7 ≡ word_at Header ws 0 7 → Linked (older ws) (word_at Header ws 0 7) xs → Linked (older ws') (word_at Header ws' 0 7) xs
free_same ws ws' xs f e l = subst (λ (p : ℕ). Linked (older ws') p xs) (sym e) (linked_frame (older ws) (older ws') (word_at Header ws 0 7) xs f l)

-- ------------------------------------------------------------------ single steps

-- a row that is not held does not change its link when another leaves the age chain
unlink_older : (ws : List ℕ) (i : ℕ) (held : List ℕ) (x : ℕ) → Aged ws held → 0 < count i held → count x held ≡ 0 → x < 4096 → older (unlink_row ws i) x ≡ older ws x
unfolding unlink_row
unlink_older ws i held x a h z hx =
    let o = older ws i in
    let n = newer ws i in
    link_end_beside (put_end ws n 3 8 o) o 4 9 n x 3 hx (omega arith) (omega arith) (omega arith) (λ e. omega arith)
    ∙ link_end_other ws n 3 8 o x 3 hx (omega arith) (omega arith) (omega arith) apart
  where
    apart : newer ws i ≡ x → ⊥
    apart e =
        ⊎_elim (λ m. let w = m.1 in omega arith) (λ m. not_among x (newer ws i) held z m (sym e))
        (back_in (older ws) (newer ws) (oldest ws) i 4096 (newest ws) held a h)

give_older : (ws : List ℕ) (i x : ℕ) → x < 4096 → (i ≡ x → ⊥) → older (give_free ws i) x ≡ older ws x
unfolding give_free
give_older ws i x hx ne =
    word_put_table Header Links (put_word Links ws i 3 (word_at Header ws 0 7)) 0 7 i x 3 refl (omega arith) hx (omega arith) (omega arith)
    ∙ word_put_other Links ws i 3 (word_at Header ws 0 7) x 3 ne (omega arith) (omega arith)

-- ------------------------------------------------------------------ a row found no more

-- the indexes change by row i, nothing else is changed
record Unfound (ws ws' : List ℕ) (b : Bool) (held : List ℕ) (i : ℕ) : Type 0 where
  frame : Freed ws ws'
  header : (m : ℕ) → m < 16 → word_at Header ws' 0 m ≡ word_at Header ws 0 m
  chains : (x m : ℕ) → x < 4096 → m < 5 → word_at Links ws' x m ≡ word_at Links ws x m
  by_tsn : Indexed ws' 0 (without i held)
  by_place : b ≡ true → Indexed ws' 1 (without i held)

module _ (ws st : List ℕ) (held free : List ℕ) (i : ℕ) (h : 0 < count i held) where
  abbrev f : Fragment
  f = fragment_at ws i

  abbrev one : List ℕ
  one = unindex_row ws 0 (bucket_of 0 f) i

  one_kept : Kept ws one 16 16 5 5 0
  one_kept = unindex_kept ws 0 (bucket_of 0 f) i (omega arith) (bucket_in 0 f)

  one_frame : Freed ws one
  one_frame =
      freed_kept ws one 16 16 5 5 0 one_kept (omega arith) (λ m a b e. omega arith) (omega arith) (λ m a b e. omega arith) (omega arith) (λ e. omega arith) (omega arith) (λ e. omega arith)
      (λ e. omega arith)

  abbrev two : List ℕ
  two = unindex_row one 1 (bucket_of 1 f) i

  two_kept : Kept one two 16 16 6 6 1
  two_kept = unindex_kept one 1 (bucket_of 1 f) i (omega arith) (bucket_in 1 f)

  two_frame : Freed one two
  two_frame =
      freed_kept one two 16 16 6 6 1 two_kept (omega arith) (λ m a b e. omega arith) (omega arith) (λ m a b e. omega arith) (omega arith) (λ e. omega arith) (omega arith) (λ e. omega arith)
      (λ e. omega arith)

  module _ (b : Bool) (o : Holds ws st b held free) where
    hi : i < 4096
    hi = held_rows ws st b held free o i h

    first_out : Indexed one 0 (without i held)
    first_out = unindex_indexed ws 0 i held o.laid.long (omega arith) hi o.by_tsn (held_once ws st b held free o) (held_few ws st b held free o) h

    place_kept : b ≡ true → Indexed one 1 held
    place_kept e = indexed_kept ws one 16 16 5 5 0 1 held one_kept (omega arith) (λ z. omega arith) (λ z. omega arith) (λ z. omega arith) (o.by_place e)

  unfound_data : Holds ws st false held free → Unfound ws one false held i
  unfound_data o = record {
    frame = one_frame;
    header = λ m a. one_kept.header m a (λ e. omega arith) (λ e. omega arith);
    chains = λ x m a c. one_kept.links x m a (omega arith) (λ e. omega arith) (λ e. omega arith);
    by_tsn = first_out false o;
    by_place = λ e. absurd (true≢false e refl);
  }

  unfound_i_data : Holds ws st true held free → Unfound ws two true held i
  unfound_i_data o = record {
    frame = freed_both ws one two one_frame two_frame;
    header = λ m a. two_kept.header m a (λ e. omega arith) (λ e. omega arith) ∙ one_kept.header m a (λ e. omega arith) (λ e. omega arith);
    chains = λ x m a c. two_kept.links x m a (omega arith) (λ e. omega arith) (λ e. omega arith) ∙ one_kept.links x m a (omega arith) (λ e. omega arith) (λ e. omega arith);
    by_tsn = indexed_kept one two 16 16 6 6 1 0 (without i held) two_kept (omega arith) (λ z. omega arith) (λ z. omega arith) (λ z. omega arith) (first_out true o);
    by_place = λ e. subst (λ (g : Fragment). Indexed (unindex_row one 1 (bucket_of 1 g) i) 1 (without i held)) (kept_fragment ws one 16 16 5 5 0 one_kept i (hi true o))
        (unindex_indexed one 1 i held (one_kept.long ∙ o.laid.long) (omega arith) (hi true o) (place_kept true o refl) (held_once ws st true held free o) (held_few ws st true held free o) h);
  }

unfound : (ws st : List ℕ) (b : Bool) (held free : List ℕ) (i : ℕ) → Holds ws st b held free → 0 < count i held → Unfound ws (unindex_held ws b (fragment_at ws i) i) b held i
unfolding unindex_held
unfound ws st true held free i o h = unfound_i_data ws st held free i h o
unfound ws st false held free i o h = unfound_data ws st held free i h o

-- ------------------------------------------------------------------ a row freed

module _ (ws st : List ℕ) (b : Bool) (held free : List ℕ) (i : ℕ) (o : Holds ws st b held free) (h : 0 < count i held) where
  abbrev ws1 : List ℕ
  ws1 = unindex_held ws b (fragment_at ws i) i

  u : Unfound ws ws1 b held i
  u = unfound ws st b held free i o h

  hi' : i < 4096
  hi' = held_rows ws st b held free o i h

  rows_of : (x : ℕ) → 0 < count x held → x < 4096
  rows_of = held_rows ws st b held free o

  once_of : (x : ℕ) → count x held ≤ 1
  once_of = held_once ws st b held free o

  not_free : count i free ≡ 0
  not_free = let c = o.cover i hi' in omega arith

  free_not : (x : ℕ) → 0 < count x free → x < 4096 → count x held ≡ 0
  free_not x c hx = let k = o.cover x hx in omega arith

  aged1 : Aged ws1 held
  aged1 = aged_same ws ws1 held (λ x c hx. u.chains x 3 hx (omega arith)) (λ x c hx. u.chains x 4 hx (omega arith)) (u.header 8 (omega arith)) (u.header 9 (omega arith)) o.aged

  free1 : Linked (older ws1) (word_at Header ws1 0 7) free
  free1 = free_same ws ws1 free (λ x c hx. u.chains x 3 hx (omega arith)) (u.header 7 (omega arith)) o.freed

  laid1 : Laid ws1 st held
  laid1 =
      laid_same ws ws1 st held u.frame.long (u.header 5 (omega arith)) (u.header 6 (omega arith)) (λ x c. u.chains x 0 (rows_of x c) (omega arith)) (λ x c. u.chains x 1 (rows_of x c) (omega arith)) o.laid

  abbrev ws2 : List ℕ
  ws2 = unlink_row ws1 i

  frame2 : Frame ws1 ws2 8 9 3 4
  frame2 = unlink_frame ws1 i

  aged2 : Aged ws2 (without i held)
  aged2 = unlink_aged ws1 i held laid1.long hi' aged1 once_of h

  free2 : Linked (older ws2) (word_at Header ws2 0 7) free
  free2 =
      free_same ws1 ws2 free (λ x c hx. unlink_older ws1 i held x aged1 h (free_not x c hx) hx) (frame2.header 7 (omega arith) (λ e. omega arith) (λ e. omega arith)) free1

  laid2 : Laid ws2 st held
  laid2 =
      laid_same ws1 ws2 st held frame2.long (frame2.header 5 (omega arith) (λ e. omega arith) (λ e. omega arith)) (frame2.header 6 (omega arith) (λ e. omega arith) (λ e. omega arith))
      (λ x c. frame2.links x 0 (rows_of x c) (omega arith) (λ e. omega arith) (λ e. omega arith))
      (λ x c. frame2.links x 1 (rows_of x c) (omega arith) (λ e. omega arith) (λ e. omega arith)) laid1

  abbrev ws3 : List ℕ
  ws3 = drop_payload ws2 i

  dropped : Dropped ws2 st (without i held) i ws3
  dropped = drop_law ws2 st held i laid2 once_of h aged2

  frame3 : Frame ws2 ws3 5 6 8 8
  frame3 = dropped.frame

  links3 : (x m : ℕ) → x < 4096 → m < 8 → word_at Links ws3 x m ≡ word_at Links ws2 x m
  links3 x m hx hm = frame3.links x m hx hm (λ e. omega arith) (λ e. omega arith)

  header3 : (m : ℕ) → 6 < m → m < 16 → word_at Header ws3 0 m ≡ word_at Header ws2 0 m
  header3 m a c = frame3.header m c (λ e. omega arith) (λ e. omega arith)

  aged3 : Aged ws3 (without i held)
  aged3 = aged_same ws2 ws3 (without i held) (λ x c hx. links3 x 3 hx (omega arith)) (λ x c hx. links3 x 4 hx (omega arith)) (header3 8 (omega arith) (omega arith)) (header3 9 (omega arith) (omega arith)) aged2

  free3 : Linked (older ws3) (word_at Header ws3 0 7) free
  free3 = free_same ws2 ws3 free (λ x c hx. links3 x 3 hx (omega arith)) (header3 7 (omega arith) (omega arith)) free2

  abbrev ws4 : List ℕ
  ws4 = give_free ws3 i

  frame4 : Frame ws3 ws4 7 7 3 3
  frame4 = give_frame ws3 i hi'

  less : (x : ℕ) → 0 < count x (without i held) → x < 4096
  less x c = both_rows (older ws3) (newer ws3) (oldest ws3) 4096 (newest ws3) (without i held) aged3 x c

  aged4 : Aged ws4 (without i held)
  aged4 =
      aged_same ws3 ws4 (without i held) (λ x c hx. give_older ws3 i x hx (not_among i x (without i held) (count_without i held) c))
      (λ x c hx. frame4.links x 4 hx (omega arith) (λ e. omega arith) (λ e. omega arith))
      (frame4.header 8 (omega arith) (λ e. omega arith) (λ e. omega arith))
      (frame4.header 9 (omega arith) (λ e. omega arith) (λ e. omega arith))
      aged3

  free4 : Linked (older ws4) (word_at Header ws4 0 7) (i ∷ free)
  free4 = give_linked ws3 i free dropped.laid.long hi' not_free free3

  laid4 : Laid ws4 st (without i held)
  laid4 =
      laid_same ws3 ws4 st (without i held) frame4.long (frame4.header 5 (omega arith) (λ e. omega arith) (λ e. omega arith)) (frame4.header 6 (omega arith) (λ e. omega arith) (λ e. omega arith))
      (λ x c. frame4.links x 0 (less x c) (omega arith) (λ e. omega arith) (λ e. omega arith))
      (λ x c. frame4.links x 1 (less x c) (omega arith) (λ e. omega arith) (λ e. omega arith)) dropped.laid

  abbrev ws5 : List ℕ
  ws5 = put_word Header ws4 0 4 (word_at Header ws4 0 4 - 1)

  frame5 : Frame ws4 ws5 4 4 8 8
  frame5 = frame_header ws4 (word_at Header ws4 0 4 - 1) 4 4 8 8 (omega arith)

  links5 : (x m : ℕ) → x < 4096 → m < 8 → word_at Links ws5 x m ≡ word_at Links ws4 x m
  links5 x m hx hm = frame5.links x m hx hm (λ e. omega arith) (λ e. omega arith)

  header5 : (m : ℕ) → 4 < m → m < 16 → word_at Header ws5 0 m ≡ word_at Header ws4 0 m
  header5 m a c = frame5.header m c (λ e. omega arith) (λ e. omega arith)

  -- the indexes, over the steps that leave them
  later : (k : ℕ) → k < 2 → Indexed ws1 k (without i held) → Indexed ws5 k (without i held)
  later k hk ix =
      indexed_kept ws4 ws5 4 4 8 8 3 k (without i held) (kept_frame ws4 ws5 4 4 8 8 3 frame5) (omega arith) (λ z. omega arith) (λ z. omega arith) (λ z. omega arith)
      (indexed_kept ws3 ws4 7 7 3 3 3 k (without i held) (kept_frame ws3 ws4 7 7 3 3 3 frame4) (omega arith) (λ z. omega arith) (λ z. omega arith) (λ z. omega arith)
      (indexed_kept ws2 ws3 5 6 8 8 3 k (without i held) (kept_frame ws2 ws3 5 6 8 8 3 frame3) (omega arith) (λ z. omega arith) (λ z. omega arith) (λ z. omega arith)
      (indexed_kept ws1 ws2 8 9 3 4 3 k (without i held) (kept_frame ws1 ws2 8 9 3 4 3 frame2) (omega arith) (λ z. omega arith) (λ z. omega arith) (λ z. omega arith) ix)))

  count4 : word_at Header ws4 0 4 ≡ length held
  count4 =
      frame4.header 4 (omega arith) (λ e. omega arith) (λ e. omega arith)
      ∙ frame3.header 4 (omega arith) (λ e. omega arith) (λ e. omega arith)
      ∙ frame2.header 4 (omega arith) (λ e. omega arith) (λ e. omega arith)
      ∙ u.header 4 (omega arith)
      ∙ o.held_is

  covers : (x : ℕ) → x < 4096 → count x (without i held) + count x (i ∷ free) ≡ 1
  covers x hx = elim (compare_same i x) [
    | equal s ↦ (let a = count_here x i free s in let z : count x (without i held) ≡ 0 = ap (λ (y : ℕ). count y (without i held)) (sym s) ∙ count_without i held in
        let f : count x free ≡ 0 = ap (λ (y : ℕ). count y free) (sym s) ∙ not_free in omega arith)
    | other d ↦ (let a = count_there x i free d in let w = count_without_other i x held (λ e. d (sym e)) in let c = o.cover x hx in omega arith)
  ]

  holds5 : Holds ws5 st b (without i held) (i ∷ free)
  holds5 = record {
    aged = aged_same ws4 ws5 (without i held) (λ x c hx. links5 x 3 hx (omega arith)) (λ x c hx. links5 x 4 hx (omega arith)) (header5 8 (omega arith) (omega arith)) (header5 9 (omega arith) (omega arith)) aged4;
    freed = free_same ws4 ws5 (i ∷ free) (λ x c hx. links5 x 3 hx (omega arith)) (header5 7 (omega arith) (omega arith)) free4;
    cover = covers;
    held_is = let a = word_put_same Header ws4 0 4 (word_at Header ws4 0 4 - 1) laid4.long (omega arith) (omega arith) in let l = length_without i held once_of h in let c = count4 in omega arith;
    by_tsn = later 0 (omega arith) u.by_tsn;
    by_place = λ e. later 1 (omega arith) (u.by_place e);
    laid = laid_same ws4 ws5 st (without i held) frame5.long (header5 5 (omega arith) (omega arith)) (header5 6 (omega arith) (omega arith)) (λ x c. links5 x 0 (less x c) (omega arith)) (λ x c. links5 x 1 (less x c) (omega arith)) laid4;
  }

  freed5 : Freed ws ws5
  freed5 =
      freed_both ws ws1 ws5 u.frame
      (freed_both ws1 ws2 ws5
      (freed_frame ws1 ws2 8 9 3 4 frame2 (omega arith) (λ m a c e. omega arith) (omega arith) (λ m a c e. omega arith) (omega arith) (λ e. omega arith) (omega arith) (λ e. omega arith))
      (freed_both ws2 ws3 ws5
      (freed_frame ws2 ws3 5 6 8 8 frame3 (omega arith) (λ m a c e. omega arith) (omega arith) (λ m a c e. omega arith) (omega arith) (λ e. omega arith) (omega arith) (λ e. omega arith))
      (freed_both ws3 ws4 ws5
      (freed_frame ws3 ws4 7 7 3 3 frame4 (omega arith) (λ m a c e. omega arith) (omega arith) (λ m a c e. omega arith) (omega arith) (λ e. omega arith) (omega arith) (λ e. omega arith))
      (freed_frame ws4 ws5 4 4 8 8 frame5 (omega arith) (λ m a c e. omega arith) (omega arith) (λ m a c e. omega arith) (omega arith) (λ e. omega arith) (omega arith) (λ e. omega arith)))))

  -- THE THEOREM of freeing a row
  pub free_law : Holds (free_row ws b (fragment_at ws i) i) st b (without i held) (i ∷ free) × Freed ws (free_row ws b (fragment_at ws i) i)
  unfolding free_row
  free_law = (holds5, freed5)
