-- A fragment is held in a free row: the held rows, the free ones, the indexes, the count and the store change by that row, and nothing else is changed.
-- Assumes nothing.
use mathlib.Core.Path.{◌≡◌, refl, sym, ap, ◌∙◌, subst}
use mathlib.Core.Bool.{Bool, true, false}
use mathlib.Core.List.{List, ◌∷◌}
use Prim.Native.Nat.{ℕ, ◌+◌, ◌%◌, ◌≤◌, ◌<◌}
use native.Mathlib.Omega.{arith}
use lib.Dec.{eqb}
use lib.ListN.{length}
use Rattle.queue_words.specs.Flags.{pick, flag}
use Rattle.payload_store.specs.Putting.{Outcome}
use Rattle.receiver_model.specs.Lists.{count}
use Rattle.receiver_model.proofs.Lists.{count_here, count_there, equal, other, compare_same}
use Rattle.receiver_words.specs.Tables.{Table, Header, Turns, Ahead, Buckets, Fragments, Links, rows, width, distinct, word_at, put_word}
use Rattle.receiver_words.specs.Ahead.{ahead_at}
use Rattle.receiver_words.specs.Turns.{turn_of, turn_at}
use Rattle.receiver_words.specs.Fragments.{fragment_of, fragment_words, fragment_at, put_fragment, FitsFragment}
use Rattle.receiver_words.specs.Chains.{RowOutcome, take_free, put_end, link_newest}
use Rattle.receiver_words.specs.Index.{bucket_of, index_row}
use Rattle.receiver_words.specs.Link.{Linked}
use Rattle.receiver_words.specs.Ages.{older, Aged}
use Rattle.receiver_words.specs.declared.fragments.Fragment.{Fragment}
use Rattle.receiver_words.proofs.Laws.{whole_put_row, word_put_same, word_put_other, word_put_table, word_put_row_table, row_put_table, row_put_other_row}
use Rattle.receiver_words.proofs.Records.{fragment_at_put}
use Rattle.receiver_words.proofs.Linked.{take_first, take_linked}
use Rattle.receiver_words.proofs.Rows.{not_among}
use Rattle.receiver_words.proofs.Ages.{link_aged}
use Rattle.receiver_words.proofs.Ends.{link_end_beside}
use Rattle.receiver_words.proofs.Frames.{frame_link, frame_header, link_frame}
use Rattle.receiver_messages.specs.Walks.{is_whole}
use Rattle.receiver_store.specs.Words.{used_of, payload_of}
use Rattle.receiver_store.specs.Putting.{put_payload}
use Rattle.receiver_store.specs.Good.{Laid}
use Rattle.receiver_store.specs.Promise.{Put}
use Rattle.receiver_store.proofs.Packs.{payload_words}
use Rattle.receiver_store.proofs.Laws.{laid_same, put_law}
use Rattle.receiver_fragments.specs.Holding.{kept, hold, link_held, index_held}
use Rattle.linked_receiver.specs.Rows.{Indexed}
use Rattle.linked_receiver.specs.Kept.{Kept}
use Rattle.linked_receiver.proofs.Found.{bucket_in}
use Rattle.linked_receiver.proofs.Keeps.{kept_none, kept_frame, kept_fragment, kept_turn, index_kept}
use Rattle.linked_receiver.proofs.Indexes.{indexed_frame, indexed_kept, index_indexed}
use Rattle.linked_receiver.proofs.Frees.{Holds, held_rows, held_once, held_few, aged_same, free_same}

-- ------------------------------------------------------------------ what holding a row leaves alone

-- nothing is changed but counts and ends of chains in the header (words 4 to 9), the age chain, the free rows, places and lengths, the first two
-- indexes, and row i
pub record Grown (ws ws' : List ℕ) (i : ℕ) : Type 0 where
  pub long : length ws' ≡ length ws
  pub low : (m : ℕ) → m < 4 → word_at Header ws' 0 m ≡ word_at Header ws 0 m
  pub high : (m : ℕ) → 9 < m → m < 16 → word_at Header ws' 0 m ≡ word_at Header ws 0 m
  pub whole : (x : ℕ) → x < 4096 → (i ≡ x → ⊥) → is_whole ws' x ≡ is_whole ws x
  pub messages : (x : ℕ) → x < 4096 → word_at Links ws' x 7 ≡ word_at Links ws x 7
  pub numbers : (x : ℕ) → x < 4096 → word_at Buckets ws' x 2 ≡ word_at Buckets ws x 2
  pub fragment : (x : ℕ) → x < 4096 → (i ≡ x → ⊥) → fragment_at ws' x ≡ fragment_at ws x
  pub turn : (t : ℕ) → t < 256 → turn_at ws' t ≡ turn_at ws t
  pub ahead : (t : ℕ) → ahead_at ws' t ≡ ahead_at ws t

grown_both : (ws ws' ws'' : List ℕ) (i : ℕ) → Grown ws ws' i → Grown ws' ws'' i → Grown ws ws'' i
grown_both ws ws' ws'' i f g = record {
  long = g.long ∙ f.long;
  low = λ m a. g.low m a ∙ f.low m a;
  high = λ m a b. g.high m a b ∙ f.high m a b;
  whole = λ x a b. g.whole x a b ∙ f.whole x a b;
  messages = λ x a. g.messages x a ∙ f.messages x a;
  numbers = λ x a. g.numbers x a ∙ f.numbers x a;
  fragment = λ x a b. g.fragment x a b ∙ f.fragment x a b;
  turn = λ t a. g.turn t a ∙ f.turn t a;
  ahead = λ t. g.ahead t ∙ f.ahead t;
}

-- words 4 to 9 of the header, or none
abbrev Inner : ℕ → Type 0
Inner h = (m : ℕ) → m < 16 → (3 < m → m < 10 → ⊥) → h ≡ m → ⊥

grown_kept : (ws ws' : List ℕ) (i h h' k k' c : ℕ) → Kept ws ws' h h' k k' c → Inner h → Inner h' → ((x : ℕ) → x < 4096 → (i ≡ x → ⊥) → word_at Links ws' x 2 ≡ word_at Links ws x 2)
    → (k ≡ 7 → ⊥) → (k' ≡ 7 → ⊥) → (c ≡ 2 → ⊥) → Grown ws ws' i
grown_kept ws ws' i h h' k k' c f n n' two q q' r = record {
  long = f.long;
  low = λ m a. f.header m (omega arith) (n m (omega arith) (λ u v. omega arith)) (n' m (omega arith) (λ u v. omega arith));
  high = λ m a b. f.header m b (n m b (λ u v. omega arith)) (n' m b (λ u v. omega arith));
  whole = λ x a b. ap (λ (v : ℕ). eqb v 1) (two x a b);
  messages = λ x a. f.links x 7 a (omega arith) q q';
  numbers = λ x a. f.buckets x 2 a (omega arith) r;
  fragment = λ x a b. kept_fragment ws ws' h h' k k' c f x a;
  turn = λ t a. kept_turn ws ws' h h' k k' c f t a;
  ahead = λ t. ap flag (f.words Ahead (t % 1024) 0 refl refl refl (omega arith) (omega arith));
}

-- the older row of another, after one becomes the newest
newest_older : (ws : List ℕ) (i x : ℕ) → x < 4096 → i < 4096 → (i ≡ x → ⊥) → older (link_newest ws i) x ≡ older ws x
unfolding link_newest
newest_older ws i x hx hi ne =
    let n = word_at Header ws 0 8 in
    let a = put_word Links ws i 3 n in
    let b = put_word Links a i 4 4096 in
    let c = put_end b n 4 9 i in
    word_put_table Header Links c 0 8 i x 3 refl (omega arith) hx (omega arith) (omega arith)
    ∙ link_end_beside b n 4 9 i x 3 hx (omega arith) (omega arith) (omega arith) (λ z. omega arith)
    ∙ word_put_other Links a i 4 4096 x 3 ne (omega arith) (omega arith)
    ∙ word_put_other Links ws i 3 n x 3 ne (omega arith) (omega arith)

-- ------------------------------------------------------------------ row i holds the fragment f with the payload bs

module _ (ws st : List ℕ) (b : Bool) (held : List ℕ) (i : ℕ) (others : List ℕ) (o : Holds ws st b held (i ∷ others)) (f : Fragment) (bs : List ℕ) (fits : FitsFragment f)
    (room : used_of ws + length bs ≤ length st) where
  hi : i < 4096
  hi = o.freed.1

  once : (x : ℕ) → count x held ≤ 1
  once = held_once ws st b held (i ∷ others) o

  row : (x : ℕ) → 0 < count x held → x < 4096
  row = held_rows ws st b held (i ∷ others) o

  -- it was free
  new : count i held ≡ 0
  new = let a = o.cover i hi in let c = count_here i i others refl in omega arith

  apart : (x : ℕ) → 0 < count x held → i ≡ x → ⊥
  apart x h = not_among i x held new h

  only : count i others ≡ 0
  only = let a = o.cover i hi in let c = count_here i i others refl in omega arith

  long : length ws ≡ 83472
  long = o.laid.long

  abbrev pub w1 : List ℕ
  w1 = (take_free ws).words

  abbrev pub put : Outcome
  put = put_payload w1 st i bs

  abbrev pub w2 : List ℕ
  w2 = put.words

  abbrev pub w3 : List ℕ
  w3 = put_fragment w2 i f

  abbrev pub w4 : List ℕ
  w4 = put_word Links w3 i 2 0

  abbrev pub w5 : List ℕ
  w5 = link_newest w4 i

  abbrev pub w6 : List ℕ
  w6 = index_row w5 0 (bucket_of 0 f) i

  abbrev pub w7 : List ℕ
  w7 = pick b (index_row w6 1 (bucket_of 1 f) i) w6

  abbrev pub w8 : List ℕ
  w8 = put_word Header w7 0 4 (word_at Header ws 0 4 + 1)

  -- ---------------------------------------------------------------- the steps

  k1 : Kept ws w1 7 7 8 8 3
  k1 =
      subst (λ (r : RowOutcome). Kept ws r.words 7 7 8 8 3) (sym (take_first ws i others o.freed))
      (kept_frame ws (put_word Header ws 0 7 (older ws i)) 7 7 8 8 3 (frame_header ws (older ws i) 7 7 8 8 (omega arith)))

  aged1 : Aged w1 held
  aged1 =
      aged_same ws w1 held (λ x c hx. k1.links x 3 hx (omega arith) (λ e. omega arith) (λ e. omega arith)) (λ x c hx. k1.links x 4 hx (omega arith) (λ e. omega arith) (λ e. omega arith))
      (k1.header 8 (omega arith) (λ e. omega arith) (λ e. omega arith)) (k1.header 9 (omega arith) (λ e. omega arith) (λ e. omega arith)) o.aged

  used1 : used_of w1 ≡ used_of ws
  used1 = k1.header 5 (omega arith) (λ e. omega arith) (λ e. omega arith)

  laid1 : Laid w1 st held
  laid1 =
      laid_same ws w1 st held k1.long used1 (k1.header 6 (omega arith) (λ e. omega arith) (λ e. omega arith))
      (λ x c. k1.links x 0 (row x c) (omega arith) (λ e. omega arith) (λ e. omega arith)) (λ x c. k1.links x 1 (row x c) (omega arith) (λ e. omega arith) (λ e. omega arith)) o.laid

  pub puts : Put (take_free ws).words st held i bs (put_payload (take_free ws).words st i bs)
  puts = put_law w1 st held laid1 aged1 once (held_few ws st b held (i ∷ others) o) i bs hi new (let u = used1 in omega arith)

  k2 : Kept w1 w2 5 6 0 1 3
  k2 = kept_frame w1 w2 5 6 0 1 3 puts.frame

  long2 : length w2 ≡ 83472
  long2 = k2.long ∙ k1.long ∙ long

  -- the fragment
  words3 : (z : Table) (j m : ℕ) → distinct Fragments z ≡ true → j < rows z → m < width z → word_at z w3 j m ≡ word_at z w2 j m
  words3 z j m d hj hm = word_put_row_table Fragments z w2 i (fragment_words f) j m d hi hj (omega arith) hm

  long3 : length w3 ≡ 83472
  long3 = whole_put_row Fragments w2 i (fragment_words f) ∙ long2

  grown3 : Grown w2 w3 i
  grown3 = record {
    long = whole_put_row Fragments w2 i (fragment_words f);
    low = λ m a. words3 Header 0 m refl (omega arith) (omega arith);
    high = λ m a c. words3 Header 0 m refl (omega arith) c;
    whole = λ x a c. ap (λ (v : ℕ). eqb v 1) (words3 Links x 2 refl a (omega arith));
    messages = λ x a. words3 Links x 7 refl a (omega arith);
    numbers = λ x a. words3 Buckets x 2 refl a (omega arith);
    fragment = λ x a ne. ap fragment_of (row_put_other_row Fragments w2 i (fragment_words f) x ne (omega arith));
    turn = λ t a. ap turn_of (row_put_table Fragments Turns w2 i (fragment_words f) t refl hi a (omega arith));
    ahead = λ t. ap flag (words3 Ahead (t % 1024) 0 refl (omega arith) (omega arith));
  }

  k4 : Kept w3 w4 16 16 2 2 3
  k4 = kept_frame w3 w4 16 16 2 2 3 (frame_link w3 i 0 16 16 2 2 hi (omega arith))

  long4 : length w4 ≡ 83472
  long4 = k4.long ∙ long3

  k5 : Kept w4 w5 8 9 3 4 3
  k5 = kept_frame w4 w5 8 9 3 4 3 (link_frame w4 i hi)

  long5 : length w5 ≡ 83472
  long5 = k5.long ∙ long4

  k6 : Kept w5 w6 16 16 5 5 0
  k6 = index_kept w5 0 (bucket_of 0 f) i (omega arith) (bucket_in 0 f) hi

  long6 : length w6 ≡ 83472
  long6 = k6.long ∙ long5

  k7 : Kept w6 w7 16 16 6 6 1
  k7 = by_kind b
    where
      by_kind : (v : Bool) → Kept w6 (pick v (index_row w6 1 (bucket_of 1 f) i) w6) 16 16 6 6 1
      by_kind true = index_kept w6 1 (bucket_of 1 f) i (omega arith) (bucket_in 1 f) hi
      by_kind false = kept_none w6 16 16 6 6 1

  long7 : length w7 ≡ 83472
  long7 = k7.long ∙ long6

  k8 : Kept w7 w8 4 4 8 8 3
  k8 = kept_frame w7 w8 4 4 8 8 3 (frame_header w7 (word_at Header ws 0 4 + 1) 4 4 8 8 (omega arith))

  -- ---------------------------------------------------------------- what is left alone

  pub grown : Grown ws w8 i
  grown =
      grown_both ws w1 w8 i (grown_kept ws w1 i 7 7 8 8 3 k1 (λ m a n e. n (omega arith) (omega arith)) (λ m a n e. n (omega arith) (omega arith)) (λ x a ne. k1.links x 2 a (omega arith) (λ e. omega arith) (λ e. omega arith)) (λ e. omega arith) (λ e. omega arith) (λ e. omega arith))
      (grown_both w1 w2 w8 i (grown_kept w1 w2 i 5 6 0 1 3 k2 (λ m a n e. n (omega arith) (omega arith)) (λ m a n e. n (omega arith) (omega arith)) (λ x a ne. k2.links x 2 a (omega arith) (λ e. omega arith) (λ e. omega arith)) (λ e. omega arith) (λ e. omega arith) (λ e. omega arith))
      (grown_both w2 w3 w8 i grown3
      (grown_both w3 w4 w8 i (grown_kept w3 w4 i 16 16 2 2 3 k4 (λ m a n e. omega arith) (λ m a n e. omega arith) (λ x a ne. word_put_other Links w3 i 2 0 x 2 ne (omega arith) (omega arith)) (λ e. omega arith) (λ e. omega arith) (λ e. omega arith))
      (grown_both w4 w5 w8 i (grown_kept w4 w5 i 8 9 3 4 3 k5 (λ m a n e. n (omega arith) (omega arith)) (λ m a n e. n (omega arith) (omega arith)) (λ x a ne. k5.links x 2 a (omega arith) (λ e. omega arith) (λ e. omega arith)) (λ e. omega arith) (λ e. omega arith) (λ e. omega arith))
      (grown_both w5 w6 w8 i (grown_kept w5 w6 i 16 16 5 5 0 k6 (λ m a n e. omega arith) (λ m a n e. omega arith) (λ x a ne. k6.links x 2 a (omega arith) (λ e. omega arith) (λ e. omega arith)) (λ e. omega arith) (λ e. omega arith) (λ e. omega arith))
      (grown_both w6 w7 w8 i (grown_kept w6 w7 i 16 16 6 6 1 k7 (λ m a n e. omega arith) (λ m a n e. omega arith) (λ x a ne. k7.links x 2 a (omega arith) (λ e. omega arith) (λ e. omega arith)) (λ e. omega arith) (λ e. omega arith) (λ e. omega arith))
      (grown_kept w7 w8 i 4 4 8 8 3 k8 (λ m a n e. n (omega arith) (omega arith)) (λ m a n e. n (omega arith) (omega arith)) (λ x a ne. k8.links x 2 a (omega arith) (λ e. omega arith) (λ e. omega arith)) (λ e. omega arith) (λ e. omega arith) (λ e. omega arith))))))))

  -- ---------------------------------------------------------------- row i

  fragment3 : fragment_at w3 i ≡ f
  fragment3 = fragment_at_put w2 i f long2 hi fits

  fragment5 : fragment_at w5 i ≡ f
  fragment5 = kept_fragment w4 w5 8 9 3 4 3 k5 i hi ∙ kept_fragment w3 w4 16 16 2 2 3 k4 i hi ∙ fragment3

  fragment6 : fragment_at w6 i ≡ f
  fragment6 = kept_fragment w5 w6 16 16 5 5 0 k6 i hi ∙ fragment5

  pub its_fragment : fragment_at w8 i ≡ f
  its_fragment = kept_fragment w7 w8 4 4 8 8 3 k8 i hi ∙ kept_fragment w6 w7 16 16 6 6 1 k7 i hi ∙ fragment6

  -- from row 4 on
  links8 : (x m : ℕ) → x < 4096 → m < 8 → (5 ≡ m → ⊥) → (6 ≡ m → ⊥) → word_at Links w8 x m ≡ word_at Links w5 x m
  links8 x m hx hm n5 n6 = k8.links x m hx hm (λ e. omega arith) (λ e. omega arith) ∙ k7.links x m hx hm n6 n6 ∙ k6.links x m hx hm n5 n5

  header8 : (m : ℕ) → m < 16 → (4 ≡ m → ⊥) → word_at Header w8 0 m ≡ word_at Header w5 0 m
  header8 m hm n4 = k8.header m hm n4 n4 ∙ k7.header m hm (λ e. omega arith) (λ e. omega arith) ∙ k6.header m hm (λ e. omega arith) (λ e. omega arith)

  pub not_whole : is_whole w8 i ≡ false
  not_whole = ap (λ (v : ℕ). eqb v 1) (links8 i 2 hi (omega arith) (λ e. omega arith) (λ e. omega arith) ∙ k5.links i 2 hi (omega arith) (λ e. omega arith) (λ e. omega arith) ∙ word_put_same Links w3 i 2 0 long3 hi (omega arith))

  -- ---------------------------------------------------------------- up to the age chain

  links4 : (x m : ℕ) → x < 4096 → m < 8 → 2 < m → word_at Links w4 x m ≡ word_at Links w1 x m
  links4 x m hx hm h2 = k4.links x m hx hm (λ e. omega arith) (λ e. omega arith) ∙ words3 Links x m refl hx hm ∙ k2.links x m hx hm (λ e. omega arith) (λ e. omega arith)

  header4 : (m : ℕ) → m < 16 → (5 ≡ m → ⊥) → (6 ≡ m → ⊥) → word_at Header w4 0 m ≡ word_at Header w1 0 m
  header4 m hm n5 n6 = k4.header m hm (λ e. omega arith) (λ e. omega arith) ∙ words3 Header 0 m refl (omega arith) hm ∙ k2.header m hm n5 n6

  aged8 : Aged w8 (i ∷ held)
  aged8 =
      aged_same w5 w8 (i ∷ held) (λ x c hx. links8 x 3 hx (omega arith) (λ e. omega arith) (λ e. omega arith)) (λ x c hx. links8 x 4 hx (omega arith) (λ e. omega arith) (λ e. omega arith))
      (header8 8 (omega arith) (λ e. omega arith)) (header8 9 (omega arith) (λ e. omega arith))
      (link_aged w4 i long4 hi held
      (aged_same w1 w4 held (λ x c hx. links4 x 3 hx (omega arith) (omega arith)) (λ x c hx. links4 x 4 hx (omega arith) (omega arith)) (header4 8 (omega arith) (λ e. omega arith) (λ e. omega arith))
      (header4 9 (omega arith) (λ e. omega arith) (λ e. omega arith)) aged1)
      once new)

  freed8 : Linked (older w8) (word_at Header w8 0 7) others
  freed8 =
      free_same w1 w8 others
      (λ x c hx. links8 x 3 hx (omega arith) (λ e. omega arith) (λ e. omega arith) ∙ newest_older w4 i x hx hi (not_among i x others only c) ∙ links4 x 3 hx (omega arith) (omega arith))
      (header8 7 (omega arith) (λ e. omega arith) ∙ k5.header 7 (omega arith) (λ e. omega arith) (λ e. omega arith) ∙ header4 7 (omega arith) (λ e. omega arith) (λ e. omega arith))
      (take_linked ws i others long o.freed)

  -- ---------------------------------------------------------------- the indexes

  index5 : (k : ℕ) → k < 3 → Indexed ws k held → Indexed w5 k held
  index5 k hk ix =
      indexed_frame ws w5 k held
      (λ c hc. k5.buckets c k hc hk (λ e. omega arith) ∙ k4.buckets c k hc hk (λ e. omega arith) ∙ words3 Buckets c k refl hc hk ∙ k2.buckets c k hc hk (λ e. omega arith) ∙ k1.buckets c k hc hk (λ e. omega arith))
      (λ x c hx. k5.links x (5 + k) hx (omega arith) (λ e. omega arith) (λ e. omega arith) ∙ links4 x (5 + k) hx (omega arith) (omega arith) ∙ k1.links x (5 + k) hx (omega arith) (λ e. omega arith) (λ e. omega arith))
      (λ x c hx. kept_fragment w4 w5 8 9 3 4 3 k5 x hx ∙ kept_fragment w3 w4 16 16 2 2 3 k4 x hx ∙ grown3.fragment x hx (apart x c) ∙ kept_fragment w1 w2 5 6 0 1 3 k2 x hx ∙ kept_fragment ws w1 7 7 8 8 3 k1 x hx)
      ix

  index8 : (k : ℕ) → k < 3 → (xs : List ℕ) → Indexed w7 k xs → Indexed w8 k xs
  index8 k hk xs ix = indexed_kept w7 w8 4 4 8 8 3 k xs k8 hk (λ e. omega arith) (λ e. omega arith) (λ e. omega arith) ix

  by_tsn8 : Indexed w8 0 (i ∷ held)
  by_tsn8 =
      index8 0 (omega arith) (i ∷ held)
      (indexed_kept w6 w7 16 16 6 6 1 0 (i ∷ held) k7 (omega arith) (λ e. omega arith) (λ e. omega arith) (λ e. omega arith)
      (subst (λ (v : Fragment). Indexed (index_row w5 0 (bucket_of 0 v) i) 0 (i ∷ held)) fragment5 (index_indexed w5 0 i held long5 (omega arith) hi (index5 0 (omega arith) o.by_tsn) new)))

  by_place8 : b ≡ true → Indexed w8 1 (i ∷ held)
  by_place8 e = index8 1 (omega arith) (i ∷ held) (subst (λ (v : Bool). Indexed (pick v (index_row w6 1 (bucket_of 1 f) i) w6) 1 (i ∷ held)) (sym e)
      (subst (λ (v : Fragment). Indexed (index_row w6 1 (bucket_of 1 v) i) 1 (i ∷ held)) fragment6
      (index_indexed w6 1 i held long6 (omega arith) hi
      (indexed_kept w5 w6 16 16 5 5 0 1 held k6 (omega arith) (λ z. omega arith) (λ z. omega arith) (λ z. omega arith) (index5 1 (omega arith) (o.by_place e))) new)))

  -- ---------------------------------------------------------------- the store

  links82 : (x m : ℕ) → x < 4096 → m < 2 → word_at Links w8 x m ≡ word_at Links w2 x m
  links82 x m hx hm =
      links8 x m hx (omega arith) (λ e. omega arith) (λ e. omega arith)
      ∙ k5.links x m hx (omega arith) (λ e. omega arith) (λ e. omega arith)
      ∙ k4.links x m hx (omega arith) (λ e. omega arith) (λ e. omega arith)
      ∙ words3 Links x m refl hx (omega arith)

  header82 : (m : ℕ) → m < 16 → (4 ≡ m → ⊥) → (8 ≡ m → ⊥) → (9 ≡ m → ⊥) → word_at Header w8 0 m ≡ word_at Header w2 0 m
  header82 m hm n4 n8 n9 = header8 m hm n4 ∙ k5.header m hm n8 n9 ∙ k4.header m hm (λ e. omega arith) (λ e. omega arith) ∙ words3 Header 0 m refl (omega arith) hm

  new_row : (x : ℕ) → 0 < count x (i ∷ held) → x < 4096
  new_row x h = elim (compare_same i x) [
    | equal e ↦ subst (λ (y : ℕ). y < 4096) e hi
    | other d ↦ row x (let a = count_there x i held d in omega arith)
  ]

  laid8 : Laid w8 put.store (i ∷ held)
  laid8 =
      laid_same w2 w8 put.store (i ∷ held) (k8.long ∙ k7.long ∙ k6.long ∙ k5.long ∙ k4.long ∙ grown3.long)
      (header82 5 (omega arith) (λ e. omega arith) (λ e. omega arith) (λ e. omega arith)) (header82 6 (omega arith) (λ e. omega arith) (λ e. omega arith) (λ e. omega arith))
      (λ x c. links82 x 0 (new_row x c) (omega arith)) (λ x c. links82 x 1 (new_row x c) (omega arith)) puts.laid

  payload8 : (x : ℕ) → x < 4096 → payload_of w8 put.store x ≡ payload_of w2 put.store x
  payload8 x hx = payload_words w2 w8 put.store x (links82 x 0 hx (omega arith)) (links82 x 1 hx (omega arith))

  pub its_payload : payload_of w8 put.store i ≡ bs
  its_payload = payload8 i hi ∙ puts.new

  pub payload : (x : ℕ) → 0 < count x held → payload_of w8 put.store x ≡ payload_of ws st x
  payload x h =
      payload8 x (row x h) ∙ puts.payloads x h
      ∙ payload_words ws w1 st x (k1.links x 0 (row x h) (omega arith) (λ e. omega arith) (λ e. omega arith)) (k1.links x 1 (row x h) (omega arith) (λ e. omega arith) (λ e. omega arith))

  -- ---------------------------------------------------------------- all of it

  pub holds8 : Holds w8 put.store b (i ∷ held) others
  holds8 = record {
    aged = aged8;
    freed = freed8;
    cover = λ x hx. elim (compare_same i x) [
      | equal e ↦ (let a = o.cover x hx in let c = count_here x i held e in let d = count_here x i others e in omega arith)
      | other n ↦ (let a = o.cover x hx in let c = count_there x i held n in let d = count_there x i others n in omega arith)
    ];
    held_is = let a : word_at Header w8 0 4 ≡ word_at Header ws 0 4 + 1 = word_put_same Header w7 0 4 (word_at Header ws 0 4 + 1) long7 (omega arith) (omega arith) in let c = o.held_is in omega arith;
    by_tsn = by_tsn8;
    by_place = by_place8;
    laid = laid8;
  }

  -- what `hold` leaves
  pub hold_is : hold ws st b f bs i (word_at Header ws 0 4) ≡ kept w8 put.store
  unfolding hold link_held index_held
  hold_is = refl
