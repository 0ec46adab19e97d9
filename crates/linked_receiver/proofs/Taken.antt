-- The message that is ready first is taken out: what is left are good words of the receiver without it. Assumes nothing.
use mathlib.Core.Path.{◌≡◌, refl, sym, ap, ap₂, ◌∙◌, subst}
use mathlib.Core.Bool.{Bool, true, false, not}
use mathlib.Core.List.{List, [], ◌∷◌, ◌++◌, map}
use Prim.Native.Nat.{ℕ, zero, suc, ◌+◌, ◌%◌, ◌^◌, ◌≤◌, ◌<◌}
use native.Mathlib.Omega.{arith}
use lib.Dec.{eqb}
use lib.ListN.{length}
use borrow.Author.Tests.{le-leb, lt-leb}
use Rattle.queue_words.specs.Flags.{bit, flag}
use Rattle.queue_model.specs.Table.{sum_by}
use Rattle.receiver_model.specs.Lists.{count, keep, join}
use Rattle.receiver_model.specs.Types.{Chunk, Assembled}
use Rattle.receiver_model.specs.Assembly.{width}
use Rattle.receiver_model.specs.Fetch.{with_ready}
use Rattle.receiver_model.proofs.Lists.{Value, yes_is, no_is, value, count_nil, count_there, count_cons, count_append, equal, other, compare_same, keep_yes, keep_no}
use Rattle.receiver_words.specs.Tables.{Header, Turns, Ahead, Buckets, Fragments, Links, word_at, put_word}
use Rattle.receiver_words.specs.Turns.{turn_of, turn_at}
use Rattle.receiver_words.specs.Ahead.{ahead_at}
use Rattle.receiver_words.specs.Fragments.{fragment_of, fragment_at}
use Rattle.receiver_words.specs.Index.{same_key_words}
use Rattle.receiver_words.specs.Link.{Flags, Linked, turn_rows}
use Rattle.receiver_words.specs.Chunks.{kind_of, chunk_of}
use Rattle.receiver_words.specs.Ages.{without, Lined}
use Rattle.receiver_words.specs.Frames.{Frame}
use Rattle.receiver_words.specs.declared.fragments.Fragment.{Fragment}
use Rattle.receiver_words.specs.declared.turns.Turn as words
use Rattle.receiver_words.proofs.Laws.{word_put_same, word_put_beside}
use Rattle.receiver_words.proofs.Linked.{linked_frame}
use Rattle.receiver_words.proofs.Frames.{frame_both, frame_swap, frame_header}
use Rattle.receiver_words.proofs.Messages.{next_message}
use Rattle.receiver_words.proofs.Rows.{by_row, stands_here, without_here, without_there}
use Rattle.receiver_messages.specs.Keys.{interleaved_of}
use Rattle.receiver_messages.specs.Walks.{is_whole}
use Rattle.receiver_messages.specs.Readiness.{leave_ready}
use Rattle.receiver_store.specs.Words.{size_of, payload_of, used_of}
use Rattle.receiver_store.proofs.Laws.{laid_same}
use Rattle.receiver_store.proofs.Packs.{payload_words}
use Rattle.receiver_store.proofs.Orders.{onto, sum_same}
use Rattle.receiver_fragments.specs.Freeing.{HandedOut, hand_out}
use Rattle.linked_receiver.specs.Rows.{Indexed, Unique, loose_rows}
use Rattle.linked_receiver.specs.Good.{Ghost, rows_of, Walk, Carried, GoodReceiver, chunk_in, message_in, stands}
use Rattle.linked_receiver.proofs.Lists.{few, keep_same, count_kept}
use Rattle.linked_receiver.proofs.Keeps.{kept_frame}
use Rattle.linked_receiver.proofs.Indexes.{indexed_frame, indexed_kept, indexed_rows}
use Rattle.linked_receiver.proofs.Marks.{walk_kept}
use Rattle.linked_receiver.proofs.Promotes.{lined_frame}
use Rattle.linked_receiver.proofs.Frees.{Freed, freed_fragment, Holds, held_rows, held_once, aged_same, free_same}
use Rattle.linked_receiver.proofs.HandsOut.{less, less_kept, less_gone, sum_less, payloads, payloads_same, freed_payload, HandsOut, hand_law}

-- ------------------------------------------------------------------ leave_ready

module _ (ws : List ℕ) (h : ℕ) where
  abbrev after_it : ℕ
  after_it = word_at Links ws h 7

  abbrev one : List ℕ
  one = put_word Header ws 0 10 after_it

  leave_last : 4096 ≤ after_it → leave_ready ws h ≡ put_word Header one 0 11 after_it
  unfolding leave_ready
  leave_last l = rw (le-leb _ _ l)

  leave_more : after_it < 4096 → leave_ready ws h ≡ one
  unfolding leave_ready
  leave_more l = rw (lt-leb _ _ l)

  one_frame : Frame ws one 10 11 8 8
  one_frame = frame_header ws after_it 10 11 8 8 (omega arith)

  pub leave_frame : Frame ws (leave_ready ws h) 10 11 8 8
  leave_frame =
      by_row after_it
      (λ l. subst (λ (v : List ℕ). Frame ws v 10 11 8 8) (sym (leave_more l)) one_frame)
      (λ l. subst (λ (v : List ℕ). Frame ws v 10 11 8 8) (sym (leave_last l))
      (frame_both ws one (put_word Header one 0 11 after_it) 10 11 8 8 one_frame (frame_swap one (put_word Header one 0 11 after_it) 11 10 8 8 (frame_header one after_it 11 10 8 8 (omega arith)))))

  module _ (long : length ws ≡ 83472) where
    leave_first : word_at Header (leave_ready ws h) 0 10 ≡ after_it
    leave_first =
        by_row after_it
        (λ l. ap (λ (v : List ℕ). word_at Header v 0 10) (leave_more l) ∙ word_put_same Header ws 0 10 after_it long (omega arith) (omega arith))
        (λ l. ap (λ (v : List ℕ). word_at Header v 0 10) (leave_last l) ∙ word_put_beside Header one 0 11 after_it 10 (λ e. omega arith) ∙ word_put_same Header ws 0 10 after_it long (omega arith) (omega arith))

    leave_end_last : 4096 ≤ after_it → word_at Header (leave_ready ws h) 0 11 ≡ after_it
    leave_end_last l = ap (λ (v : List ℕ). word_at Header v 0 11) (leave_last l) ∙ word_put_same Header one 0 11 after_it (one_frame.long ∙ long) (omega arith) (omega arith)

    leave_end_more : after_it < 4096 → word_at Header (leave_ready ws h) 0 11 ≡ word_at Header ws 0 11
    leave_end_more l = ap (λ (v : List ℕ). word_at Header v 0 11) (leave_more l) ∙ word_put_beside Header ws 0 10 after_it 11 (λ e. omega arith)

    -- the others are ready, in their order
    pub leave_lined : (more : List ℕ) → Lined ws 10 (h ∷ more) → Lined (leave_ready ws h) 10 more
    leave_lined [] ((e, b, c), d) = (leave_first ∙ c, leave_end_last (omega (arith, c)) ∙ c)
    leave_lined (m ∷ ms) ((e, b, c), d) = (
      subst (λ (p : ℕ). Linked (next_message (leave_ready ws h)) p (m ∷ ms)) (sym leave_first)
          (linked_frame (next_message ws) (next_message (leave_ready ws h)) after_it (m ∷ ms) (λ x k hx. leave_frame.links x 7 hx (omega arith) (λ z. omega arith) (λ z. omega arith)) c),
      leave_end_more (omega (arith, c.0, c.1)) ∙ d,
    )

-- ------------------------------------------------------------------ the rows of messages

rows_cons : (tail : ℕ → List ℕ) (a : ℕ) (hs : List ℕ) → rows_of tail (a ∷ hs) ≡ (a ∷ tail a) ++ rows_of tail hs
unfolding join
rows_cons tail a hs = refl

rows_nil : (tail : ℕ → List ℕ) → rows_of tail [] ≡ []
unfolding join
rows_nil tail = refl

pub rows_count : (tail : ℕ → List ℕ) (a : ℕ) (hs : List ℕ) (x : ℕ) → count x (rows_of tail (a ∷ hs)) ≡ count x (a ∷ tail a) + count x (rows_of tail hs)
rows_count tail a hs x = ap (count x) (rows_cons tail a hs) ∙ count_append x (a ∷ tail a) (rows_of tail hs)

-- one of them taken out
pub rows_split : (tail : ℕ → List ℕ) (hs : List ℕ) (a : ℕ) (gs : List ℕ) (x : ℕ) → count x (rows_of tail (hs ++ a ∷ gs)) ≡ count x (a ∷ tail a) + count x (rows_of tail (hs ++ gs))
rows_split tail [] a gs x = rows_count tail a gs x
rows_split tail (y ∷ hs) a gs x =
    let p = rows_count tail y (hs ++ a ∷ gs) x in
    let q = rows_count tail y (hs ++ gs) x in
    let ih = rows_split tail hs a gs x in
    omega arith

-- the rows of one are among those of all
pub rows_one : (tail : ℕ → List ℕ) (hs : List ℕ) (a x : ℕ) → 0 < count a hs → count x (a ∷ tail a) ≤ count x (rows_of tail hs)
rows_one tail [] a x h = absurd (let z = count_nil a in omega arith)
rows_one tail (y ∷ hs) a x h = elim (compare_same y a) [
  | equal s ↦ (let e = ap (λ (v : ℕ). count x (v ∷ tail v)) s in let p = rows_count tail y hs x in omega arith)
  | other d ↦ (let c = count_there a y hs d in let ih = rows_one tail hs a x (omega arith) in let p = rows_count tail y hs x in omega arith)
]

-- ------------------------------------------------------------------ lists that are the same

pub map_same : {A : Type 0} (f g : ℕ → A) (xs : List ℕ) → ((x : ℕ) → 0 < count x xs → f x ≡ g x) → map f xs ≡ map g xs
map_same f g [] h = refl
map_same f g (x ∷ xs) h = ap₂ ◌∷◌ (h x (stands_here x xs)) (map_same f g xs (λ y c. h y (let m = count_cons y x xs in omega arith)))

-- rows that do not pass a test, taken out before it
keep_out : (f : ℕ → Bool) (i : ℕ) (xs : List ℕ) → f i ≡ false → keep f (without i xs) ≡ keep f xs
unfolding keep
keep_out f i [] e = refl
keep_out f i (x ∷ xs) e = elim (compare_same x i) [
  | equal s ↦ ap (keep f) (without_here i x xs s) ∙ keep_out f i xs e ∙ sym (keep_no f x xs (ap f s ∙ e))
  | other d ↦ ap (keep f) (without_there i x xs d) ∙ step (value (f x)) (keep_out f i xs e)
]
  where
    step : Value (f x) → keep f (without i xs) ≡ keep f xs → keep f (x ∷ without i xs) ≡ keep f (x ∷ xs)
    step (yes_is g) ih = keep_yes f x (without i xs) g ∙ ap (◌∷◌ x) ih ∙ sym (keep_yes f x xs g)
    step (no_is g) ih = keep_no f x (without i xs) g ∙ ih ∙ sym (keep_no f x xs g)

keep_less : (f : ℕ → Bool) (is xs : List ℕ) → ((i : ℕ) → 0 < count i is → f i ≡ false) → keep f (less is xs) ≡ keep f xs
keep_less f [] xs h = refl
keep_less f (i ∷ is) xs h = keep_less f is (without i xs) (λ j c. h j (let m = count_cons j i is in omega arith)) ∙ keep_out f i xs (h i (stands_here i is))

unique_fewer : (ws ws' : List ℕ) (k : ℕ) (xs ys : List ℕ) → ((x : ℕ) → 0 < count x ys → 0 < count x xs) → ((x : ℕ) → 0 < count x ys → fragment_at ws' x ≡ fragment_at ws x) → Unique ws k xs → Unique ws' k ys
unique_fewer ws ws' k xs ys within same u f x y cx cy sx sy =
    u f x y (within x cx) (within y cy) (ap (λ (g : Fragment). same_key_words k g f) (sym (same x cx)) ∙ sx) (ap (λ (g : Fragment). same_key_words k g f) (sym (same y cy)) ∙ sy)

pub turn_rows_same : (ws ws' : List ℕ) (n i : ℕ) → i + n ≤ 256 → ((t : ℕ) → t < 256 → turn_at ws' t ≡ turn_at ws t) → turn_rows ws' i n ≡ turn_rows ws i n
unfolding turn_rows
turn_rows_same ws ws' zero i l h = refl
turn_rows_same ws ws' (suc n) i l h =
    ap₂ ◌∷◌ (λ p. record { id = (h i (let z : i < 256 = omega arith in z) p).id.0; next = (h i (let z : i < 256 = omega arith in z) p).next }) (turn_rows_same ws ws' n (i + 1) (omega arith) h)

-- ------------------------------------------------------------------ good words, by parts

-- the rows with other messages ready
abbrev pub ready_as : List ℕ → Ghost → Ghost
ready_as rs g = record { held = g.held; free = g.free; waiting = g.waiting; ready = rs; tail = g.tail; ahead = g.ahead }

pub good_holds : (g : Ghost) (ws st : List ℕ) → GoodReceiver g ws st → Holds ws st (interleaved_of ws) g.held g.free
good_holds g ws st d = record {
  aged = d.aged;
  freed = d.freed;
  cover = d.cover;
  held_is = d.held_is;
  by_tsn = d.by_tsn;
  by_place = d.by_place;
  laid = d.laid;
}

-- a change of the ends of the chain of ready messages
holds_ready : (ws ws' st : List ℕ) (b : Bool) (held free : List ℕ) → Frame ws ws' 10 11 8 8 → Holds ws st b held free → Holds ws' st b held free
holds_ready ws ws' st b held free f o = record {
  aged = aged_same ws ws' held (λ x c hx. link x 3 hx (omega arith)) (λ x c hx. link x 4 hx (omega arith)) (head 8 (omega arith)) (head 9 (omega arith)) o.aged;
  freed = free_same ws ws' free (λ x c hx. link x 3 hx (omega arith)) (head 7 (omega arith)) o.freed;
  cover = o.cover;
  held_is = head 4 (omega arith) ∙ o.held_is;
  by_tsn = index 0 (omega arith) o.by_tsn;
  by_place = λ e. index 1 (omega arith) (o.by_place e);
  laid = laid_same ws ws' st held f.long (head 5 (omega arith)) (head 6 (omega arith)) (λ x c. link x 0 (rows x c) (omega arith)) (λ x c. link x 1 (rows x c) (omega arith)) o.laid;
}
  where
    rows : (x : ℕ) → 0 < count x held → x < 4096
    rows = held_rows ws st b held free o

    link : (x m : ℕ) → x < 4096 → m < 8 → word_at Links ws' x m ≡ word_at Links ws x m
    link x m hx hm = f.links x m hx hm (λ e. omega arith) (λ e. omega arith)

    head : (m : ℕ) → m < 10 → word_at Header ws' 0 m ≡ word_at Header ws 0 m
    head m hm = f.header m (omega arith) (λ e. omega arith) (λ e. omega arith)

    index : (k : ℕ) → k < 2 → Indexed ws k held → Indexed ws' k held
    index k hk ix = indexed_kept ws ws' 10 11 8 8 3 k held (kept_frame ws ws' 10 11 8 8 3 f) (omega arith) (λ e. omega arith) (λ e. omega arith) (λ e. omega arith) ix

-- ------------------------------------------------------------------ the message that is ready first

module _ (g : Ghost) (h : ℕ) (more : List ℕ) (ws st : List ℕ) (d : GoodReceiver (ready_as (h ∷ more) g) ws st) where
  abbrev b : Bool
  b = interleaved_of ws

  -- its rows, and those of the other messages
  abbrev pub its_rows : List ℕ
  its_rows = h ∷ g.tail h

  abbrev rest : List ℕ
  rest = rows_of g.tail (g.waiting ++ more)

  pub taken_holds : Holds ws st (interleaved_of ws) g.held g.free
  taken_holds = good_holds (ready_as (h ∷ more) g) ws st d

  split : (x : ℕ) → count x (rows_of g.tail (g.waiting ++ h ∷ more)) ≡ count x its_rows + count x rest
  split x = rows_split g.tail g.waiting h more x

  pub its_held : (x : ℕ) → count x its_rows ≤ count x g.held
  its_held x = let a = split x in let c = d.whole_held x in omega arith

  rows : (x : ℕ) → 0 < count x g.held → x < 4096
  rows = held_rows ws st (interleaved_of ws) g.held g.free taken_holds

  once : (x : ℕ) → count x g.held ≤ 1
  once = held_once ws st (interleaved_of ws) g.held g.free taken_holds

  its_row : (x : ℕ) → 0 < count x its_rows → x < 4096
  its_row x c = rows x (let a = its_held x in omega arith)

  pub its_few : length (g.tail h) < 4096
  its_few = let l = few 4096 its_rows (λ x. let a = its_held x in let c = once x in omega arith) its_row in omega arith

  pub its_walk : Walk ws (interleaved_of ws) h (g.tail h)
  its_walk = d.walks h (let a = count_append h g.waiting (h ∷ more) in let c = stands_here h more in omega arith)

  pub its_sum : sum_by (size_of ws) its_rows ≤ used_of ws
  its_sum = let a = sum_less (size_of ws) its_rows g.held once its_held in let u = d.laid.used_is in omega arith

  -- ---------------------------------------------------------------- it is handed out

  abbrev ws0 : List ℕ
  ws0 = leave_ready ws h

  frame0 : Frame ws ws0 10 11 8 8
  frame0 = leave_frame ws h

  size0 : sum_by (size_of ws0) its_rows ≡ sum_by (size_of ws) its_rows
  size0 = sum_same (size_of ws) (size_of ws0) its_rows (λ x c. frame0.links x 1 (its_row x c) (omega arith) (λ e. omega arith) (λ e. omega arith))

  walk0 : (x : ℕ) (xs : List ℕ) → ((y : ℕ) → 0 < count y (x ∷ xs) → y < 4096) → Walk ws b x xs → Walk ws0 b x xs
  walk0 x xs r w = walk_kept ws ws0 10 11 8 8 3 (kept_frame ws ws0 10 11 8 8 3 frame0) b (eight b) (eight b) (three b) x xs r w
    where
      eight : (c : Bool) → 8 ≡ 5 + bit c → ⊥
      eight true e = omega arith
      eight false e = omega arith

      three : (c : Bool) → 3 ≡ bit c → ⊥
      three true e = omega arith
      three false e = omega arith

  module _ (out : List ℕ) (room : sum_by (size_of ws) its_rows ≤ length out) where
    abbrev handed : HandedOut
    handed = hand_out 4096 (leave_ready ws h) st out (interleaved_of ws) h 0

    abbrev ws' : List ℕ
    ws' = handed.words

    pub hands : HandsOut (leave_ready ws h) st (interleaved_of ws) g.held g.free its_rows out 0 handed
    hands =
        hand_law 4096 ws0 st b g.held g.free h (g.tail h) out 0 (holds_ready ws ws0 st b g.held g.free frame0 taken_holds) d.store_fits (walk0 h (g.tail h) its_row its_walk) its_held its_few
        (omega (arith, size0, room))

    -- -------------------------------------------------------------- what is as it was

    f : Freed ws0 ws'
    f = hands.frame

    low : (m : ℕ) → m < 4 → word_at Header ws' 0 m ≡ word_at Header ws 0 m
    low m l = f.low m l ∙ frame0.header m (omega arith) (λ e. omega arith) (λ e. omega arith)

    links : (x m : ℕ) → x < 4096 → m < 3 → word_at Links ws' x m ≡ word_at Links ws x m
    links x m hx hm = f.links x m hx hm ∙ frame0.links x m hx (omega arith) (λ e. omega arith) (λ e. omega arith)

    next : (x : ℕ) → x < 4096 → word_at Links ws' x 7 ≡ word_at Links ws x 7
    next x hx = f.messages x hx ∙ frame0.links x 7 hx (omega arith) (λ e. omega arith) (λ e. omega arith)

    numbers : (x : ℕ) → x < 4096 → word_at Buckets ws' x 2 ≡ word_at Buckets ws x 2
    numbers x hx = f.numbers x hx ∙ frame0.words Buckets x 2 refl refl hx (omega arith)

    fragment : (x : ℕ) → x < 4096 → fragment_at ws' x ≡ fragment_at ws x
    fragment x hx = freed_fragment ws0 ws' f x hx ∙ ap fragment_of (frame0.tables Fragments x refl refl hx)

    turn : (t : ℕ) → t < 256 → turn_at ws' t ≡ turn_at ws t
    turn t ht = ap turn_of (f.tables Turns t refl refl refl ht ∙ frame0.tables Turns t refl refl ht)

    ahead : (t : ℕ) → ahead_at ws' t ≡ ahead_at ws t
    ahead t = ap flag (f.words Ahead (t % 1024) 0 refl refl refl (omega arith) (omega arith) ∙ frame0.words Ahead (t % 1024) 0 refl refl (omega arith) (omega arith))

    payload0 : (x : ℕ) → x < 4096 → payload_of ws0 st x ≡ payload_of ws st x
    payload0 x hx =
        payload_words ws ws0 st x (frame0.links x 0 hx (omega arith) (λ e. omega arith) (λ e. omega arith))
        (frame0.links x 1 hx (omega arith) (λ e. omega arith) (λ e. omega arith))

    payload : (x : ℕ) → x < 4096 → payload_of ws' st x ≡ payload_of ws st x
    payload x hx = freed_payload ws0 ws' st f x hx ∙ payload0 x hx

    pub kind_same : interleaved_of ws' ≡ interleaved_of ws
    kind_same = ap flag (low 0 (omega arith))

    whole : (x : ℕ) → x < 4096 → is_whole ws' x ≡ is_whole ws x
    whole x hx = ap (λ (v : ℕ). eqb v 1) (links x 2 hx (omega arith))

    -- -------------------------------------------------------------- the rows left

    abbrev left : List ℕ
    left = less its_rows g.held

    pub rows_left : Ghost
    rows_left = record { held = less its_rows g.held; free = onto its_rows g.free; waiting = g.waiting; ready = more; tail = g.tail; ahead = g.ahead }

    left_not : (x : ℕ) → 0 < count x left → count x its_rows ≡ 0
    left_not x c = elim (compare_same (count x its_rows) 0) [
      | equal z ↦ z
      | other n ↦ absurd (let e = less_gone its_rows g.held x (omega arith) in omega arith)
    ]

    left_held : (x : ℕ) → 0 < count x left → 0 < count x g.held
    left_held x c = let e = less_kept its_rows g.held x (left_not x c) in omega arith

    -- a row of another message is none of these
    others : (x y : ℕ) → 0 < count x (g.waiting ++ more) → 0 < count y its_rows → count y (x ∷ g.tail x) ≡ 0
    others x y c k = let a = rows_one g.tail (g.waiting ++ more) x y c in let s = split y in let w = d.whole_held y in let o = once y in omega arith

    other_row : (x y : ℕ) → 0 < count x (g.waiting ++ more) → 0 < count y (x ∷ g.tail x) → y < 4096
    other_row x y c k = rows y (let a = rows_one g.tail (g.waiting ++ more) x y c in let s = split y in let w = d.whole_held y in omega arith)

    still : (x : ℕ) → 0 < count x (g.waiting ++ more) → 0 < count x (g.waiting ++ h ∷ more)
    still x c = let a = count_append x g.waiting more in let e = count_append x g.waiting (h ∷ more) in let m = count_cons x h more in omega arith

    walks_left : (x : ℕ) → 0 < count x (g.waiting ++ more) → Walk ws' (interleaved_of ws') x (g.tail x)
    walks_left x c =
        subst (λ (i : Bool). Walk ws' i x (g.tail x)) (sym kind_same)
        (hands.walks x (g.tail x) (λ y k. other_row x y c k) (λ y k. others x y c k) (walk0 x (g.tail x) (λ y k. other_row x y c k) (d.walks x (still x c))))

    flags_left : Flags ws' (word_at Header ws' 0 2) g.ahead
    flags_left =
        subst (λ (l : ℕ). Flags ws' l g.ahead) (sym (low 2 (omega arith)))
        (record { long = f.long ∙ frame0.long ∙ d.laid.long; flags = λ t a c e. ahead t ∙ d.flags.flags t a c e })

    waiting_row : (x : ℕ) → 0 < count x g.waiting → x < 4096
    waiting_row x c = indexed_rows ws 2 g.waiting d.by_number x c

    -- THE THEOREM of taking a message out: the words are good again
    pub good_left : GoodReceiver rows_left handed.words st
    unfolding rows_left
    good_left = record {
      store_is = low 1 (omega arith) ∙ d.store_is;
      store_fits = d.store_fits;
      aged = hands.holds.aged;
      freed = hands.holds.freed;
      cover = hands.holds.cover;
      held_is = hands.holds.held_is;
      by_tsn = hands.holds.by_tsn;
      by_place = λ e. hands.holds.by_place (sym kind_same ∙ e);
      by_number = indexed_frame ws ws' 2 g.waiting (λ c hc. numbers c hc) (λ x c hx. next x hx) (λ x c hx. fragment x hx) d.by_number;
      tsn_once = unique_fewer ws ws' 0 g.held left left_held (λ x c. fragment x (rows x (left_held x c))) d.tsn_once;
      place_once = λ e. unique_fewer ws ws' 1 g.held left left_held (λ x c. fragment x (rows x (left_held x c))) (d.place_once (sym kind_same ∙ e));
      carried = λ x c. subst (λ (i : Bool). Carried i (fragment_at ws' x)) (sym kind_same) (subst (λ (v : Fragment). Carried b v) (sym (fragment x (rows x (left_held x c)))) (d.carried x (left_held x c)));
      whole_held = λ x. elim (compare_same (count x its_rows) 0) [
        | equal z ↦ (let e = less_kept its_rows g.held x z in let s = split x in let w = d.whole_held x in omega arith)
        | other n ↦ (let s = split x in let w = d.whole_held x in let o = once x in omega arith)
      ];
      marked = λ x c. let z = left_not x c in let s = split x in let m = d.marked x (left_held x c) in let e = ap bit (whole x (rows x (left_held x c))) in omega arith;
      walks = walks_left;
      lined = lined_frame ws0 ws' 10 more (f.high 10 (omega arith) (omega arith)) (f.high 11 (omega arith) (omega arith)) (λ x c hx. f.messages x hx) (leave_lined ws h d.laid.long more d.lined);
      flags = flags_left;
      last_fits = subst (λ (n : ℕ). n < 2 ^ 32) (sym (low 2 (omega arith))) d.last_fits;
      known_fits = subst (λ (n : ℕ). n ≤ 256) (sym (low 3 (omega arith))) d.known_fits;
      next_fits = λ t l. subst (λ (i : Bool). (turn_at ws' t).next < 2 ^ width (kind_of i)) (sym kind_same)
          (let l' : t < word_at Header ws 0 3 = subst (λ (n : ℕ). t < n) (low 3 (omega arith)) l in
          let k = d.known_fits in
          subst (λ (n : ℕ). n < 2 ^ width (kind_of b)) (sym (ap (λ (v : words.Turn). v.next) (turn t (omega arith)))) (d.next_fits t l'));
      laid = hands.holds.laid;
    }

    -- -------------------------------------------------------------- and stand for the receiver without it

    chunk_same : (x : ℕ) → x < 4096 → chunk_in ws' st x ≡ chunk_in ws st x
    chunk_same x hx =
        ap (λ (i : Bool). chunk_of (kind_of i) (fragment_at ws' x) (payload_of ws' st x)) kind_same
        ∙ ap₂ (λ (v : Fragment) (p : List ℕ). chunk_of (kind_of b) v p) (fragment x hx) (payload x hx)

    message_same : (x : ℕ) → 0 < count x (g.waiting ++ more) → message_in g.tail ws' st x ≡ message_in g.tail ws st x
    message_same x c =
        ap₂ (λ (e : Chunk) (es : List Chunk). let a : Assembled = record { head = e; tail = es } in a) (chunk_same x (other_row x x c (stands_here x (g.tail x))))
        (map_same (chunk_in ws' st) (chunk_in ws st) (g.tail x) (λ y k. chunk_same y (other_row x y c (let m = count_cons y x (g.tail x) in omega arith))))

    loose_same : map (chunk_in ws' st) (loose_rows ws' left) ≡ map (chunk_in ws st) (loose_rows ws g.held)
    loose_same =
        map_same (chunk_in ws' st) (chunk_in ws st) (loose_rows ws' left)
        (λ x c. chunk_same x (rows x (left_held x (let m = count_kept x (λ (y : ℕ). not (is_whole ws' y)) left in omega arith))))
        ∙ ap (map (chunk_in ws st))
        (keep_same (λ (x : ℕ). not (is_whole ws' x)) (λ (x : ℕ). not (is_whole ws x)) left (λ x c. ap not (whole x (rows x (left_held x c))))
        ∙ keep_less (λ (x : ℕ). not (is_whole ws x)) its_rows g.held (λ x c. ap not (is_marked x c)))
      where
        one_bit : (i : Bool) → 0 < bit i → i ≡ true
        one_bit true e = refl
        one_bit false e = absurd (omega arith)

        is_marked : (x : ℕ) → 0 < count x its_rows → is_whole ws x ≡ true
        is_marked x c = one_bit (is_whole ws x) (let m = d.marked x (let a = its_held x in omega arith) in let s = split x in omega arith)

    pub stands_left : stands rows_left handed.words st ≡ with_ready (map (message_in g.tail ws st) more) (stands (ready_as (h ∷ more) g) ws st)
    unfolding rows_left
    stands_left = λ p. record {
      kind = kind_of (kind_same p);
      store_length = low 1 (omega arith) p;
      last_tsn = low 2 (omega arith) p;
      ahead = g.ahead;
      loose = loose_same p;
      waiting = map_same (message_in g.tail ws' st) (message_in g.tail ws st) g.waiting (λ x c. message_same x (let a = count_append x g.waiting more in omega arith)) p;
      ready = map_same (message_in g.tail ws' st) (message_in g.tail ws st) more (λ x c. message_same x (let a = count_append x g.waiting more in omega arith)) p;
      turns = turns_same p;
    }
      where
        turns_same : turn_rows ws' 0 (word_at Header ws' 0 3) ≡ turn_rows ws 0 (word_at Header ws 0 3)
        turns_same = ap (turn_rows ws' 0) (low 3 (omega arith)) ∙ turn_rows_same ws ws' (word_at Header ws 0 3) 0 (let k = d.known_fits in omega arith) turn

    -- the payloads in the buffer are those of the message
    pub bytes_out : payloads (leave_ready ws h) st its_rows ≡ payloads ws st its_rows
    bytes_out = payloads_same ws ws0 st its_rows (λ x c. payload0 x (its_row x c))
