-- Messages become ready: `promote` and `queue_up` leave the words of what the model's leave. Assumes nothing.
use mathlib.Core.Path.{◌≡◌, refl, sym, ap, ap₂, ◌∙◌, subst}
use mathlib.Core.Bool.{Bool, true, false, not, ◌&&◌}
use mathlib.Core.List.{List, [], ◌∷◌, ◌++◌, map}
use Prim.Native.Nat.{ℕ, zero, suc, ◌+◌, ◌%◌, ◌^◌, ◌≤◌, ◌<◌}
use native.Mathlib.Omega.{arith}
use borrow.Author.Tests.{lt-leb, eq-eqb}
use lib.Dec.{eqb}
use lib.ListN.{length}
use Rattle.types.specs.Wrap.{wrap_suc}
use Rattle.types.proofs.Width.{wrap_fits}
use Rattle.queue_words.specs.Flags.{pick}
use Rattle.receiver_model.specs.Lists.{count}
use Rattle.receiver_model.specs.Types.{Chunk, Assembled}
use Rattle.receiver_model.specs.Assembly.{number, width}
use Rattle.receiver_model.specs.Receive.{nothing, taken, its_turn, take_next, Queued}
use Rattle.receiver_model.specs.Receive as model
use Rattle.receiver_model.proofs.Lists.{Value, yes_is, no_is, value, count_here, count_there, count_cons, count_append, count_one, count_other, equal, other, compare_same, length_of_map}
use Rattle.receiver_model.proofs.Promote.{next_nil, next_yes, next_no, beside_nothing, beside_taken, promote_zero, promote_nothing, promote_taken, map_end}
use Rattle.receiver_words.specs.Tables.{Header, Buckets, Fragments, Links, word_at}
use Rattle.receiver_words.specs.Fragments.{fragment_of, fragment_at}
use Rattle.receiver_words.specs.Index.{bucket_of, same_number, same_key_words, find_row, unindex_row, index_last}
use Rattle.receiver_words.specs.Chains.{append_message}
use Rattle.receiver_words.specs.Chunks.{kind_of, chunk_of}
use Rattle.receiver_words.specs.Link.{Linked, first_key}
use Rattle.receiver_words.specs.Ages.{without, last_row, Lined}
use Rattle.receiver_words.specs.Frames.{Frame}
use Rattle.receiver_words.specs.declared.fragments.Fragment.{Fragment}
use Rattle.receiver_words.proofs.Rows.{stands_here, not_among, head_once, tail_once, unlike_head, without_head, without_there, count_without, count_without_other}
use Rattle.receiver_words.proofs.Linked.{linked_frame}
use Rattle.receiver_words.proofs.Messages.{last_in, append_lined, append_next_other}
use Rattle.receiver_words.proofs.Frames.{append_frame}
use Rattle.receiver_messages.specs.Keys.{next_turn, number_key}
use Rattle.receiver_messages.specs.Readiness.{Turned, turned, take_message}
use Rattle.receiver_messages.specs.Readiness as words
use Rattle.linked_receiver.specs.Rows.{Indexed}
use Rattle.linked_receiver.specs.Kept.{Kept}
use Rattle.linked_receiver.specs.Good.{Carried}
use Rattle.linked_receiver.proofs.Lists.{count_kept, length_end, length_without, few}
use Rattle.linked_receiver.proofs.Found.{bucket_in, one_bucket, find_indexed}
use Rattle.linked_receiver.proofs.Keeps.{kept_none, kept_both, kept_frame, kept_wider, kept_fragment, unindex_kept, last_kept}
use Rattle.linked_receiver.proofs.Indexes.{indexed_rows, indexed_frame, unindex_other, unindex_indexed, last_other, last_indexed}

-- ------------------------------------------------------------------ a message's turn is its key

both_and : (a c : Bool) → pick a c false ≡ a && c
both_and true c = refl
both_and false c = refl

-- where a chunk does not carry a number, it is 0, so stream, SSN and MID are the stream and the message's number
pub turn_key : (b : Bool) (f : Fragment) (bs : List ℕ) (cs : List Chunk) (s n : ℕ) → Carried b f → n < 2 ^ width (kind_of b)
    → its_turn (kind_of b) s n (record { head = chunk_of (kind_of b) f bs; tail = cs }) ≡ same_key_words 2 f (number_key b s n)
unfolding its_turn number width same_key_words same_number number_key
turn_key true f bs cs s n z h = rw (eq-eqb _ _ z) (sym (both_and (eqb f.stream.0 s) (eqb f.mid.0 n)))
turn_key false f bs cs s n z h = go (eqb f.stream.0 s) (eqb f.ssn.0 n) refl
  where
    small : n % 65536 ≡ n
    small = omega arith

    go : (a c : Bool) → eqb f.ssn.0 n ≡ c → a && c ≡ pick a (pick (eqb f.ssn.0 (n % 65536)) (eqb f.mid.0 0) false) false
    go true true e = rw (small, e, eq-eqb _ _ z)
    go true false e = rw (small, e)
    go false c e = refl

pub next_turn_is : (b : Bool) (n : ℕ) → n < 2 ^ width (kind_of b) → next_turn b n ≡ wrap_suc (width (kind_of b)) n
unfolding next_turn width
next_turn_is true n h = refl
next_turn_is false n h = omega arith

next_turn_fits : (b : Bool) (n : ℕ) → n < 2 ^ width (kind_of b) → next_turn b n < 2 ^ width (kind_of b)
next_turn_fits b n h = let e = next_turn_is b n h in let w = wrap_fits (width (kind_of b)) n in omega arith

-- ------------------------------------------------------------------ the chain of ready messages

pub lined_frame : (ws ws' : List ℕ) (k : ℕ) (xs : List ℕ) → word_at Header ws' 0 k ≡ word_at Header ws 0 k → word_at Header ws' 0 (k + 1) ≡ word_at Header ws 0 (k + 1)
    → ((x : ℕ) → 0 < count x xs → x < 4096 → word_at Links ws' x 7 ≡ word_at Links ws x 7) → Lined ws k xs → Lined ws' k xs
lined_frame ws ws' k xs a b f (l, e) = (
  subst (λ (p : ℕ). Linked (λ (x : ℕ). word_at Links ws' x 7) p xs) (sym a) (linked_frame (λ (x : ℕ). word_at Links ws x 7) (λ (x : ℕ). word_at Links ws' x 7) (word_at Header ws 0 k) xs f l),
  b ∙ e,
)

-- the last of a chain is none of the rows outside
pub last_outside : (p : ℕ) (xs : List ℕ) (x : ℕ) → p ≡ last_row 4096 xs → x < 4096 → count x xs ≡ 0 → p ≡ x → ⊥
last_outside p [] x e h z s = omega arith
last_outside p (y ∷ ys) x e h z s = not_among x (last_row y ys) (y ∷ ys) z (last_in y ys) (sym s ∙ e)

-- ------------------------------------------------------------------ one message

module _ (ws waiting ready : List ℕ) (long : length ws ≡ 83472) (ix : Indexed ws 2 waiting) (ln : Lined ws 10 ready) (once : (x : ℕ) → count x (waiting ++ ready) ≤ 1) where
  waiting_once : (x : ℕ) → count x waiting ≤ 1
  waiting_once x = let a = count_append x waiting ready in let o = once x in omega arith

  ready_once : (x : ℕ) → count x ready ≤ 1
  ready_once x = let a = count_append x waiting ready in let o = once x in omega arith

  ready_apart : (x : ℕ) → 0 < count x waiting → count x ready ≡ 0
  ready_apart x h = let a = count_append x waiting ready in let o = once x in omega arith

  waiting_apart : (x : ℕ) → 0 < count x ready → count x waiting ≡ 0
  waiting_apart x h = let a = count_append x waiting ready in let o = once x in omega arith

  pub waiting_few : length waiting ≤ 4096
  waiting_few = few 4096 waiting waiting_once (indexed_rows ws 2 waiting ix)

  -- row i, which does not wait, becomes ready
  module _ (i : ℕ) (hi : i < 4096) (new : count i ready ≡ 0) where
    pub append_index : (xs : List ℕ) → Indexed ws 2 xs → count i xs ≡ 0 → ((x : ℕ) → 0 < count x xs → count x ready ≡ 0) → Indexed (append_message ws 10 i) 2 xs
    append_index xs jx out apart =
        indexed_frame ws (append_message ws 10 i) 2 xs
        (λ c hc. f.words Buckets c 2 refl refl hc (omega arith))
        (λ x h hx. append_next_other ws 10 i long (omega arith) hi x hx (not_among i x xs out h) (last_outside (word_at Header ws 0 11) ready x ln.1 hx (apart x h)))
        (λ x h hx. ap fragment_of (f.tables Fragments x refl refl hx))
        jx
      where
        f : Frame ws (append_message ws 10 i) 10 11 7 7
        f = append_frame ws 10 i (omega arith) hi

    pub append_ready : Lined (append_message ws 10 i) 10 (ready ++ (i ∷ []))
    append_ready = append_lined ws 10 i long (omega arith) hi ready ln ready_once new

    pub append_kept : Kept ws (append_message ws 10 i) 10 11 7 7 2
    append_kept = kept_frame ws (append_message ws 10 i) 10 11 7 7 2 (append_frame ws 10 i (omega arith) hi)

-- a message that waits, found under a key, is ready
module _ (ws waiting ready : List ℕ) (long : length ws ≡ 83472) (ix : Indexed ws 2 waiting) (ln : Lined ws 10 ready) (once : (x : ℕ) → count x (waiting ++ ready) ≤ 1) (i : ℕ)
    (among : 0 < count i waiting) (key : Fragment) (same : same_key_words 2 (fragment_at ws i) key ≡ true) where
  hi : i < 4096
  hi = indexed_rows ws 2 waiting ix i among

  abbrev out : List ℕ
  out = unindex_row ws 2 (bucket_of 2 (fragment_at ws i)) i

  out_kept : Kept ws out 16 16 7 7 2
  out_kept = unindex_kept ws 2 (bucket_of 2 (fragment_at ws i)) i (omega arith) (bucket_in 2 (fragment_at ws i))

  out_long : length out ≡ 83472
  out_long = out_kept.long ∙ long

  its_once : (x : ℕ) → count x waiting ≤ 1
  its_once = waiting_once ws waiting ready long ix ln once

  out_indexed : Indexed out 2 (without i waiting)
  out_indexed = unindex_indexed ws 2 i waiting long (omega arith) hi ix its_once (waiting_few ws waiting ready long ix ln once) among

  out_lined : Lined out 10 ready
  out_lined =
      lined_frame ws out 10 ready (out_kept.header 10 (omega arith) (λ e. omega arith) (λ e. omega arith)) (out_kept.header 11 (omega arith) (λ e. omega arith) (λ e. omega arith))
      (λ x h hx. unindex_other ws 2 i waiting long (omega arith) hi ix its_once (waiting_few ws waiting ready long ix ln once) x hx (waiting_apart ws waiting ready long ix ln once x h))
      ln

  fewer : (x : ℕ) → count x (without i waiting) ≤ count x waiting
  fewer x = count_kept x (λ (y : ℕ). not (eqb y i)) waiting

  out_once : (x : ℕ) → count x (without i waiting ++ ready) ≤ 1
  out_once x = let a = count_append x (without i waiting) ready in let b = count_append x waiting ready in let o = once x in let c = fewer x in omega arith

  new : count i ready ≡ 0
  new = ready_apart ws waiting ready long ix ln once i among

  take_is : take_message ws key i ≡ append_message out 10 i
  unfolding take_message
  take_is = ap (λ (c : ℕ). append_message (unindex_row ws 2 c i) 10 i) (sym (one_bucket (fragment_at ws i) key 2 same))

  pub take_index : Indexed (take_message ws key i) 2 (without i waiting)
  take_index =
      subst (λ (r : List ℕ). Indexed r 2 (without i waiting)) (sym take_is)
      (append_index out (without i waiting) ready out_long out_indexed out_lined out_once i hi new (without i waiting) out_indexed (count_without i waiting)
      (λ x h. ready_apart ws waiting ready long ix ln once x (let c = fewer x in omega arith)))

  pub take_ready : Lined (take_message ws key i) 10 (ready ++ (i ∷ []))
  take_ready = subst (λ (r : List ℕ). Lined r 10 (ready ++ (i ∷ []))) (sym take_is) (append_ready out (without i waiting) ready out_long out_indexed out_lined out_once i hi new)

  pub take_kept : Kept ws (take_message ws key i) 10 11 7 7 2
  take_kept =
      subst (λ (r : List ℕ). Kept ws r 10 11 7 7 2) (sym take_is)
      (kept_both ws out (append_message out 10 i) 10 11 7 7 2 (kept_wider ws out 10 11 7 7 2 out_kept) (append_kept out (without i waiting) ready out_long out_indexed out_lined out_once i hi new))

  pub take_counts : (x : ℕ) → count x (without i waiting ++ (ready ++ (i ∷ []))) ≡ count x (waiting ++ ready)
  take_counts x =
      let a = count_append x (without i waiting) (ready ++ (i ∷ [])) in
      let b = count_append x ready (i ∷ []) in
      let c = count_append x waiting ready in
      elim (compare_same i x) [
        | equal s ↦ (let d = count_one x i s in
            let w : count x (without i waiting) ≡ 0 = subst (λ (y : ℕ). count y (without i waiting) ≡ 0) s (count_without i waiting) in
            let m : 0 < count x waiting = subst (λ (y : ℕ). 0 < count y waiting) s among in
            let o = its_once x in omega arith)
        | other n ↦ (let d = count_other x i n in let w = count_without_other i x waiting (λ e. n (sym e)) in omega arith)
      ]

-- ------------------------------------------------------------------ which message is next

module _ (b : Bool) (message : ℕ → Assembled) (s : ℕ) where
  -- of the rows xs: whether it is a message's turn is whether its key is asked for
  abbrev pub Turning : List ℕ → List ℕ → Type 0
  Turning ws xs = (x : ℕ) → 0 < count x xs → (n : ℕ) → n < 2 ^ width (kind_of b) → its_turn (kind_of b) s n (message x) ≡ same_key_words 2 (fragment_at ws x) (number_key b s n)

  data TakesRow (ws xs : List ℕ) (n : ℕ) : Type 0 where
    takes_none : first_key ws 2 (number_key b s n) xs ≡ 4096 → take_next (kind_of b) s n (map message xs) ≡ nothing → TakesRow ws xs n
    takes_row : (i : ℕ) → first_key ws 2 (number_key b s n) xs ≡ i → 0 < count i xs → same_key_words 2 (fragment_at ws i) (number_key b s n) ≡ true
        → take_next (kind_of b) s n (map message xs) ≡ taken (message i) (map message (without i xs)) → TakesRow ws xs n

  takes : (ws xs : List ℕ) (n : ℕ) → n < 2 ^ width (kind_of b) → Turning ws xs → ((x : ℕ) → count x xs ≤ 1) → TakesRow ws xs n
  unfolding first_key
  takes ws [] n h turn once = takes_none refl (next_nil (kind_of b) s n)
  takes ws (x ∷ xs) n h turn once =
      go (value (same_key_words 2 (fragment_at ws x) (number_key b s n)))
      (takes ws xs n h (λ y c. turn y (let m = count_cons y x xs in omega arith)) (tail_once x xs once))
    where
      here : its_turn (kind_of b) s n (message x) ≡ same_key_words 2 (fragment_at ws x) (number_key b s n)
      here = turn x (stands_here x xs) n h

      go : Value (same_key_words 2 (fragment_at ws x) (number_key b s n)) → TakesRow ws xs n → TakesRow ws (x ∷ xs) n
      go (yes_is e) ih =
          takes_row x (rw e) (stands_here x xs) e
          (next_yes (kind_of b) s n (message x) (map message xs) (here ∙ e) ∙ ap (λ (ys : List ℕ). taken (message x) (map message ys)) (sym (without_head x xs (head_once x xs once))))
      go (no_is e) (takes_none f t) =
          takes_none (rw e f) (next_no (kind_of b) s n (message x) (map message xs) (here ∙ e) ∙ ap (model.beside (message x)) t ∙ beside_nothing (message x))
      go (no_is e) (takes_row i f c k t) =
          takes_row i (rw e f) (let m = count_cons i x xs in omega arith) k
          (next_no (kind_of b) s n (message x) (map message xs) (here ∙ e) ∙ ap (model.beside (message x)) t ∙ beside_taken (message x) (message i) (map message (without i xs))
          ∙ ap (λ (ys : List ℕ). taken (message i) (map message ys)) (sym (without_there i x xs (unlike_head x i xs once c))))

  -- ---------------------------------------------------------------- several in turn

  -- the words and the number that are left are those of the messages that the model leaves; the rows are those of zs
  pub record Queues (ws zs : List ℕ) (t : Turned) (q : Queued) : Type 0 where
    pub waiting : List ℕ
    pub ready : List ℕ
    pub waiting_is : q.waiting ≡ map message waiting
    pub ready_is : q.ready ≡ map message ready
    pub next_is : t.next ≡ q.next
    pub next_fits : t.next < 2 ^ width (kind_of b)
    pub by_number : Indexed t.words 2 waiting
    pub lined : Lined t.words 10 ready
    pub counts : (x : ℕ) → count x (waiting ++ ready) ≡ count x zs
    -- nothing else is changed: the ends of the chain of ready messages, the links of messages, the index by number
    pub kept : Kept ws t.words 10 11 7 7 2

  queues_at : (ws zs : List ℕ) (t t' : Turned) (q q' : Queued) → t ≡ t' → q ≡ q' → Queues ws zs t' q' → Queues ws zs t q
  queues_at ws zs t t' q q' e f a = subst (λ (u : Turned). Queues ws zs u q) (sym e) (subst (λ (p : Queued). Queues ws zs t' p) (sym f) a)

  queues_after : (ws ws' zs zs' : List ℕ) (t : Turned) (q : Queued) → Kept ws ws' 10 11 7 7 2 → ((x : ℕ) → count x zs' ≡ count x zs) → Queues ws' zs' t q → Queues ws zs t q
  queues_after ws ws' zs zs' t q k c a = record {
    waiting = a.waiting;
    ready = a.ready;
    waiting_is = a.waiting_is;
    ready_is = a.ready_is;
    next_is = a.next_is;
    next_fits = a.next_fits;
    by_number = a.by_number;
    lined = a.lined;
    counts = λ x. a.counts x ∙ c x;
    kept = kept_both ws ws' t.words 10 11 7 7 2 k a.kept;
  }

  -- the clauses as equations
  stops_zero : (ws : List ℕ) (n : ℕ) → words.promote zero ws b s n ≡ turned ws n
  unfolding words.promote
  stops_zero ws n = refl

  stops_none : (m : ℕ) (ws : List ℕ) (n : ℕ) → find_row ws 2 (number_key b s n) ≡ 4096 → words.promote (suc m) ws b s n ≡ turned ws n
  unfolding words.promote
  stops_none m ws n e = rw e

  goes_on : (m : ℕ) (ws : List ℕ) (n i : ℕ) → find_row ws 2 (number_key b s n) ≡ i → i < 4096
      → words.promote (suc m) ws b s n ≡ words.promote m (take_message ws (number_key b s n) i) b s (next_turn b n)
  unfolding words.promote
  goes_on m ws n i e h = rw (e, lt-leb 4096 i h)

  -- the messages of a stream that are ready, and those that wait
  pub record Before (ws waiting ready : List ℕ) : Type 0 where
    pub long : length ws ≡ 83472
    pub by_number : Indexed ws 2 waiting
    pub lined : Lined ws 10 ready
    pub once : (x : ℕ) → count x (waiting ++ ready) ≤ 1
    pub turning : Turning ws waiting

  module _ (ws waiting ready : List ℕ) (n : ℕ) (p : Before ws waiting ready) (fits : n < 2 ^ width (kind_of b)) where
    abbrev left : Queued
    left = record { waiting = map message waiting; ready = map message ready; next = n }

    none_left : Queues ws (waiting ++ ready) (turned ws n) left
    none_left = record {
      waiting = waiting;
      ready = ready;
      waiting_is = refl;
      ready_is = refl;
      next_is = refl;
      next_fits = fits;
      by_number = p.by_number;
      lined = p.lined;
      counts = λ x. refl;
      kept = kept_none ws 10 11 7 7 2;
    }

    stays : (t : Turned) (q : Queued) → t ≡ turned ws n → q ≡ left → Queues ws (waiting ++ ready) t q
    stays t q e f = queues_at ws (waiting ++ ready) t (turned ws n) q left e f none_left

    next_row : TakesRow ws waiting n
    next_row = takes ws waiting n fits p.turning (waiting_once ws waiting ready p.long p.by_number p.lined p.once)

    find_next : find_row ws 2 (number_key b s n) ≡ first_key ws 2 (number_key b s n) waiting
    find_next = find_indexed ws 2 (number_key b s n) waiting p.by_number (waiting_few ws waiting ready p.long p.by_number p.lined p.once)

    -- after one
    module _ (i : ℕ) (c : 0 < count i waiting) (k : same_key_words 2 (fragment_at ws i) (number_key b s n) ≡ true) where
      abbrev ws1 : List ℕ
      ws1 = take_message ws (number_key b s n) i

      kept1 : Kept ws ws1 10 11 7 7 2
      kept1 = take_kept ws waiting ready p.long p.by_number p.lined p.once i c (number_key b s n) k

      counts1 : (x : ℕ) → count x (without i waiting ++ (ready ++ (i ∷ []))) ≡ count x (waiting ++ ready)
      counts1 = take_counts ws waiting ready p.long p.by_number p.lined p.once i c (number_key b s n) k

      before1 : Before ws1 (without i waiting) (ready ++ (i ∷ []))
      before1 = record {
        long = kept1.long ∙ p.long;
        by_number = take_index ws waiting ready p.long p.by_number p.lined p.once i c (number_key b s n) k;
        lined = take_ready ws waiting ready p.long p.by_number p.lined p.once i c (number_key b s n) k;
        once = λ x. let a = counts1 x in let o = p.once x in omega arith;
        turning = λ x h m l.
            let in_waiting : 0 < count x waiting = let a = count_kept x (λ (y : ℕ). not (eqb y i)) waiting in omega arith in
            p.turning x in_waiting m l
            ∙ ap (λ (f : Fragment). same_key_words 2 f (number_key b s m)) (sym (kept_fragment ws ws1 10 11 7 7 2 kept1 x (indexed_rows ws 2 waiting p.by_number x in_waiting)));
      }

  pub promotes : (m f : ℕ) (ws waiting ready : List ℕ) (n : ℕ) → Before ws waiting ready → n < 2 ^ width (kind_of b) → length waiting ≤ m → length waiting ≤ f
      → Queues ws (waiting ++ ready) (words.promote m ws b s n) (model.promote f (kind_of b) s n (map message waiting) (map message ready))
  promotes zero f ws waiting ready n p fits lm lf = stays ws waiting ready n p fits _ _ (stops_zero ws n) (none f (next_row ws waiting ready n p fits))
    where
      none : (f : ℕ) → TakesRow ws waiting n → model.promote f (kind_of b) s n (map message waiting) (map message ready) ≡ left ws waiting ready n p fits
      none zero t = promote_zero (kind_of b) s n (map message waiting) (map message ready)
      none (suc f) (takes_none a e) = promote_nothing f (kind_of b) s n (map message waiting) (map message ready) e
      none (suc f) (takes_row i a c k e) = absurd (let l = length_without i waiting (waiting_once ws waiting ready p.long p.by_number p.lined p.once) c in omega arith)
  promotes (suc m) f ws waiting ready n p fits lm lf = go f lf (next_row ws waiting ready n p fits) (λ g vs us rs o q h l k. promotes m g vs us rs o q h l k)
    where
      Rest : Type 0
      Rest = (g : ℕ) (vs us rs : List ℕ) (o : ℕ) → Before vs us rs → o < 2 ^ width (kind_of b) → length us ≤ m → length us ≤ g
          → Queues vs (us ++ rs) (words.promote m vs b s o) (model.promote g (kind_of b) s o (map message us) (map message rs))

      go : (f : ℕ) → length waiting ≤ f → TakesRow ws waiting n → Rest
          → Queues ws (waiting ++ ready) (words.promote (suc m) ws b s n) (model.promote f (kind_of b) s n (map message waiting) (map message ready))
      go zero l (takes_none a e) ih =
          stays ws waiting ready n p fits _ _ (stops_none m ws n (find_next ws waiting ready n p fits ∙ a)) (promote_zero (kind_of b) s n (map message waiting) (map message ready))
      go (suc f) l (takes_none a e) ih =
          stays ws waiting ready n p fits _ _ (stops_none m ws n (find_next ws waiting ready n p fits ∙ a)) (promote_nothing f (kind_of b) s n (map message waiting) (map message ready) e)
      go zero l (takes_row i a c k e) ih = absurd (let z = length_without i waiting (waiting_once ws waiting ready p.long p.by_number p.lined p.once) c in omega arith)
      go (suc f) l (takes_row i a c k e) ih =
          queues_at ws (waiting ++ ready) _ (words.promote m (ws1 ws waiting ready n p fits i c k) b s (next_turn b n)) _
          (model.promote f (kind_of b) s (next_turn b n) (map message (without i waiting)) (map message (ready ++ (i ∷ []))))
          (goes_on m ws n i (find_next ws waiting ready n p fits ∙ a) (indexed_rows ws 2 waiting p.by_number i c))
          (promote_taken f (kind_of b) s n (map message waiting) (map message ready) (message i) (map message (without i waiting)) e
          ∙ ap₂ (λ (o : ℕ) (rs : List Assembled). model.promote f (kind_of b) s o (map message (without i waiting)) rs) (sym (next_turn_is b n fits)) (map_end message ready i))
          (queues_after ws (ws1 ws waiting ready n p fits i c k) (waiting ++ ready) (without i waiting ++ (ready ++ (i ∷ []))) _ _ (kept1 ws waiting ready n p fits i c k) (counts1 ws waiting ready n p fits i c k)
          (ih f (ws1 ws waiting ready n p fits i c k) (without i waiting) (ready ++ (i ∷ [])) (next_turn b n) (before1 ws waiting ready n p fits i c k) (next_turn_fits b n fits)
          (let z = length_without i waiting (waiting_once ws waiting ready p.long p.by_number p.lined p.once) c in omega arith)
          (let z = length_without i waiting (waiting_once ws waiting ready p.long p.by_number p.lined p.once) c in omega arith)))

  -- ---------------------------------------------------------------- one more message

  module _ (ws waiting ready : List ℕ) (n : ℕ) (p : Before ws waiting ready) (fits : n < 2 ^ width (kind_of b)) (i : ℕ) (hi : i < 4096) (new : count i (waiting ++ ready) ≡ 0) where
    not_waiting : count i waiting ≡ 0
    not_waiting = let a = count_append i waiting ready in omega arith

    not_ready : count i ready ≡ 0
    not_ready = let a = count_append i waiting ready in omega arith

    -- unordered: it is ready
    ready_now : Queues ws (i ∷ waiting ++ ready) (turned (append_message ws 10 i) n) (record { waiting = map message waiting; ready = map message ready ++ (message i ∷ []); next = n })
    ready_now = record {
      waiting = waiting;
      ready = ready ++ (i ∷ []);
      waiting_is = refl;
      ready_is = map_end message ready i;
      next_is = refl;
      next_fits = fits;
      by_number = append_index ws waiting ready p.long p.by_number p.lined p.once i hi not_ready waiting p.by_number not_waiting
          (ready_apart ws waiting ready p.long p.by_number p.lined p.once);
      lined = append_ready ws waiting ready p.long p.by_number p.lined p.once i hi not_ready;
      counts = added;
      kept = append_kept ws waiting ready p.long p.by_number p.lined p.once i hi not_ready;
    }
      where
        added : (x : ℕ) → count x (waiting ++ (ready ++ (i ∷ []))) ≡ count x (i ∷ waiting ++ ready)
        added x =
            let a = count_append x waiting (ready ++ (i ∷ [])) in
            let c = count_append x ready (i ∷ []) in
            let d = count_append x waiting ready in
            elim (compare_same i x) [
              | equal e ↦ (let f = count_one x i e in let g = count_here x i (waiting ++ ready) e in omega arith)
              | other e ↦ (let f = count_other x i e in let g = count_there x i (waiting ++ ready) e in omega arith)
            ]

    -- ordered: it waits
    abbrev later : List ℕ
    later = index_last ws 2 (bucket_of 2 (fragment_at ws i)) i

    later_kept : Kept ws later 16 16 7 7 2
    later_kept = last_kept ws 2 (bucket_of 2 (fragment_at ws i)) i (omega arith) (bucket_in 2 (fragment_at ws i)) hi

    later_counts : (x : ℕ) → count x ((waiting ++ (i ∷ [])) ++ ready) ≡ count x (i ∷ waiting ++ ready)
    later_counts x =
        let a = count_append x (waiting ++ (i ∷ [])) ready in
        let c = count_append x waiting (i ∷ []) in
        let d = count_append x waiting ready in
        elim (compare_same i x) [
          | equal e ↦ (let f = count_one x i e in let g = count_here x i (waiting ++ ready) e in omega arith)
          | other e ↦ (let f = count_other x i e in let g = count_there x i (waiting ++ ready) e in omega arith)
        ]

    before_later : Turning ws (i ∷ []) → Before later (waiting ++ (i ∷ [])) ready
    before_later turn = record {
      long = later_kept.long ∙ p.long;
      by_number = last_indexed ws 2 i waiting p.long (omega arith) hi p.by_number once few_waiting not_waiting;
      lined = lined_frame ws later 10 ready (later_kept.header 10 (omega arith) (λ e. omega arith) (λ e. omega arith)) (later_kept.header 11 (omega arith) (λ e. omega arith) (λ e. omega arith))
          (λ x h hx. last_other ws 2 i waiting p.long (omega arith) hi p.by_number once few_waiting x hx (not_among i x ready not_ready h)
          (waiting_apart ws waiting ready p.long p.by_number p.lined p.once x h))
          p.lined;
      once = λ x. let a = later_counts x in let o = p.once x in elim (compare_same i x) [
        | equal e ↦ (let g = count_here x i (waiting ++ ready) e in
            let z : count x (waiting ++ ready) ≡ 0 = subst (λ (y : ℕ). count y (waiting ++ ready) ≡ 0) e new in omega arith)
        | other e ↦ (let g = count_there x i (waiting ++ ready) e in omega arith)
      ];
      turning = λ x h m l. turned_key x h m l;
    }
      where
        once : (x : ℕ) → count x waiting ≤ 1
        once = waiting_once ws waiting ready p.long p.by_number p.lined p.once

        few_waiting : length waiting ≤ 4096
        few_waiting = waiting_few ws waiting ready p.long p.by_number p.lined p.once

        same_key : (x : ℕ) → x < 4096 → (m : ℕ) → same_key_words 2 (fragment_at ws x) (number_key b s m) ≡ same_key_words 2 (fragment_at later x) (number_key b s m)
        same_key x hx m = ap (λ (f : Fragment). same_key_words 2 f (number_key b s m)) (sym (kept_fragment ws later 16 16 7 7 2 later_kept x hx))

        turned_key : Turning later (waiting ++ (i ∷ []))
        turned_key x h m l = elim (compare_same i x) [
          | equal e ↦ turn x (let c = count_one x i e in omega arith) m l ∙ same_key x (subst (λ (y : ℕ). y < 4096) e hi) m
          | other e ↦ (let c = count_append x waiting (i ∷ []) in let d = count_other x i e in
              let w : 0 < count x waiting = omega arith in p.turning x w m l ∙ same_key x (indexed_rows ws 2 waiting p.by_number x w) m)
        ]

    waits : Turning ws (i ∷ [])
        → Queues ws (i ∷ waiting ++ ready) (words.promote 4096 later b s n) (model.promote (suc (length (map message waiting))) (kind_of b) s n (map message waiting ++ (message i ∷ [])) (map message ready))
    waits turn =
        queues_at ws (i ∷ waiting ++ ready) _ _ _ (model.promote (suc (length (map message waiting))) (kind_of b) s n (map message (waiting ++ (i ∷ []))) (map message ready)) refl
        (ap (λ (vs : List Assembled). model.promote (suc (length (map message waiting))) (kind_of b) s n vs (map message ready)) (map_end message waiting i))
        (queues_after ws later (i ∷ waiting ++ ready) ((waiting ++ (i ∷ [])) ++ ready) _ _ (kept_wider ws later 10 11 7 7 2 later_kept) later_counts
        (promotes 4096 (suc (length (map message waiting))) later (waiting ++ (i ∷ [])) ready n q fits
        (waiting_few later (waiting ++ (i ∷ [])) ready q.long q.by_number q.lined q.once)
        (let a = length_end waiting i in let c = length_of_map message waiting in omega arith)))
      where
        q : Before later (waiting ++ (i ∷ [])) ready
        q = before_later turn

    -- "Unordered ones are ready when complete, ordered ones when also next in their stream": `queue_up` is the model's
    pub queues_up : Turning ws (i ∷ []) → (fragment_at ws i).stream.0 ≡ s → (message i).head.stream ≡ s
        → Queues ws (i ∷ waiting ++ ready) (words.queue_up ws b (fragment_at ws i) i n) (model.queue_up (fragment_at ws i).unordered (kind_of b) (message i) n (map message waiting) (map message ready))
    unfolding words.queue_up model.queue_up
    queues_up turn e f = go (fragment_at ws i).unordered
      where
        go : (u : Bool) → Queues ws (i ∷ waiting ++ ready) (pick u (turned (append_message ws 10 i) n) (words.promote 4096 later b (fragment_at ws i).stream.0 n))
            (model.queue_up u (kind_of b) (message i) n (map message waiting) (map message ready))
        go true = ready_now
        go false =
            queues_at ws (i ∷ waiting ++ ready) _ (words.promote 4096 later b s n) _
            (model.promote (suc (length (map message waiting))) (kind_of b) s n (map message waiting ++ (message i ∷ [])) (map message ready))
            (ap (λ (y : ℕ). words.promote 4096 later b y n) e)
            (ap (λ (y : ℕ). model.promote (suc (length (map message waiting))) (kind_of b) y n (map message waiting ++ (message i ∷ [])) (map message ready)) f)
            (waits turn)
