-- A message at the end of a known stream, from any words that hold together: the words before its stream is let wait. Assumes nothing.
use mathlib.Core.Path.{◌≡◌, refl, sym, ap, ◌∙◌, subst}
use mathlib.Core.List.{List, [], ◌∷◌, ◌++◌}
use Prim.Native.Nat.{ℕ, ◌+◌, ◌-◌, ◌≤◌, ◌<◌}
use native.Mathlib.Omega.{arith}
use borrow.Author.Tests.{le-ltb}
use lib.ListN.{length}
use Rattle.queue_words.specs.Header.{totals_at}
use Rattle.queue_words.specs.Items.{item_at}
use Rattle.queue_words.specs.Known.{id_at}
use Rattle.queue_words.specs.Streams.{stream_at_words}
use Rattle.queue_words.specs.declared.header.Totals.{Totals}
use Rattle.queue_words.specs.declared.items.Item.{Item}
use Rattle.queue_words.specs.declared.streams.OutgoingStream.{OutgoingStream}
use Rattle.queue_model.specs.Streams.{put_stream}
use Rattle.payload_store.specs.Words.{size_of, used_of}
use Rattle.payload_store.specs.Good.{payload_of}
use Rattle.payload_store.specs.Promise.{SamePlaces}
use Rattle.payload_store.proofs.Goods.{good_same, payload_kept}
use Rattle.stream_scheduler.specs.Link.{GoodScheduler, model_scheduler}
use Rattle.message_chains.specs.Amounts.{sum}
use Rattle.queue_state.specs.Chains.{Linked, last_of, count, sum_of, each, Split}
use Rattle.queue_state.specs.Model.{next_of, item_of, item_in_words, stream_of, row_at, streams_in}
use Rattle.queue_state.specs.Good.{Row, Shape}
use Rattle.queue_state.proofs.Chains.{hit_other, count_head, count_snoc, length_snoc, last_snoc, sum_snoc, each_snoc, each_frame, sum_frame, linked_append, last_lt, last_member, absent}
use Rattle.queue_state.proofs.Splits.{free_once, row_once, far_free, far_tail}
use Rattle.queue_state.proofs.Frames.{Same, Kept, free_frame, free_fits, row_fits}
use Rattle.queue_state.proofs.Steps.{After, step}
use Rattle.stream_scheduler.proofs.Link.{scheduler_same}
use Rattle.queue_messages.specs.Add.{with_last}
use Rattle.linked_adding.proofs.Placed.{Placed}
use Rattle.linked_adding.proofs.Hung.{Hung}
use Rattle.payload_store.proofs.Cases.{by_index}

pub sum_is : (a b : ℕ) → a + b ≤ 18446744073709551615 → sum a b ≡ a + b
unfolding sum
sum_is a b h = rw (le-ltb (18446744073709551615 - a) b (omega arith))

-- The first place of a stream with one message more.
abbrev pub First : List ℕ → ℕ → ℕ → ℕ → Type 0
First [] first p old = first ≡ p
First (x ∷ xs) first p old = first ≡ old

-- Totals t with one message more: u. The first free place is then `free`; the sums of bytes are free to be others.
pub record Counted (t : Totals) (free : ℕ) (u : Totals) : Type 0 where
  pub known : u.known ≡ t.known
  pub waiting : u.waiting ≡ sum t.waiting 1
  pub free_is : u.free ≡ free
  pub used : u.used ≡ t.used
  pub gaps : u.gaps ≡ t.gaps

module _ (ws st : List ℕ) (g : Shape ws st) (i : ℕ) (hk : i < (totals_at ws).known) (p : ℕ) (fr : List ℕ) (efr : g.fr ≡ p ∷ fr) (hp : p < 1024) (behind : Linked (next_of ws) (next_of ws p) fr)
    (m : Item) (bs : List ℕ) (ends : m.next ≡ 1024) (some_bytes : 1 ≤ length bs)
    (vs ut : List ℕ) (a : Placed ws st p m bs vs ut)
    (us : List ℕ) (first n : ℕ) (t : Totals) (c : Counted (totals_at vs) (next_of ws p) t) (b : Hung vs us (row_at ws i) (stream_at_words ws (row_at ws i)).last p (with_last (stream_at_words ws (row_at ws i)) first p n) t)
    (first_is : First (g.q i) first p (stream_at_words ws (row_at ws i)).first) where
  abbrev row : ℕ
  row = row_at ws i

  abbrev s : OutgoingStream
  s = stream_at_words ws (row_at ws i)

  abbrev l : ℕ
  l = (stream_at_words ws (row_at ws i)).last

  below : i < 256
  below = omega (arith, g.known_fits)

  split_p : Split g.q (p ∷ fr)
  split_p = rw efr at g.split

  own_row : Row ws s (g.q i)
  own_row = g.rows i hk

  -- ---- the places that stay

  last_mine : l < 1024 → 1 ≤ count l (g.q i)
  last_mine h = rw own_row.last_is (last_member (g.q i) (λ e. omega (arith, own_row.last_is)))

  -- the new place is none of the stream's
  far : (x : ℕ) → 1 ≤ count x (g.q i) → p ≡ x → ⊥
  far x h = far_free g.q (p ∷ fr) split_p p x i below (count_head p fr) h

  far_last : l < 1024 → l ≡ p → ⊥
  far_last h e = far l (last_mine h) (sym e)

  places_same : SamePlaces vs us
  places_same = record {
    long = b.long;
    places = λ x h. b.place_kept x;
    sizes = λ x h. b.size_kept x;
    used = ap (λ (x : Totals). x.used) b.totals ∙ c.used;
    gaps = ap (λ (x : Totals). x.gaps) b.totals ∙ c.gaps;
  }

  item_same : (x : ℕ) → x < 1024 → item_in_words us ut x ≡ item_in_words vs ut x
  unfolding item_in_words
  item_same x h = b.item_kept x (payload_of us ut x) ∙ ap (item_of (item_at vs x)) (payload_kept vs us ut x places_same h)

  model_size_of : (x : ℕ) → (p ≡ x → ⊥) → size_of us x ≡ size_of ws x
  model_size_of x ne = b.size_kept x ∙ a.size_kept x ne

  item_of_lem : (x : ℕ) → x < 1024 → (p ≡ x → ⊥) → item_in_words us ut x ≡ item_in_words ws st x
  item_of_lem x h ne = item_same x h ∙ a.item_kept x h ne

  same_of : (x : ℕ) → x < 1024 → (p ≡ x → ⊥) → (l < 1024 → l ≡ x → ⊥) → Same ws st us ut x
  same_of x h ne nl = record { next_same = b.next_kept x nl ∙ a.next_kept x ne; size_same = model_size_of x ne; item_same = item_of_lem x h ne }

  only : (x : ℕ) → x < 1024 → count x g.fr ≡ 0 → count x (g.q i) ≡ 0 → Same ws st us ut x
  only x h z y =
      let z' : count x (p ∷ fr) ≡ 0 = rw efr at z in
      same_of x h (absent p x (p ∷ fr) (count_head p fr) z') (λ b. absent l x (g.q i) (last_mine b) y)

  free_kept : Kept ws st us ut fr
  free_kept x h =
      same_of x (free_fits g.q (p ∷ fr) x split_p (omega arith)) (far_tail p x fr (free_once g.q (p ∷ fr) split_p) h)
      (λ b e. let k : 1 ≤ count l (p ∷ fr) = subst (λ (w : ℕ). 1 ≤ count w (p ∷ fr)) (sym e) (omega arith) in far_free g.q (p ∷ fr) split_p l l i below k (last_mine b) refl)

  -- ---- the chain

  new_next : next_of us p ≡ 1024
  new_next = b.next_kept p far_last ∙ a.new_next ∙ ends

  linked_new : (ps : List ℕ) → g.q i ≡ ps → First ps first p s.first → Linked (next_of us) first (ps ++ (p ∷ []))
  linked_new [] e f = (f, hp, new_next)
  linked_new (x ∷ xs) e f =
      let k : Linked (next_of ws) s.first (x ∷ xs) = rw e at own_row.linked in
      let z : l ≡ last_of x xs = own_row.last_is ∙ ap (last_of 1024) e in
      let h : l < 1024 = omega (arith, last_lt (next_of ws) s.first x xs k) in
      let el : next_of us (last_of x xs) ≡ p = rw (← z) (b.next_turned h) in
      rw f
      (linked_append (next_of ws) (next_of us) p s.first x xs k (λ y. rw e at (row_once g.q (p ∷ fr) split_p y i below)) hp new_next el
      (λ y c ny. let c' : 1 ≤ count y (g.q i) = rw e c in b.next_kept y (λ h e. ny (sym z ∙ e)) ∙ a.next_kept y (far y c')))

  row_new : Row us (stream_at_words us (row_at ws i)) (g.q i ++ (p ∷ []))
  row_new = rw b.own_row (record { linked = linked_new (g.q i) refl first_is; last_is = sym (last_snoc 1024 p (g.q i)) })

  -- ---- sizes and counts

  new_size : size_of us p ≡ length bs
  new_size = b.size_kept p ∙ a.new_size

  full_new : (x : ℕ) → 1 ≤ count x (g.q i ++ (p ∷ [])) → 1 ≤ size_of us x
  full_new x h = by_index p x
      (λ e. subst (λ y. 1 ≤ size_of us y) e (omega (arith, new_size)))
      (λ ne. omega (arith, model_size_of x ne, g.full i x (omega (arith, count_snoc x p (g.q i), hit_other x p (λ e. ne (sym e))))))

  bare_new : (x : ℕ) → 1 ≤ count x fr → size_of us x ≡ 0
  bare_new x h = (free_kept x h).size_same ∙ g.bare x (rw efr (omega arith))

  totals_known : (totals_at us).known ≡ (totals_at ws).known
  totals_known = ap (λ (x : Totals). x.known) b.totals ∙ c.known ∙ ap (λ (x : Totals). x.known) a.totals

  few : (totals_at ws).waiting ≤ 1024
  few = omega (arith, g.waits, g.split.all)

  totals_waiting : (totals_at us).waiting ≡ (totals_at ws).waiting + 1
  totals_waiting =
      ap (λ (x : Totals). x.waiting) b.totals ∙ c.waiting ∙ ap (λ (x : Totals). sum x.waiting 1) a.totals ∙ sum_is (totals_at ws).waiting 1 (omega (arith, few))

  totals_used : used_of us ≡ used_of ws + length bs
  totals_used = places_same.used ∙ a.used

  sum_new : sum_of (size_of us) (g.q i ++ (p ∷ [])) ≡ sum_of (size_of ws) (g.q i) + length bs
  sum_new = omega (arith, sum_snoc (size_of us) p (g.q i), sum_frame (size_of ws) (size_of us) (g.q i) (λ x h. model_size_of x (far x h)), new_size)

  free_first : (totals_at us).free ≡ next_of ws p
  free_first = ap (λ (x : Totals). x.free) b.totals ∙ c.free_is

  schedulers : GoodScheduler us × (model_scheduler us ≡ model_scheduler ws)
  schedulers =
      scheduler_same ws us (b.long ∙ a.long) (b.options ∙ a.options) (b.scheduler ∙ a.scheduler) (λ j. b.active j ∙ a.active j) (b.leasts ∙ a.leasts) g.schedules

  pub after : After ws st g i us ut (g.q i ++ (p ∷ [])) fr
  after = step ws st g i hk us ut (g.q i ++ (p ∷ [])) fr (record {
    long' = b.long ∙ a.long ∙ g.long;
    known' = totals_known;
    table' = λ j h. b.known j h ∙ a.known j h;
    places = λ x. rw efr (omega (arith, count_snoc x p (g.q i)));
    number = rw efr (omega (arith, length_snoc p (g.q i)));
    waits' = omega (arith, totals_waiting, length_snoc p (g.q i));
    used' = omega (arith, totals_used, sum_new);
    free' = rw free_first (free_frame ws st us ut (next_of ws p) fr free_kept behind);
    row' = row_new;
    full' = full_new;
    bare' = bare_new;
    others' = λ r h ne. b.other_rows r h ne ∙ a.streams r h;
    only = only;
    lay' = good_same vs us ut places_same a.lay;
    schedules' = schedulers.0;
  })

  items_new : each (item_in_words us ut) (g.q i ++ (p ∷ [])) ≡ each (item_in_words ws st) (g.q i) ++ (item_of m bs ∷ [])
  items_new =
      each_snoc (item_in_words us ut) p (g.q i)
      ∙ rw (each_frame (item_in_words ws st) (item_in_words us ut) (g.q i) (λ x h. item_of_lem x (row_fits g.q g.fr x i g.split below h) (far x h)), item_same p hp, a.new_item)

  pub streams_new : streams_in us ut ≡ put_stream (stream_of (id_at ws i) (with_last s first p n) (each (item_in_words ws st) (g.q i) ++ (item_of m bs ∷ []))) (streams_in ws st)
  streams_new = after.streams ∙ rw (b.own_row, items_new)

  pub scheduler_new : model_scheduler us ≡ model_scheduler ws
  scheduler_new = schedulers.1
