-- A stream made known: the words stay those of a queue, whose streams have it in its place. Assumes nothing.
use mathlib.Core.Path.{◌≡◌, refl, sym, ap, ◌∙◌, subst}
use mathlib.Core.List.{List, []}
use Prim.Native.Nat.{ℕ, zero, suc, ◌+◌, ◌-◌, ◌≤◌, ◌<◌}
use native.Mathlib.Numerals.{add-one}
use native.Mathlib.Omega.{arith}
use borrow.Author.Tests.{lt-ltb, le-ltb, eq-eqb, ne_eqb}
use lib.Dec.{ltb, eqb}
use lib.ListN.{length}
use Rattle.queue_words.specs.Flags.{pick}
use Rattle.queue_words.specs.Header.{options_at, totals_at, put_totals, scheduler_at}
use Rattle.queue_words.specs.Items.{item_at}
use Rattle.queue_words.specs.Active.{active_at}
use Rattle.queue_words.specs.Leasts.{leasts_at}
use Rattle.queue_words.specs.Known.{known_at, put_known, id_at, RisingKnown}
use Rattle.queue_words.specs.Streams.{stream_at_words, put_stream_words, FitsStream}
use Rattle.queue_words.specs.declared.header.Totals.{Totals}
use Rattle.queue_words.specs.declared.items.Item.{Item}
use Rattle.queue_words.specs.declared.known.Known.{Known}
use Rattle.queue_words.specs.declared.streams.OutgoingStream.{OutgoingStream}
use Rattle.queue_words.proofs.Laws
use Rattle.queue_model.specs.Streams.{put_stream, stream_key}
use Rattle.payload_store.specs.Words.{size_of, used_of}
use Rattle.payload_store.specs.Promise.{SamePlaces}
use Rattle.payload_store.proofs.Cases.{by_index}
use Rattle.payload_store.proofs.Goods.{good_same, payload_kept}
use Rattle.stream_scheduler.specs.Link.{GoodScheduler, model_scheduler}
use Rattle.stream_scheduler.proofs.Link.{scheduler_same}
use Rattle.queue_streams.specs.Known.{shifted, with_known, inserted}
use Rattle.queue_streams.proofs.Beside.{Beside, shift_beside, tabled_beside, Around, around}
use Rattle.queue_state.specs.Chains.{count, sum_of, sum_to, total, each, Split}
use Rattle.queue_state.specs.Model.{item_in_words, stream_of, row_at, stream_in, streams_in, tab}
use Rattle.queue_state.specs.Good.{Row, Shape}
use Rattle.queue_state.proofs.Chains.{sum_frame}
use Rattle.queue_state.proofs.Splits.{total_upto, total_agree}
use Rattle.queue_state.proofs.Tabs.{tab_insert}
use Rattle.queue_state.proofs.Frames.{Same, Kept, same_item, row_frame, free_frame, items_frame, stream_row, free_fits, row_fits, short, stream_key_in}
use Rattle.queue_words.proofs.Finds.{by_lt}

-- ------------------------------------------------------------------ an empty list put between

-- The lists with an empty one in position p; those from p on move up.
unfoldable pub spread : (ℕ → List ℕ) → ℕ → ℕ → List ℕ
spread q p j = pick (ltb j p) (q j) (pick (eqb j p) [] (q (j - 1)))

pub spread_before : (q : ℕ → List ℕ) (p j : ℕ) → j < p → spread q p j ≡ q j
unfolding spread
spread_before q p j h = rw (lt-ltb j p h)

pub spread_here : (q : ℕ → List ℕ) (p : ℕ) → spread q p p ≡ []
unfolding spread
spread_here q p = rw (le-ltb p p (omega arith), eq-eqb p p refl)

pub spread_after : (q : ℕ → List ℕ) (p j : ℕ) → p ≤ j → spread q p (suc j) ≡ q j
unfolding spread
spread_after q p j h =
    let e : suc j - 1 ≡ j = omega arith in
    rw (le-ltb (suc j) p (omega arith), ne_eqb (suc j) p (λ z. omega arith), e)

sum_before : (h : List ℕ → ℕ) (q : ℕ → List ℕ) (p n : ℕ) → n ≤ p → sum_to (λ j. h (spread q p j)) n ≡ sum_to (λ j. h (q j)) n
unfolding sum_to
sum_before h q p zero l = refl
sum_before h q p (suc n) l = rw (spread_before q p n (omega arith), sum_before h q p n (omega arith))

sum_spread : (h : List ℕ → ℕ) (q : ℕ → List ℕ) (p n : ℕ) → h [] ≡ 0 → p ≤ n → sum_to (λ j. h (spread q p j)) (suc n) ≡ sum_to (λ j. h (q j)) n
unfolding sum_to
sum_spread h q p zero z l =
    let e : p ≡ 0 = omega arith in
    let a : h (spread q p 0) ≡ 0 = subst (λ x. h (spread q p x) ≡ 0) e (ap h (spread_here q p) ∙ z) in
    omega arith
sum_spread h q p (suc n) z l = by_index p (suc n) here (λ ne. more (sum_spread h q p n z (omega arith)) (omega arith))
  where
    here : p ≡ suc n → sum_to (λ j. h (spread q p j)) (suc (suc n)) ≡ sum_to (λ j. h (q j)) (suc n)
    here e =
        let a : h (spread q p (suc n)) ≡ 0 = subst (λ x. h (spread q p x) ≡ 0) e (ap h (spread_here q p) ∙ z) in
        omega (arith, sum_before h q p (suc n) (omega arith))

    more : sum_to (λ j. h (spread q p j)) (suc n) ≡ sum_to (λ j. h (q j)) n → p ≤ n → sum_to (λ j. h (spread q p j)) (suc (suc n)) ≡ sum_to (λ j. h (q j)) (suc n)
    more r k =
        let a : h (spread q p (suc n)) ≡ h (q n) = ap h (spread_after q p n k) in
        omega arith

-- The sum over the lists is the same.
pub total_spread : (h : List ℕ → ℕ) (q : ℕ → List ℕ) (p n : ℕ) → h [] ≡ 0 → p ≤ n → n < 256 → ((j : ℕ) → n ≤ j → q j ≡ []) → total h (spread q p) ≡ total h q
total_spread h q p n z l b r =
    total_upto h (spread q p) (suc n) (omega arith) none ∙ sum_spread h q p n z l ∙ sym (total_upto h q n (omega arith) (λ j k. ap h (r j k) ∙ z))
  where
    none : (j : ℕ) → suc n ≤ j → h (spread q p j) ≡ 0
    none zero k = absurd (omega arith)
    none (suc j) k = ap h (spread_after q p j (omega arith) ∙ r j (omega arith)) ∙ z

-- A position after one was put in: before it, it, or one that moved up.
pub by_place : (G : ℕ → Type 0) (p n : ℕ) → ((j : ℕ) → j < p → G j) → G p → ((j : ℕ) → p ≤ j → j < n → G (suc j)) → (j : ℕ) → j < suc n → G j
by_place G p n below here above j h = by_lt j p (λ l. below j l) (λ l. by_index p j (λ e. subst G e here) (λ ne. moved j (omega arith) h))
  where
    moved : (j : ℕ) → p < j → j < suc n → G j
    moved zero l k = absurd (omega arith)
    moved (suc j) l k = above j (omega arith) (omega arith)

-- ------------------------------------------------------------------ what is stored

module _ (ws : List ℕ) (n : ℕ) (long : length ws ≡ 20768) (few : n < 256) where
  -- The rows that have not moved.
  pub shift_low : (k j : ℕ) → k ≤ n → j ≤ n - k → known_at (shifted ws n k) j ≡ known_at ws j
  unfolding shifted
  shift_low zero j h l = refl
  shift_low (suc k) j h l =
      Laws.known_at_put_other (shifted ws n k) (n - k) (known_at (shifted ws n k) (n - k - 1)) j (λ e. omega arith) ∙ shift_low k j (omega arith) (omega arith)

  -- The rows that have.
  pub shift_high : (k j : ℕ) → k ≤ n → n - k ≤ j → j < n → known_at (shifted ws n k) (suc j) ≡ known_at ws j
  unfolding shifted
  shift_high zero j h l m = absurd (omega arith)
  shift_high (suc k) j h l m = by_index (n - k) (suc j) here (λ ne. there ne (shift_high k j (omega arith) (omega arith) m))
    where
      us : List ℕ
      us = shifted ws n k

      here : n - k ≡ suc j → known_at (put_known us (n - k) (known_at us (n - k - 1))) (suc j) ≡ known_at ws j
      here e =
          let d : suc j - 1 ≡ j = omega arith in
          rw (e, d) (Laws.known_at_put us (suc j) (known_at us j) ((shift_beside ws n few k).long ∙ long) (omega arith) (Laws.known_at_fits us j) ∙ shift_low k j (omega arith) (omega arith))

      there : (n - k ≡ suc j → ⊥) → known_at us (suc j) ≡ known_at ws j → known_at (put_known us (n - k) (known_at us (n - k - 1))) (suc j) ≡ known_at ws j
      there ne r = Laws.known_at_put_other us (n - k) (known_at us (n - k - 1)) (suc j) ne ∙ r

-- What the words are after a stream was made known in position p.
pub record Stored (ws : List ℕ) (p id : ℕ) (s : OutgoingStream) (us : List ℕ) : Type 0 where
  pub long : length us ≡ length ws
  pub options : options_at us ≡ options_at ws
  pub totals : totals_at us ≡ with_known (totals_at ws) ((totals_at ws).known + 1)
  pub scheduler : scheduler_at us ≡ scheduler_at ws
  pub items : (x : ℕ) → item_at us x ≡ item_at ws x
  pub active : (j : ℕ) → active_at us j ≡ active_at ws j
  pub leasts : leasts_at us ≡ leasts_at ws
  -- the new row is the first that no stream has
  pub row_new : stream_at_words us (totals_at ws).known ≡ s
  pub row_other : (r : ℕ) → ((totals_at ws).known ≡ r → ⊥) → stream_at_words us r ≡ stream_at_words ws r
  -- the table
  pub below : (j : ℕ) → j < p → known_at us j ≡ known_at ws j
  pub here : known_at us p ≡ record { id = record { 0 = id }; place = (totals_at ws).known }
  pub above : (j : ℕ) → p ≤ j → j < (totals_at ws).known → known_at us (suc j) ≡ known_at ws j

module _ (ws : List ℕ) (p id : ℕ) (s : OutgoingStream) (long : length ws ≡ 20768) (few : (totals_at ws).known < 256) (hp : p ≤ (totals_at ws).known) (hid : id < 65536) (fits : FitsStream s) where
  abbrev n : ℕ
  n = (totals_at ws).known

  -- the table with the rows moved; with the new row; with the stream
  abbrev moved_words : List ℕ
  moved_words = shifted ws n (n - p)

  abbrev tabled_words : List ℕ
  tabled_words = put_known moved_words p (record { id = record { 0 = id }; place = n })

  abbrev full_words : List ℕ
  full_words = put_stream_words tabled_words n s

  abbrev more : Totals
  more = with_known (totals_at ws) (n + 1)

  tabled : Beside ws tabled_words
  tabled = tabled_beside ws p id long few hp

  -- a row of the table is not changed by what is stored after it
  late : (j : ℕ) → j < 256 → known_at (put_totals full_words more) j ≡ known_at tabled_words j
  late j h = Laws.known_put_totals full_words more j ∙ Laws.known_put_stream tabled_words n s j h

  other : (j : ℕ) → (p ≡ j → ⊥) → known_at tabled_words j ≡ known_at moved_words j
  other j ne = Laws.known_at_put_other moved_words p (record { id = record { 0 = id }; place = n }) j ne

  stored_table : (us : List ℕ) → us ≡ put_totals full_words more → Around ws us → Stored ws p id s us
  stored_table us e o = record {
    long = o.long;
    options = o.options;
    totals = o.totals;
    scheduler = o.scheduler;
    items = o.items;
    active = o.active;
    leasts = o.leasts;
    row_new = rw e (Laws.stream_put_totals full_words more n ∙ Laws.stream_at_put tabled_words n s (tabled.long ∙ long) few fits);
    row_other = rw e (λ r ne. Laws.stream_put_totals full_words more r ∙ Laws.stream_at_put_other tabled_words n s r ne ∙ tabled.streams r);
    below = rw e (λ j h. late j (omega arith) ∙ other j (λ z. omega arith) ∙ shift_low ws n long few (n - p) j (omega arith) (omega arith));
    here = rw e (late p (omega arith) ∙ Laws.known_at_put moved_words p (record { id = record { 0 = id }; place = n }) ((shift_beside ws n few (n - p)).long ∙ long) (omega arith) (record { id_fits = hid }));
    above = rw e (λ j h l. late (suc j) (omega arith) ∙ other (suc j) (λ z. omega arith) ∙ shift_high ws n long few (n - p) j (omega arith) (omega arith) l);
  }

  pub stored : Stored ws p id s (inserted ws p id s)
  unfolding inserted
  stored = stored_table (inserted ws p id s) refl (around ws p id long few hp s)

-- ------------------------------------------------------------------ what follows

pub record Inserted (ws st : List ℕ) (g : Shape ws st) (p id : ℕ) (s : OutgoingStream) (us : List ℕ) : Type 0 where
  pub shape : Shape us st
  -- the new stream has no messages, the others have theirs
  pub q_below : (j : ℕ) → j < p → shape.q j ≡ g.q j
  pub q_here : shape.q p ≡ []
  pub q_above : (j : ℕ) → p ≤ j → shape.q (suc j) ≡ g.q j
  pub fr_is : shape.fr ≡ g.fr
  pub streams : streams_in us st ≡ put_stream (stream_of id s []) (streams_in ws st)
  -- the new stream is in its position, in the first row that no stream had
  pub row_is : row_at us p ≡ (totals_at ws).known
  pub id_is : id_at us p ≡ id
  pub stream_is : stream_at_words us (totals_at ws).known ≡ s
  -- nothing else is changed but the count
  pub totals_is : totals_at us ≡ with_known (totals_at ws) ((totals_at ws).known + 1)
  pub options_is : options_at us ≡ options_at ws
  pub scheduler_is : model_scheduler us ≡ model_scheduler ws
  pub length_is : length us ≡ length ws
  pub items_is : (x : ℕ) → item_at us x ≡ item_at ws x

module _ (ws st : List ℕ) (g : Shape ws st) (p id : ℕ) (s : OutgoingStream) (us : List ℕ) (t : Stored ws p id s us) (hp : p ≤ (totals_at ws).known) (few : (totals_at ws).known < 256)
    (lo : (j : ℕ) → j < p → id_at ws j < id) (hi : (j : ℕ) → p ≤ j → j < (totals_at ws).known → id < id_at ws j) (first_is : s.first ≡ 1024) (last_is : s.last ≡ 1024) where
  count_is : (totals_at us).known ≡ suc (totals_at ws).known
  count_is = ap (λ (x : Totals). x.known) t.totals ∙ add-one (totals_at ws).known

  used_is : used_of us ≡ used_of ws
  used_is = ap (λ (x : Totals). x.used) t.totals

  free_is : (totals_at us).free ≡ (totals_at ws).free
  free_is = ap (λ (x : Totals). x.free) t.totals

  waiting_is : (totals_at us).waiting ≡ (totals_at ws).waiting
  waiting_is = ap (λ (x : Totals). x.waiting) t.totals

  places : SamePlaces ws us
  places = record {
    long = t.long;
    places = λ x h. ap (λ (m : Item). m.place) (t.items x);
    sizes = λ x h. ap (λ (m : Item). m.length) (t.items x);
    used = used_is;
    gaps = ap (λ (x : Totals). x.gaps) t.totals;
  }

  same : (x : ℕ) → x < 1024 → Same ws st us st x
  same x h = same_item ws st us st x (t.items x) (payload_kept ws us st x places h)

  size_is : (x : ℕ) → size_of us x ≡ size_of ws x
  size_is x = ap (λ (m : Item). m.length) (t.items x)

  free_kept : Kept ws st us st g.fr
  free_kept x h = same x (free_fits g.q g.fr x g.split h)

  row_kept : (j : ℕ) → j < (totals_at ws).known → Kept ws st us st (g.q j)
  row_kept j l x h = same x (row_fits g.q g.fr x j g.split (omega (arith, g.known_fits)) h)

  -- ids and rows
  id_below : (j : ℕ) → j < p → id_at us j ≡ id_at ws j
  id_below j h = ap (λ (k : Known). k.id.0) (t.below j h)

  id_here : id_at us p ≡ id
  id_here = ap (λ (k : Known). k.id.0) t.here

  id_above : (j : ℕ) → p ≤ j → j < (totals_at ws).known → id_at us (suc j) ≡ id_at ws j
  id_above j h l = ap (λ (k : Known). k.id.0) (t.above j h l)

  row_below_is : (j : ℕ) → j < p → row_at us j ≡ row_at ws j
  row_below_is j h = ap (λ (k : Known). k.place) (t.below j h)

  row_here : row_at us p ≡ (totals_at ws).known
  row_here = ap (λ (k : Known). k.place) t.here

  row_above : (j : ℕ) → p ≤ j → j < (totals_at ws).known → row_at us (suc j) ≡ row_at ws j
  row_above j h l = ap (λ (k : Known). k.place) (t.above j h l)

  -- over every position
  by_position : (G : ℕ → Type 0) → ((j : ℕ) → j < p → G j) → G p → ((j : ℕ) → p ≤ j → j < (totals_at ws).known → G (suc j)) → (j : ℕ) → j < (totals_at us).known → G j
  by_position G a b c j h = by_place G p (totals_at ws).known a b c j (omega (arith, count_is))

  rising_new : RisingKnown us
  rising_new i j h k = by_position (λ j. (i : ℕ) → i < j → id_at us i < id_at us j) at_below at_here at_above j k i h
    where
      at_below : (j : ℕ) → j < p → (i : ℕ) → i < j → id_at us i < id_at us j
      at_below j l i m = omega (arith, id_below i (omega arith), id_below j l, g.rising i j m (omega arith))

      at_here : (i : ℕ) → i < p → id_at us i < id_at us p
      at_here i m = omega (arith, id_below i m, id_here, lo i m)

      at_above : (j : ℕ) → p ≤ j → j < (totals_at ws).known → (i : ℕ) → i < suc j → id_at us i < id_at us (suc j)
      at_above j l m i o = by_place (λ i. i < suc j → id_at us i < id_at us (suc j)) p (totals_at ws).known
          (λ i b z. omega (arith, id_below i b, id_above j l m, g.rising i j (omega arith) m))
          (λ z. omega (arith, id_here, id_above j l m, hi j l m))
          (λ i b c z. omega (arith, id_above i b c, id_above j l m, g.rising i j (omega arith) m)) i (omega arith) o

  inside_new : (j : ℕ) → j < (totals_at us).known → row_at us j < (totals_at us).known
  inside_new = by_position (λ j. row_at us j < (totals_at us).known)
      (λ j h. omega (arith, row_below_is j h, g.inside j (omega arith), count_is))
      (omega (arith, row_here, count_is))
      (λ j h l. omega (arith, row_above j h l, g.inside j l, count_is))

  unlike_new : (i j : ℕ) → i < (totals_at us).known → j < (totals_at us).known → row_at us i ≡ row_at us j → i ≡ j
  unlike_new i j h k = by_position (λ i. row_at us i ≡ row_at us j → i ≡ j)
      (λ i b. by_position (λ j. row_at us i ≡ row_at us j → i ≡ j)
      (λ j c e. g.unlike i j (omega arith) (omega arith) (omega (arith, row_below_is i b, row_below_is j c)))
      (λ e. absurd (omega (arith, row_below_is i b, row_here, g.inside i (omega arith))))
      (λ j c d e. absurd (omega (arith, g.unlike i j (omega arith) d (omega (arith, row_below_is i b, row_above j c d))))) j k)
      (by_position (λ j. row_at us p ≡ row_at us j → p ≡ j)
      (λ j c e. absurd (omega (arith, row_below_is j c, row_here, g.inside j (omega arith))))
      (λ e. refl)
      (λ j c d e. absurd (omega (arith, row_above j c d, row_here, g.inside j d))) j k)
      (λ i a b. by_position (λ j. row_at us (suc i) ≡ row_at us j → suc i ≡ j)
      (λ j c e. absurd (omega (arith, g.unlike i j b (omega arith) (omega (arith, row_above i a b, row_below_is j c)))))
      (λ e. absurd (omega (arith, row_above i a b, row_here, g.inside i b)))
      (λ j c d e. ap suc (g.unlike i j b d (omega (arith, row_above i a b, row_above j c d)))) j k) i h

  -- rows of streams
  old_row : (i j : ℕ) → j < (totals_at ws).known → row_at us i ≡ row_at ws j → stream_at_words us (row_at us i) ≡ stream_at_words ws (row_at ws j)
  old_row i j h e = rw e (t.row_other (row_at ws j) (λ z. omega (arith, g.inside j h)))

  row_moved : (i j : ℕ) → j < (totals_at ws).known → row_at us i ≡ row_at ws j → Row us (stream_at_words us (row_at us i)) (g.q j)
  row_moved i j h e =
      let d : stream_at_words us (row_at us i) ≡ stream_at_words ws (row_at ws j) = old_row i j h e in
      row_frame ws st us st (stream_at_words ws (row_at ws j)) (stream_at_words us (row_at us i)) (g.q j) (ap (λ (x : OutgoingStream). x.first) d) (ap (λ (x : OutgoingStream). x.last) d) (row_kept j h) (g.rows j h)

  here_row : stream_at_words us (row_at us p) ≡ s
  here_row = rw row_here t.row_new

  row_empty : Row us (stream_at_words us (row_at us p)) []
  row_empty = record {
    linked = ap (λ (x : OutgoingStream). x.first) here_row ∙ first_is;
    last_is = ap (λ (x : OutgoingStream). x.last) here_row ∙ last_is;
  }

  rows_new : (j : ℕ) → j < (totals_at us).known → Row us (stream_at_words us (row_at us j)) (spread g.q p j)
  rows_new = by_position (λ j. Row us (stream_at_words us (row_at us j)) (spread g.q p j))
      (λ j h. rw (spread_before g.q p j h) (row_moved j j (omega arith) (row_below_is j h)))
      (rw (spread_here g.q p) row_empty)
      (λ j h l. rw (spread_after g.q p j h) (row_moved (suc j) j l (row_above j h l)))

  totals_same : (h : List ℕ → ℕ) → h [] ≡ 0 → total h (spread g.q p) ≡ total h g.q
  totals_same h z = total_spread h g.q p (totals_at ws).known z hp few g.rest

  rest_new : (j : ℕ) → (totals_at us).known ≤ j → spread g.q p j ≡ []
  rest_new zero h = absurd (omega (arith, count_is))
  rest_new (suc j) h = spread_after g.q p j (omega (arith, count_is)) ∙ g.rest j (omega (arith, count_is))

  -- a place of the lists is one of the lists before
  full_new : (j x : ℕ) → 1 ≤ count x (spread g.q p j) → 1 ≤ size_of us x
  full_new j x h = by_lt j (totals_at us).known
      (λ l. by_position (λ j. 1 ≤ count x (spread g.q p j) → 1 ≤ size_of us x)
      (λ j b k. let k' : 1 ≤ count x (g.q j) = rw (spread_before g.q p j b) at k in rw (size_is x) (g.full j x k'))
      (λ k. let e : count x (spread g.q p p) ≡ 0 = ap (count x) (spread_here g.q p) in absurd (omega arith))
      (λ j b c k. let k' : 1 ≤ count x (g.q j) = rw (spread_after g.q p j b) at k in rw (size_is x) (g.full j x k')) j l h)
      (λ l. let e : count x (spread g.q p j) ≡ 0 = ap (count x) (rest_new j l) in absurd (omega arith))

  scheduler_new : GoodScheduler us × (model_scheduler us ≡ model_scheduler ws)
  scheduler_new = scheduler_same ws us t.long t.options t.scheduler t.active t.leasts g.schedules

  split_new : Split (spread g.q p) g.fr
  split_new = record {
    once = λ x. omega (arith, g.split.once x, totals_same (count x) refl);
    all = omega (arith, g.split.all, totals_same length refl);
  }

  used_new : used_of us ≡ total (sum_of (size_of us)) (spread g.q p)
  used_new =
      let a = total_agree (sum_of (size_of ws)) (sum_of (size_of us)) (spread g.q p) (λ j. sum_frame (size_of ws) (size_of us) (spread g.q p j) (λ x h. size_is x)) in
      used_is ∙ g.used ∙ sym (totals_same (sum_of (size_of ws)) refl) ∙ sym a

  unfoldable the_shape : Shape us st
  the_shape = record {
    q = spread g.q p;
    fr = g.fr;
    long = t.long ∙ g.long;
    known_fits = omega (arith, count_is);
    rising = rising_new;
    inside = inside_new;
    unlike = unlike_new;
    split = split_new;
    free = rw free_is (free_frame ws st us st (totals_at ws).free g.fr free_kept g.free);
    rows = rows_new;
    rest = rest_new;
    full = full_new;
    bare = λ x h. rw (size_is x) (g.bare x h);
    waits = waiting_is ∙ g.waits ∙ sym (totals_same length refl);
    used = used_new;
    lay = good_same ws us st places g.lay;
    schedules = scheduler_new.0;
  }

  stream_moved : (i j : ℕ) → j < (totals_at ws).known → known_at us i ≡ known_at ws j → stream_in us st i ≡ stream_in ws st j
  stream_moved i j h e =
      let er : row_at us i ≡ row_at ws j = ap (λ (k : Known). k.place) e in
      let ed : id_at us i ≡ id_at ws j = ap (λ (k : Known). k.id.0) e in
      let c : stream_of (id_at us i) (stream_at_words us (row_at us i)) (each (item_in_words us st) (g.q j)) ≡ stream_of (id_at ws j) (stream_at_words ws (row_at ws j)) (each (item_in_words ws st) (g.q j))
      = rw (old_row i j h er, ed, items_frame ws st us st (g.q j) (row_kept j h)) in
      stream_row us st i (g.q j) (short ws st g j h) (row_moved i j h er) ∙ c ∙ sym (stream_row ws st j (g.q j) (short ws st g j h) (g.rows j h))

  stream_here : stream_in us st p ≡ stream_of id s []
  stream_here = stream_row us st p [] (omega arith) row_empty ∙ rw (here_row, id_here)

  key_here : (stream_in us st p).id ≡ id
  key_here = stream_key_in us st p ∙ id_here

  streams_new : streams_in us st ≡ put_stream (stream_of id s []) (streams_in ws st)
  unfolding streams_in
  streams_new =
      rw count_is
      (tab_insert stream_key (stream_in ws st) (stream_in us st) (totals_at ws).known p hp
      (λ j h. omega (arith, key_here, stream_key_in ws st j, lo j h)) (λ j h l. omega (arith, key_here, stream_key_in ws st j, hi j h l))
      (λ j h. stream_moved j j (omega arith) (t.below j h)) (λ j h l. stream_moved (suc j) j l (t.above j h l))
      ∙ ap (λ x. put_stream x (tab (stream_in ws st) (totals_at ws).known)) stream_here)

  pub insert_done : Inserted ws st g p id s us
  unfolding the_shape
  insert_done = record {
    shape = the_shape;
    q_below = λ j h. spread_before g.q p j h;
    q_here = spread_here g.q p;
    q_above = λ j h. spread_after g.q p j h;
    fr_is = refl;
    streams = streams_new;
    row_is = row_here;
    id_is = id_here;
    stream_is = t.row_new;
    totals_is = t.totals;
    options_is = t.options;
    scheduler_is = scheduler_new.1;
    length_is = t.long;
    items_is = t.items;
  }

-- A new stream made known where it belongs.
pub insert_link : (ws st : List ℕ) (g : Shape ws st) (p id : ℕ) (s : OutgoingStream) → p ≤ (totals_at ws).known → (totals_at ws).known < 256
    → ((j : ℕ) → j < p → id_at ws j < id) → ((j : ℕ) → p ≤ j → j < (totals_at ws).known → id < id_at ws j)
    → id < 65536 → FitsStream s → s.first ≡ 1024 → s.last ≡ 1024 → Inserted ws st g p id s (inserted ws p id s)
insert_link ws st g p id s hp few lo hi hid fits a b =
    insert_done ws st g p id s (inserted ws p id s) (stored ws p id s g.long few hp hid fits) hp few lo hi a b
