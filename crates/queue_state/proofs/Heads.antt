-- A head leaves its chain: the words after the first message of a known stream is gone and its row stored without it. Assumes nothing.
use mathlib.Core.Path.{◌≡◌, refl, sym, ap, subst, ◌∙◌}
use mathlib.Core.List.{List, [], ◌∷◌}
use Prim.Native.Nat.{ℕ, ◌+◌, ◌-◌, ◌≤◌, ◌<◌}
use native.Mathlib.Omega.{arith}
use borrow.Author.Tests.{lt-ltb, le-ltb, ne_eqb}
use lib.Dec.{ltb}
use lib.ListN.{length}
use Rattle.queue_words.specs.Flags.{pick}
use Rattle.queue_words.specs.Header.{options_at, totals_at, scheduler_at}
use Rattle.queue_words.specs.Active.{active_at}
use Rattle.queue_words.specs.Items.{item_at}
use Rattle.queue_words.specs.Leasts.{leasts_at}
use Rattle.queue_words.specs.Known.{id_at}
use Rattle.queue_words.specs.Streams.{stream_at_words, put_stream_words, FitsStream}
use Rattle.queue_words.specs.declared.header.Totals.{Totals}
use Rattle.queue_words.specs.declared.items.Item.{Item}
use Rattle.queue_words.specs.declared.streams.OutgoingStream.{OutgoingStream}
use Rattle.queue_words.specs.declared.streams.PauseState.{PauseState}
use Rattle.queue_words.proofs.Laws
use Rattle.queue_model.specs.Streams.{put_stream}
use Rattle.payload_store.specs.Words.{size_of, used_of}
use Rattle.payload_store.specs.Promise.{SamePlaces}
use Rattle.payload_store.proofs.Drops.{drop_law}
use Rattle.payload_store.proofs.Goods.{good_same, payload_kept}
use Rattle.stream_scheduler.specs.Link.{GoodScheduler, model_scheduler}
use Rattle.stream_scheduler.proofs.Link.{scheduler_same}
use Rattle.message_chains.specs.Amounts.{rest}
use Rattle.message_chains.specs.Heads.{head_code, released, last_behind, without_head, head_dropped}
use Rattle.queue_state.specs.Chains.{Linked, last_of, count, sum_of, each}
use Rattle.queue_state.specs.Model.{next_of, item_in_words, stream_of, row_at, streams_in}
use Rattle.queue_state.specs.Good.{Row, Shape}
use Rattle.queue_state.proofs.Chains.{hit_other, count_head, linked_frame, sum_frame, linked_le}
use Rattle.queue_state.proofs.Splits.{far_tail, far_free, row_once, total_has}
use Rattle.queue_state.proofs.Frames.{Same, Kept, same_item, same_both, row_fits, free_fits, row_below, items_frame}
use Rattle.queue_state.proofs.Releases.{Gone, gone}
use Rattle.queue_state.proofs.Steps.{After, step}
use Rattle.payload_store.proofs.Cases.{by_index}

-- ---- a row stored: messages, payloads and the rest are the same

module _ (us st : List ℕ) (r : ℕ) (s : OutgoingStream) (h : r < 256) where
  pub stored_places : SamePlaces us (put_stream_words us r s)
  stored_places = record {
    long = Laws.whole_put_stream us r s;
    places = λ x l. ap (λ (m : Item). m.place) (Laws.item_put_stream us r s x h);
    sizes = λ x l. ap (λ (m : Item). m.length) (Laws.item_put_stream us r s x h);
    used = ap (λ (t : Totals). t.used) (Laws.totals_put_stream us r s);
    gaps = ap (λ (t : Totals). t.gaps) (Laws.totals_put_stream us r s);
  }

  pub stored_same : (x : ℕ) → x < 1024 → Same us st (put_stream_words us r s) st x
  stored_same x l = same_item us st (put_stream_words us r s) st x (Laws.item_put_stream us r s x h) (payload_kept us (put_stream_words us r s) st x stored_places l)

-- ---- the head of a stream

-- The words without the head x of the stream in position i, of which xs are left; its row is s, the total n bytes less.
pub record HeadLeft (ws st : List ℕ) (g : Shape ws st) (i x : ℕ) (xs : List ℕ) (s : OutgoingStream) (n : ℕ) (ws' : List ℕ) : Type 0 where
  pub after : After ws st g i ws' st xs (x ∷ g.fr)
  pub row : stream_at_words ws' (row_at ws i) ≡ s
  pub streams : streams_in ws' st ≡ put_stream (stream_of (id_at ws i) s (each (item_in_words ws st) xs)) (streams_in ws st)
  pub behind : Kept ws st ws' st xs
  -- the totals
  pub free : (totals_at ws').free ≡ x
  pub total : (totals_at ws').total ≡ (totals_at ws).total - n
  pub waiting : (totals_at ws').waiting ≡ (totals_at ws).waiting - 1
  pub used : used_of ws' + size_of ws x ≡ used_of ws
  pub known : (totals_at ws').known ≡ (totals_at ws).known
  pub interleaving : (totals_at ws').interleaving ≡ (totals_at ws).interleaving
  pub next_id : (totals_at ws').next_message_id ≡ (totals_at ws).next_message_id
  -- nothing else
  pub options : options_at ws' ≡ options_at ws
  pub scheduler : scheduler_at ws' ≡ scheduler_at ws
  pub active : (j : ℕ) → active_at ws' j ≡ active_at ws j
  pub leasts : leasts_at ws' ≡ leasts_at ws
  pub schedules : model_scheduler ws' ≡ model_scheduler ws

module _ (ws st : List ℕ) (g : Shape ws st) (i : ℕ) (hk : i < (totals_at ws).known) (x : ℕ) (xs : List ℕ) (eq : g.q i ≡ x ∷ xs) where
  below : i < 256
  below = omega (arith, g.known_fits)

  pub head_linked : Linked (next_of ws) (stream_at_words ws (row_at ws i)).first (x ∷ xs)
  head_linked = subst (λ ps. Linked (next_of ws) (stream_at_words ws (row_at ws i)).first ps) eq (g.rows i hk).linked

  -- it is the first, it is in the table, it has a payload
  pub head_first : (stream_at_words ws (row_at ws i)).first ≡ x
  head_first = head_linked.0

  pub head_fits : x < 1024
  head_fits = head_linked.1

  pub head_live : 1 ≤ size_of ws x
  head_live = g.full i x (subst (λ ps. 1 ≤ count x ps) (sym eq) (count_head x xs))

  pub head_gone : (n : ℕ) → Gone ws st x n (released ws x n)
  head_gone n = gone ws st x n g.long g.lay head_fits head_live

  pub head_waits : 1 ≤ (totals_at ws).waiting
  head_waits =
      let e : length (g.q i) ≡ length (x ∷ xs) = ap length eq in
      omega (arith, g.waits, total_has length g.q i below)

  -- "an amount would fall below 0": it does not, so the head may go
  pub head_may : (s : OutgoingStream) (n : ℕ) → n ≤ (totals_at ws).total → n ≤ s.buffered_amount → head_code ws s x (next_of ws x) n ≡ 0
  unfolding head_code
  head_may s n a b =
      let w = head_waits in
      let c = linked_le (next_of ws) (next_of ws x) xs head_linked.2 in
      rw (le-ltb (totals_at ws).total n a, le-ltb s.buffered_amount n b, ne_eqb (totals_at ws).waiting 0 (λ z. omega arith), le-ltb 1024 (next_of ws x) c)
      (drop_law ws st x g.lay head_fits head_live).0

  -- the others: those behind it, and the free ones
  tail_far : (y : ℕ) → 1 ≤ count y xs → x ≡ y → ⊥
  tail_far y h = far_tail x y xs (λ z. subst (λ ps. count z ps ≤ 1) eq (row_once g.q g.fr g.split z i below)) h

  tail_fits : (y : ℕ) → 1 ≤ count y xs → y < 1024
  tail_fits y h = row_fits g.q g.fr y i g.split below (subst (λ ps. 1 ≤ count y ps) (sym eq) (omega arith))

  free_far : (y : ℕ) → 1 ≤ count y g.fr → x ≡ y → ⊥
  free_far y h e = far_free g.q g.fr g.split y x i below h (subst (λ ps. 1 ≤ count x ps) (sym eq) (count_head x xs)) (sym e)

  frees_fit : (y : ℕ) → 1 ≤ count y g.fr → y < 1024
  frees_fit y h = free_fits g.q g.fr y g.split h

  module _ (s : OutgoingStream) (fits : FitsStream s) (last_same : s.last ≡ (stream_at_words ws (row_at ws i)).last) (state : PauseState) (n : ℕ) (us : List ℕ) (d : Gone ws st x n us) where
    abbrev left : OutgoingStream
    left = without_head s state (next_of ws x) n

    abbrev ws' : List ℕ
    ws' = put_stream_words us (row_at ws i) left

    long_us : length us ≡ 20768
    long_us = d.long ∙ g.long

    row_in : row_at ws i < 256
    row_in = row_below ws st g i hk

    left_fits : FitsStream left
    unfolding without_head
    left_fits = record {
      priority_fits = fits.priority_fits;
      ssn_fits = fits.ssn_fits;
      unordered_mid_fits = fits.unordered_mid_fits;
      ordered_mid_fits = fits.ordered_mid_fits;
    }

    left_at : stream_at_words ws' (row_at ws i) ≡ left
    left_at = Laws.stream_at_put us (row_at ws i) left long_us row_in left_fits

    totals_at_lem : totals_at ws' ≡ totals_at us
    totals_at_lem = Laws.totals_put_stream us (row_at ws i) left

    same : (y : ℕ) → y < 1024 → (x ≡ y → ⊥) → Same ws st ws' st y
    same y h ne = same_both ws st us st ws' st y (d.others y h ne) (stored_same us st (row_at ws i) left row_in y h)

    tail_kept : Kept ws st ws' st xs
    tail_kept y h = same y (tail_fits y h) (tail_far y h)

    free_kept : Kept ws st ws' st g.fr
    free_kept y h = same y (frees_fit y h) (free_far y h)

    next_x : next_of ws' x ≡ (totals_at ws).free
    next_x = (stored_same us st (row_at ws i) left row_in x head_fits).next_same ∙ d.next

    size_x : size_of ws' x ≡ 0
    size_x = (stored_same us st (row_at ws i) left row_in x head_fits).size_same ∙ d.bare

    last_left : left.last ≡ last_of 1024 xs
    unfolding without_head last_behind
    last_left = go xs eq head_linked.2
      where
        go : (ps : List ℕ) → g.q i ≡ x ∷ ps → Linked (next_of ws) (next_of ws x) ps → pick (ltb (next_of ws x) 1024) s.last 1024 ≡ last_of 1024 ps
        go [] e l = rw (le-ltb (next_of ws x) 1024 (omega arith))
        go (y ∷ ys) e l =
            let z : (stream_at_words ws (row_at ws i)).last ≡ last_of y ys = (g.rows i hk).last_is ∙ ap (last_of 1024) e in
            rw (lt-ltb (next_of ws x) 1024 (omega arith)) (last_same ∙ z)

    linked_left : Linked (next_of ws') left.first xs
    unfolding without_head
    linked_left = linked_frame (next_of ws) (next_of ws') (next_of ws x) xs (λ y h. (tail_kept y h).next_same) head_linked.2

    row_left : Row ws' (stream_at_words ws' (row_at ws i)) xs
    row_left = rw left_at (record { linked = linked_left; last_is = last_left })

    the_scheduler : GoodScheduler ws' × (model_scheduler ws' ≡ model_scheduler ws)
    the_scheduler = scheduler_same ws ws'
        (Laws.whole_put_stream us (row_at ws i) left ∙ d.long)
        (Laws.options_put_stream us (row_at ws i) left ∙ d.options)
        (Laws.scheduler_put_stream us (row_at ws i) left ∙ d.scheduler)
        (λ j. Laws.active_put_stream us (row_at ws i) left j row_in ∙ d.active j)
        (Laws.leasts_put_stream us (row_at ws i) left ∙ d.leasts)
        g.schedules

    bare_left : (y : ℕ) → 1 ≤ count y (x ∷ g.fr) → size_of ws' y ≡ 0
    bare_left y h = by_index x y
        (λ z. subst (λ w. size_of ws' w ≡ 0) z size_x)
        (λ ne. let k : 1 ≤ count y g.fr = omega (arith, hit_other y x (λ z. ne (sym z))) in rw (free_kept y k).size_same (g.bare y k))

    head_after_gone : After ws st g i ws' st xs (x ∷ g.fr)
    head_after_gone = step ws st g i hk ws' st xs (x ∷ g.fr) (record {
      long' = Laws.whole_put_stream us (row_at ws i) left ∙ long_us;
      known' = ap (λ (t : Totals). t.known) totals_at_lem ∙ d.known;
      table' = λ j h. Laws.known_put_stream us (row_at ws i) left j h ∙ d.table j h;
      places = λ y. let e = ap (count y) eq in omega arith;
      number = let e : length (g.q i) ≡ length (x ∷ xs) = ap length eq in omega arith;
      waits' =
          let e : length (g.q i) ≡ length (x ∷ xs) = ap length eq in
          let t : (totals_at ws').waiting ≡ (totals_at us).waiting = ap (λ (t : Totals). t.waiting) totals_at_lem in
          omega (arith, d.waiting, head_waits);
      used' =
          let e : sum_of (size_of ws) (g.q i) ≡ size_of ws x + sum_of (size_of ws) xs = ap (sum_of (size_of ws)) eq in
          let t : used_of ws' ≡ used_of us = ap (λ (t : Totals). t.used) totals_at_lem in
          omega (arith, d.used, sum_frame (size_of ws) (size_of ws') xs (λ y h. (tail_kept y h).size_same));
      free' = (ap (λ (t : Totals). t.free) totals_at_lem ∙ d.free, head_fits, rw next_x (linked_frame (next_of ws) (next_of ws') (totals_at ws).free g.fr (λ y h. (free_kept y h).next_same) g.free));
      row' = row_left;
      full' = λ y h. rw (tail_kept y h).size_same (g.full i y (subst (λ ps. 1 ≤ count y ps) (sym eq) (omega arith)));
      bare' = bare_left;
      others' = λ r h ne. Laws.stream_at_put_other us (row_at ws i) left r ne ∙ d.streams r h;
      only = λ y h a b. same y h (λ z. let e = ap (count y) eq in let k : 1 ≤ count y (x ∷ xs) = subst (λ w. 1 ≤ count w (x ∷ xs)) z (count_head x xs) in omega arith);
      lay' = good_same us ws' st (stored_places us st (row_at ws i) left row_in) d.lay;
      schedules' = the_scheduler.0;
    })

    head_streams_gone : streams_in ws' st ≡ put_stream (stream_of (id_at ws i) left (each (item_in_words ws st) xs)) (streams_in ws st)
    head_streams_gone = head_after_gone.streams ∙ rw (left_at, items_frame ws st ws' st xs tail_kept)

    the_head_left : HeadLeft ws st g i x xs left n ws'
    the_head_left = record {
      after = head_after_gone;
      row = left_at;
      streams = head_streams_gone;
      behind = tail_kept;
      free = ap (λ (t : Totals). t.free) totals_at_lem ∙ d.free;
      total = ap (λ (t : Totals). t.total) totals_at_lem ∙ d.total;
      waiting = ap (λ (t : Totals). t.waiting) totals_at_lem ∙ d.waiting;
      used = rw (ap (λ (t : Totals). t.used) totals_at_lem) d.used;
      known = ap (λ (t : Totals). t.known) totals_at_lem ∙ d.known;
      interleaving = ap (λ (t : Totals). t.interleaving) totals_at_lem ∙ d.interleaving;
      next_id = ap (λ (t : Totals). t.next_message_id) totals_at_lem ∙ d.next_id;
      options = Laws.options_put_stream us (row_at ws i) left ∙ d.options;
      scheduler = Laws.scheduler_put_stream us (row_at ws i) left ∙ d.scheduler;
      active = λ j. Laws.active_put_stream us (row_at ws i) left j row_in ∙ d.active j;
      leasts = Laws.leasts_put_stream us (row_at ws i) left ∙ d.leasts;
      schedules = the_scheduler.1;
    }

  -- THE THEOREM of a head that leaves its chain, with n bytes of the total and of the stream, which is left in a state.
  pub head_left : (s : OutgoingStream) → FitsStream s → s.last ≡ (stream_at_words ws (row_at ws i)).last → (state : PauseState) → (n : ℕ)
      → HeadLeft ws st g i x xs (without_head s state (next_of ws x) n) n (put_stream_words (released ws x n) (row_at ws i) (without_head s state (next_of ws x) n))
  head_left s fits last_same state n = the_head_left s fits last_same state n (released ws x n) (head_gone n)

  -- The same of the words that `head_dropped` leaves.
  pub head_dropped_lem : (state : PauseState)
      → HeadLeft ws st g i x xs (without_head (stream_at_words ws (row_at ws i)) state (next_of ws x) (rest (item_at ws x))) (rest (item_at ws x)) (head_dropped ws (row_at ws i) (stream_at_words ws (row_at ws i)) state (item_at ws x))
  unfolding head_dropped
  head_dropped_lem state =
      subst (λ p. HeadLeft ws st g i x xs (without_head (stream_at_words ws (row_at ws i)) state (next_of ws x) (rest (item_at ws x))) (rest (item_at ws x)) (put_stream_words (released ws p (rest (item_at ws x))) (row_at ws i) (without_head (stream_at_words ws (row_at ws i)) state (next_of ws x) (rest (item_at ws x)))))
      (sym head_first)
      (head_left (stream_at_words ws (row_at ws i)) (Laws.stream_at_fits ws (row_at ws i)) refl state (rest (item_at ws x)))
