-- One message's row stored, with its place, its length and its next place as before: the shape holds, and only this message changes. Assumes nothing.
use mathlib.Core.Path.{◌≡◌, refl, sym, ap, ◌∙◌, subst}
use mathlib.Core.List.{List, ◌∷◌}
use Prim.Native.Nat.{ℕ, ◌≤◌, ◌<◌}
use native.Mathlib.Omega.{arith}
use Rattle.queue_words.specs.Header.{totals_at}
use Rattle.queue_words.specs.Items.{item_at, put_item, FitsItem}
use Rattle.queue_words.specs.Known.{id_at}
use Rattle.queue_words.specs.Streams.{stream_at_words}
use Rattle.queue_words.specs.declared.header.Totals.{Totals}
use Rattle.queue_words.specs.declared.items.Item.{Item}
use Rattle.queue_words.proofs.Laws
use Rattle.queue_model.specs.Streams.{put_stream}
use Rattle.payload_store.specs.Words.{size_of, used_of, place_of}
use Rattle.payload_store.specs.Good.{payload_of}
use Rattle.payload_store.specs.Promise.{SamePlaces}
use Rattle.payload_store.proofs.Goods.{good_same, payload_kept}
use Rattle.stream_scheduler.specs.Link.{GoodScheduler, model_scheduler}
use Rattle.stream_scheduler.proofs.Link.{scheduler_same}
use Rattle.queue_state.specs.Chains.{count, each}
use Rattle.queue_state.specs.Model.{next_of, item_of, item_in_words, stream_of, row_at, streams_in}
use Rattle.queue_state.specs.Good.{Shape}
use Rattle.queue_state.proofs.Chains.{linked_frame, each_frame, sum_frame, absent}
use Rattle.queue_state.proofs.Splits.{free_apart, row_once, far_tail}
use Rattle.queue_state.proofs.Frames.{Same, Kept, same_item, free_frame, row_fits, free_fits, row_below}
use Rattle.queue_state.proofs.Steps.{After, step}
use Rattle.payload_store.proofs.Cases.{by_index}

module _ (ws st : List ℕ) (g : Shape ws st) (i : ℕ) (hk : i < (totals_at ws).known) (x : ℕ) (hx : 1 ≤ count x (g.q i)) (m : Item) (fits : FitsItem m)
    (next_same : m.next ≡ (item_at ws x).next) (place_same : m.place ≡ (item_at ws x).place) (length_same : m.length ≡ (item_at ws x).length) where
  below : i < 256
  below = omega (arith, g.known_fits)

  in_table_lem : x < 1024
  in_table_lem = row_fits g.q g.fr x i g.split below hx

  pub item_new : item_at (put_item ws x m) x ≡ m
  item_new = Laws.item_at_put ws x m g.long in_table_lem fits

  next_kept : (y : ℕ) → next_of (put_item ws x m) y ≡ next_of ws y
  next_kept y = by_index x y
      (λ e. subst (λ z. next_of (put_item ws x m) z ≡ next_of ws z) e (ap (λ (n : Item). n.next) item_new ∙ next_same))
      (λ ne. ap (λ (n : Item). n.next) (Laws.item_at_put_other ws x m y ne))

  place_kept : (y : ℕ) → place_of (put_item ws x m) y ≡ place_of ws y
  place_kept y = by_index x y
      (λ e. subst (λ z. place_of (put_item ws x m) z ≡ place_of ws z) e (ap (λ (n : Item). n.place) item_new ∙ place_same))
      (λ ne. ap (λ (n : Item). n.place) (Laws.item_at_put_other ws x m y ne))

  pub size_kept : (y : ℕ) → size_of (put_item ws x m) y ≡ size_of ws y
  size_kept y = by_index x y
      (λ e. subst (λ z. size_of (put_item ws x m) z ≡ size_of ws z) e (ap (λ (n : Item). n.length) item_new ∙ length_same))
      (λ ne. ap (λ (n : Item). n.length) (Laws.item_at_put_other ws x m y ne))

  same_totals : totals_at (put_item ws x m) ≡ totals_at ws
  same_totals = Laws.totals_put_item ws x m

  same_places : SamePlaces ws (put_item ws x m)
  same_places = record {
    long = Laws.whole_put_item ws x m;
    places = λ y h. place_kept y;
    sizes = λ y h. size_kept y;
    used = ap (λ (t : Totals). t.used) same_totals;
    gaps = ap (λ (t : Totals). t.gaps) same_totals;
  }

  pub payload_same : (y : ℕ) → y < 1024 → payload_of (put_item ws x m) st y ≡ payload_of ws st y
  payload_same y h = payload_kept ws (put_item ws x m) st y same_places h

  -- Every other message is as it was.
  pub other_item : (y : ℕ) → y < 1024 → (x ≡ y → ⊥) → Same ws st (put_item ws x m) st y
  other_item y h ne = same_item ws st (put_item ws x m) st y (Laws.item_at_put_other ws x m y ne) (payload_same y h)

  free_kept : Kept ws st (put_item ws x m) st g.fr
  free_kept y h = other_item y (free_fits g.q g.fr y g.split h) (absent_here y h)
    where
      absent_here : (y : ℕ) → 1 ≤ count y g.fr → x ≡ y → ⊥
      absent_here y h e =
          let k : 1 ≤ count y (g.q i) = subst (λ z. 1 ≤ count z (g.q i)) e hx in
          omega (arith, free_apart g.q g.fr g.split y i below)

  same_row : stream_at_words (put_item ws x m) (row_at ws i) ≡ stream_at_words ws (row_at ws i)
  same_row = Laws.stream_put_item ws x m (row_at ws i) (row_below ws st g i hk)

  schedules : GoodScheduler (put_item ws x m) × (model_scheduler (put_item ws x m) ≡ model_scheduler ws)
  schedules = scheduler_same ws (put_item ws x m) (Laws.whole_put_item ws x m) (Laws.options_put_item ws x m) (Laws.scheduler_put_item ws x m) (λ j. Laws.active_put_item ws x m j in_table_lem) (Laws.leasts_put_item ws x m) g.schedules

  pub item_scheduler : model_scheduler (put_item ws x m) ≡ model_scheduler ws
  item_scheduler = schedules.1

  pub shape_item : After ws st g i (put_item ws x m) st (g.q i) g.fr
  shape_item = step ws st g i hk (put_item ws x m) st (g.q i) g.fr (record {
    long' = Laws.whole_put_item ws x m ∙ g.long;
    known' = ap (λ (t : Totals). t.known) same_totals;
    table' = λ j h. Laws.known_put_item ws x m j h;
    places = λ y. refl;
    number = refl;
    waits' = rw same_totals;
    used' =
        let e = sum_frame (size_of ws) (size_of (put_item ws x m)) (g.q i) (λ y h. size_kept y) in
        let u : used_of (put_item ws x m) ≡ used_of ws = ap (λ (t : Totals). t.used) same_totals in
        omega arith;
    free' = rw same_totals (free_frame ws st (put_item ws x m) st (totals_at ws).free g.fr free_kept g.free);
    row' = rw same_row (record {
      linked = linked_frame (next_of ws) (next_of (put_item ws x m)) (stream_at_words ws (row_at ws i)).first (g.q i) (λ y h. next_kept y) (g.rows i hk).linked;
      last_is = (g.rows i hk).last_is;
    });
    full' = λ y h. rw (size_kept y) (g.full i y h);
    bare' = λ y h. rw (size_kept y) (g.bare y h);
    others' = λ r h ne. Laws.stream_put_item ws x m r h;
    only = λ y h a b. other_item y h (λ e. absent x y (g.q i) hx b e);
    lay' = good_same ws (put_item ws x m) st same_places g.lay;
    schedules' = schedules.0;
  })

  pub item_in : item_in_words (put_item ws x m) st x ≡ item_of m (payload_of ws st x)
  unfolding item_in_words
  item_in = rw (item_new, payload_same x in_table_lem)

  -- The stream's messages, where this one is the first.
  pub items_first : (xs : List ℕ) → g.q i ≡ x ∷ xs → each (item_in_words (put_item ws x m) st) (g.q i) ≡ item_of m (payload_of ws st x) ∷ each (item_in_words ws st) xs
  items_first xs e =
      let once : (z : ℕ) → count z (x ∷ xs) ≤ 1 = λ z. subst (λ l. count z l ≤ 1) e (row_once g.q g.fr g.split z i below) in
      let f : each (item_in_words (put_item ws x m) st) xs ≡ each (item_in_words ws st) xs = each_frame (item_in_words ws st) (item_in_words (put_item ws x m) st) xs (λ y h. (other_item y (fits_rest e y h) (far_tail x y xs once h)).item_same) in
      rw (e, item_in, f)
    where
      fits_rest : g.q i ≡ x ∷ xs → (y : ℕ) → 1 ≤ count y xs → y < 1024
      fits_rest e y h =
          let k : 1 ≤ count y (x ∷ xs) = omega arith in
          row_fits g.q g.fr y i g.split below (subst (λ l. 1 ≤ count y l) (sym e) k)

  -- What the model's streams are then.
  pub item_streams : streams_in (put_item ws x m) st ≡ put_stream (stream_of (id_at ws i) (stream_at_words ws (row_at ws i)) (each (item_in_words (put_item ws x m) st) (g.q i))) (streams_in ws st)
  item_streams = shape_item.streams ∙ rw same_row
