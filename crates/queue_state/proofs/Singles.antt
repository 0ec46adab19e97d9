-- Steps that touch one part: the scheduler, one stream's row, the totals. Assumes nothing.
use mathlib.Core.Path.{◌≡◌, refl, sym, ap, ◌∙◌}
use mathlib.Core.Bool.{Bool}
use mathlib.Core.List.{List}
use Prim.Native.Nat.{ℕ, ◌≤◌, ◌<◌}
use native.Mathlib.Omega.{arith}
use lib.ListN.{length}
use Rattle.queue_words.specs.Header.{options_at, totals_at, put_totals, FitsTotals}
use Rattle.queue_words.specs.Items.{item_at}
use Rattle.queue_words.specs.Known.{known_at, id_at}
use Rattle.queue_words.specs.Streams.{stream_at_words, put_stream_words, FitsStream}
use Rattle.queue_words.specs.declared.header.Totals.{Totals}
use Rattle.queue_words.specs.declared.items.Item.{Item}
use Rattle.queue_words.specs.declared.known.Known.{Known}
use Rattle.queue_words.specs.declared.streams.OutgoingStream.{OutgoingStream}
use Rattle.queue_words.proofs.Finds.{rising_same, by_lt}
use Rattle.queue_words.proofs.Laws
use Rattle.queue_model.specs.Types.{Stream, Scheduler}
use Rattle.queue_model.specs.Types as plain
use Rattle.queue_model.specs.Streams.{put_stream}
use Rattle.payload_store.specs.Words.{size_of, used_of, gaps_of}
use Rattle.payload_store.specs.Promise.{SamePlaces}
use Rattle.payload_store.proofs.Goods.{good_same, payload_kept}
use Rattle.stream_scheduler.specs.Link.{GoodScheduler, Untouched, model_scheduler}
use Rattle.stream_scheduler.proofs.Link.{scheduler_same}
use Rattle.queue_state.specs.Chains.{count, sum_of, each}
use Rattle.queue_state.specs.Model.{item_in_words, stream_of, row_at, options_of, stream_in, streams_in, model}
use Rattle.queue_state.specs.Good.{Row, Shape}
use Rattle.queue_state.proofs.Chains.{sum_frame}
use Rattle.queue_state.proofs.Splits.{total_agree}
use Rattle.queue_state.proofs.Tabs.{tab_same}
use Rattle.queue_state.proofs.Frames.{Same, Kept, same_item, row_frame, free_frame, items_frame, stream_frame, row_fits, free_fits, short, row_below}
use Rattle.queue_state.proofs.Steps.{After, step}

-- ---- the model, put together from its parts

pub model_is : (ws st : List ℕ) (o : plain.Options) (il : Bool) (t n : ℕ) (ss : List Stream) (sc : Scheduler)
    → options_of (options_at ws) ≡ o → (totals_at ws).interleaving ≡ il → (totals_at ws).total ≡ t → (totals_at ws).next_message_id.0 ≡ n → streams_in ws st ≡ ss → model_scheduler ws ≡ sc
    → model ws st ≡ record { options = o; interleaving = il; total = t; next_message_id = n; streams = ss; scheduler = sc }
unfolding model
model_is ws st o il t n ss sc a b c d e f = rw (a, b, c, d, e, f)

-- The parts of the model.
pub model_options : (ws st : List ℕ) → (model ws st).options ≡ options_of (options_at ws)
unfolding model
model_options ws st = refl

pub model_interleaving : (ws st : List ℕ) → (model ws st).interleaving ≡ (totals_at ws).interleaving
unfolding model
model_interleaving ws st = refl

pub model_total : (ws st : List ℕ) → (model ws st).total ≡ (totals_at ws).total
unfolding model
model_total ws st = refl

pub model_next : (ws st : List ℕ) → (model ws st).next_message_id ≡ (totals_at ws).next_message_id.0
unfolding model
model_next ws st = refl

pub model_streams : (ws st : List ℕ) → (model ws st).streams ≡ streams_in ws st
unfolding model
model_streams ws st = refl

pub model_schedules : (ws st : List ℕ) → (model ws st).scheduler ≡ model_scheduler ws
unfolding model
model_schedules ws st = refl

-- ---- words in which the known streams, their rows, the messages and the totals that count them are the same

pub record Alike (ws ws' : List ℕ) : Type 0 where
  pub long : length ws' ≡ length ws
  pub known : (totals_at ws').known ≡ (totals_at ws).known
  pub waiting : (totals_at ws').waiting ≡ (totals_at ws).waiting
  pub free : (totals_at ws').free ≡ (totals_at ws).free
  pub used : used_of ws' ≡ used_of ws
  pub gaps : gaps_of ws' ≡ gaps_of ws
  pub table : (j : ℕ) → j < 256 → known_at ws' j ≡ known_at ws j
  pub rows : (j : ℕ) → j < 256 → stream_at_words ws' j ≡ stream_at_words ws j
  pub items : (j : ℕ) → j < 1024 → item_at ws' j ≡ item_at ws j

-- Their shape and their streams are the same.
pub record Unmoved (ws st : List ℕ) (g : Shape ws st) (ws' : List ℕ) : Type 0 where
  pub shape : Shape ws' st
  pub q_is : (j : ℕ) → shape.q j ≡ g.q j
  pub fr_is : shape.fr ≡ g.fr
  pub streams : streams_in ws' st ≡ streams_in ws st

module _ (ws st : List ℕ) (g : Shape ws st) (ws' : List ℕ) (a : Alike ws ws') (sc : GoodScheduler ws') where
  places : SamePlaces ws ws'
  places = record {
    long = a.long;
    places = λ i h. ap (λ (m : Item). m.place) (a.items i h);
    sizes = λ i h. ap (λ (m : Item). m.length) (a.items i h);
    used = a.used;
    gaps = a.gaps;
  }

  same : (x : ℕ) → x < 1024 → Same ws st ws' st x
  same x h = same_item ws st ws' st x (a.items x h) (payload_kept ws ws' st x places h)

  free_kept : Kept ws st ws' st g.fr
  free_kept x h = same x (free_fits g.q g.fr x g.split h)

  in_table_lem : (j x : ℕ) → 1 ≤ count x (g.q j) → x < 1024
  in_table_lem j x h = by_lt j (totals_at ws).known (λ l. row_fits g.q g.fr x j g.split (omega (arith, g.known_fits)) h)
      (λ l. let e : count x (g.q j) ≡ 0 = ap (count x) (g.rest j l) in absurd (omega arith))

  kept : (j : ℕ) → Kept ws st ws' st (g.q j)
  kept j x h = same x (in_table_lem j x h)

  same_row : (j : ℕ) → j < 256 → row_at ws' j ≡ row_at ws j
  same_row j l = ap (λ (k : Known). k.place) (a.table j l)

  down : (j : ℕ) → j < (totals_at ws').known → j < (totals_at ws).known
  down j h = omega (arith, a.known)

  below : (j : ℕ) → j < (totals_at ws').known → j < 256
  below j h = omega (arith, down j h, g.known_fits)

  rows_same : (j : ℕ) → j < (totals_at ws').known → Row ws' (stream_at_words ws' (row_at ws' j)) (g.q j)
  rows_same j h =
      let e : stream_at_words ws' (row_at ws j) ≡ stream_at_words ws (row_at ws j) = a.rows (row_at ws j) (row_below ws st g j (down j h)) in
      rw (same_row j (below j h))
      (row_frame ws st ws' st (stream_at_words ws (row_at ws j)) (stream_at_words ws' (row_at ws j)) (g.q j) (ap (λ (s : OutgoingStream). s.first) e) (ap (λ (s : OutgoingStream). s.last) e) (kept j) (g.rows j (down j h)))

  unfoldable the_shape : Shape ws' st
  the_shape = record {
    q = g.q;
    fr = g.fr;
    long = a.long ∙ g.long;
    known_fits = rw a.known g.known_fits;
    rising = rising_same ws ws' a.table a.known g.known_fits g.rising;
    inside = λ j h. rw (same_row j (below j h), a.known) (g.inside j (down j h));
    unlike = λ j k h l e. g.unlike j k (down j h) (down k l) (sym (same_row j (below j h)) ∙ e ∙ same_row k (below k l));
    split = g.split;
    free = rw a.free (free_frame ws st ws' st (totals_at ws).free g.fr free_kept g.free);
    rows = rows_same;
    rest = λ j h. g.rest j (rw a.known at h);
    full = λ j x h. rw (kept j x h).size_same (g.full j x h);
    bare = λ x h. rw (free_kept x h).size_same (g.bare x h);
    waits = a.waiting ∙ g.waits;
    used = a.used ∙ g.used ∙ sym (total_agree (sum_of (size_of ws)) (sum_of (size_of ws')) g.q (λ j. sum_frame (size_of ws) (size_of ws') (g.q j) (λ x h. (kept j x h).size_same)));
    lay = good_same ws ws' st places g.lay;
    schedules = sc;
  }

  pub unmoved : Unmoved ws st g ws'
  unfolding the_shape streams_in
  unmoved = record {
    shape = the_shape;
    q_is = λ j. refl;
    fr_is = refl;
    streams = rw a.known (tab_same (totals_at ws).known (stream_in ws st) (stream_in ws' st) (λ j h.
        stream_frame ws st ws' st j (g.q j) (short ws st g j h) (a.table j (omega (arith, g.known_fits))) (a.rows (row_at ws j) (row_below ws st g j h)) (kept j) (g.rows j h)));
  }

-- ---- the scheduler alone

pub alike_untouched : (ws us : List ℕ) → length us ≡ length ws → Untouched ws us → Alike ws us
alike_untouched ws us l u = record {
  long = l;
  known = ap (λ (t : Totals). t.known) u.same_totals;
  waiting = ap (λ (t : Totals). t.waiting) u.same_totals;
  free = ap (λ (t : Totals). t.free) u.same_totals;
  used = ap (λ (t : Totals). t.used) u.same_totals;
  gaps = ap (λ (t : Totals). t.gaps) u.same_totals;
  table = u.same_known;
  rows = u.same_streams;
  items = u.same_items;
}

-- A scheduler's function leaves a good scheduler and touches nothing else.
pub shape_scheduler : (ws st us : List ℕ) (g : Shape ws st) → Untouched ws us → GoodScheduler us → Unmoved ws st g us
shape_scheduler ws st us g u sc = unmoved ws st g us (alike_untouched ws us (sc.long ∙ sym g.long) u) sc

-- ---- the totals alone

pub shape_totals : (ws st : List ℕ) (t : Totals) (g : Shape ws st) → FitsTotals t → t.known ≡ (totals_at ws).known → t.waiting ≡ (totals_at ws).waiting → t.free ≡ (totals_at ws).free → t.used ≡ used_of ws → t.gaps ≡ gaps_of ws
    → Unmoved ws st g (put_totals ws t)
shape_totals ws st t g f a b c d e =
    let p : totals_at (put_totals ws t) ≡ t = Laws.totals_at_put ws t g.long f in
    let s = scheduler_same ws (put_totals ws t) (Laws.whole_put_totals ws t) (Laws.options_put_totals ws t) (Laws.scheduler_put_totals ws t) (Laws.active_put_totals ws t) (Laws.leasts_put_totals ws t) g.schedules in
    unmoved ws st g (put_totals ws t) (record {
      long = Laws.whole_put_totals ws t;
      known = ap (λ (x : Totals). x.known) p ∙ a;
      waiting = ap (λ (x : Totals). x.waiting) p ∙ b;
      free = ap (λ (x : Totals). x.free) p ∙ c;
      used = ap (λ (x : Totals). x.used) p ∙ d;
      gaps = ap (λ (x : Totals). x.gaps) p ∙ e;
      table = λ j h. Laws.known_put_totals ws t j;
      rows = λ j h. Laws.stream_put_totals ws t j;
      items = λ j h. Laws.item_put_totals ws t j;
    }) s.0

-- ---- one stream's row alone, its chain as it was

module _ (ws st : List ℕ) (g : Shape ws st) (i : ℕ) (hk : i < (totals_at ws).known) (s : OutgoingStream) (fits : FitsStream s)
    (first_same : s.first ≡ (stream_at_words ws (row_at ws i)).first) (last_same : s.last ≡ (stream_at_words ws (row_at ws i)).last) where
  us : List ℕ
  us = put_stream_words ws (row_at ws i) s

  row_new : stream_at_words (put_stream_words ws (row_at ws i) s) (row_at ws i) ≡ s
  row_new = Laws.stream_at_put ws (row_at ws i) s g.long (row_below ws st g i hk) fits

  row_places : SamePlaces ws (put_stream_words ws (row_at ws i) s)
  row_places = record {
    long = Laws.whole_put_stream ws (row_at ws i) s;
    places = λ x h. ap (λ (m : Item). m.place) (Laws.item_put_stream ws (row_at ws i) s x (row_below ws st g i hk));
    sizes = λ x h. ap (λ (m : Item). m.length) (Laws.item_put_stream ws (row_at ws i) s x (row_below ws st g i hk));
    used = ap (λ (t : Totals). t.used) (Laws.totals_put_stream ws (row_at ws i) s);
    gaps = ap (λ (t : Totals). t.gaps) (Laws.totals_put_stream ws (row_at ws i) s);
  }

  row_same : (x : ℕ) → x < 1024 → Same ws st (put_stream_words ws (row_at ws i) s) st x
  row_same x h = same_item ws st (put_stream_words ws (row_at ws i) s) st x (Laws.item_put_stream ws (row_at ws i) s x (row_below ws st g i hk)) (payload_kept ws (put_stream_words ws (row_at ws i) s) st x row_places h)

  row_kept : (ps : List ℕ) → ((x : ℕ) → 1 ≤ count x ps → x < 1024) → Kept ws st (put_stream_words ws (row_at ws i) s) st ps
  row_kept ps f x h = row_same x (f x h)

  own_fits : (x : ℕ) → 1 ≤ count x (g.q i) → x < 1024
  own_fits x h = row_fits g.q g.fr x i g.split (omega (arith, g.known_fits)) h

  frees_fit : (x : ℕ) → 1 ≤ count x g.fr → x < 1024
  frees_fit x h = free_fits g.q g.fr x g.split h

  totals_same : totals_at (put_stream_words ws (row_at ws i) s) ≡ totals_at ws
  totals_same = Laws.totals_put_stream ws (row_at ws i) s

  pub shape_row : After ws st g i (put_stream_words ws (row_at ws i) s) st (g.q i) g.fr
  shape_row = step ws st g i hk (put_stream_words ws (row_at ws i) s) st (g.q i) g.fr (record {
    long' = Laws.whole_put_stream ws (row_at ws i) s ∙ g.long;
    known' = ap (λ (t : Totals). t.known) totals_same;
    table' = λ j h. Laws.known_put_stream ws (row_at ws i) s j h;
    places = λ x. refl;
    number = refl;
    waits' = rw totals_same;
    used' =
        let e = sum_frame (size_of ws) (size_of (put_stream_words ws (row_at ws i) s)) (g.q i) (λ x h. (row_same x (own_fits x h)).size_same) in
        let u : used_of (put_stream_words ws (row_at ws i) s) ≡ used_of ws = ap (λ (t : Totals). t.used) totals_same in
        omega arith;
    free' = rw totals_same (free_frame ws st (put_stream_words ws (row_at ws i) s) st (totals_at ws).free g.fr (row_kept g.fr frees_fit) g.free);
    row' = rw row_new (row_frame ws st (put_stream_words ws (row_at ws i) s) st (stream_at_words ws (row_at ws i)) s (g.q i) first_same last_same (row_kept (g.q i) own_fits) (g.rows i hk));
    full' = λ x h. rw (row_same x (own_fits x h)).size_same (g.full i x h);
    bare' = λ x h. rw (row_same x (frees_fit x h)).size_same (g.bare x h);
    others' = λ r h ne. Laws.stream_at_put_other ws (row_at ws i) s r ne;
    only = λ x h a b. row_same x h;
    lay' = good_same ws (put_stream_words ws (row_at ws i) s) st row_places g.lay;
    schedules' = (scheduler_same ws (put_stream_words ws (row_at ws i) s) (Laws.whole_put_stream ws (row_at ws i) s) (Laws.options_put_stream ws (row_at ws i) s) (Laws.scheduler_put_stream ws (row_at ws i) s) (λ j. Laws.active_put_stream ws (row_at ws i) s j (row_below ws st g i hk)) (Laws.leasts_put_stream ws (row_at ws i) s) g.schedules).0;
  })

  -- What the model's streams are then, by the stream's new row.
  pub row_streams : streams_in (put_stream_words ws (row_at ws i) s) st ≡ put_stream (stream_of (id_at ws i) s (each (item_in_words ws st) (g.q i))) (streams_in ws st)
  row_streams =
      let e = items_frame ws st (put_stream_words ws (row_at ws i) s) st (g.q i) (row_kept (g.q i) own_fits) in
      shape_row.streams ∙ rw (row_new, e)
