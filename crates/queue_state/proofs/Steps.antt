-- ONE STEP of a call on the stream in position i: what a call has to show, and what follows for the whole state. Every call's link goes through this.
-- Assumes nothing.
use mathlib.Core.Path.{◌≡◌, refl, sym, ap, ◌∙◌, subst}
use mathlib.Core.List.{List}
use Prim.Native.Nat.{ℕ, ◌+◌, ◌≤◌, ◌<◌}
use native.Mathlib.Omega.{arith}
use lib.ListN.{length}
use Rattle.queue_words.specs.Header.{totals_at}
use Rattle.queue_words.specs.Known.{known_at, id_at}
use Rattle.queue_words.specs.Streams.{stream_at_words}
use Rattle.queue_words.specs.declared.known.Known.{Known}
use Rattle.queue_words.specs.declared.streams.OutgoingStream.{OutgoingStream}
use Rattle.queue_words.proofs.Finds.{rising_same, by_lt}
use Rattle.queue_model.specs.Streams.{put_stream, stream_key}
use Rattle.payload_store.specs.Words.{size_of, used_of}
use Rattle.payload_store.specs.Good as payload
use Rattle.payload_store.proofs.Cases.{by_index}
use Rattle.stream_scheduler.specs.Link.{GoodScheduler}
use Rattle.queue_state.specs.Chains.{Linked, count, sum_of, upd, each}
use Rattle.queue_state.specs.Model.{next_of, item_in_words, stream_of, row_at, stream_in, streams_in, tab}
use Rattle.queue_state.specs.Good.{Row, Shape}
use Rattle.queue_state.proofs.Chains.{sum_frame}
use Rattle.queue_state.proofs.Splits.{upd_same, upd_other, total_change, free_apart, rows_apart, split_move, total_upd}
use Rattle.queue_state.proofs.Tabs.{Rises, tab_put}
use Rattle.queue_state.proofs.Frames.{Same, Kept, row_frame, stream_frame, row_fits, short, stream_is, row_below, stream_key_in}

-- The call leaves ws' and st'; the stream in position i then has the places v, and fr' are free.
pub record Step (ws st : List ℕ) (g : Shape ws st) (i : ℕ) (ws' st' v fr' : List ℕ) : Type 0 where
  pub long' : length ws' ≡ 20768
  pub known' : (totals_at ws').known ≡ (totals_at ws).known
  pub table' : (j : ℕ) → j < 256 → known_at ws' j ≡ known_at ws j
  -- places go between the stream and the free ones
  pub places : (x : ℕ) → count x fr' + count x v ≡ count x g.fr + count x (g.q i)
  pub number : length fr' + length v ≡ length g.fr + length (g.q i)
  pub waits' : (totals_at ws').waiting + length (g.q i) ≡ (totals_at ws).waiting + length v
  pub used' : used_of ws' + sum_of (size_of ws) (g.q i) ≡ used_of ws + sum_of (size_of ws') v
  pub free' : Linked (next_of ws') (totals_at ws').free fr'
  pub row' : Row ws' (stream_at_words ws' (row_at ws i)) v
  pub full' : (x : ℕ) → 1 ≤ count x v → 1 ≤ size_of ws' x
  pub bare' : (x : ℕ) → 1 ≤ count x fr' → size_of ws' x ≡ 0
  -- nothing else changes
  pub others' : (r : ℕ) → r < 256 → (row_at ws i ≡ r → ⊥) → stream_at_words ws' r ≡ stream_at_words ws r
  pub only : (x : ℕ) → x < 1024 → count x g.fr ≡ 0 → count x (g.q i) ≡ 0 → Same ws st ws' st' x
  pub lay' : payload.GoodPayloads ws' st'
  pub schedules' : GoodScheduler ws'

-- What follows.
pub record After (ws st : List ℕ) (g : Shape ws st) (i : ℕ) (ws' st' v fr' : List ℕ) : Type 0 where
  pub shape : Shape ws' st'
  pub q_is : (j : ℕ) → shape.q j ≡ upd g.q i v j
  pub fr_is : shape.fr ≡ fr'
  pub streams : streams_in ws' st' ≡ put_stream (stream_of (id_at ws i) (stream_at_words ws' (row_at ws i)) (each (item_in_words ws' st') v)) (streams_in ws st)

-- The ids of the known streams rise, as keys of a table.
pub rises : (ws st : List ℕ) (g : Shape ws st) → Rises stream_key (stream_in ws st) (totals_at ws).known
rises ws st g i j h l =
    let a : (stream_in ws st i).id ≡ id_at ws i = stream_key_in ws st i in
    let b : (stream_in ws st j).id ≡ id_at ws j = stream_key_in ws st j in
    let r : id_at ws i < id_at ws j = g.rising i j h l in
    rw (a, b) r

module _ (ws st : List ℕ) (g : Shape ws st) (i : ℕ) (hk : i < (totals_at ws).known) (ws' st' v fr' : List ℕ) (s : Step ws st g i ws' st' v fr') where
  below : i < 256
  below = omega (arith, g.known_fits)

  -- the places of another stream are neither free nor stream i's
  kept : (j : ℕ) → (i ≡ j → ⊥) → Kept ws st ws' st' (g.q j)
  kept j ne x h = by_side (j_known j x h)
    where
      by_side : j < 256 → Same ws st ws' st' x
      by_side l = s.only x (row_fits g.q g.fr x j g.split l h) (omega (arith, free_apart g.q g.fr g.split x j l)) (omega (arith, rows_apart g.q g.fr g.split x i j below l ne))

      j_known : (j x : ℕ) → 1 ≤ count x (g.q j) → j < 256
      j_known j x h = by_lt j (totals_at ws).known (λ l. omega (arith, g.known_fits))
          (λ l. let e : count x (g.q j) ≡ 0 = ap (count x) (g.rest j l) in absurd (omega arith))

  same_row : (j : ℕ) → j < 256 → row_at ws' j ≡ row_at ws j
  same_row j l = ap (λ (k : Known). k.place) (s.table' j l)

  other_row : (j : ℕ) → j < (totals_at ws).known → (i ≡ j → ⊥) → stream_at_words ws' (row_at ws j) ≡ stream_at_words ws (row_at ws j)
  other_row j h ne = s.others' (row_at ws j) (row_below ws st g j h) (λ e. ne (g.unlike i j hk h e))

  q' : ℕ → List ℕ
  q' = upd g.q i v

  down : (j : ℕ) → j < (totals_at ws').known → j < (totals_at ws).known
  down j h = omega (arith, s.known')

  rows' : (j : ℕ) → j < (totals_at ws').known → Row ws' (stream_at_words ws' (row_at ws' j)) (upd g.q i v j)
  rows' j h = by_index i j
      (λ z. rw (same_row j (omega (arith, down j h, g.known_fits)), ← z, upd_same) s.row')
      (λ ne.
      let l : j < (totals_at ws).known = down j h in
      let e : stream_at_words ws' (row_at ws j) ≡ stream_at_words ws (row_at ws j) = other_row j l ne in
      rw (same_row j (omega (arith, l, g.known_fits)), upd_other g.q i v j ne)
      (row_frame ws st ws' st' (stream_at_words ws (row_at ws j)) (stream_at_words ws' (row_at ws j)) (g.q j) (ap (λ (s : OutgoingStream). s.first) e) (ap (λ (s : OutgoingStream). s.last) e) (kept j ne) (g.rows j l)))

  full'' : (j x : ℕ) → 1 ≤ count x (upd g.q i v j) → 1 ≤ size_of ws' x
  full'' j x h = by_index i j
      (λ z. s.full' x (let e : upd g.q i v j ≡ v = subst (λ k. upd g.q i v k ≡ v) z (upd_same g.q i v) in rw e at h))
      (λ ne. let h' : 1 ≤ count x (g.q j) = rw (upd_other g.q i v j ne) at h in rw (kept j ne x h').size_same (g.full j x h'))

  unfoldable the_shape : Shape ws' st'
  the_shape = record {
    q = upd g.q i v;
    fr = fr';
    long = s.long';
    known_fits = rw s.known' g.known_fits;
    rising = rising_same ws ws' s.table' s.known' g.known_fits g.rising;
    inside = λ j h. rw (same_row j (omega (arith, down j h, g.known_fits)), s.known') (g.inside j (down j h));
    unlike = λ j k h l e. g.unlike j k (down j h) (down k l) (sym (same_row j (omega (arith, down j h, g.known_fits))) ∙ e ∙ same_row k (omega (arith, down k l, g.known_fits)));
    split = split_move g.q g.fr i v fr' below s.places s.number g.split;
    free = s.free';
    rows = rows';
    rest = λ j h. let l : (totals_at ws).known ≤ j = rw s.known' at h in rw (upd_other g.q i v j (λ z. omega arith)) (g.rest j l);
    full = full'';
    bare = s.bare';
    waits = omega (arith, s.waits', g.waits, total_upd length g.q i v below);
    used = omega (arith, s.used', g.used, total_change (sum_of (size_of ws)) (sum_of (size_of ws')) g.q i v below (λ j ne. sum_frame (size_of ws) (size_of ws') (g.q j) (λ x h. (kept j ne x h).size_same)));
    lay = s.lay';
    schedules = s.schedules';
  }

  same_streams : (j : ℕ) → j < (totals_at ws).known → (i ≡ j → ⊥) → stream_in ws' st' j ≡ stream_in ws st j
  same_streams j h ne = stream_frame ws st ws' st' j (g.q j) (short ws st g j h) (s.table' j (omega (arith, g.known_fits))) (other_row j h ne) (kept j ne) (g.rows j h)

  new_stream : stream_in ws' st' i ≡ stream_of (id_at ws i) (stream_at_words ws' (row_at ws i)) (each (item_in_words ws' st') v)
  unfolding the_shape
  new_stream =
      let l : i < (totals_at ws').known = omega (arith, s.known') in
      let e : row_at ws' i ≡ row_at ws i = same_row i below in
      let d : id_at ws' i ≡ id_at ws i = ap (λ (k : Known). k.id.0) (s.table' i below) in
      stream_is ws' st' the_shape i l ∙ rw (e, d, upd_same g.q i v)

  the_streams : streams_in ws' st' ≡ put_stream (stream_of (id_at ws i) (stream_at_words ws' (row_at ws i)) (each (item_in_words ws' st') v)) (streams_in ws st)
  unfolding streams_in
  the_streams =
      let d : (stream_in ws' st' i).id ≡ (stream_in ws st i).id = stream_key_in ws' st' i ∙ ap (λ (k : Known). k.id.0) (s.table' i below) ∙ sym (stream_key_in ws st i) in
      rw s.known' (tab_put stream_key (stream_in ws st) (stream_in ws' st') (totals_at ws).known i (rises ws st g) hk d same_streams
      ∙ ap (λ x. put_stream x (tab (stream_in ws st) (totals_at ws).known)) new_stream)

  pub step : After ws st g i ws' st' v fr'
  unfolding the_shape
  step = record { shape = the_shape; q_is = λ j. refl; fr_is = refl; streams = the_streams }
