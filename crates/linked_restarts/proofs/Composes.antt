-- One turn behind another on the same stream. Assumes nothing.
use mathlib.Core.Path.{◌≡◌, refl, sym, ap, ◌∙◌, subst}
use mathlib.Core.List.{List}
use Prim.Native.Nat.{ℕ, ◌<◌}
use borrow.Author.Tests.{eq-eqb, ne_eqb}
use lib.Dec.{eqb}
use Rattle.queue_words.specs.Flags.{pick}
use Rattle.queue_words.specs.Header.{totals_at}
use Rattle.queue_words.specs.declared.header.Totals.{Totals}
use Rattle.queue_model.specs.Types.{Stream, Scheduler}
use Rattle.queue_model.specs.Streams.{put_stream, stream_key, find_stream}
use Rattle.queue_model.proofs.Table.{Rising, rising_put, same_table, find_put_same, find_put_other, own, other, is_own}
use Rattle.stream_scheduler.specs.Link.{model_scheduler}
use Rattle.queue_state.specs.Model.{stream_in, streams_in, tab}
use Rattle.queue_state.specs.Good.{Shape}
use Rattle.queue_state.proofs.Tabs.{tab_put}
use Rattle.queue_state.proofs.Steps.{rises}
use Rattle.queue_state.proofs.Rooms.{streams_rise}
use Rattle.linked_restarts.proofs.Sweeps.{Turn, tab_at}

-- A stream put in the place of one just put.
pub put_put : (s s' : Stream) (ss : List Stream) → s.id ≡ s'.id → Rising stream_key ss → put_stream s' (put_stream s ss) ≡ put_stream s' ss
put_put s s' ss e r = same_table stream_key (put_stream s' (put_stream s ss)) (put_stream s' ss) (rising_put stream_key s' (put_stream s ss) (rising_put stream_key s ss r)) (rising_put stream_key s' ss r) (λ k. elim (is_own stream_key s' k) [
  | own f ↦ subst (λ n. find_stream n (put_stream s' (put_stream s ss)) ≡ find_stream n (put_stream s' ss)) f (find_put_same stream_key s' (put_stream s ss) ∙ sym (find_put_same stream_key s' ss))
  | other n ↦ find_put_other stream_key k s' (put_stream s ss) n ∙ find_put_other stream_key k s ss (λ f. n (sym e ∙ f)) ∙ sym (find_put_other stream_key k s' ss n)
])

-- The streams with x in position i.
unfoldable placed : (ℕ → Stream) → ℕ → Stream → ℕ → Stream
placed f i x j = pick (eqb i j) x (f j)

placed_here : (f : ℕ → Stream) (i : ℕ) (x : Stream) → placed f i x i ≡ x
unfolding placed
placed_here f i x = rw (eq-eqb i i refl)

placed_there : (f : ℕ → Stream) (i : ℕ) (x : Stream) (j : ℕ) → (i ≡ j → ⊥) → placed f i x j ≡ f j
unfolding placed
placed_there f i x j ne = rw (ne_eqb i j ne)

module _ (us st : List ℕ) (g : Shape us st) (i : ℕ) (hi : i < (totals_at us).known) where
  put_at : (x : Stream) → x.id ≡ (stream_in us st i).id → put_stream x (tab (stream_in us st) (totals_at us).known) ≡ tab (placed (stream_in us st) i x) (totals_at us).known
  put_at x e =
      let h : placed (stream_in us st) i x i ≡ x = placed_here (stream_in us st) i x in
      ap (λ (s : Stream). put_stream s (tab (stream_in us st) (totals_at us).known)) (sym h)
      ∙ sym (tab_put stream_key (stream_in us st) (placed (stream_in us st) i x) (totals_at us).known i (rises us st g) hi (ap (λ (s : Stream). s.id) h ∙ e) (λ j l ne. placed_there (stream_in us st) i x j ne))

  -- What the stream is after its turn.
  pub turn_at : (F : Stream → Stream) (R : Stream → Scheduler → Scheduler) (vs : List ℕ) → ((s : Stream) → (F s).id ≡ s.id) → Turn F R us st i vs → stream_in vs st i ≡ F (stream_in us st i)
  unfolding streams_in
  turn_at F R vs keeps t =
      let k : (totals_at vs).known ≡ (totals_at us).known = ap (λ (x : Totals). x.known) t.totals in
      let e : tab (stream_in vs st) (totals_at us).known ≡ put_stream (F (stream_in us st i)) (tab (stream_in us st) (totals_at us).known) = subst (λ n. tab (stream_in vs st) n ≡ put_stream (F (stream_in us st i)) (tab (stream_in us st) (totals_at us).known)) k t.streams in
      tab_at (stream_in vs st) (placed (stream_in us st) i (F (stream_in us st i))) (totals_at us).known i (e ∙ put_at (F (stream_in us st i)) (keeps (stream_in us st i))) hi
      ∙ placed_here (stream_in us st) i (F (stream_in us st i))

  pub compose : (F G : Stream → Stream) (R T : Stream → Scheduler → Scheduler) (vs ws : List ℕ) → ((s : Stream) → (F s).id ≡ s.id) → ((s : Stream) → (G s).id ≡ s.id)
      → Turn F R us st i vs → Turn G T vs st i ws → Turn (λ s. G (F s)) (λ s sc. T (F s) (R s sc)) us st i ws
  compose F G R T vs ws keeps keeps' t u =
      let e : stream_in vs st i ≡ F (stream_in us st i) = turn_at F R vs keeps t in
      record {
        shape = u.shape;
        totals = u.totals ∙ t.totals;
        options = u.options ∙ t.options;
        streams = u.streams
            ∙ ap (λ (s : Stream). put_stream (G s) (streams_in vs st)) e
            ∙ ap (put_stream (G (F (stream_in us st i)))) t.streams
            ∙ put_put (F (stream_in us st i)) (G (F (stream_in us st i))) (streams_in us st) (sym (keeps' (F (stream_in us st i)))) (streams_rise us st g);
        scheduler = u.scheduler ∙ ap (λ (s : Stream). T s (model_scheduler vs)) e ∙ ap (T (F (stream_in us st i))) t.scheduler;
        known = u.known;
      }

  -- The same turn by another name.
  pub turn_as : (F G : Stream → Stream) (R T : Stream → Scheduler → Scheduler) (vs : List ℕ) → F (stream_in us st i) ≡ G (stream_in us st i) → R (stream_in us st i) (model_scheduler us) ≡ T (stream_in us st i) (model_scheduler us)
      → Turn F R us st i vs → Turn G T us st i vs
  turn_as F G R T vs e f t = record {
    shape = t.shape;
    totals = t.totals;
    options = t.options;
    streams = t.streams ∙ ap (λ (s : Stream). put_stream s (streams_in us st)) e;
    scheduler = t.scheduler ∙ f;
    known = t.known;
  }
