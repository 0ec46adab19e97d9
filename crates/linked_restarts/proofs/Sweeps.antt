-- Going over the known streams in their order, one turn a stream: what every turn has to show, and what is then left. Assumes nothing.
use mathlib.Core.Path.{◌≡◌, refl, sym, ap, ◌∙◌, subst}
use mathlib.Core.Bool.{Bool}
use mathlib.Core.List.{List, map}
use Prim.Native.Nat.{ℕ, zero, suc, ◌≤◌, ◌<◌}
use native.Mathlib.Omega.{arith}
use borrow.Author.Tests.{lt-ltb, le-ltb}
use lib.Dec.{ltb}
use Rattle.queue_words.specs.Flags.{pick}
use Rattle.queue_words.specs.Header.{options_at, totals_at}
use Rattle.queue_words.specs.declared.header.Totals.{Totals}
use Rattle.std.specs.Prelude.{if◌then◌else◌}
use Rattle.queue_model.specs.Types.{Stream, Scheduler}
use Rattle.queue_model.specs.Streams.{put_stream, stream_key, reschedule, reschedule_each}
use Rattle.queue_model.proofs.Scheduler.{each_nil, each_cons}
use Rattle.stream_scheduler.specs.Link.{model_scheduler}
use Rattle.queue_state.specs.Model.{stream_in, streams_in, tab}
use Rattle.queue_state.specs.Good.{Shape}
use Rattle.queue_state.proofs.Tabs.{Rises, tab_put, tab_map, tab_same}
use Rattle.queue_state.proofs.Steps.{rises}
use Rattle.queue_state.proofs.Rooms.{AllKnown}
use Rattle.queue_words.proofs.Finds.{by_lt}

-- ---- streams by position

-- F of the first n.
unfoldable pub partly : (Stream → Stream) → (ℕ → Stream) → ℕ → ℕ → Stream
partly F f n j = pick (ltb j n) (F (f j)) (f j)

pub partly_done : (F : Stream → Stream) (f : ℕ → Stream) (n j : ℕ) → j < n → partly F f n j ≡ F (f j)
unfolding partly
partly_done F f n j h = rw (lt-ltb j n h)

pub partly_left : (F : Stream → Stream) (f : ℕ → Stream) (n j : ℕ) → n ≤ j → partly F f n j ≡ f j
unfolding partly
partly_left F f n j h = rw (le-ltb j n h)

partly_key : (F : Stream → Stream) → ((s : Stream) → (F s).id ≡ s.id) → (f : ℕ → Stream) (n j : ℕ) → (partly F f n j).id ≡ (f j).id
partly_key F keeps f n j = by_lt j n
    (λ h. ap (λ (s : Stream). s.id) (partly_done F f n j h) ∙ keeps (f j))
    (λ h. ap (λ (s : Stream). s.id) (partly_left F f n j h))

-- Tables that are the same have the same rows.
pub tab_at : {A : Type 0} (f g : ℕ → A) (n j : ℕ) → tab f n ≡ tab g n → j < n → f j ≡ g j
unfolding tab
tab_at f g zero j e h = absurd (omega arith)
tab_at f g (suc n) zero e h = cc
tab_at f g (suc n) (suc j) e h = tab_at (λ i. f (suc i)) (λ i. g (suc i)) n j (let t : tab (λ i. f (suc i)) n ≡ tab (λ i. g (suc i)) n = cc in t) (omega arith)

-- ---- the scheduler after the first n turns

unfoldable pub fold_to : (Stream → Scheduler → Scheduler) → (ℕ → Stream) → ℕ → Scheduler → Scheduler
fold_to R f zero sc = sc
fold_to R f (suc n) sc = R (f n) (fold_to R f n sc)

fold_front : (R : Stream → Scheduler → Scheduler) (f : ℕ → Stream) (n : ℕ) (sc : Scheduler) → fold_to R f (suc n) sc ≡ fold_to R (λ j. f (suc j)) n (R (f 0) sc)
unfolding fold_to
fold_front R f zero sc = refl
fold_front R f (suc n) sc = ap (R (f (suc n))) (fold_front R f n sc)

-- A stream let wait if it passes a test.
abbrev pub turned : Bool → (Stream → Bool) → (Stream → Stream) → Stream → Scheduler → Scheduler
turned il test F s sc = if test (F s) then reschedule il (F s) sc else sc

pub each_tab : (il : Bool) (test : Stream → Bool) (F : Stream → Stream) (f : ℕ → Stream) (n : ℕ) (sc : Scheduler) → reschedule_each il test (tab (λ j. F (f j)) n) sc ≡ fold_to (turned il test F) f n sc
unfolding tab fold_to
each_tab il test F f zero sc = each_nil il test sc
each_tab il test F f (suc n) sc =
    each_cons il test (F (f 0)) (tab (λ j. F (f (suc j))) n) sc
    ∙ each_tab il test F (λ j. f (suc j)) n (turned il test F (f 0) sc)
    ∙ sym (fold_front (turned il test F) f n sc)

-- ---- the turns

-- A turn on the stream in position i makes F of it, and R of the scheduler.
pub record Turn (F : Stream → Stream) (R : Stream → Scheduler → Scheduler) (us st : List ℕ) (i : ℕ) (vs : List ℕ) : Type 0 where
  pub shape : Shape vs st
  pub totals : totals_at vs ≡ totals_at us
  pub options : options_at vs ≡ options_at us
  pub streams : streams_in vs st ≡ put_stream (F (stream_in us st i)) (streams_in us st)
  pub scheduler : model_scheduler vs ≡ R (stream_in us st i) (model_scheduler us)
  pub known : AllKnown vs st

-- What n turns leave.
pub record Swept (F : Stream → Stream) (R : Stream → Scheduler → Scheduler) (ws st : List ℕ) (n : ℕ) (us : List ℕ) : Type 0 where
  pub shape : Shape us st
  pub totals : totals_at us ≡ totals_at ws
  pub options : options_at us ≡ options_at ws
  pub streams : streams_in us st ≡ tab (partly F (stream_in ws st) n) (totals_at ws).known
  pub scheduler : model_scheduler us ≡ fold_to R (stream_in ws st) n (model_scheduler ws)
  pub known : AllKnown us st

module _ (F : Stream → Stream) (R : Stream → Scheduler → Scheduler) (keeps : (s : Stream) → (F s).id ≡ s.id) (ws st : List ℕ) (g : Shape ws st) where
  none_yet : AllKnown ws st → Swept F R ws st 0 ws
  unfolding streams_in fold_to
  none_yet a = record {
    shape = g;
    totals = refl;
    options = refl;
    streams = tab_same (totals_at ws).known (partly F (stream_in ws st) 0) (stream_in ws st) (λ j h. sym (partly_left F (stream_in ws st) 0 j (omega arith)));
    scheduler = refl;
    known = a;
  }

  -- The stream whose turn it is has not been touched.
  pub untouched_yet : (n : ℕ) (us : List ℕ) → n < (totals_at ws).known → Swept F R ws st n us → stream_in us st n ≡ stream_in ws st n
  unfolding streams_in
  untouched_yet n us h s =
      let k : (totals_at us).known ≡ (totals_at ws).known = ap (λ (t : Totals). t.known) s.totals in
      let e : tab (stream_in us st) (totals_at ws).known ≡ tab (partly F (stream_in ws st) n) (totals_at ws).known = subst (λ m. tab (stream_in us st) m ≡ tab (partly F (stream_in ws st) n) (totals_at ws).known) k s.streams in
      tab_at (stream_in us st) (partly F (stream_in ws st) n) (totals_at ws).known n e h ∙ partly_left F (stream_in ws st) n n (omega arith)

  partly_rises : (n : ℕ) → Rises stream_key (partly F (stream_in ws st) n) (totals_at ws).known
  partly_rises n i j h l =
      let a = partly_key F keeps (stream_in ws st) n i in
      let b = partly_key F keeps (stream_in ws st) n j in
      let r = rises ws st g i j h l in
      omega arith

  put_next : (n : ℕ) → n < (totals_at ws).known → put_stream (F (stream_in ws st n)) (tab (partly F (stream_in ws st) n) (totals_at ws).known) ≡ tab (partly F (stream_in ws st) (suc n)) (totals_at ws).known
  put_next n h =
      let e : partly F (stream_in ws st) (suc n) n ≡ F (stream_in ws st n) = partly_done F (stream_in ws st) (suc n) n (omega arith) in
      let k : (partly F (stream_in ws st) (suc n) n).id ≡ (partly F (stream_in ws st) n n).id = partly_key F keeps (stream_in ws st) (suc n) n ∙ sym (partly_key F keeps (stream_in ws st) n n) in
      ap (λ (s : Stream). put_stream s (tab (partly F (stream_in ws st) n) (totals_at ws).known)) (sym e)
      ∙ sym (tab_put stream_key (partly F (stream_in ws st) n) (partly F (stream_in ws st) (suc n)) (totals_at ws).known n (partly_rises n) h k same)
    where
      same : (j : ℕ) → j < (totals_at ws).known → (n ≡ j → ⊥) → partly F (stream_in ws st) (suc n) j ≡ partly F (stream_in ws st) n j
      same j l ne = by_lt j n
          (λ b. partly_done F (stream_in ws st) (suc n) j (omega arith) ∙ sym (partly_done F (stream_in ws st) n j b))
          (λ b. partly_left F (stream_in ws st) (suc n) j (omega arith) ∙ sym (partly_left F (stream_in ws st) n j b))

  one_more : (n : ℕ) (us vs : List ℕ) → n < (totals_at ws).known → Swept F R ws st n us → Turn F R us st n vs → Swept F R ws st (suc n) vs
  unfolding fold_to
  one_more n us vs h s t =
      let e : stream_in us st n ≡ stream_in ws st n = untouched_yet n us h s in
      record {
        shape = t.shape;
        totals = t.totals ∙ s.totals;
        options = t.options ∙ s.options;
        streams = t.streams ∙ rw (e, s.streams) (put_next n h);
        scheduler = t.scheduler ∙ rw (e, s.scheduler);
        known = t.known;
      }

  module _ (a : AllKnown ws st) (w : ℕ → List ℕ) (start : w 0 ≡ ws)
      (turn : (i : ℕ) → i < (totals_at ws).known → (h : Shape (w i) st) → AllKnown (w i) st → totals_at (w i) ≡ totals_at ws → stream_in (w i) st i ≡ stream_in ws st i → Turn F R (w i) st i (w (suc i))) where
    pub sweep : (n : ℕ) → n ≤ (totals_at ws).known → Swept F R ws st n (w n)
    sweep zero h = subst (Swept F R ws st 0) (sym start) (none_yet a)
    sweep (suc n) h =
        let s : Swept F R ws st n (w n) = sweep n (omega arith) in
        one_more n (w n) (w (suc n)) (omega arith) s (turn n (omega arith) s.shape s.known s.totals (untouched_yet n (w n) (omega arith) s))

    pub swept_streams : streams_in (w (totals_at ws).known) st ≡ map F (streams_in ws st)
    unfolding streams_in
    swept_streams =
        let s : Swept F R ws st (totals_at ws).known (w (totals_at ws).known) = sweep (totals_at ws).known (omega arith) in
        s.streams ∙ tab_map F (stream_in ws st) (partly F (stream_in ws st) (totals_at ws).known) (totals_at ws).known (λ j h. partly_done F (stream_in ws st) (totals_at ws).known j h)
