-- Restoring, last: every stream with messages waits. Assumes nothing.
use mathlib.Core.Path.{◌≡◌, refl, sym, ap, ◌∙◌}
use mathlib.Core.Bool.{Bool, true, false}
use mathlib.Core.List.{List, [], ◌∷◌, map}
use Prim.Native.Nat.{ℕ, suc, ◌<◌}
use native.Mathlib.Omega.{arith}
use borrow.Author.Tests.{le-ltb}
use lib.Dec.{ltb}
use Rattle.queue_words.specs.Flags.{pick}
use Rattle.queue_words.specs.Header.{options_at, totals_at}
use Rattle.queue_words.specs.Known.{known_at, id_at}
use Rattle.queue_words.specs.Streams.{stream_at_words}
use Rattle.std.specs.Prelude.{if◌then◌else◌}
use Rattle.queue_model.specs.Types.{Stream}
use Rattle.queue_model.specs.Streams.{has_items, reschedule, reschedule_each}
use Rattle.stream_scheduler.specs.Link.{model_scheduler}
use Rattle.queue_streams.specs.Waiting.{rescheduled}
use Rattle.queue_state.specs.Model.{row_at, stream_in, streams_in}
use Rattle.queue_state.specs.Good.{Shape}
use Rattle.queue_state.proofs.Frames.{row_below, stream_is}
use Rattle.queue_state.proofs.Rooms.{AllKnown}
use Rattle.linked_restarts.proofs.Sweeps.{Turn, Swept, turned, each_tab, sweep, swept_streams}
use Rattle.linked_restarts.proofs.Turns.{first_is, no_turn, wait_turn}
use Rattle.restoring.specs.Messages.{waits_at, waits_all}

-- the streams are as they were
abbrev same : Stream → Stream
same s = s

waits_in : (il : Bool) (us : List ℕ) (i : ℕ) → row_at us i < 256
    → waits_at il us (known_at us i) ≡ pick (ltb (stream_at_words us (row_at us i)).first 1024) (rescheduled us il (id_at us i) (stream_at_words us (row_at us i)).first (stream_at_words us (row_at us i)).priority) us
unfolding waits_at
waits_in il us i h = rw (le-ltb 255 (row_at us i) (omega arith))

-- One turn.
module _ (il : Bool) (us st : List ℕ) (g : Shape us st) (a : AllKnown us st) (i : ℕ) (hi : i < (totals_at us).known) where
  abbrev s : Stream
  s = stream_in us st i

  has_is : has_items s ≡ ltb (stream_at_words us (row_at us i)).first 1024
  has_is = ap has_items (stream_is us st g i hi) ∙ first_is us st (id_at us i) (stream_at_words us (row_at us i)).first (stream_at_words us (row_at us i)) (g.q i) (g.rows i hi).linked

  abbrev next : Bool → List ℕ
  next b = pick b (rescheduled us il (id_at us i) (stream_at_words us (row_at us i)).first (stream_at_words us (row_at us i)).priority) us

  by_test : (b : Bool) → has_items s ≡ b → Turn same (turned il has_items same) us st i (next b)
  by_test true e = wait_turn us st g a i hi same (turned il has_items same) il refl (ap (λ (b : Bool). if b then reschedule il s (model_scheduler us) else model_scheduler us) e)
  by_test false e = no_turn us st g a i hi same (turned il has_items same) refl (ap (λ (b : Bool). if b then reschedule il s (model_scheduler us) else model_scheduler us) e)

  one_waits : Turn same (turned il has_items same) us st i (waits_at il us (known_at us i))
  one_waits = rw (waits_in il us i (row_below us st g i hi)) (by_test (ltb (stream_at_words us (row_at us i)).first 1024) has_is)

-- What is left when all have had theirs.
pub record AllWait (il : Bool) (ws st us : List ℕ) : Type 0 where
  pub shape : Shape us st
  pub totals : totals_at us ≡ totals_at ws
  pub options : options_at us ≡ options_at ws
  pub streams : streams_in us st ≡ streams_in ws st
  pub scheduler : model_scheduler us ≡ reschedule_each il has_items (streams_in ws st) (model_scheduler ws)

map_same : (ss : List Stream) → map same ss ≡ ss
map_same [] = refl
map_same (s ∷ ss) = ap (λ l. s ∷ l) (map_same ss)

waits_none : (il : Bool) (ws : List ℕ) → waits_all il ws 0 ≡ ws
unfolding waits_all
waits_none il ws = refl

waits_more : (il : Bool) (ws : List ℕ) (i : ℕ) → waits_all il ws (suc i) ≡ waits_at il (waits_all il ws i) (known_at (waits_all il ws i) i)
unfolding waits_all
waits_more il ws i = refl

module _ (il : Bool) (ws st : List ℕ) (g : Shape ws st) (a : AllKnown ws st) where
  turn : (i : ℕ) → i < (totals_at ws).known → (h : Shape (waits_all il ws i) st) → AllKnown (waits_all il ws i) st → totals_at (waits_all il ws i) ≡ totals_at ws → stream_in (waits_all il ws i) st i ≡ stream_in ws st i
      → Turn same (turned il has_items same) (waits_all il ws i) st i (waits_all il ws (suc i))
  turn i l h k t e = rw (waits_more il ws i) (one_waits il (waits_all il ws i) st h k i (rw t l))

  all_swept : Swept same (turned il has_items same) ws st (totals_at ws).known (waits_all il ws (totals_at ws).known)
  all_swept = sweep same (turned il has_items same) (λ s. refl) ws st g a (waits_all il ws) (waits_none il ws) turn (totals_at ws).known (omega arith)

  pub all_wait : AllWait il ws st (waits_all il ws (totals_at ws).known)
  unfolding streams_in
  all_wait = record {
    shape = all_swept.shape;
    totals = all_swept.totals;
    options = all_swept.options;
    streams = swept_streams same (turned il has_items same) (λ s. refl) ws st g a (waits_all il ws) (waits_none il ws) turn ∙ map_same (streams_in ws st);
    scheduler = all_swept.scheduler ∙ sym (each_tab il has_items same (stream_in ws st) (totals_at ws).known (model_scheduler ws));
  }
