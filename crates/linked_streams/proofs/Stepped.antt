-- A call that sets one stream, known or new, or is refused: it is the model's step. Assumes nothing.
use mathlib.Core.Path.{◌≡◌, sym, ap, ◌∙◌, subst}
use mathlib.Core.Bool.{Bool, true}
use mathlib.Core.List.{List, [], ◌∷◌}
use Prim.Native.Nat.{ℕ, ◌<◌}
use lib.ListN.{length}
use Rattle.queue_words.specs.Header.{options_at, totals_at}
use Rattle.queue_words.specs.Known.{id_at}
use Rattle.queue_words.specs.Streams.{stream_at_words, put_stream_words, FitsStream}
use Rattle.queue_words.specs.declared.header.Options.{Options}
use Rattle.queue_words.specs.declared.header.Totals.{Totals}
use Rattle.queue_words.specs.declared.streams.OutgoingStream.{OutgoingStream}
use Rattle.queue_words.proofs.Laws
use Rattle.queue_model.specs.Types.{Event, Queue, Stream, Step, done, refuse, reply}
use Rattle.queue_model.specs.Streams.{know, put_stream}
use Rattle.queue_model.specs.Refusals.{Check, ◌when◌, checked, first_refusal, refused_or}
use Rattle.queue_model.specs.Run as run
use Rattle.queue_model.proofs.Invariant.Well.{Well}
use Rattle.queue_model.proofs.Invariant.Fine.{Fine}
use Rattle.stream_scheduler.specs.Link.{model_scheduler}
use Rattle.queue_streams.specs.Known.{inserted}
use Rattle.queue_streams.specs.Call.{Call}
use Rattle.queue_streams.specs.Call.{Accepted, Refused}
use Rattle.queue_state.specs.Chains.{each}
use Rattle.queue_state.specs.Model.{item_in_words, stream_of, row_at, options_of, streams_in, model}
use Rattle.queue_state.specs.Good.{Shape, Good}
use Rattle.queue_state.specs.Promise.{call_of, shown, Does}
use Rattle.queue_state.proofs.Frames.{row_below}
use Rattle.queue_state.proofs.Singles.{model_is, model_options, model_interleaving, model_total, model_next, model_streams, model_schedules, shape_row, row_streams}
use Rattle.stream_scheduler.proofs.Link.{scheduler_same}
use Rattle.queue_state.proofs.Inserts.{Inserted}

-- The first check refuses.
pub checked_first : (n : ℕ) (b : Bool) (cs : List Check) (q : Queue) (s : Step) → b ≡ true → checked ((n when b) ∷ cs) q s ≡ refuse q n
unfolding checked first_refusal refused_or
checked_first n b cs q s e = rw e

-- A call is the model's step where its words have the shape, stand for the model's next queue, and the model's call is fine.
pub does_step : (c : run.Call) (ws st : List ℕ) (a : Call) (ws' st' : List ℕ) → Fine (model ws st) (run.step c (model ws st)) → Shape ws' st' → length st' ≡ (options_at ws').store_length
    → model ws' st' ≡ (run.step c (model ws st)).next → a ≡ call_of (shown c ws st).answer (length (shown c ws st).events) → Does c ws st a ws' st'
does_step c ws st a ws' st' f s l e h = record {
  good = record { shape = s; store_is = l; well = subst Well (sym e) f.next_well };
  next = e;
  answer = h;
}

-- A refused call.
pub does_refused : (c : run.Call) (ws st : List ℕ) (n : ℕ) → Good ws st → run.step c (model ws st) ≡ refuse (model ws st) n → Does c ws st (Refused n) ws st
does_refused c ws st n g e = record {
  good = g;
  next = sym (ap (λ (s : Step). s.next) e);
  answer = sym (ap (λ (s : Step). call_of s.outcome.answer (length s.outcome.events)) e);
}

-- Words that differ from ws in their streams: the queue with those.
known_model : (ws st us : List ℕ) (s : Stream) → options_at us ≡ options_at ws → (totals_at us).interleaving ≡ (totals_at ws).interleaving → (totals_at us).total ≡ (totals_at ws).total
    → (totals_at us).next_message_id.0 ≡ (totals_at ws).next_message_id.0 → streams_in us st ≡ put_stream s (streams_in ws st) → model_scheduler us ≡ model_scheduler ws → model us st ≡ know (model ws st) s
known_model ws st us s a b c d e f =
    model_is us st (model ws st).options (model ws st).interleaving (model ws st).total (model ws st).next_message_id (put_stream s (model ws st).streams) (model ws st).scheduler
    (ap options_of a ∙ sym (model_options ws st)) (b ∙ sym (model_interleaving ws st)) (c ∙ sym (model_total ws st)) (d ∙ sym (model_next ws st))
    (e ∙ ap (put_stream s) (sym (model_streams ws st))) (f ∙ sym (model_schedules ws st))

module _ (c : run.Call) (ws st : List ℕ) (g : Good ws st) (fine : Fine (model ws st) (run.step c (model ws st))) (vs : List Event) where
  -- what an accepted call shows
  shows : (us : List ℕ) (s : Stream) → Shape us st → options_at us ≡ options_at ws → model us st ≡ know (model ws st) s → run.step c (model ws st) ≡ reply done vs (know (model ws st) s)
      → Does c ws st (Accepted (length vs)) us st
  shows us s h eo em e =
      does_step c ws st (Accepted (length vs)) us st fine h (g.store_is ∙ ap (λ (o : Options). o.store_length) (sym eo))
      (em ∙ sym (ap (λ (x : Step). x.next) e))
      (sym (ap (λ (x : Step). call_of x.outcome.answer (length x.outcome.events)) e))

  -- A known stream's row set, its messages as they were.
  pub does_row : (i : ℕ) (hk : i < (totals_at ws).known) (s : OutgoingStream) → FitsStream s → s.first ≡ (stream_at_words ws (row_at ws i)).first → s.last ≡ (stream_at_words ws (row_at ws i)).last
      → run.step c (model ws st) ≡ reply done vs (know (model ws st) (stream_of (id_at ws i) s (each (item_in_words ws st) (g.shape.q i)))) → Does c ws st (Accepted (length vs)) (put_stream_words ws (row_at ws i) s) st
  does_row i hk s f a b e =
      let us : List ℕ = put_stream_words ws (row_at ws i) s in
      let x : Stream = stream_of (id_at ws i) s (each (item_in_words ws st) (g.shape.q i)) in
      let et : totals_at (put_stream_words ws (row_at ws i) s) ≡ totals_at ws = Laws.totals_put_stream ws (row_at ws i) s in
      let eo : options_at (put_stream_words ws (row_at ws i) s) ≡ options_at ws = Laws.options_put_stream ws (row_at ws i) s in
      let sc = scheduler_same ws (put_stream_words ws (row_at ws i) s) (Laws.whole_put_stream ws (row_at ws i) s) eo (Laws.scheduler_put_stream ws (row_at ws i) s) (λ j. Laws.active_put_stream ws (row_at ws i) s j (row_below ws st g.shape i hk)) (Laws.leasts_put_stream ws (row_at ws i) s) g.shape.schedules in
      shows us x (shape_row ws st g.shape i hk s f a b).shape eo
      (known_model ws st us x eo (ap (λ (t : Totals). t.interleaving) et) (ap (λ (t : Totals). t.total) et) (ap (λ (t : Totals). t.next_message_id.0) et) (row_streams ws st g.shape i hk s f a b) sc.1) e

  -- A stream made known with its row.
  pub does_new : (p id : ℕ) (s : OutgoingStream) → Inserted ws st g.shape p id s (inserted ws p id s)
      → run.step c (model ws st) ≡ reply done vs (know (model ws st) (stream_of id s [])) → Does c ws st (Accepted (length vs)) (inserted ws p id s) st
  does_new p id s n e =
      shows (inserted ws p id s) (stream_of id s []) n.shape n.options_is
      (known_model ws st (inserted ws p id s) (stream_of id s []) n.options_is (ap (λ (t : Totals). t.interleaving) n.totals_is) (ap (λ (t : Totals). t.total) n.totals_is)
      (ap (λ (t : Totals). t.next_message_id.0) n.totals_is) n.streams n.scheduler_is) e
