-- A call's end: good words, the model's next queue, its answer and its events, put together. Assumes nothing.
use Prim.Native.Nat.{ℕ}
use mathlib.Core.Path.{◌≡◌, refl, sym, ap, subst, ◌∙◌}
use mathlib.Core.List.{List, []}
use lib.ListN.{length}
use Rattle.queue_words.specs.Header.{options_at}
use Rattle.queue_words.specs.declared.header.Options.{Options}
use Rattle.queue_model.specs.Types.{Step}
use Rattle.queue_model.specs.Run as run
use Rattle.queue_model.specs.Demands.{Typed}
use Rattle.queue_model.proofs.Invariant.Well.{Well}
use Rattle.queue_model.proofs.Invariant.Sixteen.{fine_step}
use Rattle.queue_streams.specs.Events.{written}
use Rattle.queue_streams.specs.Call.{Call}
use Rattle.queue_state.specs.Model.{model}
use Rattle.queue_state.specs.Good.{Shape, Good}
use Rattle.queue_state.specs.Promise.{call_of, Reports}

-- The model's step is x, and the words stand for its next queue.
pub ends : (c : run.Call) (ws st es ws' es' : List ℕ) (a : Call) (x : Step) → Good ws st → Typed c → run.step c (model ws st) ≡ x → Shape ws' st → options_at ws' ≡ options_at ws
    → model ws' st ≡ x.next → a ≡ call_of x.outcome.answer (length x.outcome.events) → es' ≡ written es 0 x.outcome.events → Reports c ws st es a ws' st es'
ends c ws st es ws' es' a x g t e s o m ea ee = record {
  does = record {
    good = record {
      shape = s;
      store_is = g.store_is ∙ ap (λ (y : Options). y.store_length) (sym o);
      well = subst Well (sym next) (fine_step c (model ws st) t g.well).next_well;
    };
    next = next;
    answer = ea ∙ ap (λ (y : Step). call_of y.outcome.answer (length y.outcome.events)) (sym e);
  };
  events = ee ∙ ap (λ (y : Step). written es 0 y.outcome.events) (sym e);
}
  where
    next : model ws' st ≡ (run.step c (model ws st)).next
    next = m ∙ ap (λ (y : Step). y.next) (sym e)

-- Nothing is changed, and there are no events.
pub stays : (c : run.Call) (ws st es : List ℕ) (a : Call) (x : Step) → Good ws st → Typed c → run.step c (model ws st) ≡ x → x.next ≡ model ws st → x.outcome.events ≡ []
    → a ≡ call_of x.outcome.answer 0 → Reports c ws st es a ws st es
unfolding written
stays c ws st es a x g t e n v ea =
    ends c ws st es ws es a x g t e g.shape refl (sym n) (rw v ea) (rw v)
