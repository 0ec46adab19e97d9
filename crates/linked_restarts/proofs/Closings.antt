-- From a call's shape and next queue to what it promises. Assumes nothing.
use mathlib.Core.Path.{◌≡◌, sym, ap, ◌∙◌, subst}
use mathlib.Core.List.{List, []}
use Prim.Native.Nat.{ℕ}
use Rattle.queue_words.specs.Header.{options_at}
use Rattle.queue_words.specs.declared.header.Options.{Options}
use Rattle.queue_model.specs.Run as run
use Rattle.queue_model.specs.Demands.{Typed}
use Rattle.queue_model.specs.Types.{done}
use Rattle.queue_model.proofs.Invariant.Well.{Well}
use Rattle.queue_model.proofs.Invariant.Sixteen.{fine_step}
use Rattle.queue_streams.specs.Call.{Accepted}
use Rattle.queue_state.specs.Model.{model}
use Rattle.queue_state.specs.Good.{Shape, Good}
use Rattle.queue_state.specs.Promise.{Does, shown}

-- The words are good: well is the model's next queue.
pub good_after : (c : run.Call) (ws st ws' : List ℕ) → Typed c → Good ws st → Shape ws' st → options_at ws' ≡ options_at ws → model ws' st ≡ (run.step c (model ws st)).next → Good ws' st
good_after c ws st ws' t g h o e = record {
  shape = h;
  store_is = g.store_is ∙ ap (λ (x : Options). x.store_length) (sym o);
  well = subst Well (sym e) (fine_step c (model ws st) t g.well).next_well;
}

-- A call that is accepted and reports nothing.
pub does_quietly : (c : run.Call) (ws st ws' : List ℕ) → Typed c → Good ws st → Shape ws' st → options_at ws' ≡ options_at ws → model ws' st ≡ (run.step c (model ws st)).next
    → (shown c ws st).answer ≡ done → (shown c ws st).events ≡ [] → Does c ws st (Accepted 0) ws' st
does_quietly c ws st ws' t g h o e a v = record {
  good = good_after c ws st ws' t g h o e;
  next = e;
  answer = rw (a, v);
}
