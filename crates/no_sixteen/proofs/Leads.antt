-- Calls on a queue and its handler, mixed, lead to the words of a queue. Assumes nothing.
use mathlib.Core.Path.{◌≡◌, refl, sym, subst}
use mathlib.Core.List.{List, [], ◌∷◌}
use Rattle.queue_runs.specs.Calls.{Call}
use Rattle.queue_runs.specs.Run.{State, after, step}
use Rattle.queue_runs.specs.Creation.{Arguments}
use Rattle.queue_runs.specs.Meaning.{GoodState, AllTyped}
use Rattle.stream_reset_handler.specs.declared.handler.StreamResetHandler.{StreamResetHandler}
use Rattle.stream_reset_handler.specs.Handler.{handler_of}
use Rattle.reset_model.specs.Handler as model
use Rattle.reset_runs.specs.Uses.{Use, other, Pair, pair, used}
use Rattle.reset_runs.specs.Uses as mixed
use Rattle.reset_runs.specs.Request9.{Starts}
use Rattle.no_sixteen.specs.Shows.{UsesTyped}
use Rattle.no_sixteen.specs.NoSixteen.{Led, Broken}
use Rattle.no_sixteen.proofs.Calls.{good_start}
use Rattle.no_sixteen.proofs.Handler.{kept_good}

uses_good : (us : List Use) (p : Pair) → GoodState p.queue → UsesTyped us → GoodState (mixed.after us p).queue
unfolding mixed.after
uses_good [] p g t = g
uses_good (u ∷ us) p g t = uses_good us (used u p) (kept_good u p g t.0) t.1

pub led_good : (s : State) → Led s → GoodState s
led_good s l = subst GoodState (sym l.state_is) (uses_good l.uses (pair l.handler l.start) (good_start l.arguments l.start l.starts) l.typed)

-- what no good state has is broken
pub broken : (s : State) → (GoodState s → ⊥) → Broken s
broken s f = record { not_good = f; not_led = λ l. f (led_good s l) }

-- ---- the queue's calls alone

others : List Call → List Use
others [] = []
others (c ∷ cs) = other c ∷ others cs

others_typed : (cs : List Call) → AllTyped cs → UsesTyped (others cs)
unfolding others
others_typed [] t = tt
others_typed (c ∷ cs) t = (t.0, others_typed cs t.1)

others_after : (h : StreamResetHandler) (cs : List Call) (s : State) → after cs s ≡ (mixed.after (others cs) (pair h s)).queue
unfolding others after mixed.after used
others_after h [] s = refl
others_after h (c ∷ cs) s = others_after h cs (step c s).next

pub calls_lead : (a : Arguments) (s : State) (cs : List Call) → Starts a s → AllTyped cs → Led (after cs s)
calls_lead a s cs b t =
    let h : StreamResetHandler = handler_of (model.start 0) in
    record { arguments = a; start = s; handler = h; uses = others cs; starts = b; typed = others_typed cs t; state_is = others_after h cs s }
