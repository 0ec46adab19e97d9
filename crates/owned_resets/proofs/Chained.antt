-- What each of the handler's calls leaves is what the next one asks for (specs/Chains). Assumes nothing.
use mathlib.Core.Path.{◌≡◌, refl, ap}
use mathlib.Core.List.{List, []}
use mathlib.Core.Option.{none, some}
use Prim.Native.Nat.{ℕ}
use Rattle.queue_state.specs.Good.{Good}
use Rattle.reset_model.specs.Handler as model
use Rattle.stream_reset_handler.specs.Underway.{Underway}
use Rattle.std.specs.Prelude.{Some, None}
use Rattle.stream_reset_handler.specs.declared.handler.StreamResetHandler.{StreamResetHandler}
use Rattle.stream_reset_handler.specs.Handler.{handler_of}
use Rattle.owned_streams.specs.Own.{OwnWords}
use Rattle.owned_resets.specs.Chains.{Chains, Keeps}

-- every handler is one of the model's
record Meant (h : StreamResetHandler) : Type 0 where
  meaning : model.Handler
  same : h ≡ handler_of meaning

meant : (h : StreamResetHandler) → Meant h
meant h = by h.underway refl
  where
    by : (u : Underway) → h.underway ≡ u → Meant h
    by None e = record { meaning = record { next_number = h.next_number; underway = none }; same = ap (λ (x : Underway). record { next_number = h.next_number; underway = x }) e }
    by (Some n) e = record { meaning = record { next_number = h.next_number; underway = some (record { number = n; streams = [] }) }; same = ap (λ (x : Underway). record { next_number = h.next_number; underway = x }) e }

keeps : (ws ws' : List ℕ) → ((st : List ℕ) → Good ws st → Good ws' st) → Keeps ws ws'
keeps ws ws' f = (f, λ (y : OwnWords ws). record { store = y.store; good = f y.store y.good })

pub chains : Chains
chains = record {
  made = λ ws h out r t m ws' out' k. keeps ws ws' (λ st g. let p = meant h in (k.model st g p.meaning p.same).good);
  handled = λ ws h bs a ws' k. keeps ws ws' (λ st g. let p = meant h in (k.model st g p.meaning p.same).good);
  was_reset = λ ws h a ws' k. keeps ws ws' (λ st g. let p = meant h in (k.model st g p.meaning p.same).good);
}
