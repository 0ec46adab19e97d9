-- What the calls promise of the words implies what they promise of the model. Assumes nothing.
use Prim.Native.Nat.{ℕ, ◌<◌}
use mathlib.Core.Path.{◌≡◌, sym, subst}
use mathlib.Core.List.{List}
use lib.ListN.{length}
use Rattle.queue_model.specs.Run as run
use Rattle.queue_streams.specs.Events.{places_in}
use Rattle.queue_streams.specs.Settings.{CalledWith, called_with}
use Rattle.queue_streams.specs.Call.{Call}
use Rattle.queue_messages.specs.Discard.{discard}
use Rattle.queue_closing.specs.Close.{close}
use Rattle.queue_state.specs.Good.{Good}
use Rattle.queue_state.specs.Promise.{Reports}
use Rattle.queue_state.proofs.Numbers.{tells}
use Rattle.linked_dropping.specs.Meets.{DiscardMeets, CloseMeets}
use Rattle.linked_dropping.proofs.Discards.{discard_link}
use Rattle.linked_dropping.proofs.Closes.{close_link}

pub discard_meets : (ws es ws' es' : List ℕ) (id m : ℕ) (r : Call) → id < 65536 → m < 4294967296 → length es < 18446744073709551616 → called_with r ws' es' ≡ discard ws es id m → DiscardMeets ws es ws' es' id m r
discard_meets ws es ws' es' id m r hid hm hes e = record {
  words = e;
  model = reports;
  tells = λ st g. tells (reports st g).does;
}
  where
    reports : (st : List ℕ) → Good ws st → Reports (run.discard (places_in es) id m) ws st es r ws' st es'
    reports st g = subst (λ (c : CalledWith). Reports (run.discard (places_in es) id m) ws st es c.answer c.next st c.events) (sym e) (discard_link ws st es id m g hid hm hes)

pub close_meets : (ws es ws' es' : List ℕ) (id : ℕ) (r : Call) → id < 65536 → length es < 18446744073709551616 → called_with r ws' es' ≡ close ws es id → CloseMeets ws es ws' es' id r
close_meets ws es ws' es' id r hid hes e = record {
  words = e;
  model = reports;
  tells = λ st g. tells (reports st g).does;
}
  where
    reports : (st : List ℕ) → Good ws st → Reports (run.close (places_in es) id) ws st es r ws' st es'
    reports st g = subst (λ (c : CalledWith). Reports (run.close (places_in es) id) ws st es c.answer c.next st c.events) (sym e) (close_link ws st es id g hid hes)
