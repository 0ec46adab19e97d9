-- What restoring's contract asks. Assumes nothing.
use mathlib.Core.Path.{◌≡◌, sym, subst}
use mathlib.Core.List.{List}
use Prim.Native.Nat.{ℕ, ◌^◌, ◌<◌}
use lib.Dec.{T}
use lib.ListN.{length}
use lib.Pow.{are_bytes}
use Rattle.queue_model.specs.Run as run
use Rattle.queue_streams.specs.Call.{Call}
use Rattle.queue_messages.specs.Add.{Added, added}
use Rattle.queue_state.specs.Good.{Good}
use Rattle.queue_state.specs.Promise.{Does}
use Rattle.queue_state.proofs.Numbers.{tells}
use Rattle.handover.specs.Restore.{restore}
use Rattle.linked_restoring.specs.Restore.{RestoreMeets}
use Rattle.linked_restoring.proofs.Restores.{restore_link}

pub restore_meets : (ws st : List ℕ) (time : ℕ) (bs : List ℕ) (r : Call) (ws' st' : List ℕ) → time < 2 ^ 64 → T (are_bytes bs) → added r ws' st' ≡ restore ws st time bs → RestoreMeets ws st time bs r ws' st'
restore_meets ws st time bs r ws' st' ht hb e = record { words = e; model = does; tells = λ g. tells (does g) }
  where
    does : Good ws st → Does (run.restore (length st) time bs) ws st r ws' st'
    does g = subst (λ (a : Added). Does (run.restore (length st) time bs) ws st a.answer a.words a.store) (sym e) (restore_link ws st g time bs ht hb)
