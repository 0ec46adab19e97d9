-- A call on a receiver that calls lead to does not show 16, and creation never does. Assumes nothing.
use mathlib.Core.Path.{◌≡◌, refl, sym, subst}
use mathlib.Core.Bool.{Bool, true, false}
use mathlib.Core.List.{[], ◌∷◌}
use Prim.Native.Nat.{ℕ}
use lib.Dec.{eqb, ltb}
use lib.ListN.{length}
use Rattle.queue_words.specs.Flags.{pick}
use Rattle.receiver_model.specs.Types.{Receiver}
use Rattle.receiver_fragments.specs.Creating as creating
use Rattle.queue_runs.specs.Run.{State}
use Rattle.receiver_runs.specs.Calls.{Call, Typed}
use Rattle.receiver_runs.specs.Run as runs
use Rattle.receiver_runs.specs.Meaning.{sixteen}
use Rattle.receiver_runs.proofs.Runs.{Stands, run_link, new_stands}
use Rattle.no_sixteen.specs.NoSixteen.{ReceiverLed}

call_not : (c : Call) (s : State) (r : Receiver) → Stands s r → Typed (length s.store) c → sixteen (runs.step c s).shows.answer ≡ false
unfolding runs.run
call_not c s r v t = (run_link (c ∷ []) s r v (t, tt)).no_sixteen.0

record Meant (s : State) : Type 0 where
  meaning : Receiver
  stands : Stands s meaning

led_stands : (s : State) → ReceiverLed s → Meant s
led_stands s l = subst Meant (sym l.state_is) (record { meaning = _; stands = (run_link l.calls (runs.new_receiver_words l.i_data l.tsn l.start) _ (new_stands l.i_data l.tsn l.start l.creates) l.typed).stands })

pub led_not : (c : Call) (s : State) → ReceiverLed s → Typed (length s.store) c → sixteen (runs.step c s).shows.answer ≡ false
led_not c s l t = let m = led_stands s l in call_not c s m.meaning m.stands t

pub creation_not : (i_data : Bool) (tsn : ℕ) (s : State) → eqb (runs.creation i_data tsn s).answer 16 ≡ false
unfolding creating.create
creation_not i_data tsn s = go (ltb (length s.store) 1) (ltb 2000000 (length s.store))
  where
    go : (a b : Bool) → eqb (pick a (creating.created 2 s.words) (pick b (creating.created 2 s.words) (creating.created 0 (creating.new_header (creating.new_tables s.words) i_data (length s.store) tsn)))).answer 16 ≡ false
    go true b = refl
    go false true = refl
    go false false = refl
