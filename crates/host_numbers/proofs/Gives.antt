-- What a call gives, from what the queue's function ensures on the words and what its answer is told by. Assumes nothing.
use Prim.Native.Nat.{ℕ}
use mathlib.Core.Path.{◌≡◌, refl}
use mathlib.Core.List.{List}
use Rattle.queue_streams.specs.Settings.{Called, CalledWith, called, called_with}
use Rattle.queue_streams.specs.Answers.{call_number}
use Rattle.queue_streams.specs.Call.{Call}
use Rattle.queue_messages.specs.Add.{Added, added}
use Rattle.queue_sending.specs.Data.{ProducedWith, produced_with, produced_number}
use Rattle.queue_sending.specs.Produced.{Produced}
use Rattle.saving.specs.Save.{SavedAs, saved_as, saved_number}
use Rattle.saving.specs.Saved.{Saved}
use Rattle.host_numbers.specs.Numbers.{call_out, produced_out, saved_out}
use Rattle.host_numbers.specs.Given.{Gives, GivesEvents, GivesStore, GivesFragment, GivesImage}

pub gives : (d : Called) (c : Call) (r : ℕ) (ws' : List ℕ) → called c ws' ≡ d → r ≡ call_number c → Gives d r ws'
gives d c r ws' e n = rw (← e) (record { number = n; queue = refl })

pub gives_events : (d : CalledWith) (c : Call) (out : List ℕ) (r : ℕ) (ws' es' out' : List ℕ) → called_with c ws' es' ≡ d → (r ≡ call_number c) × (out' ≡ call_out out c) → GivesEvents d out r ws' es' out'
gives_events d c out r ws' es' out' e t = rw (← e) (record { number = t.0; queue = refl; events = refl; places = t.1 })

pub gives_store : (d : Added) (c : Call) (r : ℕ) (ws' st' : List ℕ) → added c ws' st' ≡ d → r ≡ call_number c → GivesStore d r ws' st'
gives_store d c r ws' st' e n = rw (← e) (record { number = n; queue = refl; store = refl })

pub gives_fragment : (d : ProducedWith) (p : Produced) (out : List ℕ) (r : ℕ) (ws' es' bs' out' : List ℕ) → produced_with p ws' es' bs' ≡ d → (r ≡ produced_number p) × (out' ≡ produced_out out p) → GivesFragment d out r ws' es' bs' out'
gives_fragment d p out r ws' es' bs' out' e t = rw (← e) (record { number = t.0; queue = refl; events = refl; buffer = refl; places = t.1 })

pub gives_image : (d : SavedAs) (s : Saved) (out : List ℕ) (r : ℕ) (b' out' : List ℕ) → saved_as s b' ≡ d → (r ≡ saved_number s) × (out' ≡ saved_out out s) → GivesImage d out r b' out'
gives_image d s out r b' out' e t = rw (← e) (record { number = t.0; image = refl; places = t.1 })
