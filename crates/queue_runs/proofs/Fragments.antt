-- The fragments that the code's calls show are those that the model's show. Assumes nothing.
use mathlib.Core.Path.{◌≡◌, refl, sym, ap, ◌∙◌}
use mathlib.Core.List.{List, [], ◌∷◌, ◌++◌, map}
use Prim.Native.Nat.{ℕ}
use lib.ListN.{length}
use Rattle.queue_model.specs.Types as plain
use Rattle.queue_model.specs.Types.{Fragment, Outcome}
use Rattle.queue_model.specs.Answers.{fragments_in}
use Rattle.queue_sending.specs.declared.data.DataToSend.{DataToSend}
use Rattle.linked_sending.specs.Meaning.{data_of, produced_of}
use Rattle.queue_runs.specs.Calls.{Call, add, produce, fill, discard, close, ready_ids, commit, rollback, reset, set_threshold, set_priority, set_interleaving, restore, ask_priority, ask_amount, ask_threshold, ask_total, ask_empty, ask_has_data, ask_streams_ready, ask_ready_count, ask_readiness, ask_room, call_of, Typed, Shown}
use Rattle.queue_runs.specs.Run.{State, step}
use Rattle.queue_runs.specs.Meaning.{queue_of, GoodState, shown_of}
use Rattle.queue_runs.specs.Fragments.{data_sent, data_in}
use Rattle.queue_runs.proofs.Steps.{step_link, meant}
use Rattle.queue_runs.proofs.Forms.{Quiet, quiet_refused, quiet_done, Loud, loud_refused, loud_done, Filled, filled_refused, filled_told, Ids, ids_told, Number, number_told, Flag, flag_told, Form, form_of}

quiet_none : (o : Outcome) → Quiet o → fragments_in o.answer ≡ []
quiet_none o (quiet_refused n) = refl
quiet_none o quiet_done = refl

loud_none : (o : Outcome) → Loud o → fragments_in o.answer ≡ []
loud_none o (loud_refused n) = refl
loud_none o (loud_done es) = refl

filled_none : (o : Outcome) → Filled o → fragments_in o.answer ≡ []
filled_none o (filled_refused n) = refl
filled_none o (filled_told bs n es) = refl

ids_none : (o : Outcome) → Ids o → fragments_in o.answer ≡ []
ids_none o (ids_told l) = refl

number_none : (o : Outcome) → Number o → fragments_in o.answer ≡ []
number_none o (number_told n) = refl

flag_none : (o : Outcome) → Flag o → fragments_in o.answer ≡ []
flag_none o (flag_told b) = refl

data_sent_lem : (x : plain.Answer) (n : ℕ) → data_sent (produced_of x n) ≡ map data_of (fragments_in x)
data_sent_lem (plain.refused r) n = refl
data_sent_lem plain.done n = refl
data_sent_lem (plain.number m) n = refl
data_sent_lem (plain.flag b) n = refl
data_sent_lem (plain.ids l) n = refl
data_sent_lem (plain.fragment f) n = refl
data_sent_lem plain.nothing_waits n = refl
data_sent_lem (plain.filled bs c) n = refl

none_shown : (fs : List Fragment) → fs ≡ [] → [] ≡ map data_of fs
none_shown fs e = ap (map data_of) (sym e)

-- A call's outcome shows the fragment that the model's has.
pub data_shown : (len : ℕ) (c : Call) (o : Outcome) → Form (call_of len c) o → data_in (shown_of c o).answer ≡ map data_of (fragments_in o.answer)
data_shown len (add time m payload) o f = none_shown (fragments_in o.answer) (quiet_none o f)
data_shown len (produce es bs time size) o f = data_sent_lem o.answer (length o.events)
data_shown len (fill es bs time p) o f = none_shown (fragments_in o.answer) (filled_none o f)
data_shown len (discard es id k) o f = none_shown (fragments_in o.answer) (loud_none o f)
data_shown len (close es id) o f = none_shown (fragments_in o.answer) (loud_none o f)
data_shown len ready_ids o f = none_shown (fragments_in o.answer) (ids_none o f)
data_shown len commit o f = none_shown (fragments_in o.answer) (quiet_none o f)
data_shown len rollback o f = none_shown (fragments_in o.answer) (quiet_none o f)
data_shown len reset o f = none_shown (fragments_in o.answer) (quiet_none o f)
data_shown len (set_threshold es id t) o f = none_shown (fragments_in o.answer) (loud_none o f)
data_shown len (set_priority id p) o f = none_shown (fragments_in o.answer) (quiet_none o f)
data_shown len (set_interleaving b) o f = none_shown (fragments_in o.answer) (quiet_none o f)
data_shown len (restore time image) o f = none_shown (fragments_in o.answer) (quiet_none o f)
data_shown len (ask_priority id) o f = none_shown (fragments_in o.answer) (number_none o f)
data_shown len (ask_amount id) o f = none_shown (fragments_in o.answer) (number_none o f)
data_shown len (ask_threshold id) o f = none_shown (fragments_in o.answer) (number_none o f)
data_shown len ask_total o f = none_shown (fragments_in o.answer) (number_none o f)
data_shown len ask_empty o f = none_shown (fragments_in o.answer) (flag_none o f)
data_shown len ask_has_data o f = none_shown (fragments_in o.answer) (flag_none o f)
data_shown len ask_streams_ready o f = none_shown (fragments_in o.answer) (flag_none o f)
data_shown len ask_ready_count o f = none_shown (fragments_in o.answer) (number_none o f)
data_shown len ask_readiness o f = none_shown (fragments_in o.answer) (number_none o f)
data_shown len (ask_room r) o f = none_shown (fragments_in o.answer) (number_none o f)

pub data_append : (fs gs : List Fragment) → map data_of (fs ++ gs) ≡ map data_of fs ++ map data_of gs
data_append [] gs = refl
data_append (f ∷ fs) gs = ap (λ (l : List DataToSend). data_of f ∷ l) (data_append fs gs)

-- What a call shows is what the model's call shows.
pub step_data : (c : Call) (s : State) → GoodState s → Typed c → data_in (step c s).shows.answer ≡ map data_of (fragments_in (meant c s).outcome.answer)
step_data c s g t = ap (λ (x : Shown). data_in x.answer) (step_link c s g t).shows_are ∙ data_shown (length s.store) c (meant c s).outcome (form_of (call_of (length s.store) c) (queue_of s))
