-- No call on a queue shows refusal 16. Assumes nothing.
use mathlib.Core.Path.{◌≡◌, refl, ap, ◌∙◌}
use mathlib.Core.Bool.{false}
use mathlib.Core.List.{List, [], ◌∷◌}
use Prim.Native.Nat.{ℕ}
use Rattle.queue_model.specs.Types as plain
use Rattle.queue_model.specs.Types.{Outcome}
use Rattle.queue_model.proofs.Invariant.Fine as model
use Rattle.queue_state.specs.Promise as promise
use Rattle.linked_streams.specs.Questions.{flag_of}
use Rattle.linked_restarts.specs.Ids.{ready_of}
use Rattle.linked_sending.specs.Meaning.{produced_of}
use Rattle.linked_packets.specs.Meaning.{filled_of}
use Rattle.queue_runs.specs.Calls as calls
use Rattle.queue_runs.specs.Calls.{Call, Shown, called, sent, filled, readied, number, flag}
use Rattle.queue_runs.specs.Run.{State, step, run}
use Rattle.queue_runs.specs.Meaning.{GoodState, shown_of, AllTyped}
use Rattle.queue_runs.specs.Creation.{Arguments, new_state, Creates, sixteen, NoSixteen}
use Rattle.queue_runs.proofs.Steps.{step_link, meant, fine}
use Rattle.queue_runs.proofs.News.{new_link}

-- ------------------------------------------------------------------ answers

called_not : (a : plain.Answer) (k : ℕ) → model.sixteen a ≡ false → sixteen (called (promise.call_of a k)) ≡ false
called_not (plain.refused n) k e = e
called_not plain.done k e = refl
called_not (plain.number m) k e = refl
called_not (plain.flag b) k e = refl
called_not (plain.ids l) k e = refl
called_not (plain.fragment f) k e = refl
called_not plain.nothing_waits k e = refl
called_not (plain.filled bs n) k e = refl

sent_not : (a : plain.Answer) (k : ℕ) → model.sixteen a ≡ false → sixteen (sent (produced_of a k)) ≡ false
sent_not (plain.refused n) k e = e
sent_not plain.done k e = refl
sent_not (plain.number m) k e = refl
sent_not (plain.flag b) k e = refl
sent_not (plain.ids l) k e = refl
sent_not (plain.fragment f) k e = refl
sent_not plain.nothing_waits k e = refl
sent_not (plain.filled bs n) k e = refl

filled_not : (a : plain.Answer) (k : ℕ) → model.sixteen a ≡ false → sixteen (filled (filled_of a k)) ≡ false
filled_not (plain.refused n) k e = e
filled_not plain.done k e = refl
filled_not (plain.number m) k e = refl
filled_not (plain.flag b) k e = refl
filled_not (plain.ids l) k e = refl
filled_not (plain.fragment f) k e = refl
filled_not plain.nothing_waits k e = refl
filled_not (plain.filled bs n) k e = refl

readied_not : (a : plain.Answer) → model.sixteen a ≡ false → sixteen (readied (ready_of a)) ≡ false
readied_not (plain.refused n) e = e
readied_not plain.done e = refl
readied_not (plain.number m) e = refl
readied_not (plain.flag b) e = refl
readied_not (plain.ids l) e = refl
readied_not (plain.fragment f) e = refl
readied_not plain.nothing_waits e = refl
readied_not (plain.filled bs n) e = refl

number_not : (a : plain.Answer) → model.sixteen a ≡ false → sixteen (number (promise.number_of a)) ≡ false
number_not (plain.refused n) e = e
number_not plain.done e = refl
number_not (plain.number m) e = refl
number_not (plain.flag b) e = refl
number_not (plain.ids l) e = refl
number_not (plain.fragment f) e = refl
number_not plain.nothing_waits e = refl
number_not (plain.filled bs n) e = refl

flag_not : (a : plain.Answer) → model.sixteen a ≡ false → sixteen (flag (flag_of a)) ≡ false
flag_not (plain.refused n) e = e
flag_not plain.done e = refl
flag_not (plain.number m) e = refl
flag_not (plain.flag b) e = refl
flag_not (plain.ids l) e = refl
flag_not (plain.fragment f) e = refl
flag_not plain.nothing_waits e = refl
flag_not (plain.filled bs n) e = refl

-- Where the model's answer is not 16, the call does not show it.
shown_not : (c : Call) (o : Outcome) → model.sixteen o.answer ≡ false → sixteen (shown_of c o).answer ≡ false
shown_not (calls.add time m payload) o e = called_not o.answer _ e
shown_not (calls.produce es bs time size) o e = sent_not o.answer _ e
shown_not (calls.fill es bs time p) o e = filled_not o.answer _ e
shown_not (calls.discard es id k) o e = called_not o.answer _ e
shown_not (calls.close es id) o e = called_not o.answer _ e
shown_not calls.ready_ids o e = readied_not o.answer e
shown_not calls.commit o e = called_not o.answer _ e
shown_not calls.rollback o e = called_not o.answer _ e
shown_not calls.reset o e = called_not o.answer _ e
shown_not (calls.set_threshold es id t) o e = called_not o.answer _ e
shown_not (calls.set_priority id p) o e = called_not o.answer _ e
shown_not (calls.set_interleaving b) o e = called_not o.answer _ e
shown_not (calls.restore time image) o e = called_not o.answer _ e
shown_not (calls.ask_priority id) o e = number_not o.answer e
shown_not (calls.ask_amount id) o e = number_not o.answer e
shown_not (calls.ask_threshold id) o e = number_not o.answer e
shown_not calls.ask_total o e = refl
shown_not calls.ask_empty o e = refl
shown_not calls.ask_has_data o e = flag_not o.answer e
shown_not calls.ask_streams_ready o e = flag_not o.answer e
shown_not calls.ask_ready_count o e = number_not o.answer e
shown_not calls.ask_readiness o e = refl
shown_not (calls.ask_room r) o e = refl

-- ------------------------------------------------------------------ lists of calls

-- On good words.
pub good_no_sixteen : (cs : List Call) (s : State) → GoodState s → AllTyped cs → NoSixteen (run cs s)
unfolding run
good_no_sixteen [] s g t = tt
good_no_sixteen (c ∷ cs) s g t =
    let h = step_link c s g t.0 in
    let e : sixteen (step c s).shows.answer ≡ false = ap (λ (x : Shown). sixteen x.answer) h.shows_are ∙ shown_not c (meant c s).outcome (fine c s g t.0).not_sixteen in
    (e, good_no_sixteen cs (step c s).next h.good t.1)

-- From an accepted creation on, no call ever shows it.
pub no_sixteen : (a : Arguments) (s : State) (cs : List Call) → Creates a s → AllTyped cs → NoSixteen (run cs (new_state a s))
no_sixteen a s cs h t = good_no_sixteen cs (new_state a s) (new_link a s h).good t
