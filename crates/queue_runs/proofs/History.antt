-- The history that the code's calls show is the model's. Assumes nothing.
use mathlib.Core.Path.{◌≡◌, refl, ap, ap₂, ◌∙◌}
use mathlib.Core.Bool.{Bool}
use mathlib.Core.List.{List, [], ◌∷◌, ◌++◌, map}
use Prim.Native.Nat.{ℕ}
use lib.ListN.{length}
use Rattle.types.specs.declared.StreamId.{StreamId}
use Rattle.queue_model.specs.Types as plain
use Rattle.queue_model.specs.Types.{Queue, Outcome, Fragment}
use Rattle.queue_model.specs.Run as run
use Rattle.queue_model.specs.Answers.{is_refused, fragments_in}
use Rattle.queue_model.specs.History.{Piece, piece, Entry, entry, asks_at, passed_at, entries, made_of, history}
use Rattle.linked_streams.specs.Questions.{flag_of}
use Rattle.linked_restarts.specs.Ids.{ready_of}
use Rattle.linked_sending.specs.Meaning.{data_of}
use Rattle.queue_state.specs.Promise.{number_of}
use Rattle.queue_runs.specs.Calls as calls
use Rattle.queue_runs.specs.Calls.{Call, call_of}
use Rattle.queue_runs.specs.Meaning.{calls_of, all_shown_of, shown_of, quiet_of, loud_of, sent_of, count_of, truth_of}
use Rattle.queue_runs.specs.Refusals.{refusal}
use Rattle.queue_runs.specs.History.{piece_of, entry_of, history_of}
use Rattle.queue_runs.proofs.Account.{key_same, filled_refusal}
use Rattle.queue_runs.proofs.Fragments.{data_shown}
use Rattle.queue_runs.proofs.Forms.{Quiet, quiet_refused, quiet_done, Loud, loud_refused, loud_done, Sent, sent_refused, sent_nothing, sent_fragment, Ids, ids_told, Number, number_told, Flag, flag_told, Form, form_of}

-- ------------------------------------------------------------------ whether a call was refused

quiet_refusal : (o : Outcome) → Quiet o → refusal (quiet_of o).answer ≡ is_refused o.answer
quiet_refusal o (quiet_refused n) = refl
quiet_refusal o quiet_done = refl

loud_refusal : (es : List ℕ) (o : Outcome) → Loud o → refusal (loud_of es o).answer ≡ is_refused o.answer
loud_refusal es o (loud_refused n) = refl
loud_refusal es o (loud_done ds) = refl

sent_refusal : (es bs : List ℕ) (o : Outcome) → Sent o → refusal (sent_of es bs o).answer ≡ is_refused o.answer
sent_refusal es bs o (sent_refused n) = refl
sent_refusal es bs o (sent_nothing ds) = refl
sent_refusal es bs o (sent_fragment f ds) = refl

ids_refusal : (o : Outcome) → Ids o → refusal (calls.readied (ready_of o.answer)) ≡ is_refused o.answer
ids_refusal o (ids_told l) = refl

number_refusal : (o : Outcome) → Number o → refusal (calls.number (number_of o.answer)) ≡ is_refused o.answer
number_refusal o (number_told n) = refl

count_refusal : (o : Outcome) → Number o → refusal (calls.count (count_of o.answer)) ≡ is_refused o.answer
count_refusal o (number_told n) = refl

flag_refusal : (o : Outcome) → Flag o → refusal (calls.flag (flag_of o.answer)) ≡ is_refused o.answer
flag_refusal o (flag_told b) = refl

truth_refusal : (o : Outcome) → Flag o → refusal (calls.truth (truth_of o.answer)) ≡ is_refused o.answer
truth_refusal o (flag_told b) = refl

refusal_shown : (len : ℕ) (c : Call) (o : Outcome) → Form (call_of len c) o → refusal (shown_of c o).answer ≡ is_refused o.answer
refusal_shown len (calls.add time m payload) o f = quiet_refusal o f
refusal_shown len (calls.produce es bs time size) o f = sent_refusal es bs o f
refusal_shown len (calls.fill es bs time p) o f = filled_refusal o.answer (length o.events)
refusal_shown len (calls.discard es id k) o f = loud_refusal es o f
refusal_shown len (calls.close es id) o f = loud_refusal es o f
refusal_shown len calls.ready_ids o f = ids_refusal o f
refusal_shown len calls.commit o f = quiet_refusal o f
refusal_shown len calls.rollback o f = quiet_refusal o f
refusal_shown len calls.reset o f = quiet_refusal o f
refusal_shown len (calls.set_threshold es id t) o f = loud_refusal es o f
refusal_shown len (calls.set_priority id p) o f = quiet_refusal o f
refusal_shown len (calls.set_interleaving b) o f = quiet_refusal o f
refusal_shown len (calls.restore time image) o f = quiet_refusal o f
refusal_shown len (calls.ask_priority id) o f = number_refusal o f
refusal_shown len (calls.ask_amount id) o f = number_refusal o f
refusal_shown len (calls.ask_threshold id) o f = number_refusal o f
refusal_shown len calls.ask_total o f = count_refusal o f
refusal_shown len calls.ask_empty o f = truth_refusal o f
refusal_shown len calls.ask_has_data o f = flag_refusal o f
refusal_shown len calls.ask_streams_ready o f = flag_refusal o f
refusal_shown len calls.ask_ready_count o f = number_refusal o f
refusal_shown len calls.ask_readiness o f = count_refusal o f
refusal_shown len (calls.ask_room r) o f = count_refusal o f

-- ------------------------------------------------------------------ the fragment

pieces_same : (fs : List Fragment) → map piece_of (map data_of fs) ≡ map piece fs
pieces_same [] = refl
pieces_same (f ∷ fs) = ap₂ (λ (k : StreamId) (ps : List Piece). record { stream_id = k.0; message_id = f.message_id; last = f.last; size = length f.bytes } ∷ ps) (key_same f.unordered (record { 0 = f.stream_id })) (pieces_same fs)

-- ------------------------------------------------------------------ a call, and a list of calls

entry_same : (len : ℕ) (c : Call) (o : Outcome) (ss : List ℕ) → Form (call_of len c) o → entry_of len c (shown_of c o) ss ≡ entry (call_of len c) o.answer ss
entry_same len c o ss f =
    ap₂ (λ (b : Bool) (ps : List Piece). record { call = call_of len c; refused = b; pieces = ps; passed_over = ss }) (refusal_shown len c o f) (ap (map piece_of) (data_shown len c o f) ∙ pieces_same (fragments_in o.answer))

pub history_same : (len : ℕ) (cs : List Call) (q : Queue) → history_of len cs (all_shown_of cs (run.run (calls_of len cs) q)) q ≡ history (calls_of len cs) q
unfolding history_of history run.run
history_same len [] q = refl
history_same len (c ∷ cs) q =
    let x : plain.Step = run.step (call_of len c) q in
    ap₂ (λ (e : Entry) (es : List Entry). e ∷ (entries (made_of (call_of len c) q) q ++ es)) (entry_same len c x.outcome (passed_at (asks_at (call_of len c)) q) (form_of (call_of len c) q)) (history_same len cs x.next)
