-- What a send queue's calls queue and send is what the model's do. Assumes nothing.
use mathlib.Core.Path.{◌≡◌, refl, sym, ap, ap₂, ◌∙◌, subst}
use mathlib.Core.List.{List, [], ◌∷◌, ◌++◌, map}
use Prim.Native.Nat.{ℕ, ◌<◌, ◌^◌}
use native.Mathlib.Omega.{arith}
use lib.ListN.{length, drop}
use lib.Seq.{take-append_seam}
use Rattle.queue_model.specs.Types as plain
use Rattle.queue_model.specs.Types.{Queue, Fragment, Outcome}
use Rattle.queue_model.specs.Answers.{fragment_in, fragments_in}
use Rattle.queue_model.specs.Run as run
use Rattle.queue_model.specs.Demands as demands
use Rattle.queue_model.proofs.Invariant.Well.{Well}
use Rattle.queue_model.proofs.Invariant.Sixteen.{fine_step}
use Rattle.queue_streams.specs.Events.{places_in}
use Rattle.queue_messages.specs.declared.message.Message.{Message}
use Rattle.linked_adding.specs.Message.{message_of_words}
use Rattle.linked_sending.specs.Meaning.{data_of, produced_of, buffer_of}
use Rattle.receiver_model.specs.Sender.{shown, if_done, taken_in, sent_by, queued_by}
use Rattle.queue_runs.specs.Calls.{Call, add, produce, fill, discard, close, ready_ids, commit, rollback, reset, set_threshold, set_priority, set_interleaving, restore, ask_priority, ask_amount, ask_threshold, ask_total, ask_empty, ask_has_data, ask_streams_ready, ask_ready_count, ask_readiness, ask_room, call_of, sent}
use Rattle.queue_runs.specs.Meaning.{AllTyped, calls_of, shown_of, all_shown_of}
use Rattle.queue_runs.proofs.Steps.{typed_call}
use Rattle.queue_runs.proofs.Forms.{Quiet, quiet_refused, quiet_done, Form, form_of}
use Rattle.queue_runs.proofs.Fragments.{data_shown}
use Rattle.queue_packets.proofs.Fit.{MaybeFits, AllFit, one_fits}
use Rattle.receiver_runs.specs.Sender.{Piece, piece_in, pieces_in, message_in, messages_in}
use Rattle.receiver_runs.specs.Promise.{piece_of}

-- ------------------------------------------------------------------ one call

-- A call shows no fragment, and no more does the model's; or it is a next fragment.
pub data Shows (c : Call) (o : Outcome) : Type 0 where
  silent : piece_in (shown_of c o).answer (shown_of c o).buffer ≡ [] → shown o.answer ≡ [] → Shows c o
  produces : (es bs : List ℕ) (time size : ℕ) → c ≡ produce es bs time size → Shows c o

shown_is : (a : plain.Answer) → shown a ≡ fragments_in a
unfolding shown
shown_is (plain.refused n) = refl
shown_is plain.done = refl
shown_is (plain.number n) = refl
shown_is (plain.flag b) = refl
shown_is (plain.ids l) = refl
shown_is (plain.fragment f) = refl
shown_is plain.nothing_waits = refl
shown_is (plain.filled bs n) = refl

none_of : (fs : List Fragment) → [] ≡ map data_of fs → fs ≡ []
none_of [] e = refl
none_of (f ∷ fs) e = let z : ◌≡◌ {A = ℕ} 0 1 = cc in absurd (omega arith)

quietly : (c : Call) (o : Outcome) → piece_in (shown_of c o).answer (shown_of c o).buffer ≡ [] → [] ≡ map data_of (fragments_in o.answer) → Shows c o
quietly c o p e = silent p (shown_is o.answer ∙ none_of (fragments_in o.answer) e)

shows : (len : ℕ) (c : Call) (o : Outcome) → Form (call_of len c) o → Shows c o
shows len (add time m payload) o f = quietly (add time m payload) o refl (data_shown len (add time m payload) o f)
shows len (produce es bs time size) o f = produces es bs time size refl
shows len (fill es bs time p) o f = quietly (fill es bs time p) o refl (data_shown len (fill es bs time p) o f)
shows len (discard es id k) o f = quietly (discard es id k) o refl (data_shown len (discard es id k) o f)
shows len (close es id) o f = quietly (close es id) o refl (data_shown len (close es id) o f)
shows len ready_ids o f = quietly ready_ids o refl (data_shown len ready_ids o f)
shows len commit o f = quietly commit o refl (data_shown len commit o f)
shows len rollback o f = quietly rollback o refl (data_shown len rollback o f)
shows len reset o f = quietly reset o refl (data_shown len reset o f)
shows len (set_threshold es id t) o f = quietly (set_threshold es id t) o refl (data_shown len (set_threshold es id t) o f)
shows len (set_priority id p) o f = quietly (set_priority id p) o refl (data_shown len (set_priority id p) o f)
shows len (set_interleaving b) o f = quietly (set_interleaving b) o refl (data_shown len (set_interleaving b) o f)
shows len (restore time image) o f = quietly (restore time image) o refl (data_shown len (restore time image) o f)
shows len (ask_priority id) o f = quietly (ask_priority id) o refl (data_shown len (ask_priority id) o f)
shows len (ask_amount id) o f = quietly (ask_amount id) o refl (data_shown len (ask_amount id) o f)
shows len (ask_threshold id) o f = quietly (ask_threshold id) o refl (data_shown len (ask_threshold id) o f)
shows len ask_total o f = quietly ask_total o refl (data_shown len ask_total o f)
shows len ask_empty o f = quietly ask_empty o refl (data_shown len ask_empty o f)
shows len ask_has_data o f = quietly ask_has_data o refl (data_shown len ask_has_data o f)
shows len ask_streams_ready o f = quietly ask_streams_ready o refl (data_shown len ask_streams_ready o f)
shows len ask_ready_count o f = quietly ask_ready_count o refl (data_shown len ask_ready_count o f)
shows len ask_readiness o f = quietly ask_readiness o refl (data_shown len ask_readiness o f)
shows len (ask_room r) o f = quietly (ask_room r) o refl (data_shown len (ask_room r) o f)

piece_sent : (a : plain.Answer) (n : ℕ) (bs : List ℕ) → piece_in (sent (produced_of a n)) (buffer_of a bs) ≡ map piece_of (shown a)
unfolding shown
piece_sent (plain.refused r) n bs = refl
piece_sent plain.done n bs = refl
piece_sent (plain.number m) n bs = refl
piece_sent (plain.flag b) n bs = refl
piece_sent (plain.ids l) n bs = refl
piece_sent (plain.fragment f) n bs = ap (λ (p : List ℕ). with_payload p ∷ []) (take-append_seam f.bytes (drop (length f.bytes) bs))
  where
    with_payload : List ℕ → Piece
    with_payload p = record { fragment = data_of f; payload = p }
piece_sent plain.nothing_waits n bs = refl
piece_sent (plain.filled cs m) n bs = refl

piece_shown : (c : Call) (o : Outcome) → Shows c o → piece_in (shown_of c o).answer (shown_of c o).buffer ≡ map piece_of (shown o.answer)
piece_shown c o (silent p e) = p ∙ ap (map piece_of) (sym e)
piece_shown c o (produces es bs time size e) =
    subst (λ (d : Call). piece_in (shown_of d o).answer (shown_of d o).buffer ≡ map piece_of (shown o.answer)) (sym e) (piece_sent o.answer (length o.events) bs)

-- The message that a call queues.
added : (time : ℕ) (m : Message) (payload : List ℕ) (o : Outcome) → Quiet o → message_in (add time m payload) (shown_of (add time m payload) o).answer ≡ if_done o.answer (message_of_words m payload)
unfolding if_done
added time m payload o (quiet_refused n) = refl
added time m payload o quiet_done = refl

message_shown : (len : ℕ) (c : Call) (o : Outcome) → Form (call_of len c) o → message_in c (shown_of c o).answer ≡ taken_in (call_of len c) o.answer
unfolding taken_in if_done
message_shown len (add time m payload) o f = added time m payload o f
message_shown len (produce es bs time size) o f = refl
message_shown len (fill es bs time p) o f = refl
message_shown len (discard es id k) o f = refl
message_shown len (close es id) o f = refl
message_shown len ready_ids o f = refl
message_shown len commit o f = refl
message_shown len rollback o f = refl
message_shown len reset o f = refl
message_shown len (set_threshold es id t) o f = refl
message_shown len (set_priority id p) o f = refl
message_shown len (set_interleaving b) o f = refl
message_shown len (restore time image) o f = refl
message_shown len (ask_priority id) o f = refl
message_shown len (ask_amount id) o f = refl
message_shown len (ask_threshold id) o f = refl
message_shown len ask_total o f = refl
message_shown len ask_empty o f = refl
message_shown len ask_has_data o f = refl
message_shown len ask_streams_ready o f = refl
message_shown len ask_ready_count o f = refl
message_shown len ask_readiness o f = refl
message_shown len (ask_room r) o f = refl

-- ------------------------------------------------------------------ lists of calls

map_append : (fs gs : List Fragment) → map piece_of (fs ++ gs) ≡ map piece_of fs ++ map piece_of gs
map_append [] gs = refl
map_append (f ∷ fs) gs = ap (λ (l : List Piece). piece_of f ∷ l) (map_append fs gs)

pub pieces_are : (len : ℕ) (cs : List Call) (q : Queue) → pieces_in (all_shown_of cs (run.run (calls_of len cs) q)) ≡ map piece_of (sent_by (calls_of len cs) q)
unfolding pieces_in run.run sent_by
pieces_are len [] q = refl
pieces_are len (c ∷ cs) q =
    let s = run.step (call_of len c) q in
    ap₂ ◌++◌ (piece_shown c s.outcome (shows len c s.outcome (form_of (call_of len c) q))) (pieces_are len cs s.next)
    ∙ sym (map_append (shown s.outcome.answer) (sent_by (calls_of len cs) s.next))

pub messages_are : (len : ℕ) (cs : List Call) (q : Queue) → messages_in cs (all_shown_of cs (run.run (calls_of len cs) q)) ≡ queued_by (calls_of len cs) q
unfolding messages_in run.run queued_by
messages_are len [] q = refl
messages_are len (c ∷ cs) q =
    let s = run.step (call_of len c) q in
    ap₂ ◌++◌ (message_shown len c s.outcome (form_of (call_of len c) q)) (messages_are len cs s.next)

-- The model's calls have their widths.
pub typed_calls : (len : ℕ) (cs : List Call) → len < 2 ^ 64 → AllTyped cs → demands.AllTyped (calls_of len cs)
typed_calls len [] h t = tt
typed_calls len (c ∷ cs) h t = (typed_call len c h t.0, typed_calls len cs h t.1)

-- ------------------------------------------------------------------ their numbers have their widths

fit_append : (fs gs : List Fragment) → AllFit fs → AllFit gs → AllFit (fs ++ gs)
fit_append [] gs a b = b
fit_append (f ∷ fs) gs a b = (a.0, fit_append fs gs a.1 b)

maybe_fit : (a : plain.Answer) → MaybeFits (fragment_in a) → AllFit (shown a)
unfolding shown
maybe_fit (plain.refused n) h = tt
maybe_fit plain.done h = tt
maybe_fit (plain.number n) h = tt
maybe_fit (plain.flag b) h = tt
maybe_fit (plain.ids l) h = tt
maybe_fit (plain.fragment f) h = (h, tt)
maybe_fit plain.nothing_waits h = tt
maybe_fit (plain.filled bs n) h = tt

shown_fit : (len : ℕ) (c : Call) (q : Queue) → Well q → Shows c (run.step (call_of len c) q).outcome → AllFit (shown (run.step (call_of len c) q).outcome.answer)
unfolding run.step
shown_fit len c q w (silent p e) = subst AllFit (sym e) tt
shown_fit len c q w (produces es bs time size e) =
    subst (λ (d : Call). AllFit (shown (run.step (call_of len d) q).outcome.answer)) (sym e) (maybe_fit _ (one_fits len (places_in es) (length bs) time size q w))

pub sent_fit : (len : ℕ) (cs : List Call) (q : Queue) → Well q → demands.AllTyped (calls_of len cs) → AllFit (sent_by (calls_of len cs) q)
unfolding sent_by
sent_fit len [] q w t = tt
sent_fit len (c ∷ cs) q w t =
    let s = run.step (call_of len c) q in
    fit_append (shown s.outcome.answer) (sent_by (calls_of len cs) s.next) (shown_fit len c q w (shows len c s.outcome (form_of (call_of len c) q)))
    (sent_fit len cs s.next (fine_step (call_of len c) q t.0 w).next_well t.1)
