-- One call is the model's. Assumes nothing.
use mathlib.Core.Path.{◌≡◌, refl, sym, ap, ap₂, ◌∙◌}
use mathlib.Core.List.{List, []}
use Prim.Native.Nat.{ℕ, ◌^◌, ◌<◌}
use native.Mathlib.Omega.{arith}
use lib.ListN.{length}
use Rattle.queue_model.specs.Types as plain
use Rattle.queue_model.specs.Types.{Queue, Outcome}
use Rattle.queue_model.specs.Run as run
use Rattle.queue_model.specs.Demands as demands
use Rattle.queue_model.proofs.Invariant.Well.{room}
use Rattle.queue_model.proofs.Invariant.Fine.{Fine}
use Rattle.queue_model.proofs.Invariant.Sixteen.{fine_step}
use Rattle.queue_streams.specs.Settings.{Called, CalledWith}
use Rattle.queue_sending.specs.Data.{ProducedWith}
use Rattle.queue_sending.specs.Produce.{produce_next}
use Rattle.queue_messages.specs.Add as adding
use Rattle.queue_state.specs.Promise.{Does, Reports}
use Rattle.queue_state.proofs.Singles.{model_options}
use Rattle.linked_streams.proofs.Sets.{priority_link, threshold_link}
use Rattle.linked_streams.proofs.Asks.{priority_asked, amount_asked, threshold_asked, total_asked, empty_asked, data_asked, ready_asked, readiness_asked, room_asked}
use Rattle.linked_adding.proofs.Adds.{add_link}
use Rattle.linked_dropping.proofs.Discards.{discard_link}
use Rattle.linked_dropping.proofs.Closes.{close_link}
use Rattle.linked_restarts.proofs.Marks.{ready_link, count_link}
use Rattle.linked_restarts.proofs.Reopens.{commit_link, rollback_link}
use Rattle.linked_restarts.proofs.Switches.{switch_link}
use Rattle.linked_restarts.proofs.WholeQueue.{reset_link}
use Rattle.linked_sending.specs.Meaning.{Sends}
use Rattle.linked_sending.proofs.Produces.{produce_link}
use Rattle.packets.specs.declared.packet.Packet.{Packet}
use Rattle.packets.specs.Filling.{FilledWith, fill_packet}
use Rattle.linked_packets.specs.Meaning.{Fills}
use Rattle.linked_packets.proofs.Fills.{fill_link}
use Rattle.handover.specs.Restore as restoring
use Rattle.linked_restoring.proofs.Restores.{restore_link}
use Rattle.queue_runs.specs.Calls.{Call, add, produce, fill, discard, close, ready_ids, commit, rollback, reset, set_threshold, set_priority, set_interleaving, restore, ask_priority, ask_amount, ask_threshold, ask_total, ask_empty, ask_has_data, ask_streams_ready, ask_ready_count, ask_readiness, ask_room, call_of, Typed, shown, called, sent, filled, readied, number, flag, count, truth}
use Rattle.queue_runs.specs.Run.{State, Step, step, quiet, loud, sends, fills, stores}
use Rattle.queue_runs.specs.Meaning.{queue_of, GoodState, quiet_of, loud_of, shown_of}

-- ------------------------------------------------------------------ the model's call

-- A queue's store has its creation length.
pub store_same : (s : State) → GoodState s → length s.store ≡ (queue_of s).options.store_length
store_same s g = g.store_is ∙ ap (λ (o : plain.Options). o.store_length) (sym (model_options s.words s.store))

pub store_small : (s : State) → GoodState s → length s.store < 2 ^ 64
store_small s g = let r = room (queue_of s).options g.well.creation in let e = store_same s g in let h = r.store_high in omega arith

-- The model's call has its widths.
pub typed_call : (len : ℕ) (c : Call) → len < 2 ^ 64 → Typed c → demands.Typed (call_of len c)
typed_call len (add time m payload) h t = (h, (t.0, t.1.0))
typed_call len (produce es bs time size) h t = let l = t.0.0 in (h, (omega arith, (t.1.0.0, t.1.1)))
typed_call len (fill es bs time p) h t = let l = t.0.0 in (h, (omega arith, (t.1.0.0, t.1.1)))
typed_call len (discard es id k) h t = let l = t.0.0 in (omega arith, t.1)
typed_call len (close es id) h t = let l = t.0.0 in (omega arith, t.1)
typed_call len ready_ids h t = t
typed_call len commit h t = t
typed_call len rollback h t = t
typed_call len reset h t = t
typed_call len (set_threshold es id n) h t = let l = t.0.0 in (omega arith, t.1)
typed_call len (set_priority id p) h t = t
typed_call len (set_interleaving b) h t = t
typed_call len (restore time image) h t = (h, (t.0, t.1.1))
typed_call len (ask_priority id) h t = t
typed_call len (ask_amount id) h t = t
typed_call len (ask_threshold id) h t = t
typed_call len ask_total h t = t
typed_call len ask_empty h t = t
typed_call len ask_has_data h t = t
typed_call len ask_streams_ready h t = t
typed_call len ask_ready_count h t = t
typed_call len ask_readiness h t = t
typed_call len (ask_room r) h t = t

-- The model's step of a call on a state.
abbrev pub meant : Call → State → plain.Step
meant c s = run.step (call_of (length s.store) c) (queue_of s)

pub fine : (c : Call) (s : State) → GoodState s → Typed c → Fine (queue_of s) (meant c s)
fine c s g t = fine_step (call_of (length s.store) c) (queue_of s) (typed_call (length s.store) c (store_small s g) t) g.well

-- ------------------------------------------------------------------ one call

-- What a step leaves and shows is what the model's does.
pub record Told (c : Call) (s : State) (x : Step) : Type 0 where
  pub good : GoodState x.next
  pub next_is : queue_of x.next ≡ (meant c s).next
  pub shows_are : x.shows ≡ shown_of c (meant c s).outcome

-- A call is the model's, and the store keeps its length.
pub record Stepped (c : Call) (s : State) : Type 0 where
  pub good : GoodState (step c s).next
  pub next_is : queue_of (step c s).next ≡ (meant c s).next
  pub shows_are : (step c s).shows ≡ shown_of c (meant c s).outcome
  pub same_store : length (step c s).next.store ≡ length s.store

stepped_of : (c : Call) (s : State) → GoodState s → Typed c → Told c s (step c s) → Stepped c s
stepped_of c s g t h = record {
  good = h.good;
  next_is = h.next_is;
  shows_are = h.shows_are;
  same_store = store_same (step c s).next h.good ∙ ap (λ (q : Queue). q.options.store_length) h.next_is ∙ ap (λ (o : plain.Options). o.store_length) (fine c s g t).same_options ∙ sym (store_same s g);
}

-- The forms of calls.
quiet_told : (c : Call) (s : State) (r : Called) → ((o : Outcome) → quiet_of o ≡ shown_of c o) → Does (call_of (length s.store) c) s.words s.store r.answer r.next s.store → Told c s (quiet r s.store)
quiet_told c s r f d = record { good = d.good; next_is = d.next; shows_are = ap (λ a. shown (called a) [] []) d.answer ∙ f (meant c s).outcome }

stores_told : (c : Call) (s : State) (r : adding.Added) → ((o : Outcome) → quiet_of o ≡ shown_of c o) → Does (call_of (length s.store) c) s.words s.store r.answer r.words r.store → Told c s (stores r)
stores_told c s r f d = record { good = d.good; next_is = d.next; shows_are = ap (λ a. shown (called a) [] []) d.answer ∙ f (meant c s).outcome }

loud_told : (c : Call) (s : State) (es : List ℕ) (r : CalledWith) → ((o : Outcome) → loud_of es o ≡ shown_of c o) → Reports (call_of (length s.store) c) s.words s.store es r.answer r.next s.store r.events → Told c s (loud r s.store)
loud_told c s es r f d = record { good = d.does.good; next_is = d.does.next; shows_are = ap₂ (λ a e. shown (called a) e []) d.does.answer d.events ∙ f (meant c s).outcome }

sends_told : (s : State) (es bs : List ℕ) (time size : ℕ) (r : ProducedWith) → Sends (meant (produce es bs time size) s) s.store es bs r → Told (produce es bs time size) s (sends r s.store)
sends_told s es bs time size r d = record { good = d.good; next_is = d.next; shows_are = λ i. shown (sent (d.answer i)) (d.events i) (d.buffer i) }

fills_told : (s : State) (es bs : List ℕ) (time : ℕ) (p : Packet) (r : FilledWith) → Fills (meant (fill es bs time p) s) s.store es bs r → Told (fill es bs time p) s (fills r s.store)
fills_told s es bs time p r d = record { good = d.good; next_is = d.next; shows_are = λ i. shown (filled (d.answer i)) (d.events i) (d.packet i) }

-- Every call is the model's.
pub step_told : (c : Call) (s : State) → GoodState s → Typed c → Told c s (step c s)
unfolding step
step_told (add time m payload) s g t = stores_told (add time m payload) s (adding.add s.words s.store time m payload) (λ o. refl) (add_link s.words s.store g time m payload t.0 t.1.0)
step_told (produce es bs time size) s g t = sends_told s es bs time size (produce_next s.words s.store es bs time size) (produce_link s.words s.store es bs time size g)
step_told (fill es bs time p) s g t = fills_told s es bs time p (fill_packet s.words s.store es bs time p) (fill_link s.words s.store es bs time p g)
step_told (discard es id k) s g t = loud_told (discard es id k) s es _ (λ o. refl) (discard_link s.words s.store es id k g t.1.0 t.1.1 t.0.0)
step_told (close es id) s g t = loud_told (close es id) s es _ (λ o. refl) (close_link s.words s.store es id g t.1 t.0.0)
step_told ready_ids s g t = let d = ready_link s.words s.store g in record { good = d.good; next_is = d.next; shows_are = ap (λ a. shown (readied a) [] []) d.answer }
step_told commit s g t = quiet_told commit s _ (λ o. refl) (commit_link s.words s.store g)
step_told rollback s g t = quiet_told rollback s _ (λ o. refl) (rollback_link s.words s.store g)
step_told reset s g t = quiet_told reset s _ (λ o. refl) (reset_link s.words s.store g)
step_told (set_threshold es id n) s g t = loud_told (set_threshold es id n) s es _ (λ o. refl) (threshold_link s.words s.store es g id n t.1.0 t.1.1)
step_told (set_priority id p) s g t = quiet_told (set_priority id p) s _ (λ o. refl) (priority_link s.words s.store g id p t.0 t.1)
step_told (set_interleaving b) s g t = quiet_told (set_interleaving b) s _ (λ o. refl) (switch_link b s.words s.store g)
step_told (restore time image) s g t = stores_told (restore time image) s (restoring.restore s.words s.store time image) (λ o. refl) (restore_link s.words s.store g time image t.0 t.1.1)
step_told (ask_priority id) s g t = record { good = g; next_is = unfold run.step in refl; shows_are = ap (λ a. shown (number a) [] []) (priority_asked s.words s.store g id) }
step_told (ask_amount id) s g t = record { good = g; next_is = unfold run.step in refl; shows_are = ap (λ a. shown (number a) [] []) (amount_asked s.words s.store g id) }
step_told (ask_threshold id) s g t = record { good = g; next_is = unfold run.step in refl; shows_are = ap (λ a. shown (number a) [] []) (threshold_asked s.words s.store g id) }
step_told ask_total s g t = record { good = g; next_is = unfold run.step in refl; shows_are = unfold run.step in ap (λ a. shown (count a) [] []) (total_asked s.words s.store) }
step_told ask_empty s g t = record { good = g; next_is = unfold run.step in refl; shows_are = unfold run.step in ap (λ a. shown (truth a) [] []) (empty_asked s.words s.store) }
step_told ask_has_data s g t = record { good = g; next_is = unfold run.step in refl; shows_are = ap (λ a. shown (flag a) [] []) (data_asked s.words s.store g) }
step_told ask_streams_ready s g t = record { good = g; next_is = unfold run.step in refl; shows_are = ap (λ a. shown (flag a) [] []) (ready_asked s.words s.store g) }
step_told ask_ready_count s g t = record { good = g; next_is = unfold run.step in refl; shows_are = ap (λ a. shown (number a) [] []) (count_link s.words s.store g) }
step_told ask_readiness s g t = record { good = g; next_is = unfold run.step in refl; shows_are = unfold run.step in ap (λ a. shown (count a) [] []) (readiness_asked s.words s.store) }
step_told (ask_room r) s g t = record { good = g; next_is = unfold run.step in refl; shows_are = unfold run.step in ap (λ a. shown (count a) [] []) (room_asked r s.words s.store g) }

pub step_link : (c : Call) (s : State) → GoodState s → Typed c → Stepped c s
step_link c s g t = stepped_of c s g t (step_told c s g t)
