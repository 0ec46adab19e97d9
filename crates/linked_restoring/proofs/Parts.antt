-- Restoring an image that keeps the rules, on any words: all parts, and the queue they leave, whatever the tables held before; that of a queue that
-- knows no stream. Assumes nothing.
use mathlib.Core.Path.{◌≡◌, refl, sym, ap, ◌∙◌, subst}
use mathlib.Core.List.{List, []}
use Prim.Native.Nat.{ℕ, zero, suc, ◌*◌, ◌≤◌, ◌<◌}
use native.Mathlib.Omega.{arith}
use lib.Dec.{T}
use lib.Pow.{are_bytes}
use lib.ListN.{length}
use Rattle.queue_words.specs.Header.{options_at, totals_at}
use Rattle.queue_words.specs.declared.header.Totals.{Totals}
use Rattle.queue_model.specs.Types.{Stream, Scheduler, Queue}
use Rattle.queue_model.specs.Types as plain
use Rattle.queue_model.specs.Scheduler.{new_scheduler}
use Rattle.queue_model.specs.Streams.{has_items, reschedule_each, amounts}
use Rattle.queue_model.specs.Image.{StreamRecord, Handover}
use Rattle.queue_model.specs.Restore.{restored_stream, restore_streams, restore_messages, remember_half_sent}
use Rattle.queue_model.specs.Restore as restore
use Rattle.stream_scheduler.specs.Link.{model_scheduler}
use Rattle.queue_streams.specs.Known.{with_known}
use Rattle.queue_state.specs.Model.{options_of, stream_in, streams_in, model, tab}
use Rattle.queue_model.specs.Well.{Well}
use Rattle.queue_state.specs.Good.{Shape}
use Rattle.queue_state.proofs.Rooms.{Listing, AllKnown}
use Rattle.queue_state.proofs.Singles.{model_is, model_options, model_interleaving, model_streams}
use Rattle.handover_records.specs.Positions.{stream_record_at, streams_from, messages_from}
use Rattle.restoring.specs.Streams.{empty_totals, emptied, streams_restored}
use Rattle.restoring.specs.Messages.{Restored, messages_restored, waits_all}
use Rattle.linked_restoring.proofs.Emptied.{empty_options, empty_totals_lem, empty_shape, empty_scheduler}
use Rattle.linked_restoring.proofs.Behind.{IdsRise, Behind, behind, behind_model}
use Rattle.linked_restoring.proofs.AllRecords.{Within, Limits, restored_to, AllRecords, all_records}
use Rattle.handover.specs.Restore.{recalled_by}
use Rattle.linked_restoring.proofs.Waits.{AllWait, all_wait}
use Rattle.linked_restoring.proofs.Recalls.{Recalled, all_recalled}
use Rattle.linked_restoring.specs.Settled.{unused}
use Rattle.linked_restoring.proofs.Unused.{unused_scheduler}

-- What an image is known to hold: ns stream records from its start, nm message records from sz on, and the next message id.
pub record Holds (bs : List ℕ) (ns sz nm next : ℕ) (h : Handover) : Type 0 where
  pub next_is : h.next_message_id ≡ next
  pub next_fits : next < 4294967296
  pub streams_are : h.streams ≡ streams_from bs 0 ns
  pub messages_are : h.messages ≡ messages_from bs sz nm
  pub streams_few : ns ≤ 256
  pub streams_inside : ns * 14 ≤ length bs
  pub ids_rise : IdsRise bs ns
  pub within : (k : ℕ) → k < nm → Within bs sz k

-- The words and the store that all parts leave.
abbrev pub parts_of : List ℕ → List ℕ → ℕ → List ℕ → ℕ → ℕ → ℕ → ℕ → Restored
parts_of ws st time bs ns sz nm next = messages_restored (streams_restored (emptied ws next) bs ns) st sz bs time nm

-- Every stream with messages waits; and one is remembered.
abbrev waiting_in : List ℕ → List ℕ
waiting_in ws = waits_all (totals_at ws).interleaving ws (totals_at ws).known

abbrev pub waiting_of : List ℕ → List ℕ
waiting_of ws = recalled_by (totals_at ws).interleaving (waiting_in ws) (totals_at ws).known

no_amount : (o : plain.Options) (f : ℕ → StreamRecord) (n : ℕ) → amounts (tab (λ k. restored_stream o (f k)) n) ≡ 0
unfolding tab restored_stream
no_amount o f zero = refl
no_amount o f (suc n) = omega (arith, no_amount o (λ k. f (suc k)) n)

new_active : (limit : ℕ) → (new_scheduler limit).active ≡ []
unfolding new_scheduler
new_active limit = refl

none_listed : (ws st : List ℕ) (limit : ℕ) → model_scheduler ws ≡ new_scheduler limit → AllKnown ws st
none_listed ws st limit e = subst (Listing (streams_in ws st)) (sym (ap (λ (s : Scheduler). s.active) e ∙ new_active limit)) tt

-- What the parts together leave.
pub record Parts (ws st : List ℕ) (time : ℕ) (h : Handover) (us ut : List ℕ) : Type 0 where
  pub shape : Shape us ut
  pub store : length ut ≡ length st
  pub options : options_at us ≡ options_at ws
  pub next : model us ut ≡ restore.restored time h (model ws st)

module _ (ws st : List ℕ) (long : length ws ≡ 20768) (small : length st ≤ 2000000) (bs : List ℕ) (bytes : T (are_bytes bs)) (time ns sz nm next : ℕ) (h : Handover)
    (holds : Holds bs ns sz nm next h) (limits : Limits (restore.restored time h (model ws st)).streams (length st)) where
  abbrev o : plain.Options
  o = options_of (options_at ws)

  abbrev es : List ℕ
  es = emptied ws next

  abbrev vs : List ℕ
  vs = streams_restored (emptied ws next) bs ns

  abbrev x : Restored
  x = parts_of ws st time bs ns sz nm next

  empty_known : (totals_at es).known ≡ 0
  empty_known = ap (λ (t : Totals). t.known) (empty_totals_lem ws st next long holds.next_fits)

  -- ---- the streams

  streams_in_lem : Behind es st bs ns vs
  streams_in_lem = behind es st (empty_shape ws st next long holds.next_fits) empty_known bs bytes ns holds.streams_few holds.streams_inside holds.ids_rise

  options_vs : options_at vs ≡ options_at ws
  options_vs = streams_in_lem.options ∙ empty_options ws st next long holds.next_fits

  totals_vs : totals_at vs ≡ with_known (empty_totals (totals_at ws) next) ns
  totals_vs = streams_in_lem.totals ∙ ap (λ (t : Totals). with_known t ns) (empty_totals_lem ws st next long holds.next_fits)

  streams_vs : streams_in vs st ≡ restore_streams o h.streams
  streams_vs =
      behind_model es st (empty_shape ws st next long holds.next_fits) empty_known bs bytes ns vs streams_in_lem
      ∙ rw (empty_options ws st next long holds.next_fits, holds.streams_are)

  total_vs : (totals_at vs).total ≡ 0
  total_vs = ap (λ (t : Totals). t.total) totals_vs

  -- ---- the messages

  restored_is : restored_to (options_of (options_at vs)) time bs sz (streams_in vs st) nm ≡ (restore.restored time h (model ws st)).streams
  unfolding restored_to restore.restored
  restored_is = rw (options_vs, streams_vs, holds.messages_are, model_options ws st)

  messages_in : AllRecords vs st bs sz time nm x
  messages_in =
      all_records vs st bs bytes sz time small streams_in_lem.shape
      (total_vs ∙ sym (ap amounts streams_in_lem.streams ∙ no_amount (options_of (options_at es)) (λ k. stream_record_at bs (k * 14)) ns))
      (omega (arith, total_vs)) nm holds.within (subst (λ (ss : List Stream). Limits ss (length st)) (sym restored_is) limits)

  streams_x : streams_in x.words x.store ≡ (restore.restored time h (model ws st)).streams
  streams_x = messages_in.streams ∙ restored_is

  options_x : options_at x.words ≡ options_at ws
  options_x = messages_in.options ∙ options_vs

  pub parts_few : (totals_at x.words).known ≤ 256
  parts_few = messages_in.shape.known_fits

  -- ---- the scheduler

  scheduler_x : model_scheduler x.words ≡ new_scheduler (options_at ws).payload_limit
  scheduler_x = messages_in.scheduler ∙ streams_in_lem.scheduler ∙ empty_scheduler ws st next long holds.next_fits

  waits_in : AllWait (totals_at x.words).interleaving x.words x.store (waiting_in x.words)
  waits_in = all_wait (totals_at x.words).interleaving x.words x.store messages_in.shape (none_listed x.words x.store (options_at ws).payload_limit scheduler_x)

  recalls_in : Recalled (totals_at x.words).interleaving (waiting_in x.words) x.store (waiting_of x.words)
  recalls_in =
      subst (λ n. Recalled (totals_at x.words).interleaving (waiting_in x.words) x.store (recalled_by (totals_at x.words).interleaving (waiting_in x.words) n)) (ap (λ (t : Totals). t.known) waits_in.totals)
      (all_recalled (totals_at x.words).interleaving (waiting_in x.words) x.store waits_in.shape)

  -- ---- the queue

  abbrev us : List ℕ
  us = waiting_of (parts_of ws st time bs ns sz nm next).words

  interleaving_x : (totals_at x.words).interleaving ≡ (model ws st).interleaving
  interleaving_x = messages_in.interleaving ∙ ap (λ (t : Totals). t.interleaving) totals_vs ∙ sym (model_interleaving ws st)

  next_x : (totals_at x.words).next_message_id.0 ≡ h.next_message_id
  next_x = ap (λ i. i.0) messages_in.next_id ∙ ap (λ (t : Totals). t.next_message_id.0) totals_vs ∙ sym holds.next_is

  -- with a scheduler that is new, the rest of the queue before is not looked at
  model_with : (q : Queue) → q.options ≡ (model ws st).options → q.interleaving ≡ (model ws st).interleaving → q.scheduler ≡ new_scheduler (options_at ws).payload_limit → model us x.store ≡ restore.restored time h q
  unfolding restore.restored
  model_with q eo ei es =
      let ss : List Stream = restore_messages q.options time h.messages (restore_streams q.options h.streams) in
      let t : totals_at us ≡ totals_at x.words = recalls_in.same_totals ∙ waits_in.totals in
      let sx : streams_in x.words x.store ≡ ss = streams_x ∙ ap (λ (p : plain.Options). restore_messages p time h.messages (restore_streams p h.streams)) (sym eo) in
      let ix : (totals_at x.words).interleaving ≡ q.interleaving = interleaving_x ∙ sym ei in
      model_is us x.store q.options q.interleaving (amounts ss) h.next_message_id ss (remember_half_sent q.interleaving ss (reschedule_each q.interleaving has_items ss q.scheduler))
      (ap options_of (recalls_in.same_options ∙ waits_in.options ∙ options_x) ∙ sym (model_options ws st) ∙ sym eo)
      (ap (λ (t : Totals). t.interleaving) t ∙ ix)
      (ap (λ (t : Totals). t.total) t ∙ messages_in.counted ∙ ap amounts sx)
      (ap (λ (t : Totals). t.next_message_id.0) t ∙ next_x)
      (recalls_in.same_streams ∙ waits_in.streams ∙ sx)
      (recalls_in.remembers ∙ rw (waits_in.streams, waits_in.scheduler, ix, sx, scheduler_x, es))

  -- Nothing is left undone: the words hold together and stand for what the image restores into an unused queue.
  pub parts_shape : Shape us x.store
  parts_shape = recalls_in.shape

  pub parts_settled : model us x.store ≡ restore.restored time h (unused (model ws st))
  parts_settled = model_with (unused (model ws st)) refl refl (ap (λ (p : plain.Options). new_scheduler p.payload_limit) (model_options ws st))

  -- on the words of a queue that knows no stream
  module _ (well : Well (model ws st)) (none_known : (totals_at ws).known ≡ 0) where
    no_streams : (model ws st).streams ≡ []
    unfolding streams_in tab
    no_streams = model_streams ws st ∙ ap (tab (stream_in ws st)) none_known

    scheduler_ws : (model ws st).scheduler ≡ new_scheduler (options_at ws).payload_limit
    scheduler_ws = unused_scheduler (model ws st) well no_streams ∙ ap (λ (p : plain.Options). new_scheduler p.payload_limit) (model_options ws st)

    pub all_parts : Parts ws st time h us x.store
    all_parts = record { shape = recalls_in.shape; store = messages_in.store; options = recalls_in.same_options ∙ waits_in.options ∙ options_x; next = model_with (model ws st) refl refl scheduler_ws }
