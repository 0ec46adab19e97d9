-- What a contract promises of the words is the step that lists of calls take: the theorems on `step` are about the code. Assumes nothing.
use mathlib.Core.Path.{◌≡◌, sym, ap}
use mathlib.Core.Bool.{Bool}
use mathlib.Core.List.{List, []}
use Prim.Native.Nat.{ℕ}
use Rattle.queue_model.specs.Questions.{Room}
use Rattle.queue_streams.specs.Settings.{Called, CalledWith}
use Rattle.queue_streams.specs.Call as answer
use Rattle.queue_streams.specs.Flag.{Flag}
use Rattle.queue_streams.specs.Number.{Number}
use Rattle.queue_messages.specs.Add.{Added}
use Rattle.queue_messages.specs.declared.message.Message.{Message}
use Rattle.queue_restarts.specs.Ready.{Readied}
use Rattle.queue_restarts.specs.ReadyStreams.{ReadyStreams}
use Rattle.queue_sending.specs.Data.{ProducedWith}
use Rattle.queue_sending.specs.Produced.{Produced}
use Rattle.linked_adding.specs.Add.{AddMeets}
use Rattle.linked_dropping.specs.Meets.{DiscardMeets, CloseMeets}
use Rattle.linked_restarts.specs.Promises.{CommitMeets, RollbackMeets, SwitchMeets, ResetMeets, ReadyMeets, CountMeets}
use Rattle.linked_restoring.specs.Restore.{RestoreMeets}
use Rattle.linked_sending.specs.Meaning.{ProduceMeets}
use Rattle.packets.specs.Filling.{FilledWith}
use Rattle.packets.specs.declared.packet.Packet.{Packet}
use Rattle.packets.specs.PacketFilled.{PacketFilled}
use Rattle.linked_packets.specs.Meaning.{FillMeets}
use Rattle.linked_streams.specs.Questions as asked
use Rattle.linked_streams.specs.Settings.{SetPriorityMeets, SetThresholdMeets}
use Rattle.queue_runs.specs.Calls.{add, produce, fill, discard, close, ready_ids, commit, rollback, reset, set_threshold, set_priority, set_interleaving, restore, ask_priority, ask_amount, ask_threshold, ask_total, ask_empty, ask_has_data, ask_streams_ready, ask_ready_count, ask_readiness, ask_room, shown, called, sent, filled, readied, number, flag, count, truth}
use Rattle.queue_runs.specs.Run.{state, stepped, step, stores, sends, fills, loud, quiet, readies}

module _ (ws st : List ℕ) where
  pub add_tied : (time : ℕ) (m : Message) (bs : List ℕ) (r : answer.Call) (ws' st' : List ℕ) → AddMeets ws st time m bs r ws' st'
      → step (add time m bs) (state ws st) ≡ stepped (shown (called r) [] []) (state ws' st')
  unfolding step
  add_tied time m bs r ws' st' h = ap (λ (x : Added). stores x) (sym h.words)

  pub produce_tied : (es bs : List ℕ) (time size : ℕ) (r : Produced) (ws' es' bs' : List ℕ) → ProduceMeets ws st es bs time size r ws' es' bs'
      → step (produce es bs time size) (state ws st) ≡ stepped (shown (sent r) es' bs') (state ws' st)
  unfolding step
  produce_tied es bs time size r ws' es' bs' h = ap (λ (x : ProducedWith). sends x st) (sym h.words)

  pub fill_tied : (es bs : List ℕ) (time : ℕ) (p : Packet) (r : PacketFilled) (ws' es' bs' : List ℕ) → FillMeets ws st es bs time p r ws' es' bs'
      → step (fill es bs time p) (state ws st) ≡ stepped (shown (filled r) es' bs') (state ws' st)
  unfolding step
  fill_tied es bs time p r ws' es' bs' h = ap (λ (x : FilledWith). fills x st) (sym h.words)

  pub discard_tied : (es : List ℕ) (id k : ℕ) (r : answer.Call) (ws' es' : List ℕ) → DiscardMeets ws es ws' es' id k r
      → step (discard es id k) (state ws st) ≡ stepped (shown (called r) es' []) (state ws' st)
  unfolding step
  discard_tied es id k r ws' es' h = ap (λ (x : CalledWith). loud x st) (sym h.words)

  pub close_tied : (es : List ℕ) (id : ℕ) (r : answer.Call) (ws' es' : List ℕ) → CloseMeets ws es ws' es' id r
      → step (close es id) (state ws st) ≡ stepped (shown (called r) es' []) (state ws' st)
  unfolding step
  close_tied es id r ws' es' h = ap (λ (x : CalledWith). loud x st) (sym h.words)

  pub ready_tied : (r : ReadyStreams) (ws' : List ℕ) → ReadyMeets ws r ws' → step ready_ids (state ws st) ≡ stepped (shown (readied r) [] []) (state ws' st)
  unfolding step
  ready_tied r ws' h = ap (λ (x : Readied). readies x st) (sym h.words)

  pub commit_tied : (r : answer.Call) (ws' : List ℕ) → CommitMeets ws r ws' → step commit (state ws st) ≡ stepped (shown (called r) [] []) (state ws' st)
  unfolding step
  commit_tied r ws' h = ap (λ (x : Called). quiet x st) (sym h.words)

  pub rollback_tied : (r : answer.Call) (ws' : List ℕ) → RollbackMeets ws r ws' → step rollback (state ws st) ≡ stepped (shown (called r) [] []) (state ws' st)
  unfolding step
  rollback_tied r ws' h = ap (λ (x : Called). quiet x st) (sym h.words)

  pub reset_tied : (r : answer.Call) (ws' : List ℕ) → ResetMeets ws r ws' → step reset (state ws st) ≡ stepped (shown (called r) [] []) (state ws' st)
  unfolding step
  reset_tied r ws' h = ap (λ (x : Called). quiet x st) (sym h.words)

  pub threshold_tied : (es : List ℕ) (id t : ℕ) (r : answer.Call) (ws' es' : List ℕ) → SetThresholdMeets ws es id t r ws' es'
      → step (set_threshold es id t) (state ws st) ≡ stepped (shown (called r) es' []) (state ws' st)
  unfolding step
  threshold_tied es id t r ws' es' h = ap (λ (x : CalledWith). loud x st) (sym h.words)

  pub priority_tied : (id p : ℕ) (r : answer.Call) (ws' : List ℕ) → SetPriorityMeets ws id p r ws' → step (set_priority id p) (state ws st) ≡ stepped (shown (called r) [] []) (state ws' st)
  unfolding step
  priority_tied id p r ws' h = ap (λ (x : Called). quiet x st) (sym h.words)

  pub switch_tied : (b : Bool) (r : answer.Call) (ws' : List ℕ) → SwitchMeets ws b r ws' → step (set_interleaving b) (state ws st) ≡ stepped (shown (called r) [] []) (state ws' st)
  unfolding step
  switch_tied b r ws' h = ap (λ (x : Called). quiet x st) (sym h.words)

  pub restore_tied : (time : ℕ) (i : List ℕ) (r : answer.Call) (ws' st' : List ℕ) → RestoreMeets ws st time i r ws' st'
      → step (restore time i) (state ws st) ≡ stepped (shown (called r) [] []) (state ws' st')
  unfolding step
  restore_tied time i r ws' st' h = ap (λ (x : Added). stores x) (sym h.words)

  -- the questions
  pub asked_priority_tied : (id : ℕ) (r : Number) → asked.PriorityMeets ws id r → step (ask_priority id) (state ws st) ≡ stepped (shown (number r) [] []) (state ws st)
  unfolding step
  asked_priority_tied id r h = ap (λ x. stepped (shown (number x) [] []) (state ws st)) (sym h.words)

  pub asked_amount_tied : (id : ℕ) (r : Number) → asked.AmountMeets ws id r → step (ask_amount id) (state ws st) ≡ stepped (shown (number r) [] []) (state ws st)
  unfolding step
  asked_amount_tied id r h = ap (λ x. stepped (shown (number x) [] []) (state ws st)) (sym h.words)

  pub asked_threshold_tied : (id : ℕ) (r : Number) → asked.ThresholdMeets ws id r → step (ask_threshold id) (state ws st) ≡ stepped (shown (number r) [] []) (state ws st)
  unfolding step
  asked_threshold_tied id r h = ap (λ x. stepped (shown (number x) [] []) (state ws st)) (sym h.words)

  pub asked_total_tied : (r : ℕ) → asked.TotalMeets ws r → step ask_total (state ws st) ≡ stepped (shown (count r) [] []) (state ws st)
  unfolding step
  asked_total_tied r h = ap (λ x. stepped (shown (count x) [] []) (state ws st)) (sym h.words)

  pub asked_empty_tied : (r : Bool) → asked.EmptyMeets ws r → step ask_empty (state ws st) ≡ stepped (shown (truth r) [] []) (state ws st)
  unfolding step
  asked_empty_tied r h = ap (λ x. stepped (shown (truth x) [] []) (state ws st)) (sym h.words)

  pub asked_data_tied : (r : Flag) → asked.DataMeets ws r → step ask_has_data (state ws st) ≡ stepped (shown (flag r) [] []) (state ws st)
  unfolding step
  asked_data_tied r h = ap (λ x. stepped (shown (flag x) [] []) (state ws st)) (sym h.words)

  pub asked_ready_tied : (r : Flag) → asked.ReadyMeets ws r → step ask_streams_ready (state ws st) ≡ stepped (shown (flag r) [] []) (state ws st)
  unfolding step
  asked_ready_tied r h = ap (λ x. stepped (shown (flag x) [] []) (state ws st)) (sym h.words)

  pub asked_count_tied : (r : Number) → CountMeets ws r → step ask_ready_count (state ws st) ≡ stepped (shown (number r) [] []) (state ws st)
  unfolding step
  asked_count_tied r h = ap (λ x. stepped (shown (number x) [] []) (state ws st)) (sym h.words)

  pub asked_readiness_tied : (r : ℕ) → asked.ReadinessMeets ws r → step ask_readiness (state ws st) ≡ stepped (shown (count r) [] []) (state ws st)
  unfolding step
  asked_readiness_tied r h = ap (λ x. stepped (shown (count x) [] []) (state ws st)) (sym h.words)

  pub asked_room_tied : (k : Room) (r : ℕ) → asked.RoomMeets k ws r → step (ask_room k) (state ws st) ≡ stepped (shown (count r) [] []) (state ws st)
  unfolding step
  asked_room_tied k r h = ap (λ x. stepped (shown (count x) [] []) (state ws st)) (sym h.words)
