-- A refused call changes nothing, on any words and any store: one theorem for all calls. Assumes nothing.
use mathlib.Core.Path.{◌≡◌, refl, sym, ◌∙◌}
use mathlib.Core.Bool.{Bool, true, false}
use mathlib.Core.List.{List}
use Prim.Native.Nat.{ℕ, zero, suc}
use lib.Dec.{ltb, eqb}
use lib.ListN.{length}
use Rattle.queue_words.specs.Flags.{pick}
use Rattle.queue_words.specs.Header.{totals_at}
use Rattle.queue_words.specs.Find.{find_stream_words}
use Rattle.queue_words.specs.Items.{item_at}
use Rattle.queue_words.specs.Known.{known_at}
use Rattle.queue_words.specs.Streams.{is_open, stream_at_words}
use Rattle.queue_words.specs.declared.items.Item.{Item}
use Rattle.queue_words.specs.declared.known.Found.{Found}
use Rattle.queue_words.specs.declared.known.Found.TheVariants as found
use Rattle.queue_words.specs.declared.streams.OutgoingStream.{OutgoingStream}
use Rattle.stream_scheduler.specs.Words.{remove_stream_words}
use Rattle.queue_streams.specs.Events.{event_words}
use Rattle.queue_streams.specs.Known.{look_up}
use Rattle.queue_streams.specs.Restart.{reopen, set_interleaving_words, alike}
use Rattle.queue_streams.specs.Settings.{Called, called, CalledWith, called_with, set_priority_words, priority_in, set_threshold_words, threshold_in, raised}
use Rattle.queue_streams.specs.Waiting.{room_for}
use Rattle.queue_streams.specs.Call as call
use Rattle.queue_streams.specs.Place.{Place}
use Rattle.queue_streams.specs.Place as place
use Rattle.message_chains.specs.Amounts.{rest}
use Rattle.message_chains.specs.Dropping.{scheduled_behind, behind_dropped, dropped_in_state}
use Rattle.message_chains.specs.Heads.{head_code}
use Rattle.queue_messages.specs.Add as adding
use Rattle.queue_messages.specs.Discard as discarding
use Rattle.queue_messages.specs.declared.message.Message.{Message}
use Rattle.queue_closing.specs.Close as closing
use Rattle.queue_closing.specs.Walk.{may_sweep}
use Rattle.queue_restarts.specs.Ready as readying
use Rattle.queue_restarts.specs.Reset.{reset_queue, sum_of}
use Rattle.queue_sending.specs.Produce.{produce_next}
use Rattle.packets.specs.PacketFilled.{PacketFilled}
use Rattle.packets.specs.PacketFilled as packet
use Rattle.packets.specs.Filling.{fill_packet}
use Rattle.packets.proofs.Refused.{fill_refused_lem}
use Rattle.queue_sending.specs.Produced.{Produced}
use Rattle.queue_sending.specs.Produced as produced
use Rattle.queue_sending.proofs.Passes.{produce_refused}
use Rattle.handover.specs.Restore as restoring
use Rattle.queue_runs.specs.Calls.{add, produce, fill, discard, close, ready_ids, commit, rollback, reset, set_threshold, set_priority, set_interleaving, restore, ask_priority, ask_amount, ask_threshold, ask_total, ask_empty, ask_has_data, ask_streams_ready, ask_ready_count, ask_readiness, ask_room}
use Rattle.queue_runs.specs.Run.{State, state, step}
use Rattle.queue_runs.specs.Refusals.{call_refused, sent_refused, fill_refused, RefusedUnchanged}
use Rattle.payload_store.proofs.Cases.{false_true}

-- ---- calls that leave words

unfoldable Quiet : List ℕ → Called → Type 0
Quiet ws r = call_refused r.answer ≡ true → r.next ≡ ws

quiet_pick : (ws : List ℕ) (b : Bool) (x y : Called) → Quiet ws x → Quiet ws y → Quiet ws (pick b x y)
unfolding Quiet
quiet_pick ws true x y f g = f
quiet_pick ws false x y f g = g

quiet_refused : (ws : List ℕ) (n : ℕ) → Quiet ws (called (call.Refused n) ws)
unfolding Quiet
quiet_refused ws n e = refl

quiet_done : (ws us : List ℕ) (k : ℕ) → Quiet ws (called (call.Accepted k) us)
unfolding Quiet
quiet_done ws us k e = false_true e

reopen_stays : (z : Bool) (ws : List ℕ) → Quiet ws (reopen z ws)
unfolding reopen
reopen_stays z ws = quiet_pick ws (room_for ws false) _ _ (quiet_done ws _ 0) (quiet_refused ws 16)

switch_stays : (b : Bool) (ws : List ℕ) → Quiet ws (set_interleaving_words b ws)
unfolding set_interleaving_words
switch_stays b ws = quiet_pick ws (alike b (totals_at ws).interleaving) _ _ (quiet_done ws ws 0) (quiet_pick ws (room_for ws true) _ _ (quiet_done ws _ 0) (quiet_refused ws 16))

reset_stays : (ws : List ℕ) → Quiet ws (reset_queue ws)
unfolding reset_queue
reset_stays ws = quiet_pick ws (room_for ws true) _ _ (quiet_pick ws (sum_of ws).fits _ _ (quiet_done ws _ 0) (quiet_refused ws 16)) (quiet_refused ws 16)

priority_stays : (ws : List ℕ) (id p : ℕ) → Quiet ws (set_priority_words ws id p)
unfolding set_priority_words
priority_stays ws id p = go (look_up ws id)
  where
    go : (x : Place) → Quiet ws (priority_in ws id p x)
    go (place.Row r) = quiet_done ws _ 0
    go (place.New q) = quiet_done ws _ 0
    go (place.Refused n) = quiet_refused ws n

-- ---- calls that leave words and events

unfoldable Loud : List ℕ → List ℕ → CalledWith → Type 0
Loud ws es r = call_refused r.answer ≡ true → (r.next ≡ ws) × (r.events ≡ es)

loud_pick : (ws es : List ℕ) (b : Bool) (x y : CalledWith) → Loud ws es x → Loud ws es y → Loud ws es (pick b x y)
unfolding Loud
loud_pick ws es true x y f g = f
loud_pick ws es false x y f g = g

loud_refused : (ws es : List ℕ) (n : ℕ) → Loud ws es (called_with (call.Refused n) ws es)
unfolding Loud
loud_refused ws es n e = (refl, refl)

loud_done : (ws es us vs : List ℕ) (k : ℕ) → Loud ws es (called_with (call.Accepted k) us vs)
unfolding Loud
loud_done ws es us vs k e = false_true e

threshold_stays : (ws es : List ℕ) (id t : ℕ) → Loud ws es (set_threshold_words ws es id t)
unfolding set_threshold_words
threshold_stays ws es id t = loud_pick ws es (ltb (length es) event_words) _ _ (loud_refused ws es 3) (go (look_up ws id))
  where
    go : (x : Place) → Loud ws es (threshold_in ws es id t x)
    go (place.Row r) = loud_pick ws es (raised (stream_at_words ws r).buffered_amount (stream_at_words ws r).low_threshold t) _ _ (loud_done ws es _ _ 1) (loud_done ws es _ _ 0)
    go (place.New q) = loud_done ws es _ _ 0
    go (place.Refused n) = loud_refused ws es n

discard_stays : (ws es : List ℕ) (id k : ℕ) → Loud ws es (discarding.discard ws es id k)
unfolding discarding.discard discarding.discard_in dropped_in_state behind_dropped
discard_stays ws es id k = loud_pick ws es (ltb (length es) event_words) _ _ (loud_refused ws es 3) (go (find_stream_words ws id))
  where
    head : (row : ℕ) (s : OutgoingStream) (m : Item) → Loud ws es (dropped_in_state ws es 0 id row s m)
    head row s m =
        loud_pick ws es (ltb 0 (head_code ws s s.first m.next (rest m))) _ _ (loud_refused ws es (head_code ws s s.first m.next (rest m)))
        (loud_pick ws es (scheduled_behind ws id s m.next).done _ _ (loud_done ws es _ _ _) (loud_refused ws es 16))

    go : (x : Found) → Loud ws es (discarding.discard_found ws es id k x)
    go (found.At p row) =
        loud_pick ws es (ltb 1024 (stream_at_words ws row).first) _ _ (loud_refused ws es 16)
        (loud_pick ws es (eqb (stream_at_words ws row).first 1024) _ _ (loud_done ws es ws es 0)
        (loud_pick ws es (eqb (item_at ws (stream_at_words ws row).first).message_id.0 k) _ _ (head row (stream_at_words ws row) (item_at ws (stream_at_words ws row).first)) (loud_done ws es ws es 0)))
    go (found.Gap p) = loud_done ws es ws es 0
    go found.Broken = loud_refused ws es 16

close_stays : (ws es : List ℕ) (id : ℕ) → Loud ws es (closing.close ws es id)
unfolding closing.close closing.close_in closing.close_open_words closing.close_behind closing.close_whole
close_stays ws es id = loud_pick ws es (ltb (length es) event_words) _ _ (loud_refused ws es 3) (go (look_up ws id))
  where
    go : (x : Place) → Loud ws es (closing.close_at ws es id x)
    go (place.Row row) =
        loud_pick ws es (is_open (stream_at_words ws row).pause_state) _ _
        (loud_pick ws es (ltb 1024 (stream_at_words ws row).first) _ _ (loud_refused ws es 16)
        (loud_pick ws es (eqb (stream_at_words ws row).first 1024) _ _ (loud_done ws es _ _ 0)
        (loud_pick ws es (ltb 0 (item_at ws (stream_at_words ws row).first).offset) _ _
        (loud_pick ws es (may_sweep ws (item_at ws (stream_at_words ws row).first).next (stream_at_words ws row).buffered_amount) _ _ (loud_done ws es _ _ _) (loud_refused ws es 16))
        (loud_pick ws es (may_sweep ws (stream_at_words ws row).first (stream_at_words ws row).buffered_amount) _ _
        (loud_pick ws es (remove_stream_words ws id).done _ _ (loud_done ws es _ _ _) (loud_refused ws es 16)) (loud_refused ws es 16)))))
        (loud_done ws es ws es 0)
    go (place.New q) = loud_done ws es _ _ 0
    go (place.Refused n) = loud_refused ws es n

-- ---- adding and restoring

unfoldable Stores : List ℕ → List ℕ → adding.Added → Type 0
Stores ws st r = call_refused r.answer ≡ true → (r.words ≡ ws) × (r.store ≡ st)

stores_pick : (ws st : List ℕ) (b : Bool) (x y : adding.Added) → Stores ws st x → Stores ws st y → Stores ws st (pick b x y)
unfolding Stores
stores_pick ws st true x y f g = f
stores_pick ws st false x y f g = g

stores_refused : (ws st : List ℕ) (n : ℕ) → Stores ws st (adding.added (call.Refused n) ws st)
unfolding Stores
stores_refused ws st n e = (refl, refl)

stores_done : (ws st us ut : List ℕ) (k : ℕ) → Stores ws st (adding.added (call.Accepted k) us ut)
unfolding Stores
stores_done ws st us ut k e = false_true e

add_stays : (ws st : List ℕ) (time : ℕ) (m : Message) (bs : List ℕ) → Stores ws st (adding.add ws st time m bs)
unfolding adding.add adding.add_to
add_stays ws st time m bs = stores_pick ws st (ltb 0 (adding.arguments_code ws (length st) time m.lifetime (length bs))) _ _ (stores_refused ws st _) (go (look_up ws m.stream_id.0))
  where
    go : (x : Place) → Stores ws st (adding.add_in ws st time m bs x)
    go x =
        stores_pick ws st (ltb 0 (adding.refused_place ws (length st) (length bs) x)) _ _ (stores_refused ws st _)
        (stores_pick ws st (ltb 0 (adding.message_code ws (length st) (adding.stream_for ws x) (length bs))) _ _ (stores_refused ws st _) (stores_done ws st _ _ 0))

restore_stays : (ws st : List ℕ) (time : ℕ) (bs : List ℕ) → Stores ws st (restoring.restore ws st time bs)
unfolding restoring.restore
restore_stays ws st time bs =
    stores_pick ws st (ltb 0 (restoring.restore_code ws (length st) time bs)) _ _ (stores_refused ws st _)
    (stores_pick ws st (ltb (length bs) 20) _ _ (stores_refused ws st 13) (stores_done ws st _ _ 0))

-- ---- ready ids

accepted : (ws : List ℕ) (n : ℕ) → call_refused (readying.collected ws n).answer ≡ false
unfolding readying.collected
accepted ws zero = refl
accepted ws (suc n) = go (accepted ws n) (readying.paused_at ws (known_at ws n).place)
  where
    go : call_refused (readying.collected ws n).answer ≡ false → (b : Bool) → call_refused (pick b (readying.one_more (readying.collected ws n) (known_at ws n).id.0) (readying.collected ws n)).answer ≡ false
    go f true = refl
    go f false = f

ready_stays : (ws : List ℕ) → call_refused (readying.ready ws).answer.answer ≡ true → (readying.ready ws).next ≡ ws
unfolding readying.ready
ready_stays ws = go (readying.all_places_fit ws (totals_at ws).known)
  where
    collected_done : (n : ℕ) → call_refused (readying.collected ws n).answer ≡ false
    collected_done n = accepted ws n

    go : (b : Bool) → call_refused (pick b (readying.readied (readying.collected ws (totals_at ws).known) (readying.marked_all ws (totals_at ws).known)) (readying.readied readying.refused_ready ws)).answer.answer ≡ true
        → (pick b (readying.readied (readying.collected ws (totals_at ws).known) (readying.marked_all ws (totals_at ws).known)) (readying.readied readying.refused_ready ws)).next ≡ ws
    go true e = false_true (sym (collected_done (totals_at ws).known) ∙ e)
    go false e = refl

-- ---- the next fragment

sent_code : (r : Produced) → sent_refused r ≡ true → (n : ℕ) × (r ≡ produced.Refused n)
sent_code (produced.Nothing k) e = false_true e
sent_code (produced.Fragment k d) e = false_true e
sent_code (produced.Refused n) e = (n, refl)

-- ---- filling a packet

fill_code : (r : PacketFilled) → fill_refused r ≡ true → (n : ℕ) × (r ≡ packet.Refused n)
fill_code (packet.Filled k bytes chunks) e = false_true e
fill_code (packet.Refused n) e = (n, refl)

-- ---- the theorem

state_is : (s : State) (ws st : List ℕ) → ws ≡ s.words → st ≡ s.store → state ws st ≡ s
state_is s ws st a b = rw (a, b)

pub refused_unchanged : RefusedUnchanged
unfolding step Quiet Loud Stores
refused_unchanged (add time m payload) s e = let k = add_stays s.words s.store time m payload e in record { queue = state_is s _ _ k.0 k.1; events = refl; buffer = refl }
refused_unchanged (produce es bs time size) s e =
    let c = sent_code (produce_next s.words s.store es bs time size).answer e in
    let k = (produce_refused s.words s.store es bs time size).stays c.0 c.1 in
    record { queue = state_is s _ _ k.0 refl; events = k.1; buffer = k.2 }
refused_unchanged (fill es bs time p) s e =
    let c = fill_code (fill_packet s.words s.store es bs time p).answer e in
    let k = (fill_refused_lem s.words s.store es bs time p).stays c.0 c.1 in
    record { queue = state_is s _ _ k.0 refl; events = k.1.0; buffer = k.1.1 }
refused_unchanged (discard es id k) s e = let k = discard_stays s.words es id k e in record { queue = state_is s _ _ k.0 refl; events = k.1; buffer = refl }
refused_unchanged (close es id) s e = let k = close_stays s.words es id e in record { queue = state_is s _ _ k.0 refl; events = k.1; buffer = refl }
refused_unchanged ready_ids s e = record { queue = state_is s _ _ (ready_stays s.words e) refl; events = refl; buffer = refl }
refused_unchanged commit s e = record { queue = state_is s _ _ (reopen_stays true s.words e) refl; events = refl; buffer = refl }
refused_unchanged rollback s e = record { queue = state_is s _ _ (reopen_stays false s.words e) refl; events = refl; buffer = refl }
refused_unchanged reset s e = record { queue = state_is s _ _ (reset_stays s.words e) refl; events = refl; buffer = refl }
refused_unchanged (set_threshold es id t) s e = let k = threshold_stays s.words es id t e in record { queue = state_is s _ _ k.0 refl; events = k.1; buffer = refl }
refused_unchanged (set_priority id p) s e = record { queue = state_is s _ _ (priority_stays s.words id p e) refl; events = refl; buffer = refl }
refused_unchanged (set_interleaving b) s e = record { queue = state_is s _ _ (switch_stays b s.words e) refl; events = refl; buffer = refl }
refused_unchanged (restore time image) s e = let k = restore_stays s.words s.store time image e in record { queue = state_is s _ _ k.0 k.1; events = refl; buffer = refl }
refused_unchanged (ask_priority id) s e = record { queue = refl; events = refl; buffer = refl }
refused_unchanged (ask_amount id) s e = record { queue = refl; events = refl; buffer = refl }
refused_unchanged (ask_threshold id) s e = record { queue = refl; events = refl; buffer = refl }
refused_unchanged ask_total s e = record { queue = refl; events = refl; buffer = refl }
refused_unchanged ask_empty s e = record { queue = refl; events = refl; buffer = refl }
refused_unchanged ask_has_data s e = record { queue = refl; events = refl; buffer = refl }
refused_unchanged ask_streams_ready s e = record { queue = refl; events = refl; buffer = refl }
refused_unchanged ask_ready_count s e = record { queue = refl; events = refl; buffer = refl }
refused_unchanged ask_readiness s e = record { queue = refl; events = refl; buffer = refl }
refused_unchanged (ask_room r) s e = record { queue = refl; events = refl; buffer = refl }
