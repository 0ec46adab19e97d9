-- A refused call gives a number of its list, on any words and any store: one theorem for all calls. Assumes nothing.
use mathlib.Core.Path.{◌≡◌, refl, sym, ◌∙◌}
use mathlib.Core.Bool.{Bool, true, false}
use mathlib.Core.List.{List, [], ◌∷◌}
use Prim.Native.Nat.{ℕ, zero, suc, ◌+◌, ◌-◌}
use native.Mathlib.Omega.{arith}
use lib.Dec.{ltb, leb, eqb}
use lib.ListN.{length}
use Rattle.queue_words.specs.Active.{active_at}
use Rattle.queue_words.specs.Flags.{pick}
use Rattle.queue_words.specs.Header.{options_at, totals_at}
use Rattle.queue_words.specs.Find.{find_stream_words}
use Rattle.queue_words.specs.Items.{item_at}
use Rattle.queue_words.specs.Known.{known_at, known_count}
use Rattle.queue_words.specs.Streams.{is_open, is_paused_words, stream_at_words}
use Rattle.queue_words.specs.declared.items.Item.{Item}
use Rattle.queue_words.specs.declared.known.Found.{Found}
use Rattle.queue_words.specs.declared.known.Found.TheVariants as found
use Rattle.queue_words.specs.declared.streams.OutgoingStream.{OutgoingStream}
use Rattle.payload_store.specs.Words.{size_of, used_of}
use Rattle.payload_store.specs.Dropping.{drop_code_words}
use Rattle.payload_store.specs.Putting.{put_code}
use Rattle.payload_store.specs.Reading.{read_code}
use Rattle.stream_scheduler.specs.Words.{remove_stream_words, peek_words}
use Rattle.stream_scheduler.specs.declared.Peeked.{Peeked}
use Rattle.stream_scheduler.specs.declared.Peeked.TheVariants as peeked
use Rattle.queue_streams.specs.Events.{event_words}
use Rattle.queue_streams.specs.Known.{look_up, place_of}
use Rattle.queue_streams.specs.Restart.{reopen, set_interleaving_words, alike}
use Rattle.queue_streams.specs.Settings.{Called, called, CalledWith, called_with, set_priority_words, priority_in, set_threshold_words, threshold_in, raised}
use Rattle.queue_streams.specs.Waiting.{room_for}
use Rattle.queue_streams.specs.Call.{Call}
use Rattle.queue_streams.specs.Call as call
use Rattle.queue_streams.specs.Flag.{Flag}
use Rattle.queue_streams.specs.Flag as flags
use Rattle.queue_streams.specs.Number.{Number}
use Rattle.queue_streams.specs.Place.{Place}
use Rattle.queue_streams.specs.Place as place
use Rattle.message_chains.specs.Amounts.{rest}
use Rattle.message_chains.specs.Dropping.{scheduled_behind, behind_dropped, dropped_in_state}
use Rattle.message_chains.specs.Heads.{head_code}
use Rattle.queue_questions.specs.Questions.{stream_or_new, asked, priority_of_words, amount_of_words, threshold_of, waits, data_of, ready_among, ready_of}
use Rattle.queue_questions.specs.Looked.{Looked}
use Rattle.queue_questions.specs.Looked as looked
use Rattle.queue_messages.specs.Add as adding
use Rattle.queue_messages.specs.Message.{nanoseconds}
use Rattle.queue_messages.specs.Discard as discarding
use Rattle.queue_messages.specs.Message.{Lifetime}
use Rattle.queue_messages.specs.declared.message.Message.{Message}
use Rattle.queue_closing.specs.Close as closing
use Rattle.queue_closing.specs.Walk.{may_sweep}
use Rattle.queue_restarts.specs.Ready as readying
use Rattle.queue_restarts.specs.Reset.{reset_queue, sum_of}
use Rattle.queue_sending.specs.Choice.{look_ahead}
use Rattle.queue_sending.specs.Data.{ProducedWith, produced_with, refused_with}
use Rattle.queue_sending.specs.Fragment.{least_of, send_code, sent, handed_out_words}
use Rattle.queue_sending.specs.Produce.{produce_code, expired_dropped, after_look, after_drop, after_call, pass_over_words, settled_as, past_from, produced_past, produced_after, produce_next}
use Rattle.queue_sending.specs.Look.{Look}
use Rattle.queue_sending.specs.Look as look
use Rattle.queue_sending.specs.Produced.{Produced}
use Rattle.queue_sending.specs.Produced as produced
use Rattle.image_rules.specs.Code.{rules_kept, amounts_fit, image_code_words}
use Rattle.image_rules.specs.Trailers.{trailer_in}
use Rattle.handover.specs.Restore as restoring
use Rattle.queue_runs.specs.Calls.{add, produce, fill, discard, close, ready_ids, commit, rollback, reset, set_threshold, set_priority, set_interleaving, restore, ask_priority, ask_amount, ask_threshold, ask_total, ask_empty, ask_has_data, ask_streams_ready, ask_ready_count, ask_readiness, ask_room}
use Rattle.queue_runs.specs.Run.{step}
use Rattle.queue_runs.specs.Refusals.{call_refused, sent_refused, fill_refused, number_refused, flag_refused}
use Rattle.queue_streams.specs.Answers.{call_number, number_number, flag_number}
use Rattle.queue_sending.specs.Data.{produced_number}
use Rattle.queue_model.specs.Fill.{common_header_length}
use Rattle.types.specs.Wrap.{wrap_suc}
use Rattle.queue_model.specs.Chunks.{padded}
use Rattle.chunks.specs.Layout.{header_size}
use Rattle.chunks.specs.declared.chunk.ChunkKind.{ChunkKind}
use Rattle.packets.specs.declared.packet.Packet.{Packet}
use Rattle.packets.specs.PacketFilled as packet
use Rattle.packets.specs.Filling.{Filling, kind_of, fill_code, one_filled, FillingWith, filling_with, reached, after_one, and_on_words, size_asked_words, fill_on_words, filled_with_words, filled_number, finished_answer, finished, fill_packet}
use Rattle.queue_runs.specs.Numbers.{among, RefusalsListed}
use Rattle.payload_store.proofs.Cases.{false_true}

-- ---- codes: a number of the list where it is above 0

unfoldable Code : List ℕ → ℕ → Type 0
Code l n = ltb 0 n ≡ true → among n l ≡ true

code_pick : (l : List ℕ) (b : Bool) (x y : ℕ) → Code l x → Code l y → Code l (pick b x y)
code_pick l true x y f g = f
code_pick l false x y f g = g

code_none : (l : List ℕ) → Code l 0
unfolding Code
code_none l e = false_true e

code_in : (l : List ℕ) (n : ℕ) → among n l ≡ true → Code l n
unfolding Code
code_in l n h e = h

-- ---- calls that leave words

unfoldable Quiet : List ℕ → Called → Type 0
Quiet l r = call_refused r.answer ≡ true → among (call_number r.answer) l ≡ true

quiet_pick : (l : List ℕ) (b : Bool) (x y : Called) → Quiet l x → Quiet l y → Quiet l (pick b x y)
quiet_pick l true x y f g = f
quiet_pick l false x y f g = g

quiet_refused : (l : List ℕ) (n : ℕ) (ws : List ℕ) → among n l ≡ true → Quiet l (called (call.Refused n) ws)
unfolding Quiet
quiet_refused l n ws h e = h

quiet_done : (l : List ℕ) (k : ℕ) (ws : List ℕ) → Quiet l (called (call.Accepted k) ws)
unfolding Quiet
quiet_done l k ws e = false_true e

reopen_listed : (z : Bool) (ws : List ℕ) → Quiet (16 ∷ []) (reopen z ws)
unfolding reopen
reopen_listed z ws = quiet_pick _ (room_for ws false) _ _ (quiet_done _ 0 _) (quiet_refused _ 16 ws refl)

switch_listed : (b : Bool) (ws : List ℕ) → Quiet (16 ∷ []) (set_interleaving_words b ws)
unfolding set_interleaving_words
switch_listed b ws = quiet_pick _ (alike b (totals_at ws).interleaving) _ _ (quiet_done _ 0 ws) (quiet_pick _ (room_for ws true) _ _ (quiet_done _ 0 _) (quiet_refused _ 16 ws refl))

reset_listed : (ws : List ℕ) → Quiet (16 ∷ []) (reset_queue ws)
unfolding reset_queue
reset_listed ws = quiet_pick _ (room_for ws true) _ _ (quiet_pick _ (sum_of ws).fits _ _ (quiet_done _ 0 _) (quiet_refused _ 16 ws refl)) (quiet_refused _ 16 ws refl)

-- Looking a stream up gives 6 or 16.
unfoldable Placed : List ℕ → Place → Type 0
Placed l x = (n : ℕ) → x ≡ place.Refused n → among n l ≡ true

placed_row : (l : List ℕ) (r : ℕ) → Placed l (place.Row r)
unfolding Placed
placed_row l r n e = let z : ◌≡◌ {A = ℕ} 0 1 = cc in absurd (omega arith)

placed_new : (l : List ℕ) (p : ℕ) → Placed l (place.New p)
unfolding Placed
placed_new l p n e = let z : ◌≡◌ {A = ℕ} 0 1 = cc in absurd (omega arith)

placed_refused : (l : List ℕ) (k : ℕ) → among k l ≡ true → Placed l (place.Refused k)
unfolding Placed
placed_refused l k h n e = let z : k ≡ n = cc in rw (sym z) h

placed_pick : (l : List ℕ) (b : Bool) (x y : Place) → Placed l x → Placed l y → Placed l (pick b x y)
placed_pick l true x y f g = f
placed_pick l false x y f g = g

look_listed : (l : List ℕ) (ws : List ℕ) (id : ℕ) → among 6 l ≡ true → among 16 l ≡ true → Placed l (look_up ws id)
unfolding look_up
look_listed l ws id a b = go (find_stream_words ws id)
  where
    go : (x : Found) → Placed l (place_of ws x)
    go (found.At p row) = placed_row l row
    go (found.Gap p) = placed_pick l (ltb 255 (known_count ws)) _ _ (placed_refused l 6 a) (placed_new l p)
    go found.Broken = placed_refused l 16 b

priority_listed : (ws : List ℕ) (id p : ℕ) → Quiet (6 ∷ 16 ∷ []) (set_priority_words ws id p)
unfolding set_priority_words Placed
priority_listed ws id p = go (look_up ws id) (look_listed (6 ∷ 16 ∷ []) ws id refl refl)
  where
    go : (x : Place) → Placed (6 ∷ 16 ∷ []) x → Quiet (6 ∷ 16 ∷ []) (priority_in ws id p x)
    go (place.Row r) h = quiet_done _ 0 _
    go (place.New q) h = quiet_done _ 0 _
    go (place.Refused n) h = quiet_refused _ n ws (h n refl)

-- ---- calls that leave words and events

unfoldable Loud : List ℕ → CalledWith → Type 0
Loud l r = call_refused r.answer ≡ true → among (call_number r.answer) l ≡ true

loud_pick : (l : List ℕ) (b : Bool) (x y : CalledWith) → Loud l x → Loud l y → Loud l (pick b x y)
loud_pick l true x y f g = f
loud_pick l false x y f g = g

loud_refused : (l : List ℕ) (n : ℕ) (ws es : List ℕ) → among n l ≡ true → Loud l (called_with (call.Refused n) ws es)
unfolding Loud
loud_refused l n ws es h e = h

loud_done : (l : List ℕ) (k : ℕ) (ws es : List ℕ) → Loud l (called_with (call.Accepted k) ws es)
unfolding Loud
loud_done l k ws es e = false_true e

-- refused with a code where it is above 0
loud_code : (l : List ℕ) (n : ℕ) (ws es : List ℕ) (y : CalledWith) → Code l n → Loud l y → Loud l (pick (ltb 0 n) (called_with (call.Refused n) ws es) y)
unfolding Code
loud_code l n ws es y h g = go (ltb 0 n) h
  where
    go : (b : Bool) → (b ≡ true → among n l ≡ true) → Loud l (pick b (called_with (call.Refused n) ws es) y)
    go true f = loud_refused l n ws es (f refl)
    go false f = g

threshold_listed : (ws es : List ℕ) (id t : ℕ) → Loud (3 ∷ 6 ∷ 16 ∷ []) (set_threshold_words ws es id t)
unfolding set_threshold_words Placed
threshold_listed ws es id t = loud_pick _ (ltb (length es) event_words) _ _ (loud_refused _ 3 ws es refl) (go (look_up ws id) (look_listed (3 ∷ 6 ∷ 16 ∷ []) ws id refl refl))
  where
    go : (x : Place) → Placed (3 ∷ 6 ∷ 16 ∷ []) x → Loud (3 ∷ 6 ∷ 16 ∷ []) (threshold_in ws es id t x)
    go (place.Row r) h = loud_pick _ (raised (stream_at_words ws r).buffered_amount (stream_at_words ws r).low_threshold t) _ _ (loud_done _ 1 _ _) (loud_done _ 0 _ _)
    go (place.New q) h = loud_done _ 0 _ _
    go (place.Refused n) h = loud_refused _ n ws es (h n refl)

-- What goes with a head, and with its payload: 0 or 16.
drop_code : (l : List ℕ) → among 16 l ≡ true → (ws : List ℕ) (i : ℕ) → Code l (drop_code_words ws i)
unfolding drop_code_words
drop_code l h ws i =
    code_pick l (leb 1024 i) _ _ (code_in l 16 h)
    (code_pick l (eqb (size_of ws i) 0) _ _ (code_in l 16 h)
    (code_pick l (ltb (used_of ws) (size_of ws i)) _ _ (code_in l 16 h) (code_none l)))

head_code_lem : (l : List ℕ) → among 16 l ≡ true → (ws : List ℕ) (s : OutgoingStream) (p next n : ℕ) → Code l (head_code ws s p next n)
unfolding head_code
head_code_lem l h ws s p next n =
    code_pick l (ltb (totals_at ws).total n) _ _ (code_in l 16 h)
    (code_pick l (ltb s.buffered_amount n) _ _ (code_in l 16 h)
    (code_pick l (eqb (totals_at ws).waiting 0) _ _ (code_in l 16 h)
    (code_pick l (ltb 1024 next) _ _ (code_in l 16 h) (drop_code l h ws p))))

-- a head dropped in its stream's state
head_listed : (l : List ℕ) → among 16 l ≡ true → (ws es : List ℕ) (k id row : ℕ) (s : OutgoingStream) (m : Item) → Loud l (dropped_in_state ws es k id row s m)
unfolding dropped_in_state behind_dropped
head_listed l h ws es k id row s m =
    loud_code l (head_code ws s s.first m.next (rest m)) ws es _ (head_code_lem l h ws s s.first m.next (rest m))
    (loud_pick l (scheduled_behind ws id s m.next).done _ _ (loud_done l _ _ _) (loud_refused l 16 ws es h))

discard_listed : (ws es : List ℕ) (id k : ℕ) → Loud (3 ∷ 16 ∷ []) (discarding.discard ws es id k)
unfolding discarding.discard discarding.discard_in
discard_listed ws es id k = loud_pick _ (ltb (length es) event_words) _ _ (loud_refused _ 3 ws es refl) (go (find_stream_words ws id))
  where
    go : (x : Found) → Loud (3 ∷ 16 ∷ []) (discarding.discard_found ws es id k x)
    go (found.At p row) =
        loud_pick _ (ltb 1024 (stream_at_words ws row).first) _ _ (loud_refused _ 16 ws es refl)
        (loud_pick _ (eqb (stream_at_words ws row).first 1024) _ _ (loud_done _ 0 ws es)
        (loud_pick _ (eqb (item_at ws (stream_at_words ws row).first).message_id.0 k) _ _ (head_listed _ refl ws es 0 id row (stream_at_words ws row) (item_at ws (stream_at_words ws row).first)) (loud_done _ 0 ws es)))
    go (found.Gap p) = loud_done _ 0 ws es
    go found.Broken = loud_refused _ 16 ws es refl

close_listed : (ws es : List ℕ) (id : ℕ) → Loud (3 ∷ 6 ∷ 16 ∷ []) (closing.close ws es id)
unfolding closing.close closing.close_in closing.close_open_words closing.close_behind closing.close_whole Placed
close_listed ws es id = loud_pick _ (ltb (length es) event_words) _ _ (loud_refused _ 3 ws es refl) (go (look_up ws id) (look_listed (3 ∷ 6 ∷ 16 ∷ []) ws id refl refl))
  where
    go : (x : Place) → Placed (3 ∷ 6 ∷ 16 ∷ []) x → Loud (3 ∷ 6 ∷ 16 ∷ []) (closing.close_at ws es id x)
    go (place.Row row) h =
        loud_pick _ (is_open (stream_at_words ws row).pause_state) _ _
        (loud_pick _ (ltb 1024 (stream_at_words ws row).first) _ _ (loud_refused _ 16 ws es refl)
        (loud_pick _ (eqb (stream_at_words ws row).first 1024) _ _ (loud_done _ 0 _ _)
        (loud_pick _ (ltb 0 (item_at ws (stream_at_words ws row).first).offset) _ _
        (loud_pick _ (may_sweep ws (item_at ws (stream_at_words ws row).first).next (stream_at_words ws row).buffered_amount) _ _ (loud_done _ _ _ _) (loud_refused _ 16 ws es refl))
        (loud_pick _ (may_sweep ws (stream_at_words ws row).first (stream_at_words ws row).buffered_amount) _ _
        (loud_pick _ (remove_stream_words ws id).done _ _ (loud_done _ _ _ _) (loud_refused _ 16 ws es refl)) (loud_refused _ 16 ws es refl)))))
        (loud_done _ 0 ws es)
    go (place.New q) h = loud_done _ 0 _ _
    go (place.Refused n) h = loud_refused _ n ws es (h n refl)

-- ---- adding and restoring

unfoldable Stores : List ℕ → adding.Added → Type 0
Stores l r = call_refused r.answer ≡ true → among (call_number r.answer) l ≡ true

stores_pick : (l : List ℕ) (b : Bool) (x y : adding.Added) → Stores l x → Stores l y → Stores l (pick b x y)
stores_pick l true x y f g = f
stores_pick l false x y f g = g

stores_refused : (l : List ℕ) (n : ℕ) (ws st : List ℕ) → among n l ≡ true → Stores l (adding.added (call.Refused n) ws st)
unfolding Stores
stores_refused l n ws st h e = h

stores_done : (l : List ℕ) (k : ℕ) (ws st : List ℕ) → Stores l (adding.added (call.Accepted k) ws st)
unfolding Stores
stores_done l k ws st e = false_true e

stores_code : (l : List ℕ) (n : ℕ) (ws st : List ℕ) (y : adding.Added) → Code l n → Stores l y → Stores l (pick (ltb 0 n) (adding.added (call.Refused n) ws st) y)
unfolding Code
stores_code l n ws st y h g = go (ltb 0 n) h
  where
    go : (b : Bool) → (b ≡ true → among n l ≡ true) → Stores l (pick b (adding.added (call.Refused n) ws st) y)
    go true f = stores_refused l n ws st (f refl)
    go false f = g

abbrev adds : List ℕ
adds = 2 ∷ 4 ∷ 5 ∷ 6 ∷ 7 ∷ 8 ∷ 16 ∷ []

arguments_code : (ws : List ℕ) (len now : ℕ) (life : Lifetime) (n : ℕ) → Code adds (adding.arguments_code ws len now life n)
unfolding adding.arguments_code
arguments_code ws len now life n =
    code_pick adds (eqb (options_at ws).store_length len) _ _
    (code_pick adds (ltb 4611686018427387903 now) _ _ (code_in adds 4 refl)
    (code_pick adds (ltb 4611686018427387903 (nanoseconds life)) _ _ (code_in adds 4 refl)
    (code_pick adds (eqb n 0) _ _ (code_in adds 5 refl)
    (code_pick adds (ltb 262144 n) _ _ (code_in adds 5 refl) (code_none adds)))))
    (code_in adds 2 refl)

full_code : (ws : List ℕ) (len n : ℕ) → Code adds (adding.full_code ws len n)
unfolding adding.full_code
full_code ws len n =
    code_pick adds (ltb 1023 (totals_at ws).waiting) _ _ (code_in adds 7 refl)
    (code_pick adds (ltb (len - (totals_at ws).used) n) _ _ (code_in adds 8 refl) (code_none adds))

broken_code : (ws : List ℕ) (len : ℕ) (s : OutgoingStream) (n : ℕ) → Code adds (adding.broken_code ws len s n)
unfolding adding.broken_code
broken_code ws len s n =
    code_pick adds (ltb (18446744073709551615 - (totals_at ws).total) n) _ _ (code_in adds 16 refl)
    (code_pick adds (ltb (18446744073709551615 - s.buffered_amount) n) _ _ (code_in adds 16 refl)
    (code_pick adds (ltb 0 (adding.places_code ws s (totals_at ws).free)) _ _ (code_in adds 16 refl)
    (code_pick adds (adding.has_room_words ws s) _ _
    (code_pick adds (ltb 1 (put_code ws len (totals_at ws).free n)) _ _ (code_in adds 16 refl) (code_none adds))
    (code_in adds 16 refl))))

message_code : (ws : List ℕ) (len : ℕ) (s : OutgoingStream) (n : ℕ) → Code adds (adding.message_code ws len s n)
unfolding adding.message_code
message_code ws len s n = code_pick adds (ltb 0 (adding.full_code ws len n)) _ _ (full_code ws len n) (broken_code ws len s n)

-- 6, 7, 8, or the number of the look-up
lost_listed : (ws : List ℕ) (len n k : ℕ) → among k adds ≡ true → among (adding.lost_code ws len n k) adds ≡ true
unfolding adding.lost_code Code
lost_listed ws len n k h = go (eqb k 6) (ltb 0 (adding.full_code ws len n)) (full_code ws len n)
  where
    go : (b c : Bool) → (c ≡ true → among (adding.full_code ws len n) adds ≡ true) → among (pick b 6 (pick c (adding.full_code ws len n) k)) adds ≡ true
    go true c f = refl
    go false true f = f refl
    go false false f = h

add_listed : (ws st : List ℕ) (time : ℕ) (m : Message) (bs : List ℕ) → Stores adds (adding.add ws st time m bs)
unfolding adding.add adding.add_to Placed
add_listed ws st time m bs =
    stores_code adds (adding.arguments_code ws (length st) time m.lifetime (length bs)) ws st _ (arguments_code ws (length st) time m.lifetime (length bs))
    (go (look_up ws m.stream_id.0) (look_listed adds ws m.stream_id.0 refl refl))
  where
    lost : (x : Place) → Placed adds x → Code adds (adding.refused_place ws (length st) (length bs) x)
    lost (place.Row row) h = code_none adds
    lost (place.New q) h = code_none adds
    lost (place.Refused n) h = code_in adds _ (lost_listed ws (length st) (length bs) n (h n refl))

    go : (x : Place) → Placed adds x → Stores adds (adding.add_in ws st time m bs x)
    go x h =
        stores_code adds (adding.refused_place ws (length st) (length bs) x) ws st _ (lost x h)
        (stores_code adds (adding.message_code ws (length st) (adding.stream_for ws x) (length bs)) ws st _
        (message_code ws (length st) (adding.stream_for ws x) (length bs)) (stores_done adds 0 _ _))

abbrev restores : List ℕ
restores = 2 ∷ 4 ∷ 12 ∷ 13 ∷ 14 ∷ 15 ∷ []

image_code : (strict : Bool) (bs : List ℕ) (d len : ℕ) → Code restores (image_code_words strict bs d len)
unfolding image_code_words
image_code strict bs d len =
    code_pick restores (ltb (length bs) 20) _ _ (code_in restores 13 refl)
    (code_pick restores (rules_kept strict bs (trailer_in bs)) _ _
    (code_pick restores (eqb (trailer_in bs).default_priority d) _ _
    (code_pick restores (amounts_fit bs (trailer_in bs) len) _ _ (code_none restores) (code_in restores 15 refl)) (code_in restores 14 refl)) (code_in restores 13 refl))

restore_code : (ws : List ℕ) (len time : ℕ) (bs : List ℕ) → Code restores (restoring.restore_code ws len time bs)
unfolding restoring.restore_code
restore_code ws len time bs =
    code_pick restores (eqb (options_at ws).store_length len) _ _
    (code_pick restores (ltb 4611686018427387903 time) _ _ (code_in restores 4 refl)
    (code_pick restores (ltb 0 (totals_at ws).known) _ _ (code_in restores 12 refl)
    (code_pick restores (ltb 0 (totals_at ws).next_message_id.0) _ _ (code_in restores 12 refl) (image_code (options_at ws).strict_restart bs (options_at ws).default_priority len))))
    (code_in restores 2 refl)

restore_listed : (ws st : List ℕ) (time : ℕ) (bs : List ℕ) → Stores restores (restoring.restore ws st time bs)
unfolding restoring.restore
restore_listed ws st time bs =
    stores_code restores (restoring.restore_code ws (length st) time bs) ws st _ (restore_code ws (length st) time bs)
    (stores_pick restores (ltb (length bs) 20) _ _ (stores_refused restores 13 ws st refl) (stores_done restores 0 _ _))

-- ---- ready ids

unfoldable Readies : readying.Readied → Type 0
Readies r = call_refused r.answer.answer ≡ true → among (call_number r.answer.answer) (16 ∷ []) ≡ true

readies_pick : (b : Bool) (x y : readying.Readied) → Readies x → Readies y → Readies (pick b x y)
readies_pick true x y f g = f
readies_pick false x y f g = g

readies_refused : (ws : List ℕ) → Readies (readying.readied readying.refused_ready ws)
unfolding Readies
readies_refused ws e = refl

collected_listed : (ws us : List ℕ) (n : ℕ) → Readies (readying.readied (readying.collected ws n) us)
unfolding readying.collected Readies
collected_listed ws us zero = λ e. false_true e
collected_listed ws us (suc n) = go (readying.paused_at ws (known_at ws n).place) (collected_listed ws us n)
  where
    go : (b : Bool) → Readies (readying.readied (readying.collected ws n) us) → Readies (readying.readied (pick b (readying.one_more (readying.collected ws n) (known_at ws n).id.0) (readying.collected ws n)) us)
    go true f = λ e. false_true e
    go false f = f

ready_listed : (ws : List ℕ) → Readies (readying.ready ws)
unfolding readying.ready
ready_listed ws = readies_pick (readying.all_places_fit ws (totals_at ws).known) _ _ (collected_listed ws _ (totals_at ws).known) (readies_refused ws)

-- ---- questions

unfoldable Asks : Number → Type 0
Asks r = number_refused r ≡ true → among (number_number r) (16 ∷ []) ≡ true

asked_listed : (f : OutgoingStream → ℕ) (x : Looked) → Asks (asked f x)
unfolding Asks
asked_listed f (looked.Stream s) e = false_true e
asked_listed f looked.Broken e = refl

unfoldable Tells : Flag → Type 0
Tells r = flag_refused r ≡ true → among (flag_number r) (16 ∷ []) ≡ true

tells_pick : (b : Bool) (x y : Flag) → Tells x → Tells y → Tells (pick b x y)
tells_pick true x y f g = f
tells_pick false x y f g = g

tells_refused : Tells (flags.Refused 16)
unfolding Tells
tells_refused e = refl

tells_value : (b : Bool) → Tells (flags.Value b)
unfolding Tells
tells_value b e = false_true e

waits_listed : (x : Peeked) → Tells (waits x)
waits_listed (peeked.At i) = tells_value true
waits_listed peeked.Nothing = tells_value false
waits_listed peeked.Broken = tells_refused

among_listed : (ws : List ℕ) (i m : ℕ) → Tells (ready_among ws i m)
unfolding ready_among
among_listed ws i zero = tells_value false
among_listed ws i (suc m) =
    tells_pick (ltb 255 (known_at ws i).place) _ _ tells_refused
    (tells_pick (is_paused_words (stream_at_words ws (known_at ws i).place).pause_state) _ _ (tells_value true) (among_listed ws (suc i) m))

streams_listed : (ws : List ℕ) → Tells (ready_of ws)
unfolding ready_of
streams_listed ws = tells_pick (ltb 256 (known_count ws)) _ _ tells_refused (among_listed ws 0 (known_count ws))

-- The number of ready ids is refused exactly where they are.
count_listed : (ws : List ℕ) → Asks (readying.ready_count ws)
unfolding Asks Readies readying.ready_count
count_listed ws = go (readying.ready ws).answer.answer (ready_listed ws)
  where
    go : (a : Call) → (call_refused a ≡ true → among (call_number a) (16 ∷ []) ≡ true)
        → number_refused (readying.count_of a (readying.ready ws).answer.count) ≡ true → among (number_number (readying.count_of a (readying.ready ws).answer.count)) (16 ∷ []) ≡ true
    go (call.Accepted k) f e = false_true e
    go (call.Refused n) f e = f e

priority_asked : (ws : List ℕ) (id : ℕ) → Asks (priority_of_words ws id)
unfolding priority_of_words
priority_asked ws id = asked_listed _ (stream_or_new ws id)

amount_asked : (ws : List ℕ) (id : ℕ) → Asks (amount_of_words ws id)
unfolding amount_of_words
amount_asked ws id = asked_listed _ (stream_or_new ws id)

threshold_asked : (ws : List ℕ) (id : ℕ) → Asks (threshold_of ws id)
unfolding threshold_of
threshold_asked ws id = asked_listed _ (stream_or_new ws id)

data_asked : (ws : List ℕ) → Tells (data_of ws)
unfolding data_of
data_asked ws = waits_listed (peek_words ws)

-- ---- the next fragment

-- Its calls are refused with 16 alone, which is in the list.
module _ (l : List ℕ) (has : among 16 l ≡ true) where
  unfoldable Sends : ProducedWith → Type 0
  Sends r = sent_refused r.answer ≡ true → among (produced_number r.answer) l ≡ true

  sends_pick : (b : Bool) (x y : ProducedWith) → Sends x → Sends y → Sends (pick b x y)
  sends_pick true x y f g = f
  sends_pick false x y f g = g

  sends_refused : (n : ℕ) (ws es bs : List ℕ) → among n l ≡ true → Sends (refused_with n ws es bs)
  unfolding Sends
  sends_refused n ws es bs h e = h

  sends_nothing : (k : ℕ) (ws es bs : List ℕ) → Sends (produced_with (produced.Nothing k) ws es bs)
  unfolding Sends
  sends_nothing k ws es bs e = false_true e

  sends_code : (n : ℕ) (ws es bs : List ℕ) (y : ProducedWith) → Code l n → Sends y → Sends (pick (ltb 0 n) (refused_with n ws es bs) y)
  unfolding Code
  sends_code n ws es bs y h g = go (ltb 0 n) h
    where
      go : (b : Bool) → (b ≡ true → among n l ≡ true) → Sends (pick b (refused_with n ws es bs) y)
      go true f = sends_refused n ws es bs (f refl)
      go false f = g

  send_code_lem : (ws : List ℕ) (len : ℕ) (s : OutgoingStream) (m : Item) (n room : ℕ) → Code l (send_code ws len s m n room)
  unfolding send_code
  send_code_lem ws len s m n room =
      code_pick l (ltb (rest m) n) _ _ (code_in l 16 has)
      (code_pick l (ltb 0 (read_code ws len s.first m.offset n room)) _ _ (code_in l 16 has) (head_code_lem l has ws s s.first m.next n))

  -- a fragment that is not refused
  sends_fragment : (a : Produced) (ws es bs : List ℕ) → sent_refused a ≡ false → Sends (produced_with a ws es bs)
  unfolding Sends
  sends_fragment a ws es bs f e = false_true (sym f ∙ e)

  sent_listed : (ws st es bs : List ℕ) (k at id row : ℕ) (s : OutgoingStream) (m : Item) (n : ℕ) → Sends (sent ws st es bs k at id row s m n)
  unfolding sent
  sent_listed ws st es bs k at id row s m n =
      sends_code (send_code ws (length st) s m n (length bs)) ws es bs _ (send_code_lem ws (length st) s m n (length bs)) (sends_fragment _ _ _ _ refl)

  handed_listed : (ws st es bs : List ℕ) (size k at id row : ℕ) → Sends (handed_out_words ws st es bs size k at id row)
  unfolding handed_out_words
  handed_listed ws st es bs size k at id row =
      sends_pick (ltb 2303 k) _ _ (sends_refused 16 ws es bs has)
      (sends_pick (ltb 255 at) _ _ (sends_refused 16 ws es bs has)
      (sends_pick (ltb 255 row) _ _ (sends_refused 16 ws es bs has)
      (sends_pick (ltb 1023 (stream_at_words ws row).first) _ _ (sends_refused 16 ws es bs has)
      (sent_listed ws st es bs k at id row (stream_at_words ws row) (item_at ws (stream_at_words ws row).first) (least_of (active_at ws at).bytes_remaining size)))))

  after_listed : (expired : ℕ → ℕ → ProducedWith) (ws st es bs : List ℕ) (size k : ℕ) → ((id row : ℕ) → Sends (expired id row)) → (x : Look) → Sends (after_look expired ws st es bs size k x)
  after_listed expired ws st es bs size k h look.Nothing = sends_pick (ltb 2305 k) _ _ (sends_refused 16 ws es bs has) (sends_nothing k ws es bs)
  after_listed expired ws st es bs size k h look.Broken = sends_refused 16 ws es bs has
  after_listed expired ws st es bs size k h (look.Expired id row) = h id row
  after_listed expired ws st es bs size k h (look.Chosen at id row) = handed_listed ws st es bs size k at id row

  -- an expired head dropped
  expired_listed : (ws es : List ℕ) (k id row : ℕ) → Loud l (expired_dropped ws es k id row)
  unfolding expired_dropped
  expired_listed ws es k id row =
      loud_pick l (ltb 255 row) _ _ (loud_refused l 16 ws es has)
      (loud_pick l (ltb 1023 (stream_at_words ws row).first) _ _ (loud_refused l 16 ws es has)
      (head_listed l has ws es k id row (stream_at_words ws row) (item_at ws (stream_at_words ws row).first)))

  drop_listed : (again : List ℕ → List ℕ → ℕ → ProducedWith) (ws es bs : List ℕ) → ((l e : List ℕ) (j : ℕ) → Sends (again l e j)) → (a : Call) → (call_refused a ≡ true → among (call_number a) l ≡ true) → Sends (after_drop again ws es bs a)
  drop_listed again ws es bs h (call.Accepted k) f = h ws es k
  drop_listed again ws es bs h (call.Refused n) f = sends_refused n ws es bs (f refl)

  turn_listed : (again : List ℕ → List ℕ → ℕ → ProducedWith) (bs : List ℕ) → ((l e : List ℕ) (j : ℕ) → Sends (again l e j)) → (c : CalledWith) → Loud l c → Sends (after_call again bs c)
  unfolding Loud
  turn_listed again bs h c f = drop_listed again c.next c.events bs h c.answer f

  pass_listed : (n : ℕ) (ws st es bs : List ℕ) (time size k : ℕ) → Sends (pass_over_words n ws st es bs time size k)
  unfolding pass_over_words
  pass_listed zero ws st es bs time size k = after_listed _ ws st es bs size k (λ id row. sends_refused 16 ws es bs has) (look_ahead ws time)
  pass_listed (suc n) ws st es bs time size k =
      after_listed _ ws st es bs size k (λ id row. turn_listed (λ (l e : List ℕ) (j : ℕ). pass_over_words n l st e bs time size j) bs (λ l e j. pass_listed n l st e bs time size j) (expired_dropped ws es k id row) (expired_listed ws es k id row)) (look_ahead ws time)

  settled_listed : (ws es bs : List ℕ) (p : ProducedWith) → Sends p → Sends (settled_as ws es bs p p.answer)
  unfolding Sends
  settled_listed ws es bs p h = go p.answer refl
    where
      go : (a : Produced) → p.answer ≡ a → Sends (settled_as ws es bs p a)
      go (produced.Nothing k) e = h
      go (produced.Fragment k d) e = h
      go (produced.Refused n) e = λ z. let u : sent_refused p.answer ≡ true → among (produced_number p.answer) l ≡ true = h in rw e at u refl

  past_listed : (ws st es bs : List ℕ) (time size k : ℕ) → Sends (produced_past ws st es bs time size k)
  unfolding produced_past past_from
  past_listed ws st es bs time size k =
      sends_pick (ltb 1024 (totals_at ws).waiting) _ _ (sends_refused 16 ws es bs has)
      (settled_listed ws es bs (pass_over_words (totals_at ws).waiting ws st es bs time size k) (pass_listed (totals_at ws).waiting ws st es bs time size k))

  -- the next fragment after k events
  next_listed : (ws st es bs : List ℕ) (time size k : ℕ) → Sends (produced_after ws st es bs time size k)
  unfolding produced_after
  next_listed ws st es bs time size k = after_listed _ ws st es bs size k (λ id row. past_listed ws st es bs time size k) (look_ahead ws time)

abbrev sending : List ℕ
sending = 2 ∷ 3 ∷ 4 ∷ 9 ∷ 10 ∷ 16 ∷ []

produce_code_lem : (ws : List ℕ) (len places room time size : ℕ) → Code sending (produce_code ws len places room time size)
unfolding produce_code
produce_code_lem ws len places room time size =
    code_pick sending (eqb (options_at ws).store_length len) _ _
    (code_pick sending (ltb places event_words) _ _ (code_in sending 3 refl)
    (code_pick sending (ltb 4611686018427387903 time) _ _ (code_in sending 4 refl)
    (code_pick sending (eqb size 0) _ _ (code_in sending 9 refl)
    (code_pick sending (ltb 262144 size) _ _ (code_in sending 9 refl)
    (code_pick sending (ltb room size) _ _ (code_in sending 10 refl) (code_none sending))))))
    (code_in sending 2 refl)

produce_listed : (ws st es bs : List ℕ) (time size : ℕ) → Sends sending refl (produce_next ws st es bs time size)
unfolding produce_next
produce_listed ws st es bs time size =
    sends_code sending refl (produce_code ws (length st) (length es) (length bs) time size) ws es bs _ (produce_code_lem ws (length st) (length es) (length bs) time size) (next_listed sending refl ws st es bs time size 0)

-- ---- filling a packet

abbrev packing : List ℕ
packing = 20 ∷ 21 ∷ 2 ∷ 3 ∷ 4 ∷ 16 ∷ []

packing_code : (ws : List ℕ) (len places room time limit : ℕ) → Code packing (fill_code ws len places room time limit)
unfolding fill_code
packing_code ws len places room time limit =
    code_pick packing (ltb limit 36) _ _ (code_in packing 20 refl)
    (code_pick packing (ltb 65535 limit) _ _ (code_in packing 20 refl)
    (code_pick packing (ltb room limit) _ _ (code_in packing 21 refl)
    (code_pick packing (eqb (options_at ws).store_length len) _ _
    (code_pick packing (ltb places event_words) _ _ (code_in packing 3 refl)
    (code_pick packing (ltb 4611686018427387903 time) _ _ (code_in packing 4 refl) (code_none packing)))
    (code_in packing 2 refl))))

-- The refusal that ends the calls, if any, is of the list.
unfoldable Ends : FillingWith → Type 0
Ends f = Code packing f.progress.code

ends_reached : (used k chunks : ℕ) (ws es bs : List ℕ) → Ends (filling_with (reached used k chunks 0) ws es bs)
unfolding Ends
ends_reached used k chunks ws es bs = code_none packing

ends_refused : (used k chunks code : ℕ) (ws es bs : List ℕ) → among code packing ≡ true → Ends (filling_with (reached used k chunks code) ws es bs)
unfolding Ends
ends_refused used k chunks code ws es bs h = code_in packing code h

-- the number of a refused call
refused_number : (p : ProducedWith) (code : ℕ) → p.answer ≡ produced.Refused code → Sends packing refl p → among code packing ≡ true
unfolding Sends
refused_number p code e h = let u : sent_refused p.answer ≡ true → among (produced_number p.answer) packing ≡ true = h in rw e at u refl

one_listed : (k : ChunkKind) (st : List ℕ) (time : ℕ) (ws es bs : List ℕ) (used j tsn size : ℕ) → Sends packing refl (one_filled k st time ws es bs used j tsn size)
unfolding one_filled Sends
one_listed k st time ws es bs used j tsn size = next_listed packing refl ws st es _ time size j

-- a number that is not 0 is of the list
coded : (n : ℕ) → Code packing n → ltb 0 n ≡ true → among n packing ≡ true
unfolding Code
coded n h e = h e

finished_listed : (r : Filling) → Code packing r.code → fill_refused (finished_answer r) ≡ true → among (filled_number (finished_answer r)) packing ≡ true
unfolding finished_answer
finished_listed r h = go (eqb r.chunks 0) (ltb 0 r.code) refl
  where
    go : (a b : Bool) → ltb 0 r.code ≡ b
        → let x = pick a (pick b (packet.Refused r.code) (packet.Filled r.events 0 0)) (packet.Filled r.events r.used r.chunks) in fill_refused x ≡ true → among (filled_number x) packing ≡ true
    go true true e f = coded r.code h e
    go true false e f = false_true f
    go false b e f = false_true f

fills_listed : (turns : ℕ) (k : ChunkKind) (st : List ℕ) (time limit most : ℕ) (ws es bs : List ℕ) (used j chunks tsn : ℕ) → Ends (fill_on_words turns k st time limit most ws es bs used j chunks tsn)
unfolding fill_on_words
fills_listed zero k st time limit most ws es bs used j chunks tsn = ends_reached used j chunks ws es bs
fills_listed (suc turns) k st time limit most ws es bs used j chunks tsn =
    go (λ l v b u i c t. fills_listed turns k st time limit most l v b u i c t) (eqb (size_asked_words k limit most used) 0)
  where
    p : ProducedWith
    p = one_filled k st time ws es bs used j tsn (size_asked_words k limit most used)

    Again : Type 0
    Again = (l v b : List ℕ) (u i c t : ℕ) → Ends (fill_on_words turns k st time limit most l v b u i c t)

    listed_one : Sends packing refl (one_filled k st time ws es bs used j tsn (size_asked_words k limit most used))
    listed_one = one_listed k st time ws es bs used j tsn (size_asked_words k limit most used)

    on : Again → (r : Produced) → p.answer ≡ r → Ends (after_one (λ (l v b : List ℕ) (u i c t : ℕ). fill_on_words turns k st time limit most l v b u i c t) k used j chunks tsn p.words p.events p.buffer r)
    on g (produced.Fragment i d) e = g p.words p.events p.buffer (used + padded (header_size k + d.«data».length)) i (chunks + 1) (wrap_suc 32 tsn)
    on g (produced.Nothing i) e = ends_reached used i chunks p.words p.events p.buffer
    on g (produced.Refused code) e = ends_refused used j chunks code p.words p.events p.buffer (refused_number p code e listed_one)

    go : Again → (b : Bool) → Ends (pick b (filling_with (reached used j chunks 0) ws es bs) (and_on_words (λ (l v b : List ℕ) (u i c t : ℕ). fill_on_words turns k st time limit most l v b u i c t) k used j chunks tsn p))
    go g true = ends_reached used j chunks ws es bs
    go g false = on g p.answer refl

fill_listed : (ws st es bs : List ℕ) (time : ℕ) (p : Packet) → fill_refused (fill_packet ws st es bs time p).answer ≡ true → among (filled_number (fill_packet ws st es bs time p).answer) packing ≡ true
unfolding fill_packet Ends
fill_listed ws st es bs time p = judged (ltb 0 (fill_code ws (length st) (length es) (length bs) time p.limit)) refl
  where
    f : FillingWith
    f = fill_on_words p.limit (kind_of (totals_at ws).interleaving) st time p.limit (options_at ws).payload_limit ws es bs common_header_length 0 0 p.tsn

    judged : (b : Bool) → ltb 0 (fill_code ws (length st) (length es) (length bs) time p.limit) ≡ b
        → let x = pick b (filled_with_words (packet.Refused (fill_code ws (length st) (length es) (length bs) time p.limit)) ws es bs) (finished p f) in fill_refused x.answer ≡ true → among (filled_number x.answer) packing ≡ true
    judged true e h = coded (fill_code ws (length st) (length es) (length bs) time p.limit) (packing_code ws (length st) (length es) (length bs) time p.limit) e
    judged false e h = finished_listed f.progress (fills_listed p.limit (kind_of (totals_at ws).interleaving) st time p.limit (options_at ws).payload_limit ws es bs common_header_length 0 0 p.tsn) h

-- ---- the theorem

pub refusals_listed : RefusalsListed
unfolding step Quiet Loud Stores Readies Asks Tells Sends
refusals_listed (add time m payload) s e = add_listed s.words s.store time m payload e
refusals_listed (produce es bs time size) s e = produce_listed s.words s.store es bs time size e
refusals_listed (fill es bs time p) s e = fill_listed s.words s.store es bs time p e
refusals_listed (discard es id k) s e = discard_listed s.words es id k e
refusals_listed (close es id) s e = close_listed s.words es id e
refusals_listed ready_ids s e = ready_listed s.words e
refusals_listed commit s e = reopen_listed true s.words e
refusals_listed rollback s e = reopen_listed false s.words e
refusals_listed reset s e = reset_listed s.words e
refusals_listed (set_threshold es id t) s e = threshold_listed s.words es id t e
refusals_listed (set_priority id p) s e = priority_listed s.words id p e
refusals_listed (set_interleaving b) s e = switch_listed b s.words e
refusals_listed (restore time image) s e = restore_listed s.words s.store time image e
refusals_listed (ask_priority id) s e = priority_asked s.words id e
refusals_listed (ask_amount id) s e = amount_asked s.words id e
refusals_listed (ask_threshold id) s e = threshold_asked s.words id e
refusals_listed ask_total s e = false_true e
refusals_listed ask_empty s e = false_true e
refusals_listed ask_has_data s e = data_asked s.words e
refusals_listed ask_streams_ready s e = streams_listed s.words e
refusals_listed ask_ready_count s e = count_listed s.words e
refusals_listed ask_readiness s e = false_true e
refusals_listed (ask_room r) s e = false_true e
