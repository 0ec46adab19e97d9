-- Refusal 16 where document 01 asks for it, on any words. Assumes nothing.
use mathlib.Core.Path.{◌≡◌, refl, sym, ap, ◌∙◌, subst}
use mathlib.Core.Bool.{Bool, true, false}
use mathlib.Core.List.{List}
use mathlib.Core.Logic.{◌⊎◌, inl, inr}
use Prim.Native.Nat.{ℕ, zero, suc, ◌+◌, ◌-◌, ◌≤◌, ◌<◌}
use native.Mathlib.Omega.{arith}
use borrow.Author.Tests.{lt-ltb, le-ltb, eq-eqb, ne_eqb, ltb-true, ltb-false}
use lib.Dec.{ltb, leb, eqb}
use lib.ListN.{length}
use Rattle.queue_words.proofs.Finds.{find_broken}
use Rattle.queue_words.specs.Active.{active_at}
use Rattle.queue_words.specs.Find.{find_stream_words}
use Rattle.queue_words.specs.Flags.{pick}
use Rattle.queue_words.specs.Header.{options_at, totals_at, scheduler_at}
use Rattle.queue_words.specs.Items.{item_at}
use Rattle.queue_words.specs.Known.{known_at, known_count}
use Rattle.queue_words.specs.Streams.{is_open, stream_at_words}
use Rattle.queue_words.specs.declared.items.Item.{Item}
use Rattle.queue_words.specs.declared.known.Found.TheVariants as found
use Rattle.queue_words.specs.declared.known.Known.{Known}
use Rattle.queue_words.specs.declared.streams.OutgoingStream.{OutgoingStream}
use Rattle.payload_store.proofs.Cases.{by_index, pick_else, pick_both, false_true}
use Rattle.payload_store.specs.Reading.{read_code}
use Rattle.queue_questions.specs.Questions.{priority_of_words, amount_of_words, threshold_of, stream_or_new, ready_of}
use Rattle.queue_streams.specs.Answers.{call_number, number_number}
use Rattle.queue_streams.specs.Events.{event_words}
use Rattle.queue_streams.specs.Known.{look_up, new_stream_words}
use Rattle.queue_streams.specs.Restart.{reopen, set_interleaving_words, alike}
use Rattle.queue_streams.specs.Settings.{Called, called, called_with, set_priority_words, set_threshold_words}
use Rattle.queue_streams.specs.Waiting.{tally_stream, tally_known, tally, room_for, passed_over}
use Rattle.queue_streams.specs.Call as call
use Rattle.queue_streams.specs.Place as place
use Rattle.queue_streams.specs.declared.waiting.Tally.{Tally}
use Rattle.stream_scheduler.specs.Words.{waits_in}
use Rattle.message_chains.specs.Amounts.{rest}
use Rattle.message_chains.specs.Dropping.{dropped_in_state}
use Rattle.message_chains.specs.Heads.{head_code}
use Rattle.queue_closing.specs.Close as closing
use Rattle.queue_closing.specs.Walk.{may_go, walk_item, walk, walk_from, walk_failed, may_sweep}
use Rattle.queue_closing.specs.declared.close.Walk.{Walk}
use Rattle.queue_messages.specs.Add as adding
use Rattle.queue_messages.specs.Discard as discarding
use Rattle.queue_messages.specs.declared.message.Message.{Message}
use Rattle.queue_restarts.specs.Ready as readying
use Rattle.queue_restarts.specs.Reset.{reset_queue, sum_of, sum_all, sum_known, sum_stream}
use Rattle.queue_restarts.specs.declared.whole.Sum.{Sum}
use Rattle.queue_sending.specs.Choice.{look_ahead, look_for_words, look_at_words}
use Rattle.queue_sending.specs.Data.{produced_number, refused_with}
use Rattle.queue_sending.specs.Fragment.{handed_out_words, sent, send_code, least_of}
use Rattle.queue_sending.specs.Produce.{produce_next, produced_after, produced_past, past_from, pass_over_words, expired_dropped}
use Rattle.queue_sending.specs.Look as look
use Rattle.queue_sending.specs.Produced as produced
use Rattle.queue_runs.specs.Run.{State, step}
use Rattle.queue_runs.specs.Broken.{Unplaced, UnplacedIsSixteen, LostIsSixteen, CrowdedIsSixteen, AstrayIsSixteen, ChosenBare, ChosenBareIsSixteen, Short, head_of, Unfit, UnfitChosenIsSixteen, UnfitExpiredIsSixteen, UnfitHeadIsSixteen, rest_from, in_table, dropped_from, ShortClosingIsSixteen, Over, NoPlace, OverIsSixteen, put_back_at, put_back_by, OverReset, OverResetIsSixteen}

-- one refusal before another
pick_16 : (b : Bool) {n : ℕ} → n ≡ 16 → pick b 16 n ≡ 16
pick_16 true e = refl
pick_16 false e = e

-- ------------------------------------------------------------------ all known streams: a place outside its table

-- the walk of ready ids
places_not : (ws : List ℕ) (i n j : ℕ) → i ≤ j → j < i + n → 255 < (known_at ws j).place → readying.places_fit ws i n ≡ false
unfolding readying.places_fit
places_not ws i zero j h l o = absurd (omega arith)
places_not ws i (suc n) j h l o = by_index i j
    (λ e. rw (lt-ltb 255 (known_at ws i).place (subst (λ x. 255 < (known_at ws x).place) (sym e) o)))
    (λ ne. go (ltb 255 (known_at ws i).place) (places_not ws (suc i) n j (omega arith) (omega arith) o))
  where
    go : (b : Bool) → readying.places_fit ws (suc i) n ≡ false → pick b false (readying.places_fit ws (suc i) n) ≡ false
    go true e = refl
    go false e = e

-- the walk that settles the scheduler's rows: what does not fit stays so
stream_unfit : (ws : List ℕ) (all : Bool) (id : ℕ) (s : OutgoingStream) (t : Tally) → t.fits ≡ false → (tally_stream ws all id s t).fits ≡ false
unfolding tally_stream
stream_unfit ws all id s t e = go (passed_over all s.pause_state) (ltb 1024 s.first) (eqb s.first 1024) (waits_in ws id)
  where
    go : (a b c d : Bool) → (pick a t (pick b (record { fits = false; rows = t.rows }) (pick c t (pick d t (record { fits = t.fits; rows = t.rows + 1 }))))).fits ≡ false
    go true b c d = e
    go false true c d = refl
    go false false true d = e
    go false false false true = e
    go false false false false = e

known_unfit : (ws : List ℕ) (all : Bool) (k : Known) (t : Tally) → t.fits ≡ false → (tally_known ws all k t).fits ≡ false
unfolding tally_known
known_unfit ws all k t e = go (ltb 255 k.place)
  where
    go : (b : Bool) → (pick b (record { fits = false; rows = t.rows }) (tally_stream ws all k.id.0 (stream_at_words ws k.place) t)).fits ≡ false
    go true = refl
    go false = stream_unfit ws all k.id.0 (stream_at_words ws k.place) t e

known_outside : (ws : List ℕ) (all : Bool) (k : Known) (t : Tally) → 255 < k.place → (tally_known ws all k t).fits ≡ false
unfolding tally_known
known_outside ws all k t o = rw (lt-ltb 255 k.place o)

tally_unfit : (ws : List ℕ) (all : Bool) (n j : ℕ) → j < n → 255 < (known_at ws j).place → (tally ws all n).fits ≡ false
unfolding tally
tally_unfit ws all zero j h o = absurd (omega arith)
tally_unfit ws all (suc n) j h o = by_index n j
    (λ e. known_outside ws all (known_at ws n) (tally ws all n) (subst (λ x. 255 < (known_at ws x).place) (sym e) o))
    (λ ne. known_unfit ws all (known_at ws n) (tally ws all n) (tally_unfit ws all n j (omega arith) o))

no_room : (ws : List ℕ) (all : Bool) → Unplaced ws → room_for ws all ≡ false
unfolding room_for
no_room ws all (inl p) = go (ltb 256 (known_count ws)) (ltb 256 (scheduler_at ws).active) (tally ws all (known_count ws)).fits (tally_unfit ws all (known_count ws) p.at p.known p.outside)
  where
    go : (a b c : Bool) → c ≡ false → pick a false (pick b false (pick c (leb (tally ws all (known_count ws)).rows 256) false)) ≡ false
    go true b c e = refl
    go false true c e = refl
    go false false c e = rw e
no_room ws all (inr h) = rw (lt-ltb 256 (known_count ws) h)

not_all_fit : (ws : List ℕ) → Unplaced ws → readying.all_places_fit ws (totals_at ws).known ≡ false
unfolding readying.all_places_fit
not_all_fit ws (inl p) = go (ltb 256 (totals_at ws).known) (readying.places_fit ws 0 (totals_at ws).known) (places_not ws 0 (totals_at ws).known p.at (omega arith) (omega (arith, p.known)) p.outside)
  where
    go : (a b : Bool) → b ≡ false → pick a false b ≡ false
    go true b e = refl
    go false b e = e
not_all_fit ws (inr h) = rw (lt-ltb 256 (totals_at ws).known h)

ready_16 : (ws : List ℕ) → Unplaced ws → call_number (readying.ready ws).answer.answer ≡ 16
unfolding readying.ready
ready_16 ws p = rw (not_all_fit ws p)

count_16 : (ws : List ℕ) → Unplaced ws → number_number (readying.ready_count ws) ≡ 16
unfolding readying.ready_count readying.ready
count_16 ws p = rw (not_all_fit ws p)

reopen_16 : (z : Bool) (ws : List ℕ) → Unplaced ws → call_number (reopen z ws).answer ≡ 16
unfolding reopen
reopen_16 z ws p = rw (no_room ws false p)

reset_16 : (ws : List ℕ) → Unplaced ws → call_number (reset_queue ws).answer ≡ 16
unfolding reset_queue
reset_16 ws p = rw (no_room ws true p)

switch_16 : (b : Bool) (ws : List ℕ) → Unplaced ws → alike b (totals_at ws).interleaving ≡ false → call_number (set_interleaving_words b ws).answer ≡ 16
unfolding set_interleaving_words
switch_16 b ws p e = rw (e, no_room ws true p)

pub unplaced_is_sixteen : UnplacedIsSixteen
unfolding step
unplaced_is_sixteen s p = record {
  by_ready_ids = ready_16 s.words p;
  by_ask_count = count_16 s.words p;
  by_commit = reopen_16 true s.words p;
  by_rollback = reopen_16 false s.words p;
  by_reset = reset_16 s.words p;
  by_switch = λ b e. switch_16 b s.words p e;
}

-- ------------------------------------------------------------------ a stream that is not found

lost_place : (ws : List ℕ) (id : ℕ) → find_stream_words ws id ≡ found.Broken → look_up ws id ≡ place.Refused 16
unfolding look_up
lost_place ws id e = rw e

add_lost : (s : State) (id time : ℕ) (m : Message) (payload : List ℕ) → find_stream_words s.words id ≡ found.Broken → m.stream_id.0 ≡ id
    → adding.arguments_code s.words (length s.store) time m.lifetime (length payload) ≡ 0 → adding.full_code s.words (length s.store) (length payload) ≡ 0
    → call_number (adding.add s.words s.store time m payload).answer ≡ 16
unfolding adding.add adding.lost_code
add_lost s id time m payload b e a f = rw (a, e, lost_place s.words id b, f)

pub lost_is_sixteen : LostIsSixteen
unfolding step discarding.discard closing.close set_threshold_words set_priority_words priority_of_words amount_of_words threshold_of stream_or_new
lost_is_sixteen s id b = record {
  by_add = λ time m payload e a f. add_lost s id time m payload b e a f;
  by_discard = λ es message h. rw (le-ltb (length es) event_words h, b);
  by_close = λ es h. rw (le-ltb (length es) event_words h, lost_place s.words id b);
  by_threshold = λ es t h. rw (le-ltb (length es) event_words h, lost_place s.words id b);
  by_priority = λ p. rw (lost_place s.words id b);
  by_ask_priority = rw b;
  by_ask_amount = rw b;
  by_ask_threshold = rw b;
}

pub crowded_is_sixteen : CrowdedIsSixteen
unfolding step ready_of
crowded_is_sixteen s h = record {
  each = λ id. lost_is_sixteen s id (find_broken s.words id h);
  by_ask_ready = rw (lt-ltb 256 (known_count s.words) h);
}

pub astray_is_sixteen : AstrayIsSixteen
unfolding step discarding.discard discarding.discard_in closing.close closing.close_in closing.close_open_words look_up
astray_is_sixteen s id position row f h = record {
  by_discard = λ es message l. rw (le-ltb (length es) event_words l, f, lt-ltb 1024 (stream_at_words s.words row).first h);
  by_close = λ es l o. rw (le-ltb (length es) event_words l, f, o, lt-ltb 1024 (stream_at_words s.words row).first h);
}

-- ------------------------------------------------------------------ a choice without a message

bare_look : (ws : List ℕ) (time : ℕ) → ChosenBare ws → look_ahead ws time ≡ look.Broken
unfolding look_ahead look_for_words look_at_words
bare_look ws time p = rw (p.chosen, le-ltb 255 p.at (omega (arith, p.in_table_lem)), p.found_at, lt-ltb 1023 (stream_at_words ws p.row).first (omega (arith, p.bare)))

pub chosen_bare_is_sixteen : ChosenBareIsSixteen
unfolding step produce_next produced_after
chosen_bare_is_sixteen s es bs time size p e = rw (e, bare_look s.words time p)

-- ------------------------------------------------------------------ an amount that would fall below 0

head_unfit : (ws : List ℕ) (s : OutgoingStream) (m : Item) (n : ℕ) → Unfit ws s m n → head_code ws s s.first m.next n ≡ 16
unfolding head_code
head_unfit ws s m n (inl (inl h)) = rw (lt-ltb (totals_at ws).total n h)
head_unfit ws s m n (inl (inr h)) = pick_16 (ltb (totals_at ws).total n) (rw (lt-ltb s.buffered_amount n h))
head_unfit ws s m n (inr h) = pick_16 (ltb (totals_at ws).total n) (pick_16 (ltb s.buffered_amount n) (pick_16 (eqb (totals_at ws).waiting 0) (rw (lt-ltb 1024 m.next h))))

-- the next fragment of a head
send_unfit : (ws : List ℕ) (len : ℕ) (s : OutgoingStream) (m : Item) (n room : ℕ) → Unfit ws s m n → send_code ws len s m n room ≡ 16
unfolding send_code
send_unfit ws len s m n room h = go (ltb (rest m) n) (ltb 0 (read_code ws len s.first m.offset n room)) (head_unfit ws s m n h)
  where
    go : (a b : Bool) → head_code ws s s.first m.next n ≡ 16 → pick a 16 (pick b 16 (head_code ws s s.first m.next n)) ≡ 16
    go true b e = refl
    go false true e = refl
    go false false e = e

handed_unfit : (s : State) (es bs : List ℕ) (size at id row : ℕ) → Unfit s.words (stream_at_words s.words row) (head_of s.words row) (least_of (active_at s.words at).bytes_remaining size)
    → produced_number (handed_out_words s.words s.store es bs size 0 at id row).answer ≡ 16
unfolding handed_out_words sent
handed_unfit s es bs size at id row h = go (ltb 255 at) (ltb 255 row) (ltb 1023 (stream_at_words s.words row).first) (send_unfit s.words (length s.store) (stream_at_words s.words row) (head_of s.words row) n (length bs) h)
  where
    n : ℕ
    n = least_of (active_at s.words at).bytes_remaining size

    go : (a b c : Bool) → send_code s.words (length s.store) (stream_at_words s.words row) (head_of s.words row) n (length bs) ≡ 16
        → produced_number (pick a (refused_with 16 s.words es bs) (pick b (refused_with 16 s.words es bs) (pick c (refused_with 16 s.words es bs)
        (sent s.words s.store es bs 0 at id row (stream_at_words s.words row) (head_of s.words row) n)))).answer ≡ 16
    go true b c e = refl
    go false true c e = refl
    go false false true e = refl
    go false false false e = rw e

pub unfit_chosen_is_sixteen : UnfitChosenIsSixteen
unfolding step produce_next produced_after
unfit_chosen_is_sixteen s es bs time size at id row e l h = rw (e, l) (handed_unfit s es bs size at id row h)

-- an expired head
dropped_unfit : (ws es : List ℕ) (k id row : ℕ) → Unfit ws (stream_at_words ws row) (head_of ws row) (rest (head_of ws row)) → (expired_dropped ws es k id row).answer ≡ call.Refused 16
unfolding expired_dropped dropped_in_state
dropped_unfit ws es k id row h = go (ltb 255 row) (ltb 1023 (stream_at_words ws row).first) (head_unfit ws (stream_at_words ws row) (head_of ws row) (rest (head_of ws row)) h)
  where
    go : (a b : Bool) → head_code ws (stream_at_words ws row) (stream_at_words ws row).first (head_of ws row).next (rest (head_of ws row)) ≡ 16
        → (pick a (called_with (call.Refused 16) ws es) (pick b (called_with (call.Refused 16) ws es) (dropped_in_state ws es k id row (stream_at_words ws row) (head_of ws row)))).answer ≡ call.Refused 16
    go true b e = refl
    go false true e = refl
    go false false e = rw e

past_unfit : (n : ℕ) (s : State) (es bs : List ℕ) (time size id row : ℕ) → look_ahead s.words time ≡ look.Expired id row → Unfit s.words (stream_at_words s.words row) (head_of s.words row) (rest (head_of s.words row))
    → (pass_over_words n s.words s.store es bs time size 0).answer ≡ produced.Refused 16
unfolding pass_over_words
past_unfit zero s es bs time size id row l h = rw l
past_unfit (suc n) s es bs time size id row l h = rw (l, dropped_unfit s.words es 0 id row h)

pub unfit_expired_is_sixteen : UnfitExpiredIsSixteen
unfolding step produce_next produced_after produced_past past_from
unfit_expired_is_sixteen s es bs time size id row e l h = rw (e, l) (go (ltb 1024 (totals_at s.words).waiting))
  where
    go : (b : Bool) → produced_number (pick b (refused_with 16 s.words es bs) (past_from s.words s.store es bs time size (totals_at s.words).waiting 0)).answer ≡ 16
    go true = refl
    go false = rw (past_unfit (totals_at s.words).waiting s es bs time size id row l h)

pub unfit_head_is_sixteen : UnfitHeadIsSixteen
unfolding step discarding.discard discarding.discard_in dropped_in_state
unfit_head_is_sixteen s es id message p h =
    rw (
      le-ltb (length es) event_words h,
      p.found_at,
      le-ltb 1024 (stream_at_words s.words p.row).first (omega (arith, p.has_head)),
      ne_eqb (stream_at_words s.words p.row).first 1024 (λ e. omega (arith, p.has_head)),
      eq-eqb (head_of s.words p.row).message_id.0 message p.meant,
      head_unfit s.words (stream_at_words s.words p.row) (head_of s.words p.row) (rest (head_of s.words p.row)) p.unfit,
    )

-- ------------------------------------------------------------------ closing: the messages that it drops

-- a message that may go has no more left than both amounts have
goes_of : (w : Walk) (m : Item) → may_go w m (rest m) ≡ true → (rest m ≤ w.total) × (rest m ≤ w.amount)
unfolding may_go
goes_of w m e =
    let a = pick_else (ltb 0 m.offset) false _ true (λ x. false_true x) e in
    let b = pick_else (eqb m.length 0) false _ true (λ x. false_true x) a.1 in
    let c = pick_else (ltb w.used m.length) false _ true (λ x. false_true x) b.1 in
    let d = pick_else (ltb w.total (rest m)) false _ true (λ x. false_true x) c.1 in
    let f = pick_else (ltb w.amount (rest m)) false _ true (λ x. false_true x) d.1 in
    (ltb-false w.total (rest m) d.0, ltb-false w.amount (rest m) f.0)

-- a test that has failed stays so
failed_stays : (ws : List ℕ) (w : Walk) (f : ℕ) → (walk ws (walk_failed w) f).fits ≡ false
unfolding walk
failed_stays ws w zero = refl
failed_stays ws w (suc f) = refl

walk_short : (ws : List ℕ) (w : Walk) (f k : ℕ) → k ≤ f → in_table ws w.place k ≡ true
    → (w.total < rest_from ws w.place k) ⊎ (w.amount < rest_from ws w.place k) → (walk ws w f).fits ≡ false
unfolding walk in_table rest_from walk_item
walk_short ws w f zero l t (inl h) = absurd (omega (arith, h))
walk_short ws w f zero l t (inr h) = absurd (omega (arith, h))
walk_short ws w zero (suc k) l t h = absurd (omega (arith, l))
walk_short ws w (suc f) (suc k) l t h =
    let p = pick_both (ltb w.place 1024) _ t in
    rw (le-ltb 1023 w.place (omega (arith, ltb-true w.place 1024 p.0))) (go (may_go w m (rest m)) refl h (λ x. walk_short ws less f k (omega (arith, l)) p.1 x))
  where
    m : Item
    m = item_at ws w.place

    less : Walk
    less = record { fits = w.fits; place = m.next; total = w.total - rest m; amount = w.amount - rest m; waiting = w.waiting - 1; used = w.used - m.length }

    go : (b : Bool) → may_go w m (rest m) ≡ b → (w.total < rest m + rest_from ws m.next k) ⊎ (w.amount < rest m + rest_from ws m.next k)
        → ((w.total - rest m < rest_from ws m.next k) ⊎ (w.amount - rest m < rest_from ws m.next k) → (walk ws less f).fits ≡ false)
        → (walk ws (pick b less (walk_failed w)) f).fits ≡ false
    go false e x again = failed_stays ws w f
    go true e (inl x) again = again (inl (omega (arith, x, (goes_of w m e).0)))
    go true e (inr x) again = again (inr (omega (arith, x, (goes_of w m e).1)))

sweep_short : (ws : List ℕ) (place amount k : ℕ) → k ≤ 1024 → in_table ws place k ≡ true → ((totals_at ws).total < rest_from ws place k) ⊎ (amount < rest_from ws place k) → may_sweep ws place amount ≡ false
unfolding may_sweep
sweep_short ws place amount k l t h = rw (walk_short ws (walk_from ws place amount) 1024 k l t h)

closed_short : (ws es : List ℕ) (id row k : ℕ) → (stream_at_words ws row).first < 1024 → k ≤ 1024 → in_table ws (dropped_from ws (stream_at_words ws row)) k ≡ true
    → Short ws (stream_at_words ws row) (rest_from ws (dropped_from ws (stream_at_words ws row)) k) → call_number (closing.close_open_words ws es id row (stream_at_words ws row)).answer ≡ 16
unfolding closing.close_open_words closing.close_behind closing.close_whole
closed_short ws es id row k f l t h =
    rw (le-ltb 1024 s.first (omega (arith, f)), ne_eqb s.first 1024 (λ e. omega (arith, f, e))) (go (ltb 0 (item_at ws s.first).offset) t h)
  where
    s : OutgoingStream
    s = stream_at_words ws row

    next : ℕ
    next = (item_at ws s.first).next

    go : (b : Bool) → in_table ws (pick b next s.first) k ≡ true → Short ws s (rest_from ws (pick b next s.first) k)
        → call_number (pick b (closing.close_behind ws es id row s next) (closing.close_whole ws es id row s)).answer ≡ 16
    go true i x = rw (sweep_short ws next s.buffered_amount k l i x)
    go false i x = rw (sweep_short ws s.first s.buffered_amount k l i x)

pub short_closing_is_sixteen : ShortClosingIsSixteen
unfolding step closing.close closing.close_in
short_closing_is_sixteen s es id p h =
    rw (le-ltb (length es) event_words h, p.found_at, ap is_open p.is_open)
    (closed_short s.words es id p.row p.count p.has_head p.fits p.in_table_lem p.short)

-- ------------------------------------------------------------------ an amount that would pass 2^64 - 1

over_code : (ws : List ℕ) (len : ℕ) (s : OutgoingStream) (n : ℕ) → 1 ≤ n → Over ws s n → adding.broken_code ws len s n ≡ 16
unfolding adding.broken_code
over_code ws len s n k (inl h) = rw (lt-ltb (18446744073709551615 - (totals_at ws).total) n (omega (arith, h, k)))
over_code ws len s n k (inr h) = pick_16 (ltb (18446744073709551615 - (totals_at ws).total) n) (rw (lt-ltb (18446744073709551615 - s.buffered_amount) n (omega (arith, h, k))))

no_place : (ws : List ℕ) (s : OutgoingStream) → NoPlace ws s → adding.places_code ws s (totals_at ws).free ≡ 16
unfolding adding.places_code
no_place ws s (inl (inl h)) = rw (lt-ltb 1023 (totals_at ws).free h)
no_place ws s (inl (inr h)) = pick_16 (ltb 1023 (totals_at ws).free) (rw (lt-ltb 1024 (item_at ws (totals_at ws).free).next h))
no_place ws s (inr (inl h)) = pick_16 (ltb 1023 (totals_at ws).free) (pick_16 (ltb 1024 (item_at ws (totals_at ws).free).next) (rw (lt-ltb 1024 s.first h)))
no_place ws s (inr (inr h)) =
    pick_16 (ltb 1023 (totals_at ws).free) (pick_16 (ltb 1024 (item_at ws (totals_at ws).free).next) (pick_16 (ltb 1024 s.first)
    (rw (ne_eqb s.first 1024 (λ e. omega (arith, h.0, e)), lt-ltb 1023 s.last h.1))))

add_code : (ws : List ℕ) (len : ℕ) (s : OutgoingStream) (n : ℕ) → 1 ≤ n → Over ws s n ⊎ NoPlace ws s → adding.broken_code ws len s n ≡ 16
unfolding adding.broken_code
add_code ws len s n k (inl h) = over_code ws len s n k h
add_code ws len s n k (inr h) = pick_16 (ltb (18446744073709551615 - (totals_at ws).total) n) (pick_16 (ltb (18446744073709551615 - s.buffered_amount) n) (rw (no_place ws s h)))

new_over : (ws : List ℕ) (s : OutgoingStream) (n : ℕ) → (18446744073709551615 < (totals_at ws).total + n) ⊎ NoPlace ws s → Over ws s n ⊎ NoPlace ws s
new_over ws s n (inl h) = inl (inl h)
new_over ws s n (inr h) = inr h

pub over_is_sixteen : OverIsSixteen
unfolding step adding.add adding.add_to adding.message_code
over_is_sixteen s time m payload k a l = record {
  to_known = λ row f h. rw (a, f, l, add_code s.words (length s.store) (stream_at_words s.words row) (length payload) k h);
  to_new = λ position f h. rw (a, f, l, add_code s.words (length s.store) (new_stream_words (options_at s.words)) (length payload) k (new_over s.words (new_stream_words (options_at s.words)) (length payload) h));
}

-- ------------------------------------------------------------------ reset: what comes back

-- what a sum that fits says of its last stream
record Sums (ws : List ℕ) (total i : ℕ) : Type 0 where
  before_fits : (sum_all ws total i).fits ≡ true
  amount_has : put_back_at ws i ≤ 18446744073709551615 - (stream_at_words ws (known_at ws i).place).buffered_amount
  total_has : put_back_at ws i ≤ 18446744073709551615 - (sum_all ws total i).total
  summed : (sum_all ws total (suc i)).total ≡ (sum_all ws total i).total + put_back_at ws i

sums_of : (ws : List ℕ) (total i : ℕ) → (sum_all ws total (suc i)).fits ≡ true → Sums ws total i
unfolding sum_all sum_known sum_stream
sums_of ws total i e =
    go (ltb 255 (known_at ws i).place) (ltb (18446744073709551615 - s.buffered_amount) (put_back_at ws i)) (ltb (18446744073709551615 - t.total) (put_back_at ws i)) refl refl refl e
  where
    t : Sum
    t = sum_all ws total i

    s : OutgoingStream
    s = stream_at_words ws (known_at ws i).place

    over : Sum
    over = record { fits = false; total = t.total }

    go : (a b c : Bool) → ltb 255 (known_at ws i).place ≡ a → ltb (18446744073709551615 - s.buffered_amount) (put_back_at ws i) ≡ b → ltb (18446744073709551615 - t.total) (put_back_at ws i) ≡ c
        → (pick a over (pick b over (pick c over (record { fits = t.fits; total = t.total + put_back_at ws i })))).fits ≡ true → Sums ws total i
    go true b c f g h x = false_true x
    go false true c f g h x = false_true x
    go false false true f g h x = false_true x
    go false false false f g h x = record {
      before_fits = x;
      amount_has = ltb-false _ _ g;
      total_has = ltb-false _ _ h;
      summed = rw (f, g, h);
    }

-- a sum that fits is the total and all that has come back
sum_is : (ws : List ℕ) (total n : ℕ) → (sum_all ws total n).fits ≡ true → (sum_all ws total n).total ≡ total + put_back_by ws n
unfolding sum_all put_back_by
sum_is ws total zero e = omega arith
sum_is ws total (suc n) e = (sums_of ws total n e).summed ∙ ap (λ x. x + put_back_at ws n) (sum_is ws total n (sums_of ws total n e).before_fits) ∙ omega arith

-- and no more than a word has
sum_word : (ws : List ℕ) (total n : ℕ) → total ≤ 18446744073709551615 → (sum_all ws total n).fits ≡ true → (sum_all ws total n).total ≤ 18446744073709551615
unfolding sum_all
sum_word ws total zero h e = h
sum_word ws total (suc n) h e = let q = sums_of ws total n e in let w = sum_word ws total n h q.before_fits in omega (arith, w, q.total_has, q.summed)

-- the first streams' sum fits, too
sum_before : (ws : List ℕ) (total i n : ℕ) → i ≤ n → (sum_all ws total n).fits ≡ true → (sum_all ws total i).fits ≡ true
sum_before ws total i zero l e = subst (λ x. (sum_all ws total x).fits ≡ true) {x = 0} {y = i} (omega (arith, l)) e
sum_before ws total i (suc n) l e = by_index i (suc n)
    (λ f. subst (λ x. (sum_all ws total x).fits ≡ true) (sym f) e)
    (λ ne. sum_before ws total i n (omega (arith, l, ne)) (sums_of ws total n e).before_fits)

sum_over : (ws : List ℕ) → OverReset ws → (sum_of ws).fits ≡ false
sum_over ws p = go (sum_of ws).fits refl
  where
    total : ℕ
    total = (totals_at ws).total

    fits : (sum_of ws).fits ≡ true → (sum_all ws total (suc p.at)).fits ≡ true
    fits e = sum_before ws total (suc p.at) (totals_at ws).known (omega (arith, p.known)) e

    never : (sum_all ws total (suc p.at)).fits ≡ true
        → (18446744073709551615 < (stream_at_words ws (known_at ws p.at).place).buffered_amount + put_back_at ws p.at) ⊎ (18446744073709551615 < (totals_at ws).total + put_back_by ws (suc p.at)) → ⊥
    never e (inl h) = omega (arith, h, (sums_of ws total p.at e).amount_has, p.amount_fits)
    never e (inr h) = omega (arith, h, sum_is ws total (suc p.at) e, sum_word ws total (suc p.at) p.total_fits e)

    go : (b : Bool) → (sum_of ws).fits ≡ b → (sum_of ws).fits ≡ false
    go false e = e
    go true e = absurd (never (fits e) p.over)

pub over_reset_is_sixteen : OverResetIsSixteen
unfolding step reset_queue
over_reset_is_sixteen s p = go (room_for s.words true) (sum_of s.words).fits _ (sum_over s.words p)
  where
    go : (a b : Bool) (x : Called) → b ≡ false → call_number (pick a (pick b x (called (call.Refused 16) s.words)) (called (call.Refused 16) s.words)).answer ≡ 16
    go true b x e = rw e
    go false b x e = refl
