-- The questions answer what the model's do. Assumes nothing.
use mathlib.Core.Path.{◌≡◌, refl, sym, ap, ◌∙◌, subst}
use mathlib.Core.Bool.{Bool, true, false, not, ◌&&◌, ◌||◌}
use mathlib.Core.List.{List, [], ◌∷◌}
use mathlib.Core.Option.{Option}
use Prim.Native.Nat.{ℕ, zero, suc, ◌+◌, ◌-◌, ◌≤◌, ◌<◌}
use native.Mathlib.Omega.{arith}
use borrow.Author.Tests.{le-ltb}
use lib.Dec.{ltb, eqb}
use lib.ListN.{length}
use Rattle.queue_words.specs.Find.{find_stream_words}
use Rattle.queue_words.specs.Flags.{pick}
use Rattle.queue_words.specs.Header.{options_at, totals_at}
use Rattle.queue_words.specs.Streams.{is_paused_words, stream_at_words}
use Rattle.queue_words.specs.declared.streams.PauseState.{PauseState}
use Rattle.queue_words.specs.declared.streams.PauseState.TheVariants.{NotPaused, Pending, Paused, Resetting}
use Rattle.queue_words.specs.declared.known.Found.TheVariants.{At, Gap}
use Rattle.queue_words.specs.declared.streams.OutgoingStream.{OutgoingStream}
use Rattle.std.specs.Prelude.{if◌then◌else◌}
use Rattle.queue_model.specs.Logic.{is_some, any}
use Rattle.queue_model.specs.Types.{Active, Options, Stream}
use Rattle.queue_model.specs.Calls
use Rattle.queue_model.specs.Reset.{is_paused}
use Rattle.queue_model.specs.Run as run
use Rattle.queue_model.specs.Scheduler.{peek}
use Rattle.queue_model.specs.Questions.{Room, free_store, waiting_messages, known_streams}
use Rattle.queue_model.specs.Streams.{stream_at, waiting, occupied, free_bytes}
use Rattle.stream_scheduler.specs.Link.{model_scheduler, Chooses, row_chosen, none_chosen}
use Rattle.stream_scheduler.specs.Words.{peek_words}
use Rattle.stream_scheduler.specs.declared.Peeked.{Peeked}
use Rattle.stream_scheduler.proofs.Handing.{peek_link}
use Rattle.queue_streams.specs.Known.{new_stream_words}
use Rattle.queue_questions.specs.Questions.{looked_at, stream_or_new, asked, priority_of_words, amount_of_words, threshold_of, total_of, empty_of, waits, data_of, ready_among, ready_of, readiness_of, room_of}
use Rattle.queue_streams.specs.Answers.{number_number, number_value, flag_number, flag_value}
use Rattle.queue_streams.specs.Flag.{Flag}
use Rattle.queue_streams.specs.Flag as flag
use Rattle.queue_streams.specs.Number.{Number}
use Rattle.queue_streams.specs.Number as number
use Rattle.queue_questions.specs.Looked as looked
use Rattle.queue_state.specs.Model.{options_of, pause_of, row_at, stream_in, streams_in, model, tab}
use Rattle.queue_state.specs.Good.{Good}
use Rattle.queue_state.specs.Promise.{shown, number_of}
use Rattle.queue_state.proofs.Frames.{row_below}
use Rattle.queue_state.proofs.Numbers.{number_number_lem, number_value_lem}
use Rattle.queue_state.proofs.Sums.{waiting_is, occupied_is}
use Rattle.queue_state.proofs.Tabs.{tab_length}
use Rattle.queue_state.proofs.Looks.{Lookup, known_at_lem, new_at, lookup, stream_found, stream_new}
use Rattle.queue_state.proofs.Singles.{model_options, model_total, model_streams, model_schedules}
use Rattle.linked_streams.specs.Questions.{flag_of, AskedNumber, AskedFlag, PriorityMeets, AmountMeets, ThresholdMeets, TotalMeets, EmptyMeets, DataMeets, ReadyMeets, ReadinessMeets, RoomMeets}
use Rattle.linked_streams.proofs.Numbers.{flag_number_lem, flag_value_lem}

-- ------------------------------------------------------------------ one number of a stream

-- The row of a stream, or of a new one, has the numbers of the model's stream.
pub record Reads (s : OutgoingStream) (x : Stream) : Type 0 where
  pub priority : s.priority ≡ x.priority
  pub amount : s.buffered_amount ≡ x.amount
  pub threshold : s.low_threshold ≡ x.threshold

pub record Looks (ws st : List ℕ) (id : ℕ) : Type 0 where
  pub row : OutgoingStream
  pub found : stream_or_new ws id ≡ looked.Stream row
  pub reads : Reads row (stream_at (model ws st) id)

looked_row : (ws : List ℕ) (id i r : ℕ) → find_stream_words ws id ≡ At i r → stream_or_new ws id ≡ looked.Stream (stream_at_words ws r)
unfolding stream_or_new
looked_row ws id i r e = ap (looked_at ws) e

looked_new : (ws : List ℕ) (id p : ℕ) → find_stream_words ws id ≡ Gap p → stream_or_new ws id ≡ looked.Stream (new_stream_words (options_at ws))
unfolding stream_or_new
looked_new ws id p e = ap (looked_at ws) e

reads_in : (ws st : List ℕ) (i : ℕ) → Reads (stream_at_words ws (row_at ws i)) (stream_in ws st i)
unfolding stream_in
reads_in ws st i = record { priority = refl; amount = refl; threshold = refl }

looks : (ws st : List ℕ) (g : Good ws st) (id : ℕ) → Looks ws st id
looks ws st g id = by (lookup ws st g.shape id)
  where
    by : Lookup ws st id → Looks ws st id
    by (known_at_lem i h e f m) = record {
      row = stream_at_words ws (row_at ws i);
      found = looked_row ws id i (row_at ws i) f;
      reads = subst (Reads (stream_at_words ws (row_at ws i))) (sym (stream_found ws st id (stream_in ws st i) m)) (reads_in ws st i);
    }
    by (new_at p h lo hi f m) = record {
      row = new_stream_words (options_at ws);
      found = looked_new ws id p f;
      reads = subst (Reads (new_stream_words (options_at ws))) (sym (stream_new ws st id m)) (record { priority = refl; amount = refl; threshold = refl });
    }

module _ (ws st : List ℕ) (g : Good ws st) (id : ℕ) where
  pub priority_asked : priority_of_words ws id ≡ number_of (shown (run.ask_priority id) ws st).answer
  unfolding priority_of_words run.step Calls.priority_of
  priority_asked =
      let k = looks ws st g id in
      ap (asked (λ (s : OutgoingStream). s.priority)) k.found ∙ ap number.Value k.reads.priority

  pub amount_asked : amount_of_words ws id ≡ number_of (shown (run.ask_amount id) ws st).answer
  unfolding amount_of_words run.step Calls.amount_of
  amount_asked =
      let k = looks ws st g id in
      ap (asked (λ (s : OutgoingStream). s.buffered_amount)) k.found ∙ ap number.Value k.reads.amount

  pub threshold_asked : threshold_of ws id ≡ number_of (shown (run.ask_threshold id) ws st).answer
  unfolding threshold_of run.step Calls.threshold_of
  threshold_asked =
      let k = looks ws st g id in
      ap (asked (λ (s : OutgoingStream). s.low_threshold)) k.found ∙ ap number.Value k.reads.threshold

-- ------------------------------------------------------------------ the total

pub total_asked : (ws st : List ℕ) → total_of ws ≡ (model ws st).total
unfolding total_of
total_asked ws st = sym (model_total ws st)

pub empty_asked : (ws st : List ℕ) → empty_of ws ≡ Calls.is_empty (model ws st)
unfolding empty_of Calls.is_empty
empty_asked ws st = ap (λ (n : ℕ). eqb n 0) (sym (model_total ws st))

-- ------------------------------------------------------------------ whether a stream waits

waits_is : (ws : List ℕ) (x : Option Active) (p : Peeked) → Chooses ws x p → waits p ≡ flag.Value (is_some x)
unfolding is_some
waits_is ws x p (row_chosen i h e) = ap (λ (y : Option Active). flag.Value (is_some y)) (sym e)
waits_is ws x p (none_chosen e) = ap (λ (y : Option Active). flag.Value (is_some y)) (sym e)

pub data_asked : (ws st : List ℕ) (g : Good ws st) → data_of ws ≡ flag_of (shown run.ask_has_data ws st).answer
unfolding data_of run.step Calls.has_data
data_asked ws st g =
    waits_is ws (peek (model_scheduler ws)) (peek_words ws) (peek_link ws g.shape.schedules)
    ∙ ap (λ x. flag.Value (is_some (peek x))) (sym (model_schedules ws st))

-- ------------------------------------------------------------------ whether a stream is paused

paused_is : (p : PauseState) (s : Stream) → s.pause_state ≡ pause_of p → is_paused s ≡ is_paused_words p
unfolding is_paused pause_of
paused_is NotPaused s e = rw e
paused_is Pending s e = rw e
paused_is Paused s e = rw e
paused_is Resetting s e = rw e

-- What the code does at one position.
ready_at : (ws : List ℕ) (i m : ℕ) (b : Bool) → row_at ws i < 256 → is_paused_words (stream_at_words ws (row_at ws i)).pause_state ≡ b
    → ready_among ws i (suc m) ≡ pick b (flag.Value true) (ready_among ws (suc i) m)
unfolding ready_among
ready_at ws i m b h e = rw (le-ltb 255 (row_at ws i) (omega arith), e)

ready_none : (ws : List ℕ) (i : ℕ) → ready_among ws i 0 ≡ flag.Value false
unfolding ready_among
ready_none ws i = refl

any_none : any is_paused [] ≡ false
unfolding any
any_none = refl

any_more : (s : Stream) (ss : List Stream) (b : Bool) → is_paused s ≡ b → any is_paused (s ∷ ss) ≡ pick b true (any is_paused ss)
unfolding any
any_more s ss true e = ap (λ (x : Bool). x || any is_paused ss) e
any_more s ss false e = ap (λ (x : Bool). x || any is_paused ss) e

tab_none : {A : Type 0} (f : ℕ → A) → tab f 0 ≡ []
unfolding tab
tab_none f = refl

tab_more : {A : Type 0} (f : ℕ → A) (m : ℕ) → tab f (suc m) ≡ f 0 ∷ tab (λ j. f (suc j)) m
unfolding tab
tab_more f m = refl

pause_in : (ws st : List ℕ) (i : ℕ) → (stream_in ws st i).pause_state ≡ pause_of (stream_at_words ws (row_at ws i)).pause_state
unfolding stream_in
pause_in ws st i = refl

ready_turn : (b : Bool) (f g : Flag) (x : Bool) → f ≡ pick b (flag.Value true) g → g ≡ flag.Value x → f ≡ flag.Value (pick b true x)
ready_turn true f g x e h = e
ready_turn false f g x e h = e ∙ h

module _ (ws st : List ℕ) (g : Good ws st) where
  -- Among the m streams from position i on.
  ready_among_lem : (m i : ℕ) (f : ℕ → Stream) → i + m ≤ (totals_at ws).known → ((j : ℕ) → f j ≡ stream_in ws st (i + j)) → ready_among ws i m ≡ flag.Value (any is_paused (tab f m))
  ready_among_lem zero i f h e = ready_none ws i ∙ ap flag.Value (sym any_none ∙ ap (any is_paused) (sym (tab_none f)))
  ready_among_lem (suc m) i f h e =
      let b : Bool = is_paused_words (stream_at_words ws (row_at ws i)).pause_state in
      let z : f 0 ≡ stream_in ws st i = e 0 ∙ ap (stream_in ws st) (omega arith) in
      let p : is_paused (f 0) ≡ b = ap is_paused z ∙ paused_is (stream_at_words ws (row_at ws i)).pause_state (stream_in ws st i) (pause_in ws st i) in
      let r : ready_among ws (suc i) m ≡ flag.Value (any is_paused (tab (λ j. f (suc j)) m)) = ready_among_lem m (suc i) (λ j. f (suc j)) (omega arith) (λ j. e (suc j) ∙ ap (stream_in ws st) (omega arith)) in
      ready_turn b (ready_among ws i (suc m)) (ready_among ws (suc i) m) (any is_paused (tab (λ j. f (suc j)) m)) (ready_at ws i m b (row_below ws st g.shape i (omega arith)) refl) r
      ∙ ap flag.Value (sym (any_more (f 0) (tab (λ j. f (suc j)) m) b p) ∙ ap (any is_paused) (sym (tab_more f m)))

  ready_known : ready_among ws 0 (totals_at ws).known ≡ flag.Value (any is_paused (streams_in ws st))
  unfolding streams_in
  ready_known = ready_among_lem (totals_at ws).known 0 (stream_in ws st) (omega arith) (λ j. ap (stream_in ws st) (omega arith))

  pub ready_asked : ready_of ws ≡ flag_of (shown run.ask_streams_ready ws st).answer
  unfolding ready_of run.step Calls.streams_ready
  ready_asked =
      rw (le-ltb 256 (totals_at ws).known g.shape.known_fits)
      (ready_known ∙ ap (λ (ss : List Stream). flag.Value (any is_paused ss)) (sym (model_streams ws st)))

-- ------------------------------------------------------------------ readiness

abbrev two : Bool → ℕ
two b = if b then 2 else 0

readiness_by : (h b : Bool) → ◌≡◌ {A = ℕ} (pick h 0 (pick b 2 0)) (two (not h && b))
readiness_by true b = refl
readiness_by false true = refl
readiness_by false false = refl

pub readiness_asked : (ws st : List ℕ) → readiness_of ws ≡ Calls.readiness (model ws st)
unfolding readiness_of Calls.readiness
readiness_asked ws st =
    let eo : options_of (options_at ws) ≡ (model ws st).options = sym (model_options ws st) in
    let et : (totals_at ws).total ≡ (model ws st).total = sym (model_total ws st) in
    readiness_by (options_at ws).handover_with_data (ltb 0 (totals_at ws).total)
    ∙ ap (λ (o : Options). two (not o.handover_with_data && ltb 0 (totals_at ws).total)) eo
    ∙ ap (λ (n : ℕ). two (not (model ws st).options.handover_with_data && ltb 0 n)) et

-- ------------------------------------------------------------------ what there is room for

known_is : (ws st : List ℕ) → length (streams_in ws st) ≡ (totals_at ws).known
unfolding streams_in
known_is ws st = tab_length (stream_in ws st) (totals_at ws).known

pub room_asked : (k : Room) (ws st : List ℕ) → Good ws st → room_of k ws ≡ Calls.room_of k (model ws st)
unfolding room_of Calls.room_of free_bytes
room_asked free_store ws st g =
    let eo : options_of (options_at ws) ≡ (model ws st).options = sym (model_options ws st) in
    let eu : (totals_at ws).used ≡ occupied (model ws st).streams = sym (ap occupied (model_streams ws st) ∙ occupied_is ws st g.shape) in
    ap (λ (o : Options). o.store_length - (totals_at ws).used) eo ∙ ap (λ (n : ℕ). (model ws st).options.store_length - n) eu
room_asked waiting_messages ws st g = sym (ap waiting (model_streams ws st) ∙ waiting_is ws st g.shape)
room_asked known_streams ws st g = sym (ap (λ (ss : List Stream). length ss) (model_streams ws st) ∙ known_is ws st)

-- ------------------------------------------------------------------ both promises

module _ (ws : List ℕ) where
  asked_number : (c : run.Call) (r w : Number) → r ≡ w → ((st : List ℕ) → Good ws st → w ≡ number_of (shown c ws st).answer) → AskedNumber c ws r w
  asked_number c r w e f = record {
    words = e;
    model = λ st g. e ∙ f st g;
    number = λ st g. ap number_number (e ∙ f st g) ∙ number_number_lem (shown c ws st).answer;
    value = λ st g. ap number_value (e ∙ f st g) ∙ number_value_lem (shown c ws st).answer;
  }

  asked_flag : (c : run.Call) (r w : Flag) → r ≡ w → ((st : List ℕ) → Good ws st → w ≡ flag_of (shown c ws st).answer) → AskedFlag c ws r w
  asked_flag c r w e f = record {
    words = e;
    model = λ st g. e ∙ f st g;
    number = λ st g. ap flag_number (e ∙ f st g) ∙ flag_number_lem (shown c ws st).answer;
    value = λ st g. ap flag_value (e ∙ f st g) ∙ flag_value_lem (shown c ws st).answer;
  }

  pub priority_meets : (id : ℕ) (r : Number) → r ≡ priority_of_words ws id → PriorityMeets ws id r
  priority_meets id r e = asked_number (run.ask_priority id) r (priority_of_words ws id) e (λ st g. priority_asked ws st g id)

  pub amount_meets : (id : ℕ) (r : Number) → r ≡ amount_of_words ws id → AmountMeets ws id r
  amount_meets id r e = asked_number (run.ask_amount id) r (amount_of_words ws id) e (λ st g. amount_asked ws st g id)

  pub threshold_meets : (id : ℕ) (r : Number) → r ≡ threshold_of ws id → ThresholdMeets ws id r
  threshold_meets id r e = asked_number (run.ask_threshold id) r (threshold_of ws id) e (λ st g. threshold_asked ws st g id)

  pub total_meets : (r : ℕ) → r ≡ total_of ws → TotalMeets ws r
  total_meets r e = record { words = e; model = λ st g. e ∙ total_asked ws st }

  pub empty_meets : (r : Bool) → r ≡ empty_of ws → EmptyMeets ws r
  empty_meets r e = record { words = e; model = λ st g. e ∙ empty_asked ws st }

  pub data_meets : (r : Flag) → r ≡ data_of ws → DataMeets ws r
  data_meets r e = asked_flag run.ask_has_data r (data_of ws) e (λ st g. data_asked ws st g)

  pub ready_meets : (r : Flag) → r ≡ ready_of ws → ReadyMeets ws r
  ready_meets r e = asked_flag run.ask_streams_ready r (ready_of ws) e (λ st g. ready_asked ws st g)

  pub readiness_meets : (r : ℕ) → r ≡ readiness_of ws → ReadinessMeets ws r
  readiness_meets r e = record { words = e; model = λ st g. e ∙ readiness_asked ws st }

  pub room_meets : (k : Room) (r : ℕ) → r ≡ room_of k ws → RoomMeets k ws r
  room_meets k r e = record { words = e; model = λ st g. e ∙ room_asked k ws st g }
