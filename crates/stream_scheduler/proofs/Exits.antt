-- The ways out of the scheduler's functions, over plain values: a callee's result is a variable, what it ensures a hypothesis. Assumes nothing.
use Rattle.std.specs.Prelude.{Some, None}
use mathlib.Core.Path.{◌≡◌, refl, sym, ◌∙◌}
use mathlib.Core.Bool.{Bool, true, false}
use mathlib.Core.List.{List, [], ◌∷◌}
use Prim.Native.Nat.{ℕ, zero, suc, ◌+◌, ◌-◌, ◌≤◌, ◌<◌, min}
use native.Mathlib.Omega.{arith}
use lib.Dec.{eqb, ltb}
use lib.ListN.{get_or, set}
use borrow.Author.Tests.{lt-ltb, le-ltb, le-leb, lt-leb, eq-eqb, ne_eqb, ltb-true, ltb-false}
use Rattle.std.specs.Prelude.{if◌then◌else◌}
use Rattle.queue_model.proofs.Tests.{holds}
use Rattle.queue_words.specs.Active.{active_at, put_active_words, parameters_of, parameters_word}
use Rattle.queue_words.specs.Header.{options_at, scheduler_at, remembered_word, put_scheduler}
use Rattle.queue_words.specs.declared.active.ActiveStreamInfo.{ActiveStreamInfo}
use Rattle.queue_words.specs.declared.active.SchedulingParameters.{SchedulingParameters}
use Rattle.queue_words.specs.declared.active.SchedulingParameters.TheVariants.{RoundRobin, WeightedFairQueuing}
use Rattle.queue_words.specs.declared.header.Options.{Options}
use Rattle.queue_words.specs.Header.{Remembered}
use Rattle.queue_words.specs.declared.header.SchedulerState.{SchedulerState}
use Rattle.active_table.specs.Groups.{least_known, refreshed}
use Rattle.active_table.specs.Rows.{seek}
use Rattle.active_table.specs.declared.Best.{Best}
use Rattle.stream_scheduler.specs.Own.{HasRow, can_wait}
use Rattle.stream_scheduler.specs.Rows.{advanced, scheduled_row}
use Rattle.stream_scheduler.specs.Words.{Outcome, outcome, current_row, peek_among, peek_words, waits_in, forgotten, rested, state_of, dropped_row, taken_out, remove_stream_words, set_in, set_bytes_remaining_words, begin_waiting, remembered_by, accept_row, accept_at}
use Rattle.stream_scheduler.specs.declared.Peeked.TheVariants.{At, Nothing, Broken}

-- ------------------------------------------------------------------ cost and times

pub chunk_row : (limit id w start bytes chunk finish : ℕ) → chunk ≡ min bytes limit → finish ≡ advanced w start chunk
    → ◌≡◌ {A = ActiveStreamInfo} (record {
      stream_id = record { 0 = id };
      parameters = w;
      virtual_start_time = start;
      virtual_finish_time = finish;
      bytes_remaining = bytes;
    }) (scheduled_row limit id w start bytes)
chunk_row limit id w start bytes chunk finish ec ef = rw (ef, ec)

-- ------------------------------------------------------------------ the choice

pub row_fits : (ws : List ℕ) (at : ℕ) → HasRow ws at → at < 256
row_fits ws at h = omega (arith, h.0, h.1)

module _ (ws : List ℕ) (s : SchedulerState) (es : s ≡ scheduler_at ws) where
  pub peek_broken : 256 < s.active → Broken ≡ peek_words ws
  unfolding peek_words
  peek_broken h = rw (← es, lt-ltb _ _ h)

  pub peek_nothing : s.active ≤ 256 → s.active ≡ 0 → Nothing ≡ peek_words ws
  unfolding peek_words
  peek_nothing h z = rw (← es, le-ltb _ _ h, eq-eqb _ _ z)

  pub few_free : (scheduler_at ws).active < 256 → s.active < 256
  few_free h = rw es h

  pub has_row : (at : ℕ) → at < (scheduler_at ws).active → at < s.active
  has_row at h = rw es h

  -- and back
  pub rows_few : s.active ≤ 256 → (scheduler_at ws).active ≤ 256
  rows_few h = rw (← es) h

  pub peek_front : s.active ≤ 256 → (s.active ≡ 0 → ⊥) → (r : ℕ) → At r ≡ peek_among ws s.active (current_row ws s.active s.current) → At r ≡ peek_words ws
  unfolding peek_words peek_among
  peek_front h z r e = rw (← es, le-ltb _ _ h, ne_eqb _ _ z) e

module _ (ws : List ℕ) (n : ℕ) (current : Remembered) (i : ℕ) (ei : i ≡ current_row ws n current) where
  pub front_current : i < n → At i ≡ peek_among ws n (current_row ws n current)
  unfolding peek_among
  front_current l = rw (← ei, lt-ltb _ _ l)

  pub front_least : (b : Best) → n ≤ i → b ≡ least_known ws n → At b.at ≡ peek_among ws n (current_row ws n current)
  unfolding peek_among
  front_least b g eb = rw (← ei, le-ltb _ _ g, eb)

-- ------------------------------------------------------------------ taking a row out

pub row_dropped : (ws : List ℕ) (at : ℕ) (c : Remembered) (t n : ℕ) (last : ActiveStreamInfo) (rest : ℕ) (l m : List ℕ) → last ≡ active_at ws (n - 1) → rest ≡ rested t (n - 1)
    → l ≡ put_active_words ws at last → m ≡ put_scheduler l (state_of c rest (n - 1)) → m ≡ dropped_row ws at c t n
unfolding dropped_row
row_dropped ws at c t n last rest l m ea er el em = rw (em, el, ea, er)

module _ (ws : List ℕ) (id at n : ℕ) (s : SchedulerState) (es : s ≡ scheduler_at ws) (c : Remembered) (ec : c ≡ forgotten s.current id) where
  pub taken_row : (l : List ℕ) → at < n → l ≡ dropped_row ws at c s.system_virtual_time n → l ≡ taken_out ws id at n
  unfolding taken_out
  taken_row l h el = rw (← es, lt-ltb _ _ h, el, ec)

  pub taken_none : (rest : ℕ) (l : List ℕ) → n ≤ at → rest ≡ rested s.system_virtual_time n → l ≡ put_scheduler ws (state_of c rest n) → l ≡ taken_out ws id at n
  unfolding taken_out
  taken_none rest l h er el = rw (← es, le-ltb _ _ h, el, er, ec)

module _ (ws : List ℕ) (id : ℕ) (s : SchedulerState) (es : s ≡ scheduler_at ws) where
  pub remove_broken : 256 < s.active → outcome false ws ≡ remove_stream_words ws id
  unfolding remove_stream_words
  remove_broken h = rw (← es, lt-ltb _ _ h)

  pub remove_done : (at : ℕ) (l : List ℕ) → s.active ≤ 256 → at ≡ seek ws id s.active → l ≡ taken_out ws id at s.active → outcome true l ≡ remove_stream_words ws id
  unfolding remove_stream_words
  remove_done at l h ea el = rw (← es, le-ltb _ _ h, el, ea)

-- ------------------------------------------------------------------ setting a row

module _ (ws : List ℕ) (id bytes w at n : ℕ) (o : Options) (eo : o ≡ options_at ws) where
  pub set_old : (a row : ActiveStreamInfo) (l : List ℕ) → at < n → a ≡ active_at ws at → row ≡ scheduled_row o.payload_limit id w a.virtual_start_time bytes
      → l ≡ put_active_words ws at row → outcome true l ≡ set_in ws id bytes w at n
  unfolding set_in
  set_old a row l h ea er el = rw (← eo, lt-ltb _ _ h, el, er, ea)

  pub set_new : (s : SchedulerState) (row : ActiveStreamInfo) (l m : List ℕ) → n ≤ at → n < 256 → s ≡ scheduler_at ws
      → row ≡ scheduled_row o.payload_limit id w s.system_virtual_time bytes → l ≡ put_active_words ws n row
      → m ≡ put_scheduler l (state_of s.current s.system_virtual_time (n + 1)) → outcome true m ≡ set_in ws id bytes w at n
  unfolding set_in
  set_new s row l m h f es er el em = rw (← eo, ← es, le-ltb _ _ h, lt-ltb _ _ f, em, el, er)

  pub set_full : n ≤ at → 256 ≤ n → outcome false ws ≡ set_in ws id bytes w at n
  unfolding set_in
  set_full h f = rw (le-ltb _ _ h, le-ltb _ _ f)

module _ (ws : List ℕ) (id bytes : ℕ) (p : SchedulingParameters) (s : SchedulerState) (es : s ≡ scheduler_at ws) where
  pub bytes_broken : 256 < s.active → outcome false ws ≡ set_bytes_remaining_words ws id bytes p
  unfolding set_bytes_remaining_words
  bytes_broken h = rw (← es, lt-ltb _ _ h)

  module _ (at : ℕ) (l : List ℕ) (h : s.active ≤ 256) (ea : at ≡ seek ws id s.active) where
    pub bytes_none : bytes ≡ 0 → l ≡ taken_out ws id at s.active → outcome true l ≡ set_bytes_remaining_words ws id bytes p
    unfolding set_bytes_remaining_words
    bytes_none z el = rw (← es, le-ltb _ _ h, eq-eqb _ _ z, el, ea)

    pub bytes_some : (w : ℕ) (r : Bool) → (bytes ≡ 0 → ⊥) → w ≡ parameters_word p → outcome r l ≡ set_in ws id bytes w at s.active
        → outcome r l ≡ set_bytes_remaining_words ws id bytes p
    unfolding set_bytes_remaining_words
    bytes_some w r z ew el = rw (← es, le-ltb _ _ h, ne_eqb _ _ z, ← ew, ← ea) el

-- ---- whether a stream can be let wait, and what its being let wait says

-- The ways of `set_bytes_remaining_words` by `can_wait`: three that are done, and one that is not.
done_by : (a b c : Bool) (x y z o : Outcome) → x.done ≡ true → y.done ≡ true → z.done ≡ true → (if a then true else if b then true else c) ≡ true
    → (if a then x else if b then y else if c then z else o).done ≡ true
done_by true b c x y z o hx hy hz r = hx
done_by false true c x y z o hx hy hz r = hy
done_by false false true x y z o hx hy hz r = hz
done_by false false false x y z o hx hy hz r = absurd (holds false r)

refused_by : (a b c : Bool) (x y z o : Outcome) → (if a then true else if b then true else c) ≡ false → o ≡ (if a then x else if b then y else if c then z else o)
refused_by true b c x y z o r = absurd (holds false (sym r))
refused_by false true c x y z o r = absurd (holds false (sym r))
refused_by false false true x y z o r = absurd (holds false (sym r))
refused_by false false false x y z o r = refl

-- An outcome that is done where its first test would refuse it.
first_passed : (a : Bool) (o x : Outcome) → o.done ≡ false → (if a then o else x).done ≡ true → a ≡ false
first_passed true o x n h = absurd (holds false (sym n ∙ h))
first_passed false o x n h = refl

last_passed : (a : Bool) (x o : Outcome) → o.done ≡ false → (if a then x else o).done ≡ true → a ≡ true
last_passed true x o n h = refl
last_passed false x o n h = absurd (holds false (sym n ∙ h))

module _ (ws : List ℕ) (id bytes : ℕ) (p : SchedulingParameters) (s : SchedulerState) (es : s ≡ scheduler_at ws) (at : ℕ) (ea : at ≡ seek ws id s.active) (h : s.active ≤ 256) where
  pub set_can : can_wait bytes at s.active ≡ true → (set_bytes_remaining_words ws id bytes p).done ≡ true
  unfolding set_bytes_remaining_words set_in can_wait
  set_can r = rw (← es, le-ltb _ _ h, ← ea) (done_by (eqb bytes 0) (ltb at s.active) (ltb s.active 256) _ _ _ _ refl refl refl r)

  pub set_cannot : can_wait bytes at s.active ≡ false → outcome false ws ≡ set_bytes_remaining_words ws id bytes p
  unfolding set_bytes_remaining_words set_in can_wait
  set_cannot r = rw (← es, le-ltb _ _ h, ← ea) (refused_by (eqb bytes 0) (ltb at s.active) (ltb s.active 256) _ _ _ _ r)

module _ (ws : List ℕ) (id bytes : ℕ) (p : SchedulingParameters) (d : (set_bytes_remaining_words ws id bytes p).done ≡ true) where
  pub set_few : (scheduler_at ws).active ≤ 256
  unfolding set_bytes_remaining_words
  set_few = ltb-false 256 (scheduler_at ws).active (first_passed (ltb 256 (scheduler_at ws).active) _ _ refl d)

  module _ (at n : ℕ) (en : n ≡ (scheduler_at ws).active) (ea : at ≡ seek ws id n) where
    pub rows_fit : n ≤ 256
    rows_fit = rw en set_few

    pub set_free : (bytes ≡ 0 → ⊥) → n ≤ at → n < 256
    unfolding set_bytes_remaining_words set_in
    set_free z g =
        ltb-true n 256 (last_passed (ltb n 256) _ (outcome false ws) refl
        (rw (← en, le-ltb 256 n rows_fit, ne_eqb bytes 0 z, ← ea, le-ltb at n g) at d))

    pub set_none : (l : List ℕ) → bytes ≡ 0 → l ≡ taken_out ws id at n → outcome true l ≡ set_bytes_remaining_words ws id bytes p
    unfolding set_bytes_remaining_words
    set_none l z el = rw (← en, le-ltb _ _ rows_fit, eq-eqb _ _ z, el, ea)

    pub set_some : (l : List ℕ) (w : ℕ) → (bytes ≡ 0 → ⊥) → w ≡ parameters_word p → outcome true l ≡ set_in ws id bytes w at n → outcome true l ≡ set_bytes_remaining_words ws id bytes p
    unfolding set_bytes_remaining_words
    set_some l w z ew el = rw (← en, le-ltb _ _ rows_fit, ne_eqb _ _ z, ← ew, ← ea) el

    no_row : (w : ℕ) → n ≤ at → set_in ws id bytes w n n ≡ set_in ws id bytes w at n
    unfolding set_in
    no_row w g = rw (le-ltb at n g, le-ltb n n (omega arith))

    pub set_behind : (l : List ℕ) (w : ℕ) → (bytes ≡ 0 → ⊥) → w ≡ parameters_word p → n ≤ at → outcome true l ≡ set_in ws id bytes w n n → outcome true l ≡ set_bytes_remaining_words ws id bytes p
    set_behind l w z ew g el = set_some l w z ew (el ∙ no_row w g)

-- A stream without a row let wait, where one is free.
pub begun : (ws : List ℕ) (id bytes : ℕ) (p : SchedulingParameters) (s : SchedulerState) → s ≡ scheduler_at ws → (scheduler_at ws).active < 256 → (l : List ℕ) (w : ℕ) → w ≡ parameters_word p
    → outcome true l ≡ set_in ws id bytes w s.active s.active → outcome true l ≡ begin_waiting ws id bytes p
unfolding begin_waiting
begun ws id bytes p s es h l w ew el = rw (le-ltb 256 (scheduler_at ws).active (omega arith), ← ew, ← es) el

-- ------------------------------------------------------------------ handing out

set_most : (ws : List ℕ) (i v : ℕ) → get_or (set ws i v) i 0 ≤ v
set_most [] i v = omega arith
set_most (w ∷ ws) zero v = omega arith
set_most (w ∷ ws) (suc i) v = set_most ws i v

-- A state put down has no more rows than it says, however long the words are.
pub put_few : (ws us : List ℕ) (v : SchedulerState) → us ≡ put_scheduler ws v → v.active ≤ 256 → (scheduler_at us).active ≤ 256
unfolding scheduler_at put_scheduler
put_few ws us v e h = rw e (omega (arith, set_most (set (set ws 18 (remembered_word v.current)) 19 v.system_virtual_time) 20 v.active))

pub dropped_few : (ws us : List ℕ) (at : ℕ) (c : Remembered) (t n : ℕ) → us ≡ dropped_row ws at c t n → n ≤ 256 → (scheduler_at us).active ≤ 256
unfolding dropped_row
dropped_few ws us at c t n e h = put_few _ us _ e (omega arith)

module _ (ws : List ℕ) (at bytes : ℕ) (s : SchedulerState) (es : s ≡ scheduler_at ws) where
  module _ (h : s.active ≤ 256) where
    module _ (f : at < s.active) (a : ActiveStreamInfo) (ea : a ≡ active_at ws at) (t : ℕ) (et : t ≡ advanced a.parameters a.virtual_start_time bytes) where
      pub accept_last : (l r : List ℕ) → a.bytes_remaining ≤ bytes → l ≡ dropped_row ws at None t s.active → r ≡ refreshed l at → outcome true r ≡ accept_at ws at bytes
      unfolding accept_at accept_row
      accept_last l r g el er = rw (← es, le-ltb _ _ h, lt-leb _ _ f, ← ea, le-leb _ _ g, er, el, et)

      pub accept_part : (o : Options) (row : ActiveStreamInfo) (c : Remembered) (l m r : List ℕ) → bytes < a.bytes_remaining → o ≡ options_at ws
          → row ≡ scheduled_row o.payload_limit a.stream_id.0 a.parameters t (a.bytes_remaining - bytes) → l ≡ put_active_words ws at row
          → c ≡ remembered_by a.stream_id.0 a.parameters → m ≡ put_scheduler l (state_of c t s.active) → r ≡ refreshed m at → outcome true r ≡ accept_at ws at bytes
      unfolding accept_at accept_row
      accept_part o row c l m r g eo er el ec em ef = rw (← es, le-ltb _ _ h, lt-leb _ _ f, ← ea, lt-leb _ _ g, ← eo, ef, em, el, er, ec, et)

module _ (id w : ℕ) (p : SchedulingParameters) (ep : p ≡ parameters_of w) where
  pub remembered_turns : p ≡ RoundRobin → Some (record { 0 = id }) ≡ remembered_by id w
  remembered_turns ev = rw (← ep, ev)

  pub remembered_weighted : (v : ℕ) → p ≡ WeightedFairQueuing v → None ≡ remembered_by id w
  remembered_weighted v ev = rw (← ep, ev)

module _ (ws : List ℕ) (id : ℕ) (s : SchedulerState) (es : s ≡ scheduler_at ws) where
  pub waits_broken : 256 < s.active → false ≡ waits_in ws id
  unfolding waits_in
  waits_broken h = rw (← es, lt-ltb _ _ h)

  pub waits_sought : s.active ≤ 256 → (at : ℕ) → at ≡ seek ws id s.active → ltb at s.active ≡ waits_in ws id
  unfolding waits_in
  waits_sought h at ea = rw (← es, le-ltb _ _ h, ea)
