-- From good words each function of the scheduler leaves good words, which stand for what the model's function of that name makes. Assumes nothing.
use Rattle.std.specs.Prelude.{Some, None}
use mathlib.Core.Path.{◌≡◌, refl, sym, ap, ap₂, ◌∙◌, subst}
use mathlib.Core.Bool.{Bool, true, false}
use mathlib.Core.List.{List, [], ◌∷◌}
use mathlib.Core.Option.{Option, none, some}
use Prim.Native.Nat.{ℕ, zero, suc, ◌+◌, ◌-◌, ◌≤◌, ◌<◌}
use native.Mathlib.Omega.{arith}
use lib.Dec.{eqb, ltb}
use lib.ListN.{length}
use Rattle.std.specs.Prelude.{if◌then◌else◌}
use Rattle.queue_model.specs.Types.{Weight, Active, Scheduler}
use Rattle.queue_model.specs.Scheduler.{scheduled, active_key, find_active, put_active, without_active, forget, rest_time, remove_stream, start_of, set_bytes_remaining}
use Rattle.queue_model.proofs.Tests.{Tri, ltb_true, ltb_false, eqb_true, eqb_false, less, same, more, tri}
use Rattle.queue_model.proofs.Table.{put_later, put_here, put_before, put_end}
use Rattle.queue_model.proofs.Scheduler.{set_none, set_some}
use Rattle.types.specs.declared.StreamId.{StreamId}
use Rattle.queue_words.specs.Active.{active_at, put_active_words, FitsActive, parameters_word}
use Rattle.queue_words.specs.Header.{options_at, scheduler_at, put_scheduler, FitsRemembered}
use Rattle.queue_words.specs.declared.active.ActiveStreamInfo.{ActiveStreamInfo}
use Rattle.queue_words.specs.declared.active.SchedulingParameters.{SchedulingParameters}
use Rattle.queue_words.specs.declared.active.SchedulingParameters.TheVariants.{RoundRobin, WeightedFairQueuing}
use Rattle.queue_words.specs.declared.header.Options.{Options}
use Rattle.queue_words.specs.Header.{Remembered}
use Rattle.queue_words.specs.declared.header.SchedulerState.{SchedulerState}
use Rattle.queue_words.specs.Leasts.{leasts_at}
use Rattle.queue_words.proofs.Laws.{leasts_put_active, leasts_put_scheduler, active_at_fits, active_at_put, active_at_put_other, active_put_scheduler, scheduler_put_active, scheduler_at_put, active_count_put, remembered_at_fits, options_put_active, options_put_scheduler, whole_put_active, whole_put_scheduler}
use Rattle.active_table.specs.Groups.{refreshed, Leasts}
use Rattle.active_table.specs.Rows.{seek}
use Rattle.active_table.proofs.Choice.{leasts_same, leasts_stored, refreshed_whole, refreshed_options, refreshed_scheduler, refreshed_rows, refreshed_leasts}
use Rattle.stream_scheduler.specs.Rows.{weight_of_words, weight_at, advanced, scheduled_row}
use Rattle.stream_scheduler.specs.Words.{outcome, forgotten, rested, state_of, dropped_row, taken_out, remove_stream_words, set_in, set_bytes_remaining_words}
use Rattle.stream_scheduler.specs.Link.{entry_of, entry_at, table_of, current_of, model_scheduler, Unlike, GoodScheduler, Steps, FitsParameters, Room, listed, free}
use Rattle.stream_scheduler.proofs.Index.{table_nil, table_suc, table_at, table_none, table_same, table_set, table_add, unlike_same, unlike_add, unlike_drop, table_drop, table_without}
use Rattle.stream_scheduler.proofs.Search.{Sought, hit, miss, sought}

-- ---- the scheduler by its parts

abbrev pub make : ℕ → Option ℕ → ℕ → List Active → Scheduler
make l c t as' = record { payload_limit = l; current = c; system_time = t; active = as' }

-- What the words stand for, from their state and their rows.
pub model_of : (ws : List ℕ) (l : ℕ) (s : SchedulerState) (as' : List Active) → (options_at ws).payload_limit ≡ l → scheduler_at ws ≡ s → table_of (entry_at ws) s.active ≡ as' → model_scheduler ws ≡ make l (current_of s.current) s.system_virtual_time as'
unfolding model_scheduler
model_of ws l s as' el es ea =
    ap (λ (x : SchedulerState). make (options_at ws).payload_limit (current_of x.current) x.system_virtual_time (table_of (entry_at ws) x.active)) es
    ∙ ap₂ (λ (x : ℕ) (y : List Active). make x (current_of s.current) s.system_virtual_time y) el ea

-- ---- rows after a store

pub entry_put : (ws : List ℕ) (i : ℕ) (a : ActiveStreamInfo) → length ws ≡ 20768 → i < 256 → FitsActive a → entry_at (put_active_words ws i a) i ≡ entry_of a
unfolding entry_at
entry_put ws i a l h f = ap entry_of (active_at_put ws i a l h f)

pub entry_put_other : (ws : List ℕ) (i : ℕ) (a : ActiveStreamInfo) (j : ℕ) → (i ≡ j → ⊥) → entry_at (put_active_words ws i a) j ≡ entry_at ws j
unfolding entry_at
entry_put_other ws i a j n = ap entry_of (active_at_put_other ws i a j n)

-- A row stored for the stream that it had: every row has the stream that it had.
pub ids_put : (ws : List ℕ) (i : ℕ) (a : ActiveStreamInfo) → length ws ≡ 20768 → i < 256 → FitsActive a → a.stream_id.0 ≡ (entry_at ws i).stream_id → (j : ℕ) → (entry_at (put_active_words ws i a) j).stream_id ≡ (entry_at ws j).stream_id
ids_put ws i a l h f e j = elim (tri i j) [
  | less o ↦ ap (λ (x : Active). x.stream_id) (entry_put_other ws i a j (λ g. omega arith))
  | same g ↦ subst (λ (k : ℕ). (entry_at (put_active_words ws i a) k).stream_id ≡ (entry_at ws k).stream_id) g (ap (λ (x : Active). x.stream_id) (entry_put ws i a l h f) ∙ e)
  | more o ↦ ap (λ (x : Active). x.stream_id) (entry_put_other ws i a j (λ g. omega arith))
]

pub entry_state : (ws : List ℕ) (s : SchedulerState) (j : ℕ) → entry_at (put_scheduler ws s) j ≡ entry_at ws j
unfolding entry_at
entry_state ws s j = ap entry_of (active_put_scheduler ws s j)

pub entry_row : (ws : List ℕ) (i : ℕ) → entry_at ws i ≡ entry_of (active_at ws i)
unfolding entry_at
entry_row ws i = refl

-- ---- the groups' words after a store

module _ (ws : List ℕ) (at : ℕ) (row : ActiveStreamInfo) (n n' : ℕ) (long : length ws ≡ 20768) (fits : at < 256) (down : (j : ℕ) → j < n' → (at ≡ j → ⊥) → j < n) (l : Leasts ws n) where
  -- A row, of n' rows that but for it were among n before.
  store_leasts : Leasts (put_active_words ws at row) n'
  store_leasts = leasts_stored ws (put_active_words ws at row) at n n' fits (leasts_put_active ws at row long) (active_at_put_other ws at row) down l

state_leasts : (ws : List ℕ) (v : SchedulerState) (n : ℕ) → Leasts ws n → Leasts (put_scheduler ws v) n
state_leasts ws v n l = leasts_same ws (put_scheduler ws v) n (leasts_put_scheduler ws v) (active_put_scheduler ws v) l

-- ---- other words with the same rows

pub scheduler_kept : (ws us : List ℕ) → length us ≡ length ws → options_at us ≡ options_at ws → scheduler_at us ≡ scheduler_at ws → ((j : ℕ) → active_at us j ≡ active_at ws j) → Leasts us (scheduler_at ws).active
    → GoodScheduler ws → GoodScheduler us × (model_scheduler us ≡ model_scheduler ws)
unfolding model_scheduler entry_at
scheduler_kept ws us l eo es ea w g = (
  record {
    long = l ∙ g.long;
    few = rw es g.few;
    unlike = rw es (unlike_same (entry_at ws) (entry_at us) (scheduler_at ws).active (λ i h. rw (ea i)) g.unlike);
    leasts = rw es w;
  },
  rw (eo, es, table_same (entry_at ws) (entry_at us) (scheduler_at ws).active (λ i h. rw (ea i))),
)

pub scheduler_same : (ws us : List ℕ) → length us ≡ length ws → options_at us ≡ options_at ws → scheduler_at us ≡ scheduler_at ws → ((j : ℕ) → active_at us j ≡ active_at ws j) → leasts_at us ≡ leasts_at ws
    → GoodScheduler ws → GoodScheduler us × (model_scheduler us ≡ model_scheduler ws)
scheduler_same ws us l eo es ea el g = scheduler_kept ws us l eo es ea (leasts_same ws us (scheduler_at ws).active el ea g.leasts) g

-- Another state with as many rows.
pub state_good : (ws : List ℕ) → GoodScheduler ws → (v : SchedulerState) → v.active ≡ (scheduler_at ws).active → GoodScheduler (put_scheduler ws v)
state_good ws g v e =
    let c : (scheduler_at (put_scheduler ws v)).active ≡ (scheduler_at ws).active = active_count_put ws v g.long ∙ e in
    record {
      long = whole_put_scheduler ws v ∙ g.long;
      few = subst (λ (x : ℕ). x ≤ 256) (sym c) g.few;
      unlike = subst (Unlike (entry_at (put_scheduler ws v))) (sym c) (unlike_same (entry_at ws) (entry_at (put_scheduler ws v)) (scheduler_at ws).active (λ j h. ap (λ (x : Active). x.stream_id) (entry_state ws v j)) g.unlike);
      leasts = subst (Leasts (put_scheduler ws v)) (sym c) (state_leasts ws v (scheduler_at ws).active g.leasts);
    }

-- A group made fresh changes no row.
pub refreshed_steps : (ws us : List ℕ) (at : ℕ) (sc : Scheduler) → Steps ws (outcome true us) sc → Steps ws (outcome true (refreshed us at)) sc
refreshed_steps ws us at sc s =
    let g = s.step_good in
    let k = scheduler_kept us (refreshed us at) (refreshed_whole us at) (refreshed_options us at) (refreshed_scheduler us at) (refreshed_rows us at) (refreshed_leasts us at g.long g.leasts) g in
    record {
      step_done = refl;
      step_good = k.0;
      step_model = k.1 ∙ s.step_model;
      step_count = subst (λ (x : SchedulerState). x.active ≤ suc (scheduler_at ws).active) (sym (refreshed_scheduler us at)) s.step_count;
    }

-- ---- numbers

pub id_fits : (ws : List ℕ) (i : ℕ) → (entry_at ws i).stream_id < 65536
unfolding entry_at
id_fits ws i = (active_at_fits ws i).stream_id_fits

pub current_some : (k : StreamId) → current_of (Some k) ≡ some k.0
unfolding current_of
current_some k = refl

pub current_none : current_of None ≡ none
unfolding current_of
current_none = refl

pub forget_none : (id : ℕ) → forget id none ≡ none
unfolding forget
forget_none id = refl

forgotten_current : (c : Remembered) (id : ℕ) → current_of (forgotten c id) ≡ forget id (current_of c)
unfolding current_of forget
forgotten_current None id = refl
forgotten_current (Some k) id = go (eqb k.0 id)
  where
    go : (b : Bool) → current_of (if b then None else Some (record { 0 = k.0 })) ≡ (if b then none else some k.0)
    go true = refl
    go false = refl

forgotten_fits : (c : Remembered) (id : ℕ) → FitsRemembered c → FitsRemembered (forgotten c id)
forgotten_fits None id f = f
forgotten_fits (Some k) id f = go (eqb k.0 id)
  where
    go : (b : Bool) → FitsRemembered (if b then None else Some (record { 0 = k.0 }))
    go true = tt
    go false = f

rest_put : (t : ℕ) (a : Active) (as' : List Active) → rest_time t (put_active a as') ≡ t
unfolding rest_time
rest_put t a [] = ap (rest_time t) (put_end active_key a)
rest_put t a (b ∷ bs) = elim (tri b.stream_id a.stream_id) [
  | less l ↦ ap (rest_time t) (put_later active_key a b bs l)
  | same e ↦ ap (rest_time t) (put_here active_key a b bs e)
  | more l ↦ ap (rest_time t) (put_before active_key a b bs l)
]

rest_nil : (t : ℕ) → rest_time t [] ≡ 0
unfolding rest_time
rest_nil t = refl

rested_table : (t : ℕ) (e : ℕ → Active) (n : ℕ) → rested t n ≡ rest_time t (table_of e n)
rested_table t e zero = sym (ap (rest_time t) (table_nil e) ∙ rest_nil t)
rested_table t e (suc n) = let z : suc n ≡ 0 → ⊥ = λ f. omega arith in ap (λ (b : Bool). if b then 0 else t) (eqb_false z) ∙ sym (ap (rest_time t) (table_suc e n) ∙ rest_put t (e n) (table_of e n))

-- ---- taking a row out

-- The last of suc m rows in the place of another, with a state of one row fewer.
module _ (ws : List ℕ) (at m : ℕ) (c : Remembered) (t : ℕ) where
  dropped_is : dropped_row ws at c t (suc m) ≡ put_scheduler (put_active_words ws at (active_at ws m)) (state_of c (rested t m) m)
  unfolding dropped_row
  dropped_is =
      let e : suc m - 1 ≡ m = omega arith in
      ap (λ (x : ℕ). put_scheduler (put_active_words ws at (active_at ws x)) (state_of c (rested t x) x)) e

  pub dropped_there : (j : ℕ) → (at ≡ j → ⊥) → entry_at (dropped_row ws at c t (suc m)) j ≡ entry_at ws j
  dropped_there j ne = ap (λ (x : List ℕ). entry_at x j) dropped_is ∙ entry_state (put_active_words ws at (active_at ws m)) (state_of c (rested t m) m) j ∙ entry_put_other ws at (active_at ws m) j ne

  pub dropped_whole : length (dropped_row ws at c t (suc m)) ≡ length ws
  dropped_whole = ap length dropped_is ∙ whole_put_scheduler (put_active_words ws at (active_at ws m)) (state_of c (rested t m) m) ∙ whole_put_active ws at (active_at ws m)

  module _ (long : length ws ≡ 20768) where
    pub dropped_here : at < 256 → entry_at (dropped_row ws at c t (suc m)) at ≡ entry_at ws m
    dropped_here h = ap (λ (x : List ℕ). entry_at x at) dropped_is ∙ entry_state (put_active_words ws at (active_at ws m)) (state_of c (rested t m) m) at
        ∙ entry_put ws at (active_at ws m) long h (active_at_fits ws m) ∙ sym (entry_row ws m)

    pub dropped_left : (scheduler_at (dropped_row ws at c t (suc m))).active ≡ m
    dropped_left = ap (λ (x : List ℕ). (scheduler_at x).active) dropped_is ∙ active_count_put (put_active_words ws at (active_at ws m)) (state_of c (rested t m) m) (whole_put_active ws at (active_at ws m) ∙ long)

    dropped_state : FitsRemembered c → scheduler_at (dropped_row ws at c t (suc m)) ≡ state_of c (rested t m) m
    dropped_state f = ap scheduler_at dropped_is ∙ scheduler_at_put (put_active_words ws at (active_at ws m)) (state_of c (rested t m) m) (whole_put_active ws at (active_at ws m) ∙ long) f

-- A stream's waiting ended: its row is dropped, or it has none and the rows stay.
module _ (ws : List ℕ) (id : ℕ) where
  pub out_hit : (at : ℕ) → at < (scheduler_at ws).active → taken_out ws id at (scheduler_at ws).active ≡ dropped_row ws at (forgotten (scheduler_at ws).current id) (scheduler_at ws).system_virtual_time (scheduler_at ws).active
  unfolding taken_out
  out_hit at h =
      let s : SchedulerState = scheduler_at ws in
      ap (λ (b : Bool). if b then dropped_row ws at (forgotten s.current id) s.system_virtual_time s.active else put_scheduler ws (state_of (forgotten s.current id) (rested s.system_virtual_time s.active) s.active)) (ltb_true h)

  pub out_miss : taken_out ws id (scheduler_at ws).active (scheduler_at ws).active ≡ put_scheduler ws (state_of (forgotten (scheduler_at ws).current id) (rested (scheduler_at ws).system_virtual_time (scheduler_at ws).active) (scheduler_at ws).active)
  unfolding taken_out
  out_miss =
      let s : SchedulerState = scheduler_at ws in let k : s.active ≤ s.active = omega arith in
      ap (λ (b : Bool). if b then dropped_row ws s.active (forgotten s.current id) s.system_virtual_time s.active else put_scheduler ws (state_of (forgotten s.current id) (rested s.system_virtual_time s.active) s.active)) (ltb_false k)

module _ (ws : List ℕ) (g : GoodScheduler ws) where
  module _ (at m : ℕ) (c : Remembered) (t : ℕ) (h : at < suc m) (en : (scheduler_at ws).active ≡ suc m) where
    unlike_n : Unlike (entry_at ws) (suc m)
    unlike_n = subst (Unlike (entry_at ws)) en g.unlike

    few_n : suc m ≤ 256
    few_n = subst (λ (x : ℕ). x ≤ 256) en g.few

    here : entry_at (dropped_row ws at c t (suc m)) at ≡ entry_at ws m
    here = let k = few_n in dropped_here ws at m c t g.long (omega arith)

    there : (j : ℕ) → (at ≡ j → ⊥) → entry_at (dropped_row ws at c t (suc m)) j ≡ entry_at ws j
    there = dropped_there ws at m c t

    left_is : (scheduler_at (dropped_row ws at c t (suc m))).active ≡ m
    left_is = dropped_left ws at m c t g.long

    pub dropped_good : GoodScheduler (dropped_row ws at c t (suc m))
    dropped_good = let k = few_n in record {
      long = dropped_whole ws at m c t ∙ g.long;
      few = subst (λ (x : ℕ). x ≤ 256) (sym left_is) (omega arith);
      unlike = subst (Unlike (entry_at (dropped_row ws at c t (suc m)))) (sym left_is) (unlike_drop (entry_at ws) (entry_at (dropped_row ws at c t (suc m))) m at unlike_n h here there);
      leasts = subst (λ (x : List ℕ). Leasts x (scheduler_at (dropped_row ws at c t (suc m))).active) (sym (dropped_is ws at m c t)) (subst (Leasts (put_scheduler (put_active_words ws at (active_at ws m)) (state_of c (rested t m) m))) (sym left_is)
          (state_leasts (put_active_words ws at (active_at ws m)) (state_of c (rested t m) m) m (store_leasts ws at (active_at ws m) (suc m) m g.long (omega arith) (λ j o ne. omega arith) (subst (Leasts ws) en g.leasts))));
    }

    pub dropped_count : (scheduler_at (dropped_row ws at c t (suc m))).active ≤ suc (scheduler_at ws).active
    dropped_count = subst (λ (x : ℕ). x ≤ suc (scheduler_at ws).active) (sym left_is) (omega arith)

    dropped_table : table_of (entry_at (dropped_row ws at c t (suc m))) m ≡ without_active (entry_at ws at).stream_id (table_of (entry_at ws) (suc m))
    dropped_table = table_drop (entry_at ws) (entry_at (dropped_row ws at c t (suc m))) m at unlike_n h here there

    -- The system time where the row is out.
    pub dropped_rest : rested t m ≡ rest_time t (without_active (entry_at ws at).stream_id (table_of (entry_at ws) (suc m)))
    dropped_rest = rested_table t (entry_at (dropped_row ws at c t (suc m))) m ∙ ap (rest_time t) dropped_table

    pub dropped_model : FitsRemembered c → model_scheduler (dropped_row ws at c t (suc m)) ≡ make (options_at ws).payload_limit (current_of c) (rest_time t (without_active (entry_at ws at).stream_id (table_of (entry_at ws) (suc m)))) (without_active (entry_at ws at).stream_id (table_of (entry_at ws) (suc m)))
    dropped_model f =
        model_of (dropped_row ws at c t (suc m)) (options_at ws).payload_limit (state_of c (rested t m) m) (without_active (entry_at ws at).stream_id (table_of (entry_at ws) (suc m)))
        (ap (λ (x : List ℕ). (options_at x).payload_limit) (dropped_is ws at m c t) ∙ ap (λ (o : Options). o.payload_limit) (options_put_scheduler (put_active_words ws at (active_at ws m)) (state_of c (rested t m) m) ∙ options_put_active ws at (active_at ws m)))
        (dropped_state ws at m c t g.long f) dropped_table
        ∙ ap (λ (x : ℕ). make (options_at ws).payload_limit (current_of c) x (without_active (entry_at ws at).stream_id (table_of (entry_at ws) (suc m)))) dropped_rest

-- A count is 0 or one more than another.
pub data Count (n : ℕ) : Type 0 where
  none_there : n ≡ 0 → Count n
  some_there : (m : ℕ) → n ≡ suc m → Count n

pub count : (n : ℕ) → Count n
count zero = none_there refl
count (suc m) = some_there m refl

-- The scheduler that the words stand for, without a stream.
removed : (ws : List ℕ) (id : ℕ) → remove_stream id (model_scheduler ws) ≡
    make (options_at ws).payload_limit (forget id (current_of (scheduler_at ws).current)) (rest_time (scheduler_at ws).system_virtual_time (without_active id (table_of (entry_at ws) (scheduler_at ws).active))) (without_active id (table_of (entry_at ws) (scheduler_at ws).active))
unfolding remove_stream model_scheduler
removed ws id = refl

-- ---- remove_stream

module _ (ws : List ℕ) (g : GoodScheduler ws) (id : ℕ) (fits : id < 65536) where
  -- A row that is there.
  taken_hit : (at : ℕ) → at < (scheduler_at ws).active → (entry_at ws at).stream_id ≡ id → Steps ws (outcome true (taken_out ws id at (scheduler_at ws).active)) (remove_stream id (model_scheduler ws))
  taken_hit at h e = elim (count (scheduler_at ws).active) [
    | none_there z ↦ absurd (omega arith)
    | some_there m z ↦ (let s : SchedulerState = scheduler_at ws in
        let c : Remembered = forgotten s.current id in
        let h' : at < suc m = subst (λ (x : ℕ). at < x) z h in
        let q : taken_out ws id at s.active ≡ dropped_row ws at c s.system_virtual_time (suc m) = out_hit ws id at h ∙ ap (dropped_row ws at c s.system_virtual_time) z in
        record {
          step_done = refl;
          step_good = subst GoodScheduler (sym q) (dropped_good ws g at m c s.system_virtual_time h' z);
          step_model = ap model_scheduler q ∙ dropped_model ws g at m c s.system_virtual_time h' z (forgotten_fits s.current id (remembered_at_fits ws))
              ∙ ap (λ (x : ℕ). make (options_at ws).payload_limit (current_of c) (rest_time s.system_virtual_time (without_active x (table_of (entry_at ws) (suc m)))) (without_active x (table_of (entry_at ws) (suc m)))) e
              ∙ ap₂ (λ (x : Option ℕ) (y : ℕ). make (options_at ws).payload_limit x (rest_time s.system_virtual_time (without_active id (table_of (entry_at ws) y))) (without_active id (table_of (entry_at ws) y))) (forgotten_current s.current id) (sym z)
              ∙ sym (removed ws id);
          step_count = subst (λ (x : List ℕ). (scheduler_at x).active ≤ suc s.active) (sym q) (dropped_count ws g at m c s.system_virtual_time h' z);
        })
  ]

  -- No row is the stream's.
  taken_miss : ((i : ℕ) → i < (scheduler_at ws).active → (entry_at ws i).stream_id ≡ id → ⊥) → Steps ws (outcome true (taken_out ws id (scheduler_at ws).active (scheduler_at ws).active)) (remove_stream id (model_scheduler ws))
  taken_miss none_has =
      let s : SchedulerState = scheduler_at ws in
      let v : SchedulerState = state_of (forgotten s.current id) (rested s.system_virtual_time s.active) s.active in
      let q : taken_out ws id s.active s.active ≡ put_scheduler ws v = out_miss ws id in
      let ev : scheduler_at (put_scheduler ws v) ≡ v = scheduler_at_put ws v g.long (forgotten_fits s.current id (remembered_at_fits ws)) in
      let same_rows : (i : ℕ) → entry_at (put_scheduler ws v) i ≡ entry_at ws i = entry_state ws v in
      let et : table_of (entry_at (put_scheduler ws v)) s.active ≡ table_of (entry_at ws) s.active = table_same (entry_at ws) (entry_at (put_scheduler ws v)) s.active (λ i l. same_rows i) in
      let ew : without_active id (table_of (entry_at ws) s.active) ≡ table_of (entry_at ws) s.active = table_without (entry_at ws) s.active id none_has in
      record {
        step_done = refl;
        step_good = subst GoodScheduler (sym q) (state_good ws g v refl);
        step_model = ap model_scheduler q
            ∙ model_of (put_scheduler ws v) (options_at ws).payload_limit v (table_of (entry_at ws) s.active) (ap (λ (o : Options). o.payload_limit) (options_put_scheduler ws v)) ev et
            ∙ ap₂ (λ (x : Option ℕ) (y : ℕ). make (options_at ws).payload_limit x y (table_of (entry_at ws) s.active)) (forgotten_current s.current id) (rested_table s.system_virtual_time (entry_at ws) s.active)
            ∙ ap (λ (x : List Active). make (options_at ws).payload_limit (forget id (current_of s.current)) (rest_time s.system_virtual_time x) x) (sym ew)
            ∙ sym (removed ws id);
        step_count = subst (λ (x : List ℕ). (scheduler_at x).active ≤ suc s.active) (sym q) (subst (λ (x : SchedulerState). x.active ≤ suc s.active) (sym ev) (omega arith));
      }

  taken : (at : ℕ) → Sought ws id (scheduler_at ws).active at → Steps ws (outcome true (taken_out ws id at (scheduler_at ws).active)) (remove_stream id (model_scheduler ws))
  taken at (hit h e) = taken_hit at h e
  taken at (miss z h) = subst (λ (x : ℕ). Steps ws (outcome true (taken_out ws id x (scheduler_at ws).active)) (remove_stream id (model_scheduler ws))) (sym z) (taken_miss h)

  pub remove_link : Steps ws (remove_stream_words ws id) (remove_stream id (model_scheduler ws))
  unfolding remove_stream_words
  remove_link =
      let n : ℕ = (scheduler_at ws).active in
      subst (λ (b : Bool). Steps ws (if b then outcome false ws else outcome true (taken_out ws id (seek ws id n) n)) (remove_stream id (model_scheduler ws))) (sym (ltb_false g.few)) (taken (seek ws id n) (sought ws id n))

-- ---- a row in its place

-- A row of the same stream, and a state with as many rows.
module _ (ws : List ℕ) (g : GoodScheduler ws) (at : ℕ) (h : at < (scheduler_at ws).active) (row : ActiveStreamInfo) (fits : FitsActive row) (own : row.stream_id.0 ≡ (entry_at ws at).stream_id) (c : Remembered) (t : ℕ) (fc : FitsRemembered c) where
  pub row_link : Steps ws (outcome true (put_scheduler (put_active_words ws at row) (state_of c t (scheduler_at ws).active))) (make (options_at ws).payload_limit (current_of c) t (put_active (entry_of row) (table_of (entry_at ws) (scheduler_at ws).active)))
  row_link =
      let s : SchedulerState = scheduler_at ws in
      let few : s.active ≤ 256 = g.few in
      let us : List ℕ = put_active_words ws at row in
      let v : SchedulerState = state_of c t s.active in
      let ws' : List ℕ = put_scheduler us v in
      let ev : scheduler_at ws' ≡ v = scheduler_at_put us v (whole_put_active ws at row ∙ g.long) fc in
      let here : entry_at ws' at ≡ entry_of row = entry_state us v at ∙ entry_put ws at row g.long (omega arith) fits in
      let there : (j : ℕ) → (at ≡ j → ⊥) → entry_at ws' j ≡ entry_at ws j = λ j ne. entry_state us v j ∙ entry_put_other ws at row j ne in
      let et : table_of (entry_at ws') s.active ≡ put_active (entry_of row) (table_of (entry_at ws) s.active) = table_set (entry_at ws) (entry_at ws') s.active at (entry_of row) g.unlike h own here there in
      let ids : (j : ℕ) → (entry_at ws' j).stream_id ≡ (entry_at ws j).stream_id = λ j. elim (tri at j) [
        | less o ↦ ap (λ (x : Active). x.stream_id) (there j (λ f. omega arith))
        | same f ↦ subst (λ (k : ℕ). (entry_at ws' k).stream_id ≡ (entry_at ws k).stream_id) f (ap (λ (x : Active). x.stream_id) here ∙ own)
        | more o ↦ ap (λ (x : Active). x.stream_id) (there j (λ f. omega arith))
      ] in
      record {
        step_done = refl;
        step_good = record {
          long = whole_put_scheduler us v ∙ whole_put_active ws at row ∙ g.long;
          few = subst (λ (x : SchedulerState). x.active ≤ 256) (sym ev) g.few;
          unlike = subst (λ (x : SchedulerState). Unlike (entry_at ws') x.active) (sym ev) (unlike_same (entry_at ws) (entry_at ws') s.active (λ j o. ids j) g.unlike);
          leasts = subst (λ (x : SchedulerState). Leasts ws' x.active) (sym ev) (state_leasts us v s.active (store_leasts ws at row s.active s.active g.long (omega arith) (λ j o ne. o) g.leasts));
        };
        step_model = model_of ws' (options_at ws).payload_limit v (put_active (entry_of row) (table_of (entry_at ws) s.active)) (ap (λ (o : Options). o.payload_limit) (options_put_scheduler us v ∙ options_put_active ws at row)) ev et;
        step_count = subst (λ (x : SchedulerState). x.active ≤ suc s.active) (sym ev) (omega arith);
      }

-- ---- set_bytes_remaining

-- Of one row more, all but the last were there.
but_last : (n j : ℕ) → j < n + 1 → (n ≡ j → ⊥) → j < n
but_last n j h ne = elim (tri j n) [ less o ↦ o | same q ↦ absurd (ne (sym q)) | more o ↦ absurd (omega arith) ]

pub word_fits : (p : SchedulingParameters) → FitsParameters p → parameters_word p < 4294967296
word_fits RoundRobin f = omega arith
word_fits (WeightedFairQueuing w) f = omega arith

word_weight : (p : SchedulingParameters) → FitsParameters p → weight_at (parameters_word p) ≡ weight_of_words p
word_weight RoundRobin f = refl
word_weight (WeightedFairQueuing w) f = ap (λ (b : Bool). weight_of_words (if b then WeightedFairQueuing w else RoundRobin)) (ltb_true f)

pub scheduled_row_lem : (l id w t bytes : ℕ) → entry_of (scheduled_row l id w t bytes) ≡ scheduled l id (weight_at w) t bytes
unfolding scheduled advanced
scheduled_row_lem l id w t bytes = refl

set_table : (ws : List ℕ) (id bytes : ℕ) (w : Weight) → 0 < bytes → set_bytes_remaining id bytes w (model_scheduler ws) ≡
    make (options_at ws).payload_limit (current_of (scheduler_at ws).current) (scheduler_at ws).system_virtual_time
    (put_active (scheduled (options_at ws).payload_limit id w (start_of (scheduler_at ws).system_virtual_time (find_active id (table_of (entry_at ws) (scheduler_at ws).active))) bytes) (table_of (entry_at ws) (scheduler_at ws).active))
unfolding model_scheduler
set_table ws id bytes w h = set_some id bytes w (model_scheduler ws) h

start_some : (t : ℕ) (a : Active) → start_of t (some a) ≡ a.start
unfolding start_of
start_some t a = refl

pub start_none : (t : ℕ) → start_of t none ≡ t
unfolding start_of
start_none t = refl

module _ (ws : List ℕ) (g : GoodScheduler ws) (id bytes : ℕ) (p : SchedulingParameters) (fits : id < 65536) (fp : FitsParameters p) where
  abbrev row_at_lem : ℕ → ActiveStreamInfo
  row_at_lem t = scheduled_row (options_at ws).payload_limit id (parameters_word p) t bytes

  pub row_fits : (t : ℕ) → FitsActive (row_at_lem t)
  row_fits t = record { stream_id_fits = fits; parameters_fits = word_fits p fp }

  pub row_entry : (t : ℕ) → entry_of (row_at_lem t) ≡ scheduled (options_at ws).payload_limit id (weight_of_words p) t bytes
  row_entry t = scheduled_row_lem (options_at ws).payload_limit id (parameters_word p) t bytes ∙ ap (λ (w : Weight). scheduled (options_at ws).payload_limit id w t bytes) (word_weight p fp)

  set_hit : (at : ℕ) → 0 < bytes → at < (scheduler_at ws).active → (entry_at ws at).stream_id ≡ id → Steps ws (outcome true (put_active_words ws at (row_at_lem (active_at ws at).virtual_start_time))) (set_bytes_remaining id bytes (weight_of_words p) (model_scheduler ws))
  set_hit at pos h e =
      let s : SchedulerState = scheduler_at ws in
      let l : ℕ = (options_at ws).payload_limit in
      let t : ℕ = (active_at ws at).virtual_start_time in
      let few : s.active ≤ 256 = g.few in
      let ws' : List ℕ = put_active_words ws at (row_at_lem t) in
      let here : entry_at ws' at ≡ entry_of (row_at_lem t) = entry_put ws at (row_at_lem t) g.long (omega arith) (row_fits t) in
      let there : (j : ℕ) → (at ≡ j → ⊥) → entry_at ws' j ≡ entry_at ws j = entry_put_other ws at (row_at_lem t) in
      let es : scheduler_at ws' ≡ s = scheduler_put_active ws at (row_at_lem t) in
      let et : table_of (entry_at ws') s.active ≡ put_active (entry_of (row_at_lem t)) (table_of (entry_at ws) s.active) = table_set (entry_at ws) (entry_at ws') s.active at (entry_of (row_at_lem t)) g.unlike h (sym e) here there in
      let ids : (j : ℕ) → (entry_at ws' j).stream_id ≡ (entry_at ws j).stream_id = ids_put ws at (row_at_lem t) g.long (omega arith) (row_fits t) (sym e) in
      let found : find_active id (table_of (entry_at ws) s.active) ≡ some (entry_at ws at) = ap (λ (k : ℕ). find_active k (table_of (entry_at ws) s.active)) (sym e) ∙ table_at (entry_at ws) s.active at g.unlike h in
      let start : start_of s.system_virtual_time (find_active id (table_of (entry_at ws) s.active)) ≡ t = ap (start_of s.system_virtual_time) found ∙ start_some s.system_virtual_time (entry_at ws at) ∙ ap (λ (x : Active). x.start) (entry_row ws at) in
      record {
        step_done = refl;
        step_good = record {
          long = whole_put_active ws at (row_at_lem t) ∙ g.long;
          few = subst (λ (x : SchedulerState). x.active ≤ 256) (sym es) g.few;
          unlike = subst (λ (x : SchedulerState). Unlike (entry_at ws') x.active) (sym es) (unlike_same (entry_at ws) (entry_at ws') s.active (λ j o. ids j) g.unlike);
          leasts = subst (λ (x : SchedulerState). Leasts ws' x.active) (sym es) (store_leasts ws at (row_at_lem t) s.active s.active g.long (omega arith) (λ j o ne. o) g.leasts);
        };
        step_model =
            model_of ws' l s (put_active (entry_of (row_at_lem t)) (table_of (entry_at ws) s.active)) (ap (λ (o : Options). o.payload_limit) (options_put_active ws at (row_at_lem t))) es et
            ∙ ap (λ (a : Active). make l (current_of s.current) s.system_virtual_time (put_active a (table_of (entry_at ws) s.active))) (row_entry t)
            ∙ ap (λ (x : ℕ). make l (current_of s.current) s.system_virtual_time (put_active (scheduled l id (weight_of_words p) x bytes) (table_of (entry_at ws) s.active))) (sym start)
            ∙ sym (set_table ws id bytes (weight_of_words p) pos);
        step_count = subst (λ (x : SchedulerState). x.active ≤ suc s.active) (sym es) (omega arith);
      }

  set_miss : 0 < bytes → ((i : ℕ) → i < (scheduler_at ws).active → (entry_at ws i).stream_id ≡ id → ⊥) → (scheduler_at ws).active < 256
      → Steps ws (outcome true (put_scheduler (put_active_words ws (scheduler_at ws).active (row_at_lem (scheduler_at ws).system_virtual_time)) (state_of (scheduler_at ws).current (scheduler_at ws).system_virtual_time ((scheduler_at ws).active + 1))))
      (set_bytes_remaining id bytes (weight_of_words p) (model_scheduler ws))
  set_miss pos none_has h =
      let s : SchedulerState = scheduler_at ws in
      let l : ℕ = (options_at ws).payload_limit in
      let t : ℕ = s.system_virtual_time in
      let n : ℕ = s.active in
      let us : List ℕ = put_active_words ws s.active (row_at_lem t) in
      let v : SchedulerState = state_of s.current t (s.active + 1) in
      let ws' : List ℕ = put_scheduler us v in
      let ev : scheduler_at ws' ≡ v = scheduler_at_put us v (whole_put_active ws s.active (row_at_lem t) ∙ g.long) (remembered_at_fits ws) in
      let here : entry_at ws' s.active ≡ entry_of (row_at_lem t) = entry_state us v s.active ∙ entry_put ws s.active (row_at_lem t) g.long h (row_fits t) in
      let there : (j : ℕ) → j < s.active → entry_at ws' j ≡ entry_at ws j = λ j o. entry_state us v j ∙ entry_put_other ws s.active (row_at_lem t) j (λ f. omega arith) in
      let one : s.active + 1 ≡ suc s.active = omega arith in
      let et : table_of (entry_at ws') (s.active + 1) ≡ put_active (entry_of (row_at_lem t)) (table_of (entry_at ws) s.active) = ap (table_of (entry_at ws')) one ∙ table_add (entry_at ws) (entry_at ws') s.active (entry_of (row_at_lem t)) here there in
      let start : start_of t (find_active id (table_of (entry_at ws) s.active)) ≡ t = ap (start_of t) (table_none (entry_at ws) s.active id none_has) ∙ start_none t in
      record {
        step_done = refl;
        step_good = record {
          long = whole_put_scheduler us v ∙ whole_put_active ws s.active (row_at_lem t) ∙ g.long;
          few = subst (λ (x : SchedulerState). x.active ≤ 256) (sym ev) (omega arith);
          unlike = subst (λ (x : SchedulerState). Unlike (entry_at ws') x.active) (sym ev) (subst (Unlike (entry_at ws')) (sym one)
              (unlike_add (entry_at ws) (entry_at ws') s.active g.unlike (λ i o f. none_has i o (f ∙ ap (λ (x : Active). x.stream_id) here)) there));
          leasts = subst (λ (x : SchedulerState). Leasts ws' x.active) (sym ev) (state_leasts us v (s.active + 1) (store_leasts ws s.active (row_at_lem t) s.active (s.active + 1) g.long h (but_last s.active) g.leasts));
        };
        step_model =
            model_of ws' l v (put_active (entry_of (row_at_lem t)) (table_of (entry_at ws) s.active)) (ap (λ (o : Options). o.payload_limit) (options_put_scheduler us v ∙ options_put_active ws s.active (row_at_lem t))) ev et
            ∙ ap (λ (a : Active). make l (current_of s.current) t (put_active a (table_of (entry_at ws) s.active))) (row_entry t)
            ∙ ap (λ (x : ℕ). make l (current_of s.current) t (put_active (scheduled l id (weight_of_words p) x bytes) (table_of (entry_at ws) s.active))) (sym start)
            ∙ sym (set_table ws id bytes (weight_of_words p) pos);
        step_count = subst (λ (x : SchedulerState). x.active ≤ suc s.active) (sym ev) (omega arith);
      }

  set_some_link : 0 < bytes → Room ws id → (at : ℕ) → Sought ws id (scheduler_at ws).active at → Steps ws (set_in ws id bytes (parameters_word p) at (scheduler_at ws).active) (set_bytes_remaining id bytes (weight_of_words p) (model_scheduler ws))
  unfolding set_in
  set_some_link pos r at (hit h e) =
      let s : SchedulerState = scheduler_at ws in
      subst (λ (b : Bool). Steps ws (if b then outcome true (put_active_words ws at (row_at_lem (active_at ws at).virtual_start_time)) else if ltb s.active 256 then outcome true (put_scheduler (put_active_words ws s.active (row_at_lem s.system_virtual_time)) (state_of s.current s.system_virtual_time (s.active + 1))) else outcome false ws) (set_bytes_remaining id bytes (weight_of_words p) (model_scheduler ws)))
      (sym (ltb_true h)) (set_hit at pos h e)
  set_some_link pos r at (miss z none_has) =
      let s : SchedulerState = scheduler_at ws in
      let k : s.active ≤ at = omega arith in
      subst (λ (b : Bool). Steps ws (if b then outcome true (put_active_words ws at (row_at_lem (active_at ws at).virtual_start_time)) else if ltb s.active 256 then outcome true (put_scheduler (put_active_words ws s.active (row_at_lem s.system_virtual_time)) (state_of s.current s.system_virtual_time (s.active + 1))) else outcome false ws) (set_bytes_remaining id bytes (weight_of_words p) (model_scheduler ws)))
      (sym (ltb_false k)) (room r)
    where
      room : Room ws id → Steps ws (if ltb (scheduler_at ws).active 256 then outcome true (put_scheduler (put_active_words ws (scheduler_at ws).active (row_at_lem (scheduler_at ws).system_virtual_time)) (state_of (scheduler_at ws).current (scheduler_at ws).system_virtual_time ((scheduler_at ws).active + 1))) else outcome false ws)
          (set_bytes_remaining id bytes (weight_of_words p) (model_scheduler ws))
      room (listed i h e) = absurd (none_has i h e)
      room (free h) =
          let s : SchedulerState = scheduler_at ws in
          subst (λ (b : Bool). Steps ws (if b then outcome true (put_scheduler (put_active_words ws s.active (row_at_lem s.system_virtual_time)) (state_of s.current s.system_virtual_time (s.active + 1))) else outcome false ws) (set_bytes_remaining id bytes (weight_of_words p) (model_scheduler ws)))
          (sym (ltb_true h)) (set_miss pos none_has h)

  pub set_link : Room ws id → Steps ws (set_bytes_remaining_words ws id bytes p) (set_bytes_remaining id bytes (weight_of_words p) (model_scheduler ws))
  unfolding set_bytes_remaining_words
  set_link r =
      let n : ℕ = (scheduler_at ws).active in
      subst (λ (b : Bool). Steps ws (if b then outcome false ws else if eqb bytes 0 then outcome true (taken_out ws id (seek ws id n) n) else set_in ws id bytes (parameters_word p) (seek ws id n) n) (set_bytes_remaining id bytes (weight_of_words p) (model_scheduler ws)))
      (sym (ltb_false g.few)) (by_bytes (tri bytes 0))
    where
      by_bytes : Tri bytes 0 → Steps ws (if eqb bytes 0 then outcome true (taken_out ws id (seek ws id (scheduler_at ws).active) (scheduler_at ws).active) else set_in ws id bytes (parameters_word p) (seek ws id (scheduler_at ws).active) (scheduler_at ws).active)
          (set_bytes_remaining id bytes (weight_of_words p) (model_scheduler ws))
      by_bytes (less l) = absurd (omega arith)
      by_bytes (same z) =
          let n : ℕ = (scheduler_at ws).active in
          subst (λ (b : Bool). Steps ws (if b then outcome true (taken_out ws id (seek ws id n) n) else set_in ws id bytes (parameters_word p) (seek ws id n) n) (set_bytes_remaining id bytes (weight_of_words p) (model_scheduler ws))) (sym (eqb_true z))
          (subst (Steps ws (outcome true (taken_out ws id (seek ws id n) n))) (sym (ap (λ (x : ℕ). set_bytes_remaining id x (weight_of_words p) (model_scheduler ws)) z ∙ set_none id (weight_of_words p) (model_scheduler ws))) (taken ws g id fits (seek ws id n) (sought ws id n)))
      by_bytes (more l) =
          let n : ℕ = (scheduler_at ws).active in
          let ne : bytes ≡ 0 → ⊥ = λ f. omega arith in
          subst (λ (b : Bool). Steps ws (if b then outcome true (taken_out ws id (seek ws id n) n) else set_in ws id bytes (parameters_word p) (seek ws id n) n) (set_bytes_remaining id bytes (weight_of_words p) (model_scheduler ws))) (sym (eqb_false ne))
          (set_some_link l r (seek ws id n) (sought ws id n))
