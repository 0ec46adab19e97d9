-- From good words `accept` leaves good words that stand for the model's, and `peek` chooses what the model chooses. Assumes nothing.
use Rattle.std.specs.Prelude.{Some, None}
use mathlib.Core.Path.{◌≡◌, refl, sym, ap, ap₂, ◌∙◌, subst}
use mathlib.Core.Bool.{Bool, true, false}
use mathlib.Core.List.{List, []}
use mathlib.Core.Option.{Option, none, some}
use Prim.Native.Nat.{ℕ, suc, ◌-◌, ◌≤◌, ◌<◌}
use native.Mathlib.Omega.{arith}
use lib.Dec.{eqb, leb}
use Rattle.std.specs.Prelude.{if◌then◌else◌}
use Rattle.queue_model.specs.Types.{Active}
use Rattle.queue_model.specs.Scheduler.{moved, scheduled, find_active, put_active, without_active, forget, rest_time, remove_stream, least_of, remembered, or_else, peek, remember, accept_last, accept_part, accept}
use Rattle.queue_model.proofs.Tests.{ltb_true, ltb_false, leb_false, eqb_true, eqb_false}
use Rattle.queue_words.specs.Active.{active_at, put_active_words, FitsActive, parameters_of}
use Rattle.queue_words.specs.declared.active.SchedulingParameters.{SchedulingParameters}
use Rattle.types.specs.declared.StreamId.{StreamId}
use Rattle.queue_words.specs.Header.{options_at, scheduler_at, put_scheduler, FitsRemembered}
use Rattle.queue_words.specs.Header.{Remembered}
use Rattle.queue_words.specs.declared.active.ActiveStreamInfo.{ActiveStreamInfo}
use Rattle.queue_words.proofs.Laws.{active_at_fits}
use Rattle.stream_scheduler.specs.declared.Peeked.TheVariants.{At, Nothing, Broken}
use Rattle.queue_words.specs.declared.active.SchedulingParameters.TheVariants.{RoundRobin, WeightedFairQueuing}
use Rattle.active_table.specs.Groups.{least_known, refreshed}
use Rattle.active_table.specs.Rows.{seek}
use Rattle.stream_scheduler.specs.Rows.{weight_of_words, weight_at, advanced}
use Rattle.stream_scheduler.specs.Words.{outcome, current_row, peek_among, peek_words, state_of, dropped_row, remembered_in, remembered_by, part_row, accept_row, accept_at}
use Rattle.stream_scheduler.specs.Link.{entry_of, entry_at, table_of, current_of, model_scheduler, GoodScheduler, Steps, Chooses, row_chosen, none_chosen}
use Rattle.stream_scheduler.proofs.Index.{table_nil, table_at, table_none, table_least}
use Rattle.stream_scheduler.proofs.Search.{Sought, hit, miss, sought, known_in, known_least}
use Rattle.stream_scheduler.proofs.Link.{make, current_some, current_none, dropped_good, dropped_count, dropped_model, none_there, some_there, count, row_link, refreshed_steps, scheduled_row_lem}
use Rattle.queue_model.proofs.FairTurns.Entries.{forget_own}

-- ---- accept

pub moved_is : (ws : List ℕ) (at bytes : ℕ) → moved (entry_at ws at) bytes ≡ advanced (active_at ws at).parameters (active_at ws at).virtual_start_time bytes
unfolding moved advanced entry_at
moved_is ws at bytes = refl

pub last_is : (ws : List ℕ) (a : Active) (bytes : ℕ) → accept_last a bytes (model_scheduler ws) ≡
    make (options_at ws).payload_limit (forget a.stream_id (some a.stream_id)) (rest_time (moved a bytes) (without_active a.stream_id (table_of (entry_at ws) (scheduler_at ws).active))) (without_active a.stream_id (table_of (entry_at ws) (scheduler_at ws).active))
unfolding accept_last remove_stream model_scheduler
last_is ws a bytes = refl

part_is : (ws : List ℕ) (a : Active) (bytes : ℕ) → accept_part a bytes (model_scheduler ws) ≡
    make (options_at ws).payload_limit (remember a.stream_id a.weight) (moved a bytes) (put_active (scheduled (options_at ws).payload_limit a.stream_id a.weight (moved a bytes) (a.bytes_remaining - bytes)) (table_of (entry_at ws) (scheduler_at ws).active))
unfolding accept_part model_scheduler
part_is ws a bytes = refl

-- The remembered stream, by the weight.
remember_in : (id : ℕ) (p : SchedulingParameters) → current_of (remembered_in id p) ≡ remember id (weight_of_words p)
unfolding remember
remember_in id RoundRobin = current_some (record { 0 = id })
remember_in id (WeightedFairQueuing v) = current_none

remember_by : (id w : ℕ) → current_of (remembered_by id w) ≡ remember id (weight_at w)
remember_by id w = remember_in id (parameters_of w)

remembered_fits : (id : ℕ) (p : SchedulingParameters) → id < 65536 → FitsRemembered (remembered_in id p)
remembered_fits id RoundRobin f = f
remembered_fits id (WeightedFairQueuing v) f = tt

module _ (ws : List ℕ) (g : GoodScheduler ws) (at bytes : ℕ) (h : at < (scheduler_at ws).active) where
  abbrev row : ActiveStreamInfo
  row = active_at ws at

  abbrev time : ℕ
  time = advanced (active_at ws at).parameters (active_at ws at).virtual_start_time bytes

  pub accept_last_link : Steps ws (outcome true (dropped_row ws at None time (scheduler_at ws).active)) (accept_last (entry_at ws at) bytes (model_scheduler ws))
  accept_last_link = elim (count (scheduler_at ws).active) [
    | none_there z ↦ absurd (omega arith)
    | some_there m z ↦ (let h' : at < suc m = subst (λ (x : ℕ). at < x) z h in
        let l : ℕ = (options_at ws).payload_limit in
        let id : ℕ = (entry_at ws at).stream_id in
        let q : dropped_row ws at None time (scheduler_at ws).active ≡ dropped_row ws at None time (suc m) = ap (dropped_row ws at None time) z in
        record {
          step_done = refl;
          step_good = subst GoodScheduler (sym q) (dropped_good ws g at m None time h' z);
          step_model = ap model_scheduler q ∙ dropped_model ws g at m None time h' z tt
              ∙ ap₂ (λ (x : Option ℕ) (y : ℕ). make l x (rest_time time (without_active id (table_of (entry_at ws) y))) (without_active id (table_of (entry_at ws) y))) (current_none ∙ sym (forget_own id)) (sym z)
              ∙ ap (λ (x : ℕ). make l (forget id (some id)) (rest_time x (without_active id (table_of (entry_at ws) (scheduler_at ws).active))) (without_active id (table_of (entry_at ws) (scheduler_at ws).active))) (sym (moved_is ws at bytes))
              ∙ sym (last_is ws (entry_at ws at) bytes);
          step_count = subst (λ (x : List ℕ). (scheduler_at x).active ≤ suc (scheduler_at ws).active) (sym q) (dropped_count ws g at m None time h' z);
        })
  ]

  abbrev part : ActiveStreamInfo
  part = part_row ws (active_at ws at) time bytes

  part_fits : FitsActive part
  part_fits = let f = active_at_fits ws at in record { stream_id_fits = f.stream_id_fits; parameters_fits = f.parameters_fits }

  part_entry : entry_of part ≡ scheduled (options_at ws).payload_limit (entry_at ws at).stream_id (entry_at ws at).weight (moved (entry_at ws at) bytes) ((entry_at ws at).bytes_remaining - bytes)
  unfolding entry_at
  part_entry =
      scheduled_row_lem (options_at ws).payload_limit (active_at ws at).stream_id.0 (active_at ws at).parameters time ((active_at ws at).bytes_remaining - bytes)
      ∙ ap (λ (t : ℕ). scheduled (options_at ws).payload_limit (active_at ws at).stream_id.0 (weight_at (active_at ws at).parameters) t ((active_at ws at).bytes_remaining - bytes)) (sym (moved_is ws at bytes))

  part_current : current_of (remembered_by (active_at ws at).stream_id.0 (active_at ws at).parameters) ≡ remember (entry_at ws at).stream_id (entry_at ws at).weight
  unfolding entry_at
  part_current = remember_by (active_at ws at).stream_id.0 (active_at ws at).parameters

  part_id : part.stream_id.0 ≡ (entry_at ws at).stream_id
  unfolding entry_at
  part_id = refl

  accept_part_link : Steps ws (outcome true (put_scheduler (put_active_words ws at part) (state_of (remembered_by (active_at ws at).stream_id.0 (active_at ws at).parameters) time (scheduler_at ws).active))) (accept_part (entry_at ws at) bytes (model_scheduler ws))
  accept_part_link =
      let l : ℕ = (options_at ws).payload_limit in
      let as' : List Active = table_of (entry_at ws) (scheduler_at ws).active in
      subst (Steps ws (outcome true (put_scheduler (put_active_words ws at part) (state_of (remembered_by (active_at ws at).stream_id.0 (active_at ws at).parameters) time (scheduler_at ws).active))))
      (ap₂ (λ (c : Option ℕ) (t : ℕ). make l c t (put_active (entry_of part) as')) part_current (sym (moved_is ws at bytes))
      ∙ ap (λ (a : Active). make l (remember (entry_at ws at).stream_id (entry_at ws at).weight) (moved (entry_at ws at) bytes) (put_active a as')) part_entry
      ∙ sym (part_is ws (entry_at ws at) bytes))
      (row_link ws g at h part part_fits part_id (remembered_by (active_at ws at).stream_id.0 (active_at ws at).parameters) time (remembered_fits (active_at ws at).stream_id.0 (parameters_of (active_at ws at).parameters) (active_at_fits ws at).stream_id_fits))

  same_size : (entry_at ws at).bytes_remaining ≡ (active_at ws at).bytes_remaining
  unfolding entry_at
  same_size = refl

  by_size : (b : Bool) → leb (active_at ws at).bytes_remaining bytes ≡ b
      → Steps ws (outcome true (if b then dropped_row ws at None time (scheduler_at ws).active else put_scheduler (put_active_words ws at part) (state_of (remembered_by (active_at ws at).stream_id.0 (active_at ws at).parameters) time (scheduler_at ws).active)))
      (if b then accept_last (entry_at ws at) bytes (model_scheduler ws) else accept_part (entry_at ws at) bytes (model_scheduler ws))
  by_size true e = accept_last_link
  by_size false e = accept_part_link

  accept_is : accept (entry_at ws at) bytes (model_scheduler ws) ≡ (if leb (active_at ws at).bytes_remaining bytes then accept_last (entry_at ws at) bytes (model_scheduler ws) else accept_part (entry_at ws at) bytes (model_scheduler ws))
  unfolding accept
  accept_is = ap (λ (x : ℕ). if leb x bytes then accept_last (entry_at ws at) bytes (model_scheduler ws) else accept_part (entry_at ws at) bytes (model_scheduler ws)) same_size

  pub accept_link : Steps ws (accept_at ws at bytes) (accept (entry_at ws at) bytes (model_scheduler ws))
  unfolding accept_at accept_row
  accept_link =
      let n : ℕ = (scheduler_at ws).active in
      subst (λ (b : Bool). Steps ws (if b then outcome false ws else if leb n at then outcome false ws else outcome true (refreshed (accept_row ws at bytes n) at)) (accept (entry_at ws at) bytes (model_scheduler ws))) (sym (ltb_false g.few))
      (subst (λ (b : Bool). Steps ws (if b then outcome false ws else outcome true (refreshed (accept_row ws at bytes n) at)) (accept (entry_at ws at) bytes (model_scheduler ws))) (sym (leb_false h))
      (refreshed_steps ws (accept_row ws at bytes n) at (accept (entry_at ws at) bytes (model_scheduler ws))
      (subst (Steps ws (outcome true (accept_row ws at bytes n))) (sym accept_is) (by_size (leb (active_at ws at).bytes_remaining bytes) refl))))

-- ---- peek

module _ (ws : List ℕ) (g : GoodScheduler ws) where
  remembered_some : (c : ℕ) → remembered (some c) (table_of (entry_at ws) (scheduler_at ws).active) ≡ find_active c (table_of (entry_at ws) (scheduler_at ws).active)
  unfolding remembered
  remembered_some c = refl

  remembered_none : remembered none (table_of (entry_at ws) (scheduler_at ws).active) ≡ none
  unfolding remembered
  remembered_none = refl

  or_some : (a : Active) (o : Option Active) → or_else (some a) o ≡ some a
  unfolding or_else
  or_some a o = refl

  or_none : (o : Option Active) → or_else none o ≡ o
  unfolding or_else
  or_none o = refl

  peek_is : peek (model_scheduler ws) ≡ or_else (remembered (current_of (scheduler_at ws).current) (table_of (entry_at ws) (scheduler_at ws).active)) (least_of (table_of (entry_at ws) (scheduler_at ws).active))
  unfolding peek model_scheduler
  peek_is = refl

  least_nil : least_of [] ≡ none
  unfolding least_of
  least_nil = refl

  -- No row: no stream is chosen.
  peek_nothing : (scheduler_at ws).active ≡ 0 → peek (model_scheduler ws) ≡ none
  peek_nothing z =
      let e : table_of (entry_at ws) (scheduler_at ws).active ≡ [] = ap (table_of (entry_at ws)) z ∙ table_nil (entry_at ws) in
      peek_is ∙ ap₂ or_else (nothing_remembered (current_of (scheduler_at ws).current)) (ap least_of e ∙ least_nil) ∙ or_none none
    where
      nothing_remembered : (c : Option ℕ) → remembered c (table_of (entry_at ws) (scheduler_at ws).active) ≡ none
      nothing_remembered none = remembered_none
      nothing_remembered (some k) = remembered_some k ∙ table_none (entry_at ws) (scheduler_at ws).active k (λ i h f. omega arith)

  -- The remembered stream's row.
  peek_current : (k : StreamId) (i : ℕ) → (scheduler_at ws).current ≡ Some k → i < (scheduler_at ws).active → (entry_at ws i).stream_id ≡ k.0 → peek (model_scheduler ws) ≡ some (entry_at ws i)
  peek_current k i ec h e =
      let t : List Active = table_of (entry_at ws) (scheduler_at ws).active in
      peek_is ∙ ap (λ (x : Option Active). or_else x (least_of t)) (ap (λ (x : Remembered). remembered (current_of x) t) ec ∙ ap (λ (x : Option ℕ). remembered x t) (current_some k) ∙ remembered_some k.0
      ∙ ap (λ (x : ℕ). find_active x t) (sym e) ∙ table_at (entry_at ws) (scheduler_at ws).active i g.unlike h) ∙ or_some (entry_at ws i) (least_of t)

  -- The least row, where none is remembered that waits.
  peek_least : 0 < (scheduler_at ws).active → remembered (current_of (scheduler_at ws).current) (table_of (entry_at ws) (scheduler_at ws).active) ≡ none → peek (model_scheduler ws) ≡ some (entry_at ws (least_known ws (scheduler_at ws).active).at)
  peek_least pos r =
      let n : ℕ = (scheduler_at ws).active in
      peek_is ∙ ap (λ (x : Option Active). or_else x (least_of (table_of (entry_at ws) n))) r ∙ or_none (least_of (table_of (entry_at ws) n))
      ∙ table_least (entry_at ws) n (least_known ws n).at g.unlike (known_in ws n pos) (known_least ws n pos g.leasts)

  among : (i : ℕ) → i < (scheduler_at ws).active → peek_among ws (scheduler_at ws).active i ≡ At i
  unfolding peek_among
  among i h = ap (λ (b : Bool). if b then At i else At (least_known ws (scheduler_at ws).active).at) (ltb_true h)

  among_least : (i : ℕ) → (scheduler_at ws).active ≤ i → peek_among ws (scheduler_at ws).active i ≡ At (least_known ws (scheduler_at ws).active).at
  unfolding peek_among
  among_least i h = ap (λ (b : Bool). if b then At i else At (least_known ws (scheduler_at ws).active).at) (ltb_false h)

  least_chosen : (i m : ℕ) → (scheduler_at ws).active ≡ suc m → (scheduler_at ws).active ≤ i → remembered (current_of (scheduler_at ws).current) (table_of (entry_at ws) (scheduler_at ws).active) ≡ none → Chooses ws (peek (model_scheduler ws)) (peek_among ws (scheduler_at ws).active i)
  least_chosen i m z h r =
      let pos : 0 < (scheduler_at ws).active = omega arith in
      subst (Chooses ws (peek (model_scheduler ws))) (sym (among_least i h)) (row_chosen (least_known ws (scheduler_at ws).active).at (known_in ws (scheduler_at ws).active pos) (peek_least pos r))

  chooses_some : (m : ℕ) → (scheduler_at ws).active ≡ suc m → (c : StreamId) → (scheduler_at ws).current ≡ Some c → (i : ℕ) → Sought ws c.0 (scheduler_at ws).active i → Chooses ws (peek (model_scheduler ws)) (peek_among ws (scheduler_at ws).active i)
  chooses_some m z c ec i (hit h e) = subst (Chooses ws (peek (model_scheduler ws))) (sym (among i h)) (row_chosen i h (peek_current c i ec h e))
  chooses_some m z c ec i (miss k h) =
      least_chosen i m z (omega arith) (ap (λ (x : Remembered). remembered (current_of x) (table_of (entry_at ws) (scheduler_at ws).active)) ec ∙ ap (λ (x : Option ℕ). remembered x (table_of (entry_at ws) (scheduler_at ws).active)) (current_some c) ∙ remembered_some c.0 ∙ table_none (entry_at ws) (scheduler_at ws).active c.0 h)

  chooses_none : (m : ℕ) → (scheduler_at ws).active ≡ suc m → (scheduler_at ws).current ≡ None → Chooses ws (peek (model_scheduler ws)) (peek_among ws (scheduler_at ws).active (scheduler_at ws).active)
  chooses_none m z e = least_chosen (scheduler_at ws).active m z (omega arith) (ap (λ (x : Remembered). remembered (current_of x) (table_of (entry_at ws) (scheduler_at ws).active)) e ∙ ap (λ (x : Option ℕ). remembered x (table_of (entry_at ws) (scheduler_at ws).active)) current_none ∙ remembered_none)

  by_current : (m : ℕ) → (scheduler_at ws).active ≡ suc m → Chooses ws (peek (model_scheduler ws)) (peek_among ws (scheduler_at ws).active (current_row ws (scheduler_at ws).active (scheduler_at ws).current))
  unfolding current_row
  by_current m z = go (scheduler_at ws).current refl
    where
      go : (c : Remembered) → (scheduler_at ws).current ≡ c → Chooses ws (peek (model_scheduler ws)) (peek_among ws (scheduler_at ws).active (current_row ws (scheduler_at ws).active c))
      go None e = chooses_none m z e
      go (Some k) e = chooses_some m z k e (seek ws k.0 (scheduler_at ws).active) (sought ws k.0 (scheduler_at ws).active)

  pub peek_link : Chooses ws (peek (model_scheduler ws)) (peek_words ws)
  unfolding peek_words
  peek_link =
      let n : ℕ = (scheduler_at ws).active in
      subst (λ (b : Bool). Chooses ws (peek (model_scheduler ws)) (if b then Broken else if eqb n 0 then Nothing else peek_among ws n (current_row ws n (scheduler_at ws).current))) (sym (ltb_false g.few))
      (elim (count (scheduler_at ws).active) [
        | none_there z ↦ subst (λ (b : Bool). Chooses ws (peek (model_scheduler ws)) (if b then Nothing else peek_among ws n (current_row ws n (scheduler_at ws).current))) (sym (eqb_true z)) (none_chosen (peek_nothing z))
        | some_there m z ↦ (let ne : (scheduler_at ws).active ≡ 0 → ⊥ = λ f. omega arith in subst (λ (b : Bool). Chooses ws (peek (model_scheduler ws)) (if b then Nothing else peek_among ws n (current_row ws n (scheduler_at ws).current))) (sym (eqb_false ne)) (by_current m z))
      ])
