-- Streams let wait one after another, on any words: one that had a row at the start, or for which one more row is counted, is never refused, though rows
-- are taken out on the way. Assumes nothing.
use mathlib.Core.Path.{◌≡◌, refl, sym, ap, ◌∙◌, subst}
use mathlib.Core.Bool.{Bool, true, false}
use mathlib.Core.List.{List, [], ◌∷◌}
use mathlib.Core.Logic.{◌⊎◌, inl, inr}
use Prim.Native.Nat.{ℕ, suc, ◌+◌, ◌≤◌, ◌<◌}
use native.Mathlib.Omega.{arith}
use lib.Dec.{ltb}
use lib.ListN.{length}
use Rattle.std.specs.Prelude.{if◌then◌else◌}
use Rattle.queue_model.specs.Types.{Active}
use Rattle.queue_model.proofs.Tests.{ltb_false, less, same, more, tri}
use Rattle.queue_words.specs.Active.{active_at, put_active_words, FitsActive, parameters_word}
use Rattle.queue_words.specs.Header.{options_at, scheduler_at, put_scheduler}
use Rattle.queue_words.specs.declared.active.ActiveStreamInfo.{ActiveStreamInfo}
use Rattle.queue_words.specs.declared.active.SchedulingParameters.{SchedulingParameters}
use Rattle.queue_words.specs.Header.{Remembered}
use Rattle.queue_words.specs.declared.header.SchedulerState.{SchedulerState}
use Rattle.queue_words.proofs.Laws.{active_count_put, scheduler_put_active, whole_put_active, whole_put_scheduler}
use Rattle.active_table.specs.Rows.{seek}
use Rattle.stream_scheduler.specs.Rows.{scheduled_row}
use Rattle.stream_scheduler.specs.Words.{Outcome, waits_in, forgotten, rested, state_of, dropped_row, taken_out, set_bytes_remaining_words}
use Rattle.stream_scheduler.specs.Link.{entry_at, FitsParameters}
use Rattle.stream_scheduler.proofs.Exits.{bytes_none, bytes_some, set_old, set_new}
use Rattle.stream_scheduler.proofs.Search.{Sought, hit, miss, sought}
use Rattle.stream_scheduler.proofs.Link.{entry_put, entry_put_other, entry_state, dropped_here, dropped_there, dropped_left, dropped_whole, out_hit, out_miss, none_there, some_there, count, word_fits, ids_put}

-- ---- a list of ids

abbrev In : ℕ → List ℕ → Type 0
In x [] = ⊥
In x (y ∷ ys) = (y ≡ x) ⊎ In x ys

-- One less of x, and all others.
record Fewer (x : ℕ) (ys : List ℕ) : Type 0 where
  rest : List ℕ
  one : suc (length rest) ≡ length ys
  others : (z : ℕ) → (z ≡ x → ⊥) → In z ys → In z rest

-- An id before the others.
fewer_there : (x y : ℕ) (ys : List ℕ) → Fewer x ys → Fewer x (y ∷ ys)
fewer_there x y ys f = record { rest = y ∷ f.rest; one = ap suc f.one; others = kept }
  where
    kept : (z : ℕ) → (z ≡ x → ⊥) → In z (y ∷ ys) → In z (y ∷ f.rest)
    kept z n (inl e) = inl e
    kept z n (inr m) = inr (f.others z n m)

fewer : (x : ℕ) (ys : List ℕ) → In x ys → Fewer x ys
fewer x [] n = absurd n
fewer x (y ∷ ys) (inl e) = record { rest = ys; one = refl; others = kept }
  where
    kept : (z : ℕ) → (z ≡ x → ⊥) → In z (y ∷ ys) → In z ys
    kept z n (inl f) = absurd (n (sym f ∙ e))
    kept z n (inr m) = m
fewer x (y ∷ ys) (inr m) = fewer_there x y ys (fewer x ys m)

-- ---- what is kept on the way

-- No row is the stream's.
abbrev Lacks : List ℕ → ℕ → Type 0
Lacks us x = (j : ℕ) → j < (scheduler_at us).active → (entry_at us j).stream_id ≡ x → ⊥

-- So many rows suffice for those of us, and for one more of each stream that has a row in ws and none in us.
pub record Reserved (ws us : List ℕ) (rows : ℕ) : Type 0 where
  pub whole : length us ≡ 20768
  out : List ℕ
  within : (scheduler_at us).active + length out ≤ rows
  awaited : (x i : ℕ) → i < (scheduler_at ws).active → (entry_at ws i).stream_id ≡ x → Lacks us x → In x out

pub reserved_start : (ws : List ℕ) → length ws ≡ 20768 → Reserved ws ws (scheduler_at ws).active
reserved_start ws l = record { whole = l; out = []; within = omega arith; awaited = λ x i h e n. n i h e }

-- Another part of the queue written, or a row of the same stream.
same_ids : (ws us vs : List ℕ) (r : ℕ) → length vs ≡ length us → (scheduler_at vs).active ≡ (scheduler_at us).active → ((j : ℕ) → (entry_at vs j).stream_id ≡ (entry_at us j).stream_id) → Reserved ws us r → Reserved ws vs r
same_ids ws us vs r l n s v =
    let w = v.within in
    record { whole = l ∙ v.whole; out = v.out; within = omega arith; awaited = λ x i h e lacks. v.awaited x i h e (λ j k f. lacks j (omega arith) (s j ∙ f)) }

pub reserved_frame : (ws us vs : List ℕ) (r : ℕ) → length vs ≡ length us → scheduler_at vs ≡ scheduler_at us → ((j : ℕ) → active_at vs j ≡ active_at us j) → Reserved ws us r → Reserved ws vs r
unfolding entry_at
reserved_frame ws us vs r l n s v = same_ids ws us vs r l (ap (λ (x : SchedulerState). x.active) n) (λ j. ap (λ (x : ActiveStreamInfo). x.stream_id.0) (s j)) v

pub reserved_more : (ws us : List ℕ) (r r' : ℕ) → r ≤ r' → Reserved ws us r → Reserved ws us r'
reserved_more ws us r r' h v = let w = v.within in record { whole = v.whole; out = v.out; within = omega arith; awaited = v.awaited }

-- A stream without a row is not listed.
lacks_waits : (ws : List ℕ) (id : ℕ) → Lacks ws id → waits_in ws id ≡ false
unfolding waits_in
lacks_waits ws id n = by (ltb 256 (scheduler_at ws).active) (seek ws id (scheduler_at ws).active) (sought ws id (scheduler_at ws).active)
  where
    by : (b : Bool) (r : ℕ) → Sought ws id (scheduler_at ws).active r → (if b then false else ltb r (scheduler_at ws).active) ≡ false
    by true r s = refl
    by false r (hit h e) = absurd (n r h e)
    by false r (miss z h) =
        let k : (scheduler_at ws).active ≤ r = omega arith in
        ltb_false k

-- ---- a stream is let wait

-- Not refused, and the rows suffice after it.
pub record Settles (ws : List ℕ) (rows : ℕ) (r : Outcome) : Type 0 where
  pub settled : r.done ≡ true
  pub reserved : Reserved ws r.next rows

module _ (ws us : List ℕ) (id r r' : ℕ) (v : Reserved ws us r) (low : r ≤ r') (few : r' ≤ 256) where
  rows_fit : (scheduler_at us).active ≤ 256
  rows_fit = let w = v.within in omega arith

  -- ---- with no bytes

  module _ (at m : ℕ) (h : at < suc m) (e : (entry_at us at).stream_id ≡ id) (z : (scheduler_at us).active ≡ suc m) (c : Remembered) (t : ℕ) where
    abbrev ds : List ℕ
    ds = dropped_row us at c t (suc m)

    left : (scheduler_at ds).active ≡ m
    left = dropped_left us at m c t v.whole

    -- Another stream's row is still there.
    stays : (x : ℕ) → (x ≡ id → ⊥) → Lacks ds x → Lacks us x
    stays x ne lacks j k f = let l = left in elim (tri j m) [
      | less o ↦ lacks j (omega arith) (ap (λ (a : Active). a.stream_id) (dropped_there us at m c t j apart) ∙ f)
      | same q ↦ (let w = rows_fit in let d : at ≡ m → ⊥ = λ p. apart (p ∙ sym q) in
          lacks at (omega arith) (ap (λ (a : Active). a.stream_id) (dropped_here us at m c t v.whole (omega arith)) ∙ ap (λ (y : ℕ). (entry_at us y).stream_id) (sym q) ∙ f))
      | more o ↦ omega arith
    ]
      where
        apart : at ≡ j → ⊥
        apart p = ne (sym f ∙ ap (λ (y : ℕ). (entry_at us y).stream_id) (sym p) ∙ e)

    dropped_reserved : Reserved ws ds r'
    dropped_reserved =
        let w = v.within in let q = left in
        record {
          whole = dropped_whole us at m c t ∙ v.whole;
          out = id ∷ v.out;
          within = omega arith;
          awaited = λ x i k f lacks. elim (tri x id) as (λ _. In x (id ∷ v.out)) [
            | less o ↦ inr (v.awaited x i k f (stays x (λ p. omega arith) lacks))
            | same p ↦ inl (sym p)
            | more o ↦ inr (v.awaited x i k f (stays x (λ p. omega arith) lacks))
          ];
        }

  taken_reserved : (at : ℕ) → Sought us id (scheduler_at us).active at → Reserved ws (taken_out us id at (scheduler_at us).active) r'
  taken_reserved at (hit h e) = elim (count (scheduler_at us).active) [
    | none_there z ↦ absurd (omega arith)
    | some_there m z ↦ (let c : Remembered = forgotten (scheduler_at us).current id in
        let t : ℕ = (scheduler_at us).system_virtual_time in
        subst (λ (x : List ℕ). Reserved ws x r') (sym (out_hit us id at h ∙ ap (dropped_row us at c t) z)) (dropped_reserved at m (subst (λ (x : ℕ). at < x) z h) e z c t))
  ]
  taken_reserved at (miss z h) =
      let s : SchedulerState = scheduler_at us in
      let x : SchedulerState = state_of (forgotten s.current id) (rested s.system_virtual_time s.active) s.active in
      subst (λ (y : ℕ). Reserved ws (taken_out us id y s.active) r') (sym z)
      (subst (λ (y : List ℕ). Reserved ws y r') (sym (out_miss us id))
      (same_ids ws us (put_scheduler us x) r' (whole_put_scheduler us x) (active_count_put us x v.whole) (λ j. ap (λ (a : Active). a.stream_id) (entry_state us x j)) (reserved_more ws us r r' low v)))

  -- ---- with bytes

  module _ (bytes : ℕ) (p : SchedulingParameters) (fits : id < 65536) (fp : FitsParameters p) (counted : (bytes ≡ 0 → ⊥) → waits_in ws id ≡ false → r < r') where
    abbrev row_at_lem : ℕ → ActiveStreamInfo
    row_at_lem t = scheduled_row (options_at us).payload_limit id (parameters_word p) t bytes

    row_fits : (t : ℕ) → FitsActive (row_at_lem t)
    row_fits t = record { stream_id_fits = fits; parameters_fits = word_fits p fp }

    -- The stream's row set anew.
    kept_reserved : (at : ℕ) → at < (scheduler_at us).active → (entry_at us at).stream_id ≡ id → (t : ℕ) → Reserved ws (put_active_words us at (row_at_lem t)) r'
    kept_reserved at h e t =
        let w = rows_fit in
        same_ids ws us (put_active_words us at (row_at_lem t)) r' (whole_put_active us at (row_at_lem t)) (ap (λ (x : SchedulerState). x.active) (scheduler_put_active us at (row_at_lem t)))
        (ids_put us at (row_at_lem t) v.whole (omega arith) (row_fits t) (sym e)) (reserved_more ws us r r' low v)

    -- A new row, behind the others.
    abbrev state : SchedulerState
    state = state_of (scheduler_at us).current (scheduler_at us).system_virtual_time ((scheduler_at us).active + 1)

    abbrev ns : ℕ → List ℕ
    ns t = put_scheduler (put_active_words us (scheduler_at us).active (row_at_lem t)) state

    abbrev New : ℕ → Type 0
    New t = ((scheduler_at us).active < 256) × Reserved ws (ns t) r'

    module _ (free : (scheduler_at us).active < 256) (t : ℕ) where
      more_rows : (scheduler_at (ns t)).active ≡ (scheduler_at us).active + 1
      more_rows = active_count_put (put_active_words us (scheduler_at us).active (row_at_lem t)) state (whole_put_active us (scheduler_at us).active (row_at_lem t) ∙ v.whole)

      own : (entry_at (ns t) (scheduler_at us).active).stream_id ≡ id
      own = ap (λ (x : Active). x.stream_id) (entry_state (put_active_words us (scheduler_at us).active (row_at_lem t)) state (scheduler_at us).active ∙ entry_put us (scheduler_at us).active (row_at_lem t) v.whole free (row_fits t))

      others : (j : ℕ) → j < (scheduler_at us).active → entry_at (ns t) j ≡ entry_at us j
      others j h = entry_state (put_active_words us (scheduler_at us).active (row_at_lem t)) state j ∙ entry_put_other us (scheduler_at us).active (row_at_lem t) j (λ q. omega arith)

      -- A stream that has no row now had none, and is another.
      lacked : (x : ℕ) → Lacks (ns t) x → Lacks us x
      lacked x lacks j h f = let q = more_rows in lacks j (omega arith) (ap (λ (a : Active). a.stream_id) (others j h) ∙ f)

      another : (x : ℕ) → Lacks (ns t) x → x ≡ id → ⊥
      another x lacks f = let q = more_rows in lacks (scheduler_at us).active (omega arith) (own ∙ sym f)

      added : (xs : List ℕ) → (scheduler_at us).active + suc (length xs) ≤ r' → ((x i : ℕ) → i < (scheduler_at ws).active → (entry_at ws i).stream_id ≡ x → Lacks (ns t) x → In x xs) → Reserved ws (ns t) r'
      added xs h k =
          let q = more_rows in
          record {
            whole = whole_put_scheduler (put_active_words us (scheduler_at us).active (row_at_lem t)) state ∙ whole_put_active us (scheduler_at us).active (row_at_lem t) ∙ v.whole;
            out = xs;
            within = omega arith;
            awaited = k;
          }

    -- It has a row that was reserved, or one that was counted.
    new_reserved : (bytes ≡ 0 → ⊥) → Lacks us id → (t : ℕ) → Sought ws id (scheduler_at ws).active (seek ws id (scheduler_at ws).active) → New t
    new_reserved pos lacks t (hit h e) =
        let f = fewer id v.out (v.awaited id (seek ws id (scheduler_at ws).active) h e lacks) in
        let o = f.one in let w = v.within in
        let free : (scheduler_at us).active < 256 = omega arith in
        (free, added free t f.rest (omega arith) (λ x i k q l. f.others x (another free t x l) (v.awaited x i k q (lacked free t x l))))
    new_reserved pos lacks t (miss z h) =
        let c = counted pos (lacks_waits ws id h) in let w = v.within in
        let free : (scheduler_at us).active < 256 = omega arith in
        (free, added free t v.out (omega arith) (λ x i k q l. v.awaited x i k q (lacked free t x l)))

    settles_some : (bytes ≡ 0 → ⊥) → (k : ℕ) → k ≡ seek us id (scheduler_at us).active → Sought us id (scheduler_at us).active k → Settles ws r' (set_bytes_remaining_words us id bytes p)
    settles_some pos k q (hit h e) =
        let t : ℕ = (active_at us k).virtual_start_time in
        subst (Settles ws r') (bytes_some us id bytes p (scheduler_at us) refl k (put_active_words us k (row_at_lem t)) rows_fit q (parameters_word p) true pos refl
        (set_old us id bytes (parameters_word p) k (scheduler_at us).active (options_at us) refl (active_at us k) (row_at_lem t) (put_active_words us k (row_at_lem t)) h refl refl refl))
        (record { settled = refl; reserved = kept_reserved k h e t })
    settles_some pos k q (miss z lacks) =
        let t : ℕ = (scheduler_at us).system_virtual_time in
        let f = new_reserved pos lacks t (sought ws id (scheduler_at ws).active) in
        subst (Settles ws r') (bytes_some us id bytes p (scheduler_at us) refl k (ns t) rows_fit q (parameters_word p) true pos refl
        (set_new us id bytes (parameters_word p) k (scheduler_at us).active (options_at us) refl (scheduler_at us) (row_at_lem t) (put_active_words us (scheduler_at us).active (row_at_lem t)) (ns t) (omega arith) f.0 refl refl refl refl))
        (record { settled = refl; reserved = f.1 })

    -- Let wait with these bytes.
    pub settles : Settles ws r' (set_bytes_remaining_words us id bytes p)
    settles = elim (tri bytes 0) [
      | less l ↦ absurd (omega arith)
      | same z ↦ (let k : ℕ = seek us id (scheduler_at us).active in
          subst (Settles ws r') (bytes_none us id bytes p (scheduler_at us) refl k (taken_out us id k (scheduler_at us).active) rows_fit refl z refl)
          (record { settled = refl; reserved = taken_reserved k (sought us id (scheduler_at us).active) }))
      | more l ↦ settles_some (λ z. omega arith) (seek us id (scheduler_at us).active) refl (sought us id (scheduler_at us).active)
    ]
