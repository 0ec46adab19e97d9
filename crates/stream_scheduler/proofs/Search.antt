-- What the searches over rows find: the row of a stream, and the least row. Assumes nothing.
use mathlib.Core.Path.{◌≡◌, sym, ap, ◌∙◌, subst}
use mathlib.Core.Bool.{Bool}
use mathlib.Core.List.{List}
use Prim.Native.Nat.{ℕ, zero, suc, ◌+◌, ◌<◌}
use native.Mathlib.Omega.{arith}
use lib.Dec.{eqb}
use Rattle.std.specs.Prelude.{if◌then◌else◌}
use Rattle.queue_model.proofs.Tests.{Tri, eqb_true, eqb_false, less, same, more, tri}
use Rattle.queue_model.proofs.Choice.{AtMost, sooner, level}
use Rattle.queue_words.specs.Active.{active_at}
use Rattle.active_table.specs.Groups as groups
use Rattle.active_table.specs.Groups.{least_known, Leasts, best_at}
use Rattle.active_table.specs.Rows.{seek_from, seek}
use Rattle.active_table.specs.declared.Best.{Best}
use Rattle.active_table.proofs.Choice.{known_is}
use Rattle.stream_scheduler.specs.Link.{entry_at}

-- ---- the row of a stream

abbrev id_at : List ℕ → ℕ → ℕ
id_at ws i = (active_at ws i).stream_id.0

-- Row r is the stream's, or no row is and r is behind them.
pub data Sought (ws : List ℕ) (id n r : ℕ) : Type 0 where
  hit : r < n → (entry_at ws r).stream_id ≡ id → Sought ws id n r
  miss : r ≡ n → ((i : ℕ) → i < n → (entry_at ws i).stream_id ≡ id → ⊥) → Sought ws id n r

seek_from_lem : (ws : List ℕ) (id i k n : ℕ) → i + k ≡ n → ((j : ℕ) → j < i → id_at ws j ≡ id → ⊥) → Sought ws id n (seek_from (active_at ws) id i k)
unfolding seek_from entry_at
seek_from_lem ws id i zero n e h = miss (omega arith) (λ j l. h j (omega arith))
seek_from_lem ws id i (suc k) n e h = go (tri (id_at ws i) id) (λ g. seek_from_lem ws id (suc i) k n (omega arith) g)
  where
    not_yet : (id_at ws i ≡ id → ⊥) → (j : ℕ) → j < suc i → id_at ws j ≡ id → ⊥
    not_yet ne j l f = elim (tri j i) [
      | less m ↦ h j m f
      | same m ↦ ne (ap (id_at ws) (sym m) ∙ f)
      | more m ↦ omega arith
    ]

    missed : (id_at ws i ≡ id → ⊥) → (((j : ℕ) → j < suc i → id_at ws j ≡ id → ⊥) → Sought ws id n (seek_from (active_at ws) id (suc i) k)) → Sought ws id n (if eqb (id_at ws i) id then i else seek_from (active_at ws) id (suc i) k)
    missed ne ih = subst (λ (b : Bool). Sought ws id n (if b then i else seek_from (active_at ws) id (suc i) k)) (sym (eqb_false ne)) (ih (not_yet ne))

    go : Tri (id_at ws i) id → (((j : ℕ) → j < suc i → id_at ws j ≡ id → ⊥) → Sought ws id n (seek_from (active_at ws) id (suc i) k)) → Sought ws id n (if eqb (id_at ws i) id then i else seek_from (active_at ws) id (suc i) k)
    go (less m) ih = missed (λ f. omega arith) ih
    go (same f) ih = subst (λ (b : Bool). Sought ws id n (if b then i else seek_from (active_at ws) id (suc i) k)) (sym (eqb_true f)) (hit (omega arith) f)
    go (more m) ih = missed (λ f. omega arith) ih

pub sought : (ws : List ℕ) (id n : ℕ) → Sought ws id n (seek ws id n)
unfolding seek
sought ws id n = seek_from_lem ws id 0 n n (omega arith) (λ j l f. omega arith)

-- ---- the least row

-- The least of n rows is one of them, whatever the words; where the groups' words are right it is at most each.
entry_at_most : (ws : List ℕ) (i j : ℕ) → groups.AtMost (best_at ws i) (best_at ws j) → AtMost (entry_at ws i) (entry_at ws j)
unfolding entry_at
entry_at_most ws i j (groups.sooner h) = sooner h
entry_at_most ws i j (groups.level e h) = level e h

pub known_in : (ws : List ℕ) (n : ℕ) → 0 < n → (least_known ws n).at < n
known_in ws n pos = (known_is ws n pos).least_in_lem

pub known_least : (ws : List ℕ) (n : ℕ) → 0 < n → Leasts ws n → (j : ℕ) → j < n → AtMost (entry_at ws (least_known ws n).at) (entry_at ws j)
known_least ws n pos w j h =
    let l = known_is ws n pos in
    entry_at_most ws (least_known ws n).at j (subst (λ (b : Best). groups.AtMost b (best_at ws j)) l.least_row (l.least_first w j h h))
