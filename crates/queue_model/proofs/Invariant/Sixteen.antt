-- Every reachable queue is well and keeps its options, and no call on one answers 16; creation and saving never do. Assumes nothing.
use mathlib.Core.Path.{◌≡◌, refl, ap, ◌∙◌}
use mathlib.Core.List.{List}
use mathlib.Core.Option.{some}
use mathlib.Core.Bool.{true, false}
use Prim.Native.Nat.{ℕ}
use native.Mathlib.Omega.{arith}
use Rattle.queue_model.specs.Types.{Options, Queue, refused}
use Rattle.queue_model.specs.Streams.{new_queue}
use Rattle.queue_model.specs.Refusals.{Check, first_refusal, create_refusal}
use Rattle.queue_model.specs.Image.{save_checks, save_refusal}
use Rattle.queue_model.specs.Run.{Call, add, produce, fill, discard, close, ready_ids, commit, rollback, reset, set_threshold, set_priority, set_interleaving, restore, ask_priority, ask_amount, ask_threshold, ask_total, ask_empty, ask_has_data, ask_streams_ready, ask_ready_count, ask_readiness, ask_room, step}
use Rattle.queue_model.specs.Demands.{Typed, Reachable, created, called}
use Rattle.queue_model.proofs.Invariant.Well.{Well, well_new, create_checks}
use Rattle.queue_model.proofs.Invariant.Fine.{sixteen, Fine, Safe, safe_refusal, fine_add, fine_close, fine_ready, fine_reopen, fine_reset, fine_set_threshold, fine_set_priority, fine_set_interleaving}
use Rattle.queue_model.proofs.Invariant.Sends.{fine_produce, fine_discard}
use Rattle.queue_model.proofs.Invariant.Accepted.{fine_restore}
use Rattle.queue_model.proofs.Fill.Calls.{fine_fill}

-- Every call is fine.
pub fine_step : (c : Call) (q : Queue) → Typed c → Well q → Fine q (step c q)
unfolding step
fine_step (add store now m) q t w = fine_add store now m q w t.1.1
fine_step (produce store places buffer now size) q t w = fine_produce store places buffer now size q w
fine_step (fill store places buffer now p) q t w = fine_fill store places buffer now p q w
fine_step (discard places s k) q t w = fine_discard places s k q w
fine_step (close places s) q t w = fine_close places s q w t.1
fine_step ready_ids q t w = fine_ready q w
fine_step commit q t w = fine_reopen true q w
fine_step rollback q t w = fine_reopen false q w
fine_step reset q t w = fine_reset q w
fine_step (set_threshold places s n) q t w = fine_set_threshold places s n q w t.1.0 t.1.1
fine_step (set_priority s p) q t w = fine_set_priority s p q w t.0 t.1
fine_step (set_interleaving b) q t w = fine_set_interleaving b q w
fine_step (restore store now image) q t w = fine_restore store now image q w t.1.1
fine_step (ask_priority s) q t w = record { next_well = w; not_sixteen = refl; same_options = refl }
fine_step (ask_amount s) q t w = record { next_well = w; not_sixteen = refl; same_options = refl }
fine_step (ask_threshold s) q t w = record { next_well = w; not_sixteen = refl; same_options = refl }
fine_step ask_total q t w = record { next_well = w; not_sixteen = refl; same_options = refl }
fine_step ask_empty q t w = record { next_well = w; not_sixteen = refl; same_options = refl }
fine_step ask_has_data q t w = record { next_well = w; not_sixteen = refl; same_options = refl }
fine_step ask_streams_ready q t w = record { next_well = w; not_sixteen = refl; same_options = refl }
fine_step ask_ready_count q t w = record { next_well = w; not_sixteen = refl; same_options = refl }
fine_step ask_readiness q t w = record { next_well = w; not_sixteen = refl; same_options = refl }
fine_step (ask_room r) q t w = record { next_well = w; not_sixteen = refl; same_options = refl }

-- Every reachable queue is well.
pub reachable_well : {o : Options} {q : Queue} → Reachable o q → Well q
reachable_well {o} (created c) = well_new o c
reachable_well (called {q = p} r c t) = (fine_step c p t (reachable_well r)).next_well

-- A queue keeps the options of its creation.
pub reachable_options : {o : Options} {q : Queue} → Reachable o q → q.options ≡ o
reachable_options {o} (created c) = unfold new_queue in refl
reachable_options (called {q = p} r c t) = (fine_step c p t (reachable_well r)).same_options ∙ reachable_options r

-- No call on a reachable queue answers 16.
pub no_sixteen : {o : Options} {q : Queue} → Reachable o q → (c : Call) → Typed c → (step c q).outcome.answer ≡ refused 16 → ⊥
no_sixteen {q = q} r c t e =
    let a : sixteen (step c q).outcome.answer ≡ false = (fine_step c q t (reachable_well r)).not_sixteen in
    let b : sixteen (step c q).outcome.answer ≡ true = ap sixteen e in
    let z : ◌≡◌ {A = ℕ} 0 1 = cc in omega arith

-- ---- creation and saving, which are no calls of a run

refusal_not : (cs : List Check) → Safe cs → first_refusal cs ≡ some 16 → ⊥
refusal_not cs s e = let a : true ≡ false = safe_refusal cs 16 s e in let z : ◌≡◌ {A = ℕ} 0 1 = cc in omega arith

pub create_no_sixteen : (o : Options) → create_refusal o ≡ some 16 → ⊥
unfolding create_refusal
create_no_sixteen o = refusal_not (create_checks o) (λ p₁ p₂. tt)

pub save_no_sixteen : (store buffer now : ℕ) (q : Queue) → save_refusal store buffer now q ≡ some 16 → ⊥
unfolding save_refusal
save_no_sixteen store buffer now q = refusal_not (save_checks store buffer now q) (λ p₂ p₄ p₁₁. tt)
