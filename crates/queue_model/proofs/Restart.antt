-- The strict rule's reset (request 6/13), judged from RFC 8260 as document 02 has it: "a message put back starts with FSN 0 and with numbers from the
-- zeroed counters". Assumes nothing.
use mathlib.Core.Path.{◌≡◌, refl, sym, ap, subst, ◌∙◌}
use mathlib.Core.Bool.{Bool, true, false, ◌||◌}
use mathlib.Core.List.{List, [], ◌∷◌, ◌++◌, map}
use Prim.Native.Nat.{ℕ, ◌+◌}
use native.Mathlib.Omega.{arith}
use lib.Dec.{ltb}
use Rattle.queue_model.specs.Logic.{any}
use Rattle.queue_model.specs.Types.{Options, Queue, Fragment, done, Step}
use Rattle.queue_model.specs.Refusals.{first_refusal, refused_or, checked, max_word}
use Rattle.queue_model.specs.Reset.{all_put_back, put_back_overflows, reset_stream, reset_checks}
use Rattle.queue_model.specs.Answers.{fragments_in, of_stream}
use Rattle.queue_model.specs.Restart.{fragments, FirstAfresh, NoneRestored, Request6Starts}
use Rattle.queue_model.specs.Run.{Call, reset, step, run}
use Rattle.queue_model.specs.Demands.{AllTyped}
use Rattle.queue_model.proofs.Table.{Every}
use Rattle.queue_model.proofs.Checks.{Passed, checked_past}
use Rattle.queue_model.proofs.Invariant.Well.{Well}
use Rattle.queue_model.proofs.Invariant.Fine.{sixteen, fine_reset}
use Rattle.queue_model.proofs.Invariant.Sixteen.{fine_step, reachable_well, reachable_options}
use Rattle.queue_model.proofs.Invariant.Fresh.{FreshAs, Fresh, Follows, no_fragment, one_afresh, all_strict_fresh, follows_step}
use Rattle.queue_model.specs.Calls

-- ---- the reset

-- Its one refusal is 16, which no reachable queue meets.
reset_passes : (q : Queue) → Well q → Passed (reset_checks q)
unfolding Calls.reset checked refused_or first_refusal
reset_passes q w = go (ltb max_word (q.total + all_put_back q.streams) || any put_back_overflows q.streams) refl (fine_reset q w).not_sixteen
  where
    go : (b : Bool) → (ltb max_word (q.total + all_put_back q.streams) || any put_back_overflows q.streams) ≡ b → sixteen (Calls.reset q).outcome.answer ≡ false → Passed (reset_checks q)
    go true e f = let z : ◌≡◌ {A = ℕ} 0 1 = cc in absurd (omega arith)
    go false e f = (e, tt)

reset_done : (q : Queue) → Well q → (Calls.reset q).outcome.answer ≡ done
unfolding Calls.reset
reset_done q w = ap (λ (s : Step). s.outcome.answer) (checked_past (reset_checks q) q _ (reset_passes q w))

reset_fresh : (k : ℕ) (q : Queue) → Well q → q.options.strict_restart ≡ true → Fresh k (Calls.reset q).next
unfolding Calls.reset
reset_fresh k q w e =
    subst (λ (s : Step). Fresh k s.next) (sym (checked_past (reset_checks q) q _ (reset_passes q w)))
    (subst (λ (b : Bool). Every (FreshAs k) (map (reset_stream b) q.streams)) (sym e) (all_strict_fresh k q.streams w.kept))

-- ---- the calls after it

first_after : (k : ℕ) (cs : List Call) (q : Queue) → AllTyped cs → NoneRestored cs q → Well q → Fresh k q → FirstAfresh (fragments k (run cs q))
unfolding fragments run
first_after k [] q t n w a = tt
first_after k (c ∷ cs) q t n w a = go (follows_step k c q n.0 w a) (λ b. first_after k cs (step c q).next t.1 n.1 (fine_step c q t.0 w).next_well b)
  where
    go : Follows k (step c q) → (Fresh k (step c q).next → FirstAfresh (fragments k (run cs (step c q).next))) → FirstAfresh (of_stream k (fragments_in (step c q).outcome.answer) ++ fragments k (run cs (step c q).next))
    go (no_fragment e b) h = subst (λ (fs : List Fragment). FirstAfresh (fs ++ fragments k (run cs (step c q).next))) (sym e) (h b)
    go (one_afresh f e b) h = subst (λ (fs : List Fragment). FirstAfresh (fs ++ fragments k (run cs (step c q).next))) (sym e) b

pub request6_starts : Request6Starts
unfolding Request6Starts step
request6_starts o q cs k e r t n =
    let w = reachable_well r in
    record {
      accepted = reset_done q w;
      starts = first_after k cs (step reset q).next t n (fine_reset q w).next_well (reset_fresh k q w (ap (λ (x : Options). x.strict_restart) (reachable_options r) ∙ e));
    }
