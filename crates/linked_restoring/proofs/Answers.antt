-- The answers of the model's restoring, by the words' test. Assumes nothing.
use mathlib.Core.Path.{◌≡◌, refl, sym, ap, ◌∙◌}
use mathlib.Core.Bool.{Bool, true, false, not, ◌||◌}
use mathlib.Core.List.{List, [], ◌∷◌}
use Prim.Native.Nat.{ℕ, zero, suc, ◌≤◌, ◌<◌}
use native.Mathlib.Omega.{arith}
use borrow.Author.Tests.{lt-ltb, le-ltb, eq-eqb, ne_eqb}
use lib.Dec.{ltb, eqb}
use lib.ListN.{length}
use Rattle.queue_words.specs.Flags.{pick}
use Rattle.queue_words.specs.Header.{options_at, totals_at}
use Rattle.queue_model.specs.Logic.{is_nil}
use Rattle.queue_model.specs.Types.{Stream, Queue, Step, refuse, reply, done}
use Rattle.queue_model.specs.Refusals.{◌when◌, first_refusal, refused_or, checked}
use Rattle.queue_model.specs.Reader.{read_image}
use Rattle.queue_model.specs.Restore.{restored, restore_read}
use Rattle.queue_model.specs.Run as run
use Rattle.queue_model.proofs.Checks.{restore_of}
use Rattle.queue_state.specs.Model.{stream_in, streams_in, model, tab}
use Rattle.queue_state.specs.Good.{Good}
use Rattle.queue_state.proofs.Singles.{model_options, model_next, model_streams}
use Rattle.image_rules.specs.Code.{image_code_words}
use Rattle.image_rules.proofs.ReadLink.{handover_at}
use Rattle.image_rules.proofs.CodeLink.{Linked, code_link}
use Rattle.handover.specs.Restore.{restore_code}
use Rattle.queue_words.proofs.Finds.{by_lt}

nil_tab : {A : Type 0} (f : ℕ → A) (n : ℕ) → not (is_nil (tab f n)) ≡ ltb 0 n
unfolding tab is_nil
nil_tab f zero = refl
nil_tab f (suc n) = rw (lt-ltb 0 (suc n) (omega arith))

not_zero : (n : ℕ) → not (eqb n 0) ≡ ltb 0 n
not_zero zero = refl
not_zero (suc n) = rw (ne_eqb (suc n) 0 (λ e. omega arith), lt-ltb 0 (suc n) (omega arith))

three_checks : (a b c : Bool) (q : Queue) (s : Step) → checked ((2 when not true) ∷ (4 when a) ∷ (12 when (b || c)) ∷ []) q s ≡ pick a (refuse q 4) (pick b (refuse q 12) (pick c (refuse q 12) s))
unfolding checked first_refusal refused_or
three_checks true b c q s = refl
three_checks false true c q s = refl
three_checks false false true q s = refl
three_checks false false false q s = refl

module _ (ws st : List ℕ) (g : Good ws st) (time : ℕ) (bs : List ℕ) where
  abbrev q : Queue
  q = model ws st

  abbrev s : Step
  s = restore_read time (model ws st) (read_image bs)

  store_same : length st ≡ q.options.store_length
  store_same = g.store_is ∙ sym (ap (λ o. o.store_length) (model_options ws st))

  streams_nil : not (is_nil q.streams) ≡ ltb 0 (totals_at ws).known
  unfolding streams_in
  streams_nil = ap (λ (l : List Stream). not (is_nil l)) (model_streams ws st) ∙ nil_tab (stream_in ws st) (totals_at ws).known

  next_zero : not (eqb q.next_message_id 0) ≡ ltb 0 (totals_at ws).next_message_id.0
  next_zero = ap (λ (n : ℕ). not (eqb n 0)) (model_next ws st) ∙ not_zero (totals_at ws).next_message_id.0

  step_is : run.step (run.restore (length st) time bs) q
      ≡ pick (ltb 4611686018427387903 time) (refuse q 4) (pick (ltb 0 (totals_at ws).known) (refuse q 12) (pick (ltb 0 (totals_at ws).next_message_id.0) (refuse q 12) s))
  unfolding run.step
  step_is =
      restore_of (length st) time bs q
      ∙ rw (eq-eqb (length st) q.options.store_length store_same, streams_nil, next_zero)
      (three_checks (ltb 4611686018427387903 time) (ltb 0 (totals_at ws).known) (ltb 0 (totals_at ws).next_message_id.0) q s)

  code_is : restore_code ws (length st) time bs
      ≡ pick (ltb 4611686018427387903 time) 4 (pick (ltb 0 (totals_at ws).known) 12 (pick (ltb 0 (totals_at ws).next_message_id.0) 12 (image_code_words (options_at ws).strict_restart bs (options_at ws).default_priority (length st))))
  unfolding restore_code
  code_is = rw (eq-eqb (options_at ws).store_length (length st) (sym g.store_is))

  linked : Linked (options_at ws).strict_restart bs (options_at ws).default_priority (length st) time q
  linked = code_link (options_at ws).strict_restart bs (options_at ws).default_priority (length st) time q (ap (λ o. o.strict_restart) (model_options ws st)) (ap (λ o. o.default_priority) (model_options ws st)) (sym store_same)

  -- What the model does: refused with the words' code, or restored from a queue that was not used.
  pub data Answers : Type 0 where
    refusal : 0 < restore_code ws (length st) time bs → run.step (run.restore (length st) time bs) q ≡ refuse q (restore_code ws (length st) time bs) → Answers
    acceptance : restore_code ws (length st) time bs ≡ 0 → (totals_at ws).known ≡ 0 → image_code_words (options_at ws).strict_restart bs (options_at ws).default_priority (length st) ≡ 0
        → run.step (run.restore (length st) time bs) q ≡ reply done [] (restored time (handover_at bs) q) → Answers

  refused_as : (n : ℕ) → restore_code ws (length st) time bs ≡ n → 0 < n → run.step (run.restore (length st) time bs) q ≡ refuse q n → Answers
  refused_as n c h e = refusal (omega (arith, c)) (e ∙ ap (refuse q) (sym c))

  early : time ≤ 4611686018427387903 → Answers
  early h = by_lt 0 (totals_at ws).known
      (λ k. refused_as 12 (code_is ∙ rw (le-ltb 4611686018427387903 time h, lt-ltb 0 (totals_at ws).known k)) (omega arith) (step_is ∙ rw (le-ltb 4611686018427387903 time h, lt-ltb 0 (totals_at ws).known k)))
      (λ k. by_lt 0 (totals_at ws).next_message_id.0
      (λ n. refused_as 12 (code_is ∙ rw (le-ltb 4611686018427387903 time h, le-ltb 0 (totals_at ws).known k, lt-ltb 0 (totals_at ws).next_message_id.0 n)) (omega arith)
      (step_is ∙ rw (le-ltb 4611686018427387903 time h, le-ltb 0 (totals_at ws).known k, lt-ltb 0 (totals_at ws).next_message_id.0 n)))
      (λ n. judged k
      (code_is ∙ rw (le-ltb 4611686018427387903 time h, le-ltb 0 (totals_at ws).known k, le-ltb 0 (totals_at ws).next_message_id.0 n))
      (step_is ∙ rw (le-ltb 4611686018427387903 time h, le-ltb 0 (totals_at ws).known k, le-ltb 0 (totals_at ws).next_message_id.0 n))))
    where
      judged : (totals_at ws).known ≤ 0 → restore_code ws (length st) time bs ≡ image_code_words (options_at ws).strict_restart bs (options_at ws).default_priority (length st) → run.step (run.restore (length st) time bs) q ≡ s → Answers
      judged k c e = by_lt 0 (image_code_words (options_at ws).strict_restart bs (options_at ws).default_priority (length st))
          (λ p. refused_as (image_code_words (options_at ws).strict_restart bs (options_at ws).default_priority (length st)) c p (e ∙ linked.refused (λ z. omega (arith, z, p))))
          (λ p. let z : image_code_words (options_at ws).strict_restart bs (options_at ws).default_priority (length st) ≡ 0 = omega arith in acceptance (c ∙ z) (omega arith) z (e ∙ linked.accepted z))

  pub answers : Answers
  answers = by_lt 4611686018427387903 time
      (λ h. refused_as 4 (code_is ∙ rw (lt-ltb 4611686018427387903 time h)) (omega arith) (step_is ∙ rw (lt-ltb 4611686018427387903 time h)))
      early
