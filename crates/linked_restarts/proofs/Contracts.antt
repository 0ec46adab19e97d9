-- What the calls promise of the words implies the rest of their contracts. Assumes nothing.
use mathlib.Core.Path.{◌≡◌, refl, sym, ap, ◌∙◌, subst}
use mathlib.Core.Bool.{Bool, true, false}
use mathlib.Core.List.{List}
use Prim.Native.Nat.{ℕ}
use native.Mathlib.Omega.{arith}
use lib.Seq.{take-append_seam}
use Rattle.queue_model.specs.Types.{Answer, refused, done, number, flag, ids, fragment, nothing_waits, filled}
use Rattle.queue_model.specs.Answers.{answer_number, answer_ids}
use Rattle.queue_model.specs.Run as run
use Rattle.queue_streams.specs.Settings.{Called, called}
use Rattle.queue_streams.specs.Restart.{reopen, set_interleaving_words}
use Rattle.queue_streams.specs.Answers.{number_number, number_value}
use Rattle.queue_streams.specs.Call.{Call}
use Rattle.queue_streams.specs.Number.{Number}
use Rattle.queue_restarts.specs.Ready.{Readied, readied, ready, ready_number, ready_list, count_of, ready_count}
use Rattle.queue_restarts.specs.Reset.{reset_queue}
use Rattle.queue_restarts.specs.ReadyStreams.{ReadyStreams}
use Rattle.queue_restarts.proofs.Few.{Few, ready_few, count_is, counted}
use Rattle.queue_state.specs.Good.{Good}
use Rattle.queue_state.specs.Promise.{shown, Does}
use Rattle.queue_state.proofs.Numbers.{tells, number_number_lem, number_value_lem}
use Rattle.linked_restarts.specs.Ids.{ready_of, Readies}
use Rattle.linked_restarts.specs.Promises.{Meets, CommitMeets, RollbackMeets, SwitchMeets, ResetMeets, ReadyMeets, CountMeets}
use Rattle.linked_restarts.proofs.Reopens.{commit_link, rollback_link}
use Rattle.linked_restarts.proofs.Switches.{switch_link}
use Rattle.linked_restarts.proofs.Marks.{ready_link, count_link}
use Rattle.linked_restarts.proofs.WholeQueue.{reset_link}

meets : (c : run.Call) (ws : List ℕ) (d : Called) (r : Call) (ws' : List ℕ) → ((st : List ℕ) → Good ws st → Does c ws st d.answer d.next st) → called r ws' ≡ d → Meets c ws d r ws'
meets c ws d r ws' l e = record { words = e; model = does; tells = λ st g. tells (does st g) }
  where
    does : (st : List ℕ) → Good ws st → Does c ws st r ws' st
    does st g = subst (λ (x : Called). Does c ws st x.answer x.next st) (sym e) (l st g)

pub commit_meets : (ws : List ℕ) (r : Call) (ws' : List ℕ) → called r ws' ≡ reopen true ws → CommitMeets ws r ws'
commit_meets ws r ws' e = meets run.commit ws (reopen true ws) r ws' (λ st g. commit_link ws st g) e

pub rollback_meets : (ws : List ℕ) (r : Call) (ws' : List ℕ) → called r ws' ≡ reopen false ws → RollbackMeets ws r ws'
rollback_meets ws r ws' e = meets run.rollback ws (reopen false ws) r ws' (λ st g. rollback_link ws st g) e

pub switch_meets : (ws : List ℕ) (b : Bool) (r : Call) (ws' : List ℕ) → called r ws' ≡ set_interleaving_words b ws → SwitchMeets ws b r ws'
switch_meets ws b r ws' e = meets (run.set_interleaving b) ws (set_interleaving_words b ws) r ws' (λ st g. switch_link b ws st g) e

pub reset_meets : (ws : List ℕ) (r : Call) (ws' : List ℕ) → called r ws' ≡ reset_queue ws → ResetMeets ws r ws'
reset_meets ws r ws' e = meets run.reset ws (reset_queue ws) r ws' (λ st g. reset_link ws st g) e

ready_number_lem : (a : Answer) → ready_number (ready_of a) ≡ answer_number a
ready_number_lem (refused n) = refl
ready_number_lem done = refl
ready_number_lem (number m) = refl
ready_number_lem (flag b) = refl
ready_number_lem (ids l) = refl
ready_number_lem (fragment f) = refl
ready_number_lem nothing_waits = refl
ready_number_lem (filled bs n) = refl

ready_list_lem : (a : Answer) → ready_list (ready_of a) ≡ answer_ids a
ready_list_lem (refused n) = refl
ready_list_lem done = refl
ready_list_lem (number m) = refl
ready_list_lem (flag b) = refl
ready_list_lem (ids l) = take-append_seam l _
ready_list_lem (fragment f) = refl
ready_list_lem nothing_waits = refl
ready_list_lem (filled bs n) = refl

pub ready_meets : (ws : List ℕ) (r : ReadyStreams) (ws' : List ℕ) → readied r ws' ≡ ready ws → ReadyMeets ws r ws'
ready_meets ws r ws' e =
    let f : Few 256 r = subst (λ (x : Readied). Few 256 x.answer) (sym e) (ready_few ws) in
    record {
      words = e;
      model = readies;
      few = f.count_few;
      places = f.ids_long;
      number = λ st g. ap ready_number (readies st g).answer ∙ ready_number_lem (shown run.ready_ids ws st).answer;
      ids = λ st g. ap ready_list (readies st g).answer ∙ ready_list_lem (shown run.ready_ids ws st).answer;
    }
  where
    readies : (st : List ℕ) → Good ws st → Readies ws st r ws' st
    readies st g = subst (λ (x : Readied). Readies ws st x.answer x.next st) (sym e) (ready_link ws st g)

pub count_meets : (ws : List ℕ) (r : Number) → r ≡ ready_count ws → CountMeets ws r
count_meets ws r e = record {
  words = e;
  model = λ st g. e ∙ count_link ws st g;
  number = λ st g. ap number_number (e ∙ count_link ws st g) ∙ number_number_lem (shown run.ask_ready_count ws st).answer;
  value = λ st g. ap number_value (e ∙ count_link ws st g) ∙ number_value_lem (shown run.ask_ready_count ws st).answer;
  few = λ n h. (let c = counted (ready ws).answer.answer (ready ws).answer.count n (sym (count_is ws) ∙ sym e ∙ h) in let f = (ready_few ws).count_few in omega arith);
  as_taken = λ t ws' m. e ∙ count_is ws ∙ ap (λ (x : Readied). count_of x.answer.answer x.answer.count) (sym m.words);
}

-- ------------------------------------------------------------------ what the contracts determine

-- Two answers that meet a contract on the same words are one.
pub record Same {A : Type 0} (r t : A) (ws' us : List ℕ) : Type 0 where
  pub answers : r ≡ t
  pub words : ws' ≡ us

pub count_same : (ws : List ℕ) (r t : Number) → CountMeets ws r → CountMeets ws t → r ≡ t
count_same ws r t m n = m.words ∙ sym n.words

pub ready_same : (ws : List ℕ) (r t : ReadyStreams) (ws' us : List ℕ) → ReadyMeets ws r ws' → ReadyMeets ws t us → Same r t ws' us
ready_same ws r t ws' us m n = let e = m.words ∙ sym n.words in record { answers = ap (λ (x : Readied). x.answer) e; words = ap (λ (x : Readied). x.next) e }

pub call_same : (c : run.Call) (ws : List ℕ) (d : Called) (r t : Call) (ws' us : List ℕ) → Meets c ws d r ws' → Meets c ws d t us → Same r t ws' us
call_same c ws d r t ws' us m n = let e = m.words ∙ sym n.words in record { answers = ap (λ (x : Called). x.answer) e; words = ap (λ (x : Called). x.next) e }
