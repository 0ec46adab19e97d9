-- Every list of the handler's calls and other calls is the model's. Assumes nothing.
use mathlib.Core.Path.{◌≡◌, refl, ap, ap₂, ◌∙◌, subst}
use mathlib.Core.List.{List, [], ◌∷◌}
use mathlib.Core.Option.{Option, some}
use Prim.Native.Nat.{ℕ, ◌<◌, ◌^◌}
use lib.ListN.{length, take}
use lib.Seq.{take_at}
use Rattle.big_endian.specs.Numbers.{wrote}
use Rattle.queue_model.specs.Types.{Queue}
use Rattle.queue_restarts.specs.Reset.{reset_queue}
use Rattle.linked_restarts.proofs.Contracts.{reset_meets}
use Rattle.queue_runs.specs.Calls.{Call, call_of}
use Rattle.queue_runs.specs.Run.{State}
use Rattle.queue_runs.specs.Meaning.{queue_of, GoodState}
use Rattle.queue_runs.proofs.Steps.{step_link, typed_call}
use Rattle.reset_model.specs.Handler as handlers
use Rattle.reset_model.specs.Uses as model
use Rattle.stream_reset_handler.specs.declared.handler.StreamResetHandler.{StreamResetHandler}
use Rattle.stream_reset_handler.specs.RequestAnswer.{RequestAnswer}
use Rattle.stream_reset_handler.specs.Handler.{handler_of}
use Rattle.stream_reset_handler.specs.Making.{request_answer_of, output_of}
use Rattle.stream_reset_handler.proofs.Makes.{make_meets}
use Rattle.stream_reset_handler.proofs.Handles.{handle_meets, reset_handler_meets}
use Rattle.reset_runs.specs.Uses.{Use, request, response, reset, other, Allowed, AllAllowed, Pair, pair, ready_in, ends_in, used, after, last_written, message_after, last_message}
use Rattle.reset_runs.proofs.Ties.{is_ready, is_ends}

-- ------------------------------------------------------------------ the model's call

-- On a queue whose store has this length.
abbrev pub use_of : ℕ → Use → model.Use
use_of len (request out response_number last_tsn) = model.request (length out) response_number last_tsn
use_of len (response bs) = model.response bs
use_of len reset = model.reset
use_of len (other c) = model.other (call_of len c)

abbrev pub uses_of : ℕ → List Use → List model.Use
uses_of len [] = []
uses_of len (u ∷ us) = use_of len u ∷ uses_of len us

allowed_use : (len : ℕ) (u : Use) → len < 2 ^ 64 → Allowed u → model.Allowed (use_of len u)
allowed_use len (request out response_number last_tsn) h a = tt
allowed_use len (response bs) h a = tt
allowed_use len reset h a = tt
allowed_use len (other c) h a = (typed_call len c h a.0, a.1 len)

pub allowed_uses : (len : ℕ) (us : List Use) → len < 2 ^ 64 → AllAllowed us → model.AllAllowed (uses_of len us)
allowed_uses len [] h a = tt
allowed_uses len (u ∷ us) h a = (allowed_use len u h a.0, allowed_uses len us h a.1)

-- ------------------------------------------------------------------ one call

-- Words and store are those of a queue, the model's, and the handler is the model's.
pub record Linked (p : Pair) (m : model.Pair) : Type 0 where
  pub good : GoodState p.queue
  pub handler_is : p.handler ≡ handler_of m.handler
  pub queue_is : queue_of p.queue ≡ m.queue

record Stepped (u : Use) (p : Pair) (m : model.Pair) (l : Option (List ℕ)) : Type 0 where
  linked : Linked (used u p) (model.used (use_of (length p.queue.store) u) m)
  message_is : message_after u p l ≡ model.message_after (use_of (length p.queue.store) u) m l
  same_store : length (used u p).queue.store ≡ length p.queue.store

-- The message stands at the output's start.
taken : (out bs : List ℕ) → take (length bs) (wrote out 0 bs) ≡ bs
unfolding wrote
taken out bs = take_at bs _ (length bs) refl

written_is : (a : handlers.Answer) (out : List ℕ) (l : Option (List ℕ)) → last_written (request_answer_of a) (output_of a out) l ≡ model.last_written a l
written_is (handlers.refused n) out l = refl
written_is handlers.none_ready out l = refl
written_is (handlers.written bs) out l = ap (λ (x : List ℕ). some x) (taken out bs)
written_is handlers.ignored out l = refl
written_is handlers.committed out l = refl
written_is handlers.rolled_back out l = refl
written_is handlers.still_waiting out l = refl
written_is handlers.was_reset out l = refl

module _ (h : StreamResetHandler) (s : State) (k : handlers.Handler) (g : GoodState s) (e : h ≡ handler_of k) (l : Option (List ℕ)) where
  stepped_request : (out : List ℕ) (response_number last_tsn : ℕ) → Stepped (request out response_number last_tsn) (pair h s) (model.pair k (queue_of s)) l
  unfolding used model.used message_after model.message_after
  stepped_request out response_number last_tsn =
      let m = (make_meets s.words h out response_number last_tsn (ready_in s.words) (is_ready s.words)).model s.store g k e in
      record {
        linked = record { good = m.good; handler_is = m.handler; queue_is = m.next };
        message_is = ap₂ (λ (x : RequestAnswer) (y : List ℕ). last_written x y l) m.answer m.output ∙ written_is (handlers.make_request (length out) response_number last_tsn k (queue_of s)).answer out l;
        same_store = refl;
      }

  stepped_response : (bs : List ℕ) → Stepped (response bs) (pair h s) (model.pair k (queue_of s)) l
  unfolding used model.used message_after model.message_after
  stepped_response bs =
      let m = (handle_meets s.words h bs (ends_in s.words) (is_ends s.words)).model s.store g k e in
      record { linked = record { good = m.good; handler_is = m.handler; queue_is = m.next }; message_is = refl; same_store = refl }

  stepped_reset : Stepped reset (pair h s) (model.pair k (queue_of s)) l
  unfolding used model.used message_after model.message_after
  stepped_reset =
      let m = (reset_handler_meets s.words h _ _ (reset_meets s.words (reset_queue s.words).answer (reset_queue s.words).next refl)).model s.store g k e in
      record { linked = record { good = m.good; handler_is = m.handler; queue_is = m.next }; message_is = refl; same_store = refl }

  stepped_other : (c : Call) → Allowed (other c) → Stepped (other c) (pair h s) (model.pair k (queue_of s)) l
  unfolding used model.used message_after model.message_after
  stepped_other c a =
      let m = step_link c s g a.0 in
      record { linked = record { good = m.good; handler_is = e; queue_is = m.next_is }; message_is = refl; same_store = m.same_store }

  stepped : (u : Use) → Allowed u → Stepped u (pair h s) (model.pair k (queue_of s)) l
  stepped (request out response_number last_tsn) a = stepped_request out response_number last_tsn
  stepped (response bs) a = stepped_response bs
  stepped reset a = stepped_reset
  stepped (other c) a = stepped_other c a

use_link : (u : Use) (p : Pair) (m : model.Pair) (l : Option (List ℕ)) → Linked p m → Allowed u → Stepped u p m l
use_link u p m l k a = subst (λ (q : Queue). Stepped u p (model.pair m.handler q) l) k.queue_is (stepped p.handler p.queue m.handler k.good k.handler_is l u a)

-- ------------------------------------------------------------------ lists of calls

pub record Ran (us : List Use) (p : Pair) (m : model.Pair) (l : Option (List ℕ)) : Type 0 where
  pub linked : Linked (after us p) (model.after (uses_of (length p.queue.store) us) m)
  pub message_is : last_message us p l ≡ model.last_message (uses_of (length p.queue.store) us) m l

ran_none : (p : Pair) (m : model.Pair) (l : Option (List ℕ)) → Linked p m → Ran [] p m l
unfolding after last_message model.after model.last_message
ran_none p m l k = record { linked = k; message_is = refl }

ran_more : (u : Use) (us : List Use) (p : Pair) (m : model.Pair) (l : Option (List ℕ)) → Stepped u p m l
    → Ran us (used u p) (model.used (use_of (length p.queue.store) u) m) (message_after u p l) → Ran (u ∷ us) p m l
unfolding after last_message model.after model.last_message
ran_more u us p m l h r =
    let len : ℕ = length p.queue.store in
    let e : uses_of (length (used u p).queue.store) us ≡ uses_of len us = ap (λ (n : ℕ). uses_of n us) h.same_store in
    let m' : model.Pair = model.used (use_of len u) m in
    record {
      linked = subst (λ (vs : List model.Use). Linked (after us (used u p)) (model.after vs m')) e r.linked;
      message_is = r.message_is ∙ ap₂ (λ (vs : List model.Use) (x : Option (List ℕ)). model.last_message vs m' x) e h.message_is;
    }

pub run_link : (us : List Use) (p : Pair) (m : model.Pair) (l : Option (List ℕ)) → Linked p m → AllAllowed us → Ran us p m l
run_link [] p m l k a = ran_none p m l k
run_link (u ∷ us) p m l k a =
    let h = use_link u p m l k a.0 in
    ran_more u us p m l h (run_link us (used u p) (model.used (use_of (length p.queue.store) u) m) (message_after u p l) h.linked a.1)
