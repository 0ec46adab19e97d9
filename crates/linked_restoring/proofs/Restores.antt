-- Restoring an image is the model's step. Assumes nothing.
use mathlib.Core.Path.{◌≡◌, sym, ap, ◌∙◌, subst}
use mathlib.Core.Bool.{Bool}
use mathlib.Core.List.{List, []}
use Prim.Native.Nat.{ℕ, ◌^◌, ◌≤◌, ◌<◌}
use native.Mathlib.Omega.{arith}
use borrow.Author.Tests.{lt-ltb, le-ltb}
use lib.Dec.{T}
use lib.Pow.{are_bytes}
use lib.ListN.{length}
use Rattle.queue_words.specs.Header.{options_at, totals_at}
use Rattle.queue_model.specs.Types.{Queue, Step, refuse, reply, done}
use Rattle.queue_model.specs.Restore.{restored}
use Rattle.queue_model.specs.Run as run
use Rattle.queue_model.proofs.Invariant.Well.{room}
use Rattle.queue_model.proofs.Invariant.Fine.{Fine}
use Rattle.queue_model.proofs.Invariant.Sixteen.{fine_step}
use Rattle.queue_streams.specs.Call.{Accepted, Refused}
use Rattle.queue_state.specs.Model.{model}
use Rattle.queue_state.specs.Good.{Good}
use Rattle.queue_state.specs.Promise.{Does, call_of}
use Rattle.queue_state.proofs.Singles.{model_options}
use Rattle.queue_messages.specs.Add.{Added}
use Rattle.handover_records.specs.declared.records.Trailer.{Trailer}
use Rattle.image_rules.specs.Trailers.{trailer_in}
use Rattle.image_rules.specs.Code.{image_code_words}
use Rattle.image_rules.proofs.ReadLink.{handover_at}
use Rattle.handover.specs.Restore.{restore_code, restore}
use Rattle.linked_restoring.proofs.Parts.{Parts, parts_of, waiting_of, all_parts}
use Rattle.linked_restoring.proofs.Accepts.{accepted_holds, accepted_long, accepted_limits}
use Rattle.linked_restoring.proofs.Settled.{result_is}
use Rattle.linked_restoring.proofs.Answers.{Answers, refusal, acceptance, answers}

module _ (ws st : List ℕ) (g : Good ws st) (time : ℕ) (bs : List ℕ) (ht : time < 2 ^ 64) (bytes : T (are_bytes bs)) where
  abbrev q : Queue
  q = model ws st

  abbrev call : run.Call
  call = run.restore (length st) time bs

  abbrev code : ℕ
  code = restore_code ws (length st) time bs

  store_small : length st ≤ 2000000
  store_small = omega (arith, g.store_is, ap (λ o. o.store_length) (model_options ws st), (room q.options g.well.creation).store_high)

  refused_with : run.step call q ≡ refuse q code → Does call ws st (Refused code) ws st
  refused_with e = record { good = g; next = rw e; answer = sym (ap (λ (x : Step). call_of x.outcome.answer (length x.outcome.events)) e) }

  -- ---- accepted
  module _ (none_known : (totals_at ws).known ≡ 0) (fine : image_code_words (options_at ws).strict_restart bs (options_at ws).default_priority (length st) ≡ 0) (e : run.step call q ≡ reply done [] (restored time (handover_at bs) q)) where
    abbrev t : Trailer
    t = trailer_in bs

    abbrev strict : Bool
    strict = (options_at ws).strict_restart

    abbrev d : ℕ
    d = (options_at ws).default_priority

    abbrev vs : List ℕ
    vs = (parts_of ws st time bs t.streams t.streams_size t.messages t.next_message_id).words

    abbrev ut : List ℕ
    ut = (parts_of ws st time bs t.streams t.streams_size t.messages t.next_message_id).store

    parts : Parts ws st time (handover_at bs) (waiting_of vs) ut
    parts =
        all_parts ws st g.shape.long store_small bs bytes time t.streams t.streams_size t.messages t.next_message_id (handover_at bs)
        (accepted_holds strict bs bytes d (length st) fine) (accepted_limits strict bs bytes d (length st) fine time q) g.well none_known

    does_restored : Does call ws st (Accepted 0) (waiting_of vs) ut
    does_restored =
        let n : model (waiting_of vs) ut ≡ (run.step call q).next = parts.next ∙ sym (ap (λ (x : Step). x.next) e) in
        let f : Fine q (run.step call q) = fine_step call q (omega (arith, store_small), (ht, bytes)) g.well in
        record {
          good = record { shape = parts.shape; store_is = rw parts.options (parts.store ∙ g.store_is); well = rw n f.next_well };
          next = n;
          answer = sym (ap (λ (x : Step). call_of x.outcome.answer (length x.outcome.events)) e);
        }

  by_answers : Answers ws st g time bs → Does call ws st (restore ws st time bs).answer (restore ws st time bs).words (restore ws st time bs).store
  unfolding restore
  by_answers (refusal p e) = rw (lt-ltb 0 code p) (refused_with e)
  by_answers (acceptance z k f e) =
      rw (le-ltb 0 code (omega (arith, z)), le-ltb (length bs) 20 (accepted_long (options_at ws).strict_restart bs bytes (options_at ws).default_priority (length st) f))
      (subst (λ (x : Added). Does call ws st x.answer x.words x.store) (sym (result_is ws st g.shape.long store_small bs bytes time f)) (does_restored k f e))

  -- Restoring is the model's step: refused with its number, 2, 4, 12, 13, 14 or 15 in this order, or accepted.
  pub restore_link : Does call ws st (restore ws st time bs).answer (restore ws st time bs).words (restore ws st time bs).store
  restore_link = by_answers (answers ws st g time bs)
