-- Restoring leaves nothing undone, on any words (specs/Settled). Assumes nothing.
use mathlib.Core.Path.{◌≡◌, sym, subst}
use mathlib.Core.Bool.{Bool, true, false}
use mathlib.Core.List.{List}
use Prim.Native.Nat.{ℕ, ◌≤◌}
use native.Mathlib.Omega.{arith}
use borrow.Author.Tests.{le-ltb}
use lib.Dec.{T, eqb, ltb}
use lib.ListN.{length}
use lib.Pow.{are_bytes}
use Rattle.queue_words.specs.Flags.{pick}
use Rattle.queue_words.specs.Header.{options_at, totals_at}
use Rattle.queue_streams.specs.Call.{Accepted}
use Rattle.queue_messages.specs.Add.{Added, added}
use Rattle.queue_state.specs.Model.{model}
use Rattle.handover_records.specs.declared.records.Trailer.{Trailer}
use Rattle.image_rules.specs.Trailers.{trailer_in}
use Rattle.image_rules.specs.Code.{image_code_words}
use Rattle.image_rules.proofs.ReadLink.{handover_at, image_read}
use Rattle.handover.specs.Restore.{restore_code, all_waiting, restored_from, accepted_with, restore}
use Rattle.linked_restoring.specs.Settled.{Settled, RestoreSettled}
use Rattle.linked_restoring.proofs.Parts.{parts_of, waiting_of, parts_few, parts_shape, parts_settled}
use Rattle.linked_restoring.proofs.Accepts.{accepted_holds, accepted_long, accepted_limits}

module _ (ws st : List ℕ) (long : length ws ≡ 20768) (small : length st ≤ 2000000) (bs : List ℕ) (bytes : T (are_bytes bs)) (time : ℕ)
    (fine : image_code_words (options_at ws).strict_restart bs (options_at ws).default_priority (length st) ≡ 0) where
  abbrev t : Trailer
  t = trailer_in bs

  abbrev vs : List ℕ
  vs = (parts_of ws st time bs t.streams t.streams_size t.messages t.next_message_id).words

  abbrev ut : List ℕ
  ut = (parts_of ws st time bs t.streams t.streams_size t.messages t.next_message_id).store

  few : (totals_at vs).known ≤ 256
  few =
      parts_few ws st long small bs bytes time t.streams t.streams_size t.messages t.next_message_id (handover_at bs)
      (accepted_holds (options_at ws).strict_restart bs bytes (options_at ws).default_priority (length st) fine)
      (accepted_limits (options_at ws).strict_restart bs bytes (options_at ws).default_priority (length st) fine time (model ws st))

  -- the words of the call are those of the parts
  pub result_is : accepted_with (restored_from ws st time bs (trailer_in bs)) ≡ added (Accepted 0) (waiting_of vs) ut
  unfolding restored_from all_waiting
  result_is = rw (le-ltb 256 (totals_at vs).known few)

  settled : Settled ws st bs time (waiting_of vs) ut
  settled = record {
    record_of = handover_at bs;
    reads = (image_read bs (options_at ws).default_priority (length st)).whole (options_at ws).strict_restart (λ e. absurd (omega (arith, e, fine)));
    shape =
        parts_shape ws st long small bs bytes time t.streams t.streams_size t.messages t.next_message_id (handover_at bs)
        (accepted_holds (options_at ws).strict_restart bs bytes (options_at ws).default_priority (length st) fine)
        (accepted_limits (options_at ws).strict_restart bs bytes (options_at ws).default_priority (length st) fine time (model ws st));
    next =
        parts_settled ws st long small bs bytes time t.streams t.streams_size t.messages t.next_message_id (handover_at bs)
        (accepted_holds (options_at ws).strict_restart bs bytes (options_at ws).default_priority (length st) fine)
        (accepted_limits (options_at ws).strict_restart bs bytes (options_at ws).default_priority (length st) fine time (model ws st));
  }

-- a test that passes has judged the image
judged : (a b c d : Bool) (n : ℕ) → pick a (pick b 4 (pick c 12 (pick d 12 n))) 2 ≡ 0 → n ≡ 0
judged true true c d n e = absurd (omega (arith, e))
judged true false true d n e = absurd (omega (arith, e))
judged true false false true n e = absurd (omega (arith, e))
judged true false false false n e = e
judged false b c d n e = absurd (omega (arith, e))

pub restore_settled : RestoreSettled
unfolding restore restore_code
restore_settled ws st time bs long small bytes z =
    let fine : image_code_words (options_at ws).strict_restart bs (options_at ws).default_priority (length st) ≡ 0 =
    judged (eqb (options_at ws).store_length (length st)) (ltb 4611686018427387903 time) (ltb 0 (totals_at ws).known) (ltb 0 (totals_at ws).next_message_id.0) _ z in
    rw (z, le-ltb (length bs) 20 (accepted_long (options_at ws).strict_restart bs bytes (options_at ws).default_priority (length st) fine))
    (subst (λ (x : Added). Settled ws st bs time x.words x.store) (sym (result_is ws st long small bs bytes time fine)) (settled ws st long small bs bytes time fine))
