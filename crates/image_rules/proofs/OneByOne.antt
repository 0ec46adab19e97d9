-- Restoring one message after the other: the streams after k + 1 messages are those after k with the k-th message restored. Assumes nothing.
use mathlib.Core.Path.{◌≡◌, refl, sym, ap, ◌∙◌}
use mathlib.Core.List.{List}
use Prim.Native.Nat.{ℕ, zero, suc}
use Rattle.queue_model.specs.Types.{Stream, Options}
use Rattle.queue_model.specs.Restore.{restore_message, restore_messages}
use Rattle.queue_model.proofs.Demand3.Restored.{restore_messages_cons, restore_messages_nil}
use Rattle.handover_records.specs.Positions.{behind, message_place, record_at, messages_from}
use Rattle.handover_records.proofs.Steps.{place_step, messages_none, messages_step}

pub place_zero : (bs : List ℕ) (at : ℕ) → message_place bs at 0 ≡ at
unfolding message_place
place_zero bs at = refl

module _ (o : Options) (time : ℕ) where
  restore_first : (bs : List ℕ) (at : ℕ) (n : ℕ) (ss : List Stream)
      → restore_messages o time (messages_from bs at (suc n)) ss ≡ restore_messages o time (messages_from bs (behind bs at) n) (restore_message o time (record_at bs at) ss)
  restore_first bs at n ss = ap (λ ms. restore_messages o time ms ss) (messages_step bs at n) ∙ restore_messages_cons o time (record_at bs at) (messages_from bs (behind bs at) n) ss

  pub restore_none : (bs : List ℕ) (at : ℕ) (ss : List Stream) → restore_messages o time (messages_from bs at 0) ss ≡ ss
  restore_none bs at ss = ap (λ ms. restore_messages o time ms ss) (messages_none bs at) ∙ restore_messages_nil o time ss

  pub restore_next : (bs : List ℕ) (at k : ℕ) (ss : List Stream)
      → restore_messages o time (messages_from bs at (suc k)) ss ≡ restore_message o time (record_at bs (message_place bs at k)) (restore_messages o time (messages_from bs at k) ss)
  restore_next bs at zero ss =
      restore_first bs at 0 ss ∙ restore_none bs (behind bs at) (restore_message o time (record_at bs at) ss)
      ∙ sym (ap (λ p. restore_message o time (record_at bs p) (restore_messages o time (messages_from bs at 0) ss)) (place_zero bs at) ∙ ap (restore_message o time (record_at bs at)) (restore_none bs at ss))
  restore_next bs at (suc k) ss =
      restore_first bs at (suc k) ss
      ∙ restore_next bs (behind bs at) k (restore_message o time (record_at bs at) ss)
      ∙ ap (λ p. restore_message o time (record_at bs p) (restore_messages o time (messages_from bs (behind bs at) k) (restore_message o time (record_at bs at) ss))) (sym (place_step bs at k))
      ∙ ap (restore_message o time (record_at bs (message_place bs at (suc k)))) (sym (restore_first bs at k ss))
