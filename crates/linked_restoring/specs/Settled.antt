-- Restoring leaves nothing undone, on any words: whatever they hold beside the options and the choice of interleaving, where its test passes they hold
-- together then, and stand for the queue
-- that the image restores into an unused one. (The definitions keep the words that the steps leave, and not whether each step was done.) Assumes nothing.
use Rattle.std.specs.Prelude.{ℕ, ◌≤◌, ◌≡◌, List, [], T, length}
use Rattle.std.proofs.Math.Option.{some}
use Rattle.std.proofs.Math.Pow.{are_bytes}
use Rattle.queue_model.specs.Types.{Queue}
use Rattle.queue_model.specs.Scheduler.{new_scheduler}
use Rattle.queue_model.specs.Image.{Handover}
use Rattle.queue_model.specs.Reader.{read_image}
use Rattle.queue_model.specs.Restore.{restored}
use Rattle.queue_state.specs.Model.{model}
use Rattle.queue_state.specs.Good.{Shape}
use Rattle.handover.specs.Restore.{restore_code, restore}

-- the queue with these options and this choice, in which nothing was queued yet
abbrev pub unused : Queue → Queue
unused q = record {
  options = q.options;
  interleaving = q.interleaving;
  total = 0;
  next_message_id = 0;
  streams = [];
  scheduler = new_scheduler q.options.payload_limit;
}

pub record Settled (ws st bs : List ℕ) (time : ℕ) (us ut : List ℕ) : Type 0 where
  pub record_of : Handover
  pub reads : read_image bs ≡ some record_of
  pub shape : Shape us ut
  pub next : model us ut ≡ restored time record_of (unused (model ws st))

-- On any words and any store that document 01 allows, with any image.
abbrev pub RestoreSettled : Type 0
RestoreSettled = (ws st : List ℕ) (time : ℕ) (bs : List ℕ) → length ws ≡ 20768 → length st ≤ 2000000 → T (are_bytes bs) → restore_code ws (length st) time bs ≡ 0
    → Settled ws st bs time (restore ws st time bs).words (restore ws st time bs).store
