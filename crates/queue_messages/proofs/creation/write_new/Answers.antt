use Rattle.queue_messages.specs.Create.{new_words}
use Rattle.queue_messages.proofs.creation.write_new.Goals as goal

-- `queue_messages::creation::write_new` meets its contract: each return is what its definition says, by what the calls ensure and the tests taken.
-- Assumes nothing.
pub returns : goal.returns
unfolding new_words
returns c =
    rw (
      ← c.store_options.ensures,
      ← c.store_totals.ensures,
      ← c.store_scheduler_state.ensures,
      ← c.free_all.ensures,
    )
