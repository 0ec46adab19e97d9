-- `restoring::recall::remember_half_sent` meets its contract: each return is what its definition says, by what the calls ensure. Assumes nothing.
use Rattle.restoring.specs.Recall.{recalled}
use Rattle.restoring.proofs.recall.remember_half_sent.Goals as goal

pub returns : goal.returns
unfolding recalled
returns c =
    rw (
      ← c.first_half_sent-id.ensures,
      ← c.load_scheduler_state-s.ensures,
      ← c.store_scheduler_state.ensures,
    )
