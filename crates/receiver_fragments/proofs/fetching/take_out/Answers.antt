-- `receiver_fragments::fetching::take_out` meets its contract: each return is what its definition says, by what the calls ensure and the tests taken.
-- Assumes nothing.
use Rattle.receiver_fragments.specs.Fetching.{take_out}
use Rattle.receiver_fragments.proofs.fetching.take_out.Goals as goal

pub returns : goal.returns
unfolding take_out
returns c =
    rw (
      ← c.interleaved-i_data.ensures,
      ← c.delivery-d.ensures,
      ← c.leave_ready.ensures,
      ← c.hand_out.ensures,
    )
