-- `queue_sending::data::data_to_send` meets its contract: each return is what its definition says, by what the calls ensure and the tests taken. Assumes
-- nothing.
use Rattle.queue_sending.specs.Data.{data_to_send}
use Rattle.queue_sending.proofs.data.data_to_send.Goals as goal

pub returns : goal.returns
unfolding data_to_send
returns c =
    rw (
      ← c.remaining-left.ensures,
      ← c.new-stream_key.ensures,
      ← c.ssn_in-ssn.ensures,
      ← c.mid_in-mid.ensures,
      ← c.shown_lifecycle-lifecycle_id.ensures,
    )
