-- `receiver_calls::receiving::receive_read` meets its contract: each return is what its definition says, by what the calls ensure and the tests taken.
-- Assumes nothing.
use Rattle.receiver_calls.specs.Receiving.{receive_read}
use Rattle.receiver_calls.proofs.Exits.{read_received}
use Rattle.receiver_calls.proofs.receiving.receive_read.Goals as goal

pub returns-then-meant : goal.returns-then-meant
returns-then-meant c =
    read_received _ _ c.args.bytes.now c.args.chunk _ _ _ _
    c.interleaved-i_data.ensures
    c.of_kind-meant.ensures
    c.if-meant.true
    c.fragment_of-f.ensures
    c.receive_fragment.ensures

pub returns : goal.returns
unfolding receive_read
returns c =
    rw (
      ← c.interleaved-i_data.ensures,
      ← c.of_kind-meant.ensures,
      c.if-meant.false,
    )
