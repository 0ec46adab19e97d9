-- `queue_sending::fragment::send` meets its contract: each return is what its definition says, by what the calls ensure and the test that was passed before. Assumes nothing.
use Rattle.queue_sending.specs.Fragment.{sent}
use Rattle.queue_sending.proofs.Ahead.{send_reads, send_goes}
use Rattle.queue_sending.proofs.Passes.{first_same}
use Rattle.queue_sending.proofs.fragment.send.Goals as goal

pub read_own-requires : goal.read_own-requires
read_own-requires c = send_reads _ _ _ _ _ _ c.requires.2

pub write_sent-requires : goal.write_sent-requires
write_sent-requires c =
    let p = c.requires in
    let f = first_same _ _ _ c.numbered_stream-stream.ensures in
    (p.0, rw f p.1, p.3, rw f (send_goes _ _ _ _ _ _ p.2))

pub returns : goal.returns
unfolding sent
returns c =
    rw (
      c.requires.2,
      ← c.read_own.ensures,
      ← c.sent_events-k1.ensures,
      ← c.numbered_item-item.ensures,
      ← c.numbered_stream-stream.ensures,
      ← c.is_some-had.ensures,
      ← c.write_sent.ensures,
      ← c.data_to_send-d.ensures,
    )
