-- `linked_packets::fill_packet` meets its contract: what the call promises of the words implies the rest (proofs/Fills.antt). Assumes nothing.
use Rattle.linked_packets.proofs.Fills.{fill_meets}
use Rattle.linked_packets.proofs.fill_packet.Goals as goal

pub returns : goal.returns
returns c = fill_meets _ _ _ _ _ _ _ _ _ _ c.fill_packet.ensures
