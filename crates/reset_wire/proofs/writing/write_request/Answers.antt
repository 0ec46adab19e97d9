-- `reset_wire::writing::write_request` meets its contract: head, ids and padding are `request_bytes` (proofs/Puts.antt). Assumes nothing.
use Rattle.reset_wire.proofs.Puts.{request_wrote}
use Rattle.reset_wire.proofs.writing.write_request.Goals as goal

pub returns : goal.returns
returns c = request_wrote _ _ _ _ _ _ _ _ _ c.requires.1 c.requires.2 c.write_head.ensures c.write_ids.ensures c.write_padding.ensures
