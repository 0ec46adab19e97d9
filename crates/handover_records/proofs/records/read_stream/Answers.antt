-- `handover_records::records::read_stream` meets its contract: each return is what its definition says, by what the calls ensure and the tests taken.
-- Assumes nothing.
use mathlib.Core.Path.{sym}
use Rattle.handover_records.proofs.RecordRows.{stream_read}
use Rattle.handover_records.proofs.records.read_stream.Goals as goal

pub returns : goal.returns
returns c = rw (c.read_u16.ensures, c.read_u16-2.ensures, c.read_u32.ensures, c.read_u32-2.ensures, c.read_u16-3.ensures) (sym (stream_read c.args.image.now c.args.at))
