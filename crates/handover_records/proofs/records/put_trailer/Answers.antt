-- `handover_records::records::put_trailer` meets its contract: each return is what its definition says, by what the calls ensure and the tests taken.
-- Assumes nothing.
use mathlib.Core.Path.{refl}
use Rattle.big_endian.proofs.Rows.{row_wrote}
use Rattle.handover_records.proofs.RecordRows.{trailer_width}
use Rattle.queue_model.specs.Image.{trailer_widths}
use Rattle.handover_records.specs.Records.{trailer_row}
use Rattle.handover_records.proofs.records.put_trailer.Goals as goal

pub returns : goal.returns
returns c = rw (c.put_u32-3.ensures, c.put_u32-2.ensures, c.put_u16-4.ensures, c.put_u16-3.ensures, c.put_u16-2.ensures, c.put_u16.ensures, c.put_u32.ensures) (row_wrote c.args.buffer.now c.args.at 20 trailer_widths (trailer_row c.args.t) trailer_width refl c.requires)
