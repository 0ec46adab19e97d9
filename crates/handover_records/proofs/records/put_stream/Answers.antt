-- `handover_records::records::put_stream` meets its contract: each return is what its definition says, by what the calls ensure and the tests taken.
-- Assumes nothing.
use mathlib.Core.Path.{refl}
use Rattle.big_endian.proofs.Rows.{row_wrote}
use Rattle.handover_records.proofs.RecordRows.{stream_width}
use Rattle.queue_model.specs.Image.{stream_widths}
use Rattle.handover_records.specs.Records.{stream_row_words}
use Rattle.handover_records.proofs.records.put_stream.Goals as goal

pub returns : goal.returns
returns c = rw (c.put_u16-3.ensures, c.put_u32-2.ensures, c.put_u32.ensures, c.put_u16-2.ensures, c.put_u16.ensures) (row_wrote c.args.buffer.now c.args.at 14 stream_widths (stream_row_words c.args.s) stream_width refl c.requires)
