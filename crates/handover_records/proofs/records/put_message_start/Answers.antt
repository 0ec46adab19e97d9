-- `handover_records::records::put_message_start` meets its contract: each return is what its definition says, by what the calls ensure and the tests
-- taken. Assumes nothing.
use mathlib.Core.Path.{refl}
use Rattle.big_endian.proofs.Rows.{row_wrote}
use Rattle.handover_records.proofs.RecordRows.{start_width}
use Rattle.queue_model.specs.Image.{message_widths}
use Rattle.handover_records.specs.Records.{message_row_words}
use lib.ListN.{take}
use Rattle.handover_records.proofs.records.put_message_start.Goals as goal

pub returns : goal.returns
returns c = rw (c.put_u16-3.ensures, c.put_u16-2.ensures, c.put_u32-2.ensures, c.put_u32.ensures, c.put_u8-2.ensures, c.put_u8.ensures, c.put_u16.ensures) (row_wrote c.args.buffer.now c.args.at 16 (take 7 message_widths) (take 7 (message_row_words c.args.m)) start_width refl c.requires)
