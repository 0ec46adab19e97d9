-- `handover_records::records::put_message_end` meets its contract: each return is what its definition says, by what the calls ensure and the tests
-- taken. Assumes nothing.
use mathlib.Core.Path.{refl}
use Rattle.big_endian.proofs.Rows.{row_wrote}
use Rattle.handover_records.proofs.RecordRows.{end_width}
use Rattle.queue_model.specs.Image.{message_widths}
use Rattle.handover_records.specs.Records.{message_row_words}
use lib.ListN.{drop}
use Rattle.handover_records.proofs.records.put_message_end.Goals as goal

pub returns : goal.returns
returns c = rw (c.put_u32-5.ensures, c.put_u32-4.ensures, c.put_u32-3.ensures, c.put_u64.ensures, c.put_u32-2.ensures, c.put_u32.ensures) (row_wrote c.args.buffer.now c.args.at 28 (drop 7 message_widths) (drop 7 (message_row_words c.args.m)) end_width refl c.requires)
