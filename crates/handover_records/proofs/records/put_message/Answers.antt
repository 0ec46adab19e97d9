-- `handover_records::records::put_message` meets its contract: each return is what its definition says, by what the calls ensure and the tests taken.
-- Assumes nothing.
use mathlib.Core.Path.{refl}
use Rattle.big_endian.proofs.Rows.{rows_wrote}
use Rattle.handover_records.proofs.RecordRows.{start_width, end_width}
use Rattle.queue_model.specs.Image.{message_widths}
use Rattle.handover_records.specs.Records.{message_row_words}
use lib.ListN.{take, drop}
use Rattle.handover_records.proofs.records.put_message.Goals as goal

pub returns : goal.returns
returns c = rows_wrote c.args.buffer.now _ _ c.args.at 16 (take 7 message_widths) (take 7 (message_row_words c.args.m)) (drop 7 message_widths) (drop 7 (message_row_words c.args.m)) refl refl start_width (rw end_width c.requires) c.put_message_start.ensures c.put_message_end.ensures
