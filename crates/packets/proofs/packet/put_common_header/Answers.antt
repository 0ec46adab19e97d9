-- `packets::packet::put_common_header` meets its contract: number by number. Assumes nothing.
use mathlib.Core.Path.{refl}
use Rattle.big_endian.proofs.Rows.{row_wrote}
use Rattle.queue_model.specs.Bytes.{width}
use Rattle.queue_model.specs.Fill.{common_header_widths, common_header_row, common_header}
use Rattle.packets.specs.Filling.{packet_of}
use Rattle.packets.proofs.packet.put_common_header.Goals as goal

pub returns : goal.returns
unfolding common_header width
returns c =
    rw (c.put_u32-2.ensures, c.put_u32.ensures, c.put_u16-2.ensures, c.put_u16.ensures)
    (row_wrote c.args.packet.now 0 12 common_header_widths (common_header_row (packet_of c.args.p)) refl refl c.requires)
