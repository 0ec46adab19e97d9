-- `chunks::writing::put_data_header` meets its contract: each return is what its definition says, by what the calls ensure and the tests taken. Assumes
-- nothing.
use mathlib.Core.Path.{refl}
use Rattle.big_endian.proofs.Rows.{row_wrote}
use Rattle.chunks.specs.declared.chunk.ChunkKind.TheVariants as kind
use Rattle.chunks.specs.Layout.{header_widths, header_row, flags_of}
use Rattle.chunks.proofs.Sizes.{header_width}
use Rattle.chunks.proofs.writing.put_data_header.Goals as goal

pub returns : goal.returns
returns c = rw (c.put_u32-2.ensures, c.put_u16-3.ensures, c.put_u16-2.ensures, c.put_u32.ensures, c.put_u16.ensures, c.put_u8-2.ensures, c.put_u8.ensures, c.id-id.ensures, c.flags_of-flags.ensures) (row_wrote c.args.output.now 0 16 (header_widths kind.Data) (header_row kind.Data (flags_of c.args.d) 0 c.args.tsn c.args.d c.args.len) (header_width kind.Data) refl c.requires)
