-- `chunks::reading::read_i_data` meets its contract: each return is what its definition says, by what the calls ensure and the tests taken. Assumes nothing.
use Rattle.chunks.specs.Reading.{chunk_at}
use Rattle.chunks.proofs.reading.read_i_data.Goals as goal

pub returns : goal.returns
unfolding chunk_at
returns c = rw (c.fragment_of-fragment.ensures, c.choose-ppid.ensures, c.choose-fsn.ensures, c.is_set-first.ensures, c.read_u32-word.ensures, c.read_u32-mid.ensures, c.read_u16-id.ensures, c.read_u32-tsn.ensures, c.read_u8-flags.ensures)
