-- `chunks::chunk::padded` meets its contract: each return is what its definition says, by what the calls ensure and the tests taken. Assumes nothing.
use Rattle.queue_model.specs.Chunks.{padding}
use mathlib.Core.Path.{refl}
use Rattle.chunks.proofs.chunk.padded.Goals as goal

pub returns : goal.returns
unfolding padding
returns c = refl
