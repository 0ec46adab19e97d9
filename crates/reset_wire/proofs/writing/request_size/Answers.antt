-- `reset_wire::writing::request_size` meets its contract: it computes `request_size`. Assumes nothing.
use mathlib.Core.Path.{sym}
use Rattle.reset_wire.proofs.Puts.{size_is}
use Rattle.reset_wire.proofs.writing.request_size.Goals as goal

pub returns : goal.returns
returns c = sym (size_is _)
