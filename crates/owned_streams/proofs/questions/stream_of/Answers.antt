-- `owned_streams::questions::stream_of` meets its contract: each return is a case of `stream_or_new`. Assumes nothing.
use Rattle.queue_questions.proofs.Exits.{stream_known, stream_new}
use Rattle.owned_streams.proofs.Own.{row_fits}
use Rattle.std.proofs.Common.{refl}
use Rattle.owned_streams.proofs.questions.stream_of.Goals as goal

pub load_stream-requires : goal.load_stream-requires
load_stream-requires c = row_fits _ _ _ _ _ c.in-At.ensures refl

pub returns-in-At : goal.returns-in-At
returns-in-At c = stream_known _ _ _ c.in-At.ensures _ _ _ refl c.load_stream.ensures

pub returns-in-Gap : goal.returns-in-Gap
returns-in-Gap c = stream_new _ _ _ c.in-Gap.ensures _ _ _ refl c.load_options-o.ensures c.new_stream.ensures
