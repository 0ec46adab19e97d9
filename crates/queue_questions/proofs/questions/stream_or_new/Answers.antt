-- `queue_questions::questions::stream_or_new` meets its contract: each return is a case of `stream_or_new` (proofs/Exits.antt). Assumes nothing.
use mathlib.Core.Path.{sym}
use Rattle.queue_words.proofs.Finds.{find_hit}
use Rattle.queue_questions.proofs.Exits.{stream_known, stream_new, stream_broken}
use Rattle.std.proofs.Common.{refl}
use Rattle.queue_questions.proofs.questions.stream_or_new.Goals as goal

-- `queue_questions::questions::stream_or_new` meets its contract: each return is a case of `stream_or_new` (proofs/Exits.antt). Assumes nothing.
pub load_stream-requires : goal.load_stream-requires
load_stream-requires c = (find_hit _ _ _ _ (sym c.in-At.ensures)).place_fits

pub returns-in-At : goal.returns-in-At
returns-in-At c = stream_known _ _ _ c.in-At.ensures _ _ _ refl c.load_stream.ensures

pub returns-in-Gap : goal.returns-in-Gap
returns-in-Gap c = stream_new _ _ _ c.in-Gap.ensures _ _ _ refl c.load_options-o.ensures c.new_stream.ensures

pub returns-in-Broken : goal.returns-in-Broken
returns-in-Broken c = stream_broken _ _ _ c.in-Broken.ensures refl
