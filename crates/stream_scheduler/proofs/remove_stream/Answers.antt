-- `stream_scheduler::remove_stream` meets its contract: it is its test, and what follows it (proofs/Exits.antt). Assumes nothing.
use Rattle.stream_scheduler.proofs.Exits.{remove_broken}
use Rattle.stream_scheduler.proofs.remove_stream.Goals as goal

-- `stream_scheduler::remove_stream` meets its contract: it is its test, and what follows it (proofs/Exits.antt). Assumes nothing.
pub returns-then-s-gt-STREAMS : goal.returns-then-s-gt-STREAMS
returns-then-s-gt-STREAMS c = remove_broken _ _ _ c.load_scheduler_state-s.ensures c.if-s-gt-STREAMS.true
