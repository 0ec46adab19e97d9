-- `stream_scheduler::own::begin_own` meets its contract: a new row is set (proofs/Exits.antt). Assumes nothing.
use Rattle.stream_scheduler.proofs.Exits.{begun}
use Rattle.stream_scheduler.proofs.own.begin_own.Goals as goal

pub returns : goal.returns
returns c = begun _ _ _ _ _ c.load_scheduler_state-s.ensures c.requires _ _ c.from-parameters.ensures c.set_new.ensures
