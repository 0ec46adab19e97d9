-- The answer and the handler that the whole-queue reset gives. Assumes nothing.
use Rattle.send_queue.specs.Call.{Call}
use Rattle.stream_reset_handler.specs.declared.handler.StreamResetHandler.{StreamResetHandler}

pub record QueueReset : Type 0 where
  pub answer : Call
  pub handler : StreamResetHandler
