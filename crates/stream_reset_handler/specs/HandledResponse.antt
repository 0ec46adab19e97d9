-- The answer and the handler that receiving a response gives. Assumes nothing.
use Rattle.stream_reset_handler.specs.ResponseAnswer.{ResponseAnswer}
use Rattle.stream_reset_handler.specs.declared.handler.StreamResetHandler.{StreamResetHandler}

pub record HandledResponse : Type 0 where
  pub answer : ResponseAnswer
  pub handler : StreamResetHandler
