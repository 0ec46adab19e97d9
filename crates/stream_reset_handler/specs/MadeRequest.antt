-- The answer and the handler that making a request gives. Assumes nothing.
use Rattle.stream_reset_handler.specs.RequestAnswer.{RequestAnswer}
use Rattle.stream_reset_handler.specs.declared.handler.StreamResetHandler.{StreamResetHandler}

pub record MadeRequest : Type 0 where
  pub answer : RequestAnswer
  pub handler : StreamResetHandler
