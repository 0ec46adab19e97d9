-- What received bytes are, in the paper's words: a response with its request number, or bytes that break the layout. Assumes nothing.
use Rattle.std.specs.Prelude.{ℕ}

pub data Response : Type 0 where
  Commits RollsBack KeepsWaiting : ℕ → Response
  Malformed : Response
