-- The handler's state as the code has it. Assumes nothing.
use Rattle.std.specs.Prelude.{ℕ, Bool, false, eqb}
use Rattle.std.proofs.Math.Option.{Option, none, some}
use Rattle.reset_model.specs.Handler as model
use Rattle.stream_reset_handler.specs.Underway.{Underway}
use Rattle.std.specs.Prelude.{Some, None}
use Rattle.stream_reset_handler.specs.declared.handler.StreamResetHandler.{StreamResetHandler}

-- The request underway by its number; the ids that its message carries are not kept.
abbrev pub underway_of : Option model.Request → Underway
underway_of none = None
underway_of (some u) = Some u.number

abbrev pub handler_of : model.Handler → StreamResetHandler
handler_of h = record { next_number = h.next_number; underway = underway_of h.underway }

-- Whether this is the number of the request underway.
abbrev pub same_number : Underway → ℕ → Bool
same_number None number = false
same_number (Some n) number = eqb number n

abbrev pub is_underway : StreamResetHandler → ℕ → Bool
is_underway h number = same_number h.underway number

-- The same with none underway.
abbrev pub ended_as : StreamResetHandler → StreamResetHandler
ended_as h = record { next_number = h.next_number; underway = None }
