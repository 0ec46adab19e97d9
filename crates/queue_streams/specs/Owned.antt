-- Looking a stream up where 16 cannot come. Assumes nothing.
use Rattle.std.specs.Prelude.{Option, Some, None}
use Rattle.queue_streams.specs.Known.{placed}
use Rattle.queue_streams.specs.Place.{Place, Refused}
use Rattle.queue_streams.specs.declared.known.Place as seat

-- As the checked call says it. 6: "The call would make a 257th known stream."
abbrev pub placed_as : Option seat.Place → Place
placed_as (Some p) = placed p
placed_as None = Refused 6
