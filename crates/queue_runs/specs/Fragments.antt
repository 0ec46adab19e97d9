-- The fragments that calls show. Assumes nothing.
use Rattle.std.specs.Prelude.{List, [], ◌∷◌}
use Rattle.queue_sending.specs.declared.data.DataToSend.{DataToSend}
use Rattle.queue_sending.specs.Produced.{Produced}
use Rattle.queue_sending.specs.Produced as produced
use Rattle.queue_runs.specs.Calls.{Answer, called, sent, filled, readied, number, flag, count, truth}

-- The fragment in an answer, if it is one.
abbrev pub data_sent : Produced → List DataToSend
data_sent (produced.Nothing n) = []
data_sent (produced.Fragment n d) = d ∷ []
data_sent (produced.Refused n) = []

abbrev pub data_in : Answer → List DataToSend
data_in (called a) = []
data_in (sent a) = data_sent a
data_in (filled a) = []
data_in (readied r) = []
data_in (number a) = []
data_in (flag a) = []
data_in (count n) = []
data_in (truth b) = []
