-- "If an answer is an enum, a definition states this paper's number and values for each case of the enum." The number: 0 where a call is not refused, else the refusal's of
-- document 01 or 02. Assumes nothing.
use Rattle.std.specs.Prelude.{ℕ}
use Rattle.receiver_fragments.specs.Received.{Received}
use Rattle.receiver_fragments.specs.Received as received
use Rattle.receiver_fragments.specs.Fetched.{Fetched}
use Rattle.receiver_fragments.specs.Fetched as fetched

-- receiving a chunk
abbrev pub received_number : Received → ℕ
received_number (received.Refused n) = n
received_number received.Repeated = 0
received_number received.Accepted = 0

-- fetching a message
abbrev pub fetched_number : Fetched → ℕ
fetched_number (fetched.Refused n) = n
fetched_number fetched.NoneReady = 0
fetched_number (fetched.Message d) = 0

-- the value: 1 for a message, "or says that none is": 0
abbrev pub fetched_value : Fetched → ℕ
fetched_value (fetched.Refused n) = 0
fetched_value fetched.NoneReady = 0
fetched_value (fetched.Message d) = 1
