-- "If an answer is an enum, a definition states this paper's number and values for each case of the enum." The number: 0 where a call is accepted or a
-- question answered, else the refusal's of document 01. Assumes nothing.
use Rattle.std.specs.Prelude.{ℕ, Bool, true, false, Result, Ok, Err}
use Rattle.types.specs.Refusal.{refusal_number}
use Rattle.types.specs.declared.refusal.Refusal.{Refusal}
use Rattle.queue_streams.specs.Call.{Call}
use Rattle.queue_streams.specs.Call as call
use Rattle.queue_streams.specs.Flag.{Flag}
use Rattle.queue_streams.specs.Flag as flag
use Rattle.queue_streams.specs.Number.{Number}
use Rattle.queue_streams.specs.Number as number

-- What the code answers, in document 01's numbers.
abbrev pub as_call : Result ℕ Refusal → Call
as_call (Ok k) = call.Accepted k
as_call (Err r) = call.Refused (refusal_number r)

abbrev pub as_number : Result ℕ Refusal → Number
as_number (Ok v) = number.Value v
as_number (Err r) = number.Refused (refusal_number r)

abbrev pub as_flag : Result Bool Refusal → Flag
as_flag (Ok b) = flag.Value b
as_flag (Err r) = flag.Refused (refusal_number r)

abbrev pub call_number : Call → ℕ
call_number (call.Accepted k) = 0
call_number (call.Refused n) = n

-- Whether a call was accepted.
abbrev pub is_accepted : Call → Bool
is_accepted (call.Accepted k) = true
is_accepted (call.Refused n) = false

abbrev pub number_number : Number → ℕ
number_number (number.Value v) = 0
number_number (number.Refused n) = n

abbrev pub flag_number : Flag → ℕ
flag_number (flag.Value b) = 0
flag_number (flag.Refused n) = n

-- The values: how many events a call tells, what a question answers; 0 and no where it is refused.
abbrev pub call_events : Call → ℕ
call_events (call.Accepted k) = k
call_events (call.Refused n) = 0

abbrev pub number_value : Number → ℕ
number_value (number.Value v) = v
number_value (number.Refused n) = 0

abbrev pub flag_value : Flag → Bool
flag_value (flag.Value b) = b
flag_value (flag.Refused n) = false
