-- What the code answers, in document 02's numbers. Assumes nothing.
use Rattle.std.specs.Prelude.{Result, Ok, Err, Option, None, Some}
use Rattle.types.specs.Refusal.{refusal_number}
use Rattle.types.specs.declared.refusal.Refusal.{Refusal}
use Rattle.receiver_fragments.specs.declared.answers.Delivery.{Delivery}
use Rattle.receiver_fragments.specs.declared.answers.Received as code
use Rattle.receiver_fragments.specs.declared.answers.Received.TheVariants as code_is
use Rattle.receiver_fragments.specs.Received.{Received}
use Rattle.receiver_fragments.specs.Received as received
use Rattle.receiver_fragments.specs.Fetched.{Fetched}
use Rattle.receiver_fragments.specs.Fetched as fetched

abbrev pub as_received : Result code.Received Refusal → Received
as_received (Ok code_is.Repeated) = received.Repeated
as_received (Ok code_is.Accepted) = received.Accepted
as_received (Err r) = received.Refused (refusal_number r)

-- fetching where a message is ready
abbrev pub as_message : Result Delivery Refusal → Fetched
as_message (Ok d) = fetched.Message d
as_message (Err r) = fetched.Refused (refusal_number r)

abbrev pub as_fetched : Result (Option Delivery) Refusal → Fetched
as_fetched (Ok None) = fetched.NoneReady
as_fetched (Ok (Some d)) = fetched.Message d
as_fetched (Err r) = fetched.Refused (refusal_number r)
