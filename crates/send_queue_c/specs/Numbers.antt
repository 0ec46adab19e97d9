-- "If an answer is an enum, a definition states this paper's number and values for each case of the enum." The number is what a call returns: 0 for accepted, else the
-- refusal's (queue_streams: specs/Answers, queue_sending: specs/Data, queue_restarts: specs/Ready, saving: specs/Save). For C the values stand in an array of 16 places: 0 the value, 1 the number of events, the others what goes with a fragment. Assumes nothing.
use Rattle.std.specs.Prelude.{ℕ, Bool, true, false, List, set}
use Rattle.queue_words.specs.Flags.{bit}
use Rattle.queue_words.specs.declared.header.RestartRule.{RestartRule}
use Rattle.queue_words.specs.declared.header.RestartRule.TheVariants.{Dcsctp, Strict}
use Rattle.queue_streams.specs.Call.{Call}
use Rattle.queue_streams.specs.Call.{Accepted, Refused}
use Rattle.queue_streams.specs.Flag.{Flag}
use Rattle.queue_streams.specs.Flag as flag
use Rattle.queue_streams.specs.Number.{Number}
use Rattle.queue_streams.specs.Number as number
use Rattle.priority_plan.specs.PlannedPriorities.{PlannedPriorities}
use Rattle.queue_restarts.specs.ReadyStreams.{ReadyStreams}
pub use Rattle.host_numbers.specs.Numbers.{is_yes, message_of_words, call_out, with_first, shown, produced_out}
pub use Rattle.queue_restarts.specs.Ready.{ready_number}

-- ------------------------------------------------------------------ what is given

-- Document 02, 6/13: "Creation chooses the rule, as in the Rust or strict." DSQ_RESTART_DCSCTP is 0, DSQ_RESTART_STRICT 1.
abbrev pub restart_rule_of : Bool → RestartRule
restart_rule_of true = Strict
restart_rule_of false = Dcsctp

-- ------------------------------------------------------------------ the questions

abbrev pub number_out : List ℕ → Number → List ℕ
number_out out (number.Value v) = set out 0 v
number_out out (number.Refused n) = out

abbrev pub flag_out : List ℕ → Flag → List ℕ
flag_out out (flag.Value b) = set out 0 (bit b)
flag_out out (flag.Refused n) = out

-- ------------------------------------------------------------------ ready ids

abbrev pub accepted : {A : Type 0} → Call → A → A → A
accepted (Accepted k) a b = a
accepted (Refused n) a b = b

abbrev pub ready_ids : List ℕ → ReadyStreams → List ℕ
ready_ids ids a = accepted a.answer (with_first ids a.count a.ids) ids

abbrev pub ready_out : List ℕ → ReadyStreams → List ℕ
ready_out out a = accepted a.answer (set out 0 a.count) out

-- ------------------------------------------------------------------ priorities for a wanted order

-- as many as the list has ids; the other places stay, and all of them where the call is refused
abbrev pub planned_places : List ℕ → PlannedPriorities → List ℕ
planned_places places a = accepted a.answer (with_first places a.count a.values) places
