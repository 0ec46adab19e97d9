-- A queue as creation leaves it, and refusal 16. Assumes nothing.
use Rattle.std.specs.Prelude.{ℕ, ◌<◌, ◌^◌, ◌≡◌, Bool, false, List, [], ◌∷◌, eqb, length}
use Rattle.queue_model.specs.Types as plain
use Rattle.queue_streams.specs.Settings.{Called}
use Rattle.queue_words.specs.declared.header.RestartRule.{RestartRule}
use Rattle.queue_streams.specs.Call as call
use Rattle.queue_streams.specs.Flag.{Flag}
use Rattle.queue_streams.specs.Flag as flag_answer
use Rattle.queue_streams.specs.Number.{Number}
use Rattle.queue_streams.specs.Number as number_answer
use Rattle.queue_sending.specs.Produced.{Produced}
use Rattle.queue_sending.specs.Produced as produced
use Rattle.queue_messages.specs.Create.{create}
use Rattle.linked_adding.specs.Create.{options_for}
use Rattle.packets.specs.PacketFilled.{PacketFilled}
use Rattle.packets.specs.PacketFilled as packet
use Rattle.queue_runs.specs.Calls.{Answer, called, sent, filled, readied, number, flag, count, truth, Shown}
use Rattle.queue_runs.specs.Run.{State, state}

-- ------------------------------------------------------------------ creation

-- "Creation takes the payload limit, the store, the default priority, the default and total thresholds and the choice of handover with waiting data": all but the store. Document 02,
-- 6/13: "Creation chooses the rule, as in the Rust or strict."
pub record Arguments : Type 0 where
  pub limit : ℕ
  pub priority : ℕ
  pub threshold : ℕ
  pub total : ℕ
  pub handover : Bool
  pub rule : RestartRule

-- The model's options, for a store of this length.
abbrev pub options_with : Arguments → ℕ → plain.Options
options_with a len = options_for len a.limit a.priority a.threshold a.total a.handover a.rule

-- Creation in any words, with any bytes in the store.
abbrev pub creation : Arguments → State → Called
creation a s = create s.words (length s.store) a.limit a.priority a.threshold a.total a.handover a.rule

-- The queue that it leaves.
abbrev pub new_state : Arguments → State → State
new_state a s = state (creation a s).next s.store

-- Creation is accepted; the arguments have their widths, the words are as many as a queue has.
pub record Creates (a : Arguments) (s : State) : Type 0 where
  pub long : length s.words ≡ 20768
  pub priority_fits : a.priority < 2 ^ 16
  pub threshold_fits : a.threshold < 2 ^ 64
  pub total_fits : a.total < 2 ^ 64
  pub accepted : (creation a s).answer ≡ call.Accepted 0

-- ------------------------------------------------------------------ refusal 16

abbrev sixteen_call : call.Call → Bool
sixteen_call (call.Accepted n) = false
sixteen_call (call.Refused n) = eqb n 16

abbrev sixteen_sent : Produced → Bool
sixteen_sent (produced.Nothing k) = false
sixteen_sent (produced.Fragment k d) = false
sixteen_sent (produced.Refused n) = eqb n 16

abbrev sixteen_filled : PacketFilled → Bool
sixteen_filled (packet.Filled k bytes chunks) = false
sixteen_filled (packet.Refused n) = eqb n 16

abbrev sixteen_number : Number → Bool
sixteen_number (number_answer.Value n) = false
sixteen_number (number_answer.Refused n) = eqb n 16

abbrev sixteen_flag : Flag → Bool
sixteen_flag (flag_answer.Value b) = false
sixteen_flag (flag_answer.Refused n) = eqb n 16

-- Whether an answer is refusal 16, which says that the state is broken.
abbrev pub sixteen : Answer → Bool
sixteen (called c) = sixteen_call c
sixteen (sent p) = sixteen_sent p
sixteen (filled p) = sixteen_filled p
sixteen (readied r) = sixteen_call r.answer
sixteen (number n) = sixteen_number n
sixteen (flag f) = sixteen_flag f
sixteen (count n) = false
sixteen (truth b) = false

-- No call of a list shows it.
abbrev pub NoSixteen : List Shown → Type 0
NoSixteen [] = Unit {0}
NoSixteen (o ∷ os) = (sixteen o.answer ≡ false) × NoSixteen os
