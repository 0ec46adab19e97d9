-- What the code answers, in document 01's numbers. Assumes nothing.
use Rattle.std.specs.Prelude.{Result, Ok, Err}
use Rattle.types.specs.Refusal.{refusal_number}
use Rattle.types.specs.declared.refusal.Broken.{Broken}
use Rattle.types.specs.declared.refusal.Refusal.{Refusal}
use Rattle.queue_sending.specs.Look.{Look}
use Rattle.queue_sending.specs.Look as look
use Rattle.queue_sending.specs.NextStep.{Next}
use Rattle.queue_sending.specs.NextStep as next
use Rattle.queue_sending.specs.Own.{look_of}
use Rattle.queue_sending.specs.Produced.{Produced}
use Rattle.queue_sending.specs.Produced as produced
use Rattle.queue_sending.specs.declared.choice.Ahead.{Ahead}
use Rattle.queue_sending.specs.declared.data.Produced as made
use Rattle.queue_sending.specs.declared.data.Produced.TheVariants as made_is
use Rattle.queue_sending.specs.declared.next.Next as step
use Rattle.queue_sending.specs.declared.next.Next.TheVariants as step_is

-- what a look finds
abbrev pub as_look : Result Ahead Broken → Look
as_look (Ok a) = look_of a
as_look (Err b) = look.Broken

-- what is next
abbrev pub step_of : step.Next → Next
step_of (step_is.Nothing k) = next.Nothing k
step_of (step_is.Chosen k at id row) = next.Chosen k at id row

abbrev pub as_next : Result step.Next Refusal → Next
as_next (Ok s) = step_of s
as_next (Err r) = next.Refused (refusal_number r)

-- the next fragment
abbrev pub made_of : made.Produced → Produced
made_of (made_is.Nothing k) = produced.Nothing k
made_of (made_is.Fragment k d) = produced.Fragment k d

abbrev pub as_produced : Result made.Produced Refusal → Produced
as_produced (Ok m) = made_of m
as_produced (Err r) = produced.Refused (refusal_number r)
