-- On any queue, well or not: events before a call's own do not change it. Assumes nothing.
use mathlib.Core.Path.{◌≡◌, refl, ap, ◌∙◌}
use mathlib.Core.Bool.{Bool, true, false}
use mathlib.Core.List.{List, ◌++◌, append_assoc}
use mathlib.Core.Option.{Option, none, some}
use Prim.Native.Nat.{ℕ, zero, suc, min}
use Rattle.std.specs.Prelude.{if◌then◌else◌}
use Rattle.queue_model.specs.Types.{Queue, Event, fragment, Step, reply}
use Rattle.queue_model.specs.Refusals.{short_of_head}
use Rattle.queue_model.specs.Amounts.{sent_events}
use Rattle.queue_model.specs.Produce.{Look, nothing, broken, dropped, chosen, look, numbered, make_fragment, handed_out, hand_out, after_look, pass_over}

-- ---- the next fragment after events of earlier calls

-- A step with events before its own.
abbrev pub after_events : List Event → Step → Step
after_events es s = reply s.outcome.answer (es ++ s.outcome.events) s.next

abbrev pub maybe_after : List Event → Option Step → Option Step
maybe_after es none = none
maybe_after es (some s) = some (after_events es s)

after_look_prefix : (again : Queue → List Event → Option Step) (size : ℕ) (q : Queue) (es ds : List Event) (l : Look)
    → ((r : Queue) (cs : List Event) → again r (es ++ cs) ≡ maybe_after es (again r cs)) → after_look again size q (es ++ ds) l ≡ maybe_after es (after_look again size q ds l)
unfolding after_look hand_out
after_look_prefix again size q es ds nothing h = refl
after_look_prefix again size q es ds broken h = refl
after_look_prefix again size q es ds (dropped r cs) h = ap (again r) (append_assoc es ds cs) ∙ h r (ds ++ cs)
after_look_prefix again size q es ds (chosen a s i is) h = go (short_of_head q s i n)
  where
    n : ℕ
    n = min a.bytes_remaining size

    sent : List Event → Step
    sent cs = reply (fragment (make_fragment s (numbered s.counters i).item n)) cs (handed_out q a s i is n)

    go : (b : Bool) → ◌≡◌ {A = Option Step} (if b then none else some (sent ((es ++ ds) ++ sent_events q s n))) (maybe_after es (if b then none else some (sent (ds ++ sent_events q s n))))
    go true = refl
    go false = ap (λ (cs : List Event). some (sent cs)) (append_assoc es ds (sent_events q s n))

-- Passing over expired heads after the events es of earlier calls is passing over them, with es before the events.
pub pass_prefix : (turns now size : ℕ) (q : Queue) (es ds : List Event) → pass_over turns now size q (es ++ ds) ≡ maybe_after es (pass_over turns now size q ds)
unfolding pass_over
pass_prefix zero now size q es ds = refl
pass_prefix (suc turns) now size q es ds = after_look_prefix (λ r cs. pass_over turns now size r cs) size q es ds (look now q) (λ r cs. pass_prefix turns now size r es cs)
