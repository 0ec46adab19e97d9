-- What the next fragment answers on a well queue past its checks: a fragment of 1 to as many bytes as are asked for, or that nothing waits. Assumes nothing.
use mathlib.Core.Path.{◌≡◌, sym, ap, ap₂, subst}
use mathlib.Core.Bool.{Bool, ◌||◌}
use mathlib.Core.List.{List, [], ◌++◌}
use mathlib.Core.Option.{Option, none, some, get_or}
use Prim.Native.Nat.{ℕ, zero, suc, ◌≤◌, ◌<◌, min}
use native.Mathlib.Omega.{arith}
use lib.ListN.{length, drop, length-take, length-drop}
use Rattle.std.specs.Prelude.{if◌then◌else◌}
use Rattle.queue_model.specs.Types.{Item, Stream, Active, Queue, Event, Fragment, Answer, fragment, nothing_waits, Step, remaining, refuse, reply}
use Rattle.queue_model.specs.Streams.{waiting}
use Rattle.queue_model.specs.Refusals.{short_of_head}
use Rattle.queue_model.specs.Amounts.{sent_events}
use Rattle.queue_model.specs.Produce.{Look, nothing, broken, dropped, chosen, look, numbered, make_fragment, handed_out, hand_out, after_look, pass_over, produce_checks, produce}
use Rattle.queue_model.proofs.Tests.{ltb_false}
use Rattle.queue_model.proofs.Checks.{Passed, checked_past}
use Rattle.queue_model.proofs.Invariant.Well.{Well}
use Rattle.queue_model.proofs.Invariant.Sends.{FineLook, Chosen, head_kept, head_well, numbers_well, head_enough, fine_look}

-- A fragment of 1 to `size` bytes, or nothing.
pub data Gives (size : ℕ) : Answer → Type 0 where
  gives : (f : Fragment) → 1 ≤ length f.bytes → length f.bytes ≤ size → Gives size (fragment f)
  waits_none : Gives size nothing_waits

abbrev GivesMaybe : ℕ → Option Step → Type 0
GivesMaybe size none = ⊥
GivesMaybe size (some s) = Gives size s.outcome.answer

hand_out_gives : (size : ℕ) (q : Queue) (es : List Event) (a : Active) (s : Stream) (i : Item) (is : List Item) → 1 ≤ size → Well q → Chosen q a s i is → GivesMaybe size (hand_out size q es a s i is)
unfolding hand_out short_of_head make_fragment
hand_out_gives size q es a s i is o w v =
    let n : ℕ = min a.bytes_remaining size in
    let j : Item = (numbered s.counters i).item in
    let z = v.choice_size in
    let l : min a.bytes_remaining size ≤ remaining i = omega arith in
    let k = (head_well q a.stream_id s i is w v.choice_head).0 in let m = k.unsent in
    let u = numbers_well s.counters i (head_kept q a.stream_id s i is w v.choice_head).counters_fit k in
    let x : length j.payload ≡ length i.payload = ap length u.payload_same in let y = u.offset_same in
    let t₁ = length-take (min a.bytes_remaining size) (drop j.offset j.payload) in let t₂ = length-drop j.offset j.payload in
    let r : Step = reply (fragment (make_fragment s j n)) (es ++ sent_events q s n) (handed_out q a s i is n) in
    subst (λ (b : Bool). GivesMaybe size (if b then none else some r)) (sym (ap₂ ◌||◌ (head_enough q a.stream_id s i is w v.choice_head n l) (ltb_false l)))
    (gives (make_fragment s j n) (omega arith) (omega arith))

after_gives : (again : Queue → List Event → Option Step) (size : ℕ) (q : Queue) (es : List Event) (l : Look) → 1 ≤ size → Well q → FineLook q l
    → ((r : Queue) (ds : List Event) → Well r → suc (waiting r.streams) ≡ waiting q.streams → GivesMaybe size (again r ds)) → GivesMaybe size (after_look again size q es l)
unfolding after_look
after_gives again size q es nothing o w f h = waits_none
after_gives again size q es broken o w f h = f
after_gives again size q es (dropped r ds) o w f h = h r (es ++ ds) f.0 f.1.0
after_gives again size q es (chosen a s i is) o w f h = hand_out_gives size q es a s i is o w f

pass_gives : (turns now size : ℕ) (q : Queue) (es : List Event) → 1 ≤ size → Well q → waiting q.streams < turns → GivesMaybe size (pass_over turns now size q es)
unfolding pass_over
pass_gives zero now size q es o w h = absurd (omega arith)
pass_gives (suc turns) now size q es o w h = after_gives (λ r ds. pass_over turns now size r ds) size q es (look now q) o w (fine_look now q w) (λ r ds v e. pass_gives turns now size r ds o v (omega arith))

default_gives : (size : ℕ) (q : Queue) (x : Option Step) → GivesMaybe size x → Gives size (get_or x (refuse q 16)).outcome.answer
default_gives size q none g = absurd g
default_gives size q (some s) g = g

pub produce_gives : (store places buffer now size : ℕ) (q : Queue) → 1 ≤ size → Well q → Passed (produce_checks store places buffer now size q) → Gives size (produce store places buffer now size q).outcome.answer
unfolding produce
produce_gives store places buffer now size q o w p =
    let x : Option Step = pass_over (suc (waiting q.streams)) now size q [] in
    subst (λ (s : Step). Gives size s.outcome.answer) (sym (checked_past (produce_checks store places buffer now size q) q (get_or x (refuse q 16)) p))
    (default_gives size q x (pass_gives (suc (waiting q.streams)) now size q [] o w (omega arith)))
