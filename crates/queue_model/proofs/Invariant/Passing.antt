-- The next fragment in two parts: expired heads are passed over, then nothing waits or a fragment is handed out. Assumes nothing.
use mathlib.Core.Path.{◌≡◌, refl, sym, subst}
use mathlib.Core.Bool.{Bool, true, false}
use mathlib.Core.List.{List, [], ◌++◌}
use mathlib.Core.Option.{Option, none, some, get_or}
use Prim.Native.Nat.{ℕ, zero, suc, ◌≤◌, min}
use native.Mathlib.Omega.{arith}
use Rattle.std.specs.Prelude.{if◌then◌else◌}
use Rattle.queue_model.specs.Types.{Item, Stream, Active, Queue, Event, fragment, nothing_waits, Step, remaining, expired, refuse, reply}
use Rattle.queue_model.specs.Scheduler.{peek}
use Rattle.queue_model.specs.Streams.{find_stream, waiting}
use Rattle.queue_model.specs.Refusals.{Check, first_refusal, refused_or, checked, short_of, short_of_head, max_payload}
use Rattle.queue_model.specs.Amounts.{sent_events, drop_head_events}
use Rattle.queue_model.specs.Produce.{Head, head_of, drop_in, Look, nothing, broken, dropped, chosen, look_expired, look_at, look_for, look, numbered, make_fragment, handed_out, hand_out, after_look, pass_over, produce_checks}
use Rattle.queue_model.proofs.Checks.{Passed, all_passed}
use Rattle.queue_model.proofs.Invariant.Well.{Well, inside}
use Rattle.queue_model.proofs.Invariant.Sends.{FineLook, Chosen, headless, headed, heads, head_of_at, head_well, fine_look, drop_in_well}
use Rattle.queue_model.proofs.Calm.Calm.{HeadAt}
use Rattle.queue_model.specs.Calls

-- The queue r is what passing over expired heads at a time can leave of a queue.
pub data Past (now : ℕ) (r : Queue) : Queue → Type 0 where
  here : Past now r r
  over : {q : Queue} → (k : ℕ) (s : Stream) (i : Item) (is : List Item) → HeadAt q.streams k s i is → expired now i.expires_at ≡ true → Past now r (drop_in s.pause_state q s i is) → Past now r q

-- From there nothing waits, or some bytes of the chosen message are handed out.
pub data Ends (r : Queue) (s : Step) : Type 0 where
  none_waits : peek r.scheduler ≡ none → s.outcome.answer ≡ nothing_waits → s.next ≡ r → Ends r s
  hands_out : (a : Active) (t : Stream) (i : Item) (is : List Item) (n : ℕ) → peek r.scheduler ≡ some a → Chosen r a t i is → 1 ≤ n → n ≤ remaining i → s.outcome.answer ≡ fragment (make_fragment t (numbered t.counters i).item n) → s.next ≡ handed_out r a t i is n → Ends r s

pub record Passes (now : ℕ) (q : Queue) (s : Step) : Type 0 where
  pub past : Queue
  pub well : Well past
  pub passed : Past now past q
  pub ends : Ends past s

-- The next fragment is refused, or it is this.
pub data Next (now : ℕ) (q : Queue) (s : Step) : Type 0 where
  refuses : (n : ℕ) → s ≡ refuse q n → Next now q s
  passes : Passes now q s → Next now q s

-- ---- one look

-- What a look finds, with the head that it drops.
abbrev Looks : ℕ → Queue → Look → Type 0
Looks now q nothing = peek q.scheduler ≡ none
Looks now q broken = Unit {0}
Looks now q (dropped r ds) = Well r × ((t : Queue) → Past now t r → Past now t q)
Looks now q (chosen a s i is) = peek q.scheduler ≡ some a

looks : (now : ℕ) (q : Queue) → Well q → Looks now q (look now q)
unfolding look look_for look_at look_expired
looks now q w = go (peek q.scheduler) refl
  where
    drops : (a : Active) → peek q.scheduler ≡ some a → (s : Stream) (i : Item) (is : List Item) → HeadAt q.streams a.stream_id s i is → (x y : Bool) → expired now i.expires_at ≡ x
        → Looks now q (if x then (if y then broken else dropped (drop_in s.pause_state q s i is) (drop_head_events q s i)) else chosen a s i is)
    drops a p s i is h true true e = tt
    drops a p s i is h true false e = (drop_in_well q a.stream_id s i is w h s.pause_state, λ t u. over a.stream_id s i is h e u)
    drops a p s i is h false y e = p

    at_one : (a : Active) → peek q.scheduler ≡ some a → Looks now q (look_at now q a (head_of (find_stream a.stream_id q.streams)))
    at_one a p = elim (heads q.streams a.stream_id) [
      | headless e n ↦ subst (λ (x : Head). Looks now q (look_at now q a x)) (sym e) tt
      | headed s i is h ↦ subst (λ (x : Head). Looks now q (look_at now q a x)) (sym (head_of_at q.streams a.stream_id s i is h)) (drops a p s i is h (expired now i.expires_at) (short_of q s (remaining i)) refl)
    ]

    go : (x : Option Active) → peek q.scheduler ≡ x → Looks now q (look_for now q x)
    go none e = e
    go (some a) e = at_one a e

-- ---- the turns

abbrev MaybePasses : ℕ → Queue → Option Step → Type 0
MaybePasses now q none = Unit {0}
MaybePasses now q (some s) = Passes now q s

passes_hand_out : (now size : ℕ) (q : Queue) (es : List Event) (a : Active) (s : Stream) (i : Item) (is : List Item) → 1 ≤ size → Well q → peek q.scheduler ≡ some a → Chosen q a s i is → MaybePasses now q (hand_out size q es a s i is)
unfolding hand_out
passes_hand_out now size q es a s i is z w p c = go (short_of_head q s i n)
  where
    n : ℕ
    n = min a.bytes_remaining size

    positive : 1 ≤ n
    positive = let u = (head_well q a.stream_id s i is w c.choice_head).0.unsent in let e = c.choice_size in omega arith

    few : n ≤ remaining i
    few = let e = c.choice_size in omega arith

    go : (b : Bool) → MaybePasses now q (if b then none else some (reply (fragment (make_fragment s (numbered s.counters i).item n)) (es ++ sent_events q s n) (handed_out q a s i is n)))
    go true = tt
    go false = record { past = q; well = w; passed = here; ends = hands_out a s i is n p c positive few refl refl }

passes_before : (now : ℕ) (q r : Queue) (x : Option Step) → ((t : Queue) → Past now t r → Past now t q) → MaybePasses now r x → MaybePasses now q x
passes_before now q r none f p = tt
passes_before now q r (some s) f p = record { past = p.past; well = p.well; passed = f p.past p.passed; ends = p.ends }

passes_after : (again : Queue → List Event → Option Step) (now size : ℕ) (q : Queue) (es : List Event) (l : Look) → 1 ≤ size → Well q → FineLook q l → Looks now q l
    → ((r : Queue) (ds : List Event) → Well r → MaybePasses now r (again r ds)) → MaybePasses now q (after_look again size q es l)
unfolding after_look
passes_after again now size q es nothing z w f l h = record { past = q; well = w; passed = here; ends = none_waits l refl refl }
passes_after again now size q es broken z w f l h = tt
passes_after again now size q es (dropped r ds) z w f l h = passes_before now q r (again r (es ++ ds)) l.1 (h r (es ++ ds) l.0)
passes_after again now size q es (chosen a s i is) z w f l h = passes_hand_out now size q es a s i is z w l f

passes_turns : (turns now size : ℕ) (q : Queue) (es : List Event) → 1 ≤ size → Well q → MaybePasses now q (pass_over turns now size q es)
unfolding pass_over
passes_turns zero now size q es z w = tt
passes_turns (suc turns) now size q es z w = passes_after (λ r ds. pass_over turns now size r ds) now size q es (look now q) z w (fine_look now q w) (looks now q w) (λ r ds u. passes_turns turns now size r ds z u)

-- ---- the call

pub next_fragment : (store places buffer now size : ℕ) (q : Queue) → Well q → Next now q (Calls.produce store places buffer now size q)
unfolding Calls.produce checked refused_or
next_fragment store places buffer now size q w = go (first_refusal cs) refl
  where
    cs : List Check
    cs = produce_checks store places buffer now size q

    x : Option Step
    x = pass_over (suc (waiting q.streams)) now size q []

    default : (y : Option Step) → MaybePasses now q y → Next now q (get_or y (refuse q 16))
    default none p = refuses 16 refl
    default (some s) p = passes p

    go : (r : Option ℕ) → first_refusal cs ≡ r → Next now q (refused_or r q (get_or x (refuse q 16)))
    go none e =
        let p : Passed cs = all_passed cs e in
        let z = (inside 1 max_payload size p.1.1.1.0).0 in
        default x (passes_turns (suc (waiting q.streams)) now size q [] z w)
    go (some n) e = refuses n refl
