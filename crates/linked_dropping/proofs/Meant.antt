-- What the model's discard does, case by case. Assumes nothing.
use Prim.Native.Nat.{ℕ, ◌≤◌, ◌<◌}
use mathlib.Core.Path.{◌≡◌, ap, ◌∙◌}
use mathlib.Core.Bool.{false}
use mathlib.Core.List.{List, [], ◌∷◌}
use mathlib.Core.Option.{Option, none, some}
use borrow.Author.Tests.{lt-ltb, le-ltb, eq-eqb, ne_eqb}
use Rattle.queue_model.specs.Types.{Item, Stream, Queue, done, refuse, reply, remaining}
use Rattle.queue_model.specs.Streams.{find_stream}
use Rattle.queue_model.specs.Refusals.{checked, first_refusal, refused_or, short_of}
use Rattle.queue_model.specs.Amounts.{drop_head_events}
use Rattle.queue_model.specs.Produce.{head_of, head_in, drop_in}
use Rattle.queue_model.specs.Discard.{discarded, discard_at, discard}
use Rattle.queue_model.specs.Run as run

-- 3: "the event list has fewer than 2,305 places".
pub discard_few : (places k m : ℕ) (q : Queue) → places < 2305 → run.step (run.discard places k m) q ≡ refuse q 3
unfolding run.step discard checked first_refusal refused_or
discard_few places k m q h = rw (lt-ltb places 2305 h)

discard_past : (places k m : ℕ) (q : Queue) → 2305 ≤ places → run.step (run.discard places k m) q ≡ discard_at m q (head_of (find_stream k q.streams))
unfolding run.step discard checked first_refusal refused_or
discard_past places k m q h = rw (le-ltb places 2305 h)

-- "Discard acts only on a head with that id."
pub discard_none : (places k m : ℕ) (q : Queue) → 2305 ≤ places → find_stream k q.streams ≡ none → run.step (run.discard places k m) q ≡ reply done [] q
unfolding head_of discard_at
discard_none places k m q h e = discard_past places k m q h ∙ ap (λ (x : Option Stream). discard_at m q (head_of x)) e

discard_in_stream : (places k m : ℕ) (q : Queue) (s : Stream) → 2305 ≤ places → find_stream k q.streams ≡ some s → run.step (run.discard places k m) q ≡ discard_at m q (head_in s s.items)
unfolding head_of
discard_in_stream places k m q s h e = discard_past places k m q h ∙ ap (λ (x : Option Stream). discard_at m q (head_of x)) e

pub discard_empty : (places k m : ℕ) (q : Queue) (s : Stream) → 2305 ≤ places → find_stream k q.streams ≡ some s → s.items ≡ [] → run.step (run.discard places k m) q ≡ reply done [] q
unfolding head_in discard_at
discard_empty places k m q s h e z = discard_in_stream places k m q s h e ∙ ap (λ (is : List Item). discard_at m q (head_in s is)) z

pub discard_other : (places k m : ℕ) (q : Queue) (s : Stream) (i : Item) (is : List Item) → 2305 ≤ places → find_stream k q.streams ≡ some s → s.items ≡ i ∷ is → (i.message_id ≡ m → ⊥)
    → run.step (run.discard places k m) q ≡ reply done [] q
unfolding head_in discard_at
discard_other places k m q s i is h e z ne = discard_in_stream places k m q s h e ∙ ap (λ (l : List Item). discard_at m q (head_in s l)) z ∙ rw (ne_eqb i.message_id m ne)

-- The head that is meant.
pub discard_head : (places k m : ℕ) (q : Queue) (s : Stream) (i : Item) (is : List Item) → 2305 ≤ places → find_stream k q.streams ≡ some s → s.items ≡ i ∷ is → i.message_id ≡ m
    → short_of q s (remaining i) ≡ false → run.step (run.discard places k m) q ≡ reply done (drop_head_events q s i) (drop_in s.pause_state q s i is)
unfolding head_in discard_at discarded
discard_head places k m q s i is h e z y b =
    discard_in_stream places k m q s h e ∙ ap (λ (l : List Item). discard_at m q (head_in s l)) z ∙ rw (eq-eqb i.message_id m y, b)
