-- What the model's closing does, case by case. Assumes nothing.
use Prim.Native.Nat.{ℕ, ◌-◌, ◌≤◌, ◌<◌}
use mathlib.Core.Path.{◌≡◌, refl, ap, ◌∙◌}
use mathlib.Core.Bool.{true, false}
use mathlib.Core.List.{List, [], ◌∷◌}
use native.Mathlib.Omega.{arith}
use native.Mathlib.Nat.{sub-zero}
use borrow.Author.Tests.{lt-ltb, le-ltb, eq-eqb, ne_eqb}
use Rattle.queue_model.specs.Types.{Event, Item, Stream, Queue, PauseState, not_paused, pending, paused, resetting, done, refuse, reply, with_items, model_with_pause, with_state}
use Rattle.queue_model.specs.Scheduler.{remove_stream}
use Rattle.queue_model.specs.Streams.{put_stream, stream_at, too_many, has_items, some_items}
use Rattle.queue_model.specs.Refusals.{checked, first_refusal, refused_or, short_of}
use Rattle.queue_model.specs.Close.{untouched, kept, dropped_bytes, swept_bytes, sweep_item, sweep_events, closed_state, closed_scheduler, closed, close_in, closing_bytes, close}
use Rattle.queue_model.specs.Run as run
use Rattle.queue_model.proofs.Invariant.Fine.{enough}
use Rattle.queue_model.proofs.Streams.{unsent_bytes}
use Rattle.queue_model.proofs.Table.{Every}
use Rattle.linked_dropping.proofs.Sweeps.{fresh_bytes}

-- ---- the checks

-- 3: "the event list has fewer than 2,305 places"; 6: "The call would make a 257th known stream."
pub close_few : (places k : ℕ) (q : Queue) → places < 2305 → run.step (run.close places k) q ≡ refuse q 3
unfolding run.step close checked first_refusal refused_or
close_few places k q h = rw (lt-ltb places 2305 h)

pub close_full : (places k : ℕ) (q : Queue) → 2305 ≤ places → too_many q k ≡ true → run.step (run.close places k) q ≡ refuse q 6
unfolding run.step close checked first_refusal refused_or
close_full places k q h e = rw (le-ltb places 2305 h, e)

close_past : (places k : ℕ) (q : Queue) (s : Stream) → 2305 ≤ places → too_many q k ≡ false → stream_at q k ≡ s → short_of q s (closing_bytes s.pause_state s.items) ≡ false
    → run.step (run.close places k) q ≡ close_in s.pause_state q s
unfolding run.step close checked first_refusal refused_or
close_past places k q s h e f b = rw (le-ltb places 2305 h, e, f, b)

-- "Closing changes nothing unless the stream is open".
no_bytes : (p : PauseState) (is : List Item) → (p ≡ not_paused → ⊥) → closing_bytes p is ≡ 0
unfolding closing_bytes
no_bytes not_paused is ne = absurd (ne refl)
no_bytes pending is ne = refl
no_bytes paused is ne = refl
no_bytes resetting is ne = refl

no_change : (p : PauseState) (q : Queue) (s : Stream) → (p ≡ not_paused → ⊥) → close_in p q s ≡ reply done [] q
unfolding close_in
no_change not_paused q s ne = absurd (ne refl)
no_change pending q s ne = refl
no_change paused q s ne = refl
no_change resetting q s ne = refl

pub close_other : (places k : ℕ) (q : Queue) (s : Stream) → 2305 ≤ places → too_many q k ≡ false → stream_at q k ≡ s → (s.pause_state ≡ not_paused → ⊥) → run.step (run.close places k) q ≡ reply done [] q
close_other places k q s h e f ne =
    let z = no_bytes s.pause_state s.items ne in
    close_past places k q s h e f (enough q s (closing_bytes s.pause_state s.items) (omega arith) (omega arith)) ∙ no_change s.pause_state q s ne

open_bytes : (p : PauseState) (is : List Item) → p ≡ not_paused → closing_bytes p is ≡ swept_bytes is
unfolding closing_bytes
open_bytes p is e = rw e

open_closed : (p : PauseState) (q : Queue) (s : Stream) → p ≡ not_paused → close_in p q s ≡ closed q s
unfolding close_in
open_closed p q s e = rw e

pub close_open : (places k : ℕ) (q : Queue) (s : Stream) → 2305 ≤ places → too_many q k ≡ false → stream_at q k ≡ s → s.pause_state ≡ not_paused → swept_bytes s.items ≤ q.total → swept_bytes s.items ≤ s.amount
    → run.step (run.close places k) q ≡ closed q s
close_open places k q s h e f o a b =
    let z = open_bytes s.pause_state s.items o in
    close_past places k q s h e f (enough q s (closing_bytes s.pause_state s.items) (omega arith) (omega arith)) ∙ open_closed s.pause_state q s o

-- ---- messages of which nothing is sent

abbrev pub Fresh : List Item → Type 0
Fresh is = Every (λ (i : Item). i.offset ≡ 0) is

kept_fresh : (is : List Item) → Fresh is → kept is ≡ []
unfolding kept untouched
kept_fresh [] h = refl
kept_fresh (i ∷ is) h = rw (eq-eqb i.offset 0 h.0) (kept_fresh is h.1)

pub bytes_fresh : (is : List Item) → Fresh is → swept_bytes is ≡ unsent_bytes is
bytes_fresh [] h = refl
bytes_fresh (i ∷ is) h = omega (arith, fresh_bytes i h.0, bytes_fresh is h.1)

-- a message of which something is sent stays
kept_sent : (i : Item) (is : List Item) → (i.offset ≡ 0 → ⊥) → Fresh is → kept (i ∷ is) ≡ i ∷ []
unfolding kept untouched
kept_sent i is ne h = rw (ne_eqb i.offset 0 ne, kept_fresh is h)

no_bytes_sent : (i : Item) → (i.offset ≡ 0 → ⊥) → dropped_bytes i ≡ 0
unfolding dropped_bytes untouched
no_bytes_sent i ne = rw (ne_eqb i.offset 0 ne)

pub bytes_sent : (i : Item) (is : List Item) → (i.offset ≡ 0 → ⊥) → Fresh is → swept_bytes (i ∷ is) ≡ unsent_bytes is
bytes_sent i is ne h = omega (arith, no_bytes_sent i ne, bytes_fresh is h)

events_sent : (q : Queue) (s : Stream) (i : Item) (is : List Item) (t a : ℕ) → (i.offset ≡ 0 → ⊥) → sweep_events q.options s (i ∷ is) t a ≡ sweep_events q.options s is t a
unfolding sweep_events sweep_item untouched dropped_bytes
events_sent q s i is t a ne = rw (ne_eqb i.offset 0 ne, sub-zero t, sub-zero a)

-- ---- the closed stream

-- no messages
pub closed_empty : (q : Queue) (s : Stream) → s.items ≡ []
    → closed q s ≡ reply done [] (with_state q q.total (put_stream (model_with_pause paused (with_items s s.amount [])) q.streams) q.scheduler)
unfolding closed kept sweep_events closed_state closed_scheduler has_items some_items
closed_empty q s e = rw (e, sub-zero q.total, sub-zero s.amount)

-- all messages dropped: paused, and its waiting ends
closed_none_left : (q : Queue) (s : Stream) (i : Item) (is : List Item) (n : ℕ) → s.items ≡ i ∷ is → kept s.items ≡ [] → swept_bytes s.items ≡ n
    → closed q s ≡ reply done (sweep_events q.options s s.items q.total s.amount) (with_state q (q.total - n) (put_stream (model_with_pause paused (with_items s (s.amount - n) [])) q.streams) (remove_stream s.id q.scheduler))
unfolding closed closed_state closed_scheduler has_items some_items
closed_none_left q s i is n e k b = rw (k, b, e)

pub closed_whole : (q : Queue) (s : Stream) (i : Item) (is : List Item) (n : ℕ) → s.items ≡ i ∷ is → Fresh (i ∷ is) → unsent_bytes (i ∷ is) ≡ n
    → closed q s ≡ reply done (sweep_events q.options s (i ∷ is) q.total s.amount) (with_state q (q.total - n) (put_stream (model_with_pause paused (with_items s (s.amount - n) [])) q.streams) (remove_stream s.id q.scheduler))
closed_whole q s i is n e h b =
    closed_none_left q s i is n e (ap kept e ∙ kept_fresh (i ∷ is) h) (ap (λ (l : List Item). swept_bytes l) e ∙ bytes_fresh (i ∷ is) h ∙ b)
    ∙ ap (λ (l : List Item). reply done (sweep_events q.options s l q.total s.amount) (with_state q (q.total - n) (put_stream (model_with_pause paused (with_items s (s.amount - n) [])) q.streams) (remove_stream s.id q.scheduler))) e

-- all but the first dropped: pending
closed_one_left : (q : Queue) (s : Stream) (i : Item) (n : ℕ) → kept s.items ≡ i ∷ [] → swept_bytes s.items ≡ n
    → closed q s ≡ reply done (sweep_events q.options s s.items q.total s.amount) (with_state q (q.total - n) (put_stream (model_with_pause pending (with_items s (s.amount - n) (i ∷ []))) q.streams) q.scheduler)
unfolding closed closed_state closed_scheduler
closed_one_left q s i n k b = rw (k, b)

pub closed_behind : (q : Queue) (s : Stream) (i : Item) (is : List Item) (n : ℕ) → s.items ≡ i ∷ is → (i.offset ≡ 0 → ⊥) → Fresh is → unsent_bytes is ≡ n
    → closed q s ≡ reply done (sweep_events q.options s is q.total s.amount) (with_state q (q.total - n) (put_stream (model_with_pause pending (with_items s (s.amount - n) (i ∷ []))) q.streams) q.scheduler)
closed_behind q s i is n e ne h b =
    closed_one_left q s i n (ap kept e ∙ kept_sent i is ne h) (ap (λ (l : List Item). swept_bytes l) e ∙ bytes_sent i is ne h ∙ b)
    ∙ ap (λ (l : List Event). reply done l (with_state q (q.total - n) (put_stream (model_with_pause pending (with_items s (s.amount - n) (i ∷ []))) q.streams) q.scheduler)) (ap (λ (l : List Item). sweep_events q.options s l q.total s.amount) e ∙ events_sent q s i is q.total s.amount ne)
