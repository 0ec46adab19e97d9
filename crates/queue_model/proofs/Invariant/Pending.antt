-- A pending stream's head is half-sent: so a head of a pending stream that expires is a half-sent one, and document 02's 3/13 speaks of every such
-- expiry. Assumes nothing.
use mathlib.Core.Path.{◌≡◌, refl, sym, subst}
use mathlib.Core.Bool.{Bool, true, false}
use mathlib.Core.List.{List, [], ◌∷◌, ◌++◌}
use mathlib.Core.Option.{Option, none, some}
use Prim.Native.Nat.{ℕ, ◌-◌, ◌<◌}
use native.Mathlib.Omega.{arith}
use lib.Dec.{eqb}
use Rattle.std.specs.Prelude.{if◌then◌else◌}
use Rattle.queue_model.specs.Types.{Item, PauseState, not_paused, pending, paused, resetting, Stream, Options, Queue, remaining, with_items, model_with_pause}
use Rattle.queue_model.specs.Scheduler.{active_key, find_active, forget, remove_stream}
use Rattle.queue_model.specs.Streams.{find_stream, stream_key}
use Rattle.queue_model.specs.Produce.{end_pending, drop_in}
use Rattle.queue_model.specs.Close.{kept, closed_state}
use Rattle.queue_model.specs.Demands.{Reachable}
use Rattle.queue_model.proofs.Tests.{eqb_true}
use Rattle.queue_model.proofs.Table.{every_find, find_key, find_put_same, find_without_same}
use Rattle.queue_model.proofs.Invariant.Messages.{WellItems}
use Rattle.queue_model.proofs.Invariant.Fine.{keeps_none, keeps_first, keeps}
use Rattle.queue_model.proofs.Invariant.Each.{Keeps, held_reachable}

-- The first message has been begun and has not ended.
abbrev pub HalfSent : List Item → Type 0
HalfSent [] = ⊥
HalfSent (i ∷ is) = 0 < i.offset

abbrev pub PendingHalf : PauseState → List Item → Type 0
PendingHalf not_paused is = Unit {0}
PendingHalf pending is = HalfSent is
PendingHalf paused is = Unit {0}
PendingHalf resetting is = Unit {0}

added_half : (p : PauseState) (is : List Item) (i : Item) → PendingHalf p is → PendingHalf p (is ++ (i ∷ []))
added_half not_paused is i h = tt
added_half pending [] i h = absurd h
added_half pending (j ∷ is) i h = h
added_half paused is i h = tt
added_half resetting is i h = tt

dropped_half : (p : PauseState) (is : List Item) → PendingHalf (end_pending p) is
unfolding end_pending
dropped_half not_paused is = tt
dropped_half pending is = tt
dropped_half paused is = tt
dropped_half resetting is = tt

part_half : (p : PauseState) (j : Item) (is : List Item) → 0 < j.offset → PendingHalf p (j ∷ is)
part_half not_paused j is h = tt
part_half pending j is h = h
part_half paused j is h = tt
part_half resetting j is h = tt

-- "a remaining half-sent one makes the stream pending, none makes it paused".
closed_half : (is : List Item) → WellItems is → PendingHalf (closed_state (kept is)) (kept is)
unfolding closed_state
closed_half is w = elim (keeps is w) [
  | keeps_none e ↦ subst (λ (l : List Item). PendingHalf (closed_state l) l) (sym e) tt
  | keeps_first i rest e f l ↦ subst (λ (l : List Item). PendingHalf (closed_state l) l) (sym f) l
]

pending_keeps : (o : Options) → Keeps o PendingHalf
pending_keeps o = record {
  keeps_new = tt;
  keeps_add = λ p is i m o h. added_half p is i h;
  keeps_drop = λ p i is w h. dropped_half p is;
  keeps_part = λ p i j is l h. part_half p j is l;
  keeps_close = λ is w h. closed_half is w;
  keeps_ready = λ is h. tt;
  keeps_open = λ is h. tt;
  keeps_reset = λ p is w h. tt;
  keeps_restore = λ now r is m h. tt;
}

-- In every reachable queue a pending stream has messages, and its first is half-sent.
pub pending_half : {o : Options} {q : Queue} → Reachable o q → (k : ℕ) (s : Stream) → find_stream k q.streams ≡ some s → s.pause_state ≡ pending → HalfSent s.items
pending_half {o} {q} r k s e p = subst (λ (x : PauseState). PendingHalf x s.items) p (every_find stream_key (λ (x : Stream). PendingHalf x.pause_state x.items) k s q.streams (held_reachable o PendingHalf (pending_keeps o) r) e)

-- What an expiry leaves of a pending stream ("A job that closes while its half-sent profile expires must not hang"): it is paused, so among the ready
-- ids, with its later messages; and it
-- does not wait, so the choice goes to the other streams.
pub record Ended (k : ℕ) (s : Stream) (is : List Item) (r : Queue) : Type 0 where
  pub ended_stream : Stream
  pub ended_found : find_stream k r.streams ≡ some ended_stream
  pub ended_paused : ended_stream.pause_state ≡ paused
  pub ended_items : ended_stream.items ≡ is
  pub ended_waiting : find_active k r.scheduler.active ≡ none
  pub ended_current : r.scheduler.current ≡ some k → ⊥

forgotten : (k : ℕ) (c : Option ℕ) → forget k c ≡ some k → ⊥
unfolding forget
forgotten k none e = let z : ◌≡◌ {A = ℕ} 0 1 = cc in omega arith
forgotten k (some c) e = go (eqb c k) refl e
  where
    go : (b : Bool) → eqb c k ≡ b → ◌≡◌ {A = Option ℕ} (if b then none else some c) (some k) → ⊥
    go true f g = let z : ◌≡◌ {A = ℕ} 0 1 = cc in omega arith
    go false f g = let h : c ≡ k = cc in let j = eqb_true h in let z : ◌≡◌ {A = ℕ} 0 1 = cc in omega arith

ended_id : (q : Queue) (s : Stream) (i : Item) (is : List Item) → Ended s.id s is (drop_in pending q s i is)
unfolding drop_in remove_stream
ended_id q s i is = record {
  ended_stream = model_with_pause paused (with_items s (s.amount - remaining i) is);
  ended_found = find_put_same stream_key (model_with_pause paused (with_items s (s.amount - remaining i) is)) q.streams;
  ended_paused = refl;
  ended_items = refl;
  ended_waiting = find_without_same active_key s.id q.scheduler.active;
  ended_current = forgotten s.id q.scheduler.current;
}

pub expiry_ends : (q : Queue) (k : ℕ) (s : Stream) (i : Item) (is : List Item) → find_stream k q.streams ≡ some s → s.pause_state ≡ pending → Ended k s is (drop_in s.pause_state q s i is)
expiry_ends q k s i is f p = subst (λ (x : PauseState). Ended k s is (drop_in x q s i is)) (sym p) (subst (λ (j : ℕ). Ended j s is (drop_in pending q s i is)) (find_key stream_key k q.streams s f) (ended_id q s i is))
