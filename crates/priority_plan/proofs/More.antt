-- One more message, while entries wait that no fragment has been taken of: they stay as they are. Assumes nothing.
use mathlib.Core.Path.{◌≡◌, refl, sym, ap, ◌∙◌, subst}
use mathlib.Core.Bool.{Bool, true, false, not, ◌&&◌}
use mathlib.Core.List.{List, [], ◌∷◌, ◌++◌, map}
use mathlib.Core.Option.{Option, none, some}
use Prim.Native.Nat.{ℕ, ◌<◌}
use native.Mathlib.Omega.{arith}
use Rattle.std.specs.Prelude.{if◌then◌else◌}
use Rattle.queue_model.specs.Types.{Item, Stream, Active, Scheduler, Queue, Message, done, reply, expired}
use Rattle.queue_model.specs.Scheduler.{active_key, find_active, set_bytes_remaining}
use Rattle.queue_model.specs.Streams.{stream_key, stream_at, with_message, some_items, has_items, head_size, weight_of, reschedule}
use Rattle.queue_model.specs.Refusals.{first_refusal, refused_or, checked}
use Rattle.queue_model.specs.Add.{expiry, new_item, starts_waiting, started, added, add_checks}
use Rattle.queue_model.specs.Run.{step, after}
use Rattle.queue_model.proofs.Table.{every_put, every_find}
use Rattle.queue_model.proofs.Scheduler.{reschedule_of}
use Rattle.queue_model.proofs.Streams.{at_id, every_at, size_at, size_at_at}
use Rattle.queue_model.proofs.Invariant.Waits as waits
use Rattle.queue_model.proofs.Invariant.Well.{Well}
use Rattle.priority_plan.specs.Works.{All}
use Rattle.priority_plan.specs.Jobs.{Adding, adding_call}
use Rattle.priority_plan.specs.Turns.{shown, says_nothing, Lasting}
use Rattle.priority_plan.proofs.Lasting.{NoneExpired}
use Rattle.priority_plan.proofs.Sends.{to_every, to_all, Others, set_others}

-- ---- expiry times

abbrev Lasts : ℕ → List Item → Type 0
Lasts time is = All (λ (i : Item). expired time i.expires_at ≡ false) is

lasts_more : (time : ℕ) (is : List Item) (i : Item) → Lasts time is → expired time i.expires_at ≡ false → Lasts time (is ++ (i ∷ []))
lasts_more time [] i l e = (e, tt)
lasts_more time (j ∷ is) i l e = (l.0, lasts_more time is i l.1 e)

pub lasting_step : (time : ℕ) (a : Adding) (q : Queue) → NoneExpired time q.streams → expired time (expiry a.now a.message.lifetime) ≡ false → NoneExpired time (step (adding_call a) q).next.streams
unfolding step Rattle.queue_model.specs.Add.add checked refused_or added new_item
lasting_step time a q n e = go (first_refusal (add_checks a.store a.now a.message q))
  where
    at_stream : Lasts time (stream_at q a.message.stream_id).items
    at_stream = every_at (λ s. Lasts time s.items) q.options a.message.stream_id q.streams (to_every (λ s. Lasts time s.items) q.streams n) tt

    go : (x : Option ℕ) → NoneExpired time (refused_or x q (reply done [] (added a.now a.message q))).next.streams
    go none =
        to_all (λ s. Lasts time s.items) (added a.now a.message q).streams
        (every_put stream_key (λ s. Lasts time s.items) (with_message (stream_at q a.message.stream_id) (new_item a.now q.next_message_id a.message)) q.streams
        (lasts_more time (stream_at q a.message.stream_id).items (new_item a.now q.next_message_id a.message) at_stream e)
        (to_every (λ s. Lasts time s.items) q.streams n))
    go (some k) = n

pub lasting_adds : (time : ℕ) (as' : List Adding) (q : Queue) → NoneExpired time q.streams → Lasting time as' → NoneExpired time (after (map adding_call as') q).streams
unfolding after
lasting_adds time [] q n l = n
lasting_adds time (a ∷ as') q n l = lasting_adds time as' (step (adding_call a) q).next (lasting_step time a q n l.0) l.1

-- ---- the entries

-- A listed stream has a message.
listed_items : (q : Queue) → Well q → (k : ℕ) (e : Active) → find_active k q.scheduler.active ≡ some e → e.stream_id ≡ k → has_items (stream_at q k) ≡ true
unfolding has_items some_items head_size
listed_items q w k e f i =
    let l = every_find active_key (waits.Listed q.interleaving q.streams) k e q.scheduler.active w.waits.sched.every f in
    let z = l.sized in let p = l.positive in
    let s : size_at e.stream_id q.streams ≡ size_at k q.streams = ap (λ (j : ℕ). size_at j q.streams) i in
    let t : size_at k q.streams ≡ head_size (stream_at q k).items = size_at_at q.options k q.streams in
    go (stream_at q k).items (omega arith)
  where
    go : (is : List Item) → 0 < head_size is → some_items is ≡ true
    go [] h = absurd (omega arith)
    go (j ∷ is) h = refl

-- What one more message leaves of the scheduler.
pub record KeptBy (k : ℕ) (q r : Queue) : Type 0 where
  pub on_same : r.interleaving ≡ q.interleaving
  pub others : Others k q.scheduler r.scheduler
  pub own : has_items (stream_at q k) ≡ true → r.scheduler ≡ q.scheduler

module _ (q : Queue) (free : q.scheduler.current ≡ none) where
  unmoved : (k : ℕ) → KeptBy k q q
  unmoved k = record { on_same = refl; others = record { free = free; same = λ j n. refl }; own = λ e. refl }

  added_keeps : (now : ℕ) (m : Message) → KeptBy m.stream_id q (added now m q)
  unfolding added started
  added_keeps now m = record { on_same = refl; others = go (starts_waiting s.pause_state && not (has_items s)); own = λ e. ap (λ (b : Bool). if (starts_waiting s.pause_state && not b) then reschedule q.interleaving s' q.scheduler else q.scheduler) e ∙ still (starts_waiting s.pause_state) }
    where
      s : Stream
      s = stream_at q m.stream_id

      s' : Stream
      s' = with_message (stream_at q m.stream_id) (new_item now q.next_message_id m)

      at_rest : Others m.stream_id q.scheduler q.scheduler
      at_rest = record { free = free; same = λ j n. refl }

      still : (b : Bool) → (if (b && false) then reschedule q.interleaving s' q.scheduler else q.scheduler) ≡ q.scheduler
      still true = refl
      still false = refl

      go : (b : Bool) → Others m.stream_id q.scheduler (if b then reschedule q.interleaving s' q.scheduler else q.scheduler)
      go true =
          subst (Others m.stream_id q.scheduler) (sym (reschedule_of q.interleaving s' q.scheduler))
          (subst (λ (k : ℕ). Others m.stream_id q.scheduler (set_bytes_remaining k (head_size s'.items) (weight_of q.interleaving s') q.scheduler)) (sym (at_id q.options q.streams m.stream_id))
          (set_others m.stream_id (head_size s'.items) (weight_of q.interleaving s') q.scheduler q.scheduler at_rest))
      go false = at_rest

  pub more_keeps : (a : Adding) → KeptBy a.message.stream_id q (step (adding_call a) q).next
  unfolding step Rattle.queue_model.specs.Add.add checked refused_or
  more_keeps a = go (first_refusal (add_checks a.store a.now a.message q))
    where
      go : (x : Option ℕ) → KeptBy a.message.stream_id q (refused_or x q (reply done [] (added a.now a.message q))).next
      go none = added_keeps a.now a.message
      go (some n) = unmoved a.message.stream_id

  -- It shows no fragment, and does not say that nothing waits.
  pub more_shows : (a : Adding) → (shown (step (adding_call a) q).outcome.answer ≡ none) × (says_nothing (step (adding_call a) q).outcome.answer ≡ false)
  unfolding step Rattle.queue_model.specs.Add.add checked refused_or
  more_shows a = go (first_refusal (add_checks a.store a.now a.message q))
    where
      go : (x : Option ℕ) → (shown (refused_or x q (reply done [] (added a.now a.message q))).outcome.answer ≡ none) × (says_nothing (refused_or x q (reply done [] (added a.now a.message q))).outcome.answer ≡ false)
      go none = (refl, refl)
      go (some n) = (refl, refl)

-- An entry that waits stays listed.
pub entry_stays : (q : Queue) → Well q → q.scheduler.current ≡ none → (a : Adding) (e : Active) → find_active e.stream_id q.scheduler.active ≡ some e → find_active e.stream_id (step (adding_call a) q).next.scheduler.active ≡ some e
entry_stays q w f a e l = elim (Rattle.queue_model.proofs.Table.is_own active_key e a.message.stream_id) [
  | Rattle.queue_model.proofs.Table.own g ↦ ap (λ (sc : Scheduler). find_active e.stream_id sc.active) ((more_keeps q f a).own (listed_items q w a.message.stream_id e (ap (λ (k : ℕ). find_active k q.scheduler.active) (sym g) ∙ l) g)) ∙ l
  | Rattle.queue_model.proofs.Table.other n ↦ (more_keeps q f a).others.same e.stream_id n ∙ l
]
