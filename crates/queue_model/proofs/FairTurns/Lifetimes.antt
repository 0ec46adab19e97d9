-- A run whose messages are given no lifetime has no expiry: fair turns for it, from its list of calls and the finish times alone. Assumes nothing.
use mathlib.Core.Path.{◌≡◌, refl, ap, ap₂, subst}
use mathlib.Core.Bool.{Bool, true, false, not, ◌||◌}
use mathlib.Core.List.{List, [], ◌∷◌, ◌++◌}
use mathlib.Core.Option.{Option, none, some}
use Prim.Native.Nat.{ℕ, ◌-◌, min}
use native.Mathlib.Omega.{arith}
use lib.Dec.{eqb, eqb→eq}
use Rattle.std.specs.Prelude.{if◌then◌else◌}
use Rattle.queue_model.specs.Logic.{any}
use Rattle.queue_model.specs.Types.{Item, Counters, Stream, Active, Queue, Message, done, Step, remaining, expired, reply, with_items, with_counters, model_with_pause}
use Rattle.queue_model.specs.Streams.{stream_key, stream_at, amounts, with_message}
use Rattle.queue_model.specs.Questions.{is_empty}
use Rattle.queue_model.specs.Add.{expiry, new_item, added, add_checks}
use Rattle.queue_model.specs.Produce.{give_numbers, numbered_in, numbered, end_pending, moved_on, handed_out_last, handed_out_part, handed_out}
use Rattle.queue_model.specs.Run.{Call, add, produce, step}
use Rattle.queue_model.specs.Demands.{Typed}
use Rattle.queue_model.specs.FairTurns.{none_expired, Allowed, adds, sends, times_below, Turns}
use Rattle.queue_model.proofs.Tests.{holds}
use Rattle.queue_model.proofs.Table.{Every, every_put, every_find, every_weaken}
use Rattle.queue_model.proofs.Checks.{checked_either}
use Rattle.queue_model.proofs.Streams.{every_at, unsent_bytes}
use Rattle.queue_model.proofs.Invariant.Messages.{WellItems}
use Rattle.queue_model.proofs.Invariant.Well.{Kept, Well}
use Rattle.queue_model.proofs.Invariant.Sixteen.{fine_step}
use Rattle.queue_model.proofs.FairTurns.Steps.{produce_is}
use Rattle.queue_model.specs.Calls

-- ---- the runs

-- Adds without a lifetime, and next fragments of this size.
pub data Untimed (limit : ℕ) : Call → Type 0 where
  lasting : (store now : ℕ) (m : Message) → m.lifetime ≡ none → Untimed limit (add store now m)
  whole : (store places buffer now : ℕ) → Untimed limit (produce store places buffer now limit)

pub record UntimedTurn (c : Call) (q : Queue) : Type 0 where
  pub typed : Typed c
  pub untimed : Untimed q.options.payload_limit c
  pub below : times_below q ≡ true

abbrev pub UntimedTurns : List Call → Queue → Type 0
UntimedTurns [] q = Unit {0}
UntimedTurns (c ∷ cs) q = UntimedTurn c q × UntimedTurns cs (step c q).next

-- ---- messages that never expire

abbrev Lasting : Item → Type 0
Lasting i = i.expires_at ≡ none

abbrev AllLasting : Stream → Type 0
AllLasting s = Every Lasting s.items

-- Nothing has expired among them, at any time.
any_none : {A : Type 0} (test : A → Bool) (xs : List A) → Every (λ x. test x ≡ false) xs → any test xs ≡ false
unfolding any
any_none test [] e = refl
any_none test (x ∷ xs) e = ap₂ ◌||◌ e.0 (any_none test xs e.1)

lasting_fresh : (now : ℕ) (q : Queue) → Every AllLasting q.streams → none_expired now q ≡ true
unfolding none_expired
lasting_fresh now q e =
    ap not (any_none (λ (s : Stream). any (λ (i : Item). expired now i.expires_at) s.items) q.streams
    (every_weaken AllLasting (λ (s : Stream). any (λ (i : Item). expired now i.expires_at) s.items ≡ false) q.streams
    (λ s h. any_none (λ (i : Item). expired now i.expires_at) s.items (every_weaken Lasting (λ (i : Item). expired now i.expires_at ≡ false) s.items (λ i g. ap (expired now) g) h)) e))

-- An empty queue has no message.
no_messages : (is : List Item) → WellItems is → unsent_bytes is ≡ 0 → Every Lasting is
no_messages [] w e = tt
no_messages (i ∷ is) w e = let l = w.0.unsent in absurd (omega arith)

empty_lasting : (ss : List Stream) → Every Kept ss → amounts ss ≡ 0 → Every AllLasting ss
empty_lasting [] k e = tt
empty_lasting (s ∷ ss) k e = let c = k.0.counted in (no_messages s.items k.0.well_items (omega arith), empty_lasting ss k.1 (omega arith))

-- ---- add

every_snoc : (is : List Item) (i : Item) → Every Lasting is → Lasting i → Every Lasting (is ++ (i ∷ []))
every_snoc [] i e h = (h, tt)
every_snoc (j ∷ is) i e h = (e.0, every_snoc is i e.1 h)

lasting_add : (store now : ℕ) (m : Message) (q : Queue) → m.lifetime ≡ none → Every AllLasting q.streams → Every AllLasting (Calls.add store now m q).next.streams
unfolding Calls.add added new_item expiry
lasting_add store now m q n e =
    let s : Stream = stream_at q m.stream_id in
    let h : AllLasting s = every_at AllLasting q.options m.stream_id q.streams e tt in
    checked_either (λ (x : Step). Every AllLasting x.next.streams) (add_checks store now m q) q (reply done [] (added now m q)) (λ r. e)
    (λ p. every_put stream_key AllLasting (with_message s (new_item now q.next_message_id m)) q.streams (every_snoc s.items (new_item now q.next_message_id m) h (ap (expiry now) n)) e)

-- ---- next fragment

give_lasting : (u : Bool) (c : Counters) (i : Item) → Lasting i → Lasting (give_numbers u c i).item
unfolding give_numbers
give_lasting true c i h = h
give_lasting false c i h = h

numbered_lasting : (c : Counters) (i : Item) → Lasting i → Lasting (numbered c i).item
unfolding numbered numbered_in
numbered_lasting c i h = go i.mid
  where
    go : (m : Option ℕ) → Lasting (numbered_in m c i).item
    go none = give_lasting i.unordered c i h
    go (some m) = h

lasting_sent : (n : ℕ) (q : Queue) (a : Active) (s : Stream) (i : Item) (is : List Item) → Every AllLasting q.streams → Every Lasting (i ∷ is) → Every AllLasting (handed_out q a s i is n).streams
unfolding handed_out handed_out_last handed_out_part moved_on
lasting_sent n q a s i is e h = go (eqb n (remaining i))
  where
    go : (b : Bool) → Every AllLasting (if b then handed_out_last q a s i is n else handed_out_part q a s i is n).streams
    go true = every_put stream_key AllLasting (model_with_pause (end_pending s.pause_state) (with_items (with_counters (numbered s.counters i).counters s) (s.amount - n) is)) q.streams h.1 e
    go false = every_put stream_key AllLasting (with_items (with_counters (numbered s.counters i).counters s) (s.amount - n) (moved_on (numbered s.counters i).item n ∷ is)) q.streams (numbered_lasting s.counters i h.0, h.1) e

lasting_produce : (store places buffer now size : ℕ) (q : Queue) → Well q → Every AllLasting q.streams → Every AllLasting (Calls.produce store places buffer now size q).next.streams
lasting_produce store places buffer now size q w e =
    produce_is (λ (s : Step). Every AllLasting s.next.streams) store places buffer now size q w (lasting_fresh now q e) (λ r. e) e
    (λ a s i is g c. lasting_sent (min a.bytes_remaining size) q a s i is e (subst (Every Lasting) c.choice_head.items (every_find stream_key AllLasting a.stream_id s q.streams e c.choice_head.found)))

-- ---- lists of calls

lasting_next : (limit : ℕ) (c : Call) (q : Queue) → Well q → Untimed limit c → Every AllLasting q.streams → Every AllLasting (step c q).next.streams
unfolding step
lasting_next limit c q w (lasting store now m n) e = lasting_add store now m q n e
lasting_next limit c q w (whole store places buffer now) e = lasting_produce store places buffer now limit q w e

allowed_of : (c : Call) (q : Queue) → Every AllLasting q.streams → Untimed q.options.payload_limit c → Allowed q c
allowed_of c q e (lasting store now m n) = adds store now m
allowed_of c q e (whole store places buffer now) = sends store places buffer now (lasting_fresh now q e)

turns_of : (cs : List Call) (q : Queue) → Well q → Every AllLasting q.streams → UntimedTurns cs q → Turns cs q
turns_of [] q w e t = tt
turns_of (c ∷ cs) q w e t =
    let u = t.0 in
    (record { typed = u.typed; allowed = allowed_of c q e u.untimed; below = u.below }, turns_of cs (step c q).next (fine_step c q u.typed w).next_well (lasting_next q.options.payload_limit c q w u.untimed e) t.1)

-- From an empty queue on, such a run is one of fair turns (`request11_turns`).
pub untimed_turns : (cs : List Call) (q : Queue) → Well q → is_empty q ≡ true → UntimedTurns cs q → Turns cs q
unfolding is_empty
untimed_turns cs q w e t =
    let z : q.total ≡ 0 = eqb→eq q.total 0 (holds (eqb q.total 0) e) in let c = w.total_counted in
    turns_of cs q w (empty_lasting q.streams w.kept (omega arith)) t
