-- Fair turns by what a host sees: streams that are open at the start stay open through adds and next fragments, and wait exactly while their amounts are above 0. Assumes nothing.
use mathlib.Core.Path.{◌≡◌, sym, ap, ◌∙◌, subst}
use mathlib.Core.Bool.{Bool, true, false}
use mathlib.Core.List.{List, [], ◌∷◌, ◌++◌}
use mathlib.Core.Option.{Option, some, get_or}
use Prim.Native.Nat.{ℕ, ◌-◌, ◌<◌, min}
use lib.Dec.{eqb, ltb}
use Rattle.std.specs.Prelude.{if◌then◌else◌}
use Rattle.queue_model.specs.Types.{Item, PauseState, not_paused, Stream, Active, Options, Queue, Message, done, Step, remaining, reply, with_items, model_with_pause, with_counters}
use Rattle.queue_model.specs.Streams.{stream_key, put_stream, find_stream, new_stream, at, stream_at, with_message}
use Rattle.queue_model.specs.Questions.{amount_of}
use Rattle.queue_model.specs.Add.{new_item, added, add_checks}
use Rattle.queue_model.specs.Produce.{numbered, end_pending, moved_on, handed_out_last, handed_out_part, handed_out}
use Rattle.queue_model.specs.Run.{Call, step, after}
use Rattle.queue_model.specs.Demands.{Reachable, called}
use Rattle.queue_model.specs.Waiting.{is_waiting, WaitsBy, WaitingSeen}
use Rattle.queue_model.specs.FairTurns.{Allowed, adds, sends, Turn, Turns, AlwaysWait, AlwaysAbove, Open, Request11Turns, Request11Seen}
use Rattle.queue_model.proofs.Tests.{ltb_true}
use Rattle.queue_model.proofs.Table.{own, other, is_own, find_key, find_put_same, find_put_other}
use Rattle.queue_model.proofs.Checks.{checked_either}
use Rattle.queue_model.proofs.Streams.{at_found, at_id}
use Rattle.queue_model.proofs.Invariant.Well.{Well}
use Rattle.queue_model.proofs.Invariant.Sends.{Chosen}
use Rattle.queue_model.proofs.Invariant.Sixteen.{reachable_well}
use Rattle.queue_model.proofs.Invariant.Serving.{waiting_seen}
use Rattle.queue_model.proofs.FairTurns.Steps.{produce_is}
use Rattle.queue_model.proofs.FairTurns.Theorem.{request11_turns}
use Rattle.queue_model.specs.Calls

-- ---- an open stream stays open

abbrev pub IsOpen : Stream → Type 0
IsOpen s = s.pause_state ≡ not_paused

-- A stream put in its place leaves an open stream open if it is open itself.
open_put : (o : Options) (s : Stream) (ss : List Stream) (k : ℕ) → (s.id ≡ k → IsOpen (at o ss k) → IsOpen s) → IsOpen (at o ss k) → IsOpen (at o (put_stream s ss) k)
open_put o s ss k f h = elim (is_own stream_key s k) [
  | own g ↦ subst IsOpen (sym (at_found o (put_stream s ss) k s (ap (λ (x : ℕ). find_stream x (put_stream s ss)) (sym g) ∙ find_put_same stream_key s ss))) (f g h)
  | other n ↦ subst (λ (x : Option Stream). IsOpen (get_or x (new_stream o k))) (sym (find_put_other stream_key k s ss n)) h
]

open_add : (k store now : ℕ) (m : Message) (q : Queue) → Open k q → Open k (Calls.add store now m q).next
unfolding Calls.add added
open_add k store now m q h =
    let s : Stream = stream_at q m.stream_id in
    checked_either (λ (x : Step). Open k x.next) (add_checks store now m q) q (reply done [] (added now m q)) (λ r. h)
    (λ p. open_put q.options (with_message s (new_item now q.next_message_id m)) q.streams k
    (λ g i. subst (λ (x : ℕ). IsOpen (at q.options q.streams x)) (sym g ∙ at_id q.options q.streams m.stream_id) i) h)

open_sent : (k n : ℕ) (q : Queue) (a : Active) (s : Stream) (i : Item) (is : List Item) → Chosen q a s i is → Open k q → Open k (handed_out q a s i is n)
unfolding handed_out handed_out_last handed_out_part end_pending
open_sent k n q a s i is c h = go (eqb n (remaining i))
  where
    same_stream : s.id ≡ k → IsOpen (at q.options q.streams k) → IsOpen s
    same_stream g e = subst IsOpen (at_found q.options q.streams k s (subst (λ (x : ℕ). find_stream x q.streams ≡ some s) (sym (find_key stream_key a.stream_id q.streams s c.choice_head.found) ∙ g) c.choice_head.found)) e

    go : (b : Bool) → Open k (if b then handed_out_last q a s i is n else handed_out_part q a s i is n)
    go true = open_put q.options (model_with_pause (end_pending s.pause_state) (with_items (with_counters (numbered s.counters i).counters s) (s.amount - n) is)) q.streams k (λ g e. ap end_pending (same_stream g e)) h
    go false = open_put q.options (with_items (with_counters (numbered s.counters i).counters s) (s.amount - n) (moved_on (numbered s.counters i).item n ∷ is)) q.streams k same_stream h

open_allowed : (k : ℕ) (c : Call) (q : Queue) → Well q → Allowed q c → Open k q → Open k (step c q).next
unfolding step
open_allowed k c q w (adds store now m) h = open_add k store now m q h
open_allowed k c q w (sends store places buffer now e) h =
    produce_is (λ (s : Step). Open k s.next) store places buffer now q.options.payload_limit q w e (λ r. h) h
    (λ a s i is g c. open_sent k (min a.bytes_remaining q.options.payload_limit) q a s i is c h)

-- ---- lists of calls

-- A queue on the way with both streams open.
pub record BothOpen (o : Options) (j k : ℕ) (q : Queue) : Type 0 where
  pub reached : Reachable o q
  pub first_open : Open j q
  pub second_open : Open k q

pub open_on : (o : Options) (j k : ℕ) (c : Call) (q : Queue) → BothOpen o j k q → Turn c q → BothOpen o j k (step c q).next
open_on o j k c q b t =
    let w = reachable_well b.reached in
    record { reached = called b.reached c t.typed; first_open = open_allowed j c q w t.allowed b.first_open; second_open = open_allowed k c q w t.allowed b.second_open }

open_before : (o : Options) (j k : ℕ) (before during : List Call) (q : Queue) → BothOpen o j k q → Turns (before ++ during) q → BothOpen o j k (after before q) × Turns during (after before q)
unfolding after
open_before o j k [] during q b t = (b, t)
open_before o j k (c ∷ cs) during q b t = open_before o j k cs during (step c q).next (open_on o j k c q b t.0) t.1

above_waits : (o : Options) (k : ℕ) (q : Queue) → Reachable o q → Open k q → 0 < amount_of q k → is_waiting k q ≡ true
unfolding WaitingSeen
above_waits o k q r h l = let w : is_waiting k q ≡ ltb 0 (amount_of q k) = subst (λ (p : PauseState). WaitsBy p (amount_of q k) (is_waiting k q)) h (waiting_seen o q k r) in w ∙ ltb_true l

pub both_wait : (o : Options) (j k : ℕ) (q : Queue) → BothOpen o j k q → (0 < amount_of q j) × (0 < amount_of q k) → (is_waiting j q ≡ true) × (is_waiting k q ≡ true)
both_wait o j k q b l = (above_waits o j q b.reached b.first_open l.0, above_waits o k q b.reached b.second_open l.1)

always_wait : (o : Options) (j k : ℕ) (cs : List Call) (q : Queue) → BothOpen o j k q → Turns cs q → AlwaysAbove j k cs q → AlwaysWait j k cs q
always_wait o j k [] q b t l = tt
always_wait o j k (c ∷ cs) q b t l = (both_wait o j k q b l.0, always_wait o j k cs (step c q).next (open_on o j k c q b t.0) t.1 l.1)

-- ---- the theorem

pub request11_seen : Request11Seen
unfolding Request11Seen Request11Turns
request11_seen o q before during j k s x y t l =
    let b = open_before o j k before during q (record { reached = s.reachable; first_open = x; second_open = y }) t in
    request11_turns o q before during j k s t (always_wait o j k during (after before q) b.0 b.1 l)
