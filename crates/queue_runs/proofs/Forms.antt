-- Which answers the model's calls give, and with which of them events go. Assumes nothing.
use mathlib.Core.Bool.{Bool, true, false}
use mathlib.Core.List.{List, [], ◌∷◌, ◌++◌}
use mathlib.Core.Option.{Option, none, some, get_or}
use Prim.Native.Nat.{ℕ, zero, suc, min}
use lib.Dec.{eqb}
use Rattle.std.specs.Prelude.{if◌then◌else◌}
use Rattle.queue_model.specs.Types.{Item, PauseState, not_paused, pending, paused, resetting, Stream, Active, Queue, Event, Fragment, Answer, refused, done, number, flag, ids, fragment, nothing_waits, filled, Packet, Outcome, Step, refuse, reply, remaining}
use Rattle.queue_model.specs.Streams.{find_stream, stream_at, waiting}
use Rattle.queue_model.specs.Refusals.{Check, first_refusal, refused_or, checked, short_of, short_of_head}
use Rattle.queue_model.specs.Amounts.{drop_head_events, sent_events}
use Rattle.queue_model.specs.Add as add
use Rattle.queue_model.specs.Produce.{Head, no_head, head, head_of, Look, nothing, broken, dropped, chosen, look, drop_in, numbered, make_fragment, handed_out, hand_out, after_look, pass_over, produce_checks}
use Rattle.queue_model.specs.Produce as produce
use Rattle.queue_model.specs.Fill as fill
use Rattle.queue_model.specs.Discard.{discarded, discard_at, discard_checks}
use Rattle.queue_model.specs.Discard as discard
use Rattle.queue_model.specs.Close.{closed, close_in, close_checks}
use Rattle.queue_model.specs.Close as close
use Rattle.queue_model.specs.Reset as reset
use Rattle.queue_model.specs.Settings as settings
use Rattle.queue_model.specs.Image.{Handover}
use Rattle.queue_model.specs.Reader.{read_image}
use Rattle.queue_model.specs.Restore as restore
use Rattle.queue_model.specs.Run as run

-- ------------------------------------------------------------------ the forms

abbrev pub told : Answer → List Event → Outcome
told a es = record { answer = a; events = es }

-- A call without events: refused or done.
pub data Quiet : Outcome → Type 0 where
  quiet_refused : (n : ℕ) → Quiet (told (refused n) [])
  quiet_done : Quiet (told done [])

-- A call with events: refused without them, or done.
pub data Loud : Outcome → Type 0 where
  loud_refused : (n : ℕ) → Loud (told (refused n) [])
  loud_done : (es : List Event) → Loud (told done es)

-- The next fragment.
pub data Sent : Outcome → Type 0 where
  sent_refused : (n : ℕ) → Sent (told (refused n) [])
  sent_nothing : (es : List Event) → Sent (told nothing_waits es)
  sent_fragment : (f : Fragment) (es : List Event) → Sent (told (fragment f) es)

-- Filling a packet.
pub data Filled : Outcome → Type 0 where
  filled_refused : (n : ℕ) → Filled (told (refused n) [])
  filled_told : (bs : List ℕ) (n : ℕ) (es : List Event) → Filled (told (filled bs n) es)

-- Ids, a number, a truth.
pub data Ids : Outcome → Type 0 where
  ids_told : (l : List ℕ) → Ids (told (ids l) [])

pub data Number : Outcome → Type 0 where
  number_told : (n : ℕ) → Number (told (number n) [])

pub data Flag : Outcome → Type 0 where
  flag_told : (b : Bool) → Flag (told (flag b) [])

-- Which call has which.
abbrev pub Form : run.Call → Outcome → Type 0
Form (run.add store now m) o = Quiet o
Form (run.produce store places buffer now size) o = Sent o
Form (run.fill store places buffer now p) o = Filled o
Form (run.discard places s k) o = Loud o
Form (run.close places s) o = Loud o
Form run.ready_ids o = Ids o
Form run.commit o = Quiet o
Form run.rollback o = Quiet o
Form run.reset o = Quiet o
Form (run.set_threshold places s t) o = Loud o
Form (run.set_priority s p) o = Quiet o
Form (run.set_interleaving b) o = Quiet o
Form (run.restore store now image) o = Quiet o
Form (run.ask_priority s) o = Number o
Form (run.ask_amount s) o = Number o
Form (run.ask_threshold s) o = Number o
Form run.ask_total o = Number o
Form run.ask_empty o = Flag o
Form run.ask_has_data o = Flag o
Form run.ask_streams_ready o = Flag o
Form run.ask_ready_count o = Number o
Form run.ask_readiness o = Number o
Form (run.ask_room r) o = Number o

-- ------------------------------------------------------------------ checks

-- A call that checks first.
checked_form : (P : Outcome → Type 0) (cs : List Check) (q : Queue) (s : Step) → ((n : ℕ) → P (told (refused n) [])) → P s.outcome → P (checked cs q s).outcome
unfolding checked refused_or
checked_form P cs q s r h = go (first_refusal cs)
  where
    go : (x : Option ℕ) → P (refused_or x q s).outcome
    go none = h
    go (some n) = r n

-- ------------------------------------------------------------------ the next fragment

abbrev MaybeSent : Option Step → Type 0
MaybeSent none = Unit {0}
MaybeSent (some s) = Sent s.outcome

hand_out_sent : (size : ℕ) (q : Queue) (es : List Event) (a : Active) (s : Stream) (i : Item) (is : List Item) → MaybeSent (hand_out size q es a s i is)
unfolding hand_out
hand_out_sent size q es a s i is = go (short_of_head q s i n)
  where
    n : ℕ
    n = min a.bytes_remaining size

    go : (b : Bool) → MaybeSent (if b then none else some (reply (fragment (make_fragment s (numbered s.counters i).item n)) (es ++ sent_events q s n) (handed_out q a s i is n)))
    go true = tt
    go false = sent_fragment (make_fragment s (numbered s.counters i).item n) (es ++ sent_events q s n)

after_sent : (again : Queue → List Event → Option Step) (size : ℕ) (q : Queue) (es : List Event) (l : Look) → ((r : Queue) (ds : List Event) → MaybeSent (again r ds)) → MaybeSent (after_look again size q es l)
unfolding after_look
after_sent again size q es nothing h = sent_nothing es
after_sent again size q es broken h = tt
after_sent again size q es (dropped r ds) h = h r (es ++ ds)
after_sent again size q es (chosen a s i is) h = hand_out_sent size q es a s i is

pass_sent : (turns now size : ℕ) (q : Queue) (es : List Event) → MaybeSent (pass_over turns now size q es)
unfolding pass_over
pass_sent zero now size q es = tt
pass_sent (suc turns) now size q es = after_sent (λ r ds. pass_over turns now size r ds) size q es (look now q) (λ r ds. pass_sent turns now size r ds)

produce_sent : (store places buffer now size : ℕ) (q : Queue) → Sent (produce.produce store places buffer now size q).outcome
unfolding produce.produce
produce_sent store places buffer now size q =
    let x : Option Step = pass_over (suc (waiting q.streams)) now size q [] in
    checked_form Sent (produce_checks store places buffer now size q) q (get_or x (refuse q 16)) sent_refused (go x (pass_sent (suc (waiting q.streams)) now size q []))
  where
    go : (x : Option Step) → MaybeSent x → Sent (get_or x (refuse q 16)).outcome
    go none h = sent_refused 16
    go (some s) h = h

-- ------------------------------------------------------------------ filling a packet

filled_form : (p : Packet) (q : Queue) (r : fill.Filling) (fs : List Fragment) (x : Option ℕ) → Filled (fill.filled_with p q r fs x).outcome
unfolding fill.filled_with
filled_form p q r [] (some n) = filled_refused n
filled_form p q r [] none = filled_told _ _ r.events
filled_form p q r (f ∷ fs) x = filled_told _ _ r.events

fill_filled : (store places buffer now : ℕ) (p : Packet) (q : Queue) → Filled (fill.fill store places buffer now p q).outcome
unfolding fill.fill
fill_filled store places buffer now p q =
    let r : fill.Filling = fill.filling store places now p.limit q in
    checked_form Filled (fill.fill_checks store places buffer now p.limit q) q (fill.filled_with p q r r.fragments r.refusal) filled_refused (filled_form p q r r.fragments r.refusal)

-- ------------------------------------------------------------------ discard and close

discarded_loud : (q : Queue) (s : Stream) (i : Item) (is : List Item) → Loud (discarded q s i is).outcome
unfolding discarded
discarded_loud q s i is = go (short_of q s (remaining i))
  where
    go : (b : Bool) → Loud (if b then refuse q 16 else reply done (drop_head_events q s i) (drop_in s.pause_state q s i is)).outcome
    go true = loud_refused 16
    go false = loud_done (drop_head_events q s i)

discard_at_loud : (k : ℕ) (q : Queue) (h : Head) → Loud (discard_at k q h).outcome
unfolding discard_at
discard_at_loud k q no_head = loud_done []
discard_at_loud k q (head s i is) = go (eqb i.message_id k)
  where
    go : (b : Bool) → Loud (if b then discarded q s i is else reply done [] q).outcome
    go true = discarded_loud q s i is
    go false = loud_done []

discard_loud : (places s k : ℕ) (q : Queue) → Loud (discard.discard places s k q).outcome
unfolding discard.discard
discard_loud places s k q = let h = head_of (find_stream s q.streams) in checked_form Loud (discard_checks places) q (discard_at k q h) loud_refused (discard_at_loud k q h)

close_in_loud : (p : PauseState) (q : Queue) (s : Stream) → Loud (close_in p q s).outcome
unfolding close_in closed
close_in_loud not_paused q s = loud_done _
close_in_loud pending q s = loud_done []
close_in_loud paused q s = loud_done []
close_in_loud resetting q s = loud_done []

close_loud : (places k : ℕ) (q : Queue) → Loud (close.close places k q).outcome
unfolding close.close
close_loud places k q = let s = stream_at q k in checked_form Loud (close_checks places k q) q (close_in s.pause_state q s) loud_refused (close_in_loud s.pause_state q s)

-- ------------------------------------------------------------------ restoring

restore_read_quiet : (now : ℕ) (q : Queue) (x : Option Handover) → Quiet (restore.restore_read now q x).outcome
unfolding restore.restore_read
restore_read_quiet now q none = quiet_refused 13
restore_read_quiet now q (some h) = checked_form Quiet (restore.record_checks now q h) q (reply done [] (restore.restored now h q)) quiet_refused quiet_done

restore_quiet : (store now : ℕ) (image : List ℕ) (q : Queue) → Quiet (restore.restore store now image q).outcome
unfolding restore.restore
restore_quiet store now image q = checked_form Quiet (restore.restore_checks store now q) q (restore.restore_read now q (read_image image)) quiet_refused (restore_read_quiet now q (read_image image))

-- ------------------------------------------------------------------ every call

pub form_of : (c : run.Call) (q : Queue) → Form c (run.step c q).outcome
unfolding run.step add.add reset.ready_ids reset.commit reset.rollback reset.reopen reset.reset settings.set_threshold settings.set_priority settings.set_interleaving
form_of (run.add store now m) q = checked_form Quiet (add.add_checks store now m q) q (reply done [] (add.added now m q)) quiet_refused quiet_done
form_of (run.produce store places buffer now size) q = produce_sent store places buffer now size q
form_of (run.fill store places buffer now p) q = fill_filled store places buffer now p q
form_of (run.discard places s k) q = discard_loud places s k q
form_of (run.close places s) q = close_loud places s q
form_of run.ready_ids q = ids_told _
form_of run.commit q = quiet_done
form_of run.rollback q = quiet_done
form_of run.reset q = checked_form Quiet (reset.reset_checks q) q _ quiet_refused quiet_done
form_of (run.set_threshold places s t) q = checked_form Loud (settings.threshold_checks places s q) q _ loud_refused (loud_done (settings.raised_event (stream_at q s) t))
form_of (run.set_priority s p) q = checked_form Quiet (settings.priority_checks s q) q _ quiet_refused quiet_done
form_of (run.set_interleaving b) q = quiet_done
form_of (run.restore store now image) q = restore_quiet store now image q
form_of (run.ask_priority s) q = number_told _
form_of (run.ask_amount s) q = number_told _
form_of (run.ask_threshold s) q = number_told _
form_of run.ask_total q = number_told _
form_of run.ask_empty q = flag_told _
form_of run.ask_has_data q = flag_told _
form_of run.ask_streams_ready q = flag_told _
form_of run.ask_ready_count q = number_told _
form_of run.ask_readiness q = number_told _
form_of (run.ask_room r) q = number_told _
