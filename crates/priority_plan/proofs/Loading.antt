-- A job's settings and messages on a new queue: no time passes, and each stream's entry is the one by which the plan judges. Assumes nothing.
use mathlib.Core.Path.{◌≡◌, refl, sym, ap, ap₂, ◌∙◌, subst}
use mathlib.Core.Bool.{Bool, true, false, not, ◌&&◌}
use mathlib.Core.List.{List, [], ◌∷◌, ◌++◌, map}
use mathlib.Core.Option.{Option, none, some}
use Prim.Native.Nat.{ℕ, ◌≤◌}
use native.Mathlib.Omega.{arith}
use lib.Dec.{eqb, ltb, eqb→eq}
use lib.ListN.{length}
use Rattle.std.specs.Prelude.{if◌then◌else◌}
use Rattle.queue_model.specs.Logic.{same_bool}
use Rattle.queue_model.specs.Types.{Item, not_paused, Stream, Weight, weighted, Active, Scheduler, Options, Queue, Message, done, reply, remaining, expired, with_priority}
use Rattle.queue_model.specs.Scheduler.{active_key, find_active, put_active, scheduled, new_scheduler, forget, rest_time, remove_stream, start_of, set_bytes_remaining}
use Rattle.queue_model.specs.Streams.{stream_key, put_stream, at, stream_at, with_message, know, some_items, has_items, head_size, weight_of, reschedule, reschedule_each, new_queue}
use Rattle.queue_model.specs.Refusals.{Check, first_refusal, refused_or, checked, max_payload}
use Rattle.queue_model.specs.Add.{new_item, starts_waiting, started, added, add_checks}
use Rattle.queue_model.specs.Settings.{priority_checks, switched}
use Rattle.queue_model.specs.Run.{step, run, after}
use Rattle.queue_model.specs.Demands.{Typed, AllTyped, Created}
use Rattle.queue_model.proofs.Tests.{holds, eqb_true}
use Rattle.queue_model.proofs.Table.{Every, every_put, every_weaken, find_nil, find_put_same, find_put_other, without_nil}
use Rattle.queue_model.proofs.Checks.{or_left, not_less, Passed, all_passed}
use Rattle.queue_model.proofs.Scheduler.{set_none, set_some, reschedule_of, each_nil, each_cons}
use Rattle.queue_model.proofs.Streams.{at_found, at_id, every_at}
use Rattle.queue_model.proofs.Invariant.Well.{Well, well_new}
use Rattle.queue_model.proofs.Invariant.Fine.{Fine}
use Rattle.queue_model.proofs.Invariant.Sixteen.{fine_step}
use Rattle.priority_plan.specs.Works.{PlannedStream, first_entry, All}
use Rattle.priority_plan.specs.Jobs.{Setting, priority, interleaving, setting_call, Adding, adding_call, last_priority, last_interleaving, first_size, Accepted, Prepared, set_up, loaded, Job}
use Rattle.priority_plan.proofs.Lasting.{NoneExpired}
use Rattle.queue_model.proofs.Demand3.Peel.{at_put_other}
use Rattle.queue_model.proofs.Calm.Calm.{head_size_none}
use Rattle.queue_model.proofs.FairTurns.Seen.{IsOpen}

-- ---- accepted calls

accepted_next : (cs : List Check) (q r : Queue) → (checked cs q (reply done [] r)).outcome.answer ≡ done → ((checked cs q (reply done [] r)).next ≡ r) × Passed cs
unfolding checked refused_or
accepted_next cs q r e = go (first_refusal cs) refl e
  where
    go : (x : Option ℕ) → first_refusal cs ≡ x → (refused_or x q (reply done [] r)).outcome.answer ≡ done → ((refused_or x q (reply done [] r)).next ≡ r) × Passed cs
    go none f g = (refl, all_passed cs f)
    go (some n) f g = let z : ◌≡◌ {A = ℕ} 0 1 = cc in absurd (omega arith)

-- ---- the streams after putting one

at_put_own : (o : Options) (s : Stream) (ss : List Stream) → at o (put_stream s ss) s.id ≡ s
at_put_own o s ss = at_found o (put_stream s ss) s.id s (find_put_same stream_key s ss)

-- ---- settings

-- A scheduler at rest, and a stream without messages.
record Resting (sc : Scheduler) : Type 0 where
  free : sc.current ≡ none
  time_zero : sc.system_time ≡ 0
  none_waits : sc.active ≡ []

record Unused (s : Stream) : Type 0 where
  opened : s.pause_state ≡ not_paused
  no_items : s.items ≡ []

record Fresh (o : Options) (q : Queue) : Type 0 where
  well : Well q
  options_same : q.options ≡ o
  resting : Resting q.scheduler
  unused : Every Unused q.streams

resting_removed : (k : ℕ) (sc : Scheduler) → Resting sc → Resting (remove_stream k sc)
unfolding remove_stream forget rest_time
resting_removed k sc r =
    let e = ap (Rattle.queue_model.specs.Scheduler.without_active k) r.none_waits ∙ without_nil active_key k in
    record { free = ap (forget k) r.free; time_zero = ap (rest_time sc.system_time) e; none_waits = e }

resting_each : (b : Bool) (ss : List Stream) (sc : Scheduler) → Every Unused ss → Resting sc → Resting (reschedule_each b (λ s. true) ss sc)
resting_each b [] sc u r = subst Resting (sym (each_nil b (λ s. true) sc)) r
resting_each b (s ∷ ss) sc u r =
    subst Resting (sym (each_cons b (λ s. true) s ss sc))
    (resting_each b ss (reschedule b s sc) u.1 (subst Resting (sym (reschedule_of b s sc ∙ ap (λ (n : ℕ). set_bytes_remaining s.id n (weight_of b s) sc) (head_size_none s.items u.0.no_items) ∙ set_none s.id (weight_of b s) sc)) (resting_removed s.id sc r)))

-- What a setting leaves of a stream's priority.
abbrev Knows : ℕ → Option ℕ → Queue → Type 0
Knows k old q = (p : ℕ) → old ≡ some p → (stream_at q k).priority ≡ p

record Settled (o : Options) (ss : List Setting) (q r : Queue) : Type 0 where
  fresh : Fresh o r
  choice : r.interleaving ≡ last_interleaving q.interleaving ss
  knows : (k : ℕ) (old : Option ℕ) → Knows k old q → Knows k (last_priority k old ss) r

same_choice : (b c : Bool) → same_bool b c ≡ true → c ≡ b
unfolding same_bool
same_choice true c e = e
same_choice false true e = absurd (holds false e)
same_choice false false e = refl

-- One setting.
record Set (o : Options) (c : Setting) (q r : Queue) : Type 0 where
  fresh : Fresh o r
  choice : (ss : List Setting) → last_interleaving q.interleaving (c ∷ ss) ≡ last_interleaving r.interleaving ss
  knows : (k : ℕ) (old : Option ℕ) (ss : List Setting) → Knows k old q → (old' : Option ℕ) × ((last_priority k old (c ∷ ss) ≡ last_priority k old' ss) × Knows k old' r)

priority_step : (o : Options) (j v : ℕ) (q : Queue) → Fresh o q → Typed (setting_call (priority j v)) → (step (setting_call (priority j v)) q).outcome.answer ≡ done → Set o (priority j v) q (step (setting_call (priority j v)) q).next
unfolding step Rattle.queue_model.specs.Settings.set_priority last_priority last_interleaving
priority_step o j v q f t e =
    subst (λ (r : Queue). Well r → r.options ≡ q.options → Set o (priority j v) q r) (sym n)
    (λ w so. record {
      fresh = record { well = w; options_same = so ∙ f.options_same; resting = f.resting; unused = every_put stream_key Unused s q.streams (record { opened = u.opened; no_items = u.no_items }) f.unused };
      choice = λ ss. refl;
      knows = λ k old ss h. ((if eqb j k then some v else old), (refl, known k old h (eqb j k) refl));
    })
    fine.next_well fine.same_options
  where
    s : Stream
    s = with_priority v (stream_at q j)

    n : (checked (priority_checks j q) q (reply done [] (know q (with_priority v (stream_at q j))))).next ≡ know q (with_priority v (stream_at q j))
    n = (accepted_next (priority_checks j q) q (know q (with_priority v (stream_at q j))) e).0

    fine : Fine q (step (setting_call (priority j v)) q)
    fine = fine_step (setting_call (priority j v)) q t f.well

    u : Unused (stream_at q j)
    u = every_at Unused q.options j q.streams f.unused (record { opened = refl; no_items = refl })

    known : (k : ℕ) (old : Option ℕ) → Knows k old q → (b : Bool) → eqb j k ≡ b → Knows k (if b then some v else old) (know q (with_priority v (stream_at q j)))
    known k old h true g p z =
        let i : (stream_at q j).id ≡ k = at_id q.options q.streams j ∙ eqb→eq j k (holds (eqb j k) g) in
        let y : v ≡ p = cc in
        ap (λ (x : ℕ). (at q.options (put_stream (with_priority v (stream_at q j)) q.streams) x).priority) (sym i) ∙ ap (λ (x : Stream). x.priority) (at_put_own q.options (with_priority v (stream_at q j)) q.streams) ∙ y
    known k old h false g p z =
        let m : (stream_at q j).id ≡ k → ⊥ = λ i. holds false (sym g ∙ eqb_true (sym (at_id q.options q.streams j) ∙ i)) in
        ap (λ (x : Stream). x.priority) (at_put_other q.options (with_priority v (stream_at q j)) q.streams k m) ∙ h p z

interleaving_step : (o : Options) (b : Bool) (q : Queue) → Fresh o q → Set o (interleaving b) q (step (setting_call (interleaving b)) q).next
unfolding step Rattle.queue_model.specs.Settings.set_interleaving switched last_priority last_interleaving
interleaving_step o b q f = go (same_bool b q.interleaving) refl fine.next_well fine.same_options
  where
    fine : Fine q (step (setting_call (interleaving b)) q)
    fine = fine_step (setting_call (interleaving b)) q tt f.well

    go : (x : Bool) → same_bool b q.interleaving ≡ x → Well (if x then q else switched b q) → (if x then q else switched b q).options ≡ q.options → Set o (interleaving b) q (if x then q else switched b q)
    go true e w so = record { fresh = f; choice = λ ss. ap (λ (y : Bool). last_interleaving y ss) (sym (same_choice b q.interleaving e)); knows = λ k old ss h. (old, (refl, h)) }
    go false e w so = record {
      fresh = record { well = w; options_same = so ∙ f.options_same; resting = resting_each b q.streams q.scheduler f.unused f.resting; unused = f.unused };
      choice = λ ss. refl;
      knows = λ k old ss h. (old, (refl, h));
    }

setting_step : (o : Options) (c : Setting) (q : Queue) → Fresh o q → Typed (setting_call c) → (step (setting_call c) q).outcome.answer ≡ done → Set o c q (step (setting_call c) q).next
setting_step o (priority j v) q f t e = priority_step o j v q f t e
setting_step o (interleaving b) q f t e = interleaving_step o b q f

settled : (o : Options) (ss : List Setting) (q : Queue) → Fresh o q → AllTyped (map setting_call ss) → Accepted (run (map setting_call ss) q) → Settled o ss q (after (map setting_call ss) q)
unfolding run after last_priority last_interleaving
settled o [] q f t a = record { fresh = f; choice = refl; knows = λ k old h. h }
settled o (c ∷ ss) q f t a =
    let r : Queue = (step (setting_call c) q).next in
    let one = setting_step o c q f t.0 a.0 in
    let rest = settled o ss (step (setting_call c) q).next one.fresh t.1 a.1 in
    record {
      fresh = rest.fresh;
      choice = rest.choice ∙ sym (one.choice ss);
      knows = λ k old h. let x = one.knows k old ss h in λ p z. rest.knows k x.0 x.1.1 p (sym x.1.0 ∙ z);
    }

fresh_new : (o : Options) → Created o → Fresh o (new_queue o)
unfolding new_queue new_scheduler
fresh_new o c = record { well = well_new o c; options_same = refl; resting = record { free = refl; time_zero = refl; none_waits = refl }; unused = tt }

-- ---- messages

-- An interleaving queue on which messages are added and none is sent yet.
record Loading (o : Options) (q : Queue) : Type 0 where
  well : Well q
  options_same : q.options ≡ o
  on : q.interleaving ≡ true
  free : q.scheduler.current ≡ none
  time_zero : q.scheduler.system_time ≡ 0
  opened : Every IsOpen q.streams

-- A stream before its first message, and after it.
record BeforeFirst (k p : ℕ) (q : Queue) : Type 0 where
  no_items : (stream_at q k).items ≡ []
  priority_is : (stream_at q k).priority ≡ p
  unlisted : find_active k q.scheduler.active ≡ none

record Entered (k : ℕ) (e : Active) (q : Queue) : Type 0 where
  some_message : has_items (stream_at q k) ≡ true
  listed : find_active k q.scheduler.active ≡ some e

limit_of : (o : Options) (q : Queue) → Loading o q → q.scheduler.payload_limit ≡ o.payload_limit
limit_of o q l = l.well.waits.sched.limit_same ∙ ap (λ (x : Options). x.payload_limit) l.options_same

items_after : (is : List Item) (i : Item) → some_items (is ++ (i ∷ [])) ≡ true
unfolding some_items
items_after [] i = refl
items_after (j ∷ is) i = refl

-- The scheduler after a message on a stream.
record Starts (o : Options) (q : Queue) (m : Message) (sc : Scheduler) : Type 0 where
  free : sc.current ≡ none
  time_zero : sc.system_time ≡ 0
  others : (k : ℕ) → (m.stream_id ≡ k → ⊥) → find_active k sc.active ≡ find_active k q.scheduler.active
  begins : (p : ℕ) → BeforeFirst m.stream_id p q → find_active m.stream_id sc.active ≡ some (first_entry o.payload_limit (record { stream_id = m.stream_id; size = length m.payload }) p)
  goes_on : (e : Active) → Entered m.stream_id e q → find_active m.stream_id sc.active ≡ some e

module _ (o : Options) (q : Queue) (l : Loading o q) (now : ℕ) (m : Message) (some_bytes : 1 ≤ length m.payload) where
  abbrev k : ℕ
  k = m.stream_id

  abbrev s : Stream
  s = stream_at q m.stream_id

  abbrev s' : Stream
  s' = with_message (stream_at q m.stream_id) (new_item now q.next_message_id m)

  is_k : s.id ≡ k
  is_k = at_id q.options q.streams m.stream_id

  is_open : s.pause_state ≡ not_paused
  is_open = every_at IsOpen q.options m.stream_id q.streams l.opened refl

  item_size : remaining (new_item now q.next_message_id m) ≡ length m.payload
  unfolding new_item
  item_size = omega arith

  -- The first message's stream begins to wait at the system time, 0.
  begun : s.items ≡ [] → Starts o q m (reschedule q.interleaving s' q.scheduler)
  unfolding head_size weight_of start_of has_items some_items first_entry scheduled
  begun e =
      let n : ℕ = length m.payload in
      let sz : head_size s'.items ≡ length m.payload = ap (λ (is : List Item). head_size (is ++ (new_item now q.next_message_id m ∷ []))) e ∙ item_size in
      let sc : Scheduler = q.scheduler in
      let is : reschedule q.interleaving s' q.scheduler ≡ waiting_with (weight_of q.interleaving s') =
      reschedule_of q.interleaving s' sc
      ∙ ap₂ (λ (i z : ℕ). set_bytes_remaining i z (weight_of q.interleaving s') q.scheduler) is_k sz
      ∙ set_some k n (weight_of q.interleaving s') sc some_bytes in
      subst (Starts o q m) (sym is) (record {
        free = l.free;
        time_zero = l.time_zero;
        others = λ j d. find_put_other active_key j (entry_with (weight_of q.interleaving s')) sc.active d;
        begins = λ p b. find_put_same active_key (entry_with (weight_of q.interleaving s')) sc.active ∙ ap some (first_is p b);
        goes_on = λ x g. absurd (holds false (sym (ap some_items e) ∙ g.some_message));
      })
    where
      entry_with : Weight → Active
      entry_with w = scheduled q.scheduler.payload_limit m.stream_id w (start_of q.scheduler.system_time (find_active m.stream_id q.scheduler.active)) (length m.payload)

      waiting_with : Weight → Scheduler
      waiting_with w = record { payload_limit = q.scheduler.payload_limit; current = q.scheduler.current; system_time = q.scheduler.system_time; active = put_active (entry_with w) q.scheduler.active }

      first_is : (p : ℕ) → BeforeFirst m.stream_id p q → entry_with (weight_of q.interleaving s') ≡ first_entry o.payload_limit (record { stream_id = m.stream_id; size = length m.payload }) p
      first_is p b =
          ap (λ (x : Bool). entry_with (weight_of x s')) l.on
          ∙ ap (λ (x : ℕ). entry_with (weighted x)) b.priority_is
          ∙ ap (λ (x : ℕ). scheduled x m.stream_id (weighted p) (start_of q.scheduler.system_time (find_active m.stream_id q.scheduler.active)) (length m.payload)) (limit_of o q l)
          ∙ ap₂ (λ (t : ℕ) (x : Option Active). scheduled o.payload_limit m.stream_id (weighted p) (start_of t x) (length m.payload)) l.time_zero b.unlisted

  -- A message behind another changes nothing in the scheduler.
  unmoved : has_items s ≡ true → Starts o q m q.scheduler
  unfolding has_items some_items
  unmoved e = record {
    free = l.free;
    time_zero = l.time_zero;
    others = λ j d. refl;
    begins = λ p b. absurd (holds false (sym (ap some_items b.no_items) ∙ e));
    goes_on = λ x g. g.listed;
  }

  starts : Starts o q m (started q.interleaving s s' q.scheduler)
  unfolding started starts_waiting has_items some_items
  starts =
      subst (λ (x : _). Starts o q m (if starts_waiting x && not (has_items s) then reschedule q.interleaving s' q.scheduler else q.scheduler)) (sym is_open)
      (go s.items refl)
    where
      go : (is : List Item) → s.items ≡ is → Starts o q m (if not (has_items s) then reschedule q.interleaving s' q.scheduler else q.scheduler)
      go [] e = subst (λ (x : Bool). Starts o q m (if not x then reschedule q.interleaving s' q.scheduler else q.scheduler)) (sym (ap some_items e)) (begun e)
      go (i ∷ is) e = subst (λ (x : Bool). Starts o q m (if not x then reschedule q.interleaving s' q.scheduler else q.scheduler)) (sym (ap some_items e)) (unmoved (ap some_items e))

-- One message.
record Added (o : Options) (m : Message) (q r : Queue) : Type 0 where
  loading : Loading o r
  before_others : (k p : ℕ) → (m.stream_id ≡ k → ⊥) → BeforeFirst k p q → BeforeFirst k p r
  entered_others : (k : ℕ) (e : Active) → (m.stream_id ≡ k → ⊥) → Entered k e q → Entered k e r
  begins : (p : ℕ) → BeforeFirst m.stream_id p q → Entered m.stream_id (first_entry o.payload_limit (record { stream_id = m.stream_id; size = length m.payload }) p) r
  goes_on : (e : Active) → Entered m.stream_id e q → Entered m.stream_id e r

module _ (o : Options) (store now : ℕ) (m : Message) (q : Queue) (l : Loading o q) where
  abbrev next_stream : Stream
  next_stream = with_message (stream_at q m.stream_id) (new_item now q.next_message_id m)

  added_step : 1 ≤ length m.payload → Well (added now m q) → (added now m q).options ≡ q.options → Added o m q (added now m q)
  unfolding added has_items
  added_step h w so = record {
    loading = record {
      well = w;
      options_same = so ∙ l.options_same;
      on = l.on;
      free = st.free;
      time_zero = st.time_zero;
      opened = every_put stream_key IsOpen next_stream q.streams (is_open o q l now m h) l.opened;
    };
    before_others = λ k p n b. record {
      no_items = ap (λ (x : Stream). x.items) (other k n) ∙ b.no_items;
      priority_is = ap (λ (x : Stream). x.priority) (other k n) ∙ b.priority_is;
      unlisted = st.others k n ∙ b.unlisted;
    };
    entered_others = λ k e n g. record { some_message = ap has_items (other k n) ∙ g.some_message; listed = st.others k n ∙ g.listed };
    begins = λ p b. record { some_message = own_items; listed = st.begins p b };
    goes_on = λ e g. record { some_message = own_items; listed = st.goes_on e g };
  }
    where
      st : Starts o q m (started q.interleaving (stream_at q m.stream_id) next_stream q.scheduler)
      st = starts o q l now m h

      id_is : next_stream.id ≡ m.stream_id
      id_is = at_id q.options q.streams m.stream_id

      other : (k : ℕ) → (m.stream_id ≡ k → ⊥) → at q.options (put_stream next_stream q.streams) k ≡ at q.options q.streams k
      other k n = at_put_other q.options next_stream q.streams k (λ g. n (sym id_is ∙ g))

      own_items : has_items (at q.options (put_stream next_stream q.streams) m.stream_id) ≡ true
      own_items =
          ap (λ (x : ℕ). has_items (at q.options (put_stream next_stream q.streams) x)) (sym id_is) ∙ ap has_items (at_put_own q.options next_stream q.streams)
          ∙ items_after (stream_at q m.stream_id).items (new_item now q.next_message_id m)

adding_step : (o : Options) (a : Adding) (q : Queue) → Loading o q → Typed (adding_call a) → (step (adding_call a) q).outcome.answer ≡ done → Added o a.message q (step (adding_call a) q).next
unfolding step Rattle.queue_model.specs.Add.add
adding_step o a q l t e =
    subst (λ (r : Queue). Well r → r.options ≡ q.options → Added o a.message q r) (sym acc.0)
    (added_step o a.store a.now a.message q l (not_less (length a.message.payload) 1 (or_left (ltb (length a.message.payload) 1) (ltb max_payload (length a.message.payload)) acc.1.1.1.1.0)))
    fine.next_well fine.same_options
  where
    acc : ((checked (add_checks a.store a.now a.message q) q (reply done [] (added a.now a.message q))).next ≡ added a.now a.message q) × Passed (add_checks a.store a.now a.message q)
    acc = accepted_next (add_checks a.store a.now a.message q) q (added a.now a.message q) e

    fine : Fine q (step (adding_call a) q)
    fine = fine_step (adding_call a) q t l.well

-- ---- all messages

record Full (o : Options) (as' : List Adding) (q r : Queue) : Type 0 where
  loading : Loading o r
  stays : (k : ℕ) (e : Active) → Entered k e q → Entered k e r
  enters : (k p n : ℕ) → BeforeFirst k p q → first_size k as' ≡ some n → Entered k (first_entry o.payload_limit (record { stream_id = k; size = n }) p) r

full : (o : Options) (as' : List Adding) (q : Queue) → Loading o q → AllTyped (map adding_call as') → Accepted (run (map adding_call as') q) → Full o as' q (after (map adding_call as') q)
unfolding run after first_size
full o [] q l t a = record { loading = l; stays = λ k e g. g; enters = λ k p n b e. let z : ◌≡◌ {A = ℕ} 0 1 = cc in absurd (omega arith) }
full o (x ∷ xs) q l t a =
    let one = adding_step o x q l t.0 a.0 in
    join one (full o xs (step (adding_call x) q).next one.loading t.1 a.1)
  where
    join : {r r' : Queue} → Added o x.message q r → Full o xs r r' → Full o (x ∷ xs) q r'
    join {r} {r'} one rest = record {
      loading = rest.loading;
      stays = λ k e g. stay k e g (eqb x.message.stream_id k) refl;
      enters = λ k p n b e. enter k p n b (eqb x.message.stream_id k) refl e;
    }
      where
        stay : (k : ℕ) (e : Active) → Entered k e q → (b : Bool) → eqb x.message.stream_id k ≡ b → Entered k e r'
        stay k e g true f = rest.stays k e (subst (λ (j : ℕ). Entered j e r) (is f) (one.goes_on e (subst (λ (j : ℕ). Entered j e q) (sym (is f)) g)))
          where
            is : eqb x.message.stream_id k ≡ true → x.message.stream_id ≡ k
            is f = eqb→eq x.message.stream_id k (holds (eqb x.message.stream_id k) f)
        stay k e g false f = rest.stays k e (one.entered_others k e (λ i. holds false (sym f ∙ eqb_true i)) g)

        enter : (k p n : ℕ) → BeforeFirst k p q → (b : Bool) → eqb x.message.stream_id k ≡ b → (if b then some (length x.message.payload) else first_size k xs) ≡ some n
            → Entered k (first_entry o.payload_limit (record { stream_id = k; size = n }) p) r'
        enter k p n g true f e =
            let i : x.message.stream_id ≡ k = eqb→eq x.message.stream_id k (holds (eqb x.message.stream_id k) f) in
            let z : length x.message.payload ≡ n = cc in
            rest.stays k (first_entry o.payload_limit (record { stream_id = k; size = n }) p)
            (subst (λ (j : ℕ). Entered j (first_entry o.payload_limit (record { stream_id = j; size = n }) p) r) i
            (subst (λ (y : ℕ). Entered x.message.stream_id (first_entry o.payload_limit (record { stream_id = x.message.stream_id; size = y }) p) r) z
            (one.begins p (subst (λ (j : ℕ). BeforeFirst j p q) (sym i) g))))
        enter k p n g false f e = rest.enters k p n (one.before_others k p (λ i. holds false (sym f ∙ eqb_true i)) g) e

-- ---- the job

module _ (o : Options) (hs : List PlannedStream) (ps : List ℕ) (ss : List Setting) (as' : List Adding) (j : Job o hs ps ss as') where
  up : Settled o ss (new_queue o) (set_up o ss)
  up = settled o ss (new_queue o) (fresh_new o j.created) j.settings_typed j.settings_accepted

  up_loading : Loading o (set_up o ss)
  unfolding new_queue
  up_loading = record {
    well = up.fresh.well;
    options_same = up.fresh.options_same;
    on = up.choice ∙ j.interleaves;
    free = up.fresh.resting.free;
    time_zero = up.fresh.resting.time_zero;
    opened = every_weaken Unused IsOpen (set_up o ss).streams (λ s u. u.opened) up.fresh.unused;
  }

  loaded_full : Full o as' (set_up o ss) (loaded o ss as')
  loaded_full = full o as' (set_up o ss) up_loading j.messages_typed j.messages_accepted

  -- No message waits yet, so none is expired.
  pub up_lasting : (time : ℕ) → NoneExpired time (set_up o ss).streams
  up_lasting time = go (set_up o ss).streams up.fresh.unused
    where
      go : (xs : List Stream) → Every Unused xs → NoneExpired time xs
      go [] u = tt
      go (x ∷ xs) u = (subst (λ (is : List Item). All (λ (i : Item). expired time i.expires_at ≡ false) is) (sym u.0.no_items) tt, go xs u.1)

  pub loaded_well : Well (loaded o ss as')
  loaded_well = loaded_full.loading.well

  pub loaded_options : (loaded o ss as').options ≡ o
  loaded_options = loaded_full.loading.options_same

  pub loaded_on : (loaded o ss as').interleaving ≡ true
  loaded_on = loaded_full.loading.on

  pub loaded_free : (loaded o ss as').scheduler.current ≡ none
  loaded_free = loaded_full.loading.free

  pub loaded_time : (loaded o ss as').scheduler.system_time ≡ 0
  loaded_time = loaded_full.loading.time_zero

  -- A prepared stream is listed with its entry.
  pub loaded_entry : (h : PlannedStream) (p : ℕ) → Prepared ss as' h p → find_active h.stream_id (loaded o ss as').scheduler.active ≡ some (first_entry o.payload_limit h p)
  loaded_entry h p r =
      let q : Queue = set_up o ss in
      let u : Unused (stream_at (set_up o ss) h.stream_id) = every_at Unused q.options h.stream_id q.streams up.fresh.unused (record { opened = refl; no_items = refl }) in
      (loaded_full.enters h.stream_id p h.size
      (record {
        no_items = u.no_items;
        priority_is = up.knows h.stream_id none (λ v z. let y : ◌≡◌ {A = ℕ} 0 1 = cc in absurd (omega arith)) p r.priority_set;
        unlisted = ap (find_active h.stream_id) up.fresh.resting.none_waits ∙ find_nil active_key h.stream_id;
      })
      r.message_first).listed
