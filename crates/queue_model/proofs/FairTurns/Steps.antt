-- One call of a run of adds and whole turns: the times stay fair, the priorities stay, and the start of a stream that waits moves by what it is charged. Assumes nothing.
use mathlib.Core.Path.{◌≡◌, refl, sym, ap, ◌∙◌, subst}
use mathlib.Core.Bool.{Bool, true, false, not, ◌&&◌}
use mathlib.Core.List.{List, [], ◌∷◌, ◌++◌}
use mathlib.Core.Option.{Option, none, some, get_or}
use Prim.Native.Nat.{ℕ, suc, ◌+◌, ◌-◌, ◌≤◌, ◌<◌, min}
use native.Mathlib.Omega.{arith}
use lib.Dec.{leb, eqb, eqb→eq}
use lib.ListN.{length, drop, length-take, length-drop}
use borrow.Author.Tests.{not-true}
use Rattle.std.specs.Prelude.{if◌then◌else◌}
use Rattle.queue_model.specs.Logic.{any, is_some}
use Rattle.queue_model.specs.Types.{Item, PauseState, Stream, Weight, weighted, Active, Scheduler, Options, Queue, Event, Message, done, fragment, nothing_waits, Step, remaining, expired, refuse, reply, with_items, model_with_pause, with_counters}
use Rattle.queue_model.specs.Scheduler.{cost, moved, active_key, find_active, set_bytes_remaining, peek, accept}
use Rattle.queue_model.specs.Streams.{stream_key, find_stream, put_stream, new_stream, at, stream_at, waiting, has_items, head_size, weight_of, reschedule, with_message}
use Rattle.queue_model.specs.Refusals.{max_word, first_refusal, refused_or, checked, short_of_head}
use Rattle.queue_model.specs.Amounts.{sent_events}
use Rattle.queue_model.specs.Questions.{priority_of}
use Rattle.queue_model.specs.Add.{new_item, starts_waiting, started, added, add_checks}
use Rattle.queue_model.specs.Produce.{Look, nothing, chosen, look_expired, look_at, look_for, look, numbered, make_fragment, end_pending, next_size, moved_on, handed_out_last, handed_out_part, handed_out, hand_out, after_look, pass_over, produce_checks}
use Rattle.queue_model.specs.Waiting.{is_waiting}
use Rattle.queue_model.specs.FairTurns.{none_expired, times_below, charge}
use Rattle.queue_model.proofs.Tests.{less, same, more, tri, holds, eqb_true}
use Rattle.queue_model.proofs.Table.{found, missing, look_up, own, other, is_own, find_key, find_put_same, find_put_other, Every, every_find, every_own}
use Rattle.queue_model.proofs.Checks.{or_left, or_right, not_most, checked_either}
use Rattle.queue_model.proofs.Scheduler.{reschedule_of}
use Rattle.queue_model.proofs.Streams.{at_found, at_id, size_at, size_at_at}
use Rattle.queue_model.proofs.Invariant.Waits.{Listed, peek_in}
use Rattle.queue_model.proofs.Invariant.Well.{Well}
use Rattle.queue_model.proofs.Invariant.Fine.{no_items}
use Rattle.queue_model.proofs.Invariant.Sends.{Chosen, head_for, head_of_at, head_kept, head_well, numbers_well}
use Rattle.queue_model.proofs.Calm.Calm.{HeadAt}
use Rattle.queue_model.proofs.Account.Ledger.{for_own, for_other}
use Rattle.queue_model.proofs.FairTurns.Entries.{Fair, FairTimes, cost_nothing, fair_set, choice_fair, moved_is, fair_part, fair_last}
use Rattle.queue_model.proofs.FairTurns.Starts.{start_at, start_found, start_same, some_there, find_set_other, start_anew, accept_other, accept_part_start, accept_last_gone, accept_last_time}
use Rattle.queue_model.specs.Calls

-- ---- what a call keeps

-- A queue on such a run, with these priorities.
pub record FairQueue (p : ℕ → ℕ) (q : Queue) : Type 0 where
  pub on : q.interleaving ≡ true
  pub fixed : (k : ℕ) → priority_of q k ≡ p k
  pub times : FairTimes q.options.payload_limit p q.scheduler

-- A step to another, which moves the start of each stream that waits before it, beside another one, by what it charges.
pub record Goes (p : ℕ → ℕ) (q : Queue) (s : Step) : Type 0 where
  pub next_on : s.next.interleaving ≡ true
  pub next_fixed : (k : ℕ) → priority_of s.next k ≡ p k
  pub next_times : FairTimes q.options.payload_limit p s.next.scheduler
  pub moves : (j k : ℕ) → (j ≡ k → ⊥) → is_waiting j q ≡ true → is_waiting k q ≡ true → start_at k s.next.scheduler ≡ start_at k q.scheduler + charge (p k) k s.outcome.answer

-- A refused call.
goes_refused : (p : ℕ → ℕ) (q : Queue) → FairQueue p q → (r : ℕ) → Goes p q (refuse q r)
goes_refused p q f r = record { next_on = f.on; next_fixed = f.fixed; next_times = f.times; moves = λ j k d a b. let z = cost_nothing (p k) in omega arith }

-- ---- priorities

-- A stream put in its place keeps every priority if it keeps its own.
priority_put : (o : Options) (s : Stream) (ss : List Stream) (j k : ℕ) → s.id ≡ j → s.priority ≡ (at o ss j).priority → (at o (put_stream s ss) k).priority ≡ (at o ss k).priority
priority_put o s ss j k i e = elim (is_own stream_key s k) [
  | own g ↦ ap (λ (x : Stream). x.priority) (at_found o (put_stream s ss) k s (ap (λ (x : ℕ). find_stream x (put_stream s ss)) (sym g) ∙ find_put_same stream_key s ss)) ∙ e ∙ ap (λ (x : ℕ). (at o ss x).priority) (sym i ∙ g)
  | other n ↦ ap (λ (x : Option Stream). (get_or x (new_stream o k)).priority) (find_put_other stream_key k s ss n)
]

weight_on : (il : Bool) (s : Stream) → il ≡ true → weight_of il s ≡ weighted s.priority
unfolding weight_of
weight_on il s e = ap (λ (b : Bool). weight_of b s) e

-- ---- add

no_head : (s : Stream) → has_items s ≡ false → head_size s.items ≡ 0
unfolding has_items
no_head s e = no_items s.items e

-- A stream without messages does not wait.
pub not_listed : (q : Queue) (k : ℕ) → Well q → has_items (stream_at q k) ≡ false → find_active k q.scheduler.active ≡ none
not_listed q k w e = elim (look_up active_key k q.scheduler.active) [
  | missing f ↦ f
  | found a f ↦ (let l = every_find active_key (Listed q.interleaving q.streams) k a q.scheduler.active w.waits.sched.every f in
      let i : a.stream_id ≡ k = find_key active_key k q.scheduler.active a f in
      let z : size_at a.stream_id q.streams ≡ 0 = ap (λ (x : ℕ). size_at x q.streams) i ∙ size_at_at q.options k q.streams ∙ no_head (stream_at q k) e in
      let y = l.sized in let u = l.positive in absurd (omega arith))
]

goes_added : (p : ℕ → ℕ) (now : ℕ) (m : Message) (q : Queue) → Well q → FairQueue p q → Goes p q (reply done [] (added now m q))
unfolding added started priority_of is_waiting
goes_added p now m q w f = record {
  next_on = f.on;
  next_fixed = λ k. priority_put q.options s' q.streams m.stream_id k own_id refl ∙ f.fixed k;
  next_times = (go (starts_waiting s.pause_state) (has_items s) refl).0;
  moves = λ j k d a b. let z = cost_nothing (p k) in let y = (go (starts_waiting s.pause_state) (has_items s) refl).1 k b in omega arith;
}
  where
    s : Stream
    s = stream_at q m.stream_id

    s' : Stream
    s' = with_message s (new_item now q.next_message_id m)

    own_id : s.id ≡ m.stream_id
    own_id = at_id q.options q.streams m.stream_id

    go : (x y : Bool) → has_items s ≡ y → FairTimes q.options.payload_limit p (if x && not y then reschedule q.interleaving s' q.scheduler else q.scheduler)
        × ((k : ℕ) → is_some (find_active k q.scheduler.active) ≡ true → start_at k (if x && not y then reschedule q.interleaving s' q.scheduler else q.scheduler) ≡ start_at k q.scheduler + 0)
    go true false e =
        let n = not_listed q m.stream_id w e in
        let n' : find_active s.id q.scheduler.active ≡ none = ap (λ (x : ℕ). find_active x q.scheduler.active) own_id ∙ n in
        let g : weight_of q.interleaving s' ≡ weighted (p s.id) = weight_on q.interleaving s' f.on ∙ ap weighted (f.fixed m.stream_id ∙ ap p (sym own_id)) in
        let t = fair_set q.options.payload_limit p s.id (head_size s'.items) (weight_of q.interleaving s') q.scheduler f.times n' g in
        let r = reschedule_of q.interleaving s' q.scheduler in (
          subst (FairTimes q.options.payload_limit p) (sym r) t,
          λ k h.
              let d : s.id ≡ k → ⊥ = λ c. some_there k q.scheduler.active h (ap (λ (x : ℕ). find_active x q.scheduler.active) (sym c) ∙ n') in
              let a = ap (start_at k) r in
              let b = start_same k q.scheduler (set_bytes_remaining s.id (head_size s'.items) (weight_of q.interleaving s') q.scheduler) h (find_set_other s.id (head_size s'.items) (weight_of q.interleaving s') k q.scheduler d) in
              omega arith,
        )
    go true true e = (f.times, λ k h. omega arith)
    go false false e = (f.times, λ k h. omega arith)
    go false true e = (f.times, λ k h. omega arith)

pub goes_add : (p : ℕ → ℕ) (store now : ℕ) (m : Message) (q : Queue) → Well q → FairQueue p q → Goes p q (Calls.add store now m q)
unfolding Calls.add
goes_add p store now m q w f = checked_either (Goes p q) (add_checks store now m q) q (reply done [] (added now m q)) (goes_refused p q f) (λ x. goes_added p now m q w f)

-- ---- next fragment: what it can be where nothing has expired

any_false : {A : Type 0} (test : A → Bool) (xs : List A) → any test xs ≡ false → Every (λ x. test x ≡ false) xs
unfolding any
any_false test [] e = tt
any_false test (x ∷ xs) e = (or_left (test x) (any test xs) e, any_false test xs (or_right (test x) (any test xs) e))

-- A head has not expired.
head_fresh : (now : ℕ) (q : Queue) (k : ℕ) (s : Stream) (i : Item) (is : List Item) → none_expired now q ≡ true → HeadAt q.streams k s i is → expired now i.expires_at ≡ false
unfolding none_expired
head_fresh now q k s i is e h =
    let a = any_false (λ (x : Stream). any (λ (y : Item). expired now y.expires_at) x.items) q.streams (not-true (any (λ (x : Stream). any (λ (y : Item). expired now y.expires_at) x.items) q.streams) e) in
    let b : any (λ (y : Item). expired now y.expires_at) s.items ≡ false = every_find stream_key (λ (x : Stream). any (λ (y : Item). expired now y.expires_at) x.items ≡ false) k s q.streams a h.found in
    (any_false (λ (y : Item). expired now y.expires_at) (i ∷ is) (subst (λ (l : List Item). any (λ (y : Item). expired now y.expires_at) l ≡ false) h.items b)).0

-- What a look finds.
data Looks (now : ℕ) (q : Queue) : Type 0 where
  finds_nothing : look now q ≡ nothing → Looks now q
  finds : (a : Active) (s : Stream) (i : Item) (is : List Item) → look now q ≡ chosen a s i is → peek q.scheduler ≡ some a → Chosen q a s i is → Looks now q

looks : (now : ℕ) (q : Queue) → Well q → none_expired now q ≡ true → Looks now q
unfolding look look_for look_at
looks now q w e = go (peek q.scheduler) refl
  where
    go : (x : Option Active) → peek q.scheduler ≡ x → Looks now q
    go none g = finds_nothing (ap (look_for now q) g)
    go (some a) g =
        let l = peek_in (Listed q.interleaving q.streams) q.scheduler a w.waits.sched.every g in
        let h = head_for q.interleaving q.streams a l in
        let s : Stream = h.for_stream in
        let i : Item = h.for_item in
        let is : List Item = h.for_rest in
        let b : find_active a.stream_id q.scheduler.active ≡ some a = peek_in (λ (x : Active). find_active x.stream_id q.scheduler.active ≡ some x) q.scheduler a (every_own active_key q.scheduler.active w.waits.sched.rises) g in
        finds a s i is
        (ap (look_for now q) g ∙ ap (look_at now q a) (head_of_at q.streams a.stream_id s i is h.for_head) ∙ ap (λ (x : Bool). if x then look_expired q s i is else chosen a s i is) (head_fresh now q a.stream_id s i is e h.for_head))
        g (record { choice_head = h.for_head; choice_size = h.for_size; choice_weight = l.weighs; choice_stands = (a, b) })

-- A fragment handed out.
abbrev pub sent_step : ℕ → Queue → Active → Stream → Item → List Item → Step
sent_step n q a s i is = reply (fragment (make_fragment s (numbered s.counters i).item n)) ([] ++ sent_events q s n) (handed_out q a s i is n)

-- What holds of a refusal, of an idle answer and of the choice's fragment holds of the next fragment.
pub produce_is : (R : Step → Type 0) (store places buffer now size : ℕ) (q : Queue) → Well q → none_expired now q ≡ true → ((r : ℕ) → R (refuse q r)) → R (reply nothing_waits [] q)
    → ((a : Active) (s : Stream) (i : Item) (is : List Item) → peek q.scheduler ≡ some a → Chosen q a s i is → R (sent_step (min a.bytes_remaining size) q a s i is))
    → R (Calls.produce store places buffer now size q)
unfolding Calls.produce checked refused_or pass_over after_look hand_out
produce_is R store places buffer now size q w e stays idle sends = past (first_refusal (produce_checks store places buffer now size q))
  where
    again : Queue → List Event → Option Step
    again r ds = pass_over (waiting q.streams) now size r ds

    hands : (a : Active) (s : Stream) (i : Item) (is : List Item) → R (sent_step (min a.bytes_remaining size) q a s i is) → (b : Bool) → R (get_or (if b then none else some (sent_step (min a.bytes_remaining size) q a s i is)) (refuse q 16))
    hands a s i is h true = stays 16
    hands a s i is h false = h

    turn : R (get_or (after_look again size q [] (look now q)) (refuse q 16))
    turn = elim (looks now q w e) [
      | finds_nothing g ↦ subst (λ (l : Look). R (get_or (after_look again size q [] l) (refuse q 16))) (sym g) idle
      | finds a s i is g h c ↦ subst (λ (l : Look). R (get_or (after_look again size q [] l) (refuse q 16))) (sym g) (hands a s i is (sends a s i is h c) (short_of_head q s i (min a.bytes_remaining size)))
    ]

    past : (x : Option ℕ) → R (refused_or x q (get_or (pass_over (suc (waiting q.streams)) now size q []) (refuse q 16)))
    past none = turn
    past (some r) = stays r

-- ---- the fragment

-- Its bytes are as many as were handed out.
fragment_length : (q : Queue) (k : ℕ) (s : Stream) (i : Item) (is : List Item) (n : ℕ) → Well q → HeadAt q.streams k s i is → n ≤ remaining i → length (make_fragment s (numbered s.counters i).item n).bytes ≡ n
unfolding make_fragment
fragment_length q k s i is n w h l =
    let j : Item = (numbered s.counters i).item in
    let u = numbers_well s.counters i (head_kept q k s i is w h).counters_fit (head_well q k s i is w h).0 in
    let x : length j.payload ≡ length i.payload = ap length u.payload_same in let y = u.offset_same in
    let t₁ = length-take n (drop j.offset j.payload) in let t₂ = length-drop j.offset j.payload in
    omega arith

fragment_stream : (s : Stream) (j : Item) (n : ℕ) → (make_fragment s j n).stream_id ≡ s.id
unfolding make_fragment
fragment_stream s j n = refl

-- ---- the choice's whole turn

module _ (p : ℕ → ℕ) (q : Queue) (w : Well q) (f : FairQueue p q) (below : times_below q ≡ true) (a : Active) (s : Stream) (i : Item) (is : List Item) (e : peek q.scheduler ≡ some a) (c : Chosen q a s i is) where
  abbrev turn : ℕ
  turn = min a.bytes_remaining q.options.payload_limit

  own_stream : s.id ≡ a.stream_id
  own_stream = find_key stream_key a.stream_id q.streams s c.choice_head.found

  own_priority : s.priority ≡ p a.stream_id
  unfolding priority_of
  own_priority = ap (λ (x : Stream). x.priority) (sym (at_found q.options q.streams a.stream_id s c.choice_head.found)) ∙ f.fixed a.stream_id

  chosen_fair : Fair q.scheduler.system_time q.options.payload_limit p a
  chosen_fair = choice_fair q.options.payload_limit p q.scheduler a f.times e

  chosen_found : find_active a.stream_id q.scheduler.active ≡ some a
  chosen_found = peek_in (λ (x : Active). find_active x.stream_id q.scheduler.active ≡ some x) q.scheduler a (every_own active_key q.scheduler.active w.waits.sched.rises) e

  chosen_below : a.finish < max_word
  unfolding times_below
  chosen_below =
      let h = any_false (λ (x : Active). leb max_word x.finish) q.scheduler.active (not-true (any (λ (x : Active). leb max_word x.finish) q.scheduler.active) below) in
      not_most max_word a.finish (peek_in (λ (x : Active). leb max_word x.finish ≡ false) q.scheduler a h e)

  -- Its start moves by the cost of the bytes.
  moved_by : moved a turn ≡ a.start + cost (weighted (p a.stream_id)) turn
  moved_by =
      let m = moved_is q.options.payload_limit p q.scheduler a f.times e in
      let x = chosen_fair.finish_is in
      let y : cost a.weight turn ≡ cost (weighted (p a.stream_id)) turn = ap (λ (v : Weight). cost v turn) chosen_fair.weight_is in
      let b = chosen_below in omega arith

  -- What the fragment charges: its own stream those, others nothing.
  charge_own : (k : ℕ) → a.stream_id ≡ k → charge (p k) k (fragment (make_fragment s (numbered s.counters i).item turn)) ≡ cost (weighted (p a.stream_id)) turn
  charge_own k g =
      let z = c.choice_size in
      let l : turn ≤ remaining i = omega arith in
      ap (cost (weighted (p k))) (for_own k (make_fragment s (numbered s.counters i).item turn).stream_id (length (make_fragment s (numbered s.counters i).item turn).bytes) (fragment_stream s (numbered s.counters i).item turn ∙ own_stream ∙ g)
      ∙ fragment_length q a.stream_id s i is turn w c.choice_head l) ∙ ap (λ (x : ℕ). cost (weighted (p x)) turn) (sym g)

  charge_other : (k : ℕ) → (a.stream_id ≡ k → ⊥) → charge (p k) k (fragment (make_fragment s (numbered s.counters i).item turn)) ≡ 0
  charge_other k d = ap (cost (weighted (p k))) (for_other k (make_fragment s (numbered s.counters i).item turn).stream_id (length (make_fragment s (numbered s.counters i).item turn).bytes) (λ g. d (sym own_stream ∙ sym (fragment_stream s (numbered s.counters i).item turn) ∙ g))) ∙ cost_nothing (p k)

  -- A scheduler after it moves starts rightly if others keep their entries and the stream itself has the moved start.
  moves_by : (sc : Scheduler) (j k : ℕ) → (j ≡ k → ⊥) → is_some (find_active k q.scheduler.active) ≡ true
      → ((a.stream_id ≡ k → ⊥) → find_active k sc.active ≡ find_active k q.scheduler.active)
      → ((j ≡ a.stream_id → ⊥) → start_at a.stream_id sc ≡ moved a turn)
      → start_at k sc ≡ start_at k q.scheduler + charge (p k) k (fragment (make_fragment s (numbered s.counters i).item turn))
  moves_by sc j k d hk keeps moved' = elim (is_own active_key a k) [
    | own g ↦ (let x : start_at a.stream_id sc ≡ start_at k sc = ap (λ (y : ℕ). start_at y sc) g in
        let y : start_at a.stream_id q.scheduler ≡ start_at k q.scheduler = ap (λ (y : ℕ). start_at y q.scheduler) g in
        let u = start_found a.stream_id q.scheduler a chosen_found in
        let v = moved' (λ z. d (z ∙ g)) in
        let m = moved_by in let t = charge_own k g in omega arith)
    | other n ↦ (let x = start_same k q.scheduler sc hk (keeps n) in let t = charge_other k n in omega arith)
  ]

  -- A fragment that is not the last.
  goes_part : turn < remaining i → Goes p q (reply (fragment (make_fragment s (numbered s.counters i).item turn)) ([] ++ sent_events q s turn) (handed_out_part q a s i is turn))
  unfolding handed_out_part priority_of is_waiting
  goes_part l =
      let z = c.choice_size in
      record {
        next_on = f.on;
        next_fixed = λ k. priority_put q.options (with_items (with_counters (numbered s.counters i).counters s) (s.amount - turn) (moved_on (numbered s.counters i).item turn ∷ is)) q.streams a.stream_id k own_stream
            (own_priority ∙ sym (f.fixed a.stream_id)) ∙ f.fixed k;
        next_times = fair_part q.options.payload_limit p q.scheduler a f.times e (omega arith);
        moves = λ j k d hj hk. moves_by (accept a turn q.scheduler) j k d hk (accept_other a turn q.scheduler k) (λ x. accept_part_start a turn q.scheduler (omega arith));
      }

  -- A last fragment, after which the stream begins anew or stops.
  goes_last : turn ≡ remaining i → Goes p q (reply (fragment (make_fragment s (numbered s.counters i).item turn)) ([] ++ sent_events q s turn) (handed_out_last q a s i is turn))
  unfolding handed_out_last priority_of is_waiting
  goes_last l =
      let z = c.choice_size in
      let pause : PauseState = end_pending s.pause_state in
      let v : Weight = weight_of q.interleaving s in
      let sc : Scheduler = accept a turn q.scheduler in
      let gone : find_active a.stream_id sc.active ≡ none = accept_last_gone a turn q.scheduler (omega arith) in
      let gone' : find_active s.id sc.active ≡ none = ap (λ (x : ℕ). find_active x sc.active) own_stream ∙ gone in
      let g : v ≡ weighted (p s.id) = weight_on q.interleaving s f.on ∙ ap weighted (own_priority ∙ ap p (sym own_stream)) in
      record {
        next_on = f.on;
        next_fixed = λ k. priority_put q.options (model_with_pause pause (with_items (with_counters (numbered s.counters i).counters s) (s.amount - turn) is)) q.streams a.stream_id k own_stream
            (own_priority ∙ sym (f.fixed a.stream_id)) ∙ f.fixed k;
        next_times = fair_set q.options.payload_limit p s.id (next_size pause is) v sc (fair_last q.options.payload_limit p q.scheduler a f.times e (omega arith)) gone' g;
        moves = λ j k d hj hk. moves_by (set_bytes_remaining s.id (next_size pause is) v sc) j k d hk
            (λ n. find_set_other s.id (next_size pause is) v k sc (λ x. n (sym own_stream ∙ x)) ∙ accept_other a turn q.scheduler k n)
            (λ x. ap (λ (m : ℕ). start_at m (set_bytes_remaining s.id (next_size pause is) v sc)) (sym own_stream)
            ∙ start_anew j s.id (next_size pause is) v sc (λ z. x (z ∙ own_stream)) (ap is_some (accept_other a turn q.scheduler j (λ z. x (sym z))) ∙ hj) gone'
            ∙ accept_last_time a turn q.scheduler j x hj (omega arith));
      }

  goes_sent : Goes p q (sent_step turn q a s i is)
  unfolding handed_out
  goes_sent = go (eqb turn (remaining i)) refl
    where
      go : (b : Bool) → eqb turn (remaining i) ≡ b → Goes p q (reply (fragment (make_fragment s (numbered s.counters i).item turn)) ([] ++ sent_events q s turn) (if b then handed_out_last q a s i is turn else handed_out_part q a s i is turn))
      go true g = goes_last (eqb→eq turn (remaining i) (holds (eqb turn (remaining i)) g))
      go false g = elim (tri turn (remaining i)) [
        | less l ↦ goes_part l
        | same h ↦ (let x = eqb_true h in let y : ◌≡◌ {A = ℕ} 0 1 = cc in absurd (omega arith))
        | more l ↦ (let z = c.choice_size in absurd (omega arith))
      ]

pub goes_produce : (p : ℕ → ℕ) (store places buffer now size : ℕ) (q : Queue) → Well q → FairQueue p q → times_below q ≡ true → size ≡ q.options.payload_limit → none_expired now q ≡ true → Goes p q (Calls.produce store places buffer now size q)
goes_produce p store places buffer now size q w f b g e =
    produce_is (Goes p q) store places buffer now size q w e (goes_refused p q f)
    (record { next_on = f.on; next_fixed = f.fixed; next_times = f.times; moves = λ j k d x y. let z = cost_nothing (p k) in omega arith })
    (λ a s i is h c. subst (λ (n : ℕ). Goes p q (sent_step (min a.bytes_remaining n) q a s i is)) (sym g) (goes_sent p q w f b a s i is h c))
