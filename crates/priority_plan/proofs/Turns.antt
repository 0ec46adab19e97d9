-- Entries in order are served in order: in any run of next fragments the streams get their first fragments in the list's order. Assumes nothing.
use mathlib.Core.Path.{◌≡◌, refl, sym, ap, ap₂, ◌∙◌, subst}
use mathlib.Core.Bool.{Bool, true, false, ◌||◌}
use mathlib.Core.List.{List, [], ◌∷◌, ◌++◌, map}
use mathlib.Core.Option.{Option, none, some}
use Prim.Native.Nat.{ℕ}
use native.Mathlib.Omega.{arith}
use lib.Dec.{eqb, eqb→eq}
use Rattle.std.specs.Prelude.{if◌then◌else◌}
use Rattle.queue_model.specs.Logic.{any}
use Rattle.queue_model.specs.Types.{Active, Scheduler, Queue, Outcome, Step}
use Rattle.queue_model.specs.Scheduler.{active_key, find_active, comes_before, least, least_of}
use Rattle.queue_model.specs.Produce.{produce}
use Rattle.queue_model.specs.Run.{step, run}
use Rattle.queue_model.specs.Demands.{Typed, AllTyped}
use Rattle.queue_model.proofs.Tests.{holds, eqb_true, eqb_false}
use Rattle.queue_model.proofs.Table.{every_find, every_own, find_nil}
use Rattle.queue_model.proofs.Choice.{AtMost, least_in_lem, least_below}
use Rattle.queue_model.proofs.Choice as choice
use Rattle.queue_model.proofs.Invariant.Well.{Well}
use Rattle.queue_model.proofs.Invariant.Sends.{fine_produce}
use Rattle.queue_model.proofs.Invariant.Sixteen.{fine_step}
use Rattle.priority_plan.specs.Works.{All, InOrder}
use Rattle.priority_plan.specs.Jobs.{Asking, Adding, adding_call, Later, ask, more, later_call, times, added_later}
use Rattle.priority_plan.specs.Turns.{Lasting, shown, says_nothing, remove, and_shown, streams_shown, firsts, still_without, ends, InTurn}
use Rattle.priority_plan.proofs.Lasting.{NoneExpired}
use Rattle.priority_plan.proofs.LeastSet.{Before, sooner, level, before}
use Rattle.priority_plan.proofs.More.{lasting_step, more_keeps, more_shows, entry_stays}
use Rattle.priority_plan.proofs.Sends.{Others, Produced, stayed, sent, produced}

-- ---- one outcome more

still_nil : (ss : List ℕ) → still_without [] ss ≡ []
unfolding still_without remove
still_nil [] = refl
still_nil (s ∷ ss) = still_nil ss

abbrev pub IsInTurn : List ℕ → List ℕ → Type 0
IsInTurn is ss = is ≡ firsts is ss ++ still_without is ss

module _ (is : List ℕ) (o : Outcome) (os : List Outcome) (r : InTurn is os) where
  -- No fragment.
  stay_turn : shown o.answer ≡ none → (says_nothing o.answer ≡ true → is ≡ []) → InTurn is (o ∷ os)
  unfolding streams_shown ends
  stay_turn e n = record { in_turn = subst (IsInTurn is) ss r.in_turn; all_served = λ z. subst (λ (x : List ℕ). still_without is x ≡ []) ss (go (says_nothing o.answer) refl z) }
    where
      ss : streams_shown os ≡ and_shown (shown o.answer) (streams_shown os)
      ss = ap (λ (x : Option ℕ). and_shown x (streams_shown os)) (sym e)

      go : (b : Bool) → says_nothing o.answer ≡ b → (b || ends os) ≡ true → still_without is (streams_shown os) ≡ []
      go true f z = ap (λ (x : List ℕ). still_without x (streams_shown os)) (n f) ∙ still_nil (streams_shown os)
      go false f z = r.all_served z

  -- A fragment of another stream.
  skip_turn : (s : ℕ) → shown o.answer ≡ some s → says_nothing o.answer ≡ false → any (eqb s) is ≡ false → remove s is ≡ is → InTurn is (o ∷ os)
  unfolding streams_shown ends firsts still_without
  skip_turn s e n a m = record {
    in_turn = subst (IsInTurn is) ss
        (r.in_turn ∙ ap₂ ◌++◌ (ap (λ (b : Bool). if b then s ∷ firsts (remove s is) (streams_shown os) else firsts is (streams_shown os)) (sym a)) (ap (λ (x : List ℕ). still_without x (streams_shown os)) (sym m)));
    all_served = λ z. subst (λ (x : List ℕ). still_without is x ≡ []) ss (ap (λ (x : List ℕ). still_without x (streams_shown os)) m ∙ r.all_served (ap (λ (b : Bool). b || ends os) (sym n) ∙ z));
  }
    where
      ss : s ∷ streams_shown os ≡ and_shown (shown o.answer) (streams_shown os)
      ss = ap (λ (x : Option ℕ). and_shown x (streams_shown os)) (sym e)

  -- The first fragment of the next stream of the list.
  take_turn : (s : ℕ) → shown o.answer ≡ some s → says_nothing o.answer ≡ false → InTurn (s ∷ is) (o ∷ os)
  unfolding streams_shown ends firsts still_without any remove
  take_turn s e n = record {
    in_turn = subst (IsInTurn (s ∷ is)) ss
        (ap (λ (l : List ℕ). s ∷ l) r.in_turn
        ∙ ap₂ (λ (b c : Bool). (if (b || any (eqb s) is) then s ∷ firsts (if c then is else s ∷ remove s is) (streams_shown os) else firsts (s ∷ is) (streams_shown os)) ++ still_without (if c then is else s ∷ remove s is) (streams_shown os)) (sym same) (sym same));
    all_served = λ z. subst (λ (x : List ℕ). still_without (s ∷ is) x ≡ []) ss (ap (λ (c : Bool). still_without (if c then is else s ∷ remove s is) (streams_shown os)) same ∙ r.all_served (ap (λ (b : Bool). b || ends os) (sym n) ∙ z));
  }
    where
      ss : s ∷ streams_shown os ≡ and_shown (shown o.answer) (streams_shown os)
      ss = ap (λ (x : Option ℕ). and_shown x (streams_shown os)) (sym e)

      same : eqb s s ≡ true
      same = eqb_true {a = s} refl

-- ---- entries that no fragment has been taken of

-- The queue lists each of these entries, in order.
pub record Ready (todo : List Active) (q : Queue) : Type 0 where
  pub well : Well q
  pub on : q.interleaving ≡ true
  pub free : q.scheduler.current ≡ none
  pub listed : All (λ (e : Active). find_active e.stream_id q.scheduler.active ≡ some e) todo
  pub order : InOrder todo

abbrev pub ids_of : List Active → List ℕ
ids_of as' = map (λ (e : Active). e.stream_id) as'

-- No entry comes before itself, nor before one that is at most it.
not_before : (a b : Active) → Before a b → AtMost b a → ⊥
not_before a b (sooner l) (choice.sooner m) = omega arith
not_before a b (sooner l) (choice.level m n) = omega arith
not_before a b (level l k) (choice.sooner m) = omega arith
not_before a b (level l k) (choice.level m n) = omega arith

-- Entries of other streams stay listed.
kept_listed : (k : ℕ) (sc sc' : Scheduler) (todo : List Active) → Others k sc sc' → All (λ (e : Active). e.stream_id ≡ k → ⊥) todo
    → All (λ (e : Active). find_active e.stream_id sc.active ≡ some e) todo → All (λ (e : Active). find_active e.stream_id sc'.active ≡ some e) todo
kept_listed k sc sc' [] o n l = tt
kept_listed k sc sc' (e ∷ es) o n l = (o.same e.stream_id n.0 ∙ l.0, kept_listed k sc sc' es o n.1 l.1)

-- None of these ids is k.
none_is : (k : ℕ) (todo : List Active) → All (λ (e : Active). e.stream_id ≡ k → ⊥) todo → any (eqb k) (ids_of todo) ≡ false
unfolding any
none_is k [] n = refl
none_is k (e ∷ es) n = ap₂ ◌||◌ (eqb_false (λ g. n.0 (sym g))) (none_is k es n.1)

none_removed : (k : ℕ) (todo : List Active) → All (λ (e : Active). e.stream_id ≡ k → ⊥) todo → remove k (ids_of todo) ≡ ids_of todo
unfolding remove
none_removed k [] n = refl
none_removed k (e ∷ es) n = ap (λ (b : Bool). if b then ids_of es else e.stream_id ∷ remove k (ids_of es)) (eqb_false n.0) ∙ ap (λ (l : List ℕ). e.stream_id ∷ l) (none_removed k es n.1)

module _ (as' : List Active) (a : Active) (own : find_active a.stream_id as' ≡ some a) where
  -- A listed entry of the same stream is the same.
  same_entry : (e : Active) → find_active e.stream_id as' ≡ some e → e.stream_id ≡ a.stream_id → e ≡ a
  same_entry e l g = let z : some e ≡ some a = sym l ∙ ap (λ (k : ℕ). find_active k as') g ∙ own in cc

  -- What stands behind an entry that comes before all of it, and is of this stream or not after it, is of other streams.
  others_behind : (e : Active) → ((b : Active) → Before e b → b ≡ a → ⊥) → (es : List Active) → All (λ (b : Active). comes_before e b ≡ true) es → All (λ (b : Active). find_active b.stream_id as' ≡ some b) es
      → All (λ (b : Active). b.stream_id ≡ a.stream_id → ⊥) es
  others_behind e h [] o l = tt
  others_behind e h (b ∷ bs) o l = ((λ g. h b (before e b o.0) (same_entry b l.0 g)), others_behind e h bs o.1 l.1)

-- ---- the run

least_listed : (q : Queue) → Well q → (a : Active) → least_of q.scheduler.active ≡ some a → (find_active a.stream_id q.scheduler.active ≡ some a) × ((e : Active) → find_active e.stream_id q.scheduler.active ≡ some e → AtMost a e)
unfolding least_of
least_listed q w a e = go q.scheduler.active w.waits.sched.rises e
  where
    go : (as' : List Active) → Rattle.queue_model.proofs.Table.Rising active_key as' → least_of as' ≡ some a → (find_active a.stream_id as' ≡ some a) × ((e : Active) → find_active e.stream_id as' ≡ some e → AtMost a e)
    go [] r f = let z : ◌≡◌ {A = ℕ} 0 1 = cc in absurd (omega arith)
    go (b ∷ bs) r f =
        let P : Active → Type 0 = λ x. find_active x.stream_id (b ∷ bs) ≡ some x in
        let ow = every_own active_key (b ∷ bs) r in
        let z : least b bs ≡ a = cc in
        (subst P z (least_in_lem P b bs ow.0 ow.1), λ x l. subst (λ (y : Active). AtMost y x) z (every_find active_key (AtMost (least b bs)) x.stream_id x (b ∷ bs) (least_below b bs) l))

none_listed : (as' : List Active) → least_of as' ≡ none → as' ≡ []
unfolding least_of
none_listed [] e = refl
none_listed (a ∷ as') e = let z : ◌≡◌ {A = ℕ} 0 1 = cc in absurd (omega arith)

none_left : (q : Queue) (todo : List Active) → Ready todo q → least_of q.scheduler.active ≡ none → ids_of todo ≡ []
none_left q [] r e = refl
none_left q (a ∷ es) r e =
    let z : none ≡ some a = sym (find_nil active_key a.stream_id) ∙ ap (find_active a.stream_id) (sym (none_listed q.scheduler.active e)) ∙ r.listed.0 in
    let y : ◌≡◌ {A = ℕ} 0 1 = cc in absurd (omega arith)

-- What a run takes for granted of the times at which it asks: no message that waits, and none that it adds, has expired.
pub record Timely (xs : List Later) (q : Queue) : Type 0 where
  pub typed : AllTyped (map adding_call (added_later xs))
  pub waiting_last : All (λ (t : ℕ). NoneExpired t q.streams) (times xs)
  pub added_last : All (λ (t : ℕ). Lasting t (added_later xs)) (times xs)

none_later : (q p : Queue) → ((now : ℕ) → NoneExpired now q.streams → NoneExpired now p.streams) → (ts : List ℕ) → All (λ (t : ℕ). NoneExpired t q.streams) ts → All (λ (t : ℕ). NoneExpired t p.streams) ts
none_later q p h [] l = tt
none_later q p h (t ∷ ts) l = (h t l.0, none_later q p h ts l.1)

-- One next fragment, and then the rest of the run.
module _ (x : Asking) (xs : List Later) (q : Queue) (w : Well q) (n : Timely xs q)
    (rec : (todo : List Active) (p : Queue) → Ready todo p → Timely xs p → InTurn (ids_of todo) (run (map later_call xs) p)) where
  s : Step
  s = produce x.store x.places x.buffer x.now x.size q

  later : (p : Queue) → ((now : ℕ) → NoneExpired now q.streams → NoneExpired now p.streams) → Timely xs p
  later p h = record { typed = n.typed; waiting_last = none_later q p h (times xs) n.waiting_last; added_last = n.added_last }

  well_next : Well s.next
  unfolding s
  well_next = (fine_produce x.store x.places x.buffer x.now x.size q w).next_well

  by : (todo : List Active) → Ready todo q → Produced q s → InTurn (ids_of todo) (s.outcome ∷ run (map later_call xs) s.next)
  by todo r (stayed e k z) =
      stay_turn (ids_of todo) s.outcome (run (map later_call xs) s.next)
      (subst (λ (p : Queue). InTurn (ids_of todo) (run (map later_call xs) p)) (sym k) (rec todo q r n)) e (λ f. none_left q todo r (z f))
  by [] r (sent a l e f il o h) =
      skip_turn [] s.outcome (run (map later_call xs) s.next)
      (rec [] s.next (record { well = well_next; on = il ∙ r.on; free = o.free; listed = tt; order = tt }) (later s.next h)) a.stream_id e f (none_is a.stream_id [] tt) (none_removed a.stream_id [] tt)
  by (b ∷ bs) r (sent a l e f il o h) = which (eqb b.stream_id a.stream_id) refl
    where
      ll : (find_active a.stream_id q.scheduler.active ≡ some a) × ((e : Active) → find_active e.stream_id q.scheduler.active ≡ some e → AtMost a e)
      ll = least_listed q r.well a l

      which : (t : Bool) → eqb b.stream_id a.stream_id ≡ t → InTurn (ids_of (b ∷ bs)) (s.outcome ∷ run (map later_call xs) s.next)
      which true g =
          let i : b.stream_id ≡ a.stream_id = eqb→eq _ _ (holds _ g) in
          let ba : b ≡ a = same_entry q.scheduler.active a ll.0 b r.listed.0 i in
          let ot : All (λ (c : Active). c.stream_id ≡ a.stream_id → ⊥) bs =
          others_behind q.scheduler.active a ll.0 b (λ c m k. not_before b c m (subst (λ (y : Active). AtMost y b) (sym k) (ll.1 b r.listed.0))) bs r.order.0 r.listed.1 in
          take_turn (ids_of bs) s.outcome (run (map later_call xs) s.next)
          (rec bs s.next (record { well = well_next; on = il ∙ r.on; free = o.free; listed = kept_listed a.stream_id q.scheduler s.next.scheduler bs o ot r.listed.1; order = r.order.1 }) (later s.next h))
          b.stream_id (e ∙ ap some (sym i)) f
      which false g =
          let nb : b.stream_id ≡ a.stream_id → ⊥ = λ k. holds false (sym g ∙ eqb_true k) in
          let ot : All (λ (c : Active). c.stream_id ≡ a.stream_id → ⊥) bs =
          others_behind q.scheduler.active a ll.0 b (λ c m k. not_before b c m (subst (λ (y : Active). AtMost y b) (sym k) (ll.1 b r.listed.0))) bs r.order.0 r.listed.1 in
          skip_turn (ids_of (b ∷ bs)) s.outcome (run (map later_call xs) s.next)
          (rec (b ∷ bs) s.next (record { well = well_next; on = il ∙ r.on; free = o.free; listed = kept_listed a.stream_id q.scheduler s.next.scheduler (b ∷ bs) o (nb, ot) r.listed; order = r.order }) (later s.next h))
          a.stream_id e f (none_is a.stream_id (b ∷ bs) (nb, ot)) (none_removed a.stream_id (b ∷ bs) (nb, ot))

-- One more message, and then the rest of the run.
all_stay : (q : Queue) → Well q → q.scheduler.current ≡ none → (a : Adding) (todo : List Active) → All (λ (e : Active). find_active e.stream_id q.scheduler.active ≡ some e) todo
    → All (λ (e : Active). find_active e.stream_id (step (adding_call a) q).next.scheduler.active ≡ some e) todo
all_stay q w f a [] l = tt
all_stay q w f a (e ∷ es) l = (entry_stays q w f a e l.0, all_stay q w f a es l.1)

ready_more : (a : Adding) (todo : List Active) (q : Queue) → Typed (adding_call a) → Ready todo q → Ready todo (step (adding_call a) q).next
ready_more a todo q t r = record {
  well = (fine_step (adding_call a) q t r.well).next_well;
  on = (more_keeps q r.free a).on_same ∙ r.on;
  free = (more_keeps q r.free a).others.free;
  listed = all_stay q r.well r.free a todo r.listed;
  order = r.order;
}

more_lasting : (a : Adding) (as' : List Adding) (q : Queue) (ts : List ℕ) → All (λ (t : ℕ). NoneExpired t q.streams) ts → All (λ (t : ℕ). Lasting t (a ∷ as')) ts → All (λ (t : ℕ). NoneExpired t (step (adding_call a) q).next.streams) ts
more_lasting a as' q [] n l = tt
more_lasting a as' q (t ∷ ts) n l = (lasting_step t a q n.0 l.0.0, more_lasting a as' q ts n.1 l.1)

rest_lasting : (a : Adding) (as' : List Adding) (ts : List ℕ) → All (λ (t : ℕ). Lasting t (a ∷ as')) ts → All (λ (t : ℕ). Lasting t as') ts
rest_lasting a as' [] l = tt
rest_lasting a as' (t ∷ ts) l = (l.0.1, rest_lasting a as' ts l.1)

pub turns : (xs : List Later) (todo : List Active) (q : Queue) → Ready todo q → Timely xs q → InTurn (ids_of todo) (run (map later_call xs) q)
unfolding run streams_shown firsts still_without ends step s
turns [] todo q r n = record { in_turn = refl; all_served = λ e. absurd (holds false e) }
turns (ask x ∷ xs) todo q r n =
    by x xs q r.well (record { typed = n.typed; waiting_last = n.waiting_last.1; added_last = n.added_last.1 }) (λ t p z l. turns xs t p z l) todo r
    (produced x.now q r.well r.on r.free n.waiting_last.0 x.store x.places x.buffer x.size)
turns (more a ∷ xs) todo q r n =
    let sh = more_shows q r.free a in
    stay_turn (ids_of todo) (step (adding_call a) q).outcome (run (map later_call xs) (step (adding_call a) q).next)
    (turns xs todo (step (adding_call a) q).next (ready_more a todo q n.typed.0 r)
    (record { typed = n.typed.1; waiting_last = more_lasting a (added_later xs) q (times xs) n.waiting_last n.added_last; added_last = rest_lasting a (added_later xs) (times xs) n.added_last }))
    sh.0 (λ e. absurd (holds false (sym sh.1 ∙ e)))
