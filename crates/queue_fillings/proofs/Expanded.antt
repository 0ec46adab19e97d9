-- Each filling of a list may be replaced by its separate calls: the same queue is left, and every other call shows the same. Assumes nothing.
use mathlib.Core.Path.{◌≡◌, refl, sym, ap, ap₂, ◌∙◌, subst}
use mathlib.Core.Bool.{Bool, true, false}
use mathlib.Core.List.{List, [], ◌∷◌, ◌++◌}
use Prim.Native.Nat.{ℕ, ◌≤◌}
use native.Mathlib.Omega.{arith}
use lib.ListN.{length}
use lib.Seq.{length-take-le}
use Rattle.queue_words.specs.Flags.{pick}
use Rattle.queue_model.specs.Answers.{is_refused}
use Rattle.queue_model.specs.Packets.{separate_calls}
use Rattle.queue_model.specs.Run as run
use Rattle.queue_model.proofs.Image.ByteRows.{take_bytes}
use Rattle.queue_streams.specs.Events.{places_in}
use Rattle.packets.specs.declared.packet.Packet.{Packet}
use Rattle.packets.specs.Filling.{packet_of}
use Rattle.queue_runs.specs.Calls.{Call, add, produce, fill, discard, close, ready_ids, commit, rollback, reset, set_threshold, set_priority, set_interleaving, restore, ask_priority, ask_amount, ask_threshold, ask_total, ask_empty, ask_has_data, ask_streams_ready, ask_ready_count, ask_readiness, ask_room, Typed, NotFilling, Shown}
use Rattle.queue_runs.specs.Run as runs
use Rattle.queue_runs.specs.Run.{State, step}
use Rattle.queue_runs.specs.Meaning.{queue_of, GoodState, AllTyped, calls_of}
use Rattle.queue_runs.specs.Refusals.{refusal}
use Rattle.queue_runs.proofs.Steps.{step_link, meant}
use Rattle.queue_runs.proofs.Runs.{run_link}
use Rattle.queue_runs.proofs.Demand3.{stands}
use Rattle.queue_fillings.specs.Expanded.{separately, sizes_asked, instead, expanded, apart, NoFillings, Request5Sizes, Request5Expanded}
use Rattle.queue_fillings.proofs.Same.{Same, same_self, run_same, after_same}
use Rattle.queue_fillings.proofs.Separate.{calls_next, AllWithin, sizes_within, accepted_next, refused_next, accepted_past, accepted_within}
use Rattle.queue_fillings.proofs.Calls.{all_asked}
use Rattle.queue_runs.proofs.Closing.{after_append}
use Rattle.queue_runs.proofs.Account.{filled_refusal}

-- ------------------------------------------------------------------ lists

pub run_append : (cs ds : List Call) (s : State) → runs.run (cs ++ ds) s ≡ runs.run cs s ++ runs.run ds (runs.after cs s)
unfolding runs.run runs.after
run_append [] ds s = refl
run_append (c ∷ cs) ds s = ap (λ (os : List Shown). (step c s).shows ∷ os) (run_append cs ds (step c s).next)

pub typed_append : (cs ds : List Call) → AllTyped cs → AllTyped ds → AllTyped (cs ++ ds)
typed_append [] ds t u = u
typed_append (c ∷ cs) ds t u = (t.0, typed_append cs ds t.1 u)

-- ------------------------------------------------------------------ the separate calls of a filling

module _ (es bs : List ℕ) (time : ℕ) where
  calls_are : (len : ℕ) (ns : List ℕ) → AllWithin (length bs) ns → calls_of len (separately es bs time ns) ≡ separate_calls len (places_in es) time ns
  calls_are len [] w = refl
  calls_are len (n ∷ ns) w = ap₂ (λ (m : ℕ) (ms : List run.Call). run.produce len (places_in es) m time n ∷ ms) (length-take-le n bs w.0) (calls_are len ns w.1)

  typed_separately : (p : Packet) → Typed (fill es bs time p) → (ns : List ℕ) → AllWithin (length bs) ns → AllTyped (separately es bs time ns)
  typed_separately p t [] w = tt
  typed_separately p t (n ∷ ns) w =
      let e = length-take-le n bs w.0 in let l = t.1.0.0 in let h = w.0 in
      ((t.0, ((omega arith, take_bytes n bs t.1.0.1), (t.1.1.0, omega arith))), typed_separately p t ns w.1)

  no_filling : (ns : List ℕ) → NoFillings (separately es bs time ns)
  no_filling [] = tt
  no_filling (n ∷ ns) = ((λ x y t p e. let z : ◌≡◌ {A = ℕ} 0 1 = cc in omega arith), no_filling ns)

all_within : (m k : ℕ) (ns : List ℕ) → m ≤ k → AllWithin m ns → AllWithin k ns
all_within m k [] l w = tt
all_within m k (n ∷ ns) l w = let v = w.0 in (omega arith, all_within m k ns l w.1)

-- ------------------------------------------------------------------ what stands for a call

-- It can be called, has no filling, and leads to a state of the same queue.
pub record Stands (c : Call) (s : State) : Type 0 where
  pub typed : AllTyped (instead c s)
  pub no_fillings : NoFillings (instead c s)
  pub leads : Same (runs.after (instead c s) s) (step c s).next

module _ (es bs : List ℕ) (time : ℕ) (p : Packet) (s : State) (g : GoodState s) (t : Typed (fill es bs time p)) where
  abbrev c : Call
  c = fill es bs time p

  abbrev len : ℕ
  len = length s.store

  pub told : refusal (step (fill es bs time p) s).shows.answer ≡ is_refused (meant (fill es bs time p) s).outcome.answer
  told = ap (λ (x : Shown). refusal x.answer) (step_link (fill es bs time p) s g t).shows_are ∙ filled_refusal (meant (fill es bs time p) s).outcome.answer (length (meant (fill es bs time p) s).outcome.events)

  pub within : is_refused (meant (fill es bs time p) s).outcome.answer ≡ false → AllWithin (length bs) (sizes_asked es time p s)
  within e = all_within p.limit (length bs) (sizes_asked es time p s) (accepted_within (length s.store) (places_in es) (length bs) time (packet_of p) (queue_of s) e) (sizes_within (length s.store) (places_in es) time p.limit (queue_of s))

  separate_leads : is_refused (meant (fill es bs time p) s).outcome.answer ≡ false → Same (runs.after (separately es bs time (sizes_asked es time p s)) s) (step (fill es bs time p) s).next
  separate_leads e =
      let w = within e in
      let k = step_link (fill es bs time p) s g t in
      let r = run_link (separately es bs time (sizes_asked es time p s)) s g (typed_separately es bs time p t (sizes_asked es time p s) w) in
      record {
        good = r.good;
        good' = k.good;
        queues = r.next_is ∙ ap (λ (cs : List run.Call). run.after cs (queue_of s)) (calls_are es bs time (length s.store) (sizes_asked es time p s) w) ∙ calls_next (length s.store) (places_in es) time p.limit (queue_of s)
            ∙ sym (accepted_next (length s.store) (places_in es) (length bs) time (packet_of p) (queue_of s) e) ∙ sym k.next_is;
        stores = r.same_store ∙ sym k.same_store;
      }

  none_leads : is_refused (meant (fill es bs time p) s).outcome.answer ≡ true → Same s (step (fill es bs time p) s).next
  none_leads e =
      let k = step_link (fill es bs time p) s g t in
      record { good = g; good' = k.good; queues = sym (refused_next (length s.store) (places_in es) (length bs) time (packet_of p) (queue_of s) e) ∙ sym k.next_is; stores = sym k.same_store }

  -- By whether it is refused.
  abbrev chosen : Bool → List Call
  chosen b = pick b [] (separately es bs time (sizes_asked es time p s))

  record Stood (cs : List Call) : Type 0 where
    stood_typed : AllTyped cs
    stood_none : NoFillings cs
    stood_leads : Same (runs.after cs s) (step (fill es bs time p) s).next

  stood : (b : Bool) → refusal (step (fill es bs time p) s).shows.answer ≡ b → Stood (chosen b)
  stood true e = record { stood_typed = tt; stood_none = tt; stood_leads = unfold runs.after in none_leads (sym told ∙ e) }
  stood false e = record {
    stood_typed = typed_separately es bs time p t (sizes_asked es time p s) (within (sym told ∙ e));
    stood_none = no_filling es bs time (sizes_asked es time p s);
    stood_leads = separate_leads (sym told ∙ e);
  }

  stands_fill : Stands (fill es bs time p) s
  stands_fill = let h = stood (refusal (step (fill es bs time p) s).shows.answer) refl in record { typed = h.stood_typed; no_fillings = h.stood_none; leads = h.stood_leads }

-- Any other call by itself.
one_leads : (c : Call) (s : State) → GoodState s → Typed c → Same (runs.after (c ∷ []) s) (step c s).next
unfolding runs.after
one_leads c s g t = same_self (step c s).next (step_link c s g t).good

-- Which of the two a call is.
pub data Kind (c : Call) (s : State) : Type 0 where
  alone : NotFilling c → instead c s ≡ c ∷ [] → Kind c s
  fills : (es bs : List ℕ) (time : ℕ) (p : Packet) → c ≡ fill es bs time p → Kind c s

pub kind_of : (c : Call) (s : State) → Kind c s
kind_of (fill es bs time p) s = fills es bs time p refl
kind_of (add time m payload) s = alone (λ u v w x e. let z : ◌≡◌ {A = ℕ} 0 1 = cc in omega arith) refl
kind_of (produce es bs time size) s = alone (λ u v w x e. let z : ◌≡◌ {A = ℕ} 0 1 = cc in omega arith) refl
kind_of (discard es id k) s = alone (λ u v w x e. let z : ◌≡◌ {A = ℕ} 0 1 = cc in omega arith) refl
kind_of (close es id) s = alone (λ u v w x e. let z : ◌≡◌ {A = ℕ} 0 1 = cc in omega arith) refl
kind_of ready_ids s = alone (λ u v w x e. let z : ◌≡◌ {A = ℕ} 0 1 = cc in omega arith) refl
kind_of commit s = alone (λ u v w x e. let z : ◌≡◌ {A = ℕ} 0 1 = cc in omega arith) refl
kind_of rollback s = alone (λ u v w x e. let z : ◌≡◌ {A = ℕ} 0 1 = cc in omega arith) refl
kind_of reset s = alone (λ u v w x e. let z : ◌≡◌ {A = ℕ} 0 1 = cc in omega arith) refl
kind_of (set_threshold es id n) s = alone (λ u v w x e. let z : ◌≡◌ {A = ℕ} 0 1 = cc in omega arith) refl
kind_of (set_priority id p) s = alone (λ u v w x e. let z : ◌≡◌ {A = ℕ} 0 1 = cc in omega arith) refl
kind_of (set_interleaving b) s = alone (λ u v w x e. let z : ◌≡◌ {A = ℕ} 0 1 = cc in omega arith) refl
kind_of (restore time image) s = alone (λ u v w x e. let z : ◌≡◌ {A = ℕ} 0 1 = cc in omega arith) refl
kind_of (ask_priority id) s = alone (λ u v w x e. let z : ◌≡◌ {A = ℕ} 0 1 = cc in omega arith) refl
kind_of (ask_amount id) s = alone (λ u v w x e. let z : ◌≡◌ {A = ℕ} 0 1 = cc in omega arith) refl
kind_of (ask_threshold id) s = alone (λ u v w x e. let z : ◌≡◌ {A = ℕ} 0 1 = cc in omega arith) refl
kind_of ask_total s = alone (λ u v w x e. let z : ◌≡◌ {A = ℕ} 0 1 = cc in omega arith) refl
kind_of ask_empty s = alone (λ u v w x e. let z : ◌≡◌ {A = ℕ} 0 1 = cc in omega arith) refl
kind_of ask_has_data s = alone (λ u v w x e. let z : ◌≡◌ {A = ℕ} 0 1 = cc in omega arith) refl
kind_of ask_streams_ready s = alone (λ u v w x e. let z : ◌≡◌ {A = ℕ} 0 1 = cc in omega arith) refl
kind_of ask_ready_count s = alone (λ u v w x e. let z : ◌≡◌ {A = ℕ} 0 1 = cc in omega arith) refl
kind_of ask_readiness s = alone (λ u v w x e. let z : ◌≡◌ {A = ℕ} 0 1 = cc in omega arith) refl
kind_of (ask_room r) s = alone (λ u v w x e. let z : ◌≡◌ {A = ℕ} 0 1 = cc in omega arith) refl

stands_one : (c : Call) (s : State) → GoodState s → Typed c → NotFilling c → instead c s ≡ c ∷ [] → Stands c s
stands_one c s g t n e = record {
  typed = subst AllTyped (sym e) (t, tt);
  no_fillings = subst NoFillings (sym e) (n, tt);
  leads = subst (λ (cs : List Call). Same (runs.after cs s) (step c s).next) (sym e) (one_leads c s g t);
}

pub stands_call : (c : Call) (s : State) → GoodState s → Typed c → Stands c s
stands_call c s g t = go (kind_of c s)
  where
    go : Kind c s → Stands c s
    go (alone n e) = stands_one c s g t n e
    go (fills es bs time p e) = subst (λ (d : Call). Stands d s) (sym e) (stands_fill es bs time p s g (subst Typed e t))

-- ------------------------------------------------------------------ lists of calls

none_append : (cs ds : List Call) → NoFillings cs → NoFillings ds → NoFillings (cs ++ ds)
none_append [] ds n m = m
none_append (c ∷ cs) ds n m = (n.0, none_append cs ds n.1 m)

pub record Whole (cs : List Call) (s : State) : Type 0 where
  pub typed : AllTyped (expanded cs s)
  pub no_fillings : NoFillings (expanded cs s)
  pub leads : Same (runs.after (expanded cs s) s) (runs.after cs s)
  pub shows : runs.run (expanded cs s) s ≡ apart cs s

whole_more : (c : Call) (cs : List Call) (s : State) → Stands c s → Whole cs (step c s).next → Whole (c ∷ cs) s
unfolding expanded apart runs.after
whole_more c cs s h w =
    let s' : State = (step c s).next in
    let ds : List Call = expanded cs s' in
    record {
      typed = typed_append (instead c s) ds h.typed w.typed;
      no_fillings = none_append (instead c s) ds h.no_fillings w.no_fillings;
      leads = through (runs.after (instead c s ++ ds) s) (runs.after ds (runs.after (instead c s) s)) (runs.after ds s') (runs.after cs s') (after_append (instead c s) ds s) (after_same ds (runs.after (instead c s) s) s' h.leads w.typed) w.leads;
      shows = run_append (instead c s) ds s ∙ ap (λ (os : List Shown). runs.run (instead c s) s ++ os) (run_same ds (runs.after (instead c s) s) s' h.leads w.typed ∙ w.shows);
    }
  where
    through : (x y z v : State) → x ≡ y → Same y z → Same z v → Same x v
    through x y z v e a b = subst (λ (u : State). Same u v) (sym e) (record { good = a.good; good' = b.good'; queues = a.queues ∙ b.queues; stores = a.stores ∙ b.stores })

pub whole : (cs : List Call) (s : State) → GoodState s → AllTyped cs → Whole cs s
whole [] s g t = unfold expanded apart runs.after runs.run in record { typed = tt; no_fillings = tt; leads = same_self s g; shows = refl }
whole (c ∷ cs) s g t = whole_more c cs s (stands_call c s g t.0) (whole cs (step c s).next (step_link c s g t.0).good t.1)

pub request5_sizes : Request5Sizes
unfolding Request5Sizes
request5_sizes a len s es bs time p r t e =
    let g = (stands a len s r).good in
    all_asked (length s.store) (places_in es) (length bs) time (packet_of p) (queue_of s) g.well (accepted_past (length s.store) (places_in es) (length bs) time (packet_of p) (queue_of s) (sym (told es bs time p s g t) ∙ e))

pub request5_expanded : Request5Expanded
unfolding Request5Expanded
request5_expanded a len s cs r t = let w = whole cs s (stands a len s r).good t in record { typed = w.typed; no_fillings = w.no_fillings; leaves = w.leads.queues; shows = w.shows }
