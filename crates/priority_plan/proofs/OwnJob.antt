-- Request 13/13 for the plan's own job: the call's priorities, set on a new queue, are accepted and put the first fragments in the list's order. Assumes
-- nothing.
use mathlib.Core.Path.{◌≡◌, refl, sym, ap, ap₂, ◌∙◌, subst}
use mathlib.Core.Bool.{Bool, true, false, not, ◌&&◌}
use mathlib.Core.List.{List, [], ◌∷◌, ◌++◌, map}
use mathlib.Core.Option.{Option, none, some}
use Prim.Native.Nat.{ℕ, suc, ◌+◌, ◌-◌, ◌^◌, ◌≤◌, ◌<◌}
use native.Mathlib.Omega.{arith}
use lib.Dec.{eqb, ltb, leb}
use lib.ListN.{length, take, replicate}
use lib.Seq.{take-append_seam}
use Rattle.std.specs.Prelude.{if◌then◌else◌}
use Rattle.queue_model.specs.Logic.{any, is_some, same_bool}
use Rattle.queue_model.specs.Table.{put}
use Rattle.queue_model.specs.Types.{Stream, Options, Queue, done, reply, with_priority}
use Rattle.queue_model.specs.Streams.{stream_key, find_stream, stream_at, too_many, know, new_queue}
use Rattle.queue_model.specs.Settings.{priority_checks, switched}
use Rattle.queue_model.specs.Refusals.{limit_wrong}
use Rattle.queue_model.specs.FairTurns.{none_expired}
use Rattle.queue_model.specs.Run.{step, run, set_priority}
use Rattle.queue_model.specs.Demands.{AllTyped, Created}
use Rattle.queue_model.proofs.Tests.{holds, leb_false, eqb_true, eqb_false, less, same, more, tri}
use Rattle.queue_model.proofs.Table.{put_end, put_later, put_here, put_before}
use Rattle.queue_model.proofs.Checks.{or_left, or_right, checked_past}
use Rattle.priority_plan.specs.PlannedPriorities.{PlannedPriorities}
use Rattle.priority_plan.specs.Works.{PlannedStream, planned_streams, All, IsPriority, LeastSet, max_priority}
use Rattle.priority_plan.specs.Least.{least_set}
use Rattle.priority_plan.specs.Lists.{named_twice, list_wrong, max_planned}
use Rattle.priority_plan.specs.Plan.{none_works, refused_plan, made_plan, planned}
use Rattle.priority_plan.specs.Jobs.{Setting, priority, interleaving, setting_call, Adding, adding_call, last_priority, last_interleaving, first_size, Accepted, Prepared, AllPairs, set_up, loaded, Job, later_call, times, added_later}
use Rattle.priority_plan.specs.Turns.{InTurn, Lasting, stream_ids}
use Rattle.priority_plan.specs.Runs.{priorities_of, plan_settings, Request13Plan, Request13Order}
use Rattle.priority_plan.proofs.Lasting.{none_expires}
use Rattle.priority_plan.proofs.LeastSet.{least_works, working_above}
use Rattle.priority_plan.proofs.Answer.{good_limit, good_streams, GoodList, good_list, listed_few, by_checks, planned_is}
use Rattle.priority_plan.proofs.More.{lasting_adds}
use Rattle.priority_plan.proofs.Loading.{up_lasting}
use Rattle.priority_plan.proofs.Request.{request13_order}

-- ---- what an answer with priorities says

made_same : (ps qs : List ℕ) → made_plan ps ≡ made_plan qs → ps ≡ qs
made_same ps qs e =
    let c : length ps ≡ length qs = ap (λ (r : PlannedPriorities). r.count) e in
    let v : ps ++ replicate (max_planned - length ps) 0 ≡ qs ++ replicate (max_planned - length qs) 0 = ap (λ (r : PlannedPriorities). r.values) e in
    sym (take-append_seam ps (replicate (max_planned - length ps) 0)) ∙ ap₂ take c v ∙ take-append_seam qs (replicate (max_planned - length qs) 0)

pub record MadeOf (limit : ℕ) (is ns ps : List ℕ) : Type 0 where
  pub good : GoodList is ns
  pub set : LeastSet limit (planned_streams is ns) ps

pub made_of : (limit : ℕ) (is ns ps : List ℕ) → planned limit is ns ≡ made_plan ps → MadeOf limit is ns ps
unfolding none_works
made_of limit is ns ps e = go (limit_wrong limit).applies refl (list_wrong is ns) refl (any (ltb max_priority) (least_set limit (planned_streams is ns))) refl (sym (planned_is limit is ns) ∙ e)
  where
    ls : List ℕ
    ls = least_set limit (planned_streams is ns)

    never : (n : ℕ) → refused_plan n ≡ made_plan ps → ⊥
    never n z = let a = ap (λ (r : PlannedPriorities). r.answer) z in let y : ◌≡◌ {A = ℕ} 0 1 = cc in omega arith

    go : (x : Bool) → (limit_wrong limit).applies ≡ x → (y : Bool) → list_wrong is ns ≡ y → (z : Bool) → any (ltb max_priority) (least_set limit (planned_streams is ns)) ≡ z → by_checks x y z (least_set limit (planned_streams is ns)) ≡ made_plan ps → MadeOf limit is ns ps
    go true ex y ey z ez r = absurd (never 1 r)
    go false ex true ey z ez r = absurd (never 28 r)
    go false ex false ey true ez r = absurd (never 29 r)
    go false ex false ey false ez r =
        let g : GoodList is ns = good_list is ns ey in
        let l = good_limit limit ex in
        let s : LeastSet limit (planned_streams is ns) ls = record { works = least_works limit (planned_streams is ns) l (good_streams is ns g.sizes_fit) ez; least = λ qs w. working_above limit (planned_streams is ns) qs l.1 w } in
        record { good = g; set = subst (LeastSet limit (planned_streams is ns)) (made_same ls ps r) s }

-- ---- the settings are accepted

put_length : (s : Stream) (ss : List Stream) → length (put stream_key s ss) ≤ suc (length ss)
put_length s [] = subst (λ (l : List Stream). length l ≤ 1) (sym (put_end stream_key s)) (omega arith)
put_length s (t ∷ ts) = elim (tri t.id s.id) [
  | less h ↦ (let ih = put_length s ts in subst (λ (l : List Stream). length l ≤ suc (suc (length ts))) (sym (put_later stream_key s t ts h)) (omega arith))
  | same e ↦ subst (λ (l : List Stream). length l ≤ suc (suc (length ts))) (sym (put_here stream_key s t ts e)) (omega arith)
  | more h ↦ subst (λ (l : List Stream). length l ≤ suc (suc (length ts))) (sym (put_before stream_key s t ts h)) (omega arith)
]

room_left : (q : Queue) (k : ℕ) → length q.streams < 256 → too_many q k ≡ false
unfolding too_many
room_left q k h = go (not (is_some (find_stream k q.streams))) (leb_false h)
  where
    go : (x : Bool) → leb 256 (length q.streams) ≡ false → (x && leb 256 (length q.streams)) ≡ false
    go true e = e
    go false e = refl

set_accepted : (k p : ℕ) (q : Queue) → length q.streams < 256 → step (set_priority k p) q ≡ reply done [] (know q (with_priority p (stream_at q k)))
unfolding step Rattle.queue_model.specs.Settings.set_priority
set_accepted k p q h = checked_past (priority_checks k q) q (reply done [] (know q (with_priority p (stream_at q k)))) (room_left q k h, tt)

priorities_accepted : (hs : List PlannedStream) (ps : List ℕ) (q : Queue) → length q.streams + length hs ≤ 256 → Accepted (run (map setting_call (priorities_of hs ps)) q)
unfolding run priorities_of
priorities_accepted [] [] q h = tt
priorities_accepted [] (p ∷ ps) q h = tt
priorities_accepted (k ∷ hs) [] q h = tt
priorities_accepted (k ∷ hs) (p ∷ ps) q h =
    let r : Queue = know q (with_priority p (stream_at q k.stream_id)) in
    let b = put_length (with_priority p (stream_at q k.stream_id)) q.streams in
    subst (λ (x : _). Accepted (x.outcome ∷ run (map setting_call (priorities_of hs ps)) x.next)) (sym (set_accepted k.stream_id p q (omega arith)))
    (refl, priorities_accepted hs ps r (omega arith))

pub settings_accepted : (o : Options) (hs : List PlannedStream) (ps : List ℕ) → length hs ≤ 256 → Accepted (run (map setting_call (plan_settings hs ps)) (new_queue o))
unfolding run step Rattle.queue_model.specs.Settings.set_interleaving switched same_bool new_queue
settings_accepted o hs ps h = (refl, priorities_accepted hs ps (switched true (new_queue o)) (omega arith))

-- ---- the settings say what the plan says

settings_typed : (hs : List PlannedStream) (ps : List ℕ) → All (λ (h : PlannedStream). h.stream_id < 2 ^ 16) hs → All IsPriority ps → AllTyped (map setting_call (priorities_of hs ps))
unfolding priorities_of
settings_typed [] [] a b = tt
settings_typed [] (p ∷ ps) a b = tt
settings_typed (h ∷ hs) [] a b = tt
settings_typed (h ∷ hs) (p ∷ ps) a b = let z = b.0.1 in ((a.0, omega arith), settings_typed hs ps a.1 b.1)

choice_kept : (b : Bool) (hs : List PlannedStream) (ps : List ℕ) → last_interleaving b (priorities_of hs ps) ≡ b
unfolding last_interleaving priorities_of
choice_kept b [] [] = refl
choice_kept b [] (p ∷ ps) = refl
choice_kept b (h ∷ hs) [] = refl
choice_kept b (h ∷ hs) (p ∷ ps) = choice_kept b hs ps

-- A stream that the list does not name keeps its priority.
unnamed_kept : (k : ℕ) (old : Option ℕ) (hs : List PlannedStream) (ps : List ℕ) → any (eqb k) (stream_ids hs) ≡ false → last_priority k old (priorities_of hs ps) ≡ old
unfolding last_priority priorities_of any
unnamed_kept k old [] [] n = refl
unnamed_kept k old [] (p ∷ ps) n = refl
unnamed_kept k old (h ∷ hs) [] n = refl
unnamed_kept k old (h ∷ hs) (p ∷ ps) n =
    let m : h.stream_id ≡ k → ⊥ = λ e. holds false (sym (or_left (eqb k h.stream_id) (any (eqb k) (stream_ids hs)) n) ∙ eqb_true (sym e)) in
    ap (λ (b : Bool). last_priority k (if b then some p else old) (priorities_of hs ps)) (eqb_false m) ∙ unnamed_kept k old hs ps (or_right (eqb k h.stream_id) (any (eqb k) (stream_ids hs)) n)

-- One more setting, of a stream that these streams do not name.
one_more : (j v : ℕ) (ss : List Setting) (hs : List PlannedStream) (ps : List ℕ) → any (eqb j) (stream_ids hs) ≡ false → AllPairs (λ h p. last_priority h.stream_id none ss ≡ some p) hs ps → AllPairs (λ h p. last_priority h.stream_id none (priority j v ∷ ss) ≡ some p) hs ps
unfolding last_priority any
one_more j v ss [] [] n a = tt
one_more j v ss [] (p ∷ ps) n a = absurd a
one_more j v ss (h ∷ hs) [] n a = absurd a
one_more j v ss (h ∷ hs) (p ∷ ps) n a = (
  ap (λ (b : Bool). last_priority h.stream_id (if b then some v else none) ss) (or_left (eqb j h.stream_id) (any (eqb j) (stream_ids hs)) n) ∙ a.0,
  one_more j v ss hs ps (or_right (eqb j h.stream_id) (any (eqb j) (stream_ids hs)) n) a.1,
)

all_set : (hs : List PlannedStream) (ps : List ℕ) → length ps ≡ length hs → named_twice (stream_ids hs) ≡ false → AllPairs (λ h p. last_priority h.stream_id none (priorities_of hs ps) ≡ some p) hs ps
unfolding priorities_of last_priority named_twice
all_set [] [] c n = tt
all_set [] (p ∷ ps) c n = absurd (omega arith)
all_set (h ∷ hs) [] c n = absurd (omega arith)
all_set (h ∷ hs) (p ∷ ps) c n =
    let u : any (eqb h.stream_id) (stream_ids hs) ≡ false = or_left (any (eqb h.stream_id) (stream_ids hs)) (named_twice (stream_ids hs)) n in
    let d : named_twice (stream_ids hs) ≡ false = or_right (any (eqb h.stream_id) (stream_ids hs)) (named_twice (stream_ids hs)) n in (
      ap (λ (b : Bool). last_priority h.stream_id (if b then some p else none) (priorities_of hs ps)) (eqb_true {a = h.stream_id} refl) ∙ unnamed_kept h.stream_id (some p) hs ps u,
      one_more h.stream_id p (priorities_of hs ps) hs ps u (all_set hs ps (omega arith) d),
    )

-- Each stream's setting with its first message.
prepare : (ss : List Setting) (as' : List Adding) (hs : List PlannedStream) (ps : List ℕ) → AllPairs (λ h p. last_priority h.stream_id none ss ≡ some p) hs ps → All (λ (h : PlannedStream). first_size h.stream_id as' ≡ some h.size) hs → AllPairs (Prepared (interleaving true ∷ ss) as') hs ps
unfolding last_priority
prepare ss as' [] [] a f = tt
prepare ss as' [] (p ∷ ps) a f = absurd a
prepare ss as' (h ∷ hs) [] a f = absurd a
prepare ss as' (h ∷ hs) (p ∷ ps) a f = (record { priority_set = a.0; message_first = f.0 }, prepare ss as' hs ps a.1 f.1)

-- ---- the lists

pub ids_are : (is ns : List ℕ) → length is ≡ length ns → stream_ids (planned_streams is ns) ≡ is
unfolding planned_streams
ids_are [] [] e = refl
ids_are [] (n ∷ ns) e = refl
ids_are (i ∷ is) [] e = absurd (omega arith)
ids_are (i ∷ is) (n ∷ ns) e = ap (λ (l : List ℕ). i ∷ l) (ids_are is ns (omega arith))

ids_typed : (is ns : List ℕ) → All (λ (i : ℕ). i < 2 ^ 16) is → All (λ (h : PlannedStream). h.stream_id < 2 ^ 16) (planned_streams is ns)
unfolding planned_streams
ids_typed [] [] a = tt
ids_typed [] (n ∷ ns) a = tt
ids_typed (i ∷ is) [] a = tt
ids_typed (i ∷ is) (n ∷ ns) a = (a.0, ids_typed is ns a.1)

-- ---- expiry times

pub job_lasting : (o : Options) (hs : List PlannedStream) (ps : List ℕ) (ss : List Setting) (as' bs : List Adding) → Job o hs ps ss as' → (ts : List ℕ) → All (λ (t : ℕ). Lasting t as' × Lasting t bs) ts → All (λ (t : ℕ). none_expired t (loaded o ss as') ≡ true) ts
job_lasting o hs ps ss as' bs j [] l = tt
job_lasting o hs ps ss as' bs j (t ∷ ts) l =
    (none_expires t (loaded o ss as') (lasting_adds t as' (set_up o ss) (up_lasting o hs ps ss as' j t) l.0.0), job_lasting o hs ps ss as' bs j ts l.1)

later_lasting : (as' bs : List Adding) (ts : List ℕ) → All (λ (t : ℕ). Lasting t as' × Lasting t bs) ts → All (λ (t : ℕ). Lasting t bs) ts
later_lasting as' bs [] l = tt
later_lasting as' bs (t ∷ ts) l = (l.0.1, later_lasting as' bs ts l.1)

-- ---- the job

-- Priorities, one for each stream of a right list, set on a new queue: where the messages are accepted this is a job.
pub plan_job : (o : Options) (is ns ps : List ℕ) (as' : List Adding) → Created o → All (λ (i : ℕ). i < 2 ^ 16) is → GoodList is ns → length ps ≡ length (planned_streams is ns) → All IsPriority ps
    → AllTyped (map adding_call as') → Accepted (run (map adding_call as') (set_up o (plan_settings (planned_streams is ns) ps)))
    → All (λ (h : PlannedStream). first_size h.stream_id as' ≡ some h.size) (planned_streams is ns)
    → Job o (planned_streams is ns) ps (plan_settings (planned_streams is ns) ps) as'
unfolding last_interleaving
plan_job o is ns ps as' c t g n al ta da f =
    let hs : List PlannedStream = planned_streams is ns in
    let few = g.few in let hf = listed_few is ns in
    let si : stream_ids (planned_streams is ns) ≡ is = ids_are is ns g.same_count in
    record {
      created = c;
      settings_typed = (tt, settings_typed hs ps (ids_typed is ns t) al);
      messages_typed = ta;
      interleaves = choice_kept true hs ps;
      settings_accepted = settings_accepted o hs ps (omega arith);
      messages_accepted = da;
      prepared = prepare (priorities_of hs ps) as' hs ps (all_set hs ps n (subst (λ (l : List ℕ). named_twice l ≡ false) (sym si) g.distinct)) f;
    }

-- Request 13/13 for the plan's own job.
pub request13_plan : Request13Plan
unfolding Request13Plan Request13Order
request13_plan o is ns ps as' xs c t e ta da f tx n =
    let hs : List PlannedStream = planned_streams is ns in
    let ss : List Setting = plan_settings (planned_streams is ns) ps in
    let m = made_of o.payload_limit is ns ps e in
    let w = m.set.works in
    let j : Job o (planned_streams is ns) ps (plan_settings (planned_streams is ns) ps) as' = plan_job o is ns ps as' c t m.good w.count w.allowed ta da f in (
      j.settings_accepted,
      subst (λ (l : List ℕ). InTurn l (run (map later_call xs) (loaded o (plan_settings (planned_streams is ns) ps) as'))) (ids_are is ns m.good.same_count)
          (request13_order o hs ps ss as' xs j w tx (job_lasting o hs ps ss as' (added_later xs) j (times xs) n) (later_lasting as' (added_later xs) (times xs) n)),
    )
