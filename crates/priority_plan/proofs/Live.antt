-- A run with more accepted calls for a fragment than there are bytes ends: each call hands out a byte or finds that nothing waits. Assumes nothing.
use mathlib.Core.Path.{◌≡◌, refl, sym, ap, ap₂, ◌∙◌, subst}
use mathlib.Core.Bool.{Bool, true, false, not, ◌||◌}
use mathlib.Core.List.{List, [], ◌∷◌, ◌++◌, map}
use mathlib.Core.Option.{Option, none, some, get_or}
use Prim.Native.Nat.{ℕ, suc, ◌-◌, ◌≤◌, ◌<◌, min}
use native.Mathlib.Omega.{arith}
use lib.Dec.{eqb, ltb}
use lib.ListN.{length}
use Rattle.std.specs.Prelude.{if◌then◌else◌}
use Rattle.queue_model.specs.Types.{Item, Stream, Active, Options, Queue, Event, fragment, Step, refuse, reply, remaining}
use Rattle.queue_model.specs.Streams.{waiting}
use Rattle.queue_model.specs.Refusals.{short_of, short_of_head}
use Rattle.queue_model.specs.Amounts.{sent_events}
use Rattle.queue_model.specs.Produce.{Look, look, numbered, make_fragment, handed_out, hand_out, after_look, pass_over, produce_checks, produce}
use Rattle.queue_model.specs.Run.{step, run}
use Rattle.queue_model.proofs.Tests.{holds, ltb_false, eqb_true}
use Rattle.queue_model.proofs.Checks.{or_left, not_less, Passed, checked_past}
use Rattle.queue_model.proofs.Invariant.Well.{Well}
use Rattle.queue_model.proofs.Invariant.Fine.{Fine, sixteen}
use Rattle.queue_model.proofs.Invariant.Sends.{fine_produce}
use Rattle.priority_plan.specs.Works.{All}
use Rattle.priority_plan.specs.Jobs.{Asking, ask, later_call}
use Rattle.priority_plan.specs.Turns.{says_nothing, ends}
use Rattle.priority_plan.specs.Runs.{Accepts}
use Rattle.priority_plan.proofs.Lasting.{NoneExpired}
use Rattle.priority_plan.proofs.Sends.{Produced, stayed, sent, produced, Looked, idle, picked, looked}
use Rattle.queue_model.proofs.Invariant.Closing.{handed_total}

-- ---- one call

-- It finds that nothing waits, or leaves fewer bytes.
data Lively (q : Queue) (s : Step) : Type 0 where
  over : says_nothing s.outcome.answer ≡ true → Lively q s
  went : s.next.total < q.total → Lively q s

short_enough : (q : Queue) (s : Stream) (i : Item) (n : ℕ) → short_of_head q s i n ≡ false → n ≤ q.total
unfolding short_of_head short_of
short_enough q s i n e = not_less q.total n (or_left (ltb q.total n) (ltb s.amount n) (or_left (ltb q.total n || ltb s.amount n) (ltb (remaining i) n) e))

pub asked_passes : (q : Queue) (x : Asking) → Accepts q.options x → Passed (produce_checks x.store x.places x.buffer x.now x.size q)
asked_passes q x a =
    let e : eqb x.store q.options.store_length ≡ true = eqb_true a.store_same in
    (ap not e, (ltb_false a.places_enough, (ltb_false a.time_fits, (ap₂ ◌||◌ (ltb_false a.size_low) (ltb_false a.size_high), (ltb_false a.buffer_fits, tt)))))

module _ (q : Queue) (x : Asking) (w : Well q) (on : q.interleaving ≡ true) (free : q.scheduler.current ≡ none) (lasting : NoneExpired x.now q.streams) (a : Accepts q.options x) where
  s : Step
  s = produce x.store x.places x.buffer x.now x.size q

  turn : Look → Option Step
  turn l = after_look (λ (r : Queue) (ds : List Event). pass_over (waiting q.streams) x.now x.size r ds) x.size q [] l

  -- Past its checks the call goes by its look.
  s_is : s ≡ get_or (turn (look x.now q)) (refuse q 16)
  unfolding s turn produce pass_over
  s_is =
      checked_past (produce_checks x.store x.places x.buffer x.now x.size q) q (get_or (pass_over (suc (waiting q.streams)) x.now x.size q []) (refuse q 16)) (asked_passes q x a)

  not_sixteen : sixteen s.outcome.answer ≡ false
  unfolding s
  not_sixteen = (fine_produce x.store x.places x.buffer x.now x.size q w).not_sixteen

  lively : Lively q s
  unfolding turn after_look hand_out
  lively = go (looked x.now q w on free lasting)
    where
      size_some : (b : ℕ) → 0 < b → 0 < min b x.size
      size_some b h = let l = a.size_low in omega arith

      handed : (c : Active) (t : Stream) (i : Item) (is : List Item) → 0 < c.bytes_remaining → s ≡ get_or (hand_out x.size q [] c t i is) (refuse q 16) → Lively q s
      handed c t i is p e = by (short_of_head q t i (min c.bytes_remaining x.size)) refl
        where
          n : ℕ
          n = min c.bytes_remaining x.size

          sent_step : Step
          sent_step = reply (fragment (make_fragment t (numbered t.counters i).item (min c.bytes_remaining x.size))) ([] ++ sent_events q t (min c.bytes_remaining x.size)) (handed_out q c t i is (min c.bytes_remaining x.size))

          by : (b : Bool) → short_of_head q t i (min c.bytes_remaining x.size) ≡ b → Lively q s
          by true f =
              let z : s ≡ refuse q 16 = e ∙ ap (λ (b : Bool). get_or (if b then none else some sent_step) (refuse q 16)) f in
              absurd (holds false (sym not_sixteen ∙ ap (λ (y : Step). sixteen y.outcome.answer) z))
          by false f =
              let z : s ≡ sent_step = e ∙ ap (λ (b : Bool). get_or (if b then none else some sent_step) (refuse q 16)) f in
              let m : min c.bytes_remaining x.size ≤ q.total = short_enough q t i (min c.bytes_remaining x.size) f in
              let k : 0 < min c.bytes_remaining x.size = size_some c.bytes_remaining p in
              let t₁ : s.next.total ≡ q.total - min c.bytes_remaining x.size = ap (λ (y : Step). y.next.total) z ∙ handed_total q c t i is (min c.bytes_remaining x.size) in
              went (omega arith)

      go : Looked q (look x.now q) → Lively q s
      go (idle e l) = over (ap (λ (y : Step). says_nothing y.outcome.answer) (s_is ∙ ap (λ (y : Look). get_or (turn y) (refuse q 16)) e))
      go (picked c t i is v e l h f p) = handed c t i is p (s_is ∙ ap (λ (y : Look). get_or (turn y) (refuse q 16)) e)

-- ---- the run

later : (q p : Queue) → ((now : ℕ) → NoneExpired now q.streams → NoneExpired now p.streams) → (xs : List Asking) → All (λ (x : Asking). NoneExpired x.now q.streams) xs → All (λ (x : Asking). NoneExpired x.now p.streams) xs
later q p h [] l = tt
later q p h (x ∷ xs) l = (h x.now l.0, later q p h xs l.1)

pub live : (xs : List Asking) (q : Queue) → Well q → q.interleaving ≡ true → q.scheduler.current ≡ none → All (Accepts q.options) xs → All (λ (x : Asking). NoneExpired x.now q.streams) xs → q.total < length xs
    → ends (run (map later_call (map ask xs)) q) ≡ true
unfolding run ends step s
live [] q w on free a n h = absurd (omega arith)
live (x ∷ xs) q w on free a n h =
    go (s q x w on free n.0 a.0) (lively q x w on free n.0 a.0) (produced x.now q w on free n.0 x.store x.places x.buffer x.size) (fine_produce x.store x.places x.buffer x.now x.size q w)
    (λ p v i f b m l. live xs p v i f b m l)
  where
    go : (t : Step) → Lively q t → Produced q t → Fine q t
        → ((p : Queue) → Well p → p.interleaving ≡ true → p.scheduler.current ≡ none → All (Accepts p.options) xs → All (λ (x : Asking). NoneExpired x.now p.streams) xs → p.total < length xs → ends (run (map later_call (map ask xs)) p) ≡ true)
        → (says_nothing t.outcome.answer || ends (run (map later_call (map ask xs)) t.next)) ≡ true
    go t (over e) p f r = ap (λ (b : Bool). b || ends (run (map later_call (map ask xs)) t.next)) e
    go t (went l) (stayed e k z) f r = let y : t.next.total ≡ q.total = ap (λ (p : Queue). p.total) k in absurd (omega arith)
    go t (went l) (sent b lb e sn il o k) f r =
        ap (λ (v : Bool). v || ends (run (map later_call (map ask xs)) t.next)) sn
        ∙ r t.next f.next_well (il ∙ on) o.free (subst (λ (z : Options). All (Accepts z) xs) (sym f.same_options) a.1) (later q t.next k xs n.1) (omega arith)
