-- What a next fragment does to the scheduler's entries on an interleaving queue: it serves the least one, and leaves those of other streams as they are.
-- Assumes nothing.
use mathlib.Core.Path.{◌≡◌, refl, sym, ap, ◌∙◌, subst}
use mathlib.Core.Bool.{Bool, true, false}
use mathlib.Core.List.{List, [], ◌∷◌, ◌++◌}
use mathlib.Core.Option.{Option, none, some, get_or}
use Prim.Native.Nat.{ℕ, zero, suc, ◌-◌, ◌<◌, min}
use lib.Dec.{eqb, leb}
use Rattle.std.specs.Prelude.{if◌then◌else◌}
use Rattle.queue_model.specs.Types.{Item, Counters, Stream, Weight, round_robin, weighted, Active, Scheduler, Queue, Event, fragment, Step, refuse, reply, remaining, expired}
use Rattle.queue_model.specs.Scheduler.{active_key, find_active, scheduled, moved, forget, remember, remove_stream, set_bytes_remaining, least_of, or_else, remembered, peek, accept_last, accept_part, accept}
use Rattle.queue_model.specs.Streams.{stream_key, find_stream, put_stream, weight_of, waiting}
use Rattle.queue_model.specs.Refusals.{first_refusal, refused_or, checked, short_of_head}
use Rattle.queue_model.specs.Amounts.{sent_events}
use Rattle.queue_model.specs.Produce.{head_of, Look, nothing, chosen, look_at, look_for, look, give_numbers, numbered_in, numbered, make_fragment, end_pending, next_size, moved_on, handed_out_last, handed_out_part, handed_out, hand_out, after_look, pass_over, produce_checks, produce}
use Rattle.queue_model.proofs.Tests.{holds, eqb_true}
use Rattle.queue_model.proofs.Table.{Every, every_put, every_find, find_key, find_put_other, find_without_other}
use Rattle.queue_model.proofs.Invariant.Waits.{WeightFits, peek_in}
use Rattle.queue_model.proofs.Invariant.Well.{Well}
use Rattle.queue_model.proofs.Invariant.Sends.{HeadFor, head_for, head_of_at}
use Rattle.queue_model.proofs.Calm.Calm.{HeadAt}
use Rattle.priority_plan.specs.Works.{All}
use Rattle.priority_plan.specs.Turns.{shown, says_nothing}
use Rattle.queue_model.proofs.Invariant.Waits as waits
use Rattle.priority_plan.proofs.Lasting.{NoneExpired}

-- ---- a property of every row, by either name

pub to_every : {A : Type 0} (P : A → Type 0) (xs : List A) → All P xs → Every P xs
to_every P [] a = tt
to_every P (x ∷ xs) a = (a.0, to_every P xs a.1)

pub to_all : {A : Type 0} (P : A → Type 0) (xs : List A) → Every P xs → All P xs
to_all P [] a = tt
to_all P (x ∷ xs) a = (a.0, to_all P xs a.1)

-- ---- the entries of other streams

-- No stream is remembered, and every entry but that of stream k is as before.
pub record Others (k : ℕ) (before after : Scheduler) : Type 0 where
  pub free : after.current ≡ none
  pub same : (j : ℕ) → (j ≡ k → ⊥) → find_active j after.active ≡ find_active j before.active

accept_others : (a : Active) (n w : ℕ) (sc : Scheduler) → a.weight ≡ weighted w → Others a.stream_id sc (accept a n sc)
unfolding accept accept_last accept_part remove_stream forget remember scheduled
accept_others a n w sc e = go (leb a.bytes_remaining n)
  where
    go : (b : Bool) → Others a.stream_id sc (if b then accept_last a n sc else accept_part a n sc)
    go true = record { free = ap (λ (b : Bool). if b then none else some a.stream_id) (eqb_true {a = a.stream_id} refl); same = λ j m. find_without_other active_key j a.stream_id sc.active m }
    go false = record {
      free = ap (remember a.stream_id) e;
      same = λ j m. find_put_other active_key j (scheduled sc.payload_limit a.stream_id a.weight (moved a n) (a.bytes_remaining - n)) sc.active (λ g. m (sym g));
    }

pub set_others : (k n : ℕ) (w : Weight) (before sc : Scheduler) → Others k before sc → Others k before (set_bytes_remaining k n w sc)
unfolding set_bytes_remaining remove_stream forget scheduled
set_others k zero w before sc o = record { free = ap (forget k) o.free; same = λ j m. find_without_other active_key j k sc.active m ∙ o.same j m }
set_others k (suc n) w before sc o = record { free = o.free; same = λ j m. find_put_other active_key j _ sc.active (λ g. m (sym g)) ∙ o.same j m }

-- ---- expiry times

numbered_expiry : (c : Counters) (i : Item) → (numbered c i).item.expires_at ≡ i.expires_at
unfolding numbered numbered_in give_numbers
numbered_expiry c i = go i.mid i.unordered
  where
    give : (u : Bool) → (give_numbers u c i).item.expires_at ≡ i.expires_at
    give true = refl
    give false = refl

    go : (m : Option ℕ) (u : Bool) → (numbered_in m c i).item.expires_at ≡ i.expires_at
    go none u = give i.unordered
    go (some m) u = refl

abbrev Lasts : ℕ → List Item → Type 0
Lasts now is = All (λ (i : Item). expired now i.expires_at ≡ false) is

lasting_put : (now : ℕ) (s : Stream) (ss : List Stream) → Lasts now s.items → NoneExpired now ss → NoneExpired now (put_stream s ss)
lasting_put now s ss h a =
    let P : Stream → Type 0 = λ x. Lasts now x.items in
    to_all P (put_stream s ss) (every_put stream_key P s ss h (to_every P ss a))

lasting_at : (now k : ℕ) (s : Stream) (ss : List Stream) → NoneExpired now ss → find_stream k ss ≡ some s → Lasts now s.items
lasting_at now k s ss a e = let P : Stream → Type 0 = λ x. Lasts now x.items in every_find stream_key P k s ss (to_every P ss a) e

-- ---- handing out

module _ (q : Queue) (a : Active) (s : Stream) (i : Item) (is : List Item) (w : ℕ) (h : HeadAt q.streams a.stream_id s i is) (e : a.weight ≡ weighted w) where
  own : s.id ≡ a.stream_id
  own = find_key stream_key a.stream_id q.streams s h.found

  items_last : (now : ℕ) → NoneExpired now q.streams → Lasts now (i ∷ is)
  items_last now n = subst (Lasts now) h.items (lasting_at now a.stream_id s q.streams n h.found)

  handed_others : (n : ℕ) → Others a.stream_id q.scheduler (handed_out q a s i is n).scheduler
  unfolding handed_out handed_out_last handed_out_part
  handed_others n = go (eqb n (remaining i))
    where
      go : (b : Bool) → Others a.stream_id q.scheduler (if b then handed_out_last q a s i is n else handed_out_part q a s i is n).scheduler
      go true =
          subst (λ (k : ℕ). Others a.stream_id q.scheduler (set_bytes_remaining k (next_size (end_pending s.pause_state) is) (weight_of q.interleaving s) (accept a n q.scheduler))) (sym own)
          (set_others a.stream_id (next_size (end_pending s.pause_state) is) (weight_of q.interleaving s) q.scheduler (accept a n q.scheduler) (accept_others a n w q.scheduler e))
      go false = accept_others a n w q.scheduler e

  handed_interleaving : (n : ℕ) → (handed_out q a s i is n).interleaving ≡ q.interleaving
  unfolding handed_out handed_out_last handed_out_part
  handed_interleaving n = go (eqb n (remaining i))
    where
      go : (b : Bool) → (if b then handed_out_last q a s i is n else handed_out_part q a s i is n).interleaving ≡ q.interleaving
      go true = refl
      go false = refl

  handed_lasting : (n now : ℕ) → NoneExpired now q.streams → NoneExpired now (handed_out q a s i is n).streams
  unfolding handed_out handed_out_last handed_out_part moved_on
  handed_lasting n now l = go (eqb n (remaining i))
    where
      go : (b : Bool) → NoneExpired now (if b then handed_out_last q a s i is n else handed_out_part q a s i is n).streams
      go true = lasting_put now _ q.streams (items_last now l).1 l
      go false = lasting_put now _ q.streams (ap (expired now) (numbered_expiry s.counters i) ∙ (items_last now l).0, (items_last now l).1) l

-- ---- the call

-- What a next fragment does where no waiting message is expired: nothing, or it serves the least entry.
pub data Produced (q : Queue) (s : Step) : Type 0 where
  stayed : shown s.outcome.answer ≡ none → s.next ≡ q → (says_nothing s.outcome.answer ≡ true → least_of q.scheduler.active ≡ none) → Produced q s
  sent : (a : Active) → least_of q.scheduler.active ≡ some a → shown s.outcome.answer ≡ some a.stream_id → says_nothing s.outcome.answer ≡ false
      → s.next.interleaving ≡ q.interleaving → Others a.stream_id q.scheduler s.next.scheduler
      → ((now : ℕ) → NoneExpired now q.streams → NoneExpired now s.next.streams) → Produced q s

refused_stays : (q : Queue) (n : ℕ) → Produced q (refuse q n)
refused_stays q n = stayed refl refl (λ e. absurd (holds false e))

weight_is : (il : Bool) (w : Weight) → il ≡ true → WeightFits il w → (n : ℕ) × (w ≡ weighted n)
weight_is il round_robin e f = absurd (holds false (sym f ∙ e))
weight_is il (weighted n) e f = (n, refl)

-- What a look finds.
pub data Looked (q : Queue) (l : Look) : Type 0 where
  idle : l ≡ nothing → least_of q.scheduler.active ≡ none → Looked q l
  picked : (a : Active) (s : Stream) (i : Item) (is : List Item) (w : ℕ) → l ≡ chosen a s i is → least_of q.scheduler.active ≡ some a → HeadAt q.streams a.stream_id s i is → a.weight ≡ weighted w → 0 < a.bytes_remaining → Looked q l

module _ (now : ℕ) (q : Queue) (well : Well q) (on : q.interleaving ≡ true) (free : q.scheduler.current ≡ none) (lasting : NoneExpired now q.streams) where
  peek_least : peek q.scheduler ≡ least_of q.scheduler.active
  unfolding peek or_else remembered
  peek_least = ap (λ (c : Option ℕ). or_else (remembered c q.scheduler.active) (least_of q.scheduler.active)) free

  pub looked : Looked q (look now q)
  unfolding look look_for look_at
  looked = go (peek q.scheduler) refl
    where
      with_head : (a : Active) → peek q.scheduler ≡ some a → (f : HeadFor q.streams a) → (w : (n : ℕ) × (a.weight ≡ weighted n)) → 0 < a.bytes_remaining → Looked q (look_at now q a (head_of (find_stream a.stream_id q.streams)))
      with_head a e f w p =
          let s : Stream = f.for_stream in let i : Item = f.for_item in let is : List Item = f.for_rest in
          let h = f.for_head in
          let x : expired now i.expires_at ≡ false = (subst (Lasts now) h.items (lasting_at now a.stream_id s q.streams lasting h.found)).0 in
          picked a s i is w.0
          (ap (look_at now q a) (head_of_at q.streams a.stream_id s i is h) ∙ ap (λ (b : Bool). if b then Rattle.queue_model.specs.Produce.look_expired q s i is else chosen a s i is) x)
          (sym peek_least ∙ e) h w.1 p

      go : (x : Option Active) → peek q.scheduler ≡ x → Looked q (look_for now q x)
      go none e = idle refl (sym peek_least ∙ e)
      go (some a) e =
          let l = peek_in (waits.Listed q.interleaving q.streams) q.scheduler a well.waits.sched.every e in
          with_head a e (head_for q.interleaving q.streams a l) (weight_is q.interleaving a.weight on l.weighs) l.positive

  pub produced : (store places buffer size : ℕ) → Produced q (produce store places buffer now size q)
  unfolding produce checked refused_or pass_over after_look hand_out make_fragment
  produced store places buffer size = by (first_refusal (produce_checks store places buffer now size q))
    where
      x : Option Step
      x = pass_over (suc (waiting q.streams)) now size q []

      handed : (a : Active) (s : Stream) (i : Item) (is : List Item) (w : ℕ) → least_of q.scheduler.active ≡ some a → HeadAt q.streams a.stream_id s i is → a.weight ≡ weighted w
          → Produced q (get_or (hand_out size q [] a s i is) (refuse q 16))
      handed a s i is w e h f = go (short_of_head q s i (min a.bytes_remaining size))
        where
          go : (b : Bool) → Produced q (get_or (if b then none else some (reply (fragment (make_fragment s (numbered s.counters i).item (min a.bytes_remaining size))) ([] ++ sent_events q s (min a.bytes_remaining size)) (handed_out q a s i is (min a.bytes_remaining size)))) (refuse q 16))
          go true = refused_stays q 16
          go false =
              let n : ℕ = min a.bytes_remaining size in
              sent a e (ap some (own q a s i is w h f)) refl (handed_interleaving q a s i is w h f n) (handed_others q a s i is w h f n) (handed_lasting q a s i is w h f n)

      follows : Looked q (look now q) → Produced q (get_or x (refuse q 16))
      follows (idle e l) = subst (λ (y : Look). Produced q (get_or (after_look (λ (r : Queue) (ds : List Event). pass_over (waiting q.streams) now size r ds) size q [] y) (refuse q 16))) (sym e) (stayed refl refl (λ z. l))
      follows (picked a s i is w e l h f p) = subst (λ (y : Look). Produced q (get_or (after_look (λ (r : Queue) (ds : List Event). pass_over (waiting q.streams) now size r ds) size q [] y) (refuse q 16))) (sym e) (handed a s i is w l h f)

      by : (r : Option ℕ) → Produced q (refused_or r q (get_or x (refuse q 16)))
      by none = follows looked
      by (some n) = refused_stays q n
