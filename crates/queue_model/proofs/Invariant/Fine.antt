-- What every call keeps, `Fine`: the next queue is well and has the same options, and the answer is not refusal 16. Proved here for all calls but next
-- fragment, discard and restoring. Assumes nothing.
use mathlib.Core.Path.{◌≡◌, refl, sym, ap, ap₂, ◌∙◌, subst}
use mathlib.Core.Bool.{Bool, true, false, not, ◌&&◌, ◌||◌}
use mathlib.Core.List.{List, [], ◌∷◌, ◌++◌, map, map-id}
use mathlib.Core.Option.{Option, none, some, get_or}
use Prim.Native.Nat.{ℕ, ◌+◌, ◌-◌, ◌^◌, ◌≤◌, ◌<◌}
use native.Mathlib.Omega.{arith}
use lib.Dec.{eqb}
use lib.ListN.{length}
use Rattle.types.specs.Wrap.{wrap_suc}
use Rattle.std.specs.Prelude.{if◌then◌else◌}
use Rattle.queue_model.specs.Logic.{same_bool, any}
use Rattle.queue_model.specs.Table.{find}
use Rattle.queue_model.specs.Types.{Item, PauseState, not_paused, pending, paused, resetting, Counters, Stream, Active, Scheduler, Queue, Answer, refused, done, number, flag, ids, fragment, nothing_waits, filled, Step, remaining, model_with_pause, with_counters, with_priority, with_threshold, with_state, reply, Message}
use Rattle.queue_model.specs.Scheduler.{remove_stream}
use Rattle.queue_model.specs.Streams.{max_messages, find_stream, put_stream, stream_at, too_many, waiting, payload_bytes, occupied, free_bytes, head_size, weight_of, reschedule, reschedule_each, some_items, has_items, zero_counters, know, amounts, stream_key, with_message}
use Rattle.queue_model.specs.Refusals.{Check, first_refusal, refused_or, checked, max_word, max_time, max_payload, short_of}
use Rattle.queue_model.specs.Add.{expiry, new_item, starts_waiting, started, added, add_checks}
use Rattle.queue_model.specs.Close.{untouched, kept, dropped_bytes, swept_bytes, closed_state, closed_scheduler, closed, close_in, closing_bytes, close_checks}
use Rattle.queue_model.specs.Reset.{reopen, is_paused, is_resetting, paused_to_resetting, opened, reopened, model_put_back, model_whole_item, whole_head, reset_stream, all_put_back, reset_checks}
use Rattle.queue_model.specs.Settings.{threshold_checks, priority_checks, raised_event, switched}
use Rattle.queue_model.specs.Demands.{MessageTyped}
use Rattle.queue_model.proofs.Tests.{ltb_false, eqb_true, eqb_false, less, same, more, tri}
use Rattle.queue_model.proofs.Table.{Rising, Every, every_map, every_weaken, every_both, every_own, length_map, sum_map, sum_le, rising_map, own, other, is_own}
use Rattle.queue_model.proofs.Checks.{Passed, all_passed, not_less, not_most}
use Rattle.queue_model.proofs.Scheduler.{set_none}
use Rattle.queue_model.proofs.Streams.{at_id, unsent_bytes, unsent_le, unsent_snoc, payload_snoc, length_snoc, size_at, size_here, size_there, size_at_at, size_found, size_unknown, size_map}
use Rattle.queue_model.proofs.PutBack.{AllCounted, put_back_fits, no_overflow, reset_amounts}
use Rattle.queue_model.proofs.Invariant.Messages.{WellItem, WellRest, WellItems}
use Rattle.queue_model.proofs.Invariant.Waits.{Listed, Waits, weight_fits_of, waits_weaken, waits_same, waits_put_same, waits_put_set, waits_put_rescheduled, due, Ready, each_kept}
use Rattle.queue_model.proofs.Invariant.Well.{CountersFit, Kept, Well, inside, room, Change, kept_at, zero_fit, amount_le, well_put, change_less, shrunk, change_shrunk, well_snoc}
use Rattle.queue_model.specs.Calls

-- ---- a fine step

abbrev pub sixteen : Answer → Bool
sixteen (refused n) = eqb n 16
sixteen done = false
sixteen (number n) = false
sixteen (flag b) = false
sixteen (ids ks) = false
sixteen (fragment f) = false
sixteen nothing_waits = false
sixteen (filled bs n) = false

pub record Fine (q : Queue) (s : Step) : Type 0 where
  pub next_well : Well s.next
  pub not_sixteen : sixteen s.outcome.answer ≡ false
  pub same_options : s.next.options ≡ q.options

-- No check of a list that gives 16 applies, provided that those before it do not.
abbrev pub SafeCheck : Bool → Bool → Type 0 → Type 0
SafeCheck true b after = (b ≡ false) × after
SafeCheck false b after = b ≡ false → after

abbrev pub Safe : List Check → Type 0
Safe [] = Unit {0}
Safe (c ∷ cs) = SafeCheck (eqb c.number 16) c.applies (Safe cs)

pub safe_refusal : (cs : List Check) (n : ℕ) → Safe cs → first_refusal cs ≡ some n → eqb n 16 ≡ false
unfolding first_refusal
safe_refusal [] n f e = let z : ◌≡◌ {A = ℕ} 0 1 = cc in absurd (omega arith)
safe_refusal (c ∷ cs) n f e = go c.applies refl (eqb c.number 16) refl f e (safe_refusal cs n)
  where
    go : (b : Bool) → c.applies ≡ b → (x : Bool) → eqb c.number 16 ≡ x → SafeCheck x c.applies (Safe cs) → ◌≡◌ {A = Option ℕ} (if b then some c.number else first_refusal cs) (some n)
        → (Safe cs → first_refusal cs ≡ some n → eqb n 16 ≡ false) → eqb n 16 ≡ false
    go true e true i g r ih = let a = g.0 in let z : ◌≡◌ {A = ℕ} 0 1 = cc in absurd (omega arith)
    go true e false i g r ih = let m : c.number ≡ n = cc in subst (λ (k : ℕ). eqb k 16 ≡ false) m i
    go false e true i g r ih = ih g.1 r
    go false e false i g r ih = ih (g e) r

-- A call that checks first is fine if it is fine past its checks.
pub fine_checked : (cs : List Check) (q : Queue) (s : Step) → Well q → Safe cs → (Passed cs → Fine q s) → Fine q (checked cs q s)
unfolding checked refused_or
fine_checked cs q s w f h = go (first_refusal cs) refl
  where
    go : (x : Option ℕ) → first_refusal cs ≡ x → Fine q (refused_or x q s)
    go none e = h (all_passed cs e)
    go (some n) e = record { next_well = w; not_sixteen = safe_refusal cs n f e; same_options = refl }

-- The total is at most what is occupied.
pub total_le : (q : Queue) → Well q → q.total ≤ occupied q.streams
total_le q w =
    let a = w.total_counted in
    let d = sum_le Kept (λ s. s.amount) (λ s. payload_bytes s.items) q.streams (λ s k. let x = k.counted in let y = unsent_le s.items in omega arith) w.kept in omega arith

-- Amounts of at least n bytes do not fall below 0 by n.
pub enough : (q : Queue) (s : Stream) (n : ℕ) → n ≤ q.total → n ≤ s.amount → short_of q s n ≡ false
unfolding short_of
enough q s n a b = ap₂ ◌||◌ (ltb_false a) (ltb_false b)

-- The size of the first message of an id's stream.
size_own : (q : Queue) (k : ℕ) → size_at (stream_at q k).id q.streams ≡ head_size (stream_at q k).items
size_own q k = ap (λ (j : ℕ). size_at j q.streams) (at_id q.options q.streams k) ∙ size_at_at q.options k q.streams

-- ---- add

head_snoc : (is : List Item) (i : Item) → 0 < head_size is → head_size (is ++ (i ∷ [])) ≡ head_size is
unfolding head_size
head_snoc [] i h = absurd (omega arith)
head_snoc (j ∷ is) i h = refl

expiry_fits : (now : ℕ) (l : Option ℕ) → now ≤ max_time → get_or l 0 ≤ max_time → get_or (expiry now l) 0 < 2 ^ 64
unfolding expiry
expiry_fits now none h k = omega arith
expiry_fits now (some l) h k = omega arith

retransmissions_fit : (m : Option ℕ) → get_or m 0 < 2 ^ 16 → get_or m 65535 < 2 ^ 16
retransmissions_fit none h = omega arith
retransmissions_fit (some n) h = h

new_item_well : (now k : ℕ) (m : Message) → MessageTyped m → k < 2 ^ 32 → now ≤ max_time → get_or m.lifetime 0 ≤ max_time → 1 ≤ length m.payload → length m.payload ≤ max_payload → WellItem (new_item now k m)
unfolding new_item
new_item_well now k m t h a b c d = record {
  unsent = omega arith;
  small = d;
  id_fits = h;
  ppid_fits = t.ppid;
  retransmissions_fit = retransmissions_fit m.max_retransmissions t.max_retransmissions;
  lifecycle_fits = t.lifecycle_id;
  mid_fits = omega arith;
  ssn_fits = omega arith;
  fsn_fits = omega arith;
  no_ssn = λ e. refl;
  no_offset = λ e. refl;
  no_fsn = λ e. refl;
  unordered_ssn = λ e. refl;
  expiry_fits = expiry_fits now m.lifetime a b;
  bytes = t.payload;
}

added_well : (now : ℕ) (m : Message) (q : Queue) → Well q → MessageTyped m → now ≤ max_time → get_or m.lifetime 0 ≤ max_time → 1 ≤ length m.payload → length m.payload ≤ max_payload
    → too_many q m.stream_id ≡ false → waiting q.streams < max_messages → occupied q.streams + length m.payload ≤ q.options.store_length → Well (added now m q)
unfolding added new_item started
added_well now m q w t a b c d r f g = well_put q m.stream_id s' (q.total + length m.payload) (wrap_suc 32 q.next_message_id) (started q.interleaving s s' q.scheduler) w change (omega arith) (waits (starts_waiting s.pause_state && not (has_items s)))
  where
    s : Stream
    s = stream_at q m.stream_id

    i : Item
    i = new_item now q.next_message_id m

    s' : Stream
    s' = with_message s i

    fit : Kept s
    fit = kept_at q m.stream_id w t.stream_id

    fit' : Kept s'
    fit' =
        let x = fit.counted in let y = unsent_snoc s.items i in
        record { id_fits = fit.id_fits; priority_fits = fit.priority_fits; threshold_fits = fit.threshold_fits; counters_fit = fit.counters_fit; well_items = well_snoc s.items i fit.well_items (new_item_well now q.next_message_id m t w.next_fits a b c d) (λ e. refl); counted = omega arith }

    change : Change q m.stream_id s' (q.total + length m.payload)
    change =
        let x = length_snoc s.items i in let y = payload_snoc s.items i in
        record { change_id = at_id q.options q.streams m.stream_id; change_room = r; change_kept = fit'; change_total = omega arith; change_messages = omega arith; change_store = omega arith }

    waits : (b : Bool) → Waits q.options.payload_limit (Listed q.interleaving (put_stream s' q.streams)) (if b then reschedule q.interleaving s' q.scheduler else q.scheduler)
    waits true = waits_put_rescheduled q.options.payload_limit q.interleaving s' q.streams q.scheduler fit.priority_fits w.waits.sched
    waits false = waits_put_same q.options.payload_limit q.interleaving s' q.streams q.scheduler (λ p. let e = size_own q m.stream_id in head_snoc s.items i (omega arith) ∙ sym e) w.waits

pub fine_add : (store now : ℕ) (m : Message) (q : Queue) → Well q → MessageTyped m → Fine q (Calls.add store now m q)
unfolding Calls.add
fine_add store now m q w t =
    let rm = room q.options w.creation in let tl = total_le q w in let sf = w.store_fits in let al = amount_le q m.stream_id w in
    fine_checked (add_checks store now m q) q (reply done [] (added now m q)) w
    (λ p₂ p₄ p₄' p₅ p₆ p₇ p₈.
    let f = not_less (free_bytes q) (length m.payload) p₈ in
    let a : q.total + length m.payload ≤ max_word = omega arith in let b : (stream_at q m.stream_id).amount + length m.payload ≤ max_word = omega arith in
    (ap₂ ◌||◌ (ltb_false a) (ltb_false b), tt))
    (λ p.
    let p₅ = p.1.1.1 in let p₇ = p₅.1.1 in
    let size = inside 1 max_payload (length m.payload) p₅.0 in let f = not_less (free_bytes q) (length m.payload) p₇.1.0 in
    record {
      next_well = added_well now m q w t (not_less max_time now p.1.0) (not_less max_time (get_or m.lifetime 0) p.1.1.0) size.0 size.1 p₅.1.0 (not_most max_messages (waiting q.streams) p₇.0) (omega arith);
      not_sixteen = refl;
      same_options = refl;
    })

-- ---- a stream made known, otherwise as it was

known_same : (q : Queue) (k : ℕ) (s : Stream) → Well q → too_many q k ≡ false → s.id ≡ k → Kept s → s.amount ≡ (stream_at q k).amount → s.items ≡ (stream_at q k).items → Well (know q s)
known_same q k s w r i g a e =
    let l : length s.items ≡ length (stream_at q k).items = ap length e in
    let p : payload_bytes s.items ≡ payload_bytes (stream_at q k).items = ap payload_bytes e in
    well_put q k s q.total q.next_message_id q.scheduler w (change_less q k s q.total w r i g (omega arith) (omega arith) (omega arith)) w.next_fits
    (waits_put_same q.options.payload_limit q.interleaving s q.streams q.scheduler (λ h. ap head_size e ∙ sym (size_at_at q.options k q.streams) ∙ ap (λ (j : ℕ). size_at j q.streams) (sym i)) w.waits)

pub fine_set_threshold : (places k t : ℕ) (q : Queue) → Well q → k < 2 ^ 16 → t < 2 ^ 64 → Fine q (Calls.set_threshold places k t q)
unfolding Calls.set_threshold
fine_set_threshold places k t q w h f =
    let s : Stream = stream_at q k in let g = kept_at q k w h in
    fine_checked (threshold_checks places k q) q (reply done (raised_event s t) (know q (with_threshold t s))) w (λ p r. tt)
    (λ p. record {
      next_well = known_same q k (with_threshold t s) w p.1.0 (at_id q.options q.streams k)
          (record { id_fits = g.id_fits; priority_fits = g.priority_fits; threshold_fits = f; counters_fit = g.counters_fit; well_items = g.well_items; counted = g.counted }) refl refl;
      not_sixteen = refl;
      same_options = refl;
    })

pub fine_set_priority : (k p : ℕ) (q : Queue) → Well q → k < 2 ^ 16 → p < 2 ^ 16 → Fine q (Calls.set_priority k p q)
unfolding Calls.set_priority
fine_set_priority k p q w h f =
    let s : Stream = stream_at q k in let g = kept_at q k w h in
    fine_checked (priority_checks k q) q (reply done [] (know q (with_priority p s))) w (λ r. tt)
    (λ r. record {
      next_well = known_same q k (with_priority p s) w r.0 (at_id q.options q.streams k)
          (record { id_fits = g.id_fits; priority_fits = f; threshold_fits = g.threshold_fits; counters_fit = g.counters_fit; well_items = g.well_items; counted = g.counted }) refl refl;
      not_sixteen = refl;
      same_options = refl;
    })

-- ---- all streams mapped

-- A map that keeps ids and the number and size of the messages.
pub record Maps (f : Stream → Stream) : Type 0 where
  pub maps_id : (s : Stream) → (f s).id ≡ s.id
  pub maps_length : (s : Stream) → length (f s).items ≡ length s.items
  pub maps_payload : (s : Stream) → payload_bytes (f s).items ≡ payload_bytes s.items
  pub maps_kept : (s : Stream) → Kept s → Kept (f s)

pub well_map : (f : Stream → Stream) (q : Queue) (t : ℕ) (sc : Scheduler) → Maps f → Well q → t ≡ amounts (map f q.streams) → Waits q.options.payload_limit (Listed q.interleaving (map f q.streams)) sc → Well (with_state q t (map f q.streams) sc)
well_map f q t sc m w e v =
    let a = sum_map f (λ s. length s.items) (λ s. length s.items) q.streams m.maps_length in let a' = w.messages_few in
    let b = sum_map f (λ s. payload_bytes s.items) (λ s. payload_bytes s.items) q.streams m.maps_payload in let b' = w.store_fits in
    let c = length_map f q.streams in let c' = w.streams_few in
    record {
      creation = w.creation;
      rising = rising_map stream_key f q.streams m.maps_id w.rising;
      kept = every_map Kept Kept f q.streams m.maps_kept w.kept;
      total_counted = e;
      next_fits = w.next_fits;
      streams_few = omega arith;
      messages_few = omega arith;
      store_fits = omega arith;
      waits = v;
    }

-- Every stream is ready to be rescheduled.
pub all_ready : (ss : List Stream) → Rising stream_key ss → Every Kept ss → Every (Ready ss) ss
all_ready ss r k =
    every_weaken (λ s. (find_stream s.id ss ≡ some s) × Kept s) (Ready ss) ss (λ s h. record { ready_size = sym (size_found s.id s ss h.0); ready_weight = h.1.priority_fits })
    (every_both (λ s. find_stream s.id ss ≡ some s) Kept ss (every_own stream_key ss r) k)

-- A stream otherwise as it was: id, messages and amount.
pub record Alike (s t : Stream) : Type 0 where
  pub alike_id : t.id ≡ s.id
  pub alike_items : t.items ≡ s.items
  pub alike_amount : t.amount ≡ s.amount
  pub alike_kept : Kept s → Kept t

maps_alike : (f : Stream → Stream) → ((s : Stream) → Alike s (f s)) → Maps f
maps_alike f h = record { maps_id = λ s. (h s).alike_id; maps_length = λ s. ap length (h s).alike_items; maps_payload = λ s. ap payload_bytes (h s).alike_items; maps_kept = λ s. (h s).alike_kept }

size_alike : (f : Stream → Stream) (k : ℕ) (ss : List Stream) → ((s : Stream) → Alike s (f s)) → size_at k (map f ss) ≡ size_at k ss
size_alike f k ss h = size_map f k ss (λ s. (h s).alike_id) (λ s. ap head_size (h s).alike_items)

alike_state : (s : Stream) (p : PauseState) (c : Counters) → (CountersFit s.counters → CountersFit c) → Alike s (model_with_pause p (with_counters c s))
alike_state s p c h = record {
  alike_id = refl;
  alike_items = refl;
  alike_amount = refl;
  alike_kept = λ k. record { id_fits = k.id_fits; priority_fits = k.priority_fits; threshold_fits = k.threshold_fits; counters_fit = h k.counters_fit; well_items = k.well_items; counted = k.counted };
}

alike_same : (s : Stream) → Alike s s
alike_same s = record { alike_id = refl; alike_items = refl; alike_amount = refl; alike_kept = λ k. k }

well_alike : (f : Stream → Stream) (q : Queue) (sc : Scheduler) → ((s : Stream) → Alike s (f s)) → Well q → Waits q.options.payload_limit (Listed q.interleaving (map f q.streams)) sc → Well (with_state q q.total (map f q.streams) sc)
well_alike f q sc h w v = well_map f q q.total sc (maps_alike f h) w (w.total_counted ∙ sym (sum_map f (λ s. s.amount) (λ s. s.amount) q.streams (λ s. (h s).alike_amount))) v

-- The scheduler as it is suits the mapped streams.
waits_alike : (f : Stream → Stream) (q : Queue) → ((s : Stream) → Alike s (f s)) → Well q → Waits q.options.payload_limit (Listed q.interleaving (map f q.streams)) q.scheduler
waits_alike f q h w = waits_same q.options.payload_limit q.interleaving q.streams (map f q.streams) q.scheduler (λ k p. size_alike f k q.streams h) w.waits

pub paused_alike : (s : Stream) → Alike s (paused_to_resetting s)
unfolding paused_to_resetting
paused_alike s = go (is_paused s)
  where
    go : (b : Bool) → Alike s (if b then model_with_pause resetting s else s)
    go true = alike_state s resetting s.counters (λ c. c)
    go false = alike_same s

pub fine_ready : (q : Queue) → Well q → Fine q (Calls.ready_ids q)
unfolding Calls.ready_ids
fine_ready q w = record { next_well = well_alike paused_to_resetting q q.scheduler paused_alike w (waits_alike paused_to_resetting q paused_alike w); not_sixteen = refl; same_options = refl }

opened_alike : (z : Bool) (s : Stream) → Alike s (opened z s)
unfolding opened
opened_alike true s = alike_state s not_paused zero_counters (λ c. zero_fit)
opened_alike false s = alike_state s not_paused s.counters (λ c. c)

pub reopened_alike : (z : Bool) (s : Stream) → Alike s (reopened z s)
unfolding reopened
reopened_alike z s = go (is_resetting s)
  where
    go : (b : Bool) → Alike s (if b then opened z s else s)
    go true = opened_alike z s
    go false = alike_same s

-- Streams whose sizes stay are rescheduled: all that wait, or some with the choice unchanged.
each_same : (q : Queue) (il : Bool) (test : Stream → Bool) (ss : List Stream) → Well q → ((k : ℕ) → size_at k ss ≡ size_at k q.streams)
    → Waits q.options.payload_limit (λ a. due test a.stream_id q.streams ≡ false → Listed il ss a) q.scheduler → Waits q.options.payload_limit (Listed il ss) (reschedule_each il test q.streams q.scheduler)
each_same q il test ss w e v =
    each_kept q.options.payload_limit il test q.streams ss q.scheduler
    (every_weaken (Ready q.streams) (Ready ss) q.streams (λ s r. record { ready_size = r.ready_size ∙ sym (e s.id); ready_weight = r.ready_weight }) (all_ready q.streams w.rising w.kept)) v

or_true : (x : Bool) → (x || true) ≡ true
or_true true = refl
or_true false = refl

-- Each listed stream is rescheduled by a test that streams with messages pass.
listed_due : (test : Stream → Bool) (f : Stream → Stream) (k : ℕ) (ss : List Stream) → ((s : Stream) → (f s).id ≡ s.id) → ((s : Stream) → 0 < head_size s.items → test (f s) ≡ true) → 0 < size_at k ss → due test k (map f ss) ≡ true
unfolding any
listed_due test f k [] i p h = let e = size_unknown k [] (unfold find in refl) in absurd (omega arith)
listed_due test f k (s ∷ ss) i p h = elim (is_own stream_key s k) [
  | own g ↦ (let e = size_here k s ss g in ap₂ (λ (a b : Bool). (a && b) || due test k (map f ss)) (p s (omega arith)) (eqb_true (i s ∙ g)))
  | other n ↦ (let e = size_there k s ss n in let x : Bool = test (f s) && eqb (f s).id k in ap (λ (b : Bool). x || b) (listed_due test f k ss i p (omega arith)) ∙ or_true x)
]

-- If all that wait are due, nothing is asked of the entries as they are.
waits_due : (q : Queue) (test : Stream → Bool) (f : Stream → Stream) (P : Active → Type 0) → Well q → ((s : Stream) → (f s).id ≡ s.id) → ((s : Stream) → 0 < head_size s.items → test (f s) ≡ true)
    → Waits q.options.payload_limit (λ a. due test a.stream_id (map f q.streams) ≡ false → P a) q.scheduler
waits_due q test f P w i p =
    waits_weaken q.options.payload_limit (Listed q.interleaving q.streams) (λ a. due test a.stream_id (map f q.streams) ≡ false → P a) q.scheduler
    (λ a l d. let s = l.sized in let y = l.positive in let u = listed_due test f a.stream_id q.streams i p (omega arith) in let z : ◌≡◌ {A = ℕ} 0 1 = cc in absurd (omega arith)) w.waits

pub fine_reopen : (z : Bool) (q : Queue) → Well q → Fine q (reopen z q)
unfolding reopen
fine_reopen z q w =
    let test : Stream → Bool = λ s. is_resetting s && has_items s in
    let ss : List Stream = map (reopened z) q.streams in
    record {
      next_well = well_alike (reopened z) q (reschedule_each q.interleaving test q.streams q.scheduler) (reopened_alike z) w
          (each_same q q.interleaving test ss w (λ k. size_alike (reopened z) k q.streams (reopened_alike z))
          (waits_weaken q.options.payload_limit (Listed q.interleaving ss) (λ a. due test a.stream_id q.streams ≡ false → Listed q.interleaving ss a) q.scheduler (λ a l d. l) (waits_alike (reopened z) q (reopened_alike z) w)));
      not_sixteen = refl;
      same_options = refl;
    }

switched_well : (b : Bool) (q : Queue) → Well q → Well (switched b q)
unfolding switched
switched_well b q w =
    let all : Stream → Bool = λ s. true in
    record {
      creation = w.creation;
      rising = w.rising;
      kept = w.kept;
      total_counted = w.total_counted;
      next_fits = w.next_fits;
      streams_few = w.streams_few;
      messages_few = w.messages_few;
      store_fits = w.store_fits;
      waits = each_same q b all q.streams w (λ k. refl)
          (subst (λ (l : List Stream). Waits q.options.payload_limit (λ a. due all a.stream_id l ≡ false → Listed b q.streams a) q.scheduler) (map-id q.streams) (waits_due q all (λ s. s) (Listed b q.streams) w (λ s. refl) (λ s h. refl)));
    }

pub fine_set_interleaving : (b : Bool) (q : Queue) → Well q → Fine q (Calls.set_interleaving b q)
unfolding Calls.set_interleaving switched
fine_set_interleaving b q w = go (same_bool b q.interleaving)
  where
    go : (x : Bool) → Fine q (reply done [] (if x then q else switched b q))
    go true = record { next_well = w; not_sixteen = refl; same_options = refl }
    go false = record { next_well = switched_well b q w; not_sixteen = refl; same_options = refl }

-- ---- the whole-queue reset

-- A message put back whole, by either rule.
whole_item_well : (b : Bool) (i : Item) → WellItem i → WellItem (model_whole_item b i)
whole_item_well true i v =
    let u = v.unsent in
    record { unsent = omega arith; small = v.small; id_fits = v.id_fits; ppid_fits = v.ppid_fits; retransmissions_fit = v.retransmissions_fit; lifecycle_fits = v.lifecycle_fits; mid_fits = omega arith; ssn_fits = omega arith; fsn_fits = omega arith; no_ssn = λ e. refl; no_offset = λ e. refl; no_fsn = λ e. refl; unordered_ssn = λ e. refl; expiry_fits = v.expiry_fits; bytes = v.bytes }
whole_item_well false i v =
    let u = v.unsent in
    record { unsent = omega arith; small = v.small; id_fits = v.id_fits; ppid_fits = v.ppid_fits; retransmissions_fit = v.retransmissions_fit; lifecycle_fits = v.lifecycle_fits; mid_fits = v.mid_fits; ssn_fits = v.ssn_fits; fsn_fits = v.fsn_fits; no_ssn = v.no_ssn; no_offset = λ e. refl; no_fsn = v.no_fsn; unordered_ssn = v.unordered_ssn; expiry_fits = v.expiry_fits; bytes = v.bytes }

module _ (b : Bool) where
  whole_well : (is : List Item) → WellItems is → WellItems (whole_head b is)
  unfolding whole_head
  whole_well [] w = tt
  whole_well (i ∷ is) w = (whole_item_well b i w.0, w.1)

  whole_unsent : (is : List Item) → WellItems is → unsent_bytes (whole_head b is) ≡ unsent_bytes is + model_put_back is
  unfolding whole_head model_put_back
  whole_unsent [] w = refl
  whole_unsent (i ∷ is) w = let u = w.0.unsent in omega arith

  whole_length : (is : List Item) → length (whole_head b is) ≡ length is
  unfolding whole_head
  whole_length [] = refl
  whole_length (i ∷ is) = refl

  whole_payload : (is : List Item) → payload_bytes (whole_head b is) ≡ payload_bytes is
  unfolding whole_head
  whole_payload [] = refl
  whole_payload (i ∷ is) = refl

  reset_maps : Maps (reset_stream b)
  unfolding reset_stream
  reset_maps = record {
    maps_id = λ s. refl;
    maps_length = λ s. whole_length s.items;
    maps_payload = λ s. whole_payload s.items;
    maps_kept = λ s k. let a = k.counted in let u = whole_unsent s.items k.well_items in
        record { id_fits = k.id_fits; priority_fits = k.priority_fits; threshold_fits = k.threshold_fits; counters_fit = zero_fit; well_items = whole_well s.items k.well_items; counted = omega arith };
  }

  some_whole : (is : List Item) → 0 < head_size is → some_items (whole_head b is) ≡ true
  unfolding head_size whole_head some_items
  some_whole [] h = absurd (omega arith)
  some_whole (i ∷ is) h = refl

  has_whole : (s : Stream) → 0 < head_size s.items → has_items (reset_stream b s) ≡ true
  unfolding has_items reset_stream
  has_whole s h = some_whole s.items h

pub fine_reset : (q : Queue) → Well q → Fine q (Calls.reset q)
unfolding Calls.reset
fine_reset q w =
    let b : Bool = q.options.strict_restart in
    let ss : List Stream = map (reset_stream b) q.streams in
    let t : ℕ = q.total + all_put_back q.streams in
    let sc : Scheduler = reschedule_each q.interleaving has_items ss q.scheduler in
    let c : AllCounted q.streams = every_weaken Kept (λ s. s.amount ≡ unsent_bytes s.items) q.streams (λ s k. k.counted) w.kept in
    let rm = room q.options w.creation in let sf = w.store_fits in let tc = w.total_counted in let pb = put_back_fits q.streams c in let ra = reset_amounts b q.streams in
    let small : q.total + all_put_back q.streams ≤ max_word = omega arith in
    let e : q.total + all_put_back q.streams ≡ amounts (map (reset_stream b) q.streams) = omega arith in
    fine_checked (reset_checks q) q (reply done [] (with_state q t ss sc)) w (ap₂ ◌||◌ (ltb_false small) (no_overflow q.streams c (omega arith)), tt)
    (λ p. record {
      next_well = well_map (reset_stream b) q t sc (reset_maps b) w e
          (each_kept q.options.payload_limit q.interleaving has_items ss ss q.scheduler
          (all_ready ss (rising_map stream_key (reset_stream b) q.streams (reset_maps b).maps_id w.rising) (every_map Kept Kept (reset_stream b) q.streams (reset_maps b).maps_kept w.kept))
          (waits_due q has_items (reset_stream b) (Listed q.interleaving ss) w (reset_maps b).maps_id (has_whole b)));
      not_sixteen = refl;
      same_options = refl;
    })

-- ---- close

-- What stays and what is swept, together.
abbrev Leaves : List Item → List Item → ℕ → Type 0
Leaves is js n = (unsent_bytes js + n ≡ unsent_bytes is) × (length js ≤ length is) × (payload_bytes js ≤ payload_bytes is)

leaves : (is : List Item) → Leaves is (kept is) (swept_bytes is)
unfolding kept dropped_bytes
leaves [] = omega arith
leaves (i ∷ is) = go (untouched i) (leaves is)
  where
    go : (b : Bool) → Leaves is (kept is) (swept_bytes is) → Leaves (i ∷ is) (if b then kept is else i ∷ kept is) ((if b then remaining i else 0) + swept_bytes is)
    go true h = omega arith
    go false h = omega arith

-- Messages behind the first are all swept; so a half-sent first one is kept alone.
kept_whole : (i : Item) (is : List Item) → i.offset ≡ 0 → kept (i ∷ is) ≡ kept is
unfolding kept untouched
kept_whole i is e = ap (λ (b : Bool). if b then kept is else i ∷ kept is) (eqb_true e)

kept_part : (i : Item) (is : List Item) → (i.offset ≡ 0 → ⊥) → kept (i ∷ is) ≡ i ∷ kept is
unfolding kept untouched
kept_part i is n = ap (λ (b : Bool). if b then kept is else i ∷ kept is) (eqb_false n)

pub kept_rest : (is : List Item) → WellRest is → kept is ≡ []
kept_rest [] w = unfold kept in refl
kept_rest (i ∷ is) w = kept_whole i is (w.0.no_offset w.1.0) ∙ kept_rest is w.1.1

pub data Keeps (is : List Item) : Type 0 where
  keeps_none : kept is ≡ [] → Keeps is
  keeps_first : (i : Item) (rest : List Item) → is ≡ i ∷ rest → kept is ≡ i ∷ [] → 0 < i.offset → Keeps is

pub keeps : (is : List Item) → WellItems is → Keeps is
keeps [] w = keeps_none (unfold kept in refl)
keeps (i ∷ is) w = elim (tri 0 i.offset) [
  | less l ↦ keeps_first i is refl (kept_part i is (λ e. omega arith) ∙ ap (λ (l : List Item). i ∷ l) (kept_rest is w.1)) l
  | same e ↦ keeps_none (kept_whole i is (sym e) ∙ kept_rest is w.1)
  | more l ↦ absurd (omega arith)
]

kept_well : (is : List Item) → WellItems is → WellItems (kept is)
kept_well is w = elim (keeps is w) [
  | keeps_none e ↦ subst WellItems (sym e) tt
  | keeps_first i rest e f l ↦ subst WellItems (sym f) ((subst WellItems e w).0, tt)
]

pub no_items : (is : List Item) → some_items is ≡ false → head_size is ≡ 0
unfolding some_items head_size
no_items [] e = refl
no_items (i ∷ is) e = let z : ◌≡◌ {A = ℕ} 0 1 = cc in absurd (omega arith)

closing_le : (p : PauseState) (is : List Item) → closing_bytes p is ≤ unsent_bytes is
unfolding closing_bytes
closing_le not_paused is = let l = leaves is in omega arith
closing_le pending is = omega arith
closing_le paused is = omega arith
closing_le resetting is = omega arith

module _ (q : Queue) (k : ℕ) (w : Well q) (fits : k < 2 ^ 16) (free : too_many q k ≡ false) where
  abbrev s : Stream
  s = stream_at q k

  fit : Kept s
  fit = kept_at q k w fits

  abbrev swept : Stream
  swept = shrunk s (closed_state (kept s.items)) s.counters (swept_bytes s.items) (kept s.items)

  -- A stream that loses all its messages ends waiting; one that keeps its half-sent first one waits on with it.
  closed_waits : Waits q.options.payload_limit (Listed q.interleaving (put_stream swept q.streams)) (closed_scheduler s (kept s.items) q.scheduler)
  unfolding closed_scheduler has_items head_size
  closed_waits = elim (keeps s.items fit.well_items) [
    | keeps_none e ↦ subst (λ (l : List Item). Waits limit P (closed_scheduler s l q.scheduler)) (sym e) (ends (some_items s.items) refl)
    | keeps_first i rest e f l ↦ subst (λ (l : List Item). Waits limit P (closed_scheduler s l q.scheduler)) (sym f)
        (waits_put_same limit q.interleaving swept q.streams q.scheduler (λ h. ap head_size f ∙ ap head_size (sym e) ∙ sym (size_own q k)) w.waits)
  ]
    where
      limit : ℕ
      limit = q.options.payload_limit

      P : Active → Type 0
      P = Listed q.interleaving (put_stream swept q.streams)

      ends : (b : Bool) → some_items s.items ≡ b → Waits limit P (if b then remove_stream s.id q.scheduler else q.scheduler)
      ends true e = subst (Waits limit P) (set_none s.id (weight_of q.interleaving s) q.scheduler) (waits_put_set limit q.interleaving swept 0 (weight_of q.interleaving s) q.streams q.scheduler (λ h. absurd (omega arith)) (weight_fits_of q.interleaving s fit.priority_fits) w.waits.sched)
      ends false e = waits_put_same limit q.interleaving swept q.streams q.scheduler (λ h. let a = size_own q k in let b = no_items s.items e in absurd (omega arith)) w.waits

  fine_closed : Fine q (closed q s)
  unfolding closed
  fine_closed =
      let l = leaves s.items in
      record {
        next_well = well_put q k swept (q.total - swept_bytes s.items) q.next_message_id (closed_scheduler s (kept s.items) q.scheduler) w
            (change_shrunk q k s (closed_state (kept s.items)) s.counters (swept_bytes s.items) (kept s.items) w fits free refl fit.counters_fit (kept_well s.items fit.well_items) l.0 l.1 l.2) w.next_fits closed_waits;
        not_sixteen = refl;
        same_options = refl;
      }

  fine_known : Fine q (reply done [] q)
  fine_known = record { next_well = w; not_sixteen = refl; same_options = refl }

  fine_close_in : (p : PauseState) → Fine q (close_in p q s)
  unfolding close_in
  fine_close_in not_paused = fine_closed
  fine_close_in pending = fine_known
  fine_close_in paused = fine_known
  fine_close_in resetting = fine_known

pub fine_close : (places k : ℕ) (q : Queue) → Well q → k < 2 ^ 16 → Fine q (Calls.close places k q)
unfolding Calls.close
fine_close places k q w h =
    let s : Stream = stream_at q k in
    let a = amount_le q k w in let b = (kept_at q k w h).counted in let c = closing_le s.pause_state s.items in
    fine_checked (close_checks places k q) q (close_in s.pause_state q s) w (λ p r. (enough q s (closing_bytes s.pause_state s.items) (omega arith) (omega arith), tt)) (λ p. fine_close_in q k w h p.1.0 s.pause_state)
