-- Passing over expired heads is the model's, by induction on the messages that wait. Assumes nothing.
use mathlib.Core.Path.{◌≡◌, refl, sym, ap, ◌∙◌, subst}
use mathlib.Core.Bool.{Bool, true, false, ◌&&◌, ◌||◌}
use mathlib.Core.List.{List, [], ◌∷◌, ◌++◌}
use mathlib.Core.Option.{Option, some}
use Prim.Native.Nat.{ℕ, zero, suc, ◌+◌, ◌-◌, ◌≤◌, min}
use native.Mathlib.Omega.{arith}
use borrow.Author.Tests.{le-ltb}
use lib.Dec.{ltb, leb}
use lib.ListN.{length, length-append}
use Rattle.queue_words.specs.Header.{totals_at}
use Rattle.queue_words.specs.Items.{item_at}
use Rattle.queue_words.specs.Streams.{stream_at_words}
use Rattle.queue_words.specs.declared.header.Options.{Options}
use Rattle.std.specs.Prelude.{if◌then◌else◌}
use Rattle.queue_model.specs.Types.{Stream, Queue, Event, Step, reply, nothing_waits, remaining}
use Rattle.queue_model.specs.Types as plain
use Rattle.queue_model.specs.Amounts.{low_event, total_falls, stream_falls, total_low, stream_low, sent_events, drop_head_events}
use Rattle.queue_model.specs.Refusals.{short_of}
use Rattle.queue_model.specs.Produce.{Look, nothing, dropped, chosen, look_expired, look, drop_in, after_look, pass_over, hand_out}
use Rattle.queue_model.specs.Streams.{waiting}
use Rattle.queue_model.proofs.Invariant.Well.{Well}
use Rattle.queue_model.proofs.Invariant.Sends.{FineLook, Chosen, fine_look}
use Rattle.queue_model.proofs.Invariant.Events.{potential, LookSpends, look_spends}
use Rattle.stream_scheduler.specs.Link.{entry_at}
use Rattle.queue_streams.specs.Events.{event_words, written}
use Rattle.queue_streams.specs.Settings.{CalledWith, called_with}
use Rattle.queue_streams.specs.Call.{Call}
use Rattle.queue_streams.specs.Call as call
use Rattle.message_chains.specs.Amounts.{rest}
use Rattle.queue_sending.specs.Choice.{look_ahead}
use Rattle.queue_sending.specs.Data.{ProducedWith}
use Rattle.queue_sending.specs.Fragment.{handed_out_words}
use Rattle.queue_sending.specs.Produce.{pass_over_words, expired_dropped, refusal}
use Rattle.queue_sending.specs.Look as words_look
use Rattle.queue_sending.proofs.Passes.{pass_nothing, pass_chosen}
use Rattle.queue_state.specs.Chains.{each}
use Rattle.queue_state.specs.Model.{item_in_words, row_at, stream_in, model}
use Rattle.queue_state.specs.Good.{Shape, Good}
use Rattle.queue_state.proofs.Heads.{head_waits}
use Rattle.queue_state.proofs.Notes.{written_append, written_length}
use Rattle.queue_state.proofs.Singles.{model_streams, model_total}
use Rattle.queue_state.proofs.Sums.{waiting_is}
use Rattle.linked_sending.specs.Meaning.{Sends}
use Rattle.linked_sending.proofs.Looking.{Choice, Looks, looks_nothing, looks_expired, looks_chosen, looks}
use Rattle.linked_sending.proofs.Enough.{stream_amount, rest_is, rest_in_amount, amount_in_total}
use Rattle.linked_sending.proofs.Expired.{HeadExpired, head_expired}
use Rattle.linked_sending.proofs.Sent.{hands_out}

-- ---- events of one fragment

low_few : (kind n t old new : ℕ) → length (low_event kind n t old new) ≤ 1
unfolding low_event
low_few kind n t old new = go (ltb t old && leb new t)
  where
    go : (b : Bool) → length {A = Event} (if b then record { kind = kind; number = n; amount = new } ∷ [] else []) ≤ 1
    go true = omega arith
    go false = omega arith

sent_few : (q : Queue) (s : Stream) (n : ℕ) → length (sent_events q s n) ≤ 2
unfolding sent_events total_low stream_low total_falls stream_falls
sent_few q s n =
    let a = low_few 2 0 q.options.total_threshold q.total (q.total - n) in
    let b = low_few 1 s.id s.threshold s.amount (s.amount - n) in
    omega (arith, length-append (low_event 2 0 q.options.total_threshold q.total (q.total - n)) (low_event 1 s.id s.threshold s.amount (s.amount - n)))

-- ---- one turn of the model

pass_turn : (n time size : ℕ) (q : Queue) (vs : List Event) (l : Look) → look time q ≡ l → pass_over (suc n) time size q vs ≡ after_look (λ (r : Queue) (ds : List Event). pass_over n time size r ds) size q vs l
unfolding pass_over
pass_turn n time size q vs l e = rw e

turn_nothing : (again : Queue → List Event → Option Step) (size : ℕ) (q : Queue) (vs : List Event) → after_look again size q vs nothing ≡ some (reply nothing_waits vs q)
unfolding after_look
turn_nothing again size q vs = refl

turn_dropped : (again : Queue → List Event → Option Step) (size : ℕ) (q r : Queue) (vs ds : List Event) → after_look again size q vs (dropped r ds) ≡ again r (vs ++ ds)
unfolding after_look
turn_dropped again size q r vs ds = refl

turn_chosen : (again : Queue → List Event → Option Step) (size : ℕ) (q : Queue) (vs : List Event) (a : plain.Active) (s : Stream) (i : plain.Item) (is : List plain.Item)
    → after_look again size q vs (chosen a s i is) ≡ hand_out size q vs a s i is
unfolding after_look
turn_chosen again size q vs a s i is = refl

-- ---- one turn of the words

pub turn_expired : (n : ℕ) (ws st es bs us es' : List ℕ) (time size k j id row : ℕ) → look_ahead ws time ≡ words_look.Expired id row → expired_dropped ws es k id row ≡ called_with (call.Accepted j) us es'
    → pass_over_words (suc n) ws st es bs time size k ≡ pass_over_words n us st es' bs time size j
unfolding pass_over_words
turn_expired n ws st es bs us es' time size k j id row e d = rw (e, d)

pub called_is : (d : CalledWith) (a : Call) (es : List ℕ) → d.answer ≡ a → d.events ≡ es → d ≡ called_with a d.next es
called_is d a es e f = rw (← e, ← f)

-- ---- the theorem

pub record Passes (st es₀ bs : List ℕ) (x : Option Step) (p : ProducedWith) : Type 0 where
  pub step : Step
  pub step_is : x ≡ some step
  pub sends : Sends step st es₀ bs p
  pub answered : refusal p.answer ≡ false

-- a dropped head's look
pub drops : (ws st : List ℕ) (g : Good ws st) (at : ℕ) (c : Choice ws st g.shape at) (time : ℕ)
    → look time (model ws st) ≡ look_expired (model ws st) (stream_in ws st c.pos) (item_in_words ws st c.first) (each (item_in_words ws st) c.rest)
    → look time (model ws st) ≡ dropped (drop_in (stream_in ws st c.pos).pause_state (model ws st) (stream_in ws st c.pos) (item_in_words ws st c.first) (each (item_in_words ws st) c.rest)) (drop_head_events (model ws st) (stream_in ws st c.pos) (item_in_words ws st c.first))
unfolding look_expired short_of
drops ws st g at c time e =
    let a : rest (item_at ws c.first) ≤ (totals_at ws).total = omega (arith, rest_in_amount ws st g at c, amount_in_total ws st g at c) in
    let b : rest (item_at ws c.first) ≤ (stream_at_words ws (row_at ws c.pos)).buffered_amount = rest_in_amount ws st g at c in
    let h : (ltb (model ws st).total (remaining (item_in_words ws st c.first)) || ltb (stream_in ws st c.pos).amount (remaining (item_in_words ws st c.first))) ≡ false = rw (model_total ws st, stream_amount ws st c.pos, rest_is ws st g at c, le-ltb (totals_at ws).total (rest (item_at ws c.first)) a, le-ltb (stream_at_words ws (row_at ws c.pos)).buffered_amount (rest (item_at ws c.first)) b) in
    rw h at e

pub model_waits : (ws st : List ℕ) → Shape ws st → waiting (model ws st).streams ≡ (totals_at ws).waiting
model_waits ws st g = ap waiting (model_streams ws st) ∙ waiting_is ws st g

-- what an expired head leaves is good, with one message fewer and events that are paid for
pub record Next (ws st : List ℕ) (us : List ℕ) (ds : List Event) : Type 0 where
  pub next_good : Good us st
  pub next_waits : suc (totals_at us).waiting ≡ (totals_at ws).waiting
  pub next_pays : length ds + potential (model us st) ≤ potential (model ws st)

pub next_of : (ws st es : List ℕ) (g : Good ws st) (at : ℕ) (c : Choice ws st g.shape at) (time k : ℕ) (d : CalledWith) → HeadExpired ws st g at c es k d
    → look time (model ws st) ≡ dropped (drop_in (stream_in ws st c.pos).pause_state (model ws st) (stream_in ws st c.pos) (item_in_words ws st c.first) (each (item_in_words ws st) c.rest)) (drop_head_events (model ws st) (stream_in ws st c.pos) (item_in_words ws st c.first))
    → Next ws st d.next (drop_head_events (model ws st) (stream_in ws st c.pos) (item_in_words ws st c.first))
next_of ws st es g at c time k d h e =
    let q' : Queue = drop_in (stream_in ws st c.pos).pause_state (model ws st) (stream_in ws st c.pos) (item_in_words ws st c.first) (each (item_in_words ws st) c.rest) in
    let ds : List Event = drop_head_events (model ws st) (stream_in ws st c.pos) (item_in_words ws st c.first) in
    let f : FineLook (model ws st) (dropped q' ds) = subst (FineLook (model ws st)) e (fine_look time (model ws st) g.well) in
    let p : LookSpends (model ws st) (dropped q' ds) = subst (LookSpends (model ws st)) e (look_spends time (model ws st) g.well) in
    let w : waiting q'.streams ≡ (totals_at d.next).waiting = ap (λ (x : Queue). waiting x.streams) (sym h.next) ∙ model_waits d.next st h.shape in
    let v : waiting (model ws st).streams ≡ (totals_at ws).waiting = model_waits ws st g.shape in
    let u : suc (waiting q'.streams) ≡ waiting (model ws st).streams = f.1.0 in
    record {
      next_good = record {
        shape = h.shape;
        store_is = g.store_is ∙ ap (λ (o : Options). o.store_length) (sym h.options);
        well = subst Well (sym h.next) f.0;
      };
      next_waits = omega arith;
      next_pays = rw h.next p;
    }

module _ (st es₀ bs : List ℕ) (time size : ℕ) (le : event_words ≤ length es₀) (lb : size ≤ length bs) where
  -- the statement
  abbrev pub Passing : (n : ℕ) (ws : List ℕ) (vs : List Event) → Type 0
  Passing n ws vs = Passes st es₀ bs (pass_over (suc n) time size (model ws st) vs) (pass_over_words n ws st (written es₀ 0 vs) bs time size (length vs))

  passing_nothing : (n : ℕ) (ws : List ℕ) (vs : List Event) → Good ws st → length vs ≤ 2305 → look_ahead ws time ≡ words_look.Nothing → look time (model ws st) ≡ nothing → Passing n ws vs
  passing_nothing n ws vs g h a b = record {
    step = reply nothing_waits vs (model ws st);
    step_is = pass_turn n time size (model ws st) vs nothing b ∙ turn_nothing (λ (r : Queue) (ds : List Event). pass_over n time size r ds) size (model ws st) vs;
    sends = subst (Sends (reply nothing_waits vs (model ws st)) st es₀ bs) (pass_nothing ws st (written es₀ 0 vs) bs time size n (length vs) words_look.Nothing (sym a) refl h)
        (record { good = g; next = refl; answer = refl; events = refl; buffer = refl });
    answered = subst (λ (p : ProducedWith). refusal p.answer ≡ false) (pass_nothing ws st (written es₀ 0 vs) bs time size n (length vs) words_look.Nothing (sym a) refl h) refl;
  }

  passing_chosen : (n : ℕ) (ws : List ℕ) (vs : List Event) (g : Good ws st) → length vs + potential (model ws st) ≤ 2305 → (at : ℕ) (c : Choice ws st g.shape at)
      → look_ahead ws time ≡ words_look.Chosen at (entry_at ws at).stream_id (row_at ws c.pos)
      → look time (model ws st) ≡ chosen (entry_at ws at) (stream_in ws st c.pos) (item_in_words ws st c.first) (each (item_in_words ws st) c.rest) → Passing n ws vs
  passing_chosen n ws vs g h at c a b =
      let f : Chosen (model ws st) (entry_at ws at) (stream_in ws st c.pos) (item_in_words ws st c.first) (each (item_in_words ws st) c.rest) = subst (FineLook (model ws st)) b (fine_look time (model ws st) g.well) in
      let w : 1 ≤ (totals_at ws).waiting = head_waits ws st g.shape c.pos c.known c.first c.rest c.places_are in
      let v = model_waits ws st g.shape in
      let k : length vs ≤ 2303 = omega arith in
      let e : length vs + length (sent_events (model ws st) (stream_in ws st c.pos) (min (entry_at ws at).bytes_remaining size)) ≤ 2305 = omega (arith, sent_few (model ws st) (stream_in ws st c.pos) (min (entry_at ws at).bytes_remaining size)) in
      let o = hands_out ws st g at c es₀ bs vs size f le k e lb in
      record {
        step = o.step;
        step_is = pass_turn n time size (model ws st) vs (chosen (entry_at ws at) (stream_in ws st c.pos) (item_in_words ws st c.first) (each (item_in_words ws st) c.rest)) b
            ∙ turn_chosen (λ (r : Queue) (ds : List Event). pass_over n time size r ds) size (model ws st) vs (entry_at ws at) (stream_in ws st c.pos) (item_in_words ws st c.first) (each (item_in_words ws st) c.rest)
            ∙ o.step_is;
        sends = subst (Sends o.step st es₀ bs)
            (pass_chosen ws st (written es₀ 0 vs) bs time size n (length vs) (words_look.Chosen at (entry_at ws at).stream_id (row_at ws c.pos)) (sym a) at (entry_at ws at).stream_id (row_at ws c.pos) (handed_out_words ws st (written es₀ 0 vs) bs size (length vs) at (entry_at ws at).stream_id (row_at ws c.pos)) refl refl)
            o.sends;
        answered = subst (λ (p : ProducedWith). refusal p.answer ≡ false)
            (pass_chosen ws st (written es₀ 0 vs) bs time size n (length vs) (words_look.Chosen at (entry_at ws at).stream_id (row_at ws c.pos)) (sym a) at (entry_at ws at).stream_id (row_at ws c.pos) (handed_out_words ws st (written es₀ 0 vs) bs size (length vs) at (entry_at ws at).stream_id (row_at ws c.pos)) refl refl)
            o.answered;
      }

  -- an expired head: the rest is passed over after it
  passing_expired : (n : ℕ) (ws : List ℕ) (vs : List Event) (g : Good ws st) → length vs + potential (model ws st) ≤ 2305 → (totals_at ws).waiting ≤ suc n
      → ((us : List ℕ) (ts : List Event) → Good us st → length ts + potential (model us st) ≤ 2305 → (totals_at us).waiting ≤ n → Passing n us ts)
      → (at : ℕ) (c : Choice ws st g.shape at) → look_ahead ws time ≡ words_look.Expired (entry_at ws at).stream_id (row_at ws c.pos)
      → look time (model ws st) ≡ look_expired (model ws st) (stream_in ws st c.pos) (item_in_words ws st c.first) (each (item_in_words ws st) c.rest) → Passing (suc n) ws vs
  passing_expired n ws vs g h hw again at c a b =
      let ds : List Event = drop_head_events (model ws st) (stream_in ws st c.pos) (item_in_words ws st c.first) in
      let q' : Queue = drop_in (stream_in ws st c.pos).pause_state (model ws st) (stream_in ws st c.pos) (item_in_words ws st c.first) (each (item_in_words ws st) c.rest) in
      let e : look time (model ws st) ≡ dropped q' ds = drops ws st g at c time b in
      let p : LookSpends (model ws st) (dropped q' ds) = subst (LookSpends (model ws st)) e (look_spends time (model ws st) g.well) in
      let l : event_words ≤ length (written es₀ 0 vs) = rw (written_length es₀ 0 vs) le in
      let d : CalledWith = expired_dropped ws (written es₀ 0 vs) (length vs) (entry_at ws at).stream_id (row_at ws c.pos) in
      let x : HeadExpired ws st g at c (written es₀ 0 vs) (length vs) d = head_expired ws st g at c (written es₀ 0 vs) (length vs) l (omega arith) in
      let y : Next ws st d.next ds = next_of ws st (written es₀ 0 vs) g at c time (length vs) d x e in
      let z : length (vs ++ ds) ≡ length vs + length ds = length-append vs ds in
      let zero : length vs ≡ 0 + length vs = omega arith in
      let w : d.events ≡ written es₀ 0 (vs ++ ds) = x.events ∙ ap (λ k. written (written es₀ 0 vs) k ds) zero ∙ sym (written_append es₀ 0 vs ds) in
      let j : d.answer ≡ call.Accepted (length (vs ++ ds)) = x.answer ∙ ap call.Accepted (sym z) in
      let t : d ≡ called_with (call.Accepted (length (vs ++ ds))) d.next (written es₀ 0 (vs ++ ds)) = called_is d (call.Accepted (length (vs ++ ds))) (written es₀ 0 (vs ++ ds)) j w in
      let o = again d.next (vs ++ ds) y.next_good (omega (arith, y.next_pays)) (omega (arith, y.next_waits)) in
      record {
        step = o.step;
        step_is = pass_turn (suc n) time size (model ws st) vs (dropped q' ds) e
            ∙ turn_dropped (λ (r : Queue) (us : List Event). pass_over (suc n) time size r us) size (model ws st) q' vs ds
            ∙ ap (λ (r : Queue). pass_over (suc n) time size r (vs ++ ds)) (sym x.next)
            ∙ o.step_is;
        sends = subst (Sends o.step st es₀ bs) (sym (turn_expired n ws st (written es₀ 0 vs) bs d.next (written es₀ 0 (vs ++ ds)) time size (length vs) (length (vs ++ ds)) (entry_at ws at).stream_id (row_at ws c.pos) a t)) o.sends;
        answered = subst (λ (p : ProducedWith). refusal p.answer ≡ false) (sym (turn_expired n ws st (written es₀ 0 vs) bs d.next (written es₀ 0 (vs ++ ds)) time size (length vs) (length (vs ++ ds)) (entry_at ws at).stream_id (row_at ws c.pos) a t)) o.answered;
      }

  -- with no message waiting no head can expire
  none_waits : (ws : List ℕ) (g : Good ws st) (at : ℕ) (c : Choice ws st g.shape at) → (totals_at ws).waiting ≤ 0 → ⊥
  none_waits ws g at c h = omega (arith, head_waits ws st g.shape c.pos c.known c.first c.rest c.places_are)

  pub passes : (n : ℕ) (ws : List ℕ) (vs : List Event) → Good ws st → length vs + potential (model ws st) ≤ 2305 → (totals_at ws).waiting ≤ n → Passing n ws vs
  passes zero ws vs g h w = go (looks ws st g time)
    where
      go : Looks ws st g.shape time → Passing zero ws vs
      go (looks_nothing a b) = passing_nothing zero ws vs g (omega arith) a b
      go (looks_expired at c a b) = absurd (none_waits ws g at c w)
      go (looks_chosen at c a b) = passing_chosen zero ws vs g h at c a b
  passes (suc n) ws vs g h w = go (λ us ts gu hu wu. passes n us ts gu hu wu) (looks ws st g time)
    where
      go : ((us : List ℕ) (ts : List Event) → Good us st → length ts + potential (model us st) ≤ 2305 → (totals_at us).waiting ≤ n → Passing n us ts) → Looks ws st g.shape time → Passing (suc n) ws vs
      go again (looks_nothing a b) = passing_nothing (suc n) ws vs g (omega arith) a b
      go again (looks_expired at c a b) = passing_expired n ws vs g h w again at c a b
      go again (looks_chosen at c a b) = passing_chosen (suc n) ws vs g h at c a b
