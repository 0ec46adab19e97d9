-- From the words of a queue: a look is not broken, an expired head may be dropped, and what that leaves. Assumes nothing.
use mathlib.Core.Path.{◌≡◌, refl, sym, ap, ◌∙◌, subst}
use mathlib.Core.List.{List}
use Prim.Native.Nat.{ℕ, suc, ◌+◌, ◌<◌}
use native.Mathlib.Omega.{arith}
use borrow.Author.Tests.{le-ltb}
use lib.ListN.{length}
use Rattle.queue_words.specs.Header.{totals_at}
use Rattle.queue_words.specs.Items.{item_at}
use Rattle.queue_words.specs.Streams.{stream_at_words}
use Rattle.queue_model.specs.Types.{Event, Queue}
use Rattle.queue_model.specs.Amounts.{drop_head_events}
use Rattle.queue_model.specs.Produce.{dropped, drop_in, look, look_expired}
use Rattle.queue_model.proofs.Invariant.Events.{LookSpends, look_spends}
use Rattle.stream_scheduler.specs.Link.{entry_at}
use Rattle.queue_streams.specs.Events.{written}
use Rattle.queue_streams.specs.Settings.{CalledWith, called_with}
use Rattle.queue_streams.specs.Call.{Accepted}
use Rattle.message_chains.specs.Dropping.{dropped_in_state, MayDrop}
use Rattle.message_chains.proofs.Own.{may_drop}
use Rattle.queue_sending.specs.Choice.{look_ahead}
use Rattle.queue_sending.specs.Own.{look_of, Unbroken}
use Rattle.queue_sending.specs.Produce.{expired_dropped, pass_over_words}
use Rattle.queue_sending.specs.Look as words_look
use Rattle.queue_sending.specs.declared.choice.Ahead.{Ahead}
use Rattle.queue_sending.specs.declared.choice.Ahead.TheVariants as ahead
use Rattle.queue_state.specs.Chains.{each}
use Rattle.queue_state.specs.Model.{item_in_words, row_at, stream_in, model}
use Rattle.queue_state.specs.Good.{Good}
use Rattle.queue_state.proofs.Frames.{row_below}
use Rattle.queue_state.proofs.Notes.{written_length}
use Rattle.linked_sending.proofs.Looking.{Choice, Looks, looks_nothing, looks_expired, looks_chosen, looks}
use Rattle.linked_sending.proofs.Expired.{HeadExpired, head_expired}
use Rattle.linked_sending.proofs.Passing.{drops, Next, next_of, turn_expired}
use Rattle.owned_sending.specs.Passing.{Payable, PassedTo}
use Rattle.owned_sending.specs.declared.passing.Turn.TheVariants as turn

pub unbroken : (ws st : List ℕ) → Good ws st → (time : ℕ) → Unbroken (look_ahead ws time)
unbroken ws st g time e = go (looks ws st g time)
  where
    go : Looks ws st g.shape time → ⊥
    go (looks_nothing a b) = let z : ◌≡◌ {A = ℕ} 0 1 = cc (e, a) in omega arith
    go (looks_expired at c a b) = let z : ◌≡◌ {A = ℕ} 0 1 = cc (e, a) in omega arith
    go (looks_chosen at c a b) = let z : ◌≡◌ {A = ℕ} 0 1 = cc (e, a) in omega arith

-- ---- one expired head

-- What a drop leaves: a queue with one message fewer, and what passing over leaves from there on is what it leaves from here on.
pub record Left (ws st es : List ℕ) (time k : ℕ) (us vs : List ℕ) (j : ℕ) : Type 0 where
  pub ready : Payable us st vs j
  pub fewer : suc (totals_at us).waiting ≡ (totals_at ws).waiting
  pub long : length vs ≡ length es
  pub same : (bs : List ℕ) (size : ℕ) → pass_over_words (totals_at us).waiting us st vs bs time size j ≡ pass_over_words (totals_at ws).waiting ws st es bs time size k

pub record OneDropped (ws st es : List ℕ) (time k id row : ℕ) : Type 0 where
  pub may : MayDrop ws id row
  pub leaves : (j : ℕ) (us vs : List ℕ) → called_with (Accepted j) us vs ≡ dropped_in_state ws es k id row (stream_at_words ws row) (item_at ws (stream_at_words ws row).first) → Left ws st es time k us vs j

expired_is : (ws es : List ℕ) (k id row : ℕ) → row < 256 → (stream_at_words ws row).first < 1024
    → expired_dropped ws es k id row ≡ dropped_in_state ws es k id row (stream_at_words ws row) (item_at ws (stream_at_words ws row).first)
unfolding expired_dropped
expired_is ws es k id row hr hf = rw (le-ltb 255 row (omega arith), le-ltb 1023 (stream_at_words ws row).first (omega arith))

accepted_same : (i j : ℕ) → Accepted i ≡ Accepted j → i ≡ j
accepted_same i j e = cc

module _ (ws st es : List ℕ) (time k : ℕ) (y : Payable ws st es k) where
  abbrev g : Good ws st
  g = y.good

  module _ (at : ℕ) (c : Choice ws st y.good.shape at) (a : look_ahead ws time ≡ words_look.Expired (entry_at ws at).stream_id (row_at ws c.pos))
      (b : look time (model ws st) ≡ look_expired (model ws st) (stream_in ws st c.pos) (item_in_words ws st c.first) (each (item_in_words ws st) c.rest)) where
    abbrev id : ℕ
    id = (entry_at ws at).stream_id

    abbrev row : ℕ
    row = row_at ws c.pos

    abbrev ds : List Event
    ds = drop_head_events (model ws st) (stream_in ws st c.pos) (item_in_words ws st c.first)

    abbrev q' : Queue
    q' = drop_in (stream_in ws st c.pos).pause_state (model ws st) (stream_in ws st c.pos) (item_in_words ws st c.first) (each (item_in_words ws st) c.rest)

    abbrev d : CalledWith
    d = expired_dropped ws es k (entry_at ws at).stream_id (row_at ws c.pos)

    in_rows : row_at ws c.pos < 256
    in_rows = row_below ws st y.good.shape c.pos c.known

    in_table_lem : (stream_at_words ws (row_at ws c.pos)).first < 1024
    in_table_lem = omega (arith, c.first_fits, c.first_is)

    drops_it : look time (model ws st) ≡ dropped q' ds
    drops_it = drops ws st y.good at c time b

    spends : LookSpends (model ws st) (dropped q' ds)
    spends = subst (LookSpends (model ws st)) drops_it (look_spends time (model ws st) y.good.well)

    head_gone : HeadExpired ws st y.good at c es k d
    head_gone = let p = spends in head_expired ws st y.good at c es k y.places (omega (arith, y.paid))

    next_is : Next ws st d.next ds
    next_is = next_of ws st es y.good at c time k d head_gone drops_it

    words_are : d ≡ dropped_in_state ws es k id row (stream_at_words ws row) (item_at ws (stream_at_words ws row).first)
    words_are = expired_is ws es k id row in_rows in_table_lem

    leaves_it : (j : ℕ) (us vs : List ℕ) → called_with (Accepted j) us vs ≡ dropped_in_state ws es k id row (stream_at_words ws row) (item_at ws (stream_at_words ws row).first) → Left ws st es time k us vs j
    leaves_it j us vs e =
        let f : called_with (Accepted j) us vs ≡ d = e ∙ sym words_are in
        let eu : d.next ≡ us = ap (λ (x : CalledWith). x.next) (sym f) in
        let ev : vs ≡ written es k ds = ap (λ (x : CalledWith). x.events) f ∙ head_gone.events in
        let ej : j ≡ k + length ds = accepted_same j (k + length ds) (ap (λ (x : CalledWith). x.answer) f ∙ head_gone.answer) in
        let n = subst (λ (x : List ℕ). Next ws st x ds) eu next_is in
        let l : length vs ≡ length es = ap length ev ∙ written_length es k ds in
        record {
          ready = record { good = n.next_good; paid = omega (arith, n.next_pays, y.paid); places = omega (arith, y.places) };
          fewer = n.next_waits;
          long = l;
          same = λ bs size. sym (turn_expired (totals_at us).waiting ws st es bs us vs time size k j id row a (sym f)) ∙ ap (λ (m : ℕ). pass_over_words m ws st es bs time size k) n.next_waits;
        }

    one_dropped : OneDropped ws st es time k (entry_at ws at).stream_id (row_at ws c.pos)
    one_dropped = record {
      may = may_drop ws es k id row (k + length ds) in_rows in_table_lem (ap (λ (x : CalledWith). x.answer) (sym words_are) ∙ head_gone.answer);
      leaves = leaves_it;
    }

  pub drop_one : (id row : ℕ) → look_ahead ws time ≡ words_look.Expired id row → OneDropped ws st es time k id row
  drop_one id row e = go (looks ws st y.good time)
    where
      go : Looks ws st y.good.shape time → OneDropped ws st es time k id row
      go (looks_nothing a b) = let z : ◌≡◌ {A = ℕ} 0 1 = cc (e, a) in absurd (omega arith)
      go (looks_chosen at c a b) = let z : ◌≡◌ {A = ℕ} 0 1 = cc (e, a) in absurd (omega arith)
      go (looks_expired at c a b) =
          let ei : (entry_at ws at).stream_id ≡ id = cc (e, a) in
          let er : row_at ws c.pos ≡ row = cc (e, a) in
          subst (λ (x : ℕ). OneDropped ws st es time k id x) er (subst (λ (x : ℕ). OneDropped ws st es time k x (row_at ws c.pos)) ei (one_dropped at c a b))

-- ---- the loop

-- Where passing over stands.
pub record Passed (ws st es : List ℕ) (time k : ℕ) (us vs : List ℕ) (j : ℕ) : Type 0 where
  pub now_ready : Payable us st vs j
  pub now_long : length vs ≡ length es
  pub now_same : (bs : List ℕ) (size : ℕ) → pass_over_words (totals_at us).waiting us st vs bs time size j ≡ pass_over_words (totals_at ws).waiting ws st es bs time size k

pub at_first : (ws st es : List ℕ) (time k : ℕ) → Payable ws st es k → Passed ws st es time k ws es k
at_first ws st es time k y = record { now_ready = y; now_long = refl; now_same = λ bs size. refl }

module _ (ws st es : List ℕ) (time k : ℕ) (us vs : List ℕ) (j : ℕ) (p : Passed ws st es time k us vs j) (f : Ahead) (ef : look_of f ≡ look_ahead us time) where
  pub ends_nothing : f ≡ ahead.Nothing → PassedTo ws st es time k (turn.Nothing j) us vs
  ends_nothing e = record { ready = p.now_ready; looked = rw e at ef; same = p.now_same }

  pub ends_head : (at id row : ℕ) → f ≡ ahead.Chosen at id row → PassedTo ws st es time k (turn.Head j at id row) us vs
  ends_head at id row e = record { ready = p.now_ready; looked = rw e at ef; same = p.now_same }

  module _ (id row : ℕ) (e : f ≡ ahead.Expired id row) where
    one : OneDropped us st vs time j id row
    one = drop_one us st vs time j p.now_ready id row (sym (rw e at ef))

    pub may_go_lem : MayDrop us id row
    may_go_lem = one.may

    module _ (i : ℕ) (xs ys : List ℕ) (ed : called_with (Accepted i) xs ys ≡ dropped_in_state us vs j id row (stream_at_words us row) (item_at us (stream_at_words us row).first)) where
      left : Left us st vs time j xs ys i
      left = one.leaves i xs ys ed

      pub goes_on : Passed ws st es time k xs ys i
      goes_on = record { now_ready = left.ready; now_long = left.long ∙ p.now_long; now_same = λ bs size. left.same bs size ∙ p.now_same bs size }

      pub fewer_wait : (totals_at xs).waiting < (totals_at us).waiting
      fewer_wait = omega (arith, left.fewer)
