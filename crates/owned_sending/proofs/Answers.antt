-- The ways out of the next fragment of an owned queue. Assumes nothing.
use mathlib.Core.Path.{◌≡◌, refl, sym, ap, ◌∙◌, subst}
use mathlib.Core.Bool.{Bool, true, false}
use mathlib.Core.List.{List}
use mathlib.Core.Logic.{◌⊎◌, inl, inr}
use Prim.Native.Nat.{ℕ, ◌+◌, ◌≤◌, ◌<◌}
use native.Mathlib.Omega.{arith}
use borrow.Author.Tests.{lt-ltb, le-ltb, eq-eqb, ltb-false}
use lib.Dec.{ltb, eqb}
use lib.ListN.{length}
use Rattle.queue_words.specs.Flags.{pick}
use Rattle.queue_words.specs.Header.{options_at, totals_at}
use Rattle.queue_model.proofs.Invariant.Events.{potential, potential_fits}
use Rattle.queue_model.proofs.Invariant.Sends.{FineLook, Chosen, fine_look}
use Rattle.stream_scheduler.specs.Link.{entry_at}
use Rattle.stream_scheduler.specs.Own.{HasRow}
use Rattle.queue_streams.specs.Events.{event_words}
use Rattle.queue_sending.specs.Answers.{made_of}
use Rattle.queue_sending.specs.Data.{ProducedWith, produced_with, produced_number}
use Rattle.queue_sending.specs.Fragment.{chosen_code, handed_out_words}
use Rattle.queue_sending.specs.Produce.{lent_code, produce_code, pass_over_words, produced_after, produce_next, refusal}
use Rattle.queue_sending.specs.Look as words_look
use Rattle.queue_sending.specs.declared.data.DataToSend.{DataToSend}
use Rattle.queue_sending.specs.Produced.{Produced}
use Rattle.queue_sending.specs.Produced as checked
use Rattle.queue_sending.specs.declared.data.Produced as made
use Rattle.queue_sending.specs.declared.data.Produced.TheVariants as made_is
use Rattle.queue_sending.proofs.Ahead.{chosen_row}
use Rattle.queue_sending.proofs.Passes.{pass_nothing, pass_chosen, after_passes}
use Rattle.queue_state.specs.Chains.{each}
use Rattle.queue_state.specs.Model.{item_in_words, row_at, stream_in, model}
use Rattle.queue_state.specs.Good.{Good}
use Rattle.queue_state.proofs.Heads.{head_waits}
use Rattle.linked_sending.proofs.Looking.{Looks, looks_nothing, looks_expired, looks_chosen, looks}
use Rattle.linked_sending.proofs.Passing.{model_waits}
use Rattle.linked_sending.proofs.Produces.{settled_same, produce_meets}
use Rattle.linked_sending.proofs.Sent.{may_hand}
use Rattle.owned_sending.specs.Passing.{Payable, PassedTo}
use Rattle.owned_sending.specs.Produce.{Lent, OwnedProduce}
use Rattle.owned_sending.specs.declared.passing.Turn.{Turn}
use Rattle.owned_sending.specs.declared.passing.Turn.TheVariants as turn

-- ---- the refusals

lent_fits : (places room time size : ℕ) → lent_code places room time size ≤ 0 → (event_words ≤ places) × (size ≤ room)
lent_fits places room time size h =
    go (ltb places event_words) refl (ltb 4611686018427387903 time) (eqb size 0) (ltb 262144 size) (ltb room size) refl h
  where
    go : (a : Bool) → ltb places event_words ≡ a → (b c d f : Bool) → ltb room size ≡ f → pick a 3 (pick b 4 (pick c 9 (pick d 9 (pick f 10 0)))) ≤ 0 → (event_words ≤ places) × (size ≤ room)
    go true ea b c d f ef h = absurd (omega arith)
    go false ea true c d f ef h = absurd (omega arith)
    go false ea false true d f ef h = absurd (omega arith)
    go false ea false false true f ef h = absurd (omega arith)
    go false ea false false false true ef h = absurd (omega arith)
    go false ea false false false false ef h = (ltb-false places event_words ea, ltb-false room size ef)

-- they are these four, and no other
pub lent_listed : (code : ℕ) → Lent code → (code ≡ 3) ⊎ ((code ≡ 4) ⊎ ((code ≡ 9) ⊎ (code ≡ 10)))
lent_listed code l =
    go (ltb l.places event_words) (ltb 4611686018427387903 l.time) (eqb l.size 0) (ltb 262144 l.size) (ltb l.room l.size) l.is_code
  where
    go : (a b c d f : Bool) → code ≡ pick a 3 (pick b 4 (pick c 9 (pick d 9 (pick f 10 0)))) → (code ≡ 3) ⊎ ((code ≡ 4) ⊎ ((code ≡ 9) ⊎ (code ≡ 10)))
    go true b c d f e = inl e
    go false true c d f e = inr (inl e)
    go false false true d f e = inr (inr (inl e))
    go false false false true f e = inr (inr (inl e))
    go false false false false true e = inr (inr (inr e))
    go false false false false false e = absurd (omega (arith, e, l.is_refused))

-- none of the four is 16
lent_fine : (code : ℕ) → Lent code → code ≡ 16 → ⊥
lent_fine code l z =
    go (ltb l.places event_words) (ltb 4611686018427387903 l.time) (eqb l.size 0) (ltb 262144 l.size) (ltb l.room l.size) l.is_code
  where
    go : (a b c d f : Bool) → code ≡ pick a 3 (pick b 4 (pick c 9 (pick d 9 (pick f 10 0)))) → ⊥
    go true b c d f e = omega (arith, z, e)
    go false true c d f e = omega (arith, z, e)
    go false false true d f e = omega (arith, z, e)
    go false false false true f e = omega (arith, z, e)
    go false false false false true e = omega (arith, z, e)
    go false false false false false e = omega (arith, z, e)

never_sixteen : (r : Produced) → ((n : ℕ) → r ≡ checked.Refused n → Lent n) → produced_number r ≡ 16 → ⊥
never_sixteen (checked.Nothing k) l e = omega arith
never_sixteen (checked.Fragment k d) l e = omega arith
never_sixteen (checked.Refused n) l e = lent_fine n (l n refl) e

-- what is made is no refusal
not_refused : (m : made.Produced) (n : ℕ) → made_of m ≡ checked.Refused n → Lent n
not_refused (made_is.Nothing k) n e = let z : ◌≡◌ {A = ℕ} 0 1 = cc e in absurd (omega arith)
not_refused (made_is.Fragment k d) n e = let z : ◌≡◌ {A = ℕ} 0 1 = cc e in absurd (omega arith)

refused_same : (i j : ℕ) → checked.Refused i ≡ checked.Refused j → i ≡ j
refused_same i j e = cc

-- ---- after events of earlier calls

module _ (ws st es bs : List ℕ) (time size k : ℕ) (y : Payable ws st es k) where
  few : (totals_at ws).waiting ≤ 1024
  few = omega (arith, y.good.well.messages_few, model_waits ws st y.good.shape)

  -- what passing over leaves, where it is no refusal
  settles : (p : ProducedWith) → p ≡ pass_over_words (totals_at ws).waiting ws st es bs time size k → refusal p.answer ≡ false → p ≡ produced_after ws st es bs time size k
  settles p e h =
      let x : ProducedWith = pass_over_words (totals_at ws).waiting ws st es bs time size k in
      e ∙ sym (after_passes ws st es bs time size k (omega (arith, y.paid)) few ∙ settled_same ws es bs x (ap (λ (o : ProducedWith). refusal o.answer) (sym e) ∙ h))

  module _ (t : Turn) (us vs : List ℕ) (p : PassedTo ws st es time k t us vs) where
    pub after_nothing : (j : ℕ) → t ≡ turn.Nothing j → produced_with (checked.Nothing j) us vs bs ≡ produced_after ws st es bs time size k
    after_nothing j e =
        let q : PassedTo ws st es time k (turn.Nothing j) us vs = subst (λ (x : Turn). PassedTo ws st es time k x us vs) e p in
        settles (produced_with (checked.Nothing j) us vs bs)
        (pass_nothing us st vs bs time size (totals_at us).waiting j words_look.Nothing q.looked refl (omega (arith, q.ready.paid)) ∙ q.same bs size) refl

    module _ (j at id row : ℕ) (e : t ≡ turn.Head j at id row) (hb : size ≤ length bs) where
      q : PassedTo ws st es time k (turn.Head j at id row) us vs
      q = subst (λ (x : Turn). PassedTo ws st es time k x us vs) e p

      may_go_lem : chosen_code us (length st) (length bs) size j at row ≡ 0
      may_go_lem = go (looks us st q.ready.good time)
        where
          g : Good us st
          g = q.ready.good

          go : Looks us st q.ready.good.shape time → chosen_code us (length st) (length bs) size j at row ≡ 0
          go (looks_nothing a b) = let z : ◌≡◌ {A = ℕ} 0 1 = cc (q.looked, a) in absurd (omega arith)
          go (looks_expired at' c a b) = let z : ◌≡◌ {A = ℕ} 0 1 = cc (q.looked, a) in absurd (omega arith)
          go (looks_chosen at' c a b) =
              let sa : at' ≡ at = cc (q.looked, a) in
              let sr : row_at us c.pos ≡ row = cc (q.looked, a) in
              let f : Chosen (model us st) (entry_at us at') (stream_in us st c.pos) (item_in_words us st c.first) (each (item_in_words us st) c.rest) = subst (FineLook (model us st)) b (fine_look time (model us st) q.ready.good.well) in
              let w : 1 ≤ (totals_at us).waiting = head_waits us st q.ready.good.shape c.pos c.known c.first c.rest c.places_are in
              let v = model_waits us st q.ready.good.shape in
              let h : j + potential (model us st) ≤ 2305 = q.ready.paid in
              let m : j ≤ 2303 = omega arith in
              subst (λ (x : ℕ). chosen_code us (length st) (length bs) size j at x ≡ 0) sr
              (subst (λ (x : ℕ). chosen_code us (length st) (length bs) size j x (row_at us c.pos) ≡ 0) sa (may_hand us st q.ready.good at' c bs j size f m hb))

      pub head_may_go : (chosen_code us (length st) (length bs) size j at row ≡ 0) × HasRow us at
      head_may_go = (may_go_lem, chosen_row us time at id row q.looked)

      pub after_head : (i : ℕ) (d : DataToSend) (xs ys zs : List ℕ) → produced_with (checked.Fragment i d) xs ys zs ≡ handed_out_words us st vs bs size j at id row
          → produced_with (checked.Fragment i d) xs ys zs ≡ produced_after ws st es bs time size k
      after_head i d xs ys zs eh =
          settles (produced_with (checked.Fragment i d) xs ys zs)
          (pass_chosen us st vs bs time size (totals_at us).waiting j (words_look.Chosen at id row) q.looked at id row (produced_with (checked.Fragment i d) xs ys zs) refl eh ∙ q.same bs size) refl

-- ---- the call

module _ (ws st es bs : List ℕ) (time size : ℕ) (g : Good ws st) where
  code_same : produce_code ws (length st) (length es) (length bs) time size ≡ lent_code (length es) (length bs) time size
  unfolding produce_code
  code_same = rw (eq-eqb (options_at ws).store_length (length st) (sym g.store_is))

  meets : (r : Produced) (us vs u : List ℕ) → produced_with r us vs u ≡ produce_next ws st es bs time size → ((n : ℕ) → r ≡ checked.Refused n → Lent n) → OwnedProduce ws st es bs time size r us vs u
  meets r us vs u e l =
      let y = produce_meets ws st es bs time size r us vs u e in
      record { words = e; tells = y.tells g; model = y.model g; lent = l; no_sixteen = never_sixteen r l }

  module _ (code : ℕ) (ec : code ≡ lent_code (length es) (length bs) time size) where
    code_is : produce_code ws (length st) (length es) (length bs) time size ≡ code
    code_is = code_same ∙ sym ec

    pub lent_of : 0 < code → Lent code
    lent_of h = record { places = length es; room = length bs; time = time; size = size; is_code = ec; is_refused = h }

    pub out_refused : 0 < code → OwnedProduce ws st es bs time size (checked.Refused code) ws es bs
    unfolding produce_next
    out_refused h = meets (checked.Refused code) ws es bs refused_is (λ n e. subst Lent (refused_same code n e) (lent_of h))
      where
        refused_is : produced_with (checked.Refused code) ws es bs ≡ produce_next ws st es bs time size
        refused_is = rw (code_is, lt-ltb 0 code h)

    module _ (h : code ≤ 0) where
      pub now_payable : Payable ws st es 0 × (size ≤ length bs)
      now_payable =
          let f = lent_fits (length es) (length bs) time size (subst (λ (x : ℕ). x ≤ 0) ec h) in
          (record { good = g; paid = omega (arith, potential_fits (model ws st) g.well); places = f.0 }, f.1)

      pub out_made : (m : made.Produced) (us vs u : List ℕ) → produced_with (made_of m) us vs u ≡ produced_after ws st es bs time size 0 → OwnedProduce ws st es bs time size (made_of m) us vs u
      unfolding produce_next
      out_made m us vs u em = meets (made_of m) us vs u made_is (not_refused m)
        where
          made_is : produced_with (made_of m) us vs u ≡ produce_next ws st es bs time size
          made_is = rw (code_is, le-ltb 0 code h) em
