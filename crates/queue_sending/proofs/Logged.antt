-- Passing over with a log: a turn of the loop, and the ways out of the functions that keep one. Assumes nothing.
use mathlib.Core.Path.{◌≡◌, refl, sym, ap, subst, ◌∙◌}
use mathlib.Core.Bool.{Bool, true, false}
use mathlib.Core.List.{List}
use Prim.Native.Nat.{ℕ, suc, ◌+◌, ◌-◌, ◌*◌, ◌≤◌, ◌<◌}
use native.Mathlib.Numerals.{add-one}
use native.Mathlib.Omega.{arith}
use borrow.Author.Tests.{ltb-false}
use lib.Dec.{ltb}
use lib.ListN.{length, drop}
use Rattle.queue_words.specs.Flags.{pick}
use Rattle.queue_words.specs.Items.{item_at}
use Rattle.queue_words.specs.Streams.{stream_at_words}
use Rattle.queue_streams.specs.Events.{place_words}
use Rattle.queue_streams.specs.Settings.{CalledWith, called_with}
use Rattle.queue_streams.specs.Call.{Call}
use Rattle.queue_streams.specs.Call as call
use Rattle.message_chains.specs.Amounts.{rest}
use Rattle.message_chains.specs.Dropping.{scheduled_behind, end_pending_words, behind_dropped, dropped_in_state}
use Rattle.message_chains.specs.Heads.{head_code, head_dropped, drop_notes}
use Rattle.message_chains.specs.Notes.{Notes, notes}
use Rattle.undo_log.specs.Log.{header, kept, undone, waiting_row, kept_drop}
use Rattle.undo_log.proofs.Changes.{drop_near, waiting_row_below}
use Rattle.undo_log.proofs.Steps.{kept_step, keeping_before}
use Rattle.queue_sending.specs.Choice.{look_ahead}
use Rattle.queue_sending.specs.Passing.{Kept}
use Rattle.queue_sending.specs.Produce.{expired_dropped}
use Rattle.queue_sending.specs.Look.{Look}
use Rattle.queue_sending.specs.Look as look
use Rattle.queue_sending.proofs.Counts.{Fits, Wrote, wrote_none, wrote_dropped}
use Rattle.queue_sending.proofs.Passes.{over_again}

other : (code j : ℕ) → call.Refused code ≡ call.Accepted j → ⊥
other code j e = let z : ◌≡◌ {A = ℕ} 0 1 = cc in omega arith

another : (code j : ℕ) → call.Accepted j ≡ call.Refused code → ⊥
another code j e = other code j (sym e)

-- the events that an answer counts
abbrev counted : Call → ℕ
counted (call.Accepted j) = j
counted (call.Refused code) = 0

-- ------------------------------------------------------------------ one drop

-- A drop after at most n events from k on: refused, it has changed nothing; accepted, it has written at most four more.
pub record Turn (m k n : ℕ) (es₀ ws es : List ℕ) (c : CalledWith) : Type 0 where
  pub stays : (code : ℕ) → c.answer ≡ call.Refused code → (c.next ≡ ws) × (c.events ≡ es)
  pub wrote : (j : ℕ) → c.answer ≡ call.Accepted j → Wrote m k (suc (suc (suc (suc n)))) es₀ (notes c.events j)

module _ (m k most n : ℕ) (fits : Fits m k most) (l : suc (suc (suc n)) < most) (es₀ ws es : List ℕ) (count : ℕ) (w : Wrote m k n es₀ (notes es count)) where
  turn_refused : (code : ℕ) → Turn m k n es₀ ws es (called_with (call.Refused code) ws es)
  turn_refused code = record { stays = λ c e. (refl, refl); wrote = λ j e. absurd (other code j e) }

  turn_accepted : (us : List ℕ) (x : Notes) → Wrote m k (suc (suc (suc (suc n)))) es₀ x → Turn m k n es₀ ws es (called_with (call.Accepted x.count) us x.events)
  turn_accepted us x g = record {
    stays = λ c e. absurd (another c x.count e);
    wrote = λ j e. subst (λ (i : ℕ). Wrote m k (suc (suc (suc (suc n)))) es₀ (notes x.events i)) (ap counted e) g;
  }

  turn_pick : (b : Bool) (x y : CalledWith) → Turn m k n es₀ ws es x → Turn m k n es₀ ws es y → Turn m k n es₀ ws es (pick b x y)
  turn_pick true x y f g = f
  turn_pick false x y f g = g

  pub expired_turn : (id row : ℕ) → Turn m k n es₀ ws es (expired_dropped ws es count id row)
  unfolding expired_dropped dropped_in_state behind_dropped
  expired_turn id row =
      let s = stream_at_words ws row in
      let i = item_at ws s.first in
      let o = scheduled_behind ws id s i.next in
      let x = drop_notes o.next es count id s (rest i) i.lifecycle_id in
      turn_pick (ltb 255 row) _ _ (turn_refused 16)
      (turn_pick (ltb 1023 s.first) _ _ (turn_refused 16)
      (turn_pick (ltb 0 (head_code ws s s.first i.next (rest i))) _ _ (turn_refused (head_code ws s s.first i.next (rest i)))
      (turn_pick o.done _ _ (turn_accepted (head_dropped o.next row s (end_pending_words s.pause_state) i) x (wrote_dropped m k most fits es₀ n (notes es count) o.next id s (rest i) i.lifecycle_id l w)) (turn_refused 16))))

-- A drop that was done is undone from the log.
expired_back : (log : List ℕ) (d : ℕ) (ws es : List ℕ) (count id row : ℕ) → d * 20 + 20 ≤ length log → length ws ≡ 20768
    → (j : ℕ) → (expired_dropped ws es count id row).answer ≡ call.Accepted j
    → drop header (undone (kept_drop log d ws id row) (suc d) (expired_dropped ws es count id row).next) ≡ drop header (undone log d ws)
unfolding expired_dropped kept_drop
expired_back log d ws es count id row fits long j e = by (ltb 255 row) (ltb 1023 (stream_at_words ws row).first) refl refl e
  where
    none : CalledWith
    none = called_with (call.Refused 16) ws es

    done : CalledWith
    done = dropped_in_state ws es count id row (stream_at_words ws row) (item_at ws (stream_at_words ws row).first)

    by : (a b : Bool) → ltb 255 row ≡ a → ltb 1023 (stream_at_words ws row).first ≡ b → (pick a none (pick b none done)).answer ≡ call.Accepted j
        → drop header (undone (pick a log (pick b log (kept log d ws row (stream_at_words ws row).first (waiting_row ws id)))) (suc d) (pick a none (pick b none done)).next) ≡ drop header (undone log d ws)
    by true b g h q = absurd (other 16 j q)
    by false true g h q = absurd (other 16 j q)
    by false false g h q =
        kept_step log d ws row (stream_at_words ws row).first (waiting_row ws id) fits done.next long (omega (arith, ltb-false 255 row g)) (omega (arith, ltb-false 1023 (stream_at_words ws row).first h)) (waiting_row_below ws id)
        (drop_near ws es count id row (stream_at_words ws row) (item_at ws (stream_at_words ws row).first))

-- ------------------------------------------------------------------ the loop

-- where the loop stands between two turns
pub record Going (room : ℕ) (ws es : List ℕ) (time n k : ℕ) (log us vs : List ℕ) (left count drops : ℕ) : Type 0 where
  pub so_far : Kept room ws es time n k log us vs left count drops
  pub wrote : (m : ℕ) → (k + room * 4) * place_words ≤ m → Wrote m k (drops * 4) es (notes vs count)

module _ (room : ℕ) (ws es : List ℕ) (time n k : ℕ) where
  pub going_start : (log : List ℕ) → Going room ws es time n k log ws es n k 0
  unfolding undone
  going_start log = record {
    so_far = record { few = omega arith; over = refl; back = refl; behind = λ m h. refl };
    wrote = λ m h. wrote_none m k es;
  }

  room_fits : (m : ℕ) → (k + room * 4) * place_words ≤ m → Fits m k (room * 4)
  room_fits m h j a b = omega (arith, h, b)

  module _ (log us vs : List ℕ) (left count drops : ℕ) (g : Going room ws es time n k log us vs left count drops) (id row : ℕ) (log' : List ℕ) (el : log' ≡ kept_drop log drops us id row)
      (d : Call) (us' vs' : List ℕ) (ed : called_with d us' vs' ≡ expired_dropped us vs count id row) (fits : drops * 20 + 20 ≤ length log) (few : drops < room) where
    turn : (m : ℕ) → (k + room * 4) * place_words ≤ m → Turn m k (drops * 4) es us vs (called_with d us' vs')
    turn m h =
        subst (λ (c : CalledWith). Turn m k (drops * 4) es us vs c) (sym ed)
        (expired_turn m k (room * 4) (drops * 4) (room_fits m h) (omega (arith, few)) es us vs count (g.wrote m h) id row)

    pub going_on : (f : Look) → f ≡ look_ahead us time → f ≡ look.Expired id row → (left ≡ 0 → ⊥) → length us ≡ 20768 → (j : ℕ) → d ≡ call.Accepted j
        → Going room ws es time n k log' us' vs' (left - 1) j (drops + 1)
    going_on f ef e nz long j a = record {
      so_far = record {
        few = omega (arith, few);
        over = over_again us vs time left count f ef id row e nz d us' vs' ed j _ a refl ∙ g.so_far.over;
        back = back;
        behind = λ m h. (wrote m h).far;
      };
      wrote = wrote;
    }
      where
        wrote : (m : ℕ) → (k + room * 4) * place_words ≤ m → Wrote m k ((drops + 1) * 4) es (notes vs' j)
        wrote m h =
            let q : suc (suc (suc (suc (drops * 4)))) ≡ (drops + 1) * 4 = omega arith in
            subst (λ (x : ℕ). Wrote m k x es (notes vs' j)) q ((turn m h).wrote j a)

        back : drop header (undone log' (drops + 1) us') ≡ drop header ws
        back =
            let q : drop header (undone (kept_drop log drops us id row) (suc drops) (expired_dropped us vs count id row).next) ≡ drop header (undone log drops us) =
            expired_back log drops us vs count id row fits long j (ap (λ (c : CalledWith). c.answer) (sym ed) ∙ a) in
            rw (el, add-one, ap (λ (c : CalledWith). c.next) ed) q ∙ g.so_far.back

    pub going_stopped : (f : Look) → f ≡ look_ahead us time → (code : ℕ) → d ≡ call.Refused code → (f ≡ look_ahead us' time) × Kept room ws es time n k log' us' vs' left count drops
    going_stopped f ef code a = (ef ∙ ap (λ (l : List ℕ). look_ahead l time) (sym eu), kept_so)
      where
        eu : us' ≡ us
        eu = ((turn ((k + room * 4) * place_words) (omega arith)).stays code a).0

        ev : vs' ≡ vs
        ev = ((turn ((k + room * 4) * place_words) (omega arith)).stays code a).1

        kept_so : Kept room ws es time n k log' us' vs' left count drops
        kept_so = record {
          few = g.so_far.few;
          over = rw (eu, ev) g.so_far.over;
          back = rw (el, eu, keeping_before log drops us id row us fits) g.so_far.back;
          behind = λ m h. rw ev (g.so_far.behind m h);
        }
