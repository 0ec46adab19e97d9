-- The ways out of the whole-queue reset, over plain values. Assumes nothing.
use mathlib.Core.Path.{◌≡◌, sym, ap, ◌∙◌}
use mathlib.Core.Bool.{Bool, true, false}
use mathlib.Core.List.{List}
use Prim.Native.Nat.{ℕ, ◌≤◌, ◌<◌}
use lib.Dec.{ltb}
use borrow.Author.Tests.{lt-ltb, ltb-false}
use Rattle.queue_words.specs.Header.{options_at, totals_at, put_totals}
use Rattle.queue_words.specs.declared.header.Options.{Options}
use Rattle.queue_words.specs.declared.header.Totals.{Totals}
use Rattle.queue_words.specs.declared.known.Known.{Known}
use Rattle.queue_words.specs.declared.streams.OutgoingStream.{OutgoingStream}
use Rattle.queue_words.specs.Streams.{stream_at_words, put_stream_words}
use Rattle.queue_streams.specs.Settings.{called}
use Rattle.queue_streams.specs.Waiting.{room_for}
use Rattle.queue_streams.specs.Call.{Accepted, Refused}
use Rattle.queue_streams.specs.Settled.{reschedule_done}
use Rattle.queue_streams.proofs.Restarts.{not_stopped}
use Rattle.queue_restarts.specs.Reset.{put_back, whole_stream, whole_head_words, reset_in, reset_at, sum_all, reset_all, with_total, sum_of, reset_with, reset_queue}
use Rattle.queue_restarts.specs.Settled.{reset_done_in, reset_done_at}
use Rattle.queue_restarts.specs.declared.whole.Sum.{Sum}

-- What a done step says: the place is in its table, and behind it no step was refused.
module _ (strict : Bool) (ws : List ℕ) (il : Bool) (k : Known) (d : reset_done_at strict ws il k ≡ true) where
  at : (ltb 255 k.place ≡ false) × (reset_done_in strict ws il k.id.0 k.place (stream_at_words ws k.place) ≡ true)
  unfolding reset_done_at
  at = not_stopped (ltb 255 k.place) _ d

  pub reset_placed : k.place ≤ 255
  reset_placed = ltb-false 255 k.place at.0

  pub reset_done_in_lem : (s : OutgoingStream) → s ≡ stream_at_words ws k.place → reset_done_in strict ws il k.id.0 k.place s ≡ true
  reset_done_in_lem s es = ap (reset_done_in strict ws il k.id.0 k.place) es ∙ at.1

  pub reset_inside : (s : OutgoingStream) (l : List ℕ) → s ≡ stream_at_words ws k.place → l ≡ reset_in strict ws il k.id.0 k.place s → l ≡ reset_at strict ws il k.id.0 k.place
  unfolding reset_at
  reset_inside s l es el = rw (at.0, ← es, el)

-- A stream with messages, put back whole: it can be let wait.
pub reset_waits : (strict : Bool) (ws : List ℕ) (il : Bool) (id place : ℕ) (s o : OutgoingStream) (back : ℕ) (us vs : List ℕ) → reset_done_in strict ws il id place s ≡ true
    → back ≡ put_back ws s.first → o ≡ whole_stream s back → us ≡ put_stream_words ws place o → s.first < 1024 → vs ≡ whole_head_words strict us s.first
    → reschedule_done vs il id s.first s.priority ≡ true
unfolding reset_done_in
reset_waits strict ws il id place s o back us vs d eb eo eu f ev =
    let e : reset_done_in strict ws il id place s ≡ reschedule_done vs il id s.first s.priority = rw (lt-ltb _ _ f, ev, eu, eo, eb) in
    sym e ∙ d

pub reset_written : (ws : List ℕ) (t : Totals) (total : ℕ) (o : Options) (us l : List ℕ) → t ≡ totals_at ws → o ≡ options_at ws → us ≡ put_totals ws (with_total t total)
    → l ≡ reset_all o.strict_restart t.interleaving us t.known → l ≡ reset_with ws total
reset_written ws t total o us l et eo eu el = rw (el, eu, et, eo)

-- The total that was summed up without a test.
pub total_done : (ws : List ℕ) (t : Totals) (total : ℕ) (l : List ℕ) → t ≡ totals_at ws → room_for ws true ≡ true → (sum_of ws).fits ≡ true → total ≡ (sum_all ws t.total t.known).total
    → l ≡ reset_with ws total → called (Accepted 0) l ≡ reset_queue ws
unfolding reset_queue
total_done ws t total l et hr hf es el =
    let d : reset_queue ws ≡ called (Accepted 0) (reset_with ws (sum_of ws).total) = rw (hr, hf) in
    ap (called (Accepted 0)) (el ∙ ap (reset_with ws) (es ∙ ap (λ (x : Totals). (sum_all ws x.total x.known).total) et)) ∙ sym d

pub total_fits : (ws : List ℕ) (t : Totals) → t ≡ totals_at ws → (sum_of ws).fits ≡ true → (sum_all ws t.total t.known).fits ≡ true
total_fits ws t et hf = ap (λ (x : Totals). (sum_all ws x.total x.known).fits) et ∙ hf

module _ (ws : List ℕ) (t : Totals) (s : Sum) (et : t ≡ totals_at ws) (es : s ≡ sum_all ws t.total t.known) where
  sum_is : s ≡ sum_of ws
  sum_is = es ∙ ap (λ (x : Totals). sum_all ws x.total x.known) et

  pub sum_told : (b : Bool) → s.fits ≡ b → (sum_of ws).fits ≡ b
  sum_told b h = ap (λ (x : Sum). x.fits) (sym sum_is) ∙ h

  pub reset_done : (l : List ℕ) → room_for ws true ≡ true → (sum_of ws).fits ≡ true → l ≡ reset_with ws s.total → called (Accepted 0) l ≡ reset_queue ws
  reset_done l hr hf el = total_done ws t s.total l et hr hf (ap (λ (x : Sum). x.total) es) el

pub reset_over : (ws : List ℕ) → room_for ws true ≡ true → (sum_of ws).fits ≡ false → called (Refused 16) ws ≡ reset_queue ws
unfolding reset_queue
reset_over ws hr hf = rw (hr, hf)

pub reset_roomless : (ws : List ℕ) → room_for ws true ≡ false → called (Refused 16) ws ≡ reset_queue ws
unfolding reset_queue
reset_roomless ws hr = rw hr
