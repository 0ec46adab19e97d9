-- The tests before many streams are let wait pass on the words of a queue. Assumes nothing.
use mathlib.Core.Path.{◌≡◌, sym, ap, ◌∙◌, subst}
use mathlib.Core.Bool.{Bool, true}
use mathlib.Core.List.{List}
use Prim.Native.Nat.{ℕ, ◌<◌}
use native.Mathlib.Omega.{arith}
use borrow.Author.Tests.{le-ltb}
use Rattle.queue_words.specs.Header.{totals_at}
use Rattle.queue_words.specs.Streams.{is_paused_words, stream_at_words}
use Rattle.queue_words.specs.declared.header.Totals.{Totals}
use Rattle.queue_words.specs.declared.known.Known.{Known}
use Rattle.queue_words.specs.declared.streams.OutgoingStream.{OutgoingStream}
use Rattle.queue_streams.specs.Waiting.{room_for}
use Rattle.queue_restarts.specs.Ready.{paused_at, collected, marked_all, Readied, readied, ready}
use Rattle.queue_restarts.specs.Reset.{sum_of}
use Rattle.queue_restarts.specs.declared.whole.Sum.{Sum}
use Rattle.queue_state.proofs.Frames.{row_below}
use Rattle.queue_state.proofs.Rooms.{all_known}
use Rattle.linked_restarts.proofs.Tallies.{room_for_lem}
use Rattle.linked_restarts.proofs.Backs.{sums_are}
use Rattle.linked_restarts.proofs.Marks.{accepted}
use Rattle.owned_streams.specs.Own.{OwnWords}
use Rattle.owned_restarts.specs.Ready.{OwnRows}

module _ (ws : List ℕ) (y : OwnWords ws) where
  pub own_room : (all : Bool) → room_for ws all ≡ true
  own_room all = room_for_lem ws y.store y.good.shape (all_known ws y.store y.good.well) all

  pub own_sum : (sum_of ws).fits ≡ true
  own_sum = ap (λ (x : Sum). x.fits) (sums_are ws y.store y.good)

  pub own_apart : (t : Totals) → t ≡ totals_at ws → OwnRows ws t.known
  own_apart t e = subst (λ (x : Totals). OwnRows ws x.known) (sym e) (record {
    few = y.good.shape.known_fits;
    fit = λ i h. row_below ws y.store y.good.shape i h;
    apart = λ i j l h p. let z : i ≡ j = y.good.shape.unlike i j (omega arith) h p in omega arith;
  })

  pub own_ready : (t : Totals) (r : Readied) → t ≡ totals_at ws → r ≡ readied (collected ws t.known) (marked_all ws t.known) → r ≡ ready ws
  own_ready t r e er = er ∙ ap (λ (x : Totals). readied (collected ws x.known) (marked_all ws x.known)) e ∙ sym (accepted ws y.store y.good)

-- whether the stream in a row of the table is paused
pub paused_row : (ws : List ℕ) (k : Known) (s : OutgoingStream) (b : Bool) → k.place < 256 → s ≡ stream_at_words ws k.place → b ≡ is_paused_words s.pause_state → b ≡ paused_at ws k.place
unfolding paused_at
paused_row ws k s b f es eb = sym (rw (le-ltb 255 k.place (omega arith), ← es, ← eb))
