-- The ready ids taken and marked in one walk: a stream that is marked leaves the states of the others. Assumes nothing.
use mathlib.Core.Path.{◌≡◌, refl, sym, ap, ◌∙◌, subst}
use mathlib.Core.Bool.{Bool, true, false}
use mathlib.Core.List.{List}
use Prim.Native.Nat.{ℕ, zero, suc, ◌+◌, ◌≤◌, ◌<◌}
use native.Mathlib.Omega.{arith}
use borrow.Author.Tests.{le-ltb}
use Rattle.queue_words.specs.Known.{known_at}
use Rattle.queue_words.specs.Streams.{is_paused_words, stream_at_words}
use Rattle.queue_words.specs.declared.known.Known.{Known}
use Rattle.queue_words.specs.declared.streams.OutgoingStream.{OutgoingStream}
use Rattle.queue_restarts.specs.Marking.{put_resetting}
use Rattle.queue_restarts.specs.Ready.{paused_at, collected, marked, marked_all, readied}
use Rattle.queue_restarts.specs.ReadyStreams.{ReadyStreams}
use Rattle.queue_restarts.proofs.Loops.{collected_end, marked_next, marked_end}
use Rattle.queue_restarts.proofs.MarkLaws.{known_marked, stream_marked_other}
use Rattle.owned_restarts.specs.Ready.{OwnRows}
use Rattle.owned_restarts.proofs.Own.{paused_row}

known_still : (ws : List ℕ) (i j : ℕ) → j < 256 → known_at (marked_all ws i) j ≡ known_at ws j
unfolding marked_all
known_still ws zero j h = refl
known_still ws (suc i) j h = known_marked (marked_all ws i) (known_at (marked_all ws i) i).place j h ∙ known_still ws i j h

-- the rows of streams whose turn is still to come
row_still : (ws : List ℕ) (n : ℕ) → OwnRows ws n → (i j : ℕ) → i ≤ j → j < n → stream_at_words (marked_all ws i) (known_at ws j).place ≡ stream_at_words ws (known_at ws j).place
unfolding marked_all
row_still ws n y zero j h l = refl
row_still ws n y (suc i) j h l =
    let k : (known_at (marked_all ws i) i).place ≡ (known_at ws i).place = ap (λ (x : Known). x.place) (known_still ws i i (omega (arith, y.few))) in
    stream_marked_other (marked_all ws i) (known_at (marked_all ws i) i).place (known_at ws j).place (λ e. y.apart i j (omega arith) l (sym k ∙ e))
    ∙ row_still ws n y i j (omega arith) l

-- ---- a turn

module _ (ws : List ℕ) (n : ℕ) (y : OwnRows ws n) (i : ℕ) (h : i < n) (us : List ℕ) (eu : us ≡ marked_all ws i) (k : Known) (ek : k ≡ known_at us i) where
  pub known_is : k ≡ known_at ws i
  known_is = ek ∙ ap (λ (x : List ℕ). known_at x i) eu ∙ known_still ws i i (omega (arith, y.few))

  pub place_fits : k.place < 256
  place_fits = subst (λ (x : Known). x.place < 256) (sym known_is) (y.fit i h)

  module _ (s : OutgoingStream) (es : s ≡ stream_at_words us k.place) (b : Bool) (eb : b ≡ is_paused_words s.pause_state) where
    pub paused_is : b ≡ paused_at ws k.place
    paused_is = paused_row ws k s b place_fits
        (es ∙ ap (λ (x : List ℕ). stream_at_words x k.place) eu ∙ subst (λ (x : Known). stream_at_words (marked_all ws i) x.place ≡ stream_at_words ws x.place) (sym known_is) (row_still ws n y i i (omega arith) h)) eb

    pub marked_on : (l : List ℕ) → b ≡ true → l ≡ put_resetting us k.place → l ≡ marked_all ws (i + 1)
    unfolding marked
    marked_on l t el =
        let f = place_fits in
        marked_next ws i us l k eu ek (el ∙ sym (rw (le-ltb 255 k.place (omega arith), ← es, ← eb, t)))

    pub marked_off : b ≡ false → us ≡ marked_all ws (i + 1)
    unfolding marked
    marked_off t =
        let f = place_fits in
        marked_next ws i us us k eu ek (sym (rw (le-ltb 255 k.place (omega arith), ← es, ← eb, t)))

pub taken_all : (ws us : List ℕ) (n i : ℕ) (r : ReadyStreams) → r ≡ collected ws i → us ≡ marked_all ws i → i ≤ n → n ≤ i → readied r us ≡ readied (collected ws n) (marked_all ws n)
taken_all ws us n i r er eu l g = rw (collected_end ws n i r er l g, marked_end ws n i us eu l g)
