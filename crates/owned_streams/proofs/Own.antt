-- On the words of a queue the tests cannot fail. Assumes nothing.
use mathlib.Core.Path.{◌≡◌, refl, sym, ap, ◌∙◌, subst}
use mathlib.Core.Bool.{Bool, true, false}
use mathlib.Core.List.{List}
use Prim.Native.Nat.{ℕ, zero, suc, ◌+◌, ◌≤◌, ◌<◌}
use native.Mathlib.Omega.{arith}
use borrow.Author.Tests.{lt-ltb, le-ltb, ne_eqb}
use lib.Dec.{ltb, eqb}
use Rattle.queue_words.specs.Find.{find_stream_words, Findable, found_by}
use Rattle.queue_words.specs.Flags.{pick}
use Rattle.queue_words.specs.Header.{totals_at, scheduler_at}
use Rattle.queue_words.specs.Known.{known_at}
use Rattle.queue_words.specs.Streams.{is_paused_words, stream_at_words}
use Rattle.queue_words.specs.declared.header.SchedulerState.{SchedulerState}
use Rattle.queue_words.specs.declared.header.Totals.{Totals}
use Rattle.queue_words.specs.declared.known.Known.{Known}
use Rattle.queue_words.specs.declared.known.Spot.{Spot}
use Rattle.queue_words.specs.declared.known.Spot.TheVariants as spot
use Rattle.queue_words.specs.declared.streams.OutgoingStream.{OutgoingStream}
use Rattle.queue_words.proofs.Finds.{find_hit}
use Rattle.std.specs.Prelude.{if◌then◌else◌}
use Rattle.stream_scheduler.specs.Words.{peek_among, peek_words}
use Rattle.stream_scheduler.specs.declared.Peeked.TheVariants as peeked
use Rattle.queue_streams.specs.Call.{Accepted}
use Rattle.queue_streams.specs.Flag as flag
use Rattle.queue_streams.specs.Number as number
use Rattle.queue_questions.specs.Questions.{waits, data_of, ready_among, ready_of}
use Rattle.queue_questions.proofs.Exits.{ready_told}
use Rattle.queue_restarts.specs.Ready.{paused_at, one_more, collected, ready_count}
use Rattle.queue_state.proofs.Frames.{row_below}
use Rattle.queue_state.proofs.Looks.{Lookup, known_at_lem, new_at, lookup}
use Rattle.linked_restarts.proofs.Marks.{accepted}
use Rattle.owned_streams.specs.Own.{OwnWords, RowsFit}

module _ (ws : List ℕ) (y : OwnWords ws) where
  pub own_findable : (id : ℕ) → Findable ws id
  own_findable id e = go (lookup ws y.store y.good.shape id)
    where
      go : Lookup ws y.store id → ⊥
      go (known_at_lem i h k a m) = let z : ◌≡◌ {A = ℕ} 0 1 = cc (e, a) in omega arith
      go (new_at p h lo hi a m) = let z : ◌≡◌ {A = ℕ} 0 1 = cc (e, a) in omega arith

  -- the known streams have rows, as the loaded count says it
  pub own_rows : (t : Totals) → t ≡ totals_at ws → RowsFit ws t.known × (t.known ≤ 256)
  own_rows t e = subst (λ (x : Totals). RowsFit ws x.known × (x.known ≤ 256)) (sym e) ((λ i h. row_below ws y.store y.good.shape i h), y.good.shape.known_fits)

  -- whether a stream waits
  pub data_own : (s : SchedulerState) → s ≡ scheduler_at ws → flag.Value (ltb 0 s.active) ≡ data_of ws
  unfolding data_of peek_words peek_among
  data_own s e = ap (λ (x : SchedulerState). flag.Value (ltb 0 x.active)) e ∙ by (scheduler_at ws).active _ _ y.good.shape.schedules.few
    where
      at : (b : Bool) (i j : ℕ) → flag.Value true ≡ waits (if b then peeked.At i else peeked.At j)
      at true i j = refl
      at false i j = refl

      by : (n i j : ℕ) → n ≤ 256 → flag.Value (ltb 0 n) ≡ waits (if ltb 256 n then peeked.Broken else if eqb n 0 then peeked.Nothing else if ltb i n then peeked.At i else peeked.At j)
      by zero i j h = refl
      by (suc n) i j h = rw (le-ltb 256 (suc n) h, ne_eqb (suc n) 0 (λ z. omega arith), lt-ltb 0 (suc n) (omega arith)) (at (ltb i (suc n)) i j)

  -- whether one is paused
  pub ready_own : (t : Totals) (r : Bool) → t ≡ totals_at ws → flag.Value r ≡ ready_among ws 0 t.known → flag.Value r ≡ ready_of ws
  ready_own t r e h = h ∙ ready_told ws t e (own_rows t e).1

-- a row that is found is a row of the table
pub row_fits : (ws : List ℕ) (id p row : ℕ) (s : Spot) → found_by s ≡ find_stream_words ws id → s ≡ spot.At p row → row < 256
row_fits ws id p row s e g = (find_hit ws id p row (sym e ∙ ap found_by g)).place_fits

-- ---- how many are paused

pub row_of : (ws : List ℕ) (n i : ℕ) (k : Known) → RowsFit ws n → i < n → k ≡ known_at ws i → k.place < 256
row_of ws n i k f h e = subst (λ (x : Known). x.place < 256) (sym e) (f i h)

paused_is : (ws : List ℕ) (k : Known) (s : OutgoingStream) (b : Bool) → k.place < 256 → s ≡ stream_at_words ws k.place → b ≡ is_paused_words s.pause_state → paused_at ws k.place ≡ b
unfolding paused_at
paused_is ws k s b f es eb = rw (le-ltb 255 k.place (omega arith), ← es, ← eb)

pub none_counted : (ws : List ℕ) → 0 ≡ (collected ws 0).count
unfolding collected
none_counted ws = refl

module _ (ws : List ℕ) (i c : ℕ) (k : Known) (s : OutgoingStream) (b : Bool) (ec : c ≡ (collected ws i).count) (ek : k ≡ known_at ws i) (f : k.place < 256) (es : s ≡ stream_at_words ws k.place) (eb : b ≡ is_paused_words s.pause_state) where
  at_place : paused_at ws (known_at ws i).place ≡ b
  at_place = ap (λ (x : Known). paused_at ws x.place) (sym ek) ∙ paused_is ws k s b f es eb

  pub counted_on : b ≡ true → c + 1 ≡ (collected ws (i + 1)).count
  unfolding collected
  counted_on h = let z : i + 1 ≡ suc i = omega arith in ap (λ (x : ℕ). x + 1) ec ∙ sym (rw (z, at_place, h))

  pub counted_off : b ≡ false → c ≡ (collected ws (i + 1)).count
  unfolding collected
  counted_off h = let z : i + 1 ≡ suc i = omega arith in ec ∙ sym (rw (z, at_place, h))

pub counted_end : (ws : List ℕ) (n i c : ℕ) → c ≡ (collected ws i).count → i ≤ n → n ≤ i → c ≡ (collected ws n).count
counted_end ws n i c e l g = let z : i ≡ n = omega arith in e ∙ ap (λ (x : ℕ). (collected ws x).count) z

told : (ws : List ℕ) (n : ℕ) → (collected ws n).answer ≡ Accepted 0
unfolding collected
told ws zero = refl
told ws (suc n) = by (paused_at ws (known_at ws n).place) (told ws n)
  where
    by : (b : Bool) → (collected ws n).answer ≡ Accepted 0 → (pick b (one_more (collected ws n) (known_at ws n).id.0) (collected ws n)).answer ≡ Accepted 0
    by true e = refl
    by false e = e

pub count_own : (ws : List ℕ) (y : OwnWords ws) (t : Totals) (r : ℕ) → t ≡ totals_at ws → r ≡ (collected ws t.known).count → number.Value r ≡ ready_count ws
unfolding ready_count
count_own ws y t r e h = ap number.Value (h ∙ ap (λ (x : Totals). (collected ws x.known).count) e) ∙ sym (rw (accepted ws y.store y.good, told ws (totals_at ws).known))
