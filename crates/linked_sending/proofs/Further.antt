-- A part of a message that has its numbers: the words that change, stored alone, read as if all three rows had been stored. Assumes nothing.
use mathlib.Core.Path.{◌≡◌, refl, sym, ap, ◌∙◌, subst}
use mathlib.Core.List.{List}
use Prim.Native.Nat.{ℕ, ◌-◌, ◌<◌}
use lib.ListN.{length}
use Rattle.queue_words.specs.Active.{active_at}
use Rattle.queue_words.specs.Header.{options_at, totals_at, scheduler_at, put_totals, FitsTotals}
use Rattle.queue_words.specs.Items.{item_at, put_item, FitsItem}
use Rattle.queue_words.specs.Leasts.{leasts_at}
use Rattle.queue_words.specs.Streams.{stream_at_words, put_stream_words, FitsStream}
use Rattle.queue_words.specs.declared.header.Totals.{Totals}
use Rattle.queue_words.specs.declared.items.Item.{Item}
use Rattle.queue_words.specs.declared.streams.OutgoingStream.{OutgoingStream}
use Rattle.queue_words.proofs.Laws
use Rattle.queue_sending.specs.Fragment.{less_total, less_amount, went_on_words, went_further}
use Rattle.queue_sending.specs.Numbers.{moved_on_words}
use Rattle.queue_sending.specs.Progress.{put_progress, with_part}
use Rattle.queue_sending.proofs.ProgressLaws as few
use Rattle.queue_state.proofs.Singles.{Alike}
use Rattle.payload_store.proofs.Cases.{by_index}
use Rattle.linked_sending.proofs.Numbering.{moved_fits}

-- Both read the same.
pub record Further (us vs : List ℕ) : Type 0 where
  pub alike : Alike us vs
  pub options : options_at vs ≡ options_at us
  pub totals : totals_at vs ≡ totals_at us
  pub scheduler : scheduler_at vs ≡ scheduler_at us
  pub actives : (j : ℕ) → active_at vs j ≡ active_at us j
  pub leasts : leasts_at vs ≡ leasts_at us

part_is : (m : Item) (n : ℕ) → with_part m (moved_on_words m n).fsn.0 (moved_on_words m n).offset ≡ moved_on_words m n
unfolding moved_on_words
part_is m n = refl

module _ (ws : List ℕ) (r x n : ℕ) (l : length ws ≡ 20768) (hr : r < 256) (hx : x < 1024) where
  abbrev s : OutgoingStream
  s = stream_at_words ws r

  abbrev m : Item
  m = item_at ws x

  abbrev t : Totals
  t = less_total (totals_at ws) n

  abbrev m₁ : Item
  m₁ = moved_on_words (item_at ws x) n

  abbrev s₁ : OutgoingStream
  s₁ = less_amount (stream_at_words ws r) n

  -- the rows stored whole
  abbrev u1 : List ℕ
  u1 = put_totals ws t

  abbrev u2 : List ℕ
  u2 = put_item u1 x m₁

  abbrev u : List ℕ
  u = put_stream_words u2 r s₁

  -- the words alone
  abbrev v : List ℕ
  v = put_progress ws r x ((totals_at ws).total - n) ((stream_at_words ws r).buffered_amount - n) (moved_on_words (item_at ws x) n).fsn.0 (moved_on_words (item_at ws x) n).offset

  fits_t : FitsTotals t
  fits_t = record { message_id_fits = (Laws.totals_at_fits ws).message_id_fits }

  fits_m : FitsItem m₁
  fits_m = moved_fits m n (Laws.item_at_fits ws x)

  fits_s : FitsStream s₁
  fits_s = record {
    priority_fits = (Laws.stream_at_fits ws r).priority_fits;
    ssn_fits = (Laws.stream_at_fits ws r).ssn_fits;
    unordered_mid_fits = (Laws.stream_at_fits ws r).unordered_mid_fits;
    ordered_mid_fits = (Laws.stream_at_fits ws r).ordered_mid_fits;
  }

  long1 : length u1 ≡ 20768
  long1 = Laws.whole_put_totals ws t ∙ l

  long2 : length u2 ≡ 20768
  long2 = Laws.whole_put_item u1 x m₁ ∙ long1

  totals_u : totals_at u ≡ t
  totals_u = Laws.totals_put_stream u2 r s₁ ∙ Laws.totals_put_item u1 x m₁ ∙ Laws.totals_at_put ws t l fits_t

  totals_v : totals_at v ≡ t
  totals_v = few.totals_put_progress ws r x _ _ _ _ l

  totals_same : totals_at v ≡ totals_at u
  totals_same = totals_v ∙ sym totals_u

  rows_u : (j : ℕ) → j < 256 → (r ≡ j → ⊥) → stream_at_words u j ≡ stream_at_words ws j
  rows_u j h ne = Laws.stream_at_put_other u2 r s₁ j ne ∙ Laws.stream_put_item u1 x m₁ j h ∙ Laws.stream_put_totals ws t j

  row_same : stream_at_words v r ≡ stream_at_words u r
  row_same = few.stream_put_progress ws r x _ _ _ _ l hr ∙ sym (Laws.stream_at_put u2 r s₁ long2 hr fits_s)

  rows_same : (j : ℕ) → j < 256 → stream_at_words v j ≡ stream_at_words u j
  rows_same j h = by_index r j
      (λ e. subst (λ k. stream_at_words v k ≡ stream_at_words u k) e row_same)
      (λ ne. few.stream_put_progress_other ws r x _ _ _ _ j h ne ∙ sym (rows_u j h ne))

  item_same : item_at v x ≡ item_at u x
  item_same =
      few.item_put_progress ws r x _ _ _ _ l hr hx fits_m.fsn_fits
      ∙ part_is m n
      ∙ sym (Laws.item_put_stream u2 r s₁ x hr ∙ Laws.item_at_put u1 x m₁ long1 hx fits_m)

  items_same : (j : ℕ) → j < 1024 → item_at v j ≡ item_at u j
  items_same j h = by_index x j
      (λ e. subst (λ k. item_at v k ≡ item_at u k) e item_same)
      (λ ne. few.item_put_progress_other ws r x _ _ _ _ j hr ne ∙ sym (Laws.item_put_stream u2 r s₁ j hr ∙ Laws.item_at_put_other u1 x m₁ j ne ∙ Laws.item_put_totals ws t j))

  same : Further u v
  same = record {
    alike = record {
      long = few.whole_put_progress ws r x _ _ _ _ ∙ l ∙ sym (Laws.whole_put_stream u2 r s₁ ∙ long2);
      known = ap (λ (y : Totals). y.known) totals_same;
      waiting = ap (λ (y : Totals). y.waiting) totals_same;
      free = ap (λ (y : Totals). y.free) totals_same;
      used = ap (λ (y : Totals). y.used) totals_same;
      gaps = ap (λ (y : Totals). y.gaps) totals_same;
      table = λ j h. few.known_put_progress ws r x _ _ _ _ j h ∙ sym (Laws.known_put_stream u2 r s₁ j h ∙ Laws.known_put_item u1 x m₁ j h ∙ Laws.known_put_totals ws t j);
      rows = rows_same;
      items = items_same;
    };
    options = few.options_put_progress ws r x _ _ _ _ ∙ sym (Laws.options_put_stream u2 r s₁ ∙ Laws.options_put_item u1 x m₁ ∙ Laws.options_put_totals ws t);
    totals = totals_same;
    scheduler = few.scheduler_put_progress ws r x _ _ _ _ ∙ sym (Laws.scheduler_put_stream u2 r s₁ ∙ Laws.scheduler_put_item u1 x m₁ ∙ Laws.scheduler_put_totals ws t);
    actives = λ j. few.active_put_progress ws r x _ _ _ _ j hr hx ∙ sym (Laws.active_put_stream u2 r s₁ j hr ∙ Laws.active_put_item u1 x m₁ j hx ∙ Laws.active_put_totals ws t j);
    leasts = few.leasts_put_progress ws r x _ _ _ _ ∙ sym (Laws.leasts_put_stream u2 r s₁ ∙ Laws.leasts_put_item u1 x m₁ ∙ Laws.leasts_put_totals ws t);
  }

-- The stream in row r and its first message, as they stand in the words.
whole_rows_lem : (ws : List ℕ) (r n : ℕ) → length ws ≡ 20768 → r < 256 → (stream_at_words ws r).first < 1024
    → Further (went_on_words ws r (stream_at_words ws r) (item_at ws (stream_at_words ws r).first) n) (went_further ws r (stream_at_words ws r) (item_at ws (stream_at_words ws r).first) n)
unfolding went_on_words went_further
whole_rows_lem ws r n l hr hx = same ws r (stream_at_words ws r).first n l hr hx

pub further : (ws : List ℕ) (r n : ℕ) (o : OutgoingStream) (i : Item) → length ws ≡ 20768 → r < 256 → o.first < 1024 → stream_at_words ws r ≡ o → item_at ws o.first ≡ i
    → Further (went_on_words ws r o i n) (went_further ws r o i n)
further ws r n o i l hr hx es em =
    subst (λ (y : Item). Further (went_on_words ws r o y n) (went_further ws r o y n)) em
    (subst (λ (y : OutgoingStream). y.first < 1024 → Further (went_on_words ws r y (item_at ws y.first) n) (went_further ws r y (item_at ws y.first) n)) es (whole_rows_lem ws r n l hr) hx)
