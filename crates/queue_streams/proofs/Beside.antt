-- A stream made known: but for the table of known streams, the stream's row and the count, the words are as they were. Assumes nothing.
use mathlib.Core.Path.{◌≡◌, refl, ◌∙◌}
use mathlib.Core.List.{List}
use Prim.Native.Nat.{ℕ, zero, suc, ◌+◌, ◌-◌, ◌≤◌, ◌<◌}
use native.Mathlib.Omega.{arith}
use lib.ListN.{length}
use Rattle.queue_words.specs.Header.{options_at, totals_at, put_totals, scheduler_at}
use Rattle.queue_words.specs.Items.{item_at}
use Rattle.queue_words.specs.Active.{active_at}
use Rattle.queue_words.specs.Leasts.{leasts_at}
use Rattle.queue_words.specs.Known.{known_at, put_known}
use Rattle.queue_words.specs.Streams.{stream_at_words, put_stream_words}
use Rattle.queue_words.specs.declared.header.Totals.{Totals}
use Rattle.queue_words.specs.declared.known.Known.{Known}
use Rattle.queue_words.specs.declared.streams.OutgoingStream.{OutgoingStream}
use Rattle.queue_words.proofs.Laws
use Rattle.queue_streams.specs.Known.{shifted, with_known, inserted}

-- Of two words only the table of known streams differs.
pub record Beside (ws us : List ℕ) : Type 0 where
  pub long : length us ≡ length ws
  pub options : options_at us ≡ options_at ws
  pub totals : totals_at us ≡ totals_at ws
  pub scheduler : scheduler_at us ≡ scheduler_at ws
  pub streams : (j : ℕ) → stream_at_words us j ≡ stream_at_words ws j
  pub items : (j : ℕ) → item_at us j ≡ item_at ws j
  pub active : (j : ℕ) → active_at us j ≡ active_at ws j
  pub leasts : leasts_at us ≡ leasts_at ws

pub beside_put : (ws us : List ℕ) (i : ℕ) (k : Known) → i < 256 → Beside ws us → Beside ws (put_known us i k)
beside_put ws us i k h b = record {
  long = Laws.whole_put_known us i k ∙ b.long;
  options = Laws.options_put_known us i k ∙ b.options;
  totals = Laws.totals_put_known us i k ∙ b.totals;
  scheduler = Laws.scheduler_put_known us i k ∙ b.scheduler;
  streams = λ j. Laws.stream_put_known us i k j h ∙ b.streams j;
  items = λ j. Laws.item_put_known us i k j h ∙ b.items j;
  active = λ j. Laws.active_put_known us i k j h ∙ b.active j;
  leasts = Laws.leasts_put_known us i k ∙ b.leasts;
}

pub shift_beside : (ws : List ℕ) (n : ℕ) → n < 256 → (k : ℕ) → Beside ws (shifted ws n k)
unfolding shifted
shift_beside ws n few zero =
    record { long = refl; options = refl; totals = refl; scheduler = refl; streams = λ j. refl; items = λ j. refl; active = λ j. refl; leasts = refl }
shift_beside ws n few (suc k) = beside_put ws (shifted ws n k) (n - k) (known_at (shifted ws n k) (n - k - 1)) (omega arith) (shift_beside ws n few k)

-- What the words are beside the table and the stream's row, after a stream was made known.
pub record Around (ws us : List ℕ) : Type 0 where
  pub long : length us ≡ length ws
  pub options : options_at us ≡ options_at ws
  pub totals : totals_at us ≡ with_known (totals_at ws) ((totals_at ws).known + 1)
  pub scheduler : scheduler_at us ≡ scheduler_at ws
  pub items : (x : ℕ) → item_at us x ≡ item_at ws x
  pub active : (j : ℕ) → active_at us j ≡ active_at ws j
  pub leasts : leasts_at us ≡ leasts_at ws

module _ (ws : List ℕ) (p id : ℕ) (long : length ws ≡ 20768) (few : (totals_at ws).known < 256) (hp : p ≤ (totals_at ws).known) where
  abbrev n : ℕ
  n = (totals_at ws).known

  -- the table with the rows moved; with the new row
  abbrev moved_words : List ℕ
  moved_words = shifted ws n (n - p)

  abbrev tabled_words : List ℕ
  tabled_words = put_known moved_words p (record { id = record { 0 = id }; place = n })

  abbrev more : Totals
  more = with_known (totals_at ws) (n + 1)

  pub tabled_beside : Beside ws tabled_words
  tabled_beside = beside_put ws moved_words p (record { id = record { 0 = id }; place = n }) (omega arith) (shift_beside ws n few (n - p))

  module _ (s : OutgoingStream) where
    -- with the stream
    abbrev full_words : List ℕ
    full_words = put_stream_words tabled_words n s

    full_long : length full_words ≡ 20768
    full_long = Laws.whole_put_stream tabled_words n s ∙ tabled_beside.long ∙ long

    around_all : (us : List ℕ) → us ≡ put_totals full_words more → Around ws us
    around_all us e = rw e (record {
      long = Laws.whole_put_totals full_words more ∙ Laws.whole_put_stream tabled_words n s ∙ tabled_beside.long;
      options = Laws.options_put_totals full_words more ∙ Laws.options_put_stream tabled_words n s ∙ tabled_beside.options;
      totals = Laws.totals_at_put full_words more full_long (record { message_id_fits = (Laws.totals_at_fits ws).message_id_fits });
      scheduler = Laws.scheduler_put_totals full_words more ∙ Laws.scheduler_put_stream tabled_words n s ∙ tabled_beside.scheduler;
      items = λ x. Laws.item_put_totals full_words more x ∙ Laws.item_put_stream tabled_words n s x few ∙ tabled_beside.items x;
      active = λ j. Laws.active_put_totals full_words more j ∙ Laws.active_put_stream tabled_words n s j few ∙ tabled_beside.active j;
      leasts = Laws.leasts_put_totals full_words more ∙ Laws.leasts_put_stream tabled_words n s ∙ tabled_beside.leasts;
    })

    pub around : Around ws (inserted ws p id s)
    unfolding inserted
    around = around_all (inserted ws p id s) refl
