-- A place hung to a stream's chain, and counted: what is read then. Assumes nothing.
use mathlib.Core.Path.{◌≡◌, refl, ap, ◌∙◌, subst}
use mathlib.Core.List.{List}
use Prim.Native.Nat.{ℕ, ◌≤◌, ◌<◌}
use native.Mathlib.Omega.{arith}
use borrow.Author.Tests.{lt-ltb, le-ltb}
use lib.ListN.{length}
use Rattle.queue_words.specs.Active.{active_at}
use Rattle.queue_words.specs.Header.{options_at, totals_at, put_totals, scheduler_at, FitsTotals}
use Rattle.queue_words.specs.Items.{item_at, put_next, with_next}
use Rattle.queue_words.specs.Leasts.{leasts_at}
use Rattle.queue_words.specs.Known.{known_at}
use Rattle.queue_words.specs.Streams.{stream_at_words, put_chain, with_chain}
use Rattle.queue_words.specs.declared.header.Totals.{Totals}
use Rattle.queue_words.specs.declared.items.Item.{Item}
use Rattle.queue_words.specs.declared.streams.OutgoingStream.{OutgoingStream}
use Rattle.queue_words.proofs.Laws
use Rattle.queue_words.proofs.ChainLaws as chain
use Rattle.payload_store.specs.Words.{place_of, size_of}
use Rattle.queue_state.specs.Model.{next_of, item_of}
use Rattle.message_chains.specs.Amounts.{sum}
use Rattle.queue_messages.specs.Add.{with_last, linked_last}
use Rattle.payload_store.proofs.Cases.{by_index}

-- The place behind the place l is p, if l is a place; nothing else is changed.
pub record Turned (ws us : List ℕ) (l p : ℕ) : Type 0 where
  pub long : length us ≡ length ws
  pub options : options_at us ≡ options_at ws
  pub totals : totals_at us ≡ totals_at ws
  pub scheduler : scheduler_at us ≡ scheduler_at ws
  pub active : (j : ℕ) → active_at us j ≡ active_at ws j
  pub leasts : leasts_at us ≡ leasts_at ws
  pub known : (j : ℕ) → j < 256 → known_at us j ≡ known_at ws j
  pub streams : (j : ℕ) → j < 256 → stream_at_words us j ≡ stream_at_words ws j
  pub next_turned : l < 1024 → next_of us l ≡ p
  pub next_kept : (x : ℕ) → (l < 1024 → l ≡ x → ⊥) → next_of us x ≡ next_of ws x
  pub place_kept : (x : ℕ) → place_of us x ≡ place_of ws x
  pub size_kept : (x : ℕ) → size_of us x ≡ size_of ws x
  pub item_kept : (x : ℕ) (bs : List ℕ) → item_of (item_at us x) bs ≡ item_of (item_at ws x) bs

turned_none : (ws : List ℕ) (l p : ℕ) → 1024 ≤ l → Turned ws ws l p
turned_none ws l p h = record {
  long = refl;
  options = refl;
  totals = refl;
  scheduler = refl;
  active = λ j. refl;
  leasts = refl;
  known = λ j b. refl;
  streams = λ j b. refl;
  next_turned = λ b. absurd (omega arith);
  next_kept = λ x n. refl;
  place_kept = λ x. refl;
  size_kept = λ x. refl;
  item_kept = λ x bs. refl;
}

turned_next : (ws : List ℕ) (l p : ℕ) → length ws ≡ 20768 → l < 1024 → Turned ws (put_next ws l p) l p
turned_next ws l p len h = record {
  long = Laws.whole_put_next ws l p;
  options = Laws.options_put_next ws l p;
  totals = Laws.totals_put_next ws l p;
  scheduler = Laws.scheduler_put_next ws l p;
  active = λ j. Laws.active_put_next ws l p j h;
  leasts = Laws.leasts_put_next ws l p;
  known = λ j b. Laws.known_put_next ws l p j b;
  streams = λ j b. Laws.stream_put_next ws l p j b;
  next_turned = λ b. ap (λ (m : Item). m.next) own;
  next_kept = λ x n. ap (λ (m : Item). m.next) (Laws.item_put_next_other ws l p x (n h));
  place_kept = λ x. Laws.place_put_next ws l p x;
  size_kept = λ x. Laws.length_put_next ws l p x;
  item_kept = λ x bs. by_index l x
      (λ e. subst (λ y. item_of (item_at (put_next ws l p) y) bs ≡ item_of (item_at ws y) bs) e (ap (λ (m : Item). item_of m bs) own))
      (λ ne. ap (λ (m : Item). item_of m bs) (Laws.item_put_next_other ws l p x ne));
}
  where
    own : item_at (put_next ws l p) l ≡ with_next (item_at ws l) p
    own = Laws.item_put_next ws l p len h

-- Then the stream's amount and its chain's ends, and the totals stored.
pub record Hung (ws us : List ℕ) (row l p : ℕ) (s : OutgoingStream) (t : Totals) : Type 0 where
  pub long : length us ≡ length ws
  pub options : options_at us ≡ options_at ws
  pub totals : totals_at us ≡ t
  pub scheduler : scheduler_at us ≡ scheduler_at ws
  pub active : (j : ℕ) → active_at us j ≡ active_at ws j
  pub leasts : leasts_at us ≡ leasts_at ws
  pub known : (j : ℕ) → j < 256 → known_at us j ≡ known_at ws j
  pub own_row : stream_at_words us row ≡ s
  pub other_rows : (r : ℕ) → r < 256 → (row ≡ r → ⊥) → stream_at_words us r ≡ stream_at_words ws r
  pub next_turned : l < 1024 → next_of us l ≡ p
  pub next_kept : (x : ℕ) → (l < 1024 → l ≡ x → ⊥) → next_of us x ≡ next_of ws x
  pub place_kept : (x : ℕ) → place_of us x ≡ place_of ws x
  pub size_kept : (x : ℕ) → size_of us x ≡ size_of ws x
  pub item_kept : (x : ℕ) (bs : List ℕ) → item_of (item_at us x) bs ≡ item_of (item_at ws x) bs

-- Totals that are changed by F still fit.
abbrev pub FitsAfter : (Totals → Totals) → Type 0
FitsAfter F = (t : Totals) → FitsTotals t → FitsTotals (F t)

module _ (F : Totals → Totals) (after_fits : FitsAfter F) (ws vs : List ℕ) (row l p amount first last : ℕ) (len : length ws ≡ 20768) (hr : row < 256) (v : Turned ws vs l p) where
  abbrev rs : List ℕ
  rs = put_chain vs row amount first last

  abbrev us : List ℕ
  us = put_totals (put_chain vs row amount first last) (F (totals_at (put_chain vs row amount first last)))

  long_v : length vs ≡ 20768
  long_v = v.long ∙ len

  long_r : length rs ≡ 20768
  long_r = chain.whole_put_chain vs row amount first last ∙ long_v

  totals_r : totals_at rs ≡ totals_at ws
  totals_r = chain.totals_put_chain vs row amount first last ∙ v.totals

  item_u : (x : ℕ) → item_at us x ≡ item_at vs x
  item_u x = Laws.item_put_totals rs (F (totals_at rs)) x ∙ chain.item_put_chain vs row amount first last x hr

  hung_row : Hung ws us row l p (with_chain (stream_at_words ws row) amount first last) (F (totals_at ws))
  hung_row =
      let t : Totals = F (totals_at rs) in
      record {
        long = Laws.whole_put_totals rs t ∙ chain.whole_put_chain vs row amount first last ∙ v.long;
        options = Laws.options_put_totals rs t ∙ chain.options_put_chain vs row amount first last ∙ v.options;
        totals = Laws.totals_at_put rs t long_r (after_fits (totals_at rs) (Laws.totals_at_fits rs)) ∙ ap F totals_r;
        scheduler = Laws.scheduler_put_totals rs t ∙ chain.scheduler_put_chain vs row amount first last ∙ v.scheduler;
        active = λ j. Laws.active_put_totals rs t j ∙ chain.active_put_chain vs row amount first last j hr ∙ v.active j;
        leasts = Laws.leasts_put_totals rs t ∙ chain.leasts_put_chain vs row amount first last ∙ v.leasts;
        known = λ j b. Laws.known_put_totals rs t j ∙ chain.known_put_chain vs row amount first last j b ∙ v.known j b;
        own_row = Laws.stream_put_totals rs t row ∙ chain.stream_put_chain vs row amount first last long_v hr ∙ ap (λ (s : OutgoingStream). with_chain s amount first last) (v.streams row hr);
        other_rows = λ r b ne. Laws.stream_put_totals rs t r ∙ chain.stream_put_chain_other vs row amount first last r ne ∙ v.streams r b;
        next_turned = λ b. ap (λ (m : Item). m.next) (item_u l) ∙ v.next_turned b;
        next_kept = λ x k. ap (λ (m : Item). m.next) (item_u x) ∙ v.next_kept x k;
        place_kept = λ x. ap (λ (m : Item). m.place) (item_u x) ∙ v.place_kept x;
        size_kept = λ x. ap (λ (m : Item). m.length) (item_u x) ∙ v.size_kept x;
        item_kept = λ x bs. ap (λ (m : Item). item_of m bs) (item_u x) ∙ v.item_kept x bs;
      }

-- A stream without messages, and one with; s is its row.
pub hung_first : (F : Totals → Totals) → FitsAfter F → (ws : List ℕ) (row p n : ℕ) (s : OutgoingStream) → length ws ≡ 20768 → row < 256 → stream_at_words ws row ≡ s → s.first ≡ 1024 → s.last ≡ 1024
    → Hung ws (put_totals (linked_last ws row s p n) (F (totals_at (linked_last ws row s p n)))) row s.last p (with_last s p p n) (F (totals_at ws))
unfolding linked_last
hung_first F after_fits ws row p n s len hr own e el =
    rw (lt-ltb 1023 s.first (omega arith))
    (subst (λ (o : OutgoingStream). Hung ws (put_totals (put_chain ws row (sum s.buffered_amount n) p p) (F (totals_at (put_chain ws row (sum s.buffered_amount n) p p)))) row s.last p (with_chain o (sum s.buffered_amount n) p p) (F (totals_at ws))) own
    (hung_row F after_fits ws ws row s.last p (sum s.buffered_amount n) p p len hr (turned_none ws s.last p (omega arith))))

pub hung_last : (F : Totals → Totals) → FitsAfter F → (ws : List ℕ) (row p n : ℕ) (s : OutgoingStream) → length ws ≡ 20768 → row < 256 → stream_at_words ws row ≡ s → s.first < 1024 → s.last < 1024
    → Hung ws (put_totals (linked_last ws row s p n) (F (totals_at (linked_last ws row s p n)))) row s.last p (with_last s s.first p n) (F (totals_at ws))
unfolding linked_last
hung_last F after_fits ws row p n s len hr own a b =
    let us : List ℕ = put_chain (put_next ws s.last p) row (sum s.buffered_amount n) s.first p in
    rw (le-ltb 1023 s.first (omega arith), le-ltb 1023 s.last (omega arith))
    (subst (λ (o : OutgoingStream). Hung ws (put_totals us (F (totals_at us))) row s.last p (with_chain o (sum s.buffered_amount n) s.first p) (F (totals_at ws))) own
    (hung_row F after_fits ws (put_next ws s.last p) row s.last p (sum s.buffered_amount n) s.first p len hr (turned_next ws s.last p len b)))
