-- The free places of a new queue: chained in their order, none with a payload; nothing but the messages has changed. Assumes nothing.
use mathlib.Core.Path.{◌≡◌, refl, ap, ◌∙◌}
use mathlib.Core.List.{List}
use Prim.Native.Nat.{ℕ, zero, suc, ◌+◌, ◌≤◌, ◌<◌}
use native.Mathlib.Omega.{arith}
use lib.ListN.{length}
use Rattle.queue_words.specs.Header.{options_at, totals_at, scheduler_at}
use Rattle.queue_words.specs.Items.{item_at, put_next, put_place, put_length, with_next, with_place, with_length}
use Rattle.queue_words.specs.declared.items.Item.{Item}
use Rattle.queue_words.proofs.Laws
use Rattle.queue_messages.specs.Create.{freed}
use Rattle.payload_store.proofs.Cases.{by_index}

-- What is left of the words after the first n places.
pub record Freed (ws us : List ℕ) (n : ℕ) : Type 0 where
  pub long : length us ≡ length ws
  pub options : options_at us ≡ options_at ws
  pub totals : totals_at us ≡ totals_at ws
  pub scheduler : scheduler_at us ≡ scheduler_at ws
  pub nexts : (i : ℕ) → i < n → (item_at us i).next ≡ i + 1
  pub places : (i : ℕ) → i < n → (item_at us i).place ≡ 0
  pub sizes : (i : ℕ) → i < n → (item_at us i).length ≡ 0

-- One place more.
module _ (ws us : List ℕ) (n : ℕ) (len : length us ≡ 20768) (h : n < 1024) (f : Freed ws us n) where
  a : List ℕ
  a = put_length us n 0

  b : List ℕ
  b = put_place (put_length us n 0) n 0

  c : List ℕ
  c = put_next (put_place (put_length us n 0) n 0) n (n + 1)

  long_a : length a ≡ 20768
  unfolding a
  long_a = Laws.whole_put_length us n 0 ∙ len

  long_b : length b ≡ 20768
  unfolding a b
  long_b = Laws.whole_put_place a n 0 ∙ long_a

  own : item_at c n ≡ with_next (with_place (with_length (item_at us n) 0) 0) (n + 1)
  unfolding a b c
  own =
      Laws.item_put_next b n (n + 1) long_b h
      ∙ ap (λ m. with_next m (n + 1)) (Laws.item_put_place a n 0 long_a h)
      ∙ ap (λ m. with_next (with_place m 0) (n + 1)) (Laws.item_put_length us n 0 len h)

  other : (i : ℕ) → (n ≡ i → ⊥) → item_at c i ≡ item_at us i
  unfolding a b c
  other i ne = Laws.item_put_next_other b n (n + 1) i ne ∙ Laws.item_put_place_other a n 0 i ne ∙ Laws.item_put_length_other us n 0 i ne

  freed_more : Freed ws c (suc n)
  unfolding a b c
  freed_more = record {
    long = Laws.whole_put_next b n (n + 1) ∙ Laws.whole_put_place a n 0 ∙ Laws.whole_put_length us n 0 ∙ f.long;
    options = Laws.options_put_next b n (n + 1) ∙ Laws.options_put_place a n 0 ∙ Laws.options_put_length us n 0 ∙ f.options;
    totals = Laws.totals_put_next b n (n + 1) ∙ Laws.totals_put_place a n 0 ∙ Laws.totals_put_length us n 0 ∙ f.totals;
    scheduler = Laws.scheduler_put_next b n (n + 1) ∙ Laws.scheduler_put_place a n 0 ∙ Laws.scheduler_put_length us n 0 ∙ f.scheduler;
    nexts = λ i l. by_index n i (λ e. rw (← e) (ap (λ (m : Item). m.next) own)) (λ ne. ap (λ (m : Item). m.next) (other i ne) ∙ f.nexts i (omega arith));
    places = λ i l. by_index n i (λ e. rw (← e) (ap (λ (m : Item). m.place) own)) (λ ne. ap (λ (m : Item). m.place) (other i ne) ∙ f.places i (omega arith));
    sizes = λ i l. by_index n i (λ e. rw (← e) (ap (λ (m : Item). m.length) own)) (λ ne. ap (λ (m : Item). m.length) (other i ne) ∙ f.sizes i (omega arith));
  }

pub freed_all : (ws : List ℕ) (n : ℕ) → length ws ≡ 20768 → n ≤ 1024 → Freed ws (freed ws n) n
unfolding freed c b a
freed_all ws zero l h = record {
  long = refl;
  options = refl;
  totals = refl;
  scheduler = refl;
  nexts = λ i z. absurd (omega arith);
  places = λ i z. absurd (omega arith);
  sizes = λ i z. absurd (omega arith);
}
freed_all ws (suc n) l h =
    let f = freed_all ws n l (omega arith) in
    freed_more ws (freed ws n) n (f.long ∙ l) (omega arith) f
