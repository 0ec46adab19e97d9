-- Words that are alike: the messages are the same, and alike is transitive. Assumes nothing.
use mathlib.Core.Path.{◌≡◌, ap, ◌∙◌}
use mathlib.Core.List.{List}
use Prim.Native.Nat.{ℕ, ◌<◌}
use lib.ListN.{length}
use Rattle.queue_words.specs.Header.{totals_at, put_totals, FitsTotals}
use Rattle.queue_words.specs.declared.header.Totals.{Totals}
use Rattle.queue_words.specs.declared.items.Item.{Item}
use Rattle.queue_words.proofs.Laws
use Rattle.payload_store.specs.Promise.{SamePlaces}
use Rattle.payload_store.specs.Words.{used_of, gaps_of}
use Rattle.payload_store.proofs.Goods.{payload_kept}
use Rattle.queue_state.proofs.Frames.{Same, same_item}
use Rattle.queue_state.proofs.Singles.{Alike}

alike_places : (ws us : List ℕ) → Alike ws us → SamePlaces ws us
alike_places ws us a = record {
  long = a.long;
  places = λ i h. ap (λ (m : Item). m.place) (a.items i h);
  sizes = λ i h. ap (λ (m : Item). m.length) (a.items i h);
  used = a.used;
  gaps = a.gaps;
}

pub alike_same : (ws st us : List ℕ) → Alike ws us → (x : ℕ) → x < 1024 → Same ws st us st x
alike_same ws st us a x h = same_item ws st us st x (a.items x h) (payload_kept ws us st x (alike_places ws us a) h)

pub alike_both : (ws us vs : List ℕ) → Alike ws us → Alike us vs → Alike ws vs
alike_both ws us vs a b = record {
  long = b.long ∙ a.long;
  known = b.known ∙ a.known;
  waiting = b.waiting ∙ a.waiting;
  free = b.free ∙ a.free;
  used = b.used ∙ a.used;
  gaps = b.gaps ∙ a.gaps;
  table = λ j h. b.table j h ∙ a.table j h;
  rows = λ j h. b.rows j h ∙ a.rows j h;
  items = λ j h. b.items j h ∙ a.items j h;
}

-- Totals that count the same.
pub alike_totals : (ws : List ℕ) (t : Totals) → length ws ≡ 20768 → FitsTotals t → t.known ≡ (totals_at ws).known → t.waiting ≡ (totals_at ws).waiting → t.free ≡ (totals_at ws).free → t.used ≡ used_of ws → t.gaps ≡ gaps_of ws
    → Alike ws (put_totals ws t)
alike_totals ws t l f a b c d e =
    let p : totals_at (put_totals ws t) ≡ t = Laws.totals_at_put ws t l f in
    record {
      long = Laws.whole_put_totals ws t;
      known = ap (λ (x : Totals). x.known) p ∙ a;
      waiting = ap (λ (x : Totals). x.waiting) p ∙ b;
      free = ap (λ (x : Totals). x.free) p ∙ c;
      used = ap (λ (x : Totals). x.used) p ∙ d;
      gaps = ap (λ (x : Totals). x.gaps) p ∙ e;
      table = λ j h. Laws.known_put_totals ws t j;
      rows = λ j h. Laws.stream_put_totals ws t j;
      items = λ j h. Laws.item_put_totals ws t j;
    }
