-- One message is gone: what `released` leaves. Its place is the first free one, every other message is as it was. Assumes nothing.
use mathlib.Core.Path.{◌≡◌, ap, ◌∙◌}
use mathlib.Core.List.{List}
use Prim.Native.Nat.{ℕ, ◌+◌, ◌-◌, ◌≤◌, ◌<◌}
use lib.ListN.{length}
use Rattle.queue_words.specs.Header.{options_at, totals_at, put_totals, scheduler_at, FitsTotals}
use Rattle.queue_words.specs.Items.{item_at, put_next, with_next}
use Rattle.queue_words.specs.Active.{active_at}
use Rattle.queue_words.specs.Leasts.{leasts_at}
use Rattle.queue_words.specs.Known.{known_at}
use Rattle.queue_words.specs.Streams.{stream_at_words}
use Rattle.queue_words.specs.declared.header.Totals.{Totals}
use Rattle.queue_words.specs.declared.items.Item.{Item}
use Rattle.queue_words.proofs.Laws
use Rattle.payload_store.specs.Words.{size_of, used_of}
use Rattle.payload_store.specs.Good.{payload_of}
use Rattle.payload_store.specs.Good as payload
use Rattle.payload_store.specs.Dropping.{drop_payload}
use Rattle.payload_store.specs.Promise.{SamePlaces, Dropped, Frame}
use Rattle.payload_store.proofs.Drops.{drop_law}
use Rattle.payload_store.proofs.Frames.{drop_frame}
use Rattle.payload_store.proofs.Goods.{good_same, payload_kept}
use Rattle.message_chains.specs.Heads.{without_message, released}
use Rattle.queue_state.specs.Model.{next_of, item_of, item_in_words}
use Rattle.queue_state.proofs.Frames.{Same}

-- The message in place x is gone from ws, with n bytes of the total: us.
pub record Gone (ws st : List ℕ) (x n : ℕ) (us : List ℕ) : Type 0 where
  pub long : length us ≡ length ws
  pub lay : payload.GoodPayloads us st
  -- its place
  pub next : next_of us x ≡ (totals_at ws).free
  pub bare : size_of us x ≡ 0
  -- every other message
  pub others : (y : ℕ) → y < 1024 → (x ≡ y → ⊥) → Same ws st us st y
  -- the totals
  pub free : (totals_at us).free ≡ x
  pub total : (totals_at us).total ≡ (totals_at ws).total - n
  pub waiting : (totals_at us).waiting ≡ (totals_at ws).waiting - 1
  pub used : used_of us + size_of ws x ≡ used_of ws
  pub known : (totals_at us).known ≡ (totals_at ws).known
  pub interleaving : (totals_at us).interleaving ≡ (totals_at ws).interleaving
  pub next_id : (totals_at us).next_message_id ≡ (totals_at ws).next_message_id
  -- nothing else
  pub options : options_at us ≡ options_at ws
  pub scheduler : scheduler_at us ≡ scheduler_at ws
  pub table : (j : ℕ) → j < 256 → known_at us j ≡ known_at ws j
  pub streams : (j : ℕ) → j < 256 → stream_at_words us j ≡ stream_at_words ws j
  pub active : (j : ℕ) → active_at us j ≡ active_at ws j
  pub leasts : leasts_at us ≡ leasts_at ws

module _ (ws st : List ℕ) (x n : ℕ) (long : length ws ≡ 20768) (ds : List ℕ) (hx : x < 1024) (d : Dropped ws st x ds) (f : Frame ws ds) where
  abbrev vs : List ℕ
  vs = put_next ds x (totals_at ds).free

  abbrev us : List ℕ
  us = put_totals vs (without_message (totals_at ds) x n)

  long_ds : length ds ≡ 20768
  long_ds = f.long ∙ long

  long_vs : length vs ≡ 20768
  long_vs = Laws.whole_put_next ds x (totals_at ds).free ∙ long_ds

  fits : FitsTotals (without_message (totals_at ds) x n)
  fits = record { message_id_fits = (Laws.totals_at_fits ds).message_id_fits }

  totals_us : totals_at us ≡ without_message (totals_at ds) x n
  totals_us = Laws.totals_at_put vs (without_message (totals_at ds) x n) long_vs fits

  item_us : (y : ℕ) → item_at us y ≡ item_at vs y
  item_us y = Laws.item_put_totals vs (without_message (totals_at ds) x n) y

  item_new : item_at us x ≡ with_next (item_at ds x) (totals_at ds).free
  item_new = item_us x ∙ Laws.item_put_next ds x (totals_at ds).free long_ds hx

  item_other : (y : ℕ) → (x ≡ y → ⊥) → item_at us y ≡ item_at ds y
  item_other y ne = item_us y ∙ Laws.item_put_next_other ds x (totals_at ds).free y ne

  places : SamePlaces ds us
  places = record {
    long = Laws.whole_put_totals vs (without_message (totals_at ds) x n) ∙ Laws.whole_put_next ds x (totals_at ds).free;
    places = λ y h. ap (λ (m : Item). m.place) (item_us y) ∙ Laws.place_put_next ds x (totals_at ds).free y;
    sizes = λ y h. ap (λ (m : Item). m.length) (item_us y) ∙ Laws.length_put_next ds x (totals_at ds).free y;
    used = ap (λ (t : Totals). t.used) totals_us;
    gaps = ap (λ (t : Totals). t.gaps) totals_us;
  }

  other_item : (y : ℕ) → y < 1024 → (x ≡ y → ⊥) → item_in_words us st y ≡ item_in_words ws st y
  unfolding item_in_words
  other_item y h ne =
      let p : payload_of us st y ≡ payload_of ws st y = payload_kept ds us st y places h ∙ d.others y ne in
      let e : item_of (item_at us y) (payload_of ws st y) ≡ item_of (item_at ws y) (payload_of ws st y) = ap (λ (k : Item). item_of k (payload_of ws st y)) (item_other y ne ∙ f.items y) in
      ap (item_of (item_at us y)) p ∙ e

  the_others : (y : ℕ) → y < 1024 → (x ≡ y → ⊥) → Same ws st us st y
  the_others y h ne = record {
    next_same = ap (λ (m : Item). m.next) (item_other y ne ∙ f.items y);
    size_same = ap (λ (m : Item). m.length) (item_other y ne) ∙ d.sizes y ne;
    item_same = other_item y h ne;
  }

  gone_is : Gone ws st x n us
  gone_is = record {
    long = places.long ∙ f.long;
    lay = good_same ds us st places d.good;
    next = ap (λ (m : Item). m.next) item_new ∙ ap (λ (t : Totals). t.free) f.totals;
    bare = ap (λ (m : Item). m.length) item_new ∙ d.free;
    others = the_others;
    free = ap (λ (t : Totals). t.free) totals_us;
    total = ap (λ (t : Totals). t.total) totals_us ∙ ap (λ (t : Totals). t.total - n) f.totals;
    waiting = ap (λ (t : Totals). t.waiting) totals_us ∙ ap (λ (t : Totals). t.waiting - 1) f.totals;
    used = rw places.used d.used;
    known = ap (λ (t : Totals). t.known) totals_us ∙ ap (λ (t : Totals). t.known) f.totals;
    interleaving = ap (λ (t : Totals). t.interleaving) totals_us ∙ ap (λ (t : Totals). t.interleaving) f.totals;
    next_id = ap (λ (t : Totals). t.next_message_id) totals_us ∙ ap (λ (t : Totals). t.next_message_id) f.totals;
    options = Laws.options_put_totals vs (without_message (totals_at ds) x n) ∙ Laws.options_put_next ds x (totals_at ds).free ∙ f.options;
    scheduler = Laws.scheduler_put_totals vs (without_message (totals_at ds) x n) ∙ Laws.scheduler_put_next ds x (totals_at ds).free ∙ f.scheduler;
    table = λ j h. Laws.known_put_totals vs (without_message (totals_at ds) x n) j ∙ Laws.known_put_next ds x (totals_at ds).free j h ∙ f.known j h;
    streams = λ j h. Laws.stream_put_totals vs (without_message (totals_at ds) x n) j ∙ Laws.stream_put_next ds x (totals_at ds).free j h ∙ f.streams j h;
    active = λ j. Laws.active_put_totals vs (without_message (totals_at ds) x n) j ∙ Laws.active_put_next ds x (totals_at ds).free j hx ∙ f.active j;
    leasts = Laws.leasts_put_totals vs (without_message (totals_at ds) x n) ∙ Laws.leasts_put_next ds x (totals_at ds).free ∙ f.leasts;
  }

-- THE THEOREM of a message that is gone.
pub gone : (ws st : List ℕ) (x n : ℕ) → length ws ≡ 20768 → payload.GoodPayloads ws st → x < 1024 → 1 ≤ size_of ws x → Gone ws st x n (released ws x n)
unfolding released
gone ws st x n long lay hx hs = gone_is ws st x n long (drop_payload ws x) hx (drop_law ws st x lay hx hs).1 (drop_frame ws x long)
