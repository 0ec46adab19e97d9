-- A message put in a free place, with its payload: what is read then. Assumes nothing.
use mathlib.Core.Path.{◌≡◌, refl, sym, ap, ◌∙◌, subst}
use mathlib.Core.List.{List, []}
use Prim.Native.Nat.{ℕ, ◌+◌, ◌≤◌, ◌<◌}
use native.Mathlib.Omega.{arith}
use lib.ListN.{length, take, drop}
use Rattle.queue_words.specs.Active.{active_at}
use Rattle.queue_words.specs.Header.{options_at, totals_at, scheduler_at}
use Rattle.queue_words.specs.Items.{item_at, put_item, FitsItem, with_place, with_length}
use Rattle.queue_words.specs.Leasts.{leasts_at}
use Rattle.queue_words.specs.Known.{known_at}
use Rattle.queue_words.specs.Streams.{stream_at_words}
use Rattle.queue_words.specs.declared.header.Totals.{Totals}
use Rattle.queue_words.specs.declared.items.Item.{Item}
use Rattle.queue_words.proofs.Laws
use Rattle.payload_store.specs.Words.{place_of, size_of, used_of, gaps_of, with_bytes}
use Rattle.payload_store.specs.Good.{payload_of}
use Rattle.payload_store.specs.Good as payload
use Rattle.payload_store.specs.Promise.{Put, Frame}
use Rattle.payload_store.specs.Putting.{put_payload}
use Rattle.payload_store.proofs.Cases.{by_index}
use Rattle.payload_store.proofs.Sums.{sum_same}
use Rattle.payload_store.proofs.Puts.{put_law}
use Rattle.payload_store.proofs.Frames.{put_frame}
use Rattle.queue_state.specs.Model.{next_of, item_of, item_in_words}
use Rattle.queue_words.proofs.Finds.{by_lt}

-- The message m in place p, with the payload bs; nothing else is changed but how the payloads lie.
pub record Placed (ws st : List ℕ) (p : ℕ) (m : Item) (bs us ut : List ℕ) : Type 0 where
  pub long : length us ≡ length ws
  pub options : options_at us ≡ options_at ws
  pub totals : totals_at us ≡ with_bytes (totals_at ws) (used_of us) (gaps_of us)
  pub used : used_of us ≡ used_of ws + length bs
  pub scheduler : scheduler_at us ≡ scheduler_at ws
  pub active : (j : ℕ) → active_at us j ≡ active_at ws j
  pub leasts : leasts_at us ≡ leasts_at ws
  pub known : (j : ℕ) → j < 256 → known_at us j ≡ known_at ws j
  pub streams : (j : ℕ) → j < 256 → stream_at_words us j ≡ stream_at_words ws j
  pub store : length ut ≡ length st
  pub lay : payload.GoodPayloads us ut
  -- the new message
  pub new_next : next_of us p ≡ m.next
  pub new_size : size_of us p ≡ length bs
  pub new_item : item_in_words us ut p ≡ item_of m bs
  -- the others
  pub next_kept : (x : ℕ) → (p ≡ x → ⊥) → next_of us x ≡ next_of ws x
  pub size_kept : (x : ℕ) → (p ≡ x → ⊥) → size_of us x ≡ size_of ws x
  pub item_kept : (x : ℕ) → x < 1024 → (p ≡ x → ⊥) → item_in_words us ut x ≡ item_in_words ws st x

-- a row without a payload
payload_none : (ws st : List ℕ) (x : ℕ) → size_of ws x ≡ 0 → payload_of ws st x ≡ []
unfolding payload_of
payload_none ws st x e = rw e

-- a message with another place and length, by its payload
item_in : (ws st : List ℕ) (x a b : ℕ) (m : Item) → item_at ws x ≡ with_length (with_place m a) b → item_in_words ws st x ≡ item_of m (payload_of ws st x)
unfolding item_in_words
item_in ws st x a b m e = ap (λ k. item_of k (payload_of ws st x)) e

module _ (ws st : List ℕ) (p : ℕ) (m : Item) (l : length ws ≡ 20768) (h : p < 1024) (fits : FitsItem m) (no_place : m.place ≡ 0) (no_length : m.length ≡ 0)
    (lay : payload.GoodPayloads ws st) (dead : size_of ws p ≡ 0) where
  -- the row stored, its payload not yet
  us : List ℕ
  us = put_item ws p m

  own : item_at us p ≡ m
  unfolding us
  own = Laws.item_at_put ws p m l h fits

  other : (x : ℕ) → (p ≡ x → ⊥) → item_at us x ≡ item_at ws x
  unfolding us
  other x ne = Laws.item_at_put_other ws p m x ne

  sizes : (x : ℕ) → size_of us x ≡ size_of ws x
  sizes x = by_index p x
      (λ e. subst (λ y. size_of us y ≡ size_of ws y) e (ap (λ (k : Item). k.length) own ∙ no_length ∙ sym dead))
      (λ ne. ap (λ (k : Item). k.length) (other x ne))

  whole : length us ≡ 20768
  unfolding us
  whole = Laws.whole_put_item ws p m ∙ l

  totals : totals_at us ≡ totals_at ws
  unfolding us
  totals = Laws.totals_put_item ws p m

  -- a row with a payload is not this one
  far : (x : ℕ) → 1 ≤ size_of us x → p ≡ x → ⊥
  far x s e = let z : size_of ws x ≡ 0 = subst (λ y. size_of ws y ≡ 0) e dead in omega (arith, sizes x)

  place_kept : (x : ℕ) → 1 ≤ size_of us x → place_of us x ≡ place_of ws x
  place_kept x s = ap (λ (k : Item). k.place) (other x (far x s))

  used_kept : used_of us ≡ used_of ws
  used_kept = ap (λ (t : Totals). t.used) totals

  gaps_kept : gaps_of us ≡ gaps_of ws
  gaps_kept = ap (λ (t : Totals). t.gaps) totals

  row_inside : (x : ℕ) → x < 1024 → place_of us x + size_of us x ≤ length st
  row_inside x b = by_index p x
      (λ e. let z : place_of us x ≡ 0 = subst (λ y. place_of us y ≡ 0) e (ap (λ (k : Item). k.place) own ∙ no_place) in let y : size_of ws x ≡ 0 = subst (λ y. size_of ws y ≡ 0) e dead in omega (arith, sizes x))
      (λ ne. omega (arith, ap (λ (k : Item). k.place) (other x ne), sizes x, lay.inside x b))

  lay_row : payload.GoodPayloads us st
  lay_row = rw gaps_kept (record {
    long = whole;
    limit_in = lay.limit_in;
    end_in = lay.end_in;
    upto_in = lay.upto_in;
    from_in = lay.from_in;
    beside = lay.beside;
    inside = row_inside;
    clear = λ x b s. rw (place_kept x s, sizes x) (lay.clear x b (omega (arith, sizes x)));
    aside = λ x b s. rw (place_kept x s, sizes x) (lay.aside x b (omega (arith, sizes x)));
    apart = λ i j a b ne s t. rw (place_kept i s, place_kept j t, sizes i, sizes j) (lay.apart i j a b ne (omega (arith, sizes i)) (omega (arith, sizes j)));
    used_is = used_kept ∙ lay.used_is ∙ sym (sum_same (size_of ws) (size_of us) 1024 (λ j b. sizes j));
  })

  module _ (bs : List ℕ) (room : used_of ws + length bs ≤ length st) where
    vs : List ℕ
    vs = (put_payload us st p bs).words

    vt : List ℕ
    vt = (put_payload us st p bs).store

    law : Put us st p bs (put_payload us st p bs)
    law = put_law us st p bs lay_row h (sizes p ∙ dead) (omega (arith, used_kept))

    frame : Frame us (put_payload us st p bs).words
    frame = put_frame us st p bs whole

    -- its payload, whether it has one or not
    payload_same : (x : ℕ) → x < 1024 → (p ≡ x → ⊥) → payload_of vs vt x ≡ payload_of us st x
    unfolding vs vt
    payload_same x b ne = by_lt 0 (size_of us x)
        (λ s. law.others x b ne s)
        (λ s. let z : size_of us x ≡ 0 = omega arith in payload_none vs vt x (law.sizes x ne ∙ z) ∙ sym (payload_none us st x z))

    payload_row : (x : ℕ) → (p ≡ x → ⊥) → payload_of us st x ≡ payload_of ws st x
    unfolding payload_of
    payload_row x ne = ap (λ (k : Item). take k.length (drop k.place st)) (other x ne)

    item_row : (x : ℕ) → (p ≡ x → ⊥) → item_in_words us st x ≡ item_in_words ws st x
    unfolding item_in_words
    item_row x ne = ap (λ (k : Item). item_of k (payload_of us st x)) (other x ne) ∙ ap (item_of (item_at ws x)) (payload_row x ne)

    item_same : (x : ℕ) → x < 1024 → (p ≡ x → ⊥) → item_in_words vs vt x ≡ item_in_words us st x
    unfolding vs vt
    item_same x b ne =
        item_in vs vt x (place_of vs x) (size_of vs x) (item_at us x) (frame.items x)
        ∙ ap (item_of (item_at us x)) (payload_same x b ne)
        ∙ sym (item_in us st x (place_of us x) (size_of us x) (item_at us x) refl)

    pub placed : Placed ws st p m bs (put_payload (put_item ws p m) st p bs).words (put_payload (put_item ws p m) st p bs).store
    unfolding us vs vt
    placed = record {
      long = frame.long ∙ Laws.whole_put_item ws p m;
      options = frame.options ∙ Laws.options_put_item ws p m;
      totals = frame.totals ∙ ap (λ t. with_bytes t (used_of vs) (gaps_of vs)) totals;
      used = law.used ∙ ap (λ n. n + length bs) used_kept;
      scheduler = frame.scheduler ∙ Laws.scheduler_put_item ws p m;
      active = λ j. frame.active j ∙ Laws.active_put_item ws p m j h;
      leasts = frame.leasts ∙ Laws.leasts_put_item ws p m;
      known = λ j b. frame.known j b ∙ Laws.known_put_item ws p m j b;
      streams = λ j b. frame.streams j b ∙ Laws.stream_put_item ws p m j b;
      store = law.same;
      lay = law.good;
      new_next = ap (λ (k : Item). k.next) (frame.items p) ∙ ap (λ (k : Item). k.next) own;
      new_size = law.new_size;
      new_item = item_in vs vt p (place_of vs p) (size_of vs p) m (frame.items p ∙ ap (λ k. with_length (with_place k (place_of vs p)) (size_of vs p)) own) ∙ ap (item_of m) law.new;
      next_kept = λ x ne. ap (λ (k : Item). k.next) (frame.items x) ∙ ap (λ (k : Item). k.next) (other x ne);
      size_kept = λ x ne. law.sizes x ne ∙ sizes x;
      item_kept = λ x b ne. item_same x b ne ∙ item_row x ne;
    }
