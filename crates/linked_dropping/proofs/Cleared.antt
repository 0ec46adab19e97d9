-- The messages of a chain dropped one by one: what the words are then. Assumes nothing.
use Prim.Native.Nat.{ℕ, ◌+◌, ◌-◌, ◌≤◌, ◌<◌}
use mathlib.Core.Path.{◌≡◌, refl, sym, ap, subst, ◌∙◌}
use mathlib.Core.List.{List, [], ◌∷◌, reverse_aux}
use native.Mathlib.Omega.{arith}
use lib.ListN.{length}
use Rattle.queue_words.specs.Header.{options_at, totals_at, scheduler_at}
use Rattle.queue_words.specs.Active.{active_at}
use Rattle.queue_words.specs.Items.{item_at, put_next}
use Rattle.queue_words.specs.Leasts.{leasts_at}
use Rattle.queue_words.specs.Known.{known_at}
use Rattle.queue_words.specs.Streams.{stream_at_words}
use Rattle.queue_words.specs.declared.header.Totals.{Totals}
use Rattle.queue_words.specs.declared.items.Item.{Item}
use Rattle.queue_words.proofs.Laws
use Rattle.queue_model.specs.Types.{remaining}
use Rattle.queue_model.specs.Types as plain
use Rattle.payload_store.specs.Words.{size_of, used_of}
use Rattle.payload_store.specs.Good.{payload_of}
use Rattle.payload_store.specs.Good as payload
use Rattle.payload_store.specs.Promise.{SamePlaces}
use Rattle.payload_store.proofs.Goods.{good_same, payload_kept}
use Rattle.message_chains.specs.Amounts.{rest}
use Rattle.message_chains.specs.Heads.{released}
use Rattle.queue_state.specs.Chains.{Linked, count, sum_of, each}
use Rattle.queue_state.specs.Model.{next_of, item_of, item_in_words}
use Rattle.queue_state.proofs.Chains.{hit_same, hit_eq, hit_other, count_head, linked_frame, each_frame, sum_frame}
use Rattle.queue_state.proofs.Splits.{far_tail}
use Rattle.queue_state.proofs.Frames.{Same}
use Rattle.queue_state.proofs.Releases.{Gone, gone}
use Rattle.queue_state.proofs.Facts.{rest_is}
use Rattle.payload_store.proofs.Cases.{by_index}

-- The bytes that remain of the message in a place.
abbrev pub rest_at : List ℕ → ℕ → ℕ
rest_at ws y = rest (item_at ws y)

-- A chain whose messages can be dropped: each place once, each with a payload of which nothing is sent.
pub record Ready (ws st : List ℕ) (p : ℕ) (ps : List ℕ) : Type 0 where
  pub long : length ws ≡ 20768
  pub lay : payload.GoodPayloads ws st
  pub linked : Linked (next_of ws) p ps
  pub once : (y : ℕ) → count y ps ≤ 1
  pub live : (y : ℕ) → 1 ≤ count y ps → 1 ≤ size_of ws y
  pub fresh : (y : ℕ) → 1 ≤ count y ps → (item_in_words ws st y).offset ≡ 0

-- The places of a chain are in the table.
pub linked_fits : (nx : ℕ → ℕ) (p : ℕ) (ps : List ℕ) (y : ℕ) → Linked nx p ps → 1 ≤ count y ps → y < 1024
linked_fits nx p [] y l h = absurd (omega arith)
linked_fits nx p (x ∷ xs) y l h = by_index y x (λ e. omega (arith, l.1)) (λ ne. linked_fits nx (nx x) xs y l.2 (omega (arith, hit_other y x ne)))

-- The dropped places and those that were free.
pub count_turned : (y : ℕ) (ps fr : List ℕ) → count y (reverse_aux ps fr) ≡ count y ps + count y fr
count_turned y [] fr = omega arith
count_turned y (x ∷ xs) fr = omega (arith, count_turned y xs (x ∷ fr))

-- ---- one message

module _ (ws st : List ℕ) (p x : ℕ) (xs : List ℕ) (r : Ready ws st p (x ∷ xs)) where
  pub first_fits : x < 1024
  first_fits = r.linked.1

  pub first_gone : (n : ℕ) → Gone ws st x n (released ws x n)
  first_gone n = gone ws st x n r.long r.lay first_fits (r.live x (count_head x xs))

  pub behind_far : (y : ℕ) → 1 ≤ count y xs → x ≡ y → ⊥
  behind_far y h = far_tail x y xs r.once h

  pub behind_fits : (y : ℕ) → 1 ≤ count y xs → y < 1024
  behind_fits y h = linked_fits (next_of ws) (next_of ws x) xs y r.linked.2 h

  pub behind_same : (n y : ℕ) → 1 ≤ count y xs → Same ws st (released ws x n) st y
  behind_same n y h = (first_gone n).others y (behind_fits y h) (behind_far y h)

  -- the messages behind it can be dropped
  pub ready_behind : (n : ℕ) → Ready (released ws x n) st (next_of ws x) xs
  ready_behind n = record {
    long = (first_gone n).long ∙ r.long;
    lay = (first_gone n).lay;
    linked = linked_frame (next_of ws) (next_of (released ws x n)) (next_of ws x) xs (λ y h. (behind_same n y h).next_same) r.linked.2;
    once = λ y. omega (arith, r.once y);
    live = λ y h. rw (behind_same n y h).size_same (r.live y (omega arith));
    fresh = λ y h. ap (λ (m : plain.Item). m.offset) (behind_same n y h).item_same ∙ r.fresh y (omega arith);
  }

  pub behind_items : (n : ℕ) → each (item_in_words (released ws x n) st) xs ≡ each (item_in_words ws st) xs
  behind_items n = each_frame (item_in_words ws st) (item_in_words (released ws x n) st) xs (λ y h. (behind_same n y h).item_same)

  behind_rest : (n y : ℕ) → 1 ≤ count y xs → rest_at (released ws x n) y ≡ rest_at ws y
  behind_rest n y h =
      sym (rest_is (released ws x n) st y (first_gone n).lay (behind_fits y h))
      ∙ ap remaining (behind_same n y h).item_same
      ∙ rest_is ws st y r.lay (behind_fits y h)

  pub behind_rests : (n : ℕ) → sum_of (rest_at (released ws x n)) xs ≡ sum_of (rest_at ws) xs
  behind_rests n = sum_frame (rest_at ws) (rest_at (released ws x n)) xs (behind_rest n)

  pub behind_sizes : (n : ℕ) → sum_of (size_of (released ws x n)) xs ≡ sum_of (size_of ws) xs
  behind_sizes n = sum_frame (size_of ws) (size_of (released ws x n)) xs (λ y h. (behind_same n y h).size_same)

-- ---- all of them

-- The words after the messages in these places are gone, one after the other.
unfoldable pub cleared : List ℕ → List ℕ → List ℕ
cleared ws [] = ws
cleared ws (x ∷ xs) = cleared (released ws x (rest_at ws x)) xs

-- The messages in ps are gone; of those in hd at most the next places are changed.
pub record Clear (ws st hd ps us : List ℕ) : Type 0 where
  pub long : length us ≡ length ws
  pub lay : payload.GoodPayloads us st
  -- the free places: the dropped ones, the last first, before those that were free
  pub free : (fr : List ℕ) → Linked (next_of ws) (totals_at ws).free fr → ((y : ℕ) → 1 ≤ count y fr → y < 1024) → ((y : ℕ) → 1 ≤ count y fr → count y hd + count y ps ≡ 0)
      → Linked (next_of us) (totals_at us).free (reverse_aux ps fr)
  pub bare : (y : ℕ) → 1 ≤ count y ps → size_of us y ≡ 0
  -- the messages that stay
  pub nexts : (y : ℕ) → y < 1024 → count y hd + count y ps ≡ 0 → next_of us y ≡ next_of ws y
  pub sizes : (y : ℕ) → y < 1024 → count y ps ≡ 0 → size_of us y ≡ size_of ws y
  pub items : (y : ℕ) → y < 1024 → count y ps ≡ 0 → item_in_words us st y ≡ item_in_words ws st y
  -- the totals
  pub total : (totals_at us).total ≡ (totals_at ws).total - sum_of (rest_at ws) ps
  pub waiting : (totals_at us).waiting ≡ (totals_at ws).waiting - length ps
  pub used : used_of us + sum_of (size_of ws) ps ≡ used_of ws
  pub known : (totals_at us).known ≡ (totals_at ws).known
  pub interleaving : (totals_at us).interleaving ≡ (totals_at ws).interleaving
  pub next_id : (totals_at us).next_message_id ≡ (totals_at ws).next_message_id
  -- nothing else
  pub options : options_at us ≡ options_at ws
  pub scheduler : scheduler_at us ≡ scheduler_at ws
  pub table : (j : ℕ) → j < 256 → known_at us j ≡ known_at ws j
  pub streams : (j : ℕ) → j < 256 → stream_at_words us j ≡ stream_at_words ws j
  pub active : (j : ℕ) → active_at us j ≡ active_at ws j
  pub leasts : leasts_at us ≡ leasts_at ws

pub clear_none : (ws st : List ℕ) → payload.GoodPayloads ws st → Clear ws st [] [] ws
clear_none ws st g = record {
  long = refl;
  lay = g;
  free = λ fr l f h. l;
  bare = λ y h. absurd (omega arith);
  nexts = λ y h z. refl;
  sizes = λ y h z. refl;
  items = λ y h z. refl;
  total = omega arith;
  waiting = omega arith;
  used = omega arith;
  known = refl;
  interleaving = refl;
  next_id = refl;
  options = refl;
  scheduler = refl;
  table = λ j h. refl;
  streams = λ j h. refl;
  active = λ j. refl;
  leasts = refl;
}

-- One message is gone, then those behind it.
module _ (ws st : List ℕ) (p x : ℕ) (xs : List ℕ) (r : Ready ws st p (x ∷ xs)) (us : List ℕ) where
  abbrev one : List ℕ
  one = released ws x (rest_at ws x)

  abbrev d : Gone ws st x (rest_at ws x) one
  d = first_gone ws st p x xs r (rest_at ws x)

  -- a place that is neither x nor one of xs
  apart : (y : ℕ) → count y (x ∷ xs) ≡ 0 → x ≡ y → ⊥
  apart y z e = let k : 1 ≤ count y (x ∷ xs) = subst (λ (w : ℕ). 1 ≤ count w (x ∷ xs)) e (count_head x xs) in omega arith

  -- x is not one of xs
  absent : count x xs ≡ 0
  absent = omega (arith, r.once x, hit_same x)

  one_free : (fr : List ℕ) → Linked (next_of ws) (totals_at ws).free fr → ((y : ℕ) → 1 ≤ count y fr → y < 1024) → ((y : ℕ) → 1 ≤ count y fr → count y (x ∷ xs) ≡ 0) → Linked (next_of one) (totals_at one).free (x ∷ fr)
  one_free fr l f h =
      (d.free, first_fits ws st p x xs r, rw d.next (linked_frame (next_of ws) (next_of one) (totals_at ws).free fr (λ y k. (d.others y (f y k) (apart y (h y k))).next_same) l))

  in_fits : (fr : List ℕ) → ((y : ℕ) → 1 ≤ count y fr → y < 1024) → (y : ℕ) → 1 ≤ count y (x ∷ fr) → y < 1024
  in_fits fr f y h = by_index y x (λ e. omega (arith, first_fits ws st p x xs r)) (λ ne. f y (omega (arith, hit_other y x ne)))

  in_apart : (fr : List ℕ) → ((y : ℕ) → 1 ≤ count y fr → count y (x ∷ xs) ≡ 0) → (y : ℕ) → 1 ≤ count y (x ∷ fr) → count y xs ≡ 0
  in_apart fr f y h = by_index y x (λ e. subst (λ (w : ℕ). count w xs ≡ 0) (sym e) absent) (λ ne. omega (arith, f y (omega (arith, hit_other y x ne))))

  module _ (c : Clear one st [] xs us) where
    all_bare : (y : ℕ) → 1 ≤ count y (x ∷ xs) → size_of us y ≡ 0
    all_bare y h = by_index y x
        (λ e. subst (λ (w : ℕ). size_of us w ≡ 0) (sym e) (c.sizes x (first_fits ws st p x xs r) absent ∙ d.bare))
        (λ ne. c.bare y (omega (arith, hit_other y x ne)))

    clear_more : Clear ws st [] (x ∷ xs) us
    clear_more = record {
      long = c.long ∙ d.long;
      lay = c.lay;
      free = λ fr l f h. c.free (x ∷ fr) (one_free fr l f (λ y k. omega (arith, h y k))) (in_fits fr f) (λ y k. omega (arith, in_apart fr (λ y k. omega (arith, h y k)) y k));
      bare = all_bare;
      nexts = λ y h z. c.nexts y h (omega arith) ∙ (d.others y h (apart y (omega arith))).next_same;
      sizes = λ y h z. c.sizes y h (omega arith) ∙ (d.others y h (apart y z)).size_same;
      items = λ y h z. c.items y h (omega arith) ∙ (d.others y h (apart y z)).item_same;
      total = let e = behind_rests ws st p x xs r (rest_at ws x) in omega (arith, c.total, d.total, e);
      waiting = omega (arith, c.waiting, d.waiting);
      used = let e = behind_sizes ws st p x xs r (rest_at ws x) in omega (arith, c.used, d.used, e);
      known = c.known ∙ d.known;
      interleaving = c.interleaving ∙ d.interleaving;
      next_id = c.next_id ∙ d.next_id;
      options = c.options ∙ d.options;
      scheduler = c.scheduler ∙ d.scheduler;
      table = λ j h. c.table j h ∙ d.table j h;
      streams = λ j h. c.streams j h ∙ d.streams j h;
      active = λ j. c.active j ∙ d.active j;
      leasts = c.leasts ∙ d.leasts;
    }

-- THE THEOREM of a chain that is dropped.
pub clear_all : (st : List ℕ) (ps ws : List ℕ) (p : ℕ) → Ready ws st p ps → Clear ws st [] ps (cleared ws ps)
unfolding cleared
clear_all st [] ws p r = clear_none ws st r.lay
clear_all st (x ∷ xs) ws p r =
    clear_more ws st p x xs r (cleared (released ws x (rest_at ws x)) xs)
    (clear_all st xs (released ws x (rest_at ws x)) (next_of ws x) (ready_behind ws st p x xs r (rest_at ws x)))

-- ---- the place before them gets the end for its next

module _ (us st : List ℕ) (x v : ℕ) (long : length us ≡ 20768) (hx : x < 1024) where
  abbrev vs : List ℕ
  vs = put_next us x v

  cut_places : SamePlaces us vs
  cut_places = record {
    long = Laws.whole_put_next us x v;
    places = λ y h. Laws.place_put_next us x v y;
    sizes = λ y h. Laws.length_put_next us x v y;
    used = ap (λ (t : Totals). t.used) (Laws.totals_put_next us x v);
    gaps = ap (λ (t : Totals). t.gaps) (Laws.totals_put_next us x v);
  }

  cut_item : (y : ℕ) → item_of (item_at vs y) (payload_of us st y) ≡ item_of (item_at us y) (payload_of us st y)
  cut_item y = by_index x y
      (λ e. subst (λ (w : ℕ). item_of (item_at vs w) (payload_of us st y) ≡ item_of (item_at us w) (payload_of us st y)) e (ap (λ (m : Item). item_of m (payload_of us st y)) (Laws.item_put_next us x v long hx)))
      (λ ne. ap (λ (m : Item). item_of m (payload_of us st y)) (Laws.item_put_next_other us x v y ne))

  pub cut_in : (y : ℕ) → y < 1024 → item_in_words vs st y ≡ item_in_words us st y
  unfolding item_in_words
  cut_in y h = ap (item_of (item_at vs y)) (payload_kept us vs st y cut_places h) ∙ cut_item y

  pub cut_next : next_of vs x ≡ v
  cut_next = ap (λ (m : Item). m.next) (Laws.item_put_next us x v long hx)

  pub cut_other : (y : ℕ) → (x ≡ y → ⊥) → next_of vs y ≡ next_of us y
  cut_other y ne = ap (λ (m : Item). m.next) (Laws.item_put_next_other us x v y ne)

  far : (ps fr : List ℕ) → count x ps ≡ 0 → ((y : ℕ) → 1 ≤ count y fr → count y (x ∷ []) + count y ps ≡ 0) → (y : ℕ) → 1 ≤ count y (reverse_aux ps fr) → x ≡ y → ⊥
  far ps fr a h y k e =
      let b : count y ps ≡ 0 = subst (λ (w : ℕ). count w ps ≡ 0) e a in
      let m : 1 ≤ count y fr = omega (arith, count_turned y ps fr) in
      omega (arith, h y m, hit_eq y x (sym e))

  pub clear_cut : (ws ps : List ℕ) → count x ps ≡ 0 → Clear ws st [] ps us → Clear ws st (x ∷ []) ps vs
  clear_cut ws ps a c = record {
    long = cut_places.long ∙ c.long;
    lay = good_same us vs st cut_places c.lay;
    free = λ fr l f h. rw (ap (λ (t : Totals). t.free) (Laws.totals_put_next us x v))
        (linked_frame (next_of us) (next_of vs) (totals_at us).free (reverse_aux ps fr) (λ y k. cut_other y (far ps fr a h y k)) (c.free fr l f (λ y k. omega (arith, h y k))));
    bare = λ y h. Laws.length_put_next us x v y ∙ c.bare y h;
    nexts = λ y h z. cut_other y (λ e. omega (arith, hit_eq y x (sym e))) ∙ c.nexts y h (omega arith);
    sizes = λ y h z. Laws.length_put_next us x v y ∙ c.sizes y h z;
    items = λ y h z. cut_in y h ∙ c.items y h z;
    total = ap (λ (t : Totals). t.total) (Laws.totals_put_next us x v) ∙ c.total;
    waiting = ap (λ (t : Totals). t.waiting) (Laws.totals_put_next us x v) ∙ c.waiting;
    used = rw cut_places.used c.used;
    known = ap (λ (t : Totals). t.known) (Laws.totals_put_next us x v) ∙ c.known;
    interleaving = ap (λ (t : Totals). t.interleaving) (Laws.totals_put_next us x v) ∙ c.interleaving;
    next_id = ap (λ (t : Totals). t.next_message_id) (Laws.totals_put_next us x v) ∙ c.next_id;
    options = Laws.options_put_next us x v ∙ c.options;
    scheduler = Laws.scheduler_put_next us x v ∙ c.scheduler;
    table = λ j h. Laws.known_put_next us x v j h ∙ c.table j h;
    streams = λ j h. Laws.stream_put_next us x v j h ∙ c.streams j h;
    active = λ j. Laws.active_put_next us x v j hx ∙ c.active j;
    leasts = Laws.leasts_put_next us x v ∙ c.leasts;
  }
