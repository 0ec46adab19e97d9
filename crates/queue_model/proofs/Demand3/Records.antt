-- Two rising lists of streams that agree at every id have the same records. Assumes nothing.
use mathlib.Core.Path.{◌≡◌, refl, sym, ap, ap₂, ◌∙◌, subst}
use mathlib.Core.Bool.{Bool, true, false}
use mathlib.Core.List.{List, [], ◌∷◌, ◌++◌, map}
use mathlib.Core.Option.{Option, get_or}
use Prim.Native.Nat.{ℕ, zero, suc, ◌+◌, ◌^◌, ◌≤◌, ◌<◌}
use native.Mathlib.Omega.{arith}
use lib.ListN.{length}
use Rattle.std.specs.Prelude.{if◌then◌else◌}
use Rattle.queue_model.specs.Types.{Item, Stream, Options}
use Rattle.queue_model.specs.Streams.{new_stream, stream_key, at}
use Rattle.queue_model.specs.Image.{StreamRecord, MessageRecord, plain, stream_record, stream_records, message_record, message_records}
use Rattle.queue_model.proofs.Tests.{less, same, more, tri}
use Rattle.queue_model.proofs.Table.{find_here, find_there, find_after, After, Rising, after_down}
use Rattle.queue_model.proofs.Streams.{at_found, at_new, at_id}
use Rattle.queue_model.proofs.Calm.Calm.{AllGood, GoodStreams}
use Rattle.queue_model.proofs.Demand3.Restored.{plain_new, same_record}

module _ {A : Type 0} (o : Options) (f : Stream → List A) (nothing : (k : ℕ) → f (new_stream o k) ≡ []) where
  -- What every stream of a list gives, one after another.
  abbrev flat : List Stream → List A
  flat [] = []
  flat (s ∷ ss) = f s ++ flat ss

  at_first : (s : Stream) (ss : List Stream) → f (at o (s ∷ ss) s.id) ≡ f s
  at_first s ss = ap f (at_found o (s ∷ ss) s.id s (find_here stream_key s.id s ss refl))

  at_rest : (s : Stream) (ss : List Stream) (k : ℕ) → (s.id ≡ k → ⊥) → f (at o (s ∷ ss) k) ≡ f (at o ss k)
  at_rest s ss k n = ap (λ (x : Option Stream). f (get_or x (new_stream o k))) (find_there stream_key k s ss n)

  at_absent : (k : ℕ) (ss : List Stream) → After stream_key k ss → f (at o ss k) ≡ []
  at_absent k ss a = ap f (at_new o ss k (find_after stream_key k ss a)) ∙ nothing k

  abbrev Agree : List Stream → List Stream → Type 0
  Agree xs ys = (k : ℕ) → k < 2 ^ 16 → f (at o xs k) ≡ f (at o ys k)

  -- Dropping a first stream that gives nothing.
  agree_left : (x : Stream) (xs ys : List Stream) → After stream_key x.id xs → After stream_key x.id ys → Agree (x ∷ xs) ys → Agree xs ys
  agree_left x xs ys a b h k l = elim (tri x.id k) [
    | less m ↦ sym (at_rest x xs k (λ e. omega arith)) ∙ h k l
    | same e ↦ subst (λ (j : ℕ). f (at o xs j) ≡ f (at o ys j)) e (at_absent x.id xs a ∙ sym (at_absent x.id ys b))
    | more m ↦ sym (at_rest x xs k (λ e. omega arith)) ∙ h k l
  ]

  agree_right : (y : Stream) (xs ys : List Stream) → After stream_key y.id xs → After stream_key y.id ys → Agree xs (y ∷ ys) → Agree xs ys
  agree_right y xs ys a b h k l = elim (tri y.id k) [
    | less m ↦ h k l ∙ at_rest y ys k (λ e. omega arith)
    | same e ↦ subst (λ (j : ℕ). f (at o xs j) ≡ f (at o ys j)) e (at_absent y.id xs a ∙ sym (at_absent y.id ys b))
    | more m ↦ h k l ∙ at_rest y ys k (λ e. omega arith)
  ]

  agree_both : (x y : Stream) (xs ys : List Stream) → x.id ≡ y.id → After stream_key x.id xs → After stream_key y.id ys → Agree (x ∷ xs) (y ∷ ys) → Agree xs ys
  agree_both x y xs ys e a b h k l = elim (tri x.id k) [
    | less m ↦ sym (at_rest x xs k (λ g. omega arith)) ∙ h k l ∙ at_rest y ys k (λ g. omega arith)
    | same g ↦ subst (λ (j : ℕ). f (at o xs j) ≡ f (at o ys j)) g (at_absent x.id xs a ∙ sym (at_absent x.id ys (subst (λ (j : ℕ). After stream_key j ys) (sym e) b)))
    | more m ↦ sym (at_rest x xs k (λ g. omega arith)) ∙ h k l ∙ at_rest y ys k (λ g. omega arith)
  ]

  flat_same : (n : ℕ) (xs ys : List Stream) → length xs + length ys ≤ n → AllGood xs → AllGood ys → Rising stream_key xs → Rising stream_key ys → Agree xs ys → flat xs ≡ flat ys
  flat_same n [] [] l g₁ g₂ r₁ r₂ h = refl
  flat_same zero (x ∷ xs) ys l g₁ g₂ r₁ r₂ h = absurd (omega arith)
  flat_same zero [] (y ∷ ys) l g₁ g₂ r₁ r₂ h = absurd (omega arith)
  flat_same (suc n) (x ∷ xs) [] l g₁ g₂ r₁ r₂ h =
      ap₂ ◌++◌ (sym (at_first x xs) ∙ h x.id g₁.0.id_fits ∙ at_absent x.id [] tt) (flat_same n xs [] (omega arith) g₁.1 tt r₁.1 tt (agree_left x xs [] r₁.0 tt h))
  flat_same (suc n) [] (y ∷ ys) l g₁ g₂ r₁ r₂ h =
      flat_same n [] ys (omega arith) tt g₂.1 tt r₂.1 (agree_right y [] ys tt r₂.0 h)
      ∙ ap (λ (z : List A). z ++ flat ys) (sym (at_absent y.id [] tt) ∙ h y.id g₂.0.id_fits ∙ at_first y ys)
  flat_same (suc n) (x ∷ xs) (y ∷ ys) l g₁ g₂ r₁ r₂ h = elim (tri x.id y.id) [
    | less m ↦ (let b : After stream_key x.id (y ∷ ys) = (m, after_down stream_key ys m r₂.0) in
        ap₂ ◌++◌ (sym (at_first x xs) ∙ h x.id g₁.0.id_fits ∙ at_absent x.id (y ∷ ys) b) (flat_same n xs (y ∷ ys) (omega arith) g₁.1 g₂ r₁.1 r₂ (agree_left x xs (y ∷ ys) r₁.0 b h)))
    | same e ↦ ap₂ ◌++◌ (sym (at_first x xs) ∙ h x.id g₁.0.id_fits ∙ ap (λ (k : ℕ). f (at o (y ∷ ys) k)) e ∙ at_first y ys)
        (flat_same n xs ys (omega arith) g₁.1 g₂.1 r₁.1 r₂.1 (agree_both x y xs ys e r₁.0 r₂.0 h))
    | more m ↦ (let a : After stream_key y.id (x ∷ xs) = (m, after_down stream_key xs m r₁.0) in
        flat_same n (x ∷ xs) ys (omega arith) g₁ g₂.1 r₁ r₂.1 (agree_right y (x ∷ xs) ys a r₂.0 h)
        ∙ ap (λ (z : List A). z ++ flat ys) (sym (at_absent y.id (x ∷ xs) a) ∙ h y.id g₂.0.id_fits ∙ at_first y ys))
  ]

-- ---- the two kinds of records

-- A stream's record, if it has one.
record_list : ℕ → StreamRecord → List StreamRecord
record_list d r = (if plain d r then [] else r ∷ [])

one_record : ℕ → Stream → List StreamRecord
one_record d s = record_list d (stream_record s)

no_record : (o : Options) (k : ℕ) → one_record o.default_priority (new_stream o k) ≡ []
unfolding one_record record_list
no_record o k = ap (λ (b : Bool). (if b then [] else stream_record (new_stream o k) ∷ [])) (plain_new o k)

stream_records_flat : (o : Options) (ss : List Stream) → stream_records o.default_priority ss ≡ flat o (one_record o.default_priority) (no_record o) ss
unfolding stream_records one_record record_list
stream_records_flat o [] = refl
stream_records_flat o (s ∷ ss) = go (plain o.default_priority (stream_record s)) (stream_records_flat o ss)
  where
    go : (b : Bool) → stream_records o.default_priority ss ≡ flat o (one_record o.default_priority) (no_record o) ss
        → ((if b then stream_records o.default_priority ss else stream_record s ∷ stream_records o.default_priority ss))
        ≡ ((if b then [] else stream_record s ∷ [])) ++ flat o (one_record o.default_priority) (no_record o) ss
    go true ih = ih
    go false ih = ap (λ (l : List StreamRecord). stream_record s ∷ l) ih

-- A stream's messages' records.
item_records : ℕ → Stream → List MessageRecord
item_records now s = map (message_record now s.id) s.items

no_items : (o : Options) (now k : ℕ) → item_records now (new_stream o k) ≡ []
unfolding item_records
no_items o now k = refl

message_records_flat : (o : Options) (now : ℕ) (ss : List Stream) → message_records now ss ≡ flat o (item_records now) (no_items o now) ss
unfolding message_records item_records
message_records_flat o now [] = refl
message_records_flat o now (s ∷ ss) = ap (λ (l : List MessageRecord). map (message_record now s.id) s.items ++ l) (message_records_flat o now ss)

module _ (o : Options) (now : ℕ) (xs ys : List Stream) (g₁ : GoodStreams xs) (g₂ : GoodStreams ys)
    (counters : (k : ℕ) → k < 2 ^ 16 → (at o xs k).counters ≡ (at o ys k).counters) (items : (k : ℕ) → k < 2 ^ 16 → (at o xs k).items ≡ (at o ys k).items)
    (priorities : (k : ℕ) → k < 2 ^ 16 → (at o xs k).priority ≡ (at o ys k).priority) where
  pub same_stream_records : stream_records o.default_priority xs ≡ stream_records o.default_priority ys
  unfolding one_record
  same_stream_records =
      stream_records_flat o xs
      ∙ flat_same o (one_record o.default_priority) (no_record o) (length xs + length ys) xs ys (omega arith) g₁.all_good g₂.all_good g₁.rising g₂.rising
      (λ k h. ap (record_list o.default_priority) (same_record (at o xs k) (at o ys k) (at_id o xs k ∙ sym (at_id o ys k)) (counters k h) (priorities k h)))
      ∙ sym (stream_records_flat o ys)

  pub same_message_records : message_records now xs ≡ message_records now ys
  unfolding item_records
  same_message_records =
      message_records_flat o now xs
      ∙ flat_same o (item_records now) (no_items o now) (length xs + length ys) xs ys (omega arith) g₁.all_good g₂.all_good g₁.rising g₂.rising
      (λ k h. ap₂ (λ (j : ℕ) (l : List Item). map (message_record now j) l) (at_id o xs k ∙ sym (at_id o ys k)) (items k h))
      ∙ sym (message_records_flat o now ys)
