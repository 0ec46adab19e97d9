-- What a whole fragment shows of its message, and when two messages are the same. Assumes nothing.
use mathlib.Core.Path.{◌≡◌, refl, sym, ap, ◌∙◌}
use mathlib.Core.Bool.{Bool, true, false}
use mathlib.Core.List.{List}
use mathlib.Core.Option.{Option, none, some, get_or}
use Prim.Native.Nat.{ℕ, ◌^◌, ◌≤◌, ◌<◌}
use native.Mathlib.Omega.{arith}
use lib.ListN.{length, take, drop, length-drop}
use lib.Seq.{length-take-le}
use Rattle.types.specs.Wrap.{wrap_suc}
use Rattle.std.specs.Prelude.{if◌then◌else◌}
use Rattle.queue_model.specs.Types.{Item, Counters, Stream, Fragment, remaining, with_numbers}
use Rattle.queue_model.specs.Produce.{Numbered, give_numbers, numbered_in, numbered, make_fragment}
use Rattle.queue_model.proofs.Tests.{eqb_true}
use Rattle.queue_model.proofs.Calm.Calm.{GoodItem}

-- ---- numbering keeps all else

numbered_of : (c : Counters) (i : Item) → numbered c i ≡ numbered_in i.mid c i
unfolding numbered
numbered_of c i = refl

module _ {A : Type 0} (f : Item → A) (i : Item) (kept : (m : Option ℕ) (s : ℕ) → f (with_numbers i m s i.fsn i.offset) ≡ f i) where
  give_kept : (u : Bool) (c : Counters) → f (give_numbers u c i).item ≡ f i
  unfolding give_numbers
  give_kept true c = kept (some c.next_unordered_mid) 0
  give_kept false c = kept (some c.next_ordered_mid) c.next_ssn

  in_kept : (m : Option ℕ) (c : Counters) → f (numbered_in m c i).item ≡ f i
  unfolding numbered_in
  in_kept none c = give_kept i.unordered c
  in_kept (some m) c = refl

  numbered_kept : (c : Counters) → f (numbered c i).item ≡ f i
  unfolding numbered
  numbered_kept c = in_kept i.mid c

-- ---- the whole fragment's fields

abbrev pub whole_fragment : Stream → Item → Fragment
whole_fragment s i = make_fragment s (numbered s.counters i).item (remaining i)

module _ (s : Stream) (i : Item) where
  pub shows_stream : (whole_fragment s i).stream_id ≡ s.id
  unfolding make_fragment
  shows_stream = refl

  pub shows_message : (whole_fragment s i).message_id ≡ i.message_id
  unfolding make_fragment
  shows_message = numbered_kept (λ x. x.message_id) i (λ m t. refl) s.counters

  pub shows_unordered : (whole_fragment s i).unordered ≡ i.unordered
  unfolding make_fragment
  shows_unordered = numbered_kept (λ x. x.unordered) i (λ m t. refl) s.counters

  pub shows_ppid : (whole_fragment s i).ppid ≡ i.ppid
  unfolding make_fragment
  shows_ppid = numbered_kept (λ x. x.ppid) i (λ m t. refl) s.counters

  pub shows_retransmissions : (whole_fragment s i).max_retransmissions ≡ i.max_retransmissions
  unfolding make_fragment
  shows_retransmissions = numbered_kept (λ x. x.max_retransmissions) i (λ m t. refl) s.counters

  pub shows_expiry : (whole_fragment s i).expires_at ≡ i.expires_at
  unfolding make_fragment
  shows_expiry = numbered_kept (λ x. x.expires_at) i (λ m t. refl) s.counters

  pub shows_fsn : (whole_fragment s i).fsn ≡ i.fsn
  unfolding make_fragment
  shows_fsn = numbered_kept (λ x. x.fsn) i (λ m t. refl) s.counters

  pub shows_bytes : (whole_fragment s i).bytes ≡ take (remaining i) (drop i.offset i.payload)
  unfolding make_fragment
  shows_bytes = numbered_kept (λ x. take (remaining i) (drop x.offset x.payload)) i (λ m t. refl) s.counters

  pub shows_lifecycle : (whole_fragment s i).lifecycle_id ≡ i.lifecycle_id
  unfolding make_fragment
  shows_lifecycle =
      let j : Item = (numbered s.counters i).item in
      let r : remaining j ≡ remaining i = numbered_kept remaining i (λ m t. refl) s.counters in
      ap (λ (b : Bool). (if b then j.lifecycle_id else 0)) (eqb_true (sym r))
      ∙ numbered_kept (λ x. x.lifecycle_id) i (λ m t. refl) s.counters

  -- A message that has its MID shows it, with its SSN.
  pub shows_mid : (m : ℕ) → i.mid ≡ some m → (whole_fragment s i).mid ≡ m
  unfolding make_fragment numbered_in
  shows_mid m e =
      ap (λ (v : Numbered). get_or v.item.mid 0) (numbered_of s.counters i ∙ ap (λ (x : Option ℕ). numbered_in x s.counters i) e)
      ∙ ap (λ (x : Option ℕ). get_or x 0) e

  pub shows_ssn : (m : ℕ) → i.mid ≡ some m → (whole_fragment s i).ssn ≡ i.ssn
  unfolding make_fragment numbered_in
  shows_ssn m e = ap (λ (v : Numbered). v.item.ssn) (numbered_of s.counters i ∙ ap (λ (x : Option ℕ). numbered_in x s.counters i) e)

  pub length_bytes : GoodItem i → length (whole_fragment s i).bytes ≡ remaining i
  length_bytes g =
      let u = g.unsent in
      let k : remaining i ≤ length (drop i.offset i.payload) = rw length-drop (omega arith) in
      ap length shows_bytes ∙ length-take-le (remaining i) (drop i.offset i.payload) k

-- ---- counters after numbering

pub counters_given : (c : Counters) (i : Item) (m : ℕ) → i.mid ≡ some m → (numbered c i).counters ≡ c
unfolding numbered_in
counters_given c i m e = ap (λ (v : Numbered). v.counters) (numbered_of c i ∙ ap (λ (x : Option ℕ). numbered_in x c i) e)

pub counters_new : (c : Counters) (i : Item) → i.mid ≡ none → (numbered c i).counters ≡ (give_numbers i.unordered c i).counters
unfolding numbered_in
counters_new c i e = ap (λ (v : Numbered). v.counters) (numbered_of c i ∙ ap (λ (x : Option ℕ). numbered_in x c i) e)

wrap_moves : (x : ℕ) → x < 2 ^ 32 → wrap_suc 32 x ≡ x → ⊥
wrap_moves x h e = omega arith

pub give_moves : (u : Bool) (c : Counters) (i : Item) → c.next_ordered_mid < 2 ^ 32 → c.next_unordered_mid < 2 ^ 32 → (give_numbers u c i).counters ≡ c → ⊥
unfolding give_numbers
give_moves true c i h k e = wrap_moves c.next_unordered_mid k (ap (λ (x : Counters). x.next_unordered_mid) e)
give_moves false c i h k e = wrap_moves c.next_ordered_mid h (ap (λ (x : Counters). x.next_ordered_mid) e)

give_fits : (u : Bool) (c : Counters) (i : Item) → c.next_ordered_mid < 2 ^ 32 → c.next_unordered_mid < 2 ^ 32 → ((give_numbers u c i).counters.next_ordered_mid < 2 ^ 32) × ((give_numbers u c i).counters.next_unordered_mid < 2 ^ 32)
unfolding give_numbers
give_fits true c i h k = omega arith
give_fits false c i h k = omega arith

pub numbered_fits : (c : Counters) (i : Item) → c.next_ordered_mid < 2 ^ 32 → c.next_unordered_mid < 2 ^ 32 → ((numbered c i).counters.next_ordered_mid < 2 ^ 32) × ((numbered c i).counters.next_unordered_mid < 2 ^ 32)
unfolding numbered
numbered_fits c i h k = go i.mid
  where
    go : (m : Option ℕ) → ((numbered_in m c i).counters.next_ordered_mid < 2 ^ 32) × ((numbered_in m c i).counters.next_unordered_mid < 2 ^ 32)
    go none = give_fits i.unordered c i h k
    go (some m) = (h, k)

-- ---- two messages that are the same

make_item : ℕ → ℕ → Bool → ℕ → Option ℕ → ℕ → List ℕ → ℕ → Option ℕ → ℕ → ℕ → Item
make_item a b c d e f g h i j k = record { message_id = a; ppid = b; unordered = c; max_retransmissions = d; expires_at = e; lifecycle_id = f; payload = g; offset = h; mid = i; ssn = j; fsn = k }

make_item_of : (i : Item) → i ≡ make_item i.message_id i.ppid i.unordered i.max_retransmissions i.expires_at i.lifecycle_id i.payload i.offset i.mid i.ssn i.fsn
unfolding make_item
make_item_of i = refl

pub same_item : (i j : Item) → i.message_id ≡ j.message_id → i.ppid ≡ j.ppid → i.unordered ≡ j.unordered → i.max_retransmissions ≡ j.max_retransmissions → i.expires_at ≡ j.expires_at
    → i.lifecycle_id ≡ j.lifecycle_id → i.payload ≡ j.payload → i.offset ≡ j.offset → i.mid ≡ j.mid → i.ssn ≡ j.ssn → i.fsn ≡ j.fsn → i ≡ j
same_item i j e₁ e₂ e₃ e₄ e₅ e₆ e₇ e₈ e₉ e₁₀ e₁₁ = cc (make_item_of i, make_item_of j)
