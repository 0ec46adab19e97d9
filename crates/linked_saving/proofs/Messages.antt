-- A message's record on the words is the model's. Assumes nothing.
use Rattle.std.specs.Prelude.{Some, None}
use mathlib.Core.Path.{◌≡◌, refl, sym, ap, ◌∙◌}
use mathlib.Core.Bool.{Bool, true, false}
use mathlib.Core.List.{List, [], ◌∷◌, ◌++◌, map, append_assoc}
use mathlib.Core.Option.{get_or}
use Prim.Native.Nat.{ℕ, ◌+◌, ◌-◌, ◌/◌, ◌≤◌, ◌<◌, min}
use native.Mathlib.Nat.{min-eq_left, min-eq_right}
use native.Mathlib.Omega.{arith}
use borrow.Author.Tests.{leb-true, ltb-true, ltb-false}
use lib.Dec.{ltb, leb}
use lib.ListN.{length}
use Rattle.queue_words.specs.Flags.{pick}
use Rattle.queue_words.specs.Items.{item_at, has_expiry, are_given, mid_in, ssn_in}
use Rattle.queue_words.specs.Items.{Expiry}
use Rattle.queue_words.specs.declared.items.Item.{Item}
use Rattle.queue_words.specs.Items.{Numbers}
use Rattle.queue_model.specs.Logic.{is_some}
use Rattle.queue_model.specs.Bytes.{row_bytes}
use Rattle.queue_model.specs.Image.{MessageRecord, message_widths, message_row, message_bytes, messages_bytes, bit, ms_left_at, message_record}
use Rattle.queue_model.proofs.Image.ReadWrite.{message_bytes_of, messages_bytes_cons}
use Rattle.payload_store.specs.Good.{payload_of}
use Rattle.queue_state.specs.Chains.{each}
use Rattle.queue_state.specs.Model.{expires_of, mid_of, item_of, item_in_words}
use Rattle.handover_records.specs.Records.{message_row_words}
use Rattle.saving.specs.Records.{flags_of, left_at, left_of, ms_left, message_record_words}
use Rattle.saving.specs.Sound.{ItemOk, AllOk}
use Rattle.saving.specs.Bytes.{item_bytes, chain_bytes}
use Rattle.saving.proofs.Passing.{pick_by}
use Rattle.saving.proofs.Lengths.{payload_long}

-- ------------------------------------------------------------------ the fields

flags_same : (u : Bool) (n : Numbers) (e : Expiry) → pick u 1 0 + pick (are_given n) 2 0 + pick (has_expiry e) 4 0 ≡ bit u 1 + bit (is_some (mid_of n)) 2 + bit (is_some (expires_of e)) 4
unfolding bit is_some
flags_same true (Some n) (Some t) = refl
flags_same true (Some n) None = refl
flags_same true None (Some t) = refl
flags_same true None None = refl
flags_same false (Some n) (Some t) = refl
flags_same false (Some n) None = refl
flags_same false None (Some t) = refl
flags_same false None None = refl

-- "rounded down, 0 if past, at most 2,147,483,647"
left_same : (time at : ℕ) → left_at time at ≡ min ((at - time) / 1000000) 2147483647
unfolding left_at
left_same time at =
    pick_by (λ (n : ℕ). n ≡ min ((at - time) / 1000000) 2147483647) (leb at time) 0
    (pick (ltb 2147483647 ((at - time) / 1000000)) 2147483647 ((at - time) / 1000000))
    (λ e. sym (past (leb-true at time e)))
    (λ e.
    pick_by (λ (n : ℕ). n ≡ min ((at - time) / 1000000) 2147483647) (ltb 2147483647 ((at - time) / 1000000)) 2147483647 ((at - time) / 1000000)
    (λ f. sym (most (ltb-true 2147483647 ((at - time) / 1000000) f)))
    (λ f. sym (min-eq_left (ltb-false 2147483647 ((at - time) / 1000000) f))))
  where
    most : {n : ℕ} → 2147483647 < n → min n 2147483647 ≡ 2147483647
    most h = min-eq_right (omega (arith, h))

    past : at ≤ time → min ((at - time) / 1000000) 2147483647 ≡ 0
    past h =
        let z : at - time ≡ 0 = omega (arith, h) in
        rw z

left_given : (e : Expiry) (time : ℕ) → left_of e time ≡ ms_left_at time (expires_of e)
unfolding ms_left_at
left_given None time = refl
left_given (Some t) time = left_same time t

mid_given : (n : Numbers) → (mid_in n).0 ≡ get_or (mid_of n) 0
mid_given None = refl
mid_given (Some n) = refl

-- ------------------------------------------------------------------ the record

row_same : (m : Item) (id time : ℕ) (bs : List ℕ) → m.length ≡ length bs → message_row_words (message_record_words m id time) ≡ message_row (message_record time id (item_of m bs))
unfolding message_record_words message_record ms_left
row_same m id time bs h =
    fields (flags_of m) _ (ms_left m time) _ _ _ m.length _ (flags_same m.unordered m.numbers m.expires_at) (left_given m.expires_at time) (mid_given m.numbers) h
  where
    row : ℕ → ℕ → ℕ → ℕ → List ℕ
    row f l d n = id ∷ f ∷ 0 ∷ m.ppid ∷ l ∷ m.max_retransmissions ∷ (ssn_in m.numbers).0 ∷ d ∷ m.fsn.0 ∷ m.lifecycle_id ∷ m.message_id.0 ∷ m.offset ∷ n ∷ []

    fields : (f f' l l' d d' n n' : ℕ) → f ≡ f' → l ≡ l' → d ≡ d' → n ≡ n' → row f l d n ≡ row f' l' d' n'
    fields f f' l l' d d' n n' a b c e = rw (a, b, c, e)

pub item_same : (ws st : List ℕ) (time id x : ℕ) → ItemOk (item_at ws x) (length st) → item_bytes ws st time id x ≡ message_bytes (message_record time id (item_in_words ws st x))
unfolding item_bytes item_in_words message_record
item_same ws st time id x k =
    ap (λ (r : List ℕ). row_bytes message_widths r ++ payload_of ws st x) (row_same (item_at ws x) id time (payload_of ws st x) (sym (payload_long ws st x k)))
    ∙ sym (message_bytes_of (message_record time id (item_in_words ws st x)))

-- the records of a chain, before others
pub chain_same : (ws st : List ℕ) (time id : ℕ) (ps more : List ℕ) (rs : List MessageRecord) → AllOk ws (length st) ps → more ≡ messages_bytes rs
    → chain_bytes ws st time id ps ++ more ≡ messages_bytes (map (message_record time id) (each (item_in_words ws st) ps) ++ rs)
unfolding chain_bytes
chain_same ws st time id [] more rs o e = e
chain_same ws st time id (x ∷ xs) more rs o e =
    append_assoc (item_bytes ws st time id x) (chain_bytes ws st time id xs) more
    ∙ rw (item_same ws st time id x o.0, chain_same ws st time id xs more rs o.1 e)
    (sym (messages_bytes_cons (message_record time id (item_in_words ws st x)) (map (message_record time id) (each (item_in_words ws st) xs) ++ rs)))
