-- The numbers of a message, and what goes with a fragment, are the model's. Assumes nothing.
use Rattle.std.specs.Prelude.{Some, None}
use mathlib.Core.Path.{◌≡◌, refl}
use mathlib.Core.Bool.{Bool, true, false}
use mathlib.Core.List.{List, []}
use mathlib.Core.Option.{get_or}
use Prim.Native.Nat.{ℕ, ◌+◌, ◌-◌, ◌^◌, ◌≤◌, ◌<◌}
use native.Mathlib.Omega.{arith}
use lib.Dec.{eqb}
use lib.ListN.{length, take, drop, length-drop}
use lib.Seq.{length-take-le}
use Rattle.message_chains.specs.Numbers.{with_numbers}
use Rattle.queue_words.specs.Items as words
use borrow.Author.Tests.{le-ltb}
use Rattle.types.specs.Wrap.{wrapping_add}
use Rattle.types.proofs.Width.{wrap_one, wrap_fits}
use Rattle.queue_words.specs.Flags.{pick}
use Rattle.queue_words.specs.Items.{FitsItem, are_given, mid_in}
use Rattle.queue_words.specs.Streams.{FitsStream}
use Rattle.queue_words.specs.declared.items.Item.{Item}
use Rattle.queue_words.specs.declared.streams.OutgoingStream.{OutgoingStream}
use Rattle.queue_model.specs.Types.{Stream}
use Rattle.std.specs.Prelude.{if◌then◌else◌}
use Rattle.queue_model.specs.Produce.{Numbered, numbered, numbered_in, give_numbers, make_fragment, moved_on}
use Rattle.message_chains.specs.Amounts.{rest, sum}
use Rattle.queue_sending.specs.Data.{shown_lifecycle, data_to_send}
use Rattle.queue_sending.specs.Numbers.{numbered_item, numbered_stream, next_numbers, moved_on_words, with_counters, next_mid, next_ssn}
use Rattle.queue_words.specs.Items.{Expiry}
use Rattle.queue_state.specs.Model.{item_of, stream_of, expires_of, mid_of}
use Rattle.linked_sending.specs.Meaning as meaning

-- ---- the numbers

-- What the model makes of a message and its stream.
abbrev pub numbers_of : OutgoingStream → Item → List ℕ → Numbered
numbers_of s m bs = numbered (stream_of 0 s []).counters (item_of m bs)

-- The words' message and stream with numbers are the model's.
pub record Numbers (s : OutgoingStream) (m : Item) (bs : List ℕ) : Type 0 where
  pub item_is : (numbers_of s m bs).item ≡ item_of (numbered_item s m) bs
  pub counters_are : (numbers_of s m bs).counters ≡ (stream_of 0 (numbered_stream s m) []).counters

pub numbers : (s : OutgoingStream) (m : Item) (bs : List ℕ) → Numbers s m bs
unfolding numbered numbered_in give_numbers numbered_item numbered_stream
numbers s m bs = go m.numbers refl m.unordered refl
  where
    go : (a : words.Numbers) → m.numbers ≡ a → (b : Bool) → m.unordered ≡ b → Numbers s m bs
    go (Some n) e b f = record { item_is = rw e; counters_are = rw e }
    go None e true f = record { item_is = rw (e, f); counters_are = rw (e, f, wrap_one 32 s.next_unordered_mid.0) }
    go None e false f = record { item_is = rw (e, f); counters_are = rw (e, f, wrap_one 16 s.next_ssn.0, wrap_one 32 s.next_ordered_mid.0) }

-- Numbers leave the rest of a message and of its stream.
pub record Renumbered (s : OutgoingStream) (m : Item) : Type 0 where
  pub offset_same : (numbered_item s m).offset ≡ m.offset
  pub length_same : (numbered_item s m).length ≡ m.length
  pub next_same : (numbered_item s m).next ≡ m.next
  pub place_same : (numbered_item s m).place ≡ m.place
  pub first_same : (numbered_stream s m).first ≡ s.first
  pub last_same : (numbered_stream s m).last ≡ s.last
  pub amount_same : (numbered_stream s m).buffered_amount ≡ s.buffered_amount
  pub threshold_same : (numbered_stream s m).low_threshold ≡ s.low_threshold
  pub priority_same : (numbered_stream s m).priority ≡ s.priority
  pub state_same : (numbered_stream s m).pause_state ≡ s.pause_state

pub renumbered : (s : OutgoingStream) (m : Item) → Renumbered s m
unfolding numbered_item numbered_stream
renumbered s m = go (are_given m.numbers) refl m.unordered refl
  where
    go : (a : Bool) → are_given m.numbers ≡ a → (b : Bool) → m.unordered ≡ b → Renumbered s m
    go true e b f = record { offset_same = simp e; length_same = simp e; next_same = simp e; place_same = simp e; first_same = simp e; last_same = simp e; amount_same = simp e; threshold_same = simp e; priority_same = simp e; state_same = simp e }
    go false e true f = record { offset_same = simp (e, f); length_same = simp (e, f); next_same = simp (e, f); place_same = simp (e, f); first_same = simp (e, f); last_same = simp (e, f); amount_same = simp (e, f); threshold_same = simp (e, f); priority_same = simp (e, f); state_same = simp (e, f) }
    go false e false f = record { offset_same = simp (e, f); length_same = simp (e, f); next_same = simp (e, f); place_same = simp (e, f); first_same = simp (e, f); last_same = simp (e, f); amount_same = simp (e, f); threshold_same = simp (e, f); priority_same = simp (e, f); state_same = simp (e, f) }

-- A message that has its numbers keeps them, and so does its stream.
pub numbered_before : (s : OutgoingStream) (m : Item) → are_given m.numbers ≡ true → (numbered_stream s m ≡ s) × (numbered_item s m ≡ m)
unfolding numbered_item numbered_stream
numbered_before s m e = (rw e, rw e)

-- ---- the fragment

expiry_is : (e : Expiry) → meaning.expiry_of (expires_of e) ≡ e
expiry_is None = refl
expiry_is (Some t) = refl

mid_is : (n : words.Numbers) → get_or (mid_of n) 0 ≡ (mid_in n).0
mid_is None = refl
mid_is (Some n) = refl

shown_is : (b : Bool) (n : ℕ) → (if b then n else 0) ≡ pick b n 0
shown_is true n = refl
shown_is false n = refl

-- The bytes of a fragment.
pub part_length : (bs : List ℕ) (off n : ℕ) → off + n ≤ length bs → length (take n (drop off bs)) ≡ n
part_length bs off n h = length-take-le n (drop off bs) (simp length-drop (omega arith))

-- What goes with the fragment of n bytes.
pub data_is : (s : Stream) (m : Item) (bs : List ℕ) (n : ℕ) → length bs ≡ m.length → m.offset + n ≤ m.length
    → meaning.data_of (make_fragment s (item_of m bs) n) ≡ data_to_send s.id m n
unfolding make_fragment data_to_send shown_lifecycle rest
data_is s m bs n e h =
    let l : length (take n (drop m.offset bs)) ≡ n = part_length bs m.offset n (omega arith) in
    let x = expiry_is m.expires_at in
    let d = mid_is m.numbers in
    let y = shown_is (eqb n (m.length - m.offset)) m.lifecycle_id in
    rw (l, d, e, x, y)

-- ---- their widths

add_fits : (w n : ℕ) → wrapping_add w n 1 < 2 ^ w
add_fits w n = rw (wrap_one w n) (wrap_fits w n)

pub stream_fits : (s : OutgoingStream) (m : Item) → FitsStream s → FitsStream (numbered_stream s m)
unfolding numbered_stream
stream_fits s m f = go (are_given m.numbers) m.unordered
  where
    go : (a b : Bool) → FitsStream (pick a s (pick b (with_counters s s.next_ssn (next_mid s.next_unordered_mid) s.next_ordered_mid) (with_counters s (next_ssn s.next_ssn) s.next_unordered_mid (next_mid s.next_ordered_mid))))
    go true b = f
    go false true = record {
      priority_fits = f.priority_fits;
      ssn_fits = f.ssn_fits;
      unordered_mid_fits = add_fits 32 s.next_unordered_mid.0;
      ordered_mid_fits = f.ordered_mid_fits;
    }
    go false false = record {
      priority_fits = f.priority_fits;
      ssn_fits = add_fits 16 s.next_ssn.0;
      unordered_mid_fits = f.unordered_mid_fits;
      ordered_mid_fits = add_fits 32 s.next_ordered_mid.0;
    }

pub item_fits : (s : OutgoingStream) (m : Item) → FitsStream s → FitsItem m → FitsItem (numbered_item s m)
unfolding numbered_item
item_fits s m f g = go (are_given m.numbers) m.unordered
  where
    go : (a b : Bool) → FitsItem (pick a m (with_numbers m (next_numbers s b)))
    go true b = g
    go false true = record {
      ssn_fits = omega arith;
      retransmissions_fits = g.retransmissions_fits;
      message_id_fits = g.message_id_fits;
      ppid_fits = g.ppid_fits;
      mid_fits = f.unordered_mid_fits;
      fsn_fits = g.fsn_fits;
    }
    go false false = record {
      ssn_fits = f.ssn_fits;
      retransmissions_fits = g.retransmissions_fits;
      message_id_fits = g.message_id_fits;
      ppid_fits = g.ppid_fits;
      mid_fits = f.ordered_mid_fits;
      fsn_fits = g.fsn_fits;
    }

pub moved_fits : (m : Item) (n : ℕ) → FitsItem m → FitsItem (moved_on_words m n)
unfolding moved_on_words
moved_fits m n g = record {
  ssn_fits = g.ssn_fits;
  retransmissions_fits = g.retransmissions_fits;
  message_id_fits = g.message_id_fits;
  ppid_fits = g.ppid_fits;
  mid_fits = g.mid_fits;
  fsn_fits = add_fits 32 m.fsn.0;
}

-- ---- a message that goes on

-- What stays of a message that has moved on.
pub record MovedOn (m : Item) (n : ℕ) : Type 0 where
  pub next_same : (moved_on_words m n).next ≡ m.next
  pub place_same : (moved_on_words m n).place ≡ m.place
  pub length_same : (moved_on_words m n).length ≡ m.length

pub moved_same : (m : Item) (n : ℕ) → MovedOn m n
unfolding moved_on_words
moved_same m n = record { next_same = refl; place_same = refl; length_same = refl }

-- It is the model's, where the offset does not pass 2^64 - 1.
pub moved_is : (m : Item) (bs : List ℕ) (n : ℕ) → m.offset + n ≤ 18446744073709551615 → item_of (moved_on_words m n) bs ≡ moved_on (item_of m bs) n
unfolding moved_on_words moved_on sum
moved_is m bs n h = rw (wrap_one 32 m.fsn.0, le-ltb (18446744073709551615 - m.offset) n (omega arith))
