-- Whether a message may go: still, where only another part of the words has changed; and what its going leaves of the others, on any words. Assumes
-- nothing.
use mathlib.Core.Path.{◌≡◌, ap, ◌∙◌}
use mathlib.Core.Bool.{Bool, true, false}
use mathlib.Core.List.{List}
use Prim.Native.Nat.{ℕ, ◌+◌, ◌*◌, ◌-◌, ◌≤◌, ◌<◌}
use native.Mathlib.Omega.{arith}
use borrow.Author.Tests.{le-ltb, lt-leb, eq-eqb, ne_eqb}
use lib.Dec.{ltb, eqb}
use lib.ListN.{length, get_or-eq_default}
use Rattle.queue_words.specs.Flags.{pick}
use Rattle.queue_words.specs.Header.{totals_of, totals_words, totals_at, put_totals}
use Rattle.queue_words.specs.Items.{item_at, put_next, put_length}
use Rattle.queue_words.specs.Streams.{is_pending}
use Rattle.queue_words.specs.declared.header.Totals.{Totals}
use Rattle.queue_words.specs.declared.items.Item.{Item}
use Rattle.queue_words.specs.declared.streams.OutgoingStream.{OutgoingStream}
use Rattle.queue_words.specs.declared.header.Gaps.{Gaps}
use Rattle.queue_words.proofs.Rows.{row_put_same}
use Rattle.queue_words.proofs.Laws
use Rattle.queue_words.proofs.Finds.{by_lt}
use Rattle.payload_store.specs.Words.{used_of, gaps_of, place_of, size_of, with_bytes, put_bytes}
use Rattle.payload_store.specs.Gaps.{gaps_left}
use Rattle.payload_store.specs.Dropping.{drop_code_words, gaps_then, dropped, drop_payload}
use Rattle.payload_store.proofs.Cases.{pick_else}
use Rattle.payload_store.proofs.Laws.{size_length, bytes_length, bytes_item}
use Rattle.payload_store.proofs.Drops.{drop_held}
use Rattle.stream_scheduler.specs.Words.{Outcome, outcome}
use Rattle.stream_scheduler.specs.Link.{Untouched}
use Rattle.stream_scheduler.proofs.Frames.{untouched_remove, untouched_set}
use Rattle.message_chains.specs.Heads.{head_code, without_message, released}
use Rattle.message_chains.specs.Dropping.{scheduled_behind}

-- the test reads the row's length and the bytes in use
pub drop_code_kept : (ws us : List ℕ) (i : ℕ) → item_at us i ≡ item_at ws i → totals_at us ≡ totals_at ws → drop_code_words us i ≡ drop_code_words ws i
unfolding drop_code_words
drop_code_kept ws us i e t = rw (ap (λ (m : Item). m.length) e, ap (λ (x : Totals). x.used) t)

pub drop_zero : (ws : List ℕ) (i : ℕ) → i < 1024 → (size_of ws i ≡ 0 → ⊥) → size_of ws i ≤ used_of ws → drop_code_words ws i ≡ 0
unfolding drop_code_words
drop_zero ws i h z u = rw (lt-leb 1024 i h, ne_eqb (size_of ws i) 0 z, le-ltb (used_of ws) (size_of ws i) u)

-- the scheduler's functions change neither
pub drop_untouched : (ws us : List ℕ) (i : ℕ) → i < 1024 → Untouched ws us → drop_code_words us i ≡ drop_code_words ws i
drop_untouched ws us i h u = drop_code_kept ws us i (u.same_items i h) u.same_totals

-- the test of a head has this one in it
pub head_may : (ws : List ℕ) (s : OutgoingStream) (place next n : ℕ) → head_code ws s place next n ≡ 0 → drop_code_words ws place ≡ 0
unfolding head_code
head_may ws s place next n e =
    let t1 = pick_else (ltb (totals_at ws).total n) 16 _ 0 (λ z. omega arith) e in
    let t2 = pick_else (ltb s.buffered_amount n) 16 _ 0 (λ z. omega arith) t1.1 in
    let t3 = pick_else (eqb (totals_at ws).waiting 0) 16 _ 0 (λ z. omega arith) t2.1 in
    (pick_else (ltb 1024 next) 16 _ 0 (λ z. omega arith) t3.1).1

pub head_passed : (ws : List ℕ) (s : OutgoingStream) (place next n code : ℕ) → code ≡ head_code ws s place next n → code ≤ 0 → drop_code_words ws place ≡ 0
head_passed ws s place next n code e h = head_may ws s place next n (omega arith)

-- a stream that waits with what is behind its head, or no more: its head may still go
untouched_pick : (ws : List ℕ) (b : Bool) (x y : Outcome) → Untouched ws x.next → Untouched ws y.next → Untouched ws (pick b x y).next
untouched_pick ws true x y k l = k
untouched_pick ws false x y k l = l

untouched_behind : (ws : List ℕ) (id : ℕ) (s : OutgoingStream) (next : ℕ) → Untouched ws (scheduled_behind ws id s next).next
unfolding scheduled_behind
untouched_behind ws id s next = untouched_pick ws (is_pending s.pause_state) _ _ (untouched_remove ws id) (untouched_set ws id _ _)

pub behind_may : (ws : List ℕ) (id : ℕ) (s : OutgoingStream) (next : ℕ) (b : Bool) (us : List ℕ) (i : ℕ) → i < 1024 → outcome b us ≡ scheduled_behind ws id s next → drop_code_words ws i ≡ 0 → drop_code_words us i ≡ 0
behind_may ws id s next b us i h e z =
    ap (λ (o : Outcome). drop_code_words o.next i) e ∙ drop_untouched ws (scheduled_behind ws id s next).next i h (untouched_behind ws id s next) ∙ z

-- a message that is gone: the others, and the bytes in use
used_put : (ws : List ℕ) (t : Totals) → 18 ≤ length ws → used_of (put_totals ws t) ≡ t.used
unfolding totals_at put_totals
used_put ws t h = ap (λ vs. (totals_of vs).used) (row_put_same ws 7 (totals_words t) (omega arith))

-- words with a payload in a row have those of the header
payload_long : (ws : List ℕ) (i : ℕ) → 1 ≤ size_of ws i → 18 ≤ length ws
unfolding item_at
payload_long ws i live = by_lt (length ws) 3104 (λ h. absurd (omega (arith, live, get_or-eq_default ws 0 {n = 3104 + i * 16 + 12} (omega arith)))) (λ h. omega arith)

module _ (ws : List ℕ) (i : ℕ) (z : drop_code_words ws i ≡ 0) where
  abbrev ds : List ℕ
  ds = drop_payload ws i

  abbrev g : Gaps
  g = gaps_then ws i (gaps_left (gaps_of ws) (place_of ws i) (size_of ws i))

  long : 18 ≤ length ws
  long = payload_long ws i (drop_held ws i z).live

  dropped_long : length (drop_payload ws i) ≡ length ws
  unfolding drop_payload dropped
  dropped_long = rw (eq-eqb (drop_code_words ws i) 0 z) (bytes_length (put_length ws i 0) (used_of ws - size_of ws i) g ∙ size_length ws i 0)

  dropped_other : (y : ℕ) → (i ≡ y → ⊥) → item_at (drop_payload ws i) y ≡ item_at ws y
  unfolding drop_payload dropped
  dropped_other y ne = rw (eq-eqb (drop_code_words ws i) 0 z) (bytes_item (put_length ws i 0) (used_of ws - size_of ws i) g y ∙ Laws.item_put_length_other ws i 0 y ne)

  dropped_used : used_of (drop_payload ws i) ≡ used_of ws - size_of ws i
  unfolding drop_payload dropped put_bytes
  dropped_used =
      rw (eq-eqb (drop_code_words ws i) 0 z)
      (used_put (put_length ws i 0) (with_bytes (totals_at (put_length ws i 0)) (used_of ws - size_of ws i) g) (omega (arith, long, size_length ws i 0)))

  module _ (n : ℕ) where
    abbrev vs : List ℕ
    vs = put_next ds i (totals_at ds).free

    abbrev t : Totals
    t = without_message (totals_at ds) i n

    pub released_other : (y : ℕ) → (i ≡ y → ⊥) → item_at (released ws i n) y ≡ item_at ws y
    unfolding released
    released_other y ne = Laws.item_put_totals vs t y ∙ Laws.item_put_next_other ds i (totals_at ds).free y ne ∙ dropped_other y ne

    pub released_used : used_of (released ws i n) ≡ used_of ws - size_of ws i
    unfolding released
    released_used = used_put vs t (omega (arith, long, dropped_long, Laws.whole_put_next ds i (totals_at ds).free)) ∙ dropped_used
