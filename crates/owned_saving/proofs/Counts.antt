-- What the totals of a queue say of its image: the checked call's first pass counts the same. Assumes nothing.
use mathlib.Core.Path.{◌≡◌, refl, sym, ap, ◌∙◌, subst}
use mathlib.Core.Bool.{Bool, true, false, not}
use mathlib.Core.List.{List, [], ◌∷◌}
use Prim.Native.Nat.{ℕ, zero, suc, ◌+◌, ◌*◌, ◌≤◌, ◌<◌}
use native.Mathlib.Nat.{zero-add}
use native.Mathlib.Numerals.{add-one}
use native.Mathlib.Omega.{arith}
use borrow.Author.Tests.{le-ltb}
use lib.ListN.{length}
use Rattle.queue_words.specs.Flags.{pick}
use Rattle.queue_words.specs.Header.{options_at, totals_at}
use Rattle.queue_words.specs.Streams.{stream_at_words}
use Rattle.queue_words.specs.declared.header.Options.{Options}
use Rattle.queue_words.specs.declared.header.Totals.{Totals}
use Rattle.queue_words.specs.declared.known.Known.{Known}
use Rattle.queue_words.specs.declared.streams.OutgoingStream.{OutgoingStream}
use Rattle.queue_words.specs.Known.{known_at}
use Rattle.payload_store.specs.Words.{size_of}
use Rattle.payload_store.proofs.Cases.{false_true}
use Rattle.queue_state.specs.Chains.{sum_of, sum_to, total}
use Rattle.queue_state.specs.Model.{next_of, row_at}
use Rattle.queue_state.specs.Good.{Good}
use Rattle.queue_state.proofs.Chains.{linked_chain}
use Rattle.queue_state.proofs.Splits.{sum_agree, total_upto}
use Rattle.queue_state.proofs.Frames.{row_below, short}
use Rattle.saving.specs.declared.measuring.Counts.{Counts}
use Rattle.saving.specs.declared.measuring.Tally.{Tally}
use Rattle.saving.specs.Measure.{tally_start, is_plain, records_of, tally_stream, tally_from, tally_queue, counts_of, Few}
use Rattle.saving.specs.Sound.{places_at}
use Rattle.saving.proofs.Passing.{size_at, StreamPassed, stream_passed}
use Rattle.saving.proofs.Images.{few_counted}
use Rattle.linked_saving.proofs.Sounds.{sum_from, queue_pass}

-- ------------------------------------------------------------------ what a pass counts, as sums over the streams

pub record Summed (ws : List ℕ) (t : Tally) (i n : ℕ) (u : Tally) : Type 0 where
  pub was_ok : t.ok ≡ true
  pub streams_is : u.streams ≡ t.streams + sum_to (λ j. records_of ws (i + j)) n
  pub count_is : u.messages ≡ t.messages + sum_to (λ j. length (places_at ws (i + j))) n
  pub bytes_is : u.bytes ≡ t.bytes + sum_to (λ j. sum_of (size_at ws) (places_at ws (i + j))) n

more : (ws : List ℕ) (len i n : ℕ) (t v u : Tally) → StreamPassed ws len t i v → Summed ws v (i + 1) n u → Summed ws t i (suc n) u
more ws len i n t v u r f =
    let s : sum_to (λ j. records_of ws (i + j)) (suc n) ≡ records_of ws i + sum_to (λ j. records_of ws (i + 1 + j)) n = sum_from (records_of ws) i n in
    let c : sum_to (λ j. length (places_at ws (i + j))) (suc n) ≡ length (places_at ws i) + sum_to (λ j. length (places_at ws (i + 1 + j))) n = sum_from (λ j. length (places_at ws j)) i n in
    let b : sum_to (λ j. sum_of (size_at ws) (places_at ws (i + j))) (suc n) ≡ sum_of (size_at ws) (places_at ws i) + sum_to (λ j. sum_of (size_at ws) (places_at ws (i + 1 + j))) n =
    sum_from (λ j. sum_of (size_at ws) (places_at ws j)) i n in
    record {
      was_ok = r.was_ok;
      streams_is = omega (arith, s, r.streams_is, f.streams_is);
      count_is = omega (arith, c, r.count_is, f.count_is);
      bytes_is = omega (arith, b, r.bytes_is, f.bytes_is);
    }

summed : (ws : List ℕ) (len : ℕ) (t : Tally) (i n : ℕ) → (tally_from ws len t i n).ok ≡ true → Summed ws t i n (tally_from ws len t i n)
unfolding tally_from sum_to
summed ws len t i zero e = record { was_ok = e; streams_is = omega arith; count_is = omega arith; bytes_is = omega arith }
summed ws len t i (suc n) e =
    let f : Summed ws (tally_stream ws len i t) (i + 1) n (tally_from ws len (tally_stream ws len i t) (i + 1) n) = summed ws len (tally_stream ws len i t) (i + 1) n e in
    more ws len i n t (tally_stream ws len i t) (tally_from ws len (tally_stream ws len i t) (i + 1) n) (stream_passed ws len i t f.was_ok) f

-- ------------------------------------------------------------------ the sums of the messages

-- each message has a record of 44 bytes and its payload
chain_size : (ws ps : List ℕ) → sum_of (size_at ws) ps ≡ length ps * 44 + sum_of (size_of ws) ps
chain_size ws [] = refl
chain_size ws (x ∷ xs) = omega (arith, chain_size ws xs)

sum_parts : (f g : ℕ → ℕ) (n : ℕ) → sum_to (λ j. f j * 44 + g j) n ≡ sum_to f n * 44 + sum_to g n
unfolding sum_to
sum_parts f g zero = refl
sum_parts f g (suc n) = omega (arith, sum_parts f g n)

from_zero : (g : ℕ → ℕ) (n : ℕ) → sum_to (λ j. g (0 + j)) n ≡ sum_to g n
from_zero g n = sum_agree g (λ j. g (0 + j)) n (λ j l. ap g (zero-add j))

-- the counts, from the stream records found and the totals
abbrev pub counts_from : ℕ → Totals → Counts
counts_from c t = record { streams = c; messages = t.waiting; bytes = t.waiting * 44 + t.used }

module _ (ws st : List ℕ) (g : Good ws st) where
  places : (i : ℕ) → i < (totals_at ws).known → places_at ws i ≡ g.shape.q i
  places i h = linked_chain (next_of ws) (stream_at_words ws (row_at ws i)).first (g.shape.q i) 1025 (g.shape.rows i h).linked (omega (arith, short ws st g.shape i h))

  -- the sum of a measure over the chains of the known streams, as the totals have it
  chains : (h : List ℕ → ℕ) → h [] ≡ 0 → sum_to (λ j. h (places_at ws j)) (totals_at ws).known ≡ total h g.shape.q
  chains h z =
      sum_agree (λ j. h (g.shape.q j)) (λ j. h (places_at ws j)) (totals_at ws).known (λ j l. ap h (places j l))
      ∙ sym (total_upto h g.shape.q (totals_at ws).known g.shape.known_fits (λ j l. ap h (g.shape.rest j l) ∙ z))

  counts : sum_to (λ j. length (places_at ws j)) (totals_at ws).known ≡ (totals_at ws).waiting
  counts = chains length refl ∙ sym g.shape.waits

  sizes : sum_to (λ j. sum_of (size_of ws) (places_at ws j)) (totals_at ws).known ≡ (totals_at ws).used
  sizes = chains (sum_of (size_of ws)) refl ∙ sym g.shape.used

  bytes : sum_to (λ j. sum_of (size_at ws) (places_at ws j)) (totals_at ws).known ≡ (totals_at ws).waiting * 44 + (totals_at ws).used
  bytes =
      sum_agree (λ j. length (places_at ws j) * 44 + sum_of (size_of ws) (places_at ws j)) (λ j. sum_of (size_at ws) (places_at ws j)) (totals_at ws).known (λ j l. chain_size ws (places_at ws j))
      ∙ sum_parts (λ j. length (places_at ws j)) (λ j. sum_of (size_of ws) (places_at ws j)) (totals_at ws).known
      ∙ rw (counts, sizes)

  queue_from : tally_queue ws (length st) ≡ tally_from ws (length st) tally_start 0 (totals_at ws).known
  unfolding tally_queue
  queue_from = rw (le-ltb 256 (totals_at ws).known g.shape.known_fits)

  whole : Summed ws tally_start 0 (totals_at ws).known (tally_queue ws (length st))
  whole =
      subst (λ (u : Tally). u.ok ≡ true → Summed ws tally_start 0 (totals_at ws).known u) (sym queue_from)
      (summed ws (length st) tally_start 0 (totals_at ws).known) (queue_pass ws st g)

  streams_are : (tally_queue ws (length st)).streams ≡ sum_to (records_of ws) (totals_at ws).known
  streams_are = omega (arith, whole.streams_is, from_zero (records_of ws) (totals_at ws).known)

  messages_are : (tally_queue ws (length st)).messages ≡ (totals_at ws).waiting
  messages_are = omega (arith, whole.count_is, from_zero (λ j. length (places_at ws j)) (totals_at ws).known, counts)

  bytes_are : (tally_queue ws (length st)).bytes ≡ (totals_at ws).waiting * 44 + (totals_at ws).used
  bytes_are = omega (arith, whole.bytes_is, from_zero (λ j. sum_of (size_at ws) (places_at ws j)) (totals_at ws).known, bytes)

  -- what counting asks for, and that its sums fit
  pub rows_pre : (t : Totals) → t ≡ totals_at ws → (t.known ≤ 256) × ((i : ℕ) → i < t.known → row_at ws i < 256)
  rows_pre t e = rw e (g.shape.known_fits, row_below ws st g.shape)

  pub few_own : (t : Totals) → t ≡ totals_at ws → t.waiting * 44 + t.used ≤ 268480512
  few_own t e =
      let f : Few (counts_of (tally_queue ws (length st))) = few_counted ws (length st) (counts_of (tally_queue ws (length st))) refl in
      rw e (omega (arith, f.bytes_few, bytes_are))

  -- what is counted without a look at a message is what the pass counts
  pub counted : (t : Totals) (c : ℕ) → t ≡ totals_at ws → c ≡ sum_to (records_of ws) t.known → counts_from c t ≡ counts_of (tally_queue ws (length st))
  counted t c e s = rw (s, e, streams_are, messages_are, bytes_are)

-- ------------------------------------------------------------------ the walk over the known streams

one_more : (p : Bool) → not p ≡ true → pick {A = ℕ} p 0 1 ≡ 1
one_more true e = false_true e
one_more false e = refl

no_more : (p : Bool) → not p ≡ false → pick {A = ℕ} p 0 1 ≡ 0
no_more true e = refl
no_more false e = false_true (sym e)

pub row_of : (ws : List ℕ) (i n : ℕ) (k : Known) → ((j : ℕ) → j < n → row_at ws j < 256) → i < n → k ≡ known_at ws i → k.place < 256
row_of ws i n k f h e = rw e (f i h)

module _ (ws : List ℕ) (i count : ℕ) (k : Known) (s : OutgoingStream) (o : Options) (p : Bool) (inv : count ≡ sum_to (records_of ws) i) (ek : k ≡ known_at ws i) (es : s ≡ stream_at_words ws k.place) (eo : o ≡ options_at ws)
    (ep : p ≡ is_plain s o.default_priority) where
  records : records_of ws i ≡ pick p 0 1
  records = rw (ep, eo, es, ek)

  pub with_record : not p ≡ true → count + 1 ≡ sum_to (records_of ws) (i + 1)
  unfolding sum_to
  with_record h = rw (add-one i) (omega (arith, inv, records, one_more p h))

  pub without : not p ≡ false → count ≡ sum_to (records_of ws) (i + 1)
  unfolding sum_to
  without h = rw (add-one i) (omega (arith, inv, records, no_more p h))

pub none_counted : (ws : List ℕ) → 0 ≡ sum_to (records_of ws) 0
unfolding sum_to
none_counted ws = refl

pub all_counted : (ws : List ℕ) (i n count : ℕ) → count ≡ sum_to (records_of ws) i → i ≤ n → n ≤ i → count ≡ sum_to (records_of ws) n
all_counted ws i n count e h l = e ∙ ap (sum_to (records_of ws)) (omega arith)
