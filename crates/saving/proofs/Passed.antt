-- Words that the first pass finds sound: what writing asks for holds, and the sizes found are those of the bytes. Assumes nothing.
use mathlib.Core.Path.{◌≡◌, refl, subst}
use mathlib.Core.Bool.{Bool, true, false}
use mathlib.Core.List.{List, ◌++◌}
use Prim.Native.Nat.{ℕ, zero, suc, ◌+◌, ◌*◌, ◌≤◌, ◌<◌}
use native.Mathlib.Omega.{arith}
use borrow.Author.Tests.{ltb-false}
use lib.Dec.{ltb}
use lib.ListN.{length, length-append}
use Rattle.queue_words.specs.Flags.{pick}
use Rattle.queue_words.specs.Header.{options_at, totals_at}
use Rattle.queue_words.specs.Known.{id_at}
use Rattle.queue_words.specs.Streams.{stream_at_words}
use Rattle.queue_state.specs.Chains.{sum_of}
use Rattle.queue_state.specs.Model.{row_at}
use Rattle.payload_store.proofs.Cases.{false_true, by_index}
use Rattle.saving.specs.declared.measuring.Tally.{Tally}
use Rattle.saving.specs.Measure.{tally_start, failed, is_plain, records_of, tally_stream, tally_from, tally_queue}
use Rattle.saving.specs.Sound.{places_at, StreamOk, Sound}
use Rattle.saving.specs.Bytes.{stream_bytes_words, streams_from, chain_bytes, messages_from}
use Rattle.saving.proofs.Passing.{pick_by, size_at, StreamPassed, stream_passed}
use Rattle.saving.proofs.Lengths.{chain_long, plain_long, stream_long}
use Rattle.queue_words.proofs.Finds.{by_lt}

-- a stream's records have 14 bytes each
pub records_long : (ws : List ℕ) (i : ℕ) → length (stream_bytes_words ws i) ≡ records_of ws i * 14
records_long ws i = go (is_plain (stream_at_words ws (row_at ws i)) (options_at ws).default_priority) refl
  where
    go : (b : Bool) → is_plain (stream_at_words ws (row_at ws i)) (options_at ws).default_priority ≡ b → length (stream_bytes_words ws i) ≡ pick b 0 1 * 14
    go true e = rw (plain_long ws i e)
    go false e = stream_long ws i e

-- how many messages the streams from position i on have, so many streams
unfoldable pub count_from : List ℕ → ℕ → ℕ → ℕ
count_from ws i zero = 0
count_from ws i (suc n) = length (places_at ws i) + count_from ws (i + 1) n

pub record FromPassed (ws st : List ℕ) (time : ℕ) (t : Tally) (i n : ℕ) (u : Tally) : Type 0 where
  pub was_ok : t.ok ≡ true
  pub streams_ok : (j : ℕ) → i ≤ j → j < i + n → StreamOk ws (length st) j
  pub streams_is : u.streams * 14 ≡ t.streams * 14 + length (streams_from ws i n)
  pub count_is : u.messages ≡ t.messages + count_from ws i n
  pub bytes_is : u.bytes ≡ t.bytes + length (messages_from ws st time i n)

-- another one is behind
apart : (i j : ℕ) → i ≤ j → (i ≡ j → ⊥) → i + 1 ≤ j
apart i j a d = by_lt i j (λ h. omega (arith, h)) (λ h. absurd (d (omega (arith, a, h))))

more : (ws st : List ℕ) (time i n : ℕ) (t v u : Tally) → StreamPassed ws (length st) t i v → FromPassed ws st time v (i + 1) n u → FromPassed ws st time t i (suc n) u
unfolding streams_from messages_from count_from
more ws st time i n t v u r f =
    let ls : length (stream_bytes_words ws i ++ streams_from ws (i + 1) n) ≡ length (stream_bytes_words ws i) + length (streams_from ws (i + 1) n) = length-append (stream_bytes_words ws i) (streams_from ws (i + 1) n) in
    let lm : length (chain_bytes ws st time (id_at ws i) (places_at ws i) ++ messages_from ws st time (i + 1) n) ≡ length (chain_bytes ws st time (id_at ws i) (places_at ws i)) + length (messages_from ws st time (i + 1) n) =
    length-append (chain_bytes ws st time (id_at ws i) (places_at ws i)) (messages_from ws st time (i + 1) n) in
    let lc : length (chain_bytes ws st time (id_at ws i) (places_at ws i)) ≡ sum_of (size_at ws) (places_at ws i) = chain_long ws st time (id_at ws i) (places_at ws i) r.stream_ok.items in
    record {
      was_ok = r.was_ok;
      streams_ok = λ j a b. by_index i j (λ e. subst (λ (k : ℕ). StreamOk ws (length st) k) e r.stream_ok) (λ d. f.streams_ok j (apart i j a d) (omega (arith, b)));
      streams_is = omega (arith, ls, records_long ws i, r.streams_is, f.streams_is);
      count_is = omega (arith, r.count_is, f.count_is);
      bytes_is = omega (arith, lm, lc, r.bytes_is, f.bytes_is);
    }

pub from_passed : (ws st : List ℕ) (time : ℕ) (t : Tally) (i n : ℕ) → (tally_from ws (length st) t i n).ok ≡ true → FromPassed ws st time t i n (tally_from ws (length st) t i n)
unfolding tally_from streams_from messages_from count_from
from_passed ws st time t i zero e = record { was_ok = e; streams_ok = λ j a b. absurd (omega (arith, a, b)); streams_is = omega arith; count_is = omega arith; bytes_is = omega arith }
from_passed ws st time t i (suc n) e =
    let f : FromPassed ws st time (tally_stream ws (length st) i t) (i + 1) n (tally_from ws (length st) (tally_stream ws (length st) i t) (i + 1) n) = from_passed ws st time (tally_stream ws (length st) i t) (i + 1) n e in
    more ws st time i n t (tally_stream ws (length st) i t) (tally_from ws (length st) (tally_stream ws (length st) i t) (i + 1) n) (stream_passed ws (length st) i t f.was_ok) f

-- the whole pass
pub record Passed (ws st : List ℕ) (time : ℕ) (t : Tally) : Type 0 where
  pub sound : Sound ws (length st)
  pub streams_is : t.streams * 14 ≡ length (streams_from ws 0 (totals_at ws).known)
  pub count_is : t.messages ≡ count_from ws 0 (totals_at ws).known
  pub bytes_is : t.bytes ≡ length (messages_from ws st time 0 (totals_at ws).known)

pub passed : (ws st : List ℕ) (time : ℕ) → (tally_queue ws (length st)).ok ≡ true → Passed ws st time (tally_queue ws (length st))
unfolding tally_queue
passed ws st time =
    pick_by (λ (u : Tally). u.ok ≡ true → Passed ws st time u) (ltb 256 (totals_at ws).known) (failed tally_start) (tally_from ws (length st) tally_start 0 (totals_at ws).known)
    (λ _ e. false_true e)
    (λ h e. whole (ltb-false 256 (totals_at ws).known h) (from_passed ws st time tally_start 0 (totals_at ws).known e))
  where
    whole : (totals_at ws).known ≤ 256 → FromPassed ws st time tally_start 0 (totals_at ws).known (tally_from ws (length st) tally_start 0 (totals_at ws).known) → Passed ws st time (tally_from ws (length st) tally_start 0 (totals_at ws).known)
    whole h f = record {
      sound = record { known_in = h; streams = λ i l. f.streams_ok i (omega arith) (omega (arith, l)) };
      streams_is = omega (arith, f.streams_is);
      count_is = omega (arith, f.count_is);
      bytes_is = omega (arith, f.bytes_is);
    }
