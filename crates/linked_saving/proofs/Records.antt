-- The records of the words' streams are those of the model's. Assumes nothing.
use mathlib.Core.Path.{◌≡◌, refl, sym, ap, ◌∙◌}
use mathlib.Core.Bool.{Bool, true, false, ◌&&◌}
use mathlib.Core.List.{List, [], ◌∷◌, ◌++◌, map}
use Prim.Native.Nat.{ℕ, zero, suc, ◌+◌, ◌*◌, ◌≤◌, ◌<◌}
use native.Mathlib.Nat.{add-zero}
use native.Mathlib.Omega.{arith}
use lib.Dec.{eqb}
use lib.ListN.{length, length-append, length-map}
use Rattle.queue_words.specs.Flags.{pick}
use Rattle.queue_words.specs.Header.{options_at}
use Rattle.queue_words.specs.Known.{id_at}
use Rattle.queue_words.specs.Streams.{stream_at_words}
use Rattle.queue_model.specs.Types.{Stream}
use Rattle.queue_model.specs.Bytes.{row_bytes}
use Rattle.queue_model.specs.Image.{StreamRecord, stream_widths, stream_row, stream_bytes, streams_bytes, messages_bytes, plain, stream_record, stream_records, message_record, message_records}
use Rattle.queue_state.specs.Chains.{each}
use Rattle.queue_state.specs.Model.{tab, row_at, item_in_words, items_at, stream_in}
use Rattle.queue_state.proofs.Tabs.{tab_same}
use Rattle.queue_state.proofs.Sums.{each_length}
use Rattle.handover_records.specs.Records.{stream_row_words}
use Rattle.big_endian.proofs.Rows.{row_length}
use Rattle.handover_records.proofs.RecordRows.{stream_width}
use Rattle.saving.specs.Measure.{is_plain}
use Rattle.saving.specs.Records.{stream_record_words}
use Rattle.saving.specs.Sound.{AllOk, places_at, StreamOk}
use Rattle.saving.specs.Bytes.{stream_bytes_words, streams_from, chain_bytes, messages_from}
use Rattle.saving.proofs.Lengths.{plain_long}
use Rattle.saving.proofs.Lengths as lengths
use Rattle.saving.proofs.Passed.{count_from}
use Rattle.linked_saving.proofs.Messages.{chain_same}
use Rattle.queue_model.proofs.Demand3.Restored.{stream_records_plain}

-- ------------------------------------------------------------------ one stream's record

tests_same : (a b c d : Bool) → pick a (pick b (pick c d false) false) false ≡ (a && b && c && d)
tests_same true true true d = refl
tests_same true true false d = refl
tests_same true false c d = refl
tests_same false b c d = refl

-- the default priority of the words
abbrev pub default_of : List ℕ → ℕ
default_of ws = (options_at ws).default_priority

plain_same : (ws st : List ℕ) (i : ℕ) → plain (default_of ws) (stream_record (stream_in ws st i)) ≡ is_plain (stream_at_words ws (row_at ws i)) (default_of ws)
unfolding plain stream_record stream_in is_plain
plain_same ws st i =
    sym (tests_same (eqb (stream_at_words ws (row_at ws i)).next_ssn.0 0) (eqb (stream_at_words ws (row_at ws i)).next_unordered_mid.0 0) (eqb (stream_at_words ws (row_at ws i)).next_ordered_mid.0 0)
    (eqb (stream_at_words ws (row_at ws i)).priority (default_of ws)))

records_keep : (d : ℕ) (s : Stream) (ss : List Stream) → plain d (stream_record s) ≡ false → stream_records d (s ∷ ss) ≡ stream_record s ∷ stream_records d ss
unfolding stream_records
records_keep d s ss e = rw e

bytes_cons : (r : StreamRecord) (rs : List StreamRecord) → streams_bytes (r ∷ rs) ≡ row_bytes stream_widths (stream_row r) ++ streams_bytes rs
unfolding streams_bytes stream_bytes
bytes_cons r rs = refl

row_same : (ws st : List ℕ) (i : ℕ) → stream_row (stream_record (stream_in ws st i)) ≡ stream_row_words (stream_record_words (id_at ws i) (stream_at_words ws (row_at ws i)))
unfolding stream_record stream_in
row_same ws st i = refl

pub stream_same : (ws st : List ℕ) (i : ℕ) (more : List ℕ) (ss : List Stream) → more ≡ streams_bytes (stream_records (default_of ws) ss)
    → stream_bytes_words ws i ++ more ≡ streams_bytes (stream_records (default_of ws) (stream_in ws st i ∷ ss))
stream_same ws st i more ss e = go (is_plain (stream_at_words ws (row_at ws i)) (default_of ws)) refl
  where
    go : (b : Bool) → is_plain (stream_at_words ws (row_at ws i)) (default_of ws) ≡ b → stream_bytes_words ws i ++ more ≡ streams_bytes (stream_records (default_of ws) (stream_in ws st i ∷ ss))
    go true h = rw (plain_long ws i h, stream_records_plain (default_of ws) (stream_in ws st i) ss (plain_same ws st i ∙ h)) e
    go false h = rw (lengths.stream_is ws i h, records_keep (default_of ws) (stream_in ws st i) ss (plain_same ws st i ∙ h), bytes_cons, row_same ws st i, e)

-- each record has 14 bytes
pub streams_long : (rs : List StreamRecord) → length (streams_bytes rs) ≡ length rs * 14
unfolding streams_bytes stream_bytes
streams_long [] = refl
streams_long (r ∷ rs) = length-append (row_bytes stream_widths (stream_row r)) (streams_bytes rs) ∙ rw (row_length stream_widths (stream_row r) refl, stream_width, streams_long rs) (omega arith)

-- ------------------------------------------------------------------ one stream's messages

pub messages_same : (ws st : List ℕ) (time i : ℕ) (more : List ℕ) (ss : List Stream) → AllOk ws (length st) (places_at ws i) → more ≡ messages_bytes (message_records time ss)
    → chain_bytes ws st time (id_at ws i) (places_at ws i) ++ more ≡ messages_bytes (message_records time (stream_in ws st i ∷ ss))
unfolding message_records stream_in items_at
messages_same ws st time i more ss o e = chain_same ws st time (id_at ws i) (places_at ws i) more (message_records time ss) o e

pub count_same : (ws st : List ℕ) (time i : ℕ) (ss : List Stream) → length (message_records time (stream_in ws st i ∷ ss)) ≡ length (places_at ws i) + length (message_records time ss)
unfolding message_records stream_in items_at
count_same ws st time i ss =
    length-append (map (message_record time (id_at ws i)) (each (item_in_words ws st) (places_at ws i))) (message_records time ss)
    ∙ rw (length-map (each (item_in_words ws st) (places_at ws i)) (message_record time (id_at ws i)), each_length (item_in_words ws st) (places_at ws i))

-- ------------------------------------------------------------------ all streams

-- the model's streams from position i on, so many
abbrev pub streams_of : List ℕ → List ℕ → ℕ → ℕ → List Stream
streams_of ws st i n = tab (λ j. stream_in ws st (i + j)) n

tab_from : {A : Type 0} (f : ℕ → A) (i n : ℕ) → tab (λ j. f (i + j)) (suc n) ≡ f i ∷ tab (λ j. f (i + 1 + j)) n
unfolding tab
tab_from f i n = rw (add-zero i, tab_same n (λ j. f (i + 1 + j)) (λ j. f (i + suc j)) (λ j l. ap f (omega arith)))

pub record Same (ws st : List ℕ) (time i n : ℕ) : Type 0 where
  pub streams_are : streams_from ws i n ≡ streams_bytes (stream_records (default_of ws) (streams_of ws st i n))
  pub messages_are : messages_from ws st time i n ≡ messages_bytes (message_records time (streams_of ws st i n))
  pub count_is : count_from ws i n ≡ length (message_records time (streams_of ws st i n))

same_none : (ws st : List ℕ) (time i : ℕ) → Same ws st time i 0
unfolding streams_from messages_from count_from tab stream_records message_records streams_bytes messages_bytes
same_none ws st time i = record { streams_are = refl; messages_are = refl; count_is = refl }

same_more : (ws st : List ℕ) (time i n : ℕ) → AllOk ws (length st) (places_at ws i) → Same ws st time (i + 1) n → Same ws st time i (suc n)
unfolding streams_from messages_from count_from
same_more ws st time i n o s =
    let t : streams_of ws st i (suc n) ≡ stream_in ws st i ∷ streams_of ws st (i + 1) n = tab_from (stream_in ws st) i n in
    record {
      streams_are = rw t (stream_same ws st i (streams_from ws (i + 1) n) (streams_of ws st (i + 1) n) s.streams_are);
      messages_are = rw t (messages_same ws st time i (messages_from ws st time (i + 1) n) (streams_of ws st (i + 1) n) o s.messages_are);
      count_is = rw t (rw (count_same ws st time i (streams_of ws st (i + 1) n), s.count_is));
    }

pub same_all : (ws st : List ℕ) (time i n : ℕ) → ((j : ℕ) → i ≤ j → j < i + n → StreamOk ws (length st) j) → Same ws st time i n
same_all ws st time i zero k = same_none ws st time i
same_all ws st time i (suc n) k = same_more ws st time i n (k i (omega arith) (omega arith)).items (same_all ws st time (i + 1) n (λ j a b. k j (omega (arith, a)) (omega (arith, b))))
