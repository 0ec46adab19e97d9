-- The laws of the tables: what is read after a store, each an instance of a law of rows. Assumes nothing.
-- X-put-Y: X, another part of the words than Y, is as it was before a store of Y. X-at-put: the row that was stored is read back.
-- X-at-put-other: the other rows of its table are as they were. whole-put-Y: so is the number of words. Side conditions stand last, so that
-- `rw` finds them.
use mathlib.Core.Path.{◌≡◌, ap, ◌∙◌}
use mathlib.Core.Logic.{inl, inr}
use mathlib.Core.List.{List}
use Prim.Native.Nat.{ℕ, ◌+◌, ◌*◌, ◌/◌, ◌<◌}
use native.Mathlib.Omega.{arith, ne_cases}
use native.Mathlib.Nat.{mod-eq_of_lt, mod-lt}
use lib.ListN.{length, length-set, get_or, set}
use lib.Seq.{get_or-set_other}
use Rattle.queue_words.specs.declared.header.Options.{Options}
use Rattle.queue_words.specs.declared.header.Totals.{Totals}
use Rattle.queue_words.specs.declared.header.SchedulerState.{SchedulerState}
use Rattle.queue_words.specs.declared.known.Known.{Known}
use Rattle.queue_words.specs.declared.streams.OutgoingStream.{OutgoingStream}
use Rattle.queue_words.specs.declared.items.Item.{Item}
use Rattle.queue_words.specs.declared.active.ActiveStreamInfo.{ActiveStreamInfo}
use Rattle.queue_words.specs.Rows.{row}
use Rattle.queue_words.specs.Header.{options_of, options_words, options_at, put_options, FitsOptions}
use Rattle.queue_words.specs.Header.{totals_of, totals_words, totals_at, put_totals, FitsTotals}
use Rattle.queue_words.specs.Header.{scheduler_of, scheduler_words, scheduler_at, put_scheduler, FitsRemembered}
use Rattle.queue_words.specs.Known.{known_of, known_words, known_at, put_known, FitsKnown}
use Rattle.queue_words.specs.Streams.{stream_of, stream_words, stream_at_words, put_stream_words, FitsStream}
use Rattle.queue_words.specs.Items.{item_of, item_words, item_at, put_item, FitsItem}
use Rattle.queue_words.specs.Items.{put_next, put_place, put_length, with_next, with_place, with_length}
use Rattle.queue_words.specs.Active.{active_of, active_words, active_in, active_at, put_active_words, FitsActive}
use Rattle.queue_words.specs.Leasts.{group_of, stale, leasts_at, put_least}
use Rattle.queue_words.proofs.NumberLaws.{flag_bit, pause_state_of_word, remembered_of_word, remembered_of_fits, expiry_of_words, numbers_of_words, mid_of_fits, ssn_of_fits}
use Rattle.queue_words.proofs.Rows.{Apart, row_put_same, row_put_other, row_put_length, rows_apart, row_set_word, row_word_other}

-- each struct survives its words
options_words_lem : (o : Options) → FitsOptions o → options_of (options_words o) ≡ o
options_words_lem o f = λ p. record {
  payload_limit = mod-eq_of_lt f.limit_fits p;
  default_priority = mod-eq_of_lt f.priority_fits p;
  handover_with_data = flag_bit o.handover_with_data p;
  store_length = o.store_length;
  default_threshold = o.default_threshold;
  total_threshold = o.total_threshold;
  strict_restart = flag_bit o.strict_restart p;
}

totals_words_lem : (t : Totals) → FitsTotals t → totals_of (totals_words t) ≡ t
totals_words_lem t f = λ p. record {
  interleaving = flag_bit t.interleaving p;
  next_message_id = record { 0 = mod-eq_of_lt f.message_id_fits p };
  total = t.total;
  known = t.known;
  waiting = t.waiting;
  free = t.free;
  used = t.used;
  gaps = record { end = t.gaps.end; limit = t.gaps.limit; from = t.gaps.from; upto = t.gaps.upto };
}

scheduler_words_lem : (s : SchedulerState) → FitsRemembered s.current → scheduler_of (scheduler_words s) ≡ s
scheduler_words_lem s f = λ p. record { current = remembered_of_word s.current f p; system_virtual_time = s.system_virtual_time; active = s.active }

known_words_lem : (k : Known) → FitsKnown k → known_of (known_words k) ≡ k
known_words_lem k f = λ p. record { id = record { 0 = mod-eq_of_lt f.id_fits p }; place = k.place }

stream_words_lem : (s : OutgoingStream) → FitsStream s → stream_of (stream_words s) ≡ s
stream_words_lem s f = λ p. record {
  priority = mod-eq_of_lt f.priority_fits p;
  pause_state = pause_state_of_word s.pause_state p;
  next_ssn = record { 0 = mod-eq_of_lt f.ssn_fits p };
  next_unordered_mid = record { 0 = mod-eq_of_lt f.unordered_mid_fits p };
  next_ordered_mid = record { 0 = mod-eq_of_lt f.ordered_mid_fits p };
  buffered_amount = s.buffered_amount;
  low_threshold = s.low_threshold;
  first = s.first;
  last = s.last;
}

item_words_lem : (m : Item) → FitsItem m → item_of (item_words m) ≡ m
item_words_lem m f = λ p. record {
  max_retransmissions = mod-eq_of_lt f.retransmissions_fits p;
  unordered = flag_bit m.unordered p;
  message_id = record { 0 = mod-eq_of_lt f.message_id_fits p };
  ppid = mod-eq_of_lt f.ppid_fits p;
  numbers = numbers_of_words m.numbers f.mid_fits f.ssn_fits p;
  fsn = record { 0 = mod-eq_of_lt f.fsn_fits p };
  expires_at = expiry_of_words m.expires_at p;
  lifecycle_id = m.lifecycle_id;
  place = m.place;
  length = m.length;
  offset = m.offset;
  next = m.next;
}

active_words_lem : (a : ActiveStreamInfo) → FitsActive a → active_of (active_words a) ≡ a
active_words_lem a f = λ p. record {
  stream_id = record { 0 = mod-eq_of_lt f.stream_id_fits p };
  parameters = mod-eq_of_lt f.parameters_fits p;
  virtual_start_time = a.virtual_start_time;
  virtual_finish_time = a.virtual_finish_time;
  bytes_remaining = a.bytes_remaining;
}

-- WHAT IS READ FITS

pub options_at_fits : (ws : List ℕ) → FitsOptions (options_at ws)
unfolding options_at
options_at_fits ws = record { limit_fits = mod-lt _ (omega arith); priority_fits = mod-lt _ (omega arith) }

pub totals_at_fits : (ws : List ℕ) → FitsTotals (totals_at ws)
unfolding totals_at
totals_at_fits ws = record { message_id_fits = mod-lt _ (omega arith) }

pub remembered_at_fits : (ws : List ℕ) → FitsRemembered (scheduler_at ws).current
unfolding scheduler_at
remembered_at_fits ws = remembered_of_fits (get_or (row ws 18 3) 0 0)

pub known_at_fits : (ws : List ℕ) (i : ℕ) → FitsKnown (known_at ws i)
unfolding known_at
known_at_fits ws i = record { id_fits = mod-lt _ (omega arith) }

pub stream_at_fits : (ws : List ℕ) (i : ℕ) → FitsStream (stream_at_words ws i)
unfolding stream_at_words
stream_at_fits ws i = record {
  priority_fits = mod-lt _ (omega arith);
  ssn_fits = mod-lt _ (omega arith);
  unordered_mid_fits = mod-lt _ (omega arith);
  ordered_mid_fits = mod-lt _ (omega arith);
}

pub item_at_fits : (ws : List ℕ) (i : ℕ) → FitsItem (item_at ws i)
unfolding item_at
item_at_fits ws i = let vs = row ws (3104 + i * 16) 15 in record {
  ssn_fits = ssn_of_fits (get_or vs 3 0) (get_or vs 7 0) (get_or vs 0 0);
  retransmissions_fits = mod-lt _ (omega arith);
  message_id_fits = mod-lt _ (omega arith);
  ppid_fits = mod-lt _ (omega arith);
  mid_fits = mid_of_fits (get_or vs 3 0) (get_or vs 7 0) (get_or vs 0 0);
  fsn_fits = mod-lt _ (omega arith);
}

pub active_at_fits : (ws : List ℕ) (i : ℕ) → FitsActive (active_at ws i)
unfolding active_at
active_at_fits ws i = record { stream_id_fits = mod-lt _ (omega arith); parameters_fits = mod-lt _ (omega arith) }

-- THE NUMBER OF WORDS

pub whole_put_options : (ws : List ℕ) (o : Options) → length (put_options ws o) ≡ length ws
unfolding put_options
whole_put_options ws o = row_put_length ws 0 (options_words o)

pub whole_put_totals : (ws : List ℕ) (t : Totals) → length (put_totals ws t) ≡ length ws
unfolding put_totals
whole_put_totals ws t = row_put_length ws 7 (totals_words t)

pub whole_put_scheduler : (ws : List ℕ) (s : SchedulerState) → length (put_scheduler ws s) ≡ length ws
unfolding put_scheduler
whole_put_scheduler ws s = row_put_length ws 18 (scheduler_words s)

pub whole_put_known : (ws : List ℕ) (i : ℕ) (k : Known) → length (put_known ws i k) ≡ length ws
unfolding put_known
whole_put_known ws i k = row_put_length ws (32 + i * 2) (known_words k)

pub whole_put_stream : (ws : List ℕ) (i : ℕ) (s : OutgoingStream) → length (put_stream_words ws i s) ≡ length ws
unfolding put_stream_words
whole_put_stream ws i s = row_put_length ws (544 + i * 10) (stream_words s)

pub whole_put_item : (ws : List ℕ) (i : ℕ) (m : Item) → length (put_item ws i m) ≡ length ws
unfolding put_item
whole_put_item ws i m = row_put_length ws (3104 + i * 16) (item_words m)

pub whole_put_least : (ws : List ℕ) (g v : ℕ) → length (put_least ws g v) ≡ length ws
unfolding put_least
whole_put_least ws g v = length-set ws (21 + g) v

pub whole_put_active : (ws : List ℕ) (i : ℕ) (a : ActiveStreamInfo) → length (put_active_words ws i a) ≡ length ws
unfolding put_active_words
whole_put_active ws i a = whole_put_least (active_in ws i a) (group_of i) stale ∙ row_put_length ws (19488 + i * 5) (active_words a)

pub whole_put_next : (ws : List ℕ) (i v : ℕ) → length (put_next ws i v) ≡ length ws
unfolding put_next
whole_put_next ws i v = length-set ws (3104 + i * 16 + 14) v

pub whole_put_place : (ws : List ℕ) (i v : ℕ) → length (put_place ws i v) ≡ length ws
unfolding put_place
whole_put_place ws i v = length-set ws (3104 + i * 16 + 11) v

pub whole_put_length : (ws : List ℕ) (i v : ℕ) → length (put_length ws i v) ≡ length ws
unfolding put_length
whole_put_length ws i v = length-set ws (3104 + i * 16 + 12) v

-- ANY ROW OF WORDS AFTER A STORE OF A GROUP'S LEAST ROW, AND OF AN ACTIVE STREAM, which makes its group stale

row_put_least : (ws : List ℕ) (g v b n : ℕ) → Apart (21 + g) 1 b n → row (put_least ws g v) b n ≡ row ws b n
unfolding put_least
row_put_least ws g v b n o = row_word_other ws (21 + g) v b n o

row_put_active : (ws : List ℕ) (i : ℕ) (a : ActiveStreamInfo) (b n : ℕ) → Apart (21 + group_of i) 1 b n → Apart (19488 + i * 5) 5 b n → row (put_active_words ws i a) b n ≡ row ws b n
unfolding put_active_words
row_put_active ws i a b n o p = row_put_least (active_in ws i a) (group_of i) stale b n o ∙ row_put_other ws (19488 + i * 5) (active_words a) b n p

-- the group of a row that there is
pub active_stored : (ws : List ℕ) (i : ℕ) (a : ActiveStreamInfo) (l m : List ℕ) → i < 256 → l ≡ active_in ws i a → m ≡ put_least l (i / 24) stale → m ≡ put_active_words ws i a
unfolding put_active_words
active_stored ws i a l m h el em =
    let e : i / 24 ≡ group_of i = omega arith in
    em ∙ ap (λ g. put_least l g stale) e ∙ ap (λ vs. put_least vs (group_of i) stale) el

-- THE SAME ROW

pub options_at_put : (ws : List ℕ) (o : Options) → length ws ≡ 20768 → FitsOptions o → options_at (put_options ws o) ≡ o
unfolding options_at put_options
options_at_put ws o l f = ap options_of (row_put_same ws 0 (options_words o) (omega arith)) ∙ options_words_lem o f

pub totals_at_put : (ws : List ℕ) (t : Totals) → length ws ≡ 20768 → FitsTotals t → totals_at (put_totals ws t) ≡ t
unfolding totals_at put_totals
totals_at_put ws t l f = ap totals_of (row_put_same ws 7 (totals_words t) (omega arith)) ∙ totals_words_lem t f

pub scheduler_at_put : (ws : List ℕ) (s : SchedulerState) → length ws ≡ 20768 → FitsRemembered s.current → scheduler_at (put_scheduler ws s) ≡ s
unfolding scheduler_at put_scheduler
scheduler_at_put ws s l f = ap scheduler_of (row_put_same ws 18 (scheduler_words s) (omega arith)) ∙ scheduler_words_lem s f

-- the rows in use need nothing of the remembered stream
pub active_count_put : (ws : List ℕ) (s : SchedulerState) → length ws ≡ 20768 → (scheduler_at (put_scheduler ws s)).active ≡ s.active
unfolding scheduler_at put_scheduler
active_count_put ws s l = ap (λ vs. (scheduler_of vs).active) (row_put_same ws 18 (scheduler_words s) (omega arith))

pub known_at_put : (ws : List ℕ) (i : ℕ) (k : Known) → length ws ≡ 20768 → i < 256 → FitsKnown k → known_at (put_known ws i k) i ≡ k
unfolding known_at put_known
known_at_put ws i k l h f = ap known_of (row_put_same ws (32 + i * 2) (known_words k) (omega arith)) ∙ known_words_lem k f

pub stream_at_put : (ws : List ℕ) (i : ℕ) (s : OutgoingStream) → length ws ≡ 20768 → i < 256 → FitsStream s
    → stream_at_words (put_stream_words ws i s) i ≡ s
unfolding stream_at_words put_stream_words
stream_at_put ws i s l h f = ap stream_of (row_put_same ws (544 + i * 10) (stream_words s) (omega arith)) ∙ stream_words_lem s f

pub item_at_put : (ws : List ℕ) (i : ℕ) (m : Item) → length ws ≡ 20768 → i < 1024 → FitsItem m → item_at (put_item ws i m) i ≡ m
unfolding item_at put_item
item_at_put ws i m l h f = ap item_of (row_put_same ws (3104 + i * 16) (item_words m) (omega arith)) ∙ item_words_lem m f

pub active_at_put : (ws : List ℕ) (i : ℕ) (a : ActiveStreamInfo) → length ws ≡ 20768 → i < 256 → FitsActive a
    → active_at (put_active_words ws i a) i ≡ a
unfolding active_at put_active_words
active_at_put ws i a l h f = ap active_of (row_put_least (active_in ws i a) (group_of i) stale (19488 + i * 5) 5 (inl (omega arith)) ∙ row_put_same ws (19488 + i * 5) (active_words a) (omega arith)) ∙ active_words_lem a f

-- ANOTHER ROW OF THE SAME TABLE

pub known_at_put_other : (ws : List ℕ) (i : ℕ) (k : Known) (j : ℕ) → (i ≡ j → ⊥) → known_at (put_known ws i k) j ≡ known_at ws j
unfolding known_at put_known
known_at_put_other ws i k j ne =
    ap known_of (row_put_other ws (32 + i * 2) (known_words k) (32 + j * 2) 2 (rows_apart 32 2 2 2 i j (omega arith) (omega arith) ne))

pub stream_at_put_other : (ws : List ℕ) (i : ℕ) (s : OutgoingStream) (j : ℕ) → (i ≡ j → ⊥) → stream_at_words (put_stream_words ws i s) j ≡ stream_at_words ws j
unfolding stream_at_words put_stream_words
stream_at_put_other ws i s j ne =
    ap stream_of (row_put_other ws (544 + i * 10) (stream_words s) (544 + j * 10) 9 (rows_apart 544 10 9 9 i j (omega arith) (omega arith) ne))

pub item_at_put_other : (ws : List ℕ) (i : ℕ) (m : Item) (j : ℕ) → (i ≡ j → ⊥) → item_at (put_item ws i m) j ≡ item_at ws j
unfolding item_at put_item
item_at_put_other ws i m j ne =
    ap item_of (row_put_other ws (3104 + i * 16) (item_words m) (3104 + j * 16) 15 (rows_apart 3104 16 15 15 i j (omega arith) (omega arith) ne))

pub active_at_put_other : (ws : List ℕ) (i : ℕ) (a : ActiveStreamInfo) (j : ℕ) → (i ≡ j → ⊥) → active_at (put_active_words ws i a) j ≡ active_at ws j
unfolding active_at
active_at_put_other ws i a j ne =
    ap active_of (row_put_active ws i a (19488 + j * 5) 5 (inl (omega arith)) (rows_apart 19488 5 5 5 i j (omega arith) (omega arith) ne))

-- AFTER A STORE OF THE OPTIONS

-- AFTER A STORE OF THE TOTALS

pub options_put_totals : (ws : List ℕ) (t : Totals) → options_at (put_totals ws t) ≡ options_at ws
unfolding options_at put_totals
options_put_totals ws t = ap options_of (row_put_other ws 7 (totals_words t) 0 7 (inr (omega arith)))

pub scheduler_put_totals : (ws : List ℕ) (t : Totals) → scheduler_at (put_totals ws t) ≡ scheduler_at ws
unfolding scheduler_at put_totals
scheduler_put_totals ws t = ap scheduler_of (row_put_other ws 7 (totals_words t) 18 3 (inl (omega arith)))

pub known_put_totals : (ws : List ℕ) (t : Totals) (j : ℕ) → known_at (put_totals ws t) j ≡ known_at ws j
unfolding known_at put_totals
known_put_totals ws t j = ap known_of (row_put_other ws 7 (totals_words t) (32 + j * 2) 2 (inl (omega arith)))

pub stream_put_totals : (ws : List ℕ) (t : Totals) (j : ℕ) → stream_at_words (put_totals ws t) j ≡ stream_at_words ws j
unfolding stream_at_words put_totals
stream_put_totals ws t j = ap stream_of (row_put_other ws 7 (totals_words t) (544 + j * 10) 9 (inl (omega arith)))

pub item_put_totals : (ws : List ℕ) (t : Totals) (j : ℕ) → item_at (put_totals ws t) j ≡ item_at ws j
unfolding item_at put_totals
item_put_totals ws t j = ap item_of (row_put_other ws 7 (totals_words t) (3104 + j * 16) 15 (inl (omega arith)))

pub active_put_totals : (ws : List ℕ) (t : Totals) (j : ℕ) → active_at (put_totals ws t) j ≡ active_at ws j
unfolding active_at put_totals
active_put_totals ws t j = ap active_of (row_put_other ws 7 (totals_words t) (19488 + j * 5) 5 (inl (omega arith)))

-- AFTER A STORE OF THE SCHEDULER'S STATE

pub options_put_scheduler : (ws : List ℕ) (s : SchedulerState) → options_at (put_scheduler ws s) ≡ options_at ws
unfolding options_at put_scheduler
options_put_scheduler ws s = ap options_of (row_put_other ws 18 (scheduler_words s) 0 7 (inr (omega arith)))

pub totals_put_scheduler : (ws : List ℕ) (s : SchedulerState) → totals_at (put_scheduler ws s) ≡ totals_at ws
unfolding totals_at put_scheduler
totals_put_scheduler ws s = ap totals_of (row_put_other ws 18 (scheduler_words s) 7 11 (inr (omega arith)))

pub known_put_scheduler : (ws : List ℕ) (s : SchedulerState) (j : ℕ) → known_at (put_scheduler ws s) j ≡ known_at ws j
unfolding known_at put_scheduler
known_put_scheduler ws s j = ap known_of (row_put_other ws 18 (scheduler_words s) (32 + j * 2) 2 (inl (omega arith)))

pub stream_put_scheduler : (ws : List ℕ) (s : SchedulerState) (j : ℕ) → stream_at_words (put_scheduler ws s) j ≡ stream_at_words ws j
unfolding stream_at_words put_scheduler
stream_put_scheduler ws s j = ap stream_of (row_put_other ws 18 (scheduler_words s) (544 + j * 10) 9 (inl (omega arith)))

pub item_put_scheduler : (ws : List ℕ) (s : SchedulerState) (j : ℕ) → item_at (put_scheduler ws s) j ≡ item_at ws j
unfolding item_at put_scheduler
item_put_scheduler ws s j = ap item_of (row_put_other ws 18 (scheduler_words s) (3104 + j * 16) 15 (inl (omega arith)))

pub active_put_scheduler : (ws : List ℕ) (s : SchedulerState) (j : ℕ) → active_at (put_scheduler ws s) j ≡ active_at ws j
unfolding active_at put_scheduler
active_put_scheduler ws s j = ap active_of (row_put_other ws 18 (scheduler_words s) (19488 + j * 5) 5 (inl (omega arith)))

-- AFTER A STORE OF A KNOWN STREAM

pub options_put_known : (ws : List ℕ) (i : ℕ) (k : Known) → options_at (put_known ws i k) ≡ options_at ws
unfolding options_at put_known
options_put_known ws i k = ap options_of (row_put_other ws (32 + i * 2) (known_words k) 0 7 (inr (omega arith)))

pub totals_put_known : (ws : List ℕ) (i : ℕ) (k : Known) → totals_at (put_known ws i k) ≡ totals_at ws
unfolding totals_at put_known
totals_put_known ws i k = ap totals_of (row_put_other ws (32 + i * 2) (known_words k) 7 11 (inr (omega arith)))

pub scheduler_put_known : (ws : List ℕ) (i : ℕ) (k : Known) → scheduler_at (put_known ws i k) ≡ scheduler_at ws
unfolding scheduler_at put_known
scheduler_put_known ws i k = ap scheduler_of (row_put_other ws (32 + i * 2) (known_words k) 18 3 (inr (omega arith)))

pub stream_put_known : (ws : List ℕ) (i : ℕ) (k : Known) (j : ℕ) → i < 256 → stream_at_words (put_known ws i k) j ≡ stream_at_words ws j
unfolding stream_at_words put_known
stream_put_known ws i k j h = ap stream_of (row_put_other ws (32 + i * 2) (known_words k) (544 + j * 10) 9 (inl (omega arith)))

pub item_put_known : (ws : List ℕ) (i : ℕ) (k : Known) (j : ℕ) → i < 256 → item_at (put_known ws i k) j ≡ item_at ws j
unfolding item_at put_known
item_put_known ws i k j h = ap item_of (row_put_other ws (32 + i * 2) (known_words k) (3104 + j * 16) 15 (inl (omega arith)))

pub active_put_known : (ws : List ℕ) (i : ℕ) (k : Known) (j : ℕ) → i < 256 → active_at (put_known ws i k) j ≡ active_at ws j
unfolding active_at put_known
active_put_known ws i k j h = ap active_of (row_put_other ws (32 + i * 2) (known_words k) (19488 + j * 5) 5 (inl (omega arith)))

-- AFTER A STORE OF A STREAM

pub options_put_stream : (ws : List ℕ) (i : ℕ) (s : OutgoingStream) → options_at (put_stream_words ws i s) ≡ options_at ws
unfolding options_at put_stream_words
options_put_stream ws i s = ap options_of (row_put_other ws (544 + i * 10) (stream_words s) 0 7 (inr (omega arith)))

pub totals_put_stream : (ws : List ℕ) (i : ℕ) (s : OutgoingStream) → totals_at (put_stream_words ws i s) ≡ totals_at ws
unfolding totals_at put_stream_words
totals_put_stream ws i s = ap totals_of (row_put_other ws (544 + i * 10) (stream_words s) 7 11 (inr (omega arith)))

pub scheduler_put_stream : (ws : List ℕ) (i : ℕ) (s : OutgoingStream) → scheduler_at (put_stream_words ws i s) ≡ scheduler_at ws
unfolding scheduler_at put_stream_words
scheduler_put_stream ws i s = ap scheduler_of (row_put_other ws (544 + i * 10) (stream_words s) 18 3 (inr (omega arith)))

pub known_put_stream : (ws : List ℕ) (i : ℕ) (s : OutgoingStream) (j : ℕ) → j < 256 → known_at (put_stream_words ws i s) j ≡ known_at ws j
unfolding known_at put_stream_words
known_put_stream ws i s j h = ap known_of (row_put_other ws (544 + i * 10) (stream_words s) (32 + j * 2) 2 (inr (omega arith)))

pub item_put_stream : (ws : List ℕ) (i : ℕ) (s : OutgoingStream) (j : ℕ) → i < 256 → item_at (put_stream_words ws i s) j ≡ item_at ws j
unfolding item_at put_stream_words
item_put_stream ws i s j h = ap item_of (row_put_other ws (544 + i * 10) (stream_words s) (3104 + j * 16) 15 (inl (omega arith)))

pub active_put_stream : (ws : List ℕ) (i : ℕ) (s : OutgoingStream) (j : ℕ) → i < 256 → active_at (put_stream_words ws i s) j ≡ active_at ws j
unfolding active_at put_stream_words
active_put_stream ws i s j h = ap active_of (row_put_other ws (544 + i * 10) (stream_words s) (19488 + j * 5) 5 (inl (omega arith)))

-- AFTER A STORE OF A MESSAGE

pub options_put_item : (ws : List ℕ) (i : ℕ) (m : Item) → options_at (put_item ws i m) ≡ options_at ws
unfolding options_at put_item
options_put_item ws i m = ap options_of (row_put_other ws (3104 + i * 16) (item_words m) 0 7 (inr (omega arith)))

pub totals_put_item : (ws : List ℕ) (i : ℕ) (m : Item) → totals_at (put_item ws i m) ≡ totals_at ws
unfolding totals_at put_item
totals_put_item ws i m = ap totals_of (row_put_other ws (3104 + i * 16) (item_words m) 7 11 (inr (omega arith)))

pub scheduler_put_item : (ws : List ℕ) (i : ℕ) (m : Item) → scheduler_at (put_item ws i m) ≡ scheduler_at ws
unfolding scheduler_at put_item
scheduler_put_item ws i m = ap scheduler_of (row_put_other ws (3104 + i * 16) (item_words m) 18 3 (inr (omega arith)))

pub known_put_item : (ws : List ℕ) (i : ℕ) (m : Item) (j : ℕ) → j < 256 → known_at (put_item ws i m) j ≡ known_at ws j
unfolding known_at put_item
known_put_item ws i m j h = ap known_of (row_put_other ws (3104 + i * 16) (item_words m) (32 + j * 2) 2 (inr (omega arith)))

pub stream_put_item : (ws : List ℕ) (i : ℕ) (m : Item) (j : ℕ) → j < 256 → stream_at_words (put_item ws i m) j ≡ stream_at_words ws j
unfolding stream_at_words put_item
stream_put_item ws i m j h = ap stream_of (row_put_other ws (3104 + i * 16) (item_words m) (544 + j * 10) 9 (inr (omega arith)))

pub active_put_item : (ws : List ℕ) (i : ℕ) (m : Item) (j : ℕ) → i < 1024 → active_at (put_item ws i m) j ≡ active_at ws j
unfolding active_at put_item
active_put_item ws i m j h = ap active_of (row_put_other ws (3104 + i * 16) (item_words m) (19488 + j * 5) 5 (inl (omega arith)))

-- AFTER A STORE OF AN ACTIVE STREAM

pub options_put_active : (ws : List ℕ) (i : ℕ) (a : ActiveStreamInfo) → options_at (put_active_words ws i a) ≡ options_at ws
unfolding options_at
options_put_active ws i a = ap options_of (row_put_active ws i a 0 7 (inr (omega arith)) (inr (omega arith)))

pub totals_put_active : (ws : List ℕ) (i : ℕ) (a : ActiveStreamInfo) → totals_at (put_active_words ws i a) ≡ totals_at ws
unfolding totals_at
totals_put_active ws i a = ap totals_of (row_put_active ws i a 7 11 (inr (omega arith)) (inr (omega arith)))

pub scheduler_put_active : (ws : List ℕ) (i : ℕ) (a : ActiveStreamInfo) → scheduler_at (put_active_words ws i a) ≡ scheduler_at ws
unfolding scheduler_at
scheduler_put_active ws i a = ap scheduler_of (row_put_active ws i a 18 3 (inr (omega arith)) (inr (omega arith)))

pub known_put_active : (ws : List ℕ) (i : ℕ) (a : ActiveStreamInfo) (j : ℕ) → j < 256 → known_at (put_active_words ws i a) j ≡ known_at ws j
unfolding known_at
known_put_active ws i a j h = ap known_of (row_put_active ws i a (32 + j * 2) 2 (inl (omega arith)) (inr (omega arith)))

pub stream_put_active : (ws : List ℕ) (i : ℕ) (a : ActiveStreamInfo) (j : ℕ) → j < 256 → stream_at_words (put_active_words ws i a) j ≡ stream_at_words ws j
unfolding stream_at_words
stream_put_active ws i a j h = ap stream_of (row_put_active ws i a (544 + j * 10) 9 (inl (omega arith)) (inr (omega arith)))

pub item_put_active : (ws : List ℕ) (i : ℕ) (a : ActiveStreamInfo) (j : ℕ) → j < 1024 → item_at (put_active_words ws i a) j ≡ item_at ws j
unfolding item_at
item_put_active ws i a j h = ap item_of (row_put_active ws i a (3104 + j * 16) 15 (inl (omega arith)) (inr (omega arith)))

-- AFTER A STORE OF A GROUP'S LEAST ROW

pub options_put_least : (ws : List ℕ) (g v : ℕ) → options_at (put_least ws g v) ≡ options_at ws
unfolding options_at
options_put_least ws g v = ap options_of (row_put_least ws g v 0 7 (inr (omega arith)))

pub totals_put_least : (ws : List ℕ) (g v : ℕ) → totals_at (put_least ws g v) ≡ totals_at ws
unfolding totals_at
totals_put_least ws g v = ap totals_of (row_put_least ws g v 7 11 (inr (omega arith)))

pub scheduler_put_least : (ws : List ℕ) (g v : ℕ) → scheduler_at (put_least ws g v) ≡ scheduler_at ws
unfolding scheduler_at
scheduler_put_least ws g v = ap scheduler_of (row_put_least ws g v 18 3 (inr (omega arith)))

pub known_put_least : (ws : List ℕ) (g v j : ℕ) → g < 11 → known_at (put_least ws g v) j ≡ known_at ws j
unfolding known_at
known_put_least ws g v j h = ap known_of (row_put_least ws g v (32 + j * 2) 2 (inl (omega arith)))

pub stream_put_least : (ws : List ℕ) (g v j : ℕ) → g < 11 → stream_at_words (put_least ws g v) j ≡ stream_at_words ws j
unfolding stream_at_words
stream_put_least ws g v j h = ap stream_of (row_put_least ws g v (544 + j * 10) 9 (inl (omega arith)))

pub item_put_least : (ws : List ℕ) (g v j : ℕ) → g < 11 → item_at (put_least ws g v) j ≡ item_at ws j
unfolding item_at
item_put_least ws g v j h = ap item_of (row_put_least ws g v (3104 + j * 16) 15 (inl (omega arith)))

pub active_put_least : (ws : List ℕ) (g v j : ℕ) → g < 11 → active_at (put_least ws g v) j ≡ active_at ws j
unfolding active_at
active_put_least ws g v j h = ap active_of (row_put_least ws g v (19488 + j * 5) 5 (inl (omega arith)))

-- THE LEAST ROWS: one group's is stored, by itself or as stale with a row of it; no other store changes them

pub leasts_at_put : (ws : List ℕ) (g v : ℕ) → length ws ≡ 20768 → g < 11 → leasts_at (put_least ws g v) ≡ set (leasts_at ws) g v
unfolding leasts_at put_least
leasts_at_put ws g v l h = row_set_word ws 21 11 g v (omega arith) h

pub leasts_put_active : (ws : List ℕ) (i : ℕ) (a : ActiveStreamInfo) → length ws ≡ 20768 → leasts_at (put_active_words ws i a) ≡ set (leasts_at ws) (group_of i) stale
unfolding leasts_at put_active_words
leasts_put_active ws i a l =
    leasts_at_put (active_in ws i a) (group_of i) stale (row_put_length ws (19488 + i * 5) (active_words a) ∙ l) (omega arith)
    ∙ ap (λ vs. set vs (group_of i) stale) (row_put_other ws (19488 + i * 5) (active_words a) 21 11 (inr (omega arith)))

pub leasts_put_totals : (ws : List ℕ) (t : Totals) → leasts_at (put_totals ws t) ≡ leasts_at ws
unfolding leasts_at put_totals
leasts_put_totals ws t = row_put_other ws 7 (totals_words t) 21 11 (inl (omega arith))

pub leasts_put_scheduler : (ws : List ℕ) (s : SchedulerState) → leasts_at (put_scheduler ws s) ≡ leasts_at ws
unfolding leasts_at put_scheduler
leasts_put_scheduler ws s = row_put_other ws 18 (scheduler_words s) 21 11 (inl (omega arith))

pub leasts_put_known : (ws : List ℕ) (i : ℕ) (k : Known) → leasts_at (put_known ws i k) ≡ leasts_at ws
unfolding leasts_at put_known
leasts_put_known ws i k = row_put_other ws (32 + i * 2) (known_words k) 21 11 (inr (omega arith))

pub leasts_put_stream : (ws : List ℕ) (i : ℕ) (s : OutgoingStream) → leasts_at (put_stream_words ws i s) ≡ leasts_at ws
unfolding leasts_at put_stream_words
leasts_put_stream ws i s = row_put_other ws (544 + i * 10) (stream_words s) 21 11 (inr (omega arith))

pub leasts_put_item : (ws : List ℕ) (i : ℕ) (m : Item) → leasts_at (put_item ws i m) ≡ leasts_at ws
unfolding leasts_at put_item
leasts_put_item ws i m = row_put_other ws (3104 + i * 16) (item_words m) 21 11 (inr (omega arith))

pub leasts_put_next : (ws : List ℕ) (i v : ℕ) → leasts_at (put_next ws i v) ≡ leasts_at ws
unfolding leasts_at put_next
leasts_put_next ws i v = row_word_other ws (3104 + i * 16 + 14) v 21 11 (inr (omega arith))

pub leasts_put_place : (ws : List ℕ) (i v : ℕ) → leasts_at (put_place ws i v) ≡ leasts_at ws
unfolding leasts_at put_place
leasts_put_place ws i v = row_word_other ws (3104 + i * 16 + 11) v 21 11 (inr (omega arith))

pub leasts_put_length : (ws : List ℕ) (i v : ℕ) → leasts_at (put_length ws i v) ≡ leasts_at ws
unfolding leasts_at put_length
leasts_put_length ws i v = row_word_other ws (3104 + i * 16 + 12) v 21 11 (inr (omega arith))

-- AFTER A STORE OF ONE WORD OF A MESSAGE: as if the whole row had been stored with that field changed

pub item_put_next : (ws : List ℕ) (i v : ℕ) → length ws ≡ 20768 → i < 1024 → item_at (put_next ws i v) i ≡ with_next (item_at ws i) v
unfolding item_at put_next
item_put_next ws i v l h = ap item_of (row_set_word ws (3104 + i * 16) 15 14 v (omega arith) (omega arith))

pub item_put_next_other : (ws : List ℕ) (i v j : ℕ) → (i ≡ j → ⊥) → item_at (put_next ws i v) j ≡ item_at ws j
unfolding item_at put_next
item_put_next_other ws i v j ne =
    ap item_of (row_word_other ws (3104 + i * 16 + 14) v (3104 + j * 16) 15 (ne_cases i j _ ne (λ h. inl (omega arith)) (λ h. inr (omega arith))))

pub options_put_next : (ws : List ℕ) (i v : ℕ) → options_at (put_next ws i v) ≡ options_at ws
unfolding options_at put_next
options_put_next ws i v = ap options_of (row_word_other ws (3104 + i * 16 + 14) v 0 7 (inr (omega arith)))

pub totals_put_next : (ws : List ℕ) (i v : ℕ) → totals_at (put_next ws i v) ≡ totals_at ws
unfolding totals_at put_next
totals_put_next ws i v = ap totals_of (row_word_other ws (3104 + i * 16 + 14) v 7 11 (inr (omega arith)))

pub scheduler_put_next : (ws : List ℕ) (i v : ℕ) → scheduler_at (put_next ws i v) ≡ scheduler_at ws
unfolding scheduler_at put_next
scheduler_put_next ws i v = ap scheduler_of (row_word_other ws (3104 + i * 16 + 14) v 18 3 (inr (omega arith)))

pub known_put_next : (ws : List ℕ) (i v j : ℕ) → j < 256 → known_at (put_next ws i v) j ≡ known_at ws j
unfolding known_at put_next
known_put_next ws i v j h = ap known_of (row_word_other ws (3104 + i * 16 + 14) v (32 + j * 2) 2 (inr (omega arith)))

pub stream_put_next : (ws : List ℕ) (i v j : ℕ) → j < 256 → stream_at_words (put_next ws i v) j ≡ stream_at_words ws j
unfolding stream_at_words put_next
stream_put_next ws i v j h = ap stream_of (row_word_other ws (3104 + i * 16 + 14) v (544 + j * 10) 9 (inr (omega arith)))

pub active_put_next : (ws : List ℕ) (i v j : ℕ) → i < 1024 → active_at (put_next ws i v) j ≡ active_at ws j
unfolding active_at put_next
active_put_next ws i v j h = ap active_of (row_word_other ws (3104 + i * 16 + 14) v (19488 + j * 5) 5 (inl (omega arith)))

pub item_put_place : (ws : List ℕ) (i v : ℕ) → length ws ≡ 20768 → i < 1024 → item_at (put_place ws i v) i ≡ with_place (item_at ws i) v
unfolding item_at put_place
item_put_place ws i v l h = ap item_of (row_set_word ws (3104 + i * 16) 15 11 v (omega arith) (omega arith))

pub item_put_place_other : (ws : List ℕ) (i v j : ℕ) → (i ≡ j → ⊥) → item_at (put_place ws i v) j ≡ item_at ws j
unfolding item_at put_place
item_put_place_other ws i v j ne =
    ap item_of (row_word_other ws (3104 + i * 16 + 11) v (3104 + j * 16) 15 (ne_cases i j _ ne (λ h. inl (omega arith)) (λ h. inr (omega arith))))

pub options_put_place : (ws : List ℕ) (i v : ℕ) → options_at (put_place ws i v) ≡ options_at ws
unfolding options_at put_place
options_put_place ws i v = ap options_of (row_word_other ws (3104 + i * 16 + 11) v 0 7 (inr (omega arith)))

pub totals_put_place : (ws : List ℕ) (i v : ℕ) → totals_at (put_place ws i v) ≡ totals_at ws
unfolding totals_at put_place
totals_put_place ws i v = ap totals_of (row_word_other ws (3104 + i * 16 + 11) v 7 11 (inr (omega arith)))

pub scheduler_put_place : (ws : List ℕ) (i v : ℕ) → scheduler_at (put_place ws i v) ≡ scheduler_at ws
unfolding scheduler_at put_place
scheduler_put_place ws i v = ap scheduler_of (row_word_other ws (3104 + i * 16 + 11) v 18 3 (inr (omega arith)))

pub known_put_place : (ws : List ℕ) (i v j : ℕ) → j < 256 → known_at (put_place ws i v) j ≡ known_at ws j
unfolding known_at put_place
known_put_place ws i v j h = ap known_of (row_word_other ws (3104 + i * 16 + 11) v (32 + j * 2) 2 (inr (omega arith)))

pub stream_put_place : (ws : List ℕ) (i v j : ℕ) → j < 256 → stream_at_words (put_place ws i v) j ≡ stream_at_words ws j
unfolding stream_at_words put_place
stream_put_place ws i v j h = ap stream_of (row_word_other ws (3104 + i * 16 + 11) v (544 + j * 10) 9 (inr (omega arith)))

pub active_put_place : (ws : List ℕ) (i v j : ℕ) → i < 1024 → active_at (put_place ws i v) j ≡ active_at ws j
unfolding active_at put_place
active_put_place ws i v j h = ap active_of (row_word_other ws (3104 + i * 16 + 11) v (19488 + j * 5) 5 (inl (omega arith)))

pub item_put_length : (ws : List ℕ) (i v : ℕ) → length ws ≡ 20768 → i < 1024 → item_at (put_length ws i v) i ≡ with_length (item_at ws i) v
unfolding item_at put_length
item_put_length ws i v l h = ap item_of (row_set_word ws (3104 + i * 16) 15 12 v (omega arith) (omega arith))

pub item_put_length_other : (ws : List ℕ) (i v j : ℕ) → (i ≡ j → ⊥) → item_at (put_length ws i v) j ≡ item_at ws j
unfolding item_at put_length
item_put_length_other ws i v j ne =
    ap item_of (row_word_other ws (3104 + i * 16 + 12) v (3104 + j * 16) 15 (ne_cases i j _ ne (λ h. inl (omega arith)) (λ h. inr (omega arith))))

pub options_put_length : (ws : List ℕ) (i v : ℕ) → options_at (put_length ws i v) ≡ options_at ws
unfolding options_at put_length
options_put_length ws i v = ap options_of (row_word_other ws (3104 + i * 16 + 12) v 0 7 (inr (omega arith)))

pub totals_put_length : (ws : List ℕ) (i v : ℕ) → totals_at (put_length ws i v) ≡ totals_at ws
unfolding totals_at put_length
totals_put_length ws i v = ap totals_of (row_word_other ws (3104 + i * 16 + 12) v 7 11 (inr (omega arith)))

pub scheduler_put_length : (ws : List ℕ) (i v : ℕ) → scheduler_at (put_length ws i v) ≡ scheduler_at ws
unfolding scheduler_at put_length
scheduler_put_length ws i v = ap scheduler_of (row_word_other ws (3104 + i * 16 + 12) v 18 3 (inr (omega arith)))

pub known_put_length : (ws : List ℕ) (i v j : ℕ) → j < 256 → known_at (put_length ws i v) j ≡ known_at ws j
unfolding known_at put_length
known_put_length ws i v j h = ap known_of (row_word_other ws (3104 + i * 16 + 12) v (32 + j * 2) 2 (inr (omega arith)))

pub stream_put_length : (ws : List ℕ) (i v j : ℕ) → j < 256 → stream_at_words (put_length ws i v) j ≡ stream_at_words ws j
unfolding stream_at_words put_length
stream_put_length ws i v j h = ap stream_of (row_word_other ws (3104 + i * 16 + 12) v (544 + j * 10) 9 (inr (omega arith)))

pub active_put_length : (ws : List ℕ) (i v j : ℕ) → i < 1024 → active_at (put_length ws i v) j ≡ active_at ws j
unfolding active_at put_length
active_put_length ws i v j h = ap active_of (row_word_other ws (3104 + i * 16 + 12) v (19488 + j * 5) 5 (inl (omega arith)))

-- The three words by themselves, whichever the rows: one is not changed by a store of another.

pub place_put_next : (ws : List ℕ) (i v j : ℕ) → (item_at (put_next ws i v) j).place ≡ (item_at ws j).place
unfolding item_at put_next
place_put_next ws i v j = get_or-set_other ws (3104 + i * 16 + 14) (3104 + j * 16 + 11) v 0 (λ e. omega arith)

pub length_put_next : (ws : List ℕ) (i v j : ℕ) → (item_at (put_next ws i v) j).length ≡ (item_at ws j).length
unfolding item_at put_next
length_put_next ws i v j = get_or-set_other ws (3104 + i * 16 + 14) (3104 + j * 16 + 12) v 0 (λ e. omega arith)

pub length_put_place : (ws : List ℕ) (i v j : ℕ) → (item_at (put_place ws i v) j).length ≡ (item_at ws j).length
unfolding item_at put_place
length_put_place ws i v j = get_or-set_other ws (3104 + i * 16 + 11) (3104 + j * 16 + 12) v 0 (λ e. omega arith)

pub place_put_length : (ws : List ℕ) (i v j : ℕ) → (item_at (put_length ws i v) j).place ≡ (item_at ws j).place
unfolding item_at put_length
place_put_length ws i v j = get_or-set_other ws (3104 + i * 16 + 12) (3104 + j * 16 + 11) v 0 (λ e. omega arith)
