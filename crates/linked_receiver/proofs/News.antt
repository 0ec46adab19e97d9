-- The words of a new receiver are good, and stand for the model's new receiver. Assumes nothing.
use mathlib.Core.Path.{◌≡◌, refl, sym, ap, ◌∙◌}
use mathlib.Core.Bool.{Bool}
use mathlib.Core.List.{List, [], ◌∷◌}
use Prim.Native.Nat.{ℕ, zero, suc, ◌+◌, ◌%◌, ◌≤◌, ◌<◌}
use native.Mathlib.Omega.{arith}
use borrow.Author.Tests.{eq-eqb, ne_eqb}
use lib.ListN.{length}
use Rattle.queue_words.specs.Flags.{bit, flag}
use Rattle.receiver_model.specs.Lists.{keep, count, join}
use Rattle.receiver_model.specs.Tsn.{before}
use Rattle.receiver_model.specs.Receive.{new_receiver}
use Rattle.receiver_model.proofs.Lists.{count_nil, count_here, count_there, member_nil, equal, other, compare_same}
use Rattle.receiver_words.specs.Tables.{Header, Ahead, Buckets, word_at}
use Rattle.receiver_words.specs.Link.{Linked, turn_rows}
use Rattle.receiver_words.specs.Chunks.{kind_of}
use Rattle.receiver_words.specs.Ages.{older}
use Rattle.receiver_messages.specs.Keys.{interleaved_of, previous}
use Rattle.linked_receiver.specs.Rows.{Indexed}
use Rattle.linked_receiver.specs.Good.{Ghost, whole_rows, GoodReceiver, stands, Stands}
use Rattle.queue_words.proofs.NumberLaws.{flag_bit}

-- ------------------------------------------------------------------ the free rows

-- n rows from row i on
unfoldable pub rows_from : ℕ → ℕ → List ℕ
rows_from i zero = []
rows_from i (suc n) = i ∷ rows_from (i + 1) n

count_below : (n i x : ℕ) → x < i → count x (rows_from i n) ≡ 0
unfolding rows_from
count_below zero i x h = count_nil x
count_below (suc n) i x h = count_there x i (rows_from (i + 1) n) (λ e. omega arith) ∙ count_below n (i + 1) x (omega arith)

count_from : (n i x : ℕ) → i ≤ x → x < i + n → count x (rows_from i n) ≡ 1
unfolding rows_from
count_from zero i x l h = absurd (omega arith)
count_from (suc n) i x l h = elim (compare_same i x) [
  | equal e ↦ count_here x i (rows_from (i + 1) n) e ∙ ap suc (count_below n (i + 1) x (omega arith))
  | other d ↦ count_there x i (rows_from (i + 1) n) d ∙ count_from n (i + 1) x (omega arith) (omega arith)
]

linked_from : (next : ℕ → ℕ) (n i p : ℕ) → p ≡ i → i + n ≡ 4096 → ((x : ℕ) → x < 4096 → next x ≡ x + 1) → Linked next p (rows_from i n)
unfolding rows_from
linked_from next zero i p e h f = omega arith
linked_from next (suc n) i p e h f = (e, omega arith, linked_from next n (i + 1) (next i) (f i (omega arith)) (omega arith) f)

-- nothing is held, every row is free
pub new_rows : Ghost
new_rows = record { held = []; free = rows_from 0 4096; waiting = []; ready = []; tail = λ x. []; ahead = [] }

-- ------------------------------------------------------------------ what creation leaves

pub record IsNew (ws : List ℕ) (b : Bool) (len start : ℕ) : Type 0 where
  pub long : length ws ≡ 83472
  pub kind_is : word_at Header ws 0 0 ≡ bit b
  pub store_is : word_at Header ws 0 1 ≡ len
  pub last_is : word_at Header ws 0 2 ≡ previous start
  pub known_is : word_at Header ws 0 3 ≡ 0
  pub held_is : word_at Header ws 0 4 ≡ 0
  pub used_is : word_at Header ws 0 5 ≡ 0
  pub end_is : word_at Header ws 0 6 ≡ 0
  pub free_is : word_at Header ws 0 7 ≡ 0
  pub newest_is : word_at Header ws 0 8 ≡ 4096
  pub oldest_is : word_at Header ws 0 9 ≡ 4096
  pub ready_is : word_at Header ws 0 10 ≡ 4096
  pub ready_last_is : word_at Header ws 0 11 ≡ 4096
  pub none_ahead : (j : ℕ) → j < 1024 → word_at Ahead ws j 0 ≡ 0
  pub no_chain : (c k : ℕ) → c < 4096 → k < 3 → word_at Buckets ws c k ≡ 4096
  pub all_free : (x : ℕ) → x < 4096 → older ws x ≡ x + 1

-- the TSN before the first one
pub previous_is : (t : ℕ) → t < 4294967296 → previous t ≡ before t
unfolding previous before
previous_is t h = elim (compare_same t 0) [
  | equal e ↦ rw (eq-eqb t 0 e) (omega arith)
  | other d ↦ rw (ne_eqb t 0 d) (omega arith)
]

previous_fits : (t : ℕ) → t < 4294967296 → previous t < 4294967296
unfolding previous
previous_fits t h = elim (compare_same t 0) [
  | equal e ↦ rw (eq-eqb t 0 e) (omega arith)
  | other d ↦ rw (ne_eqb t 0 d) (omega arith)
]

nothing_in : {A : Type 0} (x : ℕ) → 0 < count x [] → A
nothing_in x h = absurd (let z = count_nil x in omega arith)

module _ (ws st : List ℕ) (b : Bool) (start : ℕ) (new : IsNew ws b (length st) start) (first : start < 4294967296) where
  no_rows : (k : ℕ) → k < 3 → Indexed ws k []
  unfolding keep
  no_rows k hk c hc = new.no_chain c k hc hk

  none_whole : (x : ℕ) → count x (whole_rows new_rows) ≡ 0
  unfolding join new_rows
  none_whole x = count_nil x

  is_kind : interleaved_of ws ≡ b
  is_kind = ap flag new.kind_is ∙ flag_bit b

  pub new_good : length st ≤ 2000000 → GoodReceiver new_rows ws st
  unfolding new_rows
  new_good fits = record {
    store_is = new.store_is;
    store_fits = fits;
    aged = (new.newest_is, new.oldest_is);
    freed = linked_from (older ws) 4096 0 (word_at Header ws 0 7) new.free_is refl new.all_free;
    cover = λ x h. let a = count_nil x in let c = count_from 4096 0 x (omega arith) h in omega arith;
    held_is = new.held_is;
    by_tsn = no_rows 0 (omega arith);
    by_place = λ e. no_rows 1 (omega arith);
    by_number = no_rows 2 (omega arith);
    tsn_once = λ f x y h. nothing_in x h;
    place_once = λ e f x y h. nothing_in x h;
    carried = λ x h. nothing_in x h;
    whole_held = λ x. let a = none_whole x in omega arith;
    marked = λ x h. nothing_in x h;
    walks = λ h c. nothing_in h c;
    lined = (new.ready_is, new.ready_last_is);
    flags = record {
      long = new.long;
      flags = λ t ht l n. ap flag (new.none_ahead (t % 1024) (omega arith)) ∙ sym (member_nil t);
    };
    last_fits = let a = new.last_is in let c = previous_fits start first in omega arith;
    known_fits = let a = new.known_is in omega arith;
    next_fits = λ t h. absurd (let a = new.known_is in omega arith);
    laid = record { long = new.long; end_in = let a = new.end_is in omega arith; below = tt; used_is = new.used_is };
  }

  new_is : stands new_rows ws st ≡ new_receiver (kind_of b) (length st) start
  unfolding new_rows new_receiver keep turn_rows
  new_is = rw (is_kind, new.store_is, new.last_is, new.known_is, previous_is start first) refl

  -- "with a starting TSN": the words stand for the model's new receiver
  pub new_stands : length st ≤ 2000000 → Stands new_rows ws st (new_receiver (kind_of b) (length st) start)
  new_stands fits = record { good = new_good fits; is = new_is }
