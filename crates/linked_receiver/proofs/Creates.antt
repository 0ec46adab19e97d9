-- Creation: `create` leaves the words of a new receiver, or refuses as the model does. Assumes nothing.
use mathlib.Core.Path.{◌≡◌, refl, sym, ap, ◌∙◌, subst}
use mathlib.Core.Bool.{Bool}
use mathlib.Core.List.{List, [], ◌∷◌}
use mathlib.Core.Option.{none, some}
use Prim.Native.Nat.{ℕ, ◌+◌, ◌≤◌, ◌<◌}
use native.Mathlib.Omega.{arith}
use borrow.Author.Tests.{ltb-false}
use lib.Dec.{ltb}
use lib.ListN.{length}
use Rattle.queue_words.specs.Flags.{bit}
use Rattle.queue_model.specs.Refusals.{first_refusal}
use Rattle.receiver_model.specs.Receive.{create_refusal, new_receiver}
use Rattle.receiver_model.proofs.Lists.{Value, yes_is, no_is, value, equal, other, compare_same, none≢some, some_is}
use Rattle.receiver_words.specs.Tables.{Header, Ahead, Buckets, Links, word_at}
use Rattle.receiver_words.specs.Chains.{free_to}
use Rattle.receiver_words.specs.Creation.{fill_to}
use Rattle.receiver_words.specs.Chunks.{kind_of}
use Rattle.receiver_words.specs.Ages.{older}
use Rattle.receiver_messages.specs.Keys.{previous}
use Rattle.receiver_fragments.specs.Creating.{Outcome, created, new_tables, new_header, create}
use Rattle.linked_receiver.specs.Good.{Stands}
use Rattle.linked_receiver.specs.Promise.{Creates}
use Rattle.linked_receiver.proofs.Fresh.{fill_long, fill_same, fill_beside, fill_table, free_long, free_next, free_table, Puts, put_all, look_up, puts_long, puts_read, puts_table}
use Rattle.linked_receiver.proofs.News.{new_rows, IsNew, new_stands}

-- ------------------------------------------------------------------ the tables

module _ (ws : List ℕ) (long : length ws ≡ 83472) where
  abbrev one : List ℕ
  one = fill_to Ahead ws 0 0 1024

  abbrev two : List ℕ
  two = fill_to Buckets one 0 4096 4096

  abbrev three : List ℕ
  three = fill_to Buckets two 1 4096 4096

  abbrev four : List ℕ
  four = fill_to Buckets three 2 4096 4096

  one_long : length one ≡ 83472
  one_long = fill_long Ahead ws 0 0 1024 ∙ long

  two_long : length two ≡ 83472
  two_long = fill_long Buckets one 0 4096 4096 ∙ one_long

  three_long : length three ≡ 83472
  three_long = fill_long Buckets two 1 4096 4096 ∙ two_long

  four_long : length four ≡ 83472
  four_long = fill_long Buckets three 2 4096 4096 ∙ three_long

  tables_are : new_tables ws ≡ free_to four 4096
  unfolding new_tables
  tables_are = refl

  tables_long : length (new_tables ws) ≡ 83472
  tables_long = ap length tables_are ∙ free_long four 4096 ∙ four_long

  none_ahead : (j : ℕ) → j < 1024 → word_at Ahead (new_tables ws) j 0 ≡ 0
  none_ahead j hj =
      ap (λ (r : List ℕ). word_at Ahead r j 0) tables_are
      ∙ free_table four Ahead 4096 j 0 refl (omega arith) hj (omega arith)
      ∙ fill_table Buckets three 2 4096 Ahead 4096 j 0 refl (omega arith) (omega arith) hj (omega arith)
      ∙ fill_table Buckets two 1 4096 Ahead 4096 j 0 refl (omega arith) (omega arith) hj (omega arith)
      ∙ fill_table Buckets one 0 4096 Ahead 4096 j 0 refl (omega arith) (omega arith) hj (omega arith)
      ∙ fill_same Ahead ws 0 0 1024 j long (omega arith) (omega arith) hj

  bucket : (k c : ℕ) → c < 4096 → k < 3 → word_at Buckets (new_tables ws) c k ≡ word_at Buckets four c k
  bucket k c hc hk = ap (λ (r : List ℕ). word_at Buckets r c k) tables_are ∙ free_table four Buckets 4096 c k refl (omega arith) hc hk

  no_chain : (c k : ℕ) → c < 4096 → k < 3 → word_at Buckets (new_tables ws) c k ≡ 4096
  no_chain c k hc hk = elim (compare_same k 2) [
    | equal e ↦ subst (λ (m : ℕ). word_at Buckets (new_tables ws) c m ≡ 4096) (sym e) (bucket 2 c hc (omega arith) ∙ fill_same Buckets three 2 4096 4096 c three_long (omega arith) (omega arith) hc)
    | other d ↦ elim (compare_same k 1) [
      | equal e ↦ subst (λ (m : ℕ). word_at Buckets (new_tables ws) c m ≡ 4096) (sym e)
          (bucket 1 c hc (omega arith) ∙ fill_beside Buckets three 2 4096 4096 c 1 (λ z. omega arith) (omega arith) (omega arith)
          ∙ fill_same Buckets two 1 4096 4096 c two_long (omega arith) (omega arith) hc)
      | other d' ↦ (let e : k ≡ 0 = omega arith in
          subst (λ (m : ℕ). word_at Buckets (new_tables ws) c m ≡ 4096) (sym e)
          (bucket 0 c hc (omega arith) ∙ fill_beside Buckets three 2 4096 4096 c 0 (λ z. omega arith) (omega arith) (omega arith)
          ∙ fill_beside Buckets two 1 4096 4096 c 0 (λ z. omega arith) (omega arith) (omega arith)
          ∙ fill_same Buckets one 0 4096 4096 c one_long (omega arith) (omega arith) hc))
    ]
  ]

  all_free : (x : ℕ) → x < 4096 → older (new_tables ws) x ≡ x + 1
  all_free x hx = ap (λ (r : List ℕ). word_at Links r x 3) tables_are ∙ free_next four 4096 x four_long (omega arith) hx

-- ------------------------------------------------------------------ the header

module _ (ws : List ℕ) (b : Bool) (len start : ℕ) (long : length ws ≡ 83472) where
  abbrev header : Puts
  header =
      (11, 4096) ∷ (10, 4096) ∷ (9, 4096) ∷ (8, 4096) ∷ (7, 0) ∷ (6, 0) ∷ (5, 0) ∷ (4, 0) ∷ (3, 0) ∷ (2, previous start) ∷ (1, len) ∷ (0, bit b) ∷ []

  abbrev tables : List ℕ
  tables = new_tables ws

  header_is : new_header tables b len start ≡ put_all tables header
  unfolding new_header
  header_is = refl

  reads : (m : ℕ) → word_at Header (put_all tables header) 0 m ≡ look_up m header (word_at Header tables 0 m)
  reads m = puts_read tables header m (tables_long ws long) refl

  new_words : IsNew (put_all tables header) b len start
  new_words = record {
    long = puts_long tables header ∙ tables_long ws long;
    kind_is = reads 0;
    store_is = reads 1;
    last_is = reads 2;
    known_is = reads 3;
    held_is = reads 4;
    used_is = reads 5;
    end_is = reads 6;
    free_is = reads 7;
    newest_is = reads 8;
    oldest_is = reads 9;
    ready_is = reads 10;
    ready_last_is = reads 11;
    none_ahead = λ j h. puts_table tables Ahead header j 0 refl refl h (omega arith) ∙ none_ahead ws long j h;
    no_chain = λ c k hc hk. puts_table tables Buckets header c k refl refl hc hk ∙ no_chain ws long c k hc hk;
    all_free = λ x h. puts_table tables Links header x 3 refl refl h (omega arith) ∙ all_free ws long x h;
  }

  -- what creation leaves
  pub create_new : IsNew (new_header (new_tables ws) b len start) b len start
  create_new = subst (λ (r : List ℕ). IsNew r b len start) (sym header_is) new_words

-- ------------------------------------------------------------------ the call

module _ (ws st : List ℕ) (b : Bool) (start : ℕ) (long : length ws ≡ 83472) (first : start < 4294967296) where
  -- the model's check and the code's are one
  data Sized : Type 0 where
    unfit : create_refusal (length st) ≡ some 2 → create ws st b start ≡ created 2 ws → Sized
    fit : create_refusal (length st) ≡ none → length st ≤ 2000000 → create ws st b start ≡ created 0 (new_header (new_tables ws) b (length st) start) → Sized

  sized : Sized
  unfolding create create_refusal first_refusal
  sized = go (value (ltb (length st) 1)) (value (ltb 2000000 (length st)))
    where
      go : Value (ltb (length st) 1) → Value (ltb 2000000 (length st)) → Sized
      go (yes_is e) v = unfit (rw e) (rw e)
      go (no_is e) (yes_is f) = unfit (rw (e, f)) (rw (e, f))
      go (no_is e) (no_is f) = fit (rw (e, f)) (ltb-false 2000000 (length st) f) (rw (e, f))

  pub creates : Creates ws st b start (create ws st b start)
  creates = go sized
    where
      go : Sized → Creates ws st b start (create ws st b start)
      go (unfit m e) = record {
        refuses = λ n q. e ∙ ap (λ (k : ℕ). created k ws) (some_is (sym m ∙ q));
        answers = λ q. absurd (none≢some q m);
        represents = λ q. absurd (none≢some q m);
      }
      go (fit m h e) = record {
        refuses = λ n q. absurd (none≢some m q);
        answers = λ q. ap (λ (o : Outcome). o.answer) e;
        represents = λ q. record {
          rows = new_rows;
          stands = subst (λ (o : Outcome). Stands new_rows o.words st (new_receiver (kind_of b) (length st) start)) (sym e)
              (new_stands (new_header (new_tables ws) b (length st) start) st b start (create_new ws b (length st) start long) first h);
        };
      }
