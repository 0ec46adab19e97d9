-- The window moves on, and a stream gets its next number: the words are good again. Assumes nothing.
use mathlib.Core.Path.{◌≡◌, refl, sym, ap, ap₂, ◌∙◌, subst}
use mathlib.Core.Logic.{◌⊎◌, inl, inr, ⊎_elim}
use mathlib.Core.Bool.{true}
use mathlib.Core.List.{List, ◌∷◌}
use Prim.Native.Nat.{ℕ, zero, suc, ◌+◌, ◌%◌, ◌^◌, ◌≤◌, ◌<◌}
use native.Mathlib.Omega.{arith}
use borrow.Author.Tests.{le-leb, lt-leb}
use lib.Dec.{eqb}
use lib.ListN.{length}
use Rattle.queue_words.specs.Flags.{pick, flag}
use Rattle.receiver_model.specs.Types.{Receiver, Kind, DATA, I-DATA}
use Rattle.receiver_model.specs.Types as model
use Rattle.receiver_model.specs.Assembly.{width}
use Rattle.receiver_model.specs.Receive.{pass, next_in, set_next}
use Rattle.receiver_model.proofs.Lists.{equal, other, compare_same}
use Rattle.receiver_model.proofs.Window.{Ahead}
use Rattle.receiver_words.specs.Tables.{Header, Turns, Buckets, Fragments, Links, word_at, put_word}
use Rattle.receiver_words.specs.Tables as table
use Rattle.receiver_words.specs.Turns.{turn_of, turn_words, turn_at, put_turn}
use Rattle.receiver_words.specs.Fragments.{fragment_of}
use Rattle.receiver_words.specs.Ahead.{ahead_at}
use Rattle.receiver_words.specs.Search.{turn_from}
use Rattle.receiver_words.specs.Link.{Flags, turn_rows}
use Rattle.receiver_words.specs.Chunks.{kind_of}
use Rattle.receiver_words.specs.declared.turns.Turn.{Turn}
use Rattle.receiver_words.proofs.Laws.{whole_put_word, whole_put_row, word_put_same, word_put_beside, word_put_table, word_put_row_table, row_put_table, row_put_other_row, row_put_word_table}
use Rattle.receiver_words.proofs.Records.{turn_at_put}
use Rattle.receiver_words.proofs.Finds.{turn_finds}
use Rattle.receiver_messages.specs.Keys.{interleaved_of}
use Rattle.receiver_fragments.specs.Holding.{pass_tsn, next_of, set_turn}
use Rattle.linked_receiver.specs.Good.{Ghost, GoodReceiver, stands}
use Rattle.linked_receiver.proofs.Turns.{set_known, set_new}
use Rattle.linked_receiver.proofs.Passed.{OnlyWindow, Accepted, pass_law}
use Rattle.linked_receiver.proofs.Taken.{turn_rows_same}
use Rattle.linked_receiver.proofs.Others.{Others, ahead_as, others_good, others_stands}

-- ------------------------------------------------------------------ the window

window_others : (ws ws' : List ℕ) → OnlyWindow ws ws' → Others ws ws'
window_others ws ws' w = record {
  long = w.long;
  header = λ m a b c. w.header m a b;
  links = λ x m a b. w.words Links x m refl refl a b;
  buckets = λ c k a b. w.words Buckets c k refl refl a b;
  fragment = λ x a. ap fragment_of (w.tables Fragments x refl refl a);
}

-- the receiver with another window
abbrev pub with_window : ℕ → List ℕ → Receiver → Receiver
with_window last ts r = record { kind = r.kind; store_length = r.store_length; last_tsn = last; ahead = ts; loose = r.loose; waiting = r.waiting; ready = r.ready; turns = r.turns }

module _ (g : Ghost) (ws st : List ℕ) (d : GoodReceiver g ws st) (t : ℕ) (near : Ahead (word_at Header ws 0 2) (t ∷ g.ahead)) where
  abbrev ws' : List ℕ
  ws' = pass_tsn ws t (word_at Header ws 0 2)

  abbrev pub passed_tsn : ℕ
  passed_tsn = (pass (suc (length g.ahead)) (word_at Header ws 0 2) (t ∷ g.ahead)).last_tsn

  abbrev pub passed_ahead : List ℕ
  passed_ahead = (pass (suc (length g.ahead)) (word_at Header ws 0 2) (t ∷ g.ahead)).ahead

  a : Accepted ws t (word_at Header ws 0 2) g.ahead ws'
  a = pass_law ws t (word_at Header ws 0 2) g.ahead near d.flags

  others : Others ws ws'
  others = window_others ws ws' a.window

  turn : (n : ℕ) → n < 256 → turn_at ws' n ≡ turn_at ws n
  turn n h = ap turn_of (a.window.tables Turns n refl refl h)

  known : word_at Header ws' 0 3 ≡ word_at Header ws 0 3
  known = a.window.header 3 (omega arith) (λ e. omega arith)

  -- what is next in the streams is as it was
  pub window_turns : (n : ℕ) → n < 256 → turn_at (pass_tsn ws t (word_at Header ws 0 2)) n ≡ turn_at ws n
  window_turns = turn

  pub window_known : word_at Header (pass_tsn ws t (word_at Header ws 0 2)) 0 3 ≡ word_at Header ws 0 3
  window_known = known

  pub window_others_are : Others ws (pass_tsn ws t (word_at Header ws 0 2))
  window_others_are = others

  pub window_good : word_at Header (pass_tsn ws t (word_at Header ws 0 2)) 0 2 < 2 ^ 32 → GoodReceiver (ahead_as passed_ahead g) (pass_tsn ws t (word_at Header ws 0 2)) st
  window_good fits =
      others_good g ws ws' st passed_ahead d others a.flags fits (let k = known in let l = d.known_fits in omega arith)
      (λ n l. let k = known in let e = d.known_fits in
      subst (λ (v : ℕ). v < 2 ^ width (kind_of (interleaved_of ws))) (sym (ap (λ (v : Turn). v.next) (turn n (omega arith)))) (d.next_fits n (subst (λ (m : ℕ). n < m) known l)))

  pub window_stands : stands (ahead_as passed_ahead g) (pass_tsn ws t (word_at Header ws 0 2)) st ≡ with_window passed_tsn passed_ahead (stands g ws st)
  window_stands =
      others_stands g ws ws' st passed_ahead d others passed_tsn (turn_rows ws 0 (word_at Header ws 0 3)) a.last_is
      (ap (turn_rows ws' 0) known ∙ turn_rows_same ws ws' (word_at Header ws 0 3) 0 (let k = d.known_fits in omega arith) turn)

-- ------------------------------------------------------------------ what is next in a stream

-- the receiver with other known streams
abbrev pub with_turns : List model.Turn → Receiver → Receiver
with_turns us r = record { kind = r.kind; store_length = r.store_length; last_tsn = r.last_tsn; ahead = r.ahead; loose = r.loose; waiting = r.waiting; ready = r.ready; turns = us }

pub turn_from_same : (ws ws' : List ℕ) (s n i : ℕ) → i + n ≤ 256 → ((t : ℕ) → t < 256 → turn_at ws' t ≡ turn_at ws t) → turn_from ws' s i n ≡ turn_from ws s i n
unfolding turn_from
turn_from_same ws ws' s zero i l h = refl
turn_from_same ws ws' s (suc n) i l h =
    ap₂ (λ (v : Turn) (m : ℕ). pick (eqb v.id.0 s) i m) (h i (omega arith)) (turn_from_same ws ws' s n (i + 1) (omega arith) h)

narrow : (k : Kind) (n : ℕ) → n < 2 ^ width k → n < 4294967296
unfolding width
narrow DATA n h = omega arith
narrow I-DATA n h = h

module _ (g : Ghost) (ws st : List ℕ) (d : GoodReceiver g ws st) (s n t : ℕ) (id_fits : s < 65536) (fits : n < 2 ^ width (kind_of (interleaved_of ws))) (at : t ≡ turn_from ws s 0 (word_at Header ws 0 3))
    (inside : t < 256) where
  abbrev known3 : ℕ
  known3 = word_at Header ws 0 3

  abbrev one : Turn
  one = record { id = record { 0 = s }; next = n }

  abbrev ws1 : List ℕ
  ws1 = put_turn ws t one

  long : length ws ≡ 83472
  long = d.laid.long

  fits32 : n < 4294967296
  fits32 = narrow (kind_of (interleaved_of ws)) n fits

  words1 : (z : table.Table) (j m : ℕ) → table.distinct Turns z ≡ true → j < table.rows z → m < table.width z → word_at z ws1 j m ≡ word_at z ws j m
  words1 z j m e hj hm = word_put_row_table Turns z ws t (turn_words one) j m e inside hj (omega arith) hm

  others1 : Others ws ws1
  others1 = record {
    long = whole_put_row Turns ws t (turn_words one);
    header = λ m a b c. words1 Header 0 m refl (omega arith) a;
    links = λ x m a b. words1 Links x m refl a b;
    buckets = λ c k a b. words1 Buckets c k refl a b;
    fragment = λ x a. ap fragment_of (row_put_table Turns Fragments ws t (turn_words one) x refl inside a (omega arith));
  }

  ahead1 : (u : ℕ) → ahead_at ws1 u ≡ ahead_at ws u
  ahead1 u = ap flag (words1 table.Ahead (u % 1024) 0 refl (omega arith) (omega arith))

  here1 : turn_at ws1 t ≡ one
  here1 = turn_at_put ws t one long inside (record { id_fits = id_fits; next_fits = fits32 })

  there1 : (u : ℕ) → (t ≡ u → ⊥) → turn_at ws1 u ≡ turn_at ws u
  there1 u ne = ap turn_of (row_put_other_row Turns ws t (turn_words one) u ne (omega arith))

  next1 : (u : ℕ) → (u < known3) ⊎ (t ≡ u) → (turn_at ws1 u).next < 2 ^ width (kind_of (interleaved_of ws))
  next1 u h = elim (compare_same t u) [
    | equal e ↦ subst (λ (v : ℕ). (turn_at ws1 v).next < 2 ^ width (kind_of (interleaved_of ws))) e (subst (λ (v : Turn). v.next < 2 ^ width (kind_of (interleaved_of ws))) (sym here1) fits)
    | other ne ↦ ⊎_elim
        (λ l. subst (λ (v : Turn). v.next < 2 ^ width (kind_of (interleaved_of ws))) (sym (there1 u ne)) (d.next_fits u l))
        (λ e. absurd (ne e))
        h
  ]

  -- a known stream
  module _ (l : t < known3) where
    known_is : set_turn ws t s n ≡ ws1
    unfolding set_turn
    known_is = rw (lt-leb known3 t l)

    known_rows : turn_rows ws1 0 known3 ≡ set_next s n (turn_rows ws 0 known3)
    known_rows =
        subst (λ (v : ℕ). turn_rows (put_turn ws v one) 0 known3 ≡ set_next s n (turn_rows ws 0 known3)) (sym at)
        (set_known ws long s n id_fits fits32 known3 0 (let k = d.known_fits in omega arith) (let e = at in omega arith))

    header3 : word_at Header ws1 0 3 ≡ known3
    header3 = words1 Header 0 3 refl (omega arith) (omega arith)

    header2 : word_at Header ws1 0 2 ≡ word_at Header ws 0 2
    header2 = words1 Header 0 2 refl (omega arith) (omega arith)

    known_good : GoodReceiver (ahead_as g.ahead g) ws1 st
    known_good =
        others_good g ws ws1 st g.ahead d others1
        (subst (λ (v : ℕ). Flags ws1 v g.ahead) (sym header2) (record { long = others1.long ∙ long; flags = λ u a b c. ahead1 u ∙ d.flags.flags u a b c }))
        (subst (λ (v : ℕ). v < 2 ^ 32) (sym header2) d.last_fits)
        (let e = header3 in let k = d.known_fits in omega arith)
        (λ u h. next1 u (inl (let e = header3 in omega arith)))

    known_stands : stands (ahead_as g.ahead g) ws1 st ≡ with_turns (set_next s n (turn_rows ws 0 known3)) (stands g ws st)
    known_stands = others_stands g ws ws1 st g.ahead d others1 (word_at Header ws 0 2) (set_next s n (turn_rows ws 0 known3)) header2 (ap (turn_rows ws1 0) header3 ∙ known_rows)

  -- a new one
  module _ (l : t ≡ known3) where
    abbrev ws2 : List ℕ
    ws2 = put_word Header ws1 0 3 (t + 1)

    new_is : set_turn ws t s n ≡ ws2
    unfolding set_turn
    new_is = rw (le-leb known3 t (omega arith))

    others2 : Others ws ws2
    others2 = record {
      long = whole_put_word Header ws1 0 3 (t + 1) ∙ others1.long;
      header = λ m a b c. word_put_beside Header ws1 0 3 (t + 1) m c ∙ others1.header m a b c;
      links = λ x m a b. word_put_table Header Links ws1 0 3 (t + 1) x m refl (omega arith) a (omega arith) b ∙ others1.links x m a b;
      buckets = λ c k a b. word_put_table Header Buckets ws1 0 3 (t + 1) c k refl (omega arith) a (omega arith) b ∙ others1.buckets c k a b;
      fragment = λ x a. ap fragment_of (row_put_word_table Header Fragments ws1 0 3 (t + 1) x refl (omega arith) a (omega arith)) ∙ others1.fragment x a;
    }

    turn2 : (u : ℕ) → u < 256 → turn_at ws2 u ≡ turn_at ws1 u
    turn2 u h = ap turn_of (row_put_word_table Header Turns ws1 0 3 (t + 1) u refl (omega arith) h (omega arith))

    new3 : word_at Header ws2 0 3 ≡ suc known3
    new3 = let e = word_put_same Header ws1 0 3 (t + 1) (others1.long ∙ long) (omega arith) (omega arith) in omega arith

    new2 : word_at Header ws2 0 2 ≡ word_at Header ws 0 2
    new2 = word_put_beside Header ws1 0 3 (t + 1) 2 (λ e. omega arith) ∙ words1 Header 0 2 refl (omega arith) (omega arith)

    new_rows : turn_rows ws2 0 (suc known3) ≡ set_next s n (turn_rows ws 0 known3)
    new_rows =
        turn_rows_same ws1 ws2 (suc known3) 0 (let k = inside in omega arith) turn2
        ∙ subst (λ (v : ℕ). turn_rows (put_turn ws v one) 0 (suc known3) ≡ set_next s n (turn_rows ws 0 known3)) (let z : 0 + known3 ≡ t = omega arith in z)
        (set_new ws long s n id_fits fits32 known3 0 (let k = inside in omega arith) (let e = at in omega arith))

    new_good : GoodReceiver (ahead_as g.ahead g) ws2 st
    new_good =
        others_good g ws ws2 st g.ahead d others2
        (subst (λ (v : ℕ). Flags ws2 v g.ahead) (sym new2) (record {
          long = others2.long ∙ long;
          flags = λ u a b c. ap flag (word_put_table Header table.Ahead ws1 0 3 (t + 1) (u % 1024) 0 refl (omega arith) (omega arith) (omega arith) (omega arith)) ∙ ahead1 u ∙ d.flags.flags u a b c;
        }))
        (subst (λ (v : ℕ). v < 2 ^ 32) (sym new2) d.last_fits)
        (let e = new3 in let k = inside in omega arith)
        (λ u h. let e = new3 in
        subst (λ (v : Turn). v.next < 2 ^ width (kind_of (interleaved_of ws))) (sym (turn2 u (let k = inside in omega arith)))
        (next1 u (elim (compare_same t u) [ equal z ↦ inr z | other z ↦ inl (omega arith) ])))

    new_stands : stands (ahead_as g.ahead g) ws2 st ≡ with_turns (set_next s n (turn_rows ws 0 known3)) (stands g ws st)
    new_stands = others_stands g ws ws2 st g.ahead d others2 (word_at Header ws 0 2) (set_next s n (turn_rows ws 0 known3)) new2 (ap (turn_rows ws2 0) new3 ∙ new_rows)

  -- the stream's number is set
  pub record TurnSet (ws' : List ℕ) : Type 0 where
    pub good : GoodReceiver (ahead_as g.ahead g) ws' st
    pub is : stands (ahead_as g.ahead g) ws' st ≡ with_turns (set_next s n (turn_rows ws 0 (word_at Header ws 0 3))) (stands g ws st)

  at_or_below : (t < known3) ⊎ (t ≡ known3)
  at_or_below =
      ⊎_elim (λ a. inl (let e = at in let i = a.inside in omega arith)) (λ a. inr (let e = at in let i = a.at_end in omega arith)) (turn_finds ws s known3 0)

  pub sets_turn : TurnSet (set_turn ws t s n)
  sets_turn =
      ⊎_elim
      (λ l. subst TurnSet (sym (known_is l)) (record { good = known_good l; is = known_stands l }))
      (λ l. subst TurnSet (sym (new_is l)) (record { good = new_good l; is = new_stands l }))
      at_or_below

  -- and what was next is the model's
  pub next_is : next_of ws t ≡ next_in s (turn_rows ws 0 (word_at Header ws 0 3))
  unfolding next_of
  next_is =
      ⊎_elim
      (λ a. let e : t ≡ turn_from ws s 0 known3 = at in
      rw (lt-leb known3 t (let i = a.inside in omega arith)) (ap (λ (v : ℕ). (turn_at ws v).next) e ∙ sym a.next_is))
      (λ a. rw (le-leb known3 t (let e = at in let i = a.at_end in omega arith)) (sym a.from_zero))
      (turn_finds ws s known3 0)
