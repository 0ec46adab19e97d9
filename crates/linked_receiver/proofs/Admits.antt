-- Room for a fragment, and the whole judgement: a fragment that is refused or a repeat leaves words and store as they were, with the model's answer.
-- Assumes nothing.
use mathlib.Core.Path.{◌≡◌, refl, sym, ap, ap₂, ◌∙◌, subst}
use mathlib.Core.Logic.{⊎_elim}
use mathlib.Core.Bool.{Bool, true, false, not, ◌&&◌, ◌||◌}
use mathlib.Core.List.{List, [], ◌∷◌}
use mathlib.Core.Option.{none, some}
use Prim.Native.Nat.{ℕ, ◌+◌, ◌-◌, ◌^◌, ◌≤◌, ◌<◌}
use native.Mathlib.Omega.{arith}
use borrow.Author.Tests.{ltb-true, ltb-false, leb-false, lt-ltb, le-ltb, lt-leb, le-leb, eq-eqb, ne_eqb}
use lib.Dec.{eqb, ltb, leb}
use lib.ListN.{length}
use Rattle.queue_words.specs.Flags.{pick}
use Rattle.std.specs.Prelude.{if◌then◌else◌}
use Rattle.queue_model.specs.Refusals.{first_refusal}
use Rattle.receiver_model.specs.Lists.{count}
use Rattle.receiver_model.specs.Tsn.{is_far}
use Rattle.receiver_model.specs.Types.{Chunk, Receiver, refused, accepted, repeated, reply}
use Rattle.receiver_model.specs.Receive.{same_chunk, same_kind, knows}
use Rattle.receiver_model.specs.Receive as model
use Rattle.receiver_model.proofs.Lists.{Value, yes_is, no_is, value, count_nil, Same, equal, other, compare_same, at_least}
use Rattle.receiver_model.proofs.Window.{Window}
use Rattle.receiver_words.specs.Tables.{Header, word_at}
use Rattle.receiver_words.specs.Fragments.{fragment_at}
use Rattle.receiver_words.specs.Index.{same_key_words, find_row}
use Rattle.receiver_words.specs.Search.{turn_from, find_turn}
use Rattle.receiver_words.specs.Link.{Linked, turn_rows}
use Rattle.receiver_words.specs.Chunks.{kind_of, chunk_of}
use Rattle.receiver_words.specs.Ages.{older}
use Rattle.receiver_words.specs.declared.fragments.Fragment.{Fragment}
use Rattle.receiver_words.proofs.Finds.{turn_finds}
use Rattle.receiver_messages.specs.Keys.{interleaved_of}
use Rattle.receiver_store.specs.Words.{used_of}
use Rattle.receiver_store.specs.Putting.{room_code}
use Rattle.receiver_store.proofs.Packs.{used_in}
use Rattle.receiver_store.proofs.Laws.{room_law, room_full}
use Rattle.receiver_fragments.specs.Received.{Refused, Repeated}
use Rattle.receiver_fragments.specs.Checks.{last_of, held_code, repeats, admit_code}
use Rattle.receiver_fragments.specs.Receiving.{Outcome, received, receive_new, receive_fragment}
use Rattle.receiver_fragments.specs.Receiving as words
use Rattle.linked_receiver.specs.Good.{Ghost, GoodReceiver, chunk_in, stands}
use Rattle.linked_receiver.proofs.Walks.{KeyAmong, absent, present, key_among}
use Rattle.linked_receiver.proofs.HeldRows.{held_row, held_once, held_few, held_length, used_is}
use Rattle.linked_receiver.proofs.Compares.{kind_itself, code}
use Rattle.linked_receiver.proofs.Judges.{or_true, turns_length, find_tsn, held_code_lem, held_differs, held_repeats, new_differs, last_is, new_repeats}

-- ------------------------------------------------------------------ the model's clauses

module _ (c : Chunk) (r : Receiver) (n : ℕ) (store : eqb n r.store_length ≡ true) (kind : same_kind c.kind r.kind ≡ true) where
  early : (u : Bool) → model.differs c r ≡ u → model.receive n (some c) r ≡ model.refused_or (if u then some 24 else none) r (model.receive_chunk c r)
  unfolding model.receive first_refusal
  early u e = λ i. model.refused_or (if not (store i) then some 2 else (if not (kind i) then some 19 else (if e i then some 24 else none))) r (model.receive_chunk c r)

  step_differs : model.differs c r ≡ true → model.receive n (some c) r ≡ reply (refused 24) r
  unfolding model.refused_or
  step_differs e = early true e

  step_chunk : model.differs c r ≡ false → model.receive n (some c) r ≡ model.receive_chunk c r
  unfolding model.refused_or
  step_chunk e = early false e

module _ (c : Chunk) (r : Receiver) where
  step_repeats : model.repeats c r ≡ true → model.receive_chunk c r ≡ reply repeated r
  unfolding model.receive_chunk
  step_repeats e = λ i. if e i then reply repeated r else model.receive_new c r

  step_new : model.repeats c r ≡ false → model.receive_chunk c r ≡ model.receive_new c r
  unfolding model.receive_chunk
  step_new e = λ i. if e i then reply repeated r else model.receive_new c r

  late : (u v : Bool) → is_far c.tsn r.last_tsn ≡ u → model.no_room c r ≡ v
      → model.receive_new c r ≡ model.refused_or (if u then some 22 else (if v then some 23 else none)) r (reply accepted (model.accept c r))
  unfolding model.receive_new first_refusal
  late u v e h = λ i. model.refused_or (if e i then some 22 else (if h i then some 23 else none)) r (reply accepted (model.accept c r))

  step_far : is_far c.tsn r.last_tsn ≡ true → model.receive_new c r ≡ reply (refused 22) r
  unfolding model.refused_or
  step_far e = late true (model.no_room c r) e refl

  step_full : is_far c.tsn r.last_tsn ≡ false → model.no_room c r ≡ true → model.receive_new c r ≡ reply (refused 23) r
  unfolding model.refused_or
  step_full e h = late false true e h

  step_accepts : is_far c.tsn r.last_tsn ≡ false → model.no_room c r ≡ false → model.receive_new c r ≡ reply accepted (model.accept c r)
  unfolding model.refused_or
  step_accepts e h = late false false e h

module _ (g : Ghost) (ws st : List ℕ) (good : GoodReceiver g ws st) (f : Fragment) (bs : List ℕ) where
  abbrev r : Receiver
  r = stands g ws st

  abbrev c : Chunk
  c = chunk_of (kind_of (interleaved_of ws)) f bs

  -- ---------------------------------------------------------------- the stream

  abbrev s : ℕ
  s = f.stream.0

  abbrev known : ℕ
  known = word_at Header ws 0 3

  -- the row of the fragment's stream, the row after the known ones where there is none
  abbrev row : ℕ
  row = find_turn ws f.stream.0

  data ItsTurn : Type 0 where
    known_turn : row < known → knows s (turn_rows ws 0 known) ≡ true → ItsTurn
    new_turn : row ≡ known → knows s (turn_rows ws 0 known) ≡ false → ItsTurn

  pub row_is : row ≡ turn_from ws s 0 known
  unfolding find_turn
  row_is = rw (le-ltb 256 known good.known_fits)

  its_turn : ItsTurn
  its_turn =
      ⊎_elim
      (λ a. known_turn (let e = row_is in let i = a.inside in omega arith) a.known)
      (λ a. new_turn (let e = row_is in let i = a.at_end in omega arith) a.unknown)
      (turn_finds ws s known 0)

  -- ---------------------------------------------------------------- 23

  pub record Roomy : Type 0 where
    pub fits : used_of ws + length bs ≤ length st
    pub few : length g.held < 4096
    pub stream : find_turn ws f.stream.0 < 256

  pub data Room : Type 0 where
    full : model.no_room c r ≡ true → admit_code ws (length st) (length bs) row ≡ 23 → Room
    roomy : model.no_room c r ≡ false → admit_code ws (length st) (length bs) row ≡ 0 → Roomy → Room

  abbrev long : Bool
  long = ltb (length st - used_of ws) (length bs)

  abbrev many : Bool
  many = leb 4096 (word_at Header ws 0 4)

  abbrev strange : Bool
  strange = not (knows s (turn_rows ws 0 known)) && leb 256 known

  no_room_is : model.no_room c r ≡ (long || many) || strange
  unfolding model.no_room
  no_room_is =
      let p : word_at Header ws 0 1 ≡ length st = good.store_is in
      let q : model.used r ≡ used_of ws = used_is g ws st good in
      let h : length (model.held r) ≡ word_at Header ws 0 4 = held_length g ws st good ∙ sym good.held_is in
      let k : length (turn_rows ws 0 known) ≡ known = turns_length ws known 0 in
      λ i. (ltb (p i - q i) (length bs) || leb 4096 (h i)) || (not (knows s (turn_rows ws 0 known)) && leb 256 (k i))

  -- the clauses of the code's test
  admit_many : many ≡ true → admit_code ws (length st) (length bs) row ≡ 23
  unfolding admit_code
  admit_many e = rw e

  admit_strange : many ≡ false → row ≡ 256 → admit_code ws (length st) (length bs) row ≡ 23
  unfolding admit_code
  admit_strange e h = rw (e, h)

  admit_room : many ≡ false → row < 256 → admit_code ws (length st) (length bs) row ≡ room_code ws (length st) (length bs)
  unfolding admit_code
  admit_room e h = rw (e, le-ltb 256 row (omega arith), ne_eqb row 256 (λ q. omega arith))

  has_room : Room
  has_room = by_many (value many) its_turn
    where
      not_strange : ItsTurn → row < 256 → strange ≡ false
      not_strange (known_turn l k) h = rw k
      not_strange (new_turn e k) h = rw k (lt-leb 256 known (omega arith))

      by_long : many ≡ false → ItsTurn → row < 256 → Value long → Room
      by_long e t h (yes_is l) =
          full (no_room_is ∙ ap (λ (v : Bool). (v || many) || strange) l)
          (admit_room e h ∙ room_full ws st g.held good.laid good.aged (held_once g ws st good) (held_few g ws st good) (length bs) (let a = ltb-true (length st - used_of ws) (length bs) l in omega arith))
      by_long e t h (no_is l) =
          let fits : used_of ws + length bs ≤ length st = let a = ltb-false (length st - used_of ws) (length bs) l in let u = used_in ws st g.held good.laid good.aged (held_once g ws st good) (held_few g ws st good) in omega arith in
          roomy (no_room_is ∙ (λ i. (l i || e i) || not_strange t h i))
          (admit_room e h ∙ room_law ws st g.held good.laid good.aged (held_once g ws st good) (held_few g ws st good) (length bs) fits)
          (record { fits = fits; few = let a = leb-false 4096 (word_at Header ws 0 4) e in let b = good.held_is in omega arith; stream = h })

      by_row : many ≡ false → (t : ItsTurn) → Same row 256 → Room
      by_row e (known_turn l k) (equal q) = absurd (let a = good.known_fits in omega arith)
      by_row e (new_turn p k) (equal q) =
          full (no_room_is ∙ ap (λ (v : Bool). (long || many) || v) (ap₂ (λ (u v : Bool). not u && v) k (le-leb 256 known (omega arith))) ∙ or_true (long || many)) (admit_strange e q)
      by_row e (known_turn l k) (other q) = by_long e (known_turn l k) (let a = good.known_fits in omega arith) (value long)
      by_row e (new_turn p k) (other q) = by_long e (new_turn p k) (let a = good.known_fits in omega arith) (value long)

      by_many : Value many → ItsTurn → Room
      by_many (yes_is e) t = full (no_room_is ∙ ap (λ (v : Bool). (long || v) || strange) e ∙ ap (λ (v : Bool). v || strange) (or_true long)) (admit_many e)
      by_many (no_is e) t = by_row e t (compare_same row 256)

  -- ---------------------------------------------------------------- a free row

  pub record FreeRow : Type 0 where
    pub row : ℕ
    pub others : List ℕ
    pub free_is : g.free ≡ row ∷ others
    pub first_is : word_at Header ws 0 7 ≡ row
    pub inside : row < 4096

  free_row : length g.held < 4096 → FreeRow
  free_row few = go g.free refl
    where
      go : (xs : List ℕ) → g.free ≡ xs → FreeRow
      go [] e = absurd (
          let a = at_least 4096 (λ (p : ℕ). p) g.held (λ p q l h z. omega arith)
          (λ p h. let k = good.cover p h in let z : count p g.free ≡ 0 = ap (count p) e ∙ count_nil p in omega arith) in
          omega arith)
      go (i ∷ xs) e =
          let l : Linked (older ws) (word_at Header ws 0 7) (i ∷ xs) = subst (λ (ys : List ℕ). Linked (older ws) (word_at Header ws 0 7) ys) e good.freed in
          record { row = i; others = xs; free_is = e; first_is = l.0; inside = l.1 }

  -- ---------------------------------------------------------------- the judgement

  -- a fragment that is accepted: no row has its TSN, nor its place; it is near; there is room, and a free row
  pub record Admitted : Type 0 where
    pub no_tsn : (x : ℕ) → 0 < count x g.held → same_key_words 0 (fragment_at ws x) f ≡ false
    pub no_repeat : model.repeats c r ≡ false
    pub no_difference : model.differs c r ≡ false
    pub near : is_far f.tsn (word_at Header ws 0 2) ≡ false
    pub has_place : model.no_room c r ≡ false
    pub roomy : Roomy
    pub free : FreeRow

  -- what is answered and left, beside the model's step
  pub data Judged (o : Outcome) : Type 0 where
    refuses : (n : ℕ) → o ≡ received (Refused n) ws st → model.receive (length st) (some c) r ≡ reply (refused n) r → Judged o
    repeats_it : o ≡ received Repeated ws st → model.receive (length st) (some c) r ≡ reply repeated r → Judged o
    accepts : Admitted → o ≡ words.accepted (words.accept ws st (interleaved_of ws) f bs (word_at Header ws 0 7) (find_turn ws f.stream.0))
        → model.receive (length st) (some c) r ≡ reply accepted (model.accept c r) → Judged o

  abbrev outcome : Outcome
  outcome = receive_fragment ws st (interleaved_of ws) f bs

  -- the code's clauses
  code_held : (j n : ℕ) → find_row ws 0 f ≡ j → j < 4096 → held_code ws st j f bs ≡ n → outcome ≡ pick (ltb 0 n) (received (Refused n) ws st) (received Repeated ws st)
  unfolding receive_fragment
  code_held j n e h k = rw (e, lt-ltb j 4096 h, k) refl

  code_repeats : find_row ws 0 f ≡ 4096 → repeats ws (interleaved_of ws) (last_of ws) f ≡ true → outcome ≡ received Repeated ws st
  unfolding receive_fragment
  code_repeats e h = rw (e, h)

  code_new : find_row ws 0 f ≡ 4096 → repeats ws (interleaved_of ws) (last_of ws) f ≡ false → outcome ≡ receive_new ws st (interleaved_of ws) (last_of ws) f bs
  unfolding receive_fragment
  code_new e h = rw (e, h)

  new_far : is_far f.tsn (last_of ws) ≡ true → receive_new ws st (interleaved_of ws) (last_of ws) f bs ≡ received (Refused 22) ws st
  unfolding receive_new
  new_far e = rw e

  new_full : is_far f.tsn (last_of ws) ≡ false → admit_code ws (length st) (length bs) row ≡ 23 → receive_new ws st (interleaved_of ws) (last_of ws) f bs ≡ received (Refused 23) ws st
  unfolding receive_new
  new_full e h = rw (e, h)

  new_accepted : is_far f.tsn (last_of ws) ≡ false → admit_code ws (length st) (length bs) row ≡ 0 → word_at Header ws 0 7 < 4096
      → receive_new ws st (interleaved_of ws) (last_of ws) f bs ≡ words.accepted (words.accept ws st (interleaved_of ws) f bs (word_at Header ws 0 7) (find_turn ws f.stream.0))
  unfolding receive_new
  new_accepted e h k = rw (e, h, lt-leb 4096 (word_at Header ws 0 7) k)

  -- "checked as 2, 19, 24, repeats, 22, 23": "Repeats change nothing", and neither does what is refused
  pub judges : f.tsn < 2 ^ 32 → Window (stands g ws st) → Judged (receive_fragment ws st (interleaved_of ws) f bs)
  judges fits w = by_tsn (key_among ws 0 f g.held)
    where
      store : eqb (length st) (word_at Header ws 0 1) ≡ true
      store = eq-eqb (length st) (word_at Header ws 0 1) (sym good.store_is)

      kind : same_kind (kind_of (interleaved_of ws)) (kind_of (interleaved_of ws)) ≡ true
      kind = kind_itself (kind_of (interleaved_of ws))

      by_room : (free : (x : ℕ) → 0 < count x g.held → same_key_words 0 (fragment_at ws x) f ≡ false) → find_row ws 0 f ≡ 4096 → model.repeats c r ≡ false
          → is_far f.tsn (word_at Header ws 0 2) ≡ false → Room → Judged outcome
      by_room free q p e (full n a) =
          refuses 23 (code_new q (new_repeats g ws st good f bs free fits w ∙ p) ∙ new_full (ap (is_far f.tsn) (last_is g ws st good f bs free) ∙ e) a)
          (step_chunk c r (length st) store kind (new_differs g ws st good f bs free) ∙ step_new c r p ∙ step_full c r e n)
      by_room free q p e (roomy n a y) =
          let i = free_row y.few in
          accepts (record { no_tsn = free; no_repeat = p; no_difference = new_differs g ws st good f bs free; near = e; has_place = n; roomy = y; free = i })
          (code_new q (new_repeats g ws st good f bs free fits w ∙ p) ∙ new_accepted (ap (is_far f.tsn) (last_is g ws st good f bs free) ∙ e) a (let h = i.first_is in let k = i.inside in omega arith))
          (step_chunk c r (length st) store kind (new_differs g ws st good f bs free) ∙ step_new c r p ∙ step_accepts c r e n)

      by_far : (free : (x : ℕ) → 0 < count x g.held → same_key_words 0 (fragment_at ws x) f ≡ false) → find_row ws 0 f ≡ 4096 → model.repeats c r ≡ false
          → Value (is_far f.tsn (word_at Header ws 0 2)) → Judged outcome
      by_far free q p (yes_is e) =
          refuses 22 (code_new q (new_repeats g ws st good f bs free fits w ∙ p) ∙ new_far (ap (is_far f.tsn) (last_is g ws st good f bs free) ∙ e))
          (step_chunk c r (length st) store kind (new_differs g ws st good f bs free) ∙ step_new c r p ∙ step_far c r e)
      by_far free q p (no_is e) = by_room free q p e has_room

      by_repeat : (free : (x : ℕ) → 0 < count x g.held → same_key_words 0 (fragment_at ws x) f ≡ false) → find_row ws 0 f ≡ 4096 → Value (model.repeats c r) → Judged outcome
      by_repeat free q (yes_is e) =
          repeats_it (code_repeats q (new_repeats g ws st good f bs free fits w ∙ e)) (step_chunk c r (length st) store kind (new_differs g ws st good f bs free) ∙ step_repeats c r e)
      by_repeat free q (no_is e) = by_far free q e (value (is_far f.tsn (word_at Header ws 0 2)))

      by_same : (j : ℕ) → find_row ws 0 f ≡ j → (h : 0 < count j g.held) → (t : same_key_words 0 (fragment_at ws j) f ≡ true) → Value (same_chunk (chunk_in ws st j) c) → Judged outcome
      by_same j q h t (yes_is e) =
          repeats_it (code_held j 0 q (held_row g ws st good j h) (held_code_lem g ws st good f bs j h t ∙ ap code e))
          (step_chunk c r (length st) store kind (held_differs g ws st good f bs j h t ∙ ap not e) ∙ step_repeats c r (held_repeats g ws st good f bs j h t))
      by_same j q h t (no_is e) =
          refuses 24 (code_held j 24 q (held_row g ws st good j h) (held_code_lem g ws st good f bs j h t ∙ ap code e))
          (step_differs c r (length st) store kind (held_differs g ws st good f bs j h t ∙ ap not e))

      by_tsn : KeyAmong ws 0 f g.held → Judged outcome
      by_tsn (absent q n) = by_repeat n (find_tsn g ws st good f bs ∙ q) (value (model.repeats c r))
      by_tsn (present j q h t) = by_same j (find_tsn g ws st good f bs ∙ q) h t (value (same_chunk (chunk_in ws st j) c))
