-- The message that a row makes whole is the model's: `completes` finds what `whole_among` finds among the loose fragments. Assumes nothing.
use mathlib.Core.Path.{◌≡◌, refl, sym, ap, ◌∙◌, subst}
use mathlib.Core.Logic.{inl, inr}
use mathlib.Core.Bool.{Bool, true, false}
use mathlib.Core.List.{List, [], ◌∷◌, map}
use mathlib.Core.Option.{Option, none, some}
use Prim.Native.Nat.{ℕ, suc, ◌+◌, ◌-◌, ◌≤◌, ◌<◌}
use native.Mathlib.Omega.{arith}
use lib.ListN.{length}
use borrow.Author.Tests.{eq-eqb}
use Rattle.queue_words.specs.Flags.{bit}
use Rattle.queue_model.proofs.Tests.{less, same, more, tri}
use Rattle.receiver_model.specs.Lists.{member, count}
use Rattle.receiver_model.specs.Types.{Kind, Chunk, Assembled, fragments}
use Rattle.receiver_model.specs.Assembly.{max_held, begins, gather, assembled, whole_from, whole_among}
use Rattle.receiver_model.proofs.Lists.{true≢false, Value, yes_is, no_is, value, count_nil, count_here, count_there, count_cons, equal, other, compare_same, From, member_from, none≢some, some_is}
use Rattle.receiver_model.proofs.Gather.{Closed, assembled_some, from_yes, from_no, among_nil, among_here, among_there, OrNone, is_none, is_some, or_none}
use Rattle.receiver_model.proofs.Settled.{In, Distinct, own_message, assembled_is}
use Rattle.receiver_words.specs.Fragments.{fragment_at}
use Rattle.receiver_words.specs.Index.{same_key_words}
use Rattle.receiver_words.specs.Chunks.{kind_of}
use Rattle.receiver_messages.specs.Walks.{begins_with, reaches_last, first_row, completes}
use Rattle.linked_receiver.specs.Rows.{Indexed, Unique, chunk_at, loose_rows, tail_rows}
use Rattle.linked_receiver.proofs.Walks.{Gathered, reached, broken, gathers, loose_held}
use Rattle.linked_receiver.proofs.Paths.{at, Path, path_loose, Ends, reach_ends, ends_reach, path_within, path_drop, path_join, at_add, Stepped, tail_steps, reaches, back_first, begins_bare, Origin, FirstRow, no_first, a_first, first_row_lem}

-- ------------------------------------------------------------------ the model's search

-- the message found begins with one of the fragments, and the others are gathered from there
pub record FoundFrom (k : Kind) (cs bs : List Chunk) (a : Assembled) : Type 0 where
  pub starts : In a.head bs
  pub begins_it : begins k a.head ≡ true
  pub gathered : gather max_held k cs a.head ≡ some a.tail

pub among_gather : (k : Kind) (cs bs : List Chunk) (a : Assembled) → whole_among k cs bs ≡ some a → FoundFrom k cs bs a
among_gather k cs [] a e = absurd (none≢some (among_nil k cs) e)
among_gather k cs (b ∷ bs) a e = go (or_none (whole_from k cs b)) (λ f. among_gather k cs bs a f)
  where
    later : FoundFrom k cs bs a → FoundFrom k cs (b ∷ bs) a
    later w = record { starts = inr w.starts; begins_it = w.begins_it; gathered = w.gathered }

    closed : begins k b ≡ true → Closed b (gather max_held k cs b) a → FoundFrom k cs (b ∷ bs) a
    closed f c = subst (FoundFrom k cs (b ∷ bs)) (sym c.is) (record { starts = inl refl; begins_it = f; gathered = c.found })

    here : whole_from k cs b ≡ some a → Value (begins k b) → FoundFrom k cs (b ∷ bs) a
    here f (no_is g) = absurd (none≢some (from_no k cs b g) f)
    here f (yes_is g) = closed g (assembled_some b (gather max_held k cs b) a (sym (from_yes k cs b g) ∙ f))

    go : OrNone (whole_from k cs b) → (whole_among k cs bs ≡ some a → FoundFrom k cs bs a) → FoundFrom k cs (b ∷ bs) a
    go (is_none f) ih = later (ih (sym (among_there k cs b bs f) ∙ e))
    go (is_some x f) ih = here (f ∙ ap {B = Option Assembled} some (some_is (sym (among_here k cs b bs x f) ∙ e))) (value (begins k b))

-- where one begins and the others are gathered, one is found
pub gather_among : (k : Kind) (cs bs : List Chunk) (b : Chunk) (ds : List Chunk) → In b bs → begins k b ≡ true → gather max_held k cs b ≡ some ds → whole_among k cs bs ≡ none → ⊥
gather_among k cs [] b ds i f g e = i
gather_among k cs (x ∷ bs) b ds i f g e = go i (or_none (whole_from k cs x)) (λ j h. gather_among k cs bs b ds j f g h)
  where
    is_whole : whole_from k cs b ≡ some (record { head = b; tail = ds })
    is_whole = from_yes k cs b f ∙ ap (assembled b) g ∙ assembled_is b ds

    go : In b (x ∷ bs) → OrNone (whole_from k cs x) → (In b bs → whole_among k cs bs ≡ none → ⊥) → ⊥
    go j (is_some a h) ih = none≢some e (among_here k cs x bs a h)
    go (inl q) (is_none h) ih = none≢some (ap (whole_from k cs) q ∙ h) is_whole
    go (inr j) (is_none h) ih = ih j (sym (among_there k cs x bs h) ∙ e)

-- ------------------------------------------------------------------ fragments of rows

pub record RowOf (f : ℕ → Chunk) (c : Chunk) (xs : List ℕ) : Type 0 where
  pub row : ℕ
  pub is : c ≡ f row
  pub within : 0 < count row xs

pub in_map : (f : ℕ → Chunk) (c : Chunk) (xs : List ℕ) → In c (map f xs) → RowOf f c xs
in_map f c [] i = absurd i
in_map f c (x ∷ xs) (inl g) = record { row = x; is = g; within = let h = count_here x x xs refl in omega arith }
in_map f c (x ∷ xs) (inr j) = later (in_map f c xs j)
  where
    later : RowOf f c xs → RowOf f c (x ∷ xs)
    later r = let h = count_cons r.row x xs in let w = r.within in record { row = r.row; is = r.is; within = omega arith }

pub map_in : (f : ℕ → Chunk) (x : ℕ) (xs : List ℕ) → 0 < count x xs → In (f x) (map f xs)
map_in f x [] h = absurd (let z = count_nil x in omega arith)
map_in f x (y ∷ ys) h = elim (compare_same y x) [
  | equal e ↦ inl (ap f (sym e))
  | other d ↦ (let c = count_there x y ys d in inr (map_in f x ys (omega arith)))
]

pub tsns_map : (f : ℕ → Chunk) (xs : List ℕ) → map (λ (d : Chunk). d.tsn) (map f xs) ≡ map (λ (x : ℕ). (f x).tsn) xs
tsns_map f [] = refl
tsns_map f (x ∷ xs) = ap (◌∷◌ (f x).tsn) (tsns_map f xs)

-- ------------------------------------------------------------------ completes

module _ (ws : List ℕ) (b : Bool) (i : ℕ) where
  complete_not : reaches_last 4096 ws b i ≡ false → completes ws b i ≡ 4096
  unfolding completes
  complete_not e = rw e

  complete_is : reaches_last 4096 ws b i ≡ true → completes ws b i ≡ first_row 4096 ws b i
  unfolding completes
  complete_is e = rw e

module _ (ws : List ℕ) (b : Bool) (payload : ℕ → List ℕ) (held : List ℕ) (rows : (x : ℕ) → 0 < count x held → x < 4096) (ix : Indexed ws (bit b) held) (few : length held ≤ 4096) (one : Unique ws (bit b) held)
    (tsn_once : Unique ws 0 held) (i : ℕ) (rest : List ℕ) (newest : loose_rows ws held ≡ i ∷ rest) where
  abbrev chunk : ℕ → Chunk
  chunk x = chunk_at ws b payload x

  abbrev loose : List Chunk
  loose = map chunk (loose_rows ws held)

  abbrev Loose : ℕ → Type 0
  Loose x = 0 < count x (loose_rows ws held)

  -- the message that begins with row h
  abbrev pub whole_from_row : ℕ → Assembled
  whole_from_row h = record { head = chunk h; tail = map chunk (tail_rows 4096 ws b h) }

  -- `completes` finds the first row of the message that the model finds, or none where it finds none
  pub data Completion : Type 0 where
    none_whole : completes ws b i ≡ 4096 → whole_among (kind_of b) loose loose ≡ none → Completion
    one_whole : (h : ℕ) → completes ws b i ≡ h → h < 4096 → Loose h → begins_with b (fragment_at ws h) ≡ true → reaches_last 4096 ws b h ≡ true
        → whole_among (kind_of b) loose loose ≡ some (whole_from_row h) → Completion

  loose_row : (x : ℕ) → Loose x → x < 4096
  loose_row x c = rows x (loose_held ws held x c).0

  i_loose : Loose i
  i_loose = let h = count_here i i rest refl in let e : count i (loose_rows ws held) ≡ count i (i ∷ rest) = ap (count i) newest in omega arith

  -- rows of one TSN are one row
  same_row : (x y : ℕ) → Loose x → Loose y → (fragment_at ws x).tsn ≡ (fragment_at ws y).tsn → x ≡ y
  unfolding same_key_words
  same_row x y c d e = tsn_once (fragment_at ws y) x y (loose_held ws held x c).0 (loose_held ws held y d).0 (eq-eqb (fragment_at ws x).tsn (fragment_at ws y).tsn e) (eq-eqb (fragment_at ws y).tsn (fragment_at ws y).tsn refl)

  -- where the model finds none
  module _ (e : whole_among (kind_of b) loose loose ≡ none) where
    reached_not : (h : ℕ) → Loose h → begins_with b (fragment_at ws h) ≡ true → reaches_last 4096 ws b h ≡ true → ⊥
    reached_not h c f r = go (gathers ws b payload held rows ix few one 4096 h)
      where
        go : Gathered ws b payload held rows ix few one 4096 h → ⊥
        go (reached q g) = gather_among (kind_of b) loose loose (chunk h) _ (map_in chunk h (loose_rows ws held) c) (begins_bare b (fragment_at ws h) (payload h) ∙ f) g e
        go (broken q g) = true≢false r q

    no_origin : (h : ℕ) → Origin ws b payload held rows ix few one 4096 i h → reaches_last 4096 ws b i ≡ true → ⊥
    no_origin h o r = let t = reach_ends ws b 4096 i r in joined t
      where
        joined : Ends ws b 4096 i → ⊥
        joined t =
            let k = t.below in
            let m = o.below in
            reached_not h o.loose o.starts
            (reaches ws b payload held rows ix few one 8192 h o.loose (omega arith) (record {
              steps = o.steps + t.steps;
              below = omega arith;
              path = path_join ws b (o.steps + t.steps) o.steps t.steps h refl o.path (subst (λ (x : ℕ). Path ws b t.steps x) (sym o.is) t.path);
              marked = subst (λ (x : ℕ). (fragment_at ws x).last ≡ true) (ap (at ws b t.steps) (sym o.is) ∙ at_add ws b (o.steps + t.steps) o.steps t.steps h refl) t.marked;
            }))

    not_found : completes ws b i ≡ 4096
    not_found = go (value (reaches_last 4096 ws b i)) (first_row_lem ws b payload held rows ix few one 4096 i i_loose)
      where
        go : Value (reaches_last 4096 ws b i) → FirstRow ws b payload held rows ix few one 4096 i → completes ws b i ≡ 4096
        go (no_is r) f = complete_not ws b i r
        go (yes_is r) (no_first f) = complete_is ws b i r ∙ f
        go (yes_is r) (a_first h f o) = absurd (no_origin h o r)

  -- where it finds one
  module _ (distinct : Distinct (kind_of b) (chunk i ∷ map chunk rest)) (none_yet : whole_among (kind_of b) (map chunk rest) (map chunk rest) ≡ none) where
    module _ (a : Assembled) (e : whole_among (kind_of b) loose loose ≡ some a) where
      own : member (fragment_at ws i).tsn (map (λ (d : Chunk). d.tsn) (fragments a)) ≡ true
      own = own_message (kind_of b) (chunk i) (map chunk rest) distinct none_yet a (subst (λ (cs : List Chunk). whole_among (kind_of b) cs cs ≡ some a) (ap (map chunk) newest) e)

      -- row i is one of its rows
      stepped : (h : ℕ) → Loose h → a ≡ whole_from_row h → Stepped ws b h i
      stepped h c q = go (member_from (λ (x : ℕ). (fragment_at ws x).tsn) (fragment_at ws i).tsn (h ∷ tail_rows 4096 ws b h) found)
        where
          found : member (fragment_at ws i).tsn (map (λ (x : ℕ). (fragment_at ws x).tsn) (h ∷ tail_rows 4096 ws b h)) ≡ true
          found =
              sym (ap (member (fragment_at ws i).tsn) (ap (λ (m : Assembled). map (λ (d : Chunk). d.tsn) (fragments m)) q ∙ tsns_map chunk (h ∷ tail_rows 4096 ws b h)))
              ∙ own

          at_row : (y : ℕ) → Stepped ws b h y → (fragment_at ws y).tsn ≡ (fragment_at ws i).tsn → Stepped ws b h i
          at_row y s t =
              let z : y ≡ i = same_row y i (subst (λ (x : ℕ). Loose x) s.is (path_loose ws b payload held rows ix few one s.steps h c s.path)) i_loose t in
              record { steps = s.steps; path = s.path; is = s.is ∙ z }

          go : From (λ (x : ℕ). (fragment_at ws x).tsn) (fragment_at ws i).tsn (h ∷ tail_rows 4096 ws b h) → Stepped ws b h i
          go m = elim (compare_same h m.element) [
            | equal s ↦ at_row m.element (record { steps = 0; path = tt; is = s }) m.image
            | other d ↦ (let w = m.within in let k = count_there m.element h (tail_rows 4096 ws b h) d in let t = tail_steps ws b 4096 h m.element (omega arith) in at_row m.element (record { steps = suc t.steps; path = t.path; is = t.is }) m.image)
          ]

      found_at : (h : ℕ) → Loose h → begins_with b (fragment_at ws h) ≡ true → reaches_last 4096 ws b h ≡ true → a ≡ whole_from_row h → Completion
      found_at h c f r q = go (stepped h c q) (reach_ends ws b 4096 h r)
        where
          go : Stepped ws b h i → Ends ws b 4096 h → Completion
          go s t =
              let k = t.below in
              let short : s.steps ≤ t.steps = not_past s.steps t.steps (λ l. true≢false t.marked (path_within ws b s.steps t.steps h l s.path)) in
              let rest_is : t.steps ≡ s.steps + (t.steps - s.steps) = omega arith in
              let on : reaches_last 4096 ws b i ≡ true =
              ends_reach ws b (t.steps - s.steps) 4096 i (omega arith)
              (subst (λ (x : ℕ). Path ws b (t.steps - s.steps) x) s.is (path_drop ws b t.steps s.steps (t.steps - s.steps) h rest_is t.path))
              (subst (λ (x : ℕ). (fragment_at ws x).last ≡ true) (sym (at_add ws b t.steps s.steps (t.steps - s.steps) h rest_is) ∙ ap (at ws b (t.steps - s.steps)) s.is) t.marked) in
              one_whole h
              (complete_is ws b i on ∙ ap (first_row 4096 ws b) (sym s.is) ∙ back_first ws b payload held rows ix few one s.steps 4096 h c f s.path (omega arith) (omega arith))
              (loose_row h c) c f r (e ∙ ap {B = Option Assembled} some q)
            where
              not_past : (p q : ℕ) → (q < p → ⊥) → p ≤ q
              not_past p q n = elim (tri p q) [ less l ↦ omega arith | same g ↦ omega arith | more l ↦ absurd (n l) ]

      some_found : FoundFrom (kind_of b) loose loose a → Completion
      some_found w = at_row (in_map chunk a.head (loose_rows ws held) w.starts)
        where
          at_row : RowOf chunk a.head (loose_rows ws held) → Completion
          at_row t = go (gathers ws b payload held rows ix few one 4096 t.row)
            where
              from : gather 4096 (kind_of b) loose (chunk t.row) ≡ some a.tail
              from = subst (λ (c : Chunk). gather 4096 (kind_of b) loose c ≡ some a.tail) t.is w.gathered

              starts : begins_with b (fragment_at ws t.row) ≡ true
              starts = sym (begins_bare b (fragment_at ws t.row) (payload t.row)) ∙ ap (begins (kind_of b)) (sym t.is) ∙ w.begins_it

              go : Gathered ws b payload held rows ix few one 4096 t.row → Completion
              go (reached q g) = found_at t.row t.within starts q (λ p. record { head = t.is p; tail = some_is (sym from ∙ g) p })
              go (broken q g) = absurd (none≢some g from)

    -- THE THEOREM of completing
    pub completes_law : Completion
    completes_law = go (or_none (whole_among (kind_of b) loose loose))
      where
        go : OrNone (whole_among (kind_of b) loose loose) → Completion
        go (is_none e) = none_whole (not_found e) e
        go (is_some a e) = some_found a e (among_gather (kind_of b) loose loose a e)
