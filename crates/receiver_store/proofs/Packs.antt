-- Moving together keeps every payload, and leaves room at the end; where the payloads are laid, a start is found. Assumes nothing.
use mathlib.Core.Path.{◌≡◌, refl, sym, ap, ◌∙◌, subst}
use mathlib.Core.Logic.{inl, inr}
use mathlib.Core.Bool.{true, false}
use mathlib.Core.List.{List, [], ◌∷◌}
use Prim.Native.Nat.{ℕ, zero, suc, ◌+◌, ◌≤◌, ◌<◌}
use native.Mathlib.Omega.{arith}
use borrow.Author.Tests.{le-leb, lt-leb, eq-eqb, ne_eqb}
use lib.ListN.{length, get_or}
use Rattle.payload_store.specs.Moving.{moved, Pack, pack}
use Rattle.payload_store.proofs.Moves.{moved_length, moved_other, moved_at, part_same}
use Rattle.queue_model.specs.Table.{sum_by}
use Rattle.receiver_model.specs.Lists.{count}
use Rattle.receiver_model.proofs.Lists.{count_here, count_there, count_cons, equal, other, compare_same}
use Rattle.receiver_words.specs.Tables.{Header, Links, word_at, put_word}
use Rattle.receiver_words.specs.Link.{Linked}
use Rattle.receiver_words.specs.Ages.{Both, Aged, older, newer, newest, oldest}
use Rattle.receiver_words.specs.Frames.{Frame}
use Rattle.receiver_words.proofs.Laws.{word_put_same, word_put_beside, word_put_other, word_put_table}
use Rattle.receiver_words.proofs.Linked.{linked_frame}
use Rattle.receiver_words.proofs.Messages.{linked_rows}
use Rattle.receiver_words.proofs.Rows.{head_once, tail_once, not_among}
use Rattle.receiver_words.proofs.Ages.{both_rows}
use Rattle.receiver_words.proofs.Frames.{frame_none, frame_both, frame_swap, frame_link, frame_header}
use Rattle.receiver_store.specs.Words.{place_of, size_of, used_of, end_of, payload_of}
use Rattle.receiver_store.specs.Packing.{misplaced, start, goal_of, start_from, start_of, pack_code, move_row, pack_from, packed}
use Rattle.receiver_store.specs.declared.packing.Start.{Start}
use Rattle.receiver_store.specs.Good.{Below, Laid}
use Rattle.receiver_store.specs.Promise.{Packed}
use Rattle.receiver_store.proofs.Lies.{in_lies}
use Rattle.receiver_store.proofs.Exits.{rows_kept, goal_above, goal_room}
use Rattle.receiver_store.proofs.Orders.{onto, count_onto, length_onto, sum_same, Rising, rising_low, rising_end, rising_in, rising_onto, below_sum, below_in, below_frame, rising_frame}
use Rattle.queue_words.proofs.Finds.{by_lt}

-- a row's payload is the same by its bytes
pub payload_same : (ws st ws' st' : List ℕ) (i : ℕ) → size_of ws' i ≡ size_of ws i → place_of ws i + size_of ws i ≤ length st → place_of ws' i + size_of ws i ≤ length st'
    → ((j : ℕ) → j < size_of ws i → get_or st' (place_of ws' i + j) 0 ≡ get_or st (place_of ws i + j) 0) → payload_of ws' st' i ≡ payload_of ws st i
unfolding payload_of
payload_same ws st ws' st' i e h h' f = rw e (part_same st st' (place_of ws i) (place_of ws' i) (size_of ws i) h h' f)

-- where its place and length are the same
pub payload_words : (ws ws' st : List ℕ) (i : ℕ) → place_of ws' i ≡ place_of ws i → size_of ws' i ≡ size_of ws i → payload_of ws' st i ≡ payload_of ws st i
unfolding payload_of
payload_words ws ws' st i p s = rw (p, s)

-- ------------------------------------------------------------------ one row

-- its payload lies at the cursor, which has passed it; no byte below the cursor or above the payload is changed
record Moved (s : Pack) (x : ℕ) (t : Pack) : Type 0 where
  frame : Frame s.words t.words 5 6 0 1
  same : length t.store ≡ length s.store
  cursor_is : t.cursor ≡ s.cursor + size_of s.words x
  here : place_of t.words x ≡ s.cursor
  others : (y : ℕ) → (x ≡ y → ⊥) → place_of t.words y ≡ place_of s.words y
  sizes : (y : ℕ) → y < 4096 → size_of t.words y ≡ size_of s.words y
  at : (j : ℕ) → j < size_of s.words x → get_or t.store (s.cursor + j) 0 ≡ get_or s.store (place_of s.words x + j) 0
  under : (j : ℕ) → j < s.cursor → get_or t.store j 0 ≡ get_or s.store j 0
  over : (j : ℕ) → place_of s.words x + size_of s.words x ≤ j → get_or t.store j 0 ≡ get_or s.store j 0

module _ (s : Pack) (x : ℕ) (long : length s.words ≡ 83472) (hx : x < 4096) (above : s.cursor ≤ place_of s.words x) (inside : place_of s.words x + size_of s.words x ≤ length s.store) where
  abbrev cur : ℕ
  cur = s.cursor

  abbrev p : ℕ
  p = place_of s.words x

  abbrev n : ℕ
  n = size_of s.words x

  lies : misplaced cur (length s.store) p n ≡ false
  lies = in_lies cur (length s.store) p n above inside

  stays : p ≡ cur → move_row s x ≡ pack s.words s.store (cur + n)
  unfolding move_row
  stays e = rw (lies, eq-eqb p cur e)

  goes : (p ≡ cur → ⊥) → move_row s x ≡ pack (put_word Links s.words x 0 cur) (moved s.store p cur n) (cur + n)
  unfolding move_row
  goes ne = rw (lies, ne_eqb p cur ne)

  row_moved : Moved s x (move_row s x)
  row_moved = elim (compare_same p cur) [
    | equal e ↦ subst (λ (t : Pack). Moved s x t) (sym (stays e)) (record {
      frame = frame_none s.words 5 6 0 1;
      same = refl;
      cursor_is = refl;
      here = e;
      others = λ y ne. refl;
      sizes = λ y hy. refl;
      at = λ j h. ap (λ (k : ℕ). get_or s.store (k + j) 0) (sym e);
      under = λ j h. refl;
      over = λ j h. refl;
    })
    | other ne ↦ subst (λ (t : Pack). Moved s x t) (sym (goes ne)) (record {
      frame = frame_link s.words x cur 5 6 0 1 hx (omega arith);
      same = moved_length s.store p cur n;
      cursor_is = refl;
      here = word_put_same Links s.words x 0 cur long hx (omega arith);
      others = λ y d. word_put_other Links s.words x 0 cur y 0 d (omega arith) (omega arith);
      sizes = λ y hy. (frame_link s.words x cur 5 6 0 0 hx (omega arith)).links y 1 hy (omega arith) (λ z. omega arith) (λ z. omega arith);
      at = λ j h. moved_at s.store p cur n j above inside h;
      under = λ j h. moved_other s.store p cur n j (inl h);
      over = λ j h. moved_other s.store p cur n j (inr (omega arith));
    })
  ]

-- ------------------------------------------------------------------ all rows of a chain, oldest first

record Packs (s : Pack) (zs : List ℕ) (t : Pack) : Type 0 where
  frame : Frame s.words t.words 5 6 0 1
  same : length t.store ≡ length s.store
  cursor_is : t.cursor ≡ s.cursor + sum_by (size_of s.words) zs
  rising : Rising t.words s.cursor zs t.cursor
  others : (y : ℕ) → count y zs ≡ 0 → place_of t.words y ≡ place_of s.words y
  sizes : (y : ℕ) → y < 4096 → size_of t.words y ≡ size_of s.words y
  under : (j : ℕ) → j < s.cursor → get_or t.store j 0 ≡ get_or s.store j 0
  payloads : (y : ℕ) → 0 < count y zs → payload_of t.words t.store y ≡ payload_of s.words s.store y

pack_stops : (n : ℕ) (s : Pack) (p : ℕ) → 4096 ≤ p → pack_from n s p ≡ s
unfolding pack_from
pack_stops zero s p h = refl
pack_stops (suc n) s p h = rw (le-leb 4096 p h)

pack_goes : (n : ℕ) (s : Pack) (p : ℕ) → p < 4096 → pack_from (suc n) s p ≡ pack_from n (move_row s p) (newer s.words p)
unfolding pack_from
pack_goes n s p h = rw (lt-leb 4096 p h)

-- a row, and then the others
module _ (s s₁ t : Pack) (x : ℕ) (zs : List ℕ) (e : ℕ) (hx : x < 4096) (rows : (y : ℕ) → 0 < count y zs → y < 4096) (new : count x zs ≡ 0) (r : Rising s.words (place_of s.words x + size_of s.words x) zs e)
    (above : s.cursor ≤ place_of s.words x) (inside : e ≤ length s.store) (m : Moved s x s₁) (q : Packs s₁ zs t) where
  place_t : place_of t.words x ≡ s.cursor
  place_t = q.others x new ∙ m.here

  size_t : size_of t.words x ≡ size_of s.words x
  size_t = q.sizes x hx ∙ m.sizes x hx

  ends_in : place_of s.words x + size_of s.words x ≤ e
  ends_in = rising_end s.words (place_of s.words x + size_of s.words x) zs e r

  -- of the row that is moved
  own : payload_of t.words t.store x ≡ payload_of s.words s.store x
  own = payload_same s.words s.store t.words t.store x size_t (omega (arith, ends_in, inside)) (omega (arith, place_t, above, ends_in, inside, q.same, m.same))
      (λ j h. ap (λ (k : ℕ). get_or t.store (k + j) 0) place_t ∙ q.under (s.cursor + j) (omega (arith, m.cursor_is, h)) ∙ m.at j h)

  -- of one that is moved later
  later : (y : ℕ) → 0 < count y zs → payload_of s₁.words s₁.store y ≡ payload_of s.words s.store y
  later y h =
      let pl : place_of s₁.words y ≡ place_of s.words y = m.others y (not_among x y zs new h) in
      let i = rising_in s.words (place_of s.words x + size_of s.words x) zs e y r h in
      payload_same s.words s.store s₁.words s₁.store y (m.sizes y (rows y h)) (omega (arith, i.1, inside)) (omega (arith, pl, i.1, inside, m.same))
      (λ j k. ap (λ (u : ℕ). get_or s₁.store (u + j) 0) pl ∙ m.over (place_of s.words y + j) (omega (arith, i.0)))

  joined : Packs s (x ∷ zs) t
  joined = record {
    frame = frame_both s.words s₁.words t.words 5 6 0 1 m.frame q.frame;
    same = q.same ∙ m.same;
    cursor_is = omega (arith, q.cursor_is, m.cursor_is, sum_same (size_of s.words) (size_of s₁.words) zs (λ y h. m.sizes y (rows y h)));
    rising = (
      omega (arith, place_t),
      subst (λ (k : ℕ). Rising t.words k zs t.cursor) (m.cursor_is ∙ sym (ap (λ (k : ℕ). k + size_of t.words x) place_t ∙ ap (λ (k : ℕ). s.cursor + k) size_t)) q.rising,
    );
    others = λ y z. let a : count y zs ≡ 0 = let c = count_cons y x zs in omega arith in
        q.others y a ∙ m.others y (λ i. let c = count_here y x zs i in omega arith);
    sizes = λ y h. q.sizes y h ∙ m.sizes y h;
    under = λ j h. q.under j (omega (arith, h, m.cursor_is)) ∙ m.under j h;
    payloads = λ y h. elim (compare_same x y) [
      | equal i ↦ subst (λ (k : ℕ). payload_of t.words t.store k ≡ payload_of s.words s.store k) i own
      | other ne ↦ (let c = count_there y x zs ne in q.payloads y (omega arith) ∙ later y (omega arith))
    ];
  }

packs : (zs : List ℕ) (n : ℕ) (s : Pack) (p e : ℕ) → length s.words ≡ 83472 → Linked (newer s.words) p zs → ((y : ℕ) → count y zs ≤ 1) → length zs ≤ n
    → Rising s.words s.cursor zs e → e ≤ length s.store → Packs s zs (pack_from n s p)
packs [] n s p e long c once short r inside = subst (λ (t : Pack). Packs s [] t) (sym (pack_stops n s p (omega (arith, c)))) (record {
  frame = frame_none s.words 5 6 0 1;
  same = refl;
  cursor_is = omega arith;
  rising = omega arith;
  others = λ y z. refl;
  sizes = λ y h. refl;
  under = λ j h. refl;
  payloads = λ y h. refl;
})
packs (x ∷ zs) zero s p e long c once short r inside = absurd (omega arith)
packs (x ∷ zs) (suc n) s p e long (ep, hx, c) once short (above, r) inside =
    let ends : place_of s.words x + size_of s.words x ≤ e = rising_end s.words (place_of s.words x + size_of s.words x) zs e r in
    let m : Moved s x (move_row s x) = row_moved s x long hx above (omega (arith, ends, inside)) in
    let new : count x zs ≡ 0 = head_once x zs once in
    let rows : (y : ℕ) → 0 < count y zs → y < 4096 = linked_rows (newer s.words) (newer s.words x) zs c in
    let q : Packs (move_row s x) zs (pack_from n (move_row s x) (newer s.words x)) =
    packs zs n (move_row s x) (newer s.words x) e (m.frame.long ∙ long)
    (linked_frame (newer s.words) (newer (move_row s x).words) (newer s.words x) zs (λ y h hy. m.frame.links y 4 hy (omega arith) (λ z. omega arith) (λ z. omega arith)) c)
    (tail_once x zs once) (omega arith)
    (rising_frame s.words (move_row s x).words (move_row s x).cursor zs e (λ y h. m.others y (not_among x y zs new h)) (λ y h. m.sizes y (rows y h))
    (rising_low s.words (place_of s.words x + size_of s.words x) (move_row s x).cursor zs e (omega (arith, m.cursor_is, above)) r))
    (omega (arith, inside, m.same)) in
    subst (λ (t : Pack). Packs s (x ∷ zs) t) (sym (ap (pack_from (suc n) s) ep ∙ pack_goes n s x hx))
    (joined s (move_row s x) (pack_from n (move_row s x) (newer s.words x)) x zs e hx rows new r above inside m q)

-- ------------------------------------------------------------------ where it begins

start_bottom : (n : ℕ) (ws : List ℕ) (goal p row high sum : ℕ) → 4096 ≤ p → sum ≤ goal → start_from (suc n) ws goal p row high sum ≡ start true row 0 sum
unfolding start_from
start_bottom n ws goal p row high sum h g = rw (le-leb 4096 p h, le-leb sum goal g)

module _ (n : ℕ) (ws : List ℕ) (goal x row high sum : ℕ) (hx : x < 4096) (inside : place_of ws x + size_of ws x ≤ high) where
  abbrev top : ℕ
  top = place_of ws x + size_of ws x

  lies_below : misplaced 0 high (place_of ws x) (size_of ws x) ≡ false
  lies_below = in_lies 0 high (place_of ws x) (size_of ws x) (omega arith) inside

  start_stops : top + sum ≤ goal → start_from (suc n) ws goal x row high sum ≡ start true row top (top + sum)
  unfolding start_from
  start_stops g = rw (lt-leb 4096 x hx, lies_below, le-leb (top + sum) goal g)

  start_goes : goal < top + sum → start_from (suc n) ws goal x row high sum ≡ start_from n ws goal (older ws x) x (place_of ws x) (sum + size_of ws x)
  unfolding start_from
  start_goes g = rw (lt-leb 4096 x hx, lies_below, lt-leb (top + sum) goal g)

-- it is found: the rows `moving`, oldest first, rise from the cursor on; the rows `staying`, newest first, lie below it; together they are the held rows
record Begins (ws held : List ℕ) (goal e : ℕ) (s : Start) : Type 0 where
  moving : List ℕ
  staying : List ℕ
  found : s.found ≡ true
  split : onto moving staying ≡ held
  chain : Linked (newer ws) s.row moving
  climbs : Rising ws s.cursor moving e
  under : Below ws s.cursor staying
  end_is : s.end ≡ s.cursor + sum_by (size_of ws) moving
  low : s.end ≤ goal

module _ (ws held : List ℕ) (goal e : ℕ) where
  begins : (n : ℕ) (xs zs : List ℕ) (p row high sum last : ℕ) → Both (older ws) (newer ws) row p last xs → Linked (newer ws) row zs → Below ws high xs → Rising ws high zs e
      → sum ≡ sum_by (size_of ws) zs → onto zs xs ≡ held → sum_by (size_of ws) xs + sum ≤ goal → length xs < n → Begins ws held goal e (start_from n ws goal p row high sum)
  begins zero xs zs p row high sum last c k b r es eh g short = absurd (omega arith)
  begins (suc n) [] zs p row high sum last c k b r es eh g short =
      subst (λ (s : Start). Begins ws held goal e s) (sym (start_bottom n ws goal p row high sum (omega (arith, c.0)) (omega arith))) (record {
        moving = zs;
        staying = [];
        found = refl;
        split = eh;
        chain = k;
        climbs = rising_low ws high 0 zs e (omega arith) r;
        under = tt;
        end_is = omega arith;
        low = omega arith;
      })
  begins (suc n) (x ∷ xs) zs p row high sum last (ep, hx, up, c) k (a, b) r es eh g short =
      ap_p
      (by_lt goal (place_of ws x + size_of ws x + sum)
      (λ f. subst (λ (s : Start). Begins ws held goal e s) (sym (start_goes n ws goal x row high sum hx a f))
      (begins n xs (x ∷ zs) (older ws x) x (place_of ws x) (sum + size_of ws x) last c (refl, hx, subst (λ (q : ℕ). Linked (newer ws) q zs) (sym up) k) b
      (omega arith, rising_low ws high (place_of ws x + size_of ws x) zs e a r) (omega arith) eh (omega arith) (omega arith)))
      (λ f. subst (λ (s : Start). Begins ws held goal e s) (sym (start_stops n ws goal x row high sum hx a f)) (record {
        moving = zs;
        staying = x ∷ xs;
        found = refl;
        split = eh;
        chain = k;
        climbs = rising_low ws high (place_of ws x + size_of ws x) zs e a r;
        under = (omega arith, b);
        end_is = omega arith;
        low = f;
      })))
    where
      ap_p : Begins ws held goal e (start_from (suc n) ws goal x row high sum) → Begins ws held goal e (start_from (suc n) ws goal p row high sum)
      ap_p h = subst (λ (q : ℕ). Begins ws held goal e (start_from (suc n) ws goal q row high sum)) (sym ep) h

-- ------------------------------------------------------------------ where the payloads are laid

module _ (ws st held : List ℕ) (l : Laid ws st held) (aged : Aged ws held) (once : (y : ℕ) → count y held ≤ 1) (short : length held ≤ 4096) where
  pub used_in : used_of ws ≤ length st
  used_in = let a = below_sum ws (end_of ws) held l.below in omega (arith, a, l.used_is, l.end_in)

  module _ (n : ℕ) (fits : used_of ws + n ≤ length st) where
    abbrev goal : ℕ
    goal = goal_of (used_of ws) (length st) n

    abbrev b : Start
    b = start_of ws (length st) n

    started : Begins ws held goal (end_of ws) b
    unfolding start_of
    started =
        begins ws held goal (end_of ws) 4097 held [] (newest ws) 4096 (end_of ws) 0 (oldest ws) aged refl l.below (omega arith) refl refl
        (omega (arith, l.used_is, goal_above (used_of ws) (length st) n)) (omega arith)

    abbrev zs : List ℕ
    zs = started.moving

    abbrev xs : List ℕ
    xs = started.staying

    abbrev t : Pack
    t = pack_from 4096 (pack ws st b.cursor) b.row

    counted : (y : ℕ) → count y zs + count y xs ≡ count y held
    counted y = sym (count_onto y zs xs) ∙ ap (count y) started.split

    row : (x : ℕ) → 0 < count x held → x < 4096
    row x h = both_rows (older ws) (newer ws) (oldest ws) 4096 (newest ws) held aged x h

    few : length zs ≤ 4096
    few = let a = length_onto zs xs in let e = ap length started.split in omega (arith, a, e, short)

    walked : Packs (pack ws st b.cursor) zs t
    walked = packs zs 4096 (pack ws st b.cursor) b.row (end_of ws) l.long started.chain (λ y. let a = counted y in let o = once y in omega arith) few started.climbs l.end_in

    abbrev ws' : List ℕ
    ws' = put_word Header t.words 0 6 b.end

    -- the last store changes no link and no other word of the header
    last_frame : Frame t.words ws' 5 6 0 1
    last_frame = frame_swap t.words ws' 6 5 1 0 (frame_header t.words b.end 6 5 1 0 (omega arith))

    link_same : (x k : ℕ) → x < 4096 → k < 8 → word_at Links ws' x k ≡ word_at Links t.words x k
    link_same x k hx hk = word_put_table Header Links t.words 0 6 b.end x k refl (omega arith) hx (omega arith) hk

    end_is : end_of ws' ≡ b.end
    end_is = word_put_same Header t.words 0 6 b.end (walked.frame.long ∙ l.long) (omega arith) (omega arith)

    used_same : used_of ws' ≡ used_of ws
    used_same = word_put_beside Header t.words 0 6 b.end 5 (λ z. omega arith) ∙ (rows_kept 4096 (pack ws st b.cursor) b.row).header 5 (omega arith)

    room : b.end + n ≤ length st
    room = omega (arith, started.low, goal_room (used_of ws) (length st) n fits)

    -- a row that stays is none of those that move
    apart : (x : ℕ) → 0 < count x xs → count x zs ≡ 0
    apart x h = let a = counted x in let o = once x in omega arith

    stays_row : (x : ℕ) → 0 < count x xs → x < 4096
    stays_row x h = row x (let a = counted x in omega arith)

    down : Below t.words b.end held
    down = subst (λ (ys : List ℕ). Below t.words b.end ys) started.split
        (subst (λ (e : ℕ). Below t.words e (onto zs xs)) (walked.cursor_is ∙ sym started.end_is)
        (rising_onto t.words b.cursor t.cursor zs xs walked.rising
        (below_frame ws t.words b.cursor xs (λ x h. walked.others x (apart x h)) (λ x h. walked.sizes x (stays_row x h)) started.under)))

    -- a row that stays has its payload
    stayed : (x : ℕ) → 0 < count x xs → payload_of t.words t.store x ≡ payload_of ws st x
    stayed x h =
        let p : place_of t.words x ≡ place_of ws x = walked.others x (apart x h) in
        let i : place_of ws x + size_of ws x ≤ b.cursor = below_in ws b.cursor xs x started.under h in
        let c : b.cursor ≤ end_of ws = rising_end ws b.cursor zs (end_of ws) started.climbs in
        payload_same ws st t.words t.store x (walked.sizes x (stays_row x h)) (omega (arith, i, c, l.end_in)) (omega (arith, p, i, c, l.end_in, walked.same))
        (λ j k. ap (λ (u : ℕ). get_or t.store (u + j) 0) p ∙ walked.under (place_of ws x + j) (omega (arith, i, k)))

    kept : (x : ℕ) → 0 < count x held → payload_of t.words t.store x ≡ payload_of ws st x
    kept x h = by_lt 0 (count x zs) (λ m. walked.payloads x m) (λ m. stayed x (let a = counted x in omega arith))

    pub packed_law : Packed ws st held n (packed ws st n)
    unfolding packed
    packed_law = record {
      accepted = refl;
      laid = record {
        long = last_frame.long ∙ walked.frame.long ∙ l.long;
        end_in = omega (arith, end_is, room, walked.same);
        below = subst (λ (e : ℕ). Below ws' e held) (sym end_is)
            (below_frame t.words ws' b.end held (λ x h. link_same x 0 (row x h) (omega arith)) (λ x h. link_same x 1 (row x h) (omega arith)) down);
        used_is = used_same ∙ l.used_is ∙ sym (sum_same (size_of ws) (size_of ws') held (λ x h. link_same x 1 (row x h) (omega arith) ∙ walked.sizes x (row x h)));
      };
      half = omega (arith, end_is, started.low);
      roomy = omega (arith, end_is, room);
      used = used_same;
      same = walked.same;
      sizes = λ x hx. link_same x 1 hx (omega arith) ∙ walked.sizes x hx;
      payloads = λ x h. payload_words t.words ws' t.store x (link_same x 0 (row x h) (omega arith)) (link_same x 1 (row x h) (omega arith)) ∙ kept x h;
      frame = frame_both ws t.words ws' 5 6 0 1 walked.frame last_frame;
    }

    -- the test of moving together passes
    pub pack_code_zero : pack_code ws (length st) n ≡ 0
    unfolding pack_code
    pack_code_zero = rw started.found
