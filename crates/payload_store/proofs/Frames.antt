-- What putting and dropping leave alone, on any words; and that a refused call changes nothing. Assumes nothing.
use mathlib.Core.Path.{◌≡◌, refl, ap, ◌∙◌}
use mathlib.Core.Bool.{Bool, true, false}
use mathlib.Core.List.{List}
use Prim.Native.Nat.{ℕ, zero, suc, ◌+◌, ◌-◌, ◌<◌}
use borrow.Author.Tests.{leb-false, eqb-true}
use lib.Dec.{leb, eqb}
use lib.ListN.{length}
use Rattle.queue_words.specs.Flags.{pick}
use Rattle.queue_words.specs.Header.{totals_at}
use Rattle.queue_words.specs.Items.{item_at, put_place, put_length, with_place, with_length}
use Rattle.queue_words.specs.declared.items.Item.{Item}
use Rattle.queue_words.specs.declared.header.Gaps.{Gaps}
use Rattle.queue_words.specs.declared.header.Totals.{Totals}
use Rattle.queue_words.proofs.Laws.{leasts_put_place, leasts_put_length, leasts_put_totals, item_put_place, item_put_place_other, options_put_place, scheduler_put_place, known_put_place, stream_put_place, active_put_place, item_put_length, item_put_length_other, totals_put_length, options_put_length, scheduler_put_length, known_put_length, stream_put_length, active_put_length, options_put_totals, scheduler_put_totals, known_put_totals, stream_put_totals, active_put_totals}
use Rattle.payload_store.specs.Words.{used_of, gaps_of, place_of, size_of, with_bytes, put_bytes}
use Rattle.payload_store.specs.Gaps.{gaps, room, gap_for, gaps_left}
use Rattle.payload_store.specs.Searching.{lies, found}
use Rattle.payload_store.specs.Moving.{Pack, pack, least, moved, turn_at, turn, turns, together}
use Rattle.payload_store.specs.Putting.{Outcome, outcome, placed, put_code, put_elsewhere, put_payload}
use Rattle.payload_store.specs.Dropping.{drop_code_words, gaps_then, dropped, drop_payload}
use Rattle.payload_store.specs.Promise.{Frame}
use Rattle.payload_store.proofs.Cases.{by_index}
use Rattle.payload_store.proofs.Laws.{place_length, place_totals, size_length, bytes_length, bytes_item, bytes_totals}
use Rattle.payload_store.proofs.Tests.{put_zero, ok_before}
use Rattle.payload_store.proofs.Drops.{drop_held}

pub frame_none : (ws : List ℕ) → Frame ws ws
frame_none ws = record {
  long = refl;
  items = λ j. refl;
  totals = refl;
  options = refl;
  scheduler = refl;
  known = λ j h. refl;
  streams = λ j h. refl;
  active = λ j. refl;
  leasts = refl;
}

pub frame_both : (a b c : List ℕ) → Frame a b → Frame b c → Frame a c
frame_both a b c f g = record {
  long = g.long ∙ f.long;
  items = λ j. g.items j ∙ ap (λ (m : Item). with_length (with_place m (place_of c j)) (size_of c j)) (f.items j);
  totals = g.totals ∙ ap (λ (t : Totals). with_bytes t (used_of c) (gaps_of c)) f.totals;
  options = g.options ∙ f.options;
  scheduler = g.scheduler ∙ f.scheduler;
  known = λ j h. g.known j h ∙ f.known j h;
  streams = λ j h. g.streams j h ∙ f.streams j h;
  active = λ j. g.active j ∙ f.active j;
  leasts = g.leasts ∙ f.leasts;
}

-- a row with another place, or another length, has its other fields
same_but_place : (m m' : Item) (v : ℕ) → m' ≡ with_place m v → m' ≡ with_length (with_place m m'.place) m'.length
same_but_place m m' v e = e ∙ rw e

same_but_length : (m m' : Item) (v : ℕ) → m' ≡ with_length m v → m' ≡ with_length (with_place m m'.place) m'.length
same_but_length m m' v e = e ∙ rw e

same_item : (m m' : Item) → m' ≡ m → m' ≡ with_length (with_place m m'.place) m'.length
same_item m m' e = e ∙ rw e

same_totals : (t t' : Totals) → t' ≡ t → t' ≡ with_bytes t t'.used t'.gaps
same_totals t t' e = e ∙ rw e

other_totals : (t t' : Totals) (u : ℕ) (e : Gaps) → t' ≡ with_bytes t u e → t' ≡ with_bytes t t'.used t'.gaps
other_totals t t' u e q = q ∙ rw q

module _ (ws : List ℕ) (l : length ws ≡ 20768) where
  place_frame : (i v : ℕ) → i < 1024 → Frame ws (put_place ws i v)
  place_frame i v h = record {
    long = place_length ws i v;
    items = λ j. by_index i j
        (λ e. rw (← e) (same_but_place (item_at ws i) (item_at (put_place ws i v) i) v (item_put_place ws i v l h)))
        (λ ne. same_item (item_at ws j) (item_at (put_place ws i v) j) (item_put_place_other ws i v j ne));
    totals = same_totals (totals_at ws) (totals_at (put_place ws i v)) (place_totals ws i v);
    options = options_put_place ws i v;
    scheduler = scheduler_put_place ws i v;
    known = λ j q. known_put_place ws i v j q;
    streams = λ j q. stream_put_place ws i v j q;
    active = λ j. active_put_place ws i v j h;
    leasts = leasts_put_place ws i v;
  }

  length_frame : (i v : ℕ) → i < 1024 → Frame ws (put_length ws i v)
  length_frame i v h = record {
    long = size_length ws i v;
    items = λ j. by_index i j
        (λ e. rw (← e) (same_but_length (item_at ws i) (item_at (put_length ws i v) i) v (item_put_length ws i v l h)))
        (λ ne. same_item (item_at ws j) (item_at (put_length ws i v) j) (item_put_length_other ws i v j ne));
    totals = same_totals (totals_at ws) (totals_at (put_length ws i v)) (totals_put_length ws i v);
    options = options_put_length ws i v;
    scheduler = scheduler_put_length ws i v;
    known = λ j q. known_put_length ws i v j q;
    streams = λ j q. stream_put_length ws i v j q;
    active = λ j. active_put_length ws i v j h;
    leasts = leasts_put_length ws i v;
  }

  bytes_frame : (u : ℕ) (e : Gaps) → Frame ws (put_bytes ws u e)
  unfolding put_bytes
  bytes_frame u e = record {
    long = bytes_length ws u e;
    items = λ j. same_item (item_at ws j) (item_at (put_bytes ws u e) j) (bytes_item ws u e j);
    totals = other_totals (totals_at ws) (totals_at (put_bytes ws u e)) u e (bytes_totals ws u e l);
    options = options_put_totals ws (with_bytes (totals_at ws) u e);
    scheduler = scheduler_put_totals ws (with_bytes (totals_at ws) u e);
    known = λ j q. known_put_totals ws (with_bytes (totals_at ws) u e) j;
    streams = λ j q. stream_put_totals ws (with_bytes (totals_at ws) u e) j;
    active = λ j. active_put_totals ws (with_bytes (totals_at ws) u e) j;
    leasts = leasts_put_totals ws (with_bytes (totals_at ws) u e);
  }

-- moving together
turn_frame : (s : Pack) → length s.words ≡ 20768 → Frame s.words (turn s).words
unfolding turn turn_at
turn_frame s l = go (leb 1024 (least s.words s.cursor 1024)) refl (lies (place_of s.words r) (size_of s.words r) (length s.store))
  where
    r : ℕ
    r = least s.words s.cursor 1024

    go : (t : Bool) → leb 1024 r ≡ t → (u : Bool)
        → Frame s.words (pick t s (pick u (pack (put_place s.words r s.cursor) (moved s.store (place_of s.words r) s.cursor (size_of s.words r)) (s.cursor + size_of s.words r)) s)).words
    go true e u = frame_none s.words
    go false e false = frame_none s.words
    go false e true = place_frame s.words l r s.cursor (leb-false 1024 r e)

turns_frame : (s : Pack) (k : ℕ) → length s.words ≡ 20768 → Frame s.words (turns s k).words
unfolding turns
turns_frame s zero l = frame_none s.words
turns_frame s (suc k) l =
    let f = turns_frame s k l in
    frame_both s.words (turns s k).words (turn (turns s k)).words f (turn_frame (turns s k) (f.long ∙ l))

pub together_frame : (ws st : List ℕ) → length ws ≡ 20768 → Frame ws (together ws st).words
unfolding together
together_frame ws st l = turns_frame (pack ws st 0) (length st) l

placed_frame : (ws st : List ℕ) (g : Gaps) (i : ℕ) (bs : List ℕ) → length ws ≡ 20768 → i < 1024 → Frame ws (placed ws st g i bs).words
unfolding placed
placed_frame ws st g i bs l h =
    let n = length bs in
    let at = g.end in
    let f = gaps (at + n) g.limit g.from g.upto in
    let l1 : length (put_place ws i at) ≡ 20768 = place_length ws i at ∙ l in
    let l2 : length (put_length (put_place ws i at) i n) ≡ 20768 = size_length (put_place ws i at) i n ∙ l1 in
    frame_both ws (put_length (put_place ws i at) i n) (put_bytes (put_length (put_place ws i at) i n) (used_of ws + n) f)
    (frame_both ws (put_place ws i at) (put_length (put_place ws i at) i n) (place_frame ws l i at h) (length_frame (put_place ws i at) l1 i n h))
    (bytes_frame (put_length (put_place ws i at) i n) l2 (used_of ws + n) f)

elsewhere_frame : (ws st : List ℕ) (i : ℕ) (bs : List ℕ) → length ws ≡ 20768 → i < 1024 → Frame ws (put_elsewhere ws st i bs).words
unfolding put_elsewhere
elsewhere_frame ws st i bs l h = go (leb (length bs) (room f))
  where
    f : Gaps
    f = found ws (used_of ws) (length st)

    t : Pack
    t = together ws st

    p : Gaps
    p = gaps (used_of t.words) (length st) 0 0

    go : (a : Bool) → Frame ws (pick a (placed ws st f i bs) (placed t.words t.store p i bs)).words
    go true = placed_frame ws st f i bs l h
    go false =
        let k = together_frame ws st l in
        frame_both ws t.words (placed t.words t.store p i bs).words k (placed_frame t.words t.store p i bs (k.long ∙ l) h)

-- THE THEOREMS: what a call leaves alone, on any words
pub put_frame : (ws st : List ℕ) (i : ℕ) (bs : List ℕ) → length ws ≡ 20768 → Frame ws (put_payload ws st i bs).words
unfolding put_payload
put_frame ws st i bs l = go (eqb code 0) refl (eqb code 1) refl
  where
    code : ℕ
    code = put_code ws (length st) i (length bs)

    f : Gaps
    f = gap_for (gaps_of ws) (length bs)

    go : (a : Bool) → eqb code 0 ≡ a → (b : Bool) → eqb code 1 ≡ b
        → Frame ws (pick a (placed ws st f i bs) (pick b (put_elsewhere ws st i bs) (outcome code ws st))).words
    go true ea b eb = placed_frame ws st f i bs l (put_zero ws (length st) i (length bs) (eqb-true code 0 ea)).0.row
    go false ea true eb = elsewhere_frame ws st i bs l (ok_before ws (length st) i (length bs) code refl (eqb-true code 1 eb)).row
    go false ea false eb = frame_none ws

pub drop_frame : (ws : List ℕ) (i : ℕ) → length ws ≡ 20768 → Frame ws (drop_payload ws i)
unfolding drop_payload dropped
drop_frame ws i l = go (eqb (drop_code_words ws i) 0) refl
  where
    u : ℕ
    u = used_of ws - size_of ws i

    e : Gaps
    e = gaps_then ws i (gaps_left (gaps_of ws) (place_of ws i) (size_of ws i))

    go : (a : Bool) → eqb (drop_code_words ws i) 0 ≡ a → Frame ws (pick a (put_bytes (put_length ws i 0) u e) ws)
    go true ea =
        let z : drop_code_words ws i ≡ 0 = eqb-true (drop_code_words ws i) 0 ea in
        let h : i < 1024 = (drop_held ws i z).row in
        frame_both ws (put_length ws i 0) (put_bytes (put_length ws i 0) u e) (length_frame ws l i 0 h) (bytes_frame (put_length ws i 0) (size_length ws i 0 ∙ l) u e)
    go false ea = frame_none ws

-- a put elsewhere is never refused
elsewhere_done : (ws st : List ℕ) (i : ℕ) (bs : List ℕ) → (put_elsewhere ws st i bs).answer ≡ 0
unfolding put_elsewhere placed
elsewhere_done ws st i bs = go (leb (length bs) (room (found ws (used_of ws) (length st))))
  where
    go : (a : Bool) → (pick a (placed ws st (found ws (used_of ws) (length st)) i bs) (placed (together ws st).words (together ws st).store (gaps (used_of (together ws st).words) (length st) 0 0) i bs)).answer ≡ 0
    go true = refl
    go false = refl

-- a refused put changes nothing
pub put_refused : (ws st : List ℕ) (i : ℕ) (bs : List ℕ) → ((put_payload ws st i bs).answer ≡ 0 → ⊥) → ((put_payload ws st i bs).words ≡ ws) × ((put_payload ws st i bs).store ≡ st)
unfolding put_payload placed
put_refused ws st i bs = go (eqb code 0) (eqb code 1)
  where
    code : ℕ
    code = put_code ws (length st) i (length bs)

    full : Bool → Bool → Outcome
    full a b = pick a (placed ws st (gap_for (gaps_of ws) (length bs)) i bs) (pick b (put_elsewhere ws st i bs) (outcome code ws st))

    go : (a b : Bool) → ((full a b).answer ≡ 0 → ⊥) → ((full a b).words ≡ ws) × ((full a b).store ≡ st)
    go true b n = absurd (n refl)
    go false true n = absurd (n (elsewhere_done ws st i bs))
    go false false n = (refl, refl)
