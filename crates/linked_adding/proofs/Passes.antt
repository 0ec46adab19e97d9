-- The tests of adding a message: where they pass, from words that hold together. Assumes nothing.
use mathlib.Core.Path.{◌≡◌, refl, ap}
use mathlib.Core.Bool.{Bool, true, false}
use mathlib.Core.List.{List, [], ◌∷◌}
use mathlib.Core.Option.{none}
use Prim.Native.Nat.{ℕ, ◌+◌, ◌-◌, ◌≤◌, ◌<◌}
use native.Mathlib.Omega.{arith}
use borrow.Author.Tests.{lt-ltb, le-ltb, eq-eqb, ne_eqb}
use lib.ListN.{length}
use lib.Dec.{ltb}
use Rattle.queue_words.specs.Flags.{pick}
use Rattle.queue_words.specs.Header.{totals_at, scheduler_at}
use Rattle.queue_words.specs.Items.{item_at}
use Rattle.queue_words.specs.declared.streams.OutgoingStream.{OutgoingStream}
use Rattle.queue_model.specs.Scheduler.{find_active}
use Rattle.payload_store.specs.Words.{used_of}
use Rattle.payload_store.specs.Putting.{put_code, put_payload, placed}
use Rattle.payload_store.proofs.Puts.{put_law}
use Rattle.stream_scheduler.specs.Link.{GoodScheduler, model_scheduler, Room, listed, free}
use Rattle.stream_scheduler.proofs.Begins.{no_row}
use Rattle.queue_state.specs.Chains.{Linked}
use Rattle.queue_state.specs.Model.{next_of}
use Rattle.queue_state.specs.Good.{Row, Shape}
use Rattle.queue_state.proofs.Chains.{linked_le, linked_none, linked_some, last_lt, count_head}
use Rattle.queue_messages.specs.Add.{starts, has_room_words, places_code, broken_code}
use Rattle.payload_store.proofs.Cases.{by_index}

-- ---- a free place

-- The first free place, where fewer than 1,024 messages wait.
pub record FreePlace (ws st : List ℕ) (g : Shape ws st) : Type 0 where
  pub others : List ℕ
  pub list_is : g.fr ≡ (totals_at ws).free ∷ others
  pub in_table_lem : (totals_at ws).free < 1024
  pub behind : Linked (next_of ws) (next_of ws (totals_at ws).free) others

pub free_place : (ws st : List ℕ) (g : Shape ws st) → (totals_at ws).waiting < 1024 → FreePlace ws st g
free_place ws st g h =
    let s = linked_some (next_of ws) (totals_at ws).free g.fr g.free
    (λ e. let n : length g.fr ≡ 0 = ap length (linked_none (next_of ws) (totals_at ws).free g.fr g.free e) in omega (arith, g.waits, g.split.all)) in
    record { others = s.0; list_is = s.1; in_table_lem = s.2; behind = s.3 }

-- ---- the tests, by what they say

places_none : (ws : List ℕ) (s : OutgoingStream) (p : ℕ) (ps : List ℕ) → p < 1024 → (item_at ws p).next ≤ 1024 → Row ws s ps → places_code ws s p ≡ 0
unfolding places_code
places_none ws s p [] h n r =
    let e : s.first ≡ 1024 = r.linked in
    rw (le-ltb 1023 p (omega arith), le-ltb 1024 (item_at ws p).next n, le-ltb 1024 s.first (omega arith), eq-eqb s.first 1024 e)
places_none ws s p (x ∷ xs) h n r =
    let k : Linked (next_of ws) s.first (x ∷ xs) = r.linked in
    let a : s.first < 1024 = omega (arith, k.0, k.1) in
    let b : s.last < 1024 = omega (arith, r.last_is, last_lt (next_of ws) s.first x xs k) in
    rw (le-ltb 1023 p (omega arith), le-ltb 1024 (item_at ws p).next n, le-ltb 1024 s.first (omega arith), ne_eqb s.first 1024 (λ e. omega arith), le-ltb 1023 s.last (omega arith))

-- a put that is accepted has passed its test
put_passes : (ws st : List ℕ) (i : ℕ) (bs : List ℕ) → (put_payload ws st i bs).answer ≡ 0 → put_code ws (length st) i (length bs) ≤ 1
unfolding put_payload placed
put_passes ws st i bs e = by_index (put_code ws (length st) i (length bs)) 0 (λ z. omega arith)
    (λ nz. by_index (put_code ws (length st) i (length bs)) 1 (λ z. omega arith)
    (λ no. let k : put_code ws (length st) i (length bs) ≡ 0 = rw (ne_eqb (put_code ws (length st) i (length bs)) 0 nz, ne_eqb (put_code ws (length st) i (length bs)) 1 no) at e in omega arith))

-- a stream that begins to wait has no row, so there is one for it
has_room : (ws : List ℕ) (id : ℕ) (s : OutgoingStream) → GoodScheduler ws → Room ws id → (starts s ≡ true → find_active id (model_scheduler ws).active ≡ none) → has_room_words ws s ≡ true
unfolding has_room_words
has_room ws id s g m idle = go (starts s) refl
  where
    few : find_active id (model_scheduler ws).active ≡ none → Room ws id → (scheduler_at ws).active < 256
    few none_is (free h) = h
    few none_is (listed i h e) = absurd (no_row ws g id none_is i h e)

    go : (b : Bool) → starts s ≡ b → pick b (ltb (scheduler_at ws).active 256) true ≡ true
    go false e = refl
    go true e = lt-ltb (scheduler_at ws).active 256 (few (idle e) m)

broken_tests : (ws : List ℕ) (len : ℕ) (s : OutgoingStream) (n : ℕ) → (totals_at ws).total + n ≤ 18446744073709551615 → s.buffered_amount + n ≤ 18446744073709551615
    → places_code ws s (totals_at ws).free ≡ 0 → put_code ws len (totals_at ws).free n ≤ 1 → has_room_words ws s ≡ true → broken_code ws len s n ≡ 0
unfolding broken_code
broken_tests ws len s n a b c d e =
    rw (
      le-ltb (18446744073709551615 - (totals_at ws).total) n (omega arith),
      le-ltb (18446744073709551615 - s.buffered_amount) n (omega arith),
      c,
      e,
      le-ltb 1 (put_code ws len (totals_at ws).free n) d,
    )

-- ---- no place outside its table, no sum too large

pub broken_none : (ws st : List ℕ) (g : Shape ws st) (id : ℕ) (s : OutgoingStream) (bs ps : List ℕ) → (totals_at ws).waiting < 1024 → used_of ws + length bs ≤ length st
    → (totals_at ws).total + length bs ≤ 18446744073709551615 → s.buffered_amount + length bs ≤ 18446744073709551615 → Row ws s ps → Room ws id
    → (starts s ≡ true → find_active id (model_scheduler ws).active ≡ none) → broken_code ws (length st) s (length bs) ≡ 0
broken_none ws st g id s bs ps w u a b r m idle =
    let f = free_place ws st g w in
    let p : ℕ = (totals_at ws).free in
    broken_tests ws (length st) s (length bs) a b
    (places_none ws s p ps f.in_table_lem (linked_le (next_of ws) (next_of ws p) f.others f.behind) r)
    (put_passes ws st p bs (put_law ws st p bs g.lay f.in_table_lem (g.bare p (rw f.list_is (count_head p f.others))) u).accepted)
    (has_room ws id s g.schedules m idle)
