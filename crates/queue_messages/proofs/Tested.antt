-- What the test of a message says, and that it still says it when the message is appended: between the two nothing is written that the test has read, but
-- the new message's own row. On any words. Assumes nothing.
use mathlib.Core.Path.{◌≡◌, refl, sym, ap, ◌∙◌}
use mathlib.Core.Bool.{Bool, true, false}
use mathlib.Core.List.{List}
use Prim.Native.Nat.{ℕ, zero, suc, ◌-◌, ◌≤◌, ◌<◌}
use native.Mathlib.Omega.{arith}
use borrow.Author.Tests.{le-ltb, ne_eqb, ltb-false, ltb-true}
use lib.Dec.{ltb}
use lib.ListN.{length}
use Rattle.std.specs.Prelude.{Ok}
use Rattle.queue_words.specs.Flags.{pick}
use Rattle.queue_words.specs.Header.{options_at, totals_at, scheduler_at}
use Rattle.queue_words.specs.Items.{item_at, put_item}
use Rattle.queue_words.specs.declared.header.Totals.{Totals}
use Rattle.queue_words.specs.declared.items.Item.{Item}
use Rattle.queue_words.specs.declared.streams.OutgoingStream.{OutgoingStream}
use Rattle.queue_words.proofs.ChainLaws.{scheduler_put_chain}
use Rattle.queue_words.proofs.Laws
use Rattle.payload_store.specs.Words.{place_of, size_of, used_of, gaps_of}
use Rattle.payload_store.specs.Putting.{no_room_number, put_number, row_fits_words, fits_to, all_fit, put_code, put_payload}
use Rattle.payload_store.specs.declared.NoRoom.{NoRoom}
use Rattle.payload_store.specs.declared.NoRoom.TheVariants.{StoreFull, Broken}
use Rattle.payload_store.specs.declared.Room.{Room}
use Rattle.payload_store.specs.declared.Room.TheVariants.{KnownGap, Elsewhere}
use Rattle.payload_store.proofs.Cases.{pick_else, pick_then, false_true}
use Rattle.payload_store.proofs.Frames.{put_frame}
use Rattle.queue_streams.specs.Known.{new_stream_words}
use Rattle.queue_streams.specs.Place.{Place}
use Rattle.queue_streams.specs.Place as place
use Rattle.queue_streams.proofs.Beside.{around}
use Rattle.queue_messages.proofs.Lemmas.{row_fits}
use Rattle.queue_messages.specs.Add.{starts, has_room_words, places_code, full_code, broken_code, message_code, HasLast, linked_last, counted, MayAppend, stream_for, row_for, made_known, HasPlace}
use Rattle.queue_messages.specs.Message.{nanoseconds}
use Rattle.queue_messages.specs.declared.message.Message.{Message}

-- ------------------------------------------------------------------ what the test says

-- the numbers of a payload that has room are below those of one that has none
pub put_goes : (a : Room) → ltb 1 (put_number (Ok a)) ≡ false
put_goes KnownGap = refl
put_goes Elsewhere = refl

pub put_stays : (e : NoRoom) → ltb 1 (no_room_number e) ≡ true
put_stays StoreFull = refl
put_stays Broken = refl

-- 7, 8 and 16 do not apply, so 16 does not
broken_not : (ws : List ℕ) (len : ℕ) (s : OutgoingStream) (n : ℕ) → message_code ws len s n ≡ 0 → broken_code ws len s n ≡ 0
unfolding message_code
broken_not ws len s n e = go (ltb 0 (full_code ws len n)) refl e
  where
    go : (b : Bool) → ltb 0 (full_code ws len n) ≡ b → pick b (full_code ws len n) (broken_code ws len s n) ≡ 0 → broken_code ws len s n ≡ 0
    go true q z = false_true (sym (le-ltb 0 (full_code ws len n) (omega arith)) ∙ q)
    go false q z = z

-- where the stream has a first message, the last of the five tests of places is of its last
last_tested : (a b c d : Bool) → pick a 16 (pick b 16 (pick c 16 (pick false 0 (pick d 16 0)))) ≤ 0 → d ≡ false
last_tested true b c d h = absurd (omega arith)
last_tested false true c d h = absurd (omega arith)
last_tested false false true d h = absurd (omega arith)
last_tested false false false true h = absurd (omega arith)
last_tested false false false false h = refl

last_of : (ws : List ℕ) (s : OutgoingStream) (free : ℕ) → places_code ws s free ≤ 0 → HasLast s
unfolding places_code
last_of ws s free h f =
    let some = ne_eqb s.first 1024 (λ z. omega arith) in
    let k = last_tested (ltb 1023 free) (ltb 1024 (item_at ws free).next) (ltb 1024 s.first) (ltb 1023 s.last) (rw some at h) in
    omega (arith, ltb-false 1023 s.last k)

-- the tests that are of what is written: the payload, the chain, the scheduler
pub record Passed (ws : List ℕ) (len : ℕ) (s : OutgoingStream) (n : ℕ) : Type 0 where
  pub coded : put_code ws len (totals_at ws).free n ≤ 1
  pub last : HasLast s
  pub roomy : has_room_words ws s ≡ true

passed : (ws : List ℕ) (len : ℕ) (s : OutgoingStream) (n : ℕ) → message_code ws len s n ≡ 0 → Passed ws len s n
unfolding broken_code
passed ws len s n e = go (broken_not ws len s n e)
  where
    go : broken_code ws len s n ≡ 0 → Passed ws len s n
    go b =
        let t1 = pick_else (ltb (18446744073709551615 - (totals_at ws).total) n) 16 _ 0 (λ z. omega arith) b in
        let t2 = pick_else (ltb (18446744073709551615 - s.buffered_amount) n) 16 _ 0 (λ z. omega arith) t1.1 in
        let t3 = pick_else (ltb 0 (places_code ws s (totals_at ws).free)) 16 _ 0 (λ z. omega arith) t2.1 in
        let r = pick_then (has_room_words ws s) (pick (ltb 1 (put_code ws len (totals_at ws).free n)) 16 0) 16 0 (λ z. omega arith) t3.1 in
        let k : ◌≡◌ {A = ℕ} (pick (ltb 1 (put_code ws len (totals_at ws).free n)) 16 0) 0 = rw r at t3.1 in
        let t4 = pick_else (ltb 1 (put_code ws len (totals_at ws).free n)) 16 0 0 (λ z. omega arith) k in
        record {
          coded = ltb-false 1 (put_code ws len (totals_at ws).free n) t4.0;
          last = last_of ws s (totals_at ws).free (ltb-false 0 (places_code ws s (totals_at ws).free) t3.0);
          roomy = r;
        }

pub room_of : (ws : List ℕ) (s : OutgoingStream) → has_room_words ws s ≡ true → starts s ≡ true → (scheduler_at ws).active < 256
unfolding has_room_words
room_of ws s r e = ltb-true (scheduler_at ws).active 256 (rw e at r)

-- ------------------------------------------------------------------ the scheduler is not written

pub room_kept : (ws us : List ℕ) (s : OutgoingStream) → scheduler_at us ≡ scheduler_at ws → has_room_words ws s ≡ true → has_room_words us s ≡ true
unfolding has_room_words
room_kept ws us s e r = rw e r

pub linked_scheduler : (ws : List ℕ) (row : ℕ) (s : OutgoingStream) (p n : ℕ) → scheduler_at (linked_last ws row s p n) ≡ scheduler_at ws
unfolding linked_last
linked_scheduler ws row s p n =
    one (ltb 1023 s.first) _ _ (scheduler_put_chain ws row _ _ _)
    (one (ltb 1023 s.last) _ _ (scheduler_put_chain ws row _ _ _) (scheduler_put_chain _ row _ _ _ ∙ Laws.scheduler_put_next ws _ _))
  where
    one : (b : Bool) (x y : List ℕ) → scheduler_at x ≡ scheduler_at ws → scheduler_at y ≡ scheduler_at ws → scheduler_at (pick b x y) ≡ scheduler_at ws
    one true x y h k = h
    one false x y h k = k

pub counted_scheduler : (ws : List ℕ) (free n : ℕ) → scheduler_at (counted ws free n) ≡ scheduler_at ws
unfolding counted
counted_scheduler ws free n = Laws.scheduler_put_totals ws _

pub put_scheduler : (ws us st : List ℕ) (p : ℕ) (m : Item) (bs : List ℕ) → length ws ≡ 20768 → us ≡ put_item ws p m
    → scheduler_at (put_payload us st p bs).words ≡ scheduler_at ws
put_scheduler ws us st p m bs l e =
    (put_frame us st p bs (ap length e ∙ Laws.whole_put_item ws p m ∙ l)).scheduler ∙ ap scheduler_at e ∙ Laws.scheduler_put_item ws p m

-- ------------------------------------------------------------------ a stream made known

-- Words with the same messages, the same bytes in use and gaps, the same first free place and scheduler.
record Same (ws vs : List ℕ) : Type 0 where
  long : length vs ≡ length ws
  items : (x : ℕ) → item_at vs x ≡ item_at ws x
  used : used_of vs ≡ used_of ws
  gaps_are : gaps_of vs ≡ gaps_of ws
  free : (totals_at vs).free ≡ (totals_at ws).free
  scheduler : scheduler_at vs ≡ scheduler_at ws

module _ (ws vs : List ℕ) (same : Same ws vs) where
  fits_same : (len used n : ℕ) → fits_to vs len used n ≡ fits_to ws len used n
  unfolding fits_to row_fits_words
  fits_same len used zero = refl
  fits_same len used (suc n) =
      let size : size_of vs n ≡ size_of ws n = ap (λ (k : Item). k.length) (same.items n) in
      let at : place_of vs n ≡ place_of ws n = ap (λ (k : Item). k.place) (same.items n) in
      rw (fits_same len used n, size, at)

  code_same : (len i n : ℕ) → put_code vs len i n ≡ put_code ws len i n
  unfolding put_code all_fit
  code_same len i n =
      let size : size_of vs i ≡ size_of ws i = ap (λ (k : Item). k.length) (same.items i) in
      rw (size, same.used, same.gaps_are, fits_same len (used_of ws) 1024)

same_known : (ws : List ℕ) (id : ℕ) (at : Place) → length ws ≡ 20768 → HasPlace ws at → Same ws (made_known ws id at)
same_known ws id (place.Row row) l h = record { long = refl; items = λ x. refl; used = refl; gaps_are = refl; free = refl; scheduler = refl }
same_known ws id (place.New position) l h =
    let k = around ws position id l h.1 h.0 (new_stream_words (options_at ws)) in
    let of : (A : Type 0) (f : Totals → A) → f (totals_at (made_known ws id (place.New position))) ≡ f _ = λ A f. ap f k.totals in
    record {
      long = k.long;
      items = k.items;
      used = of ℕ (λ (x : Totals). x.used);
      gaps_are = of _ (λ (x : Totals). x.gaps);
      free = of ℕ (λ (x : Totals). x.free);
      scheduler = k.scheduler;
    }
same_known ws id (place.Refused code) l h = record { long = refl; items = λ x. refl; used = refl; gaps_are = refl; free = refl; scheduler = refl }

-- What the test says, it says of the words in which the stream is known.
module _ (ws : List ℕ) (len id n : ℕ) (at : Place) (l : length ws ≡ 20768) (h : HasPlace ws at) where
  abbrev vs : List ℕ
  vs = made_known ws id at

  same : Same ws vs
  same = same_known ws id at l h

  pub known_long : length vs ≡ 20768
  known_long = same.long ∙ l

  pub known_passed : message_code ws len (stream_for ws at) n ≡ 0 → Passed vs len (stream_for ws at) n
  known_passed e =
      let p = passed ws len (stream_for ws at) n e in
      let c = code_same ws vs same len (totals_at ws).free n in
      record { coded = rw (same.free, c) p.coded; last = p.last; roomy = room_kept ws vs (stream_for ws at) same.scheduler p.roomy }

-- Where a message's test passes, it may be appended, its stream known or made known.
pub may_append : (ws : List ℕ) (len time : ℕ) (m : Message) (n : ℕ) (at : Place) → length ws ≡ 20768 → HasPlace ws at → time ≤ 4611686018427387903
    → nanoseconds m.lifetime ≤ 4611686018427387903 → message_code ws len (stream_for ws at) n ≡ 0 → (row : ℕ) (s : OutgoingStream) (us : List ℕ)
    → row ≡ row_for ws at → s ≡ stream_for ws at → us ≡ made_known ws m.stream_id.0 at → (row < 256) × MayAppend us len time m s n
may_append ws len time m n at l h ht hl e row s us er es eu =
    let p = known_passed ws len m.stream_id.0 n at l h e in
    rw (er, es, eu) (row_fits ws at h, record { time_fits = ht; lifetime_fits = hl; may_put = p.coded; has_last = p.last; has_room = p.roomy })

-- the test of a message for the stream s, by its number
pub passes : (ws : List ℕ) (len : ℕ) (s t : OutgoingStream) (n code : ℕ) → code ≡ message_code ws len s n → s ≡ t → code ≤ 0 → message_code ws len t n ≡ 0
passes ws len s t n code ec es h = rw (← es, ← ec) (let z : code ≡ 0 = omega arith in z)
