-- The loops of the pass and of writing, over plain values: a callee's result is a variable, what it ensures a hypothesis. Assumes nothing.
use mathlib.Core.Path.{◌≡◌, refl, sym, ap, ◌∙◌, subst}
use mathlib.Core.Bool.{Bool, true, false}
use mathlib.Core.List.{List, [], ◌∷◌, ◌++◌}
use Prim.Native.Nat.{ℕ, zero, suc, ◌+◌, ◌-◌, ◌≤◌, ◌<◌}
use native.Mathlib.Nat.{sub-zero}
use native.Mathlib.Omega.{arith}
use borrow.Author.Tests.{lt-ltb, le-ltb}
use lib.ListN.{length, take, drop}
use Rattle.queue_model.specs.Bytes.{row_bytes}
use Rattle.queue_model.specs.Image.{stream_widths, message_widths}
use Rattle.queue_words.specs.Header.{options_at}
use Rattle.queue_words.specs.Known.{known_at, id_at}
use Rattle.queue_words.specs.Streams.{stream_at_words}
use Rattle.queue_words.specs.declared.header.Options.{Options}
use Rattle.queue_words.specs.declared.known.Known.{Known}
use Rattle.queue_words.specs.declared.streams.OutgoingStream.{OutgoingStream}
use Rattle.queue_words.specs.Items.{item_at}
use Rattle.queue_words.specs.declared.items.Item.{Item}
use Rattle.queue_state.specs.Chains.{chain}
use Rattle.queue_state.specs.Model.{next_of, row_at}
use Rattle.payload_store.specs.Good.{payload_of}
use Rattle.big_endian.specs.Numbers.{wrote}
use Rattle.handover_records.specs.Records.{stream_row_words, message_row_words}
use Rattle.handover_records.specs.declared.records.HandoverStreamMessage.{HandoverStreamMessage}
use Rattle.big_endian.proofs.Halves.{wrote_twice}
use Rattle.big_endian.proofs.Rows.{row_length, wrote_none}
use Rattle.handover_records.proofs.RecordRows.{message_width}
use Rattle.saving.specs.declared.measuring.Tally.{Tally}
use Rattle.saving.specs.Measure.{is_plain, tally_item, tally_chain, tally_stream, tally_from}
use Rattle.saving.specs.Records.{stream_record_words, message_record_words}
use Rattle.saving.specs.Sound.{ItemOk, AllOk, places_at}
use Rattle.saving.specs.Bytes.{stream_bytes_words, streams_from, item_bytes, chain_bytes, messages_from}
use Rattle.saving.proofs.Passing.{size_at}
use Rattle.saving.proofs.Lengths.{payload_long, item_long, plain_long, stream_is, stream_long}
use Rattle.saving.proofs.Rests.{Rest, rest_start, rest_step, rest_room, rest_end, room_by, step_by, end_by}

-- ------------------------------------------------------------------ the pass: what it finds from the start on is what it finds from here on

module _ (ws : List ℕ) (len : ℕ) (start : Tally) (n : ℕ) where
  pub chain_start : tally_chain ws len start n ≡ tally_chain ws len start (n - 0)
  chain_start = rw sub-zero

  module _ (i : ℕ) (t : Tally) (inv : tally_chain ws len start n ≡ tally_chain ws len t (n - i)) where
    pub chain_out : i < n → 1023 < t.place → t ≡ tally_chain ws len start n
    unfolding tally_chain
    chain_out h g =
        let s : n - i ≡ suc (n - (i + 1)) = omega arith in
        sym (inv ∙ rw (s, lt-ltb _ _ g))

    pub chain_next : (m : Item) (r : Tally) → i < n → t.place ≤ 1023 → m ≡ item_at ws t.place → r ≡ tally_item t m len → tally_chain ws len start n ≡ tally_chain ws len r (n - (i + 1))
    unfolding tally_chain
    chain_next m r h g em er =
        let s : n - i ≡ suc (n - (i + 1)) = omega arith in
        inv ∙ rw (s, le-ltb _ _ g, ← em, ← er)

    pub chain_end : n ≤ i → t ≡ tally_chain ws len start n
    unfolding tally_chain
    chain_end g =
        let s : n - i ≡ 0 = omega arith in
        sym (inv ∙ rw s)

module _ (ws : List ℕ) (len : ℕ) (start : Tally) (n : ℕ) where
  pub from_start : tally_from ws len start 0 n ≡ tally_from ws len start 0 (n - 0)
  from_start = rw sub-zero

  module _ (i : ℕ) (t : Tally) (inv : tally_from ws len start 0 n ≡ tally_from ws len t i (n - i)) where
    pub from_next : (r : Tally) → i < n → r ≡ tally_stream ws len i t → tally_from ws len start 0 n ≡ tally_from ws len r (i + 1) (n - (i + 1))
    unfolding tally_from
    from_next r h er =
        let s : n - i ≡ suc (n - (i + 1)) = omega arith in
        inv ∙ rw (s, er)

    pub from_end : n ≤ i → t ≡ tally_from ws len start 0 n
    unfolding tally_from
    from_end g =
        let s : n - i ≡ 0 = omega arith in
        sym (inv ∙ rw s)

-- ------------------------------------------------------------------ a message

pub item_ok : (ws : List ℕ) (x len : ℕ) (m : Item) → m ≡ item_at ws x → ItemOk (item_at ws x) len → ItemOk m len
item_ok ws x len m e k = subst (λ (z : Item). ItemOk z len) (sym e) k

pub item_wrote : (ws st b b1 b2 : List ℕ) (at id time x : ℕ) (m : Item) (r : HandoverStreamMessage) → m ≡ item_at ws x → ItemOk (item_at ws x) (length st) → at + size_at ws x ≤ length b
    → r ≡ message_record_words m id time → b1 ≡ wrote b at (row_bytes message_widths (message_row_words r)) → b2 ≡ wrote b1 (at + 44) (take m.length (drop m.place st))
    → b2 ≡ wrote b at (item_bytes ws st time id x)
unfolding item_bytes payload_of
item_wrote ws st b b1 b2 at id time x m r em k h er e1 e2 =
    let row : List ℕ = row_bytes message_widths (message_row_words (message_record_words (item_at ws x) id time)) in
    let pay : List ℕ = take (item_at ws x).length (drop (item_at ws x).place st) in
    let lr : length row ≡ 44 = row_length message_widths (message_row_words (message_record_words (item_at ws x) id time)) refl ∙ message_width in
    let lp : length pay ≡ (item_at ws x).length = payload_long ws st x k in
    let t : wrote (wrote b at row) (at + 44) pay ≡ wrote b at (row ++ pay) = rw lr at (wrote_twice b at row pay (omega (arith, lr, lp, h))) in
    rw (e2, e1, er, em) t

-- ------------------------------------------------------------------ a chain of messages written

abbrev pub along : List ℕ → List ℕ → ℕ → ℕ → ℕ → ℕ → List ℕ
along ws st time id p n = chain_bytes ws st time id (chain (next_of ws) p n)

pub along_none : (ws st : List ℕ) (time id p n : ℕ) → 1023 < p → along ws st time id p n ≡ []
unfolding chain_bytes chain
along_none ws st time id p zero h = refl
along_none ws st time id p (suc n) h = rw (le-ltb p 1024 (omega arith))

pub along_over : (ws st : List ℕ) (time id p n : ℕ) → n ≡ 0 → along ws st time id p n ≡ []
unfolding chain_bytes chain
along_over ws st time id p n e = rw e

pub chain_cons : (ws : List ℕ) (p n : ℕ) → p ≤ 1023 → chain (next_of ws) p (suc n) ≡ p ∷ chain (next_of ws) (next_of ws p) n
unfolding chain
chain_cons ws p n h = rw (lt-ltb p 1024 (omega arith))

pub along_cons : (ws st : List ℕ) (time id p n : ℕ) → p ≤ 1023 → along ws st time id p (suc n) ≡ item_bytes ws st time id p ++ along ws st time id (next_of ws p) n
unfolding chain_bytes
along_cons ws st time id p n h = rw (chain_cons ws p n h)

-- so far: the rest, and that its messages are sound
pub record Going (ws st : List ℕ) (time id : ℕ) (b₀ : List ℕ) (at : ℕ) (whole b : List ℕ) (p pos n : ℕ) : Type 0 where
  pub rest : Rest b₀ at whole b pos (along ws st time id p n)
  pub items : AllOk ws (length st) (chain (next_of ws) p n)

module _ (ws st : List ℕ) (time id : ℕ) (b₀ : List ℕ) (at : ℕ) (whole b : List ℕ) (p pos n i : ℕ) (g : Going ws st time id b₀ at whole b p pos (n - i)) where
  pub going_out : 1023 < p → (b ≡ wrote b₀ at whole) × (pos ≡ at + length whole)
  going_out h = rest_end b₀ at whole b pos (rw (along_none ws st time id p (n - i) h) at g.rest)

  pub going_end : n ≤ i → (b ≡ wrote b₀ at whole) × (pos ≡ at + length whole)
  going_end h = rest_end b₀ at whole b pos (rw (along_over ws st time id p (n - i) (omega arith)) at g.rest)

  module _ (h : i < n) (l : p ≤ 1023) where
    items_here : AllOk ws (length st) (p ∷ chain (next_of ws) (next_of ws p) (n - (i + 1)))
    items_here =
        let s : n - i ≡ suc (n - (i + 1)) = omega arith in
        rw (s, chain_cons ws p (n - (i + 1)) l) at g.items

    rest_here : Rest b₀ at whole b pos (item_bytes ws st time id p ++ along ws st time id (next_of ws p) (n - (i + 1)))
    rest_here =
        let s : n - i ≡ suc (n - (i + 1)) = omega arith in
        rw (s, along_cons ws st time id p (n - (i + 1)) l) at g.rest

    pub going_item : ItemOk (item_at ws p) (length st)
    going_item = items_here.0

    pub going_room : pos + size_at ws p ≤ length b
    going_room = omega (arith, item_long ws st time id p going_item, rest_room b₀ at whole b pos (item_bytes ws st time id p) (along ws st time id (next_of ws p) (n - (i + 1))) rest_here)

    pub going_next : (m : Item) (b1 : List ℕ) → m ≡ item_at ws p → b1 ≡ wrote b pos (item_bytes ws st time id p) → Going ws st time id b₀ at whole b1 m.next (pos + (44 + m.length)) (n - (i + 1))
    going_next m b1 em eb =
        let el : pos + (44 + m.length) ≡ pos + length (item_bytes ws st time id p) = rw (em, item_long ws st time id p going_item) in
        let r : Rest b₀ at whole b1 (pos + (44 + m.length)) (along ws st time id (next_of ws p) (n - (i + 1))) =
        rest_step b₀ at whole b pos (item_bytes ws st time id p) (along ws st time id (next_of ws p) (n - (i + 1))) b1 (pos + (44 + m.length)) rest_here eb el in
        let en : m.next ≡ next_of ws p = ap (λ (z : Item). z.next) em in
        record { rest = rw en r; items = rw en items_here.1 }

-- ------------------------------------------------------------------ the streams' records written

pub streams_cons : (ws : List ℕ) (n i : ℕ) → i < n → streams_from ws i (n - i) ≡ stream_bytes_words ws i ++ streams_from ws (i + 1) (n - (i + 1))
unfolding streams_from
streams_cons ws n i h =
    let s : n - i ≡ suc (n - (i + 1)) = omega arith in
    rw s

pub streams_over : (ws : List ℕ) (n i : ℕ) → n ≤ i → streams_from ws i (n - i) ≡ []
unfolding streams_from
streams_over ws n i h =
    let s : n - i ≡ 0 = omega arith in
    rw s

pub messages_cons : (ws st : List ℕ) (time n i : ℕ) → i < n → messages_from ws st time i (n - i) ≡ chain_bytes ws st time (id_at ws i) (places_at ws i) ++ messages_from ws st time (i + 1) (n - (i + 1))
unfolding messages_from
messages_cons ws st time n i h =
    let s : n - i ≡ suc (n - (i + 1)) = omega arith in
    rw s

pub messages_over : (ws st : List ℕ) (time n i : ℕ) → n ≤ i → messages_from ws st time i (n - i) ≡ []
unfolding messages_from
messages_over ws st time n i h =
    let s : n - i ≡ 0 = omega arith in
    rw s

pub streams_begin : (ws b : List ℕ) (at n : ℕ) → at + length (streams_from ws 0 n) ≤ length b → Rest b at (streams_from ws 0 n) b at (streams_from ws 0 (n - 0))
streams_begin ws b at n h = rw sub-zero (rest_start b at (streams_from ws 0 n) h)

pub messages_begin : (ws st b : List ℕ) (time at n : ℕ) → at + length (messages_from ws st time 0 n) ≤ length b → Rest b at (messages_from ws st time 0 n) b at (messages_from ws st time 0 (n - 0))
messages_begin ws st b time at n h = rw sub-zero (rest_start b at (messages_from ws st time 0 n) h)

-- ------------------------------------------------------------------ one stream's record

module _ (ws b : List ℕ) (at i : ℕ) (k : Known) (s : OutgoingStream) (o : Options) (p : Bool) (ek : k ≡ known_at ws i) (es : s ≡ stream_at_words ws k.place) (eo : o ≡ options_at ws) (ep : p ≡ is_plain s o.default_priority) where
  row_is : s ≡ stream_at_words ws (row_at ws i)
  row_is = es ∙ ap (λ (z : Known). stream_at_words ws z.place) ek

  plain_is : is_plain (stream_at_words ws (row_at ws i)) (options_at ws).default_priority ≡ p
  plain_is = sym (ep ∙ ap (λ (z : OutgoingStream). is_plain z o.default_priority) row_is ∙ ap (λ (z : Options). is_plain (stream_at_words ws (row_at ws i)) z.default_priority) eo)

  pub known_plain : p ≡ true → (b ≡ wrote b at (stream_bytes_words ws i)) × (at ≡ at + length (stream_bytes_words ws i))
  known_plain h =
      let e : stream_bytes_words ws i ≡ [] = plain_long ws i (plain_is ∙ h) in
      rw e (wrote_none b at, omega arith)

  pub known_long : p ≡ false → length (stream_bytes_words ws i) ≡ 14
  known_long h = stream_long ws i (plain_is ∙ h)

  pub known_put : (b1 : List ℕ) → p ≡ false → b1 ≡ wrote b at (row_bytes stream_widths (stream_row_words (stream_record_words k.id.0 s))) → (b1 ≡ wrote b at (stream_bytes_words ws i)) × (at + 14 ≡ at + length (stream_bytes_words ws i))
  known_put b1 h eb =
      let l : length (stream_bytes_words ws i) ≡ 14 = known_long h in
      let e : stream_bytes_words ws i ≡ row_bytes stream_widths (stream_row_words (stream_record_words k.id.0 s)) = stream_is ws i (plain_is ∙ h)
      ∙ ap (λ (z : OutgoingStream). row_bytes stream_widths (stream_row_words (stream_record_words (id_at ws i) z))) (sym row_is)
      ∙ ap (λ (z : Known). row_bytes stream_widths (stream_row_words (stream_record_words z.id.0 s))) (sym ek) in
      (eb ∙ ap (λ (x : List ℕ). wrote b at x) (sym e), rw l)

-- ------------------------------------------------------------------ one stream's messages

module _ (ws st : List ℕ) (time i : ℕ) (k : Known) (s : OutgoingStream) (ek : k ≡ known_at ws i) (es : s ≡ stream_at_words ws k.place) where
  first_is : s.first ≡ (stream_at_words ws (row_at ws i)).first
  first_is = ap (λ (z : OutgoingStream). z.first) (es ∙ ap (λ (z : Known). stream_at_words ws z.place) ek)

  id_is : k.id.0 ≡ id_at ws i
  id_is = ap (λ (z : Known). z.id.0) ek

  bytes_are : along ws st time k.id.0 s.first 1025 ≡ chain_bytes ws st time (id_at ws i) (places_at ws i)
  bytes_are = rw (id_is, first_is)

  pub queue_pre : (b : List ℕ) (at : ℕ) → AllOk ws (length st) (places_at ws i) → at + length (chain_bytes ws st time (id_at ws i) (places_at ws i)) ≤ length b
      → (AllOk ws (length st) (chain (next_of ws) s.first 1025)) × (at + length (along ws st time k.id.0 s.first 1025) ≤ length b)
  queue_pre b at o h = (rw first_is o, rw bytes_are h)

  pub queue_put : (b b1 : List ℕ) (at r : ℕ) → (b1 ≡ wrote b at (along ws st time k.id.0 s.first 1025)) × (r ≡ at + length (along ws st time k.id.0 s.first 1025))
      → (b1 ≡ wrote b at (chain_bytes ws st time (id_at ws i) (places_at ws i))) × (r ≡ at + length (chain_bytes ws st time (id_at ws i) (places_at ws i)))
  queue_put b b1 at r e = rw bytes_are at e

-- ------------------------------------------------------------------ the loops over the streams

module _ (ws b₀ : List ℕ) (at n : ℕ) (b : List ℕ) (pos i : ℕ) (r : Rest b₀ at (streams_from ws 0 n) b pos (streams_from ws i (n - i))) where
  pub streams_room : i < n → pos + length (stream_bytes_words ws i) ≤ length b
  streams_room h = room_by b₀ at (streams_from ws 0 n) b pos (streams_from ws i (n - i)) r (stream_bytes_words ws i) (streams_from ws (i + 1) (n - (i + 1))) (streams_cons ws n i h)

  pub streams_next : (b1 : List ℕ) (pos1 : ℕ) → i < n → b1 ≡ wrote b pos (stream_bytes_words ws i) → pos1 ≡ pos + length (stream_bytes_words ws i) → Rest b₀ at (streams_from ws 0 n) b1 pos1 (streams_from ws (i + 1) (n - (i + 1)))
  streams_next b1 pos1 h = step_by b₀ at (streams_from ws 0 n) b pos (streams_from ws i (n - i)) r (stream_bytes_words ws i) (streams_from ws (i + 1) (n - (i + 1))) (streams_cons ws n i h) b1 pos1

  pub streams_end : n ≤ i → (b ≡ wrote b₀ at (streams_from ws 0 n)) × (pos ≡ at + length (streams_from ws 0 n))
  streams_end h = end_by b₀ at (streams_from ws 0 n) b pos (streams_from ws i (n - i)) r (streams_over ws n i h)

module _ (ws st : List ℕ) (time : ℕ) (b₀ : List ℕ) (at n : ℕ) (b : List ℕ) (pos i : ℕ) (r : Rest b₀ at (messages_from ws st time 0 n) b pos (messages_from ws st time i (n - i))) where
  pub messages_room : i < n → pos + length (chain_bytes ws st time (id_at ws i) (places_at ws i)) ≤ length b
  messages_room h =
      room_by b₀ at (messages_from ws st time 0 n) b pos (messages_from ws st time i (n - i)) r
      (chain_bytes ws st time (id_at ws i) (places_at ws i)) (messages_from ws st time (i + 1) (n - (i + 1))) (messages_cons ws st time n i h)

  pub messages_next : (b1 : List ℕ) (pos1 : ℕ) → i < n → b1 ≡ wrote b pos (chain_bytes ws st time (id_at ws i) (places_at ws i)) → pos1 ≡ pos + length (chain_bytes ws st time (id_at ws i) (places_at ws i))
      → Rest b₀ at (messages_from ws st time 0 n) b1 pos1 (messages_from ws st time (i + 1) (n - (i + 1)))
  messages_next b1 pos1 h =
      step_by b₀ at (messages_from ws st time 0 n) b pos (messages_from ws st time i (n - i)) r
      (chain_bytes ws st time (id_at ws i) (places_at ws i)) (messages_from ws st time (i + 1) (n - (i + 1))) (messages_cons ws st time n i h) b1 pos1

  pub messages_end : n ≤ i → (b ≡ wrote b₀ at (messages_from ws st time 0 n)) × (pos ≡ at + length (messages_from ws st time 0 n))
  messages_end h = end_by b₀ at (messages_from ws st time 0 n) b pos (messages_from ws st time i (n - i)) r (messages_over ws st time n i h)
