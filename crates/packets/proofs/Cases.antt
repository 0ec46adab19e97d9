-- Filling a packet: the ways out of the functions, over plain values: a callee's result is a variable, what it ensures a hypothesis. Assumes nothing.
use mathlib.Core.Path.{◌≡◌, refl, sym, ap, ap₂, ◌∙◌, subst}
use mathlib.Core.Bool.{Bool, true, false}
use mathlib.Core.List.{List, ◌++◌}
use Prim.Native.Nat.{ℕ, zero, suc, ◌+◌, ◌-◌, ◌≤◌, ◌<◌, min}
use native.Mathlib.Nat.{zero-add}
use native.Mathlib.Omega.{arith}
use borrow.Author.Tests.{eq-eqb, ne_eqb, le-ltb, ltb-false}
use lib.Dec.{eqb, ltb}
use lib.ListN.{length, take, drop, replicate, length-drop}
use lib.Seq.{length-take-le, drop-drop}
use Rattle.types.specs.Wrap.{wrap_suc}
use Rattle.queue_model.specs.Bytes.{row_bytes}
use Rattle.queue_model.specs.Chunks.{padding, padded}
use Rattle.queue_words.specs.Flags.{pick}
use Rattle.queue_words.specs.Header.{options_at, totals_at}
use Rattle.queue_words.specs.declared.header.Options.{Options}
use Rattle.queue_words.specs.declared.header.Totals.{Totals}
use Rattle.queue_model.specs.Fill.{rounded_down, common_header_length}
use Rattle.queue_streams.specs.Events.{event_words}
use Rattle.payload_store.proofs.Parts.{part_in}
use Rattle.queue_sending.specs.Data.{ProducedWith, produced_with}
use Rattle.queue_sending.specs.Produce.{produced_after}
use Rattle.queue_sending.specs.declared.data.Data.{Data}
use Rattle.queue_sending.specs.declared.data.DataToSend.{DataToSend}
use Rattle.queue_sending.specs.Produced.{Produced}
use Rattle.queue_sending.specs.Produced as produced
use Rattle.big_endian.specs.Numbers.{wrote}
use Rattle.chunks.specs.Layout.{header_size, header_widths, header_row, flags_of}
use Rattle.chunks.specs.declared.chunk.ChunkKind.{ChunkKind}
use Rattle.chunks.specs.declared.chunk.ChunkKind.TheVariants as kind
use Rattle.chunks.proofs.WriteCases.{header_length}
use Rattle.packets.specs.declared.packet.Packet.{Packet}
use Rattle.packets.specs.PacketFilled.{PacketFilled}
use Rattle.packets.specs.Filling.{Filling, kind_of, packet_code, events_code, fill_code, chunk_around, packet_after, around, one_filled, filling_with, reached, and_on_words, size_asked_words, fill_on_words, filled_with_words, finished_answer, finished_packet, finished, fill_packet}
use Rattle.packets.proofs.Within.{after_within}

-- ------------------------------------------------------------------ sizes

-- A chunk of at most the size asked for is within the limit.
pub chunk_room : (k : ChunkKind) (limit most used size n : ℕ) → size ≡ size_asked_words k limit most used → (size ≡ 0 → ⊥) → n ≤ size → used + padded (header_size k + n) ≤ limit
unfolding padding
chunk_room kind.Data limit most used zero n e z h = absurd (z refl)
chunk_room kind.Data limit most used (suc m) n e z h = omega (arith, e, h)
chunk_room kind.IData limit most used zero n e z h = absurd (z refl)
chunk_room kind.IData limit most used (suc m) n e z h = omega (arith, e, h)

pub size_room : (k : ChunkKind) (limit most used size : ℕ) → size ≡ size_asked_words k limit most used → (size ≡ 0 → ⊥) → used + padded (header_size k + size) ≤ limit
size_room k limit most used size e z = chunk_room k limit most used size size e z (omega arith)

-- Its length fits the 16 bits of its field.
pub field_room : (k : ChunkKind) (limit most used size : ℕ) → size ≡ size_asked_words k limit most used → (size ≡ 0 → ⊥) → limit ≤ 65535 → header_size k + size ≤ 65535
field_room k limit most used size e z h = omega (arith, size_room k limit most used size e z, h)

-- padding grows with the length
pub padded_more : (k : ChunkKind) (n m : ℕ) → n ≤ m → padded (header_size k + n) ≤ padded (header_size k + m)
unfolding padding
padded_more kind.Data n m h = omega (arith, h)
padded_more kind.IData n m h = omega (arith, h)

-- the size and the step that the code computes from the header's size
pub size_as : (k : ChunkKind) (limit most used header size : ℕ) → header ≡ header_size k → size ≡ min (rounded_down (limit - (used + header))) most → size ≡ size_asked_words k limit most used
size_as k limit most used header size e f = f ∙ ap (λ (n : ℕ). min (rounded_down (limit - (used + n))) most) e

pub step_as : (k : ChunkKind) (header n step : ℕ) → header ≡ header_size k → step ≡ padded (header + n) → step ≡ padded (header_size k + n)
step_as k header n step e f = f ∙ ap (λ (m : ℕ). padded (m + n)) e

-- ------------------------------------------------------------------ a chunk around its payload

pub around_is : (k : ChunkKind) (tsn : ℕ) (d : Data) (b l o : List ℕ) (at size end : ℕ) → size ≡ header_size k → end ≡ padded (size + d.length) → at + padded (header_size k + d.length) ≤ length b
    → l ≡ wrote (take (at + size - at) (drop at b)) 0 (row_bytes (header_widths k) (header_row k (flags_of d) 0 tsn d (size + d.length)))
    → o ≡ wrote (take at b ++ (l ++ drop (at + size - at) (drop at b))) (at + (size + d.length)) (replicate (end - (size + d.length)) 0)
    → o ≡ chunk_around k tsn d b at
unfolding chunk_around wrote
around_is k tsn d b l o at size end es ee h el eo =
    let n : ℕ = header_size k + d.length in
    let xs : List ℕ = row_bytes (header_widths k) (header_row k (flags_of d) 0 tsn d (size + d.length)) in
    let ys : List ℕ = row_bytes (header_widths k) (header_row k (flags_of d) 0 tsn d n) in
    let exy : xs ≡ ys = ap (λ (m : ℕ). row_bytes (header_widths k) (header_row k (flags_of d) 0 tsn d (m + d.length))) es in
    let lx : size ≡ length xs = es ∙ sym (header_length k (flags_of d) 0 tsn d (size + d.length)) in
    let part : List ℕ = take (at + size - at) (drop at b) in
    let el2 : l ≡ xs ++ drop (length xs) part = el ∙ ap (λ (m : ℕ). xs ++ drop m part) (zero-add (length xs)) in
    let q : end - (size + d.length) ≡ padding n = omega (arith, ee, ap (λ (j : ℕ). padding (j + d.length)) es) in
    let w : take at b ++ (l ++ drop (at + size - at) (drop at b)) ≡ wrote b at ys =
    part_in b xs l at size lx (omega (arith, es, h)) el2 ∙ ap (λ (m : ℕ). take at b ++ (xs ++ drop (at + m) b)) lx ∙ ap (λ (x : List ℕ). take at b ++ (x ++ drop (at + length x) b)) exy in
    eo ∙ ap (λ (x : List ℕ). wrote x (at + (size + d.length)) (replicate (end - (size + d.length)) 0)) w
    ∙ ap₂ (λ (i j : ℕ). wrote (wrote b at ys) (at + (i + d.length)) (replicate j 0)) es q

pub around_fits : (k : ChunkKind) (n size end at room : ℕ) → size ≡ header_size k → end ≡ padded (size + n) → at + padded (header_size k + n) ≤ room → at + (size + n) + (end - (size + n)) ≤ room
around_fits k n size end at room es ee h = omega (arith, ee, ap (λ (j : ℕ). padding (j + n)) es, es, h)

pub around_allowed : (k : ChunkKind) (n size at room : ℕ) → n ≤ size → header_size k + size ≤ 65535 → at + padded (header_size k + size) ≤ room → (header_size k + n ≤ 65535) × (at + padded (header_size k + n) ≤ room)
around_allowed k n size at room h i j = (omega (arith, h, i), omega (arith, padded_more k n size h, j))

-- ------------------------------------------------------------------ one call for the next fragment

-- a fragment is no longer than what was asked for
pub part_within : (ws st es part : List ℕ) (time size k : ℕ) (r : Produced) (us vs l : List ℕ) → produced_with r us vs l ≡ produced_after ws st es part time size k
    → (j : ℕ) (d : DataToSend) → r ≡ produced.Fragment j d → d.«data».length ≤ size
part_within ws st es part time size k r us vs l ep j d e = (after_within ws st es part time size k).within j d (ap (λ (p : ProducedWith). p.answer) (sym ep) ∙ e)

-- where the payload begins
pub start_is : (k : ChunkKind) (at size : ℕ) → size ≡ header_size k → at + size ≡ at + header_size k
start_is k at size e = ap (λ (n : ℕ). at + n) e

pub start_room : (k : ChunkKind) (at size header room : ℕ) → header ≡ header_size k → at + padded (header_size k + size) ≤ room → at + header + size ≤ room
start_room k at size header room e h = omega (arith, e, h)

-- the part that is lent is as long as the size asked for
pub part_length : (b : List ℕ) (start size : ℕ) → start + size ≤ length b → length (take (start + size - start) (drop start b)) ≡ size
part_length b start size h =
    let m : start + size - start ≡ size = omega arith in
    ap (λ (n : ℕ). length (take n (drop start b))) m ∙ length-take-le size (drop start b) (let a = length-drop start b in omega (arith, a, h))

module _ (k : ChunkKind) (st ws es b : List ℕ) (time at j₀ tsn size start : ℕ) (e₀ : start ≡ at + header_size k) (h : start + size ≤ length b)
    (r : Produced) (us vs l : List ℕ) (lt : length l ≡ size) (ep : produced_with r us vs l ≡ produced_after ws st es (take (start + size - start) (drop start b)) time size j₀) where
  -- what the call leaves, as the definition has it
  here : produced_with r us vs l ≡ produced_after ws st es (take size (drop (at + header_size k) b)) time size j₀
  here = let m : start + size - start ≡ size = omega arith in ep ∙ ap₂ (λ (i j : ℕ). produced_after ws st es (take i (drop j b)) time size j₀) m e₀

  back : take start b ++ (l ++ drop (start + size - start) (drop start b)) ≡ wrote b (at + header_size k) l
  unfolding wrote
  back =
      let m : start + size - start ≡ size = omega arith in
      ap (λ (i : ℕ). take start b ++ (l ++ drop i (drop start b))) m ∙ ap (λ (x : List ℕ). take start b ++ (l ++ x)) (drop-drop size start b)
      ∙ ap (λ (i : ℕ). take start b ++ (l ++ drop (start + i) b)) (sym lt) ∙ ap (λ (i : ℕ). take i b ++ (l ++ drop (i + length l) b)) e₀

  one_is : (o : List ℕ) → o ≡ packet_after k tsn (take start b ++ (l ++ drop (start + size - start) (drop start b))) at r → produced_with r us vs o ≡ one_filled k st time ws es b at j₀ tsn size
  unfolding one_filled
  one_is o eo =
      ap (λ (x : List ℕ). produced_with r us vs x) (eo ∙ ap (λ (x : List ℕ). packet_after k tsn x at r) back)
      ∙ ap (around k tsn b at) here

  pub one_fragment : (j : ℕ) (d : DataToSend) (o : List ℕ) → r ≡ produced.Fragment j d → o ≡ chunk_around k tsn d.«data» (take start b ++ (l ++ drop (start + size - start) (drop start b))) at
      → produced_with (produced.Fragment j d) us vs o ≡ one_filled k st time ws es b at j₀ tsn size
  one_fragment j d o e eo =
      ap (λ (x : Produced). produced_with x us vs o) (sym e) ∙ one_is o (eo ∙ ap (λ (x : Produced). packet_after k tsn (take start b ++ (l ++ drop (start + size - start) (drop start b))) at x) (sym e))

  pub one_nothing : (j : ℕ) → r ≡ produced.Nothing j → produced_with (produced.Nothing j) us vs (take start b ++ (l ++ drop (start + size - start) (drop start b))) ≡ one_filled k st time ws es b at j₀ tsn size
  one_nothing j e =
      let o : List ℕ = take start b ++ (l ++ drop (start + size - start) (drop start b)) in
      ap (λ (x : Produced). produced_with x us vs o) (sym e) ∙ one_is o (ap (λ (x : Produced). packet_after k tsn o at x) (sym e))

  pub one_refused : (code : ℕ) → r ≡ produced.Refused code → produced_with (produced.Refused code) us vs (take start b ++ (l ++ drop (start + size - start) (drop start b))) ≡ one_filled k st time ws es b at j₀ tsn size
  one_refused code e =
      let o : List ℕ = take start b ++ (l ++ drop (start + size - start) (drop start b)) in
      ap (λ (x : Produced). produced_with x us vs o) (sym e) ∙ one_is o (ap (λ (x : Produced). packet_after k tsn o at x) (sym e))

-- the answer of a call within a filling
pub one_within : (k : ChunkKind) (st ws es b : List ℕ) (time at j₀ tsn size : ℕ) (r : Produced) (us vs o : List ℕ) → produced_with r us vs o ≡ one_filled k st time ws es b at j₀ tsn size
    → (j : ℕ) (d : DataToSend) → r ≡ produced.Fragment j d → d.«data».length ≤ size
unfolding one_filled
one_within k st ws es b time at j₀ tsn size r us vs o ep j d e =
    (after_within ws st es (take size (drop (at + header_size k) b)) time size j₀).within j d (ap (λ (p : ProducedWith). p.answer) (sym ep) ∙ e)

-- ------------------------------------------------------------------ the loop

module _ (k : ChunkKind) (st : List ℕ) (time limit most : ℕ) (left : ℕ) (ws es b : List ℕ) (used j₀ chunks tsn : ℕ) where
  pub no_turn : left ≡ 0 → filling_with (reached used j₀ chunks 0) ws es b ≡ fill_on_words left k st time limit most ws es b used j₀ chunks tsn
  unfolding fill_on_words
  no_turn e = ap (λ (n : ℕ). fill_on_words n k st time limit most ws es b used j₀ chunks tsn) (sym e)

  -- by the number of turns
  turn_of : (P : ℕ → Type 0) → (left ≡ 0 → ⊥) → ((n : ℕ) → left ≡ suc n → P (suc n)) → P left
  turn_of P z h = go left refl
    where
      go : (m : ℕ) → left ≡ m → P left
      go zero e = absurd (z e)
      go (suc n) e = subst P (sym e) (h n e)

  module _ (z : left ≡ 0 → ⊥) (size : ℕ) (ez : size ≡ size_asked_words k limit most used) where
    full : (n : ℕ) → size ≡ 0 → filling_with (reached used j₀ chunks 0) ws es b ≡ fill_on_words (suc n) k st time limit most ws es b used j₀ chunks tsn
    unfolding fill_on_words
    full n e = rw (← ez, eq-eqb size 0 e)

    pub no_size : size ≡ 0 → filling_with (reached used j₀ chunks 0) ws es b ≡ fill_on_words left k st time limit most ws es b used j₀ chunks tsn
    no_size e = turn_of (λ (n : ℕ). filling_with (reached used j₀ chunks 0) ws es b ≡ fill_on_words n k st time limit most ws es b used j₀ chunks tsn) z (λ n g. full n e)

    module _ (nz : size ≡ 0 → ⊥) (r : Produced) (us vs o : List ℕ) (ep : produced_with r us vs o ≡ one_filled k st time ws es b used j₀ tsn size) where
      -- what a turn leads to
      turned : (n : ℕ) → and_on_words (λ (l v c : List ℕ) (u j m t : ℕ). fill_on_words n k st time limit most l v c u j m t) k used j₀ chunks tsn (produced_with r us vs o) ≡ fill_on_words (suc n) k st time limit most ws es b used j₀ chunks tsn
      unfolding fill_on_words
      turned n = rw (← ez, ne_eqb size 0 nz, ← ep)

      pub goes_on : (j : ℕ) (d : DataToSend) (step t : ℕ) → r ≡ produced.Fragment j d → step ≡ padded (header_size k + d.«data».length) → t ≡ wrap_suc 32 tsn
          → fill_on_words (left - 1) k st time limit most us vs o (used + step) j (chunks + 1) t ≡ fill_on_words left k st time limit most ws es b used j₀ chunks tsn
      goes_on j d step t e hs ht = turn_of (λ (n : ℕ). fill_on_words (n - 1) k st time limit most us vs o (used + step) j (chunks + 1) t ≡ fill_on_words n k st time limit most ws es b used j₀ chunks tsn) z (λ n g. go n)
        where
          go : (n : ℕ) → fill_on_words (suc n - 1) k st time limit most us vs o (used + step) j (chunks + 1) t ≡ fill_on_words (suc n) k st time limit most ws es b used j₀ chunks tsn
          go n =
              let m : suc n - 1 ≡ n = omega arith in
              ap (λ (i : ℕ). fill_on_words i k st time limit most us vs o (used + step) j (chunks + 1) t) m
              ∙ ap₂ (λ (i c : ℕ). fill_on_words n k st time limit most us vs o (used + i) j (chunks + 1) c) hs ht
              ∙ ap (λ (x : Produced). and_on_words (λ (l v c : List ℕ) (u j m t : ℕ). fill_on_words n k st time limit most l v c u j m t) k used j₀ chunks tsn (produced_with x us vs o)) (sym e)
              ∙ turned n

      pub ends_nothing : (j : ℕ) → r ≡ produced.Nothing j → filling_with (reached used j chunks 0) us vs o ≡ fill_on_words left k st time limit most ws es b used j₀ chunks tsn
      ends_nothing j e = turn_of (λ (n : ℕ). filling_with (reached used j chunks 0) us vs o ≡ fill_on_words n k st time limit most ws es b used j₀ chunks tsn) z
          (λ n g. ap (λ (x : Produced). and_on_words (λ (l v c : List ℕ) (u j m t : ℕ). fill_on_words n k st time limit most l v c u j m t) k used j₀ chunks tsn (produced_with x us vs o)) (sym e) ∙ turned n)

      pub ends_refused : (code : ℕ) → r ≡ produced.Refused code → filling_with (reached used j₀ chunks code) us vs o ≡ fill_on_words left k st time limit most ws es b used j₀ chunks tsn
      ends_refused code e = turn_of (λ (n : ℕ). filling_with (reached used j₀ chunks code) us vs o ≡ fill_on_words n k st time limit most ws es b used j₀ chunks tsn) z
          (λ n g. ap (λ (x : Produced). and_on_words (λ (l v c : List ℕ) (u j m t : ℕ). fill_on_words n k st time limit most l v c u j m t) k used j₀ chunks tsn (produced_with x us vs o)) (sym e) ∙ turned n)

-- ------------------------------------------------------------------ the call

-- The packet is judged before all else.
pub packet_refused : (room limit next code : ℕ) → code ≡ packet_code room limit 0 → 0 < code → packet_code room limit next ≡ code
packet_refused room limit next code e h = go (ltb limit 36) (ltb 65535 limit) (ltb room limit) e
  where
    go : (a b c : Bool) → code ≡ pick a 20 (pick b 20 (pick c 21 0)) → pick a 20 (pick b 20 (pick c 21 next)) ≡ code
    go true b c e = sym e
    go false true c e = sym e
    go false false true e = sym e
    go false false false e = absurd (omega (arith, h))

pub packet_passed : (room limit next code : ℕ) → code ≡ packet_code room limit 0 → code ≤ 0 → packet_code room limit next ≡ next
packet_passed room limit next code e h = go (ltb limit 36) (ltb 65535 limit) (ltb room limit) e
  where
    go : (a b c : Bool) → code ≡ pick a 20 (pick b 20 (pick c 21 0)) → pick a 20 (pick b 20 (pick c 21 next)) ≡ next
    go true b c e = absurd (omega (arith, h))
    go false true c e = absurd (omega (arith, h))
    go false false true e = absurd (omega (arith, h))
    go false false false e = refl

module _ (ws : List ℕ) (len places room time limit code : ℕ) (ec : code ≡ packet_code room limit 0) where
  pub judged_packet : 0 < code → code ≡ fill_code ws len places room time limit
  unfolding fill_code
  judged_packet h = sym (packet_refused room limit (pick (eqb (options_at ws).store_length len) (events_code places time) 2) code ec h)

  module _ (h : code ≤ 0) (o : Options) (eo : o ≡ options_at ws) where
    pub judged_store : (o.store_length ≡ len → ⊥) → 2 ≡ fill_code ws len places room time limit
    unfolding fill_code
    judged_store n = rw (← eo, ne_eqb o.store_length len n) (sym (packet_passed room limit 2 code ec h))

    pub judged_events : o.store_length ≡ len → (r : ℕ) → r ≡ events_code places time → r ≡ fill_code ws len places room time limit
    unfolding fill_code
    judged_events e r er = rw (← eo, eq-eqb o.store_length len e) (er ∙ sym (packet_passed room limit (events_code places time) code ec h))

-- What the arguments have settled where no check applies.
pub code_allows : (ws : List ℕ) (len places room time limit code : ℕ) → code ≡ fill_code ws len places room time limit → code ≤ 0
    → (event_words ≤ places) × ((36 ≤ limit) × ((limit ≤ 65535) × (limit ≤ room)))
unfolding fill_code
code_allows ws len places room time limit code ec h = by (ltb limit 36) (ltb 65535 limit) (ltb room limit) (eqb (options_at ws).store_length len) (ltb places event_words) _ refl refl refl refl (subst (λ (x : ℕ). x ≤ 0) ec h)
  where
    by : (a b c d e : Bool) (x : ℕ) → ltb limit 36 ≡ a → ltb 65535 limit ≡ b → ltb room limit ≡ c → ltb places event_words ≡ e → pick a 20 (pick b 20 (pick c 21 (pick d (pick e 3 x) 2))) ≤ 0
        → (event_words ≤ places) × ((36 ≤ limit) × ((limit ≤ 65535) × (limit ≤ room)))
    by true b c d e x ea eb ec ee h = absurd (omega (arith, h))
    by false true c d e x ea eb ec ee h = absurd (omega (arith, h))
    by false false true d e x ea eb ec ee h = absurd (omega (arith, h))
    by false false false false e x ea eb ec ee h = absurd (omega (arith, h))
    by false false false true true x ea eb ec ee h = absurd (omega (arith, h))
    by false false false true false x ea eb ec ee h = (ltb-false places event_words ee, (ltb-false limit 36 ea, (ltb-false 65535 limit eb, ltb-false room limit ec)))

pub filled_is : (ws st es bs : List ℕ) (time : ℕ) (p : Packet) (code : ℕ) → code ≡ fill_code ws (length st) (length es) (length bs) time p.limit → code ≤ 0
    → (o : Options) → o ≡ options_at ws → (t : Totals) → t ≡ totals_at ws → (k : ChunkKind) → k ≡ kind_of t.interleaving
    → (f : Filling) (us vs b : List ℕ) → filling_with f us vs b ≡ fill_on_words p.limit k st time p.limit o.payload_limit ws es bs common_header_length 0 0 p.tsn
    → (a : PacketFilled) (b' : List ℕ) → a ≡ finished_answer f → b' ≡ finished_packet p f b → filled_with_words a us vs b' ≡ fill_packet ws st es bs time p
unfolding fill_packet
filled_is ws st es bs time p code ec hc o eo t et k ek f us vs b ef a b' ea eb =
    rw (← ec, le-ltb 0 code hc)
    (ap₂ (λ (x : PacketFilled) (y : List ℕ). filled_with_words x us vs y) ea eb ∙ ap (finished p) (ef
    ∙ ap₂ (λ (x : ChunkKind) (y : Options). fill_on_words p.limit x st time p.limit y.payload_limit ws es bs common_header_length 0 0 p.tsn) (ek ∙ ap (λ (x : Totals). kind_of x.interleaving) et) eo))
