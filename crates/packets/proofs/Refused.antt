-- A refused filling leaves the queue, the list of events and the packet as they were, on any words; and its number. Assumes nothing.
use mathlib.Core.Path.{◌≡◌, refl, ap, ◌∙◌}
use mathlib.Core.Bool.{Bool, true, false}
use mathlib.Core.List.{List}
use Prim.Native.Nat.{ℕ, zero, suc, ◌+◌, ◌≤◌, ◌<◌}
use native.Mathlib.Omega.{arith}
use borrow.Author.Tests.{eqb-true, eqb-false, ltb-true, ltb-false}
use lib.Dec.{eqb, ltb}
use lib.ListN.{length, take, drop}
use Rattle.queue_words.specs.Flags.{pick}
use Rattle.queue_words.specs.Header.{options_at, totals_at}
use Rattle.types.specs.Wrap.{wrap_suc}
use Rattle.queue_model.specs.Chunks.{padded}
use Rattle.queue_model.specs.Fill.{common_header_length, common_header}
use Rattle.queue_sending.specs.Data.{ProducedWith}
use Rattle.queue_sending.specs.Produce.{produced_after}
use Rattle.queue_sending.specs.Produced.{Produced}
use Rattle.queue_sending.specs.Produced as produced
use Rattle.queue_sending.proofs.Passes.{after_refused}
use Rattle.big_endian.specs.Numbers.{wrote}
use Rattle.chunks.specs.Layout.{header_size}
use Rattle.chunks.specs.declared.chunk.ChunkKind.{ChunkKind}
use Rattle.packets.specs.declared.packet.Packet.{Packet}
use Rattle.packets.specs.PacketFilled as packet
use Rattle.packets.specs.Filling.{Filling, packet_of, kind_of, fill_code, packet_after, one_filled, FillingWith, filling_with, reached, after_one, and_on_words, size_asked_words, fill_on_words, FilledWith, filled_with_words, finished_answer, finished_packet, finished, fill_packet}
use Rattle.packets.proofs.Cases.{size_room, code_allows}
use Rattle.packets.proofs.Places.{wrote_same}

-- ------------------------------------------------------------------ the first call

module _ (k : ChunkKind) (st : List ℕ) (time limit most : ℕ) where
  -- No chunk is taken back.
  pub grows : (n : ℕ) (ws es bs : List ℕ) (used j chunks tsn : ℕ) → chunks ≤ (fill_on_words n k st time limit most ws es bs used j chunks tsn).progress.chunks
  unfolding fill_on_words
  grows zero ws es bs used j chunks tsn = omega arith
  grows (suc n) ws es bs used j chunks tsn = go (λ l v b u i c t. grows n l v b u i c t) (eqb (size_asked_words k limit most used) 0)
    where
      p : ProducedWith
      p = one_filled k st time ws es bs used j tsn (size_asked_words k limit most used)

      Again : Type 0
      Again = (l v b : List ℕ) (u i c t : ℕ) → c ≤ (fill_on_words n k st time limit most l v b u i c t).progress.chunks

      on : Again → (r : Produced) → chunks ≤ (after_one (λ (l v b : List ℕ) (u i c t : ℕ). fill_on_words n k st time limit most l v b u i c t) k used j chunks tsn p.words p.events p.buffer r).progress.chunks
      on g (produced.Fragment i d) = let h = g p.words p.events p.buffer (used + padded (header_size k + d.«data».length)) i (chunks + 1) (wrap_suc 32 tsn) in omega (arith, h)
      on g (produced.Nothing i) = omega arith
      on g (produced.Refused code) = omega arith

      go : Again → (b : Bool) → chunks ≤ (pick b (filling_with (reached used j chunks 0) ws es bs) (and_on_words (λ (l v b : List ℕ) (u i c t : ℕ). fill_on_words n k st time limit most l v b u i c t) k used j chunks tsn p)).progress.chunks
      go g true = omega arith
      go g false = on g p.answer

  -- Where no chunk is written and a call was refused, it was the first one, and all is as it was.
  pub record Stays (ws es bs : List ℕ) (f : FillingWith) : Type 0 where
    pub same_words : f.words ≡ ws
    pub same_events : f.events ≡ es
    pub same_packet : f.packet ≡ bs

  first_refused : (ws es bs : List ℕ) (used j tsn size code : ℕ) → used + header_size k + size ≤ length bs → (one_filled k st time ws es bs used j tsn size).answer ≡ produced.Refused code
      → (f : Filling) → Stays ws es bs (filling_with f (one_filled k st time ws es bs used j tsn size).words (one_filled k st time ws es bs used j tsn size).events (one_filled k st time ws es bs used j tsn size).buffer)
  unfolding one_filled
  first_refused ws es bs used j tsn size code h e f =
      let part : List ℕ = take size (drop (used + header_size k) bs) in
      let q : ProducedWith = produced_after ws st es part time size j in
      let s = (after_refused ws st es part time size j).stays code e in
      record {
        same_words = s.0;
        same_events = s.1;
        same_packet = ap (packet_after k tsn (wrote bs (used + header_size k) q.buffer) used) e ∙ ap (wrote bs (used + header_size k)) s.2 ∙ wrote_same bs (used + header_size k) size h;
      }

  pub refused_first : (n : ℕ) (ws es bs : List ℕ) (used j tsn : ℕ) → limit ≤ length bs → let f = fill_on_words n k st time limit most ws es bs used j 0 tsn in f.progress.chunks ≡ 0 → 0 < f.progress.code → Stays ws es bs f
  unfolding fill_on_words
  refused_first zero ws es bs used j tsn l c h = absurd (omega (arith, h))
  refused_first (suc n) ws es bs used j tsn l c h = go (eqb (size_asked_words k limit most used) 0) refl c h
    where
      p : ProducedWith
      p = one_filled k st time ws es bs used j tsn (size_asked_words k limit most used)

      on : (eqb (size_asked_words k limit most used) 0 ≡ false) → (r : Produced) → p.answer ≡ r
          → let f = after_one (λ (l v b : List ℕ) (u i c t : ℕ). fill_on_words n k st time limit most l v b u i c t) k used j 0 tsn p.words p.events p.buffer r in f.progress.chunks ≡ 0 → 0 < f.progress.code → Stays ws es bs f
      on z (produced.Fragment i d) e c h = let g = grows n p.words p.events p.buffer (used + padded (header_size k + d.«data».length)) i 1 (wrap_suc 32 tsn) in absurd (omega (arith, g, c))
      on z (produced.Nothing i) e c h = absurd (omega (arith, h))
      on z (produced.Refused code) e c h =
          first_refused ws es bs used j tsn (size_asked_words k limit most used) code (let r = size_room k limit most used (size_asked_words k limit most used) refl (eqb-false (size_asked_words k limit most used) 0 z) in omega (arith, r, l)) e (reached used j 0 code)

      go : (b : Bool) → eqb (size_asked_words k limit most used) 0 ≡ b
          → let f = pick b (filling_with (reached used j 0 0) ws es bs) (and_on_words (λ (l v b : List ℕ) (u i c t : ℕ). fill_on_words n k st time limit most l v b u i c t) k used j 0 tsn p) in f.progress.chunks ≡ 0 → 0 < f.progress.code → Stays ws es bs f
      go true z c h = absurd (omega (arith, h))
      go false z c h = on z p.answer refl c h

-- ------------------------------------------------------------------ the call

-- Refused, all is as it was.
pub record FillStays (ws es bs : List ℕ) (f : FilledWith) : Type 0 where
  pub stays : (code : ℕ) → f.answer ≡ packet.Refused code → (f.words ≡ ws) × ((f.events ≡ es) × (f.packet ≡ bs))

-- what was filled is not refused
filled_other : (k bytes chunks code : ℕ) → packet.Filled k bytes chunks ≡ packet.Refused code → ⊥
filled_other k bytes chunks code e = let z : ◌≡◌ {A = ℕ} 0 1 = cc in omega arith

finished_stays : (p : Packet) (ws es bs : List ℕ) (f : FillingWith) → (f.progress.chunks ≡ 0 → 0 < f.progress.code → (f.words ≡ ws) × ((f.events ≡ es) × (f.packet ≡ bs))) → FillStays ws es bs (finished p f)
unfolding finished_answer finished_packet
finished_stays p ws es bs f h = go (eqb f.progress.chunks 0) (ltb 0 f.progress.code) refl refl
  where
    r : Filling
    r = f.progress

    go : (a b : Bool) → eqb r.chunks 0 ≡ a → ltb 0 r.code ≡ b
        → FillStays ws es bs (filled_with_words (pick a (pick b (packet.Refused r.code) (packet.Filled r.events 0 0)) (packet.Filled r.events r.used r.chunks)) f.words f.events (pick a f.packet (wrote f.packet 0 (common_header (packet_of p)))))
    go true true ea eb = record { stays = λ code e. h (eqb-true r.chunks 0 ea) (ltb-true 0 r.code eb) }
    go true false ea eb = record { stays = λ code e. absurd (filled_other r.events 0 0 code e) }
    go false b ea eb = record { stays = λ code e. absurd (filled_other r.events r.used r.chunks code e) }

pub fill_refused_lem : (ws st es bs : List ℕ) (time : ℕ) (p : Packet) → FillStays ws es bs (fill_packet ws st es bs time p)
unfolding fill_packet
fill_refused_lem ws st es bs time p = go (ltb 0 code) refl
  where
    code : ℕ
    code = fill_code ws (length st) (length es) (length bs) time p.limit

    f : FillingWith
    f = fill_on_words p.limit (kind_of (totals_at ws).interleaving) st time p.limit (options_at ws).payload_limit ws es bs common_header_length 0 0 p.tsn

    go : (b : Bool) → ltb 0 (fill_code ws (length st) (length es) (length bs) time p.limit) ≡ b → FillStays ws es bs (pick b (filled_with_words (packet.Refused code) ws es bs) (finished p f))
    go true e = record { stays = λ c z. (refl, (refl, refl)) }
    go false e =
        let allowed = code_allows ws (length st) (length es) (length bs) time p.limit _ refl (ltb-false 0 _ e) in
        finished_stays p ws es bs f (λ c h. let s = refused_first (kind_of (totals_at ws).interleaving) st time p.limit (options_at ws).payload_limit p.limit ws es bs common_header_length 0 p.tsn allowed.1.1.1 c h in (s.same_words, (s.same_events, s.same_packet)))
