-- The ways out of filling a packet from an owned queue. Assumes nothing.
use mathlib.Core.Path.{◌≡◌, refl, sym, subst}
use mathlib.Core.Bool.{Bool, true, false}
use mathlib.Core.List.{List}
use mathlib.Core.Logic.{◌⊎◌, inl, inr}
use Prim.Native.Nat.{ℕ, ◌≤◌, ◌<◌}
use native.Mathlib.Omega.{arith}
use borrow.Author.Tests.{lt-ltb, eq-eqb, ltb-false}
use lib.Dec.{ltb}
use lib.ListN.{length}
use Rattle.queue_words.specs.Flags.{pick}
use Rattle.queue_words.specs.Header.{options_at, totals_at}
use Rattle.queue_words.specs.declared.header.Options.{Options}
use Rattle.queue_words.specs.declared.header.Totals.{Totals}
use Rattle.queue_model.specs.Fill.{common_header_length}
use Rattle.queue_streams.specs.Events.{event_words}
use Rattle.queue_state.specs.Good.{Good}
use Rattle.chunks.specs.declared.chunk.ChunkKind.{ChunkKind}
use Rattle.packets.specs.Answers.{filled_of}
use Rattle.packets.specs.Filling.{kind_of, fill_code, filling_with, fill_on_words, filled_with_words, finished_answer, finished_packet, fill_packet}
use Rattle.packets.specs.declared.packet.Filled.{Filled}
use Rattle.packets.specs.declared.packet.Packet.{Packet}
use Rattle.packets.specs.PacketFilled as packet
use Rattle.packets.proofs.Cases.{filled_is}
use Rattle.linked_packets.specs.Meaning.{FillMeets}
use Rattle.linked_packets.proofs.Fills.{fill_meets}
use Rattle.owned_packets.specs.Filling.{lent_code, Lent, OnlyLent, MayFill, filling_of}
use Rattle.owned_packets.specs.declared.filling.Progress.{Progress}

-- ---- the refusals

-- they are these four, and no other: 2 and 16 are none of them
pub lent_listed : (code : ℕ) → Lent code → (code ≡ 20) ⊎ ((code ≡ 21) ⊎ ((code ≡ 3) ⊎ (code ≡ 4)))
lent_listed code l =
    go (ltb l.limit 36) (ltb 65535 l.limit) (ltb l.room l.limit) (ltb l.places event_words) (ltb 4611686018427387903 l.time) l.is_code
  where
    go : (a b c d f : Bool) → code ≡ pick a 20 (pick b 20 (pick c 21 (pick d 3 (pick f 4 0)))) → (code ≡ 20) ⊎ ((code ≡ 21) ⊎ ((code ≡ 3) ⊎ (code ≡ 4)))
    go true b c d f e = inl e
    go false true c d f e = inl e
    go false false true d f e = inr (inl e)
    go false false false true f e = inr (inr (inl e))
    go false false false false true e = inr (inr (inr e))
    go false false false false false e = absurd (omega (arith, e, l.is_refused))

refused_same : (i j : ℕ) → packet.Refused i ≡ packet.Refused j → i ≡ j
refused_same i j e = cc

pub filled_lent : (f : Filled) → OnlyLent (filled_of f)
filled_lent f n e = let z : ◌≡◌ {A = ℕ} 0 1 = cc e in absurd (omega arith)

-- What the arguments have settled where no check applies.
allows : (ws st es bs : List ℕ) (time limit : ℕ) → Good ws st → lent_code (length es) (length bs) time limit ≤ 0 → MayFill ws st es bs time limit
allows ws st es bs time limit g h =
    go (ltb limit 36) (ltb 65535 limit) (ltb (length bs) limit) (ltb (length es) event_words) (ltb 4611686018427387903 time) refl refl refl refl refl h
  where
    go : (a b c d f : Bool) → ltb limit 36 ≡ a → ltb 65535 limit ≡ b → ltb (length bs) limit ≡ c → ltb (length es) event_words ≡ d → ltb 4611686018427387903 time ≡ f
        → pick a 20 (pick b 20 (pick c 21 (pick d 3 (pick f 4 0)))) ≤ 0 → MayFill ws st es bs time limit
    go true b c d f ea eb ec ed ef h = absurd (omega arith)
    go false true c d f ea eb ec ed ef h = absurd (omega arith)
    go false false true d f ea eb ec ed ef h = absurd (omega arith)
    go false false false true f ea eb ec ed ef h = absurd (omega arith)
    go false false false false true ea eb ec ed ef h = absurd (omega arith)
    go false false false false false ea eb ec ed ef h = record {
      good = g;
      places = ltb-false (length es) event_words ed;
      in_time = ltb-false 4611686018427387903 time ef;
      header_fits = omega (arith, ltb-false limit 36 ea);
      limit_fits = ltb-false 65535 limit eb;
      packet_long = ltb-false (length bs) limit ec;
    }

-- ---- the call

module _ (ws st es bs : List ℕ) (time : ℕ) (p : Packet) (g : Good ws st) (code : ℕ) (ec : code ≡ lent_code (length es) (length bs) time p.limit) where
  -- The store is the queue's own, so the checked call judges alike.
  code_is : code ≡ fill_code ws (length st) (length es) (length bs) time p.limit
  unfolding fill_code
  code_is = rw (eq-eqb (options_at ws).store_length (length st) (sym g.store_is)) ec

  pub lent_of : 0 < code → Lent code
  lent_of h = record { places = length es; room = length bs; time = time; limit = p.limit; is_code = ec; is_refused = h }

  pub refused_lent : 0 < code → OnlyLent (packet.Refused code)
  refused_lent h n e = subst Lent (refused_same code n e) (lent_of h)

  pub out_refused : 0 < code → FillMeets ws st es bs time p (packet.Refused code) ws es bs
  unfolding fill_packet
  out_refused h = fill_meets ws st es bs time p (packet.Refused code) ws es bs refused_is
    where
      refused_is : filled_with_words (packet.Refused code) ws es bs ≡ fill_packet ws st es bs time p
      refused_is = rw (← code_is, lt-ltb 0 code h)

  module _ (h : code ≤ 0) where
    pub may_fill : MayFill ws st es bs time p.limit
    may_fill = allows ws st es bs time p.limit g (subst (λ (x : ℕ). x ≤ 0) ec h)

    pub out_filled : (o : Options) → o ≡ options_at ws → (t : Totals) → t ≡ totals_at ws → (k : ChunkKind) → k ≡ kind_of t.interleaving
        → (f : Progress) (us vs b : List ℕ) → filling_with (filling_of f) us vs b ≡ fill_on_words p.limit k st time p.limit o.payload_limit ws es bs common_header_length 0 0 p.tsn
        → (a : Filled) (b' : List ℕ) → (filled_of a ≡ finished_answer (filling_of f)) × (b' ≡ finished_packet p (filling_of f) b) → FillMeets ws st es bs time p (filled_of a) us vs b'
    out_filled o eo t et k ek f us vs b ef a b' ea =
        fill_meets ws st es bs time p (filled_of a) us vs b' (filled_is ws st es bs time p code code_is h o eo t et k ek (filling_of f) us vs b ef (filled_of a) b' ea.0 ea.1)
