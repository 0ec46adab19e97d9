-- A put that its test has accepted: what its parts ask, and its ways out. Assumes nothing.
use mathlib.Core.Path.{◌≡◌, refl, subst}
use mathlib.Core.List.{List}
use Prim.Native.Nat.{ℕ, ◌+◌, ◌-◌, ◌≤◌, ◌<◌}
use native.Mathlib.Omega.{arith}
use lib.ListN.{length}
use Rattle.queue_words.specs.Header.{totals_at}
use Rattle.queue_words.specs.declared.header.Gaps.{Gaps}
use Rattle.queue_words.specs.declared.header.Totals.{Totals}
use Rattle.payload_store.specs.Words.{used_of, gaps_of}
use Rattle.payload_store.specs.Gaps.{room, gap_for}
use Rattle.payload_store.specs.Putting.{put_code, put_elsewhere, put_payload, placed, Outcome}
use Rattle.payload_store.proofs.Clear.{for_ordered}
use Rattle.payload_store.proofs.Tests.{PutOk, put_may, put_known, put_other, out_end, out_elsewhere}

module _ (ws st bs : List ℕ) (i : ℕ) (h : put_code ws (length st) i (length bs) ≤ 1) (t : Totals) (et : t ≡ totals_at ws) where
  may : PutOk ws (length st) i (length bs)
  may = put_may ws (length st) i (length bs) h

  -- the gaps are in their order
  pub own_order : (t.gaps.from ≤ t.gaps.upto) × (t.gaps.end ≤ t.gaps.limit)
  own_order = rw et (may.ordered.from_in, may.ordered.end_in)

  module _ (g : Gaps) (eg : g ≡ gap_for t.gaps (length bs)) where
    gap_is : g ≡ gap_for (gaps_of ws) (length bs)
    gap_is = rw et at eg

    pub own_gap : g.end ≤ g.limit
    own_gap = rw gap_is (for_ordered (gaps_of ws) (length bs) (length st) may.ordered).end_in

    in_store : g.limit ≤ length st
    in_store = rw gap_is (for_ordered (gaps_of ws) (length bs) (length st) may.ordered).limit_in

    pub own_room : length bs ≤ g.limit - g.end → (i < 1024) × (g.end + length bs ≤ length st) × (used_of ws + length bs ≤ length st)
    own_room k = (may.row, omega (arith, own_gap, in_store), may.room)

    pub own_elsewhere : (i < 1024) × (used_of ws + length bs ≤ length st)
    own_elsewhere = (may.row, may.room)

    pub own_end : (o : Outcome) → length bs ≤ g.limit - g.end → o ≡ placed ws st g i bs → o ≡ put_payload ws st i bs
    own_end o k eo =
        out_end ws st bs i 0 (put_known ws (length st) i (length bs) h (subst (λ (x : Gaps). length bs ≤ room x) gap_is k)) o t g refl et eg eo

    pub own_other : (o : Outcome) → g.limit - g.end < length bs → o ≡ put_elsewhere ws st i bs → o ≡ put_payload ws st i bs
    own_other o k eo =
        out_elsewhere ws st bs i 1 (put_other ws (length st) i (length bs) h (subst (λ (x : Gaps). room x < length bs) gap_is k)) o refl eo
