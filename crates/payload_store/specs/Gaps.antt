-- The known gaps of the store: whether they lie in it, which one a payload goes to, what a dropped payload adds. Assumes nothing.
use Rattle.std.specs.Prelude.{Bool, true, false, ℕ, ◌+◌, ◌-◌, ◌/◌, ◌%◌, ltb, leb, eqb}
use Rattle.queue_words.specs.Flags.{pick}
use Rattle.queue_words.specs.declared.header.Gaps.{Gaps}

abbrev pub gaps : ℕ → ℕ → ℕ → ℕ → Gaps
gaps e l f u = record { end = e; limit = l; from = f; upto = u }

-- the bytes of the gap at the end, and those of the second one
abbrev pub room : Gaps → ℕ
room g = g.limit - g.end

abbrev pub spare : Gaps → ℕ
spare g = g.upto - g.from

-- the second gap becomes the gap at the end, and there is no other
abbrev pub turned : Gaps → Gaps
turned g = gaps g.from g.upto 0 0

-- a gap lies outside a store of len bytes, or ends before its start
unfoldable pub gaps_wrong : Gaps → ℕ → Bool
gaps_wrong g len = pick (ltb len g.limit) true (pick (ltb g.limit g.end) true (pick (ltb len g.upto) true (ltb g.upto g.from)))

-- the second gap lies below the other, and has as many bytes as there are between them
unfoldable pub near : Gaps → Bool
near g = pick (ltb g.end g.upto) false (leb (g.end - g.upto) (spare g))

-- the gap that n bytes go to: the second one where it suffices and is near, or where the one at the end does not suffice
unfoldable pub gap_for : Gaps → ℕ → Gaps
gap_for g n =
    pick (ltb (spare g) n) g
    (pick (near g) (turned g)
    (pick (leb n (room g)) g (turned g)))

-- the second gap stays where n bytes elsewhere are free: it begins with a piece, as those that a search has found, has as many bytes, and more than half
-- of what the other one has
unfoldable pub keeps : Gaps → ℕ → Bool
keeps g n =
    pick (eqb g.from 0) false
    (pick (ltb 0 (g.from % 8192)) false
    (pick (ltb (spare g) n) false (ltb (room g / 2) (spare g))))

-- the gaps once the n bytes from p on are free: one grows where those begin at its upper end, else they are the second one, unless that stays; as they
-- are, where a word has no room for p + n
unfoldable pub gaps_left : Gaps → ℕ → ℕ → Gaps
gaps_left g p n =
    pick (ltb (18446744073709551615 - p) n) g
    (pick (eqb p g.limit) (gaps g.end (p + n) g.from g.upto)
    (pick (eqb p g.upto) (gaps g.end g.limit g.from (p + n))
    (pick (keeps g n) g (gaps g.end g.limit p (p + n)))))
