-- Writing part by part: the rest written from here on is the whole written from the start on. Assumes nothing.
use mathlib.Core.Path.{◌≡◌, refl, ap, ◌∙◌}
use mathlib.Core.List.{List, [], ◌++◌}
use Prim.Native.Nat.{ℕ, ◌+◌, ◌≤◌}
use native.Mathlib.Omega.{arith}
use lib.ListN.{length, length-append}
use Rattle.big_endian.specs.Numbers.{wrote}
use Rattle.big_endian.proofs.Halves.{wrote_length, wrote_twice}
use Rattle.big_endian.proofs.Rows.{wrote_none}

-- b is the buffer so far, which was b₀; `rest` is to be written from `pos` on; `whole` was to be written from `at` on.
pub record Rest (b₀ : List ℕ) (at : ℕ) (whole b : List ℕ) (pos : ℕ) (rest : List ℕ) : Type 0 where
  pub same : length b ≡ length b₀
  pub is : wrote b pos rest ≡ wrote b₀ at whole
  pub ends : pos + length rest ≡ at + length whole
  pub fits : at + length whole ≤ length b₀

pub rest_start : (b₀ : List ℕ) (at : ℕ) (whole : List ℕ) → at + length whole ≤ length b₀ → Rest b₀ at whole b₀ at whole
rest_start b₀ at whole h = record { same = refl; is = refl; ends = refl; fits = h }

pub rest_room : (b₀ : List ℕ) (at : ℕ) (whole b : List ℕ) (pos : ℕ) (part rest : List ℕ) → Rest b₀ at whole b pos (part ++ rest) → pos + length part ≤ length b
rest_room b₀ at whole b pos part rest r =
    let l : length (part ++ rest) ≡ length part + length rest = length-append part rest in
    omega (arith, l, r.same, r.ends, r.fits)

pub rest_step : (b₀ : List ℕ) (at : ℕ) (whole b : List ℕ) (pos : ℕ) (part rest b1 : List ℕ) (pos1 : ℕ) → Rest b₀ at whole b pos (part ++ rest)
    → b1 ≡ wrote b pos part → pos1 ≡ pos + length part → Rest b₀ at whole b1 pos1 rest
rest_step b₀ at whole b pos part rest b1 pos1 r eb ep =
    let l : length (part ++ rest) ≡ length part + length rest = length-append part rest in
    let h : pos + length part + length rest ≤ length b = omega (arith, l, r.same, r.ends, r.fits) in
    let s : length (wrote b pos part) ≡ length b = wrote_length b pos part (omega (arith, h)) in
    record {
      same = ap length eb ∙ s ∙ r.same;
      is = rw (eb, ep) (wrote_twice b pos part rest h ∙ r.is);
      ends = omega (arith, ep, l, r.ends);
      fits = r.fits;
    }

pub rest_end : (b₀ : List ℕ) (at : ℕ) (whole b : List ℕ) (pos : ℕ) → Rest b₀ at whole b pos [] → (b ≡ wrote b₀ at whole) × (pos ≡ at + length whole)
rest_end b₀ at whole b pos r = (wrote_none b pos ∙ r.is, omega (arith, r.ends))

-- the same where the rest is known to be a part and more, or nothing
module _ (b₀ : List ℕ) (at : ℕ) (whole b : List ℕ) (pos : ℕ) (rest : List ℕ) (r : Rest b₀ at whole b pos rest) where
  pub room_by : (part more : List ℕ) → rest ≡ part ++ more → pos + length part ≤ length b
  room_by part more e = rest_room b₀ at whole b pos part more (rw e at r)

  pub step_by : (part more : List ℕ) → rest ≡ part ++ more → (b1 : List ℕ) (pos1 : ℕ) → b1 ≡ wrote b pos part → pos1 ≡ pos + length part → Rest b₀ at whole b1 pos1 more
  step_by part more e b1 pos1 eb ep = rest_step b₀ at whole b pos part more b1 pos1 (rw e at r) eb ep

  pub end_by : rest ≡ [] → (b ≡ wrote b₀ at whole) × (pos ≡ at + length whole)
  end_by e = rest_end b₀ at whole b pos (rw e at r)
