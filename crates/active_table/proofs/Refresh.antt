-- The ways out of the functions of the choice in two levels, over plain values: a callee's result is a variable, what it ensures a hypothesis. Assumes nothing.
use mathlib.Core.Path.{◌≡◌, sym, ap, ◌∙◌, subst}
use mathlib.Core.Bool.{Bool, true, false}
use mathlib.Core.List.{List}
use Prim.Native.Nat.{ℕ, suc, ◌+◌, ◌-◌, ◌*◌, ◌/◌, ◌≤◌, ◌<◌}
use native.Mathlib.Omega.{arith}
use native.Mathlib.Nat.{sub-zero}
use lib.Dec.{ltb}
use borrow.Author.Tests.{lt-ltb, le-ltb, le-leb, lt-leb}
use Rattle.std.specs.Prelude.{if◌then◌else◌}
use Rattle.queue_words.specs.Header.{scheduler_at}
use Rattle.queue_words.specs.Leasts.{least_at, put_least}
use Rattle.queue_words.specs.declared.header.SchedulerState.{SchedulerState}
use Rattle.active_table.specs.declared.Best.{Best}
use Rattle.active_table.specs.Groups.{groups_of, count_in, best_at, best_in, best_over, few, least_known, is_fresh, stale_from, least_in, refreshed_at, group_fresh, refreshed}
use Rattle.active_table.specs.Parts.{rows_from}
use Rattle.active_table.specs.Rows.{best_among, best_to}
use Rattle.active_table.proofs.Choice.{least_from}

-- ---- the choice

module _ (ws : List ℕ) (n g : ℕ) (start r : Best) (count w : ℕ) (ec : count ≡ count_in g n) (ew : w ≡ least_at ws g) where
  pub in_fresh : w < count → r ≡ best_among (rows_from ws (g * 24 + w)) start (g * 24 + w) 1 → r ≡ best_in ws n g start
  unfolding best_in best_among
  in_fresh l e =
      let z : g * 24 + w + 0 ≡ g * 24 + w = omega arith in
      rw (e, z, ← ew, ← ec, lt-ltb _ _ l)

  pub in_stale : count ≤ w → r ≡ best_among (rows_from ws (g * 24)) start (g * 24) count → r ≡ best_in ws n g start
  unfolding best_in
  in_stale l e = rw (e, ← ew, ← ec, le-ltb _ _ l)

pub over_none : (ws : List ℕ) (n : ℕ) (b : Best) → b ≡ best_at ws 0 → b ≡ best_over ws n 0
unfolding best_over
over_none ws n b e = e

-- A full group is looked at as the last of its rows.
full_count : (g n : ℕ) → g * 24 + 24 ≤ n → count_in g (g * 24 + 24) ≡ count_in g n
full_count g n l = omega arith

module _ (ws : List ℕ) (n g : ℕ) (a b : Best) (ea : a ≡ best_over ws n g) where
  pub over_one : b ≡ best_in ws n g a → b ≡ best_over ws n (suc g)
  unfolding best_over
  over_one eb = rw (eb, ea)

  pub over_full : g * 24 + 24 ≤ n → b ≡ best_in ws (g * 24 + 24) g a → b ≡ best_over ws n (g + 1)
  unfolding best_in
  over_full l eb =
      let s : g + 1 ≡ suc g = omega arith in
      subst (λ (x : ℕ). b ≡ best_over ws n x) (sym s) (over_one (rw (eb, full_count g n l)))

-- The last group, which is not full.
module _ (ws : List ℕ) (n g : ℕ) (a : Best) (ea : a ≡ best_over ws n g) (l : n < g * 24 + 24) where
  pub over_last : (b : Best) → g * 24 < n → b ≡ best_in ws n g a → b ≡ best_over ws n (groups_of n)
  over_last b h eb =
      let t : groups_of n ≡ suc g = omega arith in
      subst (λ (x : ℕ). b ≡ best_over ws n x) (sym t) (over_one ws n g a b ea eb)

module _ (ws : List ℕ) (n : ℕ) (b : Best) where
  pub known_one : n ≤ few → b ≡ best_to ws (n - 1) → b ≡ least_known ws n
  unfolding least_known
  known_one l e = rw (le-leb _ _ l, e)

  pub known_over : few < n → b ≡ best_over ws n (groups_of n) → b ≡ least_known ws n
  unfolding least_known
  known_over l e = rw (lt-leb _ _ l, e)

-- ---- a group made fresh

pub fresh_is : (ws : List ℕ) (n g w count : ℕ) → w ≡ least_at ws g → count ≡ count_in g n → ltb w count ≡ is_fresh ws n g
fresh_is ws n g w count ew ec = rw (ew, ec)

-- What is sought is the first stale group from g on.
module _ (ws : List ℕ) (n : ℕ) where
  abbrev Left : ℕ → ℕ
  Left g = stale_from ws n g (groups_of n - g)

  pub stale_start : stale_from ws n 0 (groups_of n) ≡ Left 0
  stale_start = rw sub-zero

  module _ (g : ℕ) (inv : stale_from ws n 0 (groups_of n) ≡ Left g) where
    one : Bool → ℕ
    one b = if b then stale_from ws n (suc g) (groups_of n - suc g) else g

    step : g * 24 < n → Left g ≡ one (is_fresh ws n g)
    unfolding stale_from one
    step l =
        let s : groups_of n - g ≡ suc (groups_of n - suc g) = omega arith in
        ap (stale_from ws n g) s

    module _ (l : g * 24 < n) (b : Bool) (eb : b ≡ is_fresh ws n g) where
      pub stale_here : b ≡ false → g ≡ stale_from ws n 0 (groups_of n)
      unfolding one
      stale_here e = sym (inv ∙ step l ∙ ap one (sym eb ∙ e))

      fresh_past : b ≡ true → stale_from ws n 0 (groups_of n) ≡ Left (suc g)
      unfolding one
      fresh_past e = inv ∙ step l ∙ ap one (sym eb ∙ e)

    module _ (l : g * 24 + 24 ≤ n) (b : Bool) (eb : b ≡ is_fresh ws (g * 24 + 24) g) where
      full_is : b ≡ is_fresh ws n g
      full_is = rw (eb, full_count g n l)

      pub full_here : b ≡ false → g ≡ stale_from ws n 0 (groups_of n)
      full_here = stale_here (omega arith) b full_is

      pub full_past : b ≡ true → stale_from ws n 0 (groups_of n) ≡ Left (g + 1)
      full_past e =
          let s : g + 1 ≡ suc g = omega arith in
          fresh_past (omega arith) b full_is e ∙ ap Left (sym s)

    -- Nothing is left behind group g.
    module _ (l : n < g * 24 + 24) where
      pub stale_none : g * 24 ≤ n → n ≤ g * 24 → g ≡ stale_from ws n 0 (groups_of n)
      unfolding stale_from
      stale_none h m =
          let s : groups_of n - g ≡ 0 = omega arith in
          sym (inv ∙ ap (stale_from ws n g) s)

      pub last_past : g * 24 < n → (b : Bool) → b ≡ is_fresh ws n g → b ≡ true → g + 1 ≡ stale_from ws n 0 (groups_of n)
      unfolding stale_from
      last_past h b eb e =
          let s : groups_of n - suc g ≡ 0 = omega arith in
          let t : g + 1 ≡ suc g = omega arith in
          t ∙ sym (fresh_past h b eb e ∙ ap (stale_from ws n (suc g)) s)

pub least_in_is : (ws : List ℕ) (n g count : ℕ) (first best : Best) → count ≡ count_in g n → first ≡ best_at ws (g * 24) → best ≡ best_among (rows_from ws (g * 24)) first (g * 24) count → best ≡ least_in ws n g
unfolding least_in
least_in_is ws n g count first best ec ef eb = rw (eb, ef, ec)

pub least_place : (ws : List ℕ) (n g : ℕ) (best : Best) → best ≡ least_in ws n g → g * 24 ≤ best.at
least_place ws n g best e = subst (λ (x : Best). g * 24 ≤ x.at) (sym e) (least_from ws n g)

pub group_refreshed : (ws : List ℕ) (n g : ℕ) (best : Best) (l : List ℕ) → best ≡ least_in ws n g → l ≡ put_least ws g (best.at - g * 24) → l ≡ refreshed_at ws n g
unfolding refreshed_at
group_refreshed ws n g best l eb el = rw (el, eb)

module _ (ws : List ℕ) (n g k : ℕ) (ek : k ≡ groups_of n) where
  pub freshen_done : (us : List ℕ) → g < k → us ≡ refreshed_at ws n g → us ≡ group_fresh ws n g
  unfolding group_fresh
  freshen_done us l e =
      let f : g < groups_of n = omega arith in
      rw (lt-ltb _ _ f, e)

  pub freshen_none : k ≤ g → ws ≡ group_fresh ws n g
  unfolding group_fresh
  freshen_none l =
      let f : groups_of n ≤ g = omega arith in
      rw (le-ltb _ _ f)

-- The rows of the state that is loaded are as few.
pub few_rows : (ws : List ℕ) (s : SchedulerState) → s ≡ scheduler_at ws → (scheduler_at ws).active ≤ 256 → s.active ≤ 256
few_rows ws s es h = rw es h

module _ (ws : List ℕ) (at : ℕ) (s : SchedulerState) (es : s ≡ scheduler_at ws) (h : s.active ≤ 256) where
  pub refresh_few : s.active ≤ few → ws ≡ refreshed ws at
  unfolding refreshed
  refresh_few l = rw (← es, le-ltb _ _ h, le-leb _ _ l)

  pub refresh_both : (us : List ℕ) (g : ℕ) (vs : List ℕ) → few < s.active → us ≡ group_fresh ws s.active (at / 24)
      → g ≡ stale_from us s.active 0 (groups_of s.active) → vs ≡ group_fresh us s.active g → vs ≡ refreshed ws at
  unfolding refreshed
  refresh_both us g vs l eu eg ev = rw (← es, le-ltb _ _ h, lt-leb _ _ l, ev, eg, eu)
