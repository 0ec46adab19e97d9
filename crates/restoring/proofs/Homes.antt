-- A message hung to its home is hung to its stream, by cases of where the stream is found. Assumes nothing.
use mathlib.Core.Path.{◌≡◌, refl, sym, ap, ◌∙◌}
use mathlib.Core.List.{List}
use Prim.Native.Nat.{ℕ, ◌≤◌, ◌<◌}
use Rattle.std.specs.Prelude.{Some, None, Result, Ok, Err}
use Rattle.std.specs.Result.{result_ok}
use native.Mathlib.Omega.{arith}
use Rattle.queue_words.specs.declared.items.Item.{Item}
use Rattle.types.specs.declared.refusal.Refusal.{Refusal}
use Rattle.queue_streams.specs.Known.{placed, as_place, look_up}
use Rattle.queue_streams.specs.declared.known.Place as seat
use Rattle.queue_streams.specs.Place.{Place}
use Rattle.queue_streams.specs.Place as place
use Rattle.queue_streams.proofs.Exits.{look_row, look_new}
use Rattle.queue_messages.specs.Add.{made_known}
use Rattle.restoring.specs.declared.message_records.Home.{Home}
use Rattle.restoring.specs.Messages.{restored, hung, home_in, Homed, homed, as_home, home_of, hung_in, hung_with}

-- what the search for a stream answers
module _ (ws : List ℕ) (id : ℕ) where
  pub found : (r : Result seat.Place Refusal) (p : seat.Place) → as_place r ≡ look_up ws id → result_ok r ≡ Some p → placed p ≡ look_up ws id
  found (Ok q) p e o = let z : q ≡ p = cc in ap placed (sym z) ∙ e
  found (Err r) p e o = let z : ◌≡◌ {A = ℕ} 0 1 = cc in absurd (omega arith)

  pub lost : (r : Result seat.Place Refusal) → as_place r ≡ look_up ws id → result_ok r ≡ None → homed (as_home None ws) ws ≡ home_of ws id
  unfolding home_of
  lost (Ok q) e o = let z : ◌≡◌ {A = ℕ} 0 1 = cc in absurd (omega arith)
  lost (Err r) e o = rw (← e)

module _ (ws st : List ℕ) (id : ℕ) (m : Item) (bs : List ℕ) (n at : ℕ) (h : Home) (vs : List ℕ) where
  -- no row of the table: the stream has no place
  none : 255 < h.row → (p : Place) → p ≡ look_up ws id → homed h vs ≡ homed (home_in ws p) (made_known ws id p) → restored vs st at ≡ hung_in ws st id m bs n at p
  none l (place.Row row) q e = absurd (omega (arith, l, ap (λ (x : Homed). x.home.row) e, look_row ws id row (sym q)))
  none l (place.New position) q e = absurd (omega (arith, l, ap (λ (x : Homed). x.home.row) e, (look_new ws id position (sym q)).1))
  none l (place.Refused code) q e = ap (λ (x : Homed). restored x.words st at) e

  pub home_none : homed h vs ≡ home_of ws id → 255 < h.row → restored vs st at ≡ hung_with ws st id m bs n at
  unfolding home_of hung_with
  home_none e l = none l (look_up ws id) refl e

  -- a row of the table
  in_row : h.row ≤ 255 → (p : Place) → homed h vs ≡ homed (home_in ws p) (made_known ws id p) → hung vs st h.row h.stream m bs n at ≡ hung_in ws st id m bs n at p
  in_row l (place.Row row) e = ap (λ (x : Homed). hung x.words st x.home.row x.home.stream m bs n at) e
  in_row l (place.New position) e = ap (λ (x : Homed). hung x.words st x.home.row x.home.stream m bs n at) e
  in_row l (place.Refused code) e = absurd (omega (arith, l, ap (λ (x : Homed). x.home.row) e))

  pub home_hung : homed h vs ≡ home_of ws id → h.row ≤ 255 → hung vs st h.row h.stream m bs n at ≡ hung_with ws st id m bs n at
  unfolding home_of hung_with
  home_hung e l = in_row l (look_up ws id) e
