-- Message records from a place on: the first, then those from the place behind it. Assumes nothing.
use mathlib.Core.Path.{◌≡◌, refl, ap}
use mathlib.Core.List.{List, [], ◌∷◌}
use Prim.Native.Nat.{ℕ, zero, suc}
use Rattle.queue_model.specs.Image.{MessageRecord}
use Rattle.queue_state.specs.Model.{tab}
use Rattle.queue_state.proofs.Tabs.{tab_same}
use Rattle.handover_records.specs.Positions.{behind, message_place, record_at, messages_from}

pub place_step : (bs : List ℕ) (start k : ℕ) → message_place bs start (suc k) ≡ message_place bs (behind bs start) k
unfolding message_place
place_step bs start zero = refl
place_step bs start (suc k) = ap (λ (n : ℕ). behind bs n) (place_step bs start k)

pub messages_none : (bs : List ℕ) (start : ℕ) → messages_from bs start 0 ≡ []
unfolding messages_from tab
messages_none bs start = refl

pub messages_step : (bs : List ℕ) (start n : ℕ) → messages_from bs start (suc n) ≡ record_at bs start ∷ messages_from bs (behind bs start) n
unfolding messages_from tab message_place
messages_step bs start n =
    ap (λ (l : List MessageRecord). record_at bs start ∷ l)
    (tab_same n (λ k. record_at bs (message_place bs (behind bs start) k)) (λ k. record_at bs (message_place bs start (suc k))) (λ k _. ap (λ (p : ℕ). record_at bs p) (place_step bs start k)))
