-- What is promised of the receiving head's calls on any words, any store and any bytes: "nothing changes in the queue or in any lent buffer when a call
-- is refused, and it gives back only the
-- number of document 01's list", to which document 02's numbers join. Assumes nothing.
use Rattle.std.specs.Prelude.{ℕ, ◌<◌, ◌≡◌, Bool, true, List, [], ◌∷◌}
use Rattle.receiver_model.specs.Lists.{member}
use Rattle.receiver_fragments.specs.Received as received
use Rattle.receiver_fragments.specs.Fetched as fetched
use Rattle.receiver_fragments.specs.Creating.{create}
use Rattle.receiver_fragments.specs.Fetching.{fetch}
use Rattle.receiver_calls.specs.Receiving.{receive}

-- "a lent store as in 01 (else 2)"
abbrev pub creation_numbers : List ℕ
creation_numbers = 2 ∷ []

-- "checked as 2, 19, 24, repeats, 22, 23"; 16 for words that no receiver has
abbrev pub receiving_numbers : List ℕ
receiving_numbers = 2 ∷ 19 ∷ 24 ∷ 22 ∷ 23 ∷ 16 ∷ []

-- "with 10 when its buffer is shorter"
abbrev pub fetching_numbers : List ℕ
fetching_numbers = 2 ∷ 10 ∷ 16 ∷ []

pub record CallsRefused : Type 0 where
  pub creation : (ws st : List ℕ) (i_data : Bool) (start : ℕ) → 0 < (create ws st i_data start).answer
      → ((create ws st i_data start).words ≡ ws) × (member (create ws st i_data start).answer creation_numbers ≡ true)
  pub receiving : (ws st bs : List ℕ) (n : ℕ) → (receive ws st bs).answer ≡ received.Refused n
      → ((receive ws st bs).words ≡ ws) × (((receive ws st bs).store ≡ st) × (member n receiving_numbers ≡ true))
  -- "Repeats change nothing"
  pub repeat : (ws st bs : List ℕ) → (receive ws st bs).answer ≡ received.Repeated → ((receive ws st bs).words ≡ ws) × ((receive ws st bs).store ≡ st)
  pub fetching : (ws st out : List ℕ) (n : ℕ) → (fetch ws st out).answer ≡ fetched.Refused n
      → ((fetch ws st out).words ≡ ws) × (((fetch ws st out).buffer ≡ out) × (member n fetching_numbers ≡ true))
  -- "or says that none is"
  pub none : (ws st out : List ℕ) → (fetch ws st out).answer ≡ fetched.NoneReady → ((fetch ws st out).words ≡ ws) × ((fetch ws st out).buffer ≡ out)
