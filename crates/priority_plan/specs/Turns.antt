-- The order in which streams get their first fragments, read off what calls show. Assumes nothing.
use Rattle.std.specs.Prelude.{◌≡◌, Bool, true, false, ◌||◌, List, [], ◌∷◌, ◌++◌, map, ℕ, eqb}
use Rattle.std.proofs.Math.Option.{Option, none, some}
use Rattle.std.specs.Prelude.{if◌then◌else◌}
use Rattle.queue_model.specs.Logic.{any}
use Rattle.queue_model.specs.Types.{Answer, refused, done, number, flag, ids, fragment, nothing_waits, filled, Outcome, expired}
use Rattle.queue_model.specs.Add.{expiry}
use Rattle.priority_plan.specs.Works.{PlannedStream, All}
use Rattle.priority_plan.specs.Jobs.{Adding}

-- ------------------------------------------------------------------ the order of the first fragments

-- The stream of a fragment that an answer gives, and whether it says that nothing waits.
abbrev pub shown : Answer → Option ℕ
shown (refused n) = none
shown done = none
shown (number n) = none
shown (flag b) = none
shown (ids ks) = none
shown (fragment f) = some f.stream_id
shown nothing_waits = none
shown (filled bs n) = none

abbrev pub says_nothing : Answer → Bool
says_nothing (refused n) = false
says_nothing done = false
says_nothing (number n) = false
says_nothing (flag b) = false
says_nothing (ids ks) = false
says_nothing (fragment f) = false
says_nothing nothing_waits = true
says_nothing (filled bs n) = false

-- A list without the first place of a number.
unfoldable pub remove : ℕ → List ℕ → List ℕ
remove s [] = []
remove s (i ∷ is) = if eqb i s then is else i ∷ remove s is

-- The streams of the fragments that outcomes show, in order.
abbrev pub and_shown : Option ℕ → List ℕ → List ℕ
and_shown none ss = ss
and_shown (some s) ss = s ∷ ss

unfoldable pub streams_shown : List Outcome → List ℕ
streams_shown [] = []
streams_shown (o ∷ os) = and_shown (shown o.answer) (streams_shown os)

-- The streams of a list in the order of their first fragments, and those that have none yet, as they stand in the list.
unfoldable pub firsts : List ℕ → List ℕ → List ℕ
unfolding any remove
firsts is [] = []
firsts is (s ∷ ss) = if any (eqb s) is then s ∷ firsts (remove s is) ss else firsts is ss

unfoldable pub still_without : List ℕ → List ℕ → List ℕ
unfolding remove
still_without is [] = is
still_without is (s ∷ ss) = still_without (remove s is) ss

-- Whether a call of a run finds that nothing waits.
unfoldable pub ends : List Outcome → Bool
ends [] = false
ends (o ∷ os) = says_nothing o.answer || ends os

-- The streams get their first fragments in the list's order, by the streams of the fragments shown: those that have had one are the list's first, in its
-- order, and the others
-- are the rest of the list. Where a call finds that nothing waits, all have had theirs.
pub record ServedInTurn (is ks : List ℕ) (ended : Bool) : Type 0 where
  pub in_turn : is ≡ firsts is ks ++ still_without is ks
  pub all_served : ended ≡ true → still_without is ks ≡ []

abbrev pub InTurn : List ℕ → List Outcome → Type 0
InTurn is os = ServedInTurn is (streams_shown os) (ends os)

abbrev pub stream_ids : List PlannedStream → List ℕ
stream_ids hs = map (λ (h : PlannedStream). h.stream_id) hs

-- A message that is added has not expired at a time: "a lifetime sets now + lifetime + 1 ms, else never".
abbrev pub Lasting : ℕ → List Adding → Type 0
Lasting time as' = All (λ (a : Adding). expired time (expiry a.now a.message.lifetime) ≡ false) as'
