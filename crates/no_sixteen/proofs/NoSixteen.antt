-- No calls lead to 16, and a typed call that shows it was handed a state that no calls lead to (specs/NoSixteen). Assumes nothing.
use mathlib.Core.Path.{◌≡◌, refl, ap, subst}
use mathlib.Core.Bool.{Bool, true, false}
use mathlib.Core.List.{[], ◌∷◌}
use Prim.Native.Nat.{ℕ}
use borrow.Author.Tests.{eqb-true}
use lib.Dec.{eqb}
use Rattle.queue_streams.specs.Answers.{call_number}
use Rattle.queue_streams.specs.Call.{Call}
use Rattle.queue_streams.specs.Call as call
use Rattle.queue_runs.specs.Calls as calls
use Rattle.queue_runs.specs.Run.{State}
use Rattle.queue_runs.specs.Creation.{Arguments, creation, sixteen}
use Rattle.queue_runs.specs.Numbers.{among}
use Rattle.queue_runs.specs.Refusals.{call_refused}
use Rattle.queue_runs.proofs.Sixteen.{good_no_sixteen}
use Rattle.queue_images.proofs.Listed.{create_refusals}
use Rattle.receiver_runs.proofs.Runs.{linked}
use Rattle.no_sixteen.specs.Shows.{create_shows}
use Rattle.no_sixteen.specs.NoSixteen.{NoCallsLead, SixteenMeans}
use Rattle.no_sixteen.proofs.Calls.{good_call, good_start, never}
use Rattle.no_sixteen.proofs.Saving.{good_saving}
use Rattle.no_sixteen.proofs.Handler.{good_use, good_uses}
use Rattle.no_sixteen.proofs.Leads.{led_good, broken, calls_lead}
use Rattle.no_sixteen.proofs.Receiver.{led_not, creation_not}

-- ---- creation gives 1 or 2

unlisted : (n : ℕ) → among n (1 ∷ 2 ∷ []) ≡ true → eqb n 16 ≡ false
unlisted n e = go (eqb n 16) refl
  where
    go : (b : Bool) → eqb n 16 ≡ b → b ≡ false
    go false d = refl
    go true d = absurd (never (subst (λ (x : ℕ). among x (1 ∷ 2 ∷ []) ≡ true) (eqb-true n 16 d) e) refl)

create_not : (a : Arguments) (s : State) → create_shows a s ≡ false
create_not a s = go (creation a s).answer refl
  where
    go : (r : Call) → (creation a s).answer ≡ r → sixteen (calls.called r) ≡ false
    go (call.Accepted k) e = refl
    go (call.Refused n) e = unlisted n (subst (λ (r : Call). among (call_number r) (1 ∷ 2 ∷ []) ≡ true) e (create_refusals a s (ap call_refused e)).listed)

-- ---- the theorems

pub no_calls_lead : NoCallsLead
no_calls_lead = record {
  calls = λ a s cs h t. good_no_sixteen cs s (good_start a s h) t;
  calls_lead = calls_lead;
  later_calls = λ s cs l t. good_no_sixteen cs s (led_good s l) t;
  saving = λ s buffer time l. good_saving s buffer time (led_good s l);
  handler = λ s h us l t. good_uses us _ (led_good s l) t;
  receiver = λ i_data tsn s cs h t. (linked i_data tsn s cs h t).no_sixteen;
  creation = create_not;
  receiver_creation = creation_not;
}

pub sixteen_means : SixteenMeans
sixteen_means = record {
  calls = λ c s t e. broken s (λ g. never e (good_call c s g t));
  saving = λ s buffer time e. broken s (λ g. never e (good_saving s buffer time g));
  handler = λ u p t e. broken p.queue (λ g. never e (good_use u p g t));
  receiver = λ c s t e l. never e (led_not c s l t);
}
