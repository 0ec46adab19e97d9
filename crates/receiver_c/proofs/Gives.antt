-- From what a call promises of the words to what its C function gives, over plain values. Assumes nothing.
use mathlib.Core.Path.{◌≡◌, ap, ◌∙◌}
use mathlib.Core.List.{List}
use Prim.Native.Nat.{ℕ}
use Rattle.receiver_fragments.specs.Received.{Received}
use Rattle.receiver_fragments.specs.Fetched.{Fetched}
use Rattle.receiver_fragments.specs.Creating as creating
use Rattle.receiver_fragments.specs.Receiving as receiving
use Rattle.receiver_fragments.specs.Fetching as fetching
use Rattle.receiver_calls.specs.Answers.{received_number, fetched_number}
use Rattle.receiver_c.specs.Numbers.{received_out, fetched_out}
use Rattle.receiver_c.specs.Given.{GivesCreated, GivesReceived, GivesFetched}

pub gives_created : (d : creating.Outcome) (r : ℕ) (ws' : List ℕ) → creating.created r ws' ≡ d → GivesCreated d r ws'
gives_created d r ws' e = record {
  number = ap (λ (o : creating.Outcome). o.answer) e;
  receiver = ap (λ (o : creating.Outcome). o.words) e;
}

pub gives_received : (d : receiving.Outcome) (a : Received) (out : List ℕ) (r : ℕ) (ws' st' out' : List ℕ) → receiving.received a ws' st' ≡ d
    → (r ≡ received_number a) × (out' ≡ received_out out a) → GivesReceived d out r ws' st' out'
gives_received d a out r ws' st' out' e t =
    let ea : a ≡ d.answer = ap (λ (o : receiving.Outcome). o.answer) e in
    record {
      number = t.0 ∙ ap received_number ea;
      receiver = ap (λ (o : receiving.Outcome). o.words) e;
      store = ap (λ (o : receiving.Outcome). o.store) e;
      places = t.1 ∙ ap (received_out out) ea;
    }

pub gives_fetched : (d : fetching.Outcome) (a : Fetched) (out : List ℕ) (r : ℕ) (ws' bs' out' : List ℕ) → fetching.fetched a ws' bs' ≡ d
    → (r ≡ fetched_number a) × (out' ≡ fetched_out out a) → GivesFetched d out r ws' bs' out'
gives_fetched d a out r ws' bs' out' e t =
    let ea : a ≡ d.answer = ap (λ (o : fetching.Outcome). o.answer) e in
    record {
      number = t.0 ∙ ap fetched_number ea;
      receiver = ap (λ (o : fetching.Outcome). o.words) e;
      buffer = ap (λ (o : fetching.Outcome). o.buffer) e;
      places = t.1 ∙ ap (fetched_out out) ea;
    }
