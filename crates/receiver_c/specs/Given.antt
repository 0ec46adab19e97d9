-- What a call gives: the number r, and what is left in each array, by the definition on the words. `out` is the array before the call. Assumes nothing.
use Rattle.std.specs.Prelude.{ℕ, ◌≡◌, List}
use Rattle.receiver_fragments.specs.Creating as creating
use Rattle.receiver_fragments.specs.Receiving as receiving
use Rattle.receiver_fragments.specs.Fetching as fetching
use Rattle.receiver_calls.specs.Answers.{received_number, fetched_number}
use Rattle.receiver_c.specs.Numbers.{received_out, fetched_out}

pub record GivesCreated (d : creating.Outcome) (r : ℕ) (ws' : List ℕ) : Type 0 where
  pub number : r ≡ d.answer
  pub receiver : ws' ≡ d.words

pub record GivesReceived (d : receiving.Outcome) (out : List ℕ) (r : ℕ) (ws' st' out' : List ℕ) : Type 0 where
  pub number : r ≡ received_number d.answer
  pub receiver : ws' ≡ d.words
  pub store : st' ≡ d.store
  pub places : out' ≡ received_out out d.answer

pub record GivesFetched (d : fetching.Outcome) (out : List ℕ) (r : ℕ) (ws' bs' out' : List ℕ) : Type 0 where
  pub number : r ≡ fetched_number d.answer
  pub receiver : ws' ≡ d.words
  pub buffer : bs' ≡ d.buffer
  pub places : out' ≡ fetched_out out d.answer
