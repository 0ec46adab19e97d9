-- What a call gives that is never refused: its value, and what is left in each array, by the definition on the words. Assumes nothing.
use Rattle.std.specs.Prelude.{ℕ, ◌≡◌, List}
use Rattle.queue_streams.specs.Call.{Accepted}
use Rattle.queue_restarts.specs.Ready.{Readied}
use Rattle.host_numbers.specs.Numbers.{with_first}

-- Ready ids: how many, and they themselves in the first places.
pub record GivesReady (d : Readied) (ids : List ℕ) (r : ℕ) (ws' ids' : List ℕ) : Type 0 where
  pub accepted : d.answer.answer ≡ Accepted 0
  pub count : r ≡ d.answer.count
  pub queue : ws' ≡ d.next
  pub ready : ids' ≡ with_first ids d.answer.count d.answer.ids
