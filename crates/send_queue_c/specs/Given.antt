-- What a call gives: the number r, and what is left in each array, by the definition on the words. `out` is the array before the call. Assumes nothing.
use Rattle.std.specs.Prelude.{ℕ, ◌≡◌, List}
use Rattle.queue_streams.specs.Flag.{Flag}
use Rattle.queue_streams.specs.Number.{Number}
use Rattle.priority_plan.specs.PlannedPriorities.{PlannedPriorities}
use Rattle.queue_restarts.specs.Ready.{Readied}
use Rattle.chunks.specs.Writing.{Outcome}
use Rattle.chunks.specs.ChunkRead.{ChunkRead}
use Rattle.queue_streams.specs.Answers.{call_number, number_number, flag_number}
pub use Rattle.host_numbers.specs.Given.{Gives, GivesEvents, GivesStore, GivesFragment, GivesImage}
use Rattle.send_queue_c.specs.Numbers.{number_out, flag_out, ready_number, ready_ids, ready_out, planned_places}
use Rattle.send_queue_c.specs.Chunks.{written_number, written_out, read_number, read_out, read_places}

-- Ready ids.
pub record GivesIds (d : Readied) (ids out : List ℕ) (r : ℕ) (ws' ids' out' : List ℕ) : Type 0 where
  pub number : r ≡ ready_number d.answer
  pub queue : ws' ≡ d.next
  pub ready : ids' ≡ ready_ids ids d.answer
  pub places : out' ≡ ready_out out d.answer

-- Priorities for a wanted order.
pub record GivesPriorities (d : PlannedPriorities) (places : List ℕ) (r : ℕ) (places' : List ℕ) : Type 0 where
  pub number : r ≡ call_number d.answer
  pub priorities : places' ≡ planned_places places d

-- A chunk written, and one read.
pub record GivesWritten (d : Outcome) (out : List ℕ) (r : ℕ) (bs' out' : List ℕ) : Type 0 where
  pub number : r ≡ written_number d.answer
  pub output : bs' ≡ d.output
  pub places : out' ≡ written_out out d.answer

pub record GivesRead (d : ChunkRead) (out chunk : List ℕ) (r : ℕ) (out' chunk' : List ℕ) : Type 0 where
  pub number : r ≡ read_number d
  pub fragment : out' ≡ read_out out d
  pub places : chunk' ≡ read_places chunk d

-- A question for a number, and one for yes or no.
pub record GivesNumber (d : Number) (out : List ℕ) (r : ℕ) (out' : List ℕ) : Type 0 where
  pub number : r ≡ number_number d
  pub places : out' ≡ number_out out d

pub record GivesFlag (d : Flag) (out : List ℕ) (r : ℕ) (out' : List ℕ) : Type 0 where
  pub number : r ≡ flag_number d
  pub places : out' ≡ flag_out out d
