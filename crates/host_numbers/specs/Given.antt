-- What a call gives: the number r, and what is left in each array, by the definition on the words. `out` is the array before the call. Assumes nothing.
use Rattle.std.specs.Prelude.{ℕ, ◌≡◌, List}
use Rattle.queue_streams.specs.Settings.{Called, CalledWith}
use Rattle.queue_streams.specs.Answers.{call_number}
use Rattle.queue_messages.specs.Add.{Added}
use Rattle.queue_sending.specs.Data.{ProducedWith, produced_number}
use Rattle.saving.specs.Save.{SavedAs, saved_number}
use Rattle.host_numbers.specs.Numbers.{call_out, produced_out, saved_out}

-- A call that changes the words alone.
pub record Gives (d : Called) (r : ℕ) (ws' : List ℕ) : Type 0 where
  pub number : r ≡ call_number d.answer
  pub queue : ws' ≡ d.next

-- A call that writes events.
pub record GivesEvents (d : CalledWith) (out : List ℕ) (r : ℕ) (ws' es' out' : List ℕ) : Type 0 where
  pub number : r ≡ call_number d.answer
  pub queue : ws' ≡ d.next
  pub events : es' ≡ d.events
  pub places : out' ≡ call_out out d.answer

-- A call that writes payloads to the store.
pub record GivesStore (d : Added) (r : ℕ) (ws' st' : List ℕ) : Type 0 where
  pub number : r ≡ call_number d.answer
  pub queue : ws' ≡ d.words
  pub store : st' ≡ d.store

-- The next fragment.
pub record GivesFragment (d : ProducedWith) (out : List ℕ) (r : ℕ) (ws' es' bs' out' : List ℕ) : Type 0 where
  pub number : r ≡ produced_number d.answer
  pub queue : ws' ≡ d.words
  pub events : es' ≡ d.events
  pub buffer : bs' ≡ d.buffer
  pub places : out' ≡ produced_out out d.answer

-- Saving.
pub record GivesImage (d : SavedAs) (out : List ℕ) (r : ℕ) (b' out' : List ℕ) : Type 0 where
  pub number : r ≡ saved_number d.answer
  pub image : b' ≡ d.image
  pub places : out' ≡ saved_out out d.answer
