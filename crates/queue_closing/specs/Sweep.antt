-- Closing, second: dropping a chain of messages, and what that reports. Assumes nothing.
use Rattle.std.specs.Prelude.{ℕ, zero, suc, ◌-◌, ◌<◌, ◌≡◌, List, ltb}
use Rattle.queue_words.specs.Flags.{pick}
use Rattle.queue_words.specs.Items.{item_at}
use Rattle.payload_store.specs.Dropping.{drop_code_words}
use Rattle.message_chains.specs.Amounts.{rest}
use Rattle.message_chains.specs.Heads.{total_notes, released}
use Rattle.message_chains.specs.Notes.{Notes, low_noted, lifecycle_noted}
use Rattle.queue_closing.specs.declared.close.Sweep.{Sweep}

-- A chain half dropped: where the dropping is, the words, the list of events.
pub record Swept : Type 0 where
  pub at : Sweep
  pub next : List ℕ
  pub events : List ℕ

abbrev pub swept : Sweep → List ℕ → List ℕ → Swept
swept w ws es = record { at = w; next = ws; events = es }

-- "closing reports stream before total": message by message stream, total, then 3 and 4.
unfoldable pub swept_stream : List ℕ → ℕ → ℕ → Sweep → ℕ → Notes
swept_stream es id threshold w n = low_noted es w.count 1 id threshold w.amount (w.amount - n)

unfoldable pub swept_total : List ℕ → List ℕ → ℕ → ℕ → Sweep → ℕ → Notes
swept_total ws es id threshold w n = total_notes ws (swept_stream es id threshold w n).events (swept_stream es id threshold w n).count n

unfoldable pub sweep_notes : List ℕ → List ℕ → ℕ → ℕ → Sweep → ℕ → ℕ → Notes
sweep_notes ws es id threshold w n lifecycle =
    lifecycle_noted (swept_total ws es id threshold w n).events (swept_total ws es id threshold w n).count lifecycle

-- What the message in a place reports.
abbrev pub notes_at : List ℕ → List ℕ → ℕ → ℕ → ℕ → Sweep → Notes
notes_at ws es id threshold place w = sweep_notes ws es id threshold w (rest (item_at ws place)) (item_at ws place).lifecycle_id

-- The message in a place dropped.
unfoldable pub sweep_item_words : List ℕ → List ℕ → ℕ → ℕ → ℕ → Sweep → Swept
sweep_item_words ws es id threshold place w =
    swept
    (record {
      place = (item_at ws place).next;
      count = (notes_at ws es id threshold place w).count;
      amount = w.amount - rest (item_at ws place);
    })
    (released ws place (rest (item_at ws place)))
    (notes_at ws es id threshold place w).events

-- At most so many messages dropped; the dropping ends where no place of the table follows.
unfoldable pub sweep : ℕ → ℕ → Swept → ℕ → Swept
sweep id threshold x zero = x
sweep id threshold x (suc f) =
    pick (ltb 1023 x.at.place) x
    (sweep id threshold (sweep_item_words x.next x.events id threshold x.at.place x.at) f)

-- All messages dropped from a place on, of a stream with this amount: no event is written yet.
abbrev pub sweep_from : List ℕ → List ℕ → ℕ → ℕ → ℕ → ℕ → Swept
sweep_from ws es id threshold place amount = sweep id threshold (swept (record { place = place; count = 0; amount = amount }) ws es) 1024

-- Every message that so many steps of the dropping come to may go, in the words as they are then: 16 is not given.
unfoldable pub Goes : List ℕ → ℕ → ℕ → Type 0
Goes ws place zero = Unit {0}
Goes ws place (suc f) = place < 1024 → (drop_code_words ws place ≡ 0) × Goes (released ws place (rest (item_at ws place))) (item_at ws place).next f
