-- The next fragment is the model's. Assumes nothing.
use Rattle.std.specs.Prelude.{Some, None}
use Rattle.std.specs.Prelude.{ℕ, ◌≡◌, List, ◌++◌, map, length, drop}
use Rattle.std.proofs.Math.Option.{Option, none, some}
use Rattle.types.specs.Keys.{key_of}
use Rattle.queue_model.specs.Types.{Answer, refused, done, number, flag, ids, fragment, nothing_waits, filled, Fragment, Outcome, Step}
use Rattle.queue_model.specs.Answers.{answer_number, event_count, fragments_in}
use Rattle.queue_model.specs.Run as run
use Rattle.queue_streams.specs.Events.{places_in, written}
use Rattle.queue_sending.specs.declared.data.DataToSend.{DataToSend}
use Rattle.queue_words.specs.Items.{Expiry}
use Rattle.queue_sending.specs.Produced.{Produced}
use Rattle.queue_sending.specs.Produced as produced
use Rattle.queue_sending.specs.Data.{ProducedWith, produced_with, produced_number, produced_events, produced_data}
use Rattle.queue_sending.specs.Produce.{produce_next}
use Rattle.queue_state.specs.Model.{model}
use Rattle.queue_state.specs.Good.{Good}

-- "expiry time or never"
abbrev pub expiry_of : Option ℕ → Expiry
expiry_of none = None
expiry_of (some t) = Some t

-- What goes with the model's fragment; its bytes are in the lent buffer.
abbrev pub data_of : Fragment → DataToSend
data_of f = record {
  message_id = record { 0 = f.message_id };
  «data» = record {
    stream_key = key_of f.unordered (record { 0 = f.stream_id });
    ssn = record { 0 = f.ssn };
    mid = record { 0 = f.mid };
    fsn = record { 0 = f.fsn };
    ppid = f.ppid;
    is_beginning = f.first;
    is_end = f.last;
    length = length f.bytes;
  };
  max_retransmissions = f.max_retransmissions;
  expires_at = expiry_of f.expires_at;
  lifecycle_id = f.lifecycle_id;
}

-- The answer, with the count of the events.
abbrev pub produced_of : Answer → ℕ → Produced
produced_of (refused n) k = produced.Refused n
produced_of done k = produced.Nothing k
produced_of (number m) k = produced.Nothing k
produced_of (flag b) k = produced.Nothing k
produced_of (ids l) k = produced.Nothing k
produced_of (fragment f) k = produced.Fragment k (data_of f)
produced_of nothing_waits k = produced.Nothing k
produced_of (filled bs n) k = produced.Nothing k

-- The lent buffer with the fragment's bytes at its start; "places past what a call writes stay unchanged".
abbrev pub buffer_of : Answer → List ℕ → List ℕ
buffer_of (refused n) bs = bs
buffer_of done bs = bs
buffer_of (number m) bs = bs
buffer_of (flag b) bs = bs
buffer_of (ids l) bs = bs
buffer_of (fragment f) bs = f.bytes ++ drop (length f.bytes) bs
buffer_of nothing_waits bs = bs
buffer_of (filled cs n) bs = cs ++ drop (length cs) bs

-- What is left is a step of the model: its answer, its events in order, its fragment's bytes, its next queue.
pub record Sends (s : Step) (st es bs : List ℕ) (p : ProducedWith) : Type 0 where
  pub good : Good p.words st
  pub next : model p.words st ≡ s.next
  pub answer : p.answer ≡ produced_of s.outcome.answer (length s.outcome.events)
  pub events : p.events ≡ written es 0 s.outcome.events
  pub buffer : p.buffer ≡ buffer_of s.outcome.answer bs

-- "If an answer is an enum, a definition states this paper's number and values for each case of the enum. The promises use that definition." The number,
-- how many events it tells, what goes with the fragment: the model's.
pub record TellsFragment (o : Outcome) (r : Produced) : Type 0 where
  pub number : produced_number r ≡ answer_number o.answer
  pub events : produced_events r ≡ event_count o
  pub data_are : produced_data r ≡ map data_of (fragments_in o.answer)

-- The contract: the words for every input, and the model's step from good words.
pub record ProduceMeets (ws st es bs : List ℕ) (time size : ℕ) (r : Produced) (ws' es' bs' : List ℕ) : Type 0 where
  pub words : produced_with r ws' es' bs' ≡ produce_next ws st es bs time size
  pub tells : Good ws st → TellsFragment (run.step (run.produce (length st) (places_in es) (length bs) time size) (model ws st)).outcome r
  pub model : Good ws st → Sends (run.step (run.produce (length st) (places_in es) (length bs) time size) (model ws st)) st es bs (produced_with r ws' es' bs')
