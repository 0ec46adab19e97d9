-- What goes with a fragment, and what the call leaves. Assumes nothing.
use Rattle.std.specs.Prelude.{ℕ, Bool, List, [], ◌∷◌, eqb}
use Rattle.types.specs.Keys.{key_of}
use Rattle.queue_words.specs.Flags.{pick}
use Rattle.queue_words.specs.Items.{mid_in, ssn_in}
use Rattle.queue_words.specs.declared.items.Item.{Item}
use Rattle.message_chains.specs.Amounts.{rest}
use Rattle.queue_sending.specs.declared.data.Data.{Data}
use Rattle.queue_sending.specs.declared.data.DataToSend.{DataToSend}
use Rattle.queue_sending.specs.Produced.{Produced}
use Rattle.queue_sending.specs.Produced as produced

-- "Only the last fragment shows the lifecycle id."
unfoldable pub shown_lifecycle : Item → Bool → ℕ
shown_lifecycle m last = pick last m.lifecycle_id 0

-- "First means offset 0; last means that nothing remains."
abbrev pub data_of : ℕ → Item → ℕ → Data
data_of id m n = record {
  stream_key = key_of m.unordered (record { 0 = id });
  ssn = ssn_in m.numbers;
  mid = mid_in m.numbers;
  fsn = m.fsn;
  ppid = m.ppid;
  is_beginning = eqb m.offset 0;
  is_end = eqb n (rest m);
  length = n;
}

-- "With it go message id, stream, unordered mark, the three counters, protocol id, first and last marks, retransmissions, expiry time or never, and
-- lifecycle id": of
-- a fragment of n bytes of a numbered message.
unfoldable pub data_to_send : ℕ → Item → ℕ → DataToSend
data_to_send id m n = record {
  message_id = m.message_id;
  «data» = data_of id m n;
  max_retransmissions = m.max_retransmissions;
  expires_at = m.expires_at;
  lifecycle_id = shown_lifecycle m (eqb n (rest m));
}

-- What the call leaves: its answer, the words, the lent list of events, the lent fragment buffer.
pub record ProducedWith : Type 0 where
  pub answer : Produced
  pub words : List ℕ
  pub events : List ℕ
  pub buffer : List ℕ

abbrev pub produced_with : Produced → List ℕ → List ℕ → List ℕ → ProducedWith
produced_with a ws es bs = record { answer = a; words = ws; events = es; buffer = bs }

-- refused with a number of document 01's list
abbrev pub refused_with : ℕ → List ℕ → List ℕ → List ℕ → ProducedWith
refused_with code ws es bs = produced_with (produced.Refused code) ws es bs

-- The number of an answer: 0 where the call is accepted, else the refusal's of document 01.
abbrev pub produced_number : Produced → ℕ
produced_number (produced.Nothing k) = 0
produced_number (produced.Fragment k d) = 0
produced_number (produced.Refused n) = n

-- Its values: how many events it tells, and what goes with the fragment, if there is one.
abbrev pub produced_events : Produced → ℕ
produced_events (produced.Nothing k) = k
produced_events (produced.Fragment k d) = k
produced_events (produced.Refused n) = 0

abbrev pub produced_data : Produced → List DataToSend
produced_data (produced.Nothing k) = []
produced_data (produced.Fragment k d) = d ∷ []
produced_data (produced.Refused n) = []
