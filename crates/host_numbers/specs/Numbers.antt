-- A message by its numbers, and what a call tells in an array of 16 places: 0 the value, 1 the number of events, the others what goes with a fragment. Assumes nothing.
use Rattle.std.specs.Prelude.{Some, None}
use Rattle.std.specs.Prelude.{ℕ, Bool, true, false, List, ◌++◌, set, take, drop}
use Rattle.queue_words.specs.Flags.{bit}
use Rattle.queue_words.specs.Items.{Expiry}
use Rattle.types.specs.Keys.{key_id, key_unordered}
use Rattle.queue_streams.specs.Call.{Call}
use Rattle.queue_streams.specs.Call.{Accepted, Refused}
use Rattle.queue_messages.specs.Message.{Lifetime, MaxRetransmissions}
use Rattle.queue_messages.specs.declared.message.Message.{Message}
use Rattle.queue_sending.specs.declared.data.DataToSend.{DataToSend}
use Rattle.queue_sending.specs.Produced.{Produced}
use Rattle.queue_sending.specs.Produced as produced
use Rattle.saving.specs.Saved.{Saved}
use Rattle.saving.specs.Saved as saved
pub use Rattle.out_array.specs.Flag.{is_yes}

-- ------------------------------------------------------------------ what is given

abbrev pub lifetime_of : Bool → ℕ → Lifetime
lifetime_of true n = Some n
lifetime_of false n = None

abbrev pub retransmissions_of : Bool → ℕ → MaxRetransmissions
retransmissions_of true n = Some n
retransmissions_of false n = None

-- a message by its numbers
abbrev pub message_of_words : ℕ → ℕ → ℕ → ℕ → ℕ → ℕ → ℕ → ℕ → Message
message_of_words stream ppid unordered has_lifetime lifetime has_limit limit lifecycle = record {
  stream_id = record { 0 = stream };
  ppid = ppid;
  unordered = is_yes unordered;
  lifetime = lifetime_of (is_yes has_lifetime) lifetime;
  max_retransmissions = retransmissions_of (is_yes has_limit) limit;
  lifecycle_id = lifecycle;
}

-- ------------------------------------------------------------------ a call that changes the queue

abbrev pub call_out : List ℕ → Call → List ℕ
call_out out (Accepted k) = set out 1 k
call_out out (Refused n) = out

-- ------------------------------------------------------------------ a list in its places

-- the first `count` places; the others stay
abbrev pub with_first : List ℕ → ℕ → List ℕ → List ℕ
with_first to count from = take count from ++ drop count to

-- ------------------------------------------------------------------ the next fragment

-- "expiry time or never": whether it expires, and when
abbrev pub expiry_number : Expiry → ℕ
expiry_number None = 0
expiry_number (Some t) = 1

abbrev pub expiry_time : Expiry → ℕ
expiry_time None = 0
expiry_time (Some t) = t

-- "With it go message id, stream, unordered mark, the three counters, protocol id, first and last marks, retransmissions, expiry time or never, and lifecycle id."
unfoldable pub shown : List ℕ → ℕ → DataToSend → List ℕ
shown out k d =
    let a = set (set (set (set out 0 1) 1 k) 2 d.data.length) 3 d.message_id.0 in
    let b = set (set (set (set a 4 (key_id d.data.stream_key).0) 5 (bit (key_unordered d.data.stream_key))) 6 d.data.ssn.0) 7 d.data.mid.0 in
    let c = set (set (set (set b 8 d.data.fsn.0) 9 d.data.ppid) 10 (bit d.data.is_beginning)) 11 (bit d.data.is_end) in
    set (set (set (set c 12 d.max_retransmissions) 13 (expiry_number d.expires_at)) 14 (expiry_time d.expires_at)) 15 d.lifecycle_id

abbrev pub produced_out : List ℕ → Produced → List ℕ
produced_out out (produced.Nothing k) = set (set out 0 0) 1 k
produced_out out (produced.Fragment k d) = shown out k d
produced_out out (produced.Refused n) = out

-- ------------------------------------------------------------------ the image

abbrev pub saved_out : List ℕ → Saved → List ℕ
saved_out out (saved.Image n) = set out 0 n
saved_out out (saved.Refused n) = out
