-- Two messages through a queue: what goes in comes out. Assumes nothing.
use Rattle.std.specs.Prelude.{ℕ, ◌+◌, ◌-◌, ◌≤◌, ◌<◌, ◌≡◌, Bool, true, false, List, ◌++◌, length, take, None}
use Rattle.queue_streams.specs.Events.{event_words}
use Rattle.queue_messages.specs.declared.message.Message.{Message}
use Rattle.queue_sending.specs.Produced.{Produced}
use Rattle.queue_sending.specs.Produced as produced

-- An ordered message on a stream, without a lifetime or a limit of retransmissions.
abbrev pub plain_message : ℕ → Message
plain_message stream = record {
  stream_id = record { 0 = stream };
  ppid = 0;
  unordered = false;
  lifetime = None;
  max_retransmissions = None;
  lifecycle_id = 0;
}

abbrev pub is_fragment : Produced → Bool
is_fragment (produced.Nothing k) = false
is_fragment (produced.Fragment k d) = true
is_fragment (produced.Refused n) = false

-- The store holds both messages, the first fills two fragments and the second one, and what is lent has room.
pub record Fits (store events : ℕ) (first second one two three : List ℕ) : Type 0 where
  pub store_most : store ≤ 2000000
  pub store_holds : length first + length second ≤ store
  pub first_long : 1200 < length first
  pub first_most : length first ≤ 2400
  pub second_some : 1 ≤ length second
  pub second_most : length second ≤ 1200
  pub event_places : event_words ≤ events
  pub one_room : 1200 ≤ length one
  pub two_room : 1200 ≤ length two
  pub three_room : 1200 ≤ length three

-- All calls were accepted; the first two fragments are the first message, the third is the second.
pub record Carried (first second : List ℕ) (told : Bool) (one two three : List ℕ) : Type 0 where
  pub accepted : told ≡ true
  pub first_whole : take 1200 one ++ take (length first - 1200) two ≡ first
  pub second_whole : take (length second) three ≡ second
