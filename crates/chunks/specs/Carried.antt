-- What a chunk carries of a fragment. Assumes nothing.
use Rattle.std.specs.Prelude.{Some}
use Rattle.std.specs.Prelude.{ℕ}
use Rattle.std.specs.Prelude.{if◌then◌else◌}
use Rattle.queue_sending.specs.declared.data.Data.{Data}
use Rattle.queue_sending.specs.declared.data.DataToSend.{DataToSend}
use Rattle.chunks.specs.declared.chunk.ChunkKind.{ChunkKind}
use Rattle.chunks.specs.declared.chunk.ChunkKind.TheVariants as kind

-- "It reports 0 for a field its chunk does not carry (an expiry as time 0)": no chunk carries message id, retransmissions, expiry and lifecycle id;
abbrev pub only_data : Data → DataToSend
only_data d = record {
  message_id = record { 0 = 0 };
  «data» = d;
  max_retransmissions = 0;
  expires_at = Some 0;
  lifecycle_id = 0;
}

-- DATA carries no MID and FSN, I-DATA no SSN, no FSN on a first fragment and no protocol id on others. The length is the payload's, n.
abbrev pub carried_data : ChunkKind → Data → ℕ → Data
carried_data kind.Data d n = record {
  stream_key = d.stream_key;
  ssn = d.ssn;
  mid = record { 0 = 0 };
  fsn = record { 0 = 0 };
  ppid = d.ppid;
  is_beginning = d.is_beginning;
  is_end = d.is_end;
  length = n;
}
carried_data kind.IData d n = record {
  stream_key = d.stream_key;
  ssn = record { 0 = 0 };
  mid = d.mid;
  fsn = record { 0 = if d.is_beginning then 0 else d.fsn.0 };
  ppid = if d.is_beginning then d.ppid else 0;
  is_beginning = d.is_beginning;
  is_end = d.is_end;
  length = n;
}

-- "a written fragment returns the same but for those fields at 0": a fragment with a payload of n bytes, as its chunk carries it
abbrev pub carried : ChunkKind → DataToSend → ℕ → DataToSend
carried k f n = only_data (carried_data k f.«data» n)
