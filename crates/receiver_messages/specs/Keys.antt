-- The keys under which the indexes are asked. Assumes nothing.
use Rattle.std.specs.Prelude.{ℕ, ◌+◌, ◌-◌, ◌%◌, Bool, false, List, eqb}
use Rattle.types.specs.Wrap.{wrap_suc}
use Rattle.queue_words.specs.Flags.{flag, pick}
use Rattle.receiver_words.specs.Tables.{Header, word_at}
use Rattle.receiver_words.specs.declared.fragments.Fragment.{Fragment}

-- "one kind fixed at creation": whether it is I-DATA
abbrev pub interleaved_of : List ℕ → Bool
interleaved_of ws = flag (word_at Header ws 0 0)

-- the number before t of 32 bits
unfoldable pub previous : ℕ → ℕ
previous t = pick (eqb t 0) 4294967295 (t - 1)

-- a fragment with another TSN and FSN
abbrev pub numbered : Fragment → ℕ → ℕ → Fragment
numbered f t n = record {
  stream = record { 0 = f.stream.0 };
  ssn = record { 0 = f.ssn.0 };
  unordered = f.unordered;
  first = f.first;
  last = f.last;
  tsn = t;
  mid = record { 0 = f.mid.0 };
  fsn = record { 0 = n };
  ppid = f.ppid;
}

-- the keys of the fragments after and before f: "a run of consecutive TSNs", and FSNs that rise by one
unfoldable pub following : Fragment → Fragment
following f = numbered f (wrap_suc 32 f.tsn) (wrap_suc 32 f.fsn.0)

unfoldable pub preceding : Fragment → Fragment
preceding f = numbered f (previous f.tsn) (previous f.fsn.0)

-- "the number after it is then next": SSNs have 16 bits, MIDs 32
unfoldable pub next_turn : Bool → ℕ → ℕ
next_turn b n = pick b (wrap_suc 32 n) ((n % 65536 + 1) % 65536)

-- the key of the message with a number, among those of a stream that wait
abbrev pub numbered_in : ℕ → ℕ → ℕ → Fragment
numbered_in stream ssn mid = record {
  stream = record { 0 = stream };
  ssn = record { 0 = ssn };
  unordered = false;
  first = false;
  last = false;
  tsn = 0;
  mid = record { 0 = mid };
  fsn = record { 0 = 0 };
  ppid = 0;
}

unfoldable pub number_key : Bool → ℕ → ℕ → Fragment
number_key b stream n = pick b (numbered_in stream 0 n) (numbered_in stream (n % 65536) 0)
