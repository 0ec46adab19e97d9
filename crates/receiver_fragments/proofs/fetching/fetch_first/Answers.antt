-- `receiver_fragments::fetching::fetch_first` meets its contract: each return is what its definition says, by what the calls ensure and the tests taken.
-- Assumes nothing.
use borrow.Author.Tests.{le-ltb, lt-ltb}
use Rattle.receiver_fragments.specs.Fetching.{fetch_first}
use Rattle.receiver_fragments.proofs.fetching.fetch_first.Goals as goal

pub returns-then-length-buffer : goal.returns-then-length-buffer
unfolding fetch_first
returns-then-length-buffer c =
    rw (
      ← c.interleaved-i_data.ensures,
      ← c.load_header-used.ensures,
      ← c.measure_message-m.ensures.0,
      c.if-m.true,
      lt-ltb _ _ c.if-length-buffer.true,
    )

pub returns-then-m : goal.returns-then-m
unfolding fetch_first
returns-then-m c =
    rw (
      ← c.interleaved-i_data.ensures,
      ← c.load_header-used.ensures,
      ← c.measure_message-m.ensures.0,
      c.if-m.true,
      le-ltb _ _ c.if-length-buffer.false,
      ← c.take_out.ensures,
    )

pub returns : goal.returns
unfolding fetch_first
returns c =
    rw (
      ← c.interleaved-i_data.ensures,
      ← c.load_header-used.ensures,
      ← c.measure_message-m.ensures.0,
      c.if-m.false,
    )
