-- `image_rules::code::amounts_fit` meets its contract: each return is what its definition says, by what the calls ensure and the tests taken. Assumes nothing.
use borrow.Author.Tests.{le-ltb, lt-ltb}
use Rattle.image_rules.specs.Code.{amounts_fit}
use native.Mathlib.Omega.{arith}
use Rattle.image_rules.proofs.Kept.{bytes_need, streams_need}
use Rattle.image_rules.proofs.Loops.{more_le}
use Rattle.image_rules.proofs.code.amounts_fit.Goals as goal

pub returns-then-t-gt-MAX_STREAM_RECORDS : goal.returns-then-t-gt-MAX_STREAM_RECORDS
unfolding amounts_fit
returns-then-t-gt-MAX_STREAM_RECORDS c =
    rw
    (
    lt-ltb _ _ c.if-t-gt-MAX_STREAM_RECORDS.true
    )

pub returns-then-t-gt-MAX_MESSAGE_RECORDS : goal.returns-then-t-gt-MAX_MESSAGE_RECORDS
unfolding amounts_fit
returns-then-t-gt-MAX_MESSAGE_RECORDS c =
    rw (
      le-ltb _ _ c.if-t-gt-MAX_STREAM_RECORDS.false,
      lt-ltb _ _ c.if-t-gt-MAX_MESSAGE_RECORDS.true,
    )

pub payload_bytes-bytes-requires : goal.payload_bytes-bytes-requires
payload_bytes-bytes-requires c = bytes_need _ _ c.requires c.if-t-gt-MAX_MESSAGE_RECORDS.false

pub returns-then-bytes-store_length : goal.returns-then-bytes-store_length
unfolding amounts_fit
returns-then-bytes-store_length c =
    rw (
      le-ltb _ _ c.if-t-gt-MAX_STREAM_RECORDS.false,
      le-ltb _ _ c.if-t-gt-MAX_MESSAGE_RECORDS.false,
      ← c.payload_bytes-bytes.ensures,
      lt-ltb _ _ c.if-bytes-store_length.true,
    )

pub new_streams-more-requires : goal.new_streams-more-requires
new_streams-more-requires c = streams_need _ _ c.requires c.if-t-gt-MAX_MESSAGE_RECORDS.false

pub overflow_add-t : goal.overflow_add-t
overflow_add-t c = omega (arith, c.if-t-gt-MAX_STREAM_RECORDS.false, more_le _ _ _ _ _ _ c.new_streams-more.ensures c.if-t-gt-MAX_MESSAGE_RECORDS.false)

pub returns-then-t-more-gt-STREAMS : goal.returns-then-t-more-gt-STREAMS
unfolding amounts_fit
returns-then-t-more-gt-STREAMS c =
    rw (
      le-ltb _ _ c.if-t-gt-MAX_STREAM_RECORDS.false,
      le-ltb _ _ c.if-t-gt-MAX_MESSAGE_RECORDS.false,
      ← c.payload_bytes-bytes.ensures,
      le-ltb _ _ c.if-bytes-store_length.false,
      ← c.new_streams-more.ensures,
      lt-ltb _ _ c.if-t-more-gt-STREAMS.true,
    )

pub returns : goal.returns
unfolding amounts_fit
returns c =
    rw (
      le-ltb _ _ c.if-t-gt-MAX_STREAM_RECORDS.false,
      le-ltb _ _ c.if-t-gt-MAX_MESSAGE_RECORDS.false,
      ← c.payload_bytes-bytes.ensures,
      le-ltb _ _ c.if-bytes-store_length.false,
      ← c.new_streams-more.ensures,
      le-ltb _ _ c.if-t-more-gt-STREAMS.false,
    )
