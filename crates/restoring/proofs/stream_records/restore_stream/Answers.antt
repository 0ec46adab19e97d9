-- `restoring::stream_records::restore_stream` meets its contract: each return is what its definition says, by what the calls ensure and the tests taken.
-- Assumes nothing.
use borrow.Author.Tests.{le-ltb, lt-ltb}
use Rattle.restoring.specs.Streams.{stream_restored}
use Rattle.restoring.proofs.stream_records.restore_stream.Goals as goal

pub returns-then-image-lt14 : goal.returns-then-image-lt14
unfolding stream_restored
returns-then-image-lt14 c =
    rw
    (
    lt-ltb _ _ c.if-image-lt14.true
    )

pub returns-then-at-image : goal.returns-then-at-image
unfolding stream_restored
returns-then-at-image c =
    rw (
      le-ltb _ _ c.if-image-lt14.false,
      lt-ltb _ _ c.if-at-image.true,
    )

pub returns-then-t-gt-LAST_STREAM : goal.returns-then-t-gt-LAST_STREAM
unfolding stream_restored
returns-then-t-gt-LAST_STREAM c =
    rw (
      le-ltb _ _ c.if-image-lt14.false,
      le-ltb _ _ c.if-at-image.false,
      ← c.load_totals-t.ensures,
      lt-ltb _ _ c.if-t-gt-LAST_STREAM.true,
    )

pub returns : goal.returns
unfolding stream_restored
returns c =
    rw (
      le-ltb _ _ c.if-image-lt14.false,
      le-ltb _ _ c.if-at-image.false,
      ← c.load_totals-t.ensures,
      le-ltb _ _ c.if-t-gt-LAST_STREAM.false,
      ← c.read_stream-r.ensures,
      ← c.load_options-o.ensures,
      ← c.restored_stream-s.ensures,
      ← c.insert_stream.ensures,
    )
