-- `queue_streams::waiting::tally_stream` meets its contract: each return is a case of `tally_stream` (proofs/Waits.antt). Assumes nothing.
use Rattle.queue_streams.proofs.Waits.{tally_passed, tally_outside, tally_empty, tally_listed, tally_more}
use Rattle.queue_streams.proofs.waiting.tally_stream.Goals as goal

-- `queue_streams::waiting::tally_stream` meets its contract: each return is a case of `tally_stream` (proofs/Waits.antt). Assumes nothing.
pub returns-then-passed : goal.returns-then-passed
returns-then-passed c = tally_passed _ _ _ _ _ _ c.passed_over-passed.ensures c.if-passed.true

pub returns-then-s-gt-NO_MESSAGE : goal.returns-then-s-gt-NO_MESSAGE
returns-then-s-gt-NO_MESSAGE c = tally_outside _ _ _ _ _ _ c.passed_over-passed.ensures c.if-passed.false c.if-s-gt-NO_MESSAGE.true

pub returns-then-s-eq-NO_MESSAGE : goal.returns-then-s-eq-NO_MESSAGE
returns-then-s-eq-NO_MESSAGE c = tally_empty _ _ _ _ _ _ c.passed_over-passed.ensures c.if-passed.false c.if-s-gt-NO_MESSAGE.false c.if-s-eq-NO_MESSAGE.true

pub returns-then-listed : goal.returns-then-listed
returns-then-listed c = tally_listed _ _ _ _ _ _ c.passed_over-passed.ensures c.if-passed.false c.if-s-gt-NO_MESSAGE.false c.if-s-eq-NO_MESSAGE.false _ c.waits-listed.ensures c.if-listed.true

pub returns : goal.returns
returns c = tally_more _ _ _ _ _ _ c.passed_over-passed.ensures c.if-passed.false c.if-s-gt-NO_MESSAGE.false c.if-s-eq-NO_MESSAGE.false _ c.waits-listed.ensures c.if-listed.false
