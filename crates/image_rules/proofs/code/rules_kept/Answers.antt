-- `image_rules::code::rules_kept` meets its contract: each return is what its definition says, by what the calls ensure and the tests taken. Assumes nothing.
use Rattle.image_rules.specs.Code.{rules_kept}
use Rattle.image_rules.proofs.Kept.{streams_lie, messages_lie}
use Rattle.image_rules.proofs.code.rules_kept.Goals as goal

pub streams_right-streams-requires : goal.streams_right-streams-requires
streams_right-streams-requires c = streams_lie _ _ _ c.trailer_right-agrees.ensures c.if-agrees.true

pub messages_right-requires : goal.messages_right-requires
messages_right-requires c = messages_lie _ _ _ c.trailer_right-agrees.ensures c.if-agrees.true

pub returns-then-streams : goal.returns-then-streams
unfolding rules_kept
returns-then-streams c =
    rw (
      ← c.trailer_right-agrees.ensures,
      c.if-agrees.true,
      ← c.streams_right-streams.ensures,
      c.if-streams.true,
      ← c.messages_right.ensures,
    )

pub returns-then-agrees : goal.returns-then-agrees
unfolding rules_kept
returns-then-agrees c =
    rw (
      ← c.trailer_right-agrees.ensures,
      c.if-agrees.true,
      ← c.streams_right-streams.ensures,
      c.if-streams.false,
    )

pub returns : goal.returns
unfolding rules_kept
returns c =
    rw (
      ← c.trailer_right-agrees.ensures,
      c.if-agrees.false,
    )
