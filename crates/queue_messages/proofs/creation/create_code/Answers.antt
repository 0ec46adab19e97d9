use borrow.Author.Tests.{eq-eqb, le-ltb, lt-ltb, ne_eqb}
use Rattle.queue_messages.specs.Create.{create_code}
use Rattle.queue_messages.proofs.creation.create_code.Goals as goal

-- `queue_messages::creation::create_code` meets its contract: each return is what its definition says, by what the calls ensure and the tests taken.
-- Assumes nothing.
pub returns-then-payload_limit-eq0 : goal.returns-then-payload_limit-eq0
unfolding create_code
returns-then-payload_limit-eq0 c =
    rw
    (
    eq-eqb _ _ c.if-payload_limit-eq0.true
    )

pub returns-then-payload_limit-gt-MAX_PAYLOAD_LIMIT : goal.returns-then-payload_limit-gt-MAX_PAYLOAD_LIMIT
unfolding create_code
returns-then-payload_limit-gt-MAX_PAYLOAD_LIMIT c =
    rw (
      ne_eqb _ _ c.if-payload_limit-eq0.false,
      lt-ltb _ _ c.if-payload_limit-gt-MAX_PAYLOAD_LIMIT.true,
    )

pub returns-then-store_length-eq0 : goal.returns-then-store_length-eq0
unfolding create_code
returns-then-store_length-eq0 c =
    rw (
      ne_eqb _ _ c.if-payload_limit-eq0.false,
      le-ltb _ _ c.if-payload_limit-gt-MAX_PAYLOAD_LIMIT.false,
      eq-eqb _ _ c.if-store_length-eq0.true,
    )

pub returns-then-store_length-gt-MAX_STORE : goal.returns-then-store_length-gt-MAX_STORE
unfolding create_code
returns-then-store_length-gt-MAX_STORE c =
    rw (
      ne_eqb _ _ c.if-payload_limit-eq0.false,
      le-ltb _ _ c.if-payload_limit-gt-MAX_PAYLOAD_LIMIT.false,
      ne_eqb _ _ c.if-store_length-eq0.false,
      lt-ltb _ _ c.if-store_length-gt-MAX_STORE.true,
    )

pub returns : goal.returns
unfolding create_code
returns c =
    rw (
      ne_eqb _ _ c.if-payload_limit-eq0.false,
      le-ltb _ _ c.if-payload_limit-gt-MAX_PAYLOAD_LIMIT.false,
      ne_eqb _ _ c.if-store_length-eq0.false,
      le-ltb _ _ c.if-store_length-gt-MAX_STORE.false,
    )
