-- `owned_closing::discarding::discard_in` meets its contract: each return is a case of `discard_in` (proofs/Own.antt). Assumes nothing.
use Rattle.owned_closing.proofs.Own.{first_of, in_empty, in_head, in_other}
use Rattle.owned_closing.proofs.discarding.discard_in.Goals as goal

pub returns-then-s-eq-NO_MESSAGE : goal.returns-then-s-eq-NO_MESSAGE
returns-then-s-eq-NO_MESSAGE c = in_empty _ _ _ _ _ _ c.load_stream-s.ensures c.if-s-eq-NO_MESSAGE.true

pub returns-then-m-message_id : goal.returns-then-m-message_id
returns-then-m-message_id c = in_head _ _ _ _ _ _ c.load_stream-s.ensures c.if-s-eq-NO_MESSAGE.false (first_of _ _ _ _ _ c.requires c.load_stream-s.ensures) _ c.load_item-m.ensures _ c.if-m-message_id.true c.drop_own.ensures

pub returns : goal.returns
returns c = in_other _ _ _ _ _ _ c.load_stream-s.ensures c.if-s-eq-NO_MESSAGE.false (first_of _ _ _ _ _ c.requires c.load_stream-s.ensures) _ c.load_item-m.ensures c.if-m-message_id.false
