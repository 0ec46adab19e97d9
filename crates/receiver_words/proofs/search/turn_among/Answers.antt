-- `receiver_words::search::turn_among` meets its contract: what is left to search from here is what was to search. Assumes nothing.
use native.Mathlib.Omega.{arith}
use Rattle.receiver_words.proofs.Steps.{turn_here, turn_next, turn_end}
use Rattle.receiver_words.proofs.search.turn_among.Goals as goal

pub returns-then-t-id : goal.returns-then-t-id
returns-then-t-id c = turn_here _ _ _ _ _ c.load_turn-t.ensures c.loop-i-test.true c.if-t-id.true c.loop-i.invariant

pub loop-i-preserved : goal.loop-i-preserved
loop-i-preserved c = turn_next _ _ _ _ _ c.load_turn-t.ensures c.loop-i-test.true c.if-t-id.false c.loop-i.invariant

pub returns : goal.returns
returns c = turn_end _ _ _ _ (omega arith) c.loop-i-test.false c.loop-i.invariant
