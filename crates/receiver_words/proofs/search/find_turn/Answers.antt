-- `receiver_words::search::find_turn` meets its contract. Assumes nothing.
use borrow.Author.Tests.{lt-ltb, le-ltb}
use Rattle.receiver_words.specs.Search.{find_turn}
use Rattle.receiver_words.proofs.search.find_turn.Goals as goal

pub returns-then-known-gt256 : goal.returns-then-known-gt256
unfolding find_turn
returns-then-known-gt256 c = rw (← c.load_header-known.ensures, lt-ltb _ _ c.if-known-gt256.true)

pub returns : goal.returns
unfolding find_turn
returns c = rw (← c.load_header-known.ensures, le-ltb _ _ c.if-known-gt256.false, c.turn_among.ensures)
