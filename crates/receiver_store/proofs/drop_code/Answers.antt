-- `receiver_store::drop_code` meets its contract: each return is what its definition says, by what the calls ensure and the tests taken. Assumes nothing.
use borrow.Author.Tests.{le-ltb, lt-ltb}
use Rattle.receiver_store.specs.Dropping.{drop_code_words}
use Rattle.receiver_store.proofs.drop_code.Goals as goal

pub returns-then-size-used : goal.returns-then-size-used
unfolding drop_code_words
returns-then-size-used c =
    rw (
      ← c.load_link-size.ensures,
      ← c.load_header-used.ensures,
      lt-ltb _ _ c.if-size-used.true,
    )

pub returns : goal.returns
unfolding drop_code_words
returns c =
    rw (
      ← c.load_link-size.ensures,
      ← c.load_header-used.ensures,
      le-ltb _ _ c.if-size-used.false,
    )
