-- Closing, first: the test of a chain of messages, which reads only. Assumes nothing.
use Rattle.std.specs.Prelude.{ℕ, zero, suc, ◌-◌, Bool, true, false, List, ltb, eqb}
use Rattle.queue_words.specs.Flags.{pick}
use Rattle.queue_words.specs.Header.{totals_at}
use Rattle.queue_words.specs.Items.{item_at}
use Rattle.queue_words.specs.declared.items.Item.{Item}
use Rattle.message_chains.specs.Amounts.{rest}
use Rattle.queue_closing.specs.declared.close.Walk.{Walk}

-- A message that may not go ends the test.
abbrev pub walk_failed : Walk → Walk
walk_failed w = record {
  fits = false;
  place = 1024;
  total = w.total;
  amount = w.amount;
  waiting = w.waiting;
  used = w.used;
}

-- "It drops every message at offset 0". 16: "an amount would fall below 0", the total, the stream's, the count or the bytes of the messages.
unfoldable pub may_go : Walk → Item → ℕ → Bool
may_go w m n =
    pick (ltb 0 m.offset) false
    (pick (eqb m.length 0) false
    (pick (ltb w.used m.length) false
    (pick (ltb w.total n) false
    (pick (ltb w.amount n) false (ltb 0 w.waiting)))))

unfoldable pub walk_item : Walk → Item → Walk
walk_item w m =
    pick (may_go w m (rest m))
    (record {
      fits = w.fits;
      place = m.next;
      total = w.total - rest m;
      amount = w.amount - rest m;
      waiting = w.waiting - 1;
      used = w.used - m.length;
    })
    (walk_failed w)

-- At most so many messages; the test ends where no place of the table follows.
unfoldable pub walk : List ℕ → Walk → ℕ → Walk
walk ws w zero = w
walk ws w (suc f) = pick (ltb 1023 w.place) w (walk ws (walk_item w (item_at ws w.place)) f)

-- The test of all messages from a place on, of a stream with this amount.
abbrev pub walk_from : List ℕ → ℕ → ℕ → Walk
walk_from ws place amount = record {
  fits = true;
  place = place;
  total = (totals_at ws).total;
  amount = amount;
  waiting = (totals_at ws).waiting;
  used = (totals_at ws).used;
}

-- All may go, and the chain ends: "a place kept in the state lies outside its table" where it does not.
unfoldable pub may_sweep : List ℕ → ℕ → ℕ → Bool
may_sweep ws place amount = pick (walk ws (walk_from ws place amount) 1024).fits (eqb (walk ws (walk_from ws place amount) 1024).place 1024) false
