-- The words that the payload store uses: each message's place and length, the used bytes, the known gaps. Assumes nothing.
use Rattle.std.specs.Prelude.{ℕ, List}
use Rattle.queue_words.specs.Items.{item_at}
use Rattle.queue_words.specs.Header.{totals_at, put_totals}
use Rattle.queue_words.specs.declared.header.Gaps.{Gaps}
use Rattle.queue_words.specs.declared.header.Totals.{Totals}

-- where row i's payload lies, and how long it is: 0 for none
abbrev pub place_of : List ℕ → ℕ → ℕ
place_of ws i = (item_at ws i).place

abbrev pub size_of : List ℕ → ℕ → ℕ
size_of ws i = (item_at ws i).length

-- the used bytes, and the known gaps
abbrev pub used_of : List ℕ → ℕ
used_of ws = (totals_at ws).used

abbrev pub gaps_of : List ℕ → Gaps
gaps_of ws = (totals_at ws).gaps

-- the totals with other ones
abbrev pub with_bytes : Totals → ℕ → Gaps → Totals
with_bytes t u g = record {
  interleaving = t.interleaving;
  next_message_id = t.next_message_id;
  total = t.total;
  known = t.known;
  waiting = t.waiting;
  free = t.free;
  used = u;
  gaps = g;
}

-- the words with other ones
unfoldable pub put_bytes : List ℕ → ℕ → Gaps → List ℕ
put_bytes ws u g = put_totals ws (with_bytes (totals_at ws) u g)
