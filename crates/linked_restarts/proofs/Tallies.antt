-- From good words the scheduler's rows suffice for all known streams: the test before many streams are let wait passes. Assumes nothing.
use mathlib.Core.Path.{◌≡◌, refl, sym, ◌∙◌, subst}
use mathlib.Core.Bool.{Bool, true, false}
use mathlib.Core.List.{List}
use mathlib.Core.Option.{none}
use Prim.Native.Nat.{ℕ, zero, suc, ◌+◌, ◌≤◌, ◌<◌}
use native.Mathlib.Omega.{arith}
use borrow.Author.Tests.{le-ltb, le-leb, ltb-false}
use lib.Dec.{ltb, eqb}
use lib.ListN.{length}
use Rattle.queue_words.specs.Flags.{pick}
use Rattle.queue_words.specs.Header.{totals_at, scheduler_at}
use Rattle.queue_words.specs.Known.{id_at}
use Rattle.queue_words.specs.Streams.{stream_at_words}
use Rattle.queue_words.specs.declared.streams.OutgoingStream.{OutgoingStream}
use Rattle.std.specs.Prelude.{if◌then◌else◌}
use Rattle.queue_model.specs.Types.{Active}
use Rattle.queue_model.specs.Scheduler.{active_key, find_active, put_active}
use Rattle.queue_model.proofs.Table.{Rising, rising_put, find_put_other, sum_put_new, length_sum}
use Rattle.stream_scheduler.specs.Link.{entry_at, table_of}
use Rattle.active_table.specs.Rows.{seek}
use Rattle.stream_scheduler.specs.Words.{waits_in}
use Rattle.stream_scheduler.proofs.Index.{rising_table, table_none}
use Rattle.stream_scheduler.proofs.Search.{Sought, hit, miss, sought}
use Rattle.queue_streams.specs.Waiting.{passed_over, tally_stream, tally_known, tally, room_for}
use Rattle.queue_streams.specs.declared.waiting.Tally.{Tally}
use Rattle.queue_state.specs.Model.{next_of, streams_in, row_at}
use Rattle.queue_state.specs.Good.{Shape}
use Rattle.queue_state.proofs.Chains.{linked_le}
use Rattle.queue_state.proofs.Frames.{row_below}
use Rattle.queue_state.proofs.Looks.{streams_length}
use Rattle.queue_state.proofs.Rooms.{AllKnown, Listing, listing_put, listing_length, table_length, streams_rise, known_position, active_is, entry_of}

module _ (ws st : List ℕ) (g : Shape ws st) (a : AllKnown ws st) (all : Bool) where
  -- A stream that has no row is not in the table.
  unlisted : (id : ℕ) → waits_in ws id ≡ false → (i : ℕ) → i < (scheduler_at ws).active → (entry_at ws i).stream_id ≡ id → ⊥
  unfolding waits_in
  unlisted id e =
      let n : ℕ = (scheduler_at ws).active in
      let b : (if ltb 256 n then false else ltb (seek ws id n) n) ≡ ltb (seek ws id n) n = rw (le-ltb 256 n g.schedules.few) in
      go (seek ws id n) (sought ws id n) (ltb-false (seek ws id n) n (sym b ∙ e))
    where
      go : (r : ℕ) → Sought ws id (scheduler_at ws).active r → (scheduler_at ws).active ≤ r → (i : ℕ) → i < (scheduler_at ws).active → (entry_at ws i).stream_id ≡ id → ⊥
      go r (hit h f) l = absurd (omega arith)
      go r (miss z f) l = f

  -- The rows counted up to position n are those of a table of known streams, in which no stream from there on stands that waits not.
  record Tallied (n : ℕ) (t : Tally) : Type 0 where
    fits : t.fits ≡ true
    table : List Active
    rising : Rising active_key table
    listing : Listing (streams_in ws st) table
    counts : length table ≡ t.rows
    fresh : (j : ℕ) → n ≤ j → j < (totals_at ws).known → waits_in ws (id_at ws j) ≡ false → find_active (id_at ws j) table ≡ none

  tallied_start : Tallied 0 (record { fits = true; rows = (scheduler_at ws).active })
  tallied_start = record {
    fits = refl;
    table = table_of (entry_at ws) (scheduler_at ws).active;
    rising = rising_table (entry_at ws) (scheduler_at ws).active;
    listing = subst (Listing (streams_in ws st)) (active_is ws) a;
    counts = table_length (entry_at ws) (scheduler_at ws).active g.schedules.unlike;
    fresh = λ j l h e. table_none (entry_at ws) (scheduler_at ws).active (id_at ws j) (unlisted (id_at ws j) e);
  }

  passed : (n : ℕ) (t : Tally) → Tallied n t → Tallied (suc n) t
  passed n t d = record {
    fits = d.fits;
    table = d.table;
    rising = d.rising;
    listing = d.listing;
    counts = d.counts;
    fresh = λ j l h e. d.fresh j (omega arith) h e;
  }

  counted : (n : ℕ) (t : Tally) → n < (totals_at ws).known → waits_in ws (id_at ws n) ≡ false → Tallied n t → Tallied (suc n) (record { fits = t.fits; rows = t.rows + 1 })
  counted n t hn e d =
      let new = d.fresh n (omega arith) hn e in
      let s = sum_put_new active_key (λ (x : Active). 1) (entry_of (id_at ws n)) d.table new in
      record {
        fits = d.fits;
        table = put_active (entry_of (id_at ws n)) d.table;
        rising = rising_put active_key (entry_of (id_at ws n)) d.table d.rising;
        listing = listing_put (streams_in ws st) (entry_of (id_at ws n)) d.table (known_position ws st g n hn) d.listing;
        counts = omega (arith, s, length_sum (put_active (entry_of (id_at ws n)) d.table), length_sum d.table, d.counts);
        fresh = λ j l h f. find_put_other active_key (id_at ws j) (entry_of (id_at ws n)) d.table (λ z. let r = g.rising n j (omega arith) h in omega arith) ∙ d.fresh j (omega arith) h f;
      }

  -- By the tests on a stream, in their order.
  by_tests : (n : ℕ) (t : Tally) (s : OutgoingStream) → n < (totals_at ws).known → s.first ≤ 1024 → Tallied n t → Tallied (suc n) (tally_stream ws all (id_at ws n) s t)
  unfolding tally_stream
  by_tests n t s hn hf d = over (passed_over all s.pause_state)
    where
      waits : (b : Bool) → waits_in ws (id_at ws n) ≡ b → Tallied (suc n) (pick b t (record { fits = t.fits; rows = t.rows + 1 }))
      waits true e = passed n t d
      waits false e = counted n t hn e d

      empty : (b : Bool) → Tallied (suc n) (pick b t (pick (waits_in ws (id_at ws n)) t (record { fits = t.fits; rows = t.rows + 1 })))
      empty true = passed n t d
      empty false = waits (waits_in ws (id_at ws n)) refl

      over : (b : Bool) → Tallied (suc n) (pick b t (pick (ltb 1024 s.first) (record { fits = false; rows = t.rows }) (pick (eqb s.first 1024) t (pick (waits_in ws (id_at ws n)) t (record { fits = t.fits; rows = t.rows + 1 })))))
      over true = passed n t d
      over false = rw (le-ltb 1024 s.first hf) (empty (eqb s.first 1024))

  tallied : (n : ℕ) → n ≤ (totals_at ws).known → Tallied n (tally ws all n)
  unfolding tally tally_known
  tallied zero h = tallied_start
  tallied (suc n) h =
      let d : Tallied n (tally ws all n) = tallied n (omega arith) in
      let r : row_at ws n < 256 = row_below ws st g n (omega arith) in
      let l : row_at ws n ≤ 255 = omega arith in
      let first : (stream_at_words ws (row_at ws n)).first ≤ 1024 = linked_le (next_of ws) (stream_at_words ws (row_at ws n)).first (g.q n) (g.rows n (omega arith)).linked in
      rw (le-ltb 255 (row_at ws n) l) (by_tests n (tally ws all n) (stream_at_words ws (row_at ws n)) (omega arith) first d)

  pub room_for_lem : room_for ws all ≡ true
  unfolding room_for
  room_for_lem =
      let d : Tallied (totals_at ws).known (tally ws all (totals_at ws).known) = tallied (totals_at ws).known (omega arith) in
      let b : (tally ws all (totals_at ws).known).rows ≤ 256 = omega (arith, d.counts, listing_length (streams_in ws st) d.table (streams_rise ws st g) d.rising d.listing, streams_length ws st g, g.known_fits) in
      rw (le-ltb 256 (totals_at ws).known g.known_fits, le-ltb 256 (scheduler_at ws).active g.schedules.few, d.fits, le-leb (tally ws all (totals_at ws).known).rows 256 b)
