-- A stream's row stored after all its messages, or all but its first, are gone: the queue that the words then stand for. Assumes nothing.
use Prim.Native.Nat.{ℕ, ◌+◌, ◌-◌, ◌≤◌, ◌<◌}
use mathlib.Core.Path.{◌≡◌, ap, ◌∙◌}
use mathlib.Core.List.{List, reverse_aux}
use native.Mathlib.Omega.{arith}
use lib.ListN.{length, length-reverse_aux}
use Rattle.queue_words.specs.Header.{totals_at}
use Rattle.queue_words.specs.Items.{item_at}
use Rattle.queue_words.specs.Known.{id_at}
use Rattle.queue_words.specs.Streams.{stream_at_words, put_stream_words, FitsStream}
use Rattle.queue_words.specs.declared.header.Totals.{Totals}
use Rattle.queue_words.specs.declared.items.Item.{Item}
use Rattle.queue_words.specs.declared.streams.OutgoingStream.{OutgoingStream}
use Rattle.queue_words.proofs.Laws
use Rattle.queue_model.specs.Streams.{put_stream}
use Rattle.payload_store.specs.Words.{size_of, used_of}
use Rattle.payload_store.proofs.Goods.{good_same}
use Rattle.stream_scheduler.specs.Link.{GoodScheduler, model_scheduler}
use Rattle.queue_state.specs.Chains.{Linked, last_of, count, sum_of, each}
use Rattle.queue_state.specs.Model.{next_of, item_in_words, stream_of, row_at, streams_in}
use Rattle.queue_state.specs.Good.{Row, Shape}
use Rattle.queue_state.proofs.Chains.{linked_frame, each_frame, sum_frame}
use Rattle.queue_state.proofs.Splits.{free_apart, row_once, total_has}
use Rattle.queue_state.proofs.Frames.{Same, same_both, row_fits, free_fits, row_below}
use Rattle.queue_state.proofs.Heads.{stored_places, stored_same}
use Rattle.queue_state.proofs.Steps.{After, step}
use Rattle.stream_scheduler.proofs.Link.{scheduler_same}
use Rattle.linked_dropping.proofs.Cleared.{rest_at, Clear, count_turned}
use Rattle.queue_state.proofs.Leaves.{Leaves, leaves_of}
use Rattle.queue_words.proofs.Finds.{by_lt}

-- The stream in position i has the messages in hd, which stay, and those in ps, which are gone.
module _ (ws st : List ℕ) (g : Shape ws st) (i : ℕ) (hk : i < (totals_at ws).known) (hd ps : List ℕ)
    (counts : (y : ℕ) → count y (g.q i) ≡ count y hd + count y ps) (lengths : length (g.q i) ≡ length hd + length ps)
    (sums : sum_of (size_of ws) (g.q i) ≡ sum_of (size_of ws) hd + sum_of (size_of ws) ps)
    (us : List ℕ) (c : Clear ws st hd ps us) (s : OutgoingStream) (fits : FitsStream s) (linked : Linked (next_of us) s.first hd) (last_is : s.last ≡ last_of 1024 hd) where
  abbrev ws' : List ℕ
  ws' = put_stream_words us (row_at ws i) s

  below : i < 256
  below = omega (arith, g.known_fits)

  row_in : row_at ws i < 256
  row_in = row_below ws st g i hk

  row_at_lem : stream_at_words ws' (row_at ws i) ≡ s
  row_at_lem = Laws.stream_at_put us (row_at ws i) s (c.long ∙ g.long) row_in fits

  totals_at_lem : totals_at ws' ≡ totals_at us
  totals_at_lem = Laws.totals_put_stream us (row_at ws i) s

  item_at_lem : (y : ℕ) → item_at ws' y ≡ item_at us y
  item_at_lem y = Laws.item_put_stream us (row_at ws i) s y row_in

  next_at : (y : ℕ) → next_of ws' y ≡ next_of us y
  next_at y = ap (λ (m : Item). m.next) (item_at_lem y)

  size_at : (y : ℕ) → size_of ws' y ≡ size_of us y
  size_at y = ap (λ (m : Item). m.length) (item_at_lem y)

  -- a place that stays is not one that goes, and is in the table
  stays : (y : ℕ) → 1 ≤ count y hd → count y ps ≡ 0
  stays y h = omega (arith, counts y, row_once g.q g.fr g.split y i below)

  stays_fits : (y : ℕ) → 1 ≤ count y hd → y < 1024
  stays_fits y h = row_fits g.q g.fr y i g.split below (omega (arith, counts y))

  -- neither is a free one
  free_fit : (y : ℕ) → 1 ≤ count y g.fr → y < 1024
  free_fit y h = free_fits g.q g.fr y g.split h

  free_far : (y : ℕ) → 1 ≤ count y g.fr → count y hd + count y ps ≡ 0
  free_far y h = omega (arith, counts y, free_apart g.q g.fr g.split y i below)

  size_stays : (y : ℕ) → 1 ≤ count y hd → size_of ws' y ≡ size_of ws y
  size_stays y h = size_at y ∙ c.sizes y (stays_fits y h) (stays y h)

  item_stays : (y : ℕ) → 1 ≤ count y hd → item_in_words ws' st y ≡ item_in_words ws st y
  item_stays y h = (stored_same us st (row_at ws i) s row_in y (stays_fits y h)).item_same ∙ c.items y (stays_fits y h) (stays y h)

  bare_now : (y : ℕ) → 1 ≤ count y (reverse_aux ps g.fr) → size_of ws' y ≡ 0
  bare_now y h = by_lt 0 (count y ps)
      (λ k. size_at y ∙ c.bare y k)
      (λ k. let m : 1 ≤ count y g.fr = omega (arith, count_turned y ps g.fr) in size_at y ∙ c.sizes y (free_fit y m) (omega arith) ∙ g.bare y m)

  untouched : (y : ℕ) → y < 1024 → count y (g.q i) ≡ 0 → Same ws st us st y
  untouched y h z = record {
    next_same = c.nexts y h (omega (arith, counts y));
    size_same = c.sizes y h (omega (arith, counts y));
    item_same = c.items y h (omega (arith, counts y));
  }

  the_scheduler : GoodScheduler ws' × (model_scheduler ws' ≡ model_scheduler ws)
  the_scheduler = scheduler_same ws ws'
      (Laws.whole_put_stream us (row_at ws i) s ∙ c.long)
      (Laws.options_put_stream us (row_at ws i) s ∙ c.options)
      (Laws.scheduler_put_stream us (row_at ws i) s ∙ c.scheduler)
      (λ j. Laws.active_put_stream us (row_at ws i) s j row_in ∙ c.active j)
      (Laws.leasts_put_stream us (row_at ws i) s ∙ c.leasts)
      g.schedules

  row_now : Row ws' (stream_at_words ws' (row_at ws i)) hd
  row_now = rw row_at_lem (record { linked = linked_frame (next_of us) (next_of ws') s.first hd (λ y h. next_at y) linked; last_is = last_is })

  free_now : Linked (next_of ws') (totals_at ws').free (reverse_aux ps g.fr)
  free_now = rw (ap (λ (t : Totals). t.free) totals_at_lem) (linked_frame (next_of us) (next_of ws') (totals_at us).free (reverse_aux ps g.fr) (λ y h. next_at y) (c.free g.fr g.free free_fit free_far))

  closed_after : After ws st g i ws' st hd (reverse_aux ps g.fr)
  closed_after = step ws st g i hk ws' st hd (reverse_aux ps g.fr) (record {
    long' = Laws.whole_put_stream us (row_at ws i) s ∙ c.long ∙ g.long;
    known' = ap (λ (t : Totals). t.known) totals_at_lem ∙ c.known;
    table' = λ j h. Laws.known_put_stream us (row_at ws i) s j h ∙ c.table j h;
    places = λ y. omega (arith, counts y, count_turned y ps g.fr);
    number = omega (arith, lengths, length-reverse_aux ps g.fr);
    waits' =
        let t : (totals_at ws').waiting ≡ (totals_at us).waiting = ap (λ (t : Totals). t.waiting) totals_at_lem in
        omega (arith, c.waiting, lengths, g.waits, total_has length g.q i below);
    used' =
        let t : used_of ws' ≡ used_of us = ap (λ (t : Totals). t.used) totals_at_lem in
        omega (arith, c.used, sums, sum_frame (size_of ws) (size_of ws') hd size_stays);
    free' = free_now;
    row' = row_now;
    full' = λ y h. rw (size_stays y h) (g.full i y (omega (arith, counts y)));
    bare' = bare_now;
    others' = λ r h ne. Laws.stream_at_put_other us (row_at ws i) s r ne ∙ c.streams r h;
    only = λ y h a b. same_both ws st us st ws' st y (untouched y h b) (stored_same us st (row_at ws i) s row_in y h);
    lay' = good_same us ws' st (stored_places us st (row_at ws i) s row_in) c.lay;
    schedules' = the_scheduler.0;
  })

  pub closed_leaves : Leaves ws st ws' ((totals_at ws).total - sum_of (rest_at ws) ps) (put_stream (stream_of (id_at ws i) s (each (item_in_words ws st) hd)) (streams_in ws st)) (model_scheduler ws)
  closed_leaves =
      leaves_of ws st ws' ((totals_at ws).total - sum_of (rest_at ws) ps) (put_stream (stream_of (id_at ws i) s (each (item_in_words ws st) hd)) (streams_in ws st)) (model_scheduler ws)
      closed_after.shape
      (Laws.options_put_stream us (row_at ws i) s ∙ c.options)
      (ap (λ (t : Totals). t.interleaving) totals_at_lem ∙ c.interleaving)
      (ap (λ (t : Totals). t.next_message_id) totals_at_lem ∙ c.next_id)
      (ap (λ (t : Totals). t.total) totals_at_lem ∙ c.total)
      (closed_after.streams ∙ rw (row_at_lem, each_frame (item_in_words ws st) (item_in_words ws' st) hd item_stays))
      the_scheduler.1
