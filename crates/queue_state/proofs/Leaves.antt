-- After the scheduler, the head of a known stream goes: the queue that the words then stand for. Assumes nothing.
use Prim.Native.Nat.{ℕ, ◌-◌, ◌≤◌, ◌<◌}
use mathlib.Core.Path.{◌≡◌, sym, ap, subst, ◌∙◌}
use mathlib.Core.List.{List, ◌∷◌}
use native.Mathlib.Omega.{arith}
use lib.ListN.{length}
use Rattle.queue_words.specs.Header.{options_at, totals_at}
use Rattle.queue_words.specs.Items.{item_at}
use Rattle.queue_words.specs.Known.{id_at}
use Rattle.queue_words.specs.Streams.{stream_at_words, put_stream_words}
use Rattle.queue_words.specs.declared.header.Totals.{Totals}
use Rattle.queue_words.specs.declared.items.Item.{Item}
use Rattle.queue_words.specs.declared.known.Known.{Known}
use Rattle.queue_words.specs.declared.streams.OutgoingStream.{OutgoingStream}
use Rattle.queue_words.specs.declared.streams.PauseState.{PauseState}
use Rattle.queue_words.proofs.Laws
use Rattle.queue_model.specs.Types.{Queue, Scheduler, with_state}
use Rattle.queue_model.specs.Types as plain
use Rattle.queue_model.specs.Streams.{put_stream}
use Rattle.payload_store.specs.Promise.{SamePlaces}
use Rattle.payload_store.proofs.Goods.{payload_kept}
use Rattle.stream_scheduler.specs.Link.{Untouched, model_scheduler}
use Rattle.message_chains.specs.Amounts.{rest}
use Rattle.message_chains.specs.Heads.{released, without_head, head_dropped}
use Rattle.queue_state.specs.Chains.{count, each}
use Rattle.queue_state.specs.Model.{next_of, item_in_words, stream_of, row_at, options_of, streams_in, model}
use Rattle.queue_state.specs.Good.{Shape}
use Rattle.queue_state.proofs.Frames.{Same, same_item, items_frame, row_below, row_fits}
use Rattle.queue_state.proofs.Heads.{HeadLeft, head_left, head_first, head_fits}
use Rattle.queue_state.proofs.Rooms.{Let}
use Rattle.queue_state.proofs.Singles.{model_is, model_options, model_interleaving, model_next}

-- What the scheduler's functions leave alone: every message.
pub untouched_same : (ws us st : List ℕ) → length us ≡ length ws → Untouched ws us → (x : ℕ) → x < 1024 → Same ws st us st x
untouched_same ws us st l u x h = same_item ws st us st x (u.same_items x h) (payload_kept ws us st x places h)
  where
    places : SamePlaces ws us
    places = record {
      long = l;
      places = λ y k. ap (λ (m : Item). m.place) (u.same_items y k);
      sizes = λ y k. ap (λ (m : Item). m.length) (u.same_items y k);
      used = ap (λ (t : Totals). t.used) u.same_totals;
      gaps = ap (λ (t : Totals). t.gaps) u.same_totals;
    }

-- The queue with this total, these streams and this scheduler.
pub record Leaves (ws st ws' : List ℕ) (t : ℕ) (ss : List plain.Stream) (sc : Scheduler) : Type 0 where
  pub shape : Shape ws' st
  pub options : options_at ws' ≡ options_at ws
  pub queue : model ws' st ≡ with_state (model ws st) t ss sc

pub leaves_of : (ws st ws' : List ℕ) (t : ℕ) (ss : List plain.Stream) (sc : Scheduler) → Shape ws' st → options_at ws' ≡ options_at ws → (totals_at ws').interleaving ≡ (totals_at ws).interleaving
    → (totals_at ws').next_message_id ≡ (totals_at ws).next_message_id → (totals_at ws').total ≡ t → streams_in ws' st ≡ ss → model_scheduler ws' ≡ sc → Leaves ws st ws' t ss sc
unfolding model
leaves_of ws st ws' t ss sc s o il n e f h = record {
  shape = s;
  options = o;
  queue = model_is ws' st (options_of (options_at ws)) (totals_at ws).interleaving t (totals_at ws).next_message_id.0 ss sc (ap options_of o) il e (ap (λ (k : _). k.0) n) f h;
}

-- After the scheduler alone, the rest of the queue is the same.
same_state : (q r : Queue) (t : ℕ) (ss : List plain.Stream) (sc : Scheduler) → q.options ≡ r.options → q.interleaving ≡ r.interleaving → q.next_message_id ≡ r.next_message_id → with_state q t ss sc ≡ with_state r t ss sc
same_state q r t ss sc a b c = rw (a, b, c)

pub leaves_through : (ws us st ws' : List ℕ) (t : ℕ) (ss : List plain.Stream) (sc : Scheduler) → Untouched ws us → Leaves us st ws' t ss sc → Leaves ws st ws' t ss sc
leaves_through ws us st ws' t ss sc u l = record {
  shape = l.shape;
  options = l.options ∙ u.same_options;
  queue = l.queue ∙ same_state (model us st) (model ws st) t ss sc
      (model_options us st ∙ ap options_of u.same_options ∙ sym (model_options ws st))
      (model_interleaving us st ∙ ap (λ (x : Totals). x.interleaving) u.same_totals ∙ sym (model_interleaving ws st))
      (model_next us st ∙ ap (λ (x : Totals). x.next_message_id.0) u.same_totals ∙ sym (model_next ws st));
}

module _ (ws st : List ℕ) (g : Shape ws st) (i : ℕ) (hk : i < (totals_at ws).known) (x : ℕ) (xs : List ℕ) (eq : g.q i ≡ x ∷ xs) (us : List ℕ) (sc : Scheduler) (u : Let ws st g us sc) where
  abbrev s : OutgoingStream
  s = stream_at_words ws (row_at ws i)

  abbrev n : ℕ
  n = rest (item_at ws x)

  below : i < 256
  below = omega (arith, g.known_fits)

  hk' : i < (totals_at us).known
  hk' = rw u.untouched.same_totals hk

  eq' : u.unmoved.shape.q i ≡ x ∷ xs
  eq' = u.unmoved.q_is i ∙ eq

  row_same : row_at us i ≡ row_at ws i
  row_same = ap (λ (k : Known). k.place) (u.untouched.same_known i below)

  id_same : id_at us i ≡ id_at ws i
  id_same = ap (λ (k : Known). k.id.0) (u.untouched.same_known i below)

  row_there : stream_at_words us (row_at us i) ≡ stream_at_words ws (row_at ws i)
  row_there = ap (stream_at_words us) row_same ∙ u.untouched.same_streams (row_at ws i) (row_below ws st g i hk)

  long_same : length us ≡ length ws
  long_same = u.unmoved.shape.long ∙ sym g.long

  next_same : next_of us x ≡ next_of ws x
  next_same = (untouched_same ws us st long_same u.untouched x (head_fits ws st g i hk x xs eq)).next_same

  tail_same : each (item_in_words us st) xs ≡ each (item_in_words ws st) xs
  tail_same = items_frame ws st us st xs (λ y h. untouched_same ws us st long_same u.untouched y (row_fits g.q g.fr y i g.split below (subst (λ (ps : List ℕ). 1 ≤ count y ps) (sym eq) (omega arith))))

  module _ (state : PauseState) where
    abbrev left : OutgoingStream
    left = without_head s state (next_of us x) n

    the_words : head_dropped us (row_at ws i) s state (item_at ws x) ≡ put_stream_words (released us x n) (row_at us i) left
    unfolding head_dropped
    the_words =
        ap (λ (p : ℕ). put_stream_words (released us p n) (row_at ws i) (without_head s state (next_of ws x) n)) (head_first ws st g i hk x xs eq)
        ∙ ap (λ (r : ℕ). put_stream_words (released us x n) r (without_head s state (next_of ws x) n)) (sym row_same)
        ∙ ap (λ (p : ℕ). put_stream_words (released us x n) (row_at us i) (without_head s state p n)) (sym next_same)

    the_head : HeadLeft us st u.unmoved.shape i x xs left n (put_stream_words (released us x n) (row_at us i) left)
    the_head = head_left us st u.unmoved.shape i hk' x xs eq' s (Laws.stream_at_fits ws (row_at ws i)) (ap (λ (k : OutgoingStream). k.last) (sym row_there)) state n

    left_here : put_stream (stream_of (id_at us i) left (each (item_in_words us st) xs)) (streams_in us st) ≡ put_stream (stream_of (id_at ws i) (without_head s state (next_of ws x) n) (each (item_in_words ws st) xs)) (streams_in ws st)
    left_here = rw (id_same, next_same, tail_same, u.unmoved.streams)

    pub head_leaves : Leaves ws st (head_dropped us (row_at ws i) s state (item_at ws x)) ((totals_at ws).total - n) (put_stream (stream_of (id_at ws i) (without_head s state (next_of ws x) n) (each (item_in_words ws st) xs)) (streams_in ws st)) sc
    head_leaves =
        let h = the_head in
        rw the_words
        (leaves_of ws st (put_stream_words (released us x n) (row_at us i) left) ((totals_at ws).total - n) (put_stream (stream_of (id_at ws i) (without_head s state (next_of ws x) n) (each (item_in_words ws st) xs)) (streams_in ws st)) sc
        h.after.shape
        (h.options ∙ u.untouched.same_options)
        (h.interleaving ∙ ap (λ (t : Totals). t.interleaving) u.untouched.same_totals)
        (h.next_id ∙ ap (λ (t : Totals). t.next_message_id) u.untouched.same_totals)
        (h.total ∙ ap (λ (t : Totals). t.total - n) u.untouched.same_totals)
        (h.streams ∙ left_here)
        (h.schedules ∙ u.scheduler))
