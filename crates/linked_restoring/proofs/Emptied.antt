-- Restoring, first: words without streams and messages, whatever they held. Assumes nothing.
use mathlib.Core.Path.{◌≡◌, refl, sym, ap, ◌∙◌}
use mathlib.Core.List.{List, []}
use Prim.Native.Nat.{ℕ, ◌<◌}
use native.Mathlib.Omega.{arith}
use lib.ListN.{length}
use Rattle.queue_words.specs.Header.{options_at, totals_at, scheduler_at, put_totals, put_scheduler}
use Rattle.queue_words.specs.declared.header.Totals.{Totals}
use Rattle.queue_words.specs.declared.header.SchedulerState.{SchedulerState}
use Rattle.queue_words.proofs.Laws
use Rattle.queue_model.specs.Scheduler.{new_scheduler}
use Rattle.payload_store.proofs.Goods.{new_good}
use Rattle.stream_scheduler.specs.Link.{GoodScheduler, model_scheduler, table_of}
use Rattle.stream_scheduler.proofs.Link.{current_none}
use Rattle.queue_state.specs.Chains.{sum_of, range}
use Rattle.queue_state.specs.Model.{next_of, stream_in, streams_in, tab}
use Rattle.queue_state.specs.Good.{Shape}
use Rattle.queue_state.proofs.Splits.{range_linked, split_new, total_zero}
use Rattle.queue_state.proofs.Frames.{free_fits}
use Rattle.queue_messages.specs.Create.{new_scheduler_words}
use Rattle.linked_adding.proofs.Freed.{Freed, freed_all}
use Rattle.restoring.specs.Streams.{empty_totals, emptied}

module _ (ws st : List ℕ) (id : ℕ) (len : length ws ≡ 20768) (small : id < 4294967296) where
  -- the words before the places are freed
  begun : List ℕ
  begun = put_scheduler (put_totals ws (empty_totals (totals_at ws) id)) new_scheduler_words

  long_t : length (put_totals ws (empty_totals (totals_at ws) id)) ≡ 20768
  long_t = Laws.whole_put_totals ws (empty_totals (totals_at ws) id) ∙ len

  long_s : length begun ≡ 20768
  unfolding begun
  long_s = Laws.whole_put_scheduler (put_totals ws (empty_totals (totals_at ws) id)) new_scheduler_words ∙ long_t

  places : Freed begun (emptied ws id) 1024
  unfolding begun emptied
  places = freed_all begun 1024 long_s (omega arith)

  long : length (emptied ws id) ≡ 20768
  long = places.long ∙ long_s

  pub empty_options : options_at (emptied ws id) ≡ options_at ws
  unfolding begun
  empty_options =
      places.options
      ∙ Laws.options_put_scheduler (put_totals ws (empty_totals (totals_at ws) id)) new_scheduler_words
      ∙ Laws.options_put_totals ws (empty_totals (totals_at ws) id)

  pub empty_totals_lem : totals_at (emptied ws id) ≡ empty_totals (totals_at ws) id
  unfolding begun
  empty_totals_lem =
      places.totals
      ∙ Laws.totals_put_scheduler (put_totals ws (empty_totals (totals_at ws) id)) new_scheduler_words
      ∙ Laws.totals_at_put ws (empty_totals (totals_at ws) id) len (record { message_id_fits = small })

  scheduler : scheduler_at (emptied ws id) ≡ new_scheduler_words
  unfolding begun
  scheduler = places.scheduler ∙ Laws.scheduler_at_put (put_totals ws (empty_totals (totals_at ws) id)) new_scheduler_words long_t tt

  none_known : (totals_at (emptied ws id)).known ≡ 0
  none_known = ap (λ (t : Totals). t.known) empty_totals_lem

  good_scheduler : GoodScheduler (emptied ws id)
  good_scheduler = record {
    long = long;
    few = rw scheduler (omega arith);
    unlike = λ i j h l e. absurd (let z : (scheduler_at (emptied ws id)).active ≡ 0 = ap (λ (s : SchedulerState). s.active) scheduler in omega arith);
    leasts = λ i h j l. absurd (let z : (scheduler_at (emptied ws id)).active ≡ 0 = ap (λ (s : SchedulerState). s.active) scheduler in omega arith);
  }

  pub empty_shape : Shape (emptied ws id) st
  empty_shape = record {
    q = λ j. [];
    fr = range 0 1024;
    long = long;
    known_fits = omega (arith, none_known);
    rising = λ i j h l. absurd (omega (arith, none_known));
    inside = λ i h. absurd (omega (arith, none_known));
    unlike = λ i j h l e. absurd (omega (arith, none_known));
    split = split_new;
    free = rw empty_totals_lem (range_linked (next_of (emptied ws id)) 0 1024 refl (λ x h l. places.nexts x l));
    rows = λ i h. absurd (omega (arith, none_known));
    rest = λ i h. refl;
    full = λ i x h. absurd (omega arith);
    bare = λ x h. places.sizes x (free_fits (λ j. []) (range 0 1024) x split_new h);
    waits = ap (λ (t : Totals). t.waiting) empty_totals_lem ∙ sym (total_zero length (λ j. []) (λ j. refl));
    used = ap (λ (t : Totals). t.used) empty_totals_lem ∙ sym (total_zero (sum_of _) (λ j. []) (λ j. refl));
    lay = new_good (emptied ws id) st long places.places places.sizes (ap (λ (t : Totals). t.used) empty_totals_lem) (ap (λ (t : Totals). t.gaps) empty_totals_lem);
    schedules = good_scheduler;
  }

  pub empty_streams : streams_in (emptied ws id) st ≡ []
  unfolding streams_in tab
  empty_streams = ap (tab (stream_in (emptied ws id) st)) none_known

  pub empty_scheduler : model_scheduler (emptied ws id) ≡ new_scheduler (options_at ws).payload_limit
  unfolding model_scheduler new_scheduler table_of
  empty_scheduler = rw (empty_options, scheduler, current_none)
