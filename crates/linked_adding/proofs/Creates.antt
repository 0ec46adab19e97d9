-- Creation is the model's: a new queue in any words, or the same refusal. Assumes nothing.
use mathlib.Core.Path.{◌≡◌, refl, sym, ap, ◌∙◌}
use mathlib.Core.Bool.{Bool, true, false, ◌||◌}
use mathlib.Core.List.{List, [], ◌∷◌}
use mathlib.Core.Option.{none, some}
use Prim.Native.Nat.{ℕ, zero, suc, ◌%◌, ◌^◌, ◌≤◌, ◌<◌}
use native.Mathlib.Omega.{arith}
use borrow.Author.Tests.{le-ltb, ne_eqb}
use lib.Dec.{ltb, eqb}
use lib.ListN.{length}
use Rattle.queue_words.specs.Flags.{pick}
use Rattle.queue_words.specs.Header.{options_at, totals_at, scheduler_at, put_options, put_totals, put_scheduler}
use Rattle.queue_words.specs.declared.header.Options as words
use Rattle.queue_words.specs.declared.header.Totals.{Totals}
use Rattle.queue_words.specs.declared.header.SchedulerState.{SchedulerState}
use Rattle.queue_words.proofs.Laws
use Rattle.queue_model.specs.Types.{Options}
use Rattle.queue_model.specs.Scheduler.{new_scheduler}
use Rattle.queue_model.specs.Streams.{new_queue}
use Rattle.queue_model.specs.Refusals.{◌when◌, first_refusal, not_created, new, creation_or, create_refusal, create}
use Rattle.queue_model.specs.Demands.{Created}
use Rattle.queue_model.proofs.Invariant.Well.{room, well_new}
use Rattle.payload_store.proofs.Goods.{new_good}
use Rattle.stream_scheduler.specs.Link.{GoodScheduler, model_scheduler, table_of}
use Rattle.stream_scheduler.proofs.Link.{current_none}
use Rattle.queue_streams.specs.Settings.{Called}
use Rattle.queue_state.specs.Chains.{sum_of, total, range}
use Rattle.queue_state.specs.Model.{next_of, options_of, stream_in, streams_in, tab, model}
use Rattle.queue_state.specs.Good.{Shape, Good}
use Rattle.queue_state.proofs.Splits.{range_linked, split_new, total_zero}
use Rattle.queue_state.proofs.Frames.{free_fits}
use Rattle.queue_state.proofs.Singles.{model_is}
use Rattle.queue_words.specs.declared.header.RestartRule.{RestartRule}
use Rattle.queue_messages.specs.Create.{create_code, new_totals, new_scheduler_words, new_words, new_options}
use Rattle.queue_messages.specs.Create as words_create
use Rattle.linked_adding.specs.Create.{options_for, Creates}
use Rattle.linked_adding.proofs.Freed.{Freed, freed_all}

-- ---- the refusal

pub zero_below : (n : ℕ) → eqb n 0 ≡ ltb n 1
zero_below zero = refl
zero_below (suc n) = rw (ne_eqb (suc n) 0 (λ e. omega arith), le-ltb (suc n) 1 (omega arith))

-- both lists of tests, by their tests
tests : (a b c d : Bool) → first_refusal ((1 when (a || b)) ∷ (2 when (c || d)) ∷ []) ≡ pick (ltb 0 (pick a 1 (pick b 1 (pick c 2 (pick d 2 0))))) (some (pick a 1 (pick b 1 (pick c 2 (pick d 2 0))))) none
unfolding first_refusal
tests true b c d = refl
tests false true c d = refl
tests false false true d = refl
tests false false false true = refl
tests false false false false = refl

refusal_is : (o : Options) → create_refusal o ≡ pick (ltb 0 (create_code o.payload_limit o.store_length)) (some (create_code o.payload_limit o.store_length)) none
unfolding create_refusal create_code
refusal_is o =
    rw (zero_below o.payload_limit, zero_below o.store_length) (tests (ltb o.payload_limit 1) (ltb 65535 o.payload_limit) (ltb o.store_length 1) (ltb 2000000 o.store_length))

-- ---- the new words

module _ (ws st : List ℕ) (o : words.Options) (len : length ws ≡ 20768) (small : o.payload_limit < 65536) (low : o.default_priority < 65536) where
  -- the words before the places are freed
  begun : List ℕ
  begun = put_scheduler (put_totals (put_options ws o) new_totals) new_scheduler_words

  long_o : length (put_options ws o) ≡ 20768
  long_o = Laws.whole_put_options ws o ∙ len

  long_t : length (put_totals (put_options ws o) new_totals) ≡ 20768
  long_t = Laws.whole_put_totals (put_options ws o) new_totals ∙ long_o

  long_s : length begun ≡ 20768
  unfolding begun
  long_s = Laws.whole_put_scheduler (put_totals (put_options ws o) new_totals) new_scheduler_words ∙ long_t

  places : Freed begun (new_words ws o) 1024
  unfolding begun new_words
  places = freed_all begun 1024 long_s (omega arith)

  long : length (new_words ws o) ≡ 20768
  long = places.long ∙ long_s

  options : options_at (new_words ws o) ≡ o
  unfolding begun
  options =
      places.options
      ∙ Laws.options_put_scheduler (put_totals (put_options ws o) new_totals) new_scheduler_words
      ∙ Laws.options_put_totals (put_options ws o) new_totals
      ∙ Laws.options_at_put ws o len (record { limit_fits = small; priority_fits = low })

  totals : totals_at (new_words ws o) ≡ new_totals
  unfolding begun
  totals =
      places.totals
      ∙ Laws.totals_put_scheduler (put_totals (put_options ws o) new_totals) new_scheduler_words
      ∙ Laws.totals_at_put (put_options ws o) new_totals long_o (record { message_id_fits = omega arith })

  scheduler : scheduler_at (new_words ws o) ≡ new_scheduler_words
  unfolding begun
  scheduler = places.scheduler ∙ Laws.scheduler_at_put (put_totals (put_options ws o) new_totals) new_scheduler_words long_t tt

  none_known : (totals_at (new_words ws o)).known ≡ 0
  none_known = ap (λ (t : Totals). t.known) totals

  good_scheduler : GoodScheduler (new_words ws o)
  good_scheduler = record {
    long = long;
    few = rw scheduler (omega arith);
    unlike = λ i j h l e. absurd (let z : (scheduler_at (new_words ws o)).active ≡ 0 = ap (λ (s : SchedulerState). s.active) scheduler in omega arith);
    leasts = λ i h j l. absurd (let z : (scheduler_at (new_words ws o)).active ≡ 0 = ap (λ (s : SchedulerState). s.active) scheduler in omega arith);
  }

  new_shape : Shape (new_words ws o) st
  new_shape = record {
    q = λ j. [];
    fr = range 0 1024;
    long = long;
    known_fits = omega (arith, none_known);
    rising = λ i j h l. absurd (omega (arith, none_known));
    inside = λ i h. absurd (omega (arith, none_known));
    unlike = λ i j h l e. absurd (omega (arith, none_known));
    split = split_new;
    free = rw totals (range_linked (next_of (new_words ws o)) 0 1024 refl (λ x h l. places.nexts x l));
    rows = λ i h. absurd (omega (arith, none_known));
    rest = λ i h. refl;
    full = λ i x h. absurd (omega arith);
    bare = λ x h. places.sizes x (free_fits (λ j. []) (range 0 1024) x split_new h);
    waits = ap (λ (t : Totals). t.waiting) totals ∙ sym (total_zero length (λ j. []) (λ j. refl));
    used = ap (λ (t : Totals). t.used) totals ∙ sym (total_zero (sum_of _) (λ j. []) (λ j. refl));
    lay = new_good (new_words ws o) st long places.places places.sizes (ap (λ (t : Totals). t.used) totals) (ap (λ (t : Totals). t.gaps) totals);
    schedules = good_scheduler;
  }

  no_streams : streams_in (new_words ws o) st ≡ []
  unfolding streams_in tab
  no_streams = ap (tab (stream_in (new_words ws o) st)) none_known

  at_rest : model_scheduler (new_words ws o) ≡ new_scheduler o.payload_limit
  unfolding model_scheduler new_scheduler table_of
  at_rest = rw (options, scheduler, current_none)

  new_model : model (new_words ws o) st ≡ new_queue (options_of o)
  unfolding new_queue
  new_model =
      model_is (new_words ws o) st (options_of o) false 0 0 [] (new_scheduler o.payload_limit)
      (ap options_of options) (ap (λ (t : Totals). t.interleaving) totals) (ap (λ (t : Totals). t.total) totals) (ap (λ (t : Totals). t.next_message_id.0) totals) no_streams at_rest

-- ---- the call

options_same : (len limit priority threshold total : ℕ) (handover : Bool) (rule : RestartRule) → limit ≤ 65535 → options_of (new_options len limit priority threshold total handover rule) ≡ options_for len limit priority threshold total handover rule
options_same len limit priority threshold total handover rule h = let e : limit % 65536 ≡ limit = omega arith in rw e

module _ (ws st : List ℕ) (len limit priority threshold total : ℕ) (handover : Bool) (rule : RestartRule) (long : length ws ≡ 20768) (same : length st ≡ len)
    (hp : priority < 65536) (ht : threshold < 2 ^ 64) (hs : total < 2 ^ 64) where
  abbrev o : Options
  o = options_for len limit priority threshold total handover rule

  -- the call
  abbrev outcome : Called
  outcome = words_create.create ws len limit priority threshold total handover rule

  -- the words if it is accepted
  abbrev made : List ℕ
  made = new_words ws (new_options len limit priority threshold total handover rule)

  new_good_words : Created o
      → Good made st × (model made st ≡ new_queue o)
  new_good_words c =
      let r = room o c in
      let p = new_options len limit priority threshold total handover rule in
      let small : limit % 65536 < 65536 = omega arith in
      let e : model (new_words ws p) st ≡ new_queue o = new_model ws st p long small hp ∙ ap new_queue (options_same len limit priority threshold total handover rule r.limit_high) in (
        record {
          shape = new_shape ws st p long small hp;
          store_is = same ∙ sym (ap (λ (x : words.Options). x.store_length) (options ws st p long small hp));
          well = rw e (well_new o c);
        },
        e,
      )

  pub create_link : Creates o ws st
      outcome.answer outcome.next
  unfolding words_create.create create creation_or
  create_link = go (ltb 0 (create_code limit len)) refl (refusal_is o)
    where
      go : (b : Bool) → ltb 0 (create_code limit len) ≡ b → create_refusal o ≡ pick b (some (create_code limit len)) none
          → Creates o ws st
          outcome.answer outcome.next
      go true e f = record {
        answer = rw (e, f);
        good = λ q h. absurd (let k : creation_or (some (create_code limit len)) (new_queue o) ≡ new q = rw f at h in let z : ◌≡◌ {A = ℕ} 0 1 = cc in omega arith);
        stands = λ q h. absurd (let k : creation_or (some (create_code limit len)) (new_queue o) ≡ new q = rw f at h in let z : ◌≡◌ {A = ℕ} 0 1 = cc in omega arith);
        unchanged = λ n h. rw e;
      }
      go false e f =
          let g = new_good_words (record { accepted = f; default_priority = hp; default_threshold = ht; total_threshold = hs }) in
          record {
            answer = rw (e, f);
            good = λ q h. rw e g.0;
            stands = λ q h. let k : creation_or none (new_queue o) ≡ new q = rw f at h in let z : new_queue o ≡ q = cc in rw e (g.1 ∙ z);
            unchanged = λ n h. absurd (let k : creation_or none (new_queue o) ≡ not_created n = rw f at h in let z : ◌≡◌ {A = ℕ} 0 1 = cc in omega arith);
          }
