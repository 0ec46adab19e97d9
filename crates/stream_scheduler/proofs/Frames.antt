-- What the scheduler's functions leave alone, for any words: a refused one changes nothing, and no function changes another part of the queue. From good words each leaves
-- good ones, whether it is done or refused. Assumes nothing.
use mathlib.Core.Path.{◌≡◌, refl, sym, ◌∙◌, subst}
use mathlib.Core.Bool.{Bool, true, false}
use mathlib.Core.List.{List}
use Prim.Native.Nat.{ℕ, zero, suc, ◌≤◌, ◌<◌}
use native.Mathlib.Omega.{arith}
use lib.Dec.{eqb, ltb, leb}
use Rattle.std.specs.Prelude.{if◌then◌else◌}
use Rattle.queue_model.proofs.Tests.{holds, ltb_false, leb_true, eqb_false, less, same, more, tri}
use Rattle.queue_words.specs.Active.{active_at, put_active_words}
use Rattle.queue_words.specs.Header.{scheduler_at, put_scheduler}
use Rattle.queue_words.specs.Leasts.{put_least}
use Rattle.queue_words.specs.declared.active.ActiveStreamInfo.{ActiveStreamInfo}
use Rattle.queue_words.specs.declared.active.SchedulingParameters.{SchedulingParameters}
use Rattle.queue_words.specs.declared.header.SchedulerState.{SchedulerState}
use Rattle.queue_words.proofs.Laws.{options_put_least, totals_put_least, known_put_least, stream_put_least, item_put_least, options_put_scheduler, totals_put_scheduler, known_put_scheduler, stream_put_scheduler, item_put_scheduler, options_put_active, totals_put_active, known_put_active, stream_put_active, item_put_active}
use Rattle.active_table.specs.Groups.{refreshed}
use Rattle.active_table.specs.Rows.{seek}
use Rattle.active_table.proofs.Choice.{refreshed_puts}
use Rattle.queue_words.specs.Header.{Remembered}
use Rattle.stream_scheduler.specs.Words.{Outcome, outcome, dropped_row, taken_out, remove_stream_words, set_in, set_bytes_remaining_words, accept_row, accept_at}
use Rattle.stream_scheduler.specs.Link.{GoodScheduler, FitsParameters, listed, free, Untouched}
use Rattle.stream_scheduler.proofs.Search.{Sought, hit, miss, sought}
use Rattle.stream_scheduler.proofs.Link.{set_link, remove_link}
use Rattle.stream_scheduler.proofs.Handing.{accept_link}

-- ---- a refused call changes nothing

pub record Kept (ws : List ℕ) (r : Outcome) : Type 0 where
  pub if_refused : r.done ≡ false → r.next ≡ ws

pub kept_done : (ws us : List ℕ) → Kept ws (outcome true us)
kept_done ws us = record { if_refused = λ e. absurd (holds false (sym e)) }

pub kept_if : (ws : List ℕ) (b : Bool) (x y : Outcome) → Kept ws x → Kept ws y → Kept ws (if b then x else y)
kept_if ws true x y k l = k
kept_if ws false x y k l = l

pub kept_refused : (ws : List ℕ) → Kept ws (outcome false ws)
kept_refused ws = record { if_refused = λ e. refl }

pub kept_remove : (ws : List ℕ) (id : ℕ) → Kept ws (remove_stream_words ws id)
unfolding remove_stream_words
kept_remove ws id = kept_if ws (ltb 256 (scheduler_at ws).active) _ _ (kept_refused ws) (kept_done ws _)

kept_in : (ws : List ℕ) (id bytes w at n : ℕ) → Kept ws (set_in ws id bytes w at n)
unfolding set_in
kept_in ws id bytes w at n = kept_if ws (ltb at n) _ _ (kept_done ws _) (kept_if ws (ltb n 256) _ _ (kept_done ws _) (kept_refused ws))

pub kept_set : (ws : List ℕ) (id bytes : ℕ) (p : SchedulingParameters) → Kept ws (set_bytes_remaining_words ws id bytes p)
unfolding set_bytes_remaining_words
kept_set ws id bytes p = kept_if ws (ltb 256 (scheduler_at ws).active) _ _ (kept_refused ws) (kept_if ws (eqb bytes 0) _ _ (kept_done ws _) (kept_in ws id bytes _ _ _))

-- ---- the rest of the queue

pub untouched_same : (ws : List ℕ) → Untouched ws ws
untouched_same ws = record { same_options = refl; same_totals = refl; same_known = λ i h. refl; same_streams = λ i h. refl; same_items = λ i h. refl }

untouched_then : (ws us vs : List ℕ) → Untouched ws us → Untouched us vs → Untouched ws vs
untouched_then ws us vs a b = record {
  same_options = b.same_options ∙ a.same_options;
  same_totals = b.same_totals ∙ a.same_totals;
  same_known = λ i h. b.same_known i h ∙ a.same_known i h;
  same_streams = λ i h. b.same_streams i h ∙ a.same_streams i h;
  same_items = λ i h. b.same_items i h ∙ a.same_items i h;
}

pub untouched_state : (ws : List ℕ) (s : SchedulerState) → Untouched ws (put_scheduler ws s)
untouched_state ws s = record {
  same_options = options_put_scheduler ws s;
  same_totals = totals_put_scheduler ws s;
  same_known = λ i h. known_put_scheduler ws s i;
  same_streams = λ i h. stream_put_scheduler ws s i;
  same_items = λ i h. item_put_scheduler ws s i;
}

untouched_row : (ws : List ℕ) (i : ℕ) (a : ActiveStreamInfo) → Untouched ws (put_active_words ws i a)
untouched_row ws i a = record {
  same_options = options_put_active ws i a;
  same_totals = totals_put_active ws i a;
  same_known = λ j h. known_put_active ws i a j h;
  same_streams = λ j h. stream_put_active ws i a j h;
  same_items = λ j h. item_put_active ws i a j h;
}

-- Groups made fresh change no other part.
untouched_least : (ws : List ℕ) (g v : ℕ) → g < 11 → Untouched ws (put_least ws g v)
untouched_least ws g v h = record {
  same_options = options_put_least ws g v;
  same_totals = totals_put_least ws g v;
  same_known = λ j k. known_put_least ws g v j h;
  same_streams = λ j k. stream_put_least ws g v j h;
  same_items = λ j k. item_put_least ws g v j h;
}

pub untouched_refreshed : (ws us : List ℕ) (at : ℕ) → Untouched ws us → Untouched ws (refreshed us at)
untouched_refreshed ws us at = refreshed_puts us at (Untouched ws) (λ vs g v h k. untouched_then ws vs (put_least vs g v) k (untouched_least vs g v h))

pub untouched_both : (ws : List ℕ) (i : ℕ) (a : ActiveStreamInfo) (s : SchedulerState) → Untouched ws (put_scheduler (put_active_words ws i a) s)
untouched_both ws i a s = untouched_then ws (put_active_words ws i a) (put_scheduler (put_active_words ws i a) s) (untouched_row ws i a) (untouched_state (put_active_words ws i a) s)

pub untouched_if : (ws : List ℕ) (b : Bool) (us vs : List ℕ) → Untouched ws us → Untouched ws vs → Untouched ws (if b then us else vs)
untouched_if ws true us vs k l = k
untouched_if ws false us vs k l = l

pub outcome_if : (ws : List ℕ) (b : Bool) (x y : Outcome) → Untouched ws x.next → Untouched ws y.next → Untouched ws (if b then x else y).next
outcome_if ws true x y k l = k
outcome_if ws false x y k l = l

pub untouched_dropped : (ws : List ℕ) (at : ℕ) (c : Remembered) (t n : ℕ) → Untouched ws (dropped_row ws at c t n)
unfolding dropped_row
untouched_dropped ws at c t n = untouched_both ws at _ _

untouched_taken : (ws : List ℕ) (id at n : ℕ) → Untouched ws (taken_out ws id at n)
unfolding taken_out
untouched_taken ws id at n = untouched_if ws (ltb at n) _ _ (untouched_dropped ws at _ _ n) (untouched_state ws _)

pub untouched_remove : (ws : List ℕ) (id : ℕ) → Untouched ws (remove_stream_words ws id).next
unfolding remove_stream_words
untouched_remove ws id = outcome_if ws (ltb 256 (scheduler_at ws).active) _ _ (untouched_same ws) (untouched_taken ws id _ _)

untouched_in : (ws : List ℕ) (id bytes w at n : ℕ) → Untouched ws (set_in ws id bytes w at n).next
unfolding set_in
untouched_in ws id bytes w at n = outcome_if ws (ltb at n) _ _ (untouched_row ws at _) (outcome_if ws (ltb n 256) _ _ (untouched_both ws n _ _) (untouched_same ws))

pub untouched_set : (ws : List ℕ) (id bytes : ℕ) (p : SchedulingParameters) → Untouched ws (set_bytes_remaining_words ws id bytes p).next
unfolding set_bytes_remaining_words
untouched_set ws id bytes p = outcome_if ws (ltb 256 (scheduler_at ws).active) _ _ (untouched_same ws) (outcome_if ws (eqb bytes 0) _ _ (untouched_taken ws id _ _) (untouched_in ws id bytes _ _ _))

untouched_handed : (ws : List ℕ) (at bytes n : ℕ) → Untouched ws (accept_row ws at bytes n)
unfolding accept_row
untouched_handed ws at bytes n = untouched_if ws (leb (active_at ws at).bytes_remaining bytes) _ _ (untouched_dropped ws at _ _ n) (untouched_both ws at _ _)

pub untouched_accept : (ws : List ℕ) (at bytes : ℕ) → Untouched ws (accept_at ws at bytes).next
unfolding accept_at
untouched_accept ws at bytes = outcome_if ws (ltb 256 (scheduler_at ws).active) _ _ (untouched_same ws) (outcome_if ws (leb (scheduler_at ws).active at) _ _ (untouched_same ws) (untouched_refreshed ws _ at (untouched_handed ws at bytes _)))

-- ---- good again, done or refused

pub good_remove : (ws : List ℕ) → GoodScheduler ws → (id : ℕ) → id < 65536 → GoodScheduler (remove_stream_words ws id).next
good_remove ws g id f = (remove_link ws g id f).step_good

module _ (ws : List ℕ) (g : GoodScheduler ws) where
  -- A row that is not there: refused.
  accept_outside : (at bytes : ℕ) → (scheduler_at ws).active ≤ at → accept_at ws at bytes ≡ outcome false ws
  unfolding accept_at
  accept_outside at bytes h = rw (ltb_false g.few, leb_true h)

  pub good_accept : (at bytes : ℕ) → GoodScheduler (accept_at ws at bytes).next
  good_accept at bytes = elim (tri at (scheduler_at ws).active) [
    | less l ↦ (accept_link ws g at bytes l).step_good
    | same e ↦ subst (λ (r : Outcome). GoodScheduler r.next) (sym (accept_outside at bytes (omega arith))) g
    | more l ↦ subst (λ (r : Outcome). GoodScheduler r.next) (sym (accept_outside at bytes (omega arith))) g
  ]

  -- Without bytes a stream's waiting is ended.
  set_nothing : (id : ℕ) (p : SchedulingParameters) → set_bytes_remaining_words ws id 0 p ≡ remove_stream_words ws id
  unfolding set_bytes_remaining_words remove_stream_words
  set_nothing id p = refl

  -- All 256 rows are other streams': refused.
  pub set_full : (id bytes : ℕ) (p : SchedulingParameters) → 0 < bytes → 256 ≤ (scheduler_at ws).active → seek ws id (scheduler_at ws).active ≡ (scheduler_at ws).active → set_bytes_remaining_words ws id bytes p ≡ outcome false ws
  unfolding set_bytes_remaining_words set_in
  set_full id bytes p pos full none_has =
      let n : ℕ = (scheduler_at ws).active in
      let ne : bytes ≡ 0 → ⊥ = λ f. omega arith in
      let k : n ≤ n = omega arith in
      rw (ltb_false g.few, eqb_false ne, none_has, ltb_false k, ltb_false full)

  module _ (id : ℕ) (p : SchedulingParameters) (f : id < 65536) (fp : FitsParameters p) where
    good_full : (bytes : ℕ) → 256 ≤ (scheduler_at ws).active → seek ws id (scheduler_at ws).active ≡ (scheduler_at ws).active → GoodScheduler (set_bytes_remaining_words ws id bytes p).next
    good_full zero full z = subst (λ (r : Outcome). GoodScheduler r.next) (sym (set_nothing id p)) (good_remove ws g id f)
    good_full (suc m) full z = subst (λ (r : Outcome). GoodScheduler r.next) (sym (set_full id (suc m) p (omega arith) full z)) g

    good_sought : (bytes at : ℕ) → seek ws id (scheduler_at ws).active ≡ at → 256 ≤ (scheduler_at ws).active → Sought ws id (scheduler_at ws).active at → GoodScheduler (set_bytes_remaining_words ws id bytes p).next
    good_sought bytes at q full (hit h e) = (set_link ws g id bytes p f fp (listed at h e)).step_good
    good_sought bytes at q full (miss z h) = good_full bytes full (q ∙ z)

    pub good_set : (bytes : ℕ) → GoodScheduler (set_bytes_remaining_words ws id bytes p).next
    good_set bytes = elim (tri (scheduler_at ws).active 256) [
      | less l ↦ (set_link ws g id bytes p f fp (free l)).step_good
      | same e ↦ good_sought bytes (seek ws id (scheduler_at ws).active) refl (omega arith) (sought ws id (scheduler_at ws).active)
      | more l ↦ good_sought bytes (seek ws id (scheduler_at ws).active) refl (omega arith) (sought ws id (scheduler_at ws).active)
    ]
