-- A stream that has begun no message since its counters were zeroed: every call but restoring leaves it so, or shows a fragment of it that starts
-- afresh. Assumes nothing.
use mathlib.Core.Path.{◌≡◌, refl, sym, ap, ap₂, subst, ◌∙◌}
use mathlib.Core.Bool.{Bool, true, false}
use mathlib.Core.List.{List, [], ◌∷◌, map}
use mathlib.Core.Option.{Option, none, some}
use Prim.Native.Nat.{ℕ}
use lib.Dec.{eqb}
use Rattle.std.specs.Prelude.{if◌then◌else◌}
use Rattle.queue_model.specs.Logic.{same_bool}
use Rattle.queue_model.specs.Types.{Item, PauseState, not_paused, pending, paused, resetting, Counters, Stream, Active, Queue, Fragment, Answer, done, Step, remaining, model_with_pause, with_threshold, with_priority, with_numbers, refuse, reply, Message}
use Rattle.queue_model.specs.Streams.{find_stream, zero_counters, stream_at, stream_key, with_message}
use Rattle.queue_model.specs.Refusals.{Check, first_refusal, refused_or, checked, short_of}
use Rattle.queue_model.specs.Amounts.{drop_head_events}
use Rattle.queue_model.specs.Add.{added, add_checks, new_item}
use Rattle.queue_model.specs.Produce.{Head, head_of, drop_head, drop_in, give_numbers, numbered_in, numbered, make_fragment, handed_out_last, handed_out_part, handed_out}
use Rattle.queue_model.specs.Discard.{discarded, discard_at, discard_checks}
use Rattle.queue_model.specs.Close.{untouched, kept, closed, close_in, close_checks}
use Rattle.queue_model.specs.Reset.{is_paused, is_resetting, paused_to_resetting, opened, reopened, reopen, whole_head, reset_stream, reset_checks}
use Rattle.queue_model.specs.Image.{Handover}
use Rattle.queue_model.specs.Reader.{read_image}
use Rattle.queue_model.specs.Restore.{restored, record_checks, restore_read, restore_checks}
use Rattle.queue_model.specs.Settings.{threshold_checks, priority_checks, switched}
use Rattle.queue_model.specs.Restart.{Afresh, NotRestored}
use Rattle.queue_model.specs.Answers.{fragments_in, of_stream}
use Rattle.queue_model.specs.Run.{Call, add, produce, fill, discard, close, ready_ids, commit, rollback, reset, set_threshold, set_priority, set_interleaving, restore, ask_priority, ask_amount, ask_threshold, ask_total, ask_empty, ask_has_data, ask_streams_ready, ask_ready_count, ask_readiness, ask_room, step}
use Rattle.queue_model.proofs.Tests.{eqb_true, eqb_false}
use Rattle.queue_model.proofs.Table.{Every, every_put, every_map, every_find, every_snoc, own, other, is_own}
use Rattle.queue_model.proofs.Checks.{checked_either}
use Rattle.queue_model.proofs.Streams.{every_at}
use Rattle.queue_model.proofs.Invariant.Messages.{WellItem, WellRest, WellItems}
use Rattle.queue_model.proofs.Invariant.Well.{Kept, Well}
use Rattle.queue_model.proofs.Invariant.Sends.{headless, headed, heads, head_of_at, head_well}
use Rattle.queue_model.proofs.Invariant.Passing.{Past, here, over, Ends, none_waits, hands_out, Next, refuses, passes, next_fragment}
use Rattle.queue_model.proofs.Invariant.Fates.{fragment_on}
use Rattle.queue_model.proofs.Calm.Calm.{HeadAt}
use Rattle.queue_model.specs.Calls
use Rattle.queue_model.specs.Restore

-- ---- one stream

-- No message has a MID.
abbrev NoMids : List Item → Type 0
NoMids is = Every (λ (i : Item). i.mid ≡ none) is

pub record Unbegun (s : Stream) : Type 0 where
  pub zeroed : s.counters ≡ zero_counters
  pub no_mids : NoMids s.items

-- The stream k of a queue is such a stream, if it is known.
abbrev pub FreshAs : ℕ → Stream → Type 0
FreshAs k s = s.id ≡ k → Unbegun s

abbrev pub Fresh : ℕ → Queue → Type 0
Fresh k q = Every (FreshAs k) q.streams

-- ---- its fragment

-- Counters at 0 give a message without MID the numbers 0.
given_zeros : (u : Bool) (i : Item) → (give_numbers u zero_counters i).item ≡ with_numbers i (some 0) 0 i.fsn i.offset
unfolding give_numbers
given_zeros true i = refl
given_zeros false i = refl

numbered_zeros : (c : Counters) (i : Item) → c ≡ zero_counters → i.mid ≡ none → (numbered c i).item ≡ with_numbers i (some 0) 0 i.fsn i.offset
unfolding numbered numbered_in
numbered_zeros c i e m = ap₂ (λ (x : Option ℕ) (d : Counters). (numbered_in x d i).item) m e ∙ given_zeros i.unordered i

pub afresh : (s : Stream) (i : Item) (n : ℕ) → s.counters ≡ zero_counters → i.mid ≡ none → WellItem i → Afresh (make_fragment s (numbered s.counters i).item n)
unfolding make_fragment
afresh s i n e m w =
    subst (λ (j : Item). Afresh (make_fragment s j n)) (sym (numbered_zeros s.counters i e m))
    (record { first = eqb_true (w.no_offset m); mid = refl; ssn = refl; fsn = w.no_fsn m })

-- ---- what a call leaves and shows

-- No fragment of stream k, which stays fresh; or one that starts afresh.
pub data Follows (k : ℕ) (s : Step) : Type 0 where
  no_fragment : of_stream k (fragments_in s.outcome.answer) ≡ [] → Fresh k s.next → Follows k s
  one_afresh : (f : Fragment) → of_stream k (fragments_in s.outcome.answer) ≡ f ∷ [] → Afresh f → Follows k s

module _ (k : ℕ) where
  follows_checked : (cs : List Check) (q : Queue) (s : Step) → Fresh k q → Follows k s → Follows k (checked cs q s)
  follows_checked cs q s a h = checked_either (Follows k) cs q s (λ r. no_fragment refl a) (λ p. h)

  fresh_at : (q : Queue) (j : ℕ) → Fresh k q → FreshAs k (stream_at q j)
  fresh_at q j a = every_at (FreshAs k) q.options j q.streams a (λ e. record { zeroed = refl; no_mids = tt })

  -- ---- add

  fresh_added : (now : ℕ) (m : Message) (q : Queue) → Fresh k q → Fresh k (added now m q)
  unfolding added new_item
  fresh_added now m q a =
      let s : Stream = stream_at q m.stream_id in let i : Item = new_item now q.next_message_id m in
      every_put stream_key (FreshAs k) (with_message s i) q.streams
      (λ e. let u = fresh_at q m.stream_id a e in record { zeroed = u.zeroed; no_mids = every_snoc (λ (j : Item). j.mid ≡ none) s.items i u.no_mids refl }) a

  -- ---- a head that leaves

  module _ (q : Queue) (j : ℕ) (s : Stream) (i : Item) (is : List Item) (h : HeadAt q.streams j s i is) (a : Fresh k q) where
    head_zeroed : s.id ≡ k → s.counters ≡ zero_counters
    head_zeroed e = (every_find stream_key (FreshAs k) j s q.streams a h.found e).zeroed

    head_no_mids : s.id ≡ k → NoMids (i ∷ is)
    head_no_mids e = subst NoMids h.items (every_find stream_key (FreshAs k) j s q.streams a h.found e).no_mids

    fresh_drop : (p : PauseState) → Fresh k (drop_in p q s i is)
    unfolding drop_in drop_head
    fresh_drop not_paused = every_put stream_key (FreshAs k) _ q.streams (λ e. record { zeroed = head_zeroed e; no_mids = (head_no_mids e).1 }) a
    fresh_drop pending = every_put stream_key (FreshAs k) _ q.streams (λ e. record { zeroed = head_zeroed e; no_mids = (head_no_mids e).1 }) a
    fresh_drop paused = every_put stream_key (FreshAs k) _ q.streams (λ e. record { zeroed = head_zeroed e; no_mids = (head_no_mids e).1 }) a
    fresh_drop resetting = every_put stream_key (FreshAs k) _ q.streams (λ e. record { zeroed = head_zeroed e; no_mids = (head_no_mids e).1 }) a

    -- A fragment of another stream.
    fresh_handed : (c : Active) (n : ℕ) → (s.id ≡ k → ⊥) → Fresh k (handed_out q c s i is n)
    unfolding handed_out handed_out_last handed_out_part
    fresh_handed c n f = go (eqb n (remaining i))
      where
        go : (b : Bool) → Fresh k (if b then handed_out_last q c s i is n else handed_out_part q c s i is n)
        go true = every_put stream_key (FreshAs k) _ q.streams (λ e. absurd (f e)) a
        go false = every_put stream_key (FreshAs k) _ q.streams (λ e. absurd (f e)) a

  -- ---- discard

  follows_discard_at : (m j : ℕ) (q : Queue) → Fresh k q → Follows k (discard_at m q (head_of (find_stream j q.streams)))
  unfolding discard_at discarded
  follows_discard_at m j q a = elim (heads q.streams j) [
    | headless e n ↦ subst (λ (x : Head). Follows k (discard_at m q x)) (sym e) (no_fragment refl a)
    | headed s i is h ↦ subst (λ (x : Head). Follows k (discard_at m q x)) (sym (head_of_at q.streams j s i is h)) (go s i is h (eqb i.message_id m) (short_of q s (remaining i)))
  ]
    where
      go : (s : Stream) (i : Item) (is : List Item) → HeadAt q.streams j s i is → (x y : Bool)
          → Follows k (if x then (if y then refuse q 16 else reply done (drop_head_events q s i) (drop_in s.pause_state q s i is)) else reply done [] q)
      go s i is h true true = no_fragment refl a
      go s i is h true false = no_fragment refl (fresh_drop q j s i is h a s.pause_state)
      go s i is h false y = no_fragment refl a

  -- ---- next fragment

  fresh_past : (now : ℕ) (r q : Queue) → Past now r q → Fresh k q → Fresh k r
  fresh_past now r q here a = a
  fresh_past now r q (over j s i is h e p) a = fresh_past now r (drop_in s.pause_state q s i is) p (fresh_drop q j s i is h a s.pause_state)

  follows_ends : (r : Queue) (s : Step) → Well r → Ends r s → Fresh k r → Follows k s
  follows_ends r s w (none_waits e f g) a = no_fragment (ap (λ (a : Answer). of_stream k (fragments_in a)) f) (subst (Fresh k) (sym g) a)
  follows_ends r s w (hands_out c t i is n p d l m f g) a = elim (is_own stream_key t k) [
    | own e ↦ one_afresh x (ap (λ (a : Answer). of_stream k (fragments_in a)) f ∙ ap (λ (b : Bool). if b then x ∷ [] else []) (eqb_true (same_id ∙ e)))
        (afresh t i n (head_zeroed r c.stream_id t i is d.choice_head a e) (head_no_mids r c.stream_id t i is d.choice_head a e).0 (head_well r c.stream_id t i is w d.choice_head).0)
    | other e ↦ no_fragment (ap (λ (a : Answer). of_stream k (fragments_in a)) f ∙ ap (λ (b : Bool). if b then x ∷ [] else []) (eqb_false (λ y. e (sym same_id ∙ y)))) (subst (Fresh k) (sym g) (fresh_handed r c.stream_id t i is d.choice_head a c n e))
  ]
    where
      x : Fragment
      x = make_fragment t (numbered t.counters i).item n

      same_id : x.stream_id ≡ t.id
      same_id = fragment_on r c t i is n

  follows_produce : (store places buffer now size : ℕ) (q : Queue) → Well q → Fresh k q → Follows k (Calls.produce store places buffer now size q)
  follows_produce store places buffer now size q w a = go (Calls.produce store places buffer now size q) (next_fragment store places buffer now size q w)
    where
      go : (s : Step) → Next now q s → Follows k s
      go s (refuses n e) = subst (Follows k) (sym e) (no_fragment refl a)
      go s (passes p) = follows_ends p.past s p.well p.ends (fresh_past now p.past q p.passed a)

  -- ---- close

  kept_no_mids : (is : List Item) → NoMids is → NoMids (kept is)
  unfolding kept
  kept_no_mids [] a = tt
  kept_no_mids (i ∷ is) a = go (untouched i) (kept_no_mids is a.1)
    where
      go : (b : Bool) → NoMids (kept is) → NoMids (if b then kept is else i ∷ kept is)
      go true rest = rest
      go false rest = (a.0, rest)

  follows_close_in : (p : PauseState) (q : Queue) (j : ℕ) → Fresh k q → Follows k (close_in p q (stream_at q j))
  unfolding close_in closed
  follows_close_in not_paused q j a =
      let s : Stream = stream_at q j in
      no_fragment refl (every_put stream_key (FreshAs k) _ q.streams (λ e. let u = fresh_at q j a e in record { zeroed = u.zeroed; no_mids = kept_no_mids s.items u.no_mids }) a)
  follows_close_in pending q j a = no_fragment refl a
  follows_close_in paused q j a = no_fragment refl a
  follows_close_in resetting q j a = no_fragment refl a

  -- ---- ready ids, commit and rollback

  fresh_ready : (s : Stream) → FreshAs k s → FreshAs k (paused_to_resetting s)
  unfolding paused_to_resetting
  fresh_ready s a = go (is_paused s)
    where
      go : (b : Bool) → FreshAs k (if b then model_with_pause resetting s else s)
      go true = λ e. record { zeroed = (a e).zeroed; no_mids = (a e).no_mids }
      go false = a

  fresh_opened : (z : Bool) (s : Stream) → FreshAs k s → FreshAs k (opened z s)
  unfolding opened
  fresh_opened true s a = λ e. record { zeroed = refl; no_mids = (a e).no_mids }
  fresh_opened false s a = λ e. record { zeroed = (a e).zeroed; no_mids = (a e).no_mids }

  fresh_reopened : (z : Bool) (s : Stream) → FreshAs k s → FreshAs k (reopened z s)
  unfolding reopened
  fresh_reopened z s a = go (is_resetting s)
    where
      go : (b : Bool) → FreshAs k (if b then opened z s else s)
      go true = fresh_opened z s a
      go false = a

  follows_ready : (q : Queue) → Fresh k q → Follows k (Calls.ready_ids q)
  unfolding Calls.ready_ids
  follows_ready q a = no_fragment refl (every_map (FreshAs k) (FreshAs k) paused_to_resetting q.streams fresh_ready a)

  follows_reopen : (z : Bool) (q : Queue) → Fresh k q → Follows k (reopen z q)
  unfolding reopen
  follows_reopen z q a = no_fragment refl (every_map (FreshAs k) (FreshAs k) (reopened z) q.streams (fresh_reopened z) a)

  -- ---- the whole-queue reset, by either rule

  whole_no_mids : (b : Bool) (is : List Item) → NoMids is → NoMids (whole_head b is)
  unfolding whole_head
  whole_no_mids b [] a = tt
  whole_no_mids true (i ∷ is) a = (refl, a.1)
  whole_no_mids false (i ∷ is) a = a

  fresh_reset : (b : Bool) (s : Stream) → FreshAs k s → FreshAs k (reset_stream b s)
  unfolding reset_stream
  fresh_reset b s a = λ e. record { zeroed = refl; no_mids = whole_no_mids b s.items (a e).no_mids }

  follows_reset : (q : Queue) → Fresh k q → Follows k (Calls.reset q)
  unfolding Calls.reset
  follows_reset q a = follows_checked (reset_checks q) q _ a (no_fragment refl (every_map (FreshAs k) (FreshAs k) (reset_stream q.options.strict_restart) q.streams (fresh_reset q.options.strict_restart) a))

  -- A strict one makes it fresh.
  rest_no_mids : (is : List Item) → WellRest is → NoMids is
  rest_no_mids [] w = tt
  rest_no_mids (i ∷ is) w = (w.1.0, rest_no_mids is w.1.1)

  strict_no_mids : (is : List Item) → WellItems is → NoMids (whole_head true is)
  unfolding whole_head
  strict_no_mids [] w = tt
  strict_no_mids (i ∷ is) w = (refl, rest_no_mids is w.1)

  strict_fresh : (s : Stream) → Kept s → FreshAs k (reset_stream true s)
  unfolding reset_stream
  strict_fresh s w = λ e. record { zeroed = refl; no_mids = strict_no_mids s.items w.well_items }

  pub all_strict_fresh : (ss : List Stream) → Every Kept ss → Every (FreshAs k) (map (reset_stream true) ss)
  all_strict_fresh ss a = every_map Kept (FreshAs k) (reset_stream true) ss strict_fresh a

  -- ---- settings

  follows_set_interleaving : (b : Bool) (q : Queue) → Fresh k q → Follows k (Calls.set_interleaving b q)
  unfolding Calls.set_interleaving switched
  follows_set_interleaving b q a = go (same_bool b q.interleaving)
    where
      go : (x : Bool) → Follows k (reply done [] (if x then q else switched b q))
      go true = no_fragment refl a
      go false = no_fragment refl a

  -- ---- a restoring that is refused

  follows_unless : (cs : List Check) (q : Queue) (s : Step) → Fresh k q → ((checked cs q s).outcome.answer ≡ done → ⊥) → ((s.outcome.answer ≡ done → ⊥) → Follows k s) → Follows k (checked cs q s)
  unfolding checked refused_or
  follows_unless cs q s a n h = go (first_refusal cs) n
    where
      go : (x : Option ℕ) → ((refused_or x q s).outcome.answer ≡ done → ⊥) → Follows k (refused_or x q s)
      go none m = h m
      go (some r) m = no_fragment refl a

  follows_read : (now : ℕ) (q : Queue) (x : Option Handover) → Fresh k q → ((restore_read now q x).outcome.answer ≡ done → ⊥) → Follows k (restore_read now q x)
  unfolding restore_read
  follows_read now q none a n = no_fragment refl a
  follows_read now q (some h) a n = follows_unless (record_checks now q h) q (reply done [] (restored now h q)) a n (λ m. absurd (m refl))

  follows_restore : (store now : ℕ) (image : List ℕ) (q : Queue) → Fresh k q → ((Restore.restore store now image q).outcome.answer ≡ done → ⊥) → Follows k (Restore.restore store now image q)
  unfolding Restore.restore
  follows_restore store now image q a n = follows_unless (restore_checks store now q) q (restore_read now q (read_image image)) a n (λ m. follows_read now q (read_image image) a m)

  -- ---- every call

  pub follows_step : (c : Call) (q : Queue) → NotRestored c q → Well q → Fresh k q → Follows k (step c q)
  unfolding step
  follows_step (add store now m) q n w a = unfold Calls.add in follows_checked (add_checks store now m q) q _ a (no_fragment refl (fresh_added now m q a))
  follows_step (produce store places buffer now size) q n w a = follows_produce store places buffer now size q w a
  follows_step (fill store places buffer now p) q n w a = absurd (n.1 store places buffer now p refl)
  follows_step (discard places s m) q n w a = unfold Calls.discard in follows_checked (discard_checks places) q _ a (follows_discard_at m s q a)
  follows_step (close places s) q n w a = unfold Calls.close in follows_checked (close_checks places s q) q _ a (follows_close_in (stream_at q s).pause_state q s a)
  follows_step ready_ids q n w a = follows_ready q a
  follows_step commit q n w a = unfold Calls.commit in follows_reopen true q a
  follows_step rollback q n w a = unfold Calls.rollback in follows_reopen false q a
  follows_step reset q n w a = follows_reset q a
  follows_step (set_threshold places s t) q n w a = unfold Calls.set_threshold in
      follows_checked (threshold_checks places s q) q _ a (no_fragment refl (every_put stream_key (FreshAs k) (with_threshold t (stream_at q s)) q.streams (λ e. let u = fresh_at q s a e in record { zeroed = u.zeroed; no_mids = u.no_mids }) a))
  follows_step (set_priority s p) q n w a = unfold Calls.set_priority in
      follows_checked (priority_checks s q) q _ a (no_fragment refl (every_put stream_key (FreshAs k) (with_priority p (stream_at q s)) q.streams (λ e. let u = fresh_at q s a e in record { zeroed = u.zeroed; no_mids = u.no_mids }) a))
  follows_step (set_interleaving b) q n w a = follows_set_interleaving b q a
  follows_step (restore store now image) q n w a = follows_restore store now image q a (λ e. n.0 store now image refl e)
  follows_step (ask_priority s) q n w a = no_fragment refl a
  follows_step (ask_amount s) q n w a = no_fragment refl a
  follows_step (ask_threshold s) q n w a = no_fragment refl a
  follows_step ask_total q n w a = no_fragment refl a
  follows_step ask_empty q n w a = no_fragment refl a
  follows_step ask_has_data q n w a = no_fragment refl a
  follows_step ask_streams_ready q n w a = no_fragment refl a
  follows_step ask_ready_count q n w a = no_fragment refl a
  follows_step ask_readiness q n w a = no_fragment refl a
  follows_step (ask_room r) q n w a = no_fragment refl a
