-- The last fragment sent is of the half-sent message that waits, if one does: every call of a queue without interleaving keeps that, and shows only what
-- goes on from there. For document 02's
-- 10/13. Assumes nothing.
use mathlib.Core.Path.{◌≡◌, refl, sym, ap, ◌∙◌, subst}
use mathlib.Core.Bool.{Bool, true, false}
use mathlib.Core.List.{List, [], ◌∷◌, ◌++◌, map}
use mathlib.Core.Option.{Option, none, some, get_or}
use Prim.Native.Nat.{ℕ, zero, suc, ◌<◌}
use native.Mathlib.Omega.{arith}
use lib.Dec.{eqb}
use lib.ListN.{length}
use Rattle.types.specs.Wrap.{wrap_suc}
use Rattle.std.specs.Prelude.{if◌then◌else◌}
use Rattle.queue_model.specs.Logic.{same_bool}
use Rattle.queue_model.specs.Types.{Item, PauseState, not_paused, pending, paused, resetting, Counters, Stream, Active, Options, Queue, Fragment, done, Step, remaining, with_threshold, with_priority, refuse, reply, Message}
use Rattle.queue_model.specs.Scheduler.{peek}
use Rattle.queue_model.specs.Streams.{find_stream, put_stream, stream_at, at, know, stream_key, with_message}
use Rattle.queue_model.specs.Refusals.{Check, checked, short_of}
use Rattle.queue_model.specs.Amounts.{drop_head_events}
use Rattle.queue_model.specs.Add.{added, add_checks, new_item}
use Rattle.queue_model.specs.Produce.{Head, head_of, drop_head, drop_in, numbered_in, numbered, make_fragment, moved_on, handed_out_last, handed_out_part, handed_out}
use Rattle.queue_model.specs.Discard.{discarded, discard_at, discard_checks}
use Rattle.queue_model.specs.Close.{kept, closed, close_in, close_checks}
use Rattle.queue_model.specs.Reset.{paused_to_resetting, reopened, reopen, model_whole_item, whole_head, reset_stream, reset_checks}
use Rattle.queue_model.specs.Settings.{threshold_checks, priority_checks, raised_event, switched}
use Rattle.queue_model.specs.Image.{StreamRecord, MessageRecord, Handover}
use Rattle.queue_model.specs.Reader.{read_image}
use Rattle.queue_model.specs.Restore.{restored_stream, restored_item, restore_streams, restore_message, restore_messages, half_sent_first, restored, record_checks, restore_read, restore_checks}
use Rattle.queue_model.specs.Run.{Call, add, produce, fill, discard, close, ready_ids, commit, rollback, reset, set_threshold, set_priority, set_interleaving, restore, ask_priority, ask_amount, ask_threshold, ask_total, ask_empty, ask_has_data, ask_streams_ready, ask_ready_count, ask_readiness, ask_room, step}
use Rattle.queue_model.specs.Demands.{Typed}
use Rattle.queue_model.specs.Answers.{fragments_in}
use Rattle.queue_model.specs.Unbroken.{Behind, UnbrokenBehind, Continues, starts, Onward}
use Rattle.queue_model.proofs.Tests.{ltb_true}
use Rattle.queue_model.proofs.Table.{Every, every_put, every_map, every_weaken, every_find}
use Rattle.queue_model.proofs.Checks.{Passed, checked_either, checked_past, restore_of, read_none, read_some}
use Rattle.queue_model.proofs.Streams.{at_id, every_at}
use Rattle.queue_model.proofs.Invariant.Messages.{WellItem, WellRest}
use Rattle.queue_model.proofs.Invariant.Well.{Kept, Well, kept_at}
use Rattle.queue_model.proofs.Invariant.Fine.{keeps_none, keeps_first, keeps, Alike, paused_alike, reopened_alike}
use Rattle.queue_model.proofs.Invariant.Sends.{Chosen, headless, headed, heads, head_of_at, head_kept, head_well, drop_in_well, numbers_well}
use Rattle.queue_model.proofs.Invariant.Passing.{Past, here, over, Ends, none_waits, hands_out, Next, refuses, passes, next_fragment}
use Rattle.queue_model.proofs.Invariant.MidMessage.{Whole, Recalls, not_both, half_first, put_but, others_whole, recalls_past}
use Rattle.queue_model.proofs.Calm.Calm.{HeadAt}
use Rattle.queue_model.specs.Calls
use Rattle.queue_model.specs.Restore

-- The last of a list, behind what stands before it.
unfoldable pub last_of : {A : Type 0} → Option A → List A → Option A
last_of p [] = p
last_of p (x ∷ xs) = last_of (some x) xs

-- ---- half-sent heads

-- The fragment f is the last one out of the message i of the stream k, which has more to send.
pub record Out (f : Fragment) (k : ℕ) (i : Item) : Type 0 where
  pub out_message : i.message_id ≡ f.message_id
  pub out_stream : k ≡ f.stream_id
  pub out_order : i.unordered ≡ f.unordered
  pub out_mid : i.mid ≡ some f.mid
  pub out_ssn : i.ssn ≡ f.ssn
  pub out_fsn : i.fsn ≡ wrap_suc 32 f.fsn
  pub out_part : f.last ≡ false

abbrev pub LastOut : Option Fragment → ℕ → Item → Type 0
LastOut none k i = ⊥
LastOut (some f) k i = Out f k i

-- The last fragment sent is of a half-sent message; so of a stream's first message, if that is half-sent.
abbrev pub Owed : Option Fragment → ℕ → Item → Type 0
Owed l k i = 0 < i.offset → LastOut l k i

abbrev pub OwedFirst : Option Fragment → ℕ → List Item → Type 0
OwedFirst l k [] = Unit {0}
OwedFirst l k (i ∷ is) = Owed l k i

abbrev pub Owes : Option Fragment → Stream → Type 0
Owes l s = OwedFirst l s.id s.items

-- What a call shows goes on with what was sent, and what was sent then is owed to by every stream.
pub record Goes (l : Option Fragment) (s : Step) : Type 0 where
  pub shows : UnbrokenBehind starts Continues l (fragments_in s.outcome.answer)
  pub owes : Every (Owes (last_of l (fragments_in s.outcome.answer))) s.next.streams

module _ (l : Option Fragment) where
  pub whole_owed : (k : ℕ) (i : Item) → i.offset ≡ 0 → Owed l k i
  whole_owed k i e h = absurd (omega arith)

  rest_owed : (k : ℕ) (is : List Item) → WellRest is → OwedFirst l k is
  rest_owed k [] w = tt
  rest_owed k (i ∷ is) w = whole_owed k i (w.0.no_offset w.1.0)

  -- A message put at the end is the first only where there was none.
  snoc_owed : (k : ℕ) (is : List Item) (i : Item) → Owed l k i → OwedFirst l k is → OwedFirst l k (is ++ (i ∷ []))
  snoc_owed k [] i e a = e
  snoc_owed k (j ∷ is) i e a = a

  whole_owes : (s : Stream) → Whole s → Owes l s
  whole_owes s h = go s.items h
    where
      go : (is : List Item) → (half_sent_first is ≡ true → ⊥) → OwedFirst l s.id is
      go [] h = tt
      go (i ∷ is) h = λ z. absurd (h (half_first i is ∙ ltb_true z))

  quiet : (s : Step) → fragments_in s.outcome.answer ≡ [] → Every (Owes l) s.next.streams → Goes l s
  unfolding last_of
  quiet s e a = record {
    shows = subst (UnbrokenBehind starts Continues l) (sym e) tt;
    owes = subst (λ (fs : List Fragment). Every (Owes (last_of l fs)) s.next.streams) (sym e) a;
  }

  goes_checked : (cs : List Check) (q : Queue) (s : Step) → Every (Owes l) q.streams → (Passed cs → Goes l s) → Goes l (checked cs q s)
  goes_checked cs q s a h = checked_either (Goes l) cs q s (λ r. quiet (refuse q r) refl a) h

  owes_at : (q : Queue) (k : ℕ) → Every (Owes l) q.streams → Owes l (stream_at q k)
  owes_at q k a = every_at (Owes l) q.options k q.streams a tt

  -- ---- add, discard, close

  goes_add : (store now : ℕ) (m : Message) (q : Queue) → Every (Owes l) q.streams → Goes l (Calls.add store now m q)
  unfolding Calls.add added new_item
  goes_add store now m q a =
      let s : Stream = stream_at q m.stream_id in
      let i : Item = new_item now q.next_message_id m in
      goes_checked (add_checks store now m q) q (reply done [] (added now m q)) a
      (λ p. quiet (reply done [] (added now m q)) refl (every_put stream_key (Owes l) (with_message s i) q.streams (snoc_owed s.id s.items i (whole_owed s.id i refl) (owes_at q m.stream_id a)) a))

  -- A head that leaves: what is behind it is whole.
  drop_owes : (q : Queue) (k : ℕ) (s : Stream) (i : Item) (is : List Item) → Well q → HeadAt q.streams k s i is → Every (Owes l) q.streams → (p : PauseState) → Every (Owes l) (drop_in p q s i is).streams
  unfolding drop_in drop_head
  drop_owes q k s i is w h a p = go p
    where
      put : (s' : Stream) → OwedFirst l s'.id is → s'.items ≡ is → Every (Owes l) (put_stream s' q.streams)
      put s' o e = every_put stream_key (Owes l) s' q.streams (subst (OwedFirst l s'.id) (sym e) o) a

      behind : OwedFirst l s.id is
      behind = rest_owed s.id is (head_well q k s i is w h).1

      go : (p : PauseState) → Every (Owes l) (drop_in p q s i is).streams
      go not_paused = put _ behind refl
      go pending = put _ behind refl
      go paused = put _ behind refl
      go resetting = put _ behind refl

  goes_discard : (places k m : ℕ) (q : Queue) → Well q → Every (Owes l) q.streams → Goes l (Calls.discard places k m q)
  unfolding Calls.discard discard_at discarded
  goes_discard places k m q w a = goes_checked (discard_checks places) q (discard_at m q (head_of (find_stream k q.streams))) a (λ p. elim (heads q.streams k) [
    | headless e n ↦ subst (λ (x : Head). Goes l (discard_at m q x)) (sym e) (quiet (reply done [] q) refl a)
    | headed s i is h ↦ subst (λ (x : Head). Goes l (discard_at m q x)) (sym (head_of_at q.streams k s i is h)) (go s i is h (eqb i.message_id m) (short_of q s (remaining i)))
  ])
    where
      go : (s : Stream) (i : Item) (is : List Item) → HeadAt q.streams k s i is → (x y : Bool)
          → Goes l (if x then (if y then refuse q 16 else reply done (drop_head_events q s i) (drop_in s.pause_state q s i is)) else reply done [] q)
      go s i is h true true = quiet (refuse q 16) refl a
      go s i is h true false = quiet (reply done (drop_head_events q s i) (drop_in s.pause_state q s i is)) refl (drop_owes q k s i is w h a s.pause_state)
      go s i is h false y = quiet (reply done [] q) refl a

  -- Closing keeps a half-sent first message, or none.
  goes_closed : (q : Queue) (k : ℕ) → Kept (stream_at q k) → Every (Owes l) q.streams → Goes l (closed q (stream_at q k))
  unfolding closed
  goes_closed q k g a = quiet (closed q (stream_at q k)) refl (every_put stream_key (Owes l) _ q.streams kept_owed a)
    where
      s : Stream
      s = stream_at q k

      kept_owed : OwedFirst l s.id (kept s.items)
      kept_owed = elim (keeps s.items g.well_items) [
        | keeps_none e ↦ subst (OwedFirst l s.id) (sym e) tt
        | keeps_first i rest e f z ↦ subst (OwedFirst l s.id) (sym f) (subst (OwedFirst l s.id) e (owes_at q k a))
      ]

  goes_close : (places k : ℕ) (q : Queue) → Kept (stream_at q k) → Every (Owes l) q.streams → Goes l (Calls.close places k q)
  unfolding Calls.close close_in
  goes_close places k q g a = goes_checked (close_checks places k q) q (close_in (stream_at q k).pause_state q (stream_at q k)) a (λ p. go (stream_at q k).pause_state)
    where
      go : (p : PauseState) → Goes l (close_in p q (stream_at q k))
      go not_paused = goes_closed q k g a
      go pending = quiet (reply done [] q) refl a
      go paused = quiet (reply done [] q) refl a
      go resetting = quiet (reply done [] q) refl a

  -- ---- ready ids, commit, rollback and the whole-queue reset

  map_owes : (f : Stream → Stream) (ss : List Stream) → ((s : Stream) → Alike s (f s)) → Every (Owes l) ss → Every (Owes l) (map f ss)
  map_owes f ss h a = every_map (Owes l) (Owes l) f ss (λ s o. subst (λ (k : ℕ). OwedFirst l k (f s).items) (sym (h s).alike_id) (subst (OwedFirst l s.id) (sym (h s).alike_items) o)) a

  goes_ready : (q : Queue) → Every (Owes l) q.streams → Goes l (Calls.ready_ids q)
  unfolding Calls.ready_ids
  goes_ready q a = quiet (Calls.ready_ids q) refl (map_owes paused_to_resetting q.streams paused_alike a)

  goes_reopen : (z : Bool) (q : Queue) → Every (Owes l) q.streams → Goes l (reopen z q)
  unfolding reopen
  goes_reopen z q a = quiet (reopen z q) refl (map_owes (reopened z) q.streams (reopened_alike z) a)

  reset_owes : (strict : Bool) (ss : List Stream) → Every (Owes l) (map (reset_stream strict) ss)
  unfolding reset_stream
  reset_owes strict [] = tt
  reset_owes strict (s ∷ ss) = (go s.items, reset_owes strict ss)
    where
      go : (is : List Item) → OwedFirst l s.id (whole_head strict is)
      go [] = unfold whole_head in tt
      go (i ∷ is) = unfold whole_head in whole_owed s.id (model_whole_item strict i) refl

  goes_reset : (q : Queue) → Every (Owes l) q.streams → Goes l (Calls.reset q)
  unfolding Calls.reset
  goes_reset q a = goes_checked (reset_checks q) q _ a (λ p. quiet _ refl (reset_owes q.options.strict_restart q.streams))

  -- ---- settings

  goes_set_threshold : (places k t : ℕ) (q : Queue) → Every (Owes l) q.streams → Goes l (Calls.set_threshold places k t q)
  unfolding Calls.set_threshold
  goes_set_threshold places k t q a =
      let s : Stream = stream_at q k in
      goes_checked (threshold_checks places k q) q (reply done (raised_event s t) (know q (with_threshold t s))) a (λ p. quiet (reply done (raised_event s t) (know q (with_threshold t s))) refl (every_put stream_key (Owes l) (with_threshold t s) q.streams (owes_at q k a) a))

  goes_set_priority : (k n : ℕ) (q : Queue) → Every (Owes l) q.streams → Goes l (Calls.set_priority k n q)
  unfolding Calls.set_priority
  goes_set_priority k n q a =
      let s : Stream = stream_at q k in
      goes_checked (priority_checks k q) q (reply done [] (know q (with_priority n s))) a (λ p. quiet (reply done [] (know q (with_priority n s))) refl (every_put stream_key (Owes l) (with_priority n s) q.streams (owes_at q k a) a))

  pub goes_set_interleaving : (b : Bool) (q : Queue) → Every (Owes l) q.streams → Goes l (Calls.set_interleaving b q)
  unfolding Calls.set_interleaving switched
  goes_set_interleaving b q a = quiet (Calls.set_interleaving b q) refl (go (same_bool b q.interleaving))
    where
      go : (x : Bool) → Every (Owes l) (if x then q else switched b q).streams
      go true = a
      go false = a

  -- ---- restoring

  -- A record whose message, if it is half-sent, is that of the last fragment.
  abbrev pub OwedRecord : ℕ → MessageRecord → Type 0
  OwedRecord now r = Owed l r.id (restored_item now r)

  restored_owes : (o : Options) (now : ℕ) (rs : List MessageRecord) (ss : List Stream) → Every (OwedRecord now) rs → Every (Owes l) ss → Every (Owes l) (restore_messages o now rs ss)
  unfolding restore_messages restore_message
  restored_owes o now [] ss h a = a
  restored_owes o now (r ∷ rs) ss h a =
      let s : Stream = at o ss r.id in
      let i : Owed l s.id (restored_item now r) = subst (λ (k : ℕ). Owed l k (restored_item now r)) (sym (at_id o ss r.id)) h.0 in
      restored_owes o now rs (put_stream (with_message s (restored_item now r)) ss) h.1
      (every_put stream_key (Owes l) (with_message s (restored_item now r)) ss (snoc_owed s.id s.items (restored_item now r) i (every_at (Owes l) o r.id ss a tt)) a)

  empty_owes : (o : Options) (rs : List StreamRecord) → Every (Owes l) (restore_streams o rs)
  unfolding restore_streams restored_stream
  empty_owes o [] = tt
  empty_owes o (r ∷ rs) = (tt, empty_owes o rs)

  all_restored : (now : ℕ) (h : Handover) (q : Queue) → Every (OwedRecord now) h.messages → Every (Owes l) (restored now h q).streams
  unfolding restored
  all_restored now h q u = restored_owes q.options now h.messages (restore_streams q.options h.streams) u (empty_owes q.options h.streams)

  pub goes_restore : (store now : ℕ) (image : List ℕ) (q : Queue) → Every (Owes l) q.streams
      → ((h : Handover) → read_image image ≡ some h → Restore.restore store now image q ≡ reply done [] (restored now h q) → Every (OwedRecord now) h.messages) → Goes l (Restore.restore store now image q)
  goes_restore store now image q a u = subst (Goes l) (sym (restore_of store now image q)) (goes_checked (restore_checks store now q) q (restore_read now q (read_image image)) a (λ p. go p (read_image image) refl))
    where
      go : Passed (restore_checks store now q) → (x : Option Handover) → read_image image ≡ x → Goes l (restore_read now q x)
      go p none e = subst (Goes l) (sym (read_none now q)) (quiet (refuse q 13) refl a)
      go p (some h) e = subst (Goes l) (sym (read_some now q h)) (goes_checked (record_checks now q h) q (reply done [] (restored now h q)) a (λ r.
          let accepted : Restore.restore store now image q ≡ reply done [] (restored now h q) =
          restore_of store now image q ∙ checked_past (restore_checks store now q) q (restore_read now q (read_image image)) p ∙ ap (restore_read now q) e ∙ read_some now q h
          ∙ checked_past (record_checks now q h) q (reply done [] (restored now h q)) r in
          quiet (reply done [] (restored now h q)) refl (all_restored now h q (u h e accepted))))

  -- ---- next fragment

  owes_past : (now : ℕ) (r q : Queue) → Past now r q → Well q → Every (Owes l) q.streams → Every (Owes l) r.streams
  owes_past now r q here w a = a
  owes_past now r q (over k s i is h e p) w a = owes_past now r (drop_in s.pause_state q s i is) p (drop_in_well q k s i is w h s.pause_state) (drop_owes q k s i is w h a s.pause_state)

-- A message that has a MID keeps its numbers.
pub kept_numbers : (c : Counters) (i : Item) (m : ℕ) → i.mid ≡ some m → (numbered c i).item ≡ i
unfolding numbered numbered_in
kept_numbers c i m e = ap (λ (x : Option ℕ). (numbered_in x c i).item) e

offset_positive : (n : ℕ) → eqb n 0 ≡ false → 0 < n
offset_positive zero e = absurd (not_both (eqb 0 0) e refl)
offset_positive (suc n) e = omega arith

pub mid_of : (m : Option ℕ) → (m ≡ none → ⊥) → m ≡ some (get_or m 0)
mid_of none h = absurd (h refl)
mid_of (some m) h = refl

-- The fragment of a half-sent message goes on with the last one.
continues : (l : Option Fragment) (s : Stream) (i : Item) (n : ℕ) → Kept s → WellItem i → Owed l s.id i → (make_fragment s (numbered s.counters i).item n).first ≡ false → Behind starts Continues l (make_fragment s (numbered s.counters i).item n)
unfolding make_fragment
continues l s i n g w h e = go l (h positive)
  where
    positive : 0 < i.offset
    positive = let z = offset_positive (numbered s.counters i).item.offset e in let y = (numbers_well s.counters i g.counters_fit w).offset_same in omega arith

    go : (l : Option Fragment) → LastOut l s.id i → Behind starts Continues l (make_fragment s (numbered s.counters i).item n)
    go none o = o
    go (some f) o =
        subst (λ (x : Item). Continues f (make_fragment s x n)) (sym (kept_numbers s.counters i f.mid o.out_mid))
        (record { same_message = o.out_message; same_stream = o.out_stream; same_order = o.out_order; same_mid = ap (λ (m : Option ℕ). get_or m 0) o.out_mid; same_ssn = o.out_ssn; next_fsn = o.out_fsn; not_last = o.out_part })

module _ (q : Queue) (c : Active) (s : Stream) (i : Item) (is : List Item) (w : Well q) (v : Chosen q c s i is) (a : Recalls q) (e : peek q.scheduler ≡ some c) (n : ℕ) where
  abbrev sent : Fragment
  sent = make_fragment s (numbered s.counters i).item n

  -- What remains of the message is behind the fragment.
  moved_owed : eqb n (remaining i) ≡ false → Out sent s.id (moved_on (numbered s.counters i).item n)
  unfolding make_fragment moved_on
  moved_owed f =
      let j : Item = (numbered s.counters i).item in
      let v = numbers_well s.counters i (head_kept q c.stream_id s i is w v.choice_head).counters_fit (head_well q c.stream_id s i is w v.choice_head).0 in
      let x : length j.payload ≡ length i.payload = ap length v.payload_same in let y = v.offset_same in
      let z : remaining j ≡ remaining i = omega arith in
      record { out_message = refl; out_stream = refl; out_order = refl; out_mid = mid_of j.mid v.mid_given; out_ssn = refl; out_fsn = refl; out_part = ap (eqb n) z ∙ f }

  handed_owes : Every (Owes (some sent)) (handed_out q c s i is n).streams
  unfolding handed_out handed_out_last handed_out_part
  handed_owes = go (eqb n (remaining i)) refl
    where
      put : (s' : Stream) → s'.id ≡ s.id → Owes (some sent) s' → Every (Owes (some sent)) (put_stream s' q.streams)
      put s' f o =
          put_but (Owes (some sent)) s' q.streams o w.rising
          (every_weaken (λ x. (x.id ≡ s'.id → ⊥) → Whole x) (λ x. (x.id ≡ s'.id → ⊥) → Owes (some sent) x) q.streams (λ x h m. whole_owes (some sent) x (h m)) (others_whole q c s i is w v a e s' f))

      go : (b : Bool) → eqb n (remaining i) ≡ b → Every (Owes (some sent)) (if b then handed_out_last q c s i is n else handed_out_part q c s i is n).streams
      go true f = put _ refl (rest_owed (some sent) s.id is (head_well q c.stream_id s i is w v.choice_head).1)
      go false f = put _ refl (λ z. moved_owed f)

goes_ends : (l : Option Fragment) (r : Queue) (s : Step) → Well r → Recalls r → Every (Owes l) r.streams → Ends r s → Goes l s
goes_ends l r s w a b (none_waits e f g) = quiet l s (ap fragments_in f) (subst (λ (x : Queue). Every (Owes l) x.streams) (sym g) b)
goes_ends l r s w a b (hands_out c t i is n e v z m f g) =
    let x : Fragment = make_fragment t (numbered t.counters i).item n in
    let h = v.choice_head in
    let o : Owed l t.id i = subst (OwedFirst l t.id) h.items (every_find stream_key (Owes l) c.stream_id t r.streams b h.found) in
    record {
      shows = subst (UnbrokenBehind starts Continues l) (sym (ap fragments_in f)) (continues l t i n (head_kept r c.stream_id t i is w h) (head_well r c.stream_id t i is w h).0 o, tt);
      owes = subst (λ (fs : List Fragment). Every (Owes (last_of l fs)) s.next.streams) (sym (ap fragments_in f)) (unfold last_of in subst (λ (y : Queue). Every (Owes (some x)) y.streams) (sym g) (handed_owes r c t i is w v a e n));
    }

goes_produce : (l : Option Fragment) (store places buffer now size : ℕ) (q : Queue) → Well q → Recalls q → Every (Owes l) q.streams → Goes l (Calls.produce store places buffer now size q)
goes_produce l store places buffer now size q w a b = go (next_fragment store places buffer now size q w)
  where
    go : {s : Step} → Next now q s → Goes l s
    go (refuses n e) = subst (Goes l) (sym e) (quiet l (refuse q n) refl b)
    go {s} (passes p) = goes_ends l p.past s p.well (recalls_past now p.past q p.passed w a) (owes_past l now p.past q p.passed w b) p.ends

-- ---- every call

pub goes_step : (l : Option Fragment) (c : Call) (q : Queue) → Typed c → Onward c q → Well q → Recalls q → Every (Owes l) q.streams → Goes l (step c q)
unfolding step
goes_step l (add store now m) q t u w a b = goes_add l store now m q b
goes_step l (produce store places buffer now size) q t u w a b = goes_produce l store places buffer now size q w a b
goes_step l (fill store places buffer now p) q t u w a b = absurd u
goes_step l (discard places s k) q t u w a b = goes_discard l places s k q w b
goes_step l (close places s) q t u w a b = goes_close l places s q (kept_at q s w t.1) b
goes_step l ready_ids q t u w a b = goes_ready l q b
goes_step l commit q t u w a b = unfold Calls.commit in goes_reopen l true q b
goes_step l rollback q t u w a b = unfold Calls.rollback in goes_reopen l false q b
goes_step l reset q t u w a b = goes_reset l q b
goes_step l (set_threshold places s n) q t u w a b = goes_set_threshold l places s n q b
goes_step l (set_priority s p) q t u w a b = goes_set_priority l s p q b
goes_step l (set_interleaving x) q t u w a b = goes_set_interleaving l x q b
goes_step l (restore store now image) q t u w a b = goes_restore l store now image q b (λ h e f. absurd (u (ap (λ (x : Step). x.outcome.answer) f)))
goes_step l (ask_priority s) q t u w a b = quiet l _ refl b
goes_step l (ask_amount s) q t u w a b = quiet l _ refl b
goes_step l (ask_threshold s) q t u w a b = quiet l _ refl b
goes_step l ask_total q t u w a b = quiet l _ refl b
goes_step l ask_empty q t u w a b = quiet l _ refl b
goes_step l ask_has_data q t u w a b = quiet l _ refl b
goes_step l ask_streams_ready q t u w a b = quiet l _ refl b
goes_step l ask_ready_count q t u w a b = quiet l _ refl b
goes_step l ask_readiness q t u w a b = quiet l _ refl b
goes_step l (ask_room r) q t u w a b = quiet l _ refl b
