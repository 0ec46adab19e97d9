-- What becomes of a stream that closes, call by call: it goes on with its half-sent message until that is delivered, expires or is discarded; then it is
-- paused, until the ready ids have told it.
-- Assumes nothing.
use mathlib.Core.Path.{◌≡◌, refl, sym, ap, ap₂, subst, ◌∙◌}
use mathlib.Core.Bool.{Bool, true, false}
use mathlib.Core.List.{List, [], ◌∷◌, ◌++◌}
use mathlib.Core.Option.{Option, none, some}
use Prim.Native.Nat.{ℕ, zero, suc, ◌+◌}
use native.Mathlib.Omega.{arith}
use native.Mathlib.Nat.{zero-add, suc-add}
use lib.Dec.{eqb, eqb→eq}
use lib.ListN.{take, drop, take-append-drop, length-drop}
use lib.Seq.{take_all, drop-nil}
use Rattle.std.specs.Prelude.{if◌then◌else◌}
use Rattle.queue_model.specs.Types.{Item, PauseState, not_paused, pending, paused, resetting, Counters, Stream, Active, Queue, Fragment, done, fragment, Step, remaining, expired, refuse, reply}
use Rattle.queue_model.specs.Streams.{find_stream, stream_key}
use Rattle.queue_model.specs.Refusals.{first_refusal, refused_or, checked, short_of}
use Rattle.queue_model.specs.Amounts.{drop_head_events}
use Rattle.queue_model.specs.Produce.{Head, head_of, drop_head, drop_in, give_numbers, numbered_in, numbered, make_fragment, end_pending, moved_on, handed_out_last, handed_out_part, handed_out}
use Rattle.queue_model.specs.Discard.{discarded, discard_at, discard_checks}
use Rattle.queue_model.specs.Reset.{is_paused, paused_to_resetting}
use Rattle.queue_model.specs.Closing.{unsent, FurtherOn, Pending, Paused}
use Rattle.queue_model.specs.Run.{Call, produce, discard, ready_ids, step}
use Rattle.queue_model.proofs.Tests.{holds}
use Rattle.queue_model.proofs.Table.{find_key, find_put_same, find_put_other, own, other, is_own}
use Rattle.queue_model.proofs.Invariant.Well.{Well}
use Rattle.queue_model.proofs.Invariant.Sends.{headless, headed, heads, head_of_at}
use Rattle.queue_model.proofs.Invariant.Fine.{paused_alike}
use Rattle.queue_model.proofs.Invariant.Serving.{found_map}
use Rattle.queue_model.proofs.Invariant.Passing.{Past, here, over, Ends, none_waits, hands_out, Next, refuses, passes, next_fragment}
use Rattle.queue_model.proofs.Invariant.OneStream.{Lasts, plain, plain_step}
use Rattle.queue_model.proofs.Calm.Calm.{HeadAt}
use Rattle.queue_model.specs.Calls

-- ---- calls that touch no message of it

-- The first message is i.
abbrev Goes : Item → PauseState → List Item → Type 0
Goes i p is = (p ≡ pending) × ((js : List Item) × (is ≡ i ∷ js))

goes_lasts : (i : Item) → Lasts (Goes i)
goes_lasts i = record {
  not_open = λ is h. let e = h.0 in let z : ◌≡◌ {A = ℕ} 0 1 = cc in omega arith;
  not_resetting = λ is h. let e = h.0 in let z : ◌≡◌ {A = ℕ} 0 1 = cc in omega arith;
  adds = λ p is j h. (h.0, (h.1.0 ++ (j ∷ []), ap (λ (l : List Item). l ++ (j ∷ [])) h.1.1));
}

abbrev Rests : PauseState → List Item → Type 0
Rests p is = p ≡ paused

rests_lasts : Lasts Rests
rests_lasts = record {
  not_open = λ is e. let z : ◌≡◌ {A = ℕ} 0 1 = cc in omega arith;
  not_resetting = λ is e. let z : ◌≡◌ {A = ℕ} 0 1 = cc in omega arith;
  adds = λ p is j e. e;
}

pub plain_pending : (k : ℕ) (i : Item) (c : Call) (q : Queue) → plain c ≡ true → Pending k i q → Pending k i (step c q).next
plain_pending k i c q e p =
    let h = plain_step k (Goes i) (goes_lasts i) c q e (record { stream = p.stream; found = p.found; holds = (p.state, (p.behind, p.items)) }) in
    record { stream = h.stream; behind = h.holds.1.0; found = h.found; state = h.holds.0; items = h.holds.1.1 }

pub plain_paused : (k : ℕ) (c : Call) (q : Queue) → plain c ≡ true → Paused k q → Paused k (step c q).next
plain_paused k c q e p =
    let h = plain_step k Rests rests_lasts c q e (record { stream = p.stream; found = p.found; holds = p.state }) in
    record { stream = h.stream; found = h.found; state = h.holds }

-- ---- ready ids

ready_same : (s : Stream) → s.pause_state ≡ pending → paused_to_resetting s ≡ s
unfolding paused_to_resetting is_paused
ready_same s e = rw e

pub ready_pending : (k : ℕ) (i : Item) (q : Queue) → Pending k i q → Pending k i (step ready_ids q).next
unfolding step Calls.ready_ids
ready_pending k i q p = record {
  stream = p.stream;
  behind = p.behind;
  found = found_map paused_to_resetting (λ s. (paused_alike s).alike_id) k q.streams p.stream p.found ∙ ap some (ready_same p.stream p.state);
  state = p.state;
  items = p.items;
}

-- ---- a head that is dropped

-- The streams that are not the head's stay.
drop_others : (k : ℕ) (p : PauseState) (q : Queue) (s : Stream) (i : Item) (is : List Item) → (s.id ≡ k → ⊥) → find_stream k (drop_in p q s i is).streams ≡ find_stream k q.streams
unfolding drop_in drop_head
drop_others k not_paused q s i is n = find_put_other stream_key k _ q.streams n
drop_others k pending q s i is n = find_put_other stream_key k _ q.streams n
drop_others k paused q s i is n = find_put_other stream_key k _ q.streams n
drop_others k resetting q s i is n = find_put_other stream_key k _ q.streams n

-- A pending or a paused one is paused then.
drop_own : (k : ℕ) (p : PauseState) (q : Queue) (s : Stream) (i : Item) (is : List Item) → s.pause_state ≡ p → end_pending p ≡ paused → s.id ≡ k → Paused k (drop_in p q s i is)
unfolding drop_in drop_head end_pending
drop_own k not_paused q s i is e f g = let z : ◌≡◌ {A = ℕ} 0 1 = cc in absurd (omega arith)
drop_own k pending q s i is e f g = subst (λ (x : ℕ). Paused x (drop_in pending q s i is)) g (record { stream = _; found = find_put_same stream_key _ q.streams; state = refl })
drop_own k paused q s i is e f g = subst (λ (x : ℕ). Paused x (drop_in paused q s i is)) g (record { stream = _; found = find_put_same stream_key _ q.streams; state = e })
drop_own k resetting q s i is e f g = let z : ◌≡◌ {A = ℕ} 0 1 = cc in absurd (omega arith)

-- What a drop of the message x, on whatever stream, leaves of the pending stream.
data Dropped (k : ℕ) (i : Item) (j : ℕ) (x : Item) (r : Queue) : Type 0 where
  stays : Pending k i r → Dropped k i j x r
  ended : Paused k r → j ≡ k → x ≡ i → Dropped k i j x r

ends_as : end_pending pending ≡ paused
unfolding end_pending
ends_as = refl

rests_as : end_pending paused ≡ paused
unfolding end_pending
rests_as = refl

same_first : (i x : Item) (is js : List Item) → i ∷ is ≡ x ∷ js → x ≡ i
same_first i x is js e = cc

module _ (k : ℕ) (q : Queue) (j : ℕ) (s : Stream) (x : Item) (is : List Item) (h : HeadAt q.streams j s x is) where
  head_id : s.id ≡ j
  head_id = find_key stream_key j q.streams s h.found

  -- The head's stream is the stream k, if it has that id.
  own_head : (t : Stream) → find_stream k q.streams ≡ some t → s.id ≡ k → s ≡ t
  own_head t f g = let a : find_stream k q.streams ≡ some s = subst (λ (n : ℕ). find_stream n q.streams ≡ some s) (sym head_id ∙ g) h.found in cc

  drop_pending : (i : Item) → Pending k i q → Dropped k i j x (drop_in s.pause_state q s x is)
  drop_pending i p = elim (is_own stream_key s k) [
    | other n ↦ stays (record { stream = p.stream; behind = p.behind; found = drop_others k s.pause_state q s x is n ∙ p.found; state = p.state; items = p.items })
    | own g ↦ (let e : s ≡ p.stream = own_head p.stream p.found g in
        let a : s.pause_state ≡ pending = ap (λ (y : Stream). y.pause_state) e ∙ p.state in
        let b : p.stream.items ≡ x ∷ is = ap (λ (y : Stream). y.items) (sym e) ∙ h.items in
        ended (drop_own k s.pause_state q s x is refl (ap end_pending a ∙ ends_as) g) (sym head_id ∙ g) (same_first i x p.behind is (sym p.items ∙ b)))
  ]

  drop_paused : Paused k q → Paused k (drop_in s.pause_state q s x is)
  drop_paused p = elim (is_own stream_key s k) [
    | other n ↦ record { stream = p.stream; found = drop_others k s.pause_state q s x is n ∙ p.found; state = p.state }
    | own g ↦ (let e : s ≡ p.stream = own_head p.stream p.found g in
        drop_own k s.pause_state q s x is refl (ap end_pending (ap (λ (y : Stream). y.pause_state) e ∙ p.state) ∙ rests_as) g)
  ]

-- ---- discard

-- "When a pending stream's message ends or is discarded, it is paused."
pub data Discards (k : ℕ) (i : Item) (j m : ℕ) (r : Queue) : Type 0 where
  discard_stays : Pending k i r → Discards k i j m r
  discard_ends : Paused k r → j ≡ k → m ≡ i.message_id → Discards k i j m r

pub discard_pending : (k : ℕ) (i : Item) (places j m : ℕ) (q : Queue) → Pending k i q → Discards k i j m (step (discard places j m) q).next
unfolding step Calls.discard checked refused_or discard_at discarded
discard_pending k i places j m q p = go (first_refusal (discard_checks places))
  where
    dropped : (x : Item) (r : Queue) → x.message_id ≡ m → Dropped k i j x r → Discards k i j m r
    dropped x r e (stays a) = discard_stays a
    dropped x r e (ended a f g) = discard_ends a f (sym e ∙ ap (λ (y : Item). y.message_id) g)

    meant : (s : Stream) (x : Item) (is : List Item) → HeadAt q.streams j s x is → (b c : Bool) → eqb x.message_id m ≡ b
        → Discards k i j m (if b then (if c then refuse q 16 else reply done (drop_head_events q s x) (drop_in s.pause_state q s x is)) else reply done [] q).next
    meant s x is h true true e = discard_stays p
    meant s x is h true false e = dropped x (drop_in s.pause_state q s x is) (eqb→eq x.message_id m (holds (eqb x.message_id m) e)) (drop_pending k q j s x is h i p)
    meant s x is h false c e = discard_stays p

    at_head : Discards k i j m (discard_at m q (head_of (find_stream j q.streams))).next
    at_head = elim (heads q.streams j) [
      | headless e n ↦ subst (λ (y : Head). Discards k i j m (discard_at m q y).next) (sym e) (discard_stays p)
      | headed s x is h ↦ subst (λ (y : Head). Discards k i j m (discard_at m q y).next) (sym (head_of_at q.streams j s x is h)) (meant s x is h (eqb x.message_id m) (short_of q s (remaining x)) refl)
    ]

    go : (r : Option ℕ) → Discards k i j m (refused_or r q (discard_at m q (head_of (find_stream j q.streams)))).next
    go none = at_head
    go (some n) = discard_stays p

pub discard_paused : (k places j m : ℕ) (q : Queue) → Paused k q → Paused k (step (discard places j m) q).next
unfolding step Calls.discard checked refused_or discard_at discarded
discard_paused k places j m q p = go (first_refusal (discard_checks places))
  where
    meant : (s : Stream) (x : Item) (is : List Item) → HeadAt q.streams j s x is → (b c : Bool)
        → Paused k (if b then (if c then refuse q 16 else reply done (drop_head_events q s x) (drop_in s.pause_state q s x is)) else reply done [] q).next
    meant s x is h true true = p
    meant s x is h true false = drop_paused k q j s x is h p
    meant s x is h false c = p

    at_head : Paused k (discard_at m q (head_of (find_stream j q.streams))).next
    at_head = elim (heads q.streams j) [
      | headless e n ↦ subst (λ (y : Head). Paused k (discard_at m q y).next) (sym e) p
      | headed s x is h ↦ subst (λ (y : Head). Paused k (discard_at m q y).next) (sym (head_of_at q.streams j s x is h)) (meant s x is h (eqb x.message_id m) (short_of q s (remaining x)))
    ]

    go : (r : Option ℕ) → Paused k (refused_or r q (discard_at m q (head_of (find_stream j q.streams)))).next
    go none = at_head
    go (some n) = p

-- ---- passing over

data Gone (k : ℕ) (i : Item) (now : ℕ) (r : Queue) : Type 0 where
  goes : Pending k i r → Gone k i now r
  gone : Paused k r → expired now i.expires_at ≡ true → Gone k i now r

past_paused : (k now : ℕ) (r q : Queue) → Past now r q → Paused k q → Paused k r
past_paused k now r q here p = p
past_paused k now r q (over j s x is h e t) p = past_paused k now r (drop_in s.pause_state q s x is) t (drop_paused k q j s x is h p)

past_pending : (k : ℕ) (i : Item) (now : ℕ) (r q : Queue) → Past now r q → Pending k i q → Gone k i now r
past_pending k i now r q here p = goes p
past_pending k i now r q (over j s x is h e t) p = go (drop_pending k q j s x is h i p) (past_pending k i now r (drop_in s.pause_state q s x is) t)
  where
    go : Dropped k i j x (drop_in s.pause_state q s x is) → (Pending k i (drop_in s.pause_state q s x is) → Gone k i now r) → Gone k i now r
    go (stays a) f = f a
    go (ended a f g) y = gone (past_paused k now r (drop_in s.pause_state q s x is) t a) (ap (λ (y : Item). expired now y.expires_at) (sym g) ∙ e)

-- ---- handing out

-- A message with its numbers is the same message.
record Alike (i j : Item) : Type 0 where
  same_id : j.message_id ≡ i.message_id
  same_payload : j.payload ≡ i.payload
  same_offset : j.offset ≡ i.offset
  same_expiry : j.expires_at ≡ i.expires_at

given_alike : (b : Bool) (c : Counters) (i : Item) → Alike i (give_numbers b c i).item
unfolding give_numbers
given_alike true c i = record { same_id = refl; same_payload = refl; same_offset = refl; same_expiry = refl }
given_alike false c i = record { same_id = refl; same_payload = refl; same_offset = refl; same_expiry = refl }

numbered_alike : (c : Counters) (i : Item) → Alike i (numbered c i).item
unfolding numbered numbered_in
numbered_alike c i = go i.mid
  where
    go : (m : Option ℕ) → Alike i (numbered_in m c i).item
    go none = given_alike i.unordered c i
    go (some n) = record { same_id = refl; same_payload = refl; same_offset = refl; same_expiry = refl }

alike_unsent : (i j : Item) → Alike i j → unsent j ≡ unsent i
alike_unsent i j a = ap₂ drop a.same_offset a.same_payload

drop_more : (a b : ℕ) (l : List ℕ) → drop b (drop a l) ≡ drop (a + b) l
drop_more zero b l = ap (λ (n : ℕ). drop n l) (sym (zero-add b))
drop_more (suc a) b [] = drop-nil b ∙ ap (λ (n : ℕ). drop {A = ℕ} n []) (sym (suc-add a b))
drop_more (suc a) b (x ∷ xs) = drop_more a b xs ∙ ap (λ (n : ℕ). drop n (x ∷ xs)) (sym (suc-add a b))

-- After n bytes of it.
moved_further : (i : Item) (n : ℕ) → FurtherOn (take n (unsent i)) i (moved_on i n)
unfolding moved_on
moved_further i n = record {
  same_message = refl;
  same_expiry = refl;
  bytes = ap (λ (l : List ℕ). take n (unsent i) ++ l) (sym (drop_more i.offset n i.payload)) ∙ take-append-drop n (unsent i);
}

alike_further : (bs : List ℕ) (i j l : Item) → Alike i j → FurtherOn bs j l → FurtherOn bs i l
alike_further bs i j l a f = record { same_message = f.same_message ∙ a.same_id; same_expiry = f.same_expiry ∙ a.same_expiry; bytes = f.bytes ∙ alike_unsent i j a }

-- What handing out a fragment leaves of the pending stream.
data Hands (k : ℕ) (i : Item) (f : Fragment) (r : Queue) : Type 0 where
  elsewhere : (f.stream_id ≡ k → ⊥) → Pending k i r → Hands k i f r
  further : (j : Item) → f.stream_id ≡ k → f.message_id ≡ i.message_id → FurtherOn f.bytes i j → Pending k j r → Hands k i f r
  delivers : f.stream_id ≡ k → f.message_id ≡ i.message_id → f.bytes ≡ unsent i → Paused k r → Hands k i f r

-- The streams that are not the fragment's stay.
handed_others : (k : ℕ) (r : Queue) (a : Active) (t : Stream) (x : Item) (is : List Item) (n : ℕ) → (t.id ≡ k → ⊥) → find_stream k (handed_out r a t x is n).streams ≡ find_stream k r.streams
unfolding handed_out handed_out_last handed_out_part
handed_others k r a t x is n f = go (eqb n (remaining x))
  where
    go : (b : Bool) → find_stream k (if b then handed_out_last r a t x is n else handed_out_part r a t x is n).streams ≡ find_stream k r.streams
    go true = find_put_other stream_key k _ r.streams f
    go false = find_put_other stream_key k _ r.streams f

module _ (r : Queue) (a : Active) (t : Stream) (x : Item) (is : List Item) (n : ℕ) where
  sent : Item
  sent = (numbered t.counters x).item

  sent_alike : Alike x sent
  unfolding sent
  sent_alike = numbered_alike t.counters x

  hands_own : t.pause_state ≡ pending → Hands t.id x (make_fragment t (numbered t.counters x).item n) (handed_out r a t x is n)
  unfolding make_fragment handed_out handed_out_last handed_out_part end_pending sent
  hands_own e = go (eqb n (remaining x)) refl
    where
      whole : eqb n (remaining x) ≡ true → take n (unsent sent) ≡ unsent x
      whole f =
          let g : n ≡ remaining x = eqb→eq n (remaining x) (holds (eqb n (remaining x)) f) in
          let l = length-drop x.offset x.payload in
          ap (take n) (alike_unsent x sent sent_alike) ∙ take_all n (unsent x) (omega arith)

      go : (b : Bool) → eqb n (remaining x) ≡ b → Hands t.id x (make_fragment t sent n) (if b then handed_out_last r a t x is n else handed_out_part r a t x is n)
      go true f = delivers refl sent_alike.same_id (whole f) (record { stream = _; found = find_put_same stream_key _ r.streams; state = ap end_pending e ∙ ends_as })
      go false f = further (moved_on sent n) refl sent_alike.same_id (alike_further (take n (unsent sent)) x sent (moved_on sent n) sent_alike (moved_further sent n))
          (record { stream = _; behind = is; found = find_put_same stream_key _ r.streams; state = e; items = refl })

  pub fragment_on : (make_fragment t (numbered t.counters x).item n).stream_id ≡ t.id
  unfolding make_fragment
  fragment_on = refl

  hands : (k j : ℕ) (i : Item) → HeadAt r.streams j t x is → Pending k i r → Hands k i (make_fragment t (numbered t.counters x).item n) (handed_out r a t x is n)
  hands k j i h p = elim (is_own stream_key t k) [
    | other f ↦ elsewhere (λ g. f (sym fragment_on ∙ g)) (record { stream = p.stream; behind = p.behind; found = handed_others k r a t x is n f ∙ p.found; state = p.state; items = p.items })
    | own g ↦ (let e : t ≡ p.stream = own_head k r j t x is h p.stream p.found g in
        let b : p.stream.items ≡ x ∷ is = ap (λ (y : Stream). y.items) (sym e) ∙ h.items in
        let z : x ≡ i = same_first i x p.behind is (sym p.items ∙ b) in
        let f : Fragment = make_fragment t (numbered t.counters x).item n in
        subst (λ (m : ℕ). Hands m i f (handed_out r a t x is n)) g (subst (λ (y : Item). Hands t.id y f (handed_out r a t x is n)) z (hands_own (ap (λ (y : Stream). y.pause_state) e ∙ p.state))))
  ]

  handed_paused : (k j : ℕ) → HeadAt r.streams j t x is → Paused k r → Paused k (handed_out r a t x is n)
  unfolding handed_out handed_out_last handed_out_part
  handed_paused k j h p = elim (is_own stream_key t k) [
    | other f ↦ record { stream = p.stream; found = handed_others k r a t x is n f ∙ p.found; state = p.state }
    | own g ↦ (let e : t.pause_state ≡ paused = ap (λ (y : Stream). y.pause_state) (own_head k r j t x is h p.stream p.found g) ∙ p.state in
        subst (λ (m : ℕ). Paused m (handed_out r a t x is n)) g (go e (eqb n (remaining x))))
  ]
    where
      go : t.pause_state ≡ paused → (b : Bool) → Paused t.id (if b then handed_out_last r a t x is n else handed_out_part r a t x is n)
      go e true = record { stream = _; found = find_put_same stream_key _ r.streams; state = ap end_pending e ∙ rests_as }
      go e false = record { stream = _; found = find_put_same stream_key _ r.streams; state = e }

-- ---- the next fragment

-- What it leaves of the pending stream: all as it was, and no fragment of this stream; a fragment of its message, or the last of it; or the message has
-- expired.
pub data Sends (k : ℕ) (i : Item) (now : ℕ) (s : Step) : Type 0 where
  send_stays : ((f : Fragment) → s.outcome.answer ≡ fragment f → f.stream_id ≡ k → ⊥) → Pending k i s.next → Sends k i now s
  send_further : (f : Fragment) (j : Item) → s.outcome.answer ≡ fragment f → f.stream_id ≡ k → f.message_id ≡ i.message_id → FurtherOn f.bytes i j → Pending k j s.next → Sends k i now s
  send_delivers : (f : Fragment) → s.outcome.answer ≡ fragment f → f.stream_id ≡ k → f.message_id ≡ i.message_id → f.bytes ≡ unsent i → Paused k s.next → Sends k i now s
  send_expires : expired now i.expires_at ≡ true → Paused k s.next → Sends k i now s

module _ (k now : ℕ) (r : Queue) (s : Step) where
  ends_paused : Ends r s → Paused k r → Paused k s.next
  ends_paused (none_waits e f g) p = subst (Paused k) (sym g) p
  ends_paused (hands_out a t x is n e c l m f g) p = subst (Paused k) (sym g) (handed_paused r a t x is n k a.stream_id c.choice_head p)

  handed_sends : (i : Item) (f : Fragment) (q : Queue) → s.outcome.answer ≡ fragment f → s.next ≡ q → Hands k i f q → Sends k i now s
  handed_sends i f q e g (elsewhere n p) = send_stays (λ x y z. n (same_stream f x (sym e ∙ y) ∙ z)) (subst (Pending k i) (sym g) p)
    where
      same_stream : (f x : Fragment) → fragment f ≡ fragment x → f.stream_id ≡ x.stream_id
      same_stream f x u = let y : f ≡ x = cc in ap (λ (z : Fragment). z.stream_id) y
  handed_sends i f q e g (further j a b c p) = send_further f j e a b c (subst (Pending k j) (sym g) p)
  handed_sends i f q e g (delivers a b c p) = send_delivers f e a b c (subst (Paused k) (sym g) p)

  ends_pending : (i : Item) → Ends r s → Pending k i r → Sends k i now s
  ends_pending i (none_waits e f g) p = send_stays (λ x y z. let u : ◌≡◌ {A = ℕ} 0 1 = cc in omega arith) (subst (Pending k i) (sym g) p)
  ends_pending i (hands_out a t x is n e c l m f g) p = handed_sends i (make_fragment t (numbered t.counters x).item n) (handed_out r a t x is n) f g (hands r a t x is n k a.stream_id i c.choice_head p)

pub produce_pending : (k : ℕ) (i : Item) (store places buffer now size : ℕ) (q : Queue) → Well q → Pending k i q → Sends k i now ((step (produce store places buffer now size) q))
unfolding step
produce_pending k i store places buffer now size q w p = go (next_fragment store places buffer now size q w)
  where
    s : Step
    s = Calls.produce store places buffer now size q

    past : (r : Queue) → Ends r s → Gone k i now r → Sends k i now s
    past r e (goes a) = ends_pending k now r s i e a
    past r e (gone a f) = send_expires f (ends_paused k now r s e a)

    go : Next now q s → Sends k i now s
    go (refuses n e) = subst (Sends k i now) (sym e) (send_stays (λ x y z. let u : ◌≡◌ {A = ℕ} 0 1 = cc in omega arith) p)
    go (passes a) = past a.past a.ends (past_pending k i now a.past q a.passed p)

pub produce_paused : (k store places buffer now size : ℕ) (q : Queue) → Well q → Paused k q → Paused k (step (produce store places buffer now size) q).next
unfolding step
produce_paused k store places buffer now size q w p = go (next_fragment store places buffer now size q w)
  where
    s : Step
    s = Calls.produce store places buffer now size q

    go : Next now q s → Paused k s.next
    go (refuses n e) = subst (λ (x : Step). Paused k x.next) (sym e) p
    go (passes a) = ends_paused k now a.past s a.ends (past_paused k now a.past q a.passed p)
