-- The model's receivers that calls lead to; no call on them is refused with 16. Assumes nothing.
use mathlib.Core.Path.{◌≡◌, refl, ap, ◌∙◌, subst}
use mathlib.Core.Bool.{Bool, true, false, not}
use mathlib.Core.List.{List, [], ◌∷◌, ◌++◌}
use mathlib.Core.Option.{Option, none, some}
use Prim.Native.Nat.{ℕ, suc}
use lib.Dec.{eqb, ltb}
use lib.ListN.{length}
use Rattle.std.specs.Prelude.{if◌then◌else◌}
use Rattle.queue_model.specs.Refusals.{first_refusal, ◌when◌}
use Rattle.receiver_model.specs.Types.{Kind, Chunk, Assembled, Receiver, Answer, refused, accepted, repeated, none_ready, fetched, Step, reply}
use Rattle.receiver_model.specs.Tsn.{is_far}
use Rattle.receiver_model.specs.Assembly.{whole_among}
use Rattle.receiver_model.specs.Receive as model
use Rattle.receiver_model.specs.Receive.{pass, accept, repeats, differs, no_room, same_kind, refused_or, receive_chunk, receive_new, new_receiver, early_checks, late_checks}
use Rattle.receiver_model.specs.Fetch as fetching
use Rattle.receiver_model.specs.Fetch.{as_message, with_ready, fetch_from}
use Rattle.receiver_model.specs.Run.{Call, receive, fetch, step, after}
use Rattle.receiver_model.proofs.AnyCalls.{Change, stays, accepts, takes, change_receive, change_fetch}
use Rattle.receiver_model.proofs.Bounds.{Bounded, always_bounded, settle_store}
use Rattle.receiver_model.proofs.Window.{Window, TypedTsn, TypedTsns, always_window}

-- ------------------------------------------------------------------ reached receivers

pub record Came (r : Receiver) : Type 0 where
  pub kind : Kind
  pub store : ℕ
  pub start : ℕ
  pub calls : List Call
  pub typed : TypedTsns calls
  pub is : after calls (new_receiver kind store start) ≡ r

pub came_new : (k : Kind) (store start : ℕ) → Came (new_receiver k store start)
unfolding after
came_new k store start = record { kind = k; store = store; start = start; calls = []; typed = tt; is = refl }

after_end : (cs : List Call) (c : Call) (r : Receiver) → after (cs ++ (c ∷ [])) r ≡ (step c (after cs r)).next
unfolding after
after_end [] c r = refl
after_end (d ∷ cs) c r = after_end cs c (step d r).next

typed_end : (cs : List Call) (c : Call) → TypedTsns cs → TypedTsn c → TypedTsns (cs ++ (c ∷ []))
typed_end [] c t h = (h, tt)
typed_end (d ∷ cs) c t h = (t.0, typed_end cs c t.1 h)

pub came_step : (c : Call) (r : Receiver) → Came r → TypedTsn c → Came (step c r).next
came_step c r v h = record {
  kind = v.kind;
  store = v.store;
  start = v.start;
  calls = v.calls ++ (c ∷ []);
  typed = typed_end v.calls c v.typed h;
  is = after_end v.calls c (new_receiver v.kind v.store v.start) ∙ ap (λ (x : Receiver). (step c x).next) v.is;
}

pub came_window : (r : Receiver) → Came r → Window r
came_window r v = subst Window v.is (always_window v.kind v.store v.start v.calls v.typed)

pub came_bounded : (r : Receiver) → Came r → Bounded r
came_bounded r v = subst Bounded v.is (always_bounded v.kind v.store v.start v.calls)

-- ------------------------------------------------------------------ kind and store

accept_same : (c : Chunk) (r : Receiver) → (accept c r).store_length ≡ r.store_length
unfolding accept
accept_same c r = settle_store c (pass (suc (length r.ahead)) r.last_tsn (c.tsn ∷ r.ahead)) r (c ∷ r.loose) (whole_among r.kind (c ∷ r.loose) (c ∷ r.loose))

changed : (r q : Receiver) → Change r q → q.store_length ≡ r.store_length
changed r q (stays e) = ap (λ (x : Receiver). x.store_length) e
changed r q (accepts c d p n e) = ap (λ (x : Receiver). x.store_length) e ∙ accept_same c r
changed r q (takes a others f e) = ap (λ (x : Receiver). x.store_length) e

-- The store's length is fixed at creation.
pub store_kept : (c : Call) (r : Receiver) → (step c r).next.store_length ≡ r.store_length
unfolding step
store_kept (receive n o) r = changed r _ (change_receive n o r)
store_kept (fetch n b) r = changed r _ (change_fetch n b r)

-- ------------------------------------------------------------------ no 16

abbrev pub NotSixteen : Answer → Type 0
NotSixteen (refused n) = eqb n 16 ≡ false
NotSixteen accepted = Unit {0}
NotSixteen repeated = Unit {0}
NotSixteen none_ready = Unit {0}
NotSixteen (fetched m) = Unit {0}

abbrev Other : Option ℕ → Type 0
Other none = Unit {0}
Other (some n) = eqb n 16 ≡ false

or_not : (o : Option ℕ) (r : Receiver) (s : Step) → Other o → NotSixteen s.answer → NotSixteen (refused_or o r s).answer
unfolding refused_or
or_not none r s e h = h
or_not (some n) r s e h = e

one_other : (n : ℕ) (a : Bool) → eqb n 16 ≡ false → Other (first_refusal ((n when a) ∷ []))
unfolding first_refusal
one_other n true e = e
one_other n false e = tt

late_other : (a b : Bool) → Other (first_refusal ((22 when a) ∷ (23 when b) ∷ []))
unfolding first_refusal
late_other true b = refl
late_other false true = refl
late_other false false = tt

early_other : (a b c : Bool) → Other (first_refusal ((2 when a) ∷ (19 when b) ∷ (24 when c) ∷ []))
unfolding first_refusal
early_other true b c = refl
early_other false true c = refl
early_other false false true = refl
early_other false false false = tt

new_not : (c : Chunk) (r : Receiver) → NotSixteen (receive_new c r).answer
unfolding receive_new
new_not c r = or_not (first_refusal (late_checks c r)) r (reply accepted (accept c r)) (late_other (is_far c.tsn r.last_tsn) (no_room c r)) tt

chunk_not : (c : Chunk) (r : Receiver) → NotSixteen (receive_chunk c r).answer
unfolding receive_chunk
chunk_not c r = go (repeats c r)
  where
    go : (b : Bool) → NotSixteen (if b then reply repeated r else receive_new c r).answer
    go true = tt
    go false = new_not c r

receive_not : (n : ℕ) (o : Option Chunk) (r : Receiver) → NotSixteen (model.receive n o r).answer
unfolding model.receive
receive_not n none r = or_not (first_refusal ((2 when not (eqb n r.store_length)) ∷ [])) r (reply (refused 19) r) (one_other 2 (not (eqb n r.store_length)) refl) refl
receive_not n (some c) r = or_not (first_refusal (early_checks n c r)) r (receive_chunk c r) (early_other (not (eqb n r.store_length)) (not (same_kind c.kind r.kind)) (differs c r)) (chunk_not c r)

from_not : (b : ℕ) (rs : List Assembled) (r : Receiver) → NotSixteen (fetch_from b rs r).answer
unfolding fetch_from
from_not b [] r = tt
from_not b (a ∷ more) r = or_not (first_refusal ((10 when ltb b (length (as_message a).payload)) ∷ [])) r (reply (fetched (as_message a)) (with_ready more r)) (one_other 10 (ltb b (length (as_message a).payload)) refl) tt

fetch_not : (n b : ℕ) (r : Receiver) → NotSixteen (fetching.fetch n b r).answer
unfolding fetching.fetch
fetch_not n b r = or_not (first_refusal ((2 when not (eqb n r.store_length)) ∷ [])) r (fetch_from b r.ready r) (one_other 2 (not (eqb n r.store_length)) refl) (from_not b r.ready r)

pub step_not : (c : Call) (r : Receiver) → NotSixteen (step c r).answer
unfolding step
step_not (receive n o) r = receive_not n o r
step_not (fetch n b) r = fetch_not n b r
