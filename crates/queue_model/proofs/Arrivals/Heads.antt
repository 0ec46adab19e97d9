-- A head that is dropped, or of which a fragment is handed out, in the ledger of a stream; and the heads that a next fragment passes over. Assumes nothing.
use mathlib.Core.Path.{◌≡◌, refl, sym, ap, ap₂, ◌∙◌, subst}
use mathlib.Core.Bool.{Bool, true, false}
use mathlib.Core.List.{List, [], ◌∷◌, ◌++◌}
use mathlib.Core.Option.{Option, none, some}
use Prim.Native.Nat.{ℕ, zero, suc, ◌-◌, ◌≤◌}
use native.Mathlib.Omega.{arith}
use lib.Dec.{eqb}
use lib.ListN.{length, drop, length-take, length-drop}
use Rattle.std.specs.Prelude.{if◌then◌else◌}
use Rattle.queue_model.specs.Types.{Item, PauseState, not_paused, pending, paused, resetting, Counters, Stream, Active, Queue, remaining, expired, with_items, model_with_pause, with_numbers}
use Rattle.queue_model.specs.Scheduler.{peek}
use Rattle.queue_model.specs.Streams.{find_stream, put_stream, stream_key}
use Rattle.queue_model.specs.Refusals.{short_of}
use Rattle.queue_model.specs.Amounts.{drop_head_events}
use Rattle.queue_model.specs.Produce.{Head, head_of, drop_head, drop_in, Look, nothing, broken, dropped, chosen, look_expired, look_at, look_for, look, Numbered, numbered, numbered_in, give_numbers, make_fragment, end_pending, moved_on, handed_out_last, handed_out_part, handed_out}
use Rattle.queue_model.specs.Passing.{passing_after, passing}
use Rattle.queue_model.specs.History.{Piece, piece, choice, choices}
use Rattle.queue_model.specs.Arrivals.{Ledger, on_stream, drop_first, has_expired, expire_head, expire_heads, sent_on, send_first, send_piece, has_message_id, discard_head, HeadIs, HeadsExpired, stream_view, view}
use Rattle.queue_model.proofs.Tests.{eqb_true}
use Rattle.queue_model.proofs.Table.{find_key}
use Rattle.queue_model.proofs.Streams.{at_found}
use Rattle.queue_model.proofs.Invariant.Sends.{drop_in_options, head_of_at, headless, headed, heads}
use Rattle.queue_model.proofs.Calm.Calm.{HeadAt}
use Rattle.queue_model.proofs.Arrivals.Views.{ledger_of, held, put_view}

-- ---- a message with its numbers

-- It is the same message but for them.
given_same : (u : Bool) (c : Counters) (i : Item) (m : Option ℕ) (s f o : ℕ) → with_numbers (give_numbers u c i).item m s f o ≡ with_numbers i m s f o
unfolding give_numbers
given_same true c i m s f o = refl
given_same false c i m s f o = refl

pub numbered_same : (c : Counters) (i : Item) (m : Option ℕ) (s f o : ℕ) → with_numbers (numbered c i).item m s f o ≡ with_numbers i m s f o
unfolding numbered numbered_in
numbered_same c i m s f o = go i.mid
  where
    go : (x : Option ℕ) → with_numbers (numbered_in x c i).item m s f o ≡ with_numbers i m s f o
    go none = given_same i.unordered c i m s f o
    go (some x) = refl

given_offset : (u : Bool) (c : Counters) (i : Item) → (give_numbers u c i).item.offset ≡ i.offset
unfolding give_numbers
given_offset true c i = refl
given_offset false c i = refl

numbered_offset : (c : Counters) (i : Item) → (numbered c i).item.offset ≡ i.offset
unfolding numbered numbered_in
numbered_offset c i = go i.mid
  where
    go : (x : Option ℕ) → (numbered_in x c i).item.offset ≡ i.offset
    go none = given_offset i.unordered c i
    go (some x) = refl

-- ---- a head

module _ (q : Queue) (j k : ℕ) (s : Stream) (i : Item) (is : List Item) (h : HeadAt q.streams j s i is) where
  pub head_id : s.id ≡ j
  head_id = find_key stream_key j q.streams s h.found

  -- Its stream's ledger.
  abbrev pub head_ledger : Ledger
  head_ledger = ledger_of q.next_message_id s.pause_state s.counters (i ∷ is)

  pub head_held : view j q ≡ head_ledger
  head_held = ap (stream_view q.next_message_id) (at_found q.options q.streams j s h.found) ∙ ap (λ (l : List Item). ledger_of q.next_message_id s.pause_state s.counters l) h.items

  -- The ledger of stream k, if it is that one.
  pub head_is : (test : Item → Bool) → test i ≡ true → j ≡ k → HeadIs test (view k q).messages
  head_is test t e = subst (λ (x : ℕ). HeadIs test (view x q).messages) e (subst (λ (l : Ledger). HeadIs test l.messages) (sym head_held) t)

  -- The head's stream put with another state, other counters and other messages.
  head_put : (f : Ledger → Ledger) (x : Stream) → x.id ≡ s.id → stream_view q.next_message_id x ≡ f head_ledger
      → held q.options q.next_message_id (put_stream x q.streams) k ≡ on_stream j k f (view k q)
  head_put f x e v = put_view q.options q.next_message_id x q.streams j k f (e ∙ head_id) (v ∙ ap f (sym head_held))

  -- Dropped, since it has expired or is discarded.
  drop_either : (meant : Item → Bool) (b : Bool) → meant i ≡ b → drop_first meant head_ledger (i ∷ is) ≡ (if b then ledger_of q.next_message_id (end_pending s.pause_state) s.counters is else head_ledger)
  unfolding drop_first
  drop_either meant b e = ap (λ (x : Bool). if x then ledger_of q.next_message_id (end_pending s.pause_state) s.counters is else head_ledger) e

  dropped_view : (meant : Item → Bool) → meant i ≡ true → view k (drop_in s.pause_state q s i is) ≡ on_stream j k (λ (l : Ledger). drop_first meant l l.messages) (view k q)
  unfolding drop_in drop_head end_pending
  dropped_view meant e = go s.pause_state refl
    where
      drops : Ledger → Ledger
      drops l = drop_first meant l l.messages

      leaves : (x : Stream) → x.id ≡ s.id → x.counters ≡ s.counters → x.items ≡ is → x.pause_state ≡ end_pending s.pause_state → held q.options q.next_message_id (put_stream x q.streams) k ≡ on_stream j k drops (view k q)
      leaves x f c g p = head_put drops x f
          (ap₂ (λ (p : PauseState) (l : List Item). ledger_of q.next_message_id p x.counters l) p g ∙ ap (λ (y : Counters). ledger_of q.next_message_id (end_pending s.pause_state) y is) c ∙ sym (drop_either meant true e))

      go : (p : PauseState) → s.pause_state ≡ p → view k (drop_in p q s i is) ≡ on_stream j k drops (view k q)
      go not_paused f = leaves (with_items s (s.amount - remaining i) is) refl refl refl (f ∙ ap end_pending (sym f))
      go pending f = leaves (model_with_pause paused (with_items s (s.amount - remaining i) is)) refl refl refl (ap end_pending (sym f))
      go paused f = leaves (with_items s (s.amount - remaining i) is) refl refl refl (f ∙ ap end_pending (sym f))
      go resetting f = leaves (with_items s (s.amount - remaining i) is) refl refl refl (f ∙ ap end_pending (sym f))

  expired_view : (now : ℕ) → expired now i.expires_at ≡ true → view k (drop_in s.pause_state q s i is) ≡ on_stream j k (expire_head now) (view k q)
  unfolding expire_head
  expired_view now e = dropped_view (has_expired now) e

  pub discard_other : (m : ℕ) → eqb i.message_id m ≡ false → discard_head m (view j q) ≡ view j q
  unfolding discard_head
  discard_other m e = ap (discard_head m) head_held ∙ drop_either (has_message_id m) false e ∙ sym head_held

  pub discarded_view : (m : ℕ) → eqb i.message_id m ≡ true → view k (drop_in s.pause_state q s i is) ≡ on_stream j k (discard_head m) (view k q)
  unfolding discard_head
  discarded_view m e = dropped_view (has_message_id m) e

-- ---- a fragment of a head

-- What is seen of a fragment of n bytes of the head i.
pub record PieceOf (s : Stream) (i : Item) (n : ℕ) (p : Piece) : Type 0 where
  pub of_stream : p.stream_id ≡ s.id
  pub of_message : i.message_id ≡ p.message_id
  pub ends : p.last ≡ eqb n (remaining i)
  pub has_size : p.size ≡ n

pub piece_of : (s : Stream) (i : Item) (n : ℕ) → n ≤ remaining i → PieceOf s i n (piece (make_fragment s (numbered s.counters i).item n))
unfolding make_fragment
piece_of s i n l =
    let j : Item = (numbered s.counters i).item in
    let same : with_numbers j none 0 0 0 ≡ with_numbers i none 0 0 0 = numbered_same s.counters i none 0 0 0 in
    let x : length j.payload ≡ length i.payload = ap (λ (y : Item). length y.payload) same in
    let y : j.offset ≡ i.offset = numbered_offset s.counters i in
    let t₁ = length-take n (drop j.offset j.payload) in let t₂ = length-drop j.offset j.payload in
    record {
      of_stream = refl;
      of_message = ap (λ (y : Item). y.message_id) (sym same);
      ends = ap₂ (λ (a b : ℕ). eqb n (a - b)) x y;
      has_size = omega arith;
    }

module _ (q : Queue) (j k : ℕ) (s : Stream) (i : Item) (is : List Item) (h : HeadAt q.streams j s i is) (a : Active) (n : ℕ) (p : Piece) (g : PieceOf s i n p) where
  abbrev given : Numbered
  given = numbered s.counters i

  -- A last one or not.
  piece_either : (b : Bool) → eqb n (remaining i) ≡ b → send_piece p (head_ledger q j k s i is h)
      ≡ ledger_of q.next_message_id (if b then end_pending s.pause_state else s.pause_state) given.counters (if b then is else moved_on given.item n ∷ is)
  unfolding send_piece send_first sent_on
  piece_either b e =
      let u : Bool → Bool → ℕ → Ledger = λ x y z. if x then ledger_of q.next_message_id (if y then end_pending s.pause_state else s.pause_state) given.counters (if y then is else moved_on given.item z ∷ is) else head_ledger q j k s i is h in
      ap (λ (x : Bool). u x p.last p.size) (eqb_true g.of_message) ∙ ap₂ (λ (y : Bool) (z : ℕ). u true y z) (g.ends ∙ e) g.has_size

  pub handed_view : view k (handed_out q a s i is n) ≡ on_stream j k (send_piece p) (view k q)
  unfolding handed_out handed_out_last handed_out_part
  handed_view = go (eqb n (remaining i)) refl
    where
      go : (b : Bool) → eqb n (remaining i) ≡ b → view k (if b then handed_out_last q a s i is n else handed_out_part q a s i is n) ≡ on_stream j k (send_piece p) (view k q)
      go true e = head_put q j k s i is h (send_piece p) _ refl (sym (piece_either true e))
      go false e = head_put q j k s i is h (send_piece p) _ refl (sym (piece_either false e))

  -- It names the head.
  pub piece_named : p.stream_id ≡ k → HeadIs (has_message_id p.message_id) (view k q).messages
  piece_named e = head_is q j k s i is h (has_message_id p.message_id) (eqb_true g.of_message) (sym (g.of_stream ∙ head_id q j k s i is h) ∙ e)

-- ---- what one look finds

-- The head of the choice had expired, and is dropped.
pub record Drops (k now : ℕ) (q r : Queue) : Type 0 where
  pub stream : ℕ
  pub chosen_is : choice (peek q.scheduler) ≡ stream ∷ []
  pub had_expired : stream ≡ k → HeadIs (has_expired now) (view k q).messages
  pub drops : view k r ≡ on_stream stream k (expire_head now) (view k q)
  pub drop_options : r.options ≡ q.options

-- A look that drops passes over the choice's expired head; one that chooses finds a head of the choice.
abbrev pub LookFollows : ℕ → ℕ → Queue → Look → Type 0
LookFollows k now q nothing = Unit {0}
LookFollows k now q broken = Unit {0}
LookFollows k now q (dropped r es) = Drops k now q r
LookFollows k now q (chosen a s i is) = HeadAt q.streams a.stream_id s i is

choice_some : (a : Active) → choice (some a) ≡ a.stream_id ∷ []
unfolding choice
choice_some a = refl

pub look_follows : (k now : ℕ) (q : Queue) → LookFollows k now q (look now q)
unfolding look look_for look_at look_expired
look_follows k now q = go (peek q.scheduler) refl
  where
    found : (a : Active) → peek q.scheduler ≡ some a → (x y : Bool) (s : Stream) (i : Item) (is : List Item) → HeadAt q.streams a.stream_id s i is → expired now i.expires_at ≡ x
        → LookFollows k now q (if x then (if y then broken else dropped (drop_in s.pause_state q s i is) (drop_head_events q s i)) else chosen a s i is)
    found a e true true s i is h f = tt
    found a e true false s i is h f = record {
      stream = a.stream_id;
      chosen_is = ap choice e ∙ choice_some a;
      had_expired = head_is q a.stream_id k s i is h (has_expired now) f;
      drops = expired_view q a.stream_id k s i is h now f;
      drop_options = drop_in_options s.pause_state q s i is;
    }
    found a e false y s i is h f = h

    at_one : (a : Active) → peek q.scheduler ≡ some a → LookFollows k now q (look_at now q a (head_of (find_stream a.stream_id q.streams)))
    at_one a e = elim (heads q.streams a.stream_id) [
      | headless f n ↦ subst (λ (x : Head). LookFollows k now q (look_at now q a x)) (sym f) tt
      | headed s i is h ↦ subst (λ (x : Head). LookFollows k now q (look_at now q a x)) (sym (head_of_at q.streams a.stream_id s i is h)) (found a e (expired now i.expires_at) (short_of q s (remaining i)) s i is h refl)
    ]

    go : (x : Option Active) → peek q.scheduler ≡ x → LookFollows k now q (look_for now q x)
    go none e = tt
    go (some a) e = at_one a e

-- ---- the heads passed over

-- The first of them, and the others.
module _ (k now : ℕ) (q r : Queue) (d : Drops k now q r) (rs : List Queue) where
  pub first_choice : choices (q ∷ rs) ≡ d.stream ∷ choices rs
  unfolding choices
  first_choice = ap (λ (ss : List ℕ). ss ++ choices rs) d.chosen_is

  pub first_passed : expire_heads k now (choices rs) (view k r) ≡ expire_heads k now (choices (q ∷ rs)) (view k q)
  unfolding expire_heads
  first_passed = ap (expire_heads k now (choices rs)) d.drops ∙ ap (λ (ss : List ℕ). expire_heads k now ss (view k q)) (sym first_choice)

-- Each had expired.
after_expired : (k now : ℕ) (q : Queue) (rest : Queue → List Queue) (l : Look) → LookFollows k now q l → ((r : Queue) → HeadsExpired k now (choices (rest r)) (view k r)) → HeadsExpired k now (choices (passing_after q rest l)) (view k q)
unfolding passing_after
after_expired k now q rest nothing f ih = unfold choices in tt
after_expired k now q rest broken f ih = unfold choices in tt
after_expired k now q rest (dropped r es) d ih =
    subst (λ (ss : List ℕ). HeadsExpired k now ss (view k q)) (sym (first_choice k now q r d (rest r))) (d.had_expired, subst (HeadsExpired k now (choices (rest r))) d.drops (ih r))
after_expired k now q rest (chosen a s i is) f ih = unfold choices in tt

pub heads_expired : (k turns now : ℕ) (q : Queue) → HeadsExpired k now (choices (passing turns now q)) (view k q)
unfolding passing
heads_expired k zero now q = unfold choices in tt
heads_expired k (suc turns) now q = after_expired k now q (λ (r : Queue). passing turns now r) (look now q) (look_follows k now q) (λ r. heads_expired k turns now r)
