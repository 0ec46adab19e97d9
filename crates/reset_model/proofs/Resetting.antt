-- The ids of the resetting streams (specs/Handler), as streams are put in their place and the handler's calls change states. Assumes nothing.
use mathlib.Core.Path.{◌≡◌, refl, sym, ap, ◌∙◌}
use mathlib.Core.Bool.{Bool, true, false}
use mathlib.Core.List.{List, [], ◌∷◌, map}
use mathlib.Core.Option.{none, some}
use Prim.Native.Nat.{ℕ}
use native.Mathlib.Omega.{arith}
use Rattle.std.specs.Prelude.{if◌then◌else◌}
use Rattle.queue_model.specs.Types.{PauseState, resetting, Stream, Options, model_with_pause}
use Rattle.queue_model.specs.Streams.{find_stream, put_stream, new_stream, at, stream_key}
use Rattle.queue_model.specs.Reset.{is_paused, is_resetting, paused_ids, paused_to_resetting, opened, reopened, reset_stream}
use Rattle.queue_model.proofs.Tests.{less, same, more, tri}
use Rattle.queue_model.proofs.Table.{find_here, find_there, find_after, after_down, not_in_nil, put_end, put_later, put_here, put_before, found, missing, look_up, Rising, Every}
use Rattle.queue_model.proofs.Streams.{at_found, at_new}
use Rattle.reset_model.specs.Handler.{resetting_ids}

-- ---- by the state

-- Whether a stream is resetting is told by its state.
pub by_state : (s t : Stream) → s.pause_state ≡ t.pause_state → is_resetting s ≡ is_resetting t
unfolding is_resetting
by_state s t e = ap (λ (p : PauseState). is_resetting (model_with_pause p s)) e

pub new_not : (o : Options) (k : ℕ) → is_resetting (new_stream o k) ≡ false
unfolding is_resetting
new_not o k = refl

-- ---- a first stream

none_here : resetting_ids [] ≡ []
unfolding resetting_ids
none_here = refl

pub not_first : (s : Stream) (ss : List Stream) → is_resetting s ≡ false → resetting_ids (s ∷ ss) ≡ resetting_ids ss
unfolding resetting_ids
not_first s ss e = ap (λ (b : Bool). if b then s.id ∷ resetting_ids ss else resetting_ids ss) e

is_first : (s : Stream) (ss : List Stream) → is_resetting s ≡ true → resetting_ids (s ∷ ss) ≡ s.id ∷ resetting_ids ss
unfolding resetting_ids
is_first s ss e = ap (λ (b : Bool). if b then s.id ∷ resetting_ids ss else resetting_ids ss) e

-- The same first stream before lists with the same ids; and two first streams with the same id and state.
before : (s : Stream) (ss ts : List Stream) → resetting_ids ss ≡ resetting_ids ts → resetting_ids (s ∷ ss) ≡ resetting_ids (s ∷ ts)
unfolding resetting_ids
before s ss ts e = ap (λ (l : List ℕ). if is_resetting s then s.id ∷ l else l) e

alike : (s t : Stream) (ss : List Stream) → s.id ≡ t.id → is_resetting s ≡ is_resetting t → resetting_ids (s ∷ ss) ≡ resetting_ids (t ∷ ss)
unfolding resetting_ids
alike s t ss i e = ap (λ (k : ℕ). if is_resetting s then k ∷ resetting_ids ss else resetting_ids ss) i ∙ ap (λ (b : Bool). if b then t.id ∷ resetting_ids ss else resetting_ids ss) e

-- ---- a stream put in its place

put_unknown : (s : Stream) (ss : List Stream) → is_resetting s ≡ false → find_stream s.id ss ≡ none → resetting_ids (put_stream s ss) ≡ resetting_ids ss
put_unknown s [] n e = ap resetting_ids (put_end stream_key s) ∙ not_first s [] n
put_unknown s (t ∷ ts) n e = elim (tri t.id s.id) [
  | less h ↦ ap resetting_ids (put_later stream_key s t ts h) ∙ before t (put_stream s ts) ts (put_unknown s ts n (sym (find_there stream_key s.id t ts (λ g. omega arith)) ∙ e))
  | same g ↦ (let z : ◌≡◌ {A = ℕ} 0 1 = cc (find_here stream_key s.id t ts g) in absurd (omega arith))
  | more h ↦ ap resetting_ids (put_before stream_key s t ts h) ∙ not_first s (t ∷ ts) n
]

put_known : (s s₀ : Stream) (ss : List Stream) → Rising stream_key ss → is_resetting s ≡ is_resetting s₀ → find_stream s.id ss ≡ some s₀ → resetting_ids (put_stream s ss) ≡ resetting_ids ss
put_known s s₀ [] r n e = absurd (not_in_nil stream_key s.id s₀ e)
put_known s s₀ (t ∷ ts) r n e = elim (tri t.id s.id) [
  | less h ↦ ap resetting_ids (put_later stream_key s t ts h) ∙ before t (put_stream s ts) ts (put_known s s₀ ts r.1 n (sym (find_there stream_key s.id t ts (λ g. omega arith)) ∙ e))
  | same g ↦ (let z : t ≡ s₀ = cc (find_here stream_key s.id t ts g) in ap resetting_ids (put_here stream_key s t ts g) ∙ alike s t ts (sym g) (n ∙ ap is_resetting (sym z)))
  | more h ↦ (let z : ◌≡◌ {A = ℕ} 0 1 = cc (find_after stream_key s.id (t ∷ ts) (h, after_down stream_key ts h r.0)) in absurd (omega arith))
]

-- A stream that is resetting exactly if its id's stream is.
pub put_same : (o : Options) (s : Stream) (ss : List Stream) → Rising stream_key ss → is_resetting s ≡ is_resetting (at o ss s.id) → resetting_ids (put_stream s ss) ≡ resetting_ids ss
put_same o s ss r n = elim (look_up stream_key s.id ss) [
  | found s₀ e ↦ put_known s s₀ ss r (n ∙ ap is_resetting (at_found o ss s.id s₀ e)) e
  | missing e ↦ put_unknown s ss (n ∙ ap is_resetting (at_new o ss s.id e) ∙ new_not o s.id) e
]

-- ---- none is resetting

pub none_resetting : (ss : List Stream) → Every (λ s. is_resetting s ≡ false) ss → resetting_ids ss ≡ []
none_resetting [] a = none_here
none_resetting (s ∷ ss) a = not_first s ss a.0 ∙ none_resetting ss a.1

every_mapped : (f : Stream → Stream) (ss : List Stream) → ((s : Stream) → is_resetting (f s) ≡ false) → Every (λ s. is_resetting s ≡ false) (map f ss)
every_mapped f [] h = tt
every_mapped f (s ∷ ss) h = (h s, every_mapped f ss h)

opened_not : (z : Bool) (s : Stream) → is_resetting (opened z s) ≡ false
unfolding is_resetting opened
opened_not true s = refl
opened_not false s = refl

reopened_not : (z : Bool) (s : Stream) → is_resetting (reopened z s) ≡ false
unfolding reopened
reopened_not z s = go (is_resetting s) refl
  where
    go : (b : Bool) → is_resetting s ≡ b → is_resetting (if b then opened z s else s) ≡ false
    go true e = opened_not z s
    go false e = e

reset_not : (strict : Bool) (s : Stream) → is_resetting (reset_stream strict s) ≡ false
unfolding is_resetting reset_stream
reset_not strict s = refl

-- "commit [..] opens, and rollback opens", "Whole-queue reset opens all streams".
pub none_reopened : (z : Bool) (ss : List Stream) → resetting_ids (map (reopened z) ss) ≡ []
none_reopened z ss = none_resetting (map (reopened z) ss) (every_mapped (reopened z) ss (reopened_not z))

pub none_reset : (strict : Bool) (ss : List Stream) → resetting_ids (map (reset_stream strict) ss) ≡ []
none_reset strict ss = none_resetting (map (reset_stream strict) ss) (every_mapped (reset_stream strict) ss (reset_not strict))

-- ---- "and become resetting"

now_resetting : (s : Stream) → is_resetting (model_with_pause resetting s) ≡ true
unfolding is_resetting
now_resetting s = refl

marked_first : (s : Stream) (ss : List Stream) (is : List ℕ) → resetting_ids ss ≡ is → is_resetting s ≡ false → resetting_ids (paused_to_resetting s ∷ ss) ≡ (if is_paused s then s.id ∷ is else is)
unfolding paused_to_resetting
marked_first s ss is e n = go (is_paused s) refl
  where
    go : (b : Bool) → is_paused s ≡ b → resetting_ids ((if b then model_with_pause resetting s else s) ∷ ss) ≡ (if b then s.id ∷ is else is)
    go true p = is_first (model_with_pause resetting s) ss (now_resetting s) ∙ ap (λ (l : List ℕ). s.id ∷ l) e
    go false p = not_first s ss n ∙ e

-- Where none is resetting, exactly the paused ones become so.
pub marked_ids : (ss : List Stream) → resetting_ids ss ≡ [] → resetting_ids (map paused_to_resetting ss) ≡ paused_ids ss
unfolding paused_ids
marked_ids [] e = none_here
marked_ids (s ∷ ss) e = go (is_resetting s) refl (marked_ids ss)
  where
    go : (b : Bool) → is_resetting s ≡ b → (resetting_ids ss ≡ [] → resetting_ids (map paused_to_resetting ss) ≡ paused_ids ss) → resetting_ids (paused_to_resetting s ∷ map paused_to_resetting ss) ≡ (if is_paused s then s.id ∷ paused_ids ss else paused_ids ss)
    go true f ih = (let z : ◌≡◌ {A = ℕ} 0 1 = cc (is_first s ss f) in absurd (omega arith))
    go false f ih = marked_first s (map paused_to_resetting ss) (paused_ids ss) (ih (sym (not_first s ss f) ∙ e)) f
