-- What a table of streams holds of one stream, after a change to one stream or to all. Assumes nothing.
use mathlib.Core.Path.{◌≡◌, refl, sym, ap, ◌∙◌}
use mathlib.Core.Bool.{Bool, true, false}
use mathlib.Core.List.{List, [], ◌∷◌, map}
use mathlib.Core.Option.{Option, get_or}
use Prim.Native.Nat.{ℕ}
use native.Mathlib.Omega.{arith}
use lib.Dec.{eqb}
use Rattle.std.specs.Prelude.{if◌then◌else◌}
use Rattle.queue_model.specs.Table.{find}
use Rattle.queue_model.specs.Types.{Item, PauseState, Counters, Stream, Options, Queue}
use Rattle.queue_model.specs.Streams.{find_stream, put_stream, new_stream, stream_key, at}
use Rattle.queue_model.specs.Arrivals.{Ledger, on_stream, stream_view, view}
use Rattle.queue_model.proofs.Tests.{eqb_true, eqb_false, less, same, more, tri}
use Rattle.queue_model.proofs.Table.{find_here, find_there, find_put_same, find_put_other, own, other, is_own}
use Rattle.queue_model.proofs.Streams.{at_found, at_new}

-- ---- a change to one stream

pub on_own : (s k : ℕ) (f : Ledger → Ledger) (l : Ledger) → s ≡ k → on_stream s k f l ≡ f l
unfolding on_stream
on_own s k f l e = ap (λ (b : Bool). if b then f l else l) (eqb_true e)

pub on_other : (s k : ℕ) (f : Ledger → Ledger) (l : Ledger) → (s ≡ k → ⊥) → on_stream s k f l ≡ l
unfolding on_stream
on_other s k f l e = ap (λ (b : Bool). if b then f l else l) (eqb_false e)

on_none : (s k : ℕ) (l : Ledger) → on_stream s k (λ x. x) l ≡ l
unfolding on_stream
on_none s k l = go (eqb s k)
  where
    go : (b : Bool) → (if b then l else l) ≡ l
    go true = refl
    go false = refl

-- A ledger by its parts.
abbrev pub ledger_of : ℕ → PauseState → Counters → List Item → Ledger
ledger_of n p c is = record { next_id = n; state = p; counters = c; messages = is }

-- What a table of streams holds of stream k.
abbrev pub held : Options → ℕ → List Stream → ℕ → Ledger
held o n ss k = stream_view n (at o ss k)

-- Stream j is put with what a change makes of it.
pub put_view : (o : Options) (n : ℕ) (s : Stream) (ss : List Stream) (j k : ℕ) (f : Ledger → Ledger) → s.id ≡ j → stream_view n s ≡ f (held o n ss j) → held o n (put_stream s ss) k ≡ on_stream j k f (held o n ss k)
put_view o n s ss j k f i e = elim (tri j k) [
  | less l ↦ far (λ g. omega arith)
  | same g ↦ ap (stream_view n) (at_found o (put_stream s ss) k s (ap (λ (x : ℕ). find_stream x (put_stream s ss)) (sym (i ∙ g)) ∙ find_put_same stream_key s ss)) ∙ e ∙ ap (λ (x : ℕ). f (held o n ss x)) g ∙ sym (on_own j k f (held o n ss k) g)
  | more l ↦ far (λ g. omega arith)
]
  where
    far : (j ≡ k → ⊥) → held o n (put_stream s ss) k ≡ on_stream j k f (held o n ss k)
    far g = ap (λ (x : Option Stream). stream_view n (get_or x (new_stream o k))) (find_put_other stream_key k s ss (λ h. g (sym i ∙ h))) ∙ sym (on_other j k f (held o n ss k) g)

-- Stream j is put with what it held.
pub put_same : (o : Options) (n : ℕ) (s : Stream) (ss : List Stream) (j k : ℕ) → s.id ≡ j → stream_view n s ≡ held o n ss j → held o n (put_stream s ss) k ≡ held o n ss k
put_same o n s ss j k i e = put_view o n s ss j k (λ x. x) i e ∙ on_none j k (held o n ss k)

-- A change that leaves what stream j holds.
pub still : (k j : ℕ) (f : Ledger → Ledger) (q : Queue) → f (view j q) ≡ view j q → view k q ≡ on_stream j k f (view k q)
still k j f q e = elim (tri j k) [
  | less l ↦ sym (on_other j k f (view k q) (λ g. omega arith))
  | same g ↦ ap (λ (x : ℕ). view x q) (sym g) ∙ sym e ∙ ap (λ (x : ℕ). f (view x q)) g ∙ sym (on_own j k f (view k q) g)
  | more l ↦ sym (on_other j k f (view k q) (λ g. omega arith))
]

-- ---- a change to all streams

pub map_view : (g : Stream → Stream) (f : Ledger → Ledger) (o : Options) (n k : ℕ) (ss : List Stream) → ((s : Stream) → (g s).id ≡ s.id) → ((s : Stream) → stream_view n (g s) ≡ f (stream_view n s)) → stream_view n (new_stream o k) ≡ f (stream_view n (new_stream o k)) → held o n (map g ss) k ≡ f (held o n ss k)
map_view g f o n k [] i h z = let e = at_new o [] k (unfold find in refl) in ap (stream_view n) e ∙ z ∙ ap (λ (s : Stream). f (stream_view n s)) (sym e)
map_view g f o n k (s ∷ ss) i h z = elim (is_own stream_key s k) [
  | own e ↦ ap (stream_view n) (at_found o (g s ∷ map g ss) k (g s) (find_here stream_key k (g s) (map g ss) (i s ∙ e))) ∙ h s ∙ ap (λ (x : Stream). f (stream_view n x)) (sym (at_found o (s ∷ ss) k s (find_here stream_key k s ss e)))
  | other e ↦ ap (λ (x : Option Stream). stream_view n (get_or x (new_stream o k))) (find_there stream_key k (g s) (map g ss) (λ d. e (sym (i s) ∙ d))) ∙ map_view g f o n k ss i h z
      ∙ ap (λ (x : Option Stream). f (stream_view n (get_or x (new_stream o k)))) (sym (find_there stream_key k s ss e))
]
