-- The known streams: the stream of an id, sums over messages and streams, and the size of an id's first message. Assumes nothing.
use mathlib.Core.Path.{◌≡◌, refl, sym, ap, ◌∙◌, subst}
use mathlib.Core.List.{List, [], ◌∷◌, ◌++◌, map}
use mathlib.Core.Option.{Option, none, some, get_or}
use Prim.Native.Nat.{ℕ, suc, ◌+◌, ◌≤◌}
use native.Mathlib.Omega.{arith}
use lib.ListN.{length}
use Rattle.queue_model.specs.Table.{sum_by}
use Rattle.queue_model.specs.Types.{Item, Stream, Options, remaining}
use Rattle.queue_model.specs.Streams.{stream_key, find_stream, put_stream, new_stream, at, payload_bytes, head_size}
unfoldable pub use Rattle.queue_model.specs.Streams.{unsent_bytes, model_size_of, size_at}
use Rattle.queue_model.proofs.Table.{find_here, find_there, find_key, find_put_same, find_put_other, found, missing, look_up, own, other, is_own, Rising, Every, every_find, sum_put_new, sum_put_old}

-- ---- the stream of an id

pub at_found : (o : Options) (ss : List Stream) (k : ℕ) (s : Stream) → find_stream k ss ≡ some s → at o ss k ≡ s
at_found o ss k s e = ap (λ (x : Option Stream). get_or x (new_stream o k)) e

pub at_new : (o : Options) (ss : List Stream) (k : ℕ) → find_stream k ss ≡ none → at o ss k ≡ new_stream o k
at_new o ss k e = ap (λ (x : Option Stream). get_or x (new_stream o k)) e

pub at_id : (o : Options) (ss : List Stream) (k : ℕ) → (at o ss k).id ≡ k
at_id o ss k = elim (look_up stream_key k ss) [
  | found s e ↦ ap (λ (x : Stream). x.id) (at_found o ss k s e) ∙ find_key stream_key k ss s e
  | missing e ↦ ap (λ (x : Stream). x.id) (at_new o ss k e)
]

-- What holds of every stream and of new ones holds of the stream of an id.
pub every_at : (P : Stream → Type 0) (o : Options) (k : ℕ) (ss : List Stream) → Every P ss → P (new_stream o k) → P (at o ss k)
every_at P o k ss a n = elim (look_up stream_key k ss) [
  | missing e ↦ subst P (sym (at_new o ss k e)) n
  | found s e ↦ subst P (sym (at_found o ss k s e)) (every_find stream_key P k s ss a e)
]

-- Putting a stream replaces its id's measure in a sum.
pub sum_put_at : (f : Stream → ℕ) (o : Options) (s : Stream) (ss : List Stream) → Rising stream_key ss → f (new_stream o s.id) ≡ 0
    → sum_by f (put_stream s ss) + f (at o ss s.id) ≡ sum_by f ss + f s
sum_put_at f o s ss r z = elim (look_up stream_key s.id ss) [
  | missing e ↦ (let a = sum_put_new stream_key f s ss e in let b : f (at o ss s.id) ≡ f (new_stream o s.id) = ap f (at_new o ss s.id e) in omega arith)
  | found s₀ e ↦ (let a = sum_put_old stream_key f s s₀ ss r e in let b : f (at o ss s.id) ≡ f s₀ = ap f (at_found o ss s.id s₀ e) in omega arith)
]

-- ---- sums over messages

pub unsent_le : (is : List Item) → unsent_bytes is ≤ payload_bytes is
unsent_le [] = omega arith
unsent_le (i ∷ is) = let ih = unsent_le is in omega arith

pub sum_snoc : (f : Item → ℕ) (is : List Item) (i : Item) → sum_by f (is ++ (i ∷ [])) ≡ sum_by f is + f i
sum_snoc f [] i = omega arith
sum_snoc f (j ∷ is) i = let ih = sum_snoc f is i in omega arith

pub unsent_snoc : (is : List Item) (i : Item) → unsent_bytes (is ++ (i ∷ [])) ≡ unsent_bytes is + remaining i
unsent_snoc is i = sum_snoc (λ (j : Item). remaining j) is i

pub payload_snoc : (is : List Item) (i : Item) → payload_bytes (is ++ (i ∷ [])) ≡ payload_bytes is + length i.payload
payload_snoc is i = sum_snoc (λ (j : Item). length j.payload) is i

pub length_snoc : (is : List Item) (i : Item) → length (is ++ (i ∷ [])) ≡ suc (length is)
length_snoc [] i = refl
length_snoc (j ∷ is) i = ap suc (length_snoc is i)

-- ---- the size of an id's first message, 0 where there is none

pub size_found : (k : ℕ) (s : Stream) (ss : List Stream) → find_stream k ss ≡ some s → size_at k ss ≡ head_size s.items
unfolding size_at
size_found k s ss e = ap model_size_of e

pub size_unknown : (k : ℕ) (ss : List Stream) → find_stream k ss ≡ none → size_at k ss ≡ 0
unfolding size_at
size_unknown k ss e = ap model_size_of e

pub size_here : (k : ℕ) (s : Stream) (ss : List Stream) → s.id ≡ k → size_at k (s ∷ ss) ≡ head_size s.items
size_here k s ss e = size_found k s (s ∷ ss) (find_here stream_key k s ss e)

pub size_there : (k : ℕ) (s : Stream) (ss : List Stream) → (s.id ≡ k → ⊥) → size_at k (s ∷ ss) ≡ size_at k ss
unfolding size_at
size_there k s ss n = ap model_size_of (find_there stream_key k s ss n)

pub head_size_nil : head_size [] ≡ 0
unfolding head_size
head_size_nil = refl

pub head_size_cons : (i : Item) (is : List Item) → head_size (i ∷ is) ≡ remaining i
unfolding head_size
head_size_cons i is = refl

pub size_at_at : (o : Options) (k : ℕ) (ss : List Stream) → size_at k ss ≡ head_size (at o ss k).items
size_at_at o k ss = elim (look_up stream_key k ss) [
  | missing e ↦ size_unknown k ss e ∙ sym head_size_nil ∙ ap (λ (s : Stream). head_size s.items) (sym (at_new o ss k e))
  | found s e ↦ size_found k s ss e ∙ ap (λ (s : Stream). head_size s.items) (sym (at_found o ss k s e))
]

pub size_put_same : (s : Stream) (ss : List Stream) → size_at s.id (put_stream s ss) ≡ head_size s.items
size_put_same s ss = size_found s.id s (put_stream s ss) (find_put_same stream_key s ss)

pub size_put_other : (k : ℕ) (s : Stream) (ss : List Stream) → (s.id ≡ k → ⊥) → size_at k (put_stream s ss) ≡ size_at k ss
unfolding size_at
size_put_other k s ss n = ap model_size_of (find_put_other stream_key k s ss n)

-- A map that keeps ids.
pub size_map : (f : Stream → Stream) (k : ℕ) (ss : List Stream) → ((s : Stream) → (f s).id ≡ s.id) → ((s : Stream) → head_size (f s).items ≡ head_size s.items) → size_at k (map f ss) ≡ size_at k ss
unfolding size_at
size_map f k [] i h = refl
size_map f k (s ∷ ss) i h = elim (is_own stream_key s k) [
  | own g ↦ ap model_size_of (find_here stream_key k (f s) (map f ss) (i s ∙ g)) ∙ h s ∙ ap model_size_of (sym (find_here stream_key k s ss g))
  | other n ↦ ap model_size_of (find_there stream_key k (f s) (map f ss) (λ g. n (sym (i s) ∙ g))) ∙ size_map f k ss i h ∙ ap model_size_of (sym (find_there stream_key k s ss n))
]
