-- Laws of one chain: frame, append, unlink, and what a reader computes. Assumes nothing.
use mathlib.Core.Path.{◌≡◌, refl, sym, subst}
use mathlib.Core.List.{List, [], ◌∷◌, ◌++◌, append-nil}
use Prim.Native.Nat.{ℕ, zero, suc, ◌+◌, ◌≤◌, ◌<◌}
use native.Mathlib.Omega.{arith}
use borrow.Author.Tests.{lt-ltb, le-ltb, eq-eqb, ne_eqb}
use lib.ListN.{length}
use Rattle.queue_state.specs.Chains.{chain, Linked, last_of, hit, count, sum_of, each}

pub hit_same : (x : ℕ) → hit x x ≡ 1
unfolding hit
hit_same x = rw (eq-eqb x x refl)

pub hit_other : (x y : ℕ) → (x ≡ y → ⊥) → hit x y ≡ 0
unfolding hit
hit_other x y ne = rw (ne_eqb x y ne)

pub hit_eq : (x y : ℕ) → x ≡ y → hit x y ≡ 1
hit_eq x y e = rw e (hit_same y)

pub count_head : (x : ℕ) (xs : List ℕ) → 1 ≤ count x (x ∷ xs)
count_head x xs = omega (arith, hit_same x)

pub count_snoc : (x f : ℕ) (ps : List ℕ) → count x (ps ++ (f ∷ [])) ≡ count x ps + hit x f
count_snoc x f [] = omega arith
count_snoc x f (y ∷ ys) = omega (arith, count_snoc x f ys)

pub length_snoc : (f : ℕ) (ps : List ℕ) → length (ps ++ (f ∷ [])) ≡ length ps + 1
length_snoc f [] = refl
length_snoc f (y ∷ ys) = omega (arith, length_snoc f ys)

pub last_snoc : (d f : ℕ) (ps : List ℕ) → last_of d (ps ++ (f ∷ [])) ≡ f
last_snoc d f [] = refl
last_snoc d f (y ∷ ys) = last_snoc y f ys

pub sum_snoc : (g : ℕ → ℕ) (f : ℕ) (ps : List ℕ) → sum_of g (ps ++ (f ∷ [])) ≡ sum_of g ps + g f
sum_snoc g f [] = omega arith
sum_snoc g f (y ∷ ys) = omega (arith, sum_snoc g f ys)

pub each_snoc : {A : Type 0} (g : ℕ → A) (f : ℕ) (ps : List ℕ) → each g (ps ++ (f ∷ [])) ≡ each g ps ++ (g f ∷ [])
each_snoc g f [] = refl
each_snoc g f (y ∷ ys) = rw (each_snoc g f ys)

pub last_in : (x : ℕ) (xs : List ℕ) → 1 ≤ count (last_of x xs) (x ∷ xs)
last_in x [] = count_head x []
last_in x (y ∷ ys) = omega (arith, last_in y ys)

-- FRAME: what is the same at every place of the list
pub linked_frame : (nx nx' : ℕ → ℕ) (p : ℕ) (ps : List ℕ) → ((x : ℕ) → 1 ≤ count x ps → nx' x ≡ nx x) → Linked nx p ps → Linked nx' p ps
linked_frame nx nx' p [] f l = l
linked_frame nx nx' p (x ∷ xs) f l =
    let e : nx' x ≡ nx x = f x (count_head x xs) in
    (l.0, l.1, rw e (linked_frame nx nx' (nx x) xs (λ y h. f y (omega arith)) l.2))

pub each_frame : {A : Type 0} (g g' : ℕ → A) (ps : List ℕ) → ((x : ℕ) → 1 ≤ count x ps → g' x ≡ g x) → each g' ps ≡ each g ps
each_frame g g' [] f = refl
each_frame g g' (x ∷ xs) f = rw (f x (count_head x xs), each_frame g g' xs (λ y h. f y (omega arith)))

pub sum_frame : (g g' : ℕ → ℕ) (ps : List ℕ) → ((x : ℕ) → 1 ≤ count x ps → g' x ≡ g x) → sum_of g' ps ≡ sum_of g ps
sum_frame g g' [] f = refl
sum_frame g g' (x ∷ xs) f = rw (f x (count_head x xs), sum_frame g g' xs (λ y h. f y (omega arith)))

-- REDIRECT: the last place of a first part (x ∷ xs) is turned to another rest qs. Append, join, cut and unlink are cases of it.
pub linked_redirect : (nx nx' : ℕ → ℕ) (p x : ℕ) (xs rest qs : List ℕ) → Linked nx p (x ∷ xs ++ rest) → ((y : ℕ) → count y (x ∷ xs) ≤ 1)
    → Linked nx' (nx' (last_of x xs)) qs → ((y : ℕ) → 1 ≤ count y (x ∷ xs) → (last_of x xs ≡ y → ⊥) → nx' y ≡ nx y) → Linked nx' p (x ∷ xs ++ qs)
linked_redirect nx nx' p x [] rest qs l once r same = (l.0, l.1, r)
linked_redirect nx nx' p x (y ∷ ys) rest qs l once r same =
    let far : last_of y ys ≡ x → ⊥ = λ z. let k : 1 ≤ count x (y ∷ ys) = subst (λ (w : ℕ). 1 ≤ count w (y ∷ ys)) z (last_in y ys) in omega (arith, once x, hit_same x) in
    let e : nx' x ≡ nx x = same x (count_head x (y ∷ ys)) far in
    (l.0, l.1, rw e (linked_redirect nx nx' (nx x) y ys rest qs l.2 (λ z. omega (arith, once z)) r (λ z h. same z (omega arith))))

-- APPEND: the last place of a chain that is not empty gets f for its next, and f the end
pub linked_append : (nx nx' : ℕ → ℕ) (f p x : ℕ) (xs : List ℕ) → Linked nx p (x ∷ xs) → ((y : ℕ) → count y (x ∷ xs) ≤ 1) → f < 1024
    → nx' f ≡ 1024 → nx' (last_of x xs) ≡ f → ((y : ℕ) → 1 ≤ count y (x ∷ xs) → (last_of x xs ≡ y → ⊥) → nx' y ≡ nx y)
    → Linked nx' p (x ∷ xs ++ (f ∷ []))
linked_append nx nx' f p x xs l once hf ef el same =
    let l' : Linked nx p (x ∷ xs ++ []) = subst (λ r. Linked nx p (x ∷ r)) (sym (append-nil xs)) l in
    linked_redirect nx nx' p x xs [] (f ∷ []) l' once (el, hf, ef) same

pub count_append : (x : ℕ) (ps qs : List ℕ) → count x (ps ++ qs) ≡ count x ps + count x qs
count_append x [] qs = omega arith
count_append x (y ∷ ys) qs = omega (arith, count_append x ys qs)

-- what a reader computes is the list that a proof works with
pub linked_chain : (nx : ℕ → ℕ) (p : ℕ) (ps : List ℕ) (n : ℕ) → Linked nx p ps → length ps < n → chain nx p n ≡ ps
unfolding chain
linked_chain nx p [] (suc n) l h = let b : 1024 ≤ p = omega arith in rw (le-ltb _ _ b)
linked_chain nx p (x ∷ xs) (suc n) l h =
    let b : p < 1024 = omega arith in
    rw (lt-ltb _ _ b, l.0, linked_chain nx (nx x) xs n l.2 (omega arith))
linked_chain nx p [] zero l h = absurd (omega arith)
linked_chain nx p (x ∷ xs) zero l h = absurd (omega arith)

-- a chain that starts at the end is empty, and one that starts in the table is not
pub linked_none : (nx : ℕ → ℕ) (p : ℕ) (ps : List ℕ) → Linked nx p ps → p ≡ 1024 → ps ≡ []
linked_none nx p [] l e = refl
linked_none nx p (x ∷ xs) l e = absurd (omega arith)

pub linked_some : (nx : ℕ → ℕ) (p : ℕ) (ps : List ℕ) → Linked nx p ps → (p ≡ 1024 → ⊥) → (xs : List ℕ) × (ps ≡ p ∷ xs) × (p < 1024) × Linked nx (nx p) xs
linked_some nx p [] l ne = absurd (ne l)
linked_some nx p (x ∷ xs) l ne = (xs, rw l.0, omega arith, rw l.0 l.2)

pub linked_le : (nx : ℕ → ℕ) (p : ℕ) (ps : List ℕ) → Linked nx p ps → p ≤ 1024
linked_le nx p [] l = omega arith
linked_le nx p (x ∷ xs) l = omega arith

-- the last place is the end only where the chain is empty
pub last_lt : (nx : ℕ → ℕ) (p x : ℕ) (xs : List ℕ) → Linked nx p (x ∷ xs) → last_of x xs < 1024
last_lt nx p x [] l = l.1
last_lt nx p x (y ∷ ys) l = last_lt nx (nx x) y ys l.2

-- the last place is one of the chain's, if it is not the end
pub last_member : (ps : List ℕ) → (last_of 1024 ps ≡ 1024 → ⊥) → 1 ≤ count (last_of 1024 ps) ps
last_member [] ne = absurd (ne refl)
last_member (x ∷ xs) ne = last_in x xs

-- a place of the list is not one that does not stand in it
pub absent : (a x : ℕ) (ps : List ℕ) → 1 ≤ count a ps → count x ps ≡ 0 → a ≡ x → ⊥
absent a x ps h z e = let k : 1 ≤ count x ps = rw e at h in omega arith
