-- The rules for making an expression keep what it denotes, and open no further state.
use Prim.Native.Nat.{ℕ}
use mathlib.Core.Path.{◌≡◌, refl}
use mathlib.Core.Bool.{Bool, true, false, cond, not, ◌&&◌, ◌||◌}
use mathlib.Core.List.Memᴰ
use mathlib.Core.List.{List, [], ◌∷◌, Memᴰ}
use mathlib.Core.Logic.{◌⊎◌, inl, inr, ◌↔◌}
use lib.Dec.{T, eqb, eqb→eq, T_not}
use Rattle.meaning.specs.Trees.{Tree}
use Rattle.meaning.specs.Expressions.{Expr, emptyᴱ, holeᴱ, symbolᴱ, altᴱ, catᴱ, iterᴱ, Concatenated, Iterated, Denotes, is_open}
use Rattle.ground.proofs.Tests.{of-true, not_of_false, or_cases, and_cases, eq_test}
use Rattle.meaning.proofs.Meaning.{concatenated-hole, level-nothing}
use Rattle.theory.proofs.Expressions.OnExpressions.{is_empty, is_hole, make_alt, make_cat, make_iter, joined_from, joined}

empty-is : (a : Expr) → T (is_empty a) → a ≡ emptyᴱ
unfolding is_empty
empty-is emptyᴱ h = refl
empty-is (holeᴱ q) h = absurd h
empty-is (symbolᴱ f es) h = absurd h
empty-is (altᴱ a b) h = absurd h
empty-is (catᴱ q a b) h = absurd h
empty-is (iterᴱ q a) h = absurd h

hole_is : (q : ℕ) (a : Expr) → T (is_hole q a) → a ≡ holeᴱ q
unfolding is_hole
hole_is q emptyᴱ h = absurd h
hole_is q (holeᴱ p) h = rw (eqb→eq q p h)
hole_is q (symbolᴱ f es) h = absurd h
hole_is q (altᴱ a b) h = absurd h
hole_is q (catᴱ p a b) h = absurd h
hole_is q (iterᴱ p a) h = absurd h

none-of-empty : (a : Expr) (t : Tree) → is_empty a ≡ true → Denotes a t → ⊥
none-of-empty a t e x = rw (empty-is a (of-true e)) at x

-- ---- what is denoted

pub denotes-alt : (a b : Expr) (t : Tree) → Denotes (make_alt a b) t ↔ (Denotes a t ⊎ Denotes b t)
unfolding make_alt
denotes-alt a b t = (of (is_empty a) (is_empty b), to (is_empty a) refl (is_empty b) refl)
  where
    of : (c d : Bool) → Denotes (cond c b (cond d a (altᴱ a b))) t → Denotes a t ⊎ Denotes b t
    of true d y = inr y
    of false true y = inl y
    of false false y = y

    to : (c : Bool) → is_empty a ≡ c → (d : Bool) → is_empty b ≡ d → Denotes a t ⊎ Denotes b t → Denotes (cond c b (cond d a (altᴱ a b))) t
    to true e d e' (inl y) = absurd (none-of-empty a t e y)
    to true e d e' (inr y) = y
    to false e true e' (inl y) = y
    to false e true e' (inr y) = absurd (none-of-empty b t e' y)
    to false e false e' y = y

pub denotes-cat : (q : ℕ) (a b : Expr) (t : Tree) → Denotes (make_cat q a b) t ↔ Concatenated q (Denotes a) (Denotes b) t
unfolding make_cat
denotes-cat q a b t = (of (is_hole q a) refl, to (is_hole q a) refl)
  where
    of : (c : Bool) → is_hole q a ≡ c → Denotes (cond c b (catᴱ q a b)) t → Concatenated q (Denotes a) (Denotes b) t
    of true e y = rw (hole_is q a (of-true e)) ((concatenated-hole q (Denotes b) t).1 y)
    of false e y = y

    to : (c : Bool) → is_hole q a ≡ c → Concatenated q (Denotes a) (Denotes b) t → Denotes (cond c b (catᴱ q a b)) t
    to true e y = (concatenated-hole q (Denotes b) t).0 (rw (hole_is q a (of-true e)) at y)
    to false e y = y

pub denotes-iter : (q : ℕ) (a : Expr) (t : Tree) → Denotes (make_iter q a) t ↔ Iterated q (Denotes a) t
unfolding make_iter
denotes-iter q a t = (of (is_empty a), to (is_empty a) refl)
  where
    of : (c : Bool) → Denotes (cond c (holeᴱ q) (iterᴱ q a)) t → Iterated q (Denotes a) t
    of true y = (0, y)
    of false y = y

    to : (c : Bool) → is_empty a ≡ c → Iterated q (Denotes a) t → Denotes (cond c (holeᴱ q) (iterᴱ q a)) t
    to true e y = level-nothing q (Denotes a) (λ u z. none-of-empty a u e z) y.0 t y.1
    to false e y = y

-- a joining denotes what one of its parts denotes
abbrev pub Some : List Expr → (Expr → Type 0) → Type 0
Some es P = (e : Expr) × Memᴰ e es × P e

some_more : (e : Expr) (es : List Expr) (P : Expr → Type 0) → Some es P → Some (e ∷ es) P
some_more e es P x = (x.0, Memᴰ.tail x.1, x.2)

some-cases : (e : Expr) (es : List Expr) (P : Expr → Type 0) → Some (e ∷ es) P → P e ⊎ Some es P
some-cases e es P x = go (Memᴰ.cases_cons x.1)
  where
    go : (x.0 ≡ e) ⊎ Memᴰ x.0 es → P e ⊎ Some es P
    go (inl i) = inl (rw i at x.2)
    go (inr m) = inr (x.0, m, x.2)

of-joined_from : (a : Expr) (es : List Expr) (t : Tree) → Denotes (joined_from a es) t → Denotes a t ⊎ Some es (λ e. Denotes e t)
unfolding joined_from
of-joined_from a [] t x = inl x
of-joined_from a (e ∷ es) t x = go (of-joined_from (make_alt a e) es t x)
  where
    two : Denotes a t ⊎ Denotes e t → Denotes a t ⊎ Some (e ∷ es) (λ e. Denotes e t)
    two (inl y) = inl y
    two (inr y) = inr (e, Memᴰ.head refl, y)

    go : Denotes (make_alt a e) t ⊎ Some es (λ e. Denotes e t) → Denotes a t ⊎ Some (e ∷ es) (λ e. Denotes e t)
    go (inl y) = two ((denotes-alt a e t).0 y)
    go (inr y) = inr (some_more e es (λ e. Denotes e t) y)

to-joined_from : (a : Expr) (es : List Expr) (t : Tree) → Denotes a t ⊎ Some es (λ e. Denotes e t) → Denotes (joined_from a es) t
unfolding joined_from
to-joined_from a [] t (inl x) = x
to-joined_from a [] t (inr x) = absurd (Memᴰ.not-nil x.1)
to-joined_from a (e ∷ es) t (inl x) = to-joined_from (make_alt a e) es t (inl ((denotes-alt a e t).1 (inl x)))
to-joined_from a (e ∷ es) t (inr x) = to-joined_from (make_alt a e) es t (go (some-cases e es (λ e. Denotes e t) x))
  where
    go : Denotes e t ⊎ Some es (λ e. Denotes e t) → Denotes (make_alt a e) t ⊎ Some es (λ e. Denotes e t)
    go (inl y) = inl ((denotes-alt a e t).1 (inr y))
    go (inr y) = inr y

pub denotes-joined : (es : List Expr) (t : Tree) → Denotes (joined es) t ↔ Some es (λ e. Denotes e t)
unfolding joined
denotes-joined es t = (λ x. go (of-joined_from emptyᴱ es t x), λ x. to-joined_from emptyᴱ es t (inr x))
  where
    go : ⊥ ⊎ Some es (λ e. Denotes e t) → Some es (λ e. Denotes e t)
    go (inl y) = absurd y
    go (inr y) = y

-- ---- what is open

pub open-alt : (a b : Expr) (p : ℕ) → T (is_open (make_alt a b) p) → T (is_open a p) ⊎ T (is_open b p)
unfolding make_alt
open-alt a b p w = go (is_empty a) (is_empty b) w
  where
    go : (c d : Bool) → T (is_open (cond c b (cond d a (altᴱ a b))) p) → T (is_open a p) ⊎ T (is_open b p)
    go true d w = inr w
    go false true w = inl w
    go false false w = or_cases (is_open a p) (is_open b p) w

pub open-iter : (q : ℕ) (a : Expr) (p : ℕ) → T (is_open (make_iter q a) p) → T (is_open a p) ⊎ (p ≡ q)
unfolding make_iter
open-iter q a p w = go (is_empty a) w
  where
    or : T (is_open a p) ⊎ T (eqb p q) → T (is_open a p) ⊎ (p ≡ q)
    or (inl w) = inl w
    or (inr w) = inr (eqb→eq p q w)

    go : (c : Bool) → T (is_open (cond c (holeᴱ q) (iterᴱ q a)) p) → T (is_open a p) ⊎ (p ≡ q)
    go true w = inr (eqb→eq p q w)
    go false w = or (or_cases (is_open a p) (eqb p q) w)

pub open-cat : (q : ℕ) (a b : Expr) (p : ℕ) → T (is_open (make_cat q a b) p) → (T (is_open a p) × (p ≡ q → ⊥)) ⊎ T (is_open b p)
unfolding make_cat
open-cat q a b p w = go (is_hole q a) w
  where
    Found : Type 0
    Found = (T (is_open a p) × (p ≡ q → ⊥)) ⊎ T (is_open b p)

    or : T (is_open a p && not (eqb p q)) ⊎ T (is_open b p) → Found
    or (inl w) = let c = and_cases (is_open a p) (not (eqb p q)) w in inl (c.0, λ e. T_not (eqb p q) c.1 (eq_test p q e))
    or (inr w) = inr w

    in-cat : (c : Bool) → is_open a q ≡ c → T (cond c ((is_open a p && not (eqb p q)) || is_open b p) (is_open a p)) → Found
    in-cat true e w = or (or_cases (is_open a p && not (eqb p q)) (is_open b p) w)
    in-cat false e w = inl (w, λ i. not_of_false e (rw i at w))

    go : (c : Bool) → T (is_open (cond c b (catᴱ q a b)) p) → Found
    go true w = inr w
    go false w = in-cat (is_open a q) refl w

open-joined_from : (a : Expr) (es : List Expr) (p : ℕ) → T (is_open (joined_from a es) p) → T (is_open a p) ⊎ Some es (λ e. T (is_open e p))
unfolding joined_from
open-joined_from a [] p w = inl w
open-joined_from a (e ∷ es) p w = go (open-joined_from (make_alt a e) es p w)
  where
    Found : Type 0
    Found = T (is_open a p) ⊎ Some (e ∷ es) (λ e. T (is_open e p))

    two : T (is_open a p) ⊎ T (is_open e p) → Found
    two (inl y) = inl y
    two (inr y) = inr (e, Memᴰ.head refl, y)

    go : T (is_open (make_alt a e) p) ⊎ Some es (λ e. T (is_open e p)) → Found
    go (inl y) = two (open-alt a e p y)
    go (inr y) = inr (some_more e es (λ e. T (is_open e p)) y)

pub open-joined : (es : List Expr) (p : ℕ) → T (is_open (joined es) p) → Some es (λ e. T (is_open e p))
unfolding joined
open-joined es p w = go (open-joined_from emptyᴱ es p w)
  where
    go : ⊥ ⊎ Some es (λ e. T (is_open e p)) → Some es (λ e. T (is_open e p))
    go (inl y) = absurd y
    go (inr y) = y
