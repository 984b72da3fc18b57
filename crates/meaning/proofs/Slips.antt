-- The slips of [11.1] to [11.5]: each as a law that the meaning here does not make it.
use Prim.Native.Nat.{ℕ}
use native.Mathlib.Omega.{arith}
use mathlib.Core.Path.{◌≡◌, refl}
use mathlib.Core.Logic.{inl, inr, ◌↔◌}
use Rattle.meaning.specs.Trees.{Tree, hole, node, []ᶠ, ◌∷ᶠ◌}
use Rattle.meaning.specs.Fillings.{Language, Family, Filled, at, under, none, both, Only, here, stays}
use Rattle.meaning.specs.Expressions.{Expr, emptyᴱ, holeᴱ, symbolᴱ, altᴱ, catᴱ, iterᴱ, []ᴱ, ◌∷ᴱ◌, Concatenated, Denotes}
use Rattle.meaning.proofs.Fillings.{Within, within-any, filled_within, filled-stays, filled-hole, only_here, only-other}
use Rattle.meaning.proofs.Meaning.{concatenated-without}

-- The symbols of the claims: leaves a and b, and f over two; the letters are holes 0 and 1.
abbrev pub leaf : ℕ → Tree
leaf f = node f []ᶠ

abbrev pub pair : Tree → Tree → Tree
pair s t = node 2 (s ∷ᶠ t ∷ᶠ []ᶠ)

abbrev pub leafᴱ : ℕ → Expr
leafᴱ f = symbolᴱ f []ᴱ

abbrev pub pairᴱ : Expr → Expr → Expr
pairᴱ a b = symbolᴱ 2 (a ∷ᴱ b ∷ᴱ []ᴱ)

denotes-leaf : (f : ℕ) → Denotes (leafᴱ f) (leaf f)
denotes-leaf f = ([]ᶠ, refl, refl)

denotes-pair : (a b : Expr) (s t : Tree) → Denotes a s → Denotes b t → Denotes (pairᴱ a b) (pair s t)
denotes-pair a b s t x y = (s ∷ᶠ t ∷ᶠ []ᶠ, refl, (s, t ∷ᶠ []ᶠ, refl, x, (t, []ᶠ, refl, y, refl)))

-- and no other tree
of-leaf : (f : ℕ) (t : Tree) → Denotes (leafᴱ f) t → t ≡ leaf f
of-leaf f t x = let e = x.1 in let e' = x.2 in cc

of_pair : (a b : Expr) (t : Tree) → Denotes (pairᴱ a b) t → (u v : Tree) × (t ≡ pair u v) × Denotes a u × Denotes b v
of_pair a b t x =
    let e = x.1 in
    let y = x.2 in
    let e₁ = y.2 in
    let z = y.4 in
    let e₂ = z.2 in
    let e₃ = z.4 in
    (y.0, z.0, (cc), y.3, z.3)

-- the filling of a pair
pair-filled : {σ : Family} {s s' t : Tree} → Filled σ (pair s s') t → (u v : Tree) × (t ≡ pair u v) × Filled σ s u × Filled σ s' v
pair-filled (under (both {t = u} x (both {t = v} y none))) = (u, v, refl, x, y)

leaf-filled : {σ : Family} {f : ℕ} {t : Tree} → Filled σ (leaf f) t → t ≡ leaf f
leaf-filled (under none) = refl

-- ---- earlier levels stay [11.3]: the tree f(f(a,a),a) is not lost

pub earlier_levels_kept : Denotes (catᴱ 0 (iterᴱ 0 (pairᴱ (holeᴱ 0) (holeᴱ 0))) (leafᴱ 0)) (pair (pair (leaf 0) (leaf 0)) (leaf 0))
earlier_levels_kept = (
  pair (pair (hole 0) (hole 0)) (hole 0),
  (2, inr (pair (hole 0) (hole 0), two, under (both (at (here (inr (pair (hole 0) (hole 0), two, under (both (at (here refl)) (both (at (here refl)) none)))))) (both (at (here (inl refl))) none)))),
  under (both (under (both a (both a none))) (both a none)),
)
  where
    two : Denotes (pairᴱ (holeᴱ 0) (holeᴱ 0)) (pair (hole 0) (hole 0))
    two = denotes-pair (holeᴱ 0) (holeᴱ 0) (hole 0) (hole 0) refl refl

    a : Filled (Only 0 (Denotes (leafᴱ 0))) (hole 0) (leaf 0)
    a = at (here (denotes-leaf 0))

-- ---- each hole apart [11.1]: g(a,b) is in g(q,q) closed with a+b

pub each_hole_apart : Denotes (catᴱ 0 (pairᴱ (holeᴱ 0) (holeᴱ 0)) (altᴱ (leafᴱ 0) (leafᴱ 1))) (pair (leaf 0) (leaf 1))
each_hole_apart = (
  pair (hole 0) (hole 0),
  denotes-pair (holeᴱ 0) (holeᴱ 0) (hole 0) (hole 0) refl refl,
  under (both (at (here (inl (denotes-leaf 0)))) (both (at (here (inr (denotes-leaf 1)))) none)),
)

-- ---- closed with empty [11.2]: it has just the trees of E without the hole

pub closed_with_empty : (q : ℕ) (e : Expr) (t : Tree) → Denotes (catᴱ q e emptyᴱ) t ↔ (Denotes e t × Within (λ p. p ≡ q → ⊥) t)
closed_with_empty q e t = (
  λ x. (rw (filled-stays {S = λ p. Unit {0}} (λ p u _ y. kept p u y) x.2 (within-any (λ p. tt) x.0)) x.1, filled_within {S = λ p. Unit {0}} (λ p u _ y. other p u y) x.2 (within-any (λ p. tt) x.0)),
  λ x. concatenated-without q (Denotes e) (Denotes emptyᴱ) t x.1 x.0,
)
  where
    kept : (p : ℕ) (u : Tree) → Only q (Denotes emptyᴱ) p u → u ≡ hole p
    kept p u (here y) = absurd y
    kept p u (stays n) = refl

    other : (p : ℕ) (u : Tree) → Only q (Denotes emptyᴱ) p u → Within (λ p. p ≡ q → ⊥) u
    other p u (here y) = absurd y
    other p u (stays n) = n

-- ---- not filled again [11.4]: f(q,a) closed with f(q,b) is f(f(q,b),a) alone

pub not_replaced_again : (t : Tree)
    → Denotes (catᴱ 0 (pairᴱ (holeᴱ 0) (leafᴱ 0)) (pairᴱ (holeᴱ 0) (leafᴱ 1))) t ↔ (t ≡ pair (pair (hole 0) (leaf 1)) (leaf 0))
not_replaced_again t = (forth, λ e. rw e back)
  where
    F : Language
    F = Denotes (pairᴱ (holeᴱ 0) (leafᴱ 1))

    of-F : (u : Tree) → F u → u ≡ pair (hole 0) (leaf 1)
    of-F u x = let c = of_pair (holeᴱ 0) (leafᴱ 1) u x in let e = c.2 in let e₁ = c.3 in let e₂ = of-leaf 1 c.1 c.4 in cc

    forth : Concatenated 0 (Denotes (pairᴱ (holeᴱ 0) (leafᴱ 0))) F t → t ≡ pair (pair (hole 0) (leaf 1)) (leaf 0)
    forth x =
        let c = of_pair (holeᴱ 0) (leafᴱ 0) x.0 x.1 in
        let e = c.2 in
        let e₁ = c.3 in
        let e₂ = of-leaf 0 c.1 c.4 in
        let e₃ : x.0 ≡ pair (hole 0) (leaf 0) = cc in
        let d = pair-filled (rw e₃ at x.2) in
        let e₄ = d.2 in
        let e₅ = of-F d.0 (only_here 0 d.0 refl (filled-hole (Only 0 F) 0 (hole 0) d.0 refl d.3)) in
        let e₆ = leaf-filled d.4 in
        cc

    back : Concatenated 0 (Denotes (pairᴱ (holeᴱ 0) (leafᴱ 0))) F (pair (pair (hole 0) (leaf 1)) (leaf 0))
    back = (
      pair (hole 0) (leaf 0),
      denotes-pair (holeᴱ 0) (leafᴱ 0) (hole 0) (leaf 0) refl (denotes-leaf 0),
      under (both (at (here (denotes-pair (holeᴱ 0) (leafᴱ 1) (hole 0) (leaf 1) refl (denotes-leaf 1)))) (both (under none) none)),
    )

-- ---- no regrouping over two letters [11.5]: (f(q,p) over q with p) over p with c has f(c,c); f(q,p) over q with (p over p with c) has not

1-not-0 : ◌≡◌ {A = ℕ} 1 0 → ⊥
1-not-0 e = omega arith

pub letters-apart : Denotes (catᴱ 1 (catᴱ 0 (pairᴱ (holeᴱ 0) (holeᴱ 1)) (holeᴱ 1)) (leafᴱ 0)) (pair (leaf 0) (leaf 0))
letters-apart = (
  pair (hole 1) (hole 1),
  (pair (hole 0) (hole 1), denotes-pair (holeᴱ 0) (holeᴱ 1) (hole 0) (hole 1) refl refl, under (both (at (here refl)) (both (at (stays 1-not-0)) none))),
  under (both (at (here (denotes-leaf 0))) (both (at (here (denotes-leaf 0))) none)),
)

pub not-associative : Denotes (catᴱ 0 (pairᴱ (holeᴱ 0) (holeᴱ 1)) (catᴱ 1 (holeᴱ 1) (leafᴱ 0))) (pair (leaf 0) (leaf 0)) → ⊥
not-associative x =
    let c = of_pair (holeᴱ 0) (holeᴱ 1) x.0 x.1 in
    let e = c.2 in
    let e₁ = c.3 in
    let e₂ = c.4 in
    let e₃ : x.0 ≡ pair (hole 0) (hole 1) = cc in
    let d = pair-filled (rw e₃ at x.2) in
    let e₄ = d.2 in
    let e₅ = only-other 1 d.1 1-not-0 (filled-hole (Only 0 (Denotes (catᴱ 1 (holeᴱ 1) (leafᴱ 0)))) 1 (hole 1) d.1 refl d.4) in
    let z : ◌≡◌ {A = ℕ} 0 1 = cc in
    omega arith
