-- The meaning makes none of the five slips [11.1 to 11.5]. Symbol 0 is a leaf a, symbol 1 a leaf b, symbol 2 has two subtrees; the letters are holes 0 and 1, below q and p.
use Rattle.std.specs.Prelude.{ℕ, ◌≡◌, ◌↔◌}
use Rattle.meaning.specs.Trees.{Tree, Forest, hole, node, []ᶠ, ◌∷ᶠ◌}
use Rattle.meaning.specs.Expressions.{Expr, emptyᴱ, holeᴱ, symbolᴱ, altᴱ, catᴱ, iterᴱ, []ᴱ, ◌∷ᴱ◌, Denotes}

-- the trees and expressions of these cases
abbrev pub leaf : ℕ → Tree
leaf f = node f []ᶠ

abbrev pub two : Tree → Tree → Tree
two s t = node 2 (s ∷ᶠ t ∷ᶠ []ᶠ)

abbrev pub leafᴱ : ℕ → Expr
leafᴱ f = symbolᴱ f []ᴱ

abbrev pub twoᴱ : Expr → Expr → Expr
twoᴱ a b = symbolᴱ 2 (a ∷ᴱ b ∷ᴱ []ᴱ)

-- the hole q occurs nowhere in the tree [11.2]
abbrev mutual
  pub Lacks : ℕ → Tree → Type 0
  Lacks q (hole p) = p ≡ q → ⊥
  Lacks q (node f ts) = LackEach q ts

  pub LackEach : ℕ → Forest → Type 0
  LackEach q []ᶠ = Unit {0}
  LackEach q (t ∷ᶠ ts) = Lacks q t × LackEach q ts

pub record NoSlip : Type 0 where
  -- each place has its own choice: f(q,q) over q with a or b has f(a,b) [11.1]
  pub each_hole_apart : Denotes (catᴱ 0 (twoᴱ (holeᴱ 0) (holeᴱ 0)) (altᴱ (leafᴱ 0) (leafᴱ 1))) (two (leaf 0) (leaf 1))
  -- what is closed with empty keeps just those of its trees that lack the letter [11.2]
  pub closed_with_empty : (q : ℕ) (e : Expr) (t : Tree) → Denotes (catᴱ q e emptyᴱ) t ↔ (Denotes e t × Lacks q t)
  -- a level has the one before it: the iteration of f(q,q), over q with a, has f(f(a,a),a) [11.3]
  pub earlier_levels_kept : Denotes (catᴱ 0 (iterᴱ 0 (twoᴱ (holeᴱ 0) (holeᴱ 0))) (leafᴱ 0)) (two (two (leaf 0) (leaf 0)) (leaf 0))
  -- a hole that came in from the right stays: f(q,a) over q with f(q,b) is f(f(q,b),a) alone [11.4]
  pub not_replaced_again : (t : Tree)
      → Denotes (catᴱ 0 (twoᴱ (holeᴱ 0) (leafᴱ 0)) (twoᴱ (holeᴱ 0) (leafᴱ 1))) t ↔ (t ≡ two (two (hole 0) (leaf 1)) (leaf 0))
  -- two letters are not regrouped: f(q,p) over q with p, and that over p with a, has f(a,a) [11.5]
  pub one_way : Denotes (catᴱ 1 (catᴱ 0 (twoᴱ (holeᴱ 0) (holeᴱ 1)) (holeᴱ 1)) (leafᴱ 0)) (two (leaf 0) (leaf 0))
  -- but f(q,p) over q with what p gives over p with a has it not [11.5]
  pub not_the_other : Denotes (catᴱ 0 (twoᴱ (holeᴱ 0) (holeᴱ 1)) (catᴱ 1 (holeᴱ 1) (leafᴱ 0))) (two (leaf 0) (leaf 0)) → ⊥
