-- Arden's lemma for trees (proposition 6 of the Arden paper): A iterated over q and closed with B is the smallest language Z with Z = A concatenated over q with Z, together with B. It is here that the levels of an iteration must keep the earlier ones.
use Prim.Native.Nat.{ℕ, zero, suc, ◌≤◌}
use mathlib.Core.Logic.{◌⊎◌, inl, inr}
use Rattle.meaning.specs.Trees.{Tree}
use Rattle.meaning.specs.Fillings.{Language, Only, here, stays}
use Rattle.meaning.specs.Expressions.{Concatenated, Level, Iterated}
use Rattle.meaning.proofs.Fillings.{filled_more, filled-level, only-more}
use Rattle.meaning.proofs.Meaning.{concatenated-more, concatenated-hole, associative, level-up}

module _ (q : ℕ) (A B : Language) where
  -- a level closed with B
  ClosedAt : ℕ → Language
  ClosedAt m = Concatenated q (Level q A m) B

  closed-up : (m n : ℕ) (t : Tree) → m ≤ n → ClosedAt m t → ClosedAt n t
  unfolding ClosedAt
  closed-up m n t h x = concatenated-more q (Level q A m) (Level q A n) B B (λ u y. level-up q A m n u h y) (λ u y. y) t x

  -- a further level
  next_level : (m : ℕ) (t : Tree) → Concatenated q A (ClosedAt m) t → ClosedAt (suc m) t
  unfolding ClosedAt
  next_level m t x = let c = (associative q A (Level q A m) B t).1 x in (c.0, inr c.1, c.2)

  -- ---- it is a solution

  pub arden-base : (t : Tree) → B t → Concatenated q (Iterated q A) B t
  arden-base t x = let c = (concatenated-hole q B t).1 x in (c.0, (0, c.1), c.2)

  -- what stands for each hole has a level; one serves for all of them
  pub arden-again : (t : Tree) → Concatenated q A (Concatenated q (Iterated q A) B) t → Concatenated q (Iterated q A) B t
  unfolding ClosedAt
  arden-again t x =
      let l = filled-level (λ m. Only q (ClosedAt m)) (λ m n p u h y. only-more (λ v z. closed-up m n v h z) p u y) (filled_more some_level x.2) in
      let c = next_level l.0 t (x.0, x.1, l.1) in
      (c.0, (suc l.0, c.1), c.2)
    where
      some_level : (p : ℕ) (u : Tree) → Only q (Concatenated q (Iterated q A) B) p u → (m : ℕ) × Only q (ClosedAt m) p u
      some_level p u (here y) = (y.1.0, here (y.0, y.1.1, y.2))
      some_level p u (stays n) = (0, stays n)

  -- ---- every tree of a level is of each language that is closed so

  module _ (C : Language) (base : (t : Tree) → B t → C t) (again : (t : Tree) → Concatenated q A C t → C t) where
    level_in : (m : ℕ) (t : Tree) → ClosedAt m t → C t
    unfolding ClosedAt
    level_in zero t x = base t ((concatenated-hole q B t).0 x)
    level_in (suc m) t x = go x.1 (level_in m)
      where
        go : Level q A m x.0 ⊎ Concatenated q A (Level q A m) x.0 → ((t : Tree) → ClosedAt m t → C t) → C t
        go (inl y) k = k t (x.0, y, x.2)
        go (inr y) k = again t (concatenated-more q A A (ClosedAt m) C (λ u z. z) k t ((associative q A (Level q A m) B t).0 (x.0, y, x.2)))

    pub arden-smallest : (t : Tree) → Concatenated q (Iterated q A) B t → C t
    unfolding ClosedAt
    arden-smallest t x = level_in x.1.0 t (x.0, x.1.1, x.2)

  -- ---- so that it has nothing else

  pub arden-only : (t : Tree) → Concatenated q (Iterated q A) B t → Concatenated q A (Concatenated q (Iterated q A) B) t ⊎ B t
  arden-only = arden-smallest (λ t. Concatenated q A (Concatenated q (Iterated q A) B) t ⊎ B t) (λ t x. inr x) (λ t x. inl (concatenated-more q A A _ _ (λ u y. y) again t x))
    where
      again : (t : Tree) → Concatenated q A (Concatenated q (Iterated q A) B) t ⊎ B t → Concatenated q (Iterated q A) B t
      again t (inl x) = arden-again t x
      again t (inr x) = arden-base t x
