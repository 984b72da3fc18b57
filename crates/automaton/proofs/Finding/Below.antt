-- A list of numbers of which each is below a bound, as the test says it, while one goes along the list.
use Prim.Native.Nat.{ℕ, zero, suc, ◌≤◌, ◌<◌}
use mathlib.Core.Bool.{Bool, true, false, ◌&&◌, and-false}
use mathlib.Core.Path.{◌≡◌}
use mathlib.Core.List.{List, [], ◌∷◌, ◌++◌}
use native.Mathlib.Omega.{arith}
use lib.Dec.{ltb}
use lib.ListN.{length, get_or}
use borrow.Author.Tests.{lt-ltb, le-ltb}
use Rattle.automaton.specs.Checks.{all_below}

module _ (bound : ℕ) where
  -- one more that is below the bound
  pub below-snoc : (xs : List ℕ) (x : ℕ) → all_below bound xs ≡ true → x < bound → all_below bound (xs ++ (x ∷ [])) ≡ true
  unfolding all_below
  below-snoc [] x e h = rw (lt-ltb x bound h)
  below-snoc (y ∷ xs) x e h = go (ltb y bound) (λ p. below-snoc xs x p h) e
    where
      go : (b : Bool) → (all_below bound xs ≡ true → all_below bound (xs ++ (x ∷ [])) ≡ true) → (b && all_below bound xs) ≡ true → (b && all_below bound (xs ++ (x ∷ []))) ≡ true
      go true ih p = ih p
      go false ih p = p

  -- one that is not
  pub below_fails : (xs : List ℕ) (i : ℕ) → i < length xs → bound ≤ get_or xs i 0 → all_below bound xs ≡ false
  unfolding all_below
  below_fails [] i l h = absurd (omega arith)
  below_fails (x ∷ xs) zero l h = rw (le-ltb x bound h)
  below_fails (x ∷ xs) (suc i) l h = rw (below_fails xs i (omega arith) h) (and-false (ltb x bound))
