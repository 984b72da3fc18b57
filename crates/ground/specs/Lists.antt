-- Lists: what holds of each element, those that pass a test, and lists in arrays that are longer.
use Rattle.std.specs.Prelude.{ℕ, zero, suc, ◌-◌, Bool, false, cond, ◌||◌, List, [], ◌∷◌, ◌++◌, length, take, replicate}

-- each element of a list is such [3.21, 7.5, 7.6]
abbrev pub All : {A : Type 0} → (A → Type 0) → List A → Type 0
All P [] = Unit {0}
All P (x ∷ xs) = P x × All P xs

-- those elements of a list that pass a test, in order [8.4, 8.6]
unfoldable pub those : {A : Type 0} → (A → Bool) → List A → List A
those test [] = []
those test (x ∷ xs) = let rest = those test xs in cond (test x) (x ∷ rest) rest

-- does one of a list pass a test? [5.4]
unfoldable pub any_of : {A : Type 0} → (A → Bool) → List A → Bool
any_of test [] = false
any_of test (x ∷ xs) = test x || any_of test xs

-- does one of the numbers below a bound pass a test? [5.6]
unfoldable pub any_below : ℕ → (ℕ → Bool) → Bool
any_below zero test = false
any_below (suc n) test = any_below n test || test n

-- a list in an array of n places, the places past it unused [3.18, 3.19]
unfoldable pub filled : {A : Type 0} → ℕ → A → List A → List A
filled n unused xs = xs ++ replicate (n - length xs) unused

-- the first n places of an array; a place that it does not have counts as unused [3.19]
unfoldable pub firsts : {A : Type 0} → ℕ → A → List A → List A
firsts n unused places = take n (filled n unused places)
