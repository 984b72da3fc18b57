-- One state taken out of a family of sets of trees: what is reached toward the other targets stays the same.
use Prim.Native.Nat.{ℕ}
use native.Mathlib.Decide.{ℕ_discrete}
use mathlib.Core.Path.{◌≡◌, refl}
use mathlib.Core.Logic.{◌⊎◌, inl, inr}
use Rattle.meaning.specs.Trees.{Tree, hole}
use Rattle.meaning.specs.Fillings.{Language, Family, Filled, at, Only, here, stays}
use Rattle.meaning.specs.Expressions.{Concatenated, Iterated}
use Rattle.meaning.proofs.Fillings.{Within, Then, filled_more, filled-more-in, filled-then, filled-split, only_then}
use Rattle.meaning.proofs.Arden.{arden-base, arden-again, arden-smallest}
use Rattle.theory.proofs.Expressions.Levels.{Reached, closed, least}

-- `before` and `after` the step at q, where A is what loops at q and B what comes in: what stands for q is A iterated and closed with B, and it is put in wherever q was open
pub record Taken (before after : Family) (q : ℕ) (A B : Language) : Type 0 where
  pub cases : (s : Tree) → before q s → A s ⊎ B s
  pub loops : (s : Tree) → A s → before q s
  pub comes : (s : Tree) → B s → before q s
  pub no_hole : (s : Tree) → B s → Within (λ p. p ≡ q → ⊥) s
  pub into : (r : ℕ) (t : Tree) → (r ≡ q → ⊥) → Concatenated q (before r) (Concatenated q (Iterated q A) B) t → after r t
  pub from : (r : ℕ) (t : Tree) → after r t → Concatenated q (before r) (Concatenated q (Iterated q A) B) t

module _ (before after : Family) (q : ℕ) (A B : Language) (k : Taken before after q A B) where
  -- what stands for q
  X : Language
  X = Concatenated q (Iterated q A) B

  -- ---- what is reached after was reached before

  -- a tree that, filled with what was reached before, was itself reached toward q
  Fine : Language
  Fine u = (t : Tree) → Filled (Reached before) u t → Reached before q t

  -- what comes in is such, and so is what loops over such: hence all that stands for q
  X-fine : (u : Tree) → X u → Fine u
  unfolding X Fine
  X-fine = arden-smallest q A B Fine (λ b x t f. closed (k.comes b x) f) (λ u x t f. closed (k.loops x.0 x.1) (filled_more (only_then (λ v w y. y w)) (filled-then x.2 f)))

  pub back : (r : ℕ) (t : Tree) → Reached after r t → Reached before r t
  unfolding X Fine
  back r t x = least after (Reached before) step r t x
    where
      step : (r : ℕ) (s t : Tree) → after r s → Filled (Reached before) s t → Reached before r t
      step r s t g f = let c = k.from r s g in closed c.1 (filled_more (only_then (λ u v y. X-fine u y v)) (filled-then c.2 f))

  -- ---- what was reached before is reached after

  -- reached after, with what stands for q where q stands
  Passed : Family
  Passed = Then (Only q X) (Reached after)

  other : (p : ℕ) (t : Tree) → (p ≡ q → ⊥) → Passed p t → Reached after p t
  unfolding Passed
  other p t n x = go n x.1 x.2
    where
      go : {p : ℕ} {u t : Tree} → (p ≡ q → ⊥) → Only q X p u → Filled (Reached after) u t → Reached after p t
      go n (here y) z = absurd (n refl)
      go n (stays _) (at z) = z

  -- toward q: what loops over what stands for q stands for q, and so does what comes in
  passed-at-q : (s t : Tree) → before q s → Filled Passed s t → Passed q t
  unfolding X Passed
  passed-at-q s t g f = go (k.cases s g)
    where
      go : A s ⊎ B s → Passed q t
      go (inl a) = let c = filled-split (Only q X) (Reached after) f in (c.0, here (arden-again q A B c.0 (s, a, c.1)), c.2)
      go (inr b) = (s, here (arden-base q A B s b), filled-more-in other f (k.no_hole s b))

  passed : (r : ℕ) (s t : Tree) → before r s → Filled Passed s t → Passed r t
  unfolding X Passed
  passed r s t g f = go (ℕ_discrete r q)
    where
      go : Dec (r ≡ q) → Passed r t
      go (yes e) = rw e (passed-at-q s t (rw e at g) f)
      go (no n) =
          let c = filled-split (Only q X) (Reached after) f in
          (hole r, stays n, at (closed (k.into r c.0 n (s, g, c.1)) c.2))

  pub forth : (r : ℕ) (t : Tree) → (r ≡ q → ⊥) → Reached before r t → Reached after r t
  forth r t n x = other r t n (least before Passed passed r t x)
