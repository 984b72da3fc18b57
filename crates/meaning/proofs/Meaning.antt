-- Laws of concatenation and iteration, as operations on sets of trees.
use Prim.Native.Nat.{ℕ, zero, suc, ◌≤◌}
use native.Mathlib.Omega.{arith}
use native.Mathlib.Decide.{ℕ_discrete}
use mathlib.Core.Path.{◌≡◌, refl}
use mathlib.Core.Logic.{◌⊎◌, inl, inr, ◌↔◌}
use Rattle.meaning.specs.Trees.{Tree, hole}
use Rattle.meaning.specs.Fillings.{Language, Filled, at, Only, here, stays}
use Rattle.meaning.specs.Expressions.{Concatenated, Level}
use Rattle.meaning.proofs.Fillings.{Within, within-any, filled_more, filled-more-in, filled-same, filled-hole, filled-then, filled-split, Then, only-more, only_here}

-- ---- concatenation

pub concatenated-more : (q : ℕ) (E E' F F' : Language) → ((t : Tree) → E t → E' t) → ((t : Tree) → F t → F' t) → (t : Tree) → Concatenated q E F t → Concatenated q E' F' t
concatenated-more q E E' F F' h k t x = (x.0, h x.0 x.1, filled_more (only-more k) x.2)

-- where E is the hole q alone, it is F
pub concatenated-hole : (q : ℕ) (F : Language) (t : Tree) → Concatenated q (λ s. s ≡ hole q) F t ↔ F t
concatenated-hole q F t = (
  λ x. only_here q t refl (filled-hole (Only q F) q x.0 t x.1 x.2),
  λ x. (hole q, refl, at (here x)),
)

-- a tree without the hole q stays as it is, whatever F may be
pub concatenated-without : (q : ℕ) (E F : Language) (t : Tree) → Within (λ p. p ≡ q → ⊥) t → E t → Concatenated q E F t
concatenated-without q E F t w x = (t, x, filled-same (λ p n. stays n) t w)

-- Associativity. Two letters part as soon as a tree of E has a hole q besides its holes p: that hole is replaced on the left alone. Where there is none, the two sides are one.
module _ (p q : ℕ) (E F H : Language) (apart : (s : Tree) → E s → Within (λ r. (r ≡ p) ⊎ (r ≡ q → ⊥)) s) where
  regrouped : (r : ℕ) (t : Tree) → (r ≡ p) ⊎ (r ≡ q → ⊥) → Then (Only p F) (Only q H) r t → Only p (Concatenated q F H) r t
  regrouped r t c x = go c x.1 x.2
    where
      kept : {r : ℕ} {t : Tree} → (r ≡ p → ⊥) → (r ≡ q → ⊥) → Only q H r t → Only p (Concatenated q F H) r t
      kept n n' (here y) = absurd (n' refl)
      kept n n' (stays _) = stays n

      go : {r : ℕ} {u t : Tree} → (r ≡ p) ⊎ (r ≡ q → ⊥) → Only p F r u → Filled (Only q H) u t → Only p (Concatenated q F H) r t
      go {u = u} c (here y) z = here (u, y, z)
      go (inl e) (stays n) z = absurd (n e)
      go (inr n') (stays n) (at z) = kept n n' z

  parted : (r : ℕ) (t : Tree) → (r ≡ p) ⊎ (r ≡ q → ⊥) → Only p (Concatenated q F H) r t → Then (Only p F) (Only q H) r t
  parted r t c (here y) = (y.0, here y.1, y.2)
  parted r t (inl e) (stays n) = absurd (n e)
  parted r t (inr n') (stays n) = (hole r, stays n, at (stays n'))

  pub associative-apart : (t : Tree) → Concatenated q (Concatenated p E F) H t ↔ Concatenated p E (Concatenated q F H) t
  associative-apart t = (
    λ x. (x.1.0, x.1.1, filled-more-in regrouped (filled-then x.1.2 x.2) (apart x.1.0 x.1.1)),
    λ x. let c = filled-split (Only p F) (Only q H) (filled-more-in parted x.2 (apart x.0 x.1)) in (c.0, (x.0, x.1, c.1), c.2),
  )

-- for one letter it always holds
pub associative : (q : ℕ) (E F H : Language) (t : Tree) → Concatenated q (Concatenated q E F) H t ↔ Concatenated q E (Concatenated q F H) t
associative q E F H t = associative-apart q q E F H (λ s _. within-any (λ r. go r (ℕ_discrete r q)) s) t
  where
    go : (r : ℕ) → Dec (r ≡ q) → (r ≡ q) ⊎ (r ≡ q → ⊥)
    go r (yes e) = inl e
    go r (no n) = inr n

-- ---- iteration

-- levels ascend
pub level-up : (q : ℕ) (E : Language) (m n : ℕ) (t : Tree) → m ≤ n → Level q E m t → Level q E n t
level-up q E zero zero t h x = x
level-up q E zero (suc n) t h x = inl (level-up q E zero n t (omega arith) x)
level-up q E (suc m) zero t h x = absurd (omega arith)
level-up q E (suc m) (suc n) t h (inl x) = inl (level-up q E m n t (omega arith) x)
level-up q E (suc m) (suc n) t h (inr x) = inr (x.0, x.1, filled_more (only-more (λ u y. level-up q E m n u (omega arith) y)) x.2)

pub level-more : (q : ℕ) (E F : Language) → ((t : Tree) → E t → F t) → (m : ℕ) (t : Tree) → Level q E m t → Level q F m t
level-more q E F h zero t x = x
level-more q E F h (suc m) t (inl x) = inl (level-more q E F h m t x)
level-more q E F h (suc m) t (inr x) = inr (concatenated-more q E F (Level q E m) (Level q F m) h (level-more q E F h m) t x)

-- the iteration of nothing is the hole
pub level-nothing : (q : ℕ) (E : Language) → ((u : Tree) → E u → ⊥) → (m : ℕ) (t : Tree) → Level q E m t → t ≡ hole q
level-nothing q E h zero t x = x
level-nothing q E h (suc m) t (inl x) = level-nothing q E h m t x
level-nothing q E h (suc m) t (inr x) = absurd (h x.0 x.1)
