-- The open set: a denoted tree has only holes of it.
use Prim.Native.Nat.{ℕ, zero, suc}
use mathlib.Core.Path.{◌≡◌, refl}
use mathlib.Core.Bool.{Bool, true, false, cond, not, ◌&&◌, ◌||◌}
use mathlib.Core.Logic.{inl, inr}
use lib.Dec.{T, eqb, eqb_refl}
use Rattle.meaning.specs.Trees.{Tree, Forest}
use Rattle.meaning.specs.Fillings.{Language, Only, here, stays}
use Rattle.meaning.specs.Expressions.{Expr, Exprs, emptyᴱ, holeᴱ, symbolᴱ, altᴱ, catᴱ, iterᴱ, []ᴱ, ◌∷ᴱ◌, Concatenated, Level, Denotes, DenotesEach, is_open, is_open_in}
use Rattle.ground.proofs.Tests.{or_left, or_right, and_both, not_of_false, ne-not}
use Rattle.meaning.proofs.Fillings.{Within, WithinAll, filled_within, within_more, within-all-more}

-- the holes of a concatenation
concatenated-within : (q : ℕ) (E F : Language) (S R : ℕ → Type 0) (t : Tree) → ((u : Tree) → E u → Within S u)
    → ((p : ℕ) → S p → (p ≡ q → ⊥) → R p) → (S q → (u : Tree) → F u → Within R u) → Concatenated q E F t → Within R t
concatenated-within q E F S R t he hs hf x = filled_within go x.2 (he x.0 x.1)
  where
    go : (p : ℕ) (u : Tree) → S p → Only q F p u → Within R u
    go p u s (here y) = hf s u y
    go p u s (stays n) = hs p s n

-- the holes of a level
level-within : (q : ℕ) (E : Language) (S R : ℕ → Type 0) → ((u : Tree) → E u → Within S u) → ((p : ℕ) → S p → R p) → R q
    → (m : ℕ) (t : Tree) → Level q E m t → Within R t
level-within q E S R he hs hq zero t e = rw e hq
level-within q E S R he hs hq (suc m) t (inl x) = level-within q E S R he hs hq m t x
level-within q E S R he hs hq (suc m) t (inr x) =
    concatenated-within q E (Level q E m) S R t he (λ p s n. hs p s) (λ s u y. level-within q E S R he hs hq m u y) x

within-cat : (a b : Expr) (q : ℕ) (t : Tree) → ((u : Tree) → Denotes a u → Within (λ p. T (is_open a p)) u)
    → ((u : Tree) → Denotes b u → Within (λ p. T (is_open b p)) u) → Concatenated q (Denotes a) (Denotes b) t → Within (λ p. T (is_open (catᴱ q a b) p)) t
within-cat a b q t ha hb x = go (is_open a q) refl
  where
    go : (c : Bool) → is_open a q ≡ c → Within (λ p. T (cond c ((is_open a p && not (eqb p q)) || is_open b p) (is_open a p))) t
    go true e =
        concatenated-within q (Denotes a) (Denotes b) (λ p. T (is_open a p)) (λ p. T ((is_open a p && not (eqb p q)) || is_open b p)) t ha
        (λ p s n. or_left (is_open a p && not (eqb p q)) (is_open b p) (and_both (is_open a p) (not (eqb p q)) s (ne-not p q n)))
        (λ s u y. within_more (λ p w. or_right (is_open a p && not (eqb p q)) (is_open b p) w) u (hb u y)) x
    go false e =
        concatenated-within q (Denotes a) (Denotes b) (λ p. T (is_open a p)) (λ p. T (is_open a p)) t ha (λ p s n. s) (λ s. absurd (not_of_false e s)) x

mutual
  pub denoted-within : (e : Expr) (t : Tree) → Denotes e t → Within (λ p. T (is_open e p)) t
  denoted-within emptyᴱ t x = absurd x
  denoted-within (holeᴱ q) t x = rw x (eqb_refl q)
  denoted-within (symbolᴱ f es) t x = rw x.1 (each_within es x.0 x.2)
  denoted-within (altᴱ a b) t (inl x) = within_more (λ p w. or_left (is_open a p) (is_open b p) w) t (denoted-within a t x)
  denoted-within (altᴱ a b) t (inr x) = within_more (λ p w. or_right (is_open a p) (is_open b p) w) t (denoted-within b t x)
  denoted-within (catᴱ q a b) t x = within-cat a b q t (denoted-within a) (denoted-within b) x
  denoted-within (iterᴱ q a) t x =
      level-within q (Denotes a) (λ p. T (is_open a p)) (λ p. T (is_open a p || eqb p q)) (denoted-within a) (λ p w. or_left (is_open a p) (eqb p q) w)
      (or_right (is_open a q) (eqb q q) (eqb_refl q)) x.0 t x.1

  each_within : (es : Exprs) (ts : Forest) → DenotesEach es ts → WithinAll (λ p. T (is_open_in es p)) ts
  each_within []ᴱ ts x = rw x tt
  each_within (e ∷ᴱ es) ts x =
      rw x.2 (
        within_more (λ p w. or_left (is_open e p) (is_open_in es p) w) x.0 (denoted-within e x.0 x.3),
        within-all-more (λ p w. or_right (is_open e p) (is_open_in es p) w) x.1 (each_within es x.1 x.4),
      )
