-- Claims that are decided, and answers that decide a claim: what they show, and how they are put together.
use Prim.Native.Nat.{ℕ, ◌<◌, ◌≤◌}
use native.Mathlib.Omega.{arith}
use mathlib.Core.Path.{◌≡◌, refl, sym, ◌∙◌}
use mathlib.Core.Bool.{Bool, true, false}
use mathlib.Core.List.{List, [], ◌∷◌}
use lib.Dec.{ltb, leb, eqb}
use borrow.Author.Tests.{lt-ltb, le-leb, eq-eqb, ltb-true, leb-true, eqb-true}
use Rattle.ground.specs.Decides.{Decides}
use Rattle.ground.specs.Lists.{All}

never : true ≡ false → ⊥
never e = let z : ◌≡◌ {A = ℕ} 0 1 = cc in omega arith

pub decides-yes : {A : Type 0} → A → Decides A true
decides-yes h = record { only = λ _. h; always = λ _. refl }

pub decides-no : {A : Type 0} → (A → ⊥) → Decides A false
decides-no n = record { only = λ e. absurd (never (cc)); always = λ h. absurd (n h) }

pub decides-as : {A B : Type 0} {b : Bool} → Decides A b → (A → B) → (B → A) → Decides B b
decides-as d f g = record { only = λ e. f (d.only e); always = λ h. d.always (g h) }

-- what a no refutes
pub refuted : {A : Type 0} {b : Bool} → Decides A b → b ≡ false → A → ⊥
refuted d e h = let k = d.always h in never (cc)

-- two answers that decide one claim are one
pub decides-once : {A : Type 0} {a b : Bool} → Decides A a → Decides A b → a ≡ b
decides-once {a = a} {b = b} d e = go a b refl refl
  where
    go : (x y : Bool) → a ≡ x → b ≡ y → a ≡ b
    go true true p q = cc
    go true false p q = absurd (refuted e q (d.only p))
    go false true p q = absurd (refuted d p (e.only q))
    go false false p q = cc

pub decides-lt : (m n : ℕ) → Decides (m < n) (ltb m n)
decides-lt m n = record { only = ltb-true m n; always = lt-ltb m n }

pub decides-le : (m n : ℕ) → Decides (m ≤ n) (leb m n)
decides-le m n = record { only = leb-true m n; always = le-leb m n }

pub decides_eq : (m n : ℕ) → Decides (m ≡ n) (eqb m n)
decides_eq m n = record { only = eqb-true m n; always = eq-eqb m n }

-- ---- decided claims

pub both : {A B : Type 0} → Dec A → Dec B → Dec (A × B)
both (yes a) (yes b) = yes (a, b)
both (yes a) (no n) = no (λ p. n p.1)
both (no n) d = no (λ p. n p.0)

-- a claim that is equivalent to a decided one
pub decided-as : {A B : Type 0} → Dec A → (A → B) → (B → A) → Dec B
decided-as (yes a) f g = yes (f a)
decided-as (no n) f g = no (λ b. n (g b))

pub dec-all : {A : Type 0} (P : A → Type 0) → ((x : A) → Dec (P x)) → (xs : List A) → Dec (All P xs)
dec-all P d [] = yes tt
dec-all P d (x ∷ xs) = both (d x) (dec-all P d xs)

-- ---- one outcome

-- two pairs that are each the same as a third
pub alike : {A B : Type 0} {a b x : A} {c d y : B} → (a ≡ x) × (c ≡ y) → (b ≡ x) × (d ≡ y) → (a ≡ b) × (c ≡ d)
alike p q = (p.0 ∙ sym q.0, p.1 ∙ sym q.1)
