-- Laws of filling the holes of a tree, each apart.
use Prim.Native.Nat.{ℕ, ◌≤◌, max}
use native.Mathlib.Omega.{arith}
use mathlib.Core.Path.{◌≡◌, refl, ap, ap₂}
use Rattle.meaning.specs.Trees.{Tree, Forest, hole, node, []ᶠ, ◌∷ᶠ◌}
use Rattle.meaning.specs.Fillings.{Language, Family, Filled, FilledAll, at, under, none, both, Only, here, stays}

-- ---- the holes that occur

-- every hole of the tree is of such a state
abbrev mutual
  pub Within : (ℕ → Type 0) → Tree → Type 0
  Within S (hole p) = S p
  Within S (node f ts) = WithinAll S ts

  pub WithinAll : (ℕ → Type 0) → Forest → Type 0
  WithinAll S []ᶠ = Unit {0}
  WithinAll S (t ∷ᶠ ts) = Within S t × WithinAll S ts

mutual
  pub within_more : {S R : ℕ → Type 0} → ((p : ℕ) → S p → R p) → (t : Tree) → Within S t → Within R t
  within_more h (hole p) w = h p w
  within_more h (node f ts) w = within-all-more h ts w

  pub within-all-more : {S R : ℕ → Type 0} → ((p : ℕ) → S p → R p) → (ts : Forest) → WithinAll S ts → WithinAll R ts
  within-all-more h []ᶠ w = tt
  within-all-more h (t ∷ᶠ ts) w = (within_more h t w.0, within-all-more h ts w.1)

mutual
  pub within-any : {S : ℕ → Type 0} → ((p : ℕ) → S p) → (t : Tree) → Within S t
  within-any h (hole p) = h p
  within-any h (node f ts) = within-all-any h ts

  within-all-any : {S : ℕ → Type 0} → ((p : ℕ) → S p) → (ts : Forest) → WithinAll S ts
  within-all-any h []ᶠ = tt
  within-all-any h (t ∷ᶠ ts) = (within-any h t, within-all-any h ts)

-- the holes of what comes out of a filling
mutual
  pub filled_within : {S R : ℕ → Type 0} {σ : Family} {s t : Tree} → ((p : ℕ) (u : Tree) → S p → σ p u → Within R u) → Filled σ s t → Within S s → Within R t
  filled_within h (at {p} {t} x) w = h p t w x
  filled_within h (under xs) w = filled-all-within h xs w

  filled-all-within : {S R : ℕ → Type 0} {σ : Family} {s t : Forest} → ((p : ℕ) (u : Tree) → S p → σ p u → Within R u) → FilledAll σ s t → WithinAll S s → WithinAll R t
  filled-all-within h none w = tt
  filled-all-within h (both x xs) w = (filled_within h x w.0, filled-all-within h xs w.1)

-- ---- monotone, and only the holes that occur matter

mutual
  pub filled-more-in : {S : ℕ → Type 0} {σ τ : Family} {s t : Tree} → ((p : ℕ) (u : Tree) → S p → σ p u → τ p u) → Filled σ s t → Within S s → Filled τ s t
  filled-more-in h (at {p} {t} x) w = at (h p t w x)
  filled-more-in h (under xs) w = under (filled-all-more-in h xs w)

  filled-all-more-in : {S : ℕ → Type 0} {σ τ : Family} {s t : Forest} → ((p : ℕ) (u : Tree) → S p → σ p u → τ p u) → FilledAll σ s t → WithinAll S s → FilledAll τ s t
  filled-all-more-in h none w = none
  filled-all-more-in h (both x xs) w = both (filled-more-in h x w.0) (filled-all-more-in h xs w.1)

mutual
  pub filled_more : {σ τ : Family} {s t : Tree} → ((p : ℕ) (u : Tree) → σ p u → τ p u) → Filled σ s t → Filled τ s t
  filled_more h (at {p} {t} x) = at (h p t x)
  filled_more h (under xs) = under (filled-all-more h xs)

  pub filled-all-more : {σ τ : Family} {s t : Forest} → ((p : ℕ) (u : Tree) → σ p u → τ p u) → FilledAll σ s t → FilledAll τ s t
  filled-all-more h none = none
  filled-all-more h (both x xs) = both (filled_more h x) (filled-all-more h xs)

-- where every hole that occurs may stay, the tree may stay
mutual
  pub filled-same : {S : ℕ → Type 0} {σ : Family} → ((p : ℕ) → S p → σ p (hole p)) → (s : Tree) → Within S s → Filled σ s s
  filled-same h (hole p) w = at (h p w)
  filled-same h (node f ss) w = under (filled-all-same h ss w)

  filled-all-same : {S : ℕ → Type 0} {σ : Family} → ((p : ℕ) → S p → σ p (hole p)) → (ss : Forest) → WithinAll S ss → FilledAll σ ss ss
  filled-all-same h []ᶠ w = none
  filled-all-same h (s ∷ᶠ ss) w = both (filled-same h s w.0) (filled-all-same h ss w.1)

-- where every hole that occurs must stay, the tree stays
mutual
  pub filled-stays : {S : ℕ → Type 0} {σ : Family} {s t : Tree} → ((p : ℕ) (u : Tree) → S p → σ p u → u ≡ hole p) → Filled σ s t → Within S s → t ≡ s
  filled-stays h (at {p} {t} x) w = h p t w x
  filled-stays h (under {f} xs) w = ap (node f) (filled-all-stays h xs w)

  filled-all-stays : {S : ℕ → Type 0} {σ : Family} {s t : Forest} → ((p : ℕ) (u : Tree) → S p → σ p u → u ≡ hole p) → FilledAll σ s t → WithinAll S s → t ≡ s
  filled-all-stays h none w = refl
  filled-all-stays h (both x xs) w = ap₂ ◌∷ᶠ◌ (filled-stays h x w.0) (filled-all-stays h xs w.1)

-- a hole alone
pub filled-hole : (σ : Family) (q : ℕ) (s t : Tree) → s ≡ hole q → Filled σ s t → σ q t
filled-hole σ q s t e f = go (rw e at f)
  where
    go : {p : ℕ} {u : Tree} → Filled σ (hole p) u → σ p u
    go (at x) = x

-- ---- one filling after another is one filling

-- what stands for a hole where it is filled first by σ and what comes out by τ
abbrev pub Then : Family → Family → Family
Then σ τ p t = (u : Tree) × σ p u × Filled τ u t

mutual
  pub filled-then : {σ τ : Family} {s u t : Tree} → Filled σ s u → Filled τ u t → Filled (Then σ τ) s t
  filled-then (at {t = u} x) y = at (u, x, y)
  filled-then (under xs) (under ys) = under (filled-all-then xs ys)

  filled-all-then : {σ τ : Family} {s u t : Forest} → FilledAll σ s u → FilledAll τ u t → FilledAll (Then σ τ) s t
  filled-all-then none none = none
  filled-all-then (both x xs) (both y ys) = both (filled-then x y) (filled-all-then xs ys)

-- and back: what stands in between is found hole by hole
module _ (σ τ : Family) where
  mutual
    pub filled-split : {s t : Tree} → Filled (Then σ τ) s t → (u : Tree) × Filled σ s u × Filled τ u t
    filled-split (at x) = (x.0, at x.1, x.2)
    filled-split (under {f} xs) = let r = filled-all-split xs in (node f r.0, under r.1, under r.2)

    filled-all-split : {s t : Forest} → FilledAll (Then σ τ) s t → (u : Forest) × FilledAll σ s u × FilledAll τ u t
    filled-all-split none = ([]ᶠ, none, none)
    filled-all-split (both x xs) =
        let r = filled-split x in
        let rs = filled-all-split xs in
        (r.0 ∷ᶠ rs.0, both r.1 rs.1, both r.2 rs.2)

-- ---- a tree has finitely many holes: of an ascending chain of choices one level serves for all of them

module _ (σ : ℕ → Family) (up : (m n p : ℕ) (t : Tree) → m ≤ n → σ m p t → σ n p t) where
  mutual
    pub filled-level : {s t : Tree} → Filled (λ p u. (m : ℕ) × σ m p u) s t → (m : ℕ) × Filled (σ m) s t
    filled-level (at x) = (x.0, at x.1)
    filled-level (under xs) = let r = filled-all-level xs in (r.0, under r.1)

    filled-all-level : {s t : Forest} → FilledAll (λ p u. (m : ℕ) × σ m p u) s t → (m : ℕ) × FilledAll (σ m) s t
    filled-all-level none = (0, none)
    filled-all-level (both x xs) =
        let r = filled-level x in
        let rs = filled-all-level xs in
        let m = max r.0 rs.0 in (
          m,
          both
              (filled_more (λ p u y. up r.0 m p u (omega arith) y) r.1)
              (filled-all-more (λ p u y. up rs.0 m p u (omega arith) y) rs.1),
        )

-- ---- the choice that replaces one hole alone

pub only-more : {q : ℕ} {E F : Language} → ((u : Tree) → E u → F u) → (p : ℕ) (t : Tree) → Only q E p t → Only q F p t
only-more h p t (here {t = u} x) = here (h u x)
only-more h p t (stays n) = stays n

pub only_here : {q : ℕ} {F : Language} (p : ℕ) (t : Tree) → p ≡ q → Only q F p t → F t
only_here p t e (here x) = x
only_here p t e (stays n) = absurd (n e)

pub only-other : {q : ℕ} {F : Language} (p : ℕ) (t : Tree) → (p ≡ q → ⊥) → Only q F p t → t ≡ hole p
only-other p t n (here x) = absurd (n refl)
only-other p t n (stays _) = refl

-- replacing first the holes q from F and then every hole from τ does no more than τ, where F filled by τ lies in τ q
pub only_then : {q : ℕ} {F : Language} {τ : Family} → ((u t : Tree) → F u → Filled τ u t → τ q t) → (p : ℕ) (t : Tree) → Then (Only q F) τ p t → τ p t
only_then {q} {F} {τ} h p t x = go x.1 x.2
  where
    go : {p : ℕ} {u t : Tree} → Only q F p u → Filled τ u t → τ p t
    go {u = u} {t = t} (here y) z = h u t y z
    go (stays n) (at z) = z
