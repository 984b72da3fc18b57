-- What it is to replace the holes of a tree, each occurrence apart [6.6].
use Rattle.std.specs.Prelude.{ℕ, ◌≡◌}
use Rattle.meaning.specs.Trees.{Tree, Forest, hole, node, []ᶠ, ◌∷ᶠ◌}

-- a set of trees, and a set of trees for each state
abbrev pub Language : Type 1
Language = Tree → Type 0

abbrev pub Family : Type 1
Family = ℕ → Tree → Type 0

-- `Filled choice s t`: t is s, where at every hole a tree is put that the choice has for the hole's state, picked anew at each; holes that come in with it are left alone [6.6]
mutual
  pub data Filled (choice : Family) : Tree → Tree → Type 0 where
    at : {p : ℕ} {t : Tree} → choice p t → Filled choice (hole p) t
    under : {f : ℕ} {ss ts : Forest} → FilledAll choice ss ts → Filled choice (node f ss) (node f ts)

  pub data FilledAll (choice : Family) : Forest → Forest → Type 0 where
    none : FilledAll choice []ᶠ []ᶠ
    both : {s t : Tree} {ss ts : Forest} → Filled choice s t → FilledAll choice ss ts → FilledAll choice (s ∷ᶠ ss) (t ∷ᶠ ts)

-- the choice of a concatenation over q: for hole q a tree of F, and any other hole stays [6.6]
pub data Only (q : ℕ) (F : Language) : ℕ → Tree → Type 0 where
  here : {t : Tree} → F t → Only q F q t
  stays : {p : ℕ} → (p ≡ q → ⊥) → Only q F p (hole p)
