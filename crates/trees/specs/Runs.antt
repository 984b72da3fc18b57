-- What a tree reaches by the rows, whether it is accepted, and which states are productive [5.4, 5.6, 5.7].
use Rattle.std.specs.Prelude.{ℕ, true, ◌↔◌, ◌≡◌}
use mathlib.Core.List.{List, [], ◌∷◌, Memᴰ}
use Rattle.sets.specs.Members.{has}
use Rattle.automaton.specs.Held.{Rule, Held}
use Rattle.meaning.specs.Trees.{Tree, Forest, hole, node, []ᶠ, ◌∷ᶠ◌}

-- a state is reached where some row for the root's symbol leads to it, and each subtree reaches the source in its place; a hole reaches none [5.4]
abbrev mutual
  pub Reaches : List Rule → Tree → ℕ → Type 0
  Reaches rules (hole p) q = ⊥
  Reaches rules (node f ts) q =
      (rule : Rule) × Memᴰ rule rules × (rule.symbol ≡ f) × (rule.target ≡ q) × ReachesEach rules ts rule.sources

  pub ReachesEach : List Rule → Forest → List ℕ → Type 0
  ReachesEach rules []ᶠ [] = Unit {0}
  ReachesEach rules []ᶠ (q ∷ qs) = ⊥
  ReachesEach rules (t ∷ᶠ ts) [] = ⊥
  ReachesEach rules (t ∷ᶠ ts) (q ∷ qs) = Reaches rules t q × ReachesEach rules ts qs

-- some final state is reached [5.6]
abbrev pub Accepted : Held → Tree → Type 0
Accepted held tree = (q : ℕ) × (has held.finals q ≡ true) × Reaches held.rules tree q

-- some tree, of whatever size, reaches the state [5.7]
abbrev pub Productive : List Rule → ℕ → Type 0
Productive rules q = (tree : Tree) × Reaches rules tree q

-- the set has the productive states, and no other [5.8]
abbrev pub ProductiveSet : List Rule → ℕ → Type 0
ProductiveSet rules set = (q : ℕ) → (has set q ≡ true) ↔ Productive rules q
