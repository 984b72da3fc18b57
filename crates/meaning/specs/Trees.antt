-- Trees over symbols and holes [6.1]. A draft is such a tree without holes [0.8].
use Rattle.std.specs.Prelude.{ℕ}

-- a hole, by its state; or a symbol, by its number, over its subtrees from the left [0.6, 0.7]
mutual
  pub data Tree : Type 0 where
    hole : ℕ → Tree
    node : ℕ → Forest → Tree

  pub data Forest : Type 0 where
    []ᶠ : Forest
    ◌∷ᶠ◌ : Tree → Forest → Forest

infixr 60 ◌∷ᶠ◌
