-- What the private functions promise.
use Rattle.std.specs.Prelude.{ℕ, ◌+◌, List, [], ◌∷◌, map}
use Rattle.expressions.specs.declared.Shape.{Shape}
use Rattle.expressions.specs.Nodes.{Table, children}
use Rattle.expressions.specs.Words.{decode}

-- the sum of some numbers
abbrev pub sum_all : List ℕ → ℕ
sum_all [] = 0
sum_all (n ∷ ns) = n + sum_all ns

-- one, and the sizes of a shape's children, by what their numbers stand for
unfoldable pub size_over : (ℕ → ℕ) → Shape → ℕ
size_over size shape = 1 + sum_all (map size (children shape))

-- a table's nodes, each given as its words
abbrev pub nodes_of : List (List ℕ) → Table
nodes_of nodes = map decode nodes
