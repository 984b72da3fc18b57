-- The written-out size of an expression, and the sizes of a table's nodes.
use Rattle.std.specs.Prelude.{ℕ, ◌+◌, min, List, [], map}
use Rattle.meaning.specs.Expressions.{Expr, Exprs, emptyᴱ, holeᴱ, symbolᴱ, altᴱ, catᴱ, iterᴱ, []ᴱ, ◌∷ᴱ◌}
use Rattle.expressions.specs.Nodes.{Table}
use Rattle.expressions.specs.Unfolding.{unfolded}

-- one, and the sizes of the parts; a part that is used twice counts twice [9.1]
abbrev mutual
  pub written_size : Expr → ℕ
  written_size emptyᴱ = 1
  written_size (holeᴱ q) = 1
  written_size (symbolᴱ f es) = 1 + written_sizes es
  written_size (altᴱ a b) = 1 + (written_size a + written_size b)
  written_size (catᴱ q a b) = 1 + (written_size a + written_size b)
  written_size (iterᴱ q a) = 1 + written_size a

  pub written_sizes : Exprs → ℕ
  written_sizes []ᴱ = 0
  written_sizes (e ∷ᴱ es) = written_size e + written_sizes es

-- the limit for sizes, and a number held at it [9.2]
abbrev pub most_size : ℕ
most_size = 4294967295

abbrev pub held : ℕ → ℕ
held n = min n most_size

-- the held size of an expression [9.1] [9.2]
unfoldable pub held_size : Expr → ℕ
held_size e = held (written_size e)

-- the held size of each node [9.3]
unfoldable pub sizes_of : Table → List ℕ
sizes_of table = map held_size (unfolded [] table)
