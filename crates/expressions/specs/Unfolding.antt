-- From nodes to expressions: what a node of a table stands for.
use Rattle.std.specs.Prelude.{ℕ, List, [], ◌∷◌, ◌++◌, map, get_or}
use Rattle.meaning.specs.Expressions.{Expr, Exprs, emptyᴱ, holeᴱ, symbolᴱ, altᴱ, catᴱ, iterᴱ, []ᴱ, ◌∷ᴱ◌}
use Rattle.expressions.specs.declared.Shape.{Shape}
use Rattle.expressions.specs.Nodes.{Kind, emptyᴷ, holeᴷ, symbolᴷ, altᴷ, catᴷ, iterᴷ, otherᴷ, kind_of, Table, symbol_of, children}

-- a list of expressions as the subtrees of a symbol
unfoldable pub exprs_of : List Expr → Exprs
exprs_of [] = []ᴱ
exprs_of (e ∷ es) = e ∷ᴱ exprs_of es

-- the expression of a child by its place from the left; one that is not there counts as empty [7.14]
abbrev pub child : List Expr → ℕ → Expr
child es i = get_or es i emptyᴱ

-- the expression of a kind and a label over those of the children [7.14]
abbrev pub built_by : Kind → ℕ → List Expr → Expr
built_by emptyᴷ label es = emptyᴱ
built_by holeᴷ label es = holeᴱ label
built_by symbolᴷ label es = symbolᴱ (symbol_of label) (exprs_of es)
built_by altᴷ label es = altᴱ (child es 0) (child es 1)
built_by catᴷ label es = catᴱ label (child es 0) (child es 1)
built_by iterᴷ label es = iterᴱ label (child es 0)
built_by otherᴷ label es = emptyᴱ

unfoldable pub built_of : (kind label : ℕ) → List Expr → Expr
built_of kind label es = built_by (kind_of kind) label es

-- the expression of a shape, by what the numbers of its children stand for [7.14]
unfoldable pub built : (ℕ → Expr) → Shape → Expr
built expr shape = built_of shape.kind shape.label (map expr (children shape))

-- the expressions of a table's nodes after some earlier ones, each by those before it; a child that is not an earlier node counts as empty [7.14]
unfoldable pub unfolded : List Expr → Table → List Expr
unfolded earlier [] = earlier
unfolded earlier (node ∷ nodes) = unfolded (earlier ++ (built (λ c. get_or earlier c emptyᴱ) node.shape ∷ [])) nodes

-- the expression that node i of a table unfolds to [7.14]
unfoldable pub expr_at : Table → ℕ → Expr
expr_at table i = get_or (unfolded [] table) i emptyᴱ
