-- The node table: a node and a table as numbers, not yet as words. What a node says by its kind, its label and its children is its shape; its open set, which follows from those of the children, stands beside it.
use Rattle.std.specs.Prelude.{ℕ, zero, suc, ◌+◌, ◌*◌, ◌/◌, ◌%◌, List, [], ◌∷◌, get_or, take, drop}
use Rattle.expressions.specs.declared.Shape.{Shape}
use Rattle.expressions.specs.declared.Node.{Node}

-- the six kinds, and what every other number comes to [7.2] [7.4]
pub data Kind : Type 0 where
  emptyᴷ : Kind
  holeᴷ : Kind
  symbolᴷ : Kind
  altᴷ : Kind
  catᴷ : Kind
  iterᴷ : Kind
  otherᴷ : Kind

-- the kind that a number stands for [7.2]
abbrev pub kind_of : ℕ → Kind
kind_of zero = emptyᴷ
kind_of (suc zero) = holeᴷ
kind_of (suc (suc zero)) = symbolᴷ
kind_of (suc (suc (suc zero))) = altᴷ
kind_of (suc (suc (suc (suc zero)))) = catᴷ
kind_of (suc (suc (suc (suc (suc zero))))) = iterᴷ
kind_of (suc (suc (suc (suc (suc (suc n)))))) = otherᴷ

-- a table: node 0, node 1 and so on [7.1]
abbrev pub Table : Type 0
Table = List Node

-- the shape of these five numbers [7.1]
abbrev pub shape_of : (kind label first second third : ℕ) → Shape
shape_of kind label first second third = record { kind = kind; label = label; first = first; second = second; third = third }

-- the shapes of each kind, with 0 in the places that it does not use [7.2] [7.5]
abbrev pub empty_shape : Shape
empty_shape = shape_of 0 0 0 0 0

abbrev pub hole_shape : ℕ → Shape
hole_shape q = shape_of 1 q 0 0 0

abbrev pub symbol_shape : (label first second third : ℕ) → Shape
symbol_shape label first second third = shape_of 2 label first second third

abbrev pub alt_shape : ℕ → ℕ → Shape
alt_shape left right = shape_of 3 0 left right 0

abbrev pub cat_shape : ℕ → ℕ → ℕ → Shape
cat_shape q left right = shape_of 4 q left right 0

abbrev pub iter_shape : ℕ → ℕ → Shape
iter_shape q child = shape_of 5 q child 0 0

-- the empty node: every number 0 [7.20]
abbrev pub no_node : Node
no_node = record { shape = empty_shape; opens = 0 }

-- the node of this number, and the empty node past the end of the table
abbrev pub node_at : Table → ℕ → Node
node_at table i = get_or table i no_node

-- what each subtree of a symbol adds to its label [7.2]
abbrev pub arity_step : ℕ
arity_step = 256

-- the label of a symbol with this arity [7.2]
unfoldable pub label_of : (symbol arity : ℕ) → ℕ
label_of symbol arity = symbol + arity_step * arity

-- the symbol's number in a label [7.2]
abbrev pub symbol_of : ℕ → ℕ
symbol_of label = label % arity_step

-- the arity in a label [7.2]
abbrev pub arity_of : ℕ → ℕ
arity_of label = label / arity_step

-- how many children a node of a kind has, of a symbol by its label [7.2]
abbrev pub children_of : Kind → ℕ → ℕ
children_of emptyᴷ label = 0
children_of holeᴷ label = 0
children_of symbolᴷ label = arity_of label
children_of altᴷ label = 2
children_of catᴷ label = 2
children_of iterᴷ label = 1
children_of otherᴷ label = 0

unfoldable pub child_count : (kind label : ℕ) → ℕ
child_count kind label = children_of (kind_of kind) label

-- the three places for children [7.1]
abbrev pub places : Shape → List ℕ
places shape = shape.first ∷ shape.second ∷ shape.third ∷ []

-- those that are used, from the left [7.2]
unfoldable pub children : Shape → List ℕ
children shape = take (child_count shape.kind shape.label) (places shape)

-- and those that are not [7.5]
unfoldable pub unused : Shape → List ℕ
unused shape = drop (child_count shape.kind shape.label) (places shape)
