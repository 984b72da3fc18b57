-- Which tables are sound.
use Rattle.std.specs.Prelude.{ℕ, ◌*◌, ◌≤◌, ◌<◌, ◌≡◌, cond, List, [], ◌∷◌, map, length, get_or, take}
use Rattle.sets.specs.Members.{has, empty_set, one_set, union, without, state_width}
use Rattle.ground.specs.Lists.{All}
use Rattle.automaton.specs.Held.{most_symbols, most_arity}
use Rattle.expressions.specs.declared.Shape.{Shape}
use Rattle.expressions.specs.declared.Node.{Node}
use Rattle.expressions.specs.Nodes.{Kind, emptyᴷ, holeᴷ, symbolᴷ, altᴷ, catᴷ, iterᴷ, otherᴷ, kind_of, Table, node_at, symbol_of, arity_of, children, unused}
use Rattle.expressions.specs.Words.{node_width, table_of}

-- ---- what a node may say

-- the labels that a kind may have; a number above 5 has none [7.2] [7.3] [7.4]
abbrev pub LabelledAs : Kind → ℕ → Type 0
LabelledAs emptyᴷ label = label ≡ 0
LabelledAs holeᴷ label = label < state_width
LabelledAs symbolᴷ label = (symbol_of label < most_symbols) × (arity_of label ≤ most_arity)
LabelledAs altᴷ label = label ≡ 0
LabelledAs catᴷ label = label < state_width
LabelledAs iterᴷ label = label < state_width
LabelledAs otherᴷ label = ⊥

abbrev pub Labelled : (kind label : ℕ) → Type 0
Labelled kind label = LabelledAs (kind_of kind) label

-- the shapes that the node of this number may have: a label of its kind, earlier nodes as its children, and 0 in the places that it does not use [7.2] to [7.6]
pub record Fits (number : ℕ) (shape : Shape) : Type 0 where
  pub labelled : Labelled shape.kind shape.label
  pub earlier : All (λ c. c < number) (children shape)
  pub zeros : All (λ c. c ≡ 0) (unused shape)

-- ---- the open set, by those of the children

-- what is in at least one of some sets [7.7]
abbrev pub union_all : List ℕ → ℕ
union_all [] = empty_set state_width
union_all (s ∷ sets) = union state_width s (union_all sets)

-- of a concatenation over q [7.7]
unfoldable pub cat_opens : ℕ → ℕ → ℕ → ℕ
cat_opens q left right = cond (has left q) (union state_width (without state_width left q) right) left

-- of each kind, by its label and the open sets of its children [7.7]
abbrev pub opens_by : Kind → ℕ → List ℕ → ℕ
opens_by emptyᴷ label sets = empty_set state_width
opens_by holeᴷ label sets = one_set state_width label
opens_by symbolᴷ label sets = union_all sets
opens_by altᴷ label sets = union_all sets
opens_by catᴷ label sets = cat_opens label (get_or sets 0 0) (get_or sets 1 0)
opens_by iterᴷ label sets = union state_width (get_or sets 0 0) (one_set state_width label)
opens_by otherᴷ label sets = empty_set state_width

unfoldable pub opens_of : (kind label : ℕ) → List ℕ → ℕ
opens_of kind label sets = opens_by (kind_of kind) label sets

-- of a shape, by the open sets of the nodes that its children are [7.7]
unfoldable pub opens_in : (ℕ → ℕ) → Shape → ℕ
opens_in opens shape = opens_of shape.kind shape.label (map opens (children shape))

-- the node that a shape makes after these nodes [7.18]
unfoldable pub completed : Table → Shape → Node
completed earlier shape = record { shape = shape; opens = opens_in (λ c. (node_at earlier c).opens) shape }

-- ---- soundness

-- a node that may follow these nodes: its shape fits, and it is the node that its shape makes, every bit of the open word counted [7.2] to [7.8]
pub record SoundNode (earlier : Table) (node : Node) : Type 0 where
  pub fits : Fits (length earlier) node.shape
  pub right : node ≡ completed earlier node.shape

-- each node may follow those before it [7.9]
unfoldable pub SoundNodes : Table → Type 0
SoundNodes table = (i : ℕ) → i < length table → SoundNode (take i table) (node_at table i)

-- the most nodes that a table may have [2.6]
abbrev pub most_nodes : ℕ
most_nodes = 4096

-- these words, with this count and this answer, are a sound table [7.9]
pub record Sound (words : List ℕ) (count answer : ℕ) : Type 0 where
  pub some : 1 ≤ count
  pub few : count ≤ most_nodes
  pub roomy : node_width * count ≤ length words
  pub within : answer < count
  pub kept : SoundNodes (table_of words count)
