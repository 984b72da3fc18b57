-- The numbers of specs/ have no upper limit, those of the code have types. What it is for all that a function returns to fit the types that its struct declares: each number below the limit of its type, each array with its number of places. So no promise asks for what the code's types cannot say.
use Rattle.std.specs.Prelude.{ℕ, ◌^◌, ◌<◌, ◌≡◌, List, length}
use Rattle.ground.specs.Lists.{All}
use Rattle.sets.specs.declared.StateSet.{StateSet}
use Rattle.automaton.specs.declared.Row.{Row}
use Rattle.automaton.specs.declared.Automaton.{Automaton}
use Rattle.automaton.specs.declared.Refusal.{Refusal}
use Rattle.automaton.specs.declared.Reading.{Reading}
use Rattle.automaton.specs.Held.{most_symbols, most_arity, most_rows}
use Rattle.automaton.specs.declared.Extent.{Extent}
use Rattle.trees.specs.declared.ReachedStates.{ReachedStates}
use Rattle.trees.specs.declared.ProductiveStates.{ProductiveStates}
use Rattle.expressions.specs.declared.Shape.{Shape}
use Rattle.expressions.specs.declared.Node.{Node}
use Rattle.expressions.specs.declared.Measured.{Measured}
use Rattle.elimination.specs.declared.ListRow.{ListRow}
use Rattle.elimination.specs.declared.Partly.{Partly}
use Rattle.elimination.specs.declared.Wholly.{Wholly}
use Rattle.theory.specs.RowLists.{list_places}

-- ---- numbers

-- a number of the type u8, u16, u32; of u64 or usize
abbrev pub Byte : ℕ → Type 0
Byte n = n < 2 ^ 8

abbrev pub Short : ℕ → Type 0
Short n = n < 2 ^ 16

abbrev pub Word : ℕ → Type 0
Word n = n < 2 ^ 32

abbrev pub Long : ℕ → Type 0
Long n = n < 2 ^ 64

-- lent bytes, and lent words of 32 bits [3.1, 7.1]
abbrev pub Bytes : List ℕ → Type 0
Bytes = All Byte

abbrev pub Words : List ℕ → Type 0
Words = All Word

-- ---- what is returned, struct by struct

-- a set of states [2.7]
abbrev pub SetFits : StateSet → Type 0
SetFits r = Short r.0

-- a refusal [0.17]
abbrev pub RefusalFits : Refusal → Type 0
RefusalFits r = Byte r.number

-- a row of a value [3.18]
abbrev pub RowFits : Row → Type 0
RowFits row = Byte row.symbol × Byte row.target × Bytes row.sources × (length row.sources ≡ most_arity)

-- a value [3.18]
pub record AutomatonFits (value : Automaton) : Type 0 where
  pub states : Byte value.states
  pub finals : SetFits value.finals
  pub symbols : Byte value.symbols
  pub arities : Bytes value.arities
  pub arity_places : length value.arities ≡ most_symbols
  pub count : Byte value.count
  pub rows : All RowFits value.rows
  pub row_places : length value.rows ≡ most_rows

-- of `read` and of `write` [3.17, 3.23]
abbrev pub ReadingFits : Reading → Type 0
ReadingFits r = RefusalFits r.refusal × AutomatonFits r.automaton

abbrev pub WritingFits : Extent → Type 0
WritingFits r = RefusalFits r.refusal × Long r.length

-- of `run` and of `productive` [5.5, 5.8]
abbrev pub ReachedFits : ReachedStates → Type 0
ReachedFits r = RefusalFits r.refusal × SetFits r.states

abbrev pub ProductiveFits : ProductiveStates → Type 0
ProductiveFits r = RefusalFits r.refusal × SetFits r.states

-- of `node_at`: what a node says, and its open word [7.1, 7.20]
abbrev pub ShapeFits : Shape → Type 0
ShapeFits shape = Word shape.kind × Word shape.label × Word shape.first × Word shape.second × Word shape.third

abbrev pub NodeFits : Node → Type 0
NodeFits node = ShapeFits node.shape × Word node.opens

-- of `measure` and of `list` [9.3, 9.8]
abbrev pub MeasuredFits : Measured → Type 0
MeasuredFits r = RefusalFits r.refusal × Word r.size

abbrev pub ListedFits : Extent → Type 0
ListedFits r = RefusalFits r.refusal × Long r.length

-- a place of the list; of `convert_partly` and of `convert` [8.21, 8.22, 8.26]
abbrev pub PlaceFits : ListRow → Type 0
PlaceFits place = Short place.node × Byte place.target × Byte place.waits

pub record PartlyFits (r : Partly) : Type 0 where
  pub refusal : RefusalFits r.refusal
  pub nodes : Long r.nodes
  pub rows : Long r.rows
  pub list : All PlaceFits r.list
  pub list_places : length r.list ≡ list_places

abbrev pub WhollyFits : Wholly → Type 0
WhollyFits r = RefusalFits r.refusal × Long r.nodes × Long r.answer

-- of `printed` [9.13]
abbrev pub PrintingFits : Extent → Type 0
PrintingFits r = RefusalFits r.refusal × Long r.length
