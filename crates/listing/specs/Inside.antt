-- What the private functions of the listing promise.
use Rattle.std.specs.Prelude.{ℕ, ◌+◌, ◌≤◌, List, [], ◌∷◌, length, Option, Some, None}
use Rattle.buffers.specs.Decimal.{decimal}
use Rattle.buffers.specs.Writing.{Wrote}
use Rattle.expressions.specs.Nodes.{Kind, emptyᴷ, holeᴷ, symbolᴷ, altᴷ, catᴷ, iterᴷ, otherᴷ, symbol_of}
use Rattle.listing.specs.Listing.{kind_name}

-- a blank and the name of a kind
abbrev pub name_bytes : ℕ → List ℕ
name_bytes kind = 32 ∷ kind_name kind

-- the number that a label shows, where its kind shows the label
abbrev pub number_in : Kind → ℕ → Option ℕ
number_in emptyᴷ label = None
number_in holeᴷ label = Some label
number_in symbolᴷ label = Some (symbol_of label)
number_in altᴷ label = None
number_in catᴷ label = Some label
number_in iterᴷ label = Some label
number_in otherᴷ label = None

-- a blank and that number, where it is shown
abbrev pub label_bytes : Option ℕ → List ℕ
label_bytes None = []
label_bytes (Some n) = 32 ∷ decimal n

-- bytes that are put where they fit: then they are written, and the answer is the place after them
abbrev pub FitsThen : (before : List ℕ) (at : ℕ) (bytes after : List ℕ) (next : ℕ) → Type 0
FitsThen before at bytes after next = at + length bytes ≤ length before → Wrote before at bytes after next
