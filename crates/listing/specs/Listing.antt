-- The listing of a table, byte for byte, over a function that gives the bytes of a node's label.
use Rattle.std.specs.Prelude.{ℕ, suc, List, [], ◌∷◌, ◌++◌, map}
use Rattle.buffers.specs.Decimal.{decimal}
use Rattle.expressions.specs.declared.Shape.{Shape}
use Rattle.expressions.specs.Nodes.{Kind, emptyᴷ, holeᴷ, symbolᴷ, altᴷ, catᴷ, iterᴷ, otherᴷ, kind_of, Table, symbol_of, children}

-- the name of a kind, letter by letter; a number above 5 has none [9.5]
abbrev pub name_of : Kind → List ℕ
name_of emptyᴷ = 101 ∷ 109 ∷ 112 ∷ 116 ∷ 121 ∷ []  -- e m p t y
name_of holeᴷ = 104 ∷ 111 ∷ 108 ∷ 101 ∷ []  -- h o l e
name_of symbolᴷ = 115 ∷ 121 ∷ 109 ∷ 98 ∷ 111 ∷ 108 ∷ []  -- s y m b o l
name_of altᴷ = 97 ∷ 108 ∷ 116 ∷ []  -- a l t
name_of catᴷ = 99 ∷ 97 ∷ 116 ∷ []  -- c a t
name_of iterᴷ = 105 ∷ 116 ∷ 101 ∷ 114 ∷ []  -- i t e r
name_of otherᴷ = []

unfoldable pub kind_name : ℕ → List ℕ
kind_name kind = name_of (kind_of kind)

-- the label's field, of the kinds that show a label [9.5]
abbrev pub label_shown : Kind → List ℕ → List (List ℕ)
label_shown emptyᴷ label = []
label_shown holeᴷ label = label ∷ []
label_shown symbolᴷ label = label ∷ []
label_shown altᴷ label = []
label_shown catᴷ label = label ∷ []
label_shown iterᴷ label = label ∷ []
label_shown otherᴷ label = []

unfoldable pub label_fields : ℕ → List ℕ → List (List ℕ)
label_fields kind label = label_shown (kind_of kind) label

-- each field with a blank, 32, before it [9.7]
unfoldable pub spaced : List (List ℕ) → List ℕ
spaced [] = []
spaced (field ∷ fields) = 32 ∷ (field ++ spaced fields)

-- a line of these fields, closed by a newline, 10 [9.7]
unfoldable pub line : List ℕ → List (List ℕ) → List ℕ
line field fields = field ++ (spaced fields ++ (10 ∷ []))

-- the number that a label shows: the state, or of a symbol its number without the arity [9.5]
abbrev pub number_shown : Kind → ℕ → ℕ
number_shown emptyᴷ label = label
number_shown holeᴷ label = label
number_shown symbolᴷ label = symbol_of label
number_shown altᴷ label = label
number_shown catᴷ label = label
number_shown iterᴷ label = label
number_shown otherᴷ label = label

unfoldable pub label_number : (kind label : ℕ) → ℕ
label_number kind label = number_shown (kind_of kind) label

-- a label as that number in decimal [9.5] [9.7]
unfoldable pub plain_label : Shape → List ℕ
plain_label shape = decimal (label_number shape.kind shape.label)

-- the fields between a node's number and its children: the name of its kind, and its label [9.5]
unfoldable pub head_fields : ℕ → List ℕ → List (List ℕ)
head_fields kind label = kind_name kind ∷ label_fields kind label

-- the line of a node: its number, name, label and children [9.5]
unfoldable pub node_line : (Shape → List ℕ) → ℕ → Shape → List ℕ
node_line label_bytes number shape = line (decimal number) (head_fields shape.kind (label_bytes shape) ++ map decimal (children shape))

-- the lines of nodes, the first of which has this number [9.4]
unfoldable pub node_lines : (Shape → List ℕ) → ℕ → Table → List ℕ
node_lines label_bytes number [] = []
node_lines label_bytes number (node ∷ nodes) = node_line label_bytes number node.shape ++ node_lines label_bytes (suc number) nodes

-- the last line: the word, a n s w e r, and the answer's number [9.6]
unfoldable pub answer_line : ℕ → List ℕ
answer_line answer = line (97 ∷ 110 ∷ 115 ∷ 119 ∷ 101 ∷ 114 ∷ []) (decimal answer ∷ [])

-- the listing: the lines of the nodes in their order, and the last line [9.4]
unfoldable pub listing : (Shape → List ℕ) → Table → ℕ → List ℕ
listing label_bytes table answer = node_lines label_bytes 0 table ++ answer_line answer

-- no line of a node of a sound table has more bytes, and the last line has no more: with room for so many, a listing is never refused 6 [9.5, 9.6, 9.12]
abbrev pub longest_line : ℕ
longest_line = 30

abbrev pub longest_answer : ℕ
longest_answer = 12
