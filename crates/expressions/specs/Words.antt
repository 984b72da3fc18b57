-- A node as words of 32 bits. This file alone says which word of a node is which.
use Rattle.std.specs.Prelude.{ℕ, zero, suc, ◌*◌, cond, List, [], ◌∷◌, ◌++◌, length, get_or, take, drop, leb}
use Rattle.expressions.specs.declared.Node.{Node}
use Rattle.expressions.specs.Nodes.{Table, no_node}

-- how many words a node has [7.1]
abbrev pub node_width : ℕ
node_width = 6

-- the words of a node: kind, label, three children, open set [7.1] [7.8]
unfoldable pub encode : Node → List ℕ
encode node = node.shape.kind ∷ node.shape.label ∷ node.shape.first ∷ node.shape.second ∷ node.shape.third ∷ node.opens ∷ []

-- the node whose words these begin with [7.1]
unfoldable pub decode : List ℕ → Node
decode words =
    record {
      shape = record { kind = get_or words 0 0; label = get_or words 1 0; first = get_or words 2 0; second = get_or words 3 0; third = get_or words 4 0 };
      opens = get_or words 5 0;
    }

-- node i of words that hold it whole [7.1]
unfoldable pub read_node : List ℕ → ℕ → Node
read_node words i = decode (drop (node_width * i) words)

-- node i of any words: where they do not hold it whole, the empty node [7.20]
unfoldable pub node_in : List ℕ → ℕ → Node
node_in words i = cond (leb (node_width * suc i) (length words)) (read_node words i) no_node

-- the first so many nodes of the words [7.1]
unfoldable pub table_of : List ℕ → ℕ → Table
table_of words zero = []
table_of words (suc count) = table_of words count ++ (read_node words count ∷ [])

-- the words of a table [7.1]
unfoldable pub words_of : Table → List ℕ
words_of [] = []
words_of (node ∷ nodes) = encode node ++ words_of nodes

-- the words with node i written and every other word as it was [7.18]
unfoldable pub put_node : List ℕ → ℕ → Node → List ℕ
put_node words i node = take (node_width * i) words ++ (encode node ++ drop (node_width * suc i) words)
