-- The conversion on node numbers: its table and its list, made node by node. What a list means is said of the expressions that its nodes unfold to.
use Rattle.std.specs.Prelude.{ℕ, zero, suc, ◌+◌, ◌*◌, Bool, cond, not, ◌&&◌, ◌||◌, List, [], ◌∷◌, ◌++◌, map, length, get_or, eqb}
use Rattle.sets.specs.Members.{has, size, state_width}
use Rattle.automaton.specs.Held.{Rule, Held}
use Rattle.expressions.specs.declared.Shape.{Shape}
use Rattle.expressions.specs.Nodes.{Table, node_at, label_of, empty_shape, hole_shape, symbol_shape, alt_shape, cat_shape, iter_shape}
use Rattle.expressions.specs.Unfolding.{expr_at}
use Rattle.expressions.specs.Soundness.{completed}
use Rattle.theory.specs.declared.NodeRow.{NodeRow}
use Rattle.theory.specs.RowLists.{ExprRow, ascending, final_target, final_states}
use Rattle.ground.specs.Lists.{those}

-- how far a conversion is: its table and its list
pub record Stage : Type 0 where
  pub table : Table
  pub rows : List NodeRow

-- a row by its meaning [7.14]
abbrev pub unfolded_row : Table → NodeRow → ExprRow
unfolded_row table row = record { expr = expr_at table row.node; target = row.target }

unfoldable pub unfolded_rows : Stage → List ExprRow
unfolded_rows stage = map (unfolded_row stage.table) stage.rows

-- ---- the start

-- the table with one node more, at the lowest free number [8.19]
abbrev pub with_node : Table → Shape → Table
with_node table shape = table ++ (completed table shape ∷ [])

-- where the hole of a state stands [8.2]
abbrev pub hole_at : ℕ → ℕ
hole_at q = suc q

-- the empty node and the holes of the states below a number [8.2]
unfoldable pub holes_table : ℕ → Table
holes_table zero = with_node [] empty_shape
holes_table (suc q) = with_node (holes_table q) (hole_shape q)

-- the node of a file's row: its symbol over the holes of its sources [8.2]
unfoldable pub rule_shape : Rule → Shape
rule_shape rule =
    let holes = map hole_at rule.sources in
    symbol_shape (label_of rule.symbol (length rule.sources)) (get_or holes 0 0) (get_or holes 1 0) (get_or holes 2 0)

-- the table after the nodes of these rows [8.2]
unfoldable pub rules_table : Table → List Rule → Table
rules_table table [] = table
rules_table table (rule ∷ rules) = rules_table (with_node table (rule_shape rule)) rules

-- the table at the start [8.2]
unfoldable pub start_table : Held → Table
start_table held = rules_table (holes_table held.states) held.rules

-- the list's rows of a file's rows, whose nodes are numbered on from here [8.4]
unfoldable pub rule_rows : ℕ → List Rule → List NodeRow
rule_rows number [] = []
rule_rows number (rule ∷ rules) = record { node = number; target = rule.target } ∷ rule_rows (suc number) rules

-- the list's row of a final state [8.4]
abbrev pub final_node_row : ℕ → NodeRow
final_node_row q = record { node = hole_at q; target = final_target }

-- the table and the list at the start [8.2] [8.4]
unfoldable pub start : Held → Stage
start held = record { table = start_table held; rows = rule_rows (suc held.states) held.rules ++ map final_node_row (final_states held) }

-- ---- making a node, and joining

-- a table, and the node in it that was asked for, made anew or there already
pub record Made : Type 0 where
  pub table : Table
  pub node : ℕ

abbrev pub already : Table → ℕ → Made
already table i = record { table = table; node = i }

-- a node made anew [8.19]
abbrev pub added : Table → Shape → Made
added table shape = record { table = with_node table shape; node = length table }

-- is a node empty, by its kind [8.18]
abbrev pub is_empty_node : Table → ℕ → Bool
is_empty_node table i = eqb (node_at table i).shape.kind 0

-- is it the hole of q, by its kind and label [8.18]
abbrev pub is_hole_node : ℕ → Table → ℕ → Bool
is_hole_node q table i = eqb (node_at table i).shape.kind 1 && eqb q (node_at table i).shape.label

-- an alternation; for an empty side the other one, the left looked at first [8.15]
unfoldable pub alt_made : Table → ℕ → ℕ → Made
alt_made table left right =
    let made = added table (alt_shape left right) in
    cond (is_empty_node table left) (already table right) (cond (is_empty_node table right) (already table left) made)

-- a concatenation over q; for hole q on the left its right side [8.16]
unfoldable pub cat_made : ℕ → Table → ℕ → ℕ → Made
cat_made q table left right =
    let made = added table (cat_shape q left right) in
    cond (is_hole_node q table left) (already table right) made

-- an iteration over q; for the empty node hole q [8.17]
unfoldable pub iter_made : ℕ → Table → ℕ → Made
iter_made q table child =
    let made = added table (iter_shape q child) in
    cond (is_empty_node table child) (already table (hole_at q)) made

-- some nodes joined to one, from the left [8.14]
unfoldable pub join_made_from : Table → ℕ → List ℕ → Made
join_made_from table a [] = already table a
join_made_from table a (b ∷ bs) = let made = alt_made table a b in join_made_from made.table made.node bs

-- some nodes joined, node 0 first [8.14]
unfoldable pub join_made : Table → List ℕ → Made
join_made table some = join_made_from table 0 some

-- ---- one state

-- is q open in a row, by the open set of its node [8.7] [0.10]
abbrev pub is_open_row : ℕ → Table → NodeRow → Bool
is_open_row q table row = has (node_at table row.node).opens q

-- how a row stands to q: looping, incoming or outgoing [8.6]
unfoldable pub looping_node : ℕ → Table → NodeRow → Bool
looping_node q table row = eqb row.target q && is_open_row q table row

unfoldable pub incoming_node : ℕ → Table → NodeRow → Bool
incoming_node q table row = eqb row.target q && not (is_open_row q table row)

unfoldable pub outgoing_node : ℕ → Table → NodeRow → Bool
outgoing_node q table row = is_open_row q table row && not (eqb row.target q)

-- the nodes of some rows
abbrev pub nodes : List NodeRow → List ℕ
nodes rows = map (λ row. row.node) rows

-- A, I, B and X, one after the other: what stands in for q [8.8] to [8.11]
unfoldable pub stand_in_made : ℕ → Stage → Made
stand_in_made q stage =
    let A = join_made stage.table (nodes (those (looping_node q stage.table) stage.rows)) in
    let I = iter_made q A.table A.node in
    let B = join_made I.table (nodes (those (incoming_node q stage.table) stage.rows)) in
    cat_made q B.table I.node B.node

-- the node of a row that stays: of an outgoing one its concatenation with X over q, of any other its own [8.12]
unfoldable pub replaced_made : ℕ → ℕ → Table → NodeRow → Made
replaced_made q X table row =
    let made = cat_made q table row.node X in
    cond (outgoing_node q table row) made (already table row.node)

-- the rows that stay, from the top, each with its target at its place [8.12]
unfoldable pub replaced_rows : ℕ → ℕ → Table → List NodeRow → Stage
replaced_rows q X table [] = record { table = table; rows = [] }
replaced_rows q X table (row ∷ rows) =
    let made = replaced_made q X table row in
    let rest = replaced_rows q X made.table rows in
    record { table = rest.table; rows = record { node = made.node; target = row.target } ∷ rest.rows }

-- the rows that stay: neither looping nor incoming [8.13]
unfoldable pub remains_node : ℕ → Table → NodeRow → Bool
remains_node q table row = not (looping_node q table row || incoming_node q table row)

-- the stage after q is taken out [8.8] to [8.13]
unfoldable pub eliminated_stage : ℕ → Stage → Stage
eliminated_stage q stage =
    let X = stand_in_made q stage in
    replaced_rows q X.node X.table (those (remains_node q stage.table) stage.rows)

-- ---- the states, and the join

-- these states taken out, one after the other [8.5]
unfoldable pub eliminated_stages : List ℕ → Stage → Stage
eliminated_stages [] stage = stage
eliminated_stages (q ∷ qs) stage = eliminated_stages qs (eliminated_stage q stage)

-- the stage after the k lowest states, its rows not joined [8.5] [8.21]
unfoldable pub stage_after : ℕ → Held → Stage
stage_after k held = eliminated_stages (ascending k) (start held)

-- the rows of a stage joined [8.20]
unfoldable pub join_stage : Stage → Made
join_stage stage = join_made stage.table (nodes stage.rows)

-- the table and the answer of a full conversion [8.20] [8.26]
unfoldable pub converted : Held → Made
converted held = join_stage (stage_after held.states held)

-- the waiting number of a row: the size of its node's open set [8.23]
unfoldable pub waits_for : Table → NodeRow → ℕ
waits_for table row = size state_width (node_at table row.node).opens

-- a conversion makes no more nodes than this, by the numbers of states, of rows and of final states [8.29]
unfoldable pub node_bound : (n t f : ℕ) → ℕ
node_bound n t f = 1 + n + t + n * (t + f + 1) + f

-- the same for a file [8.29]
abbrev pub bound_of : Held → ℕ
bound_of held = node_bound held.states (length held.rules) (length (final_states held))
