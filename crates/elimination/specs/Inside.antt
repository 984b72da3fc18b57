-- What the private functions of a conversion promise one another. The public promises cite none of it.
--
-- Which row is which: a `Rule` is a row of the file, and `Row` is how an automaton's value has it. A `NodeRow` is a row of the list, a node and a target; it stands in a place of the list. A `ListRow` is a row of the list as it is reported.
use Rattle.std.specs.Prelude.{ℕ, suc, ◌*◌, ◌≤◌, ◌<◌, ◌≡◌, Bool, true, cond, not, ◌&&◌, eqb, ltb, List, map, length, get_or, Result, MatchResult}
use Rattle.sets.specs.Members.{has, size, state_width, of_word}
use Rattle.ground.specs.Lists.{All, filled, those}
use Rattle.automaton.specs.declared.Row.{Row}
use Rattle.automaton.specs.Held.{Rule, Held}
use Rattle.automaton.specs.Checks.{holds, verdict}
use Rattle.automaton.specs.declared.Refused.{Refused}
use Rattle.automaton.specs.Refusals.{number_of}
use Rattle.expressions.specs.declared.Shape.{Shape}
use Rattle.expressions.specs.declared.Node.{Node}
use Rattle.expressions.specs.Nodes.{Table, node_at, label_of, symbol_shape}
use Rattle.expressions.specs.Words.{node_width, node_in}
use Rattle.expressions.specs.Soundness.{most_nodes}
use Rattle.theory.specs.declared.NodeRow.{NodeRow}
use Rattle.theory.specs.RowLists.{list_places}
use Rattle.theory.specs.Stages.{Stage, Made, rules_table, rule_rows, iter_made, join_made, nodes, looping_node}
use Rattle.elimination.specs.declared.ListRow.{ListRow}
use Rattle.elimination.specs.declared.Partly.{Partly}
use Rattle.elimination.specs.declared.Wholly.{Wholly}
use Rattle.elimination.specs.declared.maker.Got.{Got}
use Rattle.elimination.specs.declared.step.Pick.{Pick}
use Rattle.elimination.specs.declared.step.Pick.TheVariants.{Looping, Incoming, Every}
use Rattle.elimination.specs.declared.rows.Staged.{Staged}
use Rattle.elimination.specs.Answers.{written_to, unused_place, PartlyAnswered, WhollyAnswered}

-- ---- makers of nodes

-- the words have room for so many nodes, and a table may have them
pub record Ready (words : List ℕ) (count : ℕ) : Type 0 where
  pub few : count ≤ most_nodes
  pub roomy : node_width * count ≤ length words

-- they have none for this table, and the refusal says so [4.22]
pub record NoRoom (before : List ℕ) (table : Table) (reason : Refused) : Type 0 where
  pub none : Ready before (length table) → ⊥
  pub short : number_of reason ≡ 6

-- the words, which had room for it, have this table, of so many nodes
pub record HasTable (before : List ℕ) (table : Table) (after : List ℕ) (count : ℕ) : Type 0 where
  pub room : Ready before (length table)
  pub words : after ≡ written_to before table
  pub counted : count ≡ length table

-- and this node of it was asked for
pub record HasNode (before : List ℕ) (made : Made) (after : List ℕ) (got : Got) : Type 0 where
  pub has : HasTable before made.table after got.count
  pub node : got.node ≡ made.node

-- a maker's result: the table, or the table and a node; or that there is no room for the table
abbrev pub GivesTable : List ℕ → Table → List ℕ → Result ℕ Refused → Type 0
GivesTable before table after r = MatchResult r (HasTable before table after) (NoRoom before table)

abbrev pub GivesNode : List ℕ → Made → List ℕ → Result Got Refused → Type 0
GivesNode before made after r = MatchResult r (HasNode before made after) (NoRoom before made.table)

-- what a maker promises that goes on from a table which suits it, from whatever words that began: it makes one step more
abbrev pub NodeOn : (Table → Type 0) → (Table → Made) → List ℕ → ℕ → List ℕ → Result Got Refused → Type 0
NodeOn Suits step words count after r = (before : List ℕ) (table : Table) → HasTable before table words count → Suits table → GivesNode before (step table) after r

-- ---- the row list

-- rows, after a table
abbrev pub stage_of : Table → List NodeRow → Stage
stage_of table rows = record { table = table; rows = rows }

-- rows whose nodes a table has
abbrev pub LowRows : List NodeRow → Table → Type 0
LowRows rows table = All (λ row. row.node < length table) rows

-- two nodes that a table has
abbrev pub Both : ℕ → ℕ → Table → Type 0
Both a b table = (a < length table) × (b < length table)

-- a node and rows that a table has
abbrev pub NodeAndRows : ℕ → List NodeRow → Table → Type 0
NodeAndRows node rows table = (node < length table) × LowRows rows table

abbrev pub NodeAndStage : ℕ → Stage → Type 0
NodeAndStage node stage = NodeAndRows node stage.rows stage.table

-- ---- makers of rows

-- the words have the table of a stage, and these are its rows
pub record HasStage (before : List ℕ) (stage : Stage) (after : List ℕ) (staged : Staged) : Type 0 where
  pub has : HasTable before stage.table after staged.count
  pub listed : staged.list ≡ stage.rows

-- so it is; or there is no room for the table
abbrev pub GivesStage : List ℕ → Stage → List ℕ → Result Staged Refused → Type 0
GivesStage before stage after r = MatchResult r (HasStage before stage after) (NoRoom before stage.table)

-- what a maker of rows promises that goes on from a table, or from what another maker of rows gave
abbrev pub StageOn : (Table → Type 0) → (Table → Stage) → List ℕ → ℕ → List ℕ → Result Staged Refused → Type 0
StageOn Suits step words count after r = (before : List ℕ) (table : Table) → HasTable before table words count → Suits table → GivesStage before (step table) after r

abbrev pub StagesOn : (Stage → Type 0) → (Stage → Stage) → List ℕ → Staged → List ℕ → Result Staged Refused → Type 0
StagesOn Suits step words begun after r = (before : List ℕ) (stage : Stage) → HasStage before stage words begun → Suits stage → GivesStage before (step stage) after r

-- ---- the start

-- the child at a place of a rule's node: the source's hole, where there is one
abbrev pub child_of : ℕ → ℕ → ℕ → ℕ
child_of place arity source = cond (ltb place arity) (suc source) 0

-- the shape of a rule's node, by its row in a value and the arity of its symbol
unfoldable pub row_shape : Row → ℕ → Shape
row_shape row arity =
    symbol_shape (label_of row.symbol arity) (child_of 0 arity (get_or row.sources 0 0)) (child_of 1 arity (get_or row.sources 1 0)) (child_of 2 arity (get_or row.sources 2 0))

-- the nodes of these rules put after a table, and the rows of the rules
abbrev pub rules_stage : List Rule → Table → Stage
rules_stage rules table = record { table = rules_table table rules; rows = rule_rows (length table) rules }

-- ---- one state

-- is q open in a node, by the set of its open word?
abbrev pub open_in : ℕ → Node → Bool
open_in q node = has (of_word state_width node.opens) q

-- is a row picked, by its target and its node?
abbrev pub picked_by : Pick → ℕ → Node → Bool
picked_by (Looping q) target node = eqb target q && open_in q node
picked_by (Incoming q) target node = eqb target q && not (open_in q node)
picked_by Every target node = true

abbrev pub picks : Pick → Table → NodeRow → Bool
picks pick table row = picked_by pick row.target (node_at table row.node)

-- the rows of a stage that are picked, joined
abbrev pub picked_made : Pick → Stage → Made
picked_made pick stage = join_made stage.table (nodes (those (picks pick stage.table) stage.rows))

-- A and I
unfoldable pub loop_made : ℕ → Stage → Made
loop_made q stage =
    let A = join_made stage.table (nodes (those (looping_node q stage.table) stage.rows)) in
    iter_made q A.table A.node

-- ---- what is reported

-- a row of the list, with its waiting number by the words
abbrev pub reported_row : List ℕ → NodeRow → ListRow
reported_row words row = record { node = row.node; target = row.target; waits = size state_width (node_in words row.node).opens }

abbrev pub reported_rows : List ℕ → List NodeRow → List ListRow
reported_rows words rows = filled list_places unused_place (map (reported_row words) rows)

-- the public promises, for every file that holds this automaton
abbrev pub PartlyOf : Held → ℕ → List ℕ → List ℕ → Partly → Type 0
PartlyOf held k before after r = (file : List ℕ) → verdict file ≡ holds held → PartlyAnswered file k before after r

abbrev pub WhollyOf : Held → List ℕ → List ℕ → Wholly → Type 0
WhollyOf held before after r = (file : List ℕ) → verdict file ≡ holds held → WhollyAnswered file before after r
