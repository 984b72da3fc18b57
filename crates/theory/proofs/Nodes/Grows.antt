-- Nodes are only ever added: whatever is made, the table goes on from the one before. So where a node does not fit, the whole does not.
use Prim.Native.Nat.{ℕ, ◌<◌, ◌≤◌}
use native.Mathlib.Omega.{arith}
use mathlib.Core.Path.{◌≡◌, refl, sym, ◌∙◌, ap}
use mathlib.Core.Bool.{Bool, true, false, cond}
use mathlib.Core.List.{List, [], ◌∷◌, ◌++◌, append_assoc, append-nil}
use lib.ListN.{length, length-append, get_or-append}
use Rattle.automaton.specs.Held.{Rule}
use Rattle.expressions.specs.declared.Shape.{Shape}
use Rattle.expressions.specs.Nodes.{Table, no_node, node_at, alt_shape, cat_shape, iter_shape}
use Rattle.expressions.specs.Unfolding.{expr_at}
use Rattle.expressions.specs.Soundness.{completed}
use Rattle.expressions.proofs.Unfolding.{expr-append}
use Rattle.ground.specs.Lists.{those}
use Rattle.theory.specs.declared.NodeRow.{NodeRow}
use Rattle.theory.specs.Stages.{Stage, hole_at, rule_shape, rules_table, with_node, Made, already, is_empty_node, is_hole_node, alt_made, cat_made, iter_made, join_made_from, join_made, looping_node, incoming_node, outgoing_node, nodes, stand_in_made, replaced_made, replaced_rows, remains_node, eliminated_stage, eliminated_stages, join_stage}

-- the one table, and more after it
pub record Grown (old new : Table) : Type 0 where
  pub more : Table
  pub same : new ≡ old ++ more

pub grown-none : (table : Table) → Grown table table
grown-none table = record { more = []; same = sym (append-nil table) }

pub grown-then : {a b c : Table} → Grown a b → Grown b c → Grown a c
grown-then {a} x y = record { more = x.more ++ y.more; same = y.same ∙ ap (λ (t : Table). t ++ y.more) x.same ∙ append_assoc a x.more y.more }

pub grown-longer : {old new : Table} → Grown old new → length old ≤ length new
grown-longer {old} x = omega (arith, ap length x.same, length-append old x.more)

pub grown-node : {old new : Table} → Grown old new → (i : ℕ) → i < length old → node_at new i ≡ node_at old i
grown-node {old} x i h = ap (λ (t : Table). node_at t i) x.same ∙ get_or-append old x.more no_node i h

pub grown-expr : {old new : Table} → Grown old new → (i : ℕ) → i < length old → expr_at new i ≡ expr_at old i
grown-expr {old} x i h = ap (λ (t : Table). expr_at t i) x.same ∙ expr-append old x.more i h

pub with-grows : (table : Table) (shape : Shape) → Grown table (with_node table shape)
with-grows table shape = record { more = completed table shape ∷ []; same = refl }

-- ---- making

pick-grows : (c : Bool) (table : Table) (i : ℕ) (made : Made) → Grown table made.table → Grown table (cond {A = Made} c (already table i) made).table
pick-grows true table i made g = grown-none table
pick-grows false table i made g = g

pub alt-grows : (table : Table) (a b : ℕ) → Grown table (alt_made table a b).table
unfolding alt_made
alt-grows table a b = pick-grows (is_empty_node table a) table b _ (pick-grows (is_empty_node table b) table a _ (with-grows table (alt_shape a b)))

pub cat-grows : (q : ℕ) (table : Table) (a b : ℕ) → Grown table (cat_made q table a b).table
unfolding cat_made
cat-grows q table a b = pick-grows (is_hole_node q table a) table b _ (with-grows table (cat_shape q a b))

pub iter-grows : (q : ℕ) (table : Table) (a : ℕ) → Grown table (iter_made q table a).table
unfolding iter_made
iter-grows q table a = pick-grows (is_empty_node table a) table (hole_at q) _ (with-grows table (iter_shape q a))

pub join_from-grows : (table : Table) (a : ℕ) (bs : List ℕ) → Grown table (join_made_from table a bs).table
unfolding join_made_from
join_from-grows table a [] = grown-none table
join_from-grows table a (b ∷ bs) = grown-then (alt-grows table a b) (join_from-grows (alt_made table a b).table (alt_made table a b).node bs)

pub join-grows : (table : Table) (bs : List ℕ) → Grown table (join_made table bs).table
unfolding join_made
join-grows table bs = join_from-grows table 0 bs

pub rules-grow : (table : Table) (rules : List Rule) → Grown table (rules_table table rules)
unfolding rules_table
rules-grow table [] = grown-none table
rules-grow table (rule ∷ rules) = grown-then (with-grows table (rule_shape rule)) (rules-grow (with_node table (rule_shape rule)) rules)

-- ---- one state

pub stand_in-grows : (q : ℕ) (stage : Stage) → Grown stage.table (stand_in_made q stage).table
unfolding stand_in_made
stand_in-grows q stage =
    let A = join_made stage.table (nodes (those (looping_node q stage.table) stage.rows)) in
    let I = iter_made q A.table A.node in
    let B = join_made I.table (nodes (those (incoming_node q stage.table) stage.rows)) in
    grown-then (join-grows stage.table (nodes (those (looping_node q stage.table) stage.rows)))
    (grown-then (iter-grows q A.table A.node)
    (grown-then (join-grows I.table (nodes (those (incoming_node q stage.table) stage.rows))) (cat-grows q B.table I.node B.node)))

pub replaced-grows : (q X : ℕ) (table : Table) (row : NodeRow) → Grown table (replaced_made q X table row).table
unfolding replaced_made
replaced-grows q X table row = go (outgoing_node q table row)
  where
    go : (b : Bool) → Grown table (cond {A = Made} b (cat_made q table row.node X) (already table row.node)).table
    go true = cat-grows q table row.node X
    go false = grown-none table

pub rows_grow : (q X : ℕ) (table : Table) (rows : List NodeRow) → Grown table (replaced_rows q X table rows).table
unfolding replaced_rows
rows_grow q X table [] = grown-none table
rows_grow q X table (row ∷ rows) = grown-then (replaced-grows q X table row) (rows_grow q X (replaced_made q X table row).table rows)

pub step-grows : (q : ℕ) (stage : Stage) → Grown stage.table (eliminated_stage q stage).table
unfolding eliminated_stage
step-grows q stage =
    let X = stand_in_made q stage in
    grown-then (stand_in-grows q stage) (rows_grow q X.node X.table (those (remains_node q stage.table) stage.rows))

-- ---- the states, and the join

pub stages-grow : (qs : List ℕ) (stage : Stage) → Grown stage.table (eliminated_stages qs stage).table
unfolding eliminated_stages
stages-grow [] stage = grown-none stage.table
stages-grow (q ∷ qs) stage = grown-then (step-grows q stage) (stages-grow qs (eliminated_stage q stage))

pub join_stage-grows : (stage : Stage) → Grown stage.table (join_stage stage).table
unfolding join_stage
join_stage-grows stage = join-grows stage.table (nodes stage.rows)
