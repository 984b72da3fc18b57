-- How many nodes a conversion makes: a step at most one more than there are rows, and the whole at most 1 + n + t + n × (t + f + 1) + f.
use Prim.Native.Nat.{ℕ, suc, ◌+◌, ◌≤◌}
use native.Mathlib.Omega.{arith}
use mathlib.Core.Path.{◌≡◌, refl, subst⁻¹}
use mathlib.Core.Bool.{Bool, true, false, cond, not, ◌&&◌, ◌||◌}
use mathlib.Core.List.{List, [], ◌∷◌}
use lib.ListN.{length, length-map}
use lib.Dec.{eqb}
use Rattle.expressions.specs.declared.Shape.{Shape}
use Rattle.expressions.specs.Nodes.{Table, alt_shape, cat_shape, iter_shape}
use Rattle.ground.specs.Lists.{those}
use Rattle.theory.specs.declared.NodeRow.{NodeRow}
use Rattle.theory.specs.Stages.{Stage, hole_at, Made, already, added, is_empty_node, is_hole_node, alt_made, cat_made, iter_made, join_made_from, join_made, is_open_row, looping_node, incoming_node, outgoing_node, nodes, stand_in_made, replaced_made, replaced_rows, remains_node, eliminated_stage}
use Rattle.theory.proofs.Nodes.Turns.{alt-left-empty, iter-empty}
use Rattle.theory.proofs.Nodes.StartTable.{with-length}

-- ---- one node at most

one_more : (c : Bool) (table : Table) (i : ℕ) (shape : Shape) → length (cond {A = Made} c (already table i) (added table shape)).table ≤ suc (length table)
one_more true table i shape = omega arith
one_more false table i shape = omega (arith, with-length table shape)

alt-room : (table : Table) (a b : ℕ) → length (alt_made table a b).table ≤ suc (length table)
unfolding alt_made
alt-room table a b = go (is_empty_node table a) (is_empty_node table b)
  where
    go : (c d : Bool) → length (cond {A = Made} c (already table b) (cond d (already table a) (added table (alt_shape a b)))).table ≤ suc (length table)
    go true d = omega arith
    go false d = one_more d table a (alt_shape a b)

pub cat-room : (q : ℕ) (table : Table) (a b : ℕ) → length (cat_made q table a b).table ≤ suc (length table)
unfolding cat_made
cat-room q table a b = one_more (is_hole_node q table a) table b (cat_shape q a b)

iter-room : (q : ℕ) (table : Table) (a : ℕ) → length (iter_made q table a).table ≤ suc (length table)
unfolding iter_made
iter-room q table a = one_more (is_empty_node table a) table (hole_at q) (iter_shape q a)

-- ---- joining

join_from-room : (table : Table) (a : ℕ) (bs : List ℕ) → length (join_made_from table a bs).table ≤ length table + length bs
unfolding join_made_from
join_from-room table a [] = omega arith
join_from-room table a (b ∷ bs) = omega (arith, alt-room table a b, join_from-room (alt_made table a b).table (alt_made table a b).node bs)

pub join-room : (table : Table) (bs : List ℕ) → length (join_made table bs).table ≤ length table + length bs
unfolding join_made
join-room table bs = join_from-room table 0 bs

-- the first is joined with the empty node, and makes none
join_first : (table : Table) (b : ℕ) (bs : List ℕ) → is_empty_node table 0 ≡ true → length (join_made table (b ∷ bs)).table ≤ length table + length bs
unfolding join_made join_made_from
join_first table b bs e = subst⁻¹ (λ (m : Made). length (join_made_from m.table m.node bs).table ≤ length table + length bs) (alt-left-empty table 0 b e) (join_from-room table b bs)

-- so that joining the looping rows and iterating makes at most as many as there are
loop-room : (q : ℕ) (table : Table) (bs : List ℕ) → is_empty_node table 0 ≡ true → length (iter_made q (join_made table bs).table (join_made table bs).node).table ≤ length table + length bs
unfolding join_made join_made_from
loop-room q table [] e = subst⁻¹ (λ (m : Made). length m.table ≤ length table + 0) (iter-empty q table 0 e) (omega arith)
loop-room q table (b ∷ bs) e = omega (arith, iter-room q (join_made table (b ∷ bs)).table (join_made table (b ∷ bs)).node, join_first table b bs e)

-- ---- one state

replaced-room : (q X : ℕ) (table : Table) (row : NodeRow) → length (replaced_made q X table row).table ≤ suc (length table)
unfolding replaced_made
replaced-room q X table row = go (outgoing_node q table row)
  where
    go : (b : Bool) → length (cond {A = Made} b (cat_made q table row.node X) (already table row.node)).table ≤ suc (length table)
    go true = cat-room q table row.node X
    go false = omega arith

replaced_rows-room : (q X : ℕ) (table : Table) (rows : List NodeRow) → length (replaced_rows q X table rows).table ≤ length table + length rows
unfolding replaced_rows
replaced_rows-room q X table [] = omega arith
replaced_rows-room q X table (row ∷ rows) = omega (arith, replaced-room q X table row, replaced_rows-room q X (replaced_made q X table row).table rows)

-- each row loops, comes in or remains
three-kinds : (q : ℕ) (table : Table) (rows : List NodeRow)
    → length (those (looping_node q table) rows) + length (those (incoming_node q table) rows) + length (those (remains_node q table) rows) ≡ length rows
unfolding those looping_node incoming_node remains_node
three-kinds q table [] = refl
three-kinds q table (row ∷ rows) = go (eqb row.target q) (is_open_row q table row) (three-kinds q table rows)
  where
    L : List NodeRow
    L = those (looping_node q table) rows

    I : List NodeRow
    I = those (incoming_node q table) rows

    R : List NodeRow
    R = those (remains_node q table) rows

    go : (b c : Bool) → length L + length I + length R ≡ length rows
        → length (cond (b && c) (row ∷ L) L) + length (cond (b && not c) (row ∷ I) I) + length (cond (not ((b && c) || (b && not c))) (row ∷ R) R) ≡ suc (length rows)
    go true true h = omega arith
    go true false h = omega arith
    go false true h = omega arith
    go false false h = omega arith

-- a step makes at most one node more than there are rows
pub step_room : (q : ℕ) (stage : Stage) → is_empty_node stage.table 0 ≡ true → length (eliminated_stage q stage).table ≤ length stage.table + suc (length stage.rows)
unfolding eliminated_stage stand_in_made
step_room q stage e =
    let table = stage.table in
    let rows = stage.rows in
    let loops = those (looping_node q table) rows in
    let comes = those (incoming_node q table) rows in
    let stay = those (remains_node q table) rows in
    let A = join_made table (nodes loops) in
    let I = iter_made q A.table A.node in
    let B = join_made I.table (nodes comes) in
    let X = cat_made q B.table I.node B.node in
    let h1 = loop-room q table (nodes loops) e in
    let h2 = join-room I.table (nodes comes) in
    let h3 = cat-room q B.table I.node B.node in
    let h4 = replaced_rows-room q X.node X.table stay in
    let h5 = three-kinds q table rows in
    omega (arith, length-map loops (λ (row : NodeRow). row.node), length-map comes (λ (row : NodeRow). row.node))
