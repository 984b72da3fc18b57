-- The definitions on node numbers, turn by turn: what each gives by cases of its tests and of its list, for the code that goes the same way.
use Prim.Native.Nat.{ℕ, suc}
use mathlib.Core.Path.{◌≡◌, refl}
use mathlib.Core.Bool.{Bool, true, false, not, ◌&&◌, ◌||◌, and-true}
use mathlib.Core.List.{List, [], ◌∷◌, ◌++◌}
use lib.Dec.{eqb}
use Rattle.automaton.specs.Held.{Rule}
use Rattle.expressions.specs.Nodes.{Table, empty_shape, hole_shape, alt_shape, cat_shape, iter_shape}
use Rattle.ground.specs.Lists.{those}
use Rattle.theory.specs.declared.NodeRow.{NodeRow}
use Rattle.theory.specs.Stages.{Stage, with_node, hole_at, holes_table, rule_shape, rules_table, already, added, is_empty_node, is_hole_node, alt_made, cat_made, iter_made, is_open_row, looping_node, incoming_node, outgoing_node, replaced_made, replaced_rows, remains_node, eliminated_stage, eliminated_stages}

-- ---- making a node

module _ (table : Table) (a b : ℕ) where
  pub alt-left-empty : is_empty_node table a ≡ true → alt_made table a b ≡ already table b
  unfolding alt_made
  alt-left-empty e = rw e

  pub alt-right-empty : is_empty_node table a ≡ false → is_empty_node table b ≡ true → alt_made table a b ≡ already table a
  unfolding alt_made
  alt-right-empty e f = rw (e, f)

  pub alt-new : is_empty_node table a ≡ false → is_empty_node table b ≡ false → alt_made table a b ≡ added table (alt_shape a b)
  unfolding alt_made
  alt-new e f = rw (e, f)

  pub cat-hole : (q : ℕ) → is_hole_node q table a ≡ true → cat_made q table a b ≡ already table b
  unfolding cat_made
  cat-hole q e = rw e

  pub cat-new : (q : ℕ) → is_hole_node q table a ≡ false → cat_made q table a b ≡ added table (cat_shape q a b)
  unfolding cat_made
  cat-new q e = rw e

pub iter-empty : (q : ℕ) (table : Table) (a : ℕ) → is_empty_node table a ≡ true → iter_made q table a ≡ already table (hole_at q)
unfolding iter_made
iter-empty q table a e = rw e

pub iter-new : (q : ℕ) (table : Table) (a : ℕ) → is_empty_node table a ≡ false → iter_made q table a ≡ added table (iter_shape q a)
unfolding iter_made
iter-new q table a e = rw e

-- ---- joining

-- ---- those that pass a test

module _ {A : Type 0} (test : A → Bool) where
  pub those-none : those test [] ≡ []
  unfolding those
  those-none = refl

  pub those-take : (x : A) (xs : List A) → test x ≡ true → those test (x ∷ xs) ≡ x ∷ those test xs
  unfolding those
  those-take x xs e = rw e

  pub those-skip : (x : A) (xs : List A) → test x ≡ false → those test (x ∷ xs) ≡ those test xs
  unfolding those
  those-skip x xs e = rw e

-- ---- the rows' tests

module _ (q : ℕ) (table : Table) (row : NodeRow) where
  pub remains-other : remains_node q table row ≡ not (eqb row.target q)
  unfolding remains_node looping_node incoming_node
  remains-other = go (eqb row.target q) (is_open_row q table row)
    where
      go : (b c : Bool) → not ((b && c) || (b && not c)) ≡ not b
      go true true = refl
      go true false = refl
      go false c = refl

  pub outgoing-open : eqb row.target q ≡ false → outgoing_node q table row ≡ is_open_row q table row
  unfolding outgoing_node
  outgoing-open e = rw e (and-true (is_open_row q table row))

-- ---- replacing

module _ (q X : ℕ) (table : Table) (row : NodeRow) where
  pub replaced-outgoing : outgoing_node q table row ≡ true → replaced_made q X table row ≡ cat_made q table row.node X
  unfolding replaced_made
  replaced-outgoing e = rw e

  pub replaced-kept : outgoing_node q table row ≡ false → replaced_made q X table row ≡ already table row.node
  unfolding replaced_made
  replaced-kept e = rw e

pub rows_next : (q X : ℕ) (table : Table) (row : NodeRow) (rows : List NodeRow)
    → replaced_rows q X table (row ∷ rows)
    ≡ record {
      table = (replaced_rows q X (replaced_made q X table row).table rows).table;
      rows = record { node = (replaced_made q X table row).node; target = row.target } ∷ (replaced_rows q X (replaced_made q X table row).table rows).rows;
    }
unfolding replaced_rows
rows_next q X table row rows = refl

-- ---- the start

pub holes-first : holes_table 0 ≡ with_node [] empty_shape
unfolding holes_table
holes-first = refl

pub holes-next : (q : ℕ) → holes_table (suc q) ≡ with_node (holes_table q) (hole_shape q)
unfolding holes_table
holes-next q = refl

pub rules-next : (table : Table) (rule : Rule) (rules : List Rule) → rules_table table (rule ∷ rules) ≡ rules_table (with_node table (rule_shape rule)) rules
unfolding rules_table
rules-next table rule rules = refl

-- ---- the states

pub stages-then : (qs ps : List ℕ) (stage : Stage) → eliminated_stages (qs ++ ps) stage ≡ eliminated_stages ps (eliminated_stages qs stage)
unfolding eliminated_stages
stages-then [] ps stage = refl
stages-then (q ∷ qs) ps stage = stages-then qs ps (eliminated_stage q stage)

-- one state more, of any list
pub stages-next : (qs : List ℕ) (q : ℕ) (stage : Stage) → eliminated_stages (qs ++ (q ∷ [])) stage ≡ eliminated_stage q (eliminated_stages qs stage)
unfolding eliminated_stages
stages-next qs q stage = stages-then qs (q ∷ []) stage
