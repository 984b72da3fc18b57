-- One state taken out: A, I, B and X, then the rows.
use Prim.Native.Nat.{ℕ, ◌<◌}
use native.Mathlib.Omega.{arith}
use mathlib.Core.Path.{◌≡◌, refl, sym, ◌∙◌, ap, ap₂, subst}
use mathlib.Core.Bool.{Bool, not, ◌&&◌}
use mathlib.Core.List.{List, [], ◌∷◌}
use lib.ListN.{length}
use lib.Dec.{eqb}
use Rattle.std.specs.Prelude.{Result, Ok, Err}
use Rattle.automaton.specs.declared.Refused.{Refused}
use Rattle.sets.specs.Members.{has, state_width}
use Rattle.ground.specs.Lists.{those}
use Rattle.ground.proofs.Lists.{all_map, to-all, those-all}
use Rattle.expressions.specs.declared.Node.{Node}
use Rattle.expressions.specs.Nodes.{Table}
use Rattle.theory.specs.declared.NodeRow.{NodeRow}
use Rattle.theory.specs.Stages.{Stage, Made, hole_at, cat_made, iter_made, join_made, nodes, looping_node, incoming_node, remains_node, stand_in_made, replaced_made, replaced_rows, eliminated_stage}
use Rattle.theory.proofs.Nodes.Grows.{Grown, grown-then, grown-longer, grown-node, cat-grows, iter-grows, join-grows, stand_in-grows, replaced-grows, rows_grow}
use Rattle.theory.proofs.Nodes.Turns.{remains-other}
use Rattle.theory.proofs.Nodes.Mirror.{Low}
use Rattle.theory.proofs.Nodes.MirrorRows.{low-nodes, low-rows-grown}
use Rattle.elimination.specs.declared.maker.Got.{Got}
use Rattle.elimination.specs.declared.step.Pick.TheVariants.{Looping, Incoming}
use Rattle.elimination.specs.declared.rows.Staged.{Staged}
use Rattle.elimination.specs.Inside.{Both, NodeAndRows, NoRoom, HasTable, HasNode, HasStage, GivesNode, NodeOn, LowRows, stage_of, GivesStage, NodeAndStage, StageOn, StagesOn, picks, picked_made, loop_made}
use Rattle.elimination.proofs.Room.{less-room}
use Rattle.elimination.proofs.Makers.{cat-low, iter-low, join-low}
use Rattle.elimination.proofs.Joining.{those-same, picks-looping, picks-incoming}
use Rattle.elimination.proofs.Replacing.{replaced-low}

-- ---- A and I

-- A, by the rows' table
A-made : ℕ → Stage → Made
A-made q stage = join_made stage.table (nodes (those (looping_node q stage.table) stage.rows))

A-grows : (q : ℕ) (stage : Stage) → Grown stage.table (A-made q stage).table
unfolding A-made
A-grows q stage = join-grows stage.table (nodes (those (looping_node q stage.table) stage.rows))

loop-is : (q : ℕ) (stage : Stage) → loop_made q stage ≡ iter_made q (A-made q stage).table (A-made q stage).node
unfolding loop_made A-made
loop-is q stage = refl

loop-grows : (q : ℕ) (stage : Stage) → Grown stage.table (loop_made q stage).table
loop-grows q stage = rw (loop-is q stage) (grown-then (A-grows q stage) (iter-grows q (A-made q stage).table (A-made q stage).node))

loop-low : (q : ℕ) (stage : Stage) → hole_at q < length stage.table → (loop_made q stage).node < length (loop_made q stage).table
loop-low q stage h = rw (loop-is q stage) (let l = grown-longer (A-grows q stage) in iter-low q (A-made q stage).table (A-made q stage).node (omega arith))

low_of : (test : NodeRow → Bool) (rows : List NodeRow) (table : Table) → LowRows rows table → Low table (nodes (those test rows))
low_of test rows table low = low-nodes table (those test rows) (those-all (λ row. row.node < length table) test rows low)

-- the rows that were picked on the words are the looping ones
picked-A : (q : ℕ) → q < state_width → (table : Table) (rows : List NodeRow) → picked_made (Looping q) (stage_of table rows) ≡ A-made q (stage_of table rows)
unfolding A-made
picked-A q hq table rows = ap (λ (chosen : List NodeRow). join_made table (nodes chosen)) (picks-looping q hq table rows)

module _ (q : ℕ) (hq : q < state_width) (rows : List NodeRow) (words : List ℕ) (count : ℕ) (w1 : List ℕ) where
  pub loop-full : (reason : Refused) → NodeOn (NodeAndRows 0 rows) (λ table. picked_made (Looping q) (stage_of table rows)) words count w1 (Err reason)
      → NodeOn (NodeAndRows (hole_at q) rows) (λ table. loop_made q (stage_of table rows)) words count w1 (Err reason)
  loop-full reason xa before table h s =
      let stage = stage_of table rows in
      let l = s.0 in
      less-room (rw (loop-is q stage) (iter-grows q (A-made q stage).table (A-made q stage).node))
      (subst (λ (m : Made). NoRoom before m.table reason) (picked-A q hq table rows) (xa before table h (omega arith, s.1)))

  pub loop-node : (a : Got) → NodeOn (NodeAndRows 0 rows) (λ table. picked_made (Looping q) (stage_of table rows)) words count w1 (Ok a) → (w2 : List ℕ) (r : Result Got Refused)
      → NodeOn (λ table. a.node < length table) (λ table. iter_made q table a.node) w1 a.count w2 r
      → NodeOn (NodeAndRows (hole_at q) rows) (λ table. loop_made q (stage_of table rows)) words count w2 r
  unfolding A-made
  loop-node a xa w2 r xi before table h s =
      let stage = stage_of table rows in
      let l = s.0 in
      let A = A-made q stage in
      let got : HasNode before A w1 a = subst (λ (m : Made). HasNode before m w1 a) (picked-A q hq table rows) (xa before table h (omega arith, s.1)) in
      let low = join-low table (nodes (those (looping_node q table) rows)) (omega arith) (low_of (looping_node q table) rows table s.1) in
      subst (λ (m : Made). GivesNode before m w2 r) (ap (iter_made q A.table) got.node ∙ sym (loop-is q stage)) (xi before A.table got.has (omega (arith, got.node)))

-- ---- B and X

-- a larger table has the same incoming rows
incoming-grown : (q : ℕ) {old new : Table} → Grown old new → (rows : List NodeRow) → LowRows rows old → those (incoming_node q new) rows ≡ those (incoming_node q old) rows
unfolding incoming_node
incoming-grown q {old} {new} x rows low =
    those-same (incoming_node q new) (incoming_node q old) rows
    (all_map rows (λ row h. ap (λ (n : Node). eqb row.target q && not (has n.opens q)) (grown-node x row.node h)) low)

-- B, by the table that I left
B-made : ℕ → Stage → Made
B-made q stage = picked_made (Incoming q) (record { table = (loop_made q stage).table; rows = stage.rows })

B-grows : (q : ℕ) (stage : Stage) → Grown (loop_made q stage).table (B-made q stage).table
unfolding B-made
B-grows q stage = join-grows (loop_made q stage).table (nodes (those (picks (Incoming q) (loop_made q stage).table) stage.rows))

B-low : (q : ℕ) (stage : Stage) → hole_at q < length stage.table → LowRows stage.rows stage.table → (B-made q stage).node < length (B-made q stage).table
unfolding B-made
B-low q stage h low =
    let i = loop-low q stage h in
    join-low (loop_made q stage).table (nodes (those (picks (Incoming q) (loop_made q stage).table) stage.rows)) (omega arith)
    (low_of _ stage.rows (loop_made q stage).table (low-rows-grown (loop-grows q stage) stage.rows low))

stand_in-is : (q : ℕ) → q < state_width → (stage : Stage) → LowRows stage.rows stage.table → cat_made q (B-made q stage).table (loop_made q stage).node (B-made q stage).node ≡ stand_in_made q stage
unfolding stand_in_made loop_made B-made
stand_in-is q hq stage low =
    ap (λ (rows : List NodeRow). let B = join_made (loop_made q stage).table (nodes rows) in cat_made q B.table (loop_made q stage).node B.node)
    (picks-incoming q hq (loop_made q stage).table stage.rows ∙ incoming-grown q (loop-grows q stage) stage.rows low)

-- what I left grows to what X leaves
I-grows : (q : ℕ) → q < state_width → (stage : Stage) → LowRows stage.rows stage.table → Grown (loop_made q stage).table (stand_in_made q stage).table
I-grows q hq stage low =
    rw (← (stand_in-is q hq stage low)) (grown-then (B-grows q stage) (cat-grows q (B-made q stage).table (loop_made q stage).node (B-made q stage).node))

module _ (q : ℕ) (hq : q < state_width) (rows : List NodeRow) (words : List ℕ) (count : ℕ) (w1 : List ℕ) where
  pub stand-full : (reason : Refused) → NodeOn (NodeAndRows (hole_at q) rows) (λ table. loop_made q (stage_of table rows)) words count w1 (Err reason)
      → NodeOn (NodeAndRows (hole_at q) rows) (λ table. stand_in_made q (stage_of table rows)) words count w1 (Err reason)
  stand-full reason xi before table h s = less-room (I-grows q hq (stage_of table rows) s.1) (xi before table h s)

  module _ (i : Got) (xi : NodeOn (NodeAndRows (hole_at q) rows) (λ table. loop_made q (stage_of table rows)) words count w1 (Ok i)) (w2 : List ℕ) where
    module _ (before : List ℕ) (table : Table) (h : HasTable before table words count) (s : NodeAndRows (hole_at q) rows table) where
      suits-B : NodeAndRows 0 rows (loop_made q (stage_of table rows)).table
      suits-B = let l = loop-low q (stage_of table rows) s.0 in (omega arith, low-rows-grown (loop-grows q (stage_of table rows)) rows s.1)

    pub joined-full : (reason : Refused) → NodeOn (NodeAndRows 0 rows) (λ table. picked_made (Incoming q) (stage_of table rows)) w1 i.count w2 (Err reason)
        → NodeOn (NodeAndRows (hole_at q) rows) (λ table. stand_in_made q (stage_of table rows)) words count w2 (Err reason)
    unfolding B-made
    joined-full reason xb before table h s =
        let stage = stage_of table rows in
        let I = loop_made q stage in
        less-room (rw (← (stand_in-is q hq stage s.1)) (cat-grows q (B-made q stage).table I.node (B-made q stage).node))
        (xb before I.table (xi before table h s).has (suits-B before table h s))

    pub stand-in : (b : Got) → NodeOn (NodeAndRows 0 rows) (λ table. picked_made (Incoming q) (stage_of table rows)) w1 i.count w2 (Ok b) → (w3 : List ℕ) (r : Result Got Refused)
        → NodeOn (Both i.node b.node) (λ table. cat_made q table i.node b.node) w2 b.count w3 r
        → NodeOn (NodeAndRows (hole_at q) rows) (λ table. stand_in_made q (stage_of table rows)) words count w3 r
    unfolding B-made
    stand-in b xb w3 r xx before table h s =
        let stage = stage_of table rows in
        let I = loop_made q stage in
        let B = B-made q stage in
        let gi = xi before table h s in
        let gb = xb before I.table gi.has (suits-B before table h s) in
        let a = loop-low q stage s.0 in
        let c = B-low q stage s.0 s.1 in
        let l = grown-longer (B-grows q stage) in
        subst (λ (m : Made). GivesNode before m w3 r) (ap₂ (cat_made q B.table) gi.node gb.node ∙ stand_in-is q hq stage s.1)
        (xx before B.table gb.has (omega (arith, gi.node), omega (arith, gb.node)))

-- ---- the rows

-- the same rows remain by any table
remains-any : (q : ℕ) (s t : Table) (rows : List NodeRow) → those (remains_node q s) rows ≡ those (remains_node q t) rows
remains-any q s t rows = those-same (remains_node q s) (remains_node q t) rows (to-all _ rows (λ row _. remains-other q s row ∙ sym (remains-other q t row)))

rows-low : (q X : ℕ) (table : Table) (rows : List NodeRow) → X < length table → LowRows rows table → LowRows (replaced_rows q X table rows).rows (replaced_rows q X table rows).table
unfolding replaced_rows
rows-low q X table [] h_x low = tt
rows-low q X table (row ∷ rows) h_x low =
    let made = replaced_made q X table row in
    let g = replaced-grows q X table row in
    let l = grown-longer g in
    let m = grown-longer (rows_grow q X made.table rows) in
    let h = replaced-low q X table row low.0 h_x in
    (omega arith, rows-low q X made.table rows (omega arith) (low-rows-grown g rows low.1))

stand_in-low : (q : ℕ) → q < state_width → (stage : Stage) → hole_at q < length stage.table → LowRows stage.rows stage.table → (stand_in_made q stage).node < length (stand_in_made q stage).table
stand_in-low q hq stage h low = rw (← (stand_in-is q hq stage low)) (cat-low q (B-made q stage).table (loop_made q stage).node (B-made q stage).node (B-low q stage h low))

-- the rows of a stage that a state was taken out of are nodes of its table again
pub eliminated-low : (q : ℕ) → q < state_width → (stage : Stage) → NodeAndStage (hole_at q) stage → LowRows (eliminated_stage q stage).rows (eliminated_stage q stage).table
unfolding eliminated_stage
eliminated-low q hq stage s =
    rows-low q (stand_in_made q stage).node (stand_in_made q stage).table (those (remains_node q stage.table) stage.rows) (stand_in-low q hq stage s.0 s.1)
    (low-rows-grown (stand_in-grows q stage) (those (remains_node q stage.table) stage.rows)
    (those-all (λ row. row.node < length stage.table) (remains_node q stage.table) stage.rows s.1))

-- the rows that stay, by the table that X left and by the stage's own
rows-stay : (q : ℕ) (stage : Stage) → replaced_rows q (stand_in_made q stage).node (stand_in_made q stage).table (those (remains_node q (stand_in_made q stage).table) stage.rows) ≡ eliminated_stage q stage
unfolding eliminated_stage
rows-stay q stage = let X = stand_in_made q stage in ap (replaced_rows q X.node X.table) (remains-any q X.table stage.table stage.rows)

module _ (q : ℕ) (hq : q < state_width) (words : List ℕ) (staged : Staged) (w1 : List ℕ) where
  -- the rows that were listed are the stage's
  module _ (before : List ℕ) (stage : Stage) (h : HasStage before stage words staged) (s : NodeAndStage (hole_at q) stage) where
    stage-is : stage_of stage.table staged.list ≡ stage
    stage-is = ap (stage_of stage.table) h.listed

    suits : NodeAndRows (hole_at q) staged.list stage.table
    suits = (s.0, rw h.listed s.1)

  pub out-full : (reason : Refused) → NodeOn (NodeAndRows (hole_at q) staged.list) (λ table. stand_in_made q (stage_of table staged.list)) words staged.count w1 (Err reason)
      → StagesOn (NodeAndStage (hole_at q)) (eliminated_stage q) words staged w1 (Err reason)
  out-full reason xx before stage h s =
      let X = stand_in_made q stage in
      less-room (subst (λ (t : Stage). Grown X.table t.table) (rows-stay q stage) (rows_grow q X.node X.table (those (remains_node q X.table) stage.rows)))
      (subst (λ (t : Stage). NoRoom before (stand_in_made q t).table reason) (stage-is before stage h s) (xx before stage.table h.has (suits before stage h s)))

  module _ (x : Got) (xx : NodeOn (NodeAndRows (hole_at q) staged.list) (λ table. stand_in_made q (stage_of table staged.list)) words staged.count w1 (Ok x))
      (w2 : List ℕ) (r : Result Staged Refused)
      (xr : StageOn (NodeAndRows x.node staged.list) (λ table. replaced_rows q x.node table (those (remains_node q table) staged.list)) w1 x.count w2 r) where
    pub taken_out : StagesOn (NodeAndStage (hole_at q)) (eliminated_stage q) words staged w2 r
    taken_out before stage h s =
        let X = stand_in_made q stage in
        let got : HasNode before X w1 x = subst (λ (t : Stage). HasNode before (stand_in_made q t) w1 x) (stage-is before stage h s) (xx before stage.table h.has (suits before stage h s)) in
        let low = stand_in-low q hq stage s.0 s.1 in
        let e : replaced_rows q x.node X.table (those (remains_node q X.table) staged.list) ≡ eliminated_stage q stage =
        ap₂ (λ (n : ℕ) (rows : List NodeRow). replaced_rows q n X.table (those (remains_node q X.table) rows)) got.node h.listed ∙ rows-stay q stage in
        subst (λ (t : Stage). GivesStage before t w2 r) e
        (xr before X.table got.has (omega (arith, got.node), rw h.listed (low-rows-grown (stand_in-grows q stage) stage.rows s.1)))
