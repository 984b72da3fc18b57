-- One state, the states and the join on node numbers mirror those on expressions.
use Prim.Native.Nat.{ℕ, ◌<◌, ◌≤◌}
use native.Mathlib.Omega.{arith}
use mathlib.Core.Path.{◌≡◌, refl, sym, ◌∙◌, ap, ap₂, subst}
use mathlib.Core.Bool.{Bool, true, false, cond, not, ◌&&◌, ◌||◌}
use mathlib.Core.List.{List, [], ◌∷◌, map}
use lib.ListN.{length}
use lib.Dec.{eqb}
use Rattle.ground.specs.Lists.{All, those}
use Rattle.meaning.specs.Expressions.{Expr, is_open}
use Rattle.expressions.specs.Nodes.{Table}
use Rattle.expressions.specs.Unfolding.{expr_at}
use Rattle.expressions.specs.Soundness.{SoundNodes}
use Rattle.ground.proofs.Lists.{all_map, those-map, those-all}
use Rattle.expressions.proofs.OpenSets.{open_of}
use Rattle.theory.proofs.Expressions.OnExpressions.{make_cat, make_iter, joined, looping, incoming, outgoing, exprs, stand_in, replaced, remains, eliminated, eliminated_all, answer_of}
use Rattle.theory.specs.RowLists.{ExprRow}
use Rattle.theory.specs.declared.NodeRow.{NodeRow}
use Rattle.theory.specs.Stages.{Stage, unfolded_row, already, cat_made, iter_made, join_made, is_open_row, looping_node, incoming_node, outgoing_node, nodes, stand_in_made, replaced_made, replaced_rows, remains_node, eliminated_stage, eliminated_stages, join_stage}
use Rattle.theory.proofs.Nodes.Grows.{Grown, grown-none, grown-then, grown-longer, grown-expr}
use Rattle.theory.proofs.Nodes.Mirror.{Mirrors, already-mirrors, cat-mirrors, Begins, begins-grown, iter-mirrors, Low, low-grown, exprs-grown, join-mirrors}

-- ---- rows whose nodes stand in the table

abbrev pub LowRows : Table → List NodeRow → Type 0
LowRows table rows = All (λ row. row.node < length table) rows

pub low-rows-grown : {old new : Table} → Grown old new → (rows : List NodeRow) → LowRows old rows → LowRows new rows
low-rows-grown x rows a = all_map rows (λ row h. let l = grown-longer x in omega arith) a

pub rows_grown : {old new : Table} → Grown old new → (rows : List NodeRow) → LowRows old rows → map (unfolded_row new) rows ≡ map (unfolded_row old) rows
rows_grown x [] a = refl
rows_grown x (row ∷ rows) a = ap₂ ◌∷◌ (λ i. record { expr = grown-expr x row.node a.0 i; target = row.target }) (rows_grown x rows a.1)

pub low-nodes : (table : Table) (rows : List NodeRow) → LowRows table rows → Low table (nodes rows)
low-nodes table [] a = tt
low-nodes table (row ∷ rows) a = (a.0, low-nodes table rows a.1)

-- the expressions of the rows' nodes
pub nodes-exprs : (table : Table) (rows : List NodeRow) → map (expr_at table) (nodes rows) ≡ exprs (map (unfolded_row table) rows)
nodes-exprs table [] = refl
nodes-exprs table (row ∷ rows) = ap (expr_at table row.node ∷◌) (nodes-exprs table rows)

-- ---- the tests on rows

module _ (table : Table) (s : SoundNodes table) (q : ℕ) where
  open-same : (row : NodeRow) → row.node < length table → is_open_row q table row ≡ is_open (expr_at table row.node) q
  open-same row h = (open_of table s row.node h).same q

  looping-same : (row : NodeRow) → row.node < length table → looping_node q table row ≡ looping q (unfolded_row table row)
  unfolding looping_node looping
  looping-same row h = ap (λ (b : Bool). eqb row.target q && b) (open-same row h)

  incoming-same : (row : NodeRow) → row.node < length table → incoming_node q table row ≡ incoming q (unfolded_row table row)
  unfolding incoming_node incoming
  incoming-same row h = ap (λ (b : Bool). eqb row.target q && not b) (open-same row h)

  outgoing-same : (row : NodeRow) → row.node < length table → outgoing_node q table row ≡ outgoing q (unfolded_row table row)
  unfolding outgoing_node outgoing
  outgoing-same row h = ap (λ (b : Bool). b && not (eqb row.target q)) (open-same row h)

  remains-same : (row : NodeRow) → row.node < length table → remains_node q table row ≡ remains q (unfolded_row table row)
  unfolding remains_node remains
  remains-same row h = ap₂ (λ (a b : Bool). not (a || b)) (looping-same row h) (incoming-same row h)

  -- the rows that pass a test
  chosen-rows : (f : NodeRow → Bool) (g : ExprRow → Bool) (rows : List NodeRow) → ((row : NodeRow) → row.node < length table → f row ≡ g (unfolded_row table row))
      → LowRows table rows → map (unfolded_row table) (those f rows) ≡ those g (map (unfolded_row table) rows)
  chosen-rows f g rows e a = those-map (unfolded_row table) f g rows (all_map rows e a)

  chosen-exprs : (f : NodeRow → Bool) (g : ExprRow → Bool) (rows : List NodeRow) → ((row : NodeRow) → row.node < length table → f row ≡ g (unfolded_row table row))
      → LowRows table rows → map (expr_at table) (nodes (those f rows)) ≡ exprs (those g (map (unfolded_row table) rows))
  chosen-exprs f g rows e a = nodes-exprs table (those f rows) ∙ ap exprs (chosen-rows f g rows e a)

-- ---- replacing

-- a sound table that goes on from the old one, whose rows unfold to these
pub record MirrorsRows (old : Table) (stage : Stage) (rows : List ExprRow) : Type 0 where
  pub grown : Grown old stage.table
  pub sound : SoundNodes stage.table
  pub low : LowRows stage.table stage.rows
  pub is : map (unfolded_row stage.table) stage.rows ≡ rows

replaced-mirrors : (q X : ℕ) (table : Table) (row : NodeRow) → q < 16 → SoundNodes table → X < length table → row.node < length table
    → Mirrors table (replaced_made q X table row) (replaced q (expr_at table X) (unfolded_row table row)).expr
unfolding replaced_made replaced
replaced-mirrors q X table row hq s h_x h =
    subst (λ (b : Bool). Mirrors table (cond b (cat_made q table row.node X) (already table row.node)) (replaced q (expr_at table X) (unfolded_row table row)).expr)
    (sym (outgoing-same table s q row h)) (go (outgoing q (unfolded_row table row)))
  where
    go : (b : Bool) → Mirrors table (cond b (cat_made q table row.node X) (already table row.node)) (cond b (make_cat q (expr_at table row.node) (expr_at table X)) (expr_at table row.node))
    go true = cat-mirrors table s q row.node X hq h h_x
    go false = already-mirrors table row.node s h

-- a row with the replaced row's expression, and its own target
replaced-row : (q : ℕ) (X : Expr) (row : ExprRow) (e : Expr) → e ≡ (replaced q X row).expr → ◌≡◌ {A = ExprRow} (record { expr = e; target = row.target }) (replaced q X row)
unfolding replaced
replaced-row q X row e p = λ i. record { expr = p i; target = row.target }

replaced_rows-mirror : (q X : ℕ) (table : Table) (rows : List NodeRow) → q < 16 → SoundNodes table → X < length table → LowRows table rows
    → MirrorsRows table (replaced_rows q X table rows) (map (replaced q (expr_at table X)) (map (unfolded_row table) rows))
unfolding replaced_rows
replaced_rows-mirror q X table [] hq s h_x a = record { grown = grown-none table; sound = s; low = tt; is = refl }
replaced_rows-mirror q X table (row ∷ rows) hq s h_x a =
    let m = replaced-mirrors q X table row hq s h_x a.0 in
    let l = grown-longer m.grown in
    let h : X < length (replaced_made q X table row).table = omega arith in
    more m (replaced_rows-mirror q X (replaced_made q X table row).table rows hq m.sound h (low-rows-grown m.grown rows a.1))
  where
    next : Table
    next = (replaced_made q X table row).table

    more : Mirrors table (replaced_made q X table row) (replaced q (expr_at table X) (unfolded_row table row)).expr
        → MirrorsRows next (replaced_rows q X next rows) (map (replaced q (expr_at next X)) (map (unfolded_row next) rows))
        → MirrorsRows table (replaced_rows q X table (row ∷ rows)) (map (replaced q (expr_at table X)) (map (unfolded_row table) (row ∷ rows)))
    more m r =
        let l = grown-longer r.grown in
        let k = m.low in
        record {
          grown = grown-then m.grown r.grown;
          sound = r.sound;
          low = (omega arith, r.low);
          is = ap₂ ◌∷◌ (replaced-row q (expr_at table X) (unfolded_row table row) _ (grown-expr r.grown (replaced_made q X table row).node m.low ∙ m.is))
              (r.is ∙ ap₂ (λ (e : Expr) (l : List ExprRow). map (replaced q e) l) (grown-expr m.grown X h_x) (rows_grown m.grown rows a.1));
        }

-- ---- one state

module _ (n q : ℕ) (stage : Stage) (hq : q < n) (few : n ≤ 16) (b : Begins n stage.table) (s : SoundNodes stage.table) (low : LowRows stage.table stage.rows) where
  pub stand_in-mirrors : Mirrors stage.table (stand_in_made q stage) (stand_in q (map (unfolded_row stage.table) stage.rows))
  unfolding stand_in_made stand_in
  stand_in-mirrors =
      let table = stage.table in
      let rows = stage.rows in
      let loops = nodes (those (looping_node q table) rows) in
      let comes = nodes (those (incoming_node q table) rows) in
      let low-loops = low-nodes table (those (looping_node q table) rows) (those-all (λ row. row.node < length table) (looping_node q table) rows low) in
      let low-comes = low-nodes table (those (incoming_node q table) rows) (those-all (λ row. row.node < length table) (incoming_node q table) rows low) in
      let A = join_made table loops in
      let m_a = join-mirrors n table loops b s low-loops in
      let i_a = m_a.is ∙ ap joined (chosen-exprs table s q (looping_node q table) (looping q) rows (looping-same table s q) low) in
      let b_a = begins-grown m_a.grown b in
      let I = iter_made q A.table A.node in
      let m_i = iter-mirrors n q A.table A.node b_a hq few m_a.sound m_a.low in
      let i_i = m_i.is ∙ ap (make_iter q) i_a in
      let b_i = begins-grown m_i.grown b_a in
      let x_i = grown-then m_a.grown m_i.grown in
      let B = join_made I.table comes in
      let m_b = join-mirrors n I.table comes b_i m_i.sound (low-grown x_i comes low-comes) in
      let i_b = m_b.is ∙ ap joined (exprs-grown x_i comes low-comes ∙ chosen-exprs table s q (incoming_node q table) (incoming q) rows (incoming-same table s q) low) in
      let l_i = m_i.low in
      let l_b = grown-longer m_b.grown in
      let h_i : I.node < length B.table = omega arith in
      let m_x = cat-mirrors B.table m_b.sound q I.node B.node (omega arith) h_i m_b.low in
      record {
        grown = grown-then x_i (grown-then m_b.grown m_x.grown);
        sound = m_x.sound;
        low = m_x.low;
        is = m_x.is ∙ ap₂ (make_cat q) (grown-expr m_b.grown I.node m_i.low ∙ i_i) i_b;
      }

  pub step-mirrors : MirrorsRows stage.table (eliminated_stage q stage) (eliminated q (map (unfolded_row stage.table) stage.rows))
  unfolding eliminated_stage eliminated
  step-mirrors =
      let table = stage.table in
      let X = stand_in_made q stage in
      let m_x = stand_in-mirrors in
      let rows = those (remains_node q table) stage.rows in
      let Low-rows = those-all (λ row. row.node < length table) (remains_node q table) stage.rows low in
      let r = replaced_rows-mirror q X.node X.table rows (omega arith) m_x.sound m_x.low (low-rows-grown m_x.grown rows Low-rows) in
      record {
        grown = grown-then m_x.grown r.grown;
        sound = r.sound;
        low = r.low;
        is = r.is ∙ ap₂ (λ (e : Expr) (l : List ExprRow). map (replaced q e) l) m_x.is
            (rows_grown m_x.grown rows Low-rows ∙ chosen-rows table s q (remains_node q table) (remains q) stage.rows (remains-same table s q) low);
      }

-- ---- the states, and the join

pub steps-mirror : (n : ℕ) (gone : List ℕ) (stage : Stage) → n ≤ 16 → All (λ q. q < n) gone → Begins n stage.table → SoundNodes stage.table → LowRows stage.table stage.rows
    → MirrorsRows stage.table (eliminated_stages gone stage) (eliminated_all gone (map (unfolded_row stage.table) stage.rows))
unfolding eliminated_stages eliminated_all
steps-mirror n [] stage few a b s low = record { grown = grown-none stage.table; sound = s; low = low; is = refl }
steps-mirror n (q ∷ gone) stage few a b s low =
    let m = step-mirrors n q stage a.0 few b s low in
    let r = steps-mirror n gone (eliminated_stage q stage) few a.1 (begins-grown m.grown b) m.sound m.low in
    record { grown = grown-then m.grown r.grown; sound = r.sound; low = r.low; is = r.is ∙ ap (eliminated_all gone) m.is }

pub join_stage-mirrors : (n : ℕ) (stage : Stage) → Begins n stage.table → SoundNodes stage.table → LowRows stage.table stage.rows
    → Mirrors stage.table (join_stage stage) (answer_of (map (unfolded_row stage.table) stage.rows))
unfolding join_stage answer_of
join_stage-mirrors n stage b s low =
    subst (λ (es : List Expr). Mirrors stage.table (join_made stage.table (nodes stage.rows)) (joined es)) (nodes-exprs stage.table stage.rows)
    (join-mirrors n stage.table (nodes stage.rows) b s (low-nodes stage.table stage.rows low))
