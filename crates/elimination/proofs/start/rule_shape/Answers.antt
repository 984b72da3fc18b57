use Prim.Native.Nat.{ℕ}
use lib.ListN.{get_or}
use mathlib.Core.Path.{◌∙◌, ap}
use native.Mathlib.Omega.{arith}
use Rattle.elimination.specs.Inside.{row_shape}
use Rattle.elimination.proofs.Starting.{row-shape}
use Rattle.elimination.proofs.start.rule_shape.Goals as goal

pub returns : goal.returns
returns c =
    let a = c.args in
    let child = c.children.ensures in
    rw c.wide-2.ensures
    (row-shape a.rule (get_or a.arities.now c.from.result 0) c.wide.result _ _ _ c.wide.ensures (child 0 (omega arith)) (child 1 (omega arith)) (child 2 (omega arith))
    ∙ ap (λ (n : ℕ). row_shape a.rule (get_or a.arities.now n 0)) c.from.ensures)
