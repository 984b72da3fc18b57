use native.Mathlib.Omega.{arith}
use Rattle.sets.specs.Members.{state_width}
use Rattle.expressions.specs.Words.{node_in}
use Rattle.elimination.proofs.Makers.{size_few}
use Rattle.elimination.proofs.report.list_row.Goals as goal

pub overflow_cast-waits : goal.overflow_cast-waits
overflow_cast-waits c =
    let a = c.args in
    let e = c.waits-waits.ensures in
    let s = size_few state_width (node_in a.words.now c.wide.result).opens in
    omega arith
