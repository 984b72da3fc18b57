use mathlib.Core.Path.{sym}
use Rattle.elimination.proofs.Makers.{iter-none, iter-some}
use Rattle.elimination.proofs.maker.make_iter.Goals as goal

pub returns-then-is_empty : goal.returns-then-is_empty
returns-then-is_empty c =
    let a = c.args in
    iter-none a.words.now a.count a.child a.q.number (sym c.if-is_empty.ensures)

pub returns : goal.returns
returns c =
    let a = c.args in
    iter-some a.words.now a.count a.child a.q.number a.q.below_width (sym c.if-is_empty.ensures) c.new_node.new.words c.new_node.result c.new_node.ensures
