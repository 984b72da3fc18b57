use mathlib.Core.Path.{sym}
use Rattle.elimination.proofs.Makers.{cat-both, cat-left}
use Rattle.elimination.proofs.maker.make_cat.Goals as goal

pub returns-then-is_hole : goal.returns-then-is_hole
returns-then-is_hole c =
    let a = c.args in
    cat-left a.words.now a.count a.left a.right a.q.number (sym c.if-is_hole.ensures)

pub returns : goal.returns
returns c =
    let a = c.args in
    cat-both a.words.now a.count a.left a.right a.q.number a.q.below_width (sym c.if-is_hole.ensures) c.new_node.new.words c.new_node.result c.new_node.ensures
