use mathlib.Core.Path.{sym}
use Rattle.elimination.proofs.Makers.{alt-both, alt-left, alt-right}
use Rattle.elimination.proofs.maker.make_alt.Goals as goal

pub returns-then-is_empty : goal.returns-then-is_empty
returns-then-is_empty c =
    let a = c.args in
    alt-left a.words.now a.count a.left a.right (sym c.if-is_empty.ensures)

pub returns-then-is_empty-2 : goal.returns-then-is_empty-2
returns-then-is_empty-2 c =
    let a = c.args in
    alt-right a.words.now a.count a.left a.right (sym c.if-is_empty.ensures) (sym c.if-is_empty-2.ensures)

pub returns : goal.returns
returns c =
    let a = c.args in
    alt-both a.words.now a.count a.left a.right (sym c.if-is_empty.ensures) (sym c.if-is_empty-2.ensures) c.new_node.new.words c.new_node.result c.new_node.ensures
