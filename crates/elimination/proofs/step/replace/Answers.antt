use Prim.Native.Nat.{ℕ}
use mathlib.Core.Path.{◌∙◌, ap, sym}
use Rattle.expressions.specs.Words.{node_in}
use Rattle.elimination.specs.Inside.{open_in}
use Rattle.elimination.proofs.Replacing.{replace-open, replace-own}
use Rattle.elimination.proofs.step.replace.Goals as goal

pub returns-then-opens : goal.returns-then-opens
returns-then-opens c =
    let a = c.args in
    let w = c.wide-node.ensures in
    let o = ap (λ (n : ℕ). open_in a.q.number (node_in a.words.now n)) (sym w) ∙ sym c.if-opens.ensures in
    replace-open a.words.now a.count a.q.number a.q.below_width a.standin a.row c.requires o c.make_cat.new.words c.make_cat.result (rw w at c.make_cat.ensures)

pub returns : goal.returns
returns c =
    let a = c.args in
    let w = c.wide-node.ensures in
    let o = ap (λ (n : ℕ). open_in a.q.number (node_in a.words.now n)) (sym w) ∙ sym c.if-opens.ensures in
    rw w (replace-own a.words.now a.count a.q.number a.q.below_width a.standin a.row c.requires o)
