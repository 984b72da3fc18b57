-- `nodes::cat_opens` meets its contract.
use mathlib.Core.Path.{sym, ◌∙◌}
use Rattle.expressions.proofs.Checks.{cat-joined, cat-lacks}
use Rattle.expressions.proofs.nodes.cat_opens.Goals as goal

pub returns-then-has : goal.returns-then-has
returns-then-has c =
    let a = c.args in
    c.wide.ensures ∙ c.union.ensures
    ∙ rw (c.without.ensures, c.of_word.ensures, c.of_word-set.ensures)
    (cat-joined a.q a.left a.right c.requires (rw (← c.of_word-set.ensures) (sym c.has.ensures ∙ c.if-has.true)))

pub returns-else-has : goal.returns-else-has
returns-else-has c =
    let a = c.args in
    cat-lacks a.q a.left a.right c.requires (rw (← c.of_word-set.ensures) (sym c.has.ensures ∙ c.if-has.false))
