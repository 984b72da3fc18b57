use mathlib.Core.Path.{refl, sym, ◌∙◌}
use Rattle.std.proofs.lemmas.Result.{err_from_is_err_and}
use Rattle.elimination.proofs.Replacing.{replace-end, replace-full, replace-gone, replace-more, replace-start}
use Rattle.elimination.proofs.step.replace_rows.Goals as goal
use Rattle.elimination.proofs.step.replace_rows.Goals.{then-wide-q+in_ok-got, else-wide-q}

pub loop-row-init : goal.loop-row-init
loop-row-init c =
    let a = c.args in
    rw c.new-list.ensures (replace-start a.q.number a.x.node a.rows.now a.words.now a.x.count)

pub returns-in_err-got : goal.returns-in_err-got
returns-in_err-got c =
    let a = c.args in
    let l = c.loop-row in
    let p = err_from_is_err_and c.from_residual.result c.from_residual.ensures.1 in
    rw (p.1, p.2)
    (replace-full a.q.number a.x.node a.rows.now a.words.now a.x.count l.words l.list l.count l.row-index l.invariant c.loop-row-test.true _ refl (λ e. c.if-wide-q.true (c.wide.ensures ∙ e)) c.replace.new.words c.in_err-got.field-0.0 c.in_err-got.ensures)

pub loop-row-preserved : goal.loop-row-preserved
loop-row-preserved c =
    let a = c.args in
    let l = c.loop-row in
    elim c.if-wide-q.branch [
      | then-wide-q+in_ok-got w ↦
          rw (w.words-is, w.list-is, w.count-is, w.push.ensures)
          (replace-more a.q.number a.x.node a.rows.now a.words.now a.x.count l.words l.list l.count l.row-index l.invariant c.loop-row-test.true _ refl (λ e. w.if-wide-q.true (c.wide.ensures ∙ e)) w.replace.new.words w.in_ok-got.got w.in_ok-got.ensures w.row.result w.row.ensures)
      | else-wide-q w ↦
          rw (w.words-is, w.list-is, w.count-is)
          (replace-gone a.q.number a.x.node a.rows.now a.words.now a.x.count l.words l.list l.count l.row-index l.invariant c.loop-row-test.true _ refl (sym c.wide.ensures ∙ w.if-wide-q.false))
    ]

pub returns : goal.returns
returns c =
    let a = c.args in
    let l = c.loop-row in
    replace-end a.q.number a.x.node a.rows.now a.words.now a.x.count l.words l.list l.count l.row-index l.invariant c.loop-row-test.false
