use mathlib.Core.Path.{refl}
use Rattle.std.proofs.lemmas.Result.{err_from_is_err_and}
use Rattle.elimination.proofs.Joining.{join-end, join-full, join-next, join-passed, join-start}
use Rattle.elimination.proofs.step.join_rows.Goals as goal
use Rattle.elimination.proofs.step.join_rows.Goals.{then-picked+in_ok-got, else-picked}

pub loop-row-init : goal.loop-row-init
loop-row-init c =
    let a = c.args in
    join-start a.pick a.rows.now a.words.now a.count

pub returns-in_err-got : goal.returns-in_err-got
returns-in_err-got c =
    let a = c.args in
    let l = c.loop-row in
    let p = err_from_is_err_and c.from_residual.result c.from_residual.ensures.1 in
    rw (p.1, p.2)
    (join-full a.pick a.rows.now a.words.now a.count l.words l.got l.row-index l.invariant c.loop-row-test.true _ refl c.picked.result c.picked.ensures c.if-picked.true c.make_alt.new.words c.in_err-got.field-0.0
    (rw c.wide.ensures at c.in_err-got.ensures))

pub loop-row-preserved : goal.loop-row-preserved
loop-row-preserved c =
    let a = c.args in
    let l = c.loop-row in
    elim c.if-picked.branch [
      | then-picked+in_ok-got w ↦
          rw (w.words-is, w.got-is)
          (join-next a.pick a.rows.now a.words.now a.count l.words l.got l.row-index l.invariant c.loop-row-test.true _ refl c.picked.result c.picked.ensures w.if-picked.true w.make_alt.new.words w.in_ok-got.got
          (rw w.wide.ensures at w.in_ok-got.ensures))
      | else-picked w ↦
          rw (w.words-is, w.got-is)
          (join-passed a.pick a.rows.now a.words.now a.count l.words l.got l.row-index l.invariant c.loop-row-test.true _ refl c.picked.result c.picked.ensures w.if-picked.false)
    ]

pub returns : goal.returns
returns c =
    let a = c.args in
    let l = c.loop-row in
    join-end a.pick a.rows.now a.words.now a.count l.words l.got l.row-index l.invariant c.loop-row-test.false
