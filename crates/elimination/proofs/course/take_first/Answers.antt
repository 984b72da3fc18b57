use native.Mathlib.Omega.{arith}
use Rattle.std.proofs.lemmas.Result.{err_from_is_err_and}
use Rattle.elimination.proofs.States.{states-end, states-full, states-next, states-start}
use Rattle.elimination.proofs.course.take_first.Goals as goal

pub loop-number-init : goal.loop-number-init
loop-number-init c =
    let a = c.args in
    states-start a.k c.requires a.words.now a.staged

pub returns-in_err-staged : goal.returns-in_err-staged
returns-in_err-staged c =
    let a = c.args in
    let l = c.loop-number in
    let p = err_from_is_err_and c.from_residual.result c.from_residual.ensures.1 in
    rw (p.1, p.2) (states-full a.k c.requires a.words.now a.staged l.words l.staged l.number l.invariant c.loop-number-test.true c.take_out.new.words c.in_err-staged.field-0.0 c.in_err-staged.ensures)

pub loop-number-preserved : goal.loop-number-preserved
loop-number-preserved c =
    let a = c.args in
    let l = c.loop-number in
    states-next a.k c.requires a.words.now a.staged l.words l.staged l.number l.invariant c.loop-number-test.true c.take_out.new.words c.in_ok-staged.staged c.in_ok-staged.ensures

pub returns : goal.returns
returns c =
    let a = c.args in
    let l = c.loop-number in
    let t = c.loop-number-test.false in
    let m = l.auto.number-end in
    states-end a.k c.requires a.words.now a.staged l.words l.staged l.number l.invariant (omega arith)
