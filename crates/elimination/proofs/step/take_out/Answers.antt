use Rattle.std.proofs.lemmas.Result.{err_from_is_err_and}
use Rattle.elimination.proofs.OneState.{out-full, taken_out}
use Rattle.elimination.proofs.step.take_out.Goals as goal

pub returns-in_err-x : goal.returns-in_err-x
returns-in_err-x c =
    let a = c.args in
    let p = err_from_is_err_and c.from_residual.result c.from_residual.ensures.1 in
    rw (p.1, p.2) (out-full a.q.number a.q.below_width a.words.now a.staged.now c.stand_in.new.words c.in_err-x.field-0.0 (rw c.rows-listed.ensures.rows at c.in_err-x.ensures))

pub returns : goal.returns
returns c =
    let a = c.args in
    taken_out a.q.number a.q.below_width a.words.now a.staged.now c.stand_in.new.words c.in_ok-x.x (rw c.rows-listed.ensures.rows at c.in_ok-x.ensures) c.replace_rows.new.words c.replace_rows.result (rw c.rows-listed.ensures.rows at c.replace_rows.ensures)
