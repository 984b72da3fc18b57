use Rattle.std.proofs.lemmas.Result.{err_from_is_err_and}
use Rattle.elimination.proofs.OneState.{loop-full, loop-node}
use Rattle.elimination.proofs.step.loop_node.Goals as goal

pub returns-in_err-a : goal.returns-in_err-a
returns-in_err-a c =
    let a = c.args in
    let p = err_from_is_err_and c.from_residual.result c.from_residual.ensures.1 in
    rw (p.1, p.2) (loop-full a.q.number a.q.below_width a.rows.now a.words.now a.count c.join_rows.new.words c.in_err-a.field-0.0 c.in_err-a.ensures)

pub returns : goal.returns
returns c =
    let a = c.args in
    loop-node a.q.number a.q.below_width a.rows.now a.words.now a.count c.join_rows.new.words c.in_ok-a.a c.in_ok-a.ensures c.make_iter.new.words c.make_iter.result c.make_iter.ensures
