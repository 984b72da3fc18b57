use Rattle.std.proofs.lemmas.Result.{err_from_is_err_and}
use Rattle.elimination.proofs.OneState.{joined-full, stand-full, stand-in}
use Rattle.elimination.proofs.step.stand_in.Goals as goal

pub returns-in_err-i : goal.returns-in_err-i
returns-in_err-i c =
    let a = c.args in
    let p = err_from_is_err_and c.from_residual.result c.from_residual.ensures.1 in
    rw (p.1, p.2) (stand-full a.q.number a.q.below_width a.rows.now a.words.now a.count c.loop_node.new.words c.in_err-i.field-0.0 c.in_err-i.ensures)

pub returns-in_err-b : goal.returns-in_err-b
returns-in_err-b c =
    let a = c.args in
    let p = err_from_is_err_and c.from_residual-in_err-b.result c.from_residual-in_err-b.ensures.1 in
    rw (p.1, p.2) (joined-full a.q.number a.q.below_width a.rows.now a.words.now a.count c.loop_node.new.words c.in_ok-i.i c.in_ok-i.ensures c.join_rows.new.words c.in_err-b.field-0.0 c.in_err-b.ensures)

pub returns : goal.returns
returns c =
    let a = c.args in
    stand-in a.q.number a.q.below_width a.rows.now a.words.now a.count c.loop_node.new.words c.in_ok-i.i c.in_ok-i.ensures c.join_rows.new.words c.in_ok-b.b c.in_ok-b.ensures c.make_cat.new.words c.make_cat.result c.make_cat.ensures
