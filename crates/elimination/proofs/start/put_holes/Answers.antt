use Rattle.std.proofs.lemmas.Result.{err_from_is_err_and}
use Rattle.elimination.proofs.Starting.{empty-full, empty-put, holes-full, holes-more}
use Rattle.elimination.proofs.start.put_holes.Goals as goal

pub returns-in_err-count : goal.returns-in_err-count
returns-in_err-count c =
    let a = c.args in
    let p = err_from_is_err_and c.from_residual.result c.from_residual.ensures.1 in
    rw (p.1, p.2) (empty-full a.words.now c.new_node.new.words a.n c.in_err-count.field-0.0 c.in_err-count.ensures)

pub loop-q-init : goal.loop-q-init
loop-q-init c = empty-put c.args.words.now c.new_node.new.words c.in_ok-count.field-0 c.in_ok-count.ensures

pub returns-in_err-count-2 : goal.returns-in_err-count-2
returns-in_err-count-2 c =
    let a = c.args in
    let l = c.loop-q in
    let f = c.from_residual-in_err-count-2 in
    let p = err_from_is_err_and f.result f.ensures.1 in
    rw (p.1, p.2) (holes-full a.n c.requires a.words.now l.words l.count l.q l.invariant c.loop-q-test.true c.new_node-in-loop-q.new.words c.in_err-count-2.field-0.0 c.in_err-count-2.ensures)

pub loop-q-preserved : goal.loop-q-preserved
loop-q-preserved c =
    let a = c.args in
    let l = c.loop-q in
    holes-more a.n c.requires a.words.now l.words l.count l.q l.invariant c.loop-q-test.true c.new_node-in-loop-q.new.words c.in_ok-count-2.field-0 c.in_ok-count-2.ensures
