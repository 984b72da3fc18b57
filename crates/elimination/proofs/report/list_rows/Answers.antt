use Rattle.elimination.proofs.Promises.{list-end, list-next, list-start}
use Rattle.elimination.proofs.report.list_rows.Goals as goal

pub loop-i-init : goal.loop-i-init
loop-i-init c = list-start c.args.words.now c.args.rows.now

pub loop-i-preserved : goal.loop-i-preserved
loop-i-preserved c =
    let a = c.args in
    let l = c.loop-i in
    list-next a.words.now a.rows.now l.out l.i l.invariant c.requires c.loop-i-test.true c.list_row.result c.list_row.ensures

pub returns : goal.returns
returns c =
    let a = c.args in
    let l = c.loop-i in
    list-end a.words.now a.rows.now l.out l.i l.invariant c.loop-i-test.false
