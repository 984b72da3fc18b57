use Rattle.trees.proofs.Scanning.{scan-none, scan-fired, scan-missed}
use Rattle.trees.proofs.columns.Columns.scan.Goals as goal
use Rattle.trees.proofs.columns.Columns.scan.Goals.{then-missed-eq0, else-missed-eq0}

pub loop-i-init : goal.loop-i-init
loop-i-init c = scan-none c.args.self.now c.args.symbol c.args.sets

pub loop-i-preserved : goal.loop-i-preserved
loop-i-preserved c =
    let args = c.args in
    let loop = c.loop-i in
    elim c.if-missed-eq0.branch [
      | then-missed-eq0 w ↦ rw w.found-is (scan-fired args.self.now args.symbol args.sets loop.i loop.found c.other.result c.other.ensures w.if-missed-eq0.true loop.invariant)
      | else-missed-eq0 w ↦ rw w.found-is (scan-missed args.self.now args.symbol args.sets loop.i loop.found c.other.result c.other.ensures w.if-missed-eq0.false loop.invariant)
    ]
