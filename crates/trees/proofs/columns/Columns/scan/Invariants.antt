use Rattle.trees.proofs.Scanning.{Sofar}
use Rattle.trees.proofs.columns.Columns.scan.Given as goal

abbrev pub invariant-loop-i : goal.invariant-loop-i
invariant-loop-i l = Sofar l.self l.symbol l.fn.sets l.i l.found
