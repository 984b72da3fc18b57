use Rattle.elimination.proofs.Promises.{ListLoop}
use Rattle.elimination.proofs.report.list_rows.Given as goal

abbrev pub invariant-loop-i : goal.invariant-loop-i
invariant-loop-i l = ListLoop l.words l.rows l.out l.i
