use Rattle.elimination.proofs.Joining.{JoinLoop}
use Rattle.elimination.proofs.step.join_rows.Given as goal

abbrev pub invariant-loop-row : goal.invariant-loop-row
invariant-loop-row l = JoinLoop l.pick l.rows l.fn.words l.fn.count l.words l.got l.row-index
