use Rattle.elimination.proofs.Replacing.{ReplaceLoop}
use Rattle.elimination.proofs.step.replace_rows.Given as goal

abbrev pub invariant-loop-row : goal.invariant-loop-row
invariant-loop-row l = ReplaceLoop l.q.number l.x.node l.rows l.fn.words l.x.count l.words l.list l.count l.row-index
