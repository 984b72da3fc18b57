use Rattle.elimination.proofs.States.{StateLoop}
use Rattle.elimination.proofs.course.take_first.Given as goal

abbrev pub invariant-loop-number : goal.invariant-loop-number
invariant-loop-number l = StateLoop l.k l.fn.words l.fn.staged l.words l.staged l.number
