use Rattle.elimination.proofs.Starting.{FinalLoop}
use Rattle.elimination.proofs.start.put_finals.Given as goal

abbrev pub invariant-loop-q : goal.invariant-loop-q
invariant-loop-q l = FinalLoop l.fn.list l.finals.0 l.list l.q
