use Rattle.theory.specs.Stages.{holes_table}
use Rattle.elimination.specs.Inside.{HasTable}
use Rattle.elimination.proofs.start.put_holes.Given as goal

abbrev pub invariant-loop-q : goal.invariant-loop-q
invariant-loop-q l = HasTable l.fn.words (holes_table l.q) l.words l.count
