use lib.ListN.{take}
use Rattle.automaton.specs.Answers.{held_by}
use Rattle.trees.specs.Columns.{Tabled}
use Rattle.trees.proofs.columns.Columns.of.Given as goal

abbrev pub invariant-loop-i : goal.invariant-loop-i
invariant-loop-i l = Tabled (take l.i (held_by l.a).rules) l.columns
