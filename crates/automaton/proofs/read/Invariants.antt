use Rattle.std.proofs.Common.{length}
use Rattle.automaton.proofs.Finding.Whole.{ReadSoFar}
use Rattle.automaton.proofs.read.Given as goal

abbrev pub invariant-loop-record : goal.invariant-loop-record
invariant-loop-record l = ReadSoFar l.file l.found l.rest

abbrev pub decreases-loop-record : goal.decreases-loop-record
decreases-loop-record l = length l.rest
